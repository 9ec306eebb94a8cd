-- For the contracts of the functions that read a card. A place in the card stands for the lines from it on; the reader's moves are what it has reached after
-- the header and after the rest. That they come to what the card says is a law (`proofs/Whole.antt`).
use Rattle.std.specs.Prelude.{ℕ, ◌+◌, ◌/◌, ◌≤◌, ◌<◌, ◌≡◌, List, [], ◌∷◌, length, drop, get_or, set, replicate, Result, Ok, Err, eqb, leb, if◌then◌else◌}
use Rattle.text.specs.Ascii.{ascii}
use Rattle.text.specs.Numbers.{decimal, hexadecimal}
use Rattle.text.specs.Lines.{lines}
use Rattle.text.specs.Inner.{line_end}
use Rattle.card.specs.Card.{value, fault, limited, status, schedule, Step, step, stop, first, Verdict, good, refused, Left, onward, word_lines, no_line_left, form_fault, max_card, max_cores, min_memory, max_memory, max_steps, max_word}
use Rattle.card.specs.Card as paper
use Rattle.card.specs.Answer.{refusal, header_lines, before_schedule}
use Rattle.card.specs.declared.Cause.{Cause}
use Rattle.card.specs.declared.Refused.{Refused}
use Rattle.card.specs.declared.value.Limits.{Limits}
use Rattle.card.specs.declared.value.Rule.{Rule}
use Rattle.card.specs.declared.value.Rule.TheVariants.{Decimal, Hexadecimal, Status, Digits}
use Rattle.card.specs.declared.table.Meaning.{Meaning}
use Rattle.card.specs.declared.table.Meaning.TheVariants.{Fixed, Cores, Memory}
use Rattle.card.specs.declared.table.Row.{Row}
use Rattle.card.specs.declared.Job.{Job}
use Rattle.card.specs.declared.LineRead.{LineRead}
use Rattle.card.specs.declared.Progress.{Progress}

-- ---- values

-- how many numbers a text says
abbrev pub counted : paper.Field (List ℕ) → paper.Field ℕ
counted (value s) = value (length s)
counted (fault f) = fault f

-- what a text means by a rule
abbrev pub text_means : Rule → List ℕ → paper.Field ℕ
text_means (Decimal l) t = limited l.low l.high l.multiple (decimal t)
text_means (Hexadecimal l) t = limited l.low l.high l.multiple (hexadecimal t)
text_means Status t = status t
text_means (Digits cores) t = counted (schedule cores t)

-- a number is divided by m
abbrev pub Sensible : Rule → Type 0
Sensible (Decimal l) = 0 < l.multiple
Sensible (Hexadecimal l) = 0 < l.multiple
Sensible Status = Unit
Sensible (Digits cores) = Unit

abbrev pub field_in : Result ℕ Cause → paper.Field ℕ
field_in (Ok v) = value v
field_in (Err c) = fault (refusal c)

-- ---- places

-- a place in the card stands for the lines from it on
abbrev pub step_in : List ℕ → Result (ℕ × ℕ) Cause → Step ℕ
step_in card (Ok p) = step p.0 (lines (drop p.1 card))
step_in card (Err c) = stop (refusal c)

-- the next line stands after the line feed of the one at a place
abbrev pub Ahead : List ℕ → ℕ → Result (ℕ × ℕ) Cause → Type 0
Ahead card at (Ok p) = (p.1 ≡ line_end card at + 1) × (p.1 ≤ length card)
Ahead card at (Err c) = Unit

abbrev pub left : List ℕ → ℕ → ℕ → Left
left card at n = record { next = n; rest = lines (drop at card) }

-- ---- the header's table

-- the places of two rows; the schedule's is before_schedule
abbrev pub cores_row : ℕ
cores_row = 0

abbrev pub memory_row : ℕ
memory_row = 1

-- a number's limits
abbrev pub limits : ℕ → ℕ → ℕ → Limits
limits low high multiple = record { low = low; high = high; multiple = multiple }

-- a line: its key and the meaning of what follows
pub record HeaderLine : Type 0 where
  pub key : List ℕ
  pub meaning : Meaning

-- the lines in their order
abbrev pub header : List HeaderLine
header =
    record { key = ascii "cores="; meaning = Fixed (Decimal (limits 1 max_cores 1)) }
    ∷ record { key = ascii "memory="; meaning = Fixed (Decimal (limits min_memory max_memory 4)) }
    ∷ record { key = ascii "entry="; meaning = Fixed (Hexadecimal (limits 0 max_word 4)) }
    ∷ record { key = ascii "sr="; meaning = Fixed Status }
    ∷ record { key = ascii "steps="; meaning = Fixed (Decimal (limits 0 max_steps 1)) }
    ∷ record { key = ascii "schedule="; meaning = Cores }
    ∷ record { key = ascii "words="; meaning = Memory }
    ∷ []

-- past its end
abbrev pub no_row : HeaderLine
no_row = record { key = []; meaning = Fixed (Decimal (limits 0 0 0)) }

-- a row of the code's table is a line
abbrev pub Same : Row → HeaderLine → Type 0
Same row l = (row.key.now ≡ l.key) × (row.meaning ≡ l.meaning)

-- the rule of a line's text, where the lines above say so many cores and so much memory
abbrev pub rule_of : Meaning → ℕ → ℕ → Rule
rule_of (Fixed rule) cores memory = rule
rule_of Cores cores memory = Digits cores
rule_of Memory cores memory = Decimal (limits 0 (memory / 4) 1)

-- ---- the reader's moves

-- what is reached, with a refusal's number
abbrev pub standing : Result Progress Refused → Verdict Progress
standing (Ok p) = good p
standing (Err r) = refused (refusal r.cause) r.line

-- a line of the header that is not read yet
abbrev pub unread : LineRead
unread = record { value = 0; at = 0 }

-- the job of a header's lines
abbrev pub job_of : List LineRead → Job
job_of ls = record {
  cores = (get_or ls cores_row unread).value;
  memory = (get_or ls memory_row unread).value;
  entry = (get_or ls 2 unread).value;
  sr = (get_or ls 3 unread).value;
  steps = (get_or ls 4 unread).value;
  schedule = (get_or ls before_schedule unread).at + length (ascii "schedule=");
  digits = (get_or ls before_schedule unread).value;
  words = (get_or ls 6 unread).value;
  image = 0;
}

-- before the header is read
abbrev pub no_job : Job
no_job = record { cores = 0; memory = 0; entry = 0; sr = 0; steps = 0; schedule = 0; digits = 0; words = 0; image = 0 }

-- a card that is not too long is read from its line 1 on
abbrev pub start_of : List ℕ → Verdict Progress
start_of card = if leb (length card) max_card then good (record { at = 0; line = 1; job = no_job }) else refused form_fault 0

-- after i lines of the header, ls: the place of the next one, and their job
abbrev pub after_rows : ℕ → ℕ → List LineRead → Progress
after_rows at i ls = record { at = at; line = i + 1; job = job_of ls }

-- the lines of these rows, the first of them after i others and at a place: row i's value and its line's place are put at i among ls
unfoldable pub rows_from : List ℕ → List HeaderLine → ℕ → ℕ → List LineRead → Verdict Progress
rows_from card [] at i ls = good (after_rows at i ls)
rows_from card (row ∷ rows) at i ls =
    onward (i + 1) (first row.key (text_means (rule_of row.meaning (get_or ls cores_row unread).value (get_or ls memory_row unread).value)) (lines (drop at card)))
    (λ v left. rows_from card rows (line_end card at + 1) (i + 1) (set ls i (record { value = v; at = at })))

abbrev pub header_from : List ℕ → ℕ → Verdict Progress
header_from card at = rows_from card header at 0 (replicate header_lines unread)

-- the header stands at line 1 and nowhere else
unfoldable pub header_at : List ℕ → Progress → Verdict Progress
header_at card p = if eqb p.line 1 then header_from card p.at else good p

-- the job, if nothing is left over
abbrev pub close : Job → Left → Verdict Job
close j left = no_line_left left.rest left.next (good j)

-- the w lines of a job, after the header
unfoldable pub word_lines_of : List ℕ → Job → Verdict Job
word_lines_of card j = word_lines j.words (left card j.image (header_lines + 1)) (λ ws. close j)

-- a job with the place of its first w line
abbrev pub put_image : ℕ → Job → Job
put_image at j = record {
  cores = j.cores;
  memory = j.memory;
  entry = j.entry;
  sr = j.sr;
  steps = j.steps;
  schedule = j.schedule;
  digits = j.digits;
  words = j.words;
  image = at;
}

-- the lines after the header; if the header was not read to its end, the line reached is at fault
unfoldable pub last_lines : List ℕ → Progress → Verdict Job
last_lines card p =
    if leb (length card) max_card then
    if eqb p.line (header_lines + 1) then word_lines_of card (put_image p.at p.job) else refused form_fault p.line
    else refused form_fault 0
