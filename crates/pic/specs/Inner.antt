-- Helper of the code: what a run looks at before its first entry, so that an entry without interrupts costs no look at the lines.
use Rattle.std.specs.Prelude.{Bool, ◌&&◌, List, ◌≡◌, ℕ, ◌<◌, eqb, get_or}
use Rattle.std.specs.List.{fold, list_all, range_with_len}
use Rattle.std.specs.Int.Bits.{bit_or}
use Rattle.effect.specs.State.{picsr_at}
use Rattle.commit.specs.Commit.{word_at, core_count}

-- nothing is latched of any core
unfoldable pub none_latched : List ℕ → Bool
none_latched s = list_all (λ core. eqb (word_at s core picsr_at) 0) (range_with_len 0 (core_count s))

-- no line is high in any of the levels, and none is latched of any core: as a test, and as facts
unfoldable pub is_quiet : List ℕ → List ℕ → Bool
is_quiet s levels = eqb (fold bit_or 0 levels) 0 && none_latched s

abbrev pub NoneLatched : List ℕ → Type 0
NoneLatched s = (core : ℕ) → core < core_count s → word_at s core picsr_at ≡ 0

abbrev pub NoneHigh : List ℕ → Type 0
NoneHigh levels = (i : ℕ) → get_or levels i 0 ≡ 0
