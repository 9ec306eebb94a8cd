-- The whole outputs that document 01, "The run card", prints. Assumes nothing.
use mathlib.Core.Path.{◌≡◌, refl}
use mathlib.Core.List.{List}
use Prim.Native.Nat.{ℕ}
use lib.ListN.{set, replicate}
use Rattle.text.specs.Ascii.{ascii}
use Rattle.print.specs.Digits.{digits, seek, least_from, decimal_places, decimal, hexadecimal}
use Rattle.effect.specs.State.{state_words, pc_at, delay_at, sr_at, mode_at}
use Rattle.report.specs.Result.{count_lines, core_line, register_line, register_lines, core_text, core_texts, result_text, refusal_text}

-- after the six steps
state : List ℕ
state = set (set (set (set (set (set (replicate state_words 0) 3 5) 4 10) pc_at 12) delay_at 1) sr_at 32769) mode_at 3

example : result_text (record { executed = 6; raised = 0; reused = 2 }) state
    ≡ ascii "executed=6\nraised=0\nreused=2\ncore=0 mode=3 pc=0000000c delay=1 sr=00008001\nr3=00000005\nr4=0000000a\nend\n"
unfolding state result_text count_lines core_texts core_text core_line register_lines register_line decimal decimal_places least_from seek hexadecimal digits
example = refl

refused : refusal_text 9 3 ≡ ascii "refused=9 line=3\n"
unfolding refusal_text decimal decimal_places least_from seek digits
refused = refl
