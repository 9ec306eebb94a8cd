-- What holds of every line of the table of kinds holds of every instruction: the one walk through the table. Assumes nothing.
use mathlib.Core.Bool.{Bool, true, false}
use mathlib.Core.List.{List}
use mathlib.Core.Path.{◌≡◌}
use Prim.Native.Nat.{ℕ}
use native.Mathlib.Omega.{arith}
use lib.Dec.{eqb, ltb}
use lib.ListN.{length}
use borrow.Author.Tests.{eqb-true}
use Rattle.bits.proofs.Cases.{if_law, if_both}
use Rattle.isa.specs.Register.{Register}
use Rattle.isa.specs.Groups.{first_nop_movhi, first_control, first_load, first_add_immediate, first_immediate, first_compare_immediate, first_store, first_arithmetic, first_logic, first_compare, first_cache, first_product, IsBranch}
use Rattle.arith.specs.declared.Flagged.{Flagged}
use Rattle.product.specs.declared.Accumulator.{Accumulator}
use Rattle.memory.specs.declared.Width.{Width}
use Rattle.memory.specs.declared.Width.TheVariants.{Byte, Half, Word}
use Rattle.effect.specs.declared.types.Inputs.{Inputs}
use Rattle.effect.specs.Board.{Board}
use Rattle.effect.specs.declared.types.Effect.{Effect}
use Rattle.action.specs.Operations.{writes, nothing, sets_flag, nop, illegal, trap, syscall, result_or_raises, divides, accumulates, reads_accumulator, jump, relative, branch, register_jump, returns, load, load_linked, store, store_conditional, touch, sets_special_register}
use Rattle.semantics.specs.Meaning.{branches, nop_movhi, control, loads, add_immediates, immediates, stores, arithmetic, logic, caches, products, meaning}

-- P holds of every effect that a line of the table may be; J is what a jump or branch by its immediate needs
pub record Lines (P : Effect → Type 0) (J : Type 0) (board : Board) (mem : List ℕ) (x : Inputs) : Type 0 where
  pub of_writes : (v : ℕ) → P (writes x v)
  pub of_nothing : P (nothing x)
  pub of_flag : (t : Bool) → P (sets_flag x t)
  pub of_nop : P (nop x)
  pub of_illegal : P (illegal x)
  pub of_trap : P (trap x)
  pub of_syscall : P (syscall x)
  pub of_result : (f : Flagged) → P (result_or_raises x f)
  pub of_divides : (q : ℕ) → P (divides x q)
  pub of_accumulates : (m : Accumulator) → P (accumulates x m)
  pub of_reads_accumulator : P (reads_accumulator x)
  pub of_jump : J → (place v : ℕ) → Register place → P (jump x place v (relative x))
  pub of_branch : J → (taken : Bool) → P (branch x taken)
  pub of_register_jump : (place v : ℕ) → Register place → P (register_jump x place v)
  pub of_return : P (returns x)
  pub of_load : (n : ℕ) (sign : Bool) → P (load x mem n sign)
  pub of_load_linked : P (load_linked x mem)
  pub of_store : (w : Width) → P (store board.limit x (length mem) w)
  pub of_store_conditional : P (store_conditional board.limit x (length mem))
  pub of_touch : P (touch x (length mem))
  pub of_special : (n v : ℕ) → P (sets_special_register x n v)

module _ (P : Effect → Type 0) (J : Type 0) (board : Board) (mem : List ℕ) (x : Inputs) (l : Lines P J board mem x) where
  branches_have : (k : ℕ) → (IsBranch k → J) → P (branches k x)
  unfolding branches
  branches_have k j =
      if_law P (eqb k 2) (λ e. let h : k ≡ 2 = eqb-true k 2 e in l.of_jump (j (omega arith, omega arith)) 0 0 (omega arith)) (λ _.
      if_law P (eqb k 3) (λ e. let h : k ≡ 3 = eqb-true k 3 e in l.of_jump (j (omega arith, omega arith)) 9 _ (omega arith)) (λ _.
      if_law P (eqb k 4) (λ e. let h : k ≡ 4 = eqb-true k 4 e in l.of_branch (j (omega arith, omega arith)) _) (λ _.
      if_law P (eqb k 5) (λ e. let h : k ≡ 5 = eqb-true k 5 e in l.of_branch (j (omega arith, omega arith)) _) (λ _.
      l.of_illegal))))

  nop_movhi_have : (k : ℕ) → P (nop_movhi k x)
  unfolding nop_movhi
  nop_movhi_have k =
      if_both P (eqb k 6) l.of_nop (
      if_both P (eqb k 7) (l.of_writes _) l.of_illegal)

  control_have : (k : ℕ) → P (control k x)
  unfolding control
  control_have k =
      if_both P (eqb k 8) l.of_syscall (
      if_both P (eqb k 9) l.of_trap (
      if_both P (eqb k 10) l.of_nothing (
      if_both P (eqb k 11) l.of_nothing (
      if_both P (eqb k 12) l.of_nothing (
      if_both P (eqb k 13) l.of_return (
      if_both P (eqb k 14) (l.of_register_jump 0 0 (omega arith)) (
      if_both P (eqb k 15) (l.of_register_jump 9 _ (omega arith)) l.of_illegal)))))))

  loads_have : (k : ℕ) → P (loads mem k x)
  unfolding loads
  loads_have k =
      if_both P (eqb k 16) l.of_load_linked (
      if_both P (eqb k 17) (l.of_load 4 false) (
      if_both P (eqb k 18) (l.of_load 4 true) (
      if_both P (eqb k 19) (l.of_load 1 false) (
      if_both P (eqb k 20) (l.of_load 1 true) (
      if_both P (eqb k 21) (l.of_load 2 false) (
      if_both P (eqb k 22) (l.of_load 2 true) l.of_illegal))))))

  add_immediates_have : (k : ℕ) → P (add_immediates k x)
  unfolding add_immediates
  add_immediates_have k =
      if_both P (eqb k 23) (l.of_result _) (
      if_both P (eqb k 24) (l.of_result _) l.of_illegal)

  immediates_have : (k : ℕ) → P (immediates board.cores k x)
  unfolding immediates
  immediates_have k =
      if_both P (eqb k 25) (l.of_writes _) (
      if_both P (eqb k 26) (l.of_writes _) (
      if_both P (eqb k 27) (l.of_writes _) (
      if_both P (eqb k 28) (l.of_writes _) (
      if_both P (eqb k 29) (l.of_writes _) (
      if_both P (eqb k 30) (l.of_writes _) (
      if_both P (eqb k 31) (l.of_writes _) (
      if_both P (eqb k 32) (l.of_writes _) l.of_illegal)))))))

  stores_have : (k : ℕ) → P (stores board.limit (length mem) k x)
  unfolding stores
  stores_have k =
      if_both P (eqb k 43) (l.of_special _ _) (
      if_both P (eqb k 44) l.of_store_conditional (
      if_both P (eqb k 45) (l.of_store Word) (
      if_both P (eqb k 46) (l.of_store Byte) (
      if_both P (eqb k 47) (l.of_store Half) l.of_illegal))))

  arithmetic_have : (k : ℕ) → P (arithmetic k x)
  unfolding arithmetic
  arithmetic_have k =
      if_both P (eqb k 48) (l.of_result _) (
      if_both P (eqb k 49) (l.of_result _) (
      if_both P (eqb k 50) (l.of_result _) l.of_illegal))

  logic_have : (k : ℕ) → P (logic k x)
  unfolding logic
  logic_have k =
      if_both P (eqb k 51) (l.of_writes _) (
      if_both P (eqb k 52) (l.of_writes _) (
      if_both P (eqb k 53) (l.of_writes _) (
      if_both P (eqb k 54) (l.of_writes _) (
      if_both P (eqb k 55) (l.of_writes _) (
      if_both P (eqb k 56) (l.of_writes _) (
      if_both P (eqb k 57) (l.of_writes _) (
      if_both P (eqb k 58) (l.of_writes _) (
      if_both P (eqb k 59) (l.of_writes _) (
      if_both P (eqb k 60) (l.of_writes _) (
      if_both P (eqb k 61) (l.of_writes _) (
      if_both P (eqb k 62) (l.of_writes _) (
      if_both P (eqb k 63) (l.of_writes _) (
      if_both P (eqb k 64) (l.of_writes _) (
      if_both P (eqb k 65) (l.of_writes _) (
      if_both P (eqb k 66) (l.of_writes _) l.of_illegal)))))))))))))))

  caches_have : (k : ℕ) → P (caches (length mem) k x)
  unfolding caches
  caches_have k =
      if_both P (eqb k 77) l.of_touch (
      if_both P (eqb k 78) l.of_touch (
      if_both P (eqb k 79) l.of_touch l.of_illegal))

  products_have : (k : ℕ) → P (products k x)
  unfolding products
  products_have k =
      if_both P (eqb k 80) (l.of_result _) (
      if_both P (eqb k 81) (l.of_result _) (
      if_both P (eqb k 82) (l.of_result _) (
      if_both P (eqb k 83) (l.of_divides _) (
      if_both P (eqb k 84) (l.of_divides _) (
      if_both P (eqb k 85) (l.of_accumulates _) (
      if_both P (eqb k 86) (l.of_accumulates _) (
      if_both P (eqb k 87) (l.of_accumulates _) (
      if_both P (eqb k 88) l.of_reads_accumulator l.of_illegal))))))))

  pub meaning_has : (k : ℕ) → (IsBranch k → J) → P (meaning board mem k x)
  unfolding meaning
  meaning_has k j =
      if_both P (ltb k first_nop_movhi) (branches_have k j) (
      if_both P (ltb k first_control) (nop_movhi_have k) (
      if_both P (ltb k first_load) (control_have k) (
      if_both P (ltb k first_add_immediate) (loads_have k) (
      if_both P (ltb k first_immediate) (add_immediates_have k) (
      if_both P (ltb k first_compare_immediate) (immediates_have k) (
      if_both P (ltb k first_store) (l.of_flag _) (
      if_both P (ltb k first_arithmetic) (stores_have k) (
      if_both P (ltb k first_logic) (arithmetic_have k) (
      if_both P (ltb k first_compare) (logic_have k) (
      if_both P (ltb k first_cache) (l.of_flag _) (
      if_both P (ltb k first_product) (caches_have k) (
      products_have k))))))))))))
