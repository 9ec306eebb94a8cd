use Rattle.std.proofs.Common.{◌≡◌, ℕ, ◌+◌, ◌-◌, ◌%◌, ◌^◌, ◌<◌, ◌≤◌, ap₂, ◌∙◌, arith, pow_pos, sym, ap}
use native.Mathlib.Nat.{mod-le}
use Rattle.bits.proofs.Extend.{moved}
use Rattle.bits.proofs.sign_extend.Goals as goal

-- what wraps down by h wraps back up by h
up_again : (m h : ℕ) → m < 2 ^ 32 → h ≤ 2 ^ 32 → ((m + (2 ^ 32 - h)) % 2 ^ 32 + h) % 2 ^ 32 ≡ m
up_again m h a b = omega arith

pub nonzero_rem-moved : goal.nonzero_rem-moved
nonzero_rem-moved c = rw c.power.ensures (pow_pos c.args.k)

pub returns : goal.returns
returns c =
    let a = c.args in
    let h = c.power-half.result in
    let n = (a.x + h) % 2 ^ 32 in
    let m = n % c.power.result in
    let l = mod-le n c.power.result in
    moved a.k a.x (omega arith) (omega arith) ((m + (2 ^ 32 - h)) % 2 ^ 32) (omega arith)
    (ap (λ t. ((m + (2 ^ 32 - h)) % 2 ^ 32 + t) % 2 ^ 32) (sym c.power-half.ensures)
    ∙ up_again m h (omega (arith, l)) (omega arith)
    ∙ ap₂ (λ t p. (a.x + t) % 2 ^ 32 % p) c.power-half.ensures c.power.ensures)
