-- A fact about a choice, from what holds in each of its cases. Assumes nothing.
use Rattle.std.proofs.Common.{◌≡◌, ℕ, Bool, true, false, eqb, refl, eqb-true}
use borrow.Author.Tests.{eqb-false}
use Rattle.std.specs.Prelude.{if◌then◌else◌}

module _ {A : Type 0} (P : A → Type 0) where
  pub if_law : {e f : A} (b : Bool) → (b ≡ true → P e) → (b ≡ false → P f) → P (if b then e else f)
  if_law true p q = p refl
  if_law false p q = q refl

  pub if_both : {e f : A} (b : Bool) → P e → P f → P (if b then e else f)
  if_both true p q = p
  if_both false p q = q

-- two numbers are equal or not
pub by_equality : (a b : ℕ) {P : Type 0} → (a ≡ b → P) → ((a ≡ b → ⊥) → P) → P
by_equality a b {P} f g = go (eqb a b) refl
  where
    go : (t : Bool) → eqb a b ≡ t → P
    go true e = f (eqb-true a b e)
    go false e = g (eqb-false a b e)
