use mathlib.Core.Path.{ap, subst, ◌∙◌}
use Prim.Native.Nat.{ℕ}
use Rattle.isa.specs.Inner.{packed, fields_in}
use Rattle.isa.proofs.Shapes.{Describes, describes}
use Rattle.isa.proofs.Complete.{own_entry}
use borrow.Author.Rules.{rules}
use Rattle.codec.proofs.decoder.decode.Goals as goal

pub returns : goal.returns
returns c =
    let w = c.args.w in
    let s = c in
    let k = s.kind_of-k.ensures.0 in
    let t = s.parts_of.result.1 in
    let d = subst (λ (n : ℕ). Describes n t) k (describes _ (search rules) s.parts_of.ensures.1) in
    c.pack.ensures ∙ ap (packed s.kind_of-k.result) c.fields.ensures.0 ∙ ap (λ n. packed n (fields_in t w)) k ∙ own_entry w t d
