use Prim.Native.Nat.{ℕ}
use mathlib.Core.Path.{◌≡◌, ap, sym, ◌∙◌}
use mathlib.Core.List.{◌++◌}
use native.Mathlib.Omega.{arith}
use lib.ListN.{drop, replicate, length-replicate}
use lib.Seq.{length-take-le}
use Rattle.card.specs.Answer.{words_at}
use Rattle.job.specs.Job.{filled}
use Rattle.job.proofs.Laws.{filled_image}
use Rattle.job.proofs.lay_out.Goals as goal

pub returns : goal.returns
returns c =
    let a = c.args in
    let n = a.job.memory in
    let image = a.image.now in
    let ws = words_at a.card.now a.job in
    let l = length-replicate {A = ℕ} n 0 in
    let z : c.fill.new.self ≡ replicate n 0 = c.fill.ensures.after (λ _ e. e) ∙ ap (λ k. replicate k 0) (length-take-le n image (omega arith)) in
    c.fill-2.ensures
    ∙ ap (λ m. filled (m ++ drop n image) 0 ws) z
    ∙ ap (λ k. filled (replicate n 0 ++ drop k image) 0 ws) (sym l)
    ∙ filled_image image (replicate n 0) ws (omega arith) (omega arith)
