use mathlib.Core.Path.{◌≡◌, ap, sym, ◌∙◌}
use native.Mathlib.Omega.{arith}
use Rattle.std.proofs.Common.{rules, Ok, Err}
use Rattle.card.specs.Answer.{told, answered}
use Rattle.card.proofs.Bounds.{good_says, good_bounds, bad_says}
use Rattle.job.proofs.Laws.{wrong_image, right_image, image_kept, image_laid}
use Rattle.job.proofs.read_job.Goals as goal

pub returns-then-image-ne-IMAGE : goal.returns-then-image-ne-IMAGE
returns-then-image-ne-IMAGE c =
    let a = c.args in
    let e = wrong_image a.card.now a.image.now c.if-image-ne-IMAGE.true in
    record { says = rw (c.at.ensures.0, c.at.ensures.1) (sym (ap (answered a.card.now) e)); written = sym (image_kept a.image.now e); held = tt }

pub returns-in_err-job : goal.returns-in_err-job
returns-in_err-job c =
    let a = c.args in
    let r = c.in_err-job.field-0.0 in
    let f : c.read_card.result ≡ Err r = search rules in
    let z : c.from_residual.result ≡ Err r = search rules in
    let h = sym (ap told f) ∙ c.read_card.ensures in
    let i = right_image a.card.now a.image.now c.if-image-ne-IMAGE.false in
    rw z (record { says = h ∙ sym (ap (answered a.card.now) i); written = sym (image_kept a.image.now (i ∙ bad_says a.card.now h)); held = tt })

pub lay_out-requires : goal.lay_out-requires
lay_out-requires c =
    let a = c.args in
    let f : c.read_card.result ≡ Ok c.in_ok-job.job = search rules in
    let b = good_bounds a.card.now c.in_ok-job.job (sym (ap told f) ∙ c.read_card.ensures) in
    (omega arith, omega arith, omega arith)

pub returns : goal.returns
returns c =
    let a = c.args in
    let j = c.in_ok-job.job in
    let f : c.read_card.result ≡ Ok j = search rules in
    let h = sym (ap told f) ∙ c.read_card.ensures in
    let i = right_image a.card.now a.image.now c.if-image-ne-IMAGE.false in
    record {
      says = h ∙ sym (ap (answered a.card.now) i);
      written = c.lay_out.ensures ∙ sym (image_laid a.image.now (i ∙ good_says a.card.now j h));
      held = good_bounds a.card.now j h;
    }
