use Rattle.std.proofs.Common.{◌≡◌, ◌^◌, ◌≤◌, ap, ◌∙◌, nat_abs, arith}
use lib.Signed.{quot_z, nat_abs-le}
use mir.Syntax.{w32}
use mir.Val.{to_z, of_z}
use Rattle.bits.specs.Word.{signed, word}
use Rattle.arith.proofs.Signed.{cast_signed, cast_back, cast_again, cast_word, word_lt}
use Rattle.product.specs.Product.{quotient}
use Rattle.product.proofs.Signs.{mag_quot}
use Rattle.product.proofs.div.Goals as goal

pub returns : goal.returns
unfolding quotient
returns c =
    let a = c.args.a in
    let b = c.args.b in
    let f = c.ranges in
    let x = cast_back a _ f.a.fits c.cast_signed.ensures in
    let y = cast_back b _ f.b.fits c.cast_signed-2.ensures in
    let q = quot_z (signed 32 a) (signed 32 b) in
    let l = mag_quot (signed 32 a) (signed 32 b) in
    let h : nat_abs (signed 32 a) ≤ 2 ^ 31 = nat_abs-le (signed 32 a) (rw (c.cast_signed.ensures ∙ cast_signed a f.a.fits) at c.cast_signed.type_inv) in
    let d : c.wrapping_div-q.result ≡ to_z w32 (of_z w32 q) = rw (x, y) at c.wrapping_div-q.ensures in
    c.cast_unsigned.ensures ∙ cast_again (word q) _ (word_lt q) (d ∙ ap (to_z w32) (cast_word q (omega (arith, l, h))))
