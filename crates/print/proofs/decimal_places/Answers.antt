use Rattle.print.proofs.Places.{places_of, places_of_zero}
use Rattle.print.proofs.decimal_places.Goals as goal

pub returns-in-Some : goal.returns-in-Some
returns-in-Some c = let m = c.in-Some in places_of c.args.n m.log m.ensures.power_le m.ensures.next_power_gt

pub returns-in-None : goal.returns-in-None
returns-in-None c = places_of_zero c.args.n c.in-None.ensures.none
