use native.Mathlib.Omega.{arith}
use mathlib.Core.Path.{refl}
use Rattle.print.proofs.Stores.{puts_of, copied}
use Rattle.print.proofs.Writer.put.Goals as goal

pub returns : goal.returns
returns c =
    let a = c.args in
    puts_of a.text.now refl (copied a.self.now.out.now a.text.now _ a.self.now.at _ (omega arith) c.copy_from_slice.ensures.after c.requires) refl
