use Rattle.std.proofs.Common.{◌∙◌}
use Rattle.bits.specs.Word.{extend}
use Rattle.isa.specs.InstructionSet.{immediate}
use Rattle.codec.proofs.decoder.extended.Goals as goal

pub returns-in-Sext : goal.returns-in-Sext
unfolding immediate extend
returns-in-Sext c = c.sign_extend.ensures ∙ rw c.in-Sext.is
