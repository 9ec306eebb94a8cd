use mathlib.Core.Path.{sym}
use lib.Seq.{set_out}
use Rattle.decode_cache.proofs.put_entry.Goals as goal

pub returns-else-k-cache : goal.returns-else-k-cache
returns-else-k-cache c = sym (set_out _ _ _ c.if-k-cache.false)
