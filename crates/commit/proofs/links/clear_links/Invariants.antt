use mathlib.Core.Path.{◌≡◌}
use lib.ListN.{length}
use Rattle.commit.specs.Commit.{clear_links}
use Rattle.commit.proofs.links.clear_links.Given as goal

abbrev pub invariant-loop-core : goal.invariant-loop-core
invariant-loop-core l = record { cleared : l.states ≡ clear_links l.core l.initial.states l.w; kept : length l.states ≡ length l.initial.states }
