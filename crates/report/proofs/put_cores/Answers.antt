use Prim.Native.Nat.{◌+◌}
use mathlib.Core.List.{[]}
use mathlib.Core.Path.{◌≡◌, ap, ◌∙◌}
use lib.ListN.{drop, get_or, drop_of_length-le}
use native.Mathlib.Omega.{arith}
use Rattle.print.proofs.Stores.{rest_all, rest_put, rest_room, rest_none}
use Rattle.report.specs.Result.{core_text, core_texts, cores as cores_of}
use Rattle.report.proofs.Lines.{whole_texts, whole_cores, next_core, no_core}
use Rattle.report.proofs.put_cores.Goals as goal

pub loop-core-init : goal.loop-core-init
loop-core-init c =
    let v = c.args.states.now in
    let n = cores_of v in
    let e : whole_texts 0 c.as_chunks.result.0.now ≡ core_texts 0 n v = ap (whole_texts 0) c.as_chunks.ensures.front ∙ whole_cores 0 n v in
    rw e (rest_all c.args.w.now (core_texts 0 n v))

pub put_core-requires : goal.put_core-requires
put_core-requires c =
    let l = c.loop-core in
    let v = c.as_chunks.result.0.now in
    rest_room (core_text l.core (get_or v l.core [])) (whole_texts (l.core + 1) (drop (l.core + 1) v)) l.invariant (next_core v l.core c.loop-core-test.true)
    c.requires

pub loop-core-preserved : goal.loop-core-preserved
loop-core-preserved c =
    let l = c.loop-core in
    let v = c.as_chunks.result.0.now in
    rest_put (whole_texts (l.core + 1) (drop (l.core + 1) v)) l.invariant (next_core v l.core c.loop-core-test.true) c.put_core.ensures

pub returns : goal.returns
returns c =
    let l = c.loop-core in
    let v = c.as_chunks.result.0.now in
    rest_none l.invariant (no_core l.core (drop l.core v) (drop_of_length-le v (omega arith)))
