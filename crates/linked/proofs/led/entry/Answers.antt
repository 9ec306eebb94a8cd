use Rattle.std.proofs.Common.{sym, ap, ◌∙◌, arith}
use borrow.Author.Tests.{ne_eqb}
use Rattle.effect.specs.declared.types.Flow.{Flow}
use Rattle.std.specs.Option.{is_some}
use Rattle.refusal.specs.Lent.{board_of}
use Rattle.linked.specs.Inner.{unscheduled}
use Rattle.linked.proofs.Entry.{core_0, entry_own, entry_found, entry_leads, entry_runnable, entry_shared}
use Rattle.linked.proofs.led.entry.Goals as goal

pub returns-then-core-ne0 : goal.returns-then-core-ne0
returns-then-core-ne0 c =
    let a = c.args in
    entry_own a.memory.now a.states.now a.core a.lines a.plan.limit a.plan.vectors.now a.cache.now c.requires c.run.ensures (rw (ne_eqb a.core 0 c.if-core-ne0.true))

pub of_core-before-requires : goal.of_core-before-requires
of_core-before-requires c = let a = c.args in core_0 a.memory.now a.states.now a.core a.lines a.plan.limit a.plan.vectors.now a.cache.now c.requires

pub returns-then-not-was_shared : goal.returns-then-not-was_shared
returns-then-not-was_shared c =
    let a = c.args in
    entry_own a.memory.now a.states.now a.core a.lines a.plan.limit a.plan.vectors.now a.cache.now c.requires c.run-counts.ensures (sym c.was_shared.ensures ∙ c.if-not-was_shared.true)

pub unwrap-requires : goal.unwrap-requires
unwrap-requires c =
    let a = c.args in
    let shared = sym c.was_shared.ensures ∙ c.if-not-was_shared.false in
    let found = c.peek-form.ensures (board_of (unscheduled a.memory.now a.states.now a.plan.limit a.plan.vectors.now)) in
    ap is_some (entry_found a.memory.now a.states.now a.core a.lines a.plan.limit a.plan.vectors.now a.cache.now c.requires c.run-counts.ensures shared (ap (λ (f : Flow). f.pc) c.of_core-before.ensures) found)

pub of_core-requires : goal.of_core-requires
of_core-requires c = let a = c.args in omega (arith, core_0 a.memory.now a.states.now a.core a.lines a.plan.limit a.plan.vectors.now a.cache.now c.requires, c.run-counts.auto.states)

pub followers-requires : goal.followers-requires
followers-requires c =
    let a = c.args in
    let run = c.run-counts in
    let shared = sym c.was_shared.ensures ∙ c.if-not-was_shared.false in
    let before = c.of_core-before.ensures in
    let found = c.peek-form.ensures (board_of (unscheduled a.memory.now a.states.now a.plan.limit a.plan.vectors.now)) in
    let form = sym c.unwrap.ensures ∙ entry_found a.memory.now a.states.now a.core a.lines a.plan.limit a.plan.vectors.now a.cache.now c.requires run.ensures shared (ap (λ (f : Flow). f.pc) before) found in
    let after = c.of_core.ensures in
    record {
      runnable = entry_runnable a.memory.now a.states.now a.core a.lines a.plan.limit a.plan.vectors.now a.cache.now c.requires run.ensures shared run.auto.states form before after run.auto.memory run.auto.cache;
      leads = entry_leads a.memory.now a.states.now a.core a.lines a.plan.limit a.plan.vectors.now a.cache.now c.requires run.ensures shared run.auto.states form before after;
    }

pub returns : goal.returns
returns c =
    let a = c.args in
    let run = c.run-counts in
    let shared = sym c.was_shared.ensures ∙ c.if-not-was_shared.false in
    let before = c.of_core-before.ensures in
    let found = c.peek-form.ensures (board_of (unscheduled a.memory.now a.states.now a.plan.limit a.plan.vectors.now)) in
    let form = sym c.unwrap.ensures ∙ entry_found a.memory.now a.states.now a.core a.lines a.plan.limit a.plan.vectors.now a.cache.now c.requires run.ensures shared (ap (λ (f : Flow). f.pc) before) found in
    entry_shared a.memory.now a.states.now a.core a.lines a.plan.limit a.plan.vectors.now a.cache.now c.requires run.ensures shared run.auto.states form before c.of_core.ensures c.followers.ensures
