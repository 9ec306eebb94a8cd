use Rattle.std.proofs.Common.{ℕ, ◌^◌, ◌<◌, List, ap, ◌∙◌, arith}
use Rattle.linked.specs.Inner.{shared}
use Rattle.linked.proofs.Cases.{kind_is, reads_own, follows_return, follows_jump, follows_call}
use Rattle.linked.proofs.follow.follow.Goals as goal

pub execute-requires : goal.execute-requires
execute-requires c =
    let r = c.in_default.in_default-own.rest in
    let small : c.args.lead.form < 2 ^ 64 = omega (arith, c.struct_known-1.given) in
    record { follows = c.requires; reads_state = reads_own c.args.lead.form small r.0.0.1 r.0.1 r.1 }

pub returns-in-13 : goal.returns-in-13
returns-in-13 c =
    let a = c.args in
    let small : a.lead.form < 2 ^ 64 = omega (arith, c.struct_known-1.given) in
    ap (λ (l : List ℕ). shared a.memory.now l a.cache.now) c.put.ensures ∙ follows_return a.memory.now a.states.now a.plan.limit a.plan.vectors.now a.cache.now a.core a.lead c.requires (kind_is small c.in-13.is)

pub returns-in-14 : goal.returns-in-14
returns-in-14 c =
    let a = c.args in
    let small : a.lead.form < 2 ^ 64 = omega (arith, c.struct_known-1.given) in
    ap (λ (l : List ℕ). shared a.memory.now l a.cache.now) c.put-in-14.ensures ∙ follows_jump a.memory.now a.states.now a.plan.limit a.plan.vectors.now a.cache.now a.core a.lead c.requires (kind_is small c.in-14.is)

pub returns-in-15 : goal.returns-in-15
returns-in-15 c =
    let a = c.args in
    let small : a.lead.form < 2 ^ 64 = omega (arith, c.struct_known-1.given) in
    ap (λ (l : List ℕ). shared a.memory.now l a.cache.now) c.call.ensures ∙ follows_call a.memory.now a.states.now a.plan.limit a.plan.vectors.now a.cache.now a.core a.lead c.requires (kind_is small c.in-15.is)
