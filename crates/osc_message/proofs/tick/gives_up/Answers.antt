use Rattle.std.proofs.Common.{subst, ◌∙◌, arith}
use Rattle.osc_message.specs.{IsBounded, messages}
use Rattle.osc_message.specs.declared.queued.Queued.{Queued}
use Rattle.osc_message.proofs.Marks.{bounded_at_place}
use Rattle.osc_message.proofs.Over.{any_end, any_given_up, over}
use Rattle.osc_message.proofs.tick.gives_up.Goals as goal

pub is_given_up_named-found-requires : goal.is_given_up_named-found-requires
is_given_up_named-found-requires c =
    subst (λ (q : Queued). IsBounded q.message) c.index-all-index.is
    (bounded_at_place c.args.all.now c.loop-index.index c.index-all-index.result (omega arith) c.index-all-index.is c.requires)

pub returns : goal.returns
returns c = λ pace.
    let p = c.args.peer in
    let all = c.args.all.now in
    any_end (over c.args.now p c.args.id) _ c.loop-index.index all (omega arith) c.loop-index.invariant.any
    ∙ any_given_up pace c.args.now p c.args.id (messages all)
