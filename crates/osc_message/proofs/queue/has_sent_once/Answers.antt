use Rattle.std.proofs.Common.{◌&&◌, sym, ◌∙◌, rules, tests}
use Rattle.std.proofs.lemmas.Iterator.{YieldsList-from_slice}
use Rattle.std.proofs.lemmas.Iterator.Search.{any_from_yields_List}
use Rattle.osc_message.specs.{is_named, was_sent_once}
use Rattle.osc_message.proofs.Marks.{any_messages}
use Rattle.osc_message.proofs.queue.has_sent_once.Goals as goal

pub returns : goal.returns
returns c =
    any_from_yields_List (λ queued. is_named c.args.peer c.args.id queued.message && was_sent_once queued.message.sent) _ _ c.any.result c.any.ensures.ran (YieldsList-from_slice c.args.all.now c.iter.ensures.rest) (λ x b q k. search (rules, tests))
    ∙ sym (any_messages (λ message. is_named c.args.peer c.args.id message && was_sent_once message.sent) c.args.all.now)
