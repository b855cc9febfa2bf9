use Rattle.std.proofs.Common.{◌≡◌, not, filter, subst, sym, ap, ◌∙◌, rules}
use Rattle.std.proofs.lemmas.Fn.{filter_same}
use Rattle.osc_message.specs.{is_named, acknowledged, IsSound, ArePlaced, messages, placed}
use Rattle.osc_message.proofs.Marks.{filter_messages, placed_filter, messages_placed}
use Rattle.osc_message.proofs.Sound.{sound_filter}
use Rattle.osc_message.proofs.confirmable.withdraw.Goals as goal

done : (c : goal.After-place_again) → c.place_again.new.queue.items ≡ placed c.args.peer 0 (filter (λ queued. not (is_named c.args.peer c.args.id queued.message)) c.args.queue.now.items)
done c =
    c.place_again.ensures.items
    ∙ ap (placed c.args.peer 0)
    (filter_same _ (λ queued. not (is_named c.args.peer c.args.id queued.message)) _ (λ x b f r. search rules) _ _ c.retain.ensures.filtered)

left : (c : goal.After-place_again) → messages c.place_again.new.queue.items ≡ acknowledged c.args.peer c.args.id (messages c.args.queue.now.items)
left c =
    ap messages (done c)
    ∙ messages_placed c.args.peer 0 (filter (λ queued. not (is_named c.args.peer c.args.id queued.message)) c.args.queue.now.items)
    ∙ filter_messages (λ message. not (is_named c.args.peer c.args.id message)) c.args.queue.now.items

pub returns-clause-items : goal.returns-clause-items
returns-clause-items c = left c

pub returns-clause-sound : goal.returns-clause-sound
returns-clause-sound c = λ pace whole. record {
  sound = subst (IsSound pace) (sym (left c)) (sound_filter (λ message. not (is_named c.args.peer c.args.id message)) pace (messages c.args.queue.now.items) whole.sound);
  placed = subst ArePlaced (sym (done c)) (placed_filter c.args.peer c.args.id c.args.queue.now.items whole.placed);
}
