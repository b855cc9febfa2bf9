use Rattle.std.proofs.Common.{◌≡◌, ◌+◌, ◌∷◌, [], ap, ◌∙◌, sym, subst, arith}
use Rattle.std.proofs.lemmas.List.{map-append}
use Rattle.osc_message.specs.Pace.{Pace}
use Rattle.osc_message.specs.{IsSound, goes_at_once, with_open, ArePlaced, messages, outstanding, timeout_of, waiting}
use Rattle.osc_message.proofs.Marks.{placed_push}
use Rattle.osc_message.proofs.Sound.{sound_push}
use Rattle.osc_message.proofs.queue.push.Goals as goal

added : (c : goal.After-push_reserved) (pace : Pace) → c.args.goes ≡ goes_at_once pace c.args.datagram.to (messages c.args.sending.now.items)
    → messages c.push_reserved.new.self.items ≡ with_open pace c.args.now c.args.datagram.to c.args.id (timeout_of c.args.draw.now) c.args.datagram.bytes (messages c.args.sending.now.items)
added c pace goes = cc (ap messages c.push_reserved.ensures.items, map-append (λ q. q.message) c.args.sending.now.items (_ ∷ []), c.first_sent.ensures, c.initial_timeout.ensures.value, goes)

pub returns-clause-items : goal.returns-clause-items
returns-clause-items c = added c

pub returns-clause-sound : goal.returns-clause-sound
returns-clause-sound c = λ pace goes taken short whole. record {
  sound = subst (IsSound pace) (sym (added c pace goes)) (sound_push pace c.args.now c.args.datagram.to c.args.id (timeout_of c.args.draw.now) c.args.datagram.bytes (messages c.args.sending.now.items) (omega arith) short taken whole.sound);
  placed = subst ArePlaced (sym c.push_reserved.ensures.items) (placed_push c.args.sending.now.items _ whole.placed (c.count_open-place.ensures ∙ ap (λ q. outstanding c.args.datagram.to (messages q) + waiting c.args.datagram.to (messages q)) c.deref.ensures.value));
}
