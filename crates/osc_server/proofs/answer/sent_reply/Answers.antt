use Rattle.std.proofs.Common.{◌≡◌, ◌≤◌, List, ℕ, length, ap, arith, subst, sym, ◌∙◌}
use Rattle.std.specs.Vec.{vec_capacity}
use Rattle.osc_coap.specs.{Spells, spelling}
use Rattle.osc_coap.specs.Message.{Message}
use Rattle.osc_model.specs.Arrival.{Arrival}
use Rattle.osc_model.specs.declared.node.Peer.{Peer}
use Rattle.osc_server.specs.{reply_to}
use Rattle.osc_server.specs.Inner.Parts.{IsSentAs}
use Rattle.osc_server.proofs.Notes.{sent_once}
use Rattle.osc_server.proofs.Replies.{reply_message_short}
use Rattle.osc_server.proofs.answer.sent_reply.Goals as goal

pub write_reply_message-requires-clause-room : goal.write_reply_message-requires-clause-room
write_reply_message-requires-clause-room c =
    let same = c.header_to-header.ensures.header c.args.reply.now in
    subst (λ (m : Message). length (spelling m) ≤ vec_capacity c.into_vec-bytes.result) (sym same)
    (omega (arith, c.requires.room, c.open-sent.ensures.0, c.into_vec-bytes.ensures.room))

pub fill-requires : goal.fill-requires
fill-requires c =
    let same = c.header_to-header.ensures.header c.args.reply.now in
    let spelled = subst (λ (m : Message). Spells c.write_reply_message.new.out.items m) same c.write_reply_message.ensures in
    omega (arith, c.requires.room, c.open-sent.ensures.1, ap length spelled.whole, ap length c.from_vec.ensures)

pub returns : goal.returns
returns c =
    let reply = c.args.reply.now in
    let endpoint = c.args.endpoint.now in
    let came = c.args.came.now in
    let same = c.header_to-header.ensures.header reply in
    let token : length came.what.token ≤ 8 = subst (λ (t : List ℕ). length t ≤ 8) (ap (λ (m : Message). m.token) same) c.header_to-header.ensures.token in
    let answer = reply_to endpoint came reply in
    let spelled = subst (λ (m : Message). Spells c.write_reply_message.new.out.items m) same c.write_reply_message.ensures in
    let size : length (spelling answer) ≤ 1152 = rw (c.length_of_spelling.ensures.exact answer) (reply_message_short endpoint came reply token c.requires.short) in
    let fits : length c.write_reply_message.new.out.items ≤ 1152 = omega (arith, ap length spelled.whole, size) in
    let from : c.came.inside.from ≡ came.from = ap (λ (a : Arrival Message). a.from) c.came.view_is in
    subst (λ (peer : Peer). IsSentAs peer answer c.fill.result.0 c.fill.result.1) from
    (sent_once c.came.inside.from answer c.write_reply_message.new.out.items c.fill.result.1 c.fill.result.0 spelled fits
    (rw c.from_vec.ensures at c.fill.ensures.sent) (c.fill.ensures.noted ∙ c.from_vec.ensures))
