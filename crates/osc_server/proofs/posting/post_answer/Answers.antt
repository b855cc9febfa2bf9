use Rattle.std.proofs.Common.{arith, subst, sym, ◌≤◌, length}
use Rattle.osc_coap.specs.Message.{Message}
use Rattle.osc_model.specs.Arrival.{Arrival}
use Rattle.osc_server.specs.Inner.Parts.{FitsAResource}
use Rattle.osc_server.specs.{post_reply}
use Rattle.osc_server.proofs.Replies.{is_short, posted_reply, post_message_short}
use Rattle.osc_server.proofs.posting.post_answer.Goals as goal

pub sent_reply-requires-clause-short : goal.sent_reply-requires-clause-short
sent_reply-requires-clause-short c =
    let short : length (post_reply c.args.answer).payload ≤ 16 = subst (λ reply. length reply.payload ≤ 16) c.post_reply-reply.ensures.reply c.post_reply-reply.ensures.short in
    subst FitsAResource (sym c.post_reply-reply.ensures.reply) (is_short 16 _ (omega arith) (posted_reply c.args.answer short))

pub sent_reply-requires-clause-room : goal.sent_reply-requires-clause-room
sent_reply-requires-clause-room c =
    let token = subst (λ (a : Arrival Message). length a.what.token ≤ 8) c.came.view_is c.token-token.ensures.lawful.token in
    let short : length (post_reply c.args.answer).payload ≤ 16 = subst (λ reply. length reply.payload ≤ 16) c.post_reply-reply.ensures.reply c.post_reply-reply.ensures.short in
    rw (c.requires.room, c.post_reply-reply.ensures.reply, c.length_of_spelling.ensures.exact)
    (post_message_short c.args.endpoint.now c.args.came.now c.args.answer token short)
