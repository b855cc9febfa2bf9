use Rattle.std.proofs.Common.{◌≡◌, ◌≤◌, List, ℕ, subst, sym}
use Rattle.std.specs.Vec.{vec_capacity}
use Rattle.osc_model.specs.declared.context.Side.TheVariants.{Server}
use Rattle.osc_context.specs.{algorithm_of}
use Rattle.osc_protect.specs.{longest_message, note_of, request_nonce}
use Rattle.osc_protect.proofs.SealLaws.{reply_sealed, reply_size, reply_text_is}
use Rattle.osc_protect.proofs.response.seal_reply.Goals as goal

pub seal_text_of-requires-clause-fits : goal.seal_text_of-requires-clause-fits
seal_text_of-requires-clause-fits g c =
    let size = reply_size c.a_written_reply.ensures.plaintext c.a_written_reply.ensures.outside (g.A.Ciphers.TAG (algorithm_of c.args.room.name)) c.args.header c.args.reply.now in
    subst (λ (n : ℕ). n ≤ longest_message) (sym size) c.requires.fits

pub seal_text_of-requires-clause-out : goal.seal_text_of-requires-clause-out
seal_text_of-requires-clause-out g c =
    let size = reply_size c.a_written_reply.ensures.plaintext c.a_written_reply.ensures.outside (g.A.Ciphers.TAG (algorithm_of c.args.room.name)) c.args.header c.args.reply.now in
    subst (λ (n : ℕ). n ≤ vec_capacity c.args.out) (sym size) c.requires.out

pub returns : goal.returns
returns g c =
    let plaintext = c.a_written_reply.ensures.plaintext in
    let outside = c.a_written_reply.ensures.outside in
    let header = c.args.header in
    let reply = c.args.reply.now in
    let name = c.args.room.name in
    let number = c.args.number.number in
    let made = c.seal_text_of.ensures in
    record {
      protected = reply_sealed plaintext outside c.growing.ensures.payload c.spelling_of_growing.ensures.payload g.A.Ciphers.is_sealing name number header reply c.seal_text_of.result.datagram made.protected;
      noted = subst (λ (text : List ℕ). c.seal_text_of.result.note ≡ note_of name Server number (request_nonce name number) text) (reply_text_is plaintext outside header reply) made.noted;
    }
