use Rattle.std.proofs.Common.{◌+◌, length, replicate, arith}
use Rattle.osc_coap.specs.{bare}
use Rattle.osc_context.specs.{algorithm_of}
use Rattle.osc_options.specs.{reply_text}
use Rattle.osc_protect.specs.{response_value}
use Rattle.std.specs.Prelude.{None}
use Rattle.osc_protect.proofs.LengthLemmas.{least_protected, protected_length}
use Rattle.osc_protect.proofs.response.seal_text_of.Goals as goal

pub note_of_reply-note-requires : goal.note_of_reply-note-requires
note_of_reply-note-requires g c =
    let header = c.args.header in
    let size = length (reply_text c.args.reply.now) + g.A.Ciphers.TAG (algorithm_of c.args.room.name) in
    let least = least_protected c.length_of_growing.ensures.payload (bare header.kind 68 header.id header.token.now) 68 (response_value None) size in
    c.requires.room (omega (arith, least, c.requires.fits))

pub write_response_start-requires-clause-room : goal.write_response_start-requires-clause-room
write_response_start-requires-clause-room g c =
    let header = c.args.header in
    let size = length (reply_text c.args.reply.now) + g.A.Ciphers.TAG (algorithm_of c.args.room.name) in
    let whole = protected_length c.length_of_growing.ensures.payload (bare header.kind 68 header.id header.token.now) 68 (response_value None) (replicate size 0) in
    omega (arith, whole, c.requires.out)

pub seal_into-requires-clause-size : goal.seal_into-requires-clause-size
seal_into-requires-clause-size g c =
    let header = c.args.header in
    let size = length (reply_text c.args.reply.now) + g.A.Ciphers.TAG (algorithm_of c.args.room.name) in
    let least = least_protected c.length_of_growing.ensures.payload (bare header.kind 68 header.id header.token.now) 68 (response_value None) size in
    rw c.note_of_reply-note.ensures (omega (arith, least, c.requires.fits))

pub seal_into-requires-clause-room : goal.seal_into-requires-clause-room
seal_into-requires-clause-room g c =
    let header = c.args.header in
    let size = length (reply_text c.args.reply.now) + g.A.Ciphers.TAG (algorithm_of c.args.room.name) in
    let whole = protected_length c.length_of_growing.ensures.payload (bare header.kind 68 header.id header.token.now) 68 (response_value None) (replicate size 0) in
    rw c.note_of_reply-note.ensures (omega (arith, whole, c.requires.out, c.write_response_start.ensures.length, c.write_response_start.ensures.capacity))
