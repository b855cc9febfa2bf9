use Rattle.std.proofs.Common.{◌≡◌, ◌≤◌, ◌+◌, ℕ, List, length, arith, ap, subst, sym, ◌∙◌}
use Rattle.std.specs.Prelude.{[], None, unwrap_or}
use Rattle.std.proofs.lemmas.Option.{IfSome_then}
use Rattle.std.specs.Vec.{vec_capacity}
use Rattle.osc_model.specs.Arrival.{Arrival}
use Rattle.osc_model.specs.declared.context.ContextName.{ContextName}
use Rattle.osc_model.specs.declared.node.Peer.{Peer}
use Rattle.osc_model.specs.declared.context.Side.TheVariants.{Server}
use Rattle.osc_coap.specs.{Spells, bare}
use Rattle.osc_coap.specs.Message.{Message}
use Rattle.osc_context.specs.{algorithm_of}
use Rattle.osc_protect.specs.{IsProtectedResponse, longest_message, note_of, plain_bytes, reply_with_header, request_nonce, response_length}
use Rattle.osc_run.specs.{reply_note}
use Rattle.osc_server.specs.{reply_to}
use Rattle.osc_server.specs.Inner.Parts.{IsSentAs, kept_answer, kept_sealed}
use Rattle.osc_server.proofs.ComesAgain.{payload_back}
use Rattle.osc_server.proofs.Replies.{reply_length_most, sealed_reply_short, text_short}
use Rattle.osc_server.proofs.Notes.{sent_once}
use Rattle.osc_server.proofs.serving.sent.Goals as goal

pub seal_reply-sealed-requires-clause-room : goal.seal_reply-sealed-requires-clause-room
seal_reply-sealed-requires-clause-room g c =
    let short = text_short c.length_of_plaintext.ensures (length c.args.reply.now.payload) c.args.reply.now
    (record { code = c.requires.short.code; etag = c.requires.short.etag; payload = omega arith }) in
    λ fits. omega (arith, short, c.requires.seal)

pub seal_reply-sealed-requires-clause-fits : goal.seal_reply-sealed-requires-clause-fits
seal_reply-sealed-requires-clause-fits g c =
    let reply = c.args.reply.now in
    let endpoint = c.args.endpoint.now in
    let came = c.args.came.now in
    let same = c.header_to-header.ensures.header reply in
    let token : length came.what.token ≤ 8 = subst (λ (t : List ℕ). length t ≤ 8) (ap (λ (m : Message). m.token) same) c.header_to-header.ensures.token in
    let plain : length (plain_bytes (reply_to endpoint came reply)) ≤ 526 = rw (c.what_is_sealed.ensures _ reply) (text_short c.length_of_plaintext.ensures 512 reply c.requires.short) in
    let size = g.A.Ciphers.TAG (algorithm_of c.args.room.seal.name) in
    let most = reply_length_most c.length_of_spelling.ensures.exact endpoint came reply size token in
    subst (λ (m : Message). response_length size None m ≤ longest_message) (sym same)
    (omega (arith, plain, most, g.met.A.Ciphers.short_tag (algorithm_of c.args.room.seal.name)))

pub seal_reply-sealed-requires-clause-out : goal.seal_reply-sealed-requires-clause-out
seal_reply-sealed-requires-clause-out g c =
    let reply = c.args.reply.now in
    let endpoint = c.args.endpoint.now in
    let came = c.args.came.now in
    let same = c.header_to-header.ensures.header reply in
    let token : length came.what.token ≤ 8 = subst (λ (t : List ℕ). length t ≤ 8) (ap (λ (m : Message). m.token) same) c.header_to-header.ensures.token in
    let plain : length (plain_bytes (reply_to endpoint came reply)) ≤ 14 + length reply.payload =
    rw (c.what_is_sealed.ensures _ reply)
    (text_short c.length_of_plaintext.ensures (length reply.payload) reply
    (record { code = c.requires.short.code; etag = c.requires.short.etag; payload = omega arith }))
    in
    let size = g.A.Ciphers.TAG (algorithm_of c.args.room.seal.name) in
    let tag = ap (λ (name : ContextName). g.A.Ciphers.TAG (algorithm_of name)) c.requires.name in
    let most = reply_length_most c.length_of_spelling.ensures.exact endpoint came reply size token in
    subst (λ (m : Message). response_length size None m ≤ vec_capacity c.into_vec.result) (sym same)
    (omega (arith, plain, most, tag, c.requires.datagram, c.open-datagram.ensures.0, c.into_vec.ensures.room))

pub fill-out-requires : goal.fill-out-requires
fill-out-requires g c =
    let reply = c.args.reply.now in
    let endpoint = c.args.endpoint.now in
    let came = c.args.came.now in
    let same = c.header_to-header.ensures.header reply in
    let token : length came.what.token ≤ 8 = subst (λ (t : List ℕ). length t ≤ 8) (ap (λ (m : Message). m.token) same) c.header_to-header.ensures.token in
    let name = c.args.room.seal.name in
    let made = c.seal_reply-sealed.ensures.protected in
    let answer = subst (λ (m : Message). IsProtectedResponse g.A.Ciphers.is_sealing name c.args.number.number None m made.0) same made.1 in
    let plain : length (plain_bytes (reply_to endpoint came reply)) ≤ 14 + length reply.payload =
    rw (c.what_is_sealed.ensures _ reply)
    (text_short c.length_of_plaintext.ensures (length reply.payload) reply
    (record { code = c.requires.short.code; etag = c.requires.short.etag; payload = omega arith }))
    in
    let size = g.met.A.Ciphers.sealed_length (algorithm_of name) _ _ _ _ _ answer.is_sealed in
    let all = sealed_reply_short c.length_of_spelling.ensures.exact endpoint came reply answer.sealed made.0 token answer.whole in
    let tag = ap (λ (name : ContextName). g.A.Ciphers.TAG (algorithm_of name)) c.requires.name in
    omega (arith, plain, size, all, tag, ap length made.2.whole, c.requires.datagram, c.open-datagram.ensures.1)

-- what the datagram carries sealed
pub kept-last-requires-clause-short : goal.kept-last-requires-clause-short
kept-last-requires-clause-short g c =
    let reply = c.args.reply.now in
    let name = c.args.room.seal.name in
    let made = c.seal_reply-sealed.ensures.protected in
    let answer = subst (λ (m : Message). IsProtectedResponse g.A.Ciphers.is_sealing name c.args.number.number None m made.0) (c.header_to-header.ensures.header reply) made.1 in
    let plain : length (plain_bytes (reply_to c.args.endpoint.now c.args.came.now reply)) ≤ 526 = rw (c.what_is_sealed.ensures _ reply) (text_short c.length_of_plaintext.ensures 512 reply c.requires.short) in
    let size = g.met.A.Ciphers.sealed_length (algorithm_of name) _ _ _ _ _ answer.is_sealed in
    let payload : c.sealed_in.result.now ≡ answer.sealed =
    c.sealed_in.ensures made.0 (subst (λ (bytes : List ℕ). Spells bytes made.0) (sym c.as_slice.ensures) made.2)
    ∙ ap (λ (m : Message). unwrap_or m.payload []) answer.whole
    ∙ payload_back answer.sealed in
    omega (arith, ap length payload, size, plain, g.met.A.Ciphers.short_tag (algorithm_of name))

pub kept-last-requires-clause-room : goal.kept-last-requires-clause-room
kept-last-requires-clause-room g c =
    let reply = c.args.reply.now in
    let name = c.args.room.seal.name in
    let made = c.seal_reply-sealed.ensures.protected in
    let answer = subst (λ (m : Message). IsProtectedResponse g.A.Ciphers.is_sealing name c.args.number.number None m made.0) (c.header_to-header.ensures.header reply) made.1 in
    let plain : length (plain_bytes (reply_to c.args.endpoint.now c.args.came.now reply)) ≤ 14 + length reply.payload =
    rw (c.what_is_sealed.ensures _ reply)
    (text_short c.length_of_plaintext.ensures (length reply.payload) reply
    (record { code = c.requires.short.code; etag = c.requires.short.etag; payload = omega arith }))
    in
    let size = g.met.A.Ciphers.sealed_length (algorithm_of name) _ _ _ _ _ answer.is_sealed in
    let payload : c.sealed_in.result.now ≡ answer.sealed =
    c.sealed_in.ensures made.0 (subst (λ (bytes : List ℕ). Spells bytes made.0) (sym c.as_slice.ensures) made.2)
    ∙ ap (λ (m : Message). unwrap_or m.payload []) answer.whole
    ∙ payload_back answer.sealed in
    let tag = ap (λ (name : ContextName). g.A.Ciphers.TAG (algorithm_of name)) c.requires.name in
    IfSome_then c.args.room.kept c.requires.kept (λ kept more. omega (arith, more, ap length payload, size, plain, tag))

pub returns : goal.returns
returns g c =
    let reply = c.args.reply.now in
    let endpoint = c.args.endpoint.now in
    let came = c.args.came.now in
    let number = c.args.number.number in
    let header = c.header_to-header.result in
    let same = c.header_to-header.ensures.header reply in
    let token : length came.what.token ≤ 8 = subst (λ (t : List ℕ). length t ≤ 8) (ap (λ (m : Message). m.token) same) c.header_to-header.ensures.token in
    let name = c.args.room.seal.name in
    let held = c.args.context.now.name in
    let made = c.seal_reply-sealed.ensures.protected in
    let answer = subst (λ (m : Message). IsProtectedResponse g.A.Ciphers.is_sealing name number None m made.0) same made.1 in
    let plain : length (plain_bytes (reply_to endpoint came reply)) ≤ 526 = rw (c.what_is_sealed.ensures _ reply) (text_short c.length_of_plaintext.ensures 512 reply c.requires.short) in
    let size = g.met.A.Ciphers.sealed_length (algorithm_of name) _ _ _ _ _ answer.is_sealed in
    let all = sealed_reply_short c.length_of_spelling.ensures.exact endpoint came reply answer.sealed made.0 token answer.whole in
    let fits : length c.seal_reply-sealed.result.datagram ≤ 1152 =
    omega (arith, plain, size, all, ap length made.2.whole, g.met.A.Ciphers.short_tag (algorithm_of name)) in
    let from : c.came.inside.from ≡ came.from = ap (λ (a : Arrival Message). a.from) c.came.view_is in
    let note : note_of name Server number (request_nonce name number) (plain_bytes (reply_with_header header reply)) ≡ reply_note held number reply =
    ap (λ (name : ContextName). note_of name Server number (request_nonce name number) (plain_bytes (reply_with_header header reply))) c.requires.name
    ∙ ap (λ (text : List ℕ). note_of held Server number (request_nonce held number) text)
    (c.what_is_sealed.ensures (bare header.kind reply.code.0 header.id header.token.now) reply) in
    let protected : IsProtectedResponse g.A.Ciphers.is_sealing held number None (reply_to endpoint came reply) made.0 =
    subst (λ (name : ContextName). IsProtectedResponse g.A.Ciphers.is_sealing name number None (reply_to endpoint came reply) made.0) c.requires.name answer in
    let payload : c.sealed_in.result.now ≡ protected.sealed =
    c.sealed_in.ensures made.0 (subst (λ (bytes : List ℕ). Spells bytes made.0) (sym c.as_slice.ensures) made.2)
    ∙ ap (λ (m : Message). unwrap_or m.payload []) protected.whole
    ∙ payload_back protected.sealed in
    record {
      sent = (
        made.0,
        protected,
        subst (λ (peer : Peer). IsSentAs peer made.0 c.fill-out.result.0 c.fill-out.result.1) from
            (sent_once c.came.inside.from made.0 c.seal_reply-sealed.result.datagram c.fill-out.result.1 c.fill-out.result.0 made.2 fits c.fill-out.ensures.sent c.fill-out.ensures.noted),
        c.kept-last.ensures ∙ (λ i. kept_answer (from i) (c.get-about.ensures.value i) (payload i) (kept_sealed c.args.room.kept)),
      );
      noted = c.seal_reply-sealed.ensures.noted ∙ note;
    }
