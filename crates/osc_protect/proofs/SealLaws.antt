-- What is sealed from a request or a reply is what is sealed of the message that carries it.
use Rattle.std.proofs.Common.{◌≡◌, ℕ, ◌+◌, ◌<◌, ◌≤◌, List, [], ◌∷◌, ◌++◌, length, arith, replicate, None, refl, sym, ap, subst, ◌∙◌}
use Rattle.osc_model.specs.declared.context.ContextName.{ContextName}
use Rattle.osc_model.specs.declared.reply.Reply.{Reply}
use Rattle.osc_model.specs.declared.request.Request.{Request}
use Rattle.osc_coap.specs.{bare, with_payload, payload_of, payload_spelling, NumberAndValue, AreOptions, HasSpelling, Spells, spelling, plaintext_spelling}
use Rattle.osc_coap.specs.Message.{Message}
use Rattle.osc_options.specs.{reply_plaintext, request_plaintext, with_reply, AreInOrder, plaintext_of, protected, unprotected, reply_text}
use Rattle.osc_context.specs.{algorithm_of}
use Rattle.osc_ccm.specs.{Sealings, Tags}
use Rattle.osc_protect.specs.Inner.Outside.{IsSealedOutside, outer_response}
use Rattle.osc_protect.specs.{IsDraft, IsProtectedResponse, length_of_request, longest_message, plain_bytes, reply_with_header, request_length, request_value, request_with, response_length, response_with}
use Rattle.osc_protect.specs.declared.header.Header.{Header}
use Rattle.osc_protect.specs.declared.request.Draft.{Draft}

order : (before : ℕ) (options : List NumberAndValue) → AreOptions before options → AreInOrder before options
order before [] p = tt
order before (option ∷ options) p = (p.0.rises, order option.0 options p.1)

-- ---- a request

-- a request with these outside
abbrev pub whole : Message → Request → Message
whole outside request = unprotected outside (request_plaintext request)

abbrev pub text_of : Request → List ℕ
text_of request = plaintext_spelling (request_plaintext request)

module _ (inside_law : (outside : Message) (request : Request) → AreInOrder 0 outside.options → plaintext_of (whole outside request) ≡ request_plaintext request)
    (outside_law : (outside : Message) (request : Request) (code : ℕ) (value payload : List ℕ) → AreInOrder 0 outside.options → protected (whole outside request) code value payload ≡ protected outside code value payload) where
  pub request_text : (outside : Message) (request : Request) → AreOptions 0 outside.options → text_of request ≡ plain_bytes (whole outside request)
  request_text outside request p = sym (ap plaintext_spelling (inside_law outside request (order 0 outside.options p)))

  pub request_size : (tag : Tags) (name : ContextName) (number : ℕ) (outside : Message) (request : Request) → AreOptions 0 outside.options
      → length_of_request (length (text_of request) + tag (algorithm_of name)) name number outside ≡ request_length tag name number (whole outside request)
  request_size tag name number outside request p =
      ap (λ (text : List ℕ). length_of_request (length text + tag (algorithm_of name)) name number outside) (request_text outside request p)
      ∙ sym (ap (λ (m : Message). length (spelling m))
      (outside_law outside request 2 (request_value name number) (replicate (length (plain_bytes (whole outside request)) + tag (algorithm_of name)) 0) (order 0 outside.options p)))

  pub drafted : (tag : Tags) (name : ContextName) (number : ℕ) (outside : Message) (request : Request) (draft : Draft) → AreOptions 0 outside.options
      → draft.message ≡ request_with name number outside [] → plaintext_spelling draft.plaintext ≡ text_of request → request_length tag name number (whole outside request) ≤ longest_message
      → IsDraft tag name number (whole outside request) draft
  drafted tag name number outside request draft p out text fits = record {
    outside = out ∙ sym (outside_law outside request 2 (request_value name number) [] (order 0 outside.options p));
    inside = text ∙ request_text outside request p;
    fits = fits;
  }

-- ---- a reply

module _ (plaintext_law : (message : Message) (reply : Reply) → plaintext_of (with_reply message reply) ≡ reply_plaintext reply)
    (outside_law : (message : Message) (reply : Reply) (code : ℕ) (value payload : List ℕ) → message.options ≡ [] → protected (with_reply message reply) code value payload ≡ protected message code value payload) where
  pub reply_text_is : (header : Header) (reply : Reply) → reply_text reply ≡ plain_bytes (reply_with_header header reply)
  unfolding reply_text
  reply_text_is header reply = sym (ap plaintext_spelling (plaintext_law (bare header.kind reply.code.0 header.id header.token.now) reply))

  outer_is : (header : Header) (reply : Reply) (sealed : List ℕ) → outer_response header sealed ≡ response_with None (reply_with_header header reply) sealed
  outer_is header reply sealed = sym (outside_law (bare header.kind reply.code.0 header.id header.token.now) reply 68 _ sealed refl)

  pub reply_size : (tag : ℕ) (header : Header) (reply : Reply)
      → length (spelling (outer_response header (replicate (length (reply_text reply) + tag) 0))) ≡ response_length tag None (reply_with_header header reply)
  reply_size tag header reply =
      ap (λ (text : List ℕ). length (spelling (outer_response header (replicate (length text + tag) 0)))) (reply_text_is header reply)
      ∙ ap (λ (m : Message). length (spelling m)) (outer_is header reply (replicate (length (plain_bytes (reply_with_header header reply)) + tag) 0))

  pub reply_sealed : (growing : (m : Message) (bytes : List ℕ) → HasSpelling m → 0 < m.code → HasSpelling (with_payload m bytes))
      → (spelled : (m : Message) (bytes : List ℕ) → m.payload ≡ None → spelling (with_payload m bytes) ≡ spelling m ++ payload_spelling (payload_of bytes))
      → (is_sealing : Sealings) (name : ContextName) (number : ℕ) (header : Header) (reply : Reply) (bytes : List ℕ)
      → IsSealedOutside is_sealing name number (reply_text reply) header bytes
      → (answer : Message) × IsProtectedResponse is_sealing name number None (reply_with_header header reply) answer × Spells bytes answer
  reply_sealed growing spelled is_sealing name number header reply bytes made =
      let at_text : IsSealedOutside is_sealing name number (plain_bytes (reply_with_header header reply)) header bytes =
      subst (λ (text : List ℕ). IsSealedOutside is_sealing name number text header bytes) (reply_text_is header reply) made in
      let start : Message = outer_response header [] in (
        outer_response header at_text.sealed,
        record { sealed = at_text.sealed; is_sealed = at_text.is_sealed; whole = outer_is header reply at_text.sealed },
        record {
          lawful = growing start at_text.sealed at_text.begins.lawful (omega arith);
          whole = at_text.whole ∙ ap (λ (t : List ℕ). t ++ payload_spelling (payload_of at_text.sealed)) at_text.begins.whole ∙ sym (spelled start at_text.sealed refl);
        },
      )
