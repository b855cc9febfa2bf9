-- What is sent is a message that a datagram can carry.
use Rattle.std.proofs.Common.{◌≡◌, ◌∙◌, sym, ap, subst, refl, true, false, nat_lt, if◌then◌else◌, ℕ, ◌+◌, ◌^◌, ◌<◌, ◌≤◌, List, [], ◌∷◌, length, replicate, None, arith}
use Rattle.std.specs.Prelude.{IfSome}
use Rattle.std.specs.Option.{ForSome}
use Rattle.std.proofs.lemmas.List.{length-replicate}
use Rattle.osc_model.specs.declared.algorithm.Algorithm.{Algorithm}
use Rattle.osc_model.specs.declared.context.ContextName.{ContextName}
use Rattle.osc_model.specs.declared.context.Side.TheVariants as side
use Rattle.osc_model.specs.declared.reply.Reply.{Reply}
use Rattle.osc_ccm.specs.{most_tag, Sealings, Tags, IsLongerBy}
use Rattle.osc_coap.specs.{payload_of, datagram_limit, extension_length, payload_length, spelled_length, HasSpelling, NumberAndValue, spelling, plaintext_spelling}
use Rattle.osc_coap.specs.Message.{Message}
use Rattle.osc_coap.specs.Plaintext.{Plaintext}
use Rattle.osc_options.specs.{reply_plaintext, merge, outer_options, plaintext_of, protected, reply_text}
use Rattle.osc_context.specs.{algorithm_of, key_of}
use Rattle.osc_protect.specs.{aad_of, request_nonce, response_nonce, IsProtectedRequest, IsProtectedResponse, longest_message, plain_bytes, request_length, request_value, response_value}
use Rattle.osc_proxy.specs.{IsCarried}
use Rattle.osc_rounds.proofs.Asking.{in_place}

-- ---- a message with option 9 alone

pub some_payload : (bytes : List ℕ) → IfSome (payload_of bytes) (λ b. 0 < length b)
some_payload [] = tt
some_payload (b ∷ bytes) = omega arith

one_option_lawful : (m : Message) (code : ℕ) (v sealed : List ℕ) → 0 < code → m.id < 2 ^ 16 → length m.token ≤ 8 → length v ≤ 255
    → HasSpelling (in_place m code ((9, v) ∷ []) sealed)
one_option_lawful m code v sealed some id token short = record {
  id = id;
  token = token;
  options = (record { rises = omega arith; number = omega arith; size = omega (arith, short) }, tt);
  payload = some_payload sealed;
  empty = λ none. absurd (omega (arith, some, none));
}

one_option_in_place : (m : Message) (code : ℕ) (v sealed : List ℕ) → outer_options m.options ≡ [] → protected m code v sealed ≡ in_place m code ((9, v) ∷ []) sealed
one_option_in_place m code v sealed inside =
    ap (λ (outer : List NumberAndValue). in_place m code (merge outer ((9, v) ∷ [])) sealed) inside

pub protected_lawful : (m : Message) (code : ℕ) (v sealed : List ℕ) → outer_options m.options ≡ [] → 0 < code → m.id < 2 ^ 16 → length m.token ≤ 8 → length v ≤ 255
    → HasSpelling (protected m code v sealed)
protected_lawful m code v sealed inside some id token short =
    subst HasSpelling (sym (one_option_in_place m code v sealed inside)) (one_option_lawful m code v sealed some id token short)

-- ---- the length depends on that of what is sealed alone

same_payload : (a b : List ℕ) → length a ≡ length b → payload_length (payload_of a) ≡ payload_length (payload_of b)
same_payload [] [] e = refl
same_payload [] (y ∷ b) e = absurd (omega arith)
same_payload (x ∷ a) [] e = absurd (omega arith)
same_payload (x ∷ a) (y ∷ b) e = omega (arith, e)

abbrev LengthLaw : Type 0
LengthLaw = (m : Message) → length (spelling m) ≡ spelled_length m

same_length : LengthLaw → (m : Message) (code : ℕ) (v a b : List ℕ) → length a ≡ length b → length (spelling (protected m code v a)) ≡ length (spelling (protected m code v b))
same_length exact m code v a b e =
    omega (arith, exact (protected m code v a), exact (protected m code v b), same_payload a b e)

extension_small : (n : ℕ) → extension_length n ≤ 2
extension_small n =
    elim (nat_lt n 13) as (λ b. (if b then 0 else if nat_lt n 269 then 1 else 2) ≤ 2) [
      | true ↦ omega arith
      | false ↦ elim (nat_lt n 269) as (λ b. (if b then 1 else 2) ≤ 2) [ true ↦ omega arith | false ↦ omega arith ]
    ]

pub payload_most : (bytes : List ℕ) → payload_length (payload_of bytes) ≤ 1 + length bytes
payload_most [] = omega arith
payload_most (b ∷ bytes) = omega arith

-- a reply that fits a datagram
pub record IsShortReply (reply : Reply) : Type 0 where
  pub code : 0 < reply.code.0
  pub etag : ForSome reply.etag (λ tag. length tag ≤ 8)
  pub payload : length reply.payload ≤ 512

abbrev pub TextLaw : Type 0
TextLaw = (reply : Reply) → 0 < reply.code.0 → ForSome reply.etag (λ tag. length tag ≤ 8) → length reply.payload ≤ 512 → length (reply_text reply) ≤ 526

text_length : TextLaw → (m : Message) (reply : Reply) → plaintext_of m ≡ reply_plaintext reply → IsShortReply reply → length (plain_bytes m) ≤ 526
unfolding reply_text
text_length law m reply same is =
    subst (λ (p : Plaintext). length (plaintext_spelling p) ≤ 526) (sym same) (law reply is.code is.etag is.payload)

module _ (is_sealing : Sealings) (tag : Tags) (exact : LengthLaw)
    (sealed_length : (algorithm : Algorithm) → IsLongerBy (tag algorithm) (is_sealing algorithm)) where
  pub request_short : (name : ContextName) (number : ℕ) (m p : Message) → IsProtectedRequest is_sealing name number m p
      → request_length tag name number m ≤ longest_message → length (spelling p) ≤ datagram_limit
  request_short name number m p made fits =
      let v = request_value name number in
      let size = length (plain_bytes m) + tag (algorithm_of name) in
      let zeros : List ℕ = replicate size 0 in
      let long : length made.sealed ≡ length zeros = (sealed_length (algorithm_of name) (key_of name side.Client) (request_nonce name number) (aad_of name number) (plain_bytes m) made.sealed made.is_sealed) ∙ sym (length-replicate {A = ℕ} size 0) in
      subst (λ (q : Message). length (spelling q) ≤ datagram_limit) (sym made.whole)
      (omega (arith, fits, same_length exact m 2 v made.sealed zeros long))

  pub request_sendable : (name : ContextName) (number : ℕ) (m p : Message) → IsProtectedRequest is_sealing name number m p
      → outer_options m.options ≡ [] → m.id < 2 ^ 16 → length m.token ≤ 8 → length (request_value name number) ≤ 255
      → request_length tag name number m ≤ longest_message → IsCarried p
  request_sendable name number m p made inside id token short fits = record {
    lawful = subst HasSpelling (sym made.whole) (protected_lawful m 2 (request_value name number) made.sealed inside (omega arith) id token short);
    short = request_short name number m p made fits;
  }

  response_length : (m : Message) (v sealed : List ℕ) → outer_options m.options ≡ [] → length m.token ≤ 8 → length v ≤ 255
      → length (spelling (protected m 68 v sealed)) ≤ 271 + length sealed
  response_length m v sealed inside token short =
      subst (λ (q : Message). length (spelling q) ≤ 271 + length sealed) (sym (one_option_in_place m 68 v sealed inside))
      (omega (arith, exact (in_place m 68 ((9, v) ∷ []) sealed), extension_small (length v), payload_most sealed, token, short))

  pub response_sendable : TextLaw → (name : ContextName) (number : ℕ) (m p : Message) (reply : Reply)
      → IsProtectedResponse is_sealing name number None m p
      → outer_options m.options ≡ [] → m.id < 2 ^ 16 → length m.token ≤ 8 → length (response_value None) ≤ 255 → ((algorithm : Algorithm) → tag algorithm ≤ most_tag)
      → plaintext_of m ≡ reply_plaintext reply → IsShortReply reply → IsCarried p
  response_sendable text_law name number m p reply made inside id token short few plaintext is =
      let v = response_value None in
      let text : length (plain_bytes m) ≤ 526 = text_length text_law m reply plaintext is in
      let long : length made.sealed ≡ length (plain_bytes m) + tag (algorithm_of name) = sealed_length (algorithm_of name) (key_of name side.Server) (response_nonce name number None) (aad_of name number) (plain_bytes m) made.sealed made.is_sealed in
      let whole : length (spelling (protected m 68 v made.sealed)) ≤ 271 + length made.sealed = response_length m v made.sealed inside token short in
      subst IsCarried (sym made.whole) (record {
        lawful = protected_lawful m 68 v made.sealed inside (omega arith) id token short;
        short = omega (arith, text, long, whole, few (algorithm_of name));
      })
