-- The message that carries a reply, written from left to right.
use Rattle.std.proofs.Common.{◌≡◌, ◌<◌, ◌≤◌, ◌^◌, ◌/◌, ◌%◌, true, false, ℕ, List, [], ◌∷◌, ◌++◌, length, Option, Some, None, refl, sym, ap, subst, ◌∙◌, append_assoc, arith}
use Rattle.std.proofs.lemmas.List.{append-nil}
use Rattle.std.specs.Prelude.{IfSome, nat_lt, if◌then◌else◌, ◌==◌}
use Rattle.osc_model.specs.declared.reply.Reply.{Reply}
use Rattle.osc_coap.specs.declared.kind.Kind.{Kind}
use Rattle.osc_coap.specs.Message.{AreOptions, HasSpelling, header}
use Rattle.osc_coap.specs.{bare, last_number, options_spelling, payload_of, payload_spelling, spelling}
use Rattle.osc_options.specs.{etag_option, format_option, reply_options, uint_bytes, with_reply}
use Rattle.osc_options.proofs.ReplyTextLaws.{options_spelling-append}

bare_spelled : (kind : Kind) (code id : ℕ) (token : List ℕ) → spelling (bare kind code id token) ≡ header kind code id (length token) ++ token
unfolding spelling options_spelling payload_spelling
bare_spelled kind code id token = append-nil _ ∙ append-nil _

in_parts : (start bare front back options payload : List ℕ) → bare ≡ start → options ≡ front ++ back → (start ++ options) ++ payload ≡ ((bare ++ front) ++ back) ++ payload
in_parts start bare front back options payload e f = rw (e, f) (ap (λ (t : List ℕ). t ++ payload) (sym (append_assoc start front back)))

pub reply_message_spelled : (kind : Kind) (id : ℕ) (token : List ℕ) (reply : Reply) → spelling (with_reply (bare kind reply.code.0 id token) reply)
    ≡ ((spelling (bare kind reply.code.0 id token) ++ options_spelling 0 (etag_option reply.etag)) ++ options_spelling (last_number 0 (etag_option reply.etag)) (format_option reply.format)) ++ payload_spelling (payload_of reply.payload)
unfolding spelling
reply_message_spelled kind id token reply =
    in_parts (header kind reply.code.0 id (length token) ++ token) (spelling (bare kind reply.code.0 id token))
    (options_spelling 0 (etag_option reply.etag)) (options_spelling (last_number 0 (etag_option reply.etag)) (format_option reply.format))
    (options_spelling 0 (reply_options reply)) (payload_spelling (payload_of reply.payload))
    (bare_spelled kind reply.code.0 id token) (options_spelling-append 0 (etag_option reply.etag) (format_option reply.format))

uint_short : (n : ℕ) → length (uint_bytes n) ≤ 2
uint_short n =
    elim (n == 0) as (λ b. length (if b then [] else if nat_lt n 256 then n ∷ [] else n / 256 ∷ n % 256 ∷ []) ≤ 2) [
      | true ↦ omega arith
      | false ↦ elim (nat_lt n 256) as (λ b. length (if b then n ∷ [] else n / 256 ∷ n % 256 ∷ []) ≤ 2) [
        | true ↦ omega arith
        | false ↦ omega arith
      ]
    ]

options_lawful : (etag : Option (List ℕ)) (format : Option ℕ) → IfSome etag (λ tag. length tag ≡ 8) → AreOptions 0 (etag_option etag ++ format_option format)
options_lawful None None eight = tt
options_lawful None (Some format) eight = (record { rises = omega arith; number = omega arith; size = omega (arith, uint_short format) }, tt)
options_lawful (Some tag) None eight = (record { rises = omega arith; number = omega arith; size = omega arith }, tt)
options_lawful (Some tag) (Some format) eight =
    (record { rises = omega arith; number = omega arith; size = omega arith }, (record { rises = omega arith; number = omega arith; size = omega (arith, uint_short format) }, tt))

payload_lawful : (payload : List ℕ) → IfSome (payload_of payload) (λ bytes. 0 < length bytes)
payload_lawful [] = tt
payload_lawful (b ∷ payload) = omega arith

pub reply_message_lawful : (kind : Kind) (id : ℕ) (token : List ℕ) (reply : Reply) → id < 2 ^ 16 → length token ≤ 8 → 0 < reply.code.0 → IfSome reply.etag (λ tag. length tag ≡ 8)
    → HasSpelling (with_reply (bare kind reply.code.0 id token) reply)
reply_message_lawful kind id token reply number short code eight = record {
  id = number;
  token = short;
  options = options_lawful reply.etag reply.format eight;
  payload = payload_lawful reply.payload;
  empty = λ zero_code. absurd (omega arith);
}
