-- A reply that is written is read again.
use Rattle.std.proofs.Common.{◌≡◌, ℕ, ◌<◌, ◌≤◌, true, false, ◌==◌, nat_le, List, [], ◌∷◌, ◌++◌, length, Option, Some, None, refl, sym, ap, ◌∙◌, arith, inl, inr}
use Rattle.std.specs.Prelude.{IfSome, option_map, unwrap_or}
use Rattle.std.proofs.lemmas.Bool.{cases_lt, cases_eq, lt-ltb, le-ltb, ne_eqb}
use Rattle.std.proofs.lemmas.Bool.Decides.{nat_tests}
use Rattle.osc_model.specs.declared.reply.Reply.{Reply}
use Rattle.osc_coap.specs.{is_response_code, NumberAndValue, AreOptions, HasPlaintextSpelling, payload_of}
use Rattle.osc_coap.specs.Message.{Message}
use Rattle.osc_options.specs.{inner_options, merge, outer_options, plaintext_of, protected, recognised, unrecognised_critical, uint, value, uint_bytes, etag_option, format_option, reply_options, with_reply, reply_plaintext, etag_in, reply_in}

le_test : (m n : ℕ) → m ≤ n → nat_le m n ≡ true
le_test m n le = grind (arith, nat_tests)

-- ---- a whole number

pub uint_again : (n : ℕ) → n < 65536 → uint (uint_bytes n) ≡ n
uint_again n lt =
    elim (cases_eq n 0) [
      | inl is ↦ rw is refl
      | inr positive ↦ elim (cases_lt n 256) [
        | inl low ↦ rw (ne_eqb n 0 positive, lt-ltb n 256 low) (omega arith)
        | inr wide ↦ rw (ne_eqb n 0 positive, le-ltb n 256 wide) (omega arith)
      ]
    ]

pub uint_short : (n : ℕ) → length (uint_bytes n) ≤ 2
uint_short n =
    elim (cases_eq n 0) [
      | inl is ↦ rw is (omega arith)
      | inr positive ↦ elim (cases_lt n 256) [
        | inl low ↦ rw (ne_eqb n 0 positive, lt-ltb n 256 low) (omega arith)
        | inr wide ↦ rw (ne_eqb n 0 positive, le-ltb n 256 wide) (omega arith)
      ]
    ]

payload_again : (bytes : List ℕ) → unwrap_or (payload_of bytes) [] ≡ bytes
payload_again [] = refl
payload_again (b ∷ bytes) = refl

-- ---- the options of a reply

-- none of them is critical
pub reply_accepted : (etag : Option (List ℕ)) (format : Option ℕ) → unrecognised_critical 0 (etag_option etag ++ format_option format) ≡ None
reply_accepted None None = refl
reply_accepted None (Some n) = refl
reply_accepted (Some tag) None = refl
reply_accepted (Some tag) (Some n) = refl

-- an option within its row is recognised
format_known : (before n : ℕ) → (12 == before) ≡ false → recognised before (format_option (Some n)) ≡ format_option (Some n)
format_known before n other =
    let short = uint_short n in
    rw (le_test 0 (length (uint_bytes n)) (omega arith), le_test (length (uint_bytes n)) 2 short, other) refl

etag_known : (tag : List ℕ) (format : Option ℕ) → length tag ≡ 8 → recognised 0 (etag_option (Some tag) ++ format_option format) ≡ (4, tag) ∷ recognised 4 (format_option format)
etag_known tag format is = rw is refl

pub all_known : (etag : Option (List ℕ)) (format : Option ℕ) → IfSome etag (λ tag. length tag ≡ 8) → recognised 0 (etag_option etag ++ format_option format) ≡ etag_option etag ++ format_option format
all_known None None is = refl
all_known None (Some n) is = format_known 0 n refl
all_known (Some tag) None is = etag_known tag None is
all_known (Some tag) (Some n) is = etag_known tag (Some n) is ∙ ap (λ (rest : List NumberAndValue). (4, tag) ∷ rest) (format_known 4 n refl)

-- ---- its fields

etag_again : (etag : Option (List ℕ)) (format : Option ℕ) → IfSome etag (λ tag. length tag ≡ 8) → etag_in (value 4 (etag_option etag ++ format_option format)) ≡ etag
etag_again None None is = refl
etag_again None (Some n) is = refl
etag_again (Some tag) None is = rw is refl
etag_again (Some tag) (Some n) is = rw is refl

format_again : (etag : Option (List ℕ)) (format : Option ℕ) → IfSome format (λ n. n < 65536) → option_map uint (value 12 (etag_option etag ++ format_option format)) ≡ format
format_again None None is = refl
format_again None (Some n) is = ap (λ (n : ℕ). Some n) (uint_again n is)
format_again (Some tag) None is = refl
format_again (Some tag) (Some n) is = ap (λ (n : ℕ). Some n) (uint_again n is)

reply_code : (code : ℕ) → 64 ≤ code → code < 192 → is_response_code code ≡ true
reply_code code least most = rw (le_test 64 code least, lt-ltb code 192 most) refl

abbrev made : Reply → Option (List ℕ) → Option ℕ → List ℕ → Option Reply
made reply etag format payload = Some (record { code = reply.code; etag = etag; format = format; payload = payload })

-- ---- the whole

pub reply_again : (reply : Reply) → 64 ≤ reply.code.0 → reply.code.0 < 192 → IfSome reply.etag (λ tag. length tag ≡ 8) → IfSome reply.format (λ n. n < 65536) → reply_in (reply_plaintext reply) ≡ Some reply
reply_again reply least most tag number =
    let options = reply_options reply in
    let known = all_known reply.etag reply.format tag in
    let etag = ap (λ (options : List NumberAndValue). etag_in (value 4 options)) known ∙ etag_again reply.etag reply.format tag in
    let format = ap (λ (options : List NumberAndValue). option_map uint (value 12 options)) known ∙ format_again reply.etag reply.format number in
    let payload = payload_again reply.payload in
    let read : reply_in (reply_plaintext reply) ≡ made reply (etag_in (value 4 (recognised 0 options))) (option_map uint (value 12 (recognised 0 options))) (unwrap_or (payload_of reply.payload) []) =
    rw (reply_code reply.code.0 least most, reply_accepted reply.etag reply.format) refl in
    read
    ∙ ap (λ (t : Option (List ℕ)). made reply t (option_map uint (value 12 (recognised 0 options))) (unwrap_or (payload_of reply.payload) [])) etag
    ∙ ap (λ (n : Option ℕ). made reply reply.etag n (unwrap_or (payload_of reply.payload) [])) format
    ∙ ap (made reply reply.etag reply.format) payload

-- ---- a reply in a message

-- all its options are encrypted
all_inner : (etag : Option (List ℕ)) (format : Option ℕ) → inner_options (etag_option etag ++ format_option format) ≡ etag_option etag ++ format_option format
all_inner None None = refl
all_inner None (Some n) = refl
all_inner (Some tag) None = refl
all_inner (Some tag) (Some n) = refl

pub reply_inside : (message : Message) (reply : Reply) → plaintext_of (with_reply message reply) ≡ reply_plaintext reply
reply_inside message reply = ap (λ (options : List NumberAndValue). record { code = reply.code.0; options = options; payload = payload_of reply.payload }) (all_inner reply.etag reply.format)

-- and none stays outside
none_outer : (etag : Option (List ℕ)) (format : Option ℕ) → outer_options (etag_option etag ++ format_option format) ≡ []
none_outer None None = refl
none_outer None (Some n) = refl
none_outer (Some tag) None = refl
none_outer (Some tag) (Some n) = refl

pub reply_outside : (message : Message) (reply : Reply) (code : ℕ) (bytes payload : List ℕ) → message.options ≡ []
    → protected (with_reply message reply) code bytes payload ≡ protected message code bytes payload
reply_outside message reply code bytes payload bare =
    ap (λ (options : List NumberAndValue). record message { code = code; options = merge options ((9, bytes) ∷ []); payload = payload_of payload })
    (none_outer reply.etag reply.format ∙ sym (ap outer_options bare))

options_lawful : (etag : Option (List ℕ)) (format : Option ℕ) → IfSome etag (λ tag. length tag ≡ 8) → AreOptions 0 (etag_option etag ++ format_option format)
options_lawful None None h = tt
options_lawful None (Some n) h = (record { rises = omega arith; number = omega arith; size = omega (arith, uint_short n) }, tt)
options_lawful (Some tag) None h = (record { rises = omega arith; number = omega arith; size = omega (arith, h) }, tt)
options_lawful (Some tag) (Some n) h =
    (record { rises = omega arith; number = omega arith; size = omega (arith, h) }, (record { rises = omega arith; number = omega arith; size = omega (arith, uint_short n) }, tt))

payload_lawful : (bytes : List ℕ) → IfSome (payload_of bytes) (λ b. 0 < length b)
payload_lawful [] = tt
payload_lawful (b ∷ bytes) = omega arith

pub reply_lawful : (reply : Reply) → IfSome reply.etag (λ tag. length tag ≡ 8) → HasPlaintextSpelling (reply_plaintext reply)
reply_lawful reply h = record { options = options_lawful reply.etag reply.format h; payload = payload_lawful reply.payload }
