-- How long a post is, whatever is drawn for it.
use Rattle.std.proofs.Common.{◌≡◌, ◌∙◌, ap, subst, ℕ, ◌+◌, ◌<◌, ◌≤◌, ◌^◌, ◌↔◌, Bool, true, false, List, [], ◌∷◌, ◌++◌, length, Option, Some, None, refl, arith}
use Rattle.std.specs.Bool.{IsFalse, IsTrue}
use Rattle.std.proofs.lemmas.Bool.{lt-ltb, le-ltb}
use Rattle.std.proofs.lemmas.List.{length-append}
use Rattle.osc_cbor.specs.{byte_string, no_pairs, pair, unsigned, head, pairs_spelling, spelling as item_spelling}
use Rattle.osc_coap.specs.{spelling}
use Rattle.osc_coap.specs.Message.{Message}
use Rattle.osc_authz.specs.Begun.{Begun}
use Rattle.osc_authz.specs.{post_item}
use Rattle.osc_authz.specs.declared.granted.ClientDesk.{ClientDesk}
use Rattle.osc_protect.specs.{longest_message}
use Rattle.osc_client.specs.{OfEachPost, post_with, HostAndPort, through}
use Rattle.osc_client.proofs.Through.{LengthLaw}

-- ---- heads (RFC 8949 section 3)

pub head_of_one : (major n : ℕ) → n < 24 → length (head major n) ≡ 1
unfolding head
head_of_one major n few = rw (lt-ltb n 24 few) refl

pub head_of_two : (n : ℕ) → 24 ≤ n → n < 256 → length (head 2 n) ≡ 2
unfolding head
head_of_two n le few = rw (le-ltb n 24 le, lt-ltb n (2 ^ 8) few) refl

pub head_of_three : (n : ℕ) → 256 ≤ n → n < 65536 → length (head 2 n) ≡ 3
unfolding head
head_of_three n le few = rw (le-ltb n 24 (omega (arith, le)), le-ltb n (2 ^ 8) le, lt-ltb n (2 ^ 16) few) refl

-- ---- the body

-- what follows the token
after_token : (nonce1 : List ℕ) (id : ℕ) → length nonce1 ≡ 8
    → length (pairs_spelling (pair (unsigned 40) (byte_string nonce1) (pair (unsigned 43) (byte_string (id ∷ [])) no_pairs))) ≡ 15
unfolding head
after_token (a ∷ b ∷ c ∷ d ∷ e ∷ f ∷ g ∷ h ∷ []) id size = refl
after_token _ id size = absurd (omega arith)

body_length : (token nonce1 : List ℕ) (id : ℕ) → length nonce1 ≡ 8
    → length (item_spelling (post_item token nonce1 (id ∷ []))) ≡ 17 + length (head 2 (length token)) + length token
body_length token nonce1 id size =
    let rest = pair (unsigned 40) (byte_string nonce1) (pair (unsigned 43) (byte_string (id ∷ [])) no_pairs) in
    omega (
      arith,
      length-append (head 5 3) (pairs_spelling (pair (unsigned 1) (byte_string token) rest)),
      head_of_one 5 3 (omega arith),
      length-append (item_spelling (unsigned 1) ++ item_spelling (byte_string token)) (pairs_spelling rest),
      length-append (item_spelling (unsigned 1)) (item_spelling (byte_string token)),
      head_of_one 0 1 (omega arith),
      length-append (head 2 (length token)) token,
      after_token nonce1 id size,
    )

-- ---- the message

-- without a payload
abbrev pub around : Option HostAndPort → ℕ → List ℕ → ℕ
around origin id token = length (spelling (through origin (post_with id token [])))

module _ (exact : LengthLaw) where
  with_body : (origin : Option HostAndPort) (id other : ℕ) (token same body : List ℕ) → length token ≡ length same → 0 < length body
      → length (spelling (through origin (post_with id token body))) ≡ around origin other same + 1 + length body
  with_body origin id other token same [] is some = absurd (omega (arith, some))
  with_body None id other token same (b ∷ bytes) is some = omega (arith, is, exact (post_with id token (b ∷ bytes)), exact (post_with other same []))
  with_body (Some origin) id other token same (b ∷ bytes) is some =
      omega (arith, is, exact (through (Some origin) (post_with id token (b ∷ bytes))), exact (through (Some origin) (post_with other same [])))

  -- what is true of the one length is so of each post's
  pub of_each : (Is : ℕ → Type 0) (desk : ClientDesk) (origin : Option HostAndPort) (id : ℕ) (token : List ℕ) → length token ≡ 8
      → Is (around origin id token + 18 + length (head 2 (length desk.token)) + length desk.token) → OfEachPost Is desk origin
  of_each Is desk origin id token size is = λ begun own drawn nonce_size drawn_size.
      let body = item_spelling (post_item desk.token begun.nonce1 (begun.recipient_id ∷ [])) in
      let long : length body ≡ 17 + length (head 2 (length desk.token)) + length desk.token = body_length desk.token begun.nonce1 begun.recipient_id nonce_size in
      let whole = with_body origin own id drawn token body (omega (arith, size, drawn_size)) (omega (arith, long)) in
      subst Is (omega (arith, whole, long)) is

-- and so of the length that is counted with these bytes
pub as_long : (Is : ℕ → Type 0) (desk : ClientDesk) (origin : Option HostAndPort) (id : ℕ) (token : List ℕ) (post : Message) (bytes : List ℕ) (size count : ℕ)
    → post ≡ through origin (post_with id token []) → bytes ≡ spelling post → size ≡ length (head 2 count) → count ≡ length desk.token
    → Is (length bytes + 18 + size + count) → Is (around origin id token + 18 + length (head 2 (length desk.token)) + length desk.token)
as_long Is desk origin id token post bytes size count is spelled sized counted holds =
    let same : size ≡ length (head 2 (length desk.token)) = sized ∙ ap (λ (n : ℕ). length (head 2 n)) counted in
    subst Is (omega (arith, ap (λ (b : List ℕ). length b) spelled, ap (λ (m : Message). length (spelling m)) is, same, counted)) holds

-- ---- one or the other

abbrev Fits : ℕ → Type 0
Fits size = size ≤ longest_message

abbrev IsLonger : ℕ → Type 0
IsLonger size = longest_message < size

-- of one post, with zeros for what is drawn
not_both : (desk : ClientDesk) (origin : Option HostAndPort) → OfEachPost Fits desk origin → OfEachPost IsLonger desk origin → ⊥
not_both desk origin fits longer =
    let zeros : List ℕ = 0 ∷ 0 ∷ 0 ∷ 0 ∷ 0 ∷ 0 ∷ 0 ∷ 0 ∷ [] in
    let begun : Begun = record { nonce1 = zeros; recipient_id = 0 } in
    omega (arith, fits begun 0 zeros refl refl, longer begun 0 zeros refl refl)

pub both_ways : (desk : ClientDesk) (origin : Option HostAndPort) (told : Bool)
    → (IsTrue told → OfEachPost Fits desk origin) → (IsFalse told → OfEachPost IsLonger desk origin)
    → (IsTrue told ↔ OfEachPost Fits desk origin) × (IsFalse told ↔ OfEachPost IsLonger desk origin)
both_ways desk origin true fits longer = ((fits, λ it. refl), (longer, λ it. absurd (not_both desk origin (fits refl) it)))
both_ways desk origin false fits longer = ((fits, λ it. absurd (not_both desk origin it (longer refl))), (longer, λ it. refl))
