-- Byte strings of less than 256 bytes, read back from what begins with them.
use Rattle.std.proofs.Common.{◌≡◌, ℕ, ◌+◌, ◌-◌, ◌%◌, ◌<◌, ◌≤◌, inl, inr, true, false, ltb, List, [], ◌∷◌, ◌++◌, length, take, drop, refl, sym, ap, ◌∙◌, arith, lt-ltb, le-ltb, append_assoc, length-append}
use Rattle.std.proofs.lemmas.List.{take_at, drop_at}
use Rattle.std.proofs.lemmas.Bool.{cases_lt}
use Rattle.osc_cbor.specs.{byte_string, head, spelling}
use Rattle.osc_context.specs.{master_salt, string_at, client_nonce, server_nonce}

-- the head of a byte string is one byte, or two from 24 on
short_head : (n : ℕ) → n < 24 → head 2 n ≡ (64 + n) ∷ []
unfolding head
short_head n h =
    let t : ltb n 24 ≡ true = lt-ltb n 24 h in
    rw t refl

long_head : (n : ℕ) → 24 ≤ n → n < 256 → head 2 n ≡ 88 ∷ n ∷ []
unfolding head
long_head n h h' =
    let t : ltb n 24 ≡ false = le-ltb n 24 h in
    let u : ltb n 256 ≡ true = lt-ltb n 256 h' in
    let m : n % 256 ≡ n = omega arith in
    rw (t, u, m) refl

-- what follows a head, taken apart
string_after_short : (n : ℕ) (after : List ℕ) → n < 24 → 0 < length after → string_at ((64 + n) ∷ after) ≡ (take n after, drop n after)
string_after_short n [] h some = absurd (omega arith)
string_after_short n (second ∷ rest) h some =
    let t : ltb (64 + n) 88 ≡ true = lt-ltb (64 + n) 88 (omega arith) in
    let e : 64 + n - 64 ≡ n = omega arith in
    rw (t, e) refl

string_after : (n : ℕ) (after : List ℕ) → n < 256 → 0 < length after → string_at (head 2 n ++ after) ≡ (take n after, drop n after)
string_after n after h some =
    elim (cases_lt n 24) [
      | inl few ↦ ap (λ front. string_at (front ++ after)) (short_head n few) ∙ string_after_short n after few some
      | inr many ↦ ap (λ front. string_at (front ++ after)) (long_head n many h)
    ]

-- a byte string and what follows it
pub string_at-spelling : (content rest : List ℕ) → length content < 256 → 0 < length rest → string_at (spelling (byte_string content) ++ rest) ≡ (content, rest)
string_at-spelling content rest h some =
    let n : ℕ = length content in
    let some' : 0 < length (content ++ rest) = omega (arith, length-append content rest) in
    ap string_at (append_assoc (head 2 n) content rest)
    ∙ string_after n (content ++ rest) h some'
    ∙ ap (λ l. (l, drop n (content ++ rest))) (take_at content rest n refl)
    ∙ ap (λ l. (content, l)) (drop_at content rest n refl)

some-spelling : (content : List ℕ) → length content < 256 → 0 < length (spelling (byte_string content))
some-spelling content h =
    let n : ℕ = length content in
    let whole : length (head 2 n ++ content) ≡ length (head 2 n) + n = length-append (head 2 n) content in
    elim (cases_lt n 24) [
      | inl few ↦ omega (arith, ap length (short_head n few))
      | inr many ↦ omega arith
    ]

pub client_nonce_of : (salt nonce1 nonce2 : List ℕ) → length salt < 256 → length nonce1 < 256 → length nonce2 < 256 → client_nonce (master_salt salt nonce1 nonce2) ≡ nonce1
unfolding client_nonce master_salt
client_nonce_of salt nonce1 nonce2 h h1 h2 =
    let second = spelling (byte_string nonce1) in
    let third = spelling (byte_string nonce2) in
    let some : 0 < length third = some-spelling nonce2 h2 in
    let some' : 0 < length (second ++ third) = omega (arith, length-append second third) in
    ap (λ l. (string_at (string_at l).1).0) (append_assoc (spelling (byte_string salt)) second third)
    ∙ ap (λ p. (string_at p.1).0) (string_at-spelling salt (second ++ third) h some')
    ∙ ap (λ p. p.0) (string_at-spelling nonce1 third h1 some)

pub server_nonce_of : (salt nonce1 nonce2 : List ℕ) → length nonce2 ≡ 8 → server_nonce (master_salt salt nonce1 nonce2) ≡ nonce2
unfolding server_nonce master_salt
server_nonce_of salt nonce1 nonce2 h =
    let before = spelling (byte_string salt) ++ spelling (byte_string nonce1) in
    let front = before ++ head 2 (length nonce2) in
    let same : before ++ (head 2 (length nonce2) ++ nonce2) ≡ front ++ nonce2 = sym (append_assoc before (head 2 (length nonce2)) nonce2) in
    ap (λ l. drop (length l - 8) l) same
    ∙ drop_at front nonce2 (length (front ++ nonce2) - 8) (omega (arith, length-append front nonce2))

pub content_of : (a b : List ℕ) → byte_string a ≡ byte_string b → a ≡ b
content_of a b e = cc
