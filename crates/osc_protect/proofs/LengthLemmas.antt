-- How long protected messages are: only the length of the payload counts.
use Rattle.std.proofs.Common.{◌≡◌, ℕ, ◌+◌, ◌≤◌, List, [], ◌∷◌, length, None, refl, ap, ◌∙◌, sym, arith, replicate}
use Rattle.std.proofs.lemmas.List.{length-replicate}
use Rattle.osc_coap.specs.{spelling, payload_length, payload_of, with_payload}
use Rattle.osc_coap.specs.Message.{Message}
use Rattle.osc_options.specs.{protected}

-- by how much a payload makes a message longer
abbrev pub Grows : Type 0
Grows = (m : Message) (bytes : List ℕ) → m.payload ≡ None → length (spelling (with_payload m bytes)) ≡ length (spelling m) + payload_length (payload_of bytes)

payload_same : (a b : List ℕ) → length a ≡ length b → payload_length (payload_of a) ≡ payload_length (payload_of b)
payload_same [] [] e = refl
payload_same [] (b ∷ bs) e = absurd (omega (arith, e))
payload_same (a ∷ more) [] e = absurd (omega (arith, e))
payload_same (a ∷ more) (b ∷ bs) e = ap (λ n. 1 + n) e

payload_least : (a : List ℕ) → length a ≤ payload_length (payload_of a)
payload_least [] = omega arith
payload_least (a ∷ more) = omega arith

-- payloads of one length make messages of one length
pub same_length : Grows → (m : Message) (a b : List ℕ) → m.payload ≡ None → length a ≡ length b
    → length (spelling (with_payload m a)) ≡ length (spelling (with_payload m b))
same_length grows m a b none e = grows m a none ∙ ap (λ n. length (spelling m) + n) (payload_same a b e) ∙ sym (grows m b none)

pub least_length : Grows → (m : Message) (a : List ℕ) → m.payload ≡ None → length a ≤ length (spelling (with_payload m a))
least_length grows m a none =
    let whole = grows m a none in
    let least = payload_least a in
    omega arith

-- the payload of a message in whose place another is sent
pub protected_length : Grows → (m : Message) (code : ℕ) (value a : List ℕ)
    → length (spelling (protected m code value a)) ≡ length (spelling (protected m code value [])) + payload_length (payload_of a)
protected_length grows m code value a = grows (protected m code value []) a refl

pub least_protected : Grows → (m : Message) (code : ℕ) (value : List ℕ) (n : ℕ) → n ≤ length (spelling (protected m code value (replicate n 0)))
least_protected grows m code value n =
    let zeros = length-replicate {A = ℕ} n 0 in
    let least = least_length grows (protected m code value []) (replicate n 0) refl in
    omega (arith, zeros, least)
