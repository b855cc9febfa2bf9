-- A payload that is written over bytes that are zero.
use Rattle.std.proofs.Common.{◌≡◌, ℕ, ◌+◌, ◌-◌, ◌≤◌, List, [], ◌∷◌, ◌++◌, length, take, replicate, refl, sym, ap, ◌∙◌, append_assoc, arith}
use Rattle.std.proofs.Math.Seq.{take-append_seam}
use Rattle.std.proofs.lemmas.List.{append-nil, length-append, length-replicate}
use Rattle.osc_coap.specs.{payload_spelling, payload_of, payload_length}
use Rattle.osc_coap.proofs.LengthLaws.{length-payload_spelling}

-- a payload has no fewer bytes than its own
payload_length_least : (bytes : List ℕ) → length bytes ≤ payload_length (payload_of bytes)
payload_length_least [] = omega arith
payload_length_least (b ∷ bytes) = omega arith

-- so has what is before it
pub length-before_payload : (bytes payload : List ℕ) → length bytes + length payload ≤ length (bytes ++ payload_spelling (payload_of payload))
length-before_payload bytes payload =
    omega (arith, length-append bytes (payload_spelling (payload_of payload)), length-payload_spelling (payload_of payload), payload_length_least payload)

-- the same of bytes that are zero
pub length-before_zeros : (bytes : List ℕ) (size : ℕ) → length bytes + size ≤ length (bytes ++ payload_spelling (payload_of (replicate size 0)))
length-before_zeros bytes size =
    omega (arith, length-before_payload bytes (replicate size 0), length-replicate {A = ℕ} size 0)

-- the marker is before the payload
marked : (bytes : List ℕ) (b : ℕ) (payload : List ℕ) → bytes ++ payload_spelling (payload_of (b ∷ payload)) ≡ (bytes ++ 255 ∷ []) ++ (b ∷ payload)
unfolding payload_spelling
marked bytes b payload = sym (append_assoc bytes (255 ∷ []) (b ∷ payload))

-- what is before the last elements
front : (xs ys : List ℕ) (size : ℕ) → length ys ≡ size → take (length (xs ++ ys) - size) (xs ++ ys) ≡ xs
front xs ys size e =
    let at : length (xs ++ ys) - size ≡ length xs = omega (arith, length-append xs ys) in
    ap (λ (n : ℕ). take n (xs ++ ys)) at ∙ take-append_seam xs ys

-- as many bytes as a payload has, written over it
written_over : (bytes payload written : List ℕ) → length written ≡ length payload
    → take (length (bytes ++ payload_spelling (payload_of payload)) - length payload) (bytes ++ payload_spelling (payload_of payload)) ++ written ≡ bytes ++ payload_spelling (payload_of written)
unfolding payload_spelling
written_over bytes [] [] e = append-nil _ ∙ front bytes [] 0 refl ∙ sym (append-nil bytes)
written_over bytes [] (w ∷ ws) e = absurd (omega arith)
written_over bytes (b ∷ bs) [] e = absurd (omega arith)
written_over bytes (b ∷ bs) (w ∷ ws) e =
    rw (marked bytes b bs, marked bytes w ws) (ap (λ (t : List ℕ). t ++ (w ∷ ws)) (front (bytes ++ 255 ∷ []) (b ∷ bs) (length (b ∷ bs)) refl))

-- the same of bytes that are zero
pub written_last : (bytes : List ℕ) (size : ℕ) (written : List ℕ) → length written ≡ size
    → take (length (bytes ++ payload_spelling (payload_of (replicate size 0))) - size) (bytes ++ payload_spelling (payload_of (replicate size 0))) ++ written ≡ bytes ++ payload_spelling (payload_of written)
written_last bytes size written e =
    let size_is : size ≡ length (replicate {A = ℕ} size 0) = sym (length-replicate {A = ℕ} size 0) in
    let all = bytes ++ payload_spelling (payload_of (replicate size 0)) in
    ap (λ (n : ℕ). take (length all - n) all ++ written) size_is ∙ written_over bytes (replicate size 0) written (e ∙ size_is)
