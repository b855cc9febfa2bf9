-- Bytes are the sealing of at most one text. The proofs are here and not in `proofs/`, since the
-- impls of `Aead` cite them.
use Rattle.std.specs.Prelude.{◌≡◌, ℕ, ◌-◌, ◌≤◌, List, [], ◌∷◌, length, take, min, bit_xor, refl}
use Rattle.std.specs.Int.Bits.{xor_self, xor_assoc, xor_zero_r}
use Rattle.std.proofs.Common.{sym, ap, ◌∙◌, arith}
use Rattle.std.proofs.lemmas.List.{take_at, length-append, length-take}
use Rattle.osc_ccm.specs.Ccm.{xor, block_count, key_stream, ciphered, tag_of, IsSealing}

pub length-xor : (xs ys : List ℕ) → length (xor xs ys) ≡ min (length xs) (length ys)
length-xor [] ys = omega arith
length-xor (x ∷ xs) [] = omega arith
length-xor (x ∷ xs) (y ∷ ys) = let h = length-xor xs ys in omega arith

-- what was xored twice with the same list
pub xor-xor : (xs ks : List ℕ) → length xs ≤ length ks → xor (xor xs ks) ks ≡ xs
xor-xor [] ks h = refl
xor-xor (x ∷ xs) [] h = absurd (omega arith)
xor-xor (x ∷ xs) (k ∷ ks) h =
    ap (λ y. y ∷ xor (xor xs ks) ks) (xor_assoc x k k ∙ ap (bit_xor x) (xor_self k) ∙ xor_zero_r x)
    ∙ ap (λ l. x ∷ l) (xor-xor xs ks (omega arith))

-- a text that was encrypted whole comes back
pub ciphered-ciphered : (key nonce text : List ℕ) → length (ciphered key nonce text) ≡ length text → ciphered key nonce (ciphered key nonce text) ≡ text
unfolding ciphered
ciphered-ciphered key nonce text whole =
    let ks = key_stream key nonce (block_count (length text)) in
    let long : length text ≤ length ks = omega (arith, length-xor text ks) in
    ap (λ n. xor (xor text ks) (key_stream key nonce (block_count n))) whole ∙ xor-xor text ks long

-- the tag is no longer than its size
pub length-tag_of : (key : List ℕ) (size : ℕ) (nonce aad text : List ℕ) → length (tag_of key size nonce aad text) ≤ size
unfolding tag_of
length-tag_of key size nonce aad text = omega (arith, length-take {A = ℕ} size)

length-ciphered_most : (key nonce text : List ℕ) → length (ciphered key nonce text) ≤ length text
unfolding ciphered
length-ciphered_most key nonce text = omega (arith, length-xor text (key_stream key nonce (block_count (length text))))

-- the text that the bytes are the sealing of
pub text_of_sealing : (key : List ℕ) (size : ℕ) (nonce aad text sealed : List ℕ) → IsSealing key size nonce aad text sealed → text ≡ ciphered key nonce (take (length sealed - size) sealed)
text_of_sealing key size nonce aad text sealed known =
    let front = ciphered key nonce text in
    let tag = tag_of key size nonce aad text in
    let whole : length front ≡ length text = omega (arith, known.is_whole, ap length known.is_sealing, length-append front tag, length-tag_of key size nonce aad text, length-ciphered_most key nonce text) in
    sym (ciphered-ciphered key nonce text whole)
    ∙ ap (ciphered key nonce) (sym (ap (take (length sealed - size)) known.is_sealing ∙ take_at front tag (length sealed - size) (omega (arith, known.is_whole))))

pub one_text_of : (key : List ℕ) (size : ℕ) (nonce aad text other sealed : List ℕ) → IsSealing key size nonce aad text sealed → IsSealing key size nonce aad other sealed → text ≡ other
one_text_of key size nonce aad text other sealed known same =
    text_of_sealing key size nonce aad text sealed known ∙ sym (text_of_sealing key size nonce aad other sealed same)
