-- What the comparison of the tags decides.
use Rattle.std.proofs.Common.{◌≡◌, ◌↔◌, ℕ, ◌-◌, ◌≤◌, Bool, true, false, IsTrue, List, ◌<◌, ◌++◌, length, take, drop, sym, ap, subst, ◌∙◌, arith}
use Rattle.std.proofs.lemmas.List.{take-append-drop, length-take, length-drop, length-append, append_cancel_left}
use Rattle.osc_ccm.specs.{ciphered, tag_of, IsSealing, IsInRange, ciphered-ciphered, text_of_sealing}

-- c is the ciphertext and t the tag that follows it
genuine_parts : (key : List ℕ) (size : ℕ) (nonce aad c t sealed : List ℕ) (same : Bool) → sealed ≡ c ++ t → length t ≡ size → IsInRange (length c) (length aad) → length (ciphered key nonce c) ≡ length c → IsTrue same ↔ (t ≡ tag_of key size nonce aad (ciphered key nonce c)) → IsTrue same ↔ IsSealing key size nonce aad (ciphered key nonce c) sealed
genuine_parts key size nonce aad c t sealed same parts tag_size range whole compared =
    let text = ciphered key nonce c in
    let tag = tag_of key size nonce aad text in
    let back : ciphered key nonce text ≡ c = ciphered-ciphered key nonce c whole in (
      λ yes. record {
        in_range = (omega (arith, range), range.1);
        is_sealing = parts ∙ ap (λ l. c ++ l) (compared.0 yes) ∙ ap (λ l. l ++ tag) (sym back);
        is_whole = omega (arith, ap length parts, length-append c t);
      },
      λ known. compared.1 (append_cancel_left c t tag (sym parts ∙ known.is_sealing ∙ ap (λ l. l ++ tag) back)),
    )

pub genuine : (key : List ℕ) (size : ℕ) (nonce aad sealed t tag : List ℕ) (same : Bool) → size ≤ length sealed → IsInRange (length sealed - size) (length aad) → length (ciphered key nonce (take (length sealed - size) sealed)) ≡ length (take (length sealed - size) sealed) → t ≡ drop (length sealed - size) sealed → tag ≡ tag_of key size nonce aad (ciphered key nonce (take (length sealed - size) sealed)) → IsTrue same ↔ (t ≡ tag) → IsTrue same ↔ IsSealing key size nonce aad (ciphered key nonce (take (length sealed - size) sealed)) sealed
genuine key size nonce aad sealed t tag same long range whole behind right compared =
    let n = length sealed - size in
    let c = take n sealed in
    let front : length c ≡ n = omega (arith, length-take n sealed) in
    genuine_parts key size nonce aad c t sealed same
    (sym (take-append-drop n sealed) ∙ ap (λ l. c ++ l) (sym behind))
    (ap length behind ∙ length-drop n sealed ∙ omega arith)
    (omega (arith, range), range.1)
    whole
    (λ yes. compared.0 yes ∙ right, λ e. compared.1 (e ∙ sym right))

-- bytes shorter than a tag are no sealing
pub short_is_none : (key : List ℕ) (size : ℕ) (nonce aad text sealed : List ℕ) → length sealed < size → ¬ IsSealing key size nonce aad text sealed
short_is_none key size nonce aad text sealed short known = omega (arith, known.is_whole)

-- where the text that they decrypt to is not it, bytes are a sealing of none
pub none_is_sealed : (key : List ℕ) (size : ℕ) (nonce aad sealed : List ℕ) (same : Bool) → same ≡ false → IsTrue same ↔ IsSealing key size nonce aad (ciphered key nonce (take (length sealed - size) sealed)) sealed → (text : List ℕ) → ¬ IsSealing key size nonce aad text sealed
none_is_sealed key size nonce aad sealed same wrong decided text known =
    let P : List ℕ → Type 0 = λ l. IsSealing key size nonce aad l sealed in
    let right : same ≡ true = decided.1 (subst P (text_of_sealing key size nonce aad text sealed known) known) in
    cc
