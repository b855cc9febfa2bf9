-- Associated data tells the request's number.
use Rattle.std.proofs.Common.{◌≡◌, ℕ, ◌+◌, ◌*◌, ◌<◌, ◌≤◌, List, [], ◌∷◌, ◌++◌, length, refl, sym, ap, ◌∙◌, arith, length-append}
use Rattle.std.specs.Prelude.{codes}
use Rattle.std.proofs.lemmas.Bool.{lt-ltb}
use Rattle.std.proofs.lemmas.List.{append_cancel_left, append_cancel_right}
use Rattle.osc_model.specs.{algorithm_number}
use Rattle.osc_model.specs.declared.context.ContextName.{ContextName}
use Rattle.osc_cbor.specs.{byte_string, head, spelling}
use Rattle.osc_cose.specs.{enc_structure}
use Rattle.osc_context.specs.{algorithm_of, partial_iv}
use Rattle.osc_protect.specs.{external_aad, aad_of}
use Rattle.osc_protect.proofs.AadLemmas.{aad_of_is, algorithm_short, short_string_length}
use Rattle.osc_protect.proofs.ValuePartialIv.{partial_iv-short, one_number}

head_small : (major n : ℕ) → n < 24 → head major n ≡ (32 * major + n) ∷ []
unfolding head
head_small major n small = rw (lt-ltb n 24 small) refl

-- no two short byte strings are spelled alike
one_string : (a b : List ℕ) → length a < 24 → length b < 24 → head 2 (length a) ++ a ≡ head 2 (length b) ++ b → a ≡ b
one_string a b small other e =
    let plain : (64 + length a) ∷ a ≡ (64 + length b) ∷ b = sym (ap (λ (front : List ℕ). front ++ a) (head_small 2 (length a) small)) ∙ e ∙ ap (λ (front : List ℕ). front ++ b) (head_small 2 (length b) other) in
    cc

head_length : (major n : ℕ) → n < 24 → length (head major n) ≡ 1
head_length major n small = ap (λ (bytes : List ℕ). length bytes) (head_small major n small)

string_length : (a : List ℕ) → length a < 24 → length (head 2 (length a) ++ a) ≡ 1 + length a
string_length a small = length-append (head 2 (length a)) a ∙ ap (λ (n : ℕ). n + length a) (head_length 2 (length a) small)

-- ---- the associated data of OSCORE

one_external : (name : ContextName) (m n : ℕ) → external_aad name m ≡ external_aad name n → m ≡ n
unfolding external_aad
one_external name m n e =
    let a = append_cancel_left (head 4 5) _ _ e in
    let b = append_cancel_left (head 0 1) _ _ a in
    let c = append_cancel_left (head 4 1 ++ (head 0 (algorithm_number (algorithm_of name)) ++ [])) _ _ b in
    let d = append_cancel_left (head 2 (length name.client_id) ++ name.client_id) _ _ c in
    let same = append_cancel_right (head 2 (length (partial_iv m)) ++ partial_iv m) (head 2 (length (partial_iv n)) ++ partial_iv n) ((head 2 0 ++ []) ++ []) d in
    one_number m n (one_string (partial_iv m) (partial_iv n) (omega (arith, partial_iv-short m)) (omega (arith, partial_iv-short n)) same)

length-six : (a b c d e f : List ℕ) → length (a ++ (b ++ (c ++ (d ++ (e ++ f))))) ≡ length a + (length b + (length c + (length d + (length e + length f))))
length-six a b c d e f = simp length-append

external_short : (name : ContextName) (n : ℕ) → length name.client_id ≤ 7 → length (external_aad name n) ≤ 20
unfolding external_aad
external_short name n id =
    let piv = partial_iv-short n in
    let total = length-six (head 4 5) (head 0 1) (head 4 1 ++ (head 0 (algorithm_number (algorithm_of name)) ++ [])) (head 2 (length name.client_id) ++ name.client_id) (head 2 (length (partial_iv n)) ++ partial_iv n) ((head 2 0 ++ []) ++ []) in
    let middle = length-append (head 4 1) (head 0 (algorithm_number (algorithm_of name)) ++ []) in
    omega (
      arith,
      total,
      middle,
      length-append (head 0 (algorithm_number (algorithm_of name))) [],
      length-append (head 2 0 ++ []) [],
      length-append (head 2 0) [],
      head_length 4 5 (omega arith),
      head_length 0 1 (omega arith),
      head_length 4 1 (omega arith),
      algorithm_short (algorithm_of name),
      head_length 2 0 (omega arith),
      string_length name.client_id (omega arith),
      string_length (partial_iv n) (omega arith),
    )

-- ---- the associated data of the cipher

pub one_aad : (name : ContextName) (m n : ℕ) → length name.client_id ≤ 7 → aad_of name m ≡ aad_of name n → m ≡ n
unfolding aad_of enc_structure
one_aad name m n id e =
    let a = append_cancel_left (head 4 3) _ _ e in
    let b = append_cancel_left (head 3 8 ++ codes "Encrypt0") _ _ a in
    let c = append_cancel_left (head 2 0 ++ []) _ _ b in
    let same = append_cancel_right (head 2 (length (external_aad name m)) ++ external_aad name m) (head 2 (length (external_aad name n)) ++ external_aad name n) [] c in
    one_external name m n (one_string (external_aad name m) (external_aad name n) (omega (arith, external_short name m id)) (omega (arith, external_short name n id)) same)

-- how many bytes it has at most
pub aad_short : (name : ContextName) (n : ℕ) → length name.client_id ≤ 7 → length (aad_of name n) ≤ 32
aad_short name n id =
    let external = external_short name n id in
    let string = spelling (byte_string (external_aad name n)) in
    omega (
      arith,
      ap length (aad_of_is name n),
      length-append (131 ∷ 104 ∷ 69 ∷ 110 ∷ 99 ∷ 114 ∷ 121 ∷ 112 ∷ 116 ∷ 48 ∷ 64 ∷ []) string,
      short_string_length (external_aad name n) (omega (arith, external)),
    )
