-- What is written as a post or an answer, and what bytes can be read as.
use Rattle.std.proofs.Common.{◌≡◌, ◌⊎◌, ℕ, ◌<◌, ◌≤◌, ◌^◌, List, [], ◌++◌, length, Some, refl, sym, ap, ◌∙◌, arith, inl, inr}
use Rattle.osc_cbor.specs.{DataItem, unsigned, byte_string, map, Pairs, no_pairs, pair, value_under, Spells, IsWhole, HasSpelling}
use Rattle.osc_authz.specs.{IsPost, IsAnswer, post_item, answer_item}

-- ---- what is written

abbrev pub post_pairs : List ℕ → List ℕ → List ℕ → Pairs
post_pairs token nonce1 client_id =
    pair (unsigned 1) (byte_string token) (pair (unsigned 40) (byte_string nonce1) (pair (unsigned 43) (byte_string client_id) no_pairs))

abbrev pub answer_pairs : List ℕ → List ℕ → Pairs
answer_pairs nonce2 server_id = pair (unsigned 42) (byte_string nonce2) (pair (unsigned 44) (byte_string server_id) no_pairs)

numbers : (m n : ℕ) → unsigned m ≡ unsigned n → m ≡ n
numbers m n e = cc

apart : (m n : ℕ) → m < n → ¬ unsigned m ≡ unsigned n
apart m n lt e = let same = numbers m n e in omega arith

pub post_has_spelling : (token nonce1 client_id : List ℕ) → length token < 2 ^ 64 → length nonce1 ≤ 64 → length client_id ≤ 7
    → HasSpelling (post_item token nonce1 client_id)
post_has_spelling token nonce1 client_id t n c =
    let token_key : ¬ ((unsigned 1 ≡ unsigned 40) ⊎ ((unsigned 1 ≡ unsigned 43) ⊎ ⊥)) =
    λ h. elim h [ inl e ↦ apart 1 40 (omega arith) e | inr l ↦ elim l [ inl e ↦ apart 1 43 (omega arith) e | inr m ↦ m ] ] in
    let nonce_key : ¬ ((unsigned 40 ≡ unsigned 43) ⊎ ⊥) = λ h. elim h [ inl e ↦ apart 40 43 (omega arith) e | inr m ↦ m ] in
    ((token_key, (nonce_key, (λ h. h, tt))), omega arith, (omega arith, t, (omega arith, omega arith, (omega arith, omega arith, tt))))

pub answer_has_spelling : (nonce2 server_id : List ℕ) → length nonce2 ≤ 64 → length server_id ≤ 7 → HasSpelling (answer_item nonce2 server_id)
answer_has_spelling nonce2 server_id n s =
    let nonce_key : ¬ ((unsigned 42 ≡ unsigned 44) ⊎ ⊥) = λ h. elim h [ inl e ↦ apart 42 44 (omega arith) e | inr m ↦ m ] in
    ((nonce_key, (λ h. h, tt)), omega arith, (omega arith, omega arith, (omega arith, omega arith, tt)))

-- ---- what is read

abbrev pub IsOneItem : Type 0
IsOneItem = (a b x y : List ℕ) (d e : DataItem) → Spells a d → Spells b e → a ++ x ≡ b ++ y → (a ≡ b) × (d ≡ e)

same_pairs : IsOneItem → (bytes : List ℕ) (ps qs : Pairs) → IsWhole bytes (map ps) → IsWhole bytes (map qs) → ps ≡ qs
same_pairs one bytes ps qs p q =
    let same : map ps ≡ map qs = (one bytes bytes [] [] (map ps) (map qs) p.spelled q.spelled refl).1 in cc

same_bytes : (label : ℕ) (ps qs : Pairs) (a b : List ℕ) → ps ≡ qs → value_under label ps ≡ Some (byte_string a) → value_under label qs ≡ Some (byte_string b) → a ≡ b
same_bytes label ps qs a b same p q =
    let e : Some (byte_string a) ≡ Some (byte_string b) = sym p ∙ ap (value_under label) same ∙ q in cc

pub one_post : IsOneItem → (body token nonce1 client_id others nonces ids : List ℕ)
    → IsPost body token nonce1 client_id → IsPost body others nonces ids
    → (token ≡ others) × (nonce1 ≡ nonces) × (client_id ≡ ids)
one_post one body token nonce1 client_id others nonces ids p q =
    let same = same_pairs one body p.fields q.fields p.whole q.whole in (
      same_bytes 1 p.fields q.fields token others same p.token_field q.token_field,
      same_bytes 40 p.fields q.fields nonce1 nonces same p.nonce1_field q.nonce1_field,
      same_bytes 43 p.fields q.fields client_id ids same p.id_field q.id_field,
    )

pub one_answer : IsOneItem → (payload nonce2 server_id nonces ids : List ℕ)
    → IsAnswer payload nonce2 server_id → IsAnswer payload nonces ids
    → (nonce2 ≡ nonces) × (server_id ≡ ids)
one_answer one payload nonce2 server_id nonces ids p q =
    let same = same_pairs one payload p.fields q.fields p.whole q.whole in (
      same_bytes 42 p.fields q.fields nonce2 nonces same p.nonce2_field q.nonce2_field,
      same_bytes 44 p.fields q.fields server_id ids same p.id_field q.id_field,
    )
