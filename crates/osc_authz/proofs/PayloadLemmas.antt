-- The fields of a payload, and what they say of its bytes.
use Rattle.std.proofs.Common.{◌≡◌, ℕ, ◌≤◌, Bool, true, false, nat_le, if◌then◌else◌, List, length, Option, Some, None, refl, sym, ap, subst, ◌∙◌}
use Rattle.std.specs.Option.{option_and_then}
use Rattle.std.proofs.lemmas.Bool.{leb-true, le-leb, and_parts}
use Rattle.osc_cbor.specs.{DataItem, unsigned, negative, byte_string, text_string, array, map, tag, bool, null, Pairs, as_bytes, value, IsWhole}
use Rattle.osc_authz.specs.{IsPost, IsAnswer}
use Rattle.osc_authz.specs.Inner.Payload.{bytes_under, if_nonce, nonce_under, if_id, id_under, post_fields, answer_fields}

-- ---- what is under a label

then_some : {A B : Type 0} (f : A → Option B) (o : Option A) (b : B) → option_and_then f o ≡ Some b → (a : A) × (o ≡ Some a) × (f a ≡ Some b)
then_some f None b e = cc
then_some f (Some a) b e = (a, refl, e)

some_is : {A : Type 0} (x y : A) → Some x ≡ Some y → x ≡ y
some_is x y e = cc

bytes_is : (d : DataItem) (b : List ℕ) → as_bytes d ≡ Some b → d ≡ byte_string b
bytes_is (byte_string a) b e = cc
bytes_is (unsigned n) b e = cc
bytes_is (negative n) b e = cc
bytes_is (text_string a) b e = cc
bytes_is (array ds) b e = cc
bytes_is (map ps) b e = cc
bytes_is (tag n d) b e = cc
bytes_is (bool x) b e = cc
bytes_is null b e = cc

bytes_under_is : (label : ℕ) (d : DataItem) (b : List ℕ) → bytes_under label d ≡ Some b → value label d ≡ Some (byte_string b)
bytes_under_is label d b e =
    let found = then_some as_bytes (value label d) b e in
    found.1 ∙ ap Some (bytes_is found.0 b found.2)

some_if : {A : Type 0} (b : Bool) (x y : A) → (if b then Some x else None) ≡ Some y → (b ≡ true) × (x ≡ y)
some_if true x y e = (refl, cc)
some_if false x y e = cc

if_nonce_is : (bytes nonce : List ℕ) → if_nonce bytes ≡ Some nonce → (bytes ≡ nonce) × (1 ≤ length nonce) × (length nonce ≤ 64)
if_nonce_is bytes nonce e =
    let found = some_if _ bytes nonce e in
    let sizes = and_parts (nat_le 1 (length bytes)) (nat_le (length bytes) 64) found.0 in
    let least : 1 ≤ length bytes = leb-true 1 (length bytes) sizes.0 in
    let most : length bytes ≤ 64 = leb-true (length bytes) 64 sizes.1 in
    (found.1, rw (sym found.1) least, rw (sym found.1) most)

if_id_is : (bytes id : List ℕ) → if_id bytes ≡ Some id → (bytes ≡ id) × (length id ≤ 7)
if_id_is bytes id e =
    let found = some_if _ bytes id e in
    let most : length bytes ≤ 7 = leb-true (length bytes) 7 found.0 in
    (found.1, rw (sym found.1) most)

nonce_under_is : (label : ℕ) (d : DataItem) (nonce : List ℕ) → nonce_under label d ≡ Some nonce
    → (value label d ≡ Some (byte_string nonce)) × ((1 ≤ length nonce) × (length nonce ≤ 64))
nonce_under_is label d nonce e =
    let found = then_some if_nonce (bytes_under label d) nonce e in
    let is = if_nonce_is found.0 nonce found.2 in
    (bytes_under_is label d nonce (found.1 ∙ ap Some is.0), (is.1, is.2))

id_under_is : (label : ℕ) (d : DataItem) (id : List ℕ) → id_under label d ≡ Some id
    → (value label d ≡ Some (byte_string id)) × (length id ≤ 7)
id_under_is label d id e =
    let found = then_some if_id (bytes_under label d) id e in
    let is = if_id_is found.0 id found.2 in
    (bytes_under_is label d id (found.1 ∙ ap Some is.0), is.1)

-- ---- and back

under_nonce : (label : ℕ) (d : DataItem) (nonce : List ℕ) → value label d ≡ Some (byte_string nonce)
    → 1 ≤ length nonce → length nonce ≤ 64 → nonce_under label d ≡ Some nonce
under_nonce label d nonce e least most =
    rw (e, le-leb 1 (length nonce) least, le-leb (length nonce) 64 most) refl

under_id : (label : ℕ) (d : DataItem) (id : List ℕ) → value label d ≡ Some (byte_string id)
    → length id ≤ 7 → id_under label d ≡ Some id
under_id label d id e most = rw (e, le-leb (length id) 7 most) refl

-- ---- the item of a post, and that of an answer

map_is : (d : DataItem) (label : ℕ) (x : DataItem) → value label d ≡ Some x → (ps : Pairs) × (d ≡ map ps)
map_is (map ps) label x e = (ps, refl)
map_is (byte_string a) label x e = cc
map_is (unsigned n) label x e = cc
map_is (negative n) label x e = cc
map_is (text_string a) label x e = cc
map_is (array ds) label x e = cc
map_is (tag n d) label x e = cc
map_is (bool b) label x e = cc
map_is null label x e = cc

answer_is : (d : DataItem) (nonce2 server_id : List ℕ) → answer_fields d ≡ Some (nonce2, server_id)
    → (nonce_under 42 d ≡ Some nonce2) × (id_under 44 d ≡ Some server_id)
answer_is d nonce2 server_id e =
    let nonce = then_some _ (nonce_under 42 d) (nonce2, server_id) e in
    let id = then_some _ (id_under 44 d) (nonce2, server_id) nonce.2 in
    let parts = some_is (nonce.0, id.0) (nonce2, server_id) id.2 in
    (nonce.1 ∙ ap (λ x. Some x.0) parts, id.1 ∙ ap (λ x. Some x.1) parts)

pub answer_from_fields : (payload : List ℕ) (d : DataItem) (nonce2 server_id : List ℕ) → IsWhole payload d
    → answer_fields d ≡ Some (nonce2, server_id) → IsAnswer payload nonce2 server_id
answer_from_fields payload d nonce2 server_id w e =
    let parts = answer_is d nonce2 server_id e in
    let nonce = nonce_under_is 42 d nonce2 parts.0 in
    let id = id_under_is 44 d server_id parts.1 in
    let is_map = map_is d 42 (byte_string nonce2) nonce.0 in
    record {
      fields = is_map.0;
      whole = subst (IsWhole payload) is_map.1 w;
      nonce2_field = sym (ap (value 42) is_map.1) ∙ nonce.0;
      nonce2_size = nonce.1;
      id_field = sym (ap (value 44) is_map.1) ∙ id.0;
      id_size = id.1;
    }

pub fields_from_answer : (payload : List ℕ) (d : DataItem) (nonce2 server_id : List ℕ) → ((e : DataItem) → IsWhole payload e → d ≡ e)
    → IsAnswer payload nonce2 server_id → answer_fields d ≡ Some (nonce2, server_id)
fields_from_answer payload d nonce2 server_id only answer =
    let is = only (map answer.fields) answer.whole in
    let nonce = under_nonce 42 d nonce2 (ap (value 42) is ∙ answer.nonce2_field) answer.nonce2_size.0 answer.nonce2_size.1 in
    let id = under_id 44 d server_id (ap (value 44) is ∙ answer.id_field) answer.id_size in
    rw (nonce, id) refl

pub no_answer : (payload : List ℕ) (d : DataItem) → ((e : DataItem) → IsWhole payload e → d ≡ e) → answer_fields d ≡ None
    → (nonce2 server_id : List ℕ) → ¬ IsAnswer payload nonce2 server_id
no_answer payload d only none nonce2 server_id answer =
    let found = fields_from_answer payload d nonce2 server_id only answer in
    let never : ⊥ = cc in never

post_is : (d : DataItem) (token nonce1 client_id : List ℕ) → post_fields d ≡ Some (token, nonce1, client_id)
    → (bytes_under 1 d ≡ Some token) × (nonce_under 40 d ≡ Some nonce1) × (id_under 43 d ≡ Some client_id)
post_is d token nonce1 client_id e =
    let first = then_some _ (bytes_under 1 d) (token, nonce1, client_id) e in
    let nonce = then_some _ (nonce_under 40 d) (token, nonce1, client_id) first.2 in
    let id = then_some _ (id_under 43 d) (token, nonce1, client_id) nonce.2 in
    let parts = some_is (first.0, nonce.0, id.0) (token, nonce1, client_id) id.2 in
    (first.1 ∙ ap (λ x. Some x.0) parts, nonce.1 ∙ ap (λ x. Some x.1) parts, id.1 ∙ ap (λ x. Some x.2) parts)

pub post_from_fields : (body : List ℕ) (d : DataItem) (token nonce1 client_id : List ℕ) → IsWhole body d
    → post_fields d ≡ Some (token, nonce1, client_id) → IsPost body token nonce1 client_id
post_from_fields body d token nonce1 client_id w e =
    let parts = post_is d token nonce1 client_id e in
    let first = bytes_under_is 1 d token parts.0 in
    let nonce = nonce_under_is 40 d nonce1 parts.1 in
    let id = id_under_is 43 d client_id parts.2 in
    let is_map = map_is d 1 (byte_string token) first in
    record {
      fields = is_map.0;
      whole = subst (IsWhole body) is_map.1 w;
      token_field = sym (ap (value 1) is_map.1) ∙ first;
      nonce1_field = sym (ap (value 40) is_map.1) ∙ nonce.0;
      nonce1_size = nonce.1;
      id_field = sym (ap (value 43) is_map.1) ∙ id.0;
      id_size = id.1;
    }

pub fields_from_post : (body : List ℕ) (d : DataItem) (token nonce1 client_id : List ℕ) → ((e : DataItem) → IsWhole body e → d ≡ e)
    → IsPost body token nonce1 client_id → post_fields d ≡ Some (token, nonce1, client_id)
fields_from_post body d token nonce1 client_id only post =
    let is = only (map post.fields) post.whole in
    let first : value 1 d ≡ Some (byte_string token) = ap (value 1) is ∙ post.token_field in
    let nonce = under_nonce 40 d nonce1 (ap (value 40) is ∙ post.nonce1_field) post.nonce1_size.0 post.nonce1_size.1 in
    let id = under_id 43 d client_id (ap (value 43) is ∙ post.id_field) post.id_size in
    rw (first, nonce, id) refl

pub no_post : (body : List ℕ) (d : DataItem) → ((e : DataItem) → IsWhole body e → d ≡ e) → post_fields d ≡ None
    → (token nonce1 client_id : List ℕ) → ¬ IsPost body token nonce1 client_id
no_post body d only none token nonce1 client_id post =
    let found = fields_from_post body d token nonce1 client_id only post in
    let never : ⊥ = cc in never
