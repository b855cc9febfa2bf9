-- The place that is reserved stays kept.
use Rattle.std.proofs.Common.{◌≡◌, ℕ, suc, ◌+◌, ◌≤◌, ◌<◌, inl, inr, Bool, true, false, cond, ◌||◌, List, [], ◌∷◌, ◌++◌, length, map, filter, Option, Some, None, refl, sym, ap, ◌∙◌, subst, arith}
use Rattle.std.specs.List.{list_any}
use Rattle.std.specs.Str.{bytes_eq}
use Rattle.std.proofs.lemmas.Bool.{cases_lt}
use Rattle.std.proofs.lemmas.List.{length-map, length-append}
use Rattle.std.proofs.lemmas.List.Folds.{list_any-append}
use Rattle.std.proofs.lemmas.Slice.Eq.{bytes_eq-Decides}
use Rattle.osc_authz.specs.Standing.{Standing}
use Rattle.osc_authz.specs.SecurityContext.{SecurityContext}
use Rattle.osc_authz.specs.declared.agreed_post.AgreedPost.{AgreedPost}
use Rattle.osc_authz.specs.declared.token_entry.TokenEntry.{TokenEntry}
use Rattle.osc_authz.specs.{IsFull, IsTable, KeepsPlace, accepted, alive, has_token, holds_live, places_taken, with_pending}
use Rattle.osc_authz.proofs.Parts.{Part, none, kept, left, part_filter, part_length, part_map}
use Rattle.osc_authz.proofs.TableLaws.{accepted_tokens, has_token_is, tokens, with_pending_tokens}

-- the places that these token ids have, with that of the reserved one
abbrev taken_by : List ℕ → List (List ℕ) → ℕ
taken_by id ids = cond (list_any (bytes_eq id) ids) (length ids) (1 + length ids)

taken_is : (id : List ℕ) (table : List TokenEntry) → places_taken (Some id) table ≡ taken_by id (tokens table)
taken_is id table =
    let size = sym (length-map table (λ entry. entry.id)) in
    λ i. cond (sym (has_token_is id table) i) (size i) (1 + size i)

-- where some ids go, no more places are taken
taken_part : (id : List ℕ) {xs ys : List (List ℕ)} → Part xs ys → taken_by id xs ≤ taken_by id ys
taken_part id none = omega arith
taken_part id (kept {xs} {ys} x rest) = by (bytes_eq id x) (list_any (bytes_eq id) xs) (list_any (bytes_eq id) ys) (part_length rest) (taken_part id rest)
  where
    by : (b some all : Bool) → length xs ≤ length ys → cond some (length xs) (1 + length xs) ≤ cond all (length ys) (1 + length ys)
        → cond (b || some) (suc (length xs)) (1 + suc (length xs)) ≤ cond (b || all) (suc (length ys)) (1 + suc (length ys))
    by true some all fewer up = omega (arith, fewer)
    by false true true fewer up = omega (arith, up)
    by false true false fewer up = omega (arith, up)
    by false false true fewer up = omega (arith, up)
    by false false false fewer up = omega (arith, up)
taken_part id (left {xs} {ys} y rest) = by (bytes_eq id y) (list_any (bytes_eq id) xs) (list_any (bytes_eq id) ys) (part_length rest) (taken_part id rest)
  where
    by : (b some all : Bool) → length xs ≤ length ys → cond some (length xs) (1 + length xs) ≤ cond all (length ys) (1 + length ys)
        → cond some (length xs) (1 + length xs) ≤ cond (b || all) (suc (length ys)) (1 + suc (length ys))
    by true true all fewer up = omega (arith, fewer)
    by true false all fewer up = omega (arith, fewer)
    by false true true fewer up = omega (arith, up)
    by false true false fewer up = omega (arith, up)
    by false false true fewer up = omega (arith, up)
    by false false false fewer up = omega (arith, up)

pub kept_alive : (on : Standing) (id : List ℕ) (table : List TokenEntry) → places_taken (Some id) (alive on table) ≤ places_taken (Some id) table
kept_alive on id table =
    omega (arith, taken_is id (alive on table), taken_is id table, taken_part id (part_map (λ entry. entry.id) (part_filter (holds_live on) table)))

-- the reserved id is never full
pub kept_is_free : (on : Standing) (id : List ℕ) (table : List TokenEntry) → KeepsPlace (Some id) table → ¬ IsFull (Some id) id (alive on table)
kept_is_free on id table keeps full =
    by (bytes_eq id id) (has_token id (alive on table)) ((bytes_eq-Decides id id).1 refl) full.new full.many (omega (arith, kept_alive on id table, keeps))
  where
    by : (b there : Bool) → b ≡ true → there ≡ false → 64 ≤ cond (b || there) 0 1 + length (alive on table)
        → cond there (length (alive on table)) (1 + length (alive on table)) ≤ 64 → ⊥
    by true false same new many few = omega (arith, many, few)
    by true true same new many few = cc
    by false there same new many few = cc

-- where the token ids are the same
pub kept_by_tokens : (reserved : Option (List ℕ)) (table other : List TokenEntry) → tokens other ≡ tokens table → KeepsPlace reserved table → KeepsPlace reserved other
kept_by_tokens None table other same keeps =
    omega (arith, keeps, length-map other (λ entry. entry.id), length-map table (λ entry. entry.id), ap length same)
kept_by_tokens (Some own) table other same keeps = omega (arith, keeps, taken_is own other, taken_is own table, ap (taken_by own) same)

-- a number that is taken changes no token id
pub kept_accepted : (reserved : Option (List ℕ)) (id : List ℕ) (number : ℕ) (table : List TokenEntry) → KeepsPlace reserved table → KeepsPlace reserved (accepted id number table)
kept_accepted reserved id number table keeps = kept_by_tokens reserved table (accepted id number table) (accepted_tokens id number table) keeps

pub kept_in_none : (reserved : Option (List ℕ)) → KeepsPlace reserved []
kept_in_none None = omega arith
kept_in_none (Some id) = omega arith

-- with one more pending context, for which there is room
pub kept_with : (reserved : Option (List ℕ)) (token : List ℕ) (held : SecurityContext) (remember : List AgreedPost → List AgreedPost) (on : Standing) (table : List TokenEntry)
    → KeepsPlace reserved table → ¬ IsFull reserved token (alive on table) → IsTable (with_pending token held remember (alive on table))
    → KeepsPlace reserved (with_pending token held remember (alive on table))
kept_with None token held remember on table keeps room is_table = is_table.few
kept_with (Some id) token held remember on table keeps room is_table =
    omega (arith, taken_is id (with_pending token held remember rest), ap (taken_by id) (with_pending_tokens token held remember rest), by (has_token token rest) refl)
  where
    rest : List TokenEntry
    rest = alive on table

    before : places_taken (Some id) rest ≤ 64
    before = omega (arith, kept_alive on id table, keeps)

    short : (n : ℕ) → (64 ≤ n → ⊥) → n < 64
    short n few = elim (cases_lt n 64) [ inl less ↦ less | inr many ↦ absurd (few many) ]

    one_more : (b there : Bool) → cond (b || there) 0 1 + length rest < 64 → cond (there || (b || false)) (length rest + 1) (1 + (length rest + 1)) ≤ 64
    one_more true true few = omega (arith, few)
    one_more true false few = omega (arith, few)
    one_more false true few = omega (arith, few)
    one_more false false few = omega (arith, few)

    by : (there : Bool) → has_token token rest ≡ there → taken_by id (cond there (tokens rest) (tokens rest ++ token ∷ [])) ≤ 64
    by true there = omega (arith, taken_is id rest, before)
    by false new =
        let any : list_any (bytes_eq id) (tokens rest ++ token ∷ []) ≡ (has_token id rest || (bytes_eq id token || false)) =
        list_any-append (bytes_eq id) (tokens rest) (token ∷ []) ∙ ap (λ b. b || (bytes_eq id token || false)) (has_token_is id rest) in
        let size : length (tokens rest ++ token ∷ []) ≡ length rest + 1 = length-append (tokens rest) (token ∷ []) ∙ ap (λ n. n + 1) (length-map rest (λ entry. entry.id)) in
        coe 1 0 (i. cond (any i) (size i) (1 + size i) ≤ 64)
        (one_more (bytes_eq id token) (has_token id rest)
        (short (cond (bytes_eq id token || has_token id rest) 0 1 + length rest) (λ many. room (record { many = many; new = new }))))
