-- The table with one more context is a table.
use Rattle.std.proofs.Common.{◌≡◌, ℕ, zero, suc, ◌≤◌, Bool, true, false, cond, List, [], ◌∷◌, ◌++◌, length, length-take, take, None, Some, option_map, arith, refl, ap, ◌∙◌}
use Rattle.std.specs.List.{AllByRecursion}
use Rattle.std.specs.Option.{option_map_or}
use Rattle.std.specs.Str.{bytes_eq}
use Rattle.std.proofs.lemmas.List.Elements.{All-nil, All-cons, All-filter, All-from_recursion, recursion_from_All}
use Rattle.osc_model.specs.Scope.{Scope}
use Rattle.osc_token.specs.declared.claims.Claims.{Claims}
use Rattle.osc_authz.specs.Standing.{Standing}
use Rattle.osc_authz.specs.{AreFew, accepted, accepted_in, has_id, holds_live, taking, remembering, new_context, IsTable, IsFull, IsLeastFree, alive, ids, without_pending, with_pending}
use Rattle.osc_authz.specs.SecurityContext.{SecurityContext}
use Rattle.osc_authz.specs.declared.token_entry.TokenEntry.{TokenEntry}
use Rattle.osc_authz.specs.declared.agreed_post.AgreedPost.{AgreedPost}
use Rattle.osc_authz.specs.declared.rules.ContextRules.{ContextRules}
use Rattle.osc_authz.proofs.TableLaws.{added_is_table}

pub agreed_is_table : (now : Standing) (rules : ContextRules) (claims : Claims) (scope : Scope) (post : AgreedPost) (remember : List AgreedPost → List AgreedPost)
    (table seen grown after : List TokenEntry) (taken token : List ℕ) (held : SecurityContext)
    → IsTable table → ¬ IsFull rules.reserved claims.material.id (alive now table)
    → taken ≡ claims.material.id → seen ≡ table → IsLeastFree (post.client_id ∷ ids (without_pending taken (alive now seen))) post.answer.recipient_id
    → token ≡ claims.material.id → held ≡ new_context rules now.at claims scope post → grown ≡ table
    → after ≡ with_pending token held remember (alive now grown) → IsTable after
agreed_is_table now rules claims scope post remember table seen grown after taken token held is_table room taken_is seen_is free token_is held_is grown_is after_is =
    rw (after_is, token_is, held_is, grown_is)
    (added_is_table rules.reserved claims.material.id post.client_id now (new_context rules now.at claims scope post) remember post.answer.recipient_id table is_table room
    (rw (taken_is, seen_is) at free) refl refl)

-- ---- the posts that are known

-- what is kept of a post in its room, before the older ones
pub kept_in_room : (most : ℕ) (post : AgreedPost) (room older : List AgreedPost) → room ≡ take most (post ∷ []) → take most (room ++ older) ≡ remembering most post older
kept_in_room zero post room older is = refl
kept_in_room (suc most) post room older is = ap (λ (r : List AgreedPost). take (suc most) (r ++ older)) (is ∙ ap (λ (rest : List AgreedPost). post ∷ rest) (take-nil most))
  where
    take-nil : (n : ℕ) → take n (let none : List AgreedPost = [] in none) ≡ []
    take-nil zero = refl
    take-nil (suc n) = refl

-- few stay few
few_alive : (now : Standing) (most : ℕ) (table : List TokenEntry) → AreFew most table → AreFew most (alive now table)
few_alive now most table few = All-filter (holds_live now) (λ entry. length entry.posts ≤ most) table few

few_with : (token : List ℕ) (held : SecurityContext) (remember : List AgreedPost → List AgreedPost) (most : ℕ) (table : List TokenEntry)
    → ((older : List AgreedPost) → length (remember older) ≤ most) → AreFew most table → AreFew most (with_pending token held remember table)
few_with token held remember most [] short few = All-cons (λ (e : TokenEntry). length e.posts ≤ most) (record { id = token; confirmed = None; pending = Some held; posts = remember []; last = None }) [] (short []) (All-nil (λ (e : TokenEntry). length e.posts ≤ most))
few_with token held remember most (entry ∷ table) short few =
    by (bytes_eq token entry.id) (λ rest. few_with token held remember most table short rest) (recursion_from_All (λ (e : TokenEntry). length e.posts ≤ most) (entry ∷ table) few)
  where
    by : (b : Bool) → (AreFew most table → AreFew most (with_pending token held remember table)) → AllByRecursion (λ (e : TokenEntry). length e.posts ≤ most) (entry ∷ table)
        → AreFew most (cond b ((record entry { pending = Some held; posts = remember entry.posts }) ∷ table) (entry ∷ with_pending token held remember table))
    by true later all = All-cons (λ (e : TokenEntry). length e.posts ≤ most) _ table (short entry.posts) (All-from_recursion (λ (e : TokenEntry). length e.posts ≤ most) table all.1)
    by false later all = All-cons (λ (e : TokenEntry). length e.posts ≤ most) entry (with_pending token held remember table) all.0 (later (All-from_recursion (λ (e : TokenEntry). length e.posts ≤ most) table all.1))

pub few_after : (now : Standing) (token : List ℕ) (held : SecurityContext) (remember : List AgreedPost → List AgreedPost) (most : ℕ) (table : List TokenEntry)
    → ((older : List AgreedPost) → length (remember older) ≤ most) → AreFew most table → AreFew most (with_pending token held remember (alive now table))
few_after now token held remember most table short few = few_with token held remember most (alive now table) short (few_alive now most table few)

-- a number that is taken changes no post
pub few_accepted : (id : List ℕ) (number most : ℕ) (table : List TokenEntry) → AreFew most table → AreFew most (accepted id number table)
few_accepted id number most [] few = All-nil _
few_accepted id number most (entry ∷ table) few =
    let all = recursion_from_All (λ (e : TokenEntry). length e.posts ≤ most) (entry ∷ table) few in
    All-cons (λ (e : TokenEntry). length e.posts ≤ most) (accepted_in id number entry) (accepted id number table) (here (option_map_or (has_id id) entry.pending false) (option_map_or (has_id id) entry.confirmed false) all.0)
    (few_accepted id number most table (All-from_recursion (λ (e : TokenEntry). length e.posts ≤ most) table all.1))
  where
    here : (a b : Bool) → length entry.posts ≤ most
        → length (cond a (record entry { confirmed = option_map (taking number) entry.pending; pending = None; last = None }) (cond b (record entry { confirmed = option_map (taking number) entry.confirmed; last = None }) entry)).posts ≤ most
    here true b few = few
    here false true few = few
    here false false few = few

pub few_in_none : (most : ℕ) → AreFew most []
few_in_none most = All-nil _

pub few_remembered : (most : ℕ) (posts : List AgreedPost) → length (take most posts) ≤ most
few_remembered most posts = omega (arith, length-take most posts)
