-- A server that accepted a number holds its context still, and each greater number that was fresh is fresh.
use Rattle.std.proofs.Common.{◌≡◌, sym, ap, subst, refl, ℕ, ◌+◌, ◌<◌, Bool, true, false, cond, List, [], ◌∷◌, ◌++◌, Option, Some, None, ◌⊎◌, inl, inr, ⊎_elim, arith}
use Rattle.std.specs.Prelude.{◌≢◌, nat_lt}
use Rattle.std.specs.List.{All}
use Rattle.std.proofs.lemmas.List.Elements.{All-cons, All-filter, All-head, All-tail}
use Rattle.osc_authz.specs.Standing.{Standing}
use Rattle.osc_window.specs.{IsFresh, is_near, put, width, with_accepted}
use Rattle.osc_authz.specs.{HasTaken, OfToken, LastAnswerState, answered_by, confirmed_by, of_token, of_tokens, DeskState, In, IsTable, accepted, contexts, listed, taking}
use Rattle.osc_authz.specs.SecurityContext.{SecurityContext}
use Rattle.osc_authz.specs.declared.token_entry.TokenEntry.{TokenEntry}
use Rattle.osc_server.specs.State.{State as Server}
use Rattle.osc_rounds.specs.{HasServed}
use Rattle.osc_world.specs.{HoldsStill}

-- where a context of a table takes the number of an answer, which is kept or not
abbrev pub TakesNumbers : Type 0
TakesNumbers = (on : Standing) (context : OfToken) (answers : Bool) (last : LastAnswerState) (table : List TokenEntry) → IsTable table → In context (of_tokens table)
    → HasTaken on last.number context (of_tokens table) (of_tokens (answered_by answers context.held.name.client_id last table))

pub takes_numbers : ((on : Standing) (number : ℕ) (context : OfToken) (table : List TokenEntry) → IsTable table → In context (of_tokens table)
    → HasTaken on number context (of_tokens table) (of_tokens (accepted context.held.name.client_id number table)))
    → ((answers : Bool) (id : List ℕ) (last : LastAnswerState) (table : List TokenEntry) → of_tokens (answered_by answers id last table) ≡ of_tokens (accepted id last.number table))
    → TakesNumbers
takes_numbers taken stay on context answers last table is here =
    subst (HasTaken on last.number context (of_tokens table)) (sym (stay answers context.held.name.client_id last table)) (taken on last.number context table is here)

-- ---- members of two lists

in_front : {A : Type 0} (x : A) (xs ys : List A) → In x xs → In x (xs ++ ys)
in_front x [] ys m = absurd m
in_front x (z ∷ xs) ys (inl e) = inl e
in_front x (z ∷ xs) ys (inr m) = inr (in_front x xs ys m)

in_back : {A : Type 0} (x : A) (xs ys : List A) → In x ys → In x (xs ++ ys)
in_back x [] ys m = m
in_back x (z ∷ xs) ys m = inr (in_back x xs ys m)

in_either : {A : Type 0} (x : A) (xs ys : List A) → In x (xs ++ ys) → In x xs ⊎ In x ys
in_either x [] ys m = inr m
in_either x (z ∷ xs) ys (inl e) = inl (inl e)
in_either x (z ∷ xs) ys (inr m) = ⊎_elim (λ (h : In x xs). inl (inr h)) (λ (h : In x ys). inr h) (in_either x xs ys m)

-- ---- a context, and the token id that it is of

abbrev IsOf : SecurityContext → List OfToken → Type 0
IsOf held all = (c : OfToken) × In c all × (c.held ≡ held)

one_of : (token : List ℕ) (is_confirmed : Bool) (place : Option SecurityContext) (held : SecurityContext) → In held (listed place) → IsOf held (of_token token is_confirmed place)
one_of token is_confirmed None held here = absurd here
one_of token is_confirmed (Some other) held (inl same) = (record { token = token; is_confirmed = is_confirmed; held = other }, inl refl, sym same)
one_of token is_confirmed (Some other) held (inr m) = absurd m

of_front : (held : SecurityContext) (xs ys : List OfToken) → IsOf held xs → IsOf held (xs ++ ys)
of_front held xs ys it = (it.0, in_front it.0 xs ys it.1, it.2)

of_back : (held : SecurityContext) (xs ys : List OfToken) → IsOf held ys → IsOf held (xs ++ ys)
of_back held xs ys it = (it.0, in_back it.0 xs ys it.1, it.2)

with_token : (table : List TokenEntry) (held : SecurityContext) → In held (contexts table) → IsOf held (of_tokens table)
with_token [] held here = absurd here
with_token (entry ∷ table) held here = by (in_either held (listed entry.confirmed ++ listed entry.pending) (contexts table) here) (with_token table held)
  where
    its : In held (listed entry.confirmed) ⊎ In held (listed entry.pending)
        → IsOf held (of_token entry.id true entry.confirmed ++ of_token entry.id false entry.pending)
    its (inl m) = of_front held (of_token entry.id true entry.confirmed) (of_token entry.id false entry.pending) (one_of entry.id true entry.confirmed held m)
    its (inr m) = of_back held (of_token entry.id true entry.confirmed) (of_token entry.id false entry.pending) (one_of entry.id false entry.pending held m)

    by : In held (listed entry.confirmed ++ listed entry.pending) ⊎ In held (contexts table) → (In held (contexts table) → IsOf held (of_tokens table))
        → IsOf held (of_token entry.id true entry.confirmed ++ of_token entry.id false entry.pending ++ of_tokens table)
    by (inl m) rest =
        of_front held (of_token entry.id true entry.confirmed ++ of_token entry.id false entry.pending) (of_tokens table)
        (its (in_either held (listed entry.confirmed) (listed entry.pending) m))
    by (inr m) rest = of_back held (of_token entry.id true entry.confirmed ++ of_token entry.id false entry.pending) (of_tokens table) (rest m)

in_place : (token : List ℕ) (is_confirmed : Bool) (place : Option SecurityContext) (c : OfToken) → In c (of_token token is_confirmed place) → In c.held (listed place)
in_place token is_confirmed None c here = absurd here
in_place token is_confirmed (Some held) c (inl same) = inl (ap (λ (k : OfToken). k.held) same)
in_place token is_confirmed (Some held) c (inr m) = absurd m

without_token : (table : List TokenEntry) (c : OfToken) → In c (of_tokens table) → In c.held (contexts table)
without_token [] c here = absurd here
without_token (entry ∷ table) c here =
    by (in_either c (of_token entry.id true entry.confirmed ++ of_token entry.id false entry.pending) (of_tokens table) here) (without_token table c)
  where
    its : In c (of_token entry.id true entry.confirmed) ⊎ In c (of_token entry.id false entry.pending)
        → In c.held (listed entry.confirmed ++ listed entry.pending)
    its (inl m) = in_front c.held (listed entry.confirmed) (listed entry.pending) (in_place entry.id true entry.confirmed c m)
    its (inr m) = in_back c.held (listed entry.confirmed) (listed entry.pending) (in_place entry.id false entry.pending c m)

    by : In c (of_token entry.id true entry.confirmed ++ of_token entry.id false entry.pending) ⊎ In c (of_tokens table) → (In c (of_tokens table) → In c.held (contexts table))
        → In c.held (listed entry.confirmed ++ listed entry.pending ++ contexts table)
    by (inl m) rest =
        in_front c.held (listed entry.confirmed ++ listed entry.pending) (contexts table)
        (its (in_either c (of_token entry.id true entry.confirmed) (of_token entry.id false entry.pending) m))
    by (inr m) rest = in_back c.held (listed entry.confirmed ++ listed entry.pending) (contexts table) (rest m)

still_here : TakesNumbers → (on : Standing) (table : List TokenEntry) (held : SecurityContext) (answers : Bool) (last : LastAnswerState) → IsTable table → In held (contexts table)
    → In (taking last.number held) (contexts (answered_by answers held.name.client_id last table))
still_here law on table held answers last is here =
    let it : IsOf held (of_tokens table) = with_token table held here in
    subst (λ (h : SecurityContext). In (taking last.number h) (contexts (answered_by answers h.name.client_id last table))) it.2
    (without_token (answered_by answers it.0.held.name.client_id last table) (confirmed_by last.number it.0) (law on it.0 answers last table is it.1).here)

-- ---- its window

all_put : (P : ℕ → Type 0) (n : ℕ) (xs : List ℕ) → P n → All P xs → All P (put n xs)
all_put P n [] here all = All-cons P n [] here all
all_put P n (m ∷ ms) here all = by (nat_lt m n) (all_put P n ms here (All-tail P m ms all))
  where
    by : (b : Bool) → All P (put n ms) → All P (cond b (m ∷ put n ms) (n ∷ m ∷ ms))
    by true up = All-cons P m (put n ms) (All-head P m ms all) up
    by false up = All-cons P n (m ∷ ms) here all

fresh_still : (window : List ℕ) (number later : ℕ) → number < later → IsFresh window later → IsFresh (with_accepted window number) later
fresh_still window number later above fresh =
    let members : List ℕ = put number window in
    All-filter (is_near members) (λ (m : ℕ). (m ≢ later) × (m < later + width)) members
    (all_put (λ (m : ℕ). (m ≢ later) × (m < later + width)) number window ((λ same. omega (arith, above, same)), omega (arith, above)) fresh)

-- ---- both

pub holds_still : TakesNumbers → (on : Standing) (old new : Server) (held : SecurityContext) (number : ℕ) → IsTable old.desk.table → In held (contexts old.desk.table)
    → HasServed held.name.client_id number old.desk new.desk → HoldsStill new held number (taking number held)
holds_still law on old new held number is here kept = record {
  here = subst (λ (d : DeskState). In (taking number held) (contexts d.table)) (sym kept.kept)
      (subst (λ (n : ℕ). In (taking n held) (contexts (answered_by old.desk.rules.answers held.name.client_id kept.last old.desk.table))) kept.its
      (still_here law on old.desk.table held old.desk.rules.answers kept.last is here));
  name = refl;
  scope = refl;
  not_before = refl;
  expires = refl;
  revocation = refl;
  fresh = λ later above fresh. fresh_still held.window number later above fresh;
}
