-- What is done to a table keeps its law.
use Rattle.std.proofs.Common.{◌≡◌, ◌≢◌, ℕ, ◌*◌, ◌<◌, ◌≤◌, Bool, true, false, cond, ◌||◌, List, [], ◌∷◌, ◌++◌, length, map, filter, Option, Some, None, option_map, inl, inr, refl, sym, ap, ap₂, ◌∙◌, append_assoc, arith}
use Rattle.std.specs.List.{AllByRecursion, Contains, IsDistinct, list_any}
use Rattle.std.specs.Option.{option_map_or}
use Rattle.std.specs.Str.{bytes_eq}
use Rattle.std.proofs.lemmas.Bool.{false_from_ne_true, cases_lt, cond-false}
use Rattle.std.proofs.lemmas.Cmp.{nat_list_eq_equiv}
use Rattle.std.proofs.lemmas.List.{map-append, length-map, length-append}
use Rattle.std.proofs.lemmas.List.Elements.{All-nil, All-from_recursion, recursion_from_All, Contains-append_right}
use Rattle.std.proofs.lemmas.Map.Keys.{IsDistinct-push}
use Rattle.std.proofs.lemmas.Slice.Eq.{bytes_eq-Decides}
use Rattle.osc_model.specs.declared.context.ContextName.{ContextName}
use Rattle.osc_authz.specs.Standing.{Standing}
use Rattle.osc_authz.specs.declared.token_entry.TokenEntry.{TokenEntry}
use Rattle.osc_authz.specs.SecurityContext.{SecurityContext}
use Rattle.osc_authz.specs.declared.agreed_post.AgreedPost.{AgreedPost}
use Rattle.osc_authz.specs.{IsTable, IsLawfulContext, IsFull, IsLeastFree, accepted, accepted_in, alive, contexts, has_id, has_token, holds_live, ids, listed, taking, without_pending, without_pending_in, with_pending}
use Rattle.osc_authz.proofs.Parts.{Part, none, part_whole, part_nothing, part_append, part_back, part_map, part_filter, part_length, part_all, part_distinct}

pub empty_table : IsTable []
unfolding IsDistinct
empty_table = record { few = omega arith; own_tokens = tt; own_ids = tt; lawful = All-nil IsLawfulContext }

-- ---- a table is lawful by its token ids and the names of its contexts

abbrev pub tokens : List TokenEntry → List (List ℕ)
tokens table = map (λ entry. entry.id) table

abbrev names_in : TokenEntry → List ContextName
names_in entry = map (λ held. held.name) (listed entry.confirmed ++ listed entry.pending)

abbrev names : List TokenEntry → List ContextName
names table = map (λ held. held.name) (contexts table)

record IsLawfulName (name : ContextName) : Type 0 where
  byte : ℕ
  one_byte : name.client_id ≡ byte ∷ []
  apart : name.client_id ≢ name.server_id

ids_by_names : (table : List TokenEntry) → map (λ name. name.client_id) (names table) ≡ ids table
ids_by_names table = one (contexts table)
  where
    one : (held : List SecurityContext) → map (λ name. name.client_id) (map (λ held. held.name) held) ≡ map (λ held. held.name.client_id) held
    one [] = refl
    one (x ∷ xs) = ap (λ ids. x.name.client_id ∷ ids) (one xs)

names_lawful : (held : List SecurityContext) → AllByRecursion IsLawfulContext held → AllByRecursion IsLawfulName (map (λ held. held.name) held)
names_lawful [] all = tt
names_lawful (x ∷ xs) all = (record { byte = all.0.byte; one_byte = all.0.one_byte; apart = all.0.apart }, names_lawful xs all.1)

contexts_lawful : (held : List SecurityContext) → AllByRecursion IsLawfulName (map (λ held. held.name) held) → AllByRecursion IsLawfulContext held
contexts_lawful [] all = tt
contexts_lawful (x ∷ xs) all = (record { byte = all.0.byte; one_byte = all.0.one_byte; apart = all.0.apart }, contexts_lawful xs all.1)

-- A table with parts of another's token ids and names is lawful where that is.
pub part_is_table : (some all : List TokenEntry) → Part (tokens some) (tokens all) → Part (names some) (names all) → IsTable all → IsTable some
part_is_table some all by_tokens by_names table = record {
  few = omega (arith, part_length by_tokens, length-map some (λ entry. entry.id), length-map all (λ entry. entry.id), table.few);
  own_tokens = part_distinct bytes_eq by_tokens table.own_tokens;
  own_ids = rw (← ids_by_names some) (part_distinct bytes_eq (part_map (λ name. name.client_id) by_names) (rw (← ids_by_names all) at table.own_ids));
  lawful =
      let old = All-from_recursion IsLawfulName (names all) (names_lawful (contexts all) (recursion_from_All IsLawfulContext (contexts all) table.lawful)) in
      let new = part_all IsLawfulName by_names old in
      All-from_recursion IsLawfulContext (contexts some) (contexts_lawful (contexts some) (recursion_from_All IsLawfulName (names some) new));
}

-- ---- some of the entries

names_cons : (entry : TokenEntry) (table : List TokenEntry) → names (entry ∷ table) ≡ names_in entry ++ names table
names_cons entry table = map-append (λ held. held.name) (listed entry.confirmed ++ listed entry.pending) (contexts table)

filtered_names : (test : TokenEntry → Bool) (table : List TokenEntry) → Part (names (filter test table)) (names table)
filtered_names test [] = none
filtered_names test (entry ∷ table) = by (test entry) (filtered_names test table)
  where
    by : (b : Bool) → Part (names (filter test table)) (names table) → Part (names (cond b (entry ∷ filter test table) (filter test table))) (names (entry ∷ table))
    by true rest = rw (names_cons entry (filter test table), names_cons entry table) (part_append (part_whole (names_in entry)) rest)
    by false rest = rw (names_cons entry table) (part_back (names_in entry) rest)

pub filtered_is_table : (test : TokenEntry → Bool) (table : List TokenEntry) → IsTable table → IsTable (filter test table)
filtered_is_table test table is_table =
    part_is_table (filter test table) table (part_map (λ entry. entry.id) (part_filter test table)) (filtered_names test table) is_table

pub alive_is_table : (now : Standing) (table : List TokenEntry) → IsTable table → IsTable (alive now table)
alive_is_table now table is_table = filtered_is_table (holds_live now) table is_table

-- ---- another entry in the place of each

module _ (change : TokenEntry → TokenEntry) (same : (entry : TokenEntry) → (change entry).id ≡ entry.id) (fewer : (entry : TokenEntry) → Part (names_in (change entry)) (names_in entry)) where
  changed_tokens : (table : List TokenEntry) → tokens (map change table) ≡ tokens table
  changed_tokens [] = refl
  changed_tokens (entry ∷ table) = ap₂ (λ (id : List ℕ) (ids : List (List ℕ)). id ∷ ids) (same entry) (changed_tokens table)

  changed_names : (table : List TokenEntry) → Part (names (map change table)) (names table)
  changed_names [] = none
  changed_names (entry ∷ table) =
      rw (names_cons (change entry) (map change table), names_cons entry table) (part_append (fewer entry) (changed_names table))

  changed_is_table : (table : List TokenEntry) → IsTable table → IsTable (map change table)
  changed_is_table table is_table = part_is_table (map change table) table (rw (changed_tokens table) (part_whole (tokens table))) (changed_names table) is_table

same_id : (id : List ℕ) (number : ℕ) (entry : TokenEntry) → (accepted_in id number entry).id ≡ entry.id
same_id id number entry = by (option_map_or (has_id id) entry.pending false) (option_map_or (has_id id) entry.confirmed false)
  where
    by : (p c : Bool) → (cond p (record entry { confirmed = option_map (taking number) entry.pending; pending = None; last = None }) (cond c (record entry { confirmed = option_map (taking number) entry.confirmed; last = None }) entry)).id ≡ entry.id
    by true c = refl
    by false true = refl
    by false false = refl

-- what takes a number keeps its name
taken_names : (number : ℕ) (context : Option SecurityContext) → map (λ held. held.name) (listed (option_map (taking number) context)) ≡ map (λ held. held.name) (listed context)
taken_names number None = refl
taken_names number (Some held) = refl

fewer_names : (id : List ℕ) (number : ℕ) (entry : TokenEntry) → Part (names_in (accepted_in id number entry)) (names_in entry)
fewer_names id number entry = by (option_map_or (has_id id) entry.pending false) (option_map_or (has_id id) entry.confirmed false)
  where
    front : List ContextName
    front = map (λ held. held.name) (listed entry.confirmed)

    back : List ContextName
    back = map (λ held. held.name) (listed entry.pending)

    in_two : names_in entry ≡ front ++ back
    in_two = map-append (λ held. held.name) (listed entry.confirmed) (listed entry.pending)

    alone : (context : Option SecurityContext) → map (λ held. held.name) (listed (option_map (taking number) context) ++ []) ≡ map (λ held. held.name) (listed context)
    alone None = refl
    alone (Some held) = refl

    with_back : map (λ held. held.name) (listed (option_map (taking number) entry.confirmed) ++ listed entry.pending) ≡ front ++ back
    with_back = map-append (λ held. held.name) (listed (option_map (taking number) entry.confirmed)) (listed entry.pending) ∙ ap (λ xs. xs ++ back) (taken_names number entry.confirmed)

    by : (p c : Bool) → Part (names_in (cond p (record entry { confirmed = option_map (taking number) entry.pending; pending = None; last = None }) (cond c (record entry { confirmed = option_map (taking number) entry.confirmed; last = None }) entry))) (names_in entry)
    by true c = rw (alone entry.pending, in_two) (part_back front (part_whole back))
    by false true = rw (with_back, in_two) (part_whole (front ++ back))
    by false false = part_whole (names_in entry)

pub accepted_is_table : (id : List ℕ) (number : ℕ) (table : List TokenEntry) → IsTable table → IsTable (accepted id number table)
accepted_is_table id number table is_table = changed_is_table (accepted_in id number) (same_id id number) (fewer_names id number) table is_table

pub accepted_tokens : (id : List ℕ) (number : ℕ) (table : List TokenEntry) → tokens (accepted id number table) ≡ tokens table
accepted_tokens id number table = changed_tokens (accepted_in id number) (same_id id number) (fewer_names id number) table

-- ---- without a pending context

still_id : (token : List ℕ) (entry : TokenEntry) → (without_pending_in token entry).id ≡ entry.id
still_id token entry = by (bytes_eq token entry.id)
  where
    by : (b : Bool) → (cond b (record entry { pending = None }) entry).id ≡ entry.id
    by true = refl
    by false = refl

some_names : (token : List ℕ) (entry : TokenEntry) → Part (names_in (without_pending_in token entry)) (names_in entry)
some_names token entry = by (bytes_eq token entry.id)
  where
    by : (b : Bool) → Part (names_in (cond b (record entry { pending = None }) entry)) (names_in entry)
    by true = part_map (λ held. held.name) (part_append (part_whole (listed entry.confirmed)) (part_nothing (listed entry.pending)))
    by false = part_whole (names_in entry)

pub without_pending_is_table : (token : List ℕ) (table : List TokenEntry) → IsTable table → IsTable (without_pending token table)
without_pending_is_table token table is_table = changed_is_table (without_pending_in token) (still_id token) (some_names token) table is_table

-- a table has at most two contexts of each token id
pub two_each : (table : List TokenEntry) → length (contexts table) ≤ 2 * length table
two_each [] = omega arith
two_each (entry ∷ table) = omega (arith, two_each table, length-append (listed entry.confirmed ++ listed entry.pending) (contexts table), length-append (listed entry.confirmed) (listed entry.pending), one entry.confirmed, one entry.pending)
  where
    one : (context : Option SecurityContext) → length (listed context) ≤ 1
    one None = omega arith
    one (Some held) = omega arith

-- ---- with one more pending context

-- where a token id isn't in the table, none of its entries is changed
module _ (token : List ℕ) where
  apart_tokens : (table : List TokenEntry) → AllByRecursion (λ id. bytes_eq token id ≡ false) (tokens table) → without_pending token table ≡ table
  apart_tokens [] apart = refl
  apart_tokens (entry ∷ table) apart = ap₂ (λ (h : TokenEntry) (t : List TokenEntry). h ∷ t) (cond-false (bytes_eq token entry.id) (record entry { pending = None }) entry apart.0) (apart_tokens table apart.1)

-- the contexts with one more are those without the pending one, and the new one among them
record IsAdded (held : SecurityContext) (others all : List SecurityContext) : Type 0 where
  before : List SecurityContext
  after : List SecurityContext
  with_one : all ≡ before ++ held ∷ after
  without_one : others ≡ before ++ after

added : (token : List ℕ) (held : SecurityContext) (remember : List AgreedPost → List AgreedPost) (table : List TokenEntry) → IsDistinct bytes_eq (tokens table) → IsAdded held (contexts (without_pending token table)) (contexts (with_pending token held remember table))
unfolding IsDistinct
added token held remember [] apart = record { before = []; after = []; with_one = refl; without_one = refl }
added token held remember (entry ∷ table) apart = by (bytes_eq token entry.id) refl (added token held remember table apart.1)
  where
    here : without_pending token table ≡ table → IsAdded held (contexts ((record entry { pending = None }) ∷ without_pending token table)) (contexts ((record entry { pending = Some held; posts = remember entry.posts }) ∷ table))
    here others = record {
      before = listed entry.confirmed;
      after = contexts table;
      with_one = append_assoc (listed entry.confirmed) (held ∷ []) (contexts table);
      without_one = append_assoc (listed entry.confirmed) [] (contexts (without_pending token table)) ∙ ap (λ t. listed entry.confirmed ++ contexts t) others;
    }

    by : (b : Bool) → bytes_eq token entry.id ≡ b → IsAdded held (contexts (without_pending token table)) (contexts (with_pending token held remember table))
        → IsAdded held (contexts (cond b (record entry { pending = None }) entry ∷ without_pending token table)) (contexts (cond b ((record entry { pending = Some held; posts = remember entry.posts }) ∷ table) (entry ∷ with_pending token held remember table)))
    by true same rest =
        let token_is : token ≡ entry.id = (bytes_eq-Decides token entry.id).0 same in
        here (apart_tokens token table (rw token_is apart.0))
    by false other rest =
        let mine : List SecurityContext = listed entry.confirmed ++ listed entry.pending in
        record {
          before = mine ++ rest.before;
          after = rest.after;
          with_one = ap (λ xs. mine ++ xs) rest.with_one ∙ sym (append_assoc mine rest.before (held ∷ rest.after));
          without_one = ap (λ xs. mine ++ xs) rest.without_one ∙ sym (append_assoc mine rest.before rest.after);
        }

-- what isn't there has no equal there
none_equal : (y : List ℕ) (xs : List (List ℕ)) → ¬ Contains xs y → AllByRecursion (λ x. bytes_eq y x ≡ false) xs
none_equal y [] absent = tt
none_equal y (x ∷ xs) absent = (false_from_ne_true (bytes_eq y x) here, none_equal y xs (λ there. absent (Contains-append_right (x ∷ []) xs y there)))
  where
    here : bytes_eq y x ≡ true → ⊥
    here same = absent (0, omega arith, sym ((bytes_eq-Decides y x).0 same))

-- one more among others
each_among : {X : Type 0} (P : X → Type 0) (y : X) (xs zs : List X) → P y → AllByRecursion P (xs ++ zs) → AllByRecursion P (xs ++ y ∷ zs)
each_among P y [] zs here all = (here, all)
each_among P y (x ∷ xs) zs here all = (all.0, each_among P y xs zs here all.1)

distinct_among : (y : List ℕ) (xs zs : List (List ℕ)) → AllByRecursion (λ x. bytes_eq y x ≡ false) (xs ++ zs) → IsDistinct bytes_eq (xs ++ zs) → IsDistinct bytes_eq (xs ++ y ∷ zs)
unfolding IsDistinct
distinct_among y [] zs other apart = (other, apart)
distinct_among y (x ∷ xs) zs other apart =
    (each_among (λ z. bytes_eq x z ≡ false) y xs zs (nat_list_eq_equiv.symm x y ∙ other.0) apart.0, distinct_among y xs zs other.1 apart.1)

pub with_pending_tokens : (token : List ℕ) (held : SecurityContext) (remember : List AgreedPost → List AgreedPost) (table : List TokenEntry) → tokens (with_pending token held remember table) ≡ cond (has_token token table) (tokens table) (tokens table ++ token ∷ [])
with_pending_tokens token held remember [] = refl
with_pending_tokens token held remember (entry ∷ table) = by (bytes_eq token entry.id) (has_token token table) (with_pending_tokens token held remember table)
  where
    by : (b there : Bool) → tokens (with_pending token held remember table) ≡ cond there (tokens table) (tokens table ++ token ∷ [])
        → tokens (cond b ((record entry { pending = Some held; posts = remember entry.posts }) ∷ table) (entry ∷ with_pending token held remember table)) ≡ cond (b || there) (tokens (entry ∷ table)) (tokens (entry ∷ table) ++ token ∷ [])
    by true there rest = refl
    by false true rest = ap (λ ids. entry.id ∷ ids) rest
    by false false rest = ap (λ ids. entry.id ∷ ids) rest

pub has_token_is : (token : List ℕ) (table : List TokenEntry) → list_any (bytes_eq token) (tokens table) ≡ has_token token table
has_token_is token [] = refl
has_token_is token (entry ∷ table) = ap (λ there. bytes_eq token entry.id || there) (has_token_is token table)

-- With a pending context of a token id for which there is room, and of a recipient ID that is free, a table is one.
pub with_pending_is_table : (reserved : Option (List ℕ)) (token client_id : List ℕ) (held : SecurityContext) (remember : List AgreedPost → List AgreedPost) (byte : ℕ) (table : List TokenEntry) → IsTable table → ¬ IsFull reserved token table
    → IsLeastFree (client_id ∷ ids (without_pending token table)) byte → held.name.client_id ≡ byte ∷ [] → held.name.server_id ≡ client_id
    → IsTable (with_pending token held remember table)
with_pending_is_table reserved token client_id held remember byte table is_table room free recipient sender = record {
  few = few (has_token token table) refl;
  own_tokens = rw (with_pending_tokens token held remember table) (own_tokens (has_token token table) refl);
  own_ids = rw (split.with_one, map-append client_id_of split.before (held ∷ split.after)) (distinct_among held.name.client_id (map client_id_of split.before) (map client_id_of split.after) (none_equal held.name.client_id (map client_id_of split.before ++ map client_id_of split.after) (rw (← others) absent)) (rw others at old.own_ids));
  lawful = rw split.with_one (All-from_recursion IsLawfulContext (split.before ++ held ∷ split.after) (each_among IsLawfulContext held split.before split.after lawful (recursion_from_All IsLawfulContext (split.before ++ split.after) (rw split.without_one at old.lawful))));
}
  where
    client_id_of : SecurityContext → List ℕ
    client_id_of = λ held. held.name.client_id

    few : (b : Bool) → has_token token table ≡ b → length (with_pending token held remember table) ≤ 64
    few true there =
        omega (arith, length-map (with_pending token held remember table) (λ entry. entry.id), length-map table (λ entry. entry.id), ap length (with_pending_tokens token held remember table ∙ ap (λ b. cond b (tokens table) (tokens table ++ token ∷ [])) there), is_table.few)
    few false absent =
        let short : length table < 64 = elim (cases_lt (length table) 64) [ inl less ↦ less | inr many ↦ absurd (room (record { many = omega (arith, many); new = absent })) ] in
        omega (arith, length-map (with_pending token held remember table) (λ entry. entry.id), length-map table (λ entry. entry.id), ap length (with_pending_tokens token held remember table ∙ ap (λ b. cond b (tokens table) (tokens table ++ token ∷ [])) absent), length-append (tokens table) (token ∷ []), short)

    own_tokens : (b : Bool) → has_token token table ≡ b → IsDistinct bytes_eq (cond b (tokens table) (tokens table ++ token ∷ []))
    own_tokens true there = is_table.own_tokens
    own_tokens false absent = IsDistinct-push nat_list_eq_equiv (tokens table) token is_table.own_tokens (has_token_is token table ∙ absent)

    old : IsTable (without_pending token table)
    old = without_pending_is_table token table is_table

    split : IsAdded held (contexts (without_pending token table)) (contexts (with_pending token held remember table))
    split = added token held remember table is_table.own_tokens

    others : ids (without_pending token table) ≡ map client_id_of split.before ++ map client_id_of split.after
    others = ap (map client_id_of) split.without_one ∙ map-append client_id_of split.before split.after

    absent : Contains (ids (without_pending token table)) held.name.client_id → ⊥
    absent there = free.free (Contains-append_right (client_id ∷ []) (ids (without_pending token table)) (byte ∷ []) (rw recipient at there))

    lawful : IsLawfulContext held
    lawful = record {
      byte = byte;
      one_byte = recipient;
      apart = λ same. free.free (0, omega arith, sym (sym recipient ∙ same ∙ sender));
    }

-- the same once the token ids without a live context have gone
pub added_is_table : (reserved : Option (List ℕ)) (token client_id : List ℕ) (now : Standing) (held : SecurityContext) (remember : List AgreedPost → List AgreedPost) (byte : ℕ) (table : List TokenEntry) → IsTable table → ¬ IsFull reserved token (alive now table)
    → IsLeastFree (client_id ∷ ids (without_pending token (alive now table))) byte → held.name.client_id ≡ byte ∷ [] → held.name.server_id ≡ client_id
    → IsTable (with_pending token held remember (alive now table))
added_is_table reserved token client_id now held remember byte table is_table room free recipient sender =
    with_pending_is_table reserved token client_id held remember byte (alive now table) (alive_is_table now table is_table) room free recipient sender
