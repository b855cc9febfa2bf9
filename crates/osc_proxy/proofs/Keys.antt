-- The lowest key whose exchange passes a test: one is open there.
use Rattle.std.proofs.Common.{◌≡◌, inl, inr, ℕ, zero, suc, ◌+◌, ◌<◌, Bool, true, false, List, [], ◌∷◌, refl, ap, sym, ◌∙◌, arith, Option, Some, None, slice_index_or}
use Rattle.std.specs.Prelude.{find, count_by, cond, is_some, option_map, if◌then◌else◌, nat_le, ◌||◌}
use Rattle.std.specs.List.{list_any, sum_by}
use Rattle.std.proofs.lemmas.Bool.{cases_Bool, or_parts}
use Rattle.std.proofs.lemmas.List.Sums.{sum_by-cons}
use Rattle.std.proofs.lemmas.Option.{same_Some}
use Rattle.slab.specs.Slab.{entries_from}
use Rattle.osc_model.specs.declared.node.Peer.{Peer}
use Rattle.osc_coap.specs.Message.{Message as CoapMessage}
use Rattle.osc_message.specs.{is_confirmable}
use Rattle.osc_proxy.specs.{count, entries, first_key, get, has_room, key_for}
use Rattle.osc_proxy.specs.Exchanges.{Table}
use Rattle.osc_proxy.specs.State.{State}
use Rattle.osc_proxy.specs.declared.exchanges.Exchange.{Exchange}

abbrev key_of : Option (ℕ × Exchange) → Option ℕ
key_of found = option_map (λ entry. entry.0) found

abbrev first_from : (Exchange → Bool) → ℕ → List (Option Exchange) → Option (ℕ × Exchange)
first_from test base slots = find (λ entry. test entry.1) (entries_from base slots)

record Found (test : Exchange → Bool) (slots : List (Option Exchange)) (base key : ℕ) : Type 0 where
  place : ℕ
  is : key ≡ base + place
  exchange : Exchange
  at : slice_index_or slots place None ≡ Some exchange
  passes : test exchange ≡ true

found : (test : Exchange → Bool) (slots : List (Option Exchange)) (base key : ℕ) → key_of (first_from test base slots) ≡ Some key → Found test slots base key
found test [] base key e = absurd (cc)
found test (None ∷ rest) base key e =
    let f = found test rest (base + 1) key e in
    record { place = suc f.place; is = omega (f.is, arith); exchange = f.exchange; at = f.at; passes = f.passes }
found test (Some exchange ∷ rest) base key e =
    let whole : key_of (cond (test exchange) (Some (base, exchange)) (first_from test (base + 1) rest)) ≡ Some key = e in
    elim (cases_Bool (test exchange)) [
      | inl passes ↦
          let here : Some base ≡ Some key = rw passes at whole in
          let same : base ≡ key = cc in
          record { place = zero; is = omega (same, arith); exchange = exchange; at = refl; passes = passes }
      | inr fails ↦
          let f = found test rest (base + 1) key (rw fails at whole) in
          record { place = suc f.place; is = omega (f.is, arith); exchange = f.exchange; at = f.at; passes = f.passes }
    ]

-- the exchange of that key, which passes
pub record IsThere (test : Exchange → Bool) (table : Table) (key : ℕ) : Type 0 where
  pub exchange : Exchange
  pub is : get table key ≡ Some exchange
  pub passes : test exchange ≡ true

pub first_is_there : (test : Exchange → Bool) (table : Table) (key : ℕ) → first_key test table ≡ Some key → IsThere test table key
first_is_there test table key e =
    let f = found test table.slots 0 key e in
    let same : key ≡ f.place = omega (f.is, arith) in
    record { exchange = f.exchange; is = ap (get table) same ∙ f.at; passes = f.passes }

abbrev present : Option Exchange → ℕ
present slot = cond (is_some slot) 1 0

none_from : (test : Exchange → Bool) (slots : List (Option Exchange)) (base : ℕ) → count_by is_some slots ≡ 0 → key_of (first_from test base slots) ≡ None
none_from test [] base e = refl
none_from test (None ∷ rest) base e =
    let less : 0 + sum_by present rest ≡ sum_by present (None ∷ rest) = sym (sum_by-cons present None rest) in
    none_from test rest (base + 1) (omega (arith, less, e))
none_from test (Some exchange ∷ rest) base e =
    let more : 1 + sum_by present rest ≡ sum_by present (Some exchange ∷ rest) = sym (sum_by-cons present (Some exchange) rest) in
    absurd (omega (arith, more, e))

-- where no exchange is open there is none
pub none_is_there : (test : Exchange → Bool) (table : Table) → count table ≡ 0 → first_key test table ≡ None
none_is_there test table e = none_from test table.slots 0 e

first_fails : (test : Exchange → Bool) (first : Exchange) (base : ℕ) (rest : List (Option Exchange))
    → key_of (cond (test first) (Some (base, first)) (first_from test (base + 1) rest)) ≡ None
    → (test first ≡ false) × (key_of (first_from test (base + 1) rest) ≡ None)
first_fails test first base rest none =
    elim (cases_Bool (test first)) [
      | inl passes ↦
          let wrong : Some base ≡ None = rw passes at none in
          absurd (cc)
      | inr fails ↦ (fails, rw fails at none)
    ]

none_at : (test : Exchange → Bool) (slots : List (Option Exchange)) (base : ℕ) → key_of (first_from test base slots) ≡ None
    → (key : ℕ) (exchange : Exchange) → slice_index_or slots key None ≡ Some exchange → test exchange ≡ false
none_at test [] base none key exchange is = absurd (cc)
none_at test (None ∷ rest) base none zero exchange is = absurd (cc)
none_at test (None ∷ rest) base none (suc key) exchange is = none_at test rest (base + 1) none key exchange is
none_at test (Some first ∷ rest) base none key exchange is =
    behind (first_fails test first base rest none) (none_at test rest (base + 1)) key is
  where
    behind : (test first ≡ false) × (key_of (first_from test (base + 1) rest) ≡ None)
        → (key_of (first_from test (base + 1) rest) ≡ None → (k : ℕ) (e : Exchange) → slice_index_or rest k None ≡ Some e → test e ≡ false)
        → (k : ℕ) → slice_index_or (Some first ∷ rest) k None ≡ Some exchange → test exchange ≡ false
    behind fails later zero here = ap test (sym (same_Some first exchange here)) ∙ fails.0
    behind fails later (suc k) there = later fails.1 k exchange there

-- where no key is found, no exchange passes
pub none_passes : (test : Exchange → Bool) (table : Table) → first_key test table ≡ None → (key : ℕ) (exchange : Exchange) → get table key ≡ Some exchange
    → test exchange ≡ false
none_passes test table none key exchange is = none_at test table.slots 0 none key exchange is

no_entry : (test : Exchange → Bool) (rest : List (ℕ × Exchange)) → list_any (λ entry. test entry.1) rest ≡ false
    → key_of (find (λ entry. test entry.1) rest) ≡ None
no_entry test [] none = refl
no_entry test (entry ∷ rest) none =
    let both = or_parts (test entry.1) (list_any (λ e. test e.1) rest) none in
    rw both.0 (no_entry test rest both.1)

-- where no exchange passes, no key is found
pub none_found : (test : Exchange → Bool) (table : Table) → list_any (λ entry. test entry.1) (entries table) ≡ false → first_key test table ≡ None
none_found test table none = no_entry test (entries table) none

any_none : (test : Exchange → Bool) (rest : List (ℕ × Exchange)) → key_of (find (λ entry. test entry.1) rest) ≡ None
    → list_any (λ entry. test entry.1) rest ≡ false
any_none test [] none = refl
any_none test (entry ∷ rest) none =
    elim (cases_Bool (test entry.1)) [
      | inl passes ↦
          let wrong : Some entry.0 ≡ None = rw passes at none in
          absurd (cc)
      | inr fails ↦ rw fails (any_none test rest (rw fails at none))
    ]

-- an exchange passes
pub record SomeThere (test : Exchange → Bool) (table : Table) : Type 0 where
  pub key : ℕ
  pub there : IsThere test table key

pub some_found : (test : Exchange → Bool) (table : Table) → list_any (λ entry. test entry.1) (entries table) ≡ true → SomeThere test table
some_found test table any = by (first_key test table) refl
  where
    by : (found : Option ℕ) → first_key test table ≡ found → SomeThere test table
    by None e =
        let wrong : true ≡ false = sym any ∙ any_none test (entries table) e in
        absurd (cc)
    by (Some key) e = record { key = key; there = first_is_there test table key e }

pub there_any : (test : Exchange → Bool) (table : Table) (key : ℕ) (exchange : Exchange) → get table key ≡ Some exchange → test exchange ≡ true
    → list_any (λ entry. test entry.1) (entries table) ≡ true
there_any test table key exchange is passes =
    elim (cases_Bool (list_any (λ entry. test entry.1) (entries table))) [
      | inl some ↦ some
      | inr none ↦
          let wrong : true ≡ false = sym passes ∙ none_passes test table (none_found test table none) key exchange is in
          absurd (cc)
    ]

none_counted : (slots : List (Option Exchange)) (base : ℕ) → key_of (first_from (λ _. true) base slots) ≡ None → count_by is_some slots ≡ 0
none_counted [] base none = refl
none_counted (None ∷ rest) base none =
    let less : 0 + sum_by present rest ≡ sum_by present (None ∷ rest) = sym (sum_by-cons present None rest) in
    omega (arith, less, none_counted rest (base + 1) none)
none_counted (Some exchange ∷ rest) base none = absurd (cc)

-- where one is open there is one
pub one_open : (table : Table) → 0 < count table → list_any (λ _. true) (entries table) ≡ true
one_open table some = by (first_key (λ _. true) table) refl
  where
    by : (found : Option ℕ) → first_key (λ _. true) table ≡ found → list_any (λ _. true) (entries table) ≡ true
    by None e = absurd (omega (arith, some, none_counted table.slots 0 e))
    by (Some key) e =
        let there = first_is_there (λ _. true) table key e in
        there_any (λ _. true) table key there.exchange there.is refl

one_key : (room full : Bool) (next key : ℕ) → (if room then (if full then None else Some next) else None) ≡ Some key → next ≡ key
one_key true true next key e = absurd (cc)
one_key true false next key e = same_Some next key e
one_key false full next key e = absurd (cc)

-- the key of the exchange of a request is the next one
pub next_is : (old : State) (message : CoapMessage) (to : Peer) (key : ℕ) → key_for old message to ≡ Some key → old.exchanges.next ≡ key
next_is old message to key e =
    one_key (has_room (is_confirmable message.kind) to old.endpoint) (nat_le 64 (count old.exchanges) || nat_le 256 old.exchanges.next) old.exchanges.next key e
