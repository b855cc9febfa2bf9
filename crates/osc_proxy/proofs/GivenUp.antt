-- Exchanges whose forwarded message is given up: by the names of all messages that are given up, or by their own names alone.
use Rattle.std.proofs.Common.{◌≡◌, inl, inr, ℕ, zero, suc, ◌+◌, Bool, true, false, nat_eq, cond, ◌&&◌, ◌||◌, List, [], ◌∷◌, slice_index_or, refl, ap, ap₂, sym, subst, ◌∙◌, Option, Some, None}
use Rattle.std.specs.Prelude.{find, option_map}
use Rattle.std.specs.List.{list_any, filter_map, cons_option}
use Rattle.std.proofs.lemmas.Bool.{and_from, and_parts, cases_eq, eq-eqb, eqb-true, or_right}
use Rattle.std.proofs.lemmas.Option.{same_Some}
use Rattle.slab.specs.Slab.{entries_from}
use Rattle.osc_model.specs.{same_peer}
use Rattle.osc_model.specs.declared.node.Draw.{Draw}
use Rattle.osc_model.specs.declared.node.Moment.{Moment}
use Rattle.osc_model.specs.declared.node.Peer.{Peer}
use Rattle.osc_model.specs.declared.step.Datagram.{Datagram}
use Rattle.osc_message.specs.Ticks.{names}
use Rattle.osc_message.specs.declared.name.MessageName.{MessageName}
use Rattle.osc_proxy.specs.{AllEnd, entries, first_key, get, is_given_up, is_named, is_over, is_overdue, timed_out}
use Rattle.osc_proxy.specs.Exchanges.{Changes, Table}
use Rattle.osc_proxy.specs.Inner.Over.{own_given_up}
use Rattle.osc_proxy.specs.State.{State}
use Rattle.osc_proxy.specs.Ticks.AllEnd.{none_is, one_is}
use Rattle.osc_proxy.specs.declared.exchanges.Exchange.{Exchange}
use Rattle.osc_proxy.proofs.Its.{one_peer, peer_same}

-- ---- the names of one exchange

-- it is given up where it is confirmable, and its name is among them
among : (e : Exchange) (all : List MessageName) → is_given_up all e ≡ (e.confirmable && list_any (names e.target e.id) all)
among e [] = never e.confirmable
  where
    never : (b : Bool) → false ≡ (b && false)
    never true = refl
    never false = refl
among e (name ∷ all) = ap (λ b. is_named name.peer name.id e || b) (among e all) ∙ by e.confirmable (names e.target e.id name) (list_any (names e.target e.id) all)
  where
    by : (c n b : Bool) → ((c && n) || (c && b)) ≡ (c && (n || b))
    by true n b = refl
    by false n b = refl

abbrev own_names : List MessageName → List (ℕ × Exchange) → List MessageName
own_names all rest = filter_map (λ entry. own_given_up all entry.1) rest

-- where an exchange is given up, so is each of its name
named_so : (all : List MessageName) (x e : Exchange) → (x.confirmable && list_any (names x.target x.id) all) ≡ true → is_named x.target x.id e ≡ true
    → is_given_up all e ≡ true
named_so all x e over named =
    let parts = and_parts e.confirmable (same_peer e.target x.target && nat_eq e.id x.id) named in
    let both = and_parts (same_peer e.target x.target) (nat_eq e.id x.id) parts.1 in
    let found = (and_parts x.confirmable (list_any (names x.target x.id) all) over).1 in
    let here : list_any (names e.target e.id) all ≡ true =
    subst (λ (p : Peer). list_any (names p e.id) all ≡ true) (sym (one_peer e.target x.target both.0))
    (subst (λ i. list_any (names x.target i) all ≡ true) (sym (eqb-true e.id x.id both.1)) found) in
    among e all ∙ and_from e.confirmable (list_any (names e.target e.id) all) parts.0 here

only_those : (all : List MessageName) (e : Exchange) (rest : List (ℕ × Exchange)) → is_given_up (own_names all rest) e ≡ true → is_given_up all e ≡ true
only_those all e [] given = absurd (cc)
only_those all e ((k, x) ∷ rest) given = by (x.confirmable && list_any (names x.target x.id) all) refl given (only_those all e rest)
  where
    either : (a b : Bool) → (a || b) ≡ true → (a ≡ true → is_given_up all e ≡ true) → (b ≡ true → is_given_up all e ≡ true) → is_given_up all e ≡ true
    either true b given left right = left refl
    either false b given left right = right given

    by : (over : Bool) → (x.confirmable && list_any (names x.target x.id) all) ≡ over
        → is_given_up (cons_option (cond over (Some (record { peer = x.target; id = x.id })) None) (own_names all rest)) e ≡ true
        → (is_given_up (own_names all rest) e ≡ true → is_given_up all e ≡ true) → is_given_up all e ≡ true
    by true over given up = either (is_named x.target x.id e) (is_given_up (own_names all rest) e) given (named_so all x e over) up
    by false over given up = up given

its_own : (all : List MessageName) (e : Exchange) → is_given_up all e ≡ true → own_given_up all e ≡ Some (record { peer = e.target; id = e.id })
its_own all e given = ap (λ b. cond b (Some (record { peer = e.target; id = e.id })) None) (sym (among e all) ∙ given)

names_itself : (all : List MessageName) (e : Exchange) → is_given_up all e ≡ true → is_named e.target e.id e ≡ true
names_itself all e given =
    and_from e.confirmable (same_peer e.target e.target && nat_eq e.id e.id)
    (and_parts e.confirmable (list_any (names e.target e.id) all) (sym (among e all) ∙ given)).0
    (and_from (same_peer e.target e.target) (nat_eq e.id e.id) (peer_same e.target e.target refl) (eq-eqb e.id e.id refl))

behind : (all : List MessageName) (e : Exchange) (o : Option MessageName) (rest : List MessageName) → is_given_up rest e ≡ true → is_given_up (cons_option o rest) e ≡ true
behind all e None rest given = given
behind all e (Some name) rest given = or_right (is_named name.peer name.id e) (is_given_up rest e) given

found_there : (all : List MessageName) (e : Exchange) (slots : List (Option Exchange)) (base key : ℕ) → slice_index_or slots key None ≡ Some e → is_given_up all e ≡ true
    → is_given_up (own_names all (entries_from base slots)) e ≡ true
found_there all e [] base key is given = absurd (cc)
found_there all e (None ∷ rest) base zero is given = absurd (cc)
found_there all e (None ∷ rest) base (suc key) is given = found_there all e rest (base + 1) key is given
found_there all e (Some x ∷ rest) base zero is given =
    let same : x ≡ e = same_Some x e is in
    let own : own_given_up all x ≡ Some (record { peer = e.target; id = e.id }) = ap (own_given_up all) same ∙ its_own all e given in
    ap (λ (o : Option MessageName). is_given_up (cons_option o (own_names all (entries_from (base + 1) rest))) e) own
    ∙ ap (λ b. b || is_given_up (own_names all (entries_from (base + 1) rest)) e) (names_itself all e given)
found_there all e (Some x ∷ rest) base (suc key) is given =
    behind all e (own_given_up all x) (own_names all (entries_from (base + 1) rest)) (found_there all e rest (base + 1) key is given)

-- for an exchange that is open it is the same
pub given_up_same : (all : List MessageName) (table : Table) (key : ℕ) (e : Exchange) → get table key ≡ Some e
    → is_given_up (own_names all (entries table)) e ≡ is_given_up all e
given_up_same all table key e is = by (is_given_up all e) (is_given_up (own_names all (entries table)) e) refl refl
  where
    by : (a b : Bool) → is_given_up all e ≡ a → is_given_up (own_names all (entries table)) e ≡ b → b ≡ a
    by true true f g = refl
    by true false f g = let wrong : is_given_up (own_names all (entries table)) e ≡ true = found_there all e table.slots 0 key is f in absurd (cc)
    by false true f g = let wrong : is_given_up all e ≡ true = only_those all e (entries table) g in absurd (cc)
    by false false f g = refl

-- ---- the same exchanges end

first_from_same : (p q : Exchange → Bool) (slots : List (Option Exchange)) (base : ℕ) → ((key : ℕ) (e : Exchange) → slice_index_or slots key None ≡ Some e → p e ≡ q e)
    → find (λ entry. p entry.1) (entries_from base slots) ≡ find (λ entry. q entry.1) (entries_from base slots)
first_from_same p q [] base agree = refl
first_from_same p q (None ∷ rest) base agree = first_from_same p q rest (base + 1) (λ key e is. agree (suc key) e is)
first_from_same p q (Some x ∷ rest) base agree =
    ap₂ (λ b found. cond b (Some (base, x)) found) (agree zero x refl) (first_from_same p q rest (base + 1) (λ key e is. agree (suc key) e is))

first_same : (p q : Exchange → Bool) (table : Table) → ((key : ℕ) (e : Exchange) → get table key ≡ Some e → p e ≡ q e) → first_key p table ≡ first_key q table
first_same p q table agree = ap (λ found. option_map (λ entry. entry.0) found) (first_from_same p q table.slots 0 agree)

still : (a b : List MessageName) (old left : Table) (key : ℕ) → Changes old left key None
    → ((k : ℕ) (e : Exchange) → get old k ≡ Some e → is_given_up a e ≡ is_given_up b e) → (k : ℕ) (e : Exchange) → get left k ≡ Some e → is_given_up a e ≡ is_given_up b e
still a b old left key changes agree k e is =
    elim (cases_eq k key) [
      | inl same ↦
          let wrong : None ≡ Some e = sym changes.changed ∙ ap (get left) (sym same) ∙ is in
          absurd (cc)
      | inr differs ↦ agree k e (sym (changes.others k differs) ∙ is)
    ]

over_same : (now : Moment) (a b : List MessageName) (table : Table) → ((k : ℕ) (e : Exchange) → get table k ≡ Some e → is_given_up a e ≡ is_given_up b e)
    → first_key (is_over now a) table ≡ first_key (is_over now b) table
over_same now a b table agree = first_same (is_over now a) (is_over now b) table (λ k e is. ap (λ c. c || is_overdue now e) (agree k e is))

pub all_end_same : (now : Moment) (draw : Draw) (a b : List MessageName) (old new : State) (out : List Datagram) → AllEnd now draw a old out new
    → ((k : ℕ) (e : Exchange) → get old.exchanges k ≡ Some e → is_given_up a e ≡ is_given_up b e) → AllEnd now draw b old out new
all_end_same now draw a b old new out (none_is state none) agree = none_is state (sym (over_same now a b state.exchanges agree) ∙ none)
all_end_same now draw a b old new out (one_is was last left key exchange later found closes lawful rest) agree =
    one_is was last left key exchange later (sym (over_same now a b was.exchanges agree) ∙ found) closes lawful
    (all_end_same now draw a b (timed_out was now draw exchange left) last later rest (still a b was.exchanges left key closes.closed agree))
