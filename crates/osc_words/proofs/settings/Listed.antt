-- Values in a row, and what each stands for.
use Rattle.std.proofs.Common.{◌≡◌, ℕ, zero, suc, ◌+◌, ◌<◌, List, [], ◌∷◌, ◌++◌, length, get_or, take, Option, Some, None, Result, Ok, Err, refl, sym, ap, subst, ◌∙◌, inl, arith, MatchResult}
use Rattle.std.proofs.lemmas.List.{length-take-le, take_more}
use Rattle.std.specs.Option.{is_some, option_and_then}
use Rattle.toml.specs.Data.{Data, Items, Members, array, as_array, get_member}
use Rattle.toml.specs.View.{view, items_view}
use Rattle.toml.specs.declared.value.Value.{Value}
use Rattle.osc_words.specs.Settings.{StandForEach, ListedAt, IsArrayAt, IsFaultAt, IsFirstFault, IsItemFault, IsKeyFault, name_of, IsTargetTable}
use Rattle.osc_words.specs.Settings.Inner.Reading.{AreTargetsRefused, IsItemRefused, IsRefusal, IsRefusedAs, read_at, untyped_at}
use Rattle.osc_words.specs.declared.settings.error.KeyFault.{KeyFault}
use Rattle.osc_words.specs.declared.settings.error.SettingsError.{SettingsError}
use Rattle.osc_words.specs.declared.settings.error.SettingsError.TheVariants as error
use Rattle.osc_words.specs.declared.settings.error.SettingsError.TheVariants.{NotToml, Key, Target}
use Rattle.osc_words.specs.declared.settings.error.ValueError.{ValueError}
use Rattle.osc_words.specs.declared.settings.error.ValueError.TheVariants.{Bad, Memory}
use Rattle.osc_words.specs.declared.settings.key.SettingsKey.{SettingsKey}
use Rattle.osc_words.specs.declared.settings.key.SettingsKey.TheVariants as key
use Rattle.osc_words.specs.declared.settings.proxy.TargetSetting.{TargetSetting}
use Rattle.osc_words.proofs.settings.Spelled.{items_there, no_items_there, untyped_as}

pushed : {X : Type 0} (Stands : Data → X → Type 0) (ds : List Value) (d : Value) (xs : List X) (x : X)
    → StandForEach Stands (items_view ds) xs → Stands (view d) x → StandForEach Stands (items_view (ds ++ d ∷ [])) (xs ++ x ∷ [])
pushed Stands [] d [] x h s = (s, tt)
pushed Stands [] d (y ∷ xs) x h s = absurd h
pushed Stands (c ∷ ds) d [] x h s = absurd h
pushed Stands (c ∷ ds) d (y ∷ xs) x h s = (h.0, pushed Stands ds d xs x h.1 s)

-- one more
pub one_more : {X : Type 0} (Stands : Data → X → Type 0) (ds : List Value) (i : ℕ) (d : Value) (xs new : List X) (x : X) → i < length ds → d ≡ get_or ds i d
    → StandForEach Stands (items_view (take i ds)) xs → Stands (view d) x → new ≡ xs ++ x ∷ [] → StandForEach Stands (items_view (take (i + 1) ds)) new
one_more Stands ds i d xs new x lt is h s added =
    let more : take (i + 1) ds ≡ take i ds ++ d ∷ [] = take_more ds i d lt ∙ ap (λ v. take i ds ++ v ∷ []) (sym is) in
    rw (added, more) (pushed Stands (take i ds) d xs x h s)

none_at : {X : Type 0} (Stands : Data → X → Type 0) (ds : List Value) (i : ℕ) (d : Value) → i < length ds
    → ((x : X) → Stands (view (get_or ds i d)) x → ⊥) → (xs : List X) → StandForEach Stands (items_view ds) xs → ⊥
none_at Stands [] i d lt none xs h = absurd (omega arith)
none_at Stands (c ∷ ds) i d lt none [] h = h
none_at Stands (c ∷ ds) zero d lt none (x ∷ xs) h = none x h.0
none_at Stands (c ∷ ds) (suc i) d lt none (x ∷ xs) h = none_at Stands ds i d (omega arith) none xs h.1

-- one that means nothing
none_stands : {X : Type 0} (Stands : Data → X → Type 0) (ds : List Value) (i : ℕ) (d : Value) → i < length ds → d ≡ get_or ds i d
    → ((x : X) → ¬ Stands (view d) x) → (xs : List X) → ¬ StandForEach Stands (items_view ds) xs
none_stands Stands ds i d lt is none = none_at Stands ds i d lt (λ x s. none x (subst (λ v. Stands (view v) x) (sym is) s))

pub none_stand : {X : Type 0} (Stands : Data → X → Type 0) (ds : List Value) (i : ℕ) (d : Value) (error : ValueError) → i < length ds → d ≡ get_or ds i d
    → IsRefusal (Stands (view d)) error → IsRefusal (StandForEach Stands (items_view ds)) error
none_stand Stands ds i d Bad lt is none = none_stands Stands ds i d lt is none
none_stand Stands ds i d Memory lt is none = tt

-- ---- at a key

one_array : (found : Option Data) (items others : Items) → found ≡ Some (array items) → found ≡ Some (array others) → others ≡ items
one_array found items others e f = cc

read_list : {X R : Type 0} (key : SettingsKey) (Stands : Data → X → Type 0) (listed : R → List X) (document : Members) (items : Items) (r : Result R ValueError)
    → option_and_then as_array (get_member (name_of key) document) ≡ Some items
    → MatchResult r (λ x. StandForEach Stands items (listed x)) (IsRefusal (StandForEach Stands items))
    → MatchResult (read_at key r) (λ x. ListedAt (name_of key) Stands document (listed x)) (IsKeyFault (IsFaultAt key (λ name. ListedAt name Stands) document))
read_list key Stands listed document items (Ok x) e h = (items, items_there (name_of key) document items e, h)
read_list key Stands listed document items (Err Bad) e h = inl (
  ap is_some (items_there (name_of key) document items e),
  (λ xs s. h xs (subst (λ ds. StandForEach Stands ds xs) (one_array (get_member (name_of key) document) items s.0 (items_there (name_of key) document items e) s.1) s.2)),
  refl,
)
read_list key Stands listed document items (Err Memory) e h = tt

pub listed_read : {X R : Type 0} (key : SettingsKey) (Stands : Data → X → Type 0) (listed : R → List X) (document : Members) (items : Items) (r : Result R ValueError) (result : Result R SettingsError)
    → option_and_then as_array (get_member (name_of key) document) ≡ Some items
    → MatchResult r (λ x. StandForEach Stands items (listed x)) (IsRefusal (StandForEach Stands items)) → result ≡ read_at key r
    → MatchResult result (λ x. ListedAt (name_of key) Stands document (listed x)) (IsKeyFault (IsFaultAt key (λ name. ListedAt name Stands) document))
listed_read key Stands listed document items r result e h is =
    subst (λ it. MatchResult it (λ x. ListedAt (name_of key) Stands document (listed x)) (IsKeyFault (IsFaultAt key (λ name. ListedAt name Stands) document))) (sym is)
    (read_list key Stands listed document items r e h)

pub unlisted : {X : Type 0} (key : SettingsKey) (Stands : Data → X → Type 0) (document : Members) (error : SettingsError)
    → option_and_then as_array (get_member (name_of key) document) ≡ None → error ≡ untyped_at key document → IsKeyFault (IsFaultAt key (λ name. ListedAt name Stands) document) error
unlisted key Stands document error none is =
    untyped_as key (λ name. ListedAt name Stands) document error is (λ xs s. no_items_there (name_of key) document none s.0 s.1)

-- ---- targets

pub each_length : {X : Type 0} (Stands : Data → X → Type 0) (ds : List Value) (xs : List X) → StandForEach Stands (items_view ds) xs → length xs ≡ length ds
each_length Stands [] [] h = refl
each_length Stands [] (x ∷ xs) h = absurd h
each_length Stands (d ∷ ds) [] h = absurd h
each_length Stands (d ∷ ds) (x ∷ xs) h = ap suc (each_length Stands ds xs h.1)

first_fault : (ds : List Value) (i : ℕ) (d : Value) (xs : List TargetSetting) (fault : KeyFault) → i < length ds → d ≡ get_or ds i d
    → StandForEach IsTargetTable (items_view (take i ds)) xs → IsItemFault (view d) fault → IsFirstFault (items_view ds) i fault
first_fault [] i d xs fault lt is h s = absurd (omega arith)
first_fault (c ∷ ds) zero d xs fault lt is h s = subst (λ v. IsItemFault (view v) fault) is s
first_fault (c ∷ ds) (suc i) d [] fault lt is h s = absurd h
first_fault (c ∷ ds) (suc i) d (x ∷ xs) fault lt is h s = ((x, h.0), first_fault ds i d xs fault (omega arith) is h.1 s)

pub item_refused : (ds : List Value) (i : ℕ) (d : Value) (xs : List TargetSetting) (number : ℕ) (error : SettingsError) → i < length ds → d ≡ get_or ds i d
    → StandForEach IsTargetTable (items_view (take i ds)) xs → number ≡ length xs + 1 → IsRefusedAs number (IsItemFault (view d)) error → IsItemRefused (items_view ds) error
item_refused ds i d xs number (NotToml line) lt is h n s = absurd s
item_refused ds i d xs number (Key fault) lt is h n s = absurd s
item_refused ds i d xs number (Target m fault) lt is h n s =
    let long = each_length IsTargetTable (take i ds) xs h in
    let taken : length (take i ds) ≡ i = length-take-le i ds (omega arith) in
    (i, omega (arith, s.0, n, long, taken), first_fault ds i d xs fault lt is h s.1)
item_refused ds i d xs number error.Memory lt is h n s = tt

pub targets_read : {R : Type 0} (listed : R → List TargetSetting) (document : Members) (items : Items) (r : Result R SettingsError)
    → option_and_then as_array (get_member (name_of key.Target) document) ≡ Some items
    → MatchResult r (λ x. StandForEach IsTargetTable items (listed x)) (IsItemRefused items)
    → MatchResult r (λ x. ListedAt (name_of key.Target) IsTargetTable document (listed x)) (AreTargetsRefused document)
targets_read listed document items (Ok x) e h = (items, items_there (name_of key.Target) document items e, h)
targets_read listed document items (Err (NotToml line)) e h = absurd h
targets_read listed document items (Err (Key fault)) e h = absurd h
targets_read listed document items (Err (Target number fault)) e h = (items, items_there (name_of key.Target) document items e, h)
targets_read listed document items (Err error.Memory) e h = tt

pub no_targets : (document : Members) (error : SettingsError)
    → option_and_then as_array (get_member (name_of key.Target) document) ≡ None → error ≡ untyped_at key.Target document → AreTargetsRefused document error
no_targets document error none is =
    subst (AreTargetsRefused document) (sym is)
    (untyped_as key.Target IsArrayAt document (untyped_at key.Target document) refl (no_items_there (name_of key.Target) document none))
