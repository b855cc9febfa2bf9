-- Values in a row, at most a given number.
use Rattle.std.proofs.Common.{◌≡◌, ◌≤◌, ◌<◌, ℕ, List, length, Option, Some, None, Result, Ok, Err, refl, sym, ap, subst, inl, arith, MatchResult}
use Rattle.std.specs.Option.{is_some, option_and_then}
use Rattle.toml.specs.Data.{Data, Items, Members, array, as_array, get_member}
use Rattle.toml.specs.View.{items_view}
use Rattle.toml.specs.declared.value.Value.{Value}
use Rattle.osc_words.specs.Settings.{ListedAt, StandForEach, IsFaultAt, IsKeyFault, name_of}
use Rattle.osc_words.specs.Settings.Inner.Reading.{IsRefusal, StandForFew, read_at, untyped_at}
use Rattle.osc_words.specs.declared.settings.error.SettingsError.{SettingsError}
use Rattle.osc_words.specs.declared.settings.error.ValueError.{ValueError}
use Rattle.osc_words.specs.declared.settings.error.ValueError.TheVariants.{Bad, Memory}
use Rattle.osc_words.specs.declared.settings.key.SettingsKey.{SettingsKey}
use Rattle.osc_words.proofs.settings.Listed.{each_length}
use Rattle.osc_words.proofs.settings.Spelled.{items_there, no_items_there, untyped_as}

pub too_many : {X : Type 0} (most : ℕ) (Stands : Data → X → Type 0) (values : List Value) → most < length values → (xs : List X) → ¬ StandForFew most Stands (items_view values) xs
too_many most Stands values many xs s = let same = each_length Stands values xs s.0 in absurd (omega (arith, same, many, s.1))

pub are_few : {X R : Type 0} (most : ℕ) (Stands : Data → X → Type 0) (listed : R → List X) (values : List Value) (r : Result R ValueError) → length values ≤ most
    → MatchResult r (λ x. StandForEach Stands (items_view values) (listed x)) (IsRefusal (StandForEach Stands (items_view values)))
    → MatchResult r (λ x. StandForFew most Stands (items_view values) (listed x)) (IsRefusal (StandForFew most Stands (items_view values)))
are_few most Stands listed values (Ok x) few h = (h, let same = each_length Stands values (listed x) h in omega (arith, same, few))
are_few most Stands listed values (Err Bad) few h = λ xs s. h xs s.0
are_few most Stands listed values (Err Memory) few h = tt

-- ---- at a key

-- an array of at most `most` values is at the key
abbrev pub FewAt : {X : Type 0} → ℕ → (Data → X → Type 0) → List ℕ → Members → List X → Type 0
FewAt most Stands name document xs = ListedAt name Stands document xs × (length xs ≤ most)

one_array : (found : Option Data) (items others : Items) → found ≡ Some (array items) → found ≡ Some (array others) → others ≡ items
one_array found items others e f = cc

read_few : {X R : Type 0} (key : SettingsKey) (most : ℕ) (Stands : Data → X → Type 0) (listed : R → List X) (document : Members) (items : Items) (r : Result R ValueError)
    → option_and_then as_array (get_member (name_of key) document) ≡ Some items
    → MatchResult r (λ x. StandForFew most Stands items (listed x)) (IsRefusal (StandForFew most Stands items))
    → MatchResult (read_at key r) (λ x. FewAt most Stands (name_of key) document (listed x)) (IsKeyFault (IsFaultAt key (FewAt most Stands) document))
read_few key most Stands listed document items (Ok x) e h = ((items, items_there (name_of key) document items e, h.0), h.1)
read_few key most Stands listed document items (Err Bad) e h = inl (
  ap is_some (items_there (name_of key) document items e),
  (λ xs s. h xs (
    subst (λ ds. StandForEach Stands ds xs)
        (one_array (get_member (name_of key) document) items s.0.0 (items_there (name_of key) document items e) s.0.1) s.0.2,
    s.1,
  )),
  refl,
)
read_few key most Stands listed document items (Err Memory) e h = tt

pub few_read : {X R : Type 0} (key : SettingsKey) (most : ℕ) (Stands : Data → X → Type 0) (listed : R → List X) (document : Members) (items : Items) (r : Result R ValueError) (result : Result R SettingsError)
    → option_and_then as_array (get_member (name_of key) document) ≡ Some items
    → MatchResult r (λ x. StandForFew most Stands items (listed x)) (IsRefusal (StandForFew most Stands items)) → result ≡ read_at key r
    → MatchResult result (λ x. FewAt most Stands (name_of key) document (listed x)) (IsKeyFault (IsFaultAt key (FewAt most Stands) document))
few_read key most Stands listed document items r result e h is =
    subst (λ it. MatchResult it (λ x. FewAt most Stands (name_of key) document (listed x)) (IsKeyFault (IsFaultAt key (FewAt most Stands) document))) (sym is)
    (read_few key most Stands listed document items r e h)

pub no_few : {X : Type 0} (key : SettingsKey) (most : ℕ) (Stands : Data → X → Type 0) (document : Members) (error : SettingsError)
    → option_and_then as_array (get_member (name_of key) document) ≡ None → error ≡ untyped_at key document → IsKeyFault (IsFaultAt key (FewAt most Stands) document) error
no_few key most Stands document error none is =
    untyped_as key (FewAt most Stands) document error is (λ xs s. no_items_there (name_of key) document none s.0.0 s.0.1)
