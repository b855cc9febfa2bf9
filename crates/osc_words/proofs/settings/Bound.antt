-- The addresses that a server or a proxy receives on.
use Rattle.std.proofs.Common.{◌≡◌, ◌<◌, ◌≤◌, ◌==◌, true, false, ℕ, List, [], ◌∷◌, length, Option, Some, None, Result, Ok, Err, refl, sym, ap, subst, ◌∙◌, inl, inr, arith, MatchResult}
use Rattle.std.proofs.lemmas.Bool.Decides.{Decides-eqb}
use Rattle.std.specs.Option.{is_some}
use Rattle.toml.specs.Data.{Data, Items, Members, string, array, as_array, as_str, get_member}
use Rattle.toml.specs.View.{items_view}
use Rattle.toml.specs.declared.value.Value.{Value}
use Rattle.osc_model.specs.declared.node.Peer.{Peer}
use Rattle.osc_words.specs.Settings.{AreAddressTexts, AreAddresses, AreAddressesAt, IsAddress, IsAddressText, IsAlone, IsFaultAt, IsKeyFault, StandForEach, name_of}
use Rattle.osc_words.specs.Settings.Inner.Reading.{IsRefusal, read_at}
use Rattle.osc_words.specs.declared.settings.error.KeyFault.TheVariants.{Missing}
use Rattle.osc_words.specs.declared.settings.error.SettingsError.{SettingsError}
use Rattle.osc_words.specs.declared.settings.error.SettingsError.TheVariants.{Key}
use Rattle.osc_words.specs.declared.settings.error.ValueError.{ValueError}
use Rattle.osc_words.specs.declared.settings.error.ValueError.TheVariants.{Bad, Memory}
use Rattle.osc_words.specs.declared.settings.key.SettingsKey.{SettingsKey}
use Rattle.osc_words.proofs.settings.Listed.{each_length}
use Rattle.osc_words.proofs.settings.Spelled.{is_array, is_text}

-- ---- a text

pub address_in : (value : Data) (text : List ℕ) (r : Result Peer ValueError) → as_str value ≡ Some text
    → MatchResult r (IsAddress text) (IsRefusal (IsAddress text)) → MatchResult r (IsAddressText value) (IsRefusal (IsAddressText value))
address_in value text (Ok peer) e h = (text, is_text value text e, h)
address_in value text (Err Bad) e h = λ peer s.
    let both : string s.0 ≡ string text = sym s.1 ∙ is_text value text e in
    let same : s.0 ≡ text = cc in
    h peer (subst (λ t. IsAddress t peer) same s.2)
address_in value text (Err Memory) e h = tt

pub no_address : (value : Data) → as_str value ≡ None → (peer : Peer) → ¬ IsAddressText value peer
no_address value none peer s =
    let found : as_str value ≡ Some s.0 = ap as_str s.1 in
    absurd cc

-- ---- an array

-- none, or more than 8
pub too_few : (values : List Value) → (length values == 0) ≡ true → (peers : List Peer) → ¬ AreAddressTexts (items_view values) peers
too_few values few peers s =
    let none : length values ≡ 0 = (Decides-eqb (length values) 0).0 few in
    let same = each_length IsAddressText values peers s.0 in
    absurd (omega (arith, same, none, s.1))

pub too_many : (values : List Value) → 8 < length values → (peers : List Peer) → ¬ AreAddressTexts (items_view values) peers
too_many values many peers s = let same = each_length IsAddressText values peers s.0 in absurd (omega (arith, same, many, s.2))

some_there : (values : List Value) → (length values == 0) ≡ false → 1 ≤ length values
some_there [] some = absurd cc
some_there (value ∷ values) some = omega arith

pub some_few : {R : Type 0} (listed : R → List Peer) (values : List Value) (r : Result R ValueError) → (length values == 0) ≡ false → length values ≤ 8
    → MatchResult r (λ x. StandForEach IsAddressText (items_view values) (listed x)) (IsRefusal (StandForEach IsAddressText (items_view values)))
    → MatchResult r (λ x. AreAddressTexts (items_view values) (listed x)) (IsRefusal (AreAddressTexts (items_view values)))
some_few listed values (Ok x) some few h =
    let same = each_length IsAddressText values (listed x) h in
    let any = some_there values some in
    (h, omega (arith, same, any), omega (arith, same, few))
some_few listed values (Err Bad) some few h = λ peers s. h peers s.0
some_few listed values (Err Memory) some few h = tt

-- ---- one or an array

pub one_alone : (value : Data) (peer : Peer) (peers : List Peer) → peers ≡ peer ∷ [] → IsAddressText value peer → IsAlone value peers
one_alone value peer peers is h = subst (IsAlone value) (sym is) h

none_alone : (value : Data) → ((peer : Peer) → ¬ IsAddressText value peer) → (peers : List Peer) → ¬ IsAlone value peers
none_alone value none [] s = s
none_alone value none (peer ∷ []) s = none peer s
none_alone value none (peer ∷ other ∷ peers) s = s

pub no_one_alone : (value : Data) (error : ValueError) → IsRefusal (IsAddressText value) error → IsRefusal (IsAlone value) error
no_one_alone value Bad none = none_alone value none
no_one_alone value Memory none = tt

pub array_in : {R : Type 0} (listed : R → List Peer) (value : Data) (items : Items) (r : Result R ValueError) → as_array value ≡ Some items
    → MatchResult r (λ x. AreAddressTexts items (listed x)) (IsRefusal (AreAddressTexts items))
    → MatchResult r (λ x. AreAddresses value (listed x)) (IsRefusal (AreAddresses value))
array_in listed value items r e h =
    subst (λ it. MatchResult r (λ x. AreAddresses it (listed x)) (IsRefusal (AreAddresses it))) (sym (is_array value items e)) h

pub alone_in : {R : Type 0} (listed : R → List Peer) (value : Data) (r : Result R ValueError) → as_array value ≡ None
    → MatchResult r (λ x. IsAlone value (listed x)) (IsRefusal (IsAlone value))
    → MatchResult r (λ x. AreAddresses value (listed x)) (IsRefusal (AreAddresses value))
alone_in listed (array items) r none h = absurd cc
alone_in listed value r none h = h

-- ---- at the key

one_value : (found : Option Data) (value other : Data) → found ≡ Some value → found ≡ Some other → other ≡ value
one_value found value other e f = cc

read : {R : Type 0} (key : SettingsKey) (listed : R → List Peer) (document : Members) (value : Data) (r : Result R ValueError)
    → get_member (name_of key) document ≡ Some value
    → MatchResult r (λ x. AreAddresses value (listed x)) (IsRefusal (AreAddresses value))
    → MatchResult (read_at key r) (λ x. AreAddressesAt (name_of key) document (listed x)) (IsKeyFault (IsFaultAt key AreAddressesAt document))
read key listed document value (Ok x) e h = (value, e, h)
read key listed document value (Err Bad) e h = inl (
  ap is_some e,
  (λ peers s. h peers (subst (λ it. AreAddresses it peers) (one_value (get_member (name_of key) document) value s.0 e s.1) s.2)),
  refl,
)
read key listed document value (Err Memory) e h = tt

pub bound_read : {R : Type 0} (key : SettingsKey) (listed : R → List Peer) (document : Members) (value : Data) (r : Result R ValueError) (result : Result R SettingsError)
    → get_member (name_of key) document ≡ Some value
    → MatchResult r (λ x. AreAddresses value (listed x)) (IsRefusal (AreAddresses value)) → result ≡ read_at key r
    → MatchResult result (λ x. AreAddressesAt (name_of key) document (listed x)) (IsKeyFault (IsFaultAt key AreAddressesAt document))
bound_read key listed document value r result e h is =
    subst (λ it. MatchResult it (λ x. AreAddressesAt (name_of key) document (listed x)) (IsKeyFault (IsFaultAt key AreAddressesAt document))) (sym is)
    (read key listed document value r e h)

pub none_bound : (key : SettingsKey) (document : Members) → get_member (name_of key) document ≡ None → IsKeyFault (IsFaultAt key AreAddressesAt document) (Key (Missing key))
none_bound key document none = inr (none, refl)
