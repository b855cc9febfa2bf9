-- What is in a document of TOML, key by key.
use Rattle.std.specs.Prelude.{◌≡◌, ◌≤◌, ◌==◌, ◌+◌, ℕ, ℤ, Bool, if◌then◌else◌, List, [], ◌∷◌, count_by, length, take, Option, Some, None, IsSomeAnd}
use Rattle.std.specs.List.{list_any}
use Rattle.std.specs.Str.{bytes_eq}
use Rattle.toml.specs.Data.{Data, Items, Members, no_members, member, no_items, item, string, integer, boolean, array, get_member}
use Rattle.toml.specs.Parse.{parse_document}
use Rattle.osc_model.specs.declared.algorithm.Algorithm.{Algorithm}
use Rattle.osc_words.specs.Settings.Keys.{name_of}
use Rattle.osc_words.specs.Settings.Values.{IsAlgorithm, IsPort, IsSeconds}
use Rattle.osc_words.specs.declared.settings.key.SettingsKey.{SettingsKey}

-- the line of a place in a text, counted from 1: one more than the line ends before it
abbrev pub line_at : List ℕ → ℕ → ℕ
line_at text place = count_by (λ byte. byte == 10) (take place text) + 1

-- it is the line of some place in the text
abbrev pub IsLineOf : List ℕ → ℕ → Type 0
IsLineOf text line = (place : ℕ) × (place ≤ length text) × (line ≡ line_at text place)

-- the text is a document that stands for these settings
abbrev pub StandsFor : {S : Type 0} → (Members → S → Type 0) → List ℕ → S → Type 0
StandsFor Are text settings = IsSomeAnd (parse_document text) (λ document. Are document settings)

-- the first key of the document that is none of these, in the order of the bytes of its keys
abbrev pub other_key : List SettingsKey → Members → Option (List ℕ)
other_key keys no_members = None
other_key keys (member name value rest) = if list_any (λ key. bytes_eq name (name_of key)) keys then other_key keys rest else Some name

-- nothing is at the key
abbrev pub IsLeftOut : List ℕ → Members → Type 0
IsLeftOut key document = get_member key document ≡ None

-- a text is at the key, and spells this
abbrev pub SpelledAt : {X : Type 0} → List ℕ → (List ℕ → X → Type 0) → Members → X → Type 0
SpelledAt key Spells document x = (text : List ℕ) × (get_member key document ≡ Some (string text)) × Spells text x

-- the same, where a setting may be left out
abbrev pub MaySpellAt : {X : Type 0} → List ℕ → (List ℕ → X → Type 0) → Members → Option X → Type 0
MaySpellAt key Spells document None = IsLeftOut key document
MaySpellAt key Spells document (Some x) = SpelledAt key Spells document x

-- an integer is at the key, and is a port
abbrev pub IsPortAt : List ℕ → Members → ℕ → Type 0
IsPortAt key document port = (number : ℤ) × (get_member key document ≡ Some (integer number)) × IsPort number port

-- an integer is at the key, and is the number of an algorithm
abbrev pub IsAlgorithmAt : List ℕ → Members → Algorithm → Type 0
IsAlgorithmAt key document algorithm = (number : ℤ) × (get_member key document ≡ Some (integer number)) × IsAlgorithm number algorithm

-- an integer is at the key, and is a number of seconds
abbrev pub IsSecondsAt : List ℕ → Members → ℕ → Type 0
IsSecondsAt key document seconds = (number : ℤ) × (get_member key document ≡ Some (integer number)) × IsSeconds number seconds

-- the same, where it may be left out
abbrev pub MayBeSecondsAt : List ℕ → Members → Option ℕ → Type 0
MayBeSecondsAt key document None = IsLeftOut key document
MayBeSecondsAt key document (Some seconds) = IsSecondsAt key document seconds

-- this boolean is at the key
abbrev pub IsBooleanAt : List ℕ → Members → Bool → Type 0
IsBooleanAt key document is = get_member key document ≡ Some (boolean is)

-- each item stands for one of these, in this order
abbrev pub StandForEach : {X : Type 0} → (Data → X → Type 0) → Items → List X → Type 0
StandForEach Stands no_items [] = Unit {0}
StandForEach Stands (item value items) (x ∷ xs) = Stands value x × StandForEach Stands items xs
StandForEach Stands items xs = ⊥

-- an array of such items is at the key
abbrev pub ListedAt : {X : Type 0} → List ℕ → (Data → X → Type 0) → Members → List X → Type 0
ListedAt key Stands document xs = (items : Items) × (get_member key document ≡ Some (array items)) × StandForEach Stands items xs
