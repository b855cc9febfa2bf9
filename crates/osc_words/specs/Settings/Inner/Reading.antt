-- What the reading of settings gives, part by part.
use Rattle.std.specs.Prelude.{◌≡◌, ◌≤◌, ℕ, suc, length, if◌then◌else◌, List, Option, option_and_then, None, is_some, Result, Ok, Err, Vec}
use Rattle.std.specs.declared.alloc.Global.{Global}
use Rattle.toml.specs.Data.{Data, Items, Members, get_member, as_str}
use Rattle.toml.specs.Parse.{parse_document}
use Rattle.osc_model.specs.{IsPath}
use Rattle.osc_words.specs.Settings.Document.{IsLineOf, ListedAt, StandForEach}
use Rattle.osc_words.specs.Settings.Faults.{IsArrayAt, IsFaultAt, IsFirstFault, IsKeyFault}
use Rattle.osc_words.specs.Settings.Keys.{name_of}
use Rattle.osc_words.specs.declared.settings.error.KeyFault.{KeyFault}
use Rattle.osc_words.specs.declared.settings.error.KeyFault.TheVariants.{Missing, Wrong}
use Rattle.osc_words.specs.declared.settings.error.SettingsError.{SettingsError}
use Rattle.osc_words.specs.declared.settings.error.SettingsError.TheVariants as error
use Rattle.osc_words.specs.declared.settings.error.ValueError.{ValueError}
use Rattle.osc_words.specs.declared.settings.error.ValueError.TheVariants.{Bad, Memory}
use Rattle.osc_words.specs.declared.settings.key.SettingsKey.{SettingsKey}
use Rattle.osc_words.specs.declared.settings.key.SettingsKey.TheVariants as key

-- the text is no document, or there was no memory
abbrev pub IsNoDocument : List ℕ → SettingsError → Type 0
IsNoDocument text (error.NotToml line) = (parse_document text ≡ None) × IsLineOf text line
IsNoDocument text error.Memory = Unit {0}
IsNoDocument text other = ⊥

-- nothing is such, or there was no memory
abbrev pub IsRefusal : {X : Type 0} → (X → Type 0) → ValueError → Type 0
IsRefusal {X} P Bad = (x : X) → ¬ P x
IsRefusal P Memory = Unit {0}

-- the fault of a key where no such value is
abbrev pub fault_at : SettingsKey → ValueError → SettingsError
fault_at key Bad = error.Key (Wrong key)
fault_at key Memory = error.Memory

-- of a key where nothing is, or nothing of that type
abbrev pub untyped_at : SettingsKey → Members → SettingsError
untyped_at key document = error.Key (if is_some (get_member (name_of key) document) then Wrong key else Missing key)

-- what was read of what is at the key
abbrev pub read_at : {X : Type 0} → SettingsKey → Result X ValueError → Result X SettingsError
read_at key (Ok x) = Ok x
read_at key (Err error) = Err (fault_at key error)

-- the same of the target of this number
abbrev pub in_target : ℕ → SettingsError → SettingsError
in_target number (error.Key fault) = error.Target number fault
in_target number other = other

-- lack of memory apart, the target of this number is at fault so
abbrev pub IsRefusedAs : ℕ → (KeyFault → Type 0) → SettingsError → Type 0
IsRefusedAs number Is (error.Target n fault) = (n ≡ number) × Is fault
IsRefusedAs number Is error.Memory = Unit {0}
IsRefusedAs number Is other = ⊥

-- lack of memory apart, an item of this array is at fault
abbrev pub IsItemRefused : Items → SettingsError → Type 0
IsItemRefused items (error.Target number fault) = (before : ℕ) × (number ≡ suc before) × IsFirstFault items before fault
IsItemRefused items error.Memory = Unit {0}
IsItemRefused items other = ⊥

-- the key or the targets are
abbrev pub AreTargetsRefused : Members → SettingsError → Type 0
AreTargetsRefused document (error.Target number fault) =
    (items : Items) × IsArrayAt (name_of key.Target) document items × ((before : ℕ) × (number ≡ suc before) × IsFirstFault items before fault)
AreTargetsRefused document other = IsKeyFault (IsFaultAt key.Target IsArrayAt document) other

-- the text at a key, if there is one
abbrev pub text_at : List ℕ → Members → Option (List ℕ)
text_at key document = option_and_then as_str (get_member key document)

-- each item stands for one in the vector
abbrev pub StandForAll : {X : Type 0} → (Data → X → Type 0) → Items → Vec X Global → Type 0
StandForAll Stands items xs = StandForEach Stands items xs.items

-- an array of such items is at the key
abbrev pub AllListedAt : {X : Type 0} → List ℕ → (Data → X → Type 0) → Members → Vec X Global → Type 0
AllListedAt key Stands document xs = ListedAt key Stands document xs.items

-- each item stands for one of these, and they are at most `most`
abbrev pub StandForFew : {X : Type 0} → ℕ → (Data → X → Type 0) → Items → List X → Type 0
StandForFew most Stands items xs = StandForEach Stands items xs × (length xs ≤ most)

-- the text is that of the path
abbrev pub SpellsPath : List ℕ → List ℕ → Type 0
SpellsPath text path = (path ≡ text) × IsPath path
