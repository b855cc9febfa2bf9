-- Values that others should not see: they are given, or are in a file.
use Rattle.std.specs.Prelude.{◌≡◌, ◌-◌, ◌∷◌, [], ℕ, Bool, List, Option, Some, None, if◌then◌else◌, length, take, drop}
use Rattle.std.specs.Str.{bytes_eq}
use Rattle.clap.specs.Words.{Row}
use Rattle.osc_words.specs.Options.{value_of}
use Rattle.osc_words.specs.Values.{IsGiven}
use Rattle.osc_words.specs.declared.hidden_option.HiddenOption.{HiddenOption}
use Rattle.osc_words.specs.declared.hidden_option.HiddenOption.TheVariants as hidden
use Rattle.osc_words.specs.declared.source.Source.{Source}
use Rattle.osc_words.specs.declared.source.Source.TheVariants.{Given, InFile}
use Rattle.osc_words.specs.declared.token_option.TokenOption.{TokenOption}
use Rattle.osc_words.specs.declared.token_option.TokenOption.TheVariants.{Key, KeyFile, Secret, SecretFile}

-- the value, where it is given
abbrev pub given_of : {X : Type 0} → Source X → Option X
given_of (Given value) = Some value
given_of (InFile name) = None

-- the name of the file, where it is in one
abbrev pub file_of : {X : Type 0} → Source X → Option (List ℕ)
file_of (Given value) = None
file_of (InFile name) = Some name

-- ---- the two options for each of them

abbrev pub option_of : HiddenOption → TokenOption
option_of hidden.Key = Key
option_of hidden.Secret = Secret

abbrev pub file_option_of : HiddenOption → TokenOption
file_option_of hidden.Key = KeyFile
file_option_of hidden.Secret = SecretFile

-- what the two options say of the value: the one spells it where it is given, the other names the file where it is in one
abbrev pub IsSource : {X : Type 0} → (List ℕ → X → Type 0) → HiddenOption → List Row → Source X → Type 0
IsSource Spells option rows source =
    IsGiven Spells (value_of (option_of option) rows) (given_of source) × (value_of (file_option_of option) rows ≡ file_of source)

-- ---- files

abbrev pub ends_in : List ℕ → List ℕ → Bool
ends_in end bytes = bytes_eq (drop (length bytes - length end) bytes) end

-- the bytes without the CR LF, or the line feed, at their end
abbrev pub without_end : List ℕ → List ℕ
without_end bytes =
    if ends_in (13 ∷ 10 ∷ []) bytes then take (length bytes - 2) bytes
    else if ends_in (10 ∷ []) bytes then take (length bytes - 1) bytes
    else bytes

-- a file of these bytes holds the value: they spell it, but for the end of a line after it
abbrev pub Holds : {X : Type 0} → (List ℕ → X → Type 0) → List ℕ → X → Type 0
Holds Spells bytes value = Spells (without_end bytes) value
