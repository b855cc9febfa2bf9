-- Why settings are none, as the log tells it before `settings: bad`: the key and what should be there, never what is there.
use Rattle.std.specs.Prelude.{◌≡◌, ◌≢◌, ◌⊎◌, ℕ, List, ◌++◌, map, Option, Some, None, IfSome, codes, decimal}
use Rattle.std.specs.Str.{IsUtf8}
use Rattle.std.specs.Str.Lossy.{utf8_valid_len}
use Rattle.toml.specs.Data.{Members}
use Rattle.osc_log.specs.{IsUnreadText as Unread, Told, Writes, shown_byte}
use Rattle.osc_log.specs.declared.form.Form.{Form}
use Rattle.osc_words.specs.Settings.{Lacks, form_of, line_at, name_of}
use Rattle.osc_programs.specs.Input.{IsBeyond, longest_settings}
use Rattle.osc_words.specs.declared.settings.error.KeyFault.{KeyFault}
use Rattle.osc_words.specs.declared.settings.error.KeyFault.TheVariants.{Unknown, Missing, Wrong}
use Rattle.osc_words.specs.declared.settings.error.SettingsError.{SettingsError}
use Rattle.osc_words.specs.declared.settings.error.SettingsError.TheVariants.{NotToml, Key, Target, Memory}

-- ---- the words

-- the name of a key that should not be there shows as a path does
abbrev pub key_text : KeyFault → List ℕ
key_text (Unknown name) = codes "key " ++ map shown_byte name ++ codes " should not be there"
key_text (Missing key) = codes "key " ++ name_of key ++ codes " is missing, and should be " ++ form_of key
key_text (Wrong key) = codes "key " ++ name_of key ++ codes " should be " ++ form_of key

abbrev pub why_text : SettingsError → List ℕ
why_text (NotToml line) = codes "line " ++ decimal line ++ codes ": not TOML"
why_text (Key fault) = key_text fault
why_text (Target number fault) = codes "target " ++ decimal number ++ codes ": " ++ key_text fault
why_text Memory = codes "out of memory"

-- settings: WHY
abbrev pub unread_words : SettingsError → List ℕ
unread_words why = codes "settings: " ++ why_text why

-- their line in this form, or that there was no memory for it or for them
abbrev pub IsUnreadText : Form → SettingsError → List ℕ → Type 0
IsUnreadText form why text = Unread form (Some (unread_words why)) text ⊎ Unread form None text

-- that they are too many
abbrev pub long_words : List ℕ
long_words = codes "settings: the text has more than 1048576 bytes"

abbrev pub IsLongText : Form → List ℕ → Type 0
IsLongText form text = Unread form (Some long_words) text

-- ---- of which bytes

-- lack of memory apart, the bytes are no UTF-8, and so no TOML, of which the line of the first that isn't is told; or their text is at fault so
abbrev pub IsWhy : (Members → SettingsError → Type 0) → List ℕ → SettingsError → Type 0
IsWhy Is bytes why = ((¬ IsUtf8 bytes) × (why ≡ NotToml (line_at bytes (utf8_valid_len bytes)))) ⊎ Lacks Is bytes why

-- the log told what of these bytes is at fault, where they are known
pub record TellsFault (Is : Members → SettingsError → Type 0) (bytes : Option (List ℕ)) (old new : Told) : Type 0 where
  pub why : SettingsError
  pub is_why : IfSome bytes (λ known. IsWhy Is known why)
  pub no_want : why ≢ Memory
  pub text : List ℕ
  pub is_text : IsUnreadText old.form why text
  pub tells : Writes old new text

-- or that they are too many
pub record TellsLong (bytes : Option (List ℕ)) (old new : Told) : Type 0 where
  pub is_long : IsBeyond longest_settings bytes
  pub text : List ℕ
  pub is_text : IsLongText old.form text
  pub tells : Writes old new text

-- the log told why these bytes, where they are known, are no settings
abbrev pub TellsWhy : (Members → SettingsError → Type 0) → Option (List ℕ) → Told → Told → Type 0
TellsWhy Is bytes old new = TellsFault Is bytes old new ⊎ TellsLong bytes old new
