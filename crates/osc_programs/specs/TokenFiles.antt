-- The words of `osc token`, with what its files hold. What is known of a file is its bytes, where it could be opened and they are known.
use Rattle.std.specs.Prelude.{◌≡◌, ◌⊎◌, ℕ, List, Option, IfSome}
use Rattle.osc_script.specs.{SpellsHexWithin}
use Rattle.osc_words.specs.{with_secret, Holds, file_option_of}
use Rattle.osc_programs.specs.Input.{IsBeyond, longest_key}
use Rattle.osc_words.specs.declared.hidden_option.HiddenOption.{HiddenOption}
use Rattle.osc_words.specs.declared.hidden_option.HiddenOption.TheVariants as hidden
use Rattle.osc_words.specs.declared.named_option.NamedOption.TheVariants.{Token}
use Rattle.osc_words.specs.declared.source.Source.{Source}
use Rattle.osc_words.specs.declared.source.Source.TheVariants.{Given, InFile}
use Rattle.osc_words.specs.declared.token_words.TokenAsked.{TokenAsked}
use Rattle.osc_words.specs.declared.token_words.TokenWords.{TokenWords}
use Rattle.osc_words.specs.declared.words.WordsError.{WordsError}
use Rattle.osc_words.specs.declared.words.WordsError.TheVariants.{Value, Unread, Memory}

-- the file holds the value, where its bytes are known
abbrev pub HoldsIt : {X : Type 0} → (List ℕ → X → Type 0) → Option (List ℕ) → X → Type 0
HoldsIt Spells file value = IfSome file (λ bytes. Holds Spells bytes value)

-- why a file gives no value: it holds none, or it can't be read
abbrev pub HoldsNone : {X : Type 0} → (List ℕ → X → Type 0) → HiddenOption → Option (List ℕ) → WordsError → Type 0
HoldsNone {X} Spells option file (Value refused) =
    (refused ≡ Token (file_option_of option)) × IfSome file (λ bytes. (value : X) → ¬ Holds Spells bytes value)
HoldsNone Spells option file (Unread unread) = unread ≡ Token (file_option_of option)
HoldsNone Spells option file Memory = Unit {0}
HoldsNone Spells option file error = ⊥

-- why a file gives no bytes: it has more than a key or a secret is spelled by, or it can't be read
abbrev pub HasNoBytes : HiddenOption → Option (List ℕ) → WordsError → Type 0
HasNoBytes option file (Value refused) = (refused ≡ Token (file_option_of option)) × IsBeyond longest_key file
HasNoBytes option file (Unread unread) = unread ≡ Token (file_option_of option)
HasNoBytes option file Memory = Unit {0}
HasNoBytes option file error = ⊥

-- what is given needs no file
abbrev pub Gives : {X : Type 0} → (List ℕ → X → Type 0) → Source X → Option (List ℕ) → X → Type 0
Gives Spells (Given value) file got = got ≡ value
Gives Spells (InFile name) file got = HoldsIt Spells file got

abbrev pub GivesNone : {X : Type 0} → (List ℕ → X → Type 0) → HiddenOption → Source X → Option (List ℕ) → WordsError → Type 0
GivesNone Spells option (Given value) file error = ⊥
GivesNone Spells option (InFile name) file error = HoldsNone Spells option file error

-- the token that is asked for and issued at this second, with the key and the secret that are given, or that these files hold
pub record IsFilled (asked : TokenAsked) (now : ℕ) (key_file secret_file : Option (List ℕ)) (words : TokenWords) : Type 0 where
  pub key : Gives (SpellsHexWithin 16 16) asked.key key_file words.key
  pub secret : List ℕ
  pub is_secret : Gives (SpellsHexWithin 1 64) asked.secret secret_file secret
  pub claims : words.claims ≡ with_secret asked.claims now secret
  pub iv : words.iv ≡ asked.iv

-- the key's file gives none, or the secret's
abbrev pub IsUnfilled : TokenAsked → Option (List ℕ) → Option (List ℕ) → WordsError → Type 0
IsUnfilled asked key_file secret_file error =
    GivesNone (SpellsHexWithin 16 16) hidden.Key asked.key key_file error ⊎ GivesNone (SpellsHexWithin 1 64) hidden.Secret asked.secret secret_file error
