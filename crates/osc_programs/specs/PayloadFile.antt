-- The words of `osc client`, with what the file of the payload holds. What is known of the file is its bytes, where it could be opened and they are known.
use Rattle.std.specs.Prelude.{◌≡◌, ℕ, List, Option, Some, None, IfSome}
use Rattle.osc_words.specs.declared.client_option.ClientOption.TheVariants.{PayloadFile}
use Rattle.osc_words.specs.declared.client_words.ClientWords.{ClientWords}
use Rattle.osc_words.specs.declared.named_option.NamedOption.TheVariants.{Client}
use Rattle.osc_words.specs.declared.words.WordsError.{WordsError}
use Rattle.osc_words.specs.declared.words.WordsError.TheVariants.{Unread, Memory}
use Rattle.osc_programs.specs.Input.{IsWithin, longest_payload_file}

-- the same words, with this payload
abbrev pub with_payload : ClientWords → List ℕ → ClientWords
with_payload words payload = record words { request = record words.request { payload = payload } }

-- what is given needs no file; else the payload is what the file holds, where its bytes are known, and these are no more than such a file may have
abbrev pub IsWithPayload : ClientWords → Option (List ℕ) → Option (List ℕ) → ClientWords → Type 0
IsWithPayload words None file filled = filled ≡ words
IsWithPayload words (Some name) file filled = (payload : List ℕ) × IsWithin longest_payload_file file
    × IfSome file (λ known. payload ≡ known) × (filled ≡ with_payload words payload)

-- the file can't be read, or there was no memory
abbrev pub IsUnreadPayload : WordsError → Type 0
IsUnreadPayload (Unread option) = option ≡ Client PayloadFile
IsUnreadPayload Memory = Unit {0}
IsUnreadPayload error = ⊥
