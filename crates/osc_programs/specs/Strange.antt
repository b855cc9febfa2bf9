-- What a client doesn't understand of an answer that opened, and the line that tells it.
use Rattle.std.specs.Prelude.{◌≡◌, ◌++◌, ◌==◌, ◌&&◌, ℕ, Bool, not, List, [], ◌∷◌, Option, Some, None, codes, decimal, if◌then◌else◌, find, option_map, unwrap_or}
use Rattle.std.specs.List.{list_any}
use Rattle.osc_model.specs.declared.step.Note.{Note}
use Rattle.osc_coap.specs.{NumberAndValue, SpellsPlaintext, is_response_code}
use Rattle.osc_coap.specs.Plaintext.{Plaintext}
use Rattle.osc_options.specs.{unrecognised_critical}
use Rattle.osc_programs.specs.declared.strange.Strange.{Strange}
use Rattle.osc_programs.specs.declared.strange.Strange.TheVariants.{NoResponse, BadOption, AsksAgain}

-- ---- what it is

-- Echo is option 252 (RFC 9175 section 2.2)
abbrev pub has_echo : List NumberAndValue → Bool
has_echo options = list_any (λ option. option.0 == 252) options

-- A critical option that isn't recognised comes first (RFC 7252 section 5.4.1). A 4.01 with Echo asks for the request again (RFC 9175 section 2.3).
abbrev pub strange_response : Option ℕ → Plaintext → Option Strange
strange_response (Some number) p = Some (BadOption number)
strange_response None p = if (p.code == 129) && has_echo p.options then Some AsksAgain else None

abbrev pub strange_answer : Plaintext → Option Strange
strange_answer p = if is_response_code p.code then strange_response (unrecognised_critical 0 p.options) p else Some NoResponse

-- of the bytes that were opened
pub record IsStrangeIn (text : List ℕ) (strange : Option Strange) : Type 0 where
  pub plain : (p : Plaintext) → SpellsPlaintext text p → strange ≡ strange_answer p
  pub none : ((p : Plaintext) → SpellsPlaintext text p → ⊥) → strange ≡ Some NoResponse

-- of what a step opened; nothing is, where it opened nothing
abbrev pub IsStrange : Option Note → Option Strange → Type 0
IsStrange (Some note) strange = IsStrangeIn note.plaintext strange
IsStrange None strange = strange ≡ None

-- ---- the line

-- the critical options that have a name (RFC 7252 section 12.2, RFC 7959 section 6, RFC 8613 section 11.1, RFC 9177 section 12.1, RFC 9668 section 8.1)
abbrev pub names : List (ℕ × List ℕ)
names =
    (1, codes "If-Match")
    ∷ (3, codes "Uri-Host")
    ∷ (5, codes "If-None-Match")
    ∷ (7, codes "Uri-Port")
    ∷ (9, codes "OSCORE")
    ∷ (11, codes "Uri-Path")
    ∷ (15, codes "Uri-Query")
    ∷ (17, codes "Accept")
    ∷ (19, codes "Q-Block1")
    ∷ (21, codes "EDHOC")
    ∷ (23, codes "Block2")
    ∷ (27, codes "Block1")
    ∷ (31, codes "Q-Block2")
    ∷ (35, codes "Proxy-Uri")
    ∷ (39, codes "Proxy-Scheme")
    ∷ []

-- in brackets, before a space
abbrev pub in_brackets : Option (ℕ × List ℕ) → List ℕ
in_brackets (Some named) = codes "(" ++ named.1 ++ codes ") "
in_brackets None = []

abbrev pub name_before : ℕ → List ℕ
name_before number = in_brackets (find (λ named. named.0 == number) names)

abbrev pub option_text : ℕ → List ℕ
option_text number = codes "an answer came with option " ++ decimal number ++ codes " " ++ name_before number ++ codes "that isn't understood"

abbrev pub strange_text : Strange → List ℕ
strange_text NoResponse = codes "an answer came that is no response of CoAP"
strange_text (BadOption number) = option_text number
strange_text AsksAgain = codes "an answer 4.01 came with option 252 (Echo): the server asks for the request again with it, which isn't done"

-- ---- what was told

-- one more, after those that were told, where contracts see any
abbrev pub one_more : Option (List Strange) → Strange → Option (List Strange)
one_more told strange = option_map (λ all. all ++ strange ∷ []) told

abbrev pub then_told : Option (List Strange) → Option Strange → Option (List Strange)
then_told told (Some strange) = one_more told strange
then_told told None = told

-- what isn't understood of what a step opened was told, and nothing else
pub record IsTold (opens : Option Note) (before after : Option (List Strange)) : Type 0 where
  pub strange : Option Strange
  pub is : IsStrange opens strange
  pub told : after ≡ then_told before strange
