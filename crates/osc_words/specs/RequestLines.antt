-- What the lines of a file of requests say.
use Rattle.std.specs.Prelude.{◌≡◌, ℕ, ◌+◌, ◌==◌, List, [], ◌∷◌, ◌++◌, length, take, drop, if◌then◌else◌, bytes_eq, Option, Some, None, codes}
use Rattle.std.specs.List.{slice_split}
use Rattle.std.specs.Str.{IsUtf8}
use Rattle.osc_model.specs.{IsPath}
use Rattle.osc_model.specs.declared.request.Request.{Request}
use Rattle.osc_script.specs.{IsSkipped, SpellsHex, SpellsShortNumber, words_of}
use Rattle.osc_words.specs.ClientWords.{IsPlain, SpellsMethod}
use Rattle.osc_words.specs.Values.{IsGiven}

-- ---- one request: METHOD PATH [HEX] [format=N]

-- the texts of its parts; without HEX that text is empty
pub record Parts : Type 0 where
  pub method : List ℕ
  pub path : List ℕ
  pub hex : List ℕ
  pub digits : Option (List ℕ)

-- what is after `format=` in a word that begins so
abbrev pub format_digits : List ℕ → Option (List ℕ)
format_digits word = if bytes_eq (take 7 word) (codes "format=") then Some (drop 7 word) else None

-- a third word that begins so is no HEX
abbrev pub with_third : List ℕ → List ℕ → List ℕ → Option (List ℕ) → Parts
with_third method path word (Some digits) = record { method = method; path = path; hex = []; digits = Some digits }
with_third method path word None = record { method = method; path = path; hex = word; digits = None }

-- a fourth word begins so
abbrev pub with_fourth : List ℕ → List ℕ → List ℕ → Option (List ℕ) → Option Parts
with_fourth method path hex (Some digits) = Some (record { method = method; path = path; hex = hex; digits = Some digits })
with_fourth method path hex None = None

abbrev pub parts_of : List (List ℕ) → Option Parts
parts_of (method ∷ path ∷ []) = Some (record { method = method; path = path; hex = []; digits = None })
parts_of (method ∷ path ∷ word ∷ []) = Some (with_third method path word (format_digits word))
parts_of (method ∷ path ∷ hex ∷ word ∷ []) = with_fourth method path hex (format_digits word)
parts_of words = None

-- the request of these parts, with no other option of CoAP
pub record IsRequestOf (parts : Parts) (request : Request) : Type 0 where
  pub method : SpellsMethod parts.method request.code
  pub is_path : IsPath parts.path
  pub path : request.path ≡ Some parts.path
  pub payload : SpellsHex parts.hex request.payload
  pub format : IsGiven SpellsShortNumber parts.digits request.format
  pub plain : IsPlain request

abbrev pub IsRequestIn : Option Parts → Request → Type 0
IsRequestIn (Some parts) request = IsRequestOf parts request
IsRequestIn None request = ⊥

abbrev pub SaysRequest : List ℕ → Request → Type 0
SaysRequest line request = IsRequestIn (parts_of (words_of line)) request

-- ---- lines

abbrev pub lines_of : List ℕ → List (List ℕ)
lines_of text = slice_split (λ b. b == 10) text

-- a line says a request; an empty one says none, and one that begins with # neither
abbrev pub Says : List ℕ → Option Request → Type 0
Says line (Some request) = IsUtf8 line × (¬ IsSkipped line) × SaysRequest line request
Says line None = IsSkipped line

-- each line says this
abbrev pub Say : List (List ℕ) → List (Option Request) → Type 0
Say [] [] = Unit {0}
Say [] (request ∷ requests) = ⊥
Say (line ∷ lines) [] = ⊥
Say (line ∷ lines) (request ∷ requests) = Says line request × Say lines requests

-- line n of these, counted from 1, is the first that says nothing
pub record IsFirstBad (lines : List (List ℕ)) (n : ℕ) : Type 0 where
  pub before : List (List ℕ)
  pub bad : List ℕ
  pub after : List (List ℕ)
  pub requests : List (Option Request)
  pub whole : lines ≡ before ++ bad ∷ after
  pub count : n ≡ length before + 1
  pub good : Say before requests
  pub nothing : (request : Option Request) → ¬ Says bad request
