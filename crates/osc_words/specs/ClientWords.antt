-- What the values of the options of `osc client` stand for.
use Rattle.std.specs.Prelude.{◌≡◌, ℕ, false, List, [], Option, Some, None, codes, unwrap_or}
use Rattle.clap.specs.Words.{Row}
use Rattle.osc_model.specs.{code, method_number, IsPath}
use Rattle.osc_model.specs.declared.code.Code.{Code}
use Rattle.osc_model.specs.declared.code.Method.{Method as AnyMethod}
use Rattle.osc_model.specs.declared.request.Request.{Request}
use Rattle.osc_scope.specs.{name_of}
use Rattle.osc_script.specs.{SpellsHex, SpellsShortNumber}
use Rattle.osc_words.specs.NamedOptions.{value_of}
use Rattle.osc_words.specs.Options.{is_set}
use Rattle.osc_words.specs.Times.{IsPatience}
use Rattle.osc_words.specs.Values.{IsGiven}
use Rattle.osc_words.specs.declared.client_option.ClientOption.{ClientOption}
use Rattle.osc_words.specs.declared.client_option.ClientOption.TheVariants.{Turns, Timeout, Method, Path, Payload, Text, PayloadFile, Format, Config}
use Rattle.osc_words.specs.declared.client_words.ClientWords.{ClientWords}
use Rattle.osc_words.specs.declared.named_option.NamedOption.TheVariants.{Client}
use Rattle.osc_words.specs.declared.times.Patience.{Patience}

-- the request code of the method of this name (RFC 7252 section 12.1.1)
abbrev pub SpellsMethod : List ℕ → Code → Type 0
SpellsMethod text spelled = (method : AnyMethod) × (text ≡ name_of method) × (spelled ≡ code 0 (method_number method))

-- what an option says of the request, beside the payload
abbrev pub SaysRequest : List Row → ClientOption → Request → Type 0
SaysRequest rows Method request = IsGiven SpellsMethod (value_of (Client Method) rows) (Some request.code)
SaysRequest rows Path request = (path : List ℕ) × (value_of (Client Path) rows ≡ Some path) × IsPath path × (request.path ≡ Some path)
SaysRequest rows Format request = IsGiven SpellsShortNumber (value_of (Client Format) rows) request.format
SaysRequest rows option request = Unit {0}

-- a request with no other option of CoAP
pub record IsPlain (request : Request) : Type 0 where
  pub accept : request.accept ≡ None
  pub if_match : request.if_match ≡ []
  pub if_none_match : request.if_none_match ≡ false

-- the request that the options say, with this payload
abbrev pub AreRequest : List Row → List ℕ → Request → Type 0
AreRequest rows payload request = ((option : ClientOption) → SaysRequest rows option request) × IsPlain request × (request.payload ≡ payload)

-- What three options say of the payload, of which at most one is given: it is given in hexadecimal or as a text, or it is in a file of this
-- name; where none of them is given it is empty. What is in a file isn't known yet.
abbrev pub IsPayload : Option (List ℕ) → Option (List ℕ) → Option (List ℕ) → List ℕ → Option (List ℕ) → Type 0
IsPayload None None (Some name) payload file = (payload ≡ []) × (file ≡ Some name)
IsPayload None (Some text) None payload file = (payload ≡ text) × (file ≡ None)
IsPayload hex None None payload file = SpellsHex (unwrap_or hex []) payload × (file ≡ None)
IsPayload hex text name payload file = ⊥

abbrev pub SaysPayload : List Row → List ℕ → Option (List ℕ) → Type 0
SaysPayload rows payload file = IsPayload (value_of (Client Payload) rows) (value_of (Client Text) rows) (value_of (Client PayloadFile) rows) payload file

abbrev pub SaysPatience : List Row → Patience → Type 0
SaysPatience rows patience = IsPatience (value_of (Client Turns) rows) (value_of (Client Timeout) rows) patience

-- what an option says of the client
abbrev pub Says : List Row → ClientOption → ClientWords → Type 0
Says rows Turns words = SaysPatience rows words.patience
Says rows Timeout words = SaysPatience rows words.patience
Says rows Payload words = SaysPayload rows words.request.payload words.payload_file
Says rows Text words = SaysPayload rows words.request.payload words.payload_file
Says rows PayloadFile words = SaysPayload rows words.request.payload words.payload_file
Says rows Config words = words.config ≡ value_of (Client Config) rows
Says rows option words = SaysRequest rows option words.request

-- what each option says of the client is so, and each flag, and it asks for no more
pub record AreClientWords (rows : List Row) (words : ClientWords) : Type 0 where
  pub options : (option : ClientOption) → Says rows option words
  pub plain : IsPlain words.request
  pub raw : words.raw ≡ is_set (codes "raw") rows
  pub check : words.check ≡ is_set (codes "check") rows

-- an option says nothing: it has no value that it may have
abbrev pub SaysNothing : List Row → ClientOption → Type 0
SaysNothing rows option = (words : ClientWords) → ¬ Says rows option words
