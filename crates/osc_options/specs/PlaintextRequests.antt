-- The requests that go and come encrypted, of which all was said inside (RFC 7252 sections 5.4.1 and 5.8, RFC 8613 sections 4.1 and 5.3).
use Rattle.std.specs.Prelude.{◌≡◌, ℕ, not, ◌&&◌, ◌||◌, ◌⊎◌, if◌then◌else◌, List, [], ◌∷◌, Option, Some, None, Result, Ok, Err, IsOk}
use Rattle.osc_model.specs.declared.request.Request.{Request}
use Rattle.osc_coap.specs.{NumberAndValue, is_request_code, payload_of}
use Rattle.osc_coap.specs.Plaintext.{Plaintext}
use Rattle.osc_options.specs.declared.error.PlaintextError.{PlaintextError}
use Rattle.osc_options.specs.declared.error.PlaintextError.TheVariants.{Format, BadOption}
use Rattle.osc_options.specs.declared.table.Class.TheVariants.{U}
use Rattle.osc_options.specs.Table.{is_critical, class_of}
use Rattle.osc_options.specs.Recognised.{is_recognised}
use Rattle.osc_options.specs.Split.{same_class}
use Rattle.osc_options.specs.Requests.{request_in, request_options}

-- ---- written

abbrev pub request_plaintext : Request → Plaintext
request_plaintext request = record { code = request.code.0; options = request_options request; payload = payload_of request.payload }

-- ---- read

-- The first option that must not be inside a request, by its number: one of class U, recognised or not, or a critical one that
-- isn't recognised. `before` is the number of the option before these.
abbrev pub refused_option : ℕ → List NumberAndValue → Option ℕ
refused_option before [] = None
refused_option before (option ∷ options) =
    if same_class U (class_of option.0) || is_critical option.0 && not (is_recognised before option) then Some option.0
    else refused_option option.0 options

abbrev pub accepted : Option ℕ → Request → Result Request PlaintextError
accepted None request = Ok request
accepted (Some number) request = Err (BadOption number)

-- the request that a plaintext is, or the first reason why it is none
abbrev pub request_of_plaintext : Plaintext → Result Request PlaintextError
request_of_plaintext p =
    if is_request_code p.code then accepted (refused_option 0 p.options) (request_in p.code p.options p.payload)
    else Err Format

-- the outcome is the one that is due; or, where a value is due, lack of memory
abbrev pub IsMemoryAside : {T E : Type 0} → E → Result T E → Result T E → Type 0
IsMemoryAside memory due outcome = (outcome ≡ due) ⊎ IsOk due × (outcome ≡ Err memory)
