-- Which case a new message is to a server: the first test that holds, read from the top.
use Rattle.std.specs.Prelude.{◌≡◌, ◌≢◌, ℕ, Bool, true, false, ◌==◌, ◌&&◌, ◌||◌, if◌then◌else◌, List, [], bytes_eq, Option, Some, None, is_some, codes}
use Rattle.std.specs.List.{list_any}
use Rattle.osc_model.specs.{method_number}
use Rattle.osc_model.specs.Scope.{Scope}
use Rattle.osc_model.specs.declared.code.Method.TheVariants.{Get, Post}
use Rattle.osc_model.specs.declared.request.Request.{Request}
use Rattle.osc_coap.specs.{is_request_code, NumberAndValue}
use Rattle.osc_coap.specs.Message.{Message as CoapMessage}
use Rattle.osc_options.specs.{oscore, proxy_uri, proxy_scheme, request_of, unrecognised_critical, value}
use Rattle.osc_scope.specs.{verdict_of}
use Rattle.osc_scope.specs.declared.verdict.Verdict.{Verdict}
use Rattle.osc_scope.specs.declared.verdict.Verdict.TheVariants.{Granted}
use Rattle.osc_message.specs.declared.heard.Heard.{Heard}
use Rattle.osc_message.specs.declared.heard.Heard.TheVariants as heard
use Rattle.osc_message.specs.{is_confirmable}
use Rattle.osc_server.specs.declared.case.RequestCase.{RequestCase}
use Rattle.osc_server.specs.declared.case.RequestCase.TheVariants.{Unused, BadOption, ProxyAsked, Protected, Posted, NotPosted, OpenGet, Unauthorised}

abbrev pub has_option : ℕ → List NumberAndValue → Bool
has_option number options = list_any (λ option. option.0 == number) options

-- the path of authz-info (RFC 9200 section 5.10.1)
abbrev pub is_authz_info : Option (List ℕ) → Bool
is_authz_info None = false
is_authz_info (Some path) = bytes_eq path (codes "/authz-info")

abbrev pub is_granted : Verdict → Bool
is_granted Granted = true
is_granted verdict = false

-- a GET on a path that the open scope has
abbrev pub is_open_get : Scope → Request → Bool
is_open_get open_scope request = (request.code.0 == method_number Get) && is_granted (verdict_of open_scope request.path request.code)

-- an option that isn't understood is refused where the request is confirmable, and the request ignored otherwise
-- (RFC 7252 section 5.4.1)
abbrev pub refused_option : CoapMessage → RequestCase
refused_option message = if is_confirmable message.kind then BadOption else Unused

-- a GET that needs no protection, or a request that does
abbrev pub open_case : Scope → Request → RequestCase
open_case open_scope request =
    if is_open_get open_scope request then OpenGet (record { scope = open_scope; request = request }) else Unauthorised

-- An unprotected request that wants no proxy: at authz-info a POST or another method; elsewhere a GET that needs no protection,
-- or any other request.
abbrev pub unprotected_case : Scope → Request → RequestCase
unprotected_case open_scope request =
    if is_authz_info request.path then (if request.code.0 == method_number Post then Posted else NotPosted)
    else open_case open_scope request

-- a request that wants no proxy, by the value of OSCORE's option, if it has one
abbrev pub case_by : Scope → CoapMessage → Option (List ℕ) → RequestCase
case_by open_scope message (Some bytes) = Protected bytes
case_by open_scope message None = unprotected_case open_scope (request_of message)

-- A critical option that isn't recognised; a wish for a proxy (section 5.10.2); OSCORE's option, whatever the code and the
-- path outside are (RFC 8613 section 8.2); a request without protection.
abbrev pub request_case : Scope → CoapMessage → RequestCase
request_case open_scope message =
    if is_some (unrecognised_critical 0 message.options) then refused_option message
    else if has_option proxy_uri message.options || has_option proxy_scheme message.options then ProxyAsked
    else case_by open_scope message (value oscore message.options)

-- A server sends no request, so it waits for no response (RFC 7252 section 5.3.2).
abbrev pub case_of : Scope → CoapMessage → RequestCase
case_of open_scope message = if is_request_code message.code then request_case open_scope message else Unused

-- whether a new message is answered: one of no use is where it is rejected
abbrev pub IsNewAnswered : CoapMessage → RequestCase → Type 0
IsNewAnswered message Unused = is_confirmable message.kind ≡ true
IsNewAnswered message case = Unit {0}

-- whether anything is sent
abbrev pub IsAnswered : Scope → Heard → Type 0
IsAnswered open_scope (heard.Alone out) = out ≢ []
IsAnswered open_scope (heard.Empty kind id) = ⊥
IsAnswered open_scope (heard.Message message) = IsNewAnswered message (case_of open_scope message)
