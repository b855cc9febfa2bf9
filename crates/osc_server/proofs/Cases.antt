-- Unprotected requests whose options are all understood are answered, and what is granted is granted by the open scope.
use Rattle.std.proofs.Common.{◌≡◌, ℕ, ◌==◌, Bool, true, false, if◌then◌else◌, List, Option, Some, None, refl}
use Rattle.std.specs.Prelude.{◌||◌, is_some}
use Rattle.osc_coap.specs.{is_request_code}
use Rattle.osc_coap.specs.Message.{Message}
use Rattle.osc_message.specs.{is_confirmable}
use Rattle.osc_model.specs.{method_number}
use Rattle.osc_model.specs.Scope.{Scope}
use Rattle.osc_model.specs.declared.code.Method.TheVariants.{Post}
use Rattle.osc_model.specs.declared.request.Request.{Request}
use Rattle.osc_options.specs.{oscore, proxy_uri, proxy_scheme, request_of, unrecognised_critical, value}
use Rattle.osc_server.specs.{IsNewAnswered, case_of, is_authz_info, is_open_get, unprotected_case}
use Rattle.osc_server.specs.Case.{case_by, has_option}
use Rattle.osc_server.specs.declared.case.RequestCase.{RequestCase}
use Rattle.osc_server.specs.declared.case.RequestCase.TheVariants.{Unused, BadOption, ProxyAsked, Posted, NotPosted, OpenGet, Unauthorised}

one_of : (message : Message) (a : Bool) (x y : RequestCase) → IsNewAnswered message x → IsNewAnswered message y → IsNewAnswered message (if a then x else y)
one_of message true x y p q = p
one_of message false x y p q = q

pub unprotected_answered : (message : Message) (open_scope : Scope) (request : Request) → IsNewAnswered message (unprotected_case open_scope request)
unprotected_answered message open_scope request =
    one_of message (is_authz_info request.path) _ _
    (one_of message (request.code.0 == method_number Post) Posted NotPosted tt tt)
    (one_of message (is_open_get open_scope request) (OpenGet (record { scope = open_scope; request = request })) Unauthorised tt tt)

-- what is granted is granted by this scope
abbrev pub IsUnder : Scope → RequestCase → Type 0
IsUnder open_scope (OpenGet granted) = granted.scope ≡ open_scope
IsUnder open_scope case = Unit {0}

one_under : (open_scope : Scope) (a : Bool) (x y : RequestCase) → IsUnder open_scope x → IsUnder open_scope y → IsUnder open_scope (if a then x else y)
one_under open_scope true x y p q = p
one_under open_scope false x y p q = q

unprotected_under : (open_scope : Scope) (request : Request) → IsUnder open_scope (unprotected_case open_scope request)
unprotected_under open_scope request =
    one_under open_scope (is_authz_info request.path) _ _
    (one_under open_scope (request.code.0 == method_number Post) Posted NotPosted tt tt)
    (one_under open_scope (is_open_get open_scope request) (OpenGet (record { scope = open_scope; request = request })) Unauthorised refl tt)

by_value_under : (open_scope : Scope) (message : Message) (bytes : Option (List ℕ)) → IsUnder open_scope (case_by open_scope message bytes)
by_value_under open_scope message (Some bytes) = tt
by_value_under open_scope message None = unprotected_under open_scope (request_of message)

pub under_open_scope : (open_scope : Scope) (message : Message) → IsUnder open_scope (case_of open_scope message)
under_open_scope open_scope message =
    one_under open_scope (is_request_code message.code) _ _
    (one_under open_scope (is_some (unrecognised_critical 0 message.options)) _ _
    (one_under open_scope (is_confirmable message.kind) BadOption Unused tt tt)
    (one_under open_scope (has_option proxy_uri message.options || has_option proxy_scheme message.options) ProxyAsked _ tt
    (by_value_under open_scope message (value oscore message.options))))
    tt
