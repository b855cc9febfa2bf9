-- Requests, responses and empty acknowledgements as the proxy hears them.
use Rattle.std.proofs.Common.{◌≡◌, ◌<◌, ◌≤◌, ◌/◌, ℕ, true, false, List, refl, arith, Option, Some, None, nat_eq, nat_lt, nat_le}
use Rattle.std.specs.Prelude.{codes}
use Rattle.std.proofs.lemmas.Bool.{and_parts, le-ltb, leb-true, lt-leb, lt-ltb, ltb-true, ne_eqb, or_from}
use Rattle.osc_model.specs.declared.node.Moment.{Moment}
use Rattle.osc_model.specs.declared.node.Peer.{Peer}
use Rattle.osc_coap.specs.{is_request_code, is_response_code, spelling}
use Rattle.osc_coap.specs.Message.{Message}
use Rattle.osc_coap.specs.declared.kind.Kind.TheVariants.{Confirmable, Acknowledgement}
use Rattle.osc_options.specs.{proxy_scheme, proxy_uri, has_unrecognised_unsafe, recognised, value}
use Rattle.osc_dedup.specs.{Entry, looked}
use Rattle.osc_message.specs.{heard, is_reserved, Receives}
use Rattle.osc_message.specs.declared.heard.Heard.TheVariants as heard_as
use Rattle.osc_message.specs.declared.received.Received.{Received}
use Rattle.osc_message.specs.declared.received.Received.TheVariants as received_as
use Rattle.osc_proxy.specs.{case_of, answers, first_key, HostAndPort, peer_of, IsCarried}
use Rattle.osc_proxy.specs.Exchanges.{Table}
use Rattle.osc_proxy.specs.declared.case.ForwardCase.TheVariants.{Forwarded, Counted}
use Rattle.osc_proxy.specs.declared.targets.Target.{Target}

abbrev pub OneReception : Type 0
OneReception = (bytes : List ℕ) (a b : Received) → Receives bytes a → Receives bytes b → a ≡ b

-- what a datagram carries is received as that message
pub message_received : OneReception → (message : Message) (it : Received) → IsCarried message → Receives (spelling message) it
    → it ≡ received_as.Message message
message_received one message it carried is =
    one (spelling message) it (received_as.Message message) is (carried.short, record { lawful = carried.lawful; whole = refl })

-- ---- codes

record IsRequestCode (code : ℕ) : Type 0 where
  some : nat_eq code 0 ≡ false
  kept : is_reserved code ≡ false

unreserved : (code : ℕ) → (code / 32 ≡ 1 → ⊥) → code < 192 → is_reserved code ≡ false
unreserved code other small = or_from (nat_eq (code / 32) 1) (nat_le 192 code) (ne_eqb (code / 32) 1 other) (lt-leb 192 code small)

request_code : (code : ℕ) → is_request_code code ≡ true → IsRequestCode code
request_code code is =
    let both = and_parts (nat_lt 0 code) (nat_lt code 32) is in
    let least : 0 < code = ltb-true 0 code both.0 in
    let most : code < 32 = ltb-true code 32 both.1 in
    record { some = ne_eqb code 0 (λ none. omega (arith, least, none)); kept = unreserved code (λ one. omega (arith, one, most)) (omega (arith, most)) }

record IsResponseCode (code : ℕ) : Type 0 where
  some : nat_eq code 0 ≡ false
  kept : is_reserved code ≡ false
  other : is_request_code code ≡ false

response_code : (code : ℕ) → is_response_code code ≡ true → IsResponseCode code
response_code code is =
    let both = and_parts (nat_le 64 code) (nat_lt code 192) is in
    let least : 64 ≤ code = leb-true 64 code both.0 in
    let most : code < 192 = ltb-true code 192 both.1 in
    record {
      some = ne_eqb code 0 (λ none. omega (arith, least, none));
      kept = unreserved code (λ one. omega (arith, one, least)) most;
      other = rw (le-ltb code 32 (omega (arith, least)), lt-ltb 0 code (omega (arith, least))) refl;
    }

-- ---- what is heard

-- a confirmable request that wasn't heard before
pub request_heard : (seen : List Entry) (now : Moment) (from : Peer) (message : Message) → message.kind ≡ Confirmable
    → is_request_code message.code ≡ true → looked now from message.id seen ≡ None
    → heard seen now from (received_as.Message message) ≡ heard_as.Message message
request_heard seen now from message kind request unheard =
    let code = request_code message.code request in
    rw (code.some, code.kept, kind, unheard) refl

-- a response in an acknowledgement
pub response_heard : (seen : List Entry) (now : Moment) (from : Peer) (message : Message) → message.kind ≡ Acknowledgement
    → is_response_code message.code ≡ true → heard seen now from (received_as.Message message) ≡ heard_as.Message message
response_heard seen now from message kind response =
    let code = response_code message.code response in
    rw (code.some, code.kept, kind, code.other) refl

-- ---- which case it is

pub request_case : (targets : List Target) (exchanges : Table) (from to : Peer) (message : Message) (host : List ℕ) (port : ℕ)
    → is_request_code message.code ≡ true → has_unrecognised_unsafe 0 message.options ≡ false
    → value proxy_uri (recognised 0 message.options) ≡ None → value proxy_scheme (recognised 0 message.options) ≡ Some (codes "coap")
    → peer_of targets host port ≡ Some to
    → case_of targets exchanges from (Some (host, port)) message ≡ Forwarded to
request_case targets exchanges from to message host port request safe no_uri scheme target =
    rw (request, safe, no_uri, scheme, target) refl

pub response_case : (targets : List Target) (exchanges : Table) (from : Peer) (named : Option HostAndPort) (message : Message) (key : ℕ)
    → is_response_code message.code ≡ true → first_key (answers from message) exchanges ≡ Some key
    → case_of targets exchanges from named message ≡ Counted key
response_case targets exchanges from named message key response found =
    let code = response_code message.code response in
    rw (code.other, response, found) refl
