-- Which case a new message is to a proxy: the first test that holds, read from the top.
use Rattle.std.specs.Prelude.{◌≡◌, ℕ, true, if◌then◌else◌, List, Option, Some, None}
use Rattle.osc_model.specs.{code}
use Rattle.osc_model.specs.declared.node.Peer.{Peer}
use Rattle.osc_coap.specs.{is_request_code, is_response_code}
use Rattle.osc_coap.specs.Message.{Message as CoapMessage}
use Rattle.osc_coap.specs.declared.kind.Kind.{Kind}
use Rattle.osc_coap.specs.declared.kind.Kind.TheVariants.{Reset as ResetKind}
use Rattle.osc_message.specs.{is_confirmable}
use Rattle.osc_proxy.specs.Exchanges.{Table, answers, first_key}
use Rattle.osc_proxy.specs.ProxyUri.{HostAndPort}
use Rattle.osc_proxy.specs.Route.{route}
use Rattle.osc_proxy.specs.declared.case.ForwardCase.{ForwardCase}
use Rattle.osc_proxy.specs.declared.case.ForwardCase.TheVariants.{Refused, Forwarded, Counted, Unused}
use Rattle.osc_proxy.specs.declared.route.Destination.{Destination}
use Rattle.osc_proxy.specs.declared.route.Destination.TheVariants.{BadOption, NotFound, NotSupported, To}
use Rattle.osc_proxy.specs.declared.targets.Target.{Target}

-- a request is refused with the code of what hinders it (RFC 7252 sections 5.7.1 and 5.7.2), or forwarded
abbrev pub routed : Destination → ForwardCase
routed BadOption = Refused (code 4 2)
routed NotFound = Refused (code 4 4)
routed NotSupported = Refused (code 5 5)
routed (To peer) = Forwarded peer

-- a response counts for an exchange, or for none (section 5.3.2)
abbrev pub counted : Option ℕ → ForwardCase
counted None = Unused
counted (Some key) = Counted key

-- `named` is what the message's options name
abbrev pub case_of : List Target → Table → Peer → Option HostAndPort → CoapMessage → ForwardCase
case_of targets exchanges from named message =
    if is_request_code message.code then routed (route targets message.options named)
    else if is_response_code message.code then counted (first_key (answers from message) exchanges)
    else Unused

-- the exchange that an empty message ends: a Reset that whose confirmable message it names, acknowledged before or not (section 4.2)
abbrev pub ended_by : Kind → Option ℕ → Option ℕ
ended_by ResetKind found = found
ended_by kind found = None

-- whether a new message may be answered: one of no use is where it is rejected
abbrev pub IsNewAnswered : CoapMessage → ForwardCase → Type 0
IsNewAnswered message Unused = is_confirmable message.kind ≡ true
IsNewAnswered message case = Unit {0}
