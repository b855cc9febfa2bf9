-- A request that goes through the proxy, and its answer: how the proxy stands before, and the outcome (RFC 7252 section 5.7.2).
use Rattle.std.specs.Prelude.{◌≡◌, ℕ, ◌+◌, ◌%◌, ◌≤◌, true, false, List, [], ◌∷◌, length, Some, None, codes}
use Rattle.osc_model.specs.{read_as, sends}
use Rattle.osc_model.specs.Arrival.{Arrival}
use Rattle.osc_model.specs.declared.node.Draw.{Draw}
use Rattle.osc_model.specs.declared.node.Moment.{Moment}
use Rattle.osc_model.specs.declared.node.Peer.{Peer}
use Rattle.osc_model.specs.declared.step.Step.{Step}
use Rattle.osc_coap.specs.{is_request_code, is_response_code, datagram_limit, HasSpelling, spelling}
use Rattle.osc_coap.specs.Message.{Message}
use Rattle.osc_coap.specs.declared.kind.Kind.TheVariants.{Confirmable, Acknowledgement}
use Rattle.osc_options.specs.{proxy_scheme, proxy_uri, uri_host, uri_port, has_unrecognised_unsafe, recognised, value}
use Rattle.osc_dedup.specs.{Entry, looked}
use Rattle.osc_message.specs.{acknowledged, has_open, takes, with_open, noted, datagram, empty_acknowledgement, timeout_of}
use Rattle.osc_proxy.specs.Exchanges.{Changes, HasOwnTokens, count, free_key, get}
use Rattle.osc_proxy.specs.Forwarding.{answer}
use Rattle.osc_proxy.specs.Hearing.{Hears}
use Rattle.osc_proxy.specs.Passage.{Passage}
use Rattle.osc_proxy.specs.Route.{port_in}
use Rattle.osc_proxy.specs.State.{State}
use Rattle.osc_proxy.specs.Table.{exchange_of, forwarded_by, next_own}
use Rattle.osc_proxy.specs.Targets.{peer_of}

-- a message that a datagram can carry
pub record IsCarried (message : Message) : Type 0 where
  pub lawful : HasSpelling message
  pub short : length (spelling message) ≤ datagram_limit

-- what is true of each proxy: the token of each forwarded message is that of its exchange alone
pub record IsLawfulProxy (proxy : State) : Type 0 where
  pub own_tokens : HasOwnTokens proxy.exchanges

-- A confirmable message for this peer goes out at once: no message is open to it, and there is room for one (section 4.7).
pub record CanSendTo (proxy : State) (peer : Peer) : Type 0 where
  pub idle : has_open peer proxy.endpoint.sending ≡ false
  pub room : takes peer proxy.endpoint.sending ≡ true

-- ---- the way there

-- This request of a client is one that the proxy forwards at once, to this target, in the exchange of this key.
pub record TakesUp (proxy : State) (passage : Passage) : Type 0 where
  -- It is a confirmable request that a datagram carries; its token is as long as the proxy's own, so that a datagram carries what is
  -- forwarded, too.
  pub carried : IsCarried passage.came.what
  pub kind : passage.came.what.kind ≡ Confirmable
  pub request : is_request_code passage.came.what.code ≡ true
  pub token : length passage.came.what.token ≡ 8
  -- no message of its ID was heard from there lately
  pub unheard : looked passage.came.at passage.came.from passage.came.what.id proxy.endpoint.seen ≡ None
  -- each of its options is recognised, or safe to forward
  pub safe : has_unrecognised_unsafe 0 passage.came.what.options ≡ false
  -- By Proxy-Scheme, Uri-Host and Uri-Port, and no Proxy-Uri, it names a target that the proxy has.
  pub no_uri : value proxy_uri (recognised 0 passage.came.what.options) ≡ None
  pub scheme : value proxy_scheme (recognised 0 passage.came.what.options) ≡ Some (codes "coap")
  pub host : List ℕ
  pub host_is : value uri_host (recognised 0 passage.came.what.options) ≡ Some host
  pub target : peer_of proxy.targets host (port_in (value uri_port (recognised 0 passage.came.what.options))) ≡ Some passage.to
  -- this is the key of the next exchange, and a message to the target goes out at once
  pub free : free_key proxy.exchanges ≡ Some passage.key
  pub there : CanSendTo proxy passage.to

-- the datagram that the request came as
abbrev pub datagram_of : Passage → Arrival (List ℕ)
datagram_of passage = read_as passage.came (spelling passage.came.what)

-- the message ID of the answer that goes back: the one after that of the forwarded message (section 4.4)
abbrev pub answer_id : State → Draw → ℕ
answer_id proxy draw = (next_own proxy draw + 1) % 65536

-- what was heard lately, with this request, which is answered by the same acknowledgement where it comes again (section 4.5)
abbrev pub heard_with : State → Arrival Message → List Entry
heard_with proxy came = noted came.at came.from Confirmable came.what.id (Some (spelling (empty_acknowledgement came.what.id))) proxy.endpoint.seen

-- Two datagrams go out: the request is acknowledged to the client, and forwarded to the target under a message ID and a token of the
-- proxy's own. An exchange is open, and so is the forwarded message.
pub record IsPassedOn (proxy : State) (passage : Passage) (step : Step) (passed : State) : Type 0 where
  pub acknowledgement : IsCarried (empty_acknowledgement passage.came.what.id)
  pub forwarded : IsCarried (forwarded_by proxy passage)
  pub told : step
      ≡ sends (datagram passage.came.from (empty_acknowledgement passage.came.what.id) ∷ datagram passage.to (forwarded_by proxy passage) ∷ [])
  pub targets : passed.targets ≡ proxy.targets
  pub exchange : Changes proxy.exchanges passed.exchanges passage.key (Some (exchange_of (next_own proxy passage.came.draw) passage))
  pub more : count passed.exchanges ≡ count proxy.exchanges + 1
  pub next_id : passed.endpoint.next_id ≡ Some (answer_id proxy passage.came.draw)
  pub seen : passed.endpoint.seen ≡ heard_with proxy passage.came
  pub sending : passed.endpoint.sending
      ≡ with_open proxy.endpoint.pace passage.came.at passage.to (next_own proxy passage.came.draw) (timeout_of passage.came.draw) (spelling (forwarded_by proxy passage))
      proxy.endpoint.sending

-- ---- the way back

-- This response is in the acknowledgement of the message that was forwarded, a datagram carries it, and each of its options is
-- recognised, or safe to forward (section 5.2.1).
pub record IsAnswerTo (forwarded response : Message) : Type 0 where
  pub carried : IsCarried response
  pub kind : response.kind ≡ Acknowledgement
  pub id : response.id ≡ forwarded.id
  pub token : response.token ≡ forwarded.token
  pub code : is_response_code response.code ≡ true
  pub safe : has_unrecognised_unsafe 0 response.options ≡ false

-- what goes back: the response with the client's token, in a confirmable message of the proxy's own
abbrev pub answer_by : State → Passage → Message → Message
answer_by proxy passage response = answer Confirmable (answer_id proxy passage.came.draw) passage.came.what.token response

-- One datagram goes out: the answer, to the client. The exchange is closed, and the next one gets its key. Once the answer is
-- acknowledged, the messages are open that were open before the request came.
pub record IsBroughtBack (proxy : State) (passage : Passage) (response : Message) (step : Step) (brought : State) : Type 0 where
  pub answer : IsCarried (answer_by proxy passage response)
  pub told : step ≡ sends (datagram passage.came.from (answer_by proxy passage response) ∷ [])
  pub targets : brought.targets ≡ proxy.targets
  pub closed : get brought.exchanges passage.key ≡ None
  pub free : free_key brought.exchanges ≡ Some passage.key
  pub lawful : IsLawfulProxy brought
  pub next_id : brought.endpoint.next_id ≡ Some ((answer_id proxy passage.came.draw + 1) % 65536)
  pub seen : brought.endpoint.seen ≡ heard_with proxy passage.came
  pub sending : acknowledged passage.came.from (answer_id proxy passage.came.draw) brought.endpoint.sending ≡ proxy.endpoint.sending
  -- a datagram carries its acknowledgement
  pub acknowledgement : IsCarried (empty_acknowledgement (answer_id proxy passage.came.draw))

-- Nothing goes out. The exchange is closed, the next one gets its key, and the messages are open that were open before the request came.
pub record IsAtRest (proxy : State) (passage : Passage) (step : Step) (rested : State) : Type 0 where
  pub told : step ≡ sends []
  pub targets : rested.targets ≡ proxy.targets
  pub closed : get rested.exchanges passage.key ≡ None
  pub free : free_key rested.exchanges ≡ Some passage.key
  pub lawful : IsLawfulProxy rested
  pub next_id : rested.endpoint.next_id ≡ Some ((answer_id proxy passage.came.draw + 1) % 65536)
  pub seen : rested.endpoint.seen ≡ heard_with proxy passage.came
  pub sending : rested.endpoint.sending ≡ proxy.endpoint.sending

-- ---- there and back

-- a response of the target, as it comes at this moment
abbrev pub answered_at : Passage → Moment → Draw → Message → Arrival (List ℕ)
answered_at passage at draw response = record { at = at; from = passage.to; draw = draw; what = spelling response }

-- the client's empty acknowledgement of the answer, as it comes at this moment
abbrev pub acknowledged_at : State → Passage → Moment → Draw → Arrival (List ℕ)
acknowledged_at proxy passage at draw = record {
  at = at;
  from = passage.came.from;
  draw = draw;
  what = spelling (empty_acknowledgement (answer_id proxy passage.came.draw));
}

-- The answer goes back to the client; and where the client's empty acknowledgement of it comes, the proxy is at rest.
pub record GoesBack (proxy : State) (passage : Passage) (response : Message) (step : Step) (brought : State) : Type 0 where
  pub back : IsBroughtBack proxy passage response step brought
  pub ends : (last : Moment) (draw : Draw) (third : Step) (rested : State)
      → Hears brought (acknowledged_at proxy passage last draw) third rested
      → IsAtRest proxy passage third rested

-- The request goes on to its target; and where an answer to what was forwarded comes from there, it goes back.
pub record GoesThereAndBack (proxy : State) (passage : Passage) (step : Step) (passed : State) : Type 0 where
  pub there : IsPassedOn proxy passage step passed
  pub back : (later : Moment) (draw : Draw) (response : Message) (second : Step) (brought : State)
      → IsAnswerTo (forwarded_by proxy passage) response
      → Hears passed (answered_at passage later draw response) second brought
      → GoesBack proxy passage response second brought
