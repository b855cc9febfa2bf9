-- What a proxy sends for each thing that it hears, and what it keeps after it (RFC 7252 sections 5.7.1 and 5.7.2).
use Rattle.std.specs.Prelude.{◌≡◌, ◌≢◌, ℕ, ◌+◌, nat_le, Bool, true, false, if◌then◌else◌, List, [], ◌∷◌, ◌++◌, length, Option, Some, None, option_map}
use Rattle.osc_model.specs.{read_as, code, refuses, sends}
use Rattle.osc_model.specs.Arrival.{Arrival}
use Rattle.osc_model.specs.declared.code.Code.{Code}
use Rattle.osc_model.specs.declared.node.Draw.{Draw}
use Rattle.osc_model.specs.declared.node.Moment.{Moment}
use Rattle.osc_model.specs.declared.node.Peer.{Peer}
use Rattle.osc_model.specs.declared.step.Datagram.{Datagram}
use Rattle.osc_model.specs.declared.step.Step.{Step}
use Rattle.osc_coap.specs.{bare, datagram_limit, HasSpelling, spelling}
use Rattle.osc_coap.specs.Message.{Message}
use Rattle.osc_coap.specs.declared.kind.Kind.{Kind}
use Rattle.osc_coap.specs.declared.kind.Kind.TheVariants.{Reset as ResetKind}
use Rattle.osc_message.specs.{EndpointState, own_id, settled, acknowledgement, is_confirmable, rejection, replied, reply_start, datagram, sent_to}
use Rattle.osc_message.specs.declared.handling.Handling.TheVariants as handling
use Rattle.osc_message.specs.declared.heard.Heard.{Heard}
use Rattle.osc_message.specs.declared.heard.Heard.TheVariants as heard
use Rattle.osc_proxy.specs.Case.{IsNewAnswered, case_of, ended_by}
use Rattle.osc_proxy.specs.Exchanges.{Changes, Table, count, first_key, free_key, get, is_named}
use Rattle.osc_proxy.specs.Forwarding.{answer, forwarded, forwarded_token}
use Rattle.osc_proxy.specs.Own.{goes_now, has_room, kind_of, sends_own, with_own}
use Rattle.osc_proxy.specs.Passage.{Passage}
use Rattle.osc_proxy.specs.ProxyUri.{HostAndPort}
use Rattle.osc_proxy.specs.Route.{Names}
use Rattle.osc_proxy.specs.State.{State}
use Rattle.osc_options.specs.{has_unrecognised_unsafe}
use Rattle.osc_proxy.specs.declared.case.ForwardCase.{ForwardCase}
use Rattle.osc_proxy.specs.declared.case.ForwardCase.TheVariants.{Refused, Forwarded, Counted, Unused}
use Rattle.osc_proxy.specs.declared.exchanges.Exchange.{Exchange}

-- Each message here has a spelling, by which it is read again as that very message (section 3).

-- ---- a request isn't forwarded

-- the answer that says why: in the acknowledgement, or in a non-confirmable message of the proxy's own
abbrev pub refusal : State → Arrival Message → Code → Message
refusal old came code = reply_start came.draw old.endpoint.next_id came.what code.0

pub record IsRefused (why : Code) (old : State) (came : Arrival Message) (step : Step) (new : State) : Type 0 where
  pub lawful : HasSpelling (refusal old came why)
  pub told : step ≡ refuses (record { code = why; reason = None }) (datagram came.from (refusal old came why) ∷ [])
  pub kept : new
      ≡ record old {
        endpoint = settled (replied came.draw came.what old.endpoint) came.at came.from (heard.Message came.what)
            (handling.Answered (Some (spelling (refusal old came why))));
      }

-- ---- a request is forwarded

-- the key of its exchange, where one is free and there is room for one more message to the target
abbrev pub key_for : State → Message → Peer → Option ℕ
key_for old message to = if has_room (is_confirmable message.kind) to old.endpoint then free_key old.exchanges else None

-- the message ID of the proxy's next message
abbrev pub next_own : State → Draw → ℕ
next_own old draw = own_id draw old.endpoint.next_id

abbrev pub forwarded_by : State → Passage → Message
forwarded_by old passage = forwarded (next_own old passage.came.draw) (forwarded_token passage.key passage.came.draw) passage.came.what

-- the message layer once the request was heard: a confirmable one is acknowledged at once (section 5.2.2)
abbrev pub taken_up : State → Arrival Message → EndpointState
taken_up old came =
    settled old.endpoint came.at came.from (heard.Message came.what) (handling.Answered (option_map spelling (acknowledgement came.what)))

-- the exchange of such a request, whose forwarded message has this ID
abbrev pub exchange_of : ℕ → Passage → Exchange
exchange_of id passage = record {
  client = passage.came.from;
  client_token = passage.came.what.token;
  confirmable = is_confirmable passage.came.what.kind;
  target = passage.to;
  id = id;
  token = forwarded_token passage.key passage.came.draw;
  opened = passage.came.at;
  room = tt;
}

-- what goes out of it now
abbrev pub sent_on : State → Passage → List Datagram
sent_on old passage =
    sends_own (goes_now (is_confirmable passage.came.what.kind) passage.to (taken_up old passage.came)) passage.to (spelling (forwarded_by old passage))

-- the message layer once it was made
abbrev pub kept_on : State → Passage → EndpointState
kept_on old passage =
    with_own (is_confirmable passage.came.what.kind) (taken_up old passage.came) passage.came.at passage.came.draw passage.to
    (spelling (forwarded_by old passage))

-- It goes out, or waits for its turn, and an exchange is open.
pub record IsForwarded (old : State) (passage : Passage) (step : Step) (new : State) : Type 0 where
  pub lawful : HasSpelling (forwarded_by old passage)
  pub told : step ≡ sends (sent_to passage.came.from (acknowledgement passage.came.what) ++ sent_on old passage)
  pub targets : new.targets ≡ old.targets
  pub endpoint : new.endpoint ≡ kept_on old passage
  pub was_free : get old.exchanges passage.key ≡ None
  pub opened : Changes old.exchanges new.exchanges passage.key (Some (exchange_of (next_own old passage.came.draw) passage))
  pub more : count new.exchanges ≡ count old.exchanges + 1

-- 4.13 where the forwarded message is longer than a datagram may be
abbrev pub FitsBy : Bool → State → Passage → Step → State → Type 0
FitsBy false old passage step new = IsRefused (code 4 13) old passage.came step new
FitsBy true old passage step new = IsForwarded old passage step new

abbrev pub PassesOn : State → Passage → Step → State → Type 0
PassesOn old passage step new = FitsBy (nat_le (length (spelling (forwarded_by old passage))) datagram_limit) old passage step new

-- 5.03 (Service Unavailable) without a key or room
abbrev pub ForwardsBy : Option ℕ → State → Arrival Message → Peer → Step → State → Type 0
ForwardsBy None old came to step new = IsRefused (code 5 3) old came step new
ForwardsBy (Some key) old came to step new = PassesOn old (record { came = came; to = to; key = key }) step new

-- ---- an answer goes back

-- the exchange of this key is open, and is closed; the next exchange gets its key
pub record Closes (key : ℕ) (exchange : Exchange) (old new : Table) : Type 0 where
  pub was : get old key ≡ Some exchange
  pub closed : Changes old new key None
  pub fewer : count new + 1 ≡ count old
  pub next : new.next ≡ key

-- the answer of an exchange that got none
abbrev pub failure : Code → ℕ → Exchange → Message
failure code id exchange = bare (kind_of exchange.confirmable) code.0 id exchange.client_token

-- the response with the client's token; 5.02 (Bad Gateway) in place of one that can't be forwarded
abbrev pub answer_to : ℕ → Exchange → Message → Message
answer_to id exchange response =
    if has_unrecognised_unsafe 0 response.options then failure (code 5 2) id exchange
    else answer (kind_of exchange.confirmable) id exchange.client_token response

abbrev pub has_way_back : EndpointState → Exchange → Bool
has_way_back endpoint exchange = has_room exchange.confirmable exchange.client endpoint

-- It goes out, or waits for its turn; where there is no room for one more message to the client it is dropped, and takes no ID.
abbrev pub back_sends : EndpointState → Exchange → Message → List Datagram
back_sends endpoint exchange message =
    if has_way_back endpoint exchange then sends_own (goes_now exchange.confirmable exchange.client endpoint) exchange.client (spelling message)
    else []

abbrev pub back_kept : EndpointState → Moment → Draw → Exchange → Message → EndpointState
back_kept endpoint now draw exchange message =
    if has_way_back endpoint exchange then with_own exchange.confirmable endpoint now draw exchange.client (spelling message)
    else endpoint

-- the message layer once a response was heard that counts: it acknowledges the forwarded message, and is acknowledged itself where
-- it is confirmable (sections 4.2 and 5.2.2)
abbrev pub counted : State → Arrival Message → Exchange → EndpointState
counted old came exchange =
    settled old.endpoint came.at came.from (heard.Message came.what) (handling.Counted exchange.id (option_map spelling (acknowledgement came.what)))

-- the answer to it that goes back
abbrev pub answer_for : State → Arrival Message → Exchange → Message
answer_for old came exchange = answer_to (next_own old came.draw) exchange came.what

pub record Counts (key : ℕ) (old : State) (came : Arrival Message) (step : Step) (new : State) : Type 0 where
  pub exchange : Exchange
  pub closes : Closes key exchange old.exchanges new.exchanges
  pub lawful : HasSpelling (answer_for old came exchange)
  pub told : step
      ≡ sends (sent_to came.from (acknowledgement came.what) ++ back_sends (counted old came exchange) exchange (answer_for old came exchange))
  pub targets : new.targets ≡ old.targets
  pub endpoint : new.endpoint ≡ back_kept (counted old came exchange) came.at came.draw exchange (answer_for old came exchange)

-- the message layer once an empty message was heard, which names this message ID: that is acknowledged
abbrev pub named : State → Arrival ℕ → EndpointState
named old came = settled old.endpoint came.at came.from (heard.Empty ResetKind came.what) handling.Dropped

-- the answer of an exchange whose forwarded message was rejected: 5.02 (Bad Gateway)
abbrev pub bad_gateway : State → Draw → Exchange → Message
bad_gateway old draw exchange = failure (code 5 2) (next_own old draw) exchange

-- A Reset came, which names the forwarded message of the exchange of this key.
pub record Ends (key : ℕ) (old : State) (came : Arrival ℕ) (step : Step) (new : State) : Type 0 where
  pub exchange : Exchange
  pub closes : Closes key exchange old.exchanges new.exchanges
  pub lawful : HasSpelling (bad_gateway old came.draw exchange)
  pub told : step ≡ sends (back_sends (named old came) exchange (bad_gateway old came.draw exchange))
  pub targets : new.targets ≡ old.targets
  pub endpoint : new.endpoint ≡ back_kept (named old came) came.at came.draw exchange (bad_gateway old came.draw exchange)

-- ---- what is heard

-- an empty acknowledgement or Reset, which names this message ID, and ends the exchange of this key, if any
abbrev pub Settles : Option ℕ → Kind → State → Arrival ℕ → Step → State → Type 0
Settles None kind old came step new =
    (step ≡ sends [])
    × (new ≡ record old { endpoint = settled old.endpoint came.at came.from (heard.Empty kind came.what) handling.Dropped })
Settles (Some key) kind old came step new = Ends key old came step new

-- A new message, in each case. One for no exchange is rejected, where it is confirmable, and else ignored; an acknowledgement
-- acknowledges all the same.
abbrev pub AnswersNew : State → Arrival Message → ForwardCase → Step → State → Type 0
AnswersNew old came (Refused why) step new = IsRefused why old came step new
AnswersNew old came (Forwarded to) step new = ForwardsBy (key_for old came.what to) old came to step new
AnswersNew old came (Counted key) step new = Counts key old came step new
AnswersNew old came Unused step new =
    (step ≡ sends (rejection came.from came.what.kind came.what.id))
    × (new ≡ record old { endpoint = settled old.endpoint came.at came.from (heard.Message came.what) handling.Dropped })

-- by what its options name, in the case that it is
pub record AnswersMessage (old : State) (came : Arrival Message) (step : Step) (new : State) : Type 0 where
  pub named : Option HostAndPort
  pub names : Names came.what.options named
  pub answers : AnswersNew old came (case_of old.targets old.exchanges came.from named came.what) step new

-- What the message layer answers by itself changes nothing; an empty message is settled; a new message is answered as its case says.
abbrev pub Answers : State → Arrival (List ℕ) → Heard → Step → State → Type 0
Answers old came (heard.Alone out) step new = (step ≡ sends out) × (new ≡ old)
Answers old came (heard.Empty kind id) step new =
    Settles (ended_by kind (first_key (is_named came.from id) old.exchanges)) kind old (read_as came id) step new
Answers old came (heard.Message message) step new = AnswersMessage old (read_as came message) step new

-- whether anything may be sent
abbrev pub IsAnswered : State → Peer → Heard → Type 0
IsAnswered old from (heard.Alone out) = out ≢ []
IsAnswered old from (heard.Empty kind id) = ended_by kind (first_key (is_named from id) old.exchanges) ≢ None
IsAnswered old from (heard.Message message) =
    (named : Option HostAndPort) × Names message.options named × IsNewAnswered message (case_of old.targets old.exchanges from named message)
