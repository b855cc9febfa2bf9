-- What a client sends of its own, and what it keeps then.
use Rattle.std.specs.Prelude.{◌≡◌, ◌≢◌, ℕ, ◌+◌, ◌<◌, ◌≤◌, Bool, true, false, ◌||◌, ◌==◌, nat_le, if◌then◌else◌, List, [], ◌∷◌, length, Option, Some, None, codes}
use Rattle.osc_model.specs.Refusals as refusal
use Rattle.osc_model.specs.{ace_cbor, exchange_lifetime, method_number, nonce_drawn, token_drawn, quiet, quiet_or_lost}
use Rattle.osc_model.specs.declared.code.Method.TheVariants.{Post}
use Rattle.osc_model.specs.declared.node.Draw.{Draw}
use Rattle.osc_model.specs.declared.node.Moment.{Moment}
use Rattle.osc_model.specs.declared.node.Peer.{Peer}
use Rattle.osc_model.specs.declared.request.Request.{Request}
use Rattle.osc_model.specs.declared.step.ClientResult.TheVariants.{Refused, TimedOut}
use Rattle.osc_model.specs.declared.step.Step.{Step}
use Rattle.osc_cbor.specs.{spelling as item_spelling}
use Rattle.osc_coap.specs.{bare, payload_of, Spells, spelling}
use Rattle.osc_coap.specs.Message.{Message}
use Rattle.osc_coap.specs.declared.kind.Kind.TheVariants.{Confirmable}
use Rattle.osc_options.specs.{content_format, uri_path, with_request}
use Rattle.osc_message.specs.{with_open, EndpointState, own_id, id_taken, after_tick, fresh_with, acts, ticked, tick_sends, timeout_of, GoesOut, datagram}
use Rattle.osc_context.specs.{greatest_number}
use Rattle.osc_ccm.specs.{Sealings, Tags}
use Rattle.osc_protect.specs.{IsProtectedRequest, longest_message, plain_bytes, request_length}
use Rattle.osc_authz.specs.{ClientContextState, offered_id, post_item}
use Rattle.osc_authz.specs.Begun.{Begun}
use Rattle.osc_authz.specs.declared.granted.ClientDesk.{ClientDesk}
use Rattle.osc_run.specs.{request_note}
use Rattle.osc_client.specs.State.{State}
use Rattle.osc_client.specs.Route.{HostAndPort, through}
use Rattle.osc_client.specs.declared.waiting.Awaited.{Awaited}
use Rattle.osc_client.specs.declared.waiting.Awaited.TheVariants.{Exchange, Ask}
use Rattle.osc_client.specs.declared.waiting.Waiting.{Waiting}

-- ---- one thing is opened

-- the message layer once this confirmable message was made and went out
abbrev pub sent : EndpointState → Moment → Peer → Draw → Message → EndpointState
sent endpoint now to draw message =
    record (id_taken draw endpoint) {
      sending = with_open endpoint.pace now to (own_id draw endpoint.next_id) (timeout_of draw) (spelling message) endpoint.sending;
    }

abbrev pub waits : EndpointState → Moment → Draw → Awaited → Waiting
waits endpoint now draw what = record { token = token_drawn draw; id = own_id draw endpoint.next_id; until = now.ms + exchange_lifetime; what = what }

abbrev pub opened : State → Moment → Draw → Message → Awaited → State
opened old now draw message what = record old {
  waiting = Some (waits old.endpoint now draw what);
  endpoint = sent old.endpoint now old.next_hop draw message;
}

-- a step that sends nothing, and tells the reason by its number
abbrev pub refusing : ℕ → Step
refusing number = record { out = []; notes = record quiet { result = Some (Refused number) } }

-- it isn't begun, for the reason of this number, and nothing changes
pub record IsRefused (number : ℕ) (old : State) (step : Step) (new : State) : Type 0 where
  pub told : step ≡ refusing number
  pub kept : new ≡ old

-- ---- an exchange (RFC 9203 section 4.1)

abbrev pub begun_by : State → Draw → Begun
begun_by old draw = record { nonce1 = nonce_drawn draw; recipient_id = offered_id old.context }

-- a post with this body: confirmable, to authz-info, as application/ace+cbor
abbrev pub post_with : ℕ → List ℕ → List ℕ → Message
post_with id token body =
    record (bare Confirmable (method_number Post) id token) { options = (uri_path, codes "authz-info") ∷ (content_format, ace_cbor ∷ []) ∷ []; payload = payload_of body }

abbrev pub post_of : ClientDesk → Begun → ℕ → List ℕ → Message
post_of desk begun id token = post_with id token (item_spelling (post_item desk.token begun.nonce1 (begun.recipient_id ∷ [])))

abbrev pub post_by : State → Draw → Message
post_by old draw = through old.origin (post_of old.desk (begun_by old draw) (own_id draw old.endpoint.next_id) (token_drawn draw))

-- Of each post of a token so granted, on this way, this is true of how many bytes it has, however it is begun: nonces and tokens of requests
-- have 8 bytes, as drawn.
abbrev pub OfEachPost : (ℕ → Type 0) → ClientDesk → Option HostAndPort → Type 0
OfEachPost Is desk origin =
    (begun : Begun) (id : ℕ) (token : List ℕ) → length begun.nonce1 ≡ 8 → length token ≡ 8
    → Is (length (spelling (through origin (post_of desk begun id token))))

-- the post of the client's token fits a datagram, whatever is drawn; or it is longer, whatever is
abbrev pub PostFits : State → Type 0
PostFits client = OfEachPost (λ size. size ≤ longest_message) client.desk client.origin

abbrev pub PostIsTooLong : State → Type 0
PostIsTooLong client = OfEachPost (λ size. longest_message < size) client.desk client.origin

-- 17 where something is open, 14 where the post is longer than a datagram may be, and else it goes out, as bytes that are read again
-- as it
pub data Exchanges (old : State) (now : Moment) (draw : Draw) (step : Step) (new : State) : Type 0 where
  busy : old.waiting ≢ None → IsRefused refusal.busy old step new → Exchanges old now draw step new
  too_long : old.waiting ≡ None → longest_message < length (spelling (post_by old draw)) → IsRefused refusal.datagram_too_long old step new
      → Exchanges old now draw step new
  begins : old.waiting ≡ None → length (spelling (post_by old draw)) ≤ longest_message → Spells (spelling (post_by old draw)) (post_by old draw)
      → step ≡ record { out = datagram old.next_hop (post_by old draw) ∷ []; notes = record quiet { drawn = Some (nonce_drawn draw) } }
      → new ≡ opened old now draw (post_by old draw) (Exchange (begun_by old draw))
      → Exchanges old now draw step new

-- ---- a tick

-- What waits is over where it was acknowledged before and its time has come, or where it is given up without an acknowledgement
-- (RFC 7252 sections 4.2 and 4.8.2).
abbrev pub is_over_by : Moment → Bool → Bool → Option Waiting → Bool
is_over_by now acknowledged none_left None = false
is_over_by now acknowledged none_left (Some waiting) = if acknowledged then nat_le waiting.until now.ms else none_left

abbrev pub is_over : Moment → EndpointState → Option Waiting → Bool
is_over now endpoint waiting = is_over_by now (length endpoint.sending == 0) (length (ticked endpoint.pace now endpoint.sending) == 0) waiting

-- What is due goes out, all of it, or, as the notes say then, is lost for lack of memory; what is over ends.
abbrev pub TicksBy : Bool → State → Moment → Step → State → Type 0
TicksBy false old now step new =
    GoesOut step.notes.lost (tick_sends old.endpoint.pace now old.endpoint.sending) step.out
    × (step.notes ≡ quiet_or_lost step.notes.lost)
    × (new ≡ record old { endpoint = after_tick now old.endpoint })
TicksBy true old now step new =
    GoesOut step.notes.lost (tick_sends old.endpoint.pace now old.endpoint.sending) step.out
    × (step.notes ≡ record quiet { result = Some TimedOut; lost = step.notes.lost })
    × (new ≡ record old { waiting = None; endpoint = after_tick now old.endpoint })

abbrev pub Ticks : State → Moment → Step → State → Type 0
Ticks old now step new = TicksBy (is_over now old.endpoint old.waiting) old now step new

-- whether a tick does anything but let notes go: something is due, or what waits is over
abbrev pub acts_at : State → Moment → Bool
acts_at old now = acts old.endpoint.pace now old.endpoint.sending || is_over now old.endpoint old.waiting

-- it starts again: the grant and the way to the server stay alone
abbrev pub restarted : State → State
restarted old = record old { context = None; waiting = None; endpoint = fresh_with old.endpoint.pace.more }

-- ---- a protected request (RFC 8613 section 8.1)

-- what a client's holder asks for, when, and the random bytes of the step
pub record Asked : Type 0 where
  pub at : Moment
  pub draw : Draw
  pub request : Request

-- the request as a message of its own: confirmable
abbrev pub plain_request : ℕ → List ℕ → Request → Message
plain_request id token request = with_request (bare Confirmable request.code.0 id token) request

abbrev pub plain_of : State → Draw → Request → Message
plain_of old draw request = through old.origin (plain_request (own_id draw old.endpoint.next_id) (token_drawn draw) request)

-- `is_sealing algorithm` is the relation of the algorithm's cipher, and `tag algorithm` how long its tag is
module _ (is_sealing : Sealings) (tag : Tags) where
  -- why a request isn't sent, by its number: something is open; there is no context; its numbers are used up; protected under the next
  -- one it would be longer than a datagram may be
  pub data IsHindered (old : State) (request : Request) (draw : Draw) (number : ℕ) : Type 0 where
    busy : number ≡ refusal.busy → old.waiting ≢ None → IsHindered old request draw number
    no_context : number ≡ refusal.no_context → old.waiting ≡ None → old.context ≡ None → IsHindered old request draw number
    exhausted : number ≡ refusal.exhausted → (context : ClientContextState) → old.waiting ≡ None → old.context ≡ Some context → greatest_number < context.next
        → IsHindered old request draw number
    too_long : number ≡ refusal.datagram_too_long → (context : ClientContextState) → old.waiting ≡ None → old.context ≡ Some context → context.next ≤ greatest_number
        → longest_message < request_length tag context.name context.next (plain_of old draw request) → IsHindered old request draw number

  -- nothing hinders it, under this context
  pub record IsFree (old : State) (request : Request) (draw : Draw) (context : ClientContextState) : Type 0 where
    pub idle : old.waiting ≡ None
    pub held : old.context ≡ Some context
    pub lawful : context.next ≤ greatest_number
    pub fits : request_length tag context.name context.next (plain_of old draw request) ≤ longest_message

  -- It is refused; or the next number is taken, and the protected request goes out, as bytes that are read again as it.
  pub data Asks (old : State) (asked : Asked) (step : Step) (new : State) : Type 0 where
    hindered : (number : ℕ) → IsHindered old asked.request asked.draw number → IsRefused number old step new → Asks old asked step new
    asks : (context : ClientContextState) (protected : Message) → IsFree old asked.request asked.draw context
        → IsProtectedRequest is_sealing context.name context.next (plain_of old asked.draw asked.request) protected
        → Spells (spelling protected) protected
        → step
        ≡ record {
          out = datagram old.next_hop protected ∷ [];
          notes = record quiet { seals = Some (request_note context.name context.next (plain_bytes (plain_of old asked.draw asked.request))) };
        }
        → new
        ≡ opened (record old { context = Some (record context { next = context.next + 1 }) }) asked.at asked.draw protected (Ask (record { number = context.next }))
        → Asks old asked step new
