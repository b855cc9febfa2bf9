-- What whatever comes to a client does to what it waits for: nothing, where it waits for nothing, or where what comes leaves what waits.
use Rattle.std.proofs.Common.{◌≡◌, ◌∙◌, sym, ap, subst, refl, ℕ, Bool, true, false, ◌&&◌, List, [], ◌∷◌, Option, Some, None}
use Rattle.std.specs.Prelude.{◌==◌, ◌≢◌, bytes_eq, is_some}
use Rattle.std.proofs.lemmas.Bool.{ne_eqb}
use Rattle.std.proofs.lemmas.Slice.Eq.{bytes_eq-Decides}
use Rattle.osc_model.specs.{read_as, same_peer, sends}
use Rattle.osc_model.specs.Arrival.{Arrival}
use Rattle.osc_model.specs.declared.bytes.Bytes.{Bytes}
use Rattle.osc_model.specs.declared.node.Peer.{Peer}
use Rattle.osc_model.specs.declared.step.Datagram.{Datagram}
use Rattle.osc_model.specs.declared.step.Step.{Step}
use Rattle.osc_coap.specs.{Spells, is_request_code}
use Rattle.osc_coap.specs.Message.{Message}
use Rattle.osc_coap.specs.declared.kind.Kind.{Kind}
use Rattle.osc_coap.specs.declared.kind.Kind.TheVariants.{Acknowledgement, Confirmable, NonConfirmable, Reset}
use Rattle.osc_dedup.specs.{looked}
use Rattle.osc_dedup.specs.declared.table.Remembered.{Remembered}
use Rattle.osc_message.specs.{Open, Receives, acknowledged, acknowledged_by, empty_heard, heard, is_confirmable, is_named, is_reserved, new_or_repeated, rejected}
use Rattle.osc_message.specs.Heard.{carried, message_heard, repeated}
use Rattle.osc_message.specs.declared.heard.Heard.TheVariants as heard_as
use Rattle.osc_message.specs.declared.received.Received.{Received}
use Rattle.osc_message.specs.declared.received.Received.TheVariants as received
use Rattle.osc_options.specs.{unrecognised_critical}
use Rattle.osc_ccm.specs.{Sealings}
use Rattle.osc_client.specs.State.{State as Client}
use Rattle.osc_client.specs.{Answers, AnswersNew, Hears, case_of, counts, is_ended}
use Rattle.osc_client.specs.declared.case.ResponseCase.{ResponseCase}
use Rattle.osc_client.specs.declared.case.ResponseCase.TheVariants.{Counted, Refused, Unused}
use Rattle.osc_client.specs.declared.waiting.Waiting.{Waiting}
use Rattle.osc_loss.specs.Road.{IsNaming, IsUnrelated, LeavesWaiting, Road}
use Rattle.osc_loss.proofs.Places.{PeerLaws}

-- the client learns nothing, and of it nothing else changes but its message layer, where what is open stays
pub record Stays (old : Client) (step : Step) (new : Client) : Type 0 where
  pub result : step.notes.result ≡ None
  pub kept : new ≡ record old { endpoint = new.endpoint }
  pub sending : new.endpoint.sending ≡ old.endpoint.sending

module _ (is_sealing : Sealings) (old : Client) (came : Arrival (List ℕ)) (step : Step) (new : Client) where
  alone : (out : List Datagram) → (step ≡ sends out) × (new ≡ old) → Stays old step new
  alone out it = record {
    result = ap (λ (s : Step). s.notes.result) it.0;
    kept = by new it.1;
    sending = ap (λ (c : Client). c.endpoint.sending) it.1;
  }
    where
      by : (client : Client) → client ≡ old → client ≡ record old { endpoint = client.endpoint }
      by client same = same ∙ ap (λ (c : Client). record old { endpoint = c.endpoint }) (sym same)

  -- what has to be known of a message
  pub record Passes (message : Message) : Type 0 where
    -- an acknowledgement or a Reset ends nothing
    pub empty : (kind : Kind) → message.kind ≡ kind → IsNaming kind → is_ended old.next_hop came.from kind message.id old.waiting ≡ false
    pub still_open : (kind : Kind) → message.kind ≡ kind → IsNaming kind → acknowledged came.from message.id old.endpoint.sending ≡ old.endpoint.sending
    -- no response counts
    pub counts_not : is_request_code message.code ≡ false → counts old.next_hop came.from message old.waiting ≡ false

  module _ (message : Message) (passes : Passes message) where
    by_kind : (kind : Kind) → message.kind ≡ kind → acknowledged_by came.from kind message.id old.endpoint.sending ≡ old.endpoint.sending
    by_kind Confirmable same = refl
    by_kind NonConfirmable same = refl
    by_kind Acknowledgement same = passes.still_open Acknowledgement same tt
    by_kind Reset same = passes.still_open Reset same tt

    by_case : (c : ResponseCase) → case_of old.next_hop came.from old.waiting message ≡ c → AnswersNew is_sealing old (read_as came message) c step new → Stays old step new
    by_case Refused is it = record {
      result = ap (λ (s : Step). s.notes.result) it.0;
      kept = it.1 ∙ ap (λ (c : Client). record old { endpoint = c.endpoint }) (sym it.1);
      sending = ap (λ (c : Client). c.endpoint.sending) it.1 ∙ by_kind message.kind refl;
    }
    by_case Unused is it = record {
      result = ap (λ (s : Step). s.notes.result) it.0;
      kept = it.1 ∙ ap (λ (c : Client). record old { endpoint = c.endpoint }) (sym it.1);
      sending = ap (λ (c : Client). c.endpoint.sending) it.1 ∙ by_kind message.kind refl;
    }
    by_case Counted is it =
        absurd (not_counted (is_some (unrecognised_critical 0 message.options)) (is_request_code message.code && is_confirmable message.kind) (is_request_code message.code) refl refl refl is)
      where
        not_counted : (critical confirmable request : Bool) → is_some (unrecognised_critical 0 message.options) ≡ critical
            → (is_request_code message.code && is_confirmable message.kind) ≡ confirmable → is_request_code message.code ≡ request
            → case_of old.next_hop came.from old.waiting message ≡ Counted → ⊥
        not_counted true true request a b c is = let wrong : Refused ≡ Counted = rw (a, b) at is in cc
        not_counted true false request a b c is = let wrong : Unused ≡ Counted = rw (a, b) at is in cc
        not_counted false confirmable true a b c is = let wrong : Unused ≡ Counted = rw (a, c) at is in cc
        not_counted false confirmable false a b c is = let wrong : Unused ≡ Counted = rw (a, c, passes.counts_not c) at is in cc

    repeated_so : (kind : Kind) (reply : Option Bytes) → Answers is_sealing old came (repeated came.from kind reply) step new → Stays old step new
    repeated_so Confirmable reply it = alone _ it
    repeated_so NonConfirmable reply it = alone _ it
    repeated_so Acknowledgement reply it = alone _ it
    repeated_so Reset reply it = alone _ it

    new_one : (was : Option Remembered) → Answers is_sealing old came (new_or_repeated came.from message was) step new → Stays old step new
    new_one None it = by_case (case_of old.next_hop came.from old.waiting message) refl it
    new_one (Some noted) it = repeated_so message.kind noted.reply it

    in_acknowledgement : (b : Bool) → is_request_code message.code ≡ b → Answers is_sealing old came (carried old.endpoint.seen came.at came.from Acknowledgement message) step new
        → Stays old step new
    in_acknowledgement true is_code it =
        let so : Answers is_sealing old came (heard_as.Alone []) step new = rw is_code at it in
        alone [] so
    in_acknowledgement false is_code it =
        let so : Answers is_sealing old came (heard_as.Message message) step new = rw is_code at it in
        by_case (case_of old.next_hop came.from old.waiting message) refl so

    carried_so : (kind : Kind) → Answers is_sealing old came (carried old.endpoint.seen came.at came.from kind message) step new → Stays old step new
    carried_so Confirmable it = new_one (looked came.at came.from message.id old.endpoint.seen) it
    carried_so NonConfirmable it = new_one (looked came.at came.from message.id old.endpoint.seen) it
    carried_so Acknowledgement it = in_acknowledgement (is_request_code message.code) refl it
    carried_so Reset it = alone [] it

    settles : (kind : Kind) → message.kind ≡ kind → IsNaming kind → Answers is_sealing old came (heard_as.Empty kind message.id) step new → Stays old step new
    settles kind same naming it =
        let so = rw (passes.empty kind same naming) at it in
        record {
          result = ap (λ (s : Step). s.notes.result) so.0;
          kept = so.1 ∙ ap (λ (c : Client). record old { endpoint = c.endpoint }) (sym so.1);
          sending = ap (λ (c : Client). c.endpoint.sending) so.1 ∙ passes.still_open kind same naming;
        }

    empty_so : (kind : Kind) → message.kind ≡ kind → Answers is_sealing old came (empty_heard came.from kind message.id) step new → Stays old step new
    empty_so Confirmable same it = alone _ it
    empty_so NonConfirmable same it = alone _ it
    empty_so Acknowledgement same it = settles Acknowledgement same tt it
    empty_so Reset same it = settles Reset same tt it

    message_so : (empty reserved : Bool) → (message.code == 0) ≡ empty → is_reserved message.code ≡ reserved
        → Answers is_sealing old came (message_heard old.endpoint.seen came.at came.from message) step new → Stays old step new
    message_so true reserved a b it =
        let so : Answers is_sealing old came (empty_heard came.from message.kind message.id) step new = rw a at it in
        empty_so message.kind refl so
    message_so false true a b it =
        let so : Answers is_sealing old came (rejected came.from message.kind message.id) step new = rw (a, b) at it in
        alone _ so
    message_so false false a b it =
        let so : Answers is_sealing old came (carried old.endpoint.seen came.at came.from message.kind message) step new = rw (a, b) at it in
        carried_so message.kind so

  received_so : ((message : Message) → Spells came.what message → Passes message) → (it : Received) → Receives came.what it
      → Answers is_sealing old came (heard old.endpoint.seen came.at came.from it) step new → Stays old step new
  received_so passes received.Nothing is it = alone _ it
  received_so passes (received.Malformed kind id) is it = alone _ it
  received_so passes (received.Message message) is it =
      message_so message (passes message is.1) (message.code == 0) (is_reserved message.code) refl refl it

  pub stays : ((message : Message) → Spells came.what message → Passes message) → Hears is_sealing old came step new → Stays old step new
  stays passes hears = received_so passes hears.received hears.receives hears.answers

-- ---- where nothing waits

module _ (is_sealing : Sealings) (old : Client) (came : Arrival (List ℕ)) (step : Step) (new : Client) (waits : old.waiting ≡ None) (none : old.endpoint.sending ≡ []) where
  passes_idle : (message : Message) → Passes is_sealing old came step new message
  passes_idle message = record {
    empty = λ kind same naming. ap (is_ended old.next_hop came.from kind message.id) waits ∙ by kind;
    still_open = λ kind same naming. ap (acknowledged came.from message.id) none ∙ sym none;
    counts_not = λ isnt. ap (counts old.next_hop came.from message) waits;
  }
    where
      by : (kind : Kind) → is_ended old.next_hop came.from kind message.id None ≡ false
      by Confirmable = refl
      by NonConfirmable = refl
      by Acknowledgement = refl
      by Reset = refl

  pub stays_idle : Hears is_sealing old came step new → Stays old step new
  stays_idle hears = stays is_sealing old came step new (λ message is. passes_idle message) hears

-- ---- where a message waits

module _ (is_sealing : Sealings) (laws : PeerLaws) (road : Road)
    (old : Client) (came : Arrival (List ℕ)) (step : Step) (new : Client)
    (waiting : Waiting) (waits : old.waiting ≡ Some waiting) (id : waiting.id ≡ road.message.id) (token : waiting.token ≡ road.message.token)
    (next_hop : old.next_hop ≡ road.route.server_at)
    (one : Open) (sending : old.endpoint.sending ≡ one ∷ []) (to : one.to ≡ road.route.server_at) (one_id : one.id ≡ road.message.id)
    (leaves : LeavesWaiting road came) where
  abbrev hop : Peer
  hop = road.route.server_at

  module _ (message : Message) (is : Spells came.what message) where
    unrelated : same_peer hop came.from ≡ true → IsUnrelated road message
    unrelated same = leaves same message is

    -- from there, or from elsewhere
    elsewhere : same_peer hop came.from ≡ false → same_peer came.from hop ≡ false
    elsewhere away = at (same_peer came.from hop) refl
      where
        at : (b : Bool) → same_peer came.from hop ≡ b → same_peer came.from hop ≡ false
        at false out = out
        at true same =
            let here : same_peer hop came.from ≡ true = subst (λ (p : Peer). same_peer p came.from ≡ true) (laws.same came.from hop same) (laws.itself came.from) in
            let wrong : true ≡ false = sym here ∙ away in cc

    ended : (kind : Kind) → message.kind ≡ kind → IsNaming kind → is_ended old.next_hop came.from kind message.id old.waiting ≡ false
    ended kind same naming =
        ap (is_ended old.next_hop came.from kind message.id) waits
        ∙ ap (λ (p : Peer). is_ended p came.from kind message.id (Some waiting)) next_hop
        ∙ by kind same naming (same_peer hop came.from) refl
      where
        by : (kind : Kind) → message.kind ≡ kind → IsNaming kind → (b : Bool) → same_peer hop came.from ≡ b → is_ended hop came.from kind message.id (Some waiting) ≡ false
        by Acknowledgement same naming b from = refl
        by Reset same naming false from = rw from refl
        by Reset same naming true from =
            let other : message.id ≢ road.message.id = (unrelated from).id (subst IsNaming (sym same) naming) in
            rw (from, id, ne_eqb road.message.id message.id (λ e. other (sym e))) refl
        by Confirmable same naming b from = absurd naming
        by NonConfirmable same naming b from = absurd naming

    kept_open : (kind : Kind) → message.kind ≡ kind → IsNaming kind → acknowledged came.from message.id old.endpoint.sending ≡ old.endpoint.sending
    kept_open kind same naming = ap (acknowledged came.from message.id) sending ∙ stays_open (same_peer came.from hop) refl ∙ sym sending
      where
        named : (b : Bool) → same_peer came.from hop ≡ b → is_named came.from message.id one ≡ false
        named false from = rw (to, from) refl
        named true from =
            let here : same_peer hop came.from ≡ true = subst (λ (p : Peer). same_peer p came.from ≡ true) (laws.same came.from hop from) (laws.itself came.from) in
            let other : message.id ≢ road.message.id = (unrelated here).id (subst IsNaming (sym same) naming) in
            rw (to, from, one_id, ne_eqb message.id road.message.id other) refl

        stays_open : (b : Bool) → same_peer came.from hop ≡ b → acknowledged came.from message.id (one ∷ []) ≡ one ∷ []
        stays_open b from = rw (named b from) refl

    not_counted : is_request_code message.code ≡ false → counts old.next_hop came.from message old.waiting ≡ false
    not_counted isnt =
        ap (counts old.next_hop came.from message) waits
        ∙ ap (λ (p : Peer). counts p came.from message (Some waiting)) next_hop
        ∙ by (same_peer hop came.from) (bytes_eq waiting.token message.token) refl refl
      where
        by : (b same : Bool) → same_peer hop came.from ≡ b → bytes_eq waiting.token message.token ≡ same → counts hop came.from message (Some waiting) ≡ false
        by false same from tokens = rw from refl
        by true false from tokens = rw (from, tokens) refl
        by true true from tokens = absurd ((unrelated from).token isnt (sym ((bytes_eq-Decides waiting.token message.token).0 tokens) ∙ token))

    passes_waiting : Passes is_sealing old came step new message
    passes_waiting = record { empty = ended; still_open = kept_open; counts_not = not_counted }

  pub stays_waiting : Hears is_sealing old came step new → Stays old step new
  stays_waiting hears = stays is_sealing old came step new passes_waiting hears
