-- What the client makes of a request on the road: ticks send the same bytes again by the timetable, the first reply is the answer, and
-- what is late leads to nothing.
use Rattle.std.proofs.Common.{◌≡◌, ◌∙◌, sym, ap, subst, refl, ℕ, ◌+◌, ◌≤◌, Bool, true, false, if◌then◌else◌, List, [], ◌∷◌, length, Option, Some, None, inl, inr, arith}
use Rattle.std.specs.Prelude.{option_map, ◌==◌}
use Rattle.osc_model.specs.{sends, quiet, same_peer}
use Rattle.osc_model.specs.Arrival.{Arrival}
use Rattle.osc_model.specs.declared.node.Draw.{Draw}
use Rattle.osc_model.specs.declared.node.Moment.{Moment}
use Rattle.osc_model.specs.declared.node.Peer.{Peer}
use Rattle.osc_model.specs.declared.step.ClientResult.TheVariants as result
use Rattle.osc_model.specs.declared.step.Datagram.{Datagram}
use Rattle.osc_model.specs.declared.step.Step.{Step}
use Rattle.osc_coap.specs.{NumberAndValue, spelling}
use Rattle.osc_coap.specs.Message.{Message}
use Rattle.osc_coap.specs.declared.kind.Kind.{Kind}
use Rattle.osc_coap.specs.declared.kind.Kind.TheVariants.{Acknowledgement}
use Rattle.osc_options.specs.{outer_options, merge, protected}
use Rattle.osc_dedup.specs.{Entry}
use Rattle.osc_message.specs.{Open, Sent, GoesOut, acknowledged, acknowledgement, empty_acknowledgement, heard, is_confirmable, rejection, sent_to, settled, tick_sends, ticked}
use Rattle.osc_message.specs.Pace.{Pace}
use Rattle.osc_message.specs.Ticks.{most_repeats, outstanding_due}
use Rattle.osc_message.specs.declared.due.Due.{Due}
use Rattle.osc_message.specs.declared.due.Due.TheVariants.{Keep, Send, GiveUp}
use Rattle.osc_message.specs.declared.handling.Handling.TheVariants.{Counted as CountedSo, Dropped}
use Rattle.osc_message.specs.declared.heard.Heard.{Heard}
use Rattle.osc_message.specs.declared.heard.Heard.TheVariants as heard_as
use Rattle.osc_message.specs.declared.received.Received.{Received}
use Rattle.osc_message.specs.declared.received.Received.TheVariants as received
use Rattle.osc_protect.specs.{response_value}
use Rattle.osc_ccm.specs.{Sealings, Tags}
use Rattle.osc_client.specs.State.{State as Client}
use Rattle.osc_client.specs.{Answers as ClientAnswers, AnswersNew as ClientAnswersNew, Counts, Hears as ClientHears, Ticks as ClientTicks, TicksBy, case_of as client_case, is_over}
use Rattle.osc_client.specs.Sending.{is_over_by}
use Rattle.osc_client.specs.declared.case.ResponseCase.{ResponseCase}
use Rattle.osc_client.specs.declared.case.ResponseCase.TheVariants.{Unused}
use Rattle.osc_client.specs.declared.waiting.Waiting.{Waiting}
use Rattle.osc_rounds.specs.{AwaitsReply, CarriesReply, IsAnsweredWith, in_acknowledgement, in_bytes}
use Rattle.osc_rounds.specs.Loss.{Given, GivesUp, OnTheRoad, SendsDue, answering, request_of}
use Rattle.osc_rounds.proofs.LossAccount.{open_as}
use Rattle.osc_rounds.proofs.Asking.{in_place, one_option, received_as}
use Rattle.osc_rounds.proofs.Accepting.{reply_accepted, reply_counts, same_number}
use Rattle.osc_rounds.proofs.AskRound.{RoundLaws}
use Rattle.osc_rounds.proofs.LossServer.{IsForClient}

module _ (road : OnTheRoad) where
  -- the client waits, and its message is open, once more or again
  pub record Asks (sent : Sent) (client : Client) : Type 0 where
    pub awaits : AwaitsReply client road.way.server_at road.way.held.name road.way.number road.message
    pub sending : client.endpoint.sending ≡ open_as road sent ∷ []
    pub few : sent.repeats ≤ most_repeats

  -- it waits for nothing, and nothing is open
  pub record IsDone (client : Client) : Type 0 where
    pub waiting : client.waiting ≡ None
    pub sending : client.endpoint.sending ≡ []

  abbrev pub ClientStands : Option Sent → Client → Type 0
  ClientStands None client = IsDone client
  ClientStands (Some sent) client = Asks sent client

-- ---- a tick

pub nothing_due : (lost : Bool) (out : List Datagram) → GoesOut lost [] out → out ≡ []
nothing_due false out e = e
nothing_due true out e = e

-- whether what waits is over, by what is open
abbrev over_by : Pace → Moment → List Open → Option Waiting → Bool
over_by pace now sending waiting = is_over_by now (length sending == 0) (length (ticked pace now sending) == 0) waiting

module _ (road : OnTheRoad) (pace : Pace) (now : Moment) (sent : Sent) where
  abbrev outstanding : Open
  outstanding = open_as road sent

  kept_in : outstanding_due now outstanding sent ≡ Keep → ticked pace now (outstanding ∷ []) ≡ outstanding ∷ []
  kept_in e = rw e refl

  keeps_out : outstanding_due now outstanding sent ≡ Keep → tick_sends pace now (outstanding ∷ []) ≡ []
  keeps_out e = rw e refl

  sent_in : outstanding_due now outstanding sent ≡ Send → ticked pace now (outstanding ∷ []) ≡ open_as road (record sent { repeats = sent.repeats + 1 }) ∷ []
  sent_in e = rw e refl

  sends_out : outstanding_due now outstanding sent ≡ Send → tick_sends pace now (outstanding ∷ []) ≡ request_of road ∷ []
  sends_out e = rw e refl

  gone_in : outstanding_due now outstanding sent ≡ GiveUp → ticked pace now (outstanding ∷ []) ≡ []
  gone_in e = rw e refl

  gone_out : outstanding_due now outstanding sent ≡ GiveUp → tick_sends pace now (outstanding ∷ []) ≡ []
  gone_out e = rw e refl

  over_keep : (waiting : Waiting) → outstanding_due now outstanding sent ≡ Keep → over_by pace now (outstanding ∷ []) (Some waiting) ≡ false
  over_keep waiting e = rw e refl

  over_send : (waiting : Waiting) → outstanding_due now outstanding sent ≡ Send → over_by pace now (outstanding ∷ []) (Some waiting) ≡ false
  over_send waiting e = rw e refl

  over_gone : (waiting : Waiting) → outstanding_due now outstanding sent ≡ GiveUp → over_by pace now (outstanding ∷ []) (Some waiting) ≡ true
  over_gone waiting e = rw e refl

  few_sent : outstanding_due now outstanding sent ≡ Send → sent.repeats + 1 ≤ most_repeats
  few_sent e = grind (arith, e)

module _ (road : OnTheRoad) (old new : Client) (now : Moment) (step : Step) where
  abbrev pace : Pace
  pace = old.endpoint.pace

  -- when it is done
  pub tick_when_done : IsDone road old → ClientTicks old now step new → SendsDue [] step × IsDone road new
  tick_when_done done ticks =
      let over : is_over now old.endpoint old.waiting ≡ false = ap (λ (w : Option Waiting). is_over now old.endpoint w) done.waiting in
      let it : TicksBy false old now step new = subst (λ (b : Bool). TicksBy b old now step new) over ticks.ticks in (
        (subst (λ (sending : List Open). GoesOut step.notes.lost (tick_sends pace now sending) step.out) done.sending it.0, it.1),
        record {
          waiting = ap (λ (c : Client). c.waiting) it.2 ∙ done.waiting;
          sending = ap (λ (c : Client). c.endpoint.sending) it.2 ∙ ap (ticked pace now) done.sending;
        },
      )

  module _ (sent : Sent) (asks : Asks road sent old) (ticks : ClientTicks old now step new) where
    abbrev due : Due
    due = outstanding_due now (open_as road sent) sent

    over_is : is_over now old.endpoint old.waiting ≡ over_by pace now (open_as road sent ∷ []) (Some asks.awaits.waiting)
    over_is =
        ap (λ (w : Option Waiting). is_over now old.endpoint w) asks.awaits.waits
        ∙ ap (λ (sending : List Open). over_by pace now sending (Some asks.awaits.waiting)) asks.sending

    sends_is : (sends : List Datagram) → tick_sends pace now (open_as road sent ∷ []) ≡ sends → GoesOut step.notes.lost (tick_sends pace now old.endpoint.sending) step.out
        → GoesOut step.notes.lost sends step.out
    sends_is sends e = subst (λ (due : List Datagram). GoesOut step.notes.lost due step.out) (ap (tick_sends pace now) asks.sending ∙ e)

    -- a tick that isn't the last leaves what is awaited
    still_awaits : TicksBy false old now step new → AwaitsReply new road.way.server_at road.way.held.name road.way.number road.message
    still_awaits it = record {
      next = asks.awaits.next;
      held = ap (λ (c : Client). c.context) it.2 ∙ asks.awaits.held;
      waiting = asks.awaits.waiting;
      waits = ap (λ (c : Client). c.waiting) it.2 ∙ asks.awaits.waits;
      asks = asks.awaits.asks;
      id = asks.awaits.id;
      token = asks.awaits.token;
      peer = ap (λ (c : Client). same_peer c.next_hop road.way.server_at) it.2 ∙ asks.awaits.peer;
      number_lawful = asks.awaits.number_lawful;
    }

    pub kept_at_tick : due ≡ Keep → SendsDue [] step × Asks road sent new
    kept_at_tick e =
        let it : TicksBy false old now step new = subst (λ (b : Bool). TicksBy b old now step new) (over_is ∙ over_keep road pace now sent asks.awaits.waiting e) ticks.ticks in (
          (sends_is [] (keeps_out road pace now sent e) it.0, it.1),
          record {
            awaits = still_awaits it;
            sending = ap (λ (c : Client). c.endpoint.sending) it.2 ∙ ap (ticked pace now) asks.sending ∙ kept_in road pace now sent e;
            few = asks.few;
          },
        )

    pub sent_at_tick : due ≡ Send → SendsDue (request_of road ∷ []) step × Asks road (record sent { repeats = sent.repeats + 1 }) new
    sent_at_tick e =
        let it : TicksBy false old now step new = subst (λ (b : Bool). TicksBy b old now step new) (over_is ∙ over_send road pace now sent asks.awaits.waiting e) ticks.ticks in (
          (sends_is (request_of road ∷ []) (sends_out road pace now sent e) it.0, it.1),
          record {
            awaits = still_awaits it;
            sending = ap (λ (c : Client). c.endpoint.sending) it.2 ∙ ap (ticked pace now) asks.sending ∙ sent_in road pace now sent e;
            few = few_sent road pace now sent e;
          },
        )

    pub given_up_at_tick : due ≡ GiveUp → GivesUp step × IsDone road new
    given_up_at_tick e =
        let it : TicksBy true old now step new = subst (λ (b : Bool). TicksBy b old now step new) (over_is ∙ over_gone road pace now sent asks.awaits.waiting e) ticks.ticks in (
          (nothing_due step.notes.lost step.out (sends_is [] (gone_out road pace now sent e) it.0), it.1),
          record {
            waiting = ap (λ (c : Client). c.waiting) it.2;
            sending = ap (λ (c : Client). c.endpoint.sending) it.2 ∙ ap (ticked pace now) asks.sending ∙ gone_in road pace now sent e;
          },
        )

-- ---- a reply

no_acknowledgement : (is_sealing : Sealings) (road : OnTheRoad) (given : Given) → IsForClient is_sealing road given → sent_to road.way.server_at (acknowledgement given.answer) ≡ []
no_acknowledgement is_sealing road given is =
    ap (λ (kind : Kind). sent_to road.way.server_at (if is_confirmable kind then Some (empty_acknowledgement given.answer.id) else None))
    (ap (λ (m : Message). m.kind) is.protected.whole ∙ is.kind)

late_heard : (seen : List Entry) (now : Moment) (from : Peer) (m : Message) (options : List NumberAndValue) (sealed : List ℕ) → m.kind ≡ Acknowledgement
    → heard seen now from (received.Message (in_place m 68 options sealed)) ≡ heard_as.Message (in_place m 68 options sealed)
late_heard seen now from m options sealed kind = rw kind refl

late_case : (next_hop from : Peer) (m : Message) (v sealed : List ℕ) → outer_options m.options ≡ [] → length v ≤ 255
    → client_case next_hop from None (protected m 68 v sealed) ≡ Unused
late_case next_hop from m v sealed inside short =
    let options : merge (outer_options m.options) ((9, v) ∷ []) ≡ (9, v) ∷ [] = ap (λ (outer : List NumberAndValue). merge outer ((9, v) ∷ [])) inside in
    rw options (rw (one_option v short) refl)

pub late_rejection : (from : Peer) (m : Message) → m.kind ≡ Acknowledgement → rejection from m.kind m.id ≡ []
late_rejection from m kind = rw kind refl

pub late_sending : (old : Client) (now : Moment) (from : Peer) (m : Message) → m.kind ≡ Acknowledgement → old.endpoint.sending ≡ []
    → (settled old.endpoint now from (heard_as.Message m) Dropped).sending ≡ []
late_sending old now from m kind none = rw kind (ap (acknowledged from m.id) none)

pub answered_sending : (road : OnTheRoad) (sent : Sent) (old : Client) (now : Moment) (m : Message) (id : ℕ) (reply : Option (List ℕ))
    → same_peer road.way.server_at road.way.server_at ≡ true
    → m.kind ≡ Acknowledgement → m.id ≡ road.message.id → old.endpoint.sending ≡ open_as road sent ∷ []
    → (settled old.endpoint now road.way.server_at (heard_as.Message m) (CountedSo id reply)).sending ≡ []
answered_sending road sent old now m id reply itself kind its_id outstanding =
    rw (kind, outstanding, its_id) (rw (itself, same_number road.message.id) refl)

module _ (is_sealing : Sealings) (tag : Tags) (laws : RoundLaws is_sealing tag) (road : OnTheRoad) (given : Given) (is : IsForClient is_sealing road given)
    (old new : Client) (now : Moment) (draw : Draw) (step : Step) where
  abbrev came : Arrival Message
  came = record { at = now; from = road.way.server_at; draw = draw; what = given.answer }

  abbrev m : Message
  m = is.plain

  abbrev v : List ℕ
  v = response_value None

  carries_now : CarriesReply old now road.way.server_at road.message given.reply m
  carries_now = record {
    comes = in_acknowledgement is.kind is.id;
    token = is.carries.token;
    inside = is.carries.inside;
    plaintext = is.carries.plaintext;
    within = is.carries.within;
    least = is.carries.least;
    most = is.carries.most;
  }

  kind_is : given.answer.kind ≡ Acknowledgement
  kind_is = ap (λ (p : Message). p.kind) is.protected.whole ∙ is.kind

  id_is : given.answer.id ≡ road.message.id
  id_is = ap (λ (p : Message). p.id) is.protected.whole ∙ is.id

  -- the first
  pub reply_while_asking : (sent : Sent) → Asks road sent old → ClientHears is_sealing old (in_bytes came) step new
      → (step ≡ answering road given) × IsDone road new
  reply_while_asking sent asks hears =
      let it : IsAnsweredWith (sent_to road.way.server_at (acknowledgement given.answer)) old
      (record { name = road.way.held.name; number = road.way.number; reply = given.reply }) step new =
      reply_accepted is_sealing laws.reply old came road.way.held.name road.way.number road.message m given.reply step new asks.awaits carries_now is.protected is.carried hears in
      let counts : Counts is_sealing old came step new =
      reply_counts is_sealing laws.reply old came road.way.held.name road.way.number road.message m given.reply step new asks.awaits carries_now is.protected is.carried hears in (
        it.told ∙ ap (λ (out : List Datagram). let s : Step = record { out = out; notes = (answering road given).notes } in s) (no_acknowledgement is_sealing road given is),
        record {
          waiting = it.waiting;
          sending = ap (λ (c : Client). c.endpoint.sending) counts.kept
              ∙ answered_sending road sent old now given.answer counts.waiting.id (option_map spelling (acknowledgement given.answer)) (laws.itself road.way.server_at) kind_is id_is asks.sending;
        },
      )

  -- a later one, or one after the client gave up
  pub reply_when_done : IsDone road old → ClientHears is_sealing old (in_bytes came) step new → (step ≡ sends []) × IsDone road new
  reply_when_done done hears =
      let as_it : hears.received ≡ received.Message (protected m 68 v is.protected.sealed) =
      received_as laws.reply.one_reception given.answer hears.received is.carried hears.receives ∙ ap received.Message is.protected.whole in
      let options : List NumberAndValue = merge (outer_options m.options) ((9, v) ∷ []) in
      let heard_is : heard old.endpoint.seen now road.way.server_at hears.received ≡ heard_as.Message given.answer =
      ap (λ (r : Received). heard old.endpoint.seen now road.way.server_at r) as_it
      ∙ late_heard old.endpoint.seen now road.way.server_at m options is.protected.sealed is.kind
      ∙ ap heard_as.Message (sym is.protected.whole) in
      let case_is : client_case old.next_hop road.way.server_at old.waiting given.answer ≡ Unused =
      ap (client_case old.next_hop road.way.server_at old.waiting) is.protected.whole
      ∙ ap (λ (w : Option Waiting). client_case old.next_hop road.way.server_at w (protected m 68 v is.protected.sealed)) done.waiting
      ∙ late_case old.next_hop road.way.server_at m v is.protected.sealed is.carries.inside laws.reply.value_short in
      let so : ClientAnswersNew is_sealing old came (client_case old.next_hop road.way.server_at old.waiting given.answer) step new =
      subst (λ (h : Heard). ClientAnswers is_sealing old (in_bytes came) h step new) heard_is hears.answers in
      let it : ClientAnswersNew is_sealing old came Unused step new = subst (λ (c : ResponseCase). ClientAnswersNew is_sealing old came c step new) case_is so in (
        it.0 ∙ ap sends (late_rejection road.way.server_at given.answer kind_is),
        record {
          waiting = ap (λ (c : Client). c.waiting) it.1 ∙ done.waiting;
          sending = ap (λ (c : Client). c.endpoint.sending) it.1 ∙ late_sending old now road.way.server_at given.answer kind_is done.sending;
        },
      )
