-- What a client that waits for the answer to its message does at a tick: the same bytes go out again by the timetable, or it gives up.
use Rattle.std.proofs.Common.{◌≡◌, ◌∙◌, sym, ap, subst, refl, ◌+◌, ◌≤◌, Bool, true, false, List, [], ◌∷◌, length, Option, Some, None, arith}
use Rattle.std.specs.Prelude.{◌==◌}
use Rattle.osc_model.specs.declared.node.Moment.{Moment}
use Rattle.osc_model.specs.declared.step.Datagram.{Datagram}
use Rattle.osc_model.specs.declared.step.Step.{Step}
use Rattle.osc_coap.specs.{spelling}
use Rattle.osc_message.specs.{GoesOut, Open, Sent, outstanding_due, tick_sends, ticked}
use Rattle.osc_message.specs.Pace.{Pace}
use Rattle.osc_message.specs.Ticks.{most_repeats}
use Rattle.osc_message.specs.declared.due.Due.{Due}
use Rattle.osc_message.specs.declared.due.Due.TheVariants.{Keep, Send, GiveUp}
use Rattle.osc_client.specs.State.{State as Client}
use Rattle.osc_client.specs.{Ticks as ClientTicks, TicksBy, is_over}
use Rattle.osc_client.specs.Sending.{is_over_by}
use Rattle.osc_client.specs.declared.waiting.Waiting.{Waiting}
use Rattle.osc_loss.specs.Road.{Road}
use Rattle.osc_loss.specs.Round.{GivesUp, SendsDue, request_of}

-- the message as the client keeps it
abbrev pub open_as : Road → Sent → Open
open_as road sent =
    record { to = road.route.server_at; id = road.message.id; timeout = road.timeout; bytes = spelling road.message; sent = Some sent }

-- the client that has just sent the message waits for the answer to it
pub record IsWaitingFor (road : Road) (client : Client) : Type 0 where
  pub waiting : Waiting
  pub waits : client.waiting ≡ Some waiting
  pub id : waiting.id ≡ road.message.id
  pub token : waiting.token ≡ road.message.token
  pub next_hop : client.next_hop ≡ road.route.server_at

-- it still does, and its message is open, gone out so often
pub record Asks (road : Road) (first : Client) (sent : Sent) (client : Client) : Type 0 where
  pub kept : client ≡ record first { endpoint = client.endpoint }
  pub sending : client.endpoint.sending ≡ open_as road sent ∷ []
  pub few : sent.repeats ≤ most_repeats

-- it waits for nothing, and nothing is open
pub record IsDone (client : Client) : Type 0 where
  pub waiting : client.waiting ≡ None
  pub sending : client.endpoint.sending ≡ []

pub nothing_due : (lost : Bool) (out : List Datagram) → GoesOut lost [] out → out ≡ []
nothing_due false out e = e
nothing_due true out e = e

-- whether what waits is over, by what is open
abbrev over_by : Pace → Moment → List Open → Option Waiting → Bool
over_by pace now sending waiting = is_over_by now (length sending == 0) (length (ticked pace now sending) == 0) waiting

module _ (road : Road) (pace : Pace) (now : Moment) (sent : Sent) where
  abbrev outstanding : Open
  outstanding = open_as road sent

  kept_in : outstanding_due now outstanding sent ≡ Keep → ticked pace now (outstanding ∷ []) ≡ outstanding ∷ []
  kept_in e = rw e refl

  keeps_out : outstanding_due now outstanding sent ≡ Keep → tick_sends pace now (outstanding ∷ []) ≡ []
  keeps_out e = rw e refl

  sent_in : outstanding_due now outstanding sent ≡ Send → ticked pace now (outstanding ∷ []) ≡ open_as road (record sent { repeats = sent.repeats + 1 }) ∷ []
  sent_in e = rw e refl

  sends_out : outstanding_due now outstanding sent ≡ Send → tick_sends pace now (outstanding ∷ []) ≡ request_of road ∷ []
  sends_out e = rw e refl

  gone_in : outstanding_due now outstanding sent ≡ GiveUp → ticked pace now (outstanding ∷ []) ≡ []
  gone_in e = rw e refl

  gone_out : outstanding_due now outstanding sent ≡ GiveUp → tick_sends pace now (outstanding ∷ []) ≡ []
  gone_out e = rw e refl

  over_keep : (waiting : Waiting) → outstanding_due now outstanding sent ≡ Keep → over_by pace now (outstanding ∷ []) (Some waiting) ≡ false
  over_keep waiting e = rw e refl

  over_send : (waiting : Waiting) → outstanding_due now outstanding sent ≡ Send → over_by pace now (outstanding ∷ []) (Some waiting) ≡ false
  over_send waiting e = rw e refl

  over_gone : (waiting : Waiting) → outstanding_due now outstanding sent ≡ GiveUp → over_by pace now (outstanding ∷ []) (Some waiting) ≡ true
  over_gone waiting e = rw e refl

  few_sent : outstanding_due now outstanding sent ≡ Send → sent.repeats + 1 ≤ most_repeats
  few_sent e = grind (arith, e)

module _ (road : Road) (old new : Client) (now : Moment) (step : Step) where
  abbrev pace : Pace
  pace = old.endpoint.pace

  -- when it is done
  pub tick_when_done : IsDone old → ClientTicks old now step new → SendsDue [] step × IsDone new × (new.context ≡ old.context)
  tick_when_done done ticks =
      let over : is_over now old.endpoint old.waiting ≡ false = ap (λ (w : Option Waiting). is_over now old.endpoint w) done.waiting in
      let it : TicksBy false old now step new = subst (λ (b : Bool). TicksBy b old now step new) over ticks.ticks in (
        (subst (λ (sending : List Open). GoesOut step.notes.lost (tick_sends pace now sending) step.out) done.sending it.0, it.1),
        record {
          waiting = ap (λ (c : Client). c.waiting) it.2 ∙ done.waiting;
          sending = ap (λ (c : Client). c.endpoint.sending) it.2 ∙ ap (ticked pace now) done.sending;
        },
        ap (λ (c : Client). c.context) it.2,
      )

  module _ (first : Client) (waits : IsWaitingFor road first) (sent : Sent) (asks : Asks road first sent old) (ticks : ClientTicks old now step new) where
    abbrev due : Due
    due = outstanding_due now (open_as road sent) sent

    waiting_is : old.waiting ≡ Some waits.waiting
    waiting_is = ap (λ (c : Client). c.waiting) asks.kept ∙ waits.waits

    over_is : is_over now old.endpoint old.waiting ≡ over_by pace now (open_as road sent ∷ []) (Some waits.waiting)
    over_is =
        ap (λ (w : Option Waiting). is_over now old.endpoint w) waiting_is
        ∙ ap (λ (sending : List Open). over_by pace now sending (Some waits.waiting)) asks.sending

    sends_is : (sends : List Datagram) → tick_sends pace now (open_as road sent ∷ []) ≡ sends → GoesOut step.notes.lost (tick_sends pace now old.endpoint.sending) step.out
        → GoesOut step.notes.lost sends step.out
    sends_is sends e = subst (λ (due : List Datagram). GoesOut step.notes.lost due step.out) (ap (tick_sends pace now) asks.sending ∙ e)

    -- a tick that isn't the last leaves what waits
    still_kept : TicksBy false old now step new → new ≡ record first { endpoint = new.endpoint }
    still_kept it =
        let same : new ≡ record old { endpoint = new.endpoint } = it.2 ∙ ap (λ (c : Client). record old { endpoint = c.endpoint }) (sym it.2) in
        same ∙ ap (λ (c : Client). record c { endpoint = new.endpoint }) asks.kept

    pub kept_at_tick : due ≡ Keep → SendsDue [] step × Asks road first sent new
    kept_at_tick e =
        let it : TicksBy false old now step new = subst (λ (b : Bool). TicksBy b old now step new) (over_is ∙ over_keep road pace now sent waits.waiting e) ticks.ticks in (
          (sends_is [] (keeps_out road pace now sent e) it.0, it.1),
          record {
            kept = still_kept it;
            sending = ap (λ (c : Client). c.endpoint.sending) it.2 ∙ ap (ticked pace now) asks.sending ∙ kept_in road pace now sent e;
            few = asks.few;
          },
        )

    pub sent_at_tick : due ≡ Send → SendsDue (request_of road ∷ []) step × Asks road first (record sent { repeats = sent.repeats + 1 }) new
    sent_at_tick e =
        let it : TicksBy false old now step new = subst (λ (b : Bool). TicksBy b old now step new) (over_is ∙ over_send road pace now sent waits.waiting e) ticks.ticks in (
          (sends_is (request_of road ∷ []) (sends_out road pace now sent e) it.0, it.1),
          record {
            kept = still_kept it;
            sending = ap (λ (c : Client). c.endpoint.sending) it.2 ∙ ap (ticked pace now) asks.sending ∙ sent_in road pace now sent e;
            few = few_sent road pace now sent e;
          },
        )

    pub given_up_at_tick : due ≡ GiveUp → GivesUp step × IsDone new × (new.context ≡ old.context)
    given_up_at_tick e =
        let it : TicksBy true old now step new = subst (λ (b : Bool). TicksBy b old now step new) (over_is ∙ over_gone road pace now sent waits.waiting e) ticks.ticks in (
          (nothing_due step.notes.lost step.out (sends_is [] (gone_out road pace now sent e) it.0), it.1),
          record {
            waiting = ap (λ (c : Client). c.waiting) it.2;
            sending = ap (λ (c : Client). c.endpoint.sending) it.2 ∙ ap (ticked pace now) asks.sending ∙ gone_in road pace now sent e;
          },
          ap (λ (c : Client). c.context) it.2,
        )
