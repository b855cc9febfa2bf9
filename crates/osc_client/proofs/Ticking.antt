-- What a tick leaves of the open messages.
use Rattle.std.proofs.Common.{◌≡◌, ap, refl, subst, sym, ℕ, Bool, true, false, List, [], ◌∷◌, ◌++◌, Option, Some, None}
use Rattle.std.specs.List.{AllByRecursion, filter_map}
use Rattle.osc_model.specs.declared.node.Moment.{Moment}
use Rattle.osc_model.specs.declared.node.Peer.{Peer}
use Rattle.osc_message.specs.declared.due.Due.{Due}
use Rattle.osc_message.specs.declared.due.Due.TheVariants.{Keep, Send, GiveUp}
use Rattle.osc_message.specs.Pace.{Pace}
use Rattle.osc_message.specs.{Open, is_named, after_tick, GoesOut, after, dues, due_of, tick_sends, ticked}
use Rattle.osc_model.specs.{quiet, quiet_or_lost}
use Rattle.osc_model.specs.declared.step.ClientResult.TheVariants.{TimedOut}
use Rattle.osc_model.specs.declared.step.Datagram.{Datagram}
use Rattle.osc_model.specs.declared.step.Step.{Step}
use Rattle.osc_client.specs.{TicksBy, is_over}
use Rattle.osc_client.specs.Sending.{Ticks}
use Rattle.osc_client.specs.State.{State}
use Rattle.osc_client.specs.Inner.Bounds.{KeepsOwn}
use Rattle.osc_client.specs.declared.waiting.Waiting.{Waiting}

-- the names of the messages stay
pub names_stay : (pace : Pace) (now : Moment) (peer : Peer) (id : ℕ) (base earlier all : List Open) → AllByRecursion (λ m. is_named peer id m ≡ true) all
    → AllByRecursion (λ m. is_named peer id m ≡ true) (filter_map (after now) (dues pace now base earlier all))
names_stay pace now peer id base earlier [] named = tt
names_stay pace now peer id base earlier (m ∷ all) named = by (due_of pace now base earlier m m.sent) (names_stay pace now peer id base (earlier ++ m ∷ []) all named.1)
  where
    rest : List Open
    rest = filter_map (after now) (dues pace now base (earlier ++ m ∷ []) all)

    by : (due : Due) → AllByRecursion (λ x. is_named peer id x ≡ true) rest
        → AllByRecursion (λ x. is_named peer id x ≡ true) (filter_map (after now) ((m, due) ∷ dues pace now base (earlier ++ m ∷ []) all))
    by Keep up = (named.0, up)
    by Send up = (named.0, up)
    by GiveUp up = up

pub named_after_tick : (pace : Pace) (now : Moment) (peer : Peer) (id : ℕ) (all : List Open) → AllByRecursion (λ m. is_named peer id m ≡ true) all
    → AllByRecursion (λ m. is_named peer id m ≡ true) (ticked pace now all)
named_after_tick pace now peer id all named = names_stay pace now peer id all [] all named

-- and no message is open but that of what waits
pub own_after_tick : (pace : Pace) (now : Moment) (peer : Peer) (waiting : Option Waiting) (sending : List Open) → KeepsOwn peer waiting sending → KeepsOwn peer waiting (ticked pace now sending)
own_after_tick pace now peer None sending own = ap (ticked pace now) own
own_after_tick pace now peer (Some waiting) sending own = named_after_tick pace now peer waiting.id sending own

-- ---- the result of a tick, by whether what waits is over

pub timed_out : (old : State) (now : Moment) (lost : Bool) (out : List Datagram) (step : Step) (new : State) → GoesOut lost (tick_sends old.endpoint.pace now old.endpoint.sending) out
    → is_over now old.endpoint old.waiting ≡ true → step ≡ record { out = out; notes = record quiet { result = Some TimedOut; lost = lost } }
    → new ≡ record old { waiting = None; endpoint = after_tick now old.endpoint } → Ticks old now step new
timed_out old now lost out step new goes over told kept =
    subst (λ (b : Bool). TicksBy b old now step new) (sym over) (subst (λ (s : Step). TicksBy true old now s new) (sym told) (goes, refl, kept))

pub went_on : (old : State) (now : Moment) (lost : Bool) (out : List Datagram) (step : Step) (new : State) → GoesOut lost (tick_sends old.endpoint.pace now old.endpoint.sending) out
    → is_over now old.endpoint old.waiting ≡ false → step ≡ record { out = out; notes = quiet_or_lost lost }
    → new ≡ record old { endpoint = after_tick now old.endpoint } → Ticks old now step new
went_on old now lost out step new goes over told kept =
    subst (λ (b : Bool). TicksBy b old now step new) (sym over) (subst (λ (s : Step). TicksBy false old now s new) (sym told) (goes, refl, kept))
