use Rattle.std.proofs.Common.{◌≡◌, ℕ, ◌++◌, Some, Bool, true, false, ◌||◌, List, refl, sym, ap, ◌∙◌, subst}
use Rattle.std.proofs.lemmas.List.Elements.{All-nil}
use Rattle.osc_model.specs.{quiet_or_lost}
use Rattle.osc_model.specs.declared.step.Datagram.{Datagram}
use Rattle.osc_model.specs.declared.step.Step.{Step}
use Rattle.osc_message.specs.{EndpointState, after_tick, AreSendable, FitsDatagram, GoesOut, tick_gives_up, tick_sends}
use Rattle.osc_message.specs.declared.name.MessageName.{MessageName}
use Rattle.osc_proxy.specs.{get, is_given_up, without_over, AllEnd, without_over_in}
use Rattle.osc_proxy.specs.State.{State}
use Rattle.osc_proxy.specs.declared.exchanges.Exchange.{Exchange}
use Rattle.osc_proxy.proofs.Fits.{sendable_both}
use Rattle.osc_proxy.proofs.GivenUp.{all_end_same}
use Rattle.osc_proxy.proofs.ticking.tick.Goals.{then-lost_repeats, else-lost_repeats}
use Rattle.osc_proxy.proofs.ticking.tick.Goals as goal

sendable_told : (lost : Bool) (answers told : List Datagram) → GoesOut lost answers told → AreSendable answers → AreSendable told
sendable_told false answers told same fits = subst AreSendable (sym same) fits
sendable_told true answers told none fits = rw none (All-nil (λ sent. FitsDatagram sent.bytes))

pub returns : goal.returns
returns c =
    λ targets.
    let now = c.args.now in
    let draw = c.args.draw.now in
    let table = c.args.exchanges.now in
    let endpoint = c.args.endpoint.now in
    let old : State = record { targets = targets; exchanges = table; endpoint = endpoint } in
    let new : State = record { targets = targets; exchanges = c.answer_all-out.new.exchanges; endpoint = c.answer_all-out.new.endpoint } in
    let left = without_over now table endpoint.sending in
    let did = c.on_tick-out.ensures in
    let done = c.answer_all-out.ensures in
    let repeats = c.on_tick-out.result.out in
    let answers = done.0 in
    let told_answers = done.1 in
    let pace = endpoint.pace in
    let given_up : tick_gives_up c.withdraw_over.new.endpoint.pace now c.withdraw_over.new.endpoint.sending ≡ tick_gives_up pace now left =
    ap (λ (e : EndpointState). tick_gives_up e.pace now e.sending) c.withdraw_over.ensures in
    let own = c.as_slice.result.now in
    let agree : (k : ℕ) (e : Exchange) → get table k ≡ Some e → is_given_up own e ≡ is_given_up (tick_gives_up pace now left) e =
    λ k e is.
    ap (λ (names : List MessageName). is_given_up names e) c.as_slice.ensures.value
    ∙ c.given_up-given_up.ensures k e is
    ∙ ap (λ (names : List MessageName). is_given_up names e) given_up in
    let ticked : c.on_tick-out.new.self ≡ after_tick now (without_over_in now old) = did.ticked ∙ ap (after_tick now) c.withdraw_over.ensures in
    let told : c.of_tick.result.out ≡ repeats ++ told_answers = ap (λ (s : Step). s.out) c.of_tick.ensures ∙ done.2 in
    let joined : c.if-lost_repeats.of_tick ≡ (c.on_tick-out.result.lost || c.answer_all-out.result.lost) =
    elim c.if-lost_repeats.branch [
      | then-lost_repeats w ↦ rw w.if-lost_repeats.true (w.of_tick-is ∙ w.if-lost_repeats.true)
      | else-lost_repeats w ↦ rw w.if-lost_repeats.false w.of_tick-is
    ] in
    record {
      lost_repeats = c.on_tick-out.result.lost;
      repeats = repeats;
      repeated = subst (λ (e : EndpointState). GoesOut c.on_tick-out.result.lost (tick_sends e.pace now e.sending) repeats) c.withdraw_over.ensures did.sent;
      answers = answers;
      ends = subst (λ (e : EndpointState). AllEnd now draw (tick_gives_up pace now left) (record { targets = targets; exchanges = table; endpoint = e }) answers new) ticked
          (all_end_same now draw own (tick_gives_up pace now left) (record { targets = targets; exchanges = table; endpoint = c.on_tick-out.new.self }) new answers (done.4 targets) agree);
      lost_answers = c.answer_all-out.result.lost;
      told_answers = told_answers;
      answered = done.3;
      told = told;
      targets = refl;
      noted = ap (λ (s : Step). s.notes) c.of_tick.ensures ∙ ap quiet_or_lost joined;
      fits = subst AreSendable (sym told) (sendable_both repeats told_answers did.fits (sendable_told c.answer_all-out.result.lost answers told_answers done.3 done.5));
    }
