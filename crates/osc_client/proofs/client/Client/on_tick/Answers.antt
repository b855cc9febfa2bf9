use Rattle.std.proofs.Common.{rules, ◌≡◌, true, false, Some, ap, sym, subst}
use Rattle.osc_message.specs.{AreSendable, GoesOut, tick_sends}
use Rattle.osc_model.specs.{quiet, quiet_or_lost}
use Rattle.osc_model.specs.declared.step.ClientResult.TheVariants.{TimedOut}
use Rattle.osc_model.specs.declared.step.Step.{Step}
use Rattle.osc_client.specs.{SealsNothing, is_over}
use Rattle.osc_client.specs.Inner.Bounds.{KeepsOwn}
use Rattle.osc_client.proofs.Telling.{ticks_silently, times_out_silently}
use Rattle.osc_client.proofs.Ticking.{own_after_tick, timed_out, went_on}
use Rattle.osc_client.proofs.client.Client.on_tick.Goals as goal

pub invariant_of-self-else-is_over : goal.invariant_of-self-else-is_over
invariant_of-self-else-is_over c =
    let own = own_after_tick c.self.inside.endpoint.pace c.args.now c.self.inside.next_hop c.self.inside.waiting c.self.inside.endpoint.sending c.self.invariant.0 in (
      subst (KeepsOwn c.self.inside.next_hop c.self.inside.waiting) (ap (λ e. e.sending) (sym c.on_tick-out.ensures.ticked)) own,
      c.self.invariant.1,
      c.self.invariant.2,
    )

pub returns-then-is_over-clause-ticked : goal.returns-then-is_over-clause-ticked
returns-then-is_over-clause-ticked c =
    let old = c.args.self.now in
    let out = c.on_tick-out.result.out in
    let lost = c.on_tick-out.result.lost in
    let step : Step = record { out = out; notes = record quiet { result = Some TimedOut; lost = lost } } in
    let told : record { out = out; notes = c.with_lost.result } ≡ step = search rules in
    let goes : GoesOut lost (tick_sends old.endpoint.pace c.args.now old.endpoint.sending) out = search rules in
    let over : is_over c.args.now old.endpoint old.waiting ≡ true = search rules in
    record {
      ticks = timed_out old c.args.now lost out _ _ goes over told (search rules);
      told = subst (SealsNothing old c.args.now) (sym told) (times_out_silently old c.args.now lost out goes);
      fits = c.on_tick-out.ensures.fits;
    }

pub returns-clause-ticked : goal.returns-clause-ticked
returns-clause-ticked c =
    let old = c.args.self.now in
    let out = c.on_tick-out.result.out in
    let lost = c.on_tick-out.result.lost in
    let step : Step = record { out = out; notes = quiet_or_lost lost } in
    let told : c.of_tick.result ≡ step = c.of_tick.ensures in
    let goes : GoesOut lost (tick_sends old.endpoint.pace c.args.now old.endpoint.sending) out = search rules in
    let over : is_over c.args.now old.endpoint old.waiting ≡ false = search rules in
    record {
      ticks = went_on old c.args.now lost out _ _ goes over told (search rules);
      told = subst (SealsNothing old c.args.now) (sym told) (ticks_silently old c.args.now lost out goes);
      fits = subst (λ (s : Step). AreSendable s.out) (sym told) c.on_tick-out.ensures.fits;
    }
