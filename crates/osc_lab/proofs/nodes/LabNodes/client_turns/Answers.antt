use Rattle.std.proofs.Common.{refl}
use Rattle.osc_world.specs.declared.nodes.Whose.TheVariants as whose
use Rattle.osc_lab.specs.Inner.Telling.{network}
use Rattle.osc_lab.specs.{no_turn}
use Rattle.osc_lab.proofs.Appended.{appends_none}
use Rattle.osc_lab.proofs.LabRuns.{turns_lead}
use Rattle.osc_lab.proofs.Labs.{always_err, at_exit, halts_later, one_more_turn, stops_more, tells_more, tells_none}
use Rattle.osc_lab.proofs.nodes.LabNodes.client_turns.Goals as goal

pub loop-number-init : goal.loop-number-init
loop-number-init g c = record { take = no_turn; told = tells_none _ _ _ _ _ refl (appends_none _) }

pub returns-in_err-one-clause-leads : goal.returns-in_err-one-clause-leads
returns-in_err-one-clause-leads g c =
    let net = network g.P.Port.received g.P.Port.sent c.args.cast.addresses.now in
    always_err c.from_residual.result _ (halts_later net _ _ _ (turns_lead net whose.Client _ _ _ _ c.loop-number.invariant.take) c.in_err-one.ensures.leads)

pub returns-in_err-one-clause-stopped : goal.returns-in_err-one-clause-stopped
returns-in_err-one-clause-stopped g c =
    at_exit c.from_residual.result c.in_err-one.field-0.0 _ c.from_residual.ensures.1
    (stops_more _ _ _ _ _ _ _ _ c.loop-number.invariant.told c.in_err-one.ensures.stopped)

pub loop-number-preserved : goal.loop-number-preserved
loop-number-preserved g c = record {
  take = one_more_turn (network g.P.Port.received g.P.Port.sent c.args.cast.addresses.now) whose.Client _ _ _ c.loop-number.number c.loop-number.busy c.in_ok-one.one _ c.either-busy.ensures
      c.loop-number.invariant.take c.in_ok-one.ensures.takes;
  told = tells_more _ _ _ _ _ _ _ c.loop-number.invariant.told c.in_ok-one.ensures.told;
}
