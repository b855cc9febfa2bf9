use Rattle.std.proofs.Common.{◌∙◌, refl}
use Rattle.osc_world.specs.declared.nodes.Whose.TheVariants as whose
use Rattle.osc_lab.specs.Inner.Telling.{network}
use Rattle.osc_lab.specs.{no_turn}
use Rattle.osc_lab.proofs.LabRuns.{turns_lead}
use Rattle.osc_lab.proofs.Labs.{always_err, halts_later, one_more_turn}
use Rattle.osc_lab.proofs.nodes.LabNodes.proxy_turns.Goals as goal

pub loop-number-init : goal.loop-number-init
loop-number-init g c = record { take = no_turn; learns = refl }

pub returns-in_err-one-clause-leads : goal.returns-in_err-one-clause-leads
returns-in_err-one-clause-leads g c =
    let net = network g.P.Port.received g.P.Port.sent c.args.cast.addresses.now in
    always_err c.from_residual.result _ (halts_later net _ _ _ (turns_lead net whose.Proxy _ _ _ _ c.loop-number.invariant.take) c.in_err-one.ensures.leads)

pub loop-number-preserved : goal.loop-number-preserved
loop-number-preserved g c = record {
  take = one_more_turn (network g.P.Port.received g.P.Port.sent c.args.cast.addresses.now) whose.Proxy _ _ _ c.loop-number.number c.loop-number.busy c.in_ok-one.one _ c.either-busy.ensures
      c.loop-number.invariant.take c.in_ok-one.ensures.takes;
  learns = c.in_ok-one.ensures.learns ∙ c.loop-number.invariant.learns;
}
