-- What a client answers rests on no random bytes.
use Rattle.osc_model.specs.Arrival.{Arrival}
use Rattle.osc_model.specs.declared.node.Draw.{Draw}
use Rattle.osc_model.specs.declared.step.Step.{Step}
use Rattle.osc_ccm.specs.{Sealings}
use Rattle.osc_coap.specs.Message.{Message}
use Rattle.osc_client.specs.{AnswersNew}
use Rattle.osc_client.specs.State.{State}
use Rattle.osc_client.specs.declared.case.ResponseCase.{ResponseCase}
use Rattle.osc_client.specs.declared.case.ResponseCase.TheVariants.{Refused, Unused, Counted}

pub any_draw : (is_sealing : Sealings) (old : State) (came : Arrival Message) (draw : Draw) (case : ResponseCase) (step : Step) (new : State)
    → AnswersNew is_sealing old came case step new → AnswersNew is_sealing old (record came { draw = draw }) case step new
any_draw is_sealing old came draw Refused step new answers = answers
any_draw is_sealing old came draw Unused step new answers = answers
any_draw is_sealing old came draw Counted step new counts = record {
  waiting = counts.waiting;
  waits = counts.waits;
  outcome = counts.outcome;
  comes = counts.comes;
  told = counts.told;
  kept = counts.kept;
}
