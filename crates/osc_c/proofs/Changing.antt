-- What a step of the server changes: the path that it says, and nothing else.
use Rattle.std.proofs.Common.{◌≡◌, ap, subst, sym, List, Option, Some}
use Rattle.osc_model.specs.Arrival.{Arrival}
use Rattle.osc_model.specs.StepNotes.{StepNotes}
use Rattle.osc_model.specs.declared.node.Moment.{Moment}
use Rattle.osc_model.specs.declared.step.Datagram.{Datagram}
use Rattle.osc_model.specs.declared.step.Step.{Step}
use Rattle.osc_ccm.specs.{Sealings}
use Rattle.osc_run.specs.{ServerState, ServerStep}
use Rattle.osc_server.specs.{core}
use Rattle.osc_server.specs.State.{State as Server}
use Rattle.osc_turn.specs.Kept.{IsChangeOf}
use Rattle.osc_device.specs.{Reaches}
use Rattle.osc_c.specs.Last.{entry_in}

-- the law of `osc_turn::laws::one_path_changes`
abbrev pub OnePathLaw : Type 0
OnePathLaw = (old new : ServerState) (now : Moment) (notes : StepNotes) → ServerStep old now notes new → IsChangeOf notes.served old.tree new.tree

pub reached_changes : OnePathLaw → (is_sealing : Sealings) (old new : Server) (sent : Arrival (List Datagram)) (step : Option Step)
    → Reaches is_sealing old sent step new → IsChangeOf (entry_in step) old.tree new.tree
reached_changes law is_sealing old new sent step (Reaches.lost nothing lost) =
    subst (λ (s : Option Step). IsChangeOf (entry_in s) old.tree new.tree) (sym lost.0) (ap (λ (s : Server). s.tree) lost.1)
reached_changes law is_sealing old new sent step (Reaches.heard one made only some is) =
    subst (λ (s : Option Step). IsChangeOf (entry_in s) old.tree new.tree) (sym some) (law (core old) (core new) sent.at made.notes is.kind)
