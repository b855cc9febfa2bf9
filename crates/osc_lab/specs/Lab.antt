-- The nodes of a lab, and their steps.
use Rattle.std.specs.Prelude.{◌≡◌, ℕ, Bool, false, List, [], Option, Some, None, is_some, slice_get}
use Rattle.osc_model.specs.Tree.{Tree}
use Rattle.osc_model.specs.declared.step.Datagram.{Datagram}
use Rattle.osc_run.specs.{Noted, IsReached, Minted, WorldState}
use Rattle.osc_client.specs.State.{State as Client}
use Rattle.osc_world.specs.{steps_with, Deed, NodeStates, Takes, run_with}
use Rattle.osc_world.specs.declared.nodes.Placed.{Placed}
use Rattle.osc_world.specs.declared.nodes.StepTaken.{StepTaken}
use Rattle.osc_world.specs.declared.start.Parts.{Parts}
use Rattle.osc_simulation.specs.{is_sealing, tag_of}

-- the grants; the nodes, as a world has them; and what was noted of each step of these, the newest first
pub record Lab : Type 0 where
  pub minted : List Minted
  pub nodes : NodeStates
  pub steps : List Noted

-- those of a script, before the first step
abbrev pub lab_in : Parts → Lab
lab_in parts = record { minted = parts.minted.items; nodes = parts.nodes; steps = [] }

-- whether the client of this number waits for something
abbrev pub waits : Option (Placed Client) → Bool
waits None = false
waits (Some placed) = is_some placed.node.waiting

abbrev pub is_waiting : List (Placed Client) → ℕ → Bool
is_waiting clients number = waits (slice_get clients number)

-- what a run knows of them, which began with these resources
abbrev pub run_of : Tree → Lab → WorldState
run_of first lab = run_with lab.minted first lab.nodes lab.steps

-- Whoever this is for does it, as in a world, and it is noted; what was a run goes on as one.
pub record Goes (deed : Deed) (old new : Lab) : Type 0 where
  pub taken : Option StepTaken
  pub nodes : NodeStates
  pub takes : Takes is_sealing tag_of old.nodes deed taken nodes
  pub is : new ≡ record old { nodes = nodes; steps = steps_with taken old.steps }
  pub runs : (first : Tree) → IsReached (run_of first old) → IsReached (run_of first new)

-- what a step sends, if there is one
abbrev pub out_of : Option StepTaken → List Datagram
out_of None = []
out_of (Some taken) = taken.out
