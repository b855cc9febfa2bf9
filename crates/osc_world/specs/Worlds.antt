-- What a world is, and how it goes on.
use Rattle.std.specs.Prelude.{◌≡◌, List, [], ◌∷◌, ◌++◌, map, Option}
use Rattle.osc_model.specs.Tree.{Tree}
use Rattle.osc_ccm.specs.{Sealings, Tags}
use Rattle.osc_run.specs.{Noted, Minted, WorldState}
use Rattle.osc_server.specs.{core as core_of_server}
use Rattle.osc_client.specs.{core as core_of_client}
use Rattle.osc_world.specs.Log.{LogState, delivered, sent_by, steps_with, recorded}
use Rattle.osc_world.specs.Nodes.{NodeStates, deed_of}
use Rattle.osc_world.specs.Steps.{Takes}
use Rattle.osc_world.specs.declared.event.Event.{Event}
use Rattle.osc_world.specs.declared.log.Record.{Record}
use Rattle.osc_world.specs.declared.log.SentDatagram.{SentDatagram}
use Rattle.osc_world.specs.declared.nodes.StepTaken.{StepTaken}

-- The grants and the resources that it began with; the nodes; each datagram ever sent; what the steps noted, the newest first; and
-- the outcome of each event.
pub record State : Type 0 where
  pub minted : List Minted
  pub first : Tree
  pub nodes : NodeStates
  pub sent : List SentDatagram
  pub steps : List Noted
  pub records : List Record

-- what a run knows of it
abbrev pub run_with : List Minted → Tree → NodeStates → List Noted → WorldState
run_with minted first nodes steps = record {
  minted = minted;
  first = first;
  server = core_of_server nodes.server;
  clients = map (λ placed. core_of_client placed.node) nodes.clients;
  notes = steps;
}

abbrev pub run_of : State → WorldState
run_of world = run_with world.minted world.first world.nodes world.steps

-- a world of these parts
abbrev pub world_of : List Minted → Tree → NodeStates → LogState → State
world_of minted first nodes log =
    record { minted = minted; first = first; nodes = nodes; sent = log.sent; steps = log.steps; records = log.records }

-- the world after an event at which the nodes became these, by this step
abbrev pub after : State → Event → Option StepTaken → NodeStates → State
after old event taken nodes = record old {
  nodes = nodes;
  sent = delivered event.what old.sent ++ sent_by taken;
  steps = steps_with taken old.steps;
  records = old.records ++ recorded old.sent old.steps taken ∷ [];
}

-- `is_sealing algorithm` is the relation of the algorithm's cipher, and `tag algorithm` how long its tag is
module _ (is_sealing : Sealings) (tag : Tags) where
  -- An event: whoever it is for does what it leads to, and no other node changes; what is sent and noted is kept.
  pub record Happens (old : State) (event : Event) (new : State) : Type 0 where
    pub taken : Option StepTaken
    pub nodes : NodeStates
    pub takes : Takes is_sealing tag old.nodes (deed_of old.nodes old.sent event) taken nodes
    pub is : new ≡ after old event taken nodes

  -- events in order
  abbrev pub Happen : State → List Event → State → Type 0
  Happen old [] new = new ≡ old
  Happen old (event ∷ events) new = (next : State) × Happens old event next × Happen next events new
