-- What a node does at an event.
use Rattle.std.specs.Prelude.{◌≡◌, ℕ, Bool, true, false, List, [], Option, Some, None, slice_get, slice_set}
use Rattle.osc_model.specs.{sends}
use Rattle.osc_model.specs.StepNotes.{StepNotes}
use Rattle.osc_model.specs.declared.step.Step.{Step}
use Rattle.osc_ccm.specs.{Sealings, Tags}
use Rattle.osc_run.specs.{Cause, Noted, by_server, by_client, by_proxy}
use Rattle.osc_server.specs.State.{State as Server}
use Rattle.osc_server.specs.Steps as of_server
use Rattle.osc_client.specs.{Begins, Requests, restarted}
use Rattle.osc_client.specs.State.{State as Client}
use Rattle.osc_client.specs.Steps as of_client
use Rattle.osc_proxy.specs.{restarted as proxy_again}
use Rattle.osc_proxy.specs.State.{State as Proxy}
use Rattle.osc_proxy.specs.Steps as of_proxy
use Rattle.osc_world.specs.Adversary.{TellsLie}
use Rattle.osc_world.specs.Nodes.{NodeStates, Task, Take, StartAgain, ClientTask, Begin, Ask, TellLie, Do, Deed, Nothing, OfServer, OfClient, OfProxy}
use Rattle.osc_world.specs.declared.nodes.Placed.{Placed}
use Rattle.osc_world.specs.declared.nodes.StepTaken.{StepTaken}

-- ---- what a node does

-- it starts again, as this, and nothing else
pub record StartsAgain {S : Type 0} (fresh_node : S) (step : Step) (new : S) : Type 0 where
  pub told : step ≡ sends []
  pub kept : new ≡ fresh_node

-- what any node does: a step of its own relation, or its new start
abbrev pub Does : {S : Type 0} → (S → Cause → Step → S → Type 0) → (S → S) → Task → S → Step → S → Type 0
Does is_step again (Take cause) old step new = is_step old cause step new
Does is_step again StartAgain old step new = StartsAgain (again old) step new

-- whether the holder of a client's context seals what it likes
abbrev pub is_lie : ClientTask → Bool
is_lie (TellLie lie draw) = true
is_lie task = false

-- `is_sealing algorithm` is the relation of the algorithm's cipher, and `tag algorithm` how long its tag is
module _ (is_sealing : Sealings) (tag : Tags) where
  -- a lie leaves the client as it is
  abbrev pub ClientDoes : ClientTask → Client → Step → Client → Type 0
  ClientDoes (Begin now draw) old step new = Begins old now draw step new
  ClientDoes (Ask asked) old step new = Requests is_sealing tag old asked step new
  ClientDoes (TellLie lie draw) old step new = TellsLie is_sealing tag old lie draw step × (new ≡ old)
  ClientDoes (Do task) old step new = Does (of_client.IsStep is_sealing) restarted task old step new

-- ---- one node takes a step, or none does

-- nobody takes a step
pub record NobodyTakes (old : NodeStates) (taken : Option StepTaken) (new : NodeStates) : Type 0 where
  pub taken_is : taken ≡ None
  pub is : new ≡ old

-- the server takes a step of this kind
pub record ServerTakes (does : Server → Step → Server → Type 0) (old : NodeStates) (taken : Option StepTaken) (new : NodeStates) : Type 0 where
  pub step : Step
  pub server : Server
  pub it_does : does old.server step server
  pub taken_is : taken ≡ Some (record { at = old.server_at; noted = by_server step.notes; out = step.out })
  pub is : new ≡ record old { server = server }

-- of these nodes the one of this number takes a step of this kind, where it is, which is noted so; where there is none, nobody does
pub data NodeTakes {S : Type 0} (does : S → Step → S → Type 0) (noted : StepNotes → Noted) (old : List (Placed S)) (number : ℕ) (taken : Option StepTaken) (new : List (Placed S)) : Type 0 where
  no_node : slice_get old number ≡ None → taken ≡ None → new ≡ old → NodeTakes does noted old number taken new
  a_node : (placed : Placed S) (step : Step) (node : S) → slice_get old number ≡ Some placed → does placed.node step node
      → taken ≡ Some (record { at = placed.at; noted = noted step.notes; out = step.out })
      → new ≡ slice_set old number (record placed { node = node })
      → NodeTakes does noted old number taken new

module _ (is_sealing : Sealings) (tag : Tags) where
  abbrev pub Takes : NodeStates → Deed → Option StepTaken → NodeStates → Type 0
  Takes old Nothing taken new = NobodyTakes old taken new
  Takes old (OfServer task) taken new = ServerTakes (Does (of_server.IsStep is_sealing) of_server.again task) old taken new
  Takes old (OfClient number task) taken new =
      (clients : List (Placed Client)) × NodeTakes (ClientDoes is_sealing tag task) (by_client number (is_lie task)) old.clients number taken clients
      × (new ≡ record old { clients = clients })
  Takes old (OfProxy number task) taken new =
      (proxies : List (Placed Proxy)) × NodeTakes (Does of_proxy.IsStep proxy_again task) (by_proxy number) old.proxies number taken proxies
      × (new ≡ record old { proxies = proxies })
