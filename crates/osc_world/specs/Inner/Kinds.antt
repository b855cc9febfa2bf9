-- Of which kind a step of a world is, as a run knows it.
use Rattle.std.specs.Prelude.{◌≡◌, ℕ, Bool, Option, Some, None, slice_get, slice_set}
use Rattle.osc_model.specs.declared.node.Moment.{Moment}
use Rattle.osc_model.specs.declared.step.Step.{Step}
use Rattle.osc_run.specs.{ClientStep, IsSkipped, by_server, by_client, by_proxy, ProxyStep, ServerStep}
use Rattle.osc_server.specs.{core as core_of_server}
use Rattle.osc_server.specs.State.{State as Server}
use Rattle.osc_client.specs.{core as core_of_client}
use Rattle.osc_client.specs.State.{State as Client}
use Rattle.osc_proxy.specs.State.{State as Proxy}
use Rattle.osc_world.specs.Nodes.{NodeStates}
use Rattle.osc_world.specs.declared.nodes.Placed.{Placed}
use Rattle.osc_world.specs.declared.nodes.StepTaken.{StepTaken}

-- A step of a run: the server's, a client's, a proxy's, or none.
pub data IsStep (now : Moment) (old : NodeStates) (taken : Option StepTaken) (new : NodeStates) : Type 0 where
  OfNobody : taken ≡ None → new ≡ old → IsStep now old taken new
  OfServer : (step : Step) (server : Server) → ServerStep (core_of_server old.server) now step.notes (core_of_server server)
      → taken ≡ Some (record { at = old.server_at; noted = by_server step.notes; out = step.out })
      → new ≡ record old { server = server }
      → IsStep now old taken new
  OfClient : (number : ℕ) (lied : Bool) (before after : Placed Client) (step : Step) → slice_get old.clients number ≡ Some before
      → ClientStep lied (core_of_client before.node) step.notes (core_of_client after.node)
      → taken ≡ Some (record { at = before.at; noted = by_client number lied step.notes; out = step.out })
      → new ≡ record old { clients = slice_set old.clients number after }
      → IsStep now old taken new
  OfProxy : (number : ℕ) (before after : Placed Proxy) (step : Step) → slice_get old.proxies number ≡ Some before
      → ProxyStep step.notes
      → taken ≡ Some (record { at = before.at; noted = by_proxy number step.notes; out = step.out })
      → new ≡ record old { proxies = slice_set old.proxies number after }
      → IsStep now old taken new

-- Between events nothing changes, or the next number of one client is raised.
pub data IsSkip (number : ℕ) (old new : NodeStates) : Type 0 where
  Stays : new ≡ old → IsSkip number old new
  Skips : (before after : Placed Client) → slice_get old.clients number ≡ Some before → IsSkipped (core_of_client before.node) (core_of_client after.node)
      → new ≡ record old { clients = slice_set old.clients number after }
      → IsSkip number old new
