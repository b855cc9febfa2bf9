-- A node of all that is lent for a step: afterwards it is as its holder leaves it, and no other node changes.
use Rattle.std.specs.Prelude.{ℕ, Option, slice_set}
use Rattle.std.specs.Borrow.{Fml, Lends, LendsIf, MutBor}
use Rattle.osc_server.specs.State.{State as Server}
use Rattle.osc_server.specs.contracts.server.Server as server
use Rattle.osc_client.specs.State.{State as Client}
use Rattle.osc_client.specs.contracts.client.Client as client
use Rattle.osc_proxy.specs.State.{State as Proxy}
use Rattle.osc_proxy.specs.contracts.proxy.Proxy as proxy
use Rattle.osc_world.specs.Nodes.{NodeStates}
use Rattle.osc_world.specs.contracts.nodes.Nodes.{the_row}
use Rattle.osc_world.specs.contracts.nodes.Placed as placed
use Rattle.osc_world.specs.declared.nodes.Placed.{Placed}

abbrev pub LendsServer : MutBor NodeStates → MutBor Server → Fml
LendsServer all one = Lends the_row server.the_row all one (λ left. record all.now { server = left })

abbrev pub LendsClient : MutBor NodeStates → ℕ → Option (MutBor (Placed Client)) → Fml
LendsClient all number one =
    LendsIf the_row (placed.the_row client.the_row) all one (λ left. record all.now { clients = slice_set all.now.clients number left }) all.now

abbrev pub LendsProxy : MutBor NodeStates → ℕ → Option (MutBor (Placed Proxy)) → Fml
LendsProxy all number one =
    LendsIf the_row (placed.the_row proxy.the_row) all one (λ left. record all.now { proxies = slice_set all.now.proxies number left }) all.now
