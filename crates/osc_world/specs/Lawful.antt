-- What is true of each client and each proxy of a world.
use Rattle.std.specs.Prelude.{◌≡◌, ℕ, List, Some, slice_get}
use Rattle.osc_client.specs.{IsLawfulClient}
use Rattle.osc_proxy.specs.{IsLawfulProxy}
use Rattle.osc_proxy.specs.State.{State as Proxy}
use Rattle.osc_client.specs.State.{State as Client}
use Rattle.osc_world.specs.declared.nodes.Placed.{Placed}

abbrev pub AreLawfulClients : List (Placed Client) → Type 0
AreLawfulClients clients = (number : ℕ) (placed : Placed Client) → slice_get clients number ≡ Some placed → IsLawfulClient placed.node

abbrev pub AreLawfulProxies : List (Placed Proxy) → Type 0
AreLawfulProxies proxies = (number : ℕ) (placed : Placed Proxy) → slice_get proxies number ≡ Some placed → IsLawfulProxy placed.node
