-- The nodes that a script names: their names and their addresses.
use Rattle.std.specs.Prelude.{ℕ, ◌+◌, List, [], ◌∷◌, codes}
use Rattle.osc_model.specs.{default_port, v4_peer}
use Rattle.osc_model.specs.declared.node.Peer.{Peer}
use Rattle.osc_script.specs.declared.client_name.ClientName.{ClientName}
use Rattle.osc_script.specs.declared.node.NodeName.{NodeName}
use Rattle.osc_script.specs.declared.node.NodeName.TheVariants.{Server, Client, Proxy, Stranger}
use Rattle.osc_script.specs.declared.proxy_name.ProxyName.{ProxyName}

-- `c` and the digit
abbrev pub client_name : ClientName → List ℕ
client_name client = 99 ∷ (48 + client.digit) ∷ []

-- `p` and the digit
abbrev pub proxy_name : ProxyName → List ℕ
proxy_name proxy = 112 ∷ (48 + proxy.digit) ∷ []

abbrev pub name_of : NodeName → List ℕ
name_of Server = codes "s"
name_of (Client client) = client_name client
name_of (Proxy proxy) = proxy_name proxy
name_of Stranger = codes "x"

-- 127.0.0.1 and a port
abbrev pub local : ℕ → Peer
local port = v4_peer (127 ∷ 0 ∷ 0 ∷ 1 ∷ []) port

abbrev pub address_of : NodeName → Peer
address_of Server = local default_port
address_of (Client client) = local (7000 + client.digit)
address_of (Proxy proxy) = local (6000 + proxy.digit)
address_of Stranger = local 9000
