-- What a server and a proxy hold, as their logs tell it.
use Rattle.std.specs.Prelude.{ℕ, zero, suc, ◌+◌, ◌∷◌, [], Bool, if◌then◌else◌, List, is_some}
use Rattle.std.specs.FinMap as map
use Rattle.osc_authz.specs.Table.{with_id}
use Rattle.osc_authz.specs.declared.token_entry.TokenEntry.{TokenEntry}
use Rattle.osc_log.specs.declared.held.Held.{Held}
use Rattle.osc_log.specs.declared.held.Held.TheVariants.{Server, Proxy}
use Rattle.osc_proxy.specs.Exchanges.{count}
use Rattle.osc_proxy.specs.State.{State as ProxyState}
use Rattle.osc_server.specs.State.{State as ServerState}

-- whether a security context has this recipient ID
abbrev pub is_taken : ℕ → List TokenEntry → Bool
is_taken id table = is_some (with_id (id ∷ []) table)

-- how many of the recipient IDs below this one are taken
abbrev pub taken_below : ℕ → List TokenEntry → ℕ
taken_below zero table = 0
taken_below (suc id) table = taken_below id table + (if is_taken id table then 1 else 0)

-- a recipient ID is one byte
abbrev pub contexts_of : List TokenEntry → ℕ
contexts_of table = taken_below 256 table

abbrev pub server_held : ServerState → Held
server_held server = Server (contexts_of server.desk.table) (map.len server.tree)

abbrev pub proxy_held : ProxyState → Held
proxy_held proxy = Proxy (count proxy.exchanges)
