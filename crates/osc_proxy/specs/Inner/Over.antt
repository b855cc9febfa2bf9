-- Forwarded messages that a tick gives up, an exchange after another: no public contract names them.
use Rattle.std.specs.Prelude.{◌&&◌, if◌then◌else◌, List, Option, Some, None}
use Rattle.std.specs.List.{list_any}
use Rattle.osc_message.specs.Ticks.{names}
use Rattle.osc_message.specs.declared.name.MessageName.{MessageName}
use Rattle.osc_proxy.specs.declared.exchanges.Exchange.{Exchange}

-- the name of the exchange's forwarded message, where that is among those that are given up
abbrev pub own_given_up : List MessageName → Exchange → Option MessageName
own_given_up given_up exchange =
    if exchange.confirmable && list_any (names exchange.target exchange.id) given_up then Some (record { peer = exchange.target; id = exchange.id }) else None
