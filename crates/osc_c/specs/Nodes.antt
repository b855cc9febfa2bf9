-- The types of what handles hold.
use denote.RattleType.{RattleType}
use Rattle.osc_c.specs.contracts.calls.client.ClientNode as client
use Rattle.osc_c.specs.contracts.calls.keeping.KeptNode as device
use Rattle.osc_c.specs.contracts.calls.proxy.ProxyNode as proxy

abbrev pub DeviceType : RattleType
DeviceType = device.the_row

abbrev pub ClientType : RattleType
ClientType = client.the_row

abbrev pub ProxyType : RattleType
ProxyType = proxy.the_row
