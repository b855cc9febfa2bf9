use Rattle.std.proofs.Common.{◌<◌, subst}
use Rattle.std.specs.declared.net.socket_addr.SocketAddrV6.{SocketAddrV6}
use Rattle.std.specs.Net.Grammar.{IsSocketV6Text}
use Rattle.osc_words.proofs.settings.OneAddress.{no_v6_port, spells_no_v6, v6_unparsed}
use Rattle.osc_words.proofs.settings.values.v6_address.Goals as goal

pub returns-in_default : goal.returns-in_default
returns-in_default c =
    no_v6_port c.args.least c.args.text.now c.in-Ok.address (subst (λ text. IsSocketV6Text text c.in-Ok.address) c.as_bytes.ensures.value c.in-Ok.ensures)
    (subst (λ port. port < c.args.least) c.port.ensures c.if-port-least.false)

pub returns-in_default-2 : goal.returns-in_default-2
returns-in_default-2 c =
    v6_unparsed c.args.least c.args.text.now
    (subst (λ text. (a : SocketAddrV6) → ¬ IsSocketV6Text text a) c.as_bytes.ensures.value (spells_no_v6 c.as_bytes.result.now c.parse_ascii.result c.in_default.field-0 c.in_default.is c.parse_ascii.ensures))
