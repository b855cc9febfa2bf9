use Rattle.std.proofs.Common.{sym, subst}
use Rattle.osc_proxy.specs.{Reads}
use Rattle.osc_proxy.proofs.UriLaws.{reads}
use Rattle.osc_proxy.proofs.proxy_uri.read_proxy_uri.Goals as goal

pub returns : goal.returns
returns c = subst (Reads c.args.uri.now) (sym c.host_and_port.ensures) (reads c.args.uri.now)
