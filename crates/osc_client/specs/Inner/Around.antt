-- The options by which a proxy finds the server, in two parts: the way from the code to the definitions.
use Rattle.std.specs.Prelude.{List, [], ◌∷◌, Option, None, Some, codes}
use Rattle.osc_coap.specs.{NumberAndValue}
use Rattle.osc_options.specs.{proxy_scheme, uri_host}
use Rattle.osc_client.specs.Route.{HostAndPort, port_options}

-- before a message's own
abbrev pub options_before : Option HostAndPort → List NumberAndValue
options_before None = []
options_before (Some origin) = (uri_host, origin.host) ∷ port_options origin.port

-- and behind them
abbrev pub options_behind : Option HostAndPort → List NumberAndValue
options_behind None = []
options_behind (Some origin) = (proxy_scheme, codes "coap") ∷ []
