-- Where a request goes (RFC 7252 sections 5.7.2 and 5.10.2).
use Rattle.std.specs.Prelude.{◌≡◌, ℕ, Bool, ◌||◌, bytes_eq, if◌then◌else◌, List, Option, Some, None, is_some, option_map, codes}
use Rattle.osc_model.specs.{default_port}
use Rattle.osc_model.specs.declared.node.Peer.{Peer}
use Rattle.osc_coap.specs.{NumberAndValue}
use Rattle.osc_options.specs.{proxy_scheme, proxy_uri, uri_host, uri_port, has_unrecognised_unsafe, recognised, uint, value}
use Rattle.osc_proxy.specs.ProxyUri.{HostAndPort, Reads}
use Rattle.osc_proxy.specs.Targets.{peer_of}
use Rattle.osc_proxy.specs.declared.route.Destination.{Destination}
use Rattle.osc_proxy.specs.declared.route.Destination.TheVariants.{BadOption, NotFound, NotSupported, To}
use Rattle.osc_proxy.specs.declared.targets.Target.{Target}

-- ---- what the options of a request name for its target

-- Uri-Port is a whole number; without it the port is that of the scheme
abbrev pub port_in : Option (List ℕ) → ℕ
port_in None = default_port
port_in (Some bytes) = uint bytes

-- by Proxy-Scheme, Uri-Host and Uri-Port: the scheme is `coap`, and a host is named
abbrev pub by_scheme : List ℕ → Option (List ℕ) → Option (List ℕ) → Option HostAndPort
by_scheme scheme host port = if bytes_eq scheme (codes "coap") then option_map (λ host. (host, port_in port)) host else None

-- Proxy-Uri decides alone where it is there
abbrev pub NamesBy : Option (List ℕ) → Option (List ℕ) → List NumberAndValue → Option HostAndPort → Type 0
NamesBy (Some uri) scheme options named = Reads uri named
NamesBy None (Some scheme) options named = named ≡ by_scheme scheme (value uri_host options) (value uri_port options)
NamesBy None None options named = named ≡ None

-- the same of what is recognised of a message's options
abbrev pub Names : List NumberAndValue → Option HostAndPort → Type 0
Names options named = NamesBy (value proxy_uri (recognised 0 options)) (value proxy_scheme (recognised 0 options)) (recognised 0 options) named

-- whether a request is for a proxy
abbrev pub is_for_proxy : List NumberAndValue → Bool
is_for_proxy options = is_some (value proxy_uri (recognised 0 options)) || is_some (value proxy_scheme (recognised 0 options))

-- ---- where it goes

abbrev pub to_peer : Option Peer → Destination
to_peer None = NotSupported
to_peer (Some peer) = To peer

abbrev pub to_named : List Target → Option HostAndPort → Destination
to_named targets None = NotSupported
to_named targets (Some named) = to_peer (peer_of targets named.0 named.1)

-- the first of these that holds: it has an option that can't be forwarded; it is for no proxy; it names no target; it goes to one
abbrev pub route : List Target → List NumberAndValue → Option HostAndPort → Destination
route targets options named =
    if has_unrecognised_unsafe 0 options then BadOption
    else if is_for_proxy options then to_named targets named else NotFound
