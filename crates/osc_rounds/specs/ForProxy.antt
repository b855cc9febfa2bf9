-- What goes to the server through a forward proxy (RFC 7252 section 5.7.2): what the proxy can take up.
use Rattle.std.specs.Prelude.{◌≡◌, true, false, length, Some, None, codes}
use Rattle.osc_coap.specs.{is_request_code}
use Rattle.osc_coap.specs.Message.{Message}
use Rattle.osc_coap.specs.declared.kind.Kind.TheVariants.{Confirmable}
use Rattle.osc_options.specs.{proxy_scheme, proxy_uri, uri_host, uri_port, has_unrecognised_unsafe, recognised, value}
use Rattle.osc_client.specs.{HostAndPort}
use Rattle.osc_proxy.specs.{has_proxy_uri, port_in, IsCarried}

-- A request that a proxy can take up: a message that a datagram can carry, confirmable, with a token of 8 bytes. None of its
-- options keeps it from being forwarded, and its Proxy-Scheme, its Uri-Host and its Uri-Port name this server, without a Proxy-Uri.
pub record IsForProxy (origin : HostAndPort) (message : Message) : Type 0 where
  pub carried : IsCarried message
  pub kind : message.kind ≡ Confirmable
  pub code : is_request_code message.code ≡ true
  pub token : length message.token ≡ 8
  pub safe : has_unrecognised_unsafe 0 message.options ≡ false
  pub no_uri : value proxy_uri (recognised 0 message.options) ≡ None
  pub scheme : value proxy_scheme (recognised 0 message.options) ≡ Some (codes "coap")
  pub host : value uri_host (recognised 0 message.options) ≡ Some origin.host
  pub port : port_in (value uri_port (recognised 0 message.options)) ≡ origin.port
  -- so that what is forwarded keeps its Uri-Host and its path
  pub bare : has_proxy_uri message.options ≡ false
