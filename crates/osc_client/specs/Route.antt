-- The way to the server: through a forward proxy, where it goes through one (RFC 7252 section 5.7.2).
use Rattle.std.specs.Prelude.{ℕ, ◌≤◌, ◌<◌, ◌==◌, if◌then◌else◌, List, [], ◌∷◌, ◌++◌, length, Option, Some, None, codes}
use Rattle.osc_model.specs.{default_port}
use Rattle.osc_coap.specs.{NumberAndValue}
use Rattle.osc_coap.specs.Message.{Message}
use Rattle.osc_options.specs.{proxy_scheme, uri_host, uri_port, uint_bytes, merge}

-- by which host and port a proxy knows the server
pub record HostAndPort : Type 0 where
  pub host : List ℕ
  pub port : ℕ

-- what a Uri-Host can be: 1 to 255 bytes (section 5.10, table 4)
abbrev pub IsHost : List ℕ → Type 0
IsHost host = (1 ≤ length host) × (length host ≤ 255)

-- what is true of each, as its type says
pub record IsLawfulOrigin (origin : HostAndPort) : Type 0 where
  pub host : IsHost origin.host
  pub port : origin.port < 65536

-- Uri-Port, where the port isn't that of the scheme (section 5.10.1)
abbrev pub port_options : ℕ → List NumberAndValue
port_options port = if port == default_port then [] else (uri_port, uint_bytes port) ∷ []

-- By these a proxy finds the server: Uri-Host, Uri-Port and Proxy-Scheme (sections 5.10.1 and 5.10.2).
abbrev pub proxy_options : Option HostAndPort → List NumberAndValue
proxy_options None = []
proxy_options (Some origin) = (uri_host, origin.host) ∷ port_options origin.port ++ (proxy_scheme, codes "coap") ∷ []

-- The message with these among its options, in the order of their numbers. They are of class U: they stay outside its protection
-- (RFC 8613 section 4.1.3).
abbrev pub through : Option HostAndPort → Message → Message
through None message = message
through (Some origin) message = record message { options = merge (proxy_options (Some origin)) message.options }
