-- The form of a Proxy-Uri that the proxy takes: an absolute URI of the scheme `coap` that names a host and a port, and the empty
-- path (RFC 7252 sections 5.10.2 and 6.1).
use Rattle.std.specs.Prelude.{◌≡◌, ℕ, ◌+◌, ◌-◌, ◌*◌, ◌<◌, ◌≤◌, Bool, true, false, ◌&&◌, not, ◌==◌, nat_le, List, [], ◌∷◌, ◌++◌, length, fold, Option, Some, None, IfSome, codes}
use Rattle.std.specs.List.{AllByRecursion}
use Rattle.osc_model.specs.{default_port}

-- a host has one byte or more, and neither ':' (58) nor '/' (47) among them
abbrev pub is_host_byte : ℕ → Bool
is_host_byte byte = not (byte == 58) && not (byte == 47)

pub record IsHost (host : List ℕ) : Type 0 where
  pub some : 0 < length host
  pub bytes : AllByRecursion (λ byte. is_host_byte byte ≡ true) host

-- a port is named by 1 to 5 digits ('0' is 48, '9' is 57), leading zeros among them
abbrev pub is_digit : ℕ → Bool
is_digit byte = nat_le 48 byte && nat_le byte 57

pub record IsPort (digits : List ℕ) : Type 0 where
  pub some : 1 ≤ length digits
  pub few : length digits ≤ 5
  pub bytes : AllByRecursion (λ byte. is_digit byte ≡ true) digits

abbrev pub decimal : List ℕ → ℕ
decimal digits = fold (λ n digit. 10 * n + (digit - 48)) 0 digits

-- ':' and the port, where one is named
abbrev pub port_spelling : Option (List ℕ) → List ℕ
port_spelling None = []
port_spelling (Some digits) = 58 ∷ digits

abbrev pub port_named : Option (List ℕ) → ℕ
port_named None = default_port
port_named (Some digits) = decimal digits

-- the empty path may be spelled as '/'
abbrev pub path_spelling : Bool → List ℕ
path_spelling false = []
path_spelling true = 47 ∷ []

-- these bytes name this host and this port; there is no port 0, and none above 65535
pub record IsProxyUri (uri host : List ℕ) (port : ℕ) : Type 0 where
  pub digits : Option (List ℕ)
  pub slash : Bool
  pub whole : uri ≡ codes "coap://" ++ (host ++ (port_spelling digits ++ path_spelling slash))
  pub host_is : IsHost host
  pub digits_are : IfSome digits IsPort
  pub port_is : port ≡ port_named digits
  pub some : 0 < port
  pub small : port < 65536

-- host and port
abbrev pub HostAndPort : Type 0
HostAndPort = List ℕ × ℕ

-- what the bytes name: a host and a port, or nothing where they have another form
abbrev pub Reads : List ℕ → Option HostAndPort → Type 0
Reads uri (Some named) = IsProxyUri uri named.0 named.1
Reads uri None = (host : List ℕ) (port : ℕ) → ¬ IsProxyUri uri host port
