-- A Proxy-Uri read from left to right: the way from the code to its form.
use Rattle.std.specs.Prelude.{ℕ, Bool, true, false, ◌||◌, ◌==◌, nat_le, nat_lt, bytes_eq, if◌then◌else◌, List, [], ◌∷◌, length, take, drop, Option, Some, None, codes}
use Rattle.std.specs.List.{prefix_len}
use Rattle.osc_model.specs.{default_port}
use Rattle.osc_proxy.specs.ProxyUri.{HostAndPort, decimal, is_digit, is_host_byte}

-- nothing is left but a '/'
abbrev pub is_end : List ℕ → Bool
is_end [] = true
is_end (byte ∷ []) = byte == 47
is_end (byte ∷ next ∷ rest) = false

-- the port that the digits name
abbrev pub port_of : List ℕ → Option ℕ
port_of digits =
    if (length digits == 0) || nat_lt 5 (length digits) then None
    else if (decimal digits == 0) || nat_le 65536 (decimal digits) then None
    else Some (decimal digits)

-- the port at the front of the bytes
unfoldable pub port_at : List ℕ → Option ℕ
port_at bytes =
    let count = prefix_len is_digit bytes in
    if is_end (drop count bytes) then port_of (take count bytes) else None

-- the port after a host
abbrev pub port_behind : List ℕ → Option ℕ
port_behind [] = Some default_port
port_behind (byte ∷ rest) = if is_end (byte ∷ rest) then Some default_port else if byte == 58 then port_at rest else None

abbrev pub with_port : List ℕ → Option ℕ → Option HostAndPort
with_port host None = None
with_port host (Some port) = Some (host, port)

-- host and port, after the scheme
unfoldable pub authority : List ℕ → Option HostAndPort
authority bytes =
    let count = prefix_len is_host_byte bytes in
    if count == 0 then None else with_port (take count bytes) (port_behind (drop count bytes))

unfoldable pub host_and_port : List ℕ → Option HostAndPort
host_and_port uri = if bytes_eq (take 7 uri) (codes "coap://") then authority (drop 7 uri) else None
