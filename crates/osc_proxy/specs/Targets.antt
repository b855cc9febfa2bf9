-- The targets that a proxy forwards to.
use Rattle.std.specs.Prelude.{ℕ, Bool, ◌&&◌, ◌==◌, bytes_eq, List, map, find, Option, option_map}
use Rattle.std.specs.Char.{to_ascii_lowercase}
use Rattle.osc_model.specs.declared.node.Peer.{Peer}
use Rattle.osc_proxy.specs.declared.targets.Target.{Target}

-- hosts are compared without regard to the case of ASCII letters (RFC 3986 section 3.2.2)
abbrev pub same_host : List ℕ → List ℕ → Bool
same_host a b = bytes_eq (map to_ascii_lowercase a) (map to_ascii_lowercase b)

abbrev pub is_named : List ℕ → ℕ → Target → Bool
is_named host port target = same_host target.host host && target.port == port

-- to whom a request for this host and port goes: the first target of that name
abbrev pub peer_of : List Target → List ℕ → ℕ → Option Peer
peer_of targets host port = option_map (λ target. target.peer) (find (is_named host port) targets)
