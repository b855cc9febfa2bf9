-- The answer to the last request that was served under a context.
use Rattle.std.specs.Prelude.{ℕ, List}
use Rattle.osc_model.specs.declared.node.Peer.{Peer}

-- who sent the request, its number, what it carried sealed, and what its reply carried sealed
pub record LastAnswerState : Type 0 where
  pub from : Peer
  pub number : ℕ
  pub sealed : List ℕ
  pub reply : List ℕ

-- The most bytes that a protected reply carries sealed: those of a datagram (RFC 7252 section 4.6) but for the header, the longest token, an
-- empty option and the payload marker.
abbrev pub longest_sealed : ℕ
longest_sealed = 1138
