-- What goes in and comes out, and what it stands for.
use Rattle.std.specs.Prelude.{ℕ, nat_le, if◌then◌else◌, List, length, replicate, Option, Some, None}
use Rattle.osc_model.specs.declared.node.Draw.{Draw}
use Rattle.osc_model.specs.declared.node.Peer.{Peer}
use Rattle.osc_c.specs.Filling.{written}
use Rattle.osc_c.specs.declared.calls.plain.PlainDraw.{PlainDraw}
use Rattle.osc_c.specs.declared.calls.plain.PlainEtag.{PlainEtag}
use Rattle.osc_c.specs.declared.calls.plain.PlainId.{PlainId}
use Rattle.osc_c.specs.declared.calls.plain.PlainPeer.{PlainPeer}

abbrev pub peer_of : PlainPeer → Peer
peer_of plain = record { address = plain.bytes; scope = plain.scope; port = plain.port }

abbrev pub plain_peer : Peer → PlainPeer
plain_peer peer = record { port = peer.port; scope = peer.scope; bytes = peer.address }

abbrev pub draw_of : PlainDraw → Draw
draw_of plain = record { 0 = plain.bytes }

-- how many bytes of an id are told: all, where they are at most 64, as those of each token
abbrev pub told_length : List ℕ → ℕ
told_length id = if nat_le (length id) 64 then length id else 0

-- an id, at the front of 64 bytes that else are 0
abbrev pub plain_id : List ℕ → PlainId
plain_id id = record { length = told_length id; bytes = written id (replicate 64 0) }

abbrev pub plain_etag : Option (List ℕ) → PlainEtag
plain_etag (Some bytes) = record { length = 8; bytes = bytes }
plain_etag None = record { length = 0; bytes = replicate 8 0 }
