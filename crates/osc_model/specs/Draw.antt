-- The parts of a draw, each used for one thing.
use Rattle.std.specs.Prelude.{ℕ, ◌+◌, ◌*◌, List, take, drop, slice_index}
use Rattle.osc_model.specs.declared.node.Draw.{Draw}

-- the nonce of an exchange (RFC 9203 section 4.1)
abbrev pub nonce_drawn : Draw → List ℕ
nonce_drawn draw = take 8 draw.0

-- the token of a request (RFC 7252 section 5.3.1)
abbrev pub token_drawn : Draw → List ℕ
token_drawn draw = take 8 (drop 8 draw.0)

-- the number that spreads initial timeouts (section 4.2)
abbrev pub timeout_drawn : Draw → ℕ
timeout_drawn draw = 256 * slice_index draw.0 16 + slice_index draw.0 17

-- the message ID of a node's first message of its own (section 4.4)
abbrev pub message_id_drawn : Draw → ℕ
message_id_drawn draw = 256 * slice_index draw.0 18 + slice_index draw.0 19
