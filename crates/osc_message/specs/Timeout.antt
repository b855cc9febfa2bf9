-- The initial timeout of a confirmable message (RFC 7252 section 4.8).
use Rattle.std.specs.Prelude.{ℕ, ◌+◌, ◌%◌}
use Rattle.osc_model.specs.{timeout_drawn}
use Rattle.osc_model.specs.declared.node.Draw.{Draw}

-- between ACK_TIMEOUT, 2 seconds, and 1.5 times that (ACK_RANDOM_FACTOR), in ms, by a number that was drawn
abbrev pub timeout_of : Draw → ℕ
timeout_of draw = 2000 + timeout_drawn draw % 1001
