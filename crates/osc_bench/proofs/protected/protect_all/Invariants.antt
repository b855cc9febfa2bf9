-- The sender goes on under the name that it was derived from.
use Rattle.std.proofs.Common.{◌≡◌}
use Rattle.osc_model.specs.declared.context.Side.TheVariants.{Client}
use Rattle.osc_context.specs.{sender_of}
use Rattle.osc_bench.proofs.protected.protect_all.Given as goal

abbrev pub invariant-loop-place : goal.invariant-loop-place
invariant-loop-place l = l.sender ≡ sender_of l.name Client l.sender.next
