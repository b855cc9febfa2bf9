-- The sender goes on under the name that it was derived from.
use Rattle.std.proofs.Common.{◌≡◌}
use Rattle.osc_model.specs.declared.context.Side.TheVariants.{Client}
use Rattle.osc_context.specs.{sender_of}
use Rattle.osc_bench.proofs.protection.protect_again.Given as goal

abbrev pub invariant-loop : goal.invariant-loop
invariant-loop l = l.sender ≡ sender_of l.name Client l.sender.next
