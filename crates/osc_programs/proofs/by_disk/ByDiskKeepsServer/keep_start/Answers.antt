-- Why one of the two doesn't keep it is why.
use Rattle.std.proofs.Common.{arith, inl, inr, subst}
use Rattle.std.proofs.lemmas.Result.{IfErr-weaker}
use Rattle.osc_programs.specs.Inner.ByDisk as spec
use Rattle.osc_programs.proofs.Lasting.{why_since}
use Rattle.osc_programs.proofs.by_disk.ByDiskKeepsServer.keep_start.Goals as goal

pub returns-in-Any-clause-cause : goal.returns-in-Any-clause-cause
returns-in-Any-clause-cause g c before after same keeps trust =
    rw c.in-Any.is (IfErr-weaker c.keep_start.result _ _ (λ error why. why_since _ _ (g.A.KeepsSteps.faults c.in-Any.keeper) (g.A.KeepsSteps.faults c.in-Any.keeper) _ error (omega arith) inl why)
    (c.keep_start.ensures.cause before after same (subst (spec.Holds (λ any. g.A.KeepsSteps.keeps any before) (λ whole. g.W.KeepsSteps.keeps whole before)) c.in-Any.is keeps) trust))

pub returns-in-WholeSectors-clause-cause : goal.returns-in-WholeSectors-clause-cause
returns-in-WholeSectors-clause-cause g c before after same keeps trust =
    rw c.in-WholeSectors.is (IfErr-weaker c.keep_start-in-WholeSectors.result _ _ (λ error why. why_since _ _ (g.W.KeepsSteps.faults c.in-WholeSectors.keeper) (g.W.KeepsSteps.faults c.in-WholeSectors.keeper) _ error (omega arith) inr why)
    (c.keep_start-in-WholeSectors.ensures.cause before after same (subst (spec.Holds (λ any. g.A.KeepsSteps.keeps any before) (λ whole. g.W.KeepsSteps.keeps whole before)) c.in-WholeSectors.is keeps) trust))
