use Rattle.std.proofs.Common.{sym, ◌∙◌}
use Rattle.osc_options.proofs.MergeLaws.{inner_step, outer_step, progress}
use Rattle.osc_options.proofs.merging.MergedIterator.next.Goals as goal

pub returns-then-is_inner_next-clause-steps : goal.returns-then-is_inner_next-clause-steps
returns-then-is_inner_next-clause-steps c =
    rw (sym c.self.view_is) (inner_step (λ option. (option.0, option.1.now)) _ _ _ _ _ c.take_inner.result (sym c.is_inner_next.ensures ∙ c.if-is_inner_next.true) c.self.invariant.inner c.take_inner.ensures)

pub returns-else-is_inner_next-clause-steps : goal.returns-else-is_inner_next-clause-steps
returns-else-is_inner_next-clause-steps c =
    rw (sym c.self.view_is) (outer_step (λ option. (option.0, option.1.now)) _ _ _ _ _ c.take_outer.result (sym c.is_inner_next.ensures ∙ c.if-is_inner_next.false) c.self.invariant.inner c.take_outer.ensures)

pub returns-then-is_inner_next-clause-goes : goal.returns-then-is_inner_next-clause-goes
returns-then-is_inner_next-clause-goes c =
    rw (sym c.self.view_is) (progress (λ option. (option.0, option.1.now)) _ (λ left. tt) c.take_inner.result _ _ (inner_step (λ option. (option.0, option.1.now)) _ _ _ _ _ c.take_inner.result (sym c.is_inner_next.ensures ∙ c.if-is_inner_next.true) c.self.invariant.inner c.take_inner.ensures))

pub returns-else-is_inner_next-clause-goes : goal.returns-else-is_inner_next-clause-goes
returns-else-is_inner_next-clause-goes c =
    rw (sym c.self.view_is) (progress (λ option. (option.0, option.1.now)) _ (λ left. tt) c.take_outer.result _ _ (outer_step (λ option. (option.0, option.1.now)) _ _ _ _ _ c.take_outer.result (sym c.is_inner_next.ensures ∙ c.if-is_inner_next.false) c.self.invariant.inner c.take_outer.ensures))
