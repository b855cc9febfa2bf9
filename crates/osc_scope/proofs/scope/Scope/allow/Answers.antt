use Rattle.std.proofs.Common.{◌≡◌, map, sym, ap, ◌∙◌}
use Rattle.std.specs.FinSet as set
use Rattle.std.specs.List.{insert}
use Rattle.osc_model.specs.{exactly}
use Rattle.osc_scope.specs.{bit_of, scope_of, entry_with}
use Rattle.osc_scope.proofs.InOrder.{kept_with}
use Rattle.osc_scope.proofs.Sets.{insert_present, scope_insert}
use Rattle.osc_scope.proofs.scope.Scope.allow.Goals.{then-not-has_exactly+in_ok-insert, else-not-has_exactly}
use Rattle.osc_scope.proofs.scope.Scope.allow.Goals as goal

pub invariant_of-self : goal.invariant_of-self
invariant_of-self c =
    let pairs = c.self.inside.entries in
    let place = c.place_for-place.result in
    let put : c.insert.new.self ≡ insert pairs place (c.args.path, bit_of c.args.method) =
    c.in_ok-insert.ensures.ok ∙ (λ i. insert pairs place (c.text.ensures.text i, c.bit_of.ensures i)) in
    kept_with pairs c.insert.new.self place c.args.path c.args.method c.self.inside.goes_below c.self.inside.in_order c.self.invariant c.text.ensures.path
    c.place_for-place.ensures.in_order put

-- one such entry more is one more in the set
pub returns-clause-ok : goal.returns-clause-ok
returns-clause-ok c =
    let order = c.permissions_are_ordered.ensures in
    let entries = c.self.inside.entries in
    elim c.if-not-has_exactly.branch [
      | then-not-has_exactly+in_ok-insert w ↦
          w.self-is
          ∙ ap (λ es. scope_of (map entry_with es))
          (w.in_ok-insert.ensures.ok ∙ (λ i. insert entries w.place_for-place.result (w.text.ensures.text i, w.bit_of.ensures i)))
          ∙ scope_insert order.total order.exact entries w.place_for-place.result c.args.path c.args.method
          ∙ ap (λ s. set.insert s (exactly c.args.path c.args.method)) c.self.view_is
      | else-not-has_exactly w ↦
          w.self-is
          ∙ sym (insert_present order.total order.exact c.args.self.now (exactly c.args.path c.args.method) (sym c.has_exactly.ensures ∙ w.if-not-has_exactly.false))
    ]
