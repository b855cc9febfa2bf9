use Rattle.std.proofs.Common.{[], ◌∷◌, ◌++◌, ap, ◌∙◌, rules}
use Rattle.osc_scope.specs.Inner.Kept.{pairs_at}
use Rattle.osc_scope.proofs.KeptLemmas.{on_err, same_pairs, one_more_pair}
use Rattle.osc_scope.proofs.kept.Entries.push.Goals as goal

pub returns-in_err-push-clause-err : goal.returns-in_err-push-clause-err
returns-in_err-push-clause-err c =
    on_err c.from_residual-in_err-push.result
    ((λ i. pairs_at (c.in_ok-extend_from_slice.ensures.items i) (c.in_err-push.ensures.items i))
    ∙ same_pairs c.self.inside.texts.items c.args.text.now c.self.inside.places.items c.self.invariant
    ∙ c.self.view_is)

pub returns-clause-ok : goal.returns-clause-ok
returns-clause-ok c =
    one_more_pair c.self.inside.texts.items c.args.text.now c.extend_from_slice.new.self.items c.self.inside.places.items c.push.new.self.items
    (record { start = c.len-start.result; end = c.len-end.result; mask = c.args.mask })
    c.self.invariant c.in_ok-extend_from_slice.ensures.items c.in_ok-push.ensures.items (search rules) (search rules)
    ∙ ap (λ pairs. pairs ++ (c.args.text.now, c.args.mask) ∷ []) c.self.view_is
