use Rattle.std.proofs.Common.{ap, ◌∙◌, rules}
use Rattle.std.specs.List.{insert}
use Rattle.osc_scope.specs.Inner.Kept.{pairs_at}
use Rattle.osc_scope.proofs.KeptLemmas.{on_err, same_pairs}
use Rattle.osc_scope.proofs.OrderLemmas.{inserted_pair, inserted_within}
use Rattle.osc_scope.proofs.kept.Entries.insert.Goals as goal

pub returns-in_err-insert-clause-err : goal.returns-in_err-insert-clause-err
returns-in_err-insert-clause-err c =
    on_err c.from_residual-in_err-insert.result
    ((λ i. pairs_at (c.in_ok-extend_from_slice.ensures.items i) (c.in_err-insert.ensures.items i))
    ∙ same_pairs c.self.inside.texts.items c.args.text.now c.self.inside.places.items c.self.invariant
    ∙ c.self.view_is)

pub invariant_of-self-2 : goal.invariant_of-self-2
invariant_of-self-2 c =
    inserted_within c.self.inside.texts.items c.args.text.now c.extend_from_slice.new.self.items c.self.inside.places.items c.insert.new.self.items c.args.index
    (record { start = c.len-start.result; end = c.len-end.result; mask = c.args.mask })
    c.self.invariant c.in_ok-extend_from_slice.ensures.items c.in_ok-insert.ensures.items (search rules) (search rules)

pub returns-clause-ok : goal.returns-clause-ok
returns-clause-ok c =
    inserted_pair c.self.inside.texts.items c.args.text.now c.extend_from_slice.new.self.items c.self.inside.places.items c.insert.new.self.items c.args.index
    (record { start = c.len-start.result; end = c.len-end.result; mask = c.args.mask })
    c.self.invariant c.in_ok-extend_from_slice.ensures.items c.in_ok-insert.ensures.items (search rules) (search rules)
    ∙ ap (λ pairs. insert pairs c.args.index (c.args.text.now, c.args.mask)) c.self.view_is
