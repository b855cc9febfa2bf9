use Rattle.std.proofs.Common.{sym, ◌∙◌}
use Rattle.osc_words.proofs.settings.Bound.{some_few, too_few, too_many}
use Rattle.osc_words.proofs.settings.addresses.few.Goals as goal
use Rattle.osc_words.proofs.settings.addresses.few.Goals.{then-is_empty-via-then-is_empty, then-is_empty-via-else-is_empty+then-values-gt-MOST_ADDRESSES}

pub returns-then-is_empty : goal.returns-then-is_empty
returns-then-is_empty c = elim c.then-is_empty.branch [
  | then-is_empty-via-then-is_empty w ↦ too_few c.args.values.now (sym c.is_empty.ensures ∙ w.if-is_empty.true)
  | then-is_empty-via-else-is_empty+then-values-gt-MOST_ADDRESSES w ↦ too_many c.args.values.now w.if-values-gt-MOST_ADDRESSES.true
]

pub returns : goal.returns
returns c = some_few (λ xs. xs.items) c.args.values.now c.all.result (sym c.is_empty.ensures ∙ c.if-is_empty.false) c.if-values-gt-MOST_ADDRESSES.false c.all.ensures
