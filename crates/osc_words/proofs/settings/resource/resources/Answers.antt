use Rattle.std.proofs.Common.{sym, ◌∙◌}
use Rattle.toml.specs.View.{table_view}
use Rattle.osc_words.proofs.settings.Resources.{or_none}
use Rattle.osc_words.proofs.settings.resource.resources.Goals as goal

pub returns-then-has : goal.returns-then-has
returns-then-has c = or_none (λ xs. xs.items) (table_view c.args.table.now) c.listed.result (sym c.has.ensures ∙ c.if-has.true) c.listed.ensures
