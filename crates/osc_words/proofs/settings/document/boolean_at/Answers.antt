use Rattle.std.proofs.Common.{sym, ◌∙◌}
use Rattle.toml.specs.View.{table_view}
use Rattle.osc_words.specs.Settings.{name_of}
use Rattle.osc_words.proofs.settings.Spelled.{boolean_there, no_boolean}
use Rattle.osc_words.proofs.settings.document.boolean_at.Goals as goal

pub returns-in-Some : goal.returns-in-Some
returns-in-Some c = boolean_there (name_of c.args.key) (table_view c.args.table.now) c.in-Some.value (sym c.bool_at.ensures ∙ c.in-Some.is)

pub returns-in-None : goal.returns-in-None
returns-in-None c = no_boolean c.args.key (table_view c.args.table.now) c.untyped_at.result (sym c.bool_at.ensures ∙ c.in-None.is) c.untyped_at.ensures
