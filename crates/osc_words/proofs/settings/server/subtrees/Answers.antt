use Rattle.std.proofs.Common.{◌≡◌, true, sym, ◌∙◌}
use Rattle.toml.specs.View.{table_view}
use Rattle.osc_words.specs.Settings.{IsBooleanAt, IsLeftOut, name_of}
use Rattle.osc_words.specs.declared.settings.key.SettingsKey.TheVariants as key
use Rattle.osc_words.proofs.settings.Parts.{or_left_out}
use Rattle.osc_words.proofs.settings.server.subtrees.Goals as goal

pub returns-then-has : goal.returns-then-has
returns-then-has c =
    let document = table_view c.args.table.now in
    or_left_out key.Subtrees IsBooleanAt document (λ may. IsLeftOut (name_of key.Subtrees) document × (may ≡ true)) c.boolean_at.result
    (sym c.has.ensures ∙ c.if-has.true) c.boolean_at.ensures
