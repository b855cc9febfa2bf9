use Rattle.std.proofs.Common.{sym, ◌∙◌}
use Rattle.std.proofs.lemmas.Result.{err_from_is_err_and}
use Rattle.toml.specs.View.{table_view}
use Rattle.osc_words.specs.Settings.{SpelledAt, SpellsBytes}
use Rattle.osc_words.specs.declared.settings.key.SettingsKey.TheVariants as key
use Rattle.osc_words.proofs.settings.Parts.{wrong_at}
use Rattle.osc_words.proofs.settings.client.context.Goals as goal

pub returns-in_err-bytes_within_at : goal.returns-in_err-bytes_within_at
returns-in_err-bytes_within_at c =
    let p = err_from_is_err_and c.from_residual.result c.from_residual.ensures.1 in
    rw (p.1, p.2)
    (wrong_at key.Context (λ name. SpelledAt name (SpellsBytes 0 64)) (table_view c.args.table.now) c.in_err-bytes_within_at.field-0.0 (sym c.has.ensures ∙ c.if-has.true) c.in_err-bytes_within_at.ensures)
