use Rattle.std.proofs.Common.{sym, ◌∙◌}
use Rattle.std.proofs.lemmas.Result.{err_from_is_err_and}
use Rattle.toml.specs.View.{table_view}
use Rattle.osc_words.specs.Settings.{IsFileName, SpelledAt}
use Rattle.osc_words.specs.declared.settings.key.SettingsKey.TheVariants as key
use Rattle.osc_words.proofs.settings.Parts.{wrong_at}
use Rattle.osc_words.proofs.settings.server.store.Goals as goal

pub returns-in_err-store_file_at : goal.returns-in_err-store_file_at
returns-in_err-store_file_at c =
    let p = err_from_is_err_and c.from_residual.result c.from_residual.ensures.1 in
    rw (p.1, p.2)
    (wrong_at key.Store (λ name. SpelledAt name IsFileName) (table_view c.args.table.now) c.in_err-store_file_at.field-0.0 (sym c.has.ensures ∙ c.if-has.true) c.in_err-store_file_at.ensures)
