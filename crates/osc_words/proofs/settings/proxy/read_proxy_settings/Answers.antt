use Rattle.std.proofs.lemmas.Result.{err_from_is_err_and}
use Rattle.toml.specs.View.{table_view}
use Rattle.osc_words.specs.Settings.{IsFaultOfProxy, AreProxySettings}
use Rattle.osc_words.proofs.settings.NoSettings.{no_proxy}
use Rattle.osc_words.proofs.settings.Parts.{all_bad, bad, lacks, no_document}
use Rattle.osc_words.proofs.settings.proxy.read_proxy_settings.Goals as goal

pub returns-in_err-table : goal.returns-in_err-table
returns-in_err-table c =
    let p = err_from_is_err_and c.from_residual.result c.from_residual.ensures.1 in
    let none = no_document IsFaultOfProxy c.args.text.now c.in_err-table.field-0.0 c.in_err-table.ensures in
    rw (p.1, p.2) (record { read = tt; lacks = none; bad = bad AreProxySettings IsFaultOfProxy c.args.text.now c.in_err-table.field-0.0 no_proxy none })

pub returns-clause-lacks : goal.returns-clause-lacks
returns-clause-lacks c = lacks AreProxySettings IsFaultOfProxy c.args.text.now (table_view c.in_ok-table.table) c.settings_in.result (λ line h. h) c.in_ok-table.ensures c.settings_in.ensures

pub returns-clause-bad : goal.returns-clause-bad
returns-clause-bad c =
    all_bad AreProxySettings IsFaultOfProxy c.args.text.now c.settings_in.result no_proxy
    (lacks AreProxySettings IsFaultOfProxy c.args.text.now (table_view c.in_ok-table.table) c.settings_in.result (λ line h. h) c.in_ok-table.ensures c.settings_in.ensures)
