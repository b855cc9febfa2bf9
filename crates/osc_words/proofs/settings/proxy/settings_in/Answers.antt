use Rattle.std.proofs.Common.{inl, inr}
use Rattle.std.proofs.lemmas.Result.{err_from_is_err_and}
use Rattle.toml.specs.View.{table_view}
use Rattle.osc_words.specs.Settings.{IsFaultAt, IsOther, AreAddressesAt, proxy_keys}
use Rattle.osc_words.specs.declared.settings.key.SettingsKey.TheVariants as key
use Rattle.osc_words.proofs.settings.Parts.{proxy_refused, targets_refused}
use Rattle.osc_words.proofs.settings.proxy.settings_in.Goals as goal

pub returns-in_err-only : goal.returns-in_err-only
returns-in_err-only c =
    let p = err_from_is_err_and c.from_residual.result c.from_residual.ensures.1 in
    let document = table_view c.args.table.now in
    rw (p.1, p.2) (proxy_refused (IsOther proxy_keys document) document c.in_err-only.field-0.0 (λ fault h. inl h) c.in_err-only.ensures)

pub returns-in_err-addresses_at : goal.returns-in_err-addresses_at
returns-in_err-addresses_at c =
    let p = err_from_is_err_and c.from_residual-in_err-addresses_at.result c.from_residual-in_err-addresses_at.ensures.1 in
    let document = table_view c.args.table.now in
    rw (p.1, p.2) (proxy_refused (IsFaultAt key.Bind AreAddressesAt document) document c.in_err-addresses_at.field-0.0 (λ fault h. inr (c.in_ok-only.ensures, inl h)) c.in_err-addresses_at.ensures)

pub returns-in_err-all_targets : goal.returns-in_err-all_targets
returns-in_err-all_targets c =
    let p = err_from_is_err_and c.from_residual-in_err-all_targets.result c.from_residual-in_err-all_targets.ensures.1 in
    rw (p.1, p.2)
    (targets_refused (table_view c.args.table.now) c.in_ok-addresses_at.field-0.items c.in_err-all_targets.field-0.0 c.in_ok-only.ensures c.in_ok-addresses_at.ensures c.in_err-all_targets.ensures)
