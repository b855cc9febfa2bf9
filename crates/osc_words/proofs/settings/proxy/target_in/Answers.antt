use Rattle.std.proofs.Common.{inl, inr}
use Rattle.std.proofs.lemmas.Result.{err_from_is_err_and}
use Rattle.toml.specs.View.{table_view}
use Rattle.osc_words.specs.Settings.{IsPortAt, SpelledAt, IsFaultAt, IsOther, IsTargetFault, target_keys, IsAddress, IsHost}
use Rattle.osc_words.specs.declared.settings.key.SettingsKey.TheVariants as key
use Rattle.osc_words.proofs.settings.Parts.{fault_within}
use Rattle.osc_words.proofs.settings.proxy.target_in.Goals as goal

pub returns-in_err-only : goal.returns-in_err-only
returns-in_err-only c =
    let p = err_from_is_err_and c.from_residual.result c.from_residual.ensures.1 in
    let document = table_view c.args.table.now in
    rw (p.1, p.2) (fault_within (IsOther target_keys document) (IsTargetFault document) c.in_err-only.field-0.0 (λ fault h. inl h) c.in_err-only.ensures)

pub returns-in_err-port_at : goal.returns-in_err-port_at
returns-in_err-port_at c =
    let p = err_from_is_err_and c.from_residual-in_err-port_at.result c.from_residual-in_err-port_at.ensures.1 in
    let document = table_view c.args.table.now in
    rw (p.1, p.2) (fault_within (IsFaultAt key.Port IsPortAt document) (IsTargetFault document) c.in_err-port_at.field-0.0 (λ fault h. inr (c.in_ok-only.ensures, inl h)) c.in_err-port_at.ensures)

pub returns-in_err-address_at : goal.returns-in_err-address_at
returns-in_err-address_at c =
    let p = err_from_is_err_and c.from_residual-in_err-address_at.result c.from_residual-in_err-address_at.ensures.1 in
    let document = table_view c.args.table.now in
    rw (p.1, p.2) (fault_within (IsFaultAt key.To (λ name. SpelledAt name IsAddress) document) (IsTargetFault document) c.in_err-address_at.field-0.0 (λ fault h. inr (c.in_ok-only.ensures, inr ((c.in_ok-port_at.field-0, c.in_ok-port_at.ensures), inl h))) c.in_err-address_at.ensures)

pub returns-in_err-host_at : goal.returns-in_err-host_at
returns-in_err-host_at c =
    let p = err_from_is_err_and c.from_residual-in_err-host_at.result c.from_residual-in_err-host_at.ensures.1 in
    let document = table_view c.args.table.now in
    rw (p.1, p.2) (fault_within (IsFaultAt key.Host (λ name. SpelledAt name IsHost) document) (IsTargetFault document) c.in_err-host_at.field-0.0 (λ fault h. inr (c.in_ok-only.ensures, inr ((c.in_ok-port_at.field-0, c.in_ok-port_at.ensures), inr ((c.in_ok-address_at.field-0, c.in_ok-address_at.ensures), h)))) c.in_err-host_at.ensures)
