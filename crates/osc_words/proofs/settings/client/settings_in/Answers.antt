use Rattle.std.proofs.Common.{inl, inr}
use Rattle.std.proofs.lemmas.Result.{err_from_is_err_and}
use Rattle.toml.specs.View.{table_view}
use Rattle.osc_words.specs.Settings.{IsAlgorithmAt, SpelledAt, IsClientFault, IsFaultAt, IsOriginFault, IsOther, IsWrongAt, client_keys, IsAddress, IsOpenAddress, SpellsBytes, SpellsHex}
use Rattle.osc_words.specs.declared.settings.key.SettingsKey.TheVariants as key
use Rattle.osc_words.proofs.settings.Parts.{context_found, fault_within, salt_found}
use Rattle.osc_words.proofs.settings.client.settings_in.Goals as goal

pub returns-in_err-only : goal.returns-in_err-only
returns-in_err-only c =
    let p = err_from_is_err_and c.from_residual.result c.from_residual.ensures.1 in
    let document = table_view c.args.table.now in
    rw (p.1, p.2) (fault_within (IsOther client_keys document) (IsClientFault document) c.in_err-only.field-0.0 (λ fault h. inl h) c.in_err-only.ensures)

pub returns-in_err-address_at : goal.returns-in_err-address_at
returns-in_err-address_at c =
    let p = err_from_is_err_and c.from_residual-in_err-address_at.result c.from_residual-in_err-address_at.ensures.1 in
    let document = table_view c.args.table.now in
    rw (p.1, p.2) (fault_within (IsFaultAt key.Bind (λ name. SpelledAt name IsOpenAddress) document) (IsClientFault document) c.in_err-address_at.field-0.0 (λ fault h. inr (c.in_ok-only.ensures, inl h)) c.in_err-address_at.ensures)

pub returns-in_err-address_at-2 : goal.returns-in_err-address_at-2
returns-in_err-address_at-2 c =
    let p = err_from_is_err_and c.from_residual-in_err-address_at-2.result c.from_residual-in_err-address_at-2.ensures.1 in
    let document = table_view c.args.table.now in
    rw (p.1, p.2) (fault_within (IsFaultAt key.Peer (λ name. SpelledAt name IsAddress) document) (IsClientFault document) c.in_err-address_at-2.field-0.0 (λ fault h. inr (c.in_ok-only.ensures, inr ((c.in_ok-address_at.field-0, c.in_ok-address_at.ensures), inl h))) c.in_err-address_at-2.ensures)

pub returns-in_err-origin : goal.returns-in_err-origin
returns-in_err-origin c =
    let p = err_from_is_err_and c.from_residual-in_err-origin.result c.from_residual-in_err-origin.ensures.1 in
    let document = table_view c.args.table.now in
    rw (p.1, p.2) (fault_within (IsOriginFault document) (IsClientFault document) c.in_err-origin.field-0.0 (λ fault h. inr (c.in_ok-only.ensures, inr ((c.in_ok-address_at.field-0, c.in_ok-address_at.ensures), inr ((c.in_ok-address_at-2.field-0, c.in_ok-address_at-2.ensures), inl h)))) c.in_err-origin.ensures)

pub returns-in_err-bytes_at : goal.returns-in_err-bytes_at
returns-in_err-bytes_at c =
    let p = err_from_is_err_and c.from_residual-in_err-bytes_at.result c.from_residual-in_err-bytes_at.ensures.1 in
    let document = table_view c.args.table.now in
    rw (p.1, p.2) (fault_within (IsFaultAt key.Token (λ name. SpelledAt name SpellsHex) document) (IsClientFault document) c.in_err-bytes_at.field-0.0 (λ fault h. inr (c.in_ok-only.ensures, inr ((c.in_ok-address_at.field-0, c.in_ok-address_at.ensures), inr ((c.in_ok-address_at-2.field-0, c.in_ok-address_at-2.ensures), inr ((c.in_ok-origin.field-0, c.in_ok-origin.ensures), inl h))))) c.in_err-bytes_at.ensures)

pub returns-in_err-bytes_within_at : goal.returns-in_err-bytes_within_at
returns-in_err-bytes_within_at c =
    let p = err_from_is_err_and c.from_residual-in_err-bytes_within_at.result c.from_residual-in_err-bytes_within_at.ensures.1 in
    let document = table_view c.args.table.now in
    rw (p.1, p.2) (fault_within (IsFaultAt key.Secret (λ name. SpelledAt name (SpellsBytes 1 64)) document) (IsClientFault document) c.in_err-bytes_within_at.field-0.0 (λ fault h. inr (c.in_ok-only.ensures, inr ((c.in_ok-address_at.field-0, c.in_ok-address_at.ensures), inr ((c.in_ok-address_at-2.field-0, c.in_ok-address_at-2.ensures), inr ((c.in_ok-origin.field-0, c.in_ok-origin.ensures), inr ((c.in_ok-bytes_at.field-0, c.in_ok-bytes_at.ensures), inl h)))))) c.in_err-bytes_within_at.ensures)

pub returns-in_err-salt : goal.returns-in_err-salt
returns-in_err-salt c =
    let p = err_from_is_err_and c.from_residual-in_err-salt.result c.from_residual-in_err-salt.ensures.1 in
    let document = table_view c.args.table.now in
    rw (p.1, p.2) (fault_within (IsWrongAt key.Salt (λ name. SpelledAt name (SpellsBytes 0 64)) document) (IsClientFault document) c.in_err-salt.field-0.0 (λ fault h. inr (c.in_ok-only.ensures, inr ((c.in_ok-address_at.field-0, c.in_ok-address_at.ensures), inr ((c.in_ok-address_at-2.field-0, c.in_ok-address_at-2.ensures), inr ((c.in_ok-origin.field-0, c.in_ok-origin.ensures), inr ((c.in_ok-bytes_at.field-0, c.in_ok-bytes_at.ensures), inr ((c.in_ok-bytes_within_at.field-0, c.in_ok-bytes_within_at.ensures), inl h))))))) c.in_err-salt.ensures)

pub returns-in_err-context : goal.returns-in_err-context
returns-in_err-context c =
    let p = err_from_is_err_and c.from_residual-in_err-context.result c.from_residual-in_err-context.ensures.1 in
    let document = table_view c.args.table.now in
    rw (p.1, p.2) (fault_within (IsWrongAt key.Context (λ name. SpelledAt name (SpellsBytes 0 64)) document) (IsClientFault document) c.in_err-context.field-0.0 (λ fault h. inr (c.in_ok-only.ensures, inr ((c.in_ok-address_at.field-0, c.in_ok-address_at.ensures), inr ((c.in_ok-address_at-2.field-0, c.in_ok-address_at-2.ensures), inr ((c.in_ok-origin.field-0, c.in_ok-origin.ensures), inr ((c.in_ok-bytes_at.field-0, c.in_ok-bytes_at.ensures), inr ((c.in_ok-bytes_within_at.field-0, c.in_ok-bytes_within_at.ensures), inr (salt_found document c.in_ok-salt.field-0 c.in_ok-salt.ensures, inl h)))))))) c.in_err-context.ensures)

pub returns-in_err-algorithm : goal.returns-in_err-algorithm
returns-in_err-algorithm c =
    let p = err_from_is_err_and c.from_residual-in_err-algorithm.result c.from_residual-in_err-algorithm.ensures.1 in
    let document = table_view c.args.table.now in
    rw (p.1, p.2) (fault_within (IsWrongAt key.Alg IsAlgorithmAt document) (IsClientFault document) c.in_err-algorithm.field-0.0 (λ fault h. inr (c.in_ok-only.ensures, inr ((c.in_ok-address_at.field-0, c.in_ok-address_at.ensures), inr ((c.in_ok-address_at-2.field-0, c.in_ok-address_at-2.ensures), inr ((c.in_ok-origin.field-0, c.in_ok-origin.ensures), inr ((c.in_ok-bytes_at.field-0, c.in_ok-bytes_at.ensures), inr ((c.in_ok-bytes_within_at.field-0, c.in_ok-bytes_within_at.ensures), inr (salt_found document c.in_ok-salt.field-0 c.in_ok-salt.ensures, inr (context_found document c.in_ok-context.field-0 c.in_ok-context.ensures, h))))))))) c.in_err-algorithm.ensures)
