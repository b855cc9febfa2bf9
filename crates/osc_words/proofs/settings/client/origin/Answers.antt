use Rattle.std.proofs.Common.{sym, ◌∙◌}
use Rattle.std.proofs.lemmas.Result.{err_from_is_err_and}
use Rattle.toml.specs.View.{table_view}
use Rattle.osc_words.proofs.settings.Parts.{host_refused, port_refused}
use Rattle.osc_words.proofs.settings.client.origin.Goals as goal

pub returns-in_err-port : goal.returns-in_err-port
returns-in_err-port c =
    let p = err_from_is_err_and c.from_residual.result c.from_residual.ensures.1 in
    rw (p.1, p.2) (port_refused (table_view c.args.table.now) c.in_err-port.field-0.0 (sym c.has.ensures ∙ c.if-has.true) c.in_err-port.ensures)

pub returns-in_err-host_at : goal.returns-in_err-host_at
returns-in_err-host_at c =
    let p = err_from_is_err_and c.from_residual-in_err-host_at.result c.from_residual-in_err-host_at.ensures.1 in
    rw (p.1, p.2) (host_refused (table_view c.args.table.now) c.in_err-host_at.field-0.0 c.in_ok-port.port (sym c.has.ensures ∙ c.if-has.true) c.in_ok-port.ensures c.in_err-host_at.ensures)
