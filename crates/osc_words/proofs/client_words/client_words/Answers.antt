use Rattle.std.proofs.lemmas.Result.{err_from_is_err_and}
use Rattle.clap.specs.Words.{found_of, rows_of}
use Rattle.osc_words.proofs.ClientParts.{client_said, patience_refused}
use Rattle.osc_words.proofs.client_words.client_words.Goals as goal

pub returns : goal.returns
returns c =
    client_said (rows_of (found_of c.args.options.now)) _ _ c.in_ok-patience.ensures c.in_ok-payload.ensures c.in_ok-request.ensures c.in_ok-file.ensures
    c.is_set.ensures c.is_set-2.ensures

pub returns-in_err-patience : goal.returns-in_err-patience
returns-in_err-patience c =
    let p = err_from_is_err_and c.from_residual.result c.from_residual.ensures.1 in
    rw (p.1, p.2) (patience_refused (rows_of (found_of c.args.options.now)) _ c.in_err-patience.ensures)
