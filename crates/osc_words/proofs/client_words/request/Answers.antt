use Rattle.std.proofs.lemmas.Result.{err_from_is_err_and}
use Rattle.clap.specs.Words.{found_of, rows_of}
use Rattle.osc_words.proofs.ClientParts.{path_refused}
use Rattle.osc_words.proofs.client_words.request.Goals as goal

pub returns-in_err-path : goal.returns-in_err-path
returns-in_err-path c =
    let p = err_from_is_err_and c.from_residual-in_err-path.result c.from_residual-in_err-path.ensures.1 in
    rw (p.1, p.2) (path_refused (rows_of (found_of c.args.options.now)) _ c.in_err-path.ensures)
