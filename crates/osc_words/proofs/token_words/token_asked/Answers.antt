use Rattle.std.proofs.lemmas.Result.{err_from_is_err_and}
use Rattle.clap.specs.Words.{found_of, rows_of}
use Rattle.osc_words.proofs.Parts.{iv_refused, token_said}
use Rattle.osc_words.proofs.token_words.token_asked.Goals as goal

pub returns : goal.returns
returns c = token_said (rows_of (found_of c.args.options.now)) _ c.in_ok-key.ensures c.in_ok-secret.ensures c.in_ok-array.ensures c.in_ok-claims.ensures

pub returns-in_err-array : goal.returns-in_err-array
returns-in_err-array c =
    let p = err_from_is_err_and c.from_residual-in_err-array.result c.from_residual-in_err-array.ensures.1 in
    rw (p.1, p.2) (iv_refused (rows_of (found_of c.args.options.now)) _ c.in_err-array.ensures)
