use Rattle.std.proofs.lemmas.Result.{err_from_is_err_and}
use Rattle.clap.specs.Words.{found_of, rows_of}
use Rattle.osc_words.specs.{value_of}
use Rattle.osc_words.proofs.ClientParts.{turns_refused}
use Rattle.osc_words.proofs.given.turns.Goals as goal

pub returns-in_err-number : goal.returns-in_err-number
returns-in_err-number c =
    let p = err_from_is_err_and c.from_residual.result c.from_residual.ensures.1 in
    rw (p.1, p.2) (turns_refused c.args.option (value_of c.args.option (rows_of (found_of c.args.options.now))) _ c.in_err-number.ensures)
