use Rattle.std.proofs.Common.{◌∙◌, List, ℕ, Some, ap, sym}
use Rattle.std.proofs.lemmas.Result.{err_from_is_err_and}
use Rattle.clap.specs.Words.{found_of, rows_of}
use Rattle.osc_words.proofs.ClientParts.{every_refused, patience_of_many_refused, requests_said}
use Rattle.osc_words.proofs.requests_words.requests_words.Goals as goal

pub returns : goal.returns
returns c =
    requests_said (rows_of (found_of c.args.options.now)) _ c.in_ok-patience.ensures (c.requires.1 ∙ ap (λ (name : List ℕ). Some name) (sym c.in_ok-new.ensures)) c.in_ok-every.ensures c.in_ok-file.ensures
    c.is_set.ensures c.is_set-2.ensures

pub returns-in_err-patience : goal.returns-in_err-patience
returns-in_err-patience c =
    let p = err_from_is_err_and c.from_residual.result c.from_residual.ensures.1 in
    rw (p.1, p.2) (patience_of_many_refused (rows_of (found_of c.args.options.now)) _ c.in_err-patience.ensures)

pub returns-in_err-every : goal.returns-in_err-every
returns-in_err-every c =
    let p = err_from_is_err_and c.from_residual-in_err-every.result c.from_residual-in_err-every.ensures.1 in
    rw (p.1, p.2) (every_refused (rows_of (found_of c.args.options.now)) _ c.in_err-every.ensures)
