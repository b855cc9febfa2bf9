use Rattle.std.proofs.lemmas.Result.{err_from_is_err_and}
use Rattle.toml.specs.View.{view}
use Rattle.osc_words.proofs.settings.Bound.{no_one_alone}
use Rattle.osc_words.proofs.settings.addresses.alone.Goals as goal

pub returns-in_err-peer : goal.returns-in_err-peer
returns-in_err-peer c =
    let p = err_from_is_err_and c.from_residual.result c.from_residual.ensures.1 in
    rw (p.1, p.2) (no_one_alone (view c.args.value.now) c.in_err-peer.field-0.0 c.in_err-peer.ensures)
