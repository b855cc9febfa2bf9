use Rattle.std.proofs.lemmas.Result.{err_from_is_err_and}
use Rattle.osc_words.specs.Settings.{IsPathText}
use Rattle.osc_words.proofs.settings.Listed.{one_more, none_stand}
use Rattle.osc_words.proofs.settings.server.paths.Goals as goal

pub loop-value-preserved : goal.loop-value-preserved
loop-value-preserved c =
    one_more IsPathText c.args.values.now c.loop-value.value-index c.value-item.result c.loop-value.paths.items c.push.new.self.items
    c.in_ok-path.field-0 c.loop-value-test.true c.value-item.is c.loop-value.invariant c.in_ok-path.ensures c.in_ok-push.ensures.items

pub returns-in_err-path : goal.returns-in_err-path
returns-in_err-path c =
    let p = err_from_is_err_and c.from_residual-in_err-path.result c.from_residual-in_err-path.ensures.1 in
    rw (p.1, p.2) (none_stand IsPathText c.args.values.now c.loop-value.value-index c.value-item.result c.in_err-path.field-0.0 c.loop-value-test.true c.value-item.is c.in_err-path.ensures)
