use Rattle.std.proofs.lemmas.Result.{err_from_is_err_and}
use Rattle.osc_words.specs.Settings.{IsResourceTable}
use Rattle.osc_words.proofs.settings.Listed.{one_more, none_stand}
use Rattle.osc_words.proofs.settings.resource.all.Goals as goal

pub loop-value-preserved : goal.loop-value-preserved
loop-value-preserved c =
    one_more IsResourceTable c.args.values.now c.loop-value.value-index c.value-item.result c.loop-value.resources.items c.push.new.self.items
    c.in_ok-resource.field-0 c.loop-value-test.true c.value-item.is c.loop-value.invariant c.in_ok-resource.ensures c.in_ok-push.ensures.items

pub returns-in_err-resource : goal.returns-in_err-resource
returns-in_err-resource c =
    let p = err_from_is_err_and c.from_residual-in_err-resource.result c.from_residual-in_err-resource.ensures.1 in
    rw (p.1, p.2) (none_stand IsResourceTable c.args.values.now c.loop-value.value-index c.value-item.result c.in_err-resource.field-0.0 c.loop-value-test.true c.value-item.is c.in_err-resource.ensures)
