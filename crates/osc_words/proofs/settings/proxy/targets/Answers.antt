use Rattle.std.proofs.Common.{◌+◌, List, ap, length}
use Rattle.std.proofs.lemmas.Result.{err_from_is_err_and}
use Rattle.osc_words.specs.Settings.{IsTargetTable}
use Rattle.osc_words.specs.declared.settings.proxy.TargetSetting.{TargetSetting}
use Rattle.osc_words.proofs.settings.Listed.{item_refused, one_more}
use Rattle.osc_words.proofs.settings.proxy.targets.Goals as goal

pub loop-value-preserved : goal.loop-value-preserved
loop-value-preserved c =
    one_more IsTargetTable c.args.values.now c.loop-value.value-index c.value-item.result c.loop-value.targets.items c.push.new.self.items
    c.in_ok-numbered.field-0 c.loop-value-test.true c.value-item.is c.loop-value.invariant c.in_ok-numbered.ensures c.in_ok-push.ensures.items

pub returns-in_err-numbered : goal.returns-in_err-numbered
returns-in_err-numbered c =
    let p = err_from_is_err_and c.from_residual-in_err-numbered.result c.from_residual-in_err-numbered.ensures.1 in
    rw (p.1, p.2)
    (item_refused c.args.values.now c.loop-value.value-index c.value-item.result c.loop-value.targets.items (length c.as_slice.result.now + 1) c.in_err-numbered.field-0.0
    c.loop-value-test.true c.value-item.is c.loop-value.invariant (ap (λ (xs : List TargetSetting). length xs + 1) c.as_slice.ensures.value) c.in_err-numbered.ensures)
