use Rattle.std.proofs.lemmas.Result.{err_from_is_err_and}
use Rattle.osc_words.specs.Settings.{IsAddressText}
use Rattle.osc_words.proofs.settings.Listed.{one_more, none_stand}
use Rattle.osc_words.proofs.settings.addresses.all.Goals as goal

pub loop-value-preserved : goal.loop-value-preserved
loop-value-preserved c =
    one_more IsAddressText c.args.values.now c.loop-value.value-index c.value-item.result c.loop-value.peers.items c.push.new.self.items
    c.in_ok-address.field-0 c.loop-value-test.true c.value-item.is c.loop-value.invariant c.in_ok-address.ensures c.in_ok-push.ensures.items

pub returns-in_err-address : goal.returns-in_err-address
returns-in_err-address c =
    let p = err_from_is_err_and c.from_residual-in_err-address.result c.from_residual-in_err-address.ensures.1 in
    rw (p.1, p.2) (none_stand IsAddressText c.args.values.now c.loop-value.value-index c.value-item.result c.in_err-address.field-0.0 c.loop-value-test.true c.value-item.is c.in_err-address.ensures)
