use Rattle.std.proofs.Common.{◌+◌, ◌-◌, ◌*◌, drop, get_or, arith}
use Rattle.std.specs.Prelude.{fold}
use Rattle.std.proofs.lemmas.List.{at_drop_more}
use Rattle.osc_proxy.proofs.UriLaws.{grows, too_great}
use Rattle.osc_proxy.proofs.proxy_uri.port_of.Goals as goal

pub returns-then-port-gt65535 : goal.returns-then-port-gt65535
returns-then-port-gt65535 c =
    let digits = c.args.digits.now in
    let index = c.loop-digit.digit-index in
    let value = c.loop-digit.invariant.value in
    let more = at_drop_more (fold (λ n digit. 10 * n + (digit - 48)) c.loop-digit.port) digits index 0 c.loop-digit-test.true in
    let most = grows (10 * c.loop-digit.port + (get_or digits index 0 - 48)) (drop (index + 1) digits) in
    too_great digits (omega (arith, value, more, most, c.if-port-gt65535.true))
