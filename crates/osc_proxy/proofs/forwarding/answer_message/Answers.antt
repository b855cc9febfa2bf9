use Rattle.std.proofs.Common.{◌≤◌, length, subst, rules}
use Rattle.std.specs.Result.{IsOk}
use Rattle.osc_coap.specs.{datagram_limit, spelling}
use Rattle.osc_coap.specs.Message.{Message}
use Rattle.osc_proxy.proofs.OptionLaws.{whole_is}
use Rattle.osc_proxy.proofs.forwarding.answer_message.Goals as goal

pub returns-clause-ok : goal.returns-clause-ok
returns-clause-ok c =
    let same = whole_is c.args.kind c.args.id c.args.token.now c.args.response.now in
    search rules

pub returns-clause-fits : goal.returns-clause-fits
returns-clause-fits c =
    let same = whole_is c.args.kind c.args.id c.args.token.now c.args.response.now in
    subst (λ (m : Message). (IsOk c.rewrite.result → length (spelling m) ≤ datagram_limit) × (length (spelling m) ≤ datagram_limit → IsOk c.rewrite.result)) same c.rewrite.ensures.fits
