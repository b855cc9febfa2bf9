use Rattle.std.proofs.Common.{refl}
use Rattle.osc_cbor.specs.{map}
use Rattle.osc_authz.specs.{Finishes}
use Rattle.osc_authz.proofs.FinishLemmas.{code_is}
use Rattle.osc_authz.proofs.granted.ClientDesk.outcome_of.Goals as goal

pub returns-in-None-clause-finished : goal.returns-in-None-clause-finished
returns-in-None-clause-finished c =
    let none = rw c.in-None.is at c.whole.ensures in
    let created = code_is c.args.code c.ne.result c.ne.ensures c.if-ne.false in
    Finishes.no_answer created (λ nonce2 server_id answer. none (map answer.fields) answer.whole) refl
