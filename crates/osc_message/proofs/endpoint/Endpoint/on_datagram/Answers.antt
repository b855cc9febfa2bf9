use Rattle.std.proofs.Common.{subst, sym}
use Rattle.std.proofs.lemmas.Result.{IfOk-weaker}
use Rattle.osc_message.specs.{EndpointState, AnswersAlone}
use Rattle.osc_message.specs.declared.heard.Heard.{Heard}
use Rattle.osc_message.proofs.Came.{heard_alone}
use Rattle.osc_message.proofs.endpoint.Endpoint.on_datagram.Goals as goal

pub returns-clause-alone : goal.returns-clause-alone
returns-clause-alone g c =
    let seen = c.self.inside.seen in
    let is = heard_alone c.what_nodes_send.ensures.reset c.args.datagram.now seen c.args.now c.args.from c.receive.result c.receive.ensures.received c.receive.ensures.id in
    IfOk-weaker c.hear.result _ _
    (λ (h : Heard) same. subst (λ (s : EndpointState). AnswersAlone s.seen c.args.now c.args.from h) c.self.view_is
    (subst (AnswersAlone seen c.args.now c.args.from) (sym same) is))
    c.hear.ensures.heard
