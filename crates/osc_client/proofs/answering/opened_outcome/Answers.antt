use Rattle.std.proofs.lemmas.Result.{IfOk-weaker}
use Rattle.osc_client.proofs.Opened.{opened_comes}
use Rattle.osc_client.proofs.answering.opened_outcome.Goals as goal

pub returns : goal.returns
returns g c =
    IfOk-weaker c.outcome_opened.result _ _
    (λ outcome it. opened_comes g.A.Ciphers.is_sealing c.args.context.now c.args.ask.now c.args.message.now c.args.response.now c.in_ok-opened.opened outcome
    c.requires.protected c.requires.response c.in_ok-opened.ensures.opened c.in_ok-opened.ensures.noted c.in_ok-opened.ensures.none it)
    c.outcome_opened.ensures.comes
