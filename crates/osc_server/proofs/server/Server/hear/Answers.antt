use Rattle.std.proofs.Common.{Result, Ok, Err}
use Rattle.std.specs.Prelude.{IfOk, List}
use Rattle.osc_dedup.specs.{Entry}
use Rattle.osc_model.specs.declared.node.Moment.{Moment}
use Rattle.osc_model.specs.declared.node.Peer.{Peer}
use Rattle.osc_message.specs.{AnswersAlone, IsSendableHeard}
use Rattle.osc_message.specs.declared.heard.Heard.{Heard}
use Rattle.osc_server.specs.Inner.Parts.{HeardSendsTo, KeepsMessages}
use Rattle.osc_server.proofs.Notes.{heard_sends}
use Rattle.osc_server.proofs.server.Server.hear.Goals as goal

by : {E : Type 0} (seen : List Entry) (now : Moment) (peer : Peer) (result : Result Heard E) → KeepsMessages seen → IfOk result (AnswersAlone seen now peer)
    → IfOk result IsSendableHeard → IfOk result (HeardSendsTo peer)
by seen now peer (Ok heard) kept alone fits = heard_sends seen now peer heard kept alone fits
by seen now peer (Err error) kept alone fits = tt

pub returns-clause-sent : goal.returns-clause-sent
returns-clause-sent c =
    by c.self.inside.endpoint.seen c.args.now c.args.from c.on_datagram.result c.self.invariant.0.messages c.on_datagram.ensures.alone c.on_datagram.ensures.fits
