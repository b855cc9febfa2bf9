use Rattle.std.proofs.Common.{ap}
use Rattle.osc_message.specs.{heard}
use Rattle.osc_server.specs.State.{State}
use Rattle.osc_server.proofs.KeptAnswers.{heard_kept, same_desk}
use Rattle.osc_server.proofs.laws.kept_answers.Goals as goal

pub returns-clause-heard : goal.returns-clause-heard
returns-clause-heard g c = λ old new came step table kept hears.
    heard_kept g.A.Ciphers.is_sealing c.answers_kept.ensures.posted c.answers_kept.ensures.served old step new table kept came
    (heard old.endpoint.seen came.at came.from hears.received) hears.answers

pub returns-clause-ticked : goal.returns-clause-ticked
returns-clause-ticked g c = λ old new now step kept ticks.
    same_desk g.A.Ciphers.is_sealing c.answers_kept.ensures.posted c.answers_kept.ensures.served old new (ap (λ (s : State). s.desk) ticks.kept) kept

pub returns-clause-restarted : goal.returns-clause-restarted
returns-clause-restarted g c = λ old held last k. absurd (c.answers_kept.ensures.empty held last k)
