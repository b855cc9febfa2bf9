use Rattle.std.proofs.Common.{refl}
use Rattle.osc_client.specs.Inner.Opened.{a_reply, no_reply}
use Rattle.osc_client.proofs.answering.outcome_opened.Goals as goal

pub returns-in-Some-2-clause-comes : goal.returns-in-Some-2-clause-comes
returns-in-Some-2-clause-comes c =
    a_reply c.in-Some.note c.in-Some-2.reply c.in-Some.is (rw (c.in-Some-2.is, c.as_slice.ensures) at c.in_ok-reply-in-Some.ensures.some) refl

pub returns-in-None-2-clause-comes : goal.returns-in-None-2-clause-comes
returns-in-None-2-clause-comes c =
    no_reply c.in-Some.note c.in-Some.is (rw (c.in-None-2.is, c.as_slice.ensures) at c.in_ok-reply-in-Some.ensures.none) refl
