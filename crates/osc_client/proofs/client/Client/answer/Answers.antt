use Rattle.std.proofs.Common.{List, ℕ, subst, sym}
use Rattle.std.proofs.lemmas.Result.{IfOk-weaker}
use Rattle.osc_model.specs.Arrival.{Arrival}
use Rattle.osc_message.specs.declared.heard.Heard.{Heard}
use Rattle.osc_client.specs.{Answers, case_of}
use Rattle.osc_client.proofs.AnyDraw.{any_draw}
use Rattle.osc_client.proofs.client.Client.answer.Goals as goal

pub returns-in-Message-clause-answered : goal.returns-in-Message-clause-answered
returns-in-Message-clause-answered g c =
    let old = c.args.self.now in
    let new = c.answer_new.new.self in
    let message = c.in-Message.message in
    IfOk-weaker c.answer_new.result _ _
    (λ step told draw bytes.
    let it : Arrival (List ℕ) = record { at = c.args.now; from = c.args.from; draw = draw; what = bytes } in
    subst (λ (h : Heard). Answers g.A.Ciphers.is_sealing old it h step new) (sym c.in-Message.is)
    (any_draw g.A.Ciphers.is_sealing old _ draw (case_of old.next_hop c.args.from old.waiting message) step new told))
    c.answer_new.ensures.answered
