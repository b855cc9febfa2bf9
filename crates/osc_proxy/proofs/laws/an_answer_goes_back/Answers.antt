use Rattle.osc_proxy.proofs.ThereAndBack.{PassingLaws, is_brought_back}
use Rattle.osc_proxy.proofs.laws.an_answer_goes_back.Goals as goal

pub returns : goal.returns
returns c =
    let laws : PassingLaws = record {
      one_reception = c.one_reception.ensures;
      acknowledgement = c.what_nodes_send.ensures.acknowledgement;
      idle = c.one_at_a_time.ensures.idle;
      short = λ id. (c.what_nodes_send.ensures.short id).1;
      no_longer = c.forwarding_adds_nothing.ensures;
    } in
    λ proxy passed brought passage later draw response first second lawful takes_up back is answers_it hears.
    is_brought_back laws proxy passed brought passage later draw response first second lawful takes_up back is answers_it hears
