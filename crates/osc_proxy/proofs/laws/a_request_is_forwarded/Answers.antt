use Rattle.osc_proxy.proofs.ThereAndBack.{PassingLaws, is_passed_on}
use Rattle.osc_proxy.proofs.laws.a_request_is_forwarded.Goals as goal

pub returns : goal.returns
returns c =
    let laws : PassingLaws = record {
      one_reception = c.one_reception.ensures;
      acknowledgement = c.what_nodes_send.ensures.acknowledgement;
      idle = c.one_at_a_time.ensures.idle;
      short = λ id. (c.what_nodes_send.ensures.short id).1;
      no_longer = c.forwarding_adds_nothing.ensures;
    } in
    λ proxy passed passage step takes_up hears. is_passed_on laws proxy passed passage step takes_up hears
