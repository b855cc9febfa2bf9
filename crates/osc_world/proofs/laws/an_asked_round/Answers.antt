use Rattle.std.proofs.Common.{refl}
use Rattle.osc_world.proofs.AskThroughWorld.{answered_round, unheard_round}
use Rattle.osc_world.proofs.StillHeld.{takes_numbers}
use Rattle.osc_world.proofs.laws.an_asked_round.Goals as goal

pub returns-clause-answered : goal.returns-clause-answered
returns-clause-answered g c = λ deliveries limit asked new quiet whole apart server proxies clients rounds count it enough.
    answered_round g.A.Ciphers.is_sealing g.A.Ciphers.TAG c.one_peer.ensures.itself c.a_request_is_answered.ensures c.a_request_keeps_the_premise.ensures (takes_numbers c.numbers_taken.ensures c.answers_stay.ensures.tokens)
    deliveries count limit asked new it quiet apart server clients enough rounds
    c.a_request_goes_through_a_proxy.ensures whole proxies

pub returns-clause-straight : goal.returns-clause-straight
returns-clause-straight g c = λ deliveries limit asked new quiet it after apart server clients enough rounds stands.
    unheard_round g.A.Ciphers.is_sealing g.A.Ciphers.TAG c.one_peer.ensures.itself c.a_request_is_answered.ensures c.a_request_keeps_the_premise.ensures (takes_numbers c.numbers_taken.ensures c.answers_stay.ensures.tokens)
    deliveries 2 limit asked new it quiet apart server clients enough rounds refl after stands
