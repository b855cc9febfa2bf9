use Rattle.std.proofs.Common.{refl}
use Rattle.osc_world.proofs.ExchangeThroughWorld.{made_round, unheard_round}
use Rattle.osc_world.proofs.laws.an_exchanged_round.Goals as goal

pub returns-clause-made : goal.returns-clause-made
returns-clause-made g c = λ deliveries limit begun new quiet whole apart proxies clients rounds count it enough.
    made_round g.A.Ciphers.is_sealing g.A.Ciphers.TAG c.one_peer.ensures.itself c.an_exchange_is_made.ensures deliveries count limit begun new it quiet
    whole apart clients enough rounds
    c.an_exchange_goes_through_a_proxy.ensures c.what_an_exchange_notes.ensures.notes c.an_exchange_keeps_the_premise.ensures proxies

pub returns-clause-straight : goal.returns-clause-straight
returns-clause-straight g c = λ deliveries limit begun new quiet it after whole apart clients enough rounds stands.
    unheard_round g.A.Ciphers.is_sealing g.A.Ciphers.TAG c.one_peer.ensures.itself c.an_exchange_is_made.ensures deliveries 2 limit begun new it quiet
    whole apart clients enough rounds c.what_an_exchange_notes.ensures.heard refl after stands
