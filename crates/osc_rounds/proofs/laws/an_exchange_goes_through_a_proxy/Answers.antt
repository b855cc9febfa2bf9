use Rattle.osc_rounds.proofs.ExchangeRoundThrough.{exchange, goes_through, may_go_through}
use Rattle.osc_rounds.proofs.laws.an_exchange_goes_through_a_proxy.Goals as goal

pub returns : goal.returns
returns g c = λ client begun proxy server begun_at draw hops claims entries posts lawful_proxy lawful size way may fits is.
    let sealing = g.A.Ciphers.is_sealing in
    let ready = may_go_through sealing client begun proxy server draw hops claims entries posts way begun_at lawful may fits is in
    let ends = c.an_exchange_is_made_through_a_proxy.ensures client begun begun_at (exchange sealing client begun proxy server draw hops claims entries posts way may.token_key) posts ready fits is in (
      ends.message,
      goes_through sealing client begun proxy server draw hops claims entries posts way
          c.a_request_goes_there_and_back.ensures lawful_proxy size may.token_key ends,
    )
