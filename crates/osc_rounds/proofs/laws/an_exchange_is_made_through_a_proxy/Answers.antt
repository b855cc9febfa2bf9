use Rattle.osc_rounds.proofs.Agreement.{ExchangeLaws}
use Rattle.osc_rounds.proofs.ExchangeNotes.{TokenLaws}
use Rattle.osc_rounds.proofs.ProxiedExchange.{EmptyLaws, is_begun_through}
use Rattle.osc_rounds.proofs.laws.an_exchange_is_made_through_a_proxy.Goals as goal

pub returns : goal.returns
returns g c =
    let laws : ExchangeLaws g.A.Ciphers.is_sealing = record {
      itself = c.one_peer.ensures.itself;
      one_reception = c.one_reception.ensures;
      spelled_length = c.length_of_spelling.ensures.exact;
      written = c.what_is_written.ensures.post;
      one_post = c.one_payload.ensures.post;
      answer_length = c.lengths_of_answers.ensures;
      welcome = c.welcome_posts.ensures;
      one_name = c.one_name.ensures;
    } in
    let tokens : TokenLaws g.A.Ciphers.is_sealing = record {
      welcome = c.welcome_posts.ensures;
      agreed = c.posts_that_agree.ensures;
      written = c.what_is_written.ensures.post;
      one_post = c.one_payload.ensures.post;
      minted = c.minted_tokens.ensures;
      one_token = c.one_token.ensures;
    } in
    let empty : EmptyLaws = record {
      spelled = c.what_nodes_send.ensures.acknowledgement;
      short = λ id. (c.what_nodes_send.ensures.short id).1;
    } in
    λ client begun asked_at exchange first may fits is.
    is_begun_through g.A.Ciphers.is_sealing laws tokens c.forwarding_adds_nothing.ensures empty client asked_at exchange first begun may fits is
