use Rattle.osc_rounds.proofs.Agreement.{ExchangeLaws}
use Rattle.osc_rounds.proofs.ProxiedExchange.{confirmable_makes}
use Rattle.osc_rounds.proofs.laws.an_answer_sent_back_makes_a_context.Goals as goal

pub returns : goal.returns
returns g c =
    let laws : ExchangeLaws g.A.Ciphers.is_sealing = record {
      itself = c.one_peer.ensures.itself;
      one_reception = c.one_reception.ensures;
      spelled_length = c.length_of_spelling.ensures.exact;
      written = c.what_is_written.ensures.post;
      one_post = c.one_payload.ensures.post;
      answer_length = c.lengths_of_answers.ensures;
      welcome = c.welcome_posts.ensures;
      one_name = c.one_name.ensures;
    } in
    confirmable_makes g.A.Ciphers.is_sealing laws
