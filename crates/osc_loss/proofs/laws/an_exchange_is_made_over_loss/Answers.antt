use Rattle.osc_loss.proofs.ExchangeRound.{begun_once}
use Rattle.osc_loss.proofs.Going.{RoundLaws}
use Rattle.osc_rounds.proofs.Agreement.{ExchangeLaws}
use Rattle.osc_loss.proofs.laws.an_exchange_is_made_over_loss.Goals as goal

pub returns : goal.returns
returns g c =
    let laws : ExchangeLaws g.A.Ciphers.is_sealing = record {
      itself = c.one_peer.ensures.itself;
      one_reception = c.one_reception.ensures;
      spelled_length = c.length_of_spelling.ensures.exact;
      written = c.what_is_written.ensures.post;
      one_post = c.one_payload.ensures.post;
      answer_length = c.lengths_of_answers.ensures;
      welcome = c.welcome_posts.ensures;
      one_name = c.one_name.ensures;
    } in
    let below : RoundLaws = record {
      peers = record { same = c.one_peer.ensures.same; itself = c.one_peer.ensures.itself };
      one_reception = c.one_reception.ensures;
    } in
    λ client begun server asked_at now draw at server_at claims entries first lawful size way idle fits is.
    begun_once g.A.Ciphers.is_sealing laws below client begun server asked_at now draw at server_at claims entries first lawful size way idle fits is
    c.retransmissions.ensures.schedule
