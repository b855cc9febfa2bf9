use Rattle.osc_loss.proofs.Going.{RoundLaws}
use Rattle.osc_loss.proofs.SessionRound.{asked_in_a_session}
use Rattle.osc_rounds.proofs.AskRound.{RoundLaws as AskLaws}
use Rattle.osc_rounds.proofs.Sent.{goes_out}
use Rattle.osc_loss.proofs.laws.a_request_is_served_in_a_session.Goals as goal

pub returns : goal.returns
returns g c =
    let laws : AskLaws g.A.Ciphers.is_sealing g.A.Ciphers.TAG = record {
      itself = c.one_peer.ensures.itself;
      meant_is = c.held_contexts_are_meant.ensures;
      request = record {
        one_reception = c.one_reception.ensures;
        one_value = c.one_value.ensures;
        option_nine = c.option_of_a_protected_message.ensures;
        value_short = c.lengths_of_values.ensures.request;
        says = c.unprotecting_a_protected_request.ensures.request;
      };
      reply = record {
        one_reception = c.one_reception.ensures;
        one_value = c.one_value.ensures;
        option_nine = c.option_of_a_protected_message.ensures;
        value_short = c.lengths_of_values.ensures.response;
        says = c.unprotecting_a_protected_response.ensures.response;
        one_plaintext = c.one_plaintext.ensures.one;
        spelled = c.a_written_reply.ensures.spelled;
        again = c.a_reply_is_read_again.ensures;
      };
      spelled_length = c.length_of_spelling.ensures.exact;
      text_length = c.lengths_of_replies.ensures.text;
      sealed_length = g.met.A.Ciphers.sealed_length;
      short_tag = g.met.A.Ciphers.short_tag;
      encrypted = c.requests_are_encrypted.ensures;
      written = c.a_written_reply.ensures.plaintext;
      least = c.codes_of_replies.ensures.least;
      most = c.codes_of_replies.ensures.most;
      short = c.lengths_of_replies.ensures.payload;
    } in
    let below : RoundLaws = record {
      peers = record { same = c.one_peer.ensures.same; itself = c.one_peer.ensures.itself };
      one_reception = c.one_reception.ensures;
    } in
    λ client asked server asks now at server_at context first lawful way idle has number fits is.
    asked_in_a_session g.A.Ciphers.is_sealing g.A.Ciphers.TAG laws below client asked server asks now at server_at context first lawful way idle has number
    (goes_out g.A.Ciphers.is_sealing g.A.Ciphers.TAG client asked asks first context idle has number fits is)
    c.retransmissions.ensures.schedule
