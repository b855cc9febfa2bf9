use Rattle.osc_rounds.proofs.AskRound.{RoundLaws, is_asked}
use Rattle.osc_rounds.proofs.Sent.{goes_out, its_context}
use Rattle.osc_rounds.proofs.laws.a_request_is_answered.Goals as goal

pub returns : goal.returns
returns g c =
    let laws : RoundLaws g.A.Ciphers.is_sealing g.A.Ciphers.TAG = record {
      itself = c.one_peer.ensures.itself;
      meant_is = c.held_contexts_are_meant.ensures;
      request = record {
        one_reception = c.one_reception.ensures;
        one_value = c.one_value.ensures;
        option_nine = c.option_of_a_protected_message.ensures;
        value_short = c.lengths_of_values.ensures.request;
        says = c.unprotecting_a_protected_request.ensures.request;
      };
      reply = record {
        one_reception = c.one_reception.ensures;
        one_value = c.one_value.ensures;
        option_nine = c.option_of_a_protected_message.ensures;
        value_short = c.lengths_of_values.ensures.response;
        says = c.unprotecting_a_protected_response.ensures.response;
        one_plaintext = c.one_plaintext.ensures.one;
        spelled = c.a_written_reply.ensures.spelled;
        again = c.a_reply_is_read_again.ensures;
      };
      spelled_length = c.length_of_spelling.ensures.exact;
      text_length = c.lengths_of_replies.ensures.text;
      sealed_length = g.met.A.Ciphers.sealed_length;
      short_tag = g.met.A.Ciphers.short_tag;
      encrypted = c.requests_are_encrypted.ensures;
      written = c.a_written_reply.ensures.plaintext;
      least = c.codes_of_replies.ensures.least;
      most = c.codes_of_replies.ensures.most;
      short = c.lengths_of_replies.ensures.payload;
    } in
    λ client asked server asks now at server_at context held first lawful lawful_client way ends fits is.
    is_asked g.A.Ciphers.is_sealing g.A.Ciphers.TAG laws client asked server asks now at server_at context held first lawful
    (its_context g.A.Ciphers.is_sealing g.A.Ciphers.TAG client asked asks first context
    (goes_out g.A.Ciphers.is_sealing g.A.Ciphers.TAG client asked asks first context ends.idle ends.has ends.number fits is) lawful_client)
    way ends
    (goes_out g.A.Ciphers.is_sealing g.A.Ciphers.TAG client asked asks first context ends.idle ends.has ends.number fits is)
