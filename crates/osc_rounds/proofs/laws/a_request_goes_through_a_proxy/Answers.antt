use Rattle.std.proofs.Common.{sym, subst}
use Rattle.osc_model.specs.declared.context.ContextName.{ContextName}
use Rattle.osc_protect.specs.{HasShortContext}
use Rattle.osc_rounds.proofs.AskRound.{RoundLaws}
use Rattle.osc_rounds.proofs.AskRoundThrough.{goes_through}
use Rattle.osc_rounds.proofs.AskThrough.{ThroughLaws, answered_through, asked_through}
use Rattle.osc_rounds.proofs.AskedThrough.{IsAskedAndAnsweredThrough, IsAskedThrough, RequestToProxy, SendsThrough}
use Rattle.osc_rounds.proofs.Sent.{goes_out, its_context, its_origin, its_token}
use Rattle.osc_rounds.proofs.laws.a_request_goes_through_a_proxy.Goals as goal

pub returns : goal.returns
returns g c =
    let laws : RoundLaws g.A.Ciphers.is_sealing g.A.Ciphers.TAG = record {
      itself = c.one_peer.ensures.itself;
      meant_is = c.held_contexts_are_meant.ensures;
      request = record {
        one_reception = c.one_reception.ensures;
        one_value = c.one_value.ensures;
        option_nine = c.option_of_a_protected_message.ensures;
        value_short = c.lengths_of_values.ensures.request;
        says = c.unprotecting_a_protected_request.ensures.request;
      };
      reply = record {
        one_reception = c.one_reception.ensures;
        one_value = c.one_value.ensures;
        option_nine = c.option_of_a_protected_message.ensures;
        value_short = c.lengths_of_values.ensures.response;
        says = c.unprotecting_a_protected_response.ensures.response;
        one_plaintext = c.one_plaintext.ensures.one;
        spelled = c.a_written_reply.ensures.spelled;
        again = c.a_reply_is_read_again.ensures;
      };
      spelled_length = c.length_of_spelling.ensures.exact;
      text_length = c.lengths_of_replies.ensures.text;
      sealed_length = g.met.A.Ciphers.sealed_length;
      short_tag = g.met.A.Ciphers.short_tag;
      encrypted = c.requests_are_encrypted.ensures;
      written = c.a_written_reply.ensures.plaintext;
      least = c.codes_of_replies.ensures.least;
      most = c.codes_of_replies.ensures.most;
      short = c.lengths_of_replies.ensures.payload;
    } in
    let through : ThroughLaws g.A.Ciphers.is_sealing g.A.Ciphers.TAG = record {
      round = laws;
      fewer = c.fewer_options.ensures.options;
      shorter = c.forwarding_adds_nothing.ensures;
    } in
    λ client asked proxy server asks hops context held first lawful lawful_proxy lawful_client size way ends fits is.
    let sent = goes_out g.A.Ciphers.is_sealing g.A.Ciphers.TAG client asked asks first context ends.idle ends.has ends.number fits is in
    let sends : SendsThrough client asks.draw way.origin hops.proxy_at context = record {
      through = way.named;
      next_hop = way.next_hop;
      number = ends.number;
      origin_lawful = its_origin g.A.Ciphers.is_sealing g.A.Ciphers.TAG client asked asks first context sent lawful_client way.origin way.named;
      token_size = its_token g.A.Ciphers.is_sealing g.A.Ciphers.TAG client asked asks first context sent lawful_client;
    } in
    let short : HasShortContext held.name =
    subst HasShortContext (sym ends.one_name) (its_context g.A.Ciphers.is_sealing g.A.Ciphers.TAG client asked asks first context sent lawful_client) in
    let to_proxy : ContextName → RequestToProxy =
    λ name. record { origin = way.origin; proxy_at = hops.proxy_at; asks = asks; name = name; number = context.next } in
    let answered : IsAskedAndAnsweredThrough g.A.Ciphers.is_sealing client
    (record { origin = way.origin; proxy_at = hops.proxy_at; asks = asks; held = held; number = context.next; server = server; now = hops.now }) first asked =
    answered_through g.A.Ciphers.is_sealing g.A.Ciphers.TAG through client asked server hops.now asks way.origin hops.proxy_at context held first lawful ends short
    (subst (λ (n : ContextName). IsAskedThrough g.A.Ciphers.is_sealing client (to_proxy n) first asked) (sym ends.one_name)
    (asked_through g.A.Ciphers.is_sealing g.A.Ciphers.TAG laws client asked asks way.origin hops.proxy_at context first sends sent)) in (
      answered.message,
      goes_through g.A.Ciphers.is_sealing c.a_request_goes_there_and_back.ensures c.an_acknowledgement_is_heard.ensures
          client asked proxy server asks hops held context.next first lawful_proxy size way answered,
    )
