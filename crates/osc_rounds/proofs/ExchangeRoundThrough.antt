-- An exchange that goes through a forward proxy, delivery by delivery.
use Rattle.std.proofs.Common.{◌≡◌, ◌∙◌, sym, ap, subst, ℕ, ◌<◌, ◌^◌, List, length, Option, Some, None, arith}
use Rattle.std.specs.Prelude.{◌≢◌, IfSome}
use Rattle.osc_model.specs.declared.node.Draw.{Draw}
use Rattle.osc_model.specs.declared.node.Moment.{Moment}
use Rattle.osc_model.specs.declared.node.Peer.{Peer}
use Rattle.osc_model.specs.declared.step.ClientResult.TheVariants as result
use Rattle.osc_model.specs.declared.step.Step.{Step}
use Rattle.osc_coap.specs.Message.{Message}
use Rattle.osc_dedup.specs.{Entry as Noted, looked}
use Rattle.osc_message.specs.{EndpointState}
use Rattle.osc_scope.specs.{Entry}
use Rattle.osc_token.specs.declared.claims.Claims.{Claims}
use Rattle.osc_ccm.specs.{Sealings}
use Rattle.osc_server.specs.{Hears as ServerHears}
use Rattle.osc_server.specs.State.{State as Server}
use Rattle.osc_client.specs.{Hears as ClientHears, IsLawfulClient, Exchanges, begins, begun_by, busy, opened, post_by, HostAndPort, IsLawfulOrigin}
use Rattle.osc_client.specs.Sending as sending
use Rattle.osc_client.specs.State.{State as Client}
use Rattle.osc_client.specs.declared.waiting.Awaited.TheVariants.{Exchange}
use Rattle.osc_proxy.specs.{forwarded_token, Hears as ProxyHears, forwarded_by, next_own, GoesBack, GoesThereAndBack, IsLawfulProxy, answer_by, answer_id, datagram_of}
use Rattle.osc_proxy.specs.Passage.{Passage}
use Rattle.osc_proxy.specs.State.{State as Proxy}
use Rattle.osc_rounds.specs.{coming, IsAgreedAndBroughtBack, IsBroughtBackAndMade, IsPassedOnAndAgreed, IsPostedAndAgreedThrough, PostOnItsWay, IsAgreedAndMadeThrough, IsBegunAndMadeThrough, MayExchangeThrough, Posted, at_server, claims_text, Hops, IsThrough, MayExchange, AreNotesOfAgreement}
use Rattle.osc_rounds.specs.ProxiedExchange.{ProxiedExchange}
use Rattle.osc_rounds.proofs.ExchangeRound.{drawn_size}
use Rattle.osc_rounds.proofs.PassedOn.{PassesLaw, can_send, passage_on, takes_up, token_size}
use Rattle.osc_rounds.specs.Asked.{with_acknowledgement}

module _ (is_sealing : Sealings)
    (client begun : Client) (proxy : Proxy) (server : Server) (draw : Draw) (hops : Hops) (claims : Claims) (entries : List Entry) (posts : Step)
    (through : IsThrough client proxy server draw hops) where
  abbrev now : Moment
  now = hops.now

  abbrev proxy_at : Peer
  proxy_at = hops.proxy_at

  abbrev proxy_draw : Draw
  proxy_draw = hops.proxy_draw

  abbrev pub exchange : List ℕ → ProxiedExchange
  exchange token_key = record {
    server = server;
    now = now;
    draw = draw;
    origin = through.origin;
    proxy_at = proxy_at;
    claims = claims;
    entries = entries;
    token_key = token_key;
  }

  -- ---- before

  module _ (begun_at : Moment) (lawful : IsLawfulClient begun) (may : MayExchange is_sealing client server now draw claims entries) where
    begun_so : begun ≡ opened client begun_at draw (post_by client draw) (Exchange (begun_by client draw)) → MayExchangeThrough is_sealing client (exchange may.token_key)
    begun_so kept = record {
      through = through.named;
      next_hop = through.next_hop;
      idle = may.idle;
      welcome = may.welcome;
      makes = may.makes;
      origin_lawful = subst (λ (o : Option HostAndPort). IfSome o IsLawfulOrigin) (ap (λ (c : Client). c.origin) kept ∙ through.named) lawful.origin;
      draw_size = drawn_size client begun begun_at draw (post_by client draw) (Exchange (begun_by client draw)) lawful kept;
    }

    pub may_go_through : posts.notes.result ≢ Some (result.Refused 14) → Exchanges client begun_at draw posts begun → MayExchangeThrough is_sealing client (exchange may.token_key)
    may_go_through fits (busy waits refused) = absurd (waits may.idle)
    may_go_through fits (sending.Exchanges.too_long idle long refused) = absurd (fits (ap (λ (s : Step). s.notes.result) refused.told))
    may_go_through fits (begins idle short spelled told kept) = begun_so kept

  -- ---- from one delivery to the next

  module _ (passes : PassesLaw) (lawful : IsLawfulProxy proxy) (size : length proxy_draw.0 ≡ 32)
      (token_key : List ℕ) (is : IsBegunAndMadeThrough is_sealing client (exchange token_key) posts begun) where
    abbrev pub post : PostOnItsWay
    post = record {
      begun = begun;
      proxy = proxy;
      server = server;
      at = hops.at;
      proxy_at = proxy_at;
      server_at = hops.server_at;
      now = now;
      draw = draw;
      proxy_draw = proxy_draw;
      claims = claims;
      entries = entries;
      token_key = token_key;
      message = is.message;
      key = through.key;
    }

    abbrev passage : Passage
    passage = passage_on hops is.message through.key

    abbrev forwarded_on : Message
    forwarded_on = forwarded_by proxy passage

    abbrev sent : Posted
    sent = record { begun = begun; message = is.message }

    abbrev meanwhile : EndpointState
    meanwhile = with_acknowledgement proxy_at is.message.id begun.endpoint

    new_at_client : looked now proxy_at (answer_id proxy proxy_draw) begun.endpoint.seen ≡ None
    new_at_client = subst (λ (seen : List Noted). looked now proxy_at (answer_id proxy proxy_draw) seen ≡ None) (sym is.seen) through.new_at_client

    answer_few : answer_id proxy proxy_draw < 2 ^ 16
    answer_few = omega arith

    -- the last two
    made : (server_draw : Draw) (third : Step) (agreed : Server) (brought : Proxy) (fourth : Step) (settled : Client)
        → settled ≡ record begun { endpoint = meanwhile }
        → (it : IsAgreedAndMadeThrough is_sealing (exchange token_key) sent (at_server (exchange token_key) server_draw forwarded_on) third agreed)
        → GoesBack proxy passage it.response fourth brought
        → IsBroughtBackAndMade is_sealing post settled agreed fourth brought
    made server_draw third agreed brought fourth settled settled_is it back = record {
      back = answer_by proxy passage it.response;
      out = back.back.told;
      made = λ its_draw fifth after hears.
          let comes : ClientHears is_sealing (record begun { endpoint = meanwhile }) (coming now proxy_at its_draw (answer_by proxy passage it.response)) fifth after =
          subst (λ (c : Client). ClientHears is_sealing c (coming now proxy_at its_draw (answer_by proxy passage it.response)) fifth after) settled_is hears in
          let both = it.made meanwhile (answer_id proxy proxy_draw) its_draw fifth after answer_few new_at_client comes in
          record {
            held = both.0;
            is_held = both.1;
            is_made = both.2;
            ends = λ draw sixth rested last. back.ends now draw sixth rested last;
          };
    }

    -- the three from the server on
    agreed : (first : Step) (passed : Proxy) (settled : Client) → GoesThereAndBack proxy passage first passed
        → settled ≡ record begun { endpoint = meanwhile }
        → (server_draw : Draw) (third : Step) (after : Server) → length server_draw.0 ≡ 32
        → ServerHears is_sealing server (coming now proxy_at server_draw forwarded_on) third after
        → AreNotesOfAgreement token_key (claims_text claims) server_draw third.notes × IsAgreedAndBroughtBack is_sealing post settled passed third after
    agreed first passed settled goes settled_is server_draw third after drawn hears =
        let it : IsAgreedAndMadeThrough is_sealing (exchange token_key) sent (at_server (exchange token_key) server_draw forwarded_on) third after =
        is.agreed (next_own proxy proxy_draw) (forwarded_token through.key proxy_draw) server_draw third after goes.there.forwarded.lawful.id
        (token_size through.key proxy_draw size) through.new_at_server drawn hears in (
          it.notes,
          record {
            response = it.response;
            out = it.out;
            brought = λ later fourth brought comes.
                made server_draw third after brought fourth settled settled_is it
                (goes.back now later it.response fourth brought it.forwardable comes);
          },
        )

    passed_on : (first : Step) (passed : Proxy) → ProxyHears proxy (datagram_of passage) first passed → IsPassedOnAndAgreed is_sealing post first passed
    passed_on first passed hears =
        let goes : GoesThereAndBack proxy passage first passed =
        passes proxy passed passage first lawful
        (takes_up client proxy server draw hops is.message through is.id is.for_proxy) (can_send proxy hops.at through.none_to_client through.few) hears in
        record {
          out = goes.there.told;
          settled = λ its_draw second settled comes.
              let stays = is.settled now its_draw second settled comes in
              record {
                told = stays.0;
                agreed = λ server_draw third after drawn heard. agreed first passed settled goes stays.1 server_draw third after drawn heard;
              };
        }

    pub goes_through : IsPostedAndAgreedThrough is_sealing post posts
    goes_through = record {
      out = is.out;
      notes = is.notes;
      passed = passed_on;
    }
