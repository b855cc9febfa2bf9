-- A request that goes through a forward proxy, and its answer, delivery by delivery.
use Rattle.std.proofs.Common.{◌≡◌, sym, subst, ℕ, ◌<◌, ◌^◌, List, [], length, None, arith}
use Rattle.osc_model.specs.{read_as, sends}
use Rattle.osc_model.specs.Arrival.{Arrival}
use Rattle.osc_model.specs.declared.node.Draw.{Draw}
use Rattle.osc_model.specs.declared.node.Moment.{Moment}
use Rattle.osc_model.specs.declared.node.Peer.{Peer}
use Rattle.osc_model.specs.declared.request.Request.{Request}
use Rattle.osc_model.specs.declared.step.Step.{Step}
use Rattle.osc_coap.specs.{spelling}
use Rattle.osc_coap.specs.Message.{Message}
use Rattle.osc_dedup.specs.{Entry, looked}
use Rattle.osc_message.specs.{EndpointState, empty_acknowledgement}
use Rattle.osc_ccm.specs.{Sealings}
use Rattle.osc_authz.specs.SecurityContext.{SecurityContext}
use Rattle.osc_server.specs.{Hears as ServerHears}
use Rattle.osc_server.specs.State.{State as Server}
use Rattle.osc_client.specs.{Hears as ClientHears, Asked}
use Rattle.osc_client.specs.State.{State as Client}
use Rattle.osc_proxy.specs.{forwarded_token, Hears as ProxyHears, forwarded_by, next_own, GoesBack, GoesThereAndBack, IsLawfulProxy, answer_by, answer_id, datagram_of}
use Rattle.osc_proxy.specs.Passage.{Passage}
use Rattle.osc_proxy.specs.State.{State as Proxy}
use Rattle.osc_rounds.specs.{asked_text, IsAskedAndServedThrough, IsBroughtBackAndAnswered, IsPassedOnAndServed, IsServedAndBroughtBack, OnItsWay, coming, Hops, IsThrough}
use Rattle.osc_rounds.proofs.AskedThrough.{IsAskedAndAnsweredThrough, IsServedAndAnsweredThrough, RequestFromProxy}
use Rattle.osc_rounds.proofs.PassedOn.{PassesLaw, can_send, passage_on, takes_up, token_size}
use Rattle.osc_rounds.specs.Asked.{with_acknowledgement}

module _ (is_sealing : Sealings) where
  abbrev pub AcknowledgedLaw : Type 0
  AcknowledgedLaw = (old new : Client) (came : Arrival ℕ) (step : Step) → came.what < 2 ^ 16
      → ClientHears is_sealing old (read_as came (spelling (empty_acknowledgement came.what))) step new
      → (step ≡ sends []) × (new ≡ record old { endpoint = with_acknowledgement came.from came.what old.endpoint })

  module _ (passes : PassesLaw) (settles : AcknowledgedLaw)
      (client asked : Client) (proxy : Proxy) (server : Server) (asks_for : Asked) (hops : Hops) (held : SecurityContext) (number : ℕ) (asks : Step)
      (lawful : IsLawfulProxy proxy) (size : length hops.proxy_draw.0 ≡ 32) (may : IsThrough client proxy server asks_for.draw hops)
      (is : IsAskedAndAnsweredThrough is_sealing client
      (record { origin = may.origin; proxy_at = hops.proxy_at; asks = asks_for; held = held; number = number; server = server; now = hops.now }) asks asked) where
    abbrev draw : Draw
    draw = asks_for.draw

    abbrev request : Request
    request = asks_for.request

    abbrev now : Moment
    now = hops.now

    abbrev proxy_at : Peer
    proxy_at = hops.proxy_at

    abbrev proxy_draw : Draw
    proxy_draw = hops.proxy_draw

    abbrev key : ℕ
    key = may.key

    abbrev pub way : OnItsWay
    way = record {
      asked = asked;
      proxy = proxy;
      server = server;
      at = hops.at;
      proxy_at = proxy_at;
      server_at = hops.server_at;
      now = now;
      proxy_draw = proxy_draw;
      held = held;
      number = number;
      text = asked_text client draw request;
      message = is.message;
      key = key;
    }

    abbrev passage : Passage
    passage = passage_on hops is.message key

    abbrev forwarded_on : Message
    forwarded_on = forwarded_by proxy passage

    abbrev from_proxy : RequestFromProxy
    from_proxy = record { asked = asked; message = is.message; server = server; request = record { held = held; number = number; text = asked_text client draw request } }

    abbrev meanwhile : EndpointState
    meanwhile = with_acknowledgement proxy_at is.message.id asked.endpoint

    new_at_client : looked now proxy_at (answer_id proxy proxy_draw) asked.endpoint.seen ≡ None
    new_at_client = subst (λ (seen : List Entry). looked now proxy_at (answer_id proxy proxy_draw) seen ≡ None) (sym is.heard) may.new_at_client

    answer_few : answer_id proxy proxy_draw < 2 ^ 16
    answer_few = omega arith

    -- the last two
    answered : (server_draw : Draw) (third : Step) (served : Server) (brought : Proxy) (fourth : Step) (settled : Client)
        → settled ≡ record asked { endpoint = meanwhile }
        → (it : IsServedAndAnsweredThrough is_sealing from_proxy (record { at = now; from = proxy_at; draw = server_draw; what = forwarded_on }) third served)
        → GoesBack proxy passage it.response fourth brought
        → IsBroughtBackAndAnswered is_sealing way settled it.reply fourth brought
    answered server_draw third served brought fourth settled settled_is it back = record {
      back = answer_by proxy passage it.response;
      out = back.back.told;
      answered = λ its_draw fifth after hears. record {
        is_answered =
            it.answered meanwhile (answer_id proxy proxy_draw) its_draw fifth after answer_few new_at_client
            (subst (λ (c : Client). ClientHears is_sealing c (coming now proxy_at its_draw (answer_by proxy passage it.response)) fifth after) settled_is hears);
        ends = λ draw sixth rested last. back.ends now draw sixth rested last;
      };
    }

    -- the three from the server on
    served : (first : Step) (passed : Proxy) (settled : Client) → GoesThereAndBack proxy passage first passed
        → settled ≡ record asked { endpoint = meanwhile }
        → (server_draw : Draw) (third : Step) (after : Server) → ServerHears is_sealing server (coming now proxy_at server_draw forwarded_on) third after
        → IsServedAndBroughtBack is_sealing way settled passed third after
    served first passed settled goes settled_is server_draw third after hears =
        let it : IsServedAndAnsweredThrough is_sealing from_proxy (record { at = now; from = proxy_at; draw = server_draw; what = forwarded_on }) third after =
        is.served (next_own proxy proxy_draw) (forwarded_token key proxy_draw) server_draw third after goes.there.forwarded.lawful.id (token_size key proxy_draw size) may.new_at_server hears in
        record {
          reply = it.reply;
          applied = it.applied;
          entry = it.entry;
          kept = it.kept;
          response = it.response;
          out = it.out;
          brought = λ later fourth brought comes.
              answered server_draw third after brought fourth settled settled_is it
              (goes.back now later it.response fourth brought it.forwardable comes);
        }

    passed_on : (first : Step) (passed : Proxy) → ProxyHears proxy (datagram_of passage) first passed → IsPassedOnAndServed is_sealing way first passed
    passed_on first passed hears =
        let goes : GoesThereAndBack proxy passage first passed =
        passes proxy passed passage first lawful
        (takes_up client proxy server draw hops is.message may is.id is.for_proxy) (can_send proxy hops.at may.none_to_client may.few) hears in
        record {
          out = goes.there.told;
          settled = λ its_draw second settled comes.
              let came : Arrival ℕ = record { at = now; from = proxy_at; draw = its_draw; what = is.message.id } in
              let stays = settles asked settled came second is.for_proxy.carried.lawful.id comes in
              record {
                told = stays.0;
                served = λ server_draw third after heard. served first passed settled goes stays.1 server_draw third after heard;
              };
        }

    pub goes_through : IsAskedAndServedThrough is_sealing way client draw request asks
    goes_through = record {
      out = is.out;
      sealed = is.sealed;
      unserved = is.unserved;
      context = is.context;
      passed = passed_on;
    }
