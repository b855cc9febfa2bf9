-- A request of the device's own is answered, and its post makes a context, by the results of those of any client that go straight to
-- their server.
use Rattle.std.proofs.Common.{◌≡◌, ◌≢◌, ◌∙◌, ap, sym, subst, ℕ, List, [], ◌∷◌, length, Option, Some, None}
use Rattle.std.specs.Option.{IsSome}
use Rattle.osc_model.specs.{read_as}
use Rattle.osc_model.specs.declared.node.Draw.{Draw}
use Rattle.osc_model.specs.declared.node.Moment.{Moment}
use Rattle.osc_model.specs.declared.node.Peer.{Peer}
use Rattle.osc_model.specs.declared.step.ClientResult.TheVariants as result
use Rattle.osc_model.specs.declared.step.Datagram.{Datagram}
use Rattle.osc_model.specs.declared.step.Step.{Step}
use Rattle.osc_coap.specs.{spelling}
use Rattle.osc_message.specs.{datagram}
use Rattle.osc_ccm.specs.{Sealings, Tags}
use Rattle.osc_scope.specs.{Entry}
use Rattle.osc_token.specs.declared.claims.Claims.{Claims}
use Rattle.osc_authz.specs.{ClientContextState}
use Rattle.osc_authz.specs.SecurityContext.{SecurityContext}
use Rattle.osc_client.specs.{Begins, Hears as ClientHears, Requests, IsLawfulClient, Asked, Asks, Exchanges}
use Rattle.osc_client.specs.State.{State as Client}
use Rattle.osc_server.specs.{Hears as ServerHears}
use Rattle.osc_server.specs.State.{State as Server}
use Rattle.osc_rounds.specs.{IsAskedAndAnswered, IsLawfulServer, IsServedAndAnswered, StraightRequest, asked_text, IsAgreedAndMade, IsBegunAndMade, StraightPost, IsStraight, MayAsk, MayExchange}
use Rattle.osc_device.specs.{IsAnswered, IsOpen, IsReady, IsWhole, MayOpen, Carries, ComesBack, Reaches, at_device, at_server, own_address, server_address}
use Rattle.osc_device.specs.State.{State}
use Rattle.osc_device.specs.declared.round.Round.{Round}

one_bytes : (out : List Datagram) (one other : Datagram) → out ≡ one ∷ [] → out ≡ other ∷ [] → one.bytes ≡ other.bytes
one_bytes out one other a b = let same : one ≡ other = cc in ap (λ (d : Datagram). d.bytes) same

nothing_there : (o : Option Step) → IsSome o → o ≡ None → ⊥
nothing_there None some none = absurd cc
nothing_there (Some step) some none = cc

one_step : (o : Option Step) (a b : Step) → o ≡ Some a → o ≡ Some b → a ≡ b
one_step o a b e f = cc

module _ (is_sealing : Sealings) (tag : Tags)
    (law : (client asked : Client) (server : Server) (asks : Asked) (now : Moment) (at server_at : Peer)
    (context : ClientContextState) (held : SecurityContext) (first : Step)
    → IsLawfulServer server → IsLawfulClient asked
    → IsStraight client server now asks.draw at server_at → MayAsk client server now context held
    → first.notes.result ≢ Some (result.Refused 14)
    → Asks is_sealing tag client asks first asked
    → IsAskedAndAnswered is_sealing
    (record { asked = asked; server = server; at = at; server_at = server_at; now = now; held = held; number = context.next; text = asked_text client asks.draw asks.request })
    client asks.draw first)
    (old new : State) (asks : Asked) (server_draw : Draw) (context : ClientContextState) (held : SecurityContext) (asked : Client) (round : Round)
    (straight : (old.own.origin ≡ None) × (old.own.next_hop ≡ server_address)) (lawful : IsLawfulServer old.server) (lawful_own : IsLawfulClient asked)
    (ready : IsReady old asks.at asks.draw context held) (whole : IsWhole round)
    (requests : Requests is_sealing tag old.own asks round.begun asked) where
  abbrev now : Moment
  now = asks.at

  abbrev way : StraightRequest
  way = record {
    asked = asked;
    server = old.server;
    at = own_address;
    server_at = server_address;
    now = now;
    held = held;
    number = context.next;
    text = asked_text old.own asks.draw asks.request;
  }

  is : IsAskedAndAnswered is_sealing way old.own asks.draw round.begun
  is =
      law old.own asked old.server asks now own_address server_address context held round.begun lawful lawful_own
      (record { direct = straight.0; next_hop = straight.1; unheard = ready.unheard }) ready.may_ask whole.fits requests.asks

  -- the answer comes back
  back : (second : Step) → round.served ≡ Some second → IsServedAndAnswered is_sealing way second new.server
      → ComesBack is_sealing asked now round.served round.learnt new.own → IsAnswered old asks held context.next round new
  back second served it (ComesBack.lost nothing lost) = absurd (nothing_there round.learnt whole.learnt lost.0)
  back second served it (ComesBack.heard answer one third some only learnt steps) =
      let same : answer ≡ second = one_step round.served answer second some served in
      let bytes : one.bytes ≡ spelling it.answer = one_bytes second.out one (datagram own_address it.answer) (sym (ap (λ (s : Step). s.out) same) ∙ only) it.out in
      let answered =
      it.answered server_draw third new.own
      (subst (λ (bs : List ℕ). ClientHears is_sealing asked (at_device now server_draw bs) third new.own) bytes (steps server_draw).makes) in
      record {
        reply = it.reply;
        applied = it.applied;
        second = second;
        served = served;
        entry = it.entry;
        third = third;
        learnt = learnt;
        told = ap (λ (s : Step). s.notes.result) answered.told;
        idle = answered.waiting;
      }

  there : Reaches is_sealing old.server (at_server now server_draw round.begun.out) round.served new.server
      → ComesBack is_sealing asked now round.served round.learnt new.own → IsAnswered old asks held context.next round new
  there (Reaches.lost nothing lost) comes = absurd (nothing_there round.served whole.served lost.0)
  there (Reaches.heard one second only served step) comes =
      let bytes : one.bytes ≡ spelling is.message = one_bytes round.begun.out one (datagram old.own.next_hop is.message) only is.out in
      back second served
      (is.served server_draw second new.server
      (subst (λ (bs : List ℕ). ServerHears is_sealing old.server (read_as (at_server now server_draw round.begun.out) bs) second new.server) bytes step.makes))
      comes

  pub is_answered : Carries is_sealing (record old { own = asked }) now server_draw round new → IsAnswered old asks held context.next round new
  is_answered carries = there carries.reaches carries.comes_back

module _ (is_sealing : Sealings)
    (law : (client begun : Client) (server : Server) (asked_at now : Moment) (draw : Draw) (at server_at : Peer) (claims : Claims) (entries : List Entry) (first : Step)
    → IsLawfulClient begun → IsStraight client server now draw at server_at → MayExchange is_sealing client server now draw claims entries
    → first.notes.result ≢ Some (result.Refused 14)
    → Exchanges client asked_at draw first begun
    → IsBegunAndMade is_sealing (record { begun = begun; server = server; at = at; server_at = server_at; now = now; entries = entries }) client draw first)
    (old new : State) (now : Moment) (draw server_draw : Draw) (claims : Claims) (entries : List Entry) (begun : Client) (round : Round)
    (straight : (old.own.origin ≡ None) × (old.own.next_hop ≡ server_address)) (lawful_own : IsLawfulClient begun)
    (may : MayOpen is_sealing old now draw claims entries) (whole : IsWhole round) (size : length server_draw.0 ≡ 32)
    (begins : Begins old.own now draw round.begun begun) where
  abbrev post : StraightPost
  post = record { begun = begun; server = old.server; at = own_address; server_at = server_address; now = now; entries = entries }

  is_begun : IsBegunAndMade is_sealing post old.own draw round.begun
  is_begun =
      law old.own begun old.server now now draw own_address server_address claims entries round.begun lawful_own
      (record { direct = straight.0; next_hop = straight.1; unheard = may.unheard }) may.may_exchange whole.fits begins.exchanges

  made_back : (second : Step) → round.served ≡ Some second → IsAgreedAndMade is_sealing post second new.server
      → ComesBack is_sealing begun now round.served round.learnt new.own → IsOpen now entries new
  made_back second served it (ComesBack.lost nothing lost) = absurd (nothing_there round.learnt whole.learnt lost.0)
  made_back second served it (ComesBack.heard answer one third some only learnt steps) =
      let same : answer ≡ second = one_step round.served answer second some served in
      let bytes : one.bytes ≡ spelling it.answer = one_bytes second.out one (datagram own_address it.answer) (sym (ap (λ (s : Step). s.out) same) ∙ only) it.out in
      let made =
      it.made server_draw third new.own
      (subst (λ (bs : List ℕ). ClientHears is_sealing begun (at_device now server_draw bs) third new.own) bytes (steps server_draw).makes) in
      record { held = made.0; is_held = made.1; context = made.2.context; idle = made.2.waiting }

  posted : Reaches is_sealing old.server (at_server now server_draw round.begun.out) round.served new.server
      → ComesBack is_sealing begun now round.served round.learnt new.own → IsOpen now entries new
  posted (Reaches.lost nothing lost) comes = absurd (nothing_there round.served whole.served lost.0)
  posted (Reaches.heard one second only served step) comes =
      let bytes : one.bytes ≡ spelling is_begun.message = one_bytes round.begun.out one (datagram old.own.next_hop is_begun.message) only is_begun.out in
      made_back second served
      (is_begun.agreed server_draw second new.server size
      (subst (λ (bs : List ℕ). ServerHears is_sealing old.server (read_as (at_server now server_draw round.begun.out) bs) second new.server) bytes step.makes))
      comes

  pub is_open : Carries is_sealing (record old { own = begun }) now server_draw round new → IsOpen now entries new
  is_open carries = posted carries.reaches carries.comes_back
