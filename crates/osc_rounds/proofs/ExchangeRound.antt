-- An exchange that goes straight to the server is agreed, and makes one context at both ends.
use Rattle.std.proofs.Common.{◌≡◌, ◌∙◌, ap, subst, refl, ℕ, ◌^◌, ◌<◌, ◌≤◌, true, List, [], ◌∷◌, length, Option, Some, None, arith}
use Rattle.std.specs.Prelude.{◌≢◌, IfSome, drop}
use Rattle.std.proofs.lemmas.List.{length-drop, length-take}
use Rattle.osc_model.specs.Arrival.{Arrival}
use Rattle.osc_model.specs.{nonce_drawn, token_drawn, quiet, same_peer}
use Rattle.osc_model.specs.declared.node.Draw.{Draw}
use Rattle.osc_model.specs.declared.node.Moment.{Moment}
use Rattle.osc_model.specs.declared.node.Peer.{Peer}
use Rattle.osc_model.specs.declared.step.ClientResult.TheVariants as result
use Rattle.osc_model.specs.declared.step.Step.{Step}
use Rattle.osc_coap.specs.{Spells, spelling}
use Rattle.osc_coap.specs.Message.{Message}
use Rattle.osc_coap.specs.declared.kind.Kind.TheVariants.{Acknowledgement}
use Rattle.osc_message.specs.{own_id, datagram}
use Rattle.osc_ccm.specs.{Sealings}
use Rattle.osc_protect.specs.{longest_message}
use Rattle.osc_scope.specs.{Entry}
use Rattle.osc_token.specs.declared.claims.Claims.{Claims}
use Rattle.osc_authz.specs.Begun.{Begun}
use Rattle.osc_authz.specs.SecurityContext.{SecurityContext}
use Rattle.osc_client.specs.{Hears as ClientHears, IsLawfulClient, Exchanges, begun_by, busy, begins, opened, post_by, post_with, waits, HostAndPort, through}
use Rattle.osc_client.specs.Sending as sending
use Rattle.osc_client.specs.State.{State as Client}
use Rattle.osc_client.specs.declared.waiting.Awaited.{Awaited}
use Rattle.osc_client.specs.declared.waiting.Awaited.TheVariants.{Exchange}
use Rattle.osc_client.specs.declared.waiting.Waiting.{Waiting}
use Rattle.osc_server.specs.{Hears as ServerHears}
use Rattle.osc_server.specs.State.{State as Server}
use Rattle.osc_rounds.specs.{AwaitsAgreement, AwaitsPost, BegunExchange, IsAgreedTo, agreement, body_of, coming, in_bytes, IsAgreedAndMade, IsBegunAndMade, IsHeld, IsMade, StraightPost, IsStraight, MayExchange}
use Rattle.osc_proxy.specs.{IsCarried}
use Rattle.osc_rounds.proofs.Agreement.{ExchangeLaws, agreement_sendable, counts_acknowledged, hears_agreement, hears_post, post_lawful}

-- what waits does so under a token of 8 bytes, which was drawn after the nonce
pub drawn_size : (client begun : Client) (at : Moment) (draw : Draw) (message : Message) (what : Awaited) → IsLawfulClient begun
    → begun ≡ opened client at draw message what → 16 ≤ length draw.0
drawn_size client begun at draw message what lawful kept =
    let token : length (token_drawn draw) ≡ 8 =
    subst (λ (w : Option Waiting). IfSome w (λ waiting. length waiting.token ≡ 8)) (ap (λ (c : Client). c.waiting) kept) lawful.token in
    omega (arith, length-take 8 (drop 8 draw.0), length-drop 8 draw.0, token)

-- what the client draws for an exchange that goes straight to the server
pub record AreDrawn (client : Client) (draw : Draw) : Type 0 where
  pub id : own_id draw client.endpoint.next_id < 2 ^ 16
  pub draw_size : 16 ≤ length draw.0

pub are_drawn : (client begun : Client) (asked_at : Moment) (draw : Draw) → IsLawfulClient begun → client.origin ≡ None
    → Spells (spelling (post_by client draw)) (post_by client draw) → begun ≡ opened client asked_at draw (post_by client draw) (Exchange (begun_by client draw))
    → AreDrawn client draw
are_drawn client begun asked_at draw lawful direct spelled kept =
    let id = own_id draw client.endpoint.next_id in
    let message_is : post_by client draw ≡ post_with id (token_drawn draw) (body_of client.desk (begun_by client draw)) =
    ap (λ (origin : Option HostAndPort). through origin (post_with id (token_drawn draw) (body_of client.desk (begun_by client draw)))) direct in
    record {
      id = subst (λ (m : Message). m.id < 2 ^ 16) message_is spelled.lawful.id;
      draw_size = drawn_size client begun asked_at draw (post_by client draw) (Exchange (begun_by client draw)) lawful kept;
    }

module _ (is_sealing : Sealings) (laws : ExchangeLaws is_sealing)
    (client : Client) (server : Server) (asked_at now : Moment) (draw : Draw) (at server_at : Peer) (claims : Claims) (entries : List Entry) (first : Step) (begun : Client)
    (straight : IsStraight client server now draw at server_at) (may : MayExchange is_sealing client server now draw claims entries) (drawn : AreDrawn client draw) where
  abbrev its : Begun
  its = begun_by client draw

  abbrev exchange : BegunExchange
  exchange = record { claims = claims; entries = entries; holder = client.desk; begun = its }

  abbrev post : StraightPost
  post = record { begun = begun; server = server; at = at; server_at = server_at; now = now; entries = entries }

  abbrev id : ℕ
  id = own_id draw client.endpoint.next_id

  abbrev token : List ℕ
  token = token_drawn draw

  abbrev message : Message
  message = post_with id token (body_of client.desk its)

  message_is : post_by client draw ≡ message
  message_is = ap (λ (origin : Option HostAndPort). through origin message) straight.direct

  token_short : length token ≤ 8
  token_short = omega (arith, length-take 8 (drop 8 draw.0))

  nonce_size : length its.nonce1 ≡ 8
  nonce_size = omega (arith, length-take 8 draw.0, drawn.draw_size)

  -- as it comes to the server
  abbrev heard_as : Draw → Arrival Message
  heard_as server_draw = record { at = now; from = at; draw = server_draw; what = message }

  awaits_post : (server_draw : Draw) → AwaitsPost is_sealing server (heard_as server_draw) exchange
  awaits_post server_draw = record { token_key = may.token_key; welcome = may.welcome; makes = may.makes; nonce = nonce_size; unheard = straight.unheard }

  abbrev waiting : Waiting
  waiting = waits client.endpoint asked_at draw (Exchange its)

  module _ (short : length (spelling (post_by client draw)) ≤ longest_message)
      (told : first ≡ record { out = datagram client.next_hop (post_by client draw) ∷ []; notes = record quiet { drawn = Some (nonce_drawn draw) } })
      (kept : begun ≡ opened client asked_at draw (post_by client draw) (Exchange its)) where
    sendable : IsCarried message
    sendable = record {
      lawful = post_lawful None id token (body_of client.desk its) tt drawn.id token_short;
      short = subst (λ (m : Message). length (spelling m) ≤ longest_message) message_is short;
    }

    peer : same_peer begun.next_hop server_at ≡ true
    peer = ap (λ (c : Client). same_peer c.next_hop server_at) kept ∙ ap (λ (p : Peer). same_peer p server_at) straight.next_hop ∙ laws.itself server_at

    awaits_agreement : AwaitsAgreement begun server_at client.desk its token
    awaits_agreement = record {
      desk = ap (λ (c : Client). c.desk) kept;
      waiting = waiting;
      waits = ap (λ (c : Client). c.waiting) kept;
      exchange = refl;
      token = refl;
      peer = peer;
    }

    made_so : (server_draw : Draw) (second : Step) (agreed : Server) (size : length server_draw.0 ≡ 32)
        (is : IsAgreedTo is_sealing server (heard_as server_draw) exchange second agreed) (its_draw : Draw) (third : Step) (after : Client)
        → ClientHears is_sealing begun (coming now server_at its_draw (agreement Acknowledgement id token is.answer)) third after
        → (held : SecurityContext) × IsHeld agreed now entries held × IsMade held third after
    unfolding awaits_agreement
    made_so server_draw second agreed size is its_draw third after hears =
        let it =
        hears_agreement is_sealing laws server (heard_as server_draw) exchange (awaits_post server_draw) second agreed size is
        Acknowledgement id token begun now server_at its_draw awaits_agreement third after
        (agreement_sendable is_sealing laws server (heard_as server_draw) exchange (awaits_post server_draw) second agreed size is Acknowledgement id token drawn.id token_short)
        (counts_acknowledged begun.next_hop server_at waiting begun.endpoint.seen now id token is.answer peer refl refl)
        hears in (
          it.0,
          it.1,
          record { told = it.2.told; context = ap (λ (c : Client). c.context) it.2.kept; waiting = ap (λ (c : Client). c.waiting) it.2.kept },
        )

    agreed_so : (server_draw : Draw) (second : Step) (agreed : Server) → length server_draw.0 ≡ 32
        → ServerHears is_sealing server (in_bytes (heard_as server_draw)) second agreed → IsAgreedAndMade is_sealing post second agreed
    agreed_so server_draw second agreed size hears =
        let is = hears_post is_sealing laws server (heard_as server_draw) exchange (awaits_post server_draw) None tt refl second agreed sendable hears in
        record {
          answer = agreement Acknowledgement id token is.answer;
          out = is.out;
          made = made_so server_draw second agreed size is;
        }

    pub begun_so : IsBegunAndMade is_sealing post client draw first
    begun_so = record {
      message = message;
      out = ap (λ (s : Step). s.out) told ∙ ap (λ (m : Message). datagram client.next_hop m ∷ []) message_is;
      drawn = ap (λ (s : Step). s.notes.drawn) told;
      agreed = agreed_so;
    }

module _ (is_sealing : Sealings) (laws : ExchangeLaws is_sealing)
    (client begun : Client) (server : Server) (asked_at now : Moment) (draw : Draw) (at server_at : Peer) (claims : Claims) (entries : List Entry) (first : Step)
    (lawful : IsLawfulClient begun) (straight : IsStraight client server now draw at server_at) (may : MayExchange is_sealing client server now draw claims entries) where
  pub is_begun : first.notes.result ≢ Some (result.Refused 14) → Exchanges client asked_at draw first begun
      → IsBegunAndMade is_sealing (record { begun = begun; server = server; at = at; server_at = server_at; now = now; entries = entries }) client draw first
  is_begun fits (busy waits refused) = absurd (waits may.idle)
  is_begun fits (sending.Exchanges.too_long idle long refused) = absurd (fits (ap (λ (s : Step). s.notes.result) refused.told))
  is_begun fits (begins idle short spelled told kept) =
      let drawn = are_drawn client begun asked_at draw lawful straight.direct spelled kept in
      begun_so is_sealing laws client server asked_at now draw at server_at claims entries first begun straight may drawn short told kept
