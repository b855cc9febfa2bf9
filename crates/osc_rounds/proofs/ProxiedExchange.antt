-- An exchange through a forward proxy is agreed, and makes one context at both ends.
use Rattle.std.proofs.Common.{◌≡◌, ◌∙◌, sym, ap, subst, refl, ℕ, ◌^◌, ◌<◌, ◌≤◌, true, List, [], ◌∷◌, length, Option, Some, None, arith}
use Rattle.std.specs.Prelude.{◌≢◌, drop}
use Rattle.std.proofs.lemmas.List.{length-drop, length-take}
use Rattle.osc_model.specs.{read_as, nonce_drawn, token_drawn, quiet, same_peer}
use Rattle.osc_model.specs.Arrival.{Arrival}
use Rattle.osc_model.specs.declared.node.Draw.{Draw}
use Rattle.osc_model.specs.declared.node.Moment.{Moment}
use Rattle.osc_model.specs.declared.node.Peer.{Peer}
use Rattle.osc_model.specs.declared.step.ClientResult.TheVariants as result
use Rattle.osc_model.specs.declared.step.Step.{Step}
use Rattle.osc_coap.specs.{datagram_limit, HasSpelling, spelling}
use Rattle.osc_coap.specs.Message.{Message}
use Rattle.osc_coap.specs.declared.kind.Kind.TheVariants.{Acknowledgement, Confirmable}
use Rattle.osc_dedup.specs.{looked}
use Rattle.osc_message.specs.{EndpointState, own_id, datagram, empty_acknowledgement}
use Rattle.osc_ccm.specs.{Sealings}
use Rattle.osc_protect.specs.{longest_message}
use Rattle.osc_authz.specs.Begun.{Begun}
use Rattle.osc_authz.specs.SecurityContext.{SecurityContext}
use Rattle.osc_authz.specs.declared.granted.ClientDesk.{ClientDesk}
use Rattle.osc_client.specs.{Hears as ClientHears, Exchanges, begun_by, busy, begins, opened, post_by, post_of, waits, HostAndPort, IsLawfulOrigin, through}
use Rattle.osc_client.specs.Sending as sending
use Rattle.osc_client.specs.State.{State as Client}
use Rattle.osc_client.specs.declared.waiting.Awaited.TheVariants.{Exchange}
use Rattle.osc_proxy.specs.{answer as sent_back, forwarded, IsCarried}
use Rattle.osc_server.specs.{standing_of, Hears as ServerHears, notes_of_post}
use Rattle.osc_server.specs.State.{State as Server}
use Rattle.osc_rounds.specs.{AwaitsAgreement, AwaitsPost, BegunExchange, IsAgreedTo, agreement, body_of, coming, in_bytes, IsHeld, IsForProxy, IsAgreedAndMadeThrough, IsBegunAndMadeThrough, IsMadeThrough, IsPostedThrough, MayExchangeThrough, Posted, at_server, claims_text, AreNotesOfAgreement, with_key}
use Rattle.osc_rounds.specs.ProxiedExchange.{ProxiedExchange}
use Rattle.osc_rounds.proofs.Agreement.{ExchangeLaws, agreement_sendable, counts_confirmable, hears_agreement, hears_post, post_lawful, post_to, posts_under_it}
use Rattle.osc_rounds.proofs.Acknowledged.{acknowledgement_heard}
use Rattle.osc_rounds.proofs.ExchangeNotes.{TokenLaws, post_notes}
use Rattle.osc_rounds.proofs.ForProxy.{are_for, forwarded_post}

-- ---- what the client posts

token_size : (draw : Draw) → 16 ≤ length draw.0 → length (token_drawn draw) ≡ 8
token_size draw size = omega (arith, length-take 8 (drop 8 draw.0), length-drop 8 draw.0, size)

nonce_size : (draw : Draw) → 16 ≤ length draw.0 → length (nonce_drawn draw) ≡ 8
nonce_size draw size = omega (arith, length-take 8 draw.0, size)

-- the post through this proxy
abbrev pub post_through : HostAndPort → ClientDesk → Begun → ℕ → List ℕ → Message
post_through origin holder its id token = through (Some origin) (post_of holder its id token)

for_proxy : (origin : HostAndPort) (holder : ClientDesk) (its : Begun) (id : ℕ) (token : List ℕ)
    → IsLawfulOrigin origin → length token ≡ 8 → HasSpelling (post_through origin holder its id token)
    → length (spelling (post_through origin holder its id token)) ≤ datagram_limit → IsForProxy origin (post_through origin holder its id token)
for_proxy origin holder its id token lawful size spelled short =
    let found = are_for origin lawful id token (body_of holder its) in
    record {
      kind = refl;
      code = refl;
      token = size;
      carried = record { lawful = spelled; short = short };
      safe = found.safe;
      no_uri = found.no_uri;
      scheme = found.scheme;
      host = found.host;
      port = found.port;
      bare = found.bare;
    }

pub is_posted : (old new : Client) (now : Moment) (draw : Draw) (origin : HostAndPort) (step : Step)
    → old.origin ≡ Some origin → IsLawfulOrigin origin → old.waiting ≡ None → 16 ≤ length draw.0 → step.notes.result ≢ Some (result.Refused 14)
    → Exchanges old now draw step new → IsPostedThrough origin old draw step
is_posted old new now draw origin step by lawful idle size fits (busy waits refused) = absurd (waits idle)
is_posted old new now draw origin step by lawful idle size fits (sending.Exchanges.too_long free long refused) =
    absurd (fits (ap (λ (s : Step). s.notes.result) refused.told))
is_posted old new now draw origin step by lawful idle size fits (begins free short spelled told kept) =
    let its = begun_by old draw in
    let id = own_id draw old.endpoint.next_id in
    let token = token_drawn draw in
    let same : post_by old draw ≡ post_through origin old.desk its id token = ap (λ (o : Option HostAndPort). through o (post_of old.desk its id token)) by in
    record {
      out = ap (λ (s : Step). s.out) told;
      for_proxy = subst (IsForProxy origin) (sym same)
          (for_proxy origin old.desk its id token lawful (token_size draw size)
          (subst HasSpelling same spelled.lawful)
          (subst (λ (m : Message). length (spelling m) ≤ longest_message) same short));
    }

-- ---- the server agrees to what the proxy forwards

abbrev pub NothingAdded : Type 0
NothingAdded = (id : ℕ) (token : List ℕ) (message : Message) → HasSpelling message → length token ≤ length message.token
    → length (spelling (forwarded id token message)) ≤ length (spelling message)

module _ (is_sealing : Sealings) (laws : ExchangeLaws is_sealing) (nothing_added : NothingAdded) where
  pub forwarded_agreed : (old new : Server) (came : Arrival Message) (exchange : BegunExchange) (origin : HostAndPort) (its_id : ℕ) (its_token : List ℕ) (step : Step)
      → AwaitsPost is_sealing old came exchange → IsLawfulOrigin origin → IsForProxy origin (post_through origin exchange.holder exchange.begun its_id its_token)
      → came.what ≡ forwarded came.what.id came.what.token (post_through origin exchange.holder exchange.begun its_id its_token)
      → came.what.id < 2 ^ 16 → length came.what.token ≡ 8
      → ServerHears is_sealing old (in_bytes came) step new
      → IsAgreedTo is_sealing old came exchange step new
  forwarded_agreed old new came exchange origin its_id its_token step awaits lawful posted is_forwarded small size hears =
      let id = came.what.id in
      let token = came.what.token in
      let post : Message = post_through origin exchange.holder exchange.begun its_id its_token in
      let body : List ℕ = body_of exchange.holder exchange.begun in
      let same : came.what ≡ post_to (Some origin.host) id token body = is_forwarded ∙ forwarded_post origin its_id id its_token token body in
      let added : length (spelling (forwarded id token post)) ≤ length (spelling post) =
      nothing_added id token post posted.carried.lawful (omega (arith, size, posted.token)) in
      let short : length (spelling (forwarded id token post)) ≤ datagram_limit = omega (arith, added, posted.carried.short) in
      let sendable : IsCarried came.what = record {
        lawful = subst HasSpelling (sym same) (post_lawful (Some origin.host) id token body lawful.host small (omega (arith, size)));
        short = subst (λ (m : Message). length (spelling m) ≤ datagram_limit) (sym is_forwarded) short;
      } in
      hears_post is_sealing laws old came exchange awaits (Some origin.host) lawful.host same step new sendable hears

-- ---- the answer in a confirmable message

module _ (is_sealing : Sealings) (laws : ExchangeLaws is_sealing) where
  pub confirmable_makes : (server agreed : Server) (came : Arrival Message) (exchange : BegunExchange) (second : Step)
      (client after : Client) (back : Arrival Message) (third : Step)
      → AwaitsPost is_sealing server came exchange → length came.draw.0 ≡ 32
      → (is : IsAgreedTo is_sealing server came exchange second agreed)
      → AwaitsAgreement client back.from exchange.holder exchange.begun back.what.token
      → back.what.id < 2 ^ 16 → length back.what.token ≤ 8 → looked back.at back.from back.what.id client.endpoint.seen ≡ None
      → back.what ≡ sent_back Confirmable back.what.id back.what.token (agreement Acknowledgement came.what.id came.what.token is.answer)
      → ClientHears is_sealing client (in_bytes back) third after
      → (held : SecurityContext) × IsHeld agreed came.at exchange.entries held × IsMadeThrough client back.from back.what.id held third after
  confirmable_makes server agreed came exchange second client after back third awaits size is waits small short unheard is_back hears =
      let id = back.what.id in
      let token = back.what.token in
      let it =
      hears_agreement is_sealing laws server came exchange awaits second agreed size is
      Confirmable id token client back.at back.from back.draw waits third after
      (agreement_sendable is_sealing laws server came exchange awaits second agreed size is Confirmable id token small short)
      (counts_confirmable client.next_hop back.from waits.waiting client.endpoint.seen back.at id token is.answer waits.peer unheard waits.token)
      (subst (λ (m : Message). ClientHears is_sealing client (read_as back (spelling m)) third after) is_back hears) in
      (it.0, it.1, record { told = it.2.told; kept = it.2.kept })

-- ---- an empty acknowledgement

-- what a node sends of its own has a spelling
pub record EmptyLaws : Type 0 where
  pub spelled : (id : ℕ) → id < 2 ^ 16 → HasSpelling (empty_acknowledgement id)
  pub short : (id : ℕ) → length (spelling (empty_acknowledgement id)) ≤ datagram_limit

-- ---- the whole

module _ (is_sealing : Sealings) (laws : ExchangeLaws is_sealing) (tokens : TokenLaws is_sealing) (nothing_added : NothingAdded) (empty : EmptyLaws)
    (client : Client) (asked_at : Moment) (exchange : ProxiedExchange) (first : Step) (begun : Client) (may : MayExchangeThrough is_sealing client exchange) where
  abbrev server : Server
  server = exchange.server

  abbrev now : Moment
  now = exchange.now

  abbrev draw : Draw
  draw = exchange.draw

  abbrev origin : HostAndPort
  origin = exchange.origin

  abbrev proxy_at : Peer
  proxy_at = exchange.proxy_at

  abbrev its : Begun
  its = begun_by client draw

  abbrev its_id : ℕ
  its_id = own_id draw client.endpoint.next_id

  abbrev its_token : List ℕ
  its_token = token_drawn draw

  abbrev message : Message
  message = post_through origin client.desk its its_id its_token

  -- as the server knows it
  abbrev known : BegunExchange
  known = record { claims = exchange.claims; entries = exchange.entries; holder = client.desk; begun = its }

  message_is : post_by client draw ≡ message
  message_is = ap (λ (o : Option HostAndPort). through o (post_of client.desk its its_id its_token)) may.through

  module _ (posted : IsPostedThrough origin client draw first) (kept : begun ≡ opened client asked_at draw (post_by client draw) (Exchange its)) where
    is_for_proxy : IsForProxy origin message
    is_for_proxy = subst (IsForProxy origin) message_is posted.for_proxy

    peer : same_peer begun.next_hop proxy_at ≡ true
    peer = ap (λ (c : Client). same_peer c.next_hop proxy_at) kept ∙ ap (λ (p : Peer). same_peer p proxy_at) may.next_hop ∙ laws.itself proxy_at

    awaits_agreement : AwaitsAgreement begun proxy_at client.desk its its_token
    awaits_agreement = record {
      desk = ap (λ (c : Client). c.desk) kept;
      waiting = waits client.endpoint asked_at draw (Exchange its);
      waits = ap (λ (c : Client). c.waiting) kept;
      exchange = refl;
      token = refl;
      peer = peer;
    }

    -- whatever its message layer heard meanwhile
    still_awaits : (endpoint : EndpointState) → AwaitsAgreement (record begun { endpoint = endpoint }) proxy_at client.desk its its_token
    still_awaits endpoint = record {
      desk = awaits_agreement.desk;
      waiting = awaits_agreement.waiting;
      waits = awaits_agreement.waits;
      exchange = awaits_agreement.exchange;
      token = awaits_agreement.token;
      peer = awaits_agreement.peer;
    }

    abbrev sent : Posted
    sent = record { begun = begun; message = message }

    module _ (id : ℕ) (token : List ℕ) (server_draw : Draw) (second : Step) (agreed : Server) (small : id < 2 ^ 16) (token_is : length token ≡ 8)
        (unheard : looked now proxy_at id server.endpoint.seen ≡ None) (size : length server_draw.0 ≡ 32) where
      abbrev came : Arrival Message
      came = at_server exchange server_draw (forwarded id token message)

      awaits_post : AwaitsPost is_sealing server came known
      awaits_post = record { token_key = exchange.token_key; welcome = may.welcome; makes = may.makes; nonce = nonce_size draw may.draw_size; unheard = unheard }

      module _ (is : IsAgreedTo is_sealing server came known second agreed) where
        abbrev response : Message
        response = agreement Acknowledgement id token is.answer

        response_sendable : IsCarried response
        response_sendable =
            agreement_sendable is_sealing laws server came known awaits_post second agreed size is Acknowledgement id token small (omega (arith, token_is))

        made_so : (endpoint : EndpointState) (back : ℕ) (its_draw : Draw) (third : Step) (after : Client)
            → back < 2 ^ 16 → looked now proxy_at back endpoint.seen ≡ None
            → ClientHears is_sealing (record begun { endpoint = endpoint }) (coming now proxy_at its_draw (sent_back Confirmable back its_token response)) third after
            → (held : SecurityContext) × IsHeld agreed now exchange.entries held × IsMadeThrough begun proxy_at back held third after
        made_so endpoint back its_draw third after little fresh hears =
            let waiting : Client = record begun { endpoint = endpoint } in
            let comes : Arrival Message = record { at = now; from = proxy_at; draw = its_draw; what = sent_back Confirmable back its_token response } in
            let it =
            confirmable_makes is_sealing laws server agreed came known second waiting after comes third
            awaits_post size is (still_awaits endpoint) little (omega (arith, token_size draw may.draw_size)) fresh refl hears in
            (it.0, it.1, record { told = it.2.told; kept = it.2.kept })

        post_noted : AreNotesOfAgreement exchange.token_key (claims_text exchange.claims) server_draw (notes_of_post is.post)
        unfolding awaits_post
        post_noted =
            post_notes is_sealing tokens (with_key exchange.token_key server.desk) (with_key exchange.token_key agreed.desk) (standing_of server now) server_draw is.post exchange.claims exchange.entries
            client.desk its.nonce1 its.recipient_id may.welcome.welcome (nonce_size draw may.draw_size) may.makes.unknown
            (posts_under_it is_sealing laws server came known awaits_post is.post agreed.desk is.posts)

        made : IsAgreedAndMadeThrough is_sealing exchange sent came second agreed
        made = record {
          notes = record { protected = post_noted.protected; iv = post_noted.iv; id = post_noted.id; is = is.notes ∙ post_noted.is };
          response = response;
          out = is.out;
          forwardable = record {
            kind = refl;
            code = refl;
            id = refl;
            token = refl;
            carried = response_sendable;
            safe = refl;
          };
          made = made_so;
        }

      agreed_so : ServerHears is_sealing server (in_bytes came) second agreed → IsAgreedAndMadeThrough is_sealing exchange sent came second agreed
      agreed_so hears =
          made (forwarded_agreed is_sealing laws nothing_added server agreed came known origin its_id its_token second
          awaits_post may.origin_lawful is_for_proxy refl small token_is hears)

    begun_so : first.notes ≡ record quiet { drawn = Some (nonce_drawn draw) } → IsBegunAndMadeThrough is_sealing client exchange first begun
    begun_so notes = record {
      message = message;
      id = refl;
      out = posted.out ∙ ap (λ (m : Message). datagram client.next_hop m ∷ []) message_is ∙ ap (λ (hop : Peer). datagram hop message ∷ []) may.next_hop;
      notes = notes;
      for_proxy = is_for_proxy;
      kept = kept ∙ ap (λ (c : Client). record client { waiting = c.waiting; endpoint = c.endpoint }) (sym kept);
      seen = ap (λ (c : Client). c.endpoint.seen) kept;
      settled = λ at its_draw step later hears.
          let came : Arrival ℕ = record { at = at; from = proxy_at; draw = its_draw; what = its_id } in
          acknowledgement_heard is_sealing laws.one_reception empty.spelled empty.short begun later came step is_for_proxy.carried.lawful.id hears;
      agreed = agreed_so;
    }

  pub is_begun_through : first.notes.result ≢ Some (result.Refused 14) → Exchanges client asked_at draw first begun
      → IsBegunAndMadeThrough is_sealing client exchange first begun
  is_begun_through fits exchanges =
      by (is_posted client begun asked_at draw origin first may.through may.origin_lawful may.idle may.draw_size fits exchanges) exchanges
    where
      by : IsPostedThrough origin client draw first → Exchanges client asked_at draw first begun
          → IsBegunAndMadeThrough is_sealing client exchange first begun
      by posted (busy waits refused) = absurd (waits may.idle)
      by posted (sending.Exchanges.too_long idle long refused) = absurd (fits (ap (λ (s : Step). s.notes.result) refused.told))
      by posted (begins idle short spelled told kept) = begun_so posted kept (ap (λ (s : Step). s.notes) told)
