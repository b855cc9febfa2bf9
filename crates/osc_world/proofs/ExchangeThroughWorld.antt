-- An exchange is begun, and a quiet round makes a context at both ends: through a proxy, in six deliveries.
use Rattle.std.proofs.Common.{◌≡◌, ◌∙◌, sym, ap, subst, refl, ℕ, suc, ◌-◌, ◌≤◌, Bool, true, false, List, [], ◌∷◌, ◌++◌, length, map, Some, arith}
use Rattle.std.specs.Prelude.{◌≢◌, slice_get, slice_set}
use Rattle.std.proofs.lemmas.Option.{same_Some}
use Rattle.osc_model.specs.{quiet, same_peer}
use Rattle.osc_model.specs.declared.node.Draw.{Draw}
use Rattle.osc_model.specs.declared.node.Moment.{Moment}
use Rattle.osc_model.specs.declared.node.Peer.{Peer}
use Rattle.osc_model.specs.declared.step.ClientResult.TheVariants as result
use Rattle.osc_model.specs.declared.step.Datagram.{Datagram}
use Rattle.osc_model.specs.declared.step.Step.{Step}
use Rattle.osc_coap.specs.{spelling}
use Rattle.osc_coap.specs.Message.{Message}
use Rattle.osc_message.specs.{empty_acknowledgement}
use Rattle.osc_run.specs.{Noted, by_client, by_proxy, by_server, HasFreshDraws}
use Rattle.osc_server.specs.State.{State as Server}
use Rattle.osc_client.specs.{IsLawfulClient, Exchanges, post_by}
use Rattle.osc_client.specs.State.{State as Client}
use Rattle.osc_proxy.specs.{Hears as ProxyHears, IsAtRest, IsLawfulProxy}
use Rattle.osc_proxy.specs.State.{State as Proxy}
use Rattle.osc_rounds.specs.{IsHeld, IsAgreedAndBroughtBack, IsBroughtBackAndMade, IsMadeAndEnds, IsPassedOnAndAgreed, IsPostedAndAgreedThrough, IsSettledAndAgreed, PostOnItsWay, forwarded_post, post_id_back, post_passage, claims_text, Hops, IsThrough, MayExchange, AreAmongQuiet, AreNotesOfAgreement, AreNotesOfExchange, Draws}
use Rattle.osc_scope.specs.{Entry}
use Rattle.osc_token.specs.declared.claims.Claims.{Claims}
use Rattle.osc_ccm.specs.{Sealings, Tags}
use Rattle.osc_world.specs.{AreLawfulClients, AreLawfulProxies, sent_from, NodeStates, StandApart, queue, AreWhole, Deliveries, Rounds, next_draw, AreMinted, BegunExchange, ClientRound, GoesTheSameWay, HasMade, IsRound, KeepsThePremise, LeavesUnheard, Way, beginning, hops_through, round_of, Happens, State}
use Rattle.osc_world.specs.Ready as ready_as
use Rattle.osc_world.specs.declared.nodes.Placed.{Placed}
use Rattle.osc_world.proofs.Asked.{lawful_after}
use Rattle.osc_world.proofs.Deliveries.{still_minted}
use Rattle.osc_world.proofs.ExchangeWorld.{HearsNoOther, KeepsOverExchange, MakesStraight, NotesExchange, exchange_goes_on, left_unheard, made_straight}
use Rattle.osc_world.proofs.Posted.{IsPosted, is_posted, post_goes_out}
use Rattle.osc_world.proofs.Slots.{got_back}
use Rattle.osc_world.proofs.Straight.{IsWhole, coming_from, from_to}
use Rattle.osc_world.proofs.Through.{IsAcknowledged, IsForwarded, IsSentBack, IsServed, IsTaken, IsThrough as IsRoundOfSix, Route, first_is_whole, three_of_seven, through as round_of_six}
use Rattle.osc_world.proofs.Way.{exchanges_same}

-- ---- what each delivery sends, as the law of the round has it

module _ (is_sealing : Sealings) (post : PostOnItsWay) where
  abbrev takes : (agreed : Server) (brought : Proxy) (fifth : Step) (made : Client) → IsMadeAndEnds is_sealing post agreed brought fifth made
      → IsTaken is_sealing post.now post.at post.proxy_at post.server_at brought fifth
  takes agreed brought fifth made is = record {
    taken = spelling (empty_acknowledgement (post_id_back post));
    out = ap (λ (s : Step). s.out) is.is_made.told;
    silent = λ draw last after hears. ap (λ (s : Step). s.out) (is.ends draw last after hears).told;
  }

  abbrev brings : (settled : Client) (agreed : Server) (fourth : Step) (brought : Proxy) → IsBroughtBackAndMade is_sealing post settled agreed fourth brought
      → IsSentBack is_sealing post.now post.at post.proxy_at post.server_at settled brought fourth
  brings settled agreed fourth brought is = record {
    answer = spelling is.back;
    out = ap (λ (s : Step). s.out) is.out;
    taken = λ draw next after hears. takes agreed brought next after (is.made draw next after hears);
  }

  abbrev agrees : (settled : Client) (passed : Proxy) (third : Step) (agreed : Server) → IsAgreedAndBroughtBack is_sealing post settled passed third agreed
      → IsServed is_sealing post.now post.at post.proxy_at post.server_at settled passed third
  agrees settled passed third agreed is = record {
    reply = spelling is.response;
    out = is.out;
    back = λ draw next after hears. brings settled agreed next after (is.brought draw next after hears);
  }

  abbrev settles : (passed : Proxy) (second : Step) (settled : Client) → IsSettledAndAgreed is_sealing post passed second settled
      → IsAcknowledged is_sealing post.now post.at post.proxy_at post.server_at settled post.server passed (spelling (forwarded_post post)) second
  settles passed second settled is = record {
    silent = ap (λ (s : Step). s.out) is.told;
    served = λ draw next after whole hears. agrees settled passed next after (is.agreed draw next after whole hears).1;
  }

  abbrev passes : (step : Step) (passed : Proxy) → IsPassedOnAndAgreed is_sealing post step passed
      → IsForwarded is_sealing post.now post.at post.proxy_at post.server_at post.begun post.server passed step
  passes step passed is = record {
    acknowledgement = spelling (empty_acknowledgement post.message.id);
    forwarded = spelling (forwarded_post post);
    out = ap (λ (s : Step). s.out) is.out;
    acknowledged = λ draw next after hears. settles passed next after (is.settled draw next after hears);
  }

-- ---- the round

module _ (is_sealing : Sealings) (tag : Tags) where
  -- an exchange that goes through a proxy is made
  abbrev pub MakesThrough : Type 0
  MakesThrough = (client begun : Client) (proxy : Proxy) (server : Server) (begun_at : Moment) (draw : Draw) (hops : Hops)
      (claims : Claims) (entries : List Entry) (posts : Step)
      → IsLawfulProxy proxy → IsLawfulClient begun → length hops.proxy_draw.0 ≡ 32
      → (way : IsThrough client proxy server draw hops) → (may : MayExchange is_sealing client server hops.now draw claims entries)
      → posts.notes.result ≢ Some (result.Refused 14)
      → Exchanges client begun_at draw posts begun
      → (message : Message)
      × IsPostedAndAgreedThrough is_sealing
      (record {
        begun = begun;
        proxy = proxy;
        server = server;
        at = hops.at;
        proxy_at = hops.proxy_at;
        server_at = hops.server_at;
        now = hops.now;
        draw = draw;
        proxy_draw = hops.proxy_draw;
        claims = claims;
        entries = entries;
        token_key = may.token_key;
        message = message;
        key = way.key;
      })
      posts

  module _ (itself : (a : Peer) → same_peer a a ≡ true) (law : MakesThrough) (premises : KeepsOverExchange)
      (deliveries : Deliveries) (count : ℕ) (w1 new : State) (begins : BegunExchange is_sealing tag deliveries count w1) (left : ℕ) (is_quiet : Bool)
      (sizes : AreWhole deliveries.drawn w1 new)
      (apart : StandApart w1.nodes)
      (lawful_proxies : AreLawfulProxies w1.nodes.proxies)
      (lawful_clients : AreLawfulClients w1.nodes.clients)
      (proxy_number : ℕ) (proxy : Placed Proxy)
      (proxy_here : slice_get begins.before.nodes.proxies proxy_number ≡ Some proxy)
      (goes : IsThrough begins.placed.node proxy.node begins.before.nodes.server begins.draw
      (hops_through proxy begins.before begins.placed (round_of deliveries begins.draw w1)))
      (rounds : Rounds (Happens is_sealing tag) deliveries (suc (suc (suc (suc (suc (suc left)))))) w1 is_quiet new) where
    abbrev old : State
    old = begins.before

    abbrev number : ℕ
    number = begins.client

    abbrev placed : Placed Client
    placed = begins.placed

    abbrev begun_at : Moment
    begun_at = begins.at

    abbrev draw : Draw
    draw = begins.draw

    abbrev claims : Claims
    claims = begins.claims

    abbrev entries : List Entry
    entries = begins.entries

    abbrev now : Moment
    now = deliveries.at

    abbrev first : Draw
    first = next_draw deliveries w1

    posts : IsPosted is_sealing tag deliveries count w1 begins
    posts = is_posted is_sealing tag deliveries count w1 begins

    abbrev after : Placed Client
    after = record placed { node = posts.client }

    abbrev nodes : NodeStates
    nodes = record old.nodes { clients = slice_set old.nodes.clients number after }

    there : slice_get nodes.clients number ≡ Some after
    there = got_back old.nodes.clients number placed after begins.ready.here

    abbrev route : Route
    route = record {
      nodes = nodes;
      number = number;
      placed = after;
      there = there;
      proxy_number = proxy_number;
      proxy = proxy;
      proxy_there = proxy_here;
    }

    lawful_proxy : IsLawfulProxy proxy.node
    lawful_proxy = lawful_proxies proxy_number proxy (ap (λ (n : NodeStates). slice_get n.proxies proxy_number) posts.nodes ∙ proxy_here)

    lawful_client : IsLawfulClient posts.client
    lawful_client = lawful_after number placed posts.client old w1 begins.ready.here posts.nodes lawful_clients

    to_proxy : queue w1 ≡ from_to placed.at proxy.at (spelling (post_by placed.node draw)) ∷ []
    to_proxy =
        posts.waits
        ∙ ap (λ (out : List Datagram). map (sent_from placed.at) out)
        (post_goes_out placed.node posts.client begun_at draw posts.step begins.may.idle posts.fits posts.exchanges)
        ∙ ap (λ (to : Peer). from_to placed.at to (spelling (post_by placed.node draw)) ∷ []) goes.next_hop

    whole : IsWhole first
    whole = first_is_whole is_sealing tag deliveries itself route (spelling (post_by placed.node draw)) (suc (suc (suc (suc (suc left))))) w1 new is_quiet sizes posts.nodes apart to_proxy rounds

    abbrev way_of : Message → PostOnItsWay
    way_of message = record {
      begun = posts.client;
      proxy = proxy.node;
      server = old.nodes.server;
      at = placed.at;
      proxy_at = proxy.at;
      server_at = old.nodes.server_at;
      now = now;
      draw = draw;
      proxy_draw = first;
      claims = claims;
      entries = entries;
      token_key = begins.may.token_key;
      message = message;
      key = goes.key;
    }

    it : (message : Message) × IsPostedAndAgreedThrough is_sealing (way_of message) posts.step
    it =
        law placed.node posts.client proxy.node old.nodes.server begun_at draw (hops_through proxy old placed (round_of deliveries draw w1)) claims entries posts.step
        lawful_proxy lawful_client whole goes begins.may posts.fits posts.exchanges

    abbrev way : PostOnItsWay
    way = way_of it.0

    abbrev is : IsPostedAndAgreedThrough is_sealing way posts.step
    is = it.1

    alone : queue w1 ≡ from_to placed.at proxy.at (spelling it.0) ∷ []
    alone = posts.waits ∙ ap (λ (out : List Datagram). map (sent_from placed.at) out) is.out

    -- ---- there and back

    abbrev coming : (step : Step) (passed : Proxy) → IsWhole first → ProxyHears proxy.node (coming_from now placed.at first (spelling it.0)) step passed
        → IsForwarded is_sealing now placed.at proxy.at old.nodes.server_at posts.client old.nodes.server passed step
    coming step passed good hears = passes is_sealing way step passed (is.passed step passed hears)

    round : IsRoundOfSix is_sealing deliveries w1 route (spelling it.0) coming new is_quiet
    round = round_of_six is_sealing deliveries w1 route (spelling it.0) coming tag itself left new is_quiet sizes posts.nodes apart alone rounds

    abbrev passed : IsPassedOnAndAgreed is_sealing way round.step_1 round.proxy_1
    passed = is.passed round.step_1 round.proxy_1 round.hears_1

    abbrev settled : IsSettledAndAgreed is_sealing way round.proxy_1 round.step_2 round.client_2
    settled = passed.settled round.draw_2 round.step_2 round.client_2 round.hears_2

    abbrev agreed : AreNotesOfAgreement begins.may.token_key (claims_text claims) round.draw_3 round.step_3.notes
        × IsAgreedAndBroughtBack is_sealing way round.client_2 round.proxy_1 round.step_3 round.server_3
    agreed = settled.agreed round.draw_3 round.step_3 round.server_3 round.whole_3 round.hears_3

    abbrev brought : IsBroughtBackAndMade is_sealing way round.client_2 round.server_3 round.step_4 round.proxy_4
    brought = agreed.1.brought round.draw_4 round.step_4 round.proxy_4 round.hears_4

    abbrev made : IsMadeAndEnds is_sealing way round.server_3 round.proxy_4 round.step_5 round.client_5
    made = brought.made round.draw_5 round.step_5 round.client_5 round.hears_5

    ended : IsAtRest proxy.node (post_passage way) round.step_6 round.proxy_6
    ended = made.ends round.draw_6 round.step_6 round.proxy_6 round.hears_6

    -- ---- what is kept of it

    abbrev last : Placed Client
    last = record after { node = round.client_5 }

    server_is : new.nodes.server ≡ round.server_3
    server_is = ap (λ (n : NodeStates). n.server) round.nodes_are

    same_way : (before : Placed Client) → slice_get old.nodes.clients number ≡ Some before → GoesTheSameWay before last
    same_way before stood =
        let same : placed ≡ before = same_Some placed before (sym begins.ready.here ∙ stood) in
        let posting = exchanges_same placed.node begun_at draw posts.step posts.client posts.exchanges in
        subst (λ (p : Placed Client). GoesTheSameWay p last) same
        (record {
          at = refl;
          next_hop = ap (λ (c : Client). c.next_hop) made.is_made.kept ∙ posting.0;
          origin = ap (λ (c : Client). c.origin) made.is_made.kept ∙ posting.1;
        })

    quiet_1 : round.step_1.notes ≡ quiet
    quiet_1 = ap (λ (s : Step). s.notes) passed.out

    quiet_2 : round.step_2.notes ≡ quiet
    quiet_2 = ap (λ (s : Step). s.notes) settled.told

    quiet_4 : round.step_4.notes ≡ quiet
    quiet_4 = ap (λ (s : Step). s.notes) brought.out

    quiet_6 : round.step_6.notes ≡ quiet
    quiet_6 = ap (λ (s : Step). s.notes) ended.told

    abbrev all : List Noted
    all =
        by_proxy proxy_number round.step_6.notes
        ∷ by_client number false round.step_5.notes
        ∷ by_proxy proxy_number round.step_4.notes
        ∷ by_server round.step_3.notes
        ∷ by_client number false round.step_2.notes
        ∷ by_proxy proxy_number round.step_1.notes
        ∷ by_client number false posts.step.notes
        ∷ []

    steps_are : new.steps ≡ all ++ old.steps
    steps_are =
        round.steps
        ∙ ap
        (λ (l : List Noted). by_proxy proxy_number round.step_6.notes
        ∷ by_client number false round.step_5.notes
        ∷ by_proxy proxy_number round.step_4.notes
        ∷ by_server round.step_3.notes
        ∷ by_client number false round.step_2.notes
        ∷ by_proxy proxy_number round.step_1.notes
        ∷ l)
        posts.steps

    among : AreAmongQuiet (by_client number false round.step_5.notes ∷ by_server round.step_3.notes ∷ by_client number false posts.step.notes ∷ []) all
    among =
        three_of_seven
        (by_client number false posts.step.notes) (by_proxy proxy_number round.step_1.notes) (by_client number false round.step_2.notes) (by_server round.step_3.notes)
        (by_proxy proxy_number round.step_4.notes) (by_client number false round.step_5.notes) (by_proxy proxy_number round.step_6.notes)
        quiet_1 quiet_2 quiet_4 quiet_6

    abbrev draws : Draws
    draws = record { client = draw; server = round.draw_3 }

    notes_are : AreNotesOfExchange begins.may.token_key (claims_text claims) draws posts.step.notes round.step_3.notes round.step_5.notes
    notes_are = record { begun_is = is.notes; agreed_is = agreed.0; made_is = ap (λ (s : Step). s.notes) made.is_made.told }

    pub made_through : IsRound 6 w1 is_quiet new × HasMade old number now entries new × (AreMinted old claims → HasFreshDraws new.steps → KeepsThePremise old new)
    made_through = (
      record { count = round.count; quiet = round.quiet; still = round.still },
      record {
        held = made.held;
        at_server = subst (λ (s : Server). IsHeld s now entries made.held) (sym server_is) made.is_held;
        placed = last;
        is_there = ap (λ (n : NodeStates). slice_get n.clients number) round.nodes_are ∙ got_back nodes.clients number after last there;
        at_client = ap (λ (c : Client). c.context) made.is_made.kept;
        idle = ap (λ (c : Client). c.waiting) made.is_made.kept;
        way = same_way;
        server_at = ap (λ (n : NodeStates). n.server_at) round.nodes_are;
        begun = posts.step.notes;
        agreed = round.step_3.notes;
        made = round.step_5.notes;
        all = all;
        among = among;
        steps = steps_are;
        learnt = ap (λ (s : Step). s.notes.result) made.is_made.told;
      },
      exchange_goes_on premises old new all claims begins.may.token_key draws
          (by_client number false posts.step.notes) (by_server round.step_3.notes) (by_client number false round.step_5.notes) notes_are among
          (still_minted is_sealing tag deliveries (suc (suc (suc (suc (suc (suc left)))))) old w1 is_quiet new (beginning begun_at draw number) begins.happens rounds) steps_are,
    )

-- ---- whichever way it goes

module _ (is_sealing : Sealings) (tag : Tags) (itself : (a : Peer) → same_peer a a ≡ true)
    (straight_law : MakesStraight is_sealing tag)
    (deliveries : Deliveries) (count limit : ℕ) (w1 new : State) (begins : BegunExchange is_sealing tag deliveries count w1) (is_quiet : Bool)
    (sizes : AreWhole deliveries.drawn w1 new)
    (apart : StandApart w1.nodes)
    (lawful_clients : AreLawfulClients w1.nodes.clients)
    (enough : count ≤ limit)
    (rounds : Rounds (Happens is_sealing tag) deliveries limit w1 is_quiet new) where
  abbrev IsMet : ℕ → Type 0
  IsMet n =
      IsRound n w1 is_quiet new × HasMade begins.before begins.client deliveries.at begins.entries new
      × (AreMinted begins.before begins.claims → HasFreshDraws new.steps → KeepsThePremise begins.before new)

  rounds_of : (n : ℕ) → limit ≡ n → Rounds (Happens is_sealing tag) deliveries n w1 is_quiet new
  rounds_of n is = subst (λ (m : ℕ). Rounds (Happens is_sealing tag) deliveries m w1 is_quiet new) is rounds

  abbrev round_is : ClientRound
  round_is = round_of deliveries begins.draw w1

  pub made_round : MakesThrough is_sealing tag → NotesExchange is_sealing tag → KeepsOverExchange → AreLawfulProxies w1.nodes.proxies → IsMet count
  made_round through_law notes premises lawful_proxies = by begins.ready.way
    where
      by : Way begins.before begins.placed round_is count → IsMet count
      by (ready_as.Way.straight two goes) =
          let more : limit ≡ suc (suc (limit - 2)) = omega (arith, enough, two) in
          subst IsMet (sym two)
          (made_straight is_sealing tag itself straight_law deliveries count w1 new begins (limit - 2) is_quiet
          sizes apart lawful_clients goes (rounds_of (suc (suc (limit - 2))) more) notes premises)
      by (ready_as.Way.through six proxy_number proxy there goes) =
          let more : limit ≡ suc (suc (suc (suc (suc (suc (limit - 6)))))) = omega (arith, enough, six) in
          subst IsMet (sym six)
          (made_through is_sealing tag itself through_law premises deliveries count w1 new begins (limit - 6) is_quiet
          sizes apart lawful_proxies lawful_clients proxy_number proxy there goes
          (rounds_of (suc (suc (suc (suc (suc (suc (limit - 6))))))) more))

  pub unheard_round : HearsNoOther is_sealing tag → count ≡ 2 → (standing : Placed Client) → slice_get new.nodes.clients begins.client ≡ Some standing
      → LeavesUnheard begins.before new begins.draw begins.placed standing
  unheard_round hears_no_other is_two standing stands = by begins.ready.way
    where
      by : Way begins.before begins.placed round_is count → LeavesUnheard begins.before new begins.draw begins.placed standing
      by (ready_as.Way.straight two goes) =
          let more : limit ≡ suc (suc (limit - 2)) = omega (arith, enough, two) in
          left_unheard is_sealing tag itself straight_law deliveries count w1 new begins (limit - 2) is_quiet
          sizes apart lawful_clients goes (rounds_of (suc (suc (limit - 2))) more) hears_no_other standing stands
      by (ready_as.Way.through six proxy_number proxy there goes) = absurd (omega (arith, six, is_two))
