-- An exchange is begun, and a quiet round makes a context at both ends: straight to the server, in two deliveries.
use Rattle.std.proofs.Common.{◌≡◌, ◌∙◌, sym, ap, subst, refl, ℕ, suc, ◌+◌, ◌%◌, Bool, true, false, List, [], ◌∷◌, ◌++◌, map, Some, None}
use Rattle.std.specs.Prelude.{◌≢◌, slice_get, slice_set}
use Rattle.std.proofs.lemmas.Option.{same_Some}
use Rattle.osc_model.specs.{quiet, same_peer}
use Rattle.osc_model.specs.StepNotes.{StepNotes}
use Rattle.osc_model.specs.declared.node.Draw.{Draw}
use Rattle.osc_model.specs.declared.node.Moment.{Moment}
use Rattle.osc_model.specs.declared.node.Peer.{Peer}
use Rattle.osc_model.specs.declared.step.ClientResult.TheVariants as result
use Rattle.osc_model.specs.declared.step.Datagram.{Datagram}
use Rattle.osc_model.specs.declared.step.Step.{Step}
use Rattle.osc_coap.specs.{spelling}
use Rattle.osc_coap.specs.Message.{Message}
use Rattle.osc_dedup.specs.{looked}
use Rattle.osc_message.specs.{own_id, datagram}
use Rattle.osc_authz.specs.SecurityContext.{SecurityContext}
use Rattle.osc_run.specs.{Noted, by_client, by_server, HasFreshDraws, IsMinted, Minted}
use Rattle.osc_run.specs.Premise.{Premise}
use Rattle.osc_server.specs.{Hears as ServerHears}
use Rattle.osc_server.specs.State.{State as Server}
use Rattle.osc_client.specs.{IsLawfulClient, Exchanges}
use Rattle.osc_client.specs.State.{State as Client}
use Rattle.osc_rounds.specs.{IsAgreedAndMade, IsBegunAndMade, IsHeld, IsMade, StraightPost, claims_text, IsStraight, MayExchange, AreAmongQuiet, AreNotesOfExchange, Draws}
use Rattle.osc_scope.specs.{Entry}
use Rattle.osc_token.specs.declared.claims.Claims.{Claims}
use Rattle.osc_ccm.specs.{Sealings, Tags}
use Rattle.osc_world.specs.{AreLawfulClients, sent_from, NodeStates, StandApart, queue, AreWhole, Deliveries, Rounds, AreMinted, BegunExchange, GoesTheSameWay, HasMade, IsRound, KeepsThePremise, LeavesUnheard, beginning, Happens, State}
use Rattle.osc_world.specs.declared.nodes.Placed.{Placed}
use Rattle.osc_world.proofs.Asked.{lawful_after}
use Rattle.osc_world.proofs.Deliveries.{still_minted}
use Rattle.osc_world.proofs.Posted.{IsPosted, is_posted}
use Rattle.osc_world.proofs.Premises.{fresh_as, keeps, these_three}
use Rattle.osc_world.proofs.Slots.{got_back}
use Rattle.osc_world.proofs.Straight.{IsAnsweredBack, IsStraight as IsRoundOfTwo, IsWhole, coming_from, from_to, straight as round_of_two}
use Rattle.osc_world.proofs.Way.{exchanges_id, exchanges_same, hears_id, hears_same}

-- what is assumed goes on over the steps of an exchange
abbrev pub KeepsOverExchange : Type 0
KeepsOverExchange = (minted : List Minted) (old all : List Noted) (key text : List ℕ) (draws : Draws) (begun agreed made : Noted)
    → IsMinted minted text → AreNotesOfExchange key text draws begun.notes agreed.notes made.notes
    → AreAmongQuiet (made ∷ agreed ∷ begun ∷ []) all → HasFreshDraws (all ++ old) → Premise minted old → Premise minted (all ++ old)

-- in a world whose steps these are, on top of the old ones
pub exchange_goes_on : KeepsOverExchange → (old new : State) (all : List Noted) (claims : Claims) (key : List ℕ) (draws : Draws) (begun agreed made : Noted)
    → AreNotesOfExchange key (claims_text claims) draws begun.notes agreed.notes made.notes
    → AreAmongQuiet (made ∷ agreed ∷ begun ∷ []) all → new.minted ≡ old.minted → new.steps ≡ all ++ old.steps
    → AreMinted old claims → HasFreshDraws new.steps → KeepsThePremise old new
exchange_goes_on law old new all claims key draws begun agreed made notes among minted steps are_minted fresh =
    keeps old new (all ++ old.steps) minted steps
    (law old.minted old.steps all key (claims_text claims) draws begun agreed made are_minted notes among (fresh_as new (all ++ old.steps) steps fresh))

module _ (is_sealing : Sealings) (tag : Tags) where
  -- an exchange that goes straight to the server is made
  abbrev pub MakesStraight : Type 0
  MakesStraight = (client begun : Client) (server : Server) (begun_at now : Moment) (draw : Draw) (at server_at : Peer) (claims : Claims) (entries : List Entry) (first : Step)
      → IsLawfulClient begun → IsStraight client server now draw at server_at → MayExchange is_sealing client server now draw claims entries
      → first.notes.result ≢ Some (result.Refused 14)
      → Exchanges client begun_at draw first begun
      → IsBegunAndMade is_sealing (record { begun = begun; server = server; at = at; server_at = server_at; now = now; entries = entries }) client draw first

  -- what its steps note
  abbrev pub NotesExchange : Type 0
  NotesExchange = (client begun : Client) (server agreed : Server) (begun_at now : Moment) (draw server_draw : Draw) (at server_at : Peer) (claims : Claims) (entries : List Entry) (message : Message) (first second : Step) (made : StepNotes)
      → IsLawfulClient begun → IsStraight client server now draw at server_at → (may : MayExchange is_sealing client server now draw claims entries)
      → Exchanges client begun_at draw first begun → first.out ≡ datagram client.next_hop message ∷ []
      → ServerHears is_sealing server (coming_from now at server_draw (spelling message)) second agreed
      → made ≡ record quiet { result = Some result.Made }
      → AreNotesOfExchange may.token_key (claims_text claims) (record { client = draw; server = server_draw }) first.notes second.notes made

  -- what the server has heard of the client after it
  abbrev pub HearsNoOther : Type 0
  HearsNoOther = (client begun : Client) (server agreed : Server) (begun_at now later : Moment) (draw server_draw : Draw) (at server_at : Peer) (claims : Claims) (entries : List Entry) (message : Message) (first second : Step) (id : ℕ)
      → IsLawfulClient begun → IsStraight client server now draw at server_at → MayExchange is_sealing client server now draw claims entries
      → Exchanges client begun_at draw first begun → first.out ≡ datagram client.next_hop message ∷ []
      → ServerHears is_sealing server (coming_from now at server_draw (spelling message)) second agreed
      → id ≢ own_id draw client.endpoint.next_id → looked later at id server.endpoint.seen ≡ None → looked later at id agreed.endpoint.seen ≡ None

  module _ (itself : (a : Peer) → same_peer a a ≡ true) (law : MakesStraight)
      (deliveries : Deliveries) (count : ℕ) (w1 new : State) (it : BegunExchange is_sealing tag deliveries count w1) (left : ℕ) (is_quiet : Bool)
      (sizes : AreWhole deliveries.drawn w1 new)
      (apart : StandApart w1.nodes)
      (lawful_clients : AreLawfulClients w1.nodes.clients)
      (goes : IsStraight it.placed.node it.before.nodes.server deliveries.at it.draw it.placed.at it.before.nodes.server_at)
      (rounds : Rounds (Happens is_sealing tag) deliveries (suc (suc left)) w1 is_quiet new) where
    abbrev old : State
    old = it.before

    abbrev number : ℕ
    number = it.client

    abbrev placed : Placed Client
    placed = it.placed

    abbrev begun_at : Moment
    begun_at = it.at

    abbrev draw : Draw
    draw = it.draw

    abbrev claims : Claims
    claims = it.claims

    abbrev entries : List Entry
    entries = it.entries

    abbrev now : Moment
    now = deliveries.at

    posts : IsPosted is_sealing tag deliveries count w1 it
    posts = is_posted is_sealing tag deliveries count w1 it

    abbrev after : Placed Client
    after = record placed { node = posts.client }

    abbrev nodes : NodeStates
    nodes = record old.nodes { clients = slice_set old.nodes.clients number after }

    lawful : IsLawfulClient posts.client
    lawful = lawful_after number placed posts.client old w1 it.ready.here posts.nodes lawful_clients

    abbrev post : StraightPost
    post = record { begun = posts.client; server = old.nodes.server; at = placed.at; server_at = old.nodes.server_at; now = now; entries = entries }

    is : IsBegunAndMade is_sealing post placed.node draw posts.step
    is = law placed.node posts.client old.nodes.server begun_at now draw placed.at old.nodes.server_at claims entries posts.step lawful goes it.may posts.fits posts.exchanges

    alone : queue w1 ≡ from_to placed.at old.nodes.server_at (spelling is.message) ∷ []
    alone =
        posts.waits
        ∙ ap (λ (out : List Datagram). map (sent_from placed.at) out) is.out
        ∙ ap (λ (to : Peer). from_to placed.at to (spelling is.message) ∷ []) goes.next_hop

    -- ---- it comes to the server, and its answer to the client

    abbrev coming : (server_draw : Draw) (step : Step) (agreed : Server) → IsWhole server_draw
        → ServerHears is_sealing old.nodes.server (coming_from now placed.at server_draw (spelling is.message)) step agreed
        → IsAnsweredBack is_sealing now posts.client placed.at old.nodes.server_at step
    coming server_draw step agreed whole hears = record {
      answer = spelling (is.agreed server_draw step agreed whole hears).answer;
      out = (is.agreed server_draw step agreed whole hears).out;
      silent = λ client_draw last client heard. ap (λ (s : Step). s.out) ((is.agreed server_draw step agreed whole hears).made client_draw last client heard).2.told;
    }

    there : slice_get nodes.clients number ≡ Some after
    there = got_back old.nodes.clients number placed after it.ready.here

    round : IsRoundOfTwo is_sealing IsWhole deliveries number after nodes (spelling is.message) coming w1 new is_quiet
    round = round_of_two is_sealing IsWhole deliveries number after nodes (spelling is.message) coming tag itself left w1 new is_quiet sizes posts.nodes apart there alone rounds

    abbrev agreed : IsAgreedAndMade is_sealing post round.serving round.server
    agreed = is.agreed round.draw round.serving round.server round.good round.served

    made : (held : SecurityContext) × IsHeld round.server now entries held × IsMade held round.taking round.client
    made = agreed.made round.client_draw round.taking round.client round.taken

    abbrev last : Placed Client
    last = record after { node = round.client }

    last_there : slice_get new.nodes.clients number ≡ Some last
    last_there = ap (λ (n : NodeStates). slice_get n.clients number) round.nodes_are ∙ got_back nodes.clients number after last there

    server_is : new.nodes.server ≡ round.server
    server_is = ap (λ (n : NodeStates). n.server) round.nodes_are

    -- ---- what is kept of it

    abbrev all : List Noted
    all = by_client number false round.taking.notes ∷ by_server round.serving.notes ∷ by_client number false posts.step.notes ∷ []

    steps_are : new.steps ≡ all ++ old.steps
    steps_are = round.steps ∙ ap (λ (l : List Noted). by_client number false round.taking.notes ∷ by_server round.serving.notes ∷ l) posts.steps

    among : AreAmongQuiet all all
    among = these_three (by_client number false round.taking.notes) (by_server round.serving.notes) (by_client number false posts.step.notes)

    same_way : (before : Placed Client) → slice_get old.nodes.clients number ≡ Some before → GoesTheSameWay before last
    same_way before stood =
        let same : placed ≡ before = same_Some placed before (sym it.ready.here ∙ stood) in
        let posting = exchanges_same placed.node begun_at draw posts.step posts.client posts.exchanges in
        let taking = hears_same is_sealing posts.client (coming_from now old.nodes.server_at round.client_draw (spelling agreed.answer)) round.taking round.client round.taken in
        subst (λ (p : Placed Client). GoesTheSameWay p last) same
        (record { at = refl; next_hop = taking.0 ∙ posting.0; origin = taking.1 ∙ posting.1 })

    module _ (notes : NotesExchange) (premises : KeepsOverExchange) where
      abbrev draws : Draws
      draws = record { client = draw; server = round.draw }

      notes_are : AreNotesOfExchange it.may.token_key (claims_text claims) draws posts.step.notes round.serving.notes round.taking.notes
      notes_are =
          notes placed.node posts.client old.nodes.server round.server begun_at now draw round.draw placed.at old.nodes.server_at claims entries is.message posts.step round.serving round.taking.notes
          lawful goes it.may posts.exchanges is.out round.served (ap (λ (s : Step). s.notes) made.2.told)

      pub made_straight : IsRound 2 w1 is_quiet new × HasMade old number now entries new × (AreMinted old claims → HasFreshDraws new.steps → KeepsThePremise old new)
      made_straight = (
        round.round,
        record {
          held = made.0;
          at_server = subst (λ (s : Server). IsHeld s now entries made.0) (sym server_is) made.1;
          placed = last;
          is_there = last_there;
          at_client = made.2.context;
          idle = made.2.waiting;
          way = same_way;
          server_at = ap (λ (n : NodeStates). n.server_at) round.nodes_are;
          begun = posts.step.notes;
          agreed = round.serving.notes;
          made = round.taking.notes;
          all = all;
          among = among;
          steps = steps_are;
          learnt = ap (λ (s : Step). s.notes.result) made.2.told;
        },
        exchange_goes_on premises old new all claims it.may.token_key draws
            (by_client number false posts.step.notes) (by_server round.serving.notes) (by_client number false round.taking.notes) notes_are among
            (still_minted is_sealing tag deliveries (suc (suc left)) old w1 is_quiet new (beginning begun_at draw number) it.happens rounds) steps_are,
      )

    module _ (hears_no_other : HearsNoOther) where
      unheard_of : (later : Moment) (id : ℕ) → id ≢ own_id draw placed.node.endpoint.next_id → looked later placed.at id old.nodes.server.endpoint.seen ≡ None
          → looked later placed.at id new.nodes.server.endpoint.seen ≡ None
      unheard_of later id other before =
          ap (λ (s : Server). looked later placed.at id s.endpoint.seen) server_is
          ∙ hears_no_other placed.node posts.client old.nodes.server round.server begun_at now later draw round.draw placed.at old.nodes.server_at claims entries is.message posts.step round.serving id
          lawful goes it.may posts.exchanges is.out round.served other before

      next_id_is : round.client.endpoint.next_id ≡ Some ((own_id draw placed.node.endpoint.next_id + 1) % 65536)
      next_id_is =
          hears_id is_sealing posts.client (coming_from now old.nodes.server_at round.client_draw (spelling agreed.answer)) round.taking round.client round.taken
          ∙ exchanges_id placed.node begun_at draw posts.step posts.client (datagram placed.node.next_hop is.message) posts.exchanges is.out

      pub left_unheard : (standing : Placed Client) → slice_get new.nodes.clients number ≡ Some standing → LeavesUnheard old new draw placed standing
      left_unheard standing stands =
          let same : last ≡ standing = same_Some last standing (sym last_there ∙ stands) in
          subst (λ (p : Placed Client). LeavesUnheard old new draw placed p) same (record { next_id = next_id_is; unheard = unheard_of })
