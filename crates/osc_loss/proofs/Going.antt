-- Each happening of a round comes to what its account says, and leaves both ends as the account says; so does every list of them.
use Rattle.std.proofs.Common.{◌≡◌, ◌∙◌, sym, ap, subst, refl, ℕ, ◌+◌, ◌<◌, ◌≤◌, Bool, true, false, List, [], ◌∷◌, ◌++◌, Option, Some, None, inl, inr, arith}
use Rattle.std.specs.List.{AllByRecursion}
use Rattle.osc_model.specs.{exchange_lifetime, sends}
use Rattle.osc_model.specs.Arrival.{Arrival}
use Rattle.osc_model.specs.declared.node.Draw.{Draw}
use Rattle.osc_model.specs.declared.node.Moment.{Moment}
use Rattle.osc_model.specs.declared.node.Peer.{Peer}
use Rattle.osc_model.specs.declared.step.Datagram.{Datagram}
use Rattle.osc_model.specs.declared.step.Step.{Step}
use Rattle.osc_coap.specs.{spelling}
use Rattle.osc_coap.specs.Message.{Message}
use Rattle.osc_coap.specs.declared.kind.Kind.TheVariants.{Confirmable}
use Rattle.osc_dedup.specs.{Entry, looked, most_entries, with_note}
use Rattle.osc_dedup.specs.declared.table.Remembered.{Remembered}
use Rattle.osc_message.specs.{GoesOut, Receives, Sent, again, heard, outstanding_due}
use Rattle.osc_message.specs.declared.due.Due.{Due}
use Rattle.osc_message.specs.declared.due.Due.TheVariants.{Keep, Send, GiveUp}
use Rattle.osc_message.specs.declared.heard.Heard.{Heard}
use Rattle.osc_message.specs.declared.heard.Heard.TheVariants as heard_as
use Rattle.osc_message.specs.declared.received.Received.{Received}
use Rattle.osc_message.specs.declared.received.Received.TheVariants as received
use Rattle.osc_ccm.specs.{Sealings}
use Rattle.osc_authz.specs.{ClientContextState, In}
use Rattle.osc_proxy.specs.{IsCarried}
use Rattle.osc_server.specs.State.{State as Server}
use Rattle.osc_server.specs.{Answers as ServerAnswers, Hears as ServerHears}
use Rattle.osc_client.specs.State.{State as Client}
use Rattle.osc_client.specs.{Hears as ClientHears}
use Rattle.osc_rounds.specs.{Ends, IsWithin}
use Rattle.osc_rounds.proofs.Asking.{received_as}
use Rattle.osc_rounds.proofs.Unheard.{unheard_at_tick}
use Rattle.osc_loss.specs.Road.{AreFewSince, AreLeavingWaiting, AreWithin, AtClient, AtServer, ClientTick, Event, Goes, Happening, Happens, IfAnswered, IsAnotherMessage, IsEventWithin, IsReadyAtFirst, IsRemembered, OtherAtClient, OtherAtServer, Road, ServerTick, happening_of}
use Rattle.osc_loss.specs.Round.{Given, reply_of, request_of}
use Rattle.osc_loss.proofs.Account.{Account, ClientDoes, ComesTo, IsAccount, account_of}
use Rattle.osc_loss.proofs.AnyClient.{Stays, stays_idle, stays_waiting}
use Rattle.osc_loss.proofs.AnyServer.{Notes, a_message, notes, nothing}
use Rattle.osc_loss.proofs.Places.{HasPlace, PeerLaws, place_at_tick, place_first, place_found, place_kept, unheard_noted}
use Rattle.osc_loss.proofs.Ticking.{Asks, IsDone, IsWaitingFor, given_up_at_tick, kept_at_tick, nothing_due, open_as, sent_at_tick, tick_when_done}

in_all : (P : Datagram → Type 0) (all : List Datagram) (one : Datagram) → AllByRecursion P all → In one all → P one
in_all P [] one are here = absurd here
in_all P (first ∷ all) one are (inl same) = subst P (sym same) are.0
in_all P (first ∷ all) one are (inr here) = in_all P all one are.1 here

-- ---- the laws below, and what is known of the message and its answer

pub record RoundLaws : Type 0 where
  pub peers : PeerLaws
  pub one_reception : (bytes : List ℕ) (a b : Received) → Receives bytes a → Receives bytes b → a ≡ b

module _ (is_sealing : Sealings) (Makes : Server → Moment → Draw → Step → Server → Given → Type 0) (Keeps : Given → Option ClientContextState → Type 0) (Ready : Server → Moment → Draw → Type 0)
    (Fits : Given → Type 0) (road : Road) (first : Client) where
  abbrev pub copy_at : Moment → Draw → Arrival (List ℕ)
  copy_at now draw = record { at = now; from = road.route.at; draw = draw; what = spelling road.message }

  abbrev pub reply_at : Given → Moment → Draw → Arrival (List ℕ)
  reply_at given now draw = record { at = now; from = road.route.server_at; draw = draw; what = spelling given.answer }

  -- what is noted of the message when it is answered
  abbrev pub note_at : Moment → Given → Remembered
  note_at now given = record { until = now.ms + exchange_lifetime; reply = Some (spelling given.answer) }

  -- what a server makes of the first copy
  pub record TakesUp (old : Server) (now : Moment) (draw : Draw) (step : Step) (new : Server) : Type 0 where
    pub given : Given
    pub made : Makes old now draw step new given
    pub fits : Fits given
    pub out : step.out ≡ reply_of road given ∷ []
    pub seen : new.endpoint.seen ≡ with_note now road.route.at road.message.id (note_at now given) old.endpoint.seen

  -- the client learns it
  pub record Learns (given : Given) (step : Step) (new : Client) : Type 0 where
    pub told : step ≡ given.told
    pub done : IsDone new
    pub keeps : Keeps given new.context

  pub record IsRound : Type 0 where
    pub waits : IsWaitingFor road first
    pub kind : road.message.kind ≡ Confirmable
    pub code : road.message.code ≡ 2
    pub carried : (given : Given) → Fits given → IsCarried road.message
    pub takes_up : (old new : Server) (now : Moment) (draw : Draw) (step : Step) → Ready old now draw
        → looked now road.route.at road.message.id old.endpoint.seen ≡ None → ServerHears is_sealing old (copy_at now draw) step new
        → TakesUp old now draw step new
    pub learns : (given : Given) (sent : Sent) (old new : Client) (now : Moment) (draw : Draw) (step : Step) → Fits given → Asks road first sent old
        → ClientHears is_sealing old (reply_at given now draw) step new → Learns given step new

heard_again : (seen : List Entry) (now : Moment) (from : Peer) (m : Message) (noted : Remembered)
    → m.code ≡ 2 → m.kind ≡ Confirmable → looked now from m.id seen ≡ Some noted
    → heard seen now from (received.Message m) ≡ heard_as.Alone (again from noted.reply)
heard_again seen now from m noted code kind found = rw (code, kind, found) refl

-- how many were answered since, with this one
abbrev since_with : ℕ → List Datagram → ℕ
since_with since [] = since
since_with since (one ∷ out) = since + 1

module _ (is_sealing : Sealings) (Makes : Server → Moment → Draw → Step → Server → Given → Type 0) (Keeps : Given → Option ClientContextState → Type 0) (Ready : Server → Moment → Draw → Type 0)
    (Fits : Given → Type 0) (road : Road) (first : Client) (laws : RoundLaws) (is : IsRound is_sealing Makes Keeps Ready Fits road first) where
  abbrev at : Peer
  at = road.route.at

  abbrev id : ℕ
  id = road.message.id

  -- ---- how both ends stand

  abbrev pub AreRequests : List Datagram → Type 0
  AreRequests all = AllByRecursion (λ sent. sent ≡ request_of road) all

  abbrev pub AreReplies : Option Given → List Datagram → Type 0
  AreReplies None all = all ≡ []
  AreReplies (Some given) all = AllByRecursion (λ sent. sent ≡ reply_of road given) all

  abbrev pub ClientStands : Option Sent → Option ClientContextState → Client → Type 0
  ClientStands None context client = IsDone client × (client.context ≡ context)
  ClientStands (Some sent) context client = Asks road first sent client × (context ≡ first.context)

  -- the server notes what it gave, while fewer than 64 others were answered since
  pub record HasGiven (given : Given) (since : ℕ) (server : Server) : Type 0 where
    pub fits : Fits given
    pub until : ℕ
    pub lasts : road.route.now.ms + exchange_lifetime ≤ until
    pub place : since < most_entries → HasPlace at id (record { until = until; reply = Some (spelling given.answer) }) since server.endpoint.seen

  abbrev pub IsUnheard : Server → Type 0
  IsUnheard server = (later : Moment) → road.route.now.ms ≤ later.ms → looked later at id server.endpoint.seen ≡ None

  abbrev pub ServerStands : Option Given → ℕ → Server → Type 0
  ServerStands None since server = IsUnheard server
  ServerStands (Some given) since server = HasGiven given since server

  pub record Stands (given : Option Given) (since : ℕ) (asking : Option Sent) (context : Option ClientContextState) (ends : Ends) : Type 0 where
    pub client : ClientStands asking context ends.client
    pub server : ServerStands given since ends.server
    pub requests : AreRequests ends.requests
    pub replies : AreReplies given ends.replies

  -- ---- the server, with whatever else comes

  unheard_at_other : (old new : Server) (came : Arrival (List ℕ)) (step : Step) → IsUnheard old → IsAnotherMessage at id came
      → ServerHears is_sealing old came step new → IsUnheard new
  unheard_at_other old new came step un other hears = by (notes is_sealing old came step new hears)
    where
      by : Notes is_sealing old came step new → IsUnheard new
      by (nothing same desk) later after = ap (looked later at id) same ∙ un later after
      by (a_message it) later after =
          ap (looked later at id) it.seen
          ∙ unheard_noted later at id came.at came.from it.message.id it.noted old.endpoint.seen (λ same. other same it.message it.is) (un later after)

  some_noted : (noted : Remembered) → Some noted ≡ None → ⊥
  some_noted noted e = cc

  given_at_other : (old new : Server) (came : Arrival (List ℕ)) (step : Step) (given : Given) (since : ℕ) → HasGiven given since old → IsWithin road.route came.at
      → ServerHears is_sealing old came step new → HasGiven given (since_with since step.out) new
  given_at_other old new came step given since has time hears = by (notes is_sealing old came step new hears)
    where
      its : Remembered
      its = record { until = has.until; reply = Some (spelling given.answer) }

      lives : came.at.ms < has.until
      lives = omega (arith, time.1, has.lasts)

      weaker : (n : ℕ) (seen : List Entry) → HasPlace at id its since seen → since ≤ n → HasPlace at id its n seen
      weaker n seen place few = record {
        older = place.older;
        younger = place.younger;
        is = place.is;
        few = omega (arith, place.few, few);
        before = place.before;
        after = place.after;
      }

      by_out : (out : List Datagram) → new.endpoint.seen ≡ old.endpoint.seen → since_with since out < most_entries → HasPlace at id its (since_with since out) new.endpoint.seen
      by_out [] same few = subst (HasPlace at id its since) (sym same) (has.place few)
      by_out (one ∷ out) same few = subst (HasPlace at id its (since + 1)) (sym same) (weaker (since + 1) old.endpoint.seen (has.place (omega (arith, few))) (omega arith))

      by : Notes is_sealing old came step new → HasGiven given (since_with since step.out) new
      by (nothing same desk) = record { fits = has.fits; until = has.until; lasts = has.lasts; place = by_out step.out same }
      by (a_message it) = record {
        fits = has.fits;
        until = has.until;
        lasts = has.lasts;
        place = subst (λ (out : List Datagram). since_with since out < most_entries → HasPlace at id its (since_with since out) new.endpoint.seen) (sym it.out)
            (λ few.
            let place : HasPlace at id its since old.endpoint.seen = has.place (omega (arith, few)) in
            subst (HasPlace at id its (since + 1)) (sym it.seen)
            (place_kept at id its laws.peers since old.endpoint.seen came.at came.from it.message.id it.noted place few lives
            (λ same again.
            let found : looked came.at at id old.endpoint.seen ≡ Some its = place_found at id its laws.peers since old.endpoint.seen came.at place lives in
            let there : looked came.at came.from it.message.id old.endpoint.seen ≡ Some its =
            subst (λ (n : ℕ). looked came.at came.from n old.endpoint.seen ≡ Some its) (sym again)
            (subst (λ (p : Peer). looked came.at p id old.endpoint.seen ≡ Some its) (laws.peers.same at came.from same) found) in
            some_noted its (sym there ∙ it.was_new))));
      }

  -- ---- the server, with a copy

  later_copy : (old new : Server) (now : Moment) (draw : Draw) (step : Step) (given : Given) (since : ℕ) → HasGiven given since old → since < most_entries → IsWithin road.route now
      → ServerHears is_sealing old (copy_at is_sealing Makes Keeps Ready Fits road first now draw) step new → (step ≡ sends (reply_of road given ∷ [])) × (new ≡ old)
  later_copy old new now draw step given since has few time hears =
      let noted : Remembered = record { until = has.until; reply = Some (spelling given.answer) } in
      let as_it : hears.received ≡ received.Message road.message = received_as laws.one_reception road.message hears.received (is.carried given has.fits) hears.receives in
      let found : looked now at id old.endpoint.seen ≡ Some noted =
      place_found at id noted laws.peers since old.endpoint.seen now (has.place few) (omega (arith, time.1, has.lasts)) in
      let heard_is : heard old.endpoint.seen now at hears.received ≡ heard_as.Alone (again at noted.reply) =
      ap (λ (r : Received). heard old.endpoint.seen now at r) as_it ∙ heard_again old.endpoint.seen now at road.message noted is.code is.kind found in
      subst (λ (h : Heard). ServerAnswers is_sealing old (copy_at is_sealing Makes Keeps Ready Fits road first now draw) h step new) heard_is hears.answers

  -- ---- what is asked of what comes, by how the round stands

  abbrev pub RemembersFor : Option Given → ℕ → List Happening → Type 0
  RemembersFor None since all = IsRemembered road all
  RemembersFor (Some given) since all = AreFewSince since all

  abbrev pub ReadyFor : Option Given → (old : Ends) (all : List Happening) (last : Ends) → Goes is_sealing road.route old all last → Type 0
  ReadyFor None old all last goes = IsReadyAtFirst is_sealing Ready road.route old all last goes
  ReadyFor (Some given) old all last goes = Unit {0}

  abbrev pub LeavesFor : Option Sent → List Happening → Type 0
  LeavesFor None all = Unit {0}
  LeavesFor (Some sent) all = AreLeavingWaiting road all

  abbrev IsAtClient : Event → Type 0
  IsAtClient (ClientTick now) = Unit {0}
  IsAtClient (AtClient now draw sent) = Unit {0}
  IsAtClient (OtherAtClient came) = Unit {0}
  IsAtClient event = ⊥

  remembers_later : (given : Option Given) (since : ℕ) (event : Event) (step : Step) (later : List Happening) → IsAtClient event
      → RemembersFor given since (happening_of event step ∷ later) → RemembersFor given since later
  remembers_later None since (ClientTick now) step later is it = it
  remembers_later None since (AtClient now draw sent) step later is it = it
  remembers_later None since (OtherAtClient came) step later is it = it
  remembers_later None since (ServerTick now) step later is it = absurd is
  remembers_later None since (AtServer now draw sent) step later is it = absurd is
  remembers_later None since (OtherAtServer came) step later is it = absurd is
  remembers_later (Some given) since (ClientTick now) step later is it = it
  remembers_later (Some given) since (AtClient now draw sent) step later is it = it
  remembers_later (Some given) since (OtherAtClient came) step later is it = it
  remembers_later (Some given) since (ServerTick now) step later is it = absurd is
  remembers_later (Some given) since (AtServer now draw sent) step later is it = absurd is
  remembers_later (Some given) since (OtherAtServer came) step later is it = absurd is

  ready_later : (given : Option Given) (old : Ends) (event : Event) (step : Step) (later : List Happening) (mid last : Ends)
      (happens : Happens is_sealing road.route old event step mid) (rest : Goes is_sealing road.route mid later last) → IsAtClient event
      → ReadyFor given old (happening_of event step ∷ later) last (mid, happens, rest) → ReadyFor given mid later last rest
  ready_later None old (ClientTick now) step later mid last happens rest is it = it
  ready_later None old (AtClient now draw sent) step later mid last happens rest is it = it
  ready_later None old (OtherAtClient came) step later mid last happens rest is it = it
  ready_later None old (ServerTick now) step later mid last happens rest is it = absurd is
  ready_later None old (AtServer now draw sent) step later mid last happens rest is it = absurd is
  ready_later None old (OtherAtServer came) step later mid last happens rest is it = absurd is
  ready_later (Some given) old event step later mid last happens rest is it = tt

  abbrev IsAtServerEnd : Event → Type 0
  IsAtServerEnd (ServerTick now) = Unit {0}
  IsAtServerEnd (AtServer now draw sent) = Unit {0}
  IsAtServerEnd (OtherAtServer came) = Unit {0}
  IsAtServerEnd event = ⊥

  leaves_later : (asking : Option Sent) (event : Event) (step : Step) (later : List Happening) → IsAtServerEnd event
      → LeavesFor asking (happening_of event step ∷ later) → LeavesFor asking later
  leaves_later None event step later is it = tt
  leaves_later (Some sent) (ServerTick now) step later is it = it
  leaves_later (Some sent) (AtServer now draw came) step later is it = it
  leaves_later (Some sent) (OtherAtServer came) step later is it = it
  leaves_later (Some sent) (ClientTick now) step later is it = absurd is
  leaves_later (Some sent) (AtClient now draw came) step later is it = absurd is
  leaves_later (Some sent) (OtherAtClient came) step later is it = absurd is

  -- ---- what a list comes to

  pub record Led (old : Ends) (account : Account) (all : List Happening) (last : Ends) : Type 0 where
    pub end : Account
    pub leads : IsAccount is_sealing Makes Keeps road old account all last end
    pub client : ClientStands end.asking end.context last.client

  -- ---- one more before a list

  module _ (old mid last : Ends) (step : Step) (later : List Happening) (rest : Goes is_sealing road.route mid later last) where
    abbrev Continues : Type 0
    Continues =
        (given : Option Given) (since : ℕ) (asking : Option Sent) (context : Option ClientContextState) → Stands given since asking context mid
        → RemembersFor given since later → ReadyFor given mid later last rest → LeavesFor asking later → Led mid (account_of given asking context) later last

    led : (event : Event) (account next : Account) → Happens is_sealing road.route old event step mid → ComesTo is_sealing Makes Keeps road old account event step mid next
        → Led mid next later last → Led old account (happening_of event step ∷ later) last
    led event account next happens comes it = record { end = it.end; leads = (mid, next, happens, comes, it.leads); client = it.client }

    no_more : (sent : List Datagram) (all : List Datagram) → sent ≡ [] → AreRequests all → AreRequests (sent ++ all)
    no_more sent all none are = subst (λ (out : List Datagram). AreRequests (out ++ all)) (sym none) are

    once_more : (lost : Bool) (out all : List Datagram) → GoesOut lost (request_of road ∷ []) out → AreRequests all → AreRequests (out ++ all)
    once_more false out all e are = subst (λ (o : List Datagram). AreRequests (o ++ all)) (sym e) (refl, are)
    once_more true out all e are = subst (λ (o : List Datagram). AreRequests (o ++ all)) (sym e) are

    -- a tick of the client
    module _ (given : Option Given) (since : ℕ) (context : Option ClientContextState) (now : Moment) where
      abbrev Asked : Option Sent → Type 0
      Asked asking =
          Stands given since asking context old → (happens : Happens is_sealing road.route old (ClientTick now) step mid)
          → RemembersFor given since (happening_of (ClientTick now) step ∷ later)
          → ReadyFor given old (happening_of (ClientTick now) step ∷ later) last (mid, happens, rest)
          → LeavesFor asking (happening_of (ClientTick now) step ∷ later) → Continues
          → Led old (account_of given asking context) (happening_of (ClientTick now) step ∷ later) last

      by_due : (sent : Sent) (due : Due) → outstanding_due now (open_as road sent) sent ≡ due → Stands given since (Some sent) context old
          → (happens : Happens is_sealing road.route old (ClientTick now) step mid)
          → RemembersFor given since (happening_of (ClientTick now) step ∷ later)
          → ReadyFor given old (happening_of (ClientTick now) step ∷ later) last (mid, happens, rest)
          → AreLeavingWaiting road later → Continues
          → (next : Account) × ClientDoes is_sealing Makes Keeps road (account_of given (Some sent) context) sent due step next × Led mid next later last
      by_due sent Keep e stands happens remembers ready leaves more =
          let it = kept_at_tick road old.client happens.0 now step first is.waits sent stands.client.0 happens.1 e in (
            account_of given (Some sent) context,
            (it.0, refl),
            more given since (Some sent) context
                (subst (Stands given since (Some sent) context) (sym happens.2)
                (record {
                  client = (it.1, stands.client.1);
                  server = stands.server;
                  requests = no_more step.out old.requests (nothing_due step.notes.lost step.out it.0.0) stands.requests;
                  replies = stands.replies;
                }))
                (remembers_later given since (ClientTick now) step later tt remembers) (ready_later given old (ClientTick now) step later mid last happens rest tt ready) leaves,
          )
      by_due sent Send e stands happens remembers ready leaves more =
          let it = sent_at_tick road old.client happens.0 now step first is.waits sent stands.client.0 happens.1 e in
          let again : Sent = record sent { repeats = sent.repeats + 1 } in (
            account_of given (Some again) context,
            (it.0, refl),
            more given since (Some again) context
                (subst (Stands given since (Some again) context) (sym happens.2)
                (record {
                  client = (it.1, stands.client.1);
                  server = stands.server;
                  requests = once_more step.notes.lost step.out old.requests it.0.0 stands.requests;
                  replies = stands.replies;
                }))
                (remembers_later given since (ClientTick now) step later tt remembers) (ready_later given old (ClientTick now) step later mid last happens rest tt ready) leaves,
          )
      by_due sent GiveUp e stands happens remembers ready leaves more =
          let it = given_up_at_tick road old.client happens.0 now step first is.waits sent stands.client.0 happens.1 e in (
            account_of given None context,
            (it.0, refl),
            more given since None context
                (subst (Stands given since None context) (sym happens.2)
                (record {
                  client = (it.1, it.2 ∙ ap (λ (c : Client). c.context) stands.client.0.kept ∙ sym stands.client.1);
                  server = stands.server;
                  requests = no_more step.out old.requests it.0.0 stands.requests;
                  replies = stands.replies;
                }))
                (remembers_later given since (ClientTick now) step later tt remembers) (ready_later given old (ClientTick now) step later mid last happens rest tt ready) tt,
          )

      client_tick : (asking : Option Sent) → Asked asking
      client_tick None stands happens remembers ready leaves more =
          let it = tick_when_done road old.client happens.0 now step stands.client.0 happens.1 in
          led (ClientTick now) (account_of given None context) (account_of given None context) happens (it.0, refl)
          (more given since None context
          (subst (Stands given since None context) (sym happens.2)
          (record {
            client = (it.1, it.2 ∙ stands.client.1);
            server = stands.server;
            requests = no_more step.out old.requests (nothing_due step.notes.lost step.out it.0.0) stands.requests;
            replies = stands.replies;
          }))
          (remembers_later given since (ClientTick now) step later tt remembers) (ready_later given old (ClientTick now) step later mid last happens rest tt ready) tt)
      client_tick (Some sent) stands happens remembers ready leaves more =
          let it = by_due sent (outstanding_due now (open_as road sent) sent) refl stands happens remembers ready leaves more in
          led (ClientTick now) (account_of given (Some sent) context) it.0 happens it.1 it.2

    -- a tick of the server
    server_tick : (given : Option Given) (since : ℕ) (asking : Option Sent) (context : Option ClientContextState) (now : Moment) → Stands given since asking context old
        → (happens : Happens is_sealing road.route old (ServerTick now) step mid) → IsWithin road.route now
        → RemembersFor given since (happening_of (ServerTick now) step ∷ later)
        → ReadyFor given old (happening_of (ServerTick now) step ∷ later) last (mid, happens, rest)
        → LeavesFor asking (happening_of (ServerTick now) step ∷ later) → Continues
        → Led old (account_of given asking context) (happening_of (ServerTick now) step ∷ later) last
    server_tick None since asking context now stands happens time remembers ready leaves more =
        led (ServerTick now) (account_of None asking context) (account_of None asking context) happens (happens.1.sent, refl)
        (more None since asking context
        (subst (Stands None since asking context) (sym happens.2)
        (record {
          client = stands.client;
          server = λ later_on after.
              ap (λ (s : Server). looked later_on at id s.endpoint.seen) happens.1.kept
              ∙ unheard_at_tick now later_on at id old.server.endpoint.seen (stands.server later_on after);
          requests = stands.requests;
          replies = stands.replies;
        }))
        remembers ready (leaves_later asking (ServerTick now) step later tt leaves))
    server_tick (Some given) since asking context now stands happens time remembers ready leaves more =
        let its : Remembered = record { until = stands.server.until; reply = Some (spelling given.answer) } in
        led (ServerTick now) (account_of (Some given) asking context) (account_of (Some given) asking context) happens (happens.1.sent, refl)
        (more (Some given) since asking context
        (subst (Stands (Some given) since asking context) (sym happens.2)
        (record {
          client = stands.client;
          server = record {
            fits = stands.server.fits;
            until = stands.server.until;
            lasts = stands.server.lasts;
            place = λ few.
                subst (λ (s : Server). HasPlace at id its since s.endpoint.seen) (sym happens.1.kept)
                (place_at_tick at id its since old.server.endpoint.seen now (stands.server.place few) (omega (arith, time.1, stands.server.lasts)));
          };
          requests = stands.requests;
          replies = stands.replies;
        }))
        remembers tt (leaves_later asking (ServerTick now) step later tt leaves))

    -- a copy of the message comes to the server
    at_server : (given : Option Given) (since : ℕ) (asking : Option Sent) (context : Option ClientContextState) (now : Moment) (draw : Draw) (sent : Datagram) → Stands given since asking context old
        → (happens : Happens is_sealing road.route old (AtServer now draw sent) step mid) → IsWithin road.route now
        → RemembersFor given since (happening_of (AtServer now draw sent) step ∷ later)
        → ReadyFor given old (happening_of (AtServer now draw sent) step ∷ later) last (mid, happens, rest)
        → LeavesFor asking (happening_of (AtServer now draw sent) step ∷ later) → Continues
        → Led old (account_of given asking context) (happening_of (AtServer now draw sent) step ∷ later) last
    at_server None since asking context now draw sent stands happens time remembers ready leaves more =
        let same : sent ≡ request_of road = in_all (λ sent. sent ≡ request_of road) old.requests sent stands.requests happens.0 in
        let it : TakesUp is_sealing Makes Keeps Ready Fits road first old.server now draw step happens.1.0 =
        is.takes_up old.server happens.1.0 now draw step ready (stands.server now time.0)
        (subst (λ (d : Datagram). ServerHears is_sealing old.server (record { at = now; from = at; draw = draw; what = d.bytes }) step happens.1.0) same happens.1.1) in
        led (AtServer now draw sent) (account_of None asking context) (account_of (Some it.given) asking context) happens (it.given, happens.1.0, it.made, happens.1.2, refl)
        (more (Some it.given) 0 asking context
        (subst (Stands (Some it.given) 0 asking context) (sym happens.1.2)
        (record {
          client = stands.client;
          server = record {
            fits = it.fits;
            until = now.ms + exchange_lifetime;
            lasts = omega (arith, time.0);
            place = λ few.
                subst (HasPlace at id (record { until = now.ms + exchange_lifetime; reply = Some (spelling it.given.answer) }) 0) (sym it.seen)
                (place_first at id (record { until = now.ms + exchange_lifetime; reply = Some (spelling it.given.answer) }) now old.server.endpoint.seen);
          };
          requests = stands.requests;
          replies =
              subst (λ (out : List Datagram). AreReplies (Some it.given) (out ++ old.replies)) (sym it.out)
              (subst (λ (all : List Datagram). AreReplies (Some it.given) (reply_of road it.given ∷ all)) (sym stands.replies) (refl, tt));
        }))
        remembers tt (leaves_later asking (AtServer now draw sent) step later tt leaves))
    at_server (Some given) since asking context now draw sent stands happens time remembers ready leaves more =
        let same : sent ≡ request_of road = in_all (λ sent. sent ≡ request_of road) old.requests sent stands.requests happens.0 in
        let it = later_copy old.server happens.1.0 now draw step given since stands.server remembers.0 time
        (subst (λ (d : Datagram). ServerHears is_sealing old.server (record { at = now; from = at; draw = draw; what = d.bytes }) step happens.1.0) same happens.1.1) in
        led (AtServer now draw sent) (account_of (Some given) asking context) (account_of (Some given) asking context) happens (it.0, refl)
        (more (Some given) since asking context
        (subst (Stands (Some given) since asking context) (sym happens.1.2)
        (record {
          client = stands.client;
          server = subst (HasGiven given since) (sym it.1) stands.server;
          requests = stands.requests;
          replies = subst (λ (s : Step). AreReplies (Some given) (s.out ++ old.replies)) (sym it.0) (refl, stands.replies);
        }))
        remembers.1 tt (leaves_later asking (AtServer now draw sent) step later tt leaves))

    -- an answer comes to the client
    none_here : (all : List Datagram) (one : Datagram) → all ≡ [] → In one all → ⊥
    none_here all one none here = subst (λ (l : List Datagram). In one l) none here

    at_client : (given : Option Given) (since : ℕ) (asking : Option Sent) (context : Option ClientContextState) (now : Moment) (draw : Draw) (sent : Datagram) → Stands given since asking context old
        → (happens : Happens is_sealing road.route old (AtClient now draw sent) step mid)
        → RemembersFor given since (happening_of (AtClient now draw sent) step ∷ later)
        → ReadyFor given old (happening_of (AtClient now draw sent) step ∷ later) last (mid, happens, rest) → Continues
        → Led old (account_of given asking context) (happening_of (AtClient now draw sent) step ∷ later) last
    at_client None since asking context now draw sent stands happens remembers ready more = absurd (none_here old.replies sent stands.replies happens.0)
    at_client (Some given) since None context now draw sent stands happens remembers ready more =
        let it : Stays old.client step happens.1.0 =
        stays_idle is_sealing old.client (record { at = now; from = road.route.server_at; draw = draw; what = sent.bytes }) step happens.1.0 stands.client.0.waiting stands.client.0.sending happens.1.1 in
        led (AtClient now draw sent) (account_of (Some given) None context) (account_of (Some given) None context) happens (it.result, refl)
        (more (Some given) since None context
        (subst (Stands (Some given) since None context) (sym happens.1.2)
        (record {
          client = (
            record { waiting = ap (λ (c : Client). c.waiting) it.kept ∙ stands.client.0.waiting; sending = it.sending ∙ stands.client.0.sending },
            ap (λ (c : Client). c.context) it.kept ∙ stands.client.1,
          );
          server = stands.server;
          requests = stands.requests;
          replies = stands.replies;
        }))
        remembers tt tt)
    at_client (Some given) since (Some asked) context now draw sent stands happens remembers ready more =
        let same : sent ≡ reply_of road given = in_all (λ sent. sent ≡ reply_of road given) old.replies sent stands.replies happens.0 in
        let it = is.learns given asked old.client happens.1.0 now draw step stands.server.fits stands.client.0
        (subst (λ (d : Datagram). ClientHears is_sealing old.client (record { at = now; from = road.route.server_at; draw = draw; what = d.bytes }) step happens.1.0) same happens.1.1) in
        led (AtClient now draw sent) (account_of (Some given) (Some asked) context) (account_of (Some given) None happens.1.0.context) happens (given, refl, it.told, (happens.1.0.context, it.keeps, refl))
        (more (Some given) since None happens.1.0.context
        (subst (Stands (Some given) since None happens.1.0.context) (sym happens.1.2)
        (record {
          client = (it.done, refl);
          server = stands.server;
          requests = stands.requests;
          replies = stands.replies;
        }))
        remembers tt tt)

    -- whatever else comes to the server
    other_at_server : (given : Option Given) (since : ℕ) (asking : Option Sent) (context : Option ClientContextState) (came : Arrival (List ℕ)) → Stands given since asking context old
        → (happens : Happens is_sealing road.route old (OtherAtServer came) step mid) → IsWithin road.route came.at
        → RemembersFor given since (happening_of (OtherAtServer came) step ∷ later)
        → ReadyFor given old (happening_of (OtherAtServer came) step ∷ later) last (mid, happens, rest)
        → LeavesFor asking (happening_of (OtherAtServer came) step ∷ later) → Continues
        → Led old (account_of given asking context) (happening_of (OtherAtServer came) step ∷ later) last
    other_at_server None since asking context came stands happens time remembers ready leaves more =
        led (OtherAtServer came) (account_of None asking context) (account_of None asking context) happens refl
        (more None since asking context
        (subst (Stands None since asking context) (sym happens.2)
        (record {
          client = stands.client;
          server = unheard_at_other old.server happens.0 came step stands.server remembers.0 happens.1;
          requests = stands.requests;
          replies = stands.replies;
        }))
        remembers.1 ready (leaves_later asking (OtherAtServer came) step later tt leaves))
    other_at_server (Some given) since asking context came stands happens time remembers ready leaves more =
        led (OtherAtServer came) (account_of (Some given) asking context) (account_of (Some given) asking context) happens refl
        (more (Some given) (since_with since step.out) asking context
        (subst (Stands (Some given) (since_with since step.out) asking context) (sym happens.2)
        (record {
          client = stands.client;
          server = given_at_other old.server happens.0 came step given since stands.server time happens.1;
          requests = stands.requests;
          replies = stands.replies;
        }))
        (counted step.out remembers) tt (leaves_later asking (OtherAtServer came) step later tt leaves))
      where
        counted : (out : List Datagram) → IfAnswered out (AreFewSince since later) (AreFewSince (since + 1) later) → AreFewSince (since_with since out) later
        counted [] few = few
        counted (one ∷ out) few = few

    -- whatever else comes to the client
    other_at_client : (given : Option Given) (since : ℕ) (asking : Option Sent) (context : Option ClientContextState) (came : Arrival (List ℕ)) → Stands given since asking context old
        → (happens : Happens is_sealing road.route old (OtherAtClient came) step mid)
        → RemembersFor given since (happening_of (OtherAtClient came) step ∷ later)
        → ReadyFor given old (happening_of (OtherAtClient came) step ∷ later) last (mid, happens, rest)
        → LeavesFor asking (happening_of (OtherAtClient came) step ∷ later) → Continues
        → Led old (account_of given asking context) (happening_of (OtherAtClient came) step ∷ later) last
    other_at_client given since None context came stands happens remembers ready leaves more =
        let it : Stays old.client step happens.0 = stays_idle is_sealing old.client came step happens.0 stands.client.0.waiting stands.client.0.sending happens.1 in
        led (OtherAtClient came) (account_of given None context) (account_of given None context) happens (it.result, refl)
        (more given since None context
        (subst (Stands given since None context) (sym happens.2)
        (record {
          client = (
            record { waiting = ap (λ (c : Client). c.waiting) it.kept ∙ stands.client.0.waiting; sending = it.sending ∙ stands.client.0.sending },
            ap (λ (c : Client). c.context) it.kept ∙ stands.client.1,
          );
          server = stands.server;
          requests = stands.requests;
          replies = stands.replies;
        }))
        (remembers_later given since (OtherAtClient came) step later tt remembers) (ready_later given old (OtherAtClient came) step later mid last happens rest tt ready) tt)
    other_at_client given since (Some asked) context came stands happens remembers ready leaves more =
        let asks : Asks road first asked old.client = stands.client.0 in
        let it : Stays old.client step happens.0 =
        stays_waiting is_sealing laws.peers road old.client came step happens.0 is.waits.waiting (ap (λ (c : Client). c.waiting) asks.kept ∙ is.waits.waits) is.waits.id is.waits.token
        (ap (λ (c : Client). c.next_hop) asks.kept ∙ is.waits.next_hop) (open_as road asked) asks.sending refl refl leaves.0 happens.1 in
        led (OtherAtClient came) (account_of given (Some asked) context) (account_of given (Some asked) context) happens (it.result, refl)
        (more given since (Some asked) context
        (subst (Stands given since (Some asked) context) (sym happens.2)
        (record {
          client = (
            record {
              kept = it.kept ∙ ap (λ (c : Client). record c { endpoint = happens.0.endpoint }) asks.kept;
              sending = it.sending ∙ asks.sending;
              few = asks.few;
            },
            stands.client.1,
          );
          server = stands.server;
          requests = stands.requests;
          replies = stands.replies;
        }))
        (remembers_later given since (OtherAtClient came) step later tt remembers) (ready_later given old (OtherAtClient came) step later mid last happens rest tt ready) leaves.1)

    by_event : (given : Option Given) (since : ℕ) (asking : Option Sent) (context : Option ClientContextState) (event : Event) → Stands given since asking context old
        → (happens : Happens is_sealing road.route old event step mid) → IsEventWithin road.route event
        → RemembersFor given since (happening_of event step ∷ later)
        → ReadyFor given old (happening_of event step ∷ later) last (mid, happens, rest)
        → LeavesFor asking (happening_of event step ∷ later) → Continues
        → Led old (account_of given asking context) (happening_of event step ∷ later) last
    by_event given since asking context (ClientTick now) stands happens time remembers ready leaves more =
        client_tick given since context now asking stands happens remembers ready leaves more
    by_event given since asking context (ServerTick now) stands happens time remembers ready leaves more =
        server_tick given since asking context now stands happens time remembers ready leaves more
    by_event given since asking context (AtServer now draw sent) stands happens time remembers ready leaves more =
        at_server given since asking context now draw sent stands happens time remembers ready leaves more
    by_event given since asking context (AtClient now draw sent) stands happens time remembers ready leaves more =
        at_client given since asking context now draw sent stands happens remembers ready more
    by_event given since asking context (OtherAtServer came) stands happens time remembers ready leaves more =
        other_at_server given since asking context came stands happens time remembers ready leaves more
    by_event given since asking context (OtherAtClient came) stands happens time remembers ready leaves more =
        other_at_client given since asking context came stands happens remembers ready leaves more

  -- ---- one after the other

  pub goes_by_account : (all : List Happening) (given : Option Given) (since : ℕ) (asking : Option Sent) (context : Option ClientContextState) (old last : Ends)
      (goes : Goes is_sealing road.route old all last) → Stands given since asking context old → AreWithin road.route all
      → RemembersFor given since all → ReadyFor given old all last goes → LeavesFor asking all → Led old (account_of given asking context) all last
  goes_by_account [] given since asking context old last goes stands time remembers ready leaves =
      record { end = account_of given asking context; leads = (goes, refl); client = subst (λ (e : Ends). ClientStands asking context e.client) (sym goes) stands.client }
  goes_by_account (happening ∷ later) given since asking context old last goes stands time remembers ready leaves =
      by_event old goes.0 last happening.step later goes.2 given since asking context happening.event stands goes.1 time.0 remembers ready leaves
      (λ given2 since2 asking2 context2 stands2 remembers2 ready2 leaves2.
      goes_by_account later given2 since2 asking2 context2 goes.0 last goes.2 stands2 time.1 remembers2 ready2 leaves2)
