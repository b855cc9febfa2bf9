-- Each happening of a lossy round comes to what its account says, and leaves both ends as the account says; so does every list of them.
use Rattle.std.proofs.Common.{◌≡◌, ◌∙◌, sym, ap, subst, refl, ◌+◌, Bool, true, false, List, [], ◌∷◌, ◌++◌, Option, Some, None, inl, inr}
use Rattle.std.specs.List.{AllByRecursion}
use Rattle.osc_model.specs.{sends}
use Rattle.osc_model.specs.declared.node.Draw.{Draw}
use Rattle.osc_model.specs.declared.node.Moment.{Moment}
use Rattle.osc_model.specs.declared.step.Datagram.{Datagram}
use Rattle.osc_model.specs.declared.step.Step.{Step}
use Rattle.osc_message.specs.{GoesOut, Sent, datagram}
use Rattle.osc_message.specs.Ticks.{outstanding_due}
use Rattle.osc_message.specs.declared.due.Due.{Due}
use Rattle.osc_message.specs.declared.due.Due.TheVariants.{Keep, Send, GiveUp}
use Rattle.osc_ccm.specs.{Sealings, Tags}
use Rattle.osc_authz.specs.{In, IsLive}
use Rattle.osc_server.specs.State.{State as Server}
use Rattle.osc_server.specs.{standing_of, Hears as ServerHears}
use Rattle.osc_server.specs.Hearing.{Ticks as ServerTicks}
use Rattle.osc_client.specs.State.{State as Client}
use Rattle.osc_client.specs.{Hears as ClientHears, Ticks as ClientTicks}
use Rattle.osc_rounds.specs.AskRound.{StraightRequest}
use Rattle.osc_rounds.specs.Loss.{AreAddressed, AreWithin, AtClient, AtServer, ClientTick, Ends, Event, Given, Goes, Happening, Happens, IsEventWithin, IsWithin, LivesAtFirst, OnTheRoad, SendsDue, ServerTick, request_of, route_of}
use Rattle.osc_rounds.proofs.LossAccount.{Account, ClientDoes, ClientLearns, ClientTicksSo, ComesTo, IsAccount, ServerAnswers, open_as}
use Rattle.osc_rounds.proofs.AskRound.{RoundLaws}
use Rattle.osc_rounds.proofs.LossServer.{HasGiven, IsOnTheRoad, ServerStands, TableLaws, first_copy, later_copy, tick_after, tick_before}
use Rattle.osc_rounds.proofs.LossClient.{ClientStands, given_up_at_tick, kept_at_tick, nothing_due, reply_when_done, reply_while_asking, sent_at_tick, tick_when_done}

in_all : (P : Datagram → Type 0) (all : List Datagram) (one : Datagram) → AllByRecursion P all → In one all → P one
in_all P [] one are here = absurd here
in_all P (first ∷ all) one are (inl same) = subst P (sym same) are.0
in_all P (first ∷ all) one are (inr here) = in_all P all one are.1 here

all_of_both : (P : Datagram → Type 0) (a b : List Datagram) → AllByRecursion P a → AllByRecursion P b → AllByRecursion P (a ++ b)
all_of_both P [] b are and = and
all_of_both P (first ∷ a) b are and = (are.0, all_of_both P a b are.1 and)

module _ (is_sealing : Sealings) (tag : Tags) (laws : RoundLaws is_sealing tag) (table : TableLaws) (road : OnTheRoad) (is : IsOnTheRoad is_sealing road) where
  abbrev way : StraightRequest
  way = road.way

  abbrev AreRequests : List Datagram → Type 0
  AreRequests all = AllByRecursion (λ sent. sent ≡ request_of road) all

  abbrev AreRepliesOf : Given → List Datagram → Type 0
  AreRepliesOf given all = AllByRecursion (λ sent. sent ≡ datagram way.at given.answer) all

  abbrev AreReplies : Option Given → List Datagram → Type 0
  AreReplies None all = all ≡ []
  AreReplies (Some given) all = AreRepliesOf given all

  -- both ends stand as the account says, and what each sent is the request, or the answer to it
  pub record Stands (account : Account) (ends : Ends) : Type 0 where
    pub client : ClientStands road account.asking ends.client
    pub server : ServerStands is_sealing road account.given ends.server
    pub requests : AreRequests ends.requests
    pub replies : AreReplies account.given ends.replies

  to_server : (all : List Datagram) → AreRequests all → AllByRecursion (λ sent. sent.to ≡ way.server_at) all
  to_server [] are = tt
  to_server (one ∷ all) are = (ap (λ (d : Datagram). d.to) are.0, to_server all are.1)

  to_client : (given : Given) (all : List Datagram) → AreRepliesOf given all → AllByRecursion (λ sent. sent.to ≡ way.at) all
  to_client given [] are = tt
  to_client given (one ∷ all) are = (ap (λ (d : Datagram). d.to) are.0, to_client given all are.1)

  replies_to : (given : Option Given) (all : List Datagram) → AreReplies given all → AllByRecursion (λ sent. sent.to ≡ way.at) all
  replies_to None all none = subst (λ (l : List Datagram). AllByRecursion (λ sent. sent.to ≡ way.at) l) (sym none) tt
  replies_to (Some given) all are = to_client given all are

  pub addressed : (account : Account) (ends : Ends) → Stands account ends → AreAddressed (route_of way) ends
  addressed account ends stands = record { requests = to_server ends.requests stands.requests; replies = replies_to account.given ends.replies stands.replies }

  abbrev account_of : Option Given → Option Sent → Account
  account_of given asking = record { given = given; asking = asking }

  -- what a step comes to
  abbrev Comes : Account → Event → Step → Ends → Type 0
  Comes account event step new = (next : Account) × ComesTo road account event step next × Stands next new

  no_more_requests : (step : Step) (all : List Datagram) → step.out ≡ [] → AreRequests all → AreRequests (step.out ++ all)
  no_more_requests step all none are = subst (λ (out : List Datagram). AreRequests (out ++ all)) (sym none) are

  nothing_more : (step : Step) (all : List Datagram) → SendsDue [] step → AreRequests all → AreRequests (step.out ++ all)
  nothing_more step all due are = no_more_requests step all (nothing_due step.notes.lost step.out due.0) are

  no_more_replies : (given : Option Given) (step : Step) (all : List Datagram) → step ≡ sends [] → AreReplies given all → AreReplies given (step.out ++ all)
  no_more_replies given step all none are = subst (λ (s : Step). AreReplies given (s.out ++ all)) (sym none) are

  request_again : (lost : Bool) (out all : List Datagram) → GoesOut lost (request_of road ∷ []) out → AreRequests all → AreRequests (out ++ all)
  request_again false out all e are = subst (λ (o : List Datagram). AreRequests (o ++ all)) (sym e) (refl, are)
  request_again true out all e are = subst (λ (o : List Datagram). AreRequests (o ++ all)) (sym e) are

  -- ---- a tick of the client

  client_due : (given : Option Given) (sent : Sent) (old : Ends) (now : Moment) (step : Step) (client : Client) (due : Due)
      → Stands (account_of given (Some sent)) old → ClientTicks old.client now step client → outstanding_due now (open_as road sent) sent ≡ due
      → (next : Account) × ClientDoes road (account_of given (Some sent)) sent due step next × Stands next (record old { client = client; requests = step.out ++ old.requests })
  client_due given sent old now step client Keep stands ticks e =
      let it = kept_at_tick road old.client client now step sent stands.client ticks e in (
        account_of given (Some sent),
        (it.0, refl),
        record { client = it.1; server = stands.server; requests = nothing_more step old.requests it.0 stands.requests; replies = stands.replies },
      )
  client_due given sent old now step client Send stands ticks e =
      let it = sent_at_tick road old.client client now step sent stands.client ticks e in (
        account_of given (Some (record sent { repeats = sent.repeats + 1 })),
        (it.0, refl),
        record {
          client = it.1;
          server = stands.server;
          requests = request_again step.notes.lost step.out old.requests it.0.0 stands.requests;
          replies = stands.replies;
        },
      )
  client_due given sent old now step client GiveUp stands ticks e =
      let it = given_up_at_tick road old.client client now step sent stands.client ticks e in (
        account_of given None,
        (it.0, refl),
        record {
          client = it.1;
          server = stands.server;
          requests = no_more_requests step old.requests it.0.0 stands.requests;
          replies = stands.replies;
        },
      )

  client_tick : (given : Option Given) (asking : Option Sent) (old : Ends) (now : Moment) (step : Step) (client : Client)
      → Stands (account_of given asking) old → ClientTicks old.client now step client
      → Comes (account_of given asking) (ClientTick now) step (record old { client = client; requests = step.out ++ old.requests })
  client_tick given None old now step client stands ticks =
      let it = tick_when_done road old.client client now step stands.client ticks in (
        account_of given None,
        (it.0, refl),
        record { client = it.1; server = stands.server; requests = nothing_more step old.requests it.0 stands.requests; replies = stands.replies },
      )
  client_tick given (Some sent) old now step client stands ticks =
      client_due given sent old now step client (outstanding_due now (open_as road sent) sent) stands ticks refl

  -- ---- a tick of the server

  server_tick : (given : Option Given) (asking : Option Sent) (old : Ends) (now : Moment) (step : Step) (server : Server)
      → Stands (account_of given asking) old → IsWithin (route_of way) now → ServerTicks old.server now step server
      → Comes (account_of given asking) (ServerTick now) step (record old { server = server; replies = step.out ++ old.replies })
  server_tick None asking old now step server stands time ticks = (
    account_of None asking,
    (ticks.sent, refl),
    record {
      client = stands.client;
      server = tick_before is_sealing tag laws table road is old.server server now step stands.server ticks;
      requests = stands.requests;
      replies = no_more_replies None step old.replies ticks.sent stands.replies;
    },
  )
  server_tick (Some given) asking old now step server stands time ticks = (
    account_of (Some given) asking,
    (ticks.sent, refl),
    record {
      client = stands.client;
      server = (tick_after is_sealing tag laws table road is old.server server now step given stands.server.0 time ticks, stands.server.1);
      requests = stands.requests;
      replies = no_more_replies (Some given) step old.replies ticks.sent stands.replies;
    },
  )

  -- ---- a copy of the request comes to the server

  -- the context lives, where nothing was given yet
  abbrev LivesNow : Option Given → Moment → Type 0
  LivesNow None now = IsLive (standing_of way.server now) way.held
  LivesNow (Some given) now = Unit {0}

  abbrev LivesFor : Option Given → Event → Type 0
  LivesFor given (AtServer now draw sent) = LivesNow given now
  LivesFor given event = Unit {0}

  at_server : (given : Option Given) (asking : Option Sent) (old : Ends) (now : Moment) (draw : Draw) (sent : Datagram) (step : Step) (server : Server)
      → Stands (account_of given asking) old → IsWithin (route_of way) now → LivesNow given now → In sent old.requests
      → ServerHears is_sealing old.server (record { at = now; from = way.at; draw = draw; what = sent.bytes }) step server
      → Comes (account_of given asking) (AtServer now draw sent) step (record old { server = server; replies = step.out ++ old.replies })
  at_server None asking old now draw sent step server stands time live here hears =
      let same : sent ≡ request_of road = in_all (λ sent. sent ≡ request_of road) old.requests sent stands.requests here in
      let it = first_copy is_sealing tag laws table road is old.server server now step draw stands.server time live
      (subst (λ (d : Datagram). ServerHears is_sealing old.server (record { at = now; from = way.at; draw = draw; what = d.bytes }) step server) same hears) in (
        account_of (Some it.0) asking,
        (it.0, it.1, refl),
        record {
          client = stands.client;
          server = (it.2, it.3);
          requests = stands.requests;
          replies =
              subst (λ (s : Step). AreRepliesOf it.0 (s.out ++ old.replies)) (sym it.1.told)
              (subst (λ (all : List Datagram). AreRepliesOf it.0 (datagram way.at it.0.answer ∷ all)) (sym stands.replies) (refl, tt));
        },
      )
  at_server (Some given) asking old now draw sent step server stands time live here hears =
      let same : sent ≡ request_of road = in_all (λ sent. sent ≡ request_of road) old.requests sent stands.requests here in
      let it = later_copy is_sealing tag laws table road is old.server server now step draw given stands.server.0 time
      (subst (λ (d : Datagram). ServerHears is_sealing old.server (record { at = now; from = way.at; draw = draw; what = d.bytes }) step server) same hears) in (
        account_of (Some given) asking,
        (it.0, refl),
        record {
          client = stands.client;
          server = (subst (λ (s : Server). HasGiven is_sealing road given s) (sym it.1) stands.server.0, stands.server.1);
          requests = stands.requests;
          replies = subst (λ (s : Step). AreRepliesOf given (s.out ++ old.replies)) (sym it.0) (refl, stands.replies);
        },
      )

  -- ---- a reply comes to the client

  none_here : (all : List Datagram) (one : Datagram) → all ≡ [] → In one all → ⊥
  none_here all one none here = subst (λ (l : List Datagram). In one l) none here

  at_client : (given : Option Given) (asking : Option Sent) (old : Ends) (now : Moment) (draw : Draw) (sent : Datagram) (step : Step) (client : Client)
      → Stands (account_of given asking) old → In sent old.replies
      → ClientHears is_sealing old.client (record { at = now; from = way.server_at; draw = draw; what = sent.bytes }) step client
      → Comes (account_of given asking) (AtClient now draw sent) step (record old { client = client; requests = step.out ++ old.requests })
  at_client None asking old now draw sent step client stands here hears = absurd (none_here old.replies sent stands.replies here)
  at_client (Some given) None old now draw sent step client stands here hears =
      let same : sent ≡ datagram way.at given.answer = in_all (λ sent. sent ≡ datagram way.at given.answer) old.replies sent stands.replies here in
      let it = reply_when_done is_sealing tag laws road given stands.server.1 old.client client now draw step stands.client
      (subst (λ (d : Datagram). ClientHears is_sealing old.client (record { at = now; from = way.server_at; draw = draw; what = d.bytes }) step client) same hears) in (
        account_of (Some given) None,
        (it.0, refl),
        record { client = it.1; server = stands.server; requests = no_more_requests step old.requests (ap (λ (s : Step). s.out) it.0) stands.requests; replies = stands.replies },
      )
  at_client (Some given) (Some asked) old now draw sent step client stands here hears =
      let same : sent ≡ datagram way.at given.answer = in_all (λ sent. sent ≡ datagram way.at given.answer) old.replies sent stands.replies here in
      let it = reply_while_asking is_sealing tag laws road given stands.server.1 old.client client now draw step asked stands.client
      (subst (λ (d : Datagram). ClientHears is_sealing old.client (record { at = now; from = way.server_at; draw = draw; what = d.bytes }) step client) same hears) in (
        account_of (Some given) None,
        (given, refl, it.0, refl),
        record {
          client = it.1;
          server = stands.server;
          requests = subst (λ (s : Step). AreRequests (s.out ++ old.requests)) (sym it.0) stands.requests;
          replies = stands.replies;
        },
      )

  -- ---- one after the other

  one : (account : Account) (event : Event) (old new : Ends) (step : Step) → Stands account old → IsEventWithin (route_of way) event → LivesFor account.given event
      → Happens is_sealing (route_of way) old event step new → Comes account event step new
  one account (ClientTick now) old new step stands time live happens =
      subst (λ (ends : Ends). Comes account (ClientTick now) step ends) (sym happens.2)
      (client_tick account.given account.asking old now step happens.0 stands happens.1)
  one account (ServerTick now) old new step stands time live happens =
      subst (λ (ends : Ends). Comes account (ServerTick now) step ends) (sym happens.2)
      (server_tick account.given account.asking old now step happens.0 stands time happens.1)
  one account (AtServer now draw sent) old new step stands time live happens =
      subst (λ (ends : Ends). Comes account (AtServer now draw sent) step ends) (sym happens.1.2)
      (at_server account.given account.asking old now draw sent step happens.1.0 stands time live happens.0 happens.1.1)
  one account (AtClient now draw sent) old new step stands time live happens =
      subst (λ (ends : Ends). Comes account (AtClient now draw sent) step ends) (sym happens.1.2)
      (at_client account.given account.asking old now draw sent step happens.1.0 stands happens.0 happens.1.1)

  -- the context lives at the first of these copies, where nothing was given yet
  abbrev LivesFirst : Option Given → List Happening → Type 0
  LivesFirst None all = LivesAtFirst way all
  LivesFirst (Some given) all = Unit {0}

  lives_now : (given : Option Given) (event : Event) (later : List Happening) (step : Step) → LivesFirst given (record { event = event; step = step } ∷ later) → LivesFor given event
  lives_now given (ClientTick now) later step live = tt
  lives_now given (ServerTick now) later step live = tt
  lives_now given (AtClient now draw sent) later step live = tt
  lives_now None (AtServer now draw sent) later step live = live
  lives_now (Some given) (AtServer now draw sent) later step live = tt

  same_given : (given : Option Given) (account next : Account) (later : List Happening) → account.given ≡ given → next.given ≡ account.given → LivesFirst given later → LivesFirst next.given later
  same_given given account next later is same live = subst (λ (g : Option Given). LivesFirst g later) (sym is ∙ sym same) live

  lives_then : (account next : Account) (event : Event) (later : List Happening) (step : Step) → ComesTo road account event step next
      → LivesFirst account.given (record { event = event; step = step } ∷ later) → LivesFirst next.given later
  lives_then account next event later step comes live = by account.given event refl live comes
    where
      some : (given : Given) → next.given ≡ Some given → LivesFirst next.given later
      some given is = subst (λ (g : Option Given). LivesFirst g later) (sym is) tt

      by_due : (sent : Sent) (due : Due) → ClientDoes road account sent due step next → next.given ≡ account.given
      by_due sent Keep it = ap (λ (a : Account). a.given) it.1
      by_due sent Send it = ap (λ (a : Account). a.given) it.1
      by_due sent GiveUp it = ap (λ (a : Account). a.given) it.1

      by_tick : (asking : Option Sent) (now : Moment) → ClientTicksSo road now account asking step next → next.given ≡ account.given
      by_tick None now it = ap (λ (a : Account). a.given) it.1
      by_tick (Some sent) now it = by_due sent (outstanding_due now (open_as road sent) sent) it

      by_reply : (asking : Option Sent) → ClientLearns road account asking step next → next.given ≡ account.given
      by_reply None it = ap (λ (a : Account). a.given) it.1
      by_reply (Some sent) it = ap (λ (a : Account). a.given) it.3

      by : (given : Option Given) (event : Event) → account.given ≡ given → LivesFirst given (record { event = event; step = step } ∷ later) → ComesTo road account event step next
          → LivesFirst next.given later
      by None (ClientTick now) is live it = same_given None account next later is (by_tick account.asking now it) live
      by None (ServerTick now) is live it = same_given None account next later is (ap (λ (a : Account). a.given) it.1) live
      by None (AtClient now draw sent) is live it = same_given None account next later is (by_reply account.asking it) live
      by None (AtServer now draw sent) is live it =
          let so : ServerAnswers road now account None step next = subst (λ (g : Option Given). ServerAnswers road now account g step next) is it in
          some so.0 (ap (λ (a : Account). a.given) so.2)
      by (Some given) (ClientTick now) is live it = same_given (Some given) account next later is (by_tick account.asking now it) tt
      by (Some given) (ServerTick now) is live it = same_given (Some given) account next later is (ap (λ (a : Account). a.given) it.1) tt
      by (Some given) (AtClient now draw sent) is live it = same_given (Some given) account next later is (by_reply account.asking it) tt
      by (Some given) (AtServer now draw sent) is live it =
          let so : ServerAnswers road now account (Some given) step next = subst (λ (g : Option Given). ServerAnswers road now account g step next) is it in
          same_given (Some given) account next later is (ap (λ (a : Account). a.given) so.1) tt

  pub goes_by_account : (all : List Happening) (account : Account) (old new : Ends) → Stands account old → AreWithin (route_of way) all → LivesFirst account.given all
      → Goes is_sealing (route_of way) old all new
      → (last : Account) × IsAccount road account all last × Stands last new
  goes_by_account [] account old new stands time live goes = (account, refl, subst (Stands account) (sym goes) stands)
  goes_by_account (happening ∷ later) account old new stands time live goes =
      let first = one account happening.event old goes.0 happening.step stands time.0 (lives_now account.given happening.event later happening.step live) goes.1 in
      let rest = goes_by_account later first.0 goes.0 new first.2 time.1 (lives_then account first.0 happening.event later happening.step first.1 live) goes.2 in
      (rest.0, (first.0, first.1, rest.1), rest.2)
