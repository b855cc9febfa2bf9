-- What follows from the account of a round for the client: answered once or given up, by the timetable.
use Rattle.std.proofs.Common.{◌≡◌, ◌∙◌, sym, ap, subst, refl, ◌+◌, ◌*◌, ◌<◌, ◌≤◌, List, [], ◌∷◌, ◌++◌, Option, Some, None, arith}
use Rattle.osc_model.specs.StepNotes.{StepNotes}
use Rattle.osc_model.specs.declared.node.Draw.{Draw}
use Rattle.osc_model.specs.declared.node.Moment.{Moment}
use Rattle.osc_model.specs.declared.step.ClientResult.{ClientResult}
use Rattle.osc_model.specs.declared.step.ClientResult.TheVariants as result
use Rattle.osc_model.specs.declared.step.Datagram.{Datagram}
use Rattle.osc_model.specs.declared.step.Step.{Step}
use Rattle.osc_message.specs.{Sent, done_over, outstanding_due}
use Rattle.osc_message.specs.Ticks.{most_repeats}
use Rattle.osc_message.specs.declared.due.Due.{Due}
use Rattle.osc_message.specs.declared.due.Due.TheVariants.{Keep, Send, GiveUp}
use Rattle.osc_ccm.specs.{Sealings}
use Rattle.osc_authz.specs.{ClientContextState}
use Rattle.osc_server.specs.State.{State as Server}
use Rattle.osc_rounds.specs.{Ends}
use Rattle.osc_loss.specs.Road.{AtClient, AtServer, ClientTick, Event, Happening, OtherAtClient, OtherAtServer, Road, ServerTick, happening_of}
use Rattle.osc_loss.specs.Round.{DoesSo, Given, IsGivenUp, IsLearntFirst, IsNotAtClient, NoneAtClient, RepliesInTime, RepliesInTimeBy, SendsDue, end_of, list_of, result_by, results_of, ticks_of}
use Rattle.osc_loss.proofs.Account.{Account, ClientDoes, ClientTicksSo, ComesTo, IsAccount, ServerAnswers, account_of}
use Rattle.osc_loss.proofs.AccountServer.{gives_again, next_as}
use Rattle.osc_loss.proofs.Ticking.{open_as}

module _ (is_sealing : Sealings) (Makes : Server → Moment → Draw → Step → Server → Given → Type 0) (Keeps : Given → Option ClientContextState → Type 0) (road : Road) where
  -- the account of a list
  abbrev Leads : Ends → Account → List Happening → Ends → Account → Type 0
  Leads ends old all last new = IsAccount is_sealing Makes Keeps road ends old all last new

  abbrev Comes : Ends → Account → Event → Step → Ends → Account → Type 0
  Comes ends old event step mid next = ComesTo is_sealing Makes Keeps road ends old event step mid next

  server_keeps : (ends : Ends) (account : Account) (given : Option Given) (now : Moment) (draw : Draw) (step : Step) (mid : Ends) (next : Account)
      → ServerAnswers is_sealing Makes Keeps road ends now draw account given step mid next → (next.asking ≡ account.asking) × (next.context ≡ account.context)
  server_keeps ends account None now draw step mid next it = (ap (λ (a : Account). a.asking) it.4, ap (λ (a : Account). a.context) it.4)
  server_keeps ends account (Some given) now draw step mid next it = (ap (λ (a : Account). a.asking) it.1, ap (λ (a : Account). a.context) it.1)

  results_more : (event : Event) (step : Step) (later : List Happening) → result_by event step ≡ None → results_of (happening_of event step ∷ later) ≡ results_of later
  results_more event step later none = rw none refl

  results_first : (event : Event) (step : Step) (later : List Happening) (one : Option ClientResult) → result_by event step ≡ one → results_of later ≡ []
      → results_of (happening_of event step ∷ later) ≡ list_of ClientResult one
  results_first event step later None is none = rw is none
  results_first event step later (Some one) is none = rw (is, none) refl

  asking_as : (asking : Option Sent) (ends : Ends) (next : Account) (last : Ends) (end : Account) (later : List Happening) → next.asking ≡ asking → Leads ends next later last end
      → Leads ends (account_of next.given asking next.context) later last end
  asking_as asking ends next last end later is rest =
      subst (λ (s : Option Sent). Leads ends (account_of next.given s next.context) later last end) is rest

  -- ---- once the client waits for nothing

  -- it learns nothing more, and its context stays
  record KeepsDone (event : Event) (step : Step) (old next : Account) : Type 0 where
    nothing : result_by event step ≡ None
    asking : next.asking ≡ old.asking
    context : next.context ≡ old.context

  done_keeps : (ends : Ends) (given : Option Given) (context : Option ClientContextState) (event : Event) (step : Step) (mid : Ends) (next : Account)
      → Comes ends (account_of given None context) event step mid next → KeepsDone event step (account_of given None context) next
  done_keeps ends given context (ClientTick now) step mid next it =
      record { nothing = ap (λ (n : StepNotes). n.result) it.0.1; asking = ap (λ (a : Account). a.asking) it.1; context = ap (λ (a : Account). a.context) it.1 }
  done_keeps ends given context (ServerTick now) step mid next it =
      record { nothing = refl; asking = ap (λ (a : Account). a.asking) it.1; context = ap (λ (a : Account). a.context) it.1 }
  done_keeps ends given context (AtServer now draw sent) step mid next it =
      let keeps = server_keeps ends (account_of given None context) given now draw step mid next it in
      record { nothing = refl; asking = keeps.0; context = keeps.1 }
  done_keeps ends given context (AtClient now draw sent) step mid next it =
      record { nothing = it.0; asking = ap (λ (a : Account). a.asking) it.1; context = ap (λ (a : Account). a.context) it.1 }
  done_keeps ends given context (OtherAtServer came) step mid next it =
      record { nothing = refl; asking = ap (λ (a : Account). a.asking) it; context = ap (λ (a : Account). a.context) it }
  done_keeps ends given context (OtherAtClient came) step mid next it =
      record { nothing = it.0; asking = ap (λ (a : Account). a.asking) it.1; context = ap (λ (a : Account). a.context) it.1 }

  pub stays_done : (all : List Happening) (ends : Ends) (given : Option Given) (context : Option ClientContextState) (last : Ends) (end : Account)
      → Leads ends (account_of given None context) all last end → (results_of all ≡ []) × (end.asking ≡ None) × (end.context ≡ context)
  stays_done [] ends given context last end is = (refl, ap (λ (a : Account). a.asking) is.1, ap (λ (a : Account). a.context) is.1)
  stays_done (happening ∷ later) ends given context last end is =
      let keeps = done_keeps ends given context happening.event happening.step is.0 is.1 is.3 in
      let rest = stays_done later is.0 is.1.given is.1.context last end (asking_as None is.0 is.1 last end later keeps.asking is.4) in
      (results_more happening.event happening.step later keeps.nothing ∙ rest.0, rest.1, rest.2 ∙ keeps.context)

  -- ---- while it waits

  -- its message first went out so, and was repeated so often
  pub record IsOfRoad (sent : Sent) : Type 0 where
    pub first : sent.at ≡ road.went
    pub few : sent.repeats ≤ most_repeats

  sent_few : (now : Moment) (sent : Sent) → outstanding_due now (open_as road sent) sent ≡ Send → sent.repeats + 1 ≤ most_repeats
  sent_few now sent e = grind (arith, e)

  -- it isn't given up before its end
  gives_up_late : (now : Moment) (sent : Sent) → IsOfRoad sent → outstanding_due now (open_as road sent) sent ≡ GiveUp → end_of road ≤ now.ms
  gives_up_late now sent of e =
      let four : sent.repeats ≡ 4 = grind (arith, e, of.few) in
      subst (λ (at : Moment). at.ms + 31 * road.timeout ≤ now.ms) of.first (late four)
    where
      late : sent.repeats ≡ 4 → sent.at.ms + 31 * road.timeout ≤ now.ms
      late four = grind (arith, rw four at e)

  -- ---- answered once, or given up

  pub data LearnsOnce (all : List Happening) (end : Account) : Type 0 where
    still : NoneAtClient all → results_of all ≡ [] → (sent : Sent) → end.asking ≡ Some sent → LearnsOnce all end
    learnt : (given : Given) → IsLearntFirst all given → end.given ≡ Some given → end.asking ≡ None → Keeps given end.context → LearnsOnce all end
    over : IsGivenUp road all → end.asking ≡ None → LearnsOnce all end

  before_it : (event : Event) (step : Step) (later : List Happening) (end : Account) → IsNotAtClient event → result_by event step ≡ None
      → LearnsOnce later end → LearnsOnce (happening_of event step ∷ later) end
  before_it event step later end isnt none (still nowhere results sent asking) =
      still (isnt, nowhere) (results_more event step later none ∙ results) sent asking
  before_it event step later end isnt none (learnt given it has asking context) =
      learnt given
      (record {
        before = happening_of event step ∷ it.before;
        after = it.after;
        now = it.now;
        draw = it.draw;
        sent = it.sent;
        step = it.step;
        all_is = ap (λ (l : List Happening). happening_of event step ∷ l) it.all_is;
        none = (isnt, it.none);
        told = it.told;
        results = results_more event step later none ∙ it.results;
      })
      has asking context
  before_it event step later end isnt none (over it asking) =
      over
      (record {
        before = happening_of event step ∷ it.before;
        after = it.after;
        now = it.now;
        step = it.step;
        all_is = ap (λ (l : List Happening). happening_of event step ∷ l) it.all_is;
        none = (isnt, it.none);
        late = it.late;
        results = results_more event step later none ∙ it.results;
      })
      asking

  -- what the rest leads to, where the client waits so
  abbrev Rest : Ends → List Happening → Ends → Account → Type 0
  Rest mid later last end =
      (given : Option Given) (sent : Sent) (context : Option ClientContextState) → IsOfRoad sent → Leads mid (account_of given (Some sent) context) later last end
      → LearnsOnce later end

  at_tick : (mid : Ends) (later : List Happening) (given : Option Given) (sent : Sent) (context : Option ClientContextState) (now : Moment) (step : Step) (next : Account) (last : Ends) (end : Account) (due : Due)
      → IsOfRoad sent → outstanding_due now (open_as road sent) sent ≡ due → ClientDoes is_sealing Makes Keeps road (account_of given (Some sent) context) sent due step next
      → Leads mid next later last end → Rest mid later last end → LearnsOnce (happening_of (ClientTick now) step ∷ later) end
  at_tick mid later given sent context now step next last end Keep of e it rest more =
      before_it (ClientTick now) step later end tt (ap (λ (n : StepNotes). n.result) it.0.1)
      (more next.given sent next.context of (asking_as (Some sent) mid next last end later (ap (λ (a : Account). a.asking) it.1) rest))
  at_tick mid later given sent context now step next last end Send of e it rest more =
      let again : Sent = record sent { repeats = sent.repeats + 1 } in
      before_it (ClientTick now) step later end tt (ap (λ (n : StepNotes). n.result) it.0.1)
      (more next.given again next.context (record { first = of.first; few = sent_few now sent e })
      (asking_as (Some again) mid next last end later (ap (λ (a : Account). a.asking) it.1) rest))
  at_tick mid later given sent context now step next last end GiveUp of e it rest more =
      let done = stays_done later mid next.given next.context last end (asking_as None mid next last end later (ap (λ (a : Account). a.asking) it.1) rest) in
      over
      (record {
        before = [];
        after = later;
        now = now;
        step = step;
        all_is = refl;
        none = tt;
        late = gives_up_late now sent of e;
        results = results_first (ClientTick now) step later (Some result.TimedOut) (ap (λ (n : StepNotes). n.result) it.0.1) done.0;
      })
      done.1

  at_reply : (mid : Ends) (later : List Happening) (now : Moment) (draw : Draw) (sent : Datagram) (step : Step) (next : Account) (last : Ends) (end : Account) (given : Given)
      → step ≡ given.told → next.given ≡ Some given → next.asking ≡ None → Keeps given next.context → Leads mid next later last end
      → LearnsOnce (happening_of (AtClient now draw sent) step ∷ later) end
  at_reply mid later now draw sent step next last end given told has none context rest =
      let done = stays_done later mid next.given next.context last end (asking_as None mid next last end later none rest) in
      learnt given
      (record {
        before = [];
        after = later;
        now = now;
        draw = draw;
        sent = sent;
        step = step;
        all_is = refl;
        none = tt;
        told = told;
        results = results_first (AtClient now draw sent) step later given.told.notes.result (ap (λ (s : Step). s.notes.result) told) done.0;
      })
      ((gives_again is_sealing Makes Keeps road later given next.asking next.context mid last end (next_as is_sealing Makes Keeps road (Some given) mid next last end later has rest)).still)
      done.1 (subst (Keeps given) (sym done.2) context)

  by_event : (ends mid : Ends) (later : List Happening) (given : Option Given) (sent : Sent) (context : Option ClientContextState) (event : Event) (step : Step) (next : Account) (last : Ends) (end : Account)
      → IsOfRoad sent → Comes ends (account_of given (Some sent) context) event step mid next → Leads mid next later last end → Rest mid later last end
      → LearnsOnce (happening_of event step ∷ later) end
  by_event ends mid later given sent context (ClientTick now) step next last end of it rest more =
      at_tick mid later given sent context now step next last end (outstanding_due now (open_as road sent) sent) of refl it rest more
  by_event ends mid later given sent context (ServerTick now) step next last end of it rest more =
      before_it (ServerTick now) step later end tt refl
      (more next.given sent next.context of (asking_as (Some sent) mid next last end later (ap (λ (a : Account). a.asking) it.1) rest))
  by_event ends mid later given sent context (AtServer now draw came) step next last end of it rest more =
      let keeps = server_keeps ends (account_of given (Some sent) context) given now draw step mid next it in
      before_it (AtServer now draw came) step later end tt refl
      (more next.given sent next.context of (asking_as (Some sent) mid next last end later keeps.0 rest))
  by_event ends mid later given sent context (AtClient now draw came) step next last end of it rest more =
      at_reply mid later now draw came step next last end it.0 it.2 (ap (λ (a : Account). a.given) it.3.2 ∙ it.1) (ap (λ (a : Account). a.asking) it.3.2)
      (subst (λ (a : Account). Keeps it.0 a.context) (sym it.3.2) it.3.1) rest
  by_event ends mid later given sent context (OtherAtServer came) step next last end of it rest more =
      before_it (OtherAtServer came) step later end tt refl
      (more next.given sent next.context of (asking_as (Some sent) mid next last end later (ap (λ (a : Account). a.asking) it) rest))
  by_event ends mid later given sent context (OtherAtClient came) step next last end of it rest more =
      before_it (OtherAtClient came) step later end tt it.0
      (more next.given sent next.context of (asking_as (Some sent) mid next last end later (ap (λ (a : Account). a.asking) it.1) rest))

  pub learns_once : (all : List Happening) (ends : Ends) (given : Option Given) (sent : Sent) (context : Option ClientContextState) (last : Ends) (end : Account) → IsOfRoad sent
      → Leads ends (account_of given (Some sent) context) all last end → LearnsOnce all end
  learns_once [] ends given sent context last end of is = still tt refl sent (ap (λ (a : Account). a.asking) is.1)
  learns_once (happening ∷ later) ends given sent context last end of is =
      by_event ends is.0 later given sent context happening.event happening.step is.1 last end of is.3 is.4
      (λ other again another its rest. learns_once later is.0 other again another last end its rest)

  -- ---- by the timetable

  -- over these ticks and this one the timetable has so much more, which is what the step does
  abbrev pub IsTimed : Sent → Sent → List Moment → Moment → Step → Type 0
  IsTimed base sent ticks now step =
      (done : List (Moment × Due))
      × (done_over (open_as road base) sent (ticks ++ now ∷ []) ≡ done_over (open_as road base) sent ticks ++ done)
      × DoesSo road done step

  timed_now : (base : Sent) (account : Account) (sent : Sent) (now : Moment) (step : Step) (next : Account) (due : Due)
      → outstanding_due now (open_as road sent) sent ≡ due → ClientDoes is_sealing Makes Keeps road account sent due step next → IsTimed base sent [] now step
  timed_now base account sent now step next Keep e it = ([], rw e refl, it.0)
  timed_now base account sent now step next Send e it = ((now, Send) ∷ [], rw e refl, it.0)
  timed_now base account sent now step next GiveUp e it = ((now, GiveUp) ∷ [], rw e refl, it.0)

  timed_over : (base sent : Sent) (first : Moment) (ticks : List Moment) (now : Moment) (step : Step) → outstanding_due first (open_as road sent) sent ≡ GiveUp → SendsDue [] step
      → IsTimed base sent (first ∷ ticks) now step
  timed_over base sent first ticks now step e none = ([], rw e refl, none)

  timed_kept : (base sent : Sent) (first : Moment) (ticks : List Moment) (now : Moment) (step : Step) → outstanding_due first (open_as road sent) sent ≡ Keep
      → IsTimed base sent ticks now step → IsTimed base sent (first ∷ ticks) now step
  timed_kept base sent first ticks now step e it = (it.0, rw e it.1, it.2)

  timed_again : (base sent : Sent) (first : Moment) (ticks : List Moment) (now : Moment) (step : Step) → outstanding_due first (open_as road sent) sent ≡ Send
      → IsTimed base (record sent { repeats = sent.repeats + 1 }) ticks now step → IsTimed base sent (first ∷ ticks) now step
  timed_again base sent first ticks now step e it = (it.0, rw e (ap (λ (l : List (Moment × Due)). (first, Send) ∷ l) it.1), it.2)

  -- the tick that is spoken of comes where the list before it leads
  record Then (mid : Ends) (account : Account) (now : Moment) (step : Step) (next_ends : Ends) (next : Account) : Type 0 where
    comes : Comes mid account (ClientTick now) step next_ends next

  abbrev Later : Sent → Ends → List Happening → Ends → Account → Moment → Step → Type 0
  Later base ends later mid account now step =
      (given : Option Given) (sent : Sent) (context : Option ClientContextState) → Leads ends (account_of given (Some sent) context) later mid account
      → IsTimed base sent (ticks_of later) now step

  timed_after_tick : (base : Sent) (ends : Ends) (later : List Happening) (given : Option Given) (sent : Sent) (context : Option ClientContextState) (first : Moment) (first_step : Step) (second : Account)
      (mid : Ends) (account : Account) (now : Moment) (step : Step) (next_ends : Ends) (next : Account) (due : Due)
      → outstanding_due first (open_as road sent) sent ≡ due → ClientDoes is_sealing Makes Keeps road (account_of given (Some sent) context) sent due first_step second
      → Leads ends second later mid account → Then mid account now step next_ends next → Later base ends later mid account now step
      → IsTimed base sent (first ∷ ticks_of later) now step
  timed_after_tick base ends later given sent context first first_step second mid account now step next_ends next Keep e it rest there more =
      timed_kept base sent first (ticks_of later) now step e
      (more second.given sent second.context (asking_as (Some sent) ends second mid account later (ap (λ (a : Account). a.asking) it.1) rest))
  timed_after_tick base ends later given sent context first first_step second mid account now step next_ends next Send e it rest there more =
      let again : Sent = record sent { repeats = sent.repeats + 1 } in
      timed_again base sent first (ticks_of later) now step e
      (more second.given again second.context (asking_as (Some again) ends second mid account later (ap (λ (a : Account). a.asking) it.1) rest))
  timed_after_tick base ends later given sent context first first_step second mid account now step next_ends next GiveUp e it rest there more =
      let done = stays_done later ends second.given second.context mid account (asking_as None ends second mid account later (ap (λ (a : Account). a.asking) it.1) rest) in
      let so : ClientTicksSo is_sealing Makes Keeps road now account None step next =
      subst (λ (s : Option Sent). ClientTicksSo is_sealing Makes Keeps road now account s step next) done.1 there.comes in
      timed_over base sent first (ticks_of later) now step e so.0

  timed_after : (base : Sent) (start ends : Ends) (later : List Happening) (given : Option Given) (sent : Sent) (context : Option ClientContextState) (event : Event) (first_step : Step) (second : Account)
      (mid : Ends) (account : Account) (now : Moment) (step : Step) (next_ends : Ends) (next : Account)
      → IsNotAtClient event → Comes start (account_of given (Some sent) context) event first_step ends second
      → Leads ends second later mid account → Then mid account now step next_ends next → Later base ends later mid account now step
      → IsTimed base sent (ticks_of (happening_of event first_step ∷ later)) now step
  timed_after base start ends later given sent context (ClientTick first) first_step second mid account now step next_ends next isnt it rest there more =
      timed_after_tick base ends later given sent context first first_step second mid account now step next_ends next (outstanding_due first (open_as road sent) sent) refl it rest there more
  timed_after base start ends later given sent context (ServerTick first) first_step second mid account now step next_ends next isnt it rest there more =
      more second.given sent second.context (asking_as (Some sent) ends second mid account later (ap (λ (a : Account). a.asking) it.1) rest)
  timed_after base start ends later given sent context (AtServer first draw came) first_step second mid account now step next_ends next isnt it rest there more =
      more second.given sent second.context
      (asking_as (Some sent) ends second mid account later (server_keeps start (account_of given (Some sent) context) given first draw first_step ends second it).0 rest)
  timed_after base start ends later given sent context (AtClient first draw came) first_step second mid account now step next_ends next isnt it rest there more = absurd isnt
  timed_after base start ends later given sent context (OtherAtServer came) first_step second mid account now step next_ends next isnt it rest there more =
      more second.given sent second.context (asking_as (Some sent) ends second mid account later (ap (λ (a : Account). a.asking) it) rest)
  timed_after base start ends later given sent context (OtherAtClient came) first_step second mid account now step next_ends next isnt it rest there more =
      more second.given sent second.context (asking_as (Some sent) ends second mid account later (ap (λ (a : Account). a.asking) it.1) rest)

  timed_then : (base : Sent) (before : List Happening) (start : Ends) (given : Option Given) (sent : Sent) (context : Option ClientContextState) (mid : Ends) (account : Account) (now : Moment) (step : Step)
      (next_ends : Ends) (next : Account) → NoneAtClient before → Leads start (account_of given (Some sent) context) before mid account → Then mid account now step next_ends next
      → IsTimed base sent (ticks_of before) now step
  timed_then base [] start given sent context mid account now step next_ends next none is there =
      let so : ClientTicksSo is_sealing Makes Keeps road now (account_of given (Some sent) context) (Some sent) step next =
      subst (λ (a : Account). ClientTicksSo is_sealing Makes Keeps road now a a.asking step next) is.1 there.comes in
      timed_now base (account_of given (Some sent) context) sent now step next (outstanding_due now (open_as road sent) sent) refl so
  timed_then base (happening ∷ later) start given sent context mid account now step next_ends next none is there =
      timed_after base start is.0 later given sent context happening.event happening.step is.1 mid account now step next_ends next none.0 is.3 is.4 there
      (λ other again another rest. timed_then base later is.0 other again another mid account now step next_ends next none.1 rest there)

  pub timed : (base : Sent) (before : List Happening) (start : Ends) (given : Option Given) (sent : Sent) (context : Option ClientContextState) (mid : Ends) (account : Account) (now : Moment) (step : Step)
      (next_ends : Ends) (next : Account) → NoneAtClient before → Leads start (account_of given (Some sent) context) before mid account → Comes mid account (ClientTick now) step next_ends next
      → IsTimed base sent (ticks_of before) now step
  timed base before start given sent context mid account now step next_ends next none is comes =
      timed_then base before start given sent context mid account now step next_ends next none is (record { comes = comes })

  -- ---- in time

  in_time_some : (all : List Happening) → NoneAtClient all → RepliesInTime road all → ⊥
  in_time_some [] none replies = replies
  in_time_some (happening ∷ later) none replies = by happening.event none.0 replies (in_time_some later none.1)
    where
      by : (event : Event) → IsNotAtClient event → RepliesInTimeBy road event (RepliesInTime road later) → (RepliesInTime road later → ⊥) → ⊥
      by (ClientTick now) isnt it more = more it.1
      by (ServerTick now) isnt it more = more it
      by (AtServer now draw sent) isnt it more = more it
      by (AtClient now draw sent) isnt it more = isnt
      by (OtherAtServer came) isnt it more = more it
      by (OtherAtClient came) isnt it more = more it

  tick_in_time : (before after : List Happening) (now : Moment) (step : Step) → NoneAtClient before
      → RepliesInTime road (before ++ happening_of (ClientTick now) step ∷ after) → now.ms < end_of road
  tick_in_time [] after now step none replies = replies.0
  tick_in_time (happening ∷ before) after now step none replies = by happening.event none.0 replies (tick_in_time before after now step none.1)
    where
      by : (event : Event) → IsNotAtClient event → RepliesInTimeBy road event (RepliesInTime road (before ++ happening_of (ClientTick now) step ∷ after))
          → (RepliesInTime road (before ++ happening_of (ClientTick now) step ∷ after) → now.ms < end_of road) → now.ms < end_of road
      by (ClientTick first) isnt it more = more it.1
      by (ServerTick first) isnt it more = more it
      by (AtServer first draw sent) isnt it more = more it
      by (AtClient first draw sent) isnt it more = absurd isnt
      by (OtherAtServer came) isnt it more = more it
      by (OtherAtClient came) isnt it more = more it

  pub learns_in_time : (all : List Happening) (end : Account) → RepliesInTime road all → LearnsOnce all end
      → (given : Given) × IsLearntFirst all given × (end.given ≡ Some given)
  learns_in_time all end replies (still none results sent asking) = absurd (in_time_some all none replies)
  learns_in_time all end replies (learnt given it has asking context) = (given, it, has)
  learns_in_time all end replies (over it asking) =
      let early : it.now.ms < end_of road = tick_in_time it.before it.after it.now it.step it.none (subst (RepliesInTime road) it.all_is replies) in
      let wrong : ⊥ = omega (arith, early, it.late) in
      absurd wrong
