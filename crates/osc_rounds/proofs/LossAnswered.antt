-- What follows from the account of a lossy round for the client: answered once or given up, by the timetable.
use Rattle.std.proofs.Common.{◌≡◌, ◌∙◌, ap, subst, refl, ◌+◌, ◌*◌, ◌<◌, ◌≤◌, List, [], ◌∷◌, ◌++◌, Option, Some, None, arith}
use Rattle.osc_model.specs.{sends}
use Rattle.osc_model.specs.StepNotes.{StepNotes}
use Rattle.osc_model.specs.declared.node.Draw.{Draw}
use Rattle.osc_model.specs.declared.node.Moment.{Moment}
use Rattle.osc_model.specs.declared.step.ClientResult.{ClientResult}
use Rattle.osc_model.specs.declared.step.ClientResult.TheVariants as result
use Rattle.osc_model.specs.declared.step.Datagram.{Datagram}
use Rattle.osc_model.specs.declared.step.Step.{Step}
use Rattle.osc_message.specs.{Sent}
use Rattle.osc_message.specs.Schedule.{done_over}
use Rattle.osc_message.specs.Ticks.{most_repeats, outstanding_due}
use Rattle.osc_message.specs.declared.due.Due.{Due}
use Rattle.osc_message.specs.declared.due.Due.TheVariants.{Keep, Send, GiveUp}
use Rattle.osc_rounds.specs.Loss.{AtClient, AtServer, ClientTick, Event, Given, Happening, OnTheRoad, SendsDue, ServerTick, answering}
use Rattle.osc_rounds.proofs.LossAccount.{Account, ClientDoes, ClientTicksSo, ComesTo, IsAccount, ServerAnswers, open_as}
use Rattle.osc_rounds.specs.LossClaim.{DoesSo, IsAnsweredFirst, IsGivenUp, IsNotAtClient, NoneAtClient, RepliesInTime, RepliesInTimeBy, end_of, happening_of, results_of, ticks_of}
use Rattle.osc_rounds.proofs.LossServed.{account_of, gives_again, next_as}

module _ (road : OnTheRoad) where
  -- a step that the client learns nothing of, and leaves whether it waits
  abbrev KeepsAsking : Account → Step → Account → Type 0
  KeepsAsking old step next = (step.notes.result ≡ None) × (next.asking ≡ old.asking)

  server_keeps : (account : Account) (given : Option Given) (now : Moment) (step : Step) (next : Account) → ServerAnswers road now account given step next → KeepsAsking account step next
  server_keeps account None now step next it = (ap (λ (s : Step). s.notes.result) it.1.told, ap (λ (a : Account). a.asking) it.2)
  server_keeps account (Some given) now step next it = (ap (λ (s : Step). s.notes.result) it.0, ap (λ (a : Account). a.asking) it.1)

  results_more : (event : Event) (step : Step) (later : List Happening) → step.notes.result ≡ None → results_of (happening_of event step ∷ later) ≡ results_of later
  results_more event step later none = rw none refl

  results_first : (event : Event) (step : Step) (later : List Happening) (one : ClientResult) → step.notes.result ≡ Some one → results_of later ≡ []
      → results_of (happening_of event step ∷ later) ≡ one ∷ []
  results_first event step later one some none = rw (some, none) refl

  asking_as : (asking : Option Sent) (next last : Account) (later : List Happening) → next.asking ≡ asking → IsAccount road next later last
      → IsAccount road (account_of road next.given asking) later last
  asking_as asking next last later is rest = subst (λ (s : Option Sent). IsAccount road (account_of road next.given s) later last) is rest

  -- ---- once the client waits for nothing

  done_keeps : (given : Option Given) (event : Event) (step : Step) (next : Account) → ComesTo road (account_of road given None) event step next
      → KeepsAsking (account_of road given None) step next
  done_keeps given (ClientTick now) step next it = (ap (λ (n : StepNotes). n.result) it.0.1, ap (λ (a : Account). a.asking) it.1)
  done_keeps given (ServerTick now) step next it = (ap (λ (s : Step). s.notes.result) it.0, ap (λ (a : Account). a.asking) it.1)
  done_keeps given (AtServer now draw sent) step next it = server_keeps (account_of road given None) given now step next it
  done_keeps given (AtClient now draw sent) step next it = (ap (λ (s : Step). s.notes.result) it.0, ap (λ (a : Account). a.asking) it.1)

  pub stays_done : (all : List Happening) (given : Option Given) (last : Account) → IsAccount road (account_of road given None) all last
      → (results_of all ≡ []) × (last.asking ≡ None)
  stays_done [] given last is = (refl, ap (λ (a : Account). a.asking) is)
  stays_done (happening ∷ later) given last is =
      let keeps = done_keeps given happening.event happening.step is.0 is.1 in
      let rest = stays_done later is.0.given last (asking_as None is.0 last later keeps.1 is.2) in
      (results_more happening.event happening.step later keeps.0 ∙ rest.0, rest.1)

  -- ---- while it waits

  -- its message first went out so, and was repeated so often
  pub record IsOfRoad (sent : Sent) : Type 0 where
    pub first : sent.at ≡ road.went
    pub few : sent.repeats ≤ most_repeats

  sent_few : (now : Moment) (sent : Sent) → outstanding_due now (open_as road sent) sent ≡ Send → sent.repeats + 1 ≤ most_repeats
  sent_few now sent e = grind (arith, e)

  -- it isn't given up before its end
  gives_up_late : (now : Moment) (sent : Sent) → IsOfRoad sent → outstanding_due now (open_as road sent) sent ≡ GiveUp → end_of road ≤ now.ms
  gives_up_late now sent of e =
      let four : sent.repeats ≡ 4 = grind (arith, e, of.few) in
      subst (λ (at : Moment). at.ms + 31 * road.timeout ≤ now.ms) of.first (late four)
    where
      late : sent.repeats ≡ 4 → sent.at.ms + 31 * road.timeout ≤ now.ms
      late four = grind (arith, rw four at e)

  -- ---- answered once, or given up

  pub data LearnsOnce (all : List Happening) (last : Account) : Type 0 where
    still : NoneAtClient all → results_of all ≡ [] → (sent : Sent) → last.asking ≡ Some sent → LearnsOnce all last
    learnt : (given : Given) → IsAnsweredFirst road all given → last.given ≡ Some given → last.asking ≡ None → LearnsOnce all last
    over : IsGivenUp road all → last.asking ≡ None → LearnsOnce all last

  before_it : (event : Event) (step : Step) (later : List Happening) (last : Account) → IsNotAtClient event → step.notes.result ≡ None
      → LearnsOnce later last → LearnsOnce (happening_of event step ∷ later) last
  before_it event step later last isnt none (still nowhere results sent asking) =
      still (isnt, nowhere) (results_more event step later none ∙ results) sent asking
  before_it event step later last isnt none (learnt given it has asking) =
      learnt given
      (record {
        before = happening_of event step ∷ it.before;
        after = it.after;
        now = it.now;
        draw = it.draw;
        sent = it.sent;
        step = it.step;
        all_is = ap (λ (l : List Happening). happening_of event step ∷ l) it.all_is;
        none = (isnt, it.none);
        told = it.told;
        results = results_more event step later none ∙ it.results;
      })
      has asking
  before_it event step later last isnt none (over it asking) =
      over
      (record {
        before = happening_of event step ∷ it.before;
        after = it.after;
        now = it.now;
        step = it.step;
        all_is = ap (λ (l : List Happening). happening_of event step ∷ l) it.all_is;
        none = (isnt, it.none);
        late = it.late;
        results = results_more event step later none ∙ it.results;
      })
      asking

  -- what the rest leads to, where the client waits so
  abbrev Rest : List Happening → Account → Type 0
  Rest later last = (given : Option Given) (sent : Sent) → IsOfRoad sent → IsAccount road (account_of road given (Some sent)) later last → LearnsOnce later last

  at_tick : (later : List Happening) (given : Option Given) (sent : Sent) (now : Moment) (step : Step) (next last : Account) (due : Due) → IsOfRoad sent
      → outstanding_due now (open_as road sent) sent ≡ due → ClientDoes road (account_of road given (Some sent)) sent due step next → IsAccount road next later last
      → Rest later last → LearnsOnce (happening_of (ClientTick now) step ∷ later) last
  at_tick later given sent now step next last Keep of e it rest more =
      before_it (ClientTick now) step later last tt (ap (λ (n : StepNotes). n.result) it.0.1)
      (more next.given sent of (asking_as (Some sent) next last later (ap (λ (a : Account). a.asking) it.1) rest))
  at_tick later given sent now step next last Send of e it rest more =
      let again : Sent = record sent { repeats = sent.repeats + 1 } in
      before_it (ClientTick now) step later last tt (ap (λ (n : StepNotes). n.result) it.0.1)
      (more next.given again (record { first = of.first; few = sent_few now sent e })
      (asking_as (Some again) next last later (ap (λ (a : Account). a.asking) it.1) rest))
  at_tick later given sent now step next last GiveUp of e it rest more =
      let done = stays_done later next.given last (asking_as None next last later (ap (λ (a : Account). a.asking) it.1) rest) in
      over
      (record {
        before = [];
        after = later;
        now = now;
        step = step;
        all_is = refl;
        none = tt;
        late = gives_up_late now sent of e;
        results = results_first (ClientTick now) step later result.TimedOut (ap (λ (n : StepNotes). n.result) it.0.1) done.0;
      })
      done.1

  at_reply : (later : List Happening) (now : Moment) (draw : Draw) (sent : Datagram) (step : Step) (next last : Account) (given : Given)
      → step ≡ answering road given → next.given ≡ Some given → next.asking ≡ None → IsAccount road next later last
      → LearnsOnce (happening_of (AtClient now draw sent) step ∷ later) last
  at_reply later now draw sent step next last given told has none rest =
      let done = stays_done later next.given last (asking_as None next last later none rest) in
      learnt given
      (record {
        before = [];
        after = later;
        now = now;
        draw = draw;
        sent = sent;
        step = step;
        all_is = refl;
        none = tt;
        told = told;
        results = results_first (AtClient now draw sent) step later (result.Answer given.reply) (ap (λ (s : Step). s.notes.result) told) done.0;
      })
      ((gives_again road later given next.asking last (next_as road (Some given) next last later has rest)).still)
      done.1

  by_event : (later : List Happening) (given : Option Given) (sent : Sent) (event : Event) (step : Step) (next last : Account) → IsOfRoad sent
      → ComesTo road (account_of road given (Some sent)) event step next → IsAccount road next later last → Rest later last
      → LearnsOnce (happening_of event step ∷ later) last
  by_event later given sent (ClientTick now) step next last of it rest more =
      at_tick later given sent now step next last (outstanding_due now (open_as road sent) sent) of refl it rest more
  by_event later given sent (ServerTick now) step next last of it rest more =
      before_it (ServerTick now) step later last tt (ap (λ (s : Step). s.notes.result) it.0)
      (more next.given sent of (asking_as (Some sent) next last later (ap (λ (a : Account). a.asking) it.1) rest))
  by_event later given sent (AtServer now draw came) step next last of it rest more =
      let keeps = server_keeps (account_of road given (Some sent)) given now step next it in
      before_it (AtServer now draw came) step later last tt keeps.0
      (more next.given sent of (asking_as (Some sent) next last later keeps.1 rest))
  by_event later given sent (AtClient now draw came) step next last of it rest more =
      at_reply later now draw came step next last it.0 it.2 (ap (λ (a : Account). a.given) it.3 ∙ it.1) (ap (λ (a : Account). a.asking) it.3) rest

  pub learns_once : (all : List Happening) (given : Option Given) (sent : Sent) (last : Account) → IsOfRoad sent
      → IsAccount road (account_of road given (Some sent)) all last → LearnsOnce all last
  learns_once [] given sent last of is = still tt refl sent (ap (λ (a : Account). a.asking) is)
  learns_once (happening ∷ later) given sent last of is =
      by_event later given sent happening.event happening.step is.0 last of is.1 is.2 (λ other again its rest. learns_once later other again last its rest)

  -- ---- by the timetable

  -- over these ticks and this one the timetable has so much more, which is what the step does
  abbrev pub IsTimed : Sent → Sent → List Moment → Moment → Step → Type 0
  IsTimed base sent ticks now step =
      (done : List (Moment × Due))
      × (done_over (open_as road base) sent (ticks ++ now ∷ []) ≡ done_over (open_as road base) sent ticks ++ done)
      × DoesSo road done step

  timed_now : (base : Sent) (account : Account) (sent : Sent) (now : Moment) (step : Step) (next : Account) (due : Due)
      → outstanding_due now (open_as road sent) sent ≡ due → ClientDoes road account sent due step next → IsTimed base sent [] now step
  timed_now base account sent now step next Keep e it = ([], rw e refl, it.0)
  timed_now base account sent now step next Send e it = ((now, Send) ∷ [], rw e refl, it.0)
  timed_now base account sent now step next GiveUp e it = ((now, GiveUp) ∷ [], rw e refl, it.0)

  timed_over : (base sent : Sent) (first : Moment) (ticks : List Moment) (now : Moment) (step : Step) → outstanding_due first (open_as road sent) sent ≡ GiveUp → SendsDue [] step
      → IsTimed base sent (first ∷ ticks) now step
  timed_over base sent first ticks now step e none = ([], rw e refl, none)

  timed_kept : (base sent : Sent) (first : Moment) (ticks : List Moment) (now : Moment) (step : Step) → outstanding_due first (open_as road sent) sent ≡ Keep
      → IsTimed base sent ticks now step → IsTimed base sent (first ∷ ticks) now step
  timed_kept base sent first ticks now step e it = (it.0, rw e it.1, it.2)

  timed_again : (base sent : Sent) (first : Moment) (ticks : List Moment) (now : Moment) (step : Step) → outstanding_due first (open_as road sent) sent ≡ Send
      → IsTimed base (record sent { repeats = sent.repeats + 1 }) ticks now step → IsTimed base sent (first ∷ ticks) now step
  timed_again base sent first ticks now step e it = (it.0, rw e (ap (λ (l : List (Moment × Due)). (first, Send) ∷ l) it.1), it.2)

  abbrev Later : Sent → List Happening → Account → Moment → Step → Type 0
  Later base later mid now step =
      (given : Option Given) (sent : Sent) → IsAccount road (account_of road given (Some sent)) later mid → IsTimed base sent (ticks_of later) now step

  timed_after_tick : (base : Sent) (later : List Happening) (given : Option Given) (sent : Sent) (first : Moment) (first_step : Step) (second mid : Account) (now : Moment) (step : Step)
      (next : Account) (due : Due) → outstanding_due first (open_as road sent) sent ≡ due → ClientDoes road (account_of road given (Some sent)) sent due first_step second
      → IsAccount road second later mid → ComesTo road mid (ClientTick now) step next → Later base later mid now step
      → IsTimed base sent (first ∷ ticks_of later) now step
  timed_after_tick base later given sent first first_step second mid now step next Keep e it rest comes more =
      timed_kept base sent first (ticks_of later) now step e
      (more second.given sent (asking_as (Some sent) second mid later (ap (λ (a : Account). a.asking) it.1) rest))
  timed_after_tick base later given sent first first_step second mid now step next Send e it rest comes more =
      let again : Sent = record sent { repeats = sent.repeats + 1 } in
      timed_again base sent first (ticks_of later) now step e
      (more second.given again (asking_as (Some again) second mid later (ap (λ (a : Account). a.asking) it.1) rest))
  timed_after_tick base later given sent first first_step second mid now step next GiveUp e it rest comes more =
      let done = stays_done later second.given mid (asking_as None second mid later (ap (λ (a : Account). a.asking) it.1) rest) in
      let so : ClientTicksSo road now mid None step next = subst (λ (s : Option Sent). ClientTicksSo road now mid s step next) done.1 comes in
      timed_over base sent first (ticks_of later) now step e so.0

  timed_after : (base : Sent) (later : List Happening) (given : Option Given) (sent : Sent) (event : Event) (first_step : Step) (second mid : Account) (now : Moment) (step : Step)
      (next : Account) → IsNotAtClient event → ComesTo road (account_of road given (Some sent)) event first_step second
      → IsAccount road second later mid → ComesTo road mid (ClientTick now) step next → Later base later mid now step
      → IsTimed base sent (ticks_of (happening_of event first_step ∷ later)) now step
  timed_after base later given sent (ClientTick first) first_step second mid now step next isnt it rest comes more =
      timed_after_tick base later given sent first first_step second mid now step next (outstanding_due first (open_as road sent) sent) refl it rest comes more
  timed_after base later given sent (ServerTick first) first_step second mid now step next isnt it rest comes more =
      more second.given sent (asking_as (Some sent) second mid later (ap (λ (a : Account). a.asking) it.1) rest)
  timed_after base later given sent (AtServer first draw came) first_step second mid now step next isnt it rest comes more =
      more second.given sent (asking_as (Some sent) second mid later (server_keeps (account_of road given (Some sent)) given first first_step second it).1 rest)
  timed_after base later given sent (AtClient first draw came) first_step second mid now step next isnt it rest comes more = absurd isnt

  pub timed : (base : Sent) (before : List Happening) (given : Option Given) (sent : Sent) (mid : Account) (now : Moment) (step : Step) (next : Account)
      → NoneAtClient before → IsAccount road (account_of road given (Some sent)) before mid → ComesTo road mid (ClientTick now) step next
      → IsTimed base sent (ticks_of before) now step
  timed base [] given sent mid now step next none is comes =
      let so : ComesTo road (account_of road given (Some sent)) (ClientTick now) step next = subst (λ (a : Account). ComesTo road a (ClientTick now) step next) is comes in
      timed_now base (account_of road given (Some sent)) sent now step next (outstanding_due now (open_as road sent) sent) refl so
  timed base (happening ∷ later) given sent mid now step next none is comes =
      timed_after base later given sent happening.event happening.step is.0 mid now step next none.0 is.1 is.2 comes
      (λ other again rest. timed base later other again mid now step next none.1 rest comes)

  -- ---- in time

  in_time_some : (all : List Happening) → NoneAtClient all → RepliesInTime road all → ⊥
  in_time_some [] none replies = replies
  in_time_some (happening ∷ later) none replies = by happening.event none.0 replies (in_time_some later none.1)
    where
      by : (event : Event) → IsNotAtClient event → RepliesInTimeBy road event (RepliesInTime road later) → (RepliesInTime road later → ⊥) → ⊥
      by (ClientTick now) isnt it more = more it.1
      by (ServerTick now) isnt it more = more it
      by (AtServer now draw sent) isnt it more = more it
      by (AtClient now draw sent) isnt it more = isnt

  tick_in_time : (before after : List Happening) (now : Moment) (step : Step) → NoneAtClient before
      → RepliesInTime road (before ++ happening_of (ClientTick now) step ∷ after) → now.ms < end_of road
  tick_in_time [] after now step none replies = replies.0
  tick_in_time (happening ∷ before) after now step none replies = by happening.event none.0 replies (tick_in_time before after now step none.1)
    where
      by : (event : Event) → IsNotAtClient event → RepliesInTimeBy road event (RepliesInTime road (before ++ happening_of (ClientTick now) step ∷ after))
          → (RepliesInTime road (before ++ happening_of (ClientTick now) step ∷ after) → now.ms < end_of road) → now.ms < end_of road
      by (ClientTick first) isnt it more = more it.1
      by (ServerTick first) isnt it more = more it
      by (AtServer first draw sent) isnt it more = more it
      by (AtClient first draw sent) isnt it more = absurd isnt

  pub learns_in_time : (all : List Happening) (last : Account) → RepliesInTime road all → LearnsOnce all last
      → (given : Given) × IsAnsweredFirst road all given × (last.given ≡ Some given)
  learns_in_time all last replies (still none results sent asking) = absurd (in_time_some all none replies)
  learns_in_time all last replies (learnt given it has asking) = (given, it, has)
  learns_in_time all last replies (over it asking) =
      let early : it.now.ms < end_of road = tick_in_time it.before it.after it.now it.step it.none (subst (RepliesInTime road) it.all_is replies) in
      let wrong : ⊥ = omega (arith, early, it.late) in absurd wrong
