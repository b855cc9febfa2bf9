-- What follows from the account of a lossy round for the server: served once, and the same bytes each time.
use Rattle.std.proofs.Common.{◌≡◌, ◌∙◌, ap, subst, refl, List, [], ◌∷◌, Option, Some, None}
use Rattle.std.specs.List.{AllByRecursion}
use Rattle.osc_model.specs.StepNotes.{StepNotes}
use Rattle.osc_model.specs.declared.node.Draw.{Draw}
use Rattle.osc_model.specs.declared.node.Moment.{Moment}
use Rattle.osc_model.specs.declared.step.Datagram.{Datagram}
use Rattle.osc_model.specs.declared.step.Entry.{Entry}
use Rattle.osc_model.specs.declared.step.Step.{Step}
use Rattle.osc_message.specs.{Sent}
use Rattle.osc_message.specs.Ticks.{outstanding_due}
use Rattle.osc_message.specs.declared.due.Due.{Due}
use Rattle.osc_message.specs.declared.due.Due.TheVariants.{Keep, Send, GiveUp}
use Rattle.osc_rounds.specs.Loss.{AtClient, AtServer, ClientTick, Event, Given, Happening, IsServedAt, OnTheRoad, ServerTick}
use Rattle.osc_rounds.proofs.LossAccount.{Account, ClientDoes, ClientLearns, ClientTicksSo, ComesTo, IsAccount, open_as}
use Rattle.osc_rounds.specs.LossClaim.{AnswersAgain, IsServedFirst, NoneAtServer, entries_of, entry_of, happening_of}

module _ (road : OnTheRoad) where
  abbrev pub account_of : Option Given → Option Sent → Account
  account_of given asking = record { given = given; asking = asking }

  -- a step that serves nothing, and leaves what was given
  abbrev KeepsGiven : Account → Step → Account → Type 0
  KeepsGiven old step next = (step.notes.served ≡ None) × (next.given ≡ old.given)

  due_keeps : (account : Account) (sent : Sent) (due : Due) (step : Step) (next : Account) → ClientDoes road account sent due step next → KeepsGiven account step next
  due_keeps account sent Keep step next it = (ap (λ (n : StepNotes). n.served) it.0.1, ap (λ (a : Account). a.given) it.1)
  due_keeps account sent Send step next it = (ap (λ (n : StepNotes). n.served) it.0.1, ap (λ (a : Account). a.given) it.1)
  due_keeps account sent GiveUp step next it = (ap (λ (n : StepNotes). n.served) it.0.1, ap (λ (a : Account). a.given) it.1)

  tick_keeps : (account : Account) (asking : Option Sent) (now : Moment) (step : Step) (next : Account) → ClientTicksSo road now account asking step next → KeepsGiven account step next
  tick_keeps account None now step next it = (ap (λ (n : StepNotes). n.served) it.0.1, ap (λ (a : Account). a.given) it.1)
  tick_keeps account (Some sent) now step next it = due_keeps account sent (outstanding_due now (open_as road sent) sent) step next it

  learn_keeps : (account : Account) (asking : Option Sent) (step : Step) (next : Account) → ClientLearns road account asking step next → KeepsGiven account step next
  learn_keeps account None step next it = (ap (λ (s : Step). s.notes.served) it.0, ap (λ (a : Account). a.given) it.1)
  learn_keeps account (Some sent) step next it = (ap (λ (s : Step). s.notes.served) it.2, ap (λ (a : Account). a.given) it.3)

  entries_more : (event : Event) (step : Step) (later : List Happening) → step.notes.served ≡ None → entries_of (happening_of event step ∷ later) ≡ entries_of later
  entries_more event step later none = rw none refl

  pub next_as : (given : Option Given) (next last : Account) (later : List Happening) → next.given ≡ given → IsAccount road next later last
      → IsAccount road (account_of given next.asking) later last
  next_as given next last later is rest = subst (λ (g : Option Given). IsAccount road (account_of g next.asking) later last) is rest

  -- ---- once it is given

  again : (given : Given) (asking : Option Sent) (event : Event) (step : Step) (next : Account) → ComesTo road (account_of (Some given) asking) event step next
      → AnswersAgain road given event step × KeepsGiven (account_of (Some given) asking) step next
  again given asking (ClientTick now) step next it = (tt, tick_keeps (account_of (Some given) asking) asking now step next it)
  again given asking (ServerTick now) step next it = (it.0, (ap (λ (s : Step). s.notes.served) it.0, ap (λ (a : Account). a.given) it.1))
  again given asking (AtServer now draw sent) step next it = (it.0, (ap (λ (s : Step). s.notes.served) it.0, ap (λ (a : Account). a.given) it.1))
  again given asking (AtClient now draw sent) step next it = (tt, learn_keeps (account_of (Some given) asking) asking step next it)

  pub record GivesAgain (given : Given) (all : List Happening) (last : Account) : Type 0 where
    pub each : AllByRecursion (λ happening. AnswersAgain road given happening.event happening.step) all
    pub entries : entries_of all ≡ []
    pub still : last.given ≡ Some given

  pub gives_again : (all : List Happening) (given : Given) (asking : Option Sent) (last : Account) → IsAccount road (account_of (Some given) asking) all last
      → GivesAgain given all last
  gives_again [] given asking last is = record { each = tt; entries = refl; still = ap (λ (a : Account). a.given) is }
  gives_again (happening ∷ later) given asking last is =
      let it = again given asking happening.event happening.step is.0 is.1 in
      let rest = gives_again later given is.0.asking last (next_as (Some given) is.0 last later it.1.1 is.2) in
      record {
        each = (it.0, rest.each);
        entries = entries_more happening.event happening.step later it.1.0 ∙ rest.entries;
        still = rest.still;
      }

  -- ---- before

  pub data GivesOnce (all : List Happening) (last : Account) : Type 0 where
    nothing : NoneAtServer all → entries_of all ≡ [] → last.given ≡ None → GivesOnce all last
    something : (given : Given) → IsServedFirst road all given → last.given ≡ Some given → GivesOnce all last

  -- one more before that isn't a copy of the request
  before_it : (event : Event) (step : Step) (later : List Happening) (last : Account) → NoneAtServer (happening_of event step ∷ []) → step.notes.served ≡ None
      → GivesOnce later last → GivesOnce (happening_of event step ∷ later) last
  before_it event step later last isnt none (nothing nowhere entries given) =
      nothing (isnt.0, nowhere) (entries_more event step later none ∙ entries) given
  before_it event step later last isnt none (something given it still) =
      something given
      (record {
        before = happening_of event step ∷ it.before;
        after = it.after;
        now = it.now;
        draw = it.draw;
        sent = it.sent;
        step = it.step;
        all_is = ap (λ (l : List Happening). happening_of event step ∷ l) it.all_is;
        none = (isnt.0, it.none);
        served = it.served;
        again = it.again;
        entries = entries_more event step later none ∙ it.entries;
      })
      still

  entries_first : (event : Event) (step : Step) (later : List Happening) (entry : Entry) → step.notes.served ≡ Some entry → entries_of later ≡ []
      → entries_of (happening_of event step ∷ later) ≡ entry ∷ []
  entries_first event step later entry some none = rw (some, none) refl

  -- the first copy
  at_first : (now : Moment) (draw : Draw) (sent : Datagram) (step : Step) (later : List Happening) (given : Given) (last : Account)
      → IsServedAt road now given step → GivesAgain given later last → GivesOnce (happening_of (AtServer now draw sent) step ∷ later) last
  at_first now draw sent step later given last served rest =
      something given
      (record {
        before = [];
        after = later;
        now = now;
        draw = draw;
        sent = sent;
        step = step;
        all_is = refl;
        none = tt;
        served = served;
        again = rest.each;
        entries = entries_first (AtServer now draw sent) step later (entry_of road now given) (ap (λ (s : Step). s.notes.served) served.told) rest.entries;
      })
      rest.still

  by_event : (later : List Happening) (asking : Option Sent) (event : Event) (step : Step) (next last : Account)
      → ComesTo road (account_of None asking) event step next → IsAccount road next later last
      → ((other : Option Sent) → IsAccount road (account_of None other) later last → GivesOnce later last)
      → GivesOnce (happening_of event step ∷ later) last
  by_event later asking (ClientTick now) step next last it rest more =
      let keeps = tick_keeps (account_of None asking) asking now step next it in
      before_it (ClientTick now) step later last (tt, tt) keeps.0 (more next.asking (next_as None next last later keeps.1 rest))
  by_event later asking (ServerTick now) step next last it rest more =
      before_it (ServerTick now) step later last (tt, tt) (ap (λ (s : Step). s.notes.served) it.0)
      (more next.asking (next_as None next last later (ap (λ (a : Account). a.given) it.1) rest))
  by_event later asking (AtClient now draw sent) step next last it rest more =
      let keeps = learn_keeps (account_of None asking) asking step next it in
      before_it (AtClient now draw sent) step later last (tt, tt) keeps.0 (more next.asking (next_as None next last later keeps.1 rest))
  by_event later asking (AtServer now draw sent) step next last it rest more =
      at_first now draw sent step later it.0 last it.1
      (gives_again later it.0 next.asking last (next_as (Some it.0) next last later (ap (λ (a : Account). a.given) it.2) rest))

  pub gives_once : (all : List Happening) (asking : Option Sent) (last : Account) → IsAccount road (account_of None asking) all last → GivesOnce all last
  gives_once [] asking last is = nothing tt refl (ap (λ (a : Account). a.given) is)
  gives_once (happening ∷ later) asking last is =
      by_event later asking happening.event happening.step is.0 last is.1 is.2 (λ other. gives_once later other last)
