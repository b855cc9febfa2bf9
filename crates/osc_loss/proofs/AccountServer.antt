-- What follows from the account of a round for the server: taken up once, and the same bytes each time.
use Rattle.std.proofs.Common.{◌≡◌, ◌∙◌, ap, subst, refl, List, [], ◌∷◌, ◌++◌, Option, Some, None}
use Rattle.std.specs.List.{AllByRecursion}
use Rattle.osc_model.specs.declared.node.Draw.{Draw}
use Rattle.osc_model.specs.declared.node.Moment.{Moment}
use Rattle.osc_model.specs.declared.step.Datagram.{Datagram}
use Rattle.osc_model.specs.declared.step.Entry.{Entry}
use Rattle.osc_model.specs.declared.step.Step.{Step}
use Rattle.osc_message.specs.{Sent, outstanding_due}
use Rattle.osc_message.specs.declared.due.Due.{Due}
use Rattle.osc_message.specs.declared.due.Due.TheVariants.{Keep, Send, GiveUp}
use Rattle.osc_ccm.specs.{Sealings}
use Rattle.osc_authz.specs.{ClientContextState}
use Rattle.osc_server.specs.State.{State as Server}
use Rattle.osc_rounds.specs.{Ends}
use Rattle.osc_loss.specs.Road.{AtClient, AtServer, ClientTick, Event, Goes, Happening, Happens, OtherAtClient, OtherAtServer, Road, ServerTick, happening_of}
use Rattle.osc_loss.specs.Round.{AnswersAgain, Given, IsNotAtServer, IsTakenUpFirst, NoneAtServer, entries_of, list_of}
use Rattle.osc_loss.proofs.Account.{Account, ClientDoes, ClientLearns, ClientTicksSo, ComesTo, IsAccount, account_of, goes_of}
use Rattle.osc_loss.proofs.Ticking.{open_as}

module _ (is_sealing : Sealings) (Makes : Server → Moment → Draw → Step → Server → Given → Type 0) (Keeps : Given → Option ClientContextState → Type 0) (road : Road) where
  -- ---- what was given stays

  due_keeps : (account : Account) (sent : Sent) (due : Due) (step : Step) (next : Account) → ClientDoes is_sealing Makes Keeps road account sent due step next → next.given ≡ account.given
  due_keeps account sent Keep step next it = ap (λ (a : Account). a.given) it.1
  due_keeps account sent Send step next it = ap (λ (a : Account). a.given) it.1
  due_keeps account sent GiveUp step next it = ap (λ (a : Account). a.given) it.1

  pub tick_keeps : (account : Account) (asking : Option Sent) (now : Moment) (step : Step) (next : Account) → ClientTicksSo is_sealing Makes Keeps road now account asking step next
      → next.given ≡ account.given
  tick_keeps account None now step next it = ap (λ (a : Account). a.given) it.1
  tick_keeps account (Some sent) now step next it = due_keeps account sent (outstanding_due now (open_as road sent) sent) step next it

  pub learn_keeps : (account : Account) (asking : Option Sent) (step : Step) (next : Account) → ClientLearns is_sealing Makes Keeps road account asking step next → next.given ≡ account.given
  learn_keeps account None step next it = ap (λ (a : Account). a.given) it.1
  learn_keeps account (Some sent) step next it = ap (λ (a : Account). a.given) it.3.2

  pub next_as : (given : Option Given) (ends : Ends) (next : Account) (last : Ends) (end : Account) (later : List Happening) → next.given ≡ given
      → IsAccount is_sealing Makes Keeps road ends next later last end → IsAccount is_sealing Makes Keeps road ends (account_of given next.asking next.context) later last end
  next_as given ends next last end later is rest =
      subst (λ (g : Option Given). IsAccount is_sealing Makes Keeps road ends (account_of g next.asking next.context) later last end) is rest

  entries_more : (event : Event) (step : Step) (later : List Happening) → IsNotAtServer event → entries_of (happening_of event step ∷ later) ≡ entries_of later
  entries_more (ClientTick now) step later isnt = refl
  entries_more (ServerTick now) step later isnt = refl
  entries_more (AtServer now draw sent) step later isnt = absurd isnt
  entries_more (AtClient now draw sent) step later isnt = refl
  entries_more (OtherAtServer came) step later isnt = refl
  entries_more (OtherAtClient came) step later isnt = refl

  entries_one : (now : Moment) (draw : Draw) (sent : Datagram) (step : Step) (later : List Happening) (entry : Option Entry) → step.notes.served ≡ entry
      → entries_of later ≡ [] → entries_of (happening_of (AtServer now draw sent) step ∷ later) ≡ list_of Entry entry
  entries_one now draw sent step later None served none = rw served none
  entries_one now draw sent step later (Some entry) served none = rw (served, none) refl

  -- ---- once it is given

  -- each later copy is answered by the same bytes, and what was given stays
  record Again (given : Given) (ends : Ends) (account : Account) (event : Event) (step : Step) (mid : Ends) (next : Account) : Type 0 where
    answers : AnswersAgain road given event step
    none : (later : List Happening) → entries_of later ≡ [] → entries_of (happening_of event step ∷ later) ≡ []
    still : next.given ≡ Some given

  again : (given : Given) (asking : Option Sent) (context : Option ClientContextState) (ends : Ends) (event : Event) (step : Step) (mid : Ends) (next : Account)
      → ComesTo is_sealing Makes Keeps road ends (account_of (Some given) asking context) event step mid next
      → Again given ends (account_of (Some given) asking context) event step mid next
  again given asking context ends (ClientTick now) step mid next it = record {
    answers = tt;
    none = λ later none. none;
    still = tick_keeps (account_of (Some given) asking context) asking now step next it;
  }
  again given asking context ends (ServerTick now) step mid next it = record {
    answers = it.0;
    none = λ later none. none;
    still = ap (λ (a : Account). a.given) it.1;
  }
  again given asking context ends (AtServer now draw sent) step mid next it = record {
    answers = it.0;
    none = λ later none. entries_one now draw sent step later None (ap (λ (s : Step). s.notes.served) it.0) none;
    still = ap (λ (a : Account). a.given) it.1;
  }
  again given asking context ends (AtClient now draw sent) step mid next it = record {
    answers = tt;
    none = λ later none. none;
    still = learn_keeps (account_of (Some given) asking context) asking step next it;
  }
  again given asking context ends (OtherAtServer came) step mid next it = record {
    answers = tt;
    none = λ later none. none;
    still = ap (λ (a : Account). a.given) it;
  }
  again given asking context ends (OtherAtClient came) step mid next it = record {
    answers = tt;
    none = λ later none. none;
    still = ap (λ (a : Account). a.given) it.1;
  }

  pub record GivesAgain (given : Given) (all : List Happening) (end : Account) : Type 0 where
    pub each : AllByRecursion (λ happening. AnswersAgain road given happening.event happening.step) all
    pub entries : entries_of all ≡ []
    pub still : end.given ≡ Some given

  pub gives_again : (all : List Happening) (given : Given) (asking : Option Sent) (context : Option ClientContextState) (ends last : Ends) (end : Account)
      → IsAccount is_sealing Makes Keeps road ends (account_of (Some given) asking context) all last end → GivesAgain given all end
  gives_again [] given asking context ends last end is = record { each = tt; entries = refl; still = ap (λ (a : Account). a.given) is.1 }
  gives_again (happening ∷ later) given asking context ends last end is =
      let it = again given asking context ends happening.event happening.step is.0 is.1 is.3 in
      let rest = gives_again later given is.1.asking is.1.context is.0 last end (next_as (Some given) is.0 is.1 last end later it.still is.4) in
      record { each = (it.answers, rest.each); entries = it.none later rest.entries; still = rest.still }

  -- ---- before

  pub data GivesOnce (start : Ends) (all : List Happening) (last : Ends) (end : Account) : Type 0 where
    nothing : NoneAtServer all → entries_of all ≡ [] → end.given ≡ None → GivesOnce start all last end
    something : (given : Given) → IsTakenUpFirst is_sealing Makes Keeps road start all last given → end.given ≡ Some given → GivesOnce start all last end

  -- one more before that isn't a copy of the message
  before_it : (start mid : Ends) (event : Event) (step : Step) (later : List Happening) (last : Ends) (end : Account) → IsNotAtServer event
      → Happens is_sealing road.route start event step mid
      → GivesOnce mid later last end → GivesOnce start (happening_of event step ∷ later) last end
  before_it start mid event step later last end isnt happens (nothing nowhere entries given) =
      nothing (isnt, nowhere) (entries_more event step later isnt ∙ entries) given
  before_it start mid event step later last end isnt happens (something given it still) =
      something given
      (record {
        before = happening_of event step ∷ it.before;
        after = it.after;
        now = it.now;
        draw = it.draw;
        sent = it.sent;
        step = it.step;
        ends = it.ends;
        server = it.server;
        all_is = ap (λ (l : List Happening). happening_of event step ∷ l) it.all_is;
        none = (isnt, it.none);
        leads = (mid, happens, it.leads);
        made = it.made;
        goes_on = it.goes_on;
        again = it.again;
        entries = entries_more event step later isnt ∙ it.entries;
      })
      still

  -- the first copy
  at_first : (start : Ends) (now : Moment) (draw : Draw) (sent : Datagram) (step : Step) (server : Server) (mid : Ends) (later : List Happening) (given : Given) (last : Ends) (end : Account)
      → Makes start.server now draw step server given → mid ≡ record start { server = server; replies = step.out ++ start.replies }
      → Goes is_sealing road.route mid later last → GivesAgain given later end
      → GivesOnce start (happening_of (AtServer now draw sent) step ∷ later) last end
  at_first start now draw sent step server mid later given last end made mid_is goes rest =
      something given
      (record {
        before = [];
        after = later;
        now = now;
        draw = draw;
        sent = sent;
        step = step;
        ends = start;
        server = server;
        all_is = refl;
        none = tt;
        leads = refl;
        made = made;
        goes_on = subst (λ (e : Ends). Goes is_sealing road.route e later last) mid_is goes;
        again = rest.each;
        entries = entries_one now draw sent step later step.notes.served refl rest.entries;
      })
      rest.still

  by_event : (start mid : Ends) (later : List Happening) (asking : Option Sent) (context : Option ClientContextState) (event : Event) (step : Step) (next : Account) (last : Ends) (end : Account)
      → Happens is_sealing road.route start event step mid
      → ComesTo is_sealing Makes Keeps road start (account_of None asking context) event step mid next → IsAccount is_sealing Makes Keeps road mid next later last end
      → ((other : Option Sent) (another : Option ClientContextState) → IsAccount is_sealing Makes Keeps road mid (account_of None other another) later last end → GivesOnce mid later last end)
      → GivesOnce start (happening_of event step ∷ later) last end
  by_event start mid later asking context (ClientTick now) step next last end happens it rest more =
      before_it start mid (ClientTick now) step later last end tt happens
      (more next.asking next.context (next_as None mid next last end later (tick_keeps (account_of None asking context) asking now step next it) rest))
  by_event start mid later asking context (ServerTick now) step next last end happens it rest more =
      before_it start mid (ServerTick now) step later last end tt happens
      (more next.asking next.context (next_as None mid next last end later (ap (λ (a : Account). a.given) it.1) rest))
  by_event start mid later asking context (AtClient now draw sent) step next last end happens it rest more =
      before_it start mid (AtClient now draw sent) step later last end tt happens
      (more next.asking next.context (next_as None mid next last end later (learn_keeps (account_of None asking context) asking step next it) rest))
  by_event start mid later asking context (OtherAtServer came) step next last end happens it rest more =
      before_it start mid (OtherAtServer came) step later last end tt happens
      (more next.asking next.context (next_as None mid next last end later (ap (λ (a : Account). a.given) it) rest))
  by_event start mid later asking context (OtherAtClient came) step next last end happens it rest more =
      before_it start mid (OtherAtClient came) step later last end tt happens
      (more next.asking next.context (next_as None mid next last end later (ap (λ (a : Account). a.given) it.1) rest))
  by_event start mid later asking context (AtServer now draw sent) step next last end happens it rest more =
      at_first start now draw sent step it.1 mid later it.0 last end it.2 it.3 (goes_of is_sealing Makes Keeps road later mid next last end rest)
      (gives_again later it.0 next.asking next.context mid last end (next_as (Some it.0) mid next last end later (ap (λ (a : Account). a.given) it.4) rest))

  pub gives_once : (all : List Happening) (asking : Option Sent) (context : Option ClientContextState) (start last : Ends) (end : Account)
      → IsAccount is_sealing Makes Keeps road start (account_of None asking context) all last end → GivesOnce start all last end
  gives_once [] asking context start last end is = nothing tt refl (ap (λ (a : Account). a.given) is.1)
  gives_once (happening ∷ later) asking context start last end is =
      by_event start is.0 later asking context happening.event happening.step is.1 last end is.2 is.3 is.4
      (λ other another. gives_once later other another is.0 last end)
