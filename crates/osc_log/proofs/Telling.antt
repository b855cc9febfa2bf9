-- What logs tell of some events, and of more after them.
use Rattle.std.proofs.Common.{◌≡◌, ◌≢◌, ◌∙◌, inl, inr, ℕ, List, [], ◌∷◌, ◌++◌, Option, Some, None, refl, ap, sym, subst, append-nil}
use Rattle.std.specs.Io.KnownBytes.{Appends}
use Rattle.osc_model.specs.declared.node.Moment.{Moment}
use Rattle.osc_log.specs.Counters.{after_turn, with_lost}
use Rattle.osc_log.specs.Faults.{IsUnreadText, behind_text, lost_text, unsaid_text, untold_text}
use Rattle.osc_log.specs.LineEnd.{line}
use Rattle.osc_log.specs.Log.{AreLines, Event, IsTelling, PutsLines, Says, SaysIn, SaysOf, Tells, TellsBy, TellsIf, Told, Writes, behind, counted_by, lost, no_event, one_event, seen_by, turned, unseen}
use Rattle.osc_log.specs.Log as log
use Rattle.osc_log.specs.Output.{Admits, Puts, Written}
use Rattle.osc_log.specs.Sent.{seen_after, turn_text}
use Rattle.osc_log.specs.Time.{IsTime}
use Rattle.osc_log.specs.Turns.{Turn}
use Rattle.osc_log.specs.declared.form.Form.{Form}
use Rattle.osc_log.specs.declared.form.Form.TheVariants.{Text, Json}
use Rattle.osc_log.specs.declared.held.Held.{Held}
use Rattle.osc_log.specs.declared.seen.Seen.{Seen}
use Rattle.osc_log.proofs.Appended.{appends_more, appends_none, admits_none, admits_some, puts_all, puts_none}

-- ---- one event after another

pub tells_more : (first between last : Told) (some more : List Event) → Tells first between some → Tells between last more → Tells first last (some ++ more)
tells_more first between last some more (no_event it) q = q
tells_more first between last some more (one_event a b c event events p ps) q = one_event a b last event (events ++ more) p (tells_more b c last events more ps q)

pub tells_one : (old new : Told) (event : Event) → TellsIf old.seen old new event → Tells old new (event ∷ [])
tells_one old new event p = one_event old new new event [] p (no_event new)

-- ---- what was written stays

written_of : (seen : Option Seen) (old new : Told) (event : Event) → TellsIf seen old new event → (text : List ℕ) × Appends old.output.text new.output.text text
written_of None old new event same = ([], subst (λ (log : Told). Appends old.output.text log.output.text []) (sym same) (appends_none old.output.text))
written_of (Some seen) old new event says =
    let first = admits_some old.form (log.moment_of event) old.output says.between says.admits in
    (first.0 ++ says.puts.put, appends_more old.output.text says.between.text new.output.text first.0 says.puts.put first.1 says.puts.appends)

pub stays : (old new : Told) (events : List Event) → Tells old new events → (text : List ℕ) × Appends old.output.text new.output.text text
stays old new events (no_event it) = ([], appends_none it.output.text)
stays old new events (one_event a b c event more p ps) =
    let first = written_of a.seen a b event p in
    let later = stays b c more ps in
    (first.0 ++ later.0, appends_more a.output.text b.output.text c.output.text first.0 later.0 first.1 later.1)

-- ---- what is counted

count_of_one : (form : Form) (seen last : Seen) (event : Event) (text : List ℕ) → SaysOf form seen event text last → last.counters ≡ log.count_of event seen.counters
count_of_one form seen last event text (log.told turn held time is_time) = refl
count_of_one form seen last event text (log.untold turn held time is_time) = refl
count_of_one form seen last event text (log.missed now time is_time) = refl
count_of_one form seen last event text (log.lagging now seconds time is_time) = refl

says_in : (old new : Told) (seen : Seen) (event : Event) → TellsIf old.seen old new event → old.seen ≡ Some seen → SaysIn seen old new event
says_in old new seen event p is = subst (λ (s : Option Seen). TellsIf s old new event) is p

pub counted : (old new : Told) (seen : Seen) (events : List Event) → Tells old new events → old.seen ≡ Some seen
    → (last : Seen) × (new.seen ≡ Some last) × (last.counters ≡ counted_by events seen.counters)
counted old new seen events (no_event it) is = (seen, is, refl)
counted old new seen events (one_event a b c event more p ps) is =
    let says = says_in a b seen event p is in
    let later = counted b c says.last more ps says.is_last in
    (later.0, later.1, later.2 ∙ ap (counted_by more) (count_of_one a.form seen says.last event says.text says.says))

-- ---- what is said where nothing was dropped

pub said : (old new : Told) (seen : Seen) (events : List Event) → Tells old new events → old.seen ≡ Some seen → new.output.dropped ≡ 0
    → (old.output.dropped ≡ 0) × (text : List ℕ) × (last : Seen) × (new.seen ≡ Some last) × Says old.form seen events text last × Appends old.output.text new.output.text text
said old new seen events (no_event it) is none = (none, [], seen, is, log.nothing seen, appends_none it.output.text)
said old new seen events (one_event a b c event more p ps) is none =
    let says = says_in a b seen event p is in
    let later = said b c says.last more ps says.is_last none in
    let whole = puts_all says.between b.output says.text says.puts later.0 in
    let first = admits_none a.form (log.moment_of event) a.output says.between says.admits whole.0 in
    let wrote = subst (λ (w : Written). Appends w.text b.output.text says.text) first.1 whole.1 in (
      first.0,
      says.text ++ later.1,
      later.2,
      later.3,
      log.more seen says.last later.2 event more says.text later.1 says.says (subst (λ (form : Form). Says form says.last more later.1 later.2) says.form later.4),
      appends_more a.output.text b.output.text c.output.text says.text later.1 wrote later.5,
    )

-- ---- a turn

says_lines : (form : Form) (seen : Seen) (turn : Turn) (held : Held) (lines : List ℕ) → AreLines form (Some seen) turn held lines
    → SaysOf form seen (turned turn held) lines (seen_after turn seen)
says_lines form seen turn held lines are =
    subst (λ (text : List ℕ). SaysOf form seen (turned turn held) text (seen_after turn seen)) (sym are.2) (log.told turn held are.0 are.1)

by_lines : (seen : Option Seen) (old new : Told) (turn : Turn) (held : Held) (lines : List ℕ) → AreLines old.form seen turn held lines
    → TellsBy seen old new turn (Some lines) → TellsIf seen old new (turned turn held)
by_lines None old new turn held lines are same = same
by_lines (Some seen) old new turn held lines are p = record {
  form = p.form;
  between = p.between;
  admits = p.admits;
  text = lines;
  last = seen_after turn seen;
  is_last = p.seen_now;
  says = says_lines old.form seen turn held lines are;
  puts = subst (Puts p.between new.output) p.is_text p.puts;
}

by_none : (seen : Option Seen) (old new : Told) (turn : Turn) (held : Held) → TellsBy seen old new turn None → TellsIf seen old new (turned turn held)
by_none None old new turn held same = same
by_none (Some seen) old new turn held p = record {
  form = p.form;
  between = p.between;
  admits = p.admits;
  text = untold_text old.form p.is_text.0;
  last = seen_by turn None seen;
  is_last = p.seen_now;
  says = log.untold turn held p.is_text.0 p.is_text.1;
  puts = subst (Puts p.between new.output) p.is_text.2 p.puts;
}

pub tells_lines : (old new : Told) (turn : Turn) (held : Held) (lines : List ℕ) → AreLines old.form old.seen turn held lines
    → TellsBy old.seen old new turn (Some lines) → Tells old new (turned turn held ∷ [])
tells_lines old new turn held lines are p = tells_one old new (turned turn held) (by_lines old.seen old new turn held lines are p)

pub tells_untold : (old new : Told) (turn : Turn) (held : Held) → TellsBy old.seen old new turn None → Tells old new (turned turn held ∷ [])
tells_untold old new turn held p = tells_one old new (turned turn held) (by_none old.seen old new turn held p)

-- what is told of a turn without its lines
pub untold_lines : (old new : Written) (form : Form) (turn : Turn) (lines : Option (List ℕ)) (now : Moment) → lines ≡ None → now ≡ turn.now
    → (time : List ℕ) × IsTime now time × Puts old new (untold_text form time)
    → (text : List ℕ) × IsTelling form turn lines text × Puts old new text
untold_lines old new form turn lines now none at p =
    (untold_text form p.0, subst (λ (l : Option (List ℕ)). IsTelling form turn l (untold_text form p.0)) (sym none) (p.0, subst (λ (m : Moment). IsTime m p.0) at p.1, refl), p.2)

-- ---- what else is told

-- of a log that tells of no turns
pub same_tells : (old : Told) (event : Event) → old.seen ≡ None → Tells old old (event ∷ [])
same_tells old event none = tells_one old old event (subst (λ (seen : Option Seen). TellsIf seen old old event) (sym none) refl)

pub tells_lost : (old new : Told) (now : Moment) (seen : Seen) (between : Written) (time text : List ℕ)
    → new.form ≡ old.form → old.seen ≡ Some seen → new.seen ≡ Some (record seen { counters = with_lost seen.counters })
    → IsTime now time → text ≡ lost_text old.form time → Admits old.form now old.output between → Puts between new.output text
    → Tells old new (lost now ∷ [])
tells_lost old new now seen between time text form is_old is_new is_time is_text admits puts =
    let last : Seen = record seen { counters = with_lost seen.counters } in
    let says : SaysIn seen old new (lost now) = record {
      form = form;
      between = between;
      admits = admits;
      text = lost_text old.form time;
      last = last;
      is_last = is_new;
      says = log.missed now time is_time;
      puts = subst (Puts between new.output) is_text puts;
    } in
    tells_one old new (lost now) (subst (λ (s : Option Seen). TellsIf s old new (lost now)) (sym is_old) says)

pub tells_behind : (old new : Told) (now : Moment) (seconds : ℕ) (seen : Seen) (between : Written) (time text : List ℕ)
    → new.form ≡ old.form → old.seen ≡ Some seen → new.seen ≡ Some seen
    → IsTime now time → text ≡ behind_text old.form time seconds → Admits old.form now old.output between → Puts between new.output text
    → Tells old new (behind now seconds ∷ [])
tells_behind old new now seconds seen between time text form is_old is_new is_time is_text admits puts =
    let says : SaysIn seen old new (behind now seconds) = record {
      form = form;
      between = between;
      admits = admits;
      text = behind_text old.form time seconds;
      last = seen;
      is_last = is_new;
      says = log.lagging now seconds time is_time;
      puts = subst (Puts between new.output) is_text puts;
    } in
    tells_one old new (behind now seconds) (subst (λ (s : Option Seen). TellsIf s old new (behind now seconds)) (sym is_old) says)

-- ---- settings that are none

pub unsaid : (form : Form) (words : Option (List ℕ)) → (text : List ℕ) × IsUnreadText form words text
unsaid form None = (unsaid_text form, refl)
unsaid Text (Some words) = (line words, refl)
unsaid Json (Some words) = (unsaid_text Json, inr refl)

pub unseen_writes : (words : Option (List ℕ)) → (text : List ℕ) × IsUnreadText Text words text × Writes unseen unseen text
unseen_writes words =
    let it = unsaid Text words in
    (it.0, it.1, record { form = refl; seen = refl; puts = puts_none it.0 })
