-- Lines of what is served stand in what a log says.
use Rattle.std.proofs.Common.{◌≡◌, ◌∙◌, ◌/◌, ◌==◌, ℕ, Bool, true, false, ◌⊎◌, List, [], ◌∷◌, ◌++◌, Option, None, inl, inr, refl, ap, sym, subst, append_assoc, append-nil}
use Rattle.std.proofs.lemmas.Bool.{eqb-true, eq-eqb}
use Rattle.osc_model.specs.declared.node.Moment.{Moment}
use Rattle.osc_model.specs.declared.step.Datagram.{Datagram}
use Rattle.osc_log.specs.Counters.{due_text}
use Rattle.osc_log.specs.Faults.{untold_text}
use Rattle.osc_log.specs.Kinds.{kind_of}
use Rattle.osc_log.specs.Limits.{after_line, limits_at, with_line}
use Rattle.osc_log.specs.Log.{Event, Says, SaysOf, turned}
use Rattle.osc_log.specs.Log as log
use Rattle.osc_log.specs.Sent.{ended_text, line_text, line_told, telling_of, told_by}
use Rattle.osc_log.specs.Served.{IsTold, Serves, StandsIn, lines_by, lines_of}
use Rattle.osc_log.specs.Time.{IsTime}
use Rattle.osc_log.specs.Turns.{Telling, Turn}
use Rattle.osc_log.specs.declared.form.Form.{Form}
use Rattle.osc_log.specs.declared.held.Held.{Held}
use Rattle.osc_log.specs.declared.kind.Kind.{Kind}
use Rattle.osc_log.specs.declared.limits.Limits.{Limits}
use Rattle.osc_log.specs.declared.seen.Seen.{Seen}

-- ---- a turn that serves

of_no_kind : (turn : Turn) → Serves turn → kind_of turn.step.notes ≡ None
of_no_kind turn serves = rw (serves.1, serves.2) refl

-- its line is told, whatever was told before
line_is_told : (telling : Telling) (turn : Turn) (datagram : Datagram) (limits : Limits) → Serves turn → line_told telling turn datagram limits ≡ line_text telling turn datagram
line_is_told telling turn datagram limits serves = rw (of_no_kind turn serves) refl

-- the second is that of the moment
by_test : (same : Bool) (now : Moment) (limits : Limits) → (now.ms / 1000 == limits.second) ≡ same → (limits_at now limits).second ≡ now.ms / 1000
by_test true now limits e = rw e (sym (eqb-true (now.ms / 1000) limits.second e))
by_test false now limits e = rw e refl

now_counted : (now : Moment) (limits : Limits) → (limits_at now limits).second ≡ now.ms / 1000
now_counted now limits = by_test (now.ms / 1000 == limits.second) now limits refl

second_after : (turn : Turn) (limits : Limits) → Serves turn → (after_line turn limits).second ≡ turn.now.ms / 1000
second_after turn limits serves =
    ap (λ (kind : Option Kind). (with_line kind (limits_at turn.now limits)).second) (of_no_kind turn serves) ∙ now_counted turn.now limits

nothing_ended : (telling : Telling) (now : Moment) (limits : Limits) → limits.second ≡ now.ms / 1000 → ended_text telling now limits ≡ []
nothing_ended telling now limits same = rw (eq-eqb (now.ms / 1000) limits.second (sym same)) refl

-- later ones in the same second have their lines alone
told_alone : (telling : Telling) (turn : Turn) (limits : Limits) (out : List Datagram) → Serves turn → limits.second ≡ turn.now.ms / 1000
    → told_by telling turn limits out ≡ lines_by telling turn out
told_alone telling turn limits [] serves same = refl
told_alone telling turn limits (datagram ∷ out) serves same =
    rw (
      nothing_ended telling turn.now limits same,
      line_is_told telling turn datagram limits serves,
      told_alone telling turn (after_line turn limits) out serves (second_after turn limits serves),
    ) refl

told_after : (telling : Telling) (turn : Turn) (limits : Limits) (out : List Datagram) → Serves turn
    → (before : List ℕ) × (told_by telling turn limits out ≡ before ++ lines_by telling turn out)
told_after telling turn limits [] serves = ([], refl)
told_after telling turn limits (datagram ∷ out) serves = (
  ended_text telling turn.now limits,
  rw (line_is_told telling turn datagram limits serves, told_alone telling turn (after_line turn limits) out serves (second_after turn limits serves))
      (append_assoc (ended_text telling turn.now limits) (line_text telling turn datagram) (lines_by telling turn out)),
)

-- ---- a log

stands_within : (lines text more : List ℕ) → StandsIn lines text → StandsIn text more → StandsIn lines more
stands_within lines text more p q = (q.0 ++ p.0, p.1 ++ q.1, q.2 ∙ ap (λ (t : List ℕ). q.0 ++ t ++ q.1) p.2 ∙ simp append_assoc)

stands_itself : (text : List ℕ) → StandsIn text text
stands_itself text = ([], [], sym (append-nil text))

-- of one event
said_of : (form : Form) (seen : Seen) (turn : Turn) (held : Held) (text : List ℕ) (last : Seen) → Serves turn → SaysOf form seen (turned turn held) text last
    → (time : List ℕ) × IsTime turn.now time × (StandsIn (lines_of form time turn) text ⊎ StandsIn (untold_text form time) text)
said_of form seen turn held text last serves (log.told same_turn same_held time is_time) =
    let telling = telling_of form time in
    let first = told_after telling turn seen.limits turn.step.out serves in
    let due = due_text telling turn seen.counters held in
    (time, is_time, inl (first.0, due, ap (λ (t : List ℕ). t ++ due) first.1))
said_of form seen turn held text last serves (log.untold same_turn same_held time is_time) = (time, is_time, inr (stands_itself (untold_text form time)))

-- either of them, with more said around it
either : (form : Form) (time : List ℕ) (turn : Turn) (text more : List ℕ) → (StandsIn text more)
    → StandsIn (lines_of form time turn) text ⊎ StandsIn (untold_text form time) text
    → StandsIn (lines_of form time turn) more ⊎ StandsIn (untold_text form time) more
either form time turn text more around (inl lines) = inl (stands_within _ text more lines around)
either form time turn text more around (inr lines) = inr (stands_within _ text more lines around)

pub told_in : (form : Form) (first last : Seen) (before after : List Event) (turn : Turn) (held : Held) (text : List ℕ) → Serves turn
    → Says form first (before ++ turned turn held ∷ after) text last → IsTold form turn text
told_in form first last [] after turn held text serves (log.more a b c event events said others_said p ps) =
    let it = said_of form a turn held said b serves p in
    record { time = it.0; is_time = it.1; stands = either form it.0 turn said (said ++ others_said) ([], others_said, refl) it.2 }
told_in form first last (earlier ∷ before) after turn held text serves (log.more a b c event events said others_said p ps) =
    let it = told_in form b c before after turn held others_said serves ps in
    record {
      time = it.time;
      is_time = it.is_time;
      stands = either form it.time turn others_said (said ++ others_said) (said, [], sym (append-nil (said ++ others_said))) it.stands;
    }
