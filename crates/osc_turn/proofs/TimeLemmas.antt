-- The time of a node over many readings.
use Rattle.std.proofs.Common.{◌≡◌, ◌≤◌, ◌<◌, ◌+◌, ◌-◌, ◌++◌, ◌∷◌, ◌∙◌, [], ℕ, List, Option, Some, None, min, refl, ap, sym, subst, append_assoc, append-nil, arith}
use Rattle.std.specs.Prelude.{⊤}
use Rattle.std.proofs.lemmas.Bool.{cond_both, leb-true, leb-false}
use Rattle.osc_turn.specs.Time.{Time, after, begun, counted_by, latest, one_minute, steady_time, wall_of, with_lead}
use Rattle.osc_turn.specs.Times.{AreAhead, GoesOn, StepsUp, WasAhead, after_all}
use Rattle.osc_turn.specs.declared.lead.Lead.{Lead}
use Rattle.osc_turn.specs.declared.watch.Reading.{Reading}

-- ---- one reading

-- the lead after it, where the wall clock is ahead
abbrev lead_of : Time → Reading → Lead
lead_of time reading = with_lead time.lead (counted_by time reading) (wall_of reading - steady_time time reading)

-- what it does to the time: nothing is ahead, or the wall clock is, and is believed or not
data Moves (time : Time) (reading : Reading) : Time → Type 0 where
  level : wall_of reading ≤ steady_time time reading
      → Moves time reading (record { nanos = steady_time time reading; counted = counted_by time reading; lead = None })
  believed : steady_time time reading < wall_of reading → one_minute ≤ counted_by time reading - (lead_of time reading).since
      → Moves time reading (record { nanos = steady_time time reading + (lead_of time reading).least; counted = counted_by time reading; lead = None })
  ahead : steady_time time reading < wall_of reading
      → Moves time reading (record { nanos = steady_time time reading; counted = counted_by time reading; lead = Some (lead_of time reading) })

moves : (time : Time) (reading : Reading) → Moves time reading (after time reading)
moves time reading =
    cond_both _ _ _ (Moves time reading) (λ e. level (leb-true _ _ e))
    (λ e. cond_both _ _ _ (Moves time reading) (λ d. believed (leb-false _ _ e) (leb-true _ _ d)) (λ d. ahead (leb-false _ _ e)))

-- ---- it goes on

counted_on : (time : Time) (reading : Reading) (new : Time) → Moves time reading new
    → (min (time.nanos + (new.counted - time.counted)) latest ≤ new.nanos) × (time.counted ≤ new.counted)
counted_on time reading _ (level e) = (omega arith, omega arith)
counted_on time reading _ (believed e d) = (omega arith, omega arith)
counted_on time reading _ (ahead e) = (omega arith, omega arith)

goes_on_from : (first last : ℕ) (time new : Time) → (min (first + (time.counted - last)) latest ≤ time.nanos) × (last ≤ time.counted)
    → (min (time.nanos + (new.counted - time.counted)) latest ≤ new.nanos) × (time.counted ≤ new.counted)
    → (min (first + (new.counted - last)) latest ≤ new.nanos) × (last ≤ new.counted)
goes_on_from first last time new p q = (omega (arith, p.0, p.1, q.0, q.1), omega (arith, p.1, q.1))

goes_on_all : (first last : ℕ) (time : Time) (readings : List Reading) → (min (first + (time.counted - last)) latest ≤ time.nanos) × (last ≤ time.counted)
    → (min (first + ((after_all time readings).counted - last)) latest ≤ (after_all time readings).nanos) × (last ≤ (after_all time readings).counted)
goes_on_all first last time [] p = p
goes_on_all first last time (reading ∷ readings) p =
    goes_on_all first last (after time reading) readings (goes_on_from first last time (after time reading) p (counted_on time reading _ (moves time reading)))

pub goes_on : (first : Time) (readings : List Reading) → GoesOn first (after_all first readings)
goes_on first readings = (goes_on_all first.nanos first.counted first readings (omega arith, omega arith)).0

-- ---- more readings

after_more : (time : Time) (some more : List Reading) → after_all time (some ++ more) ≡ after_all (after_all time some) more
after_more time [] more = refl
after_more time (reading ∷ some) more = after_more (after time reading) some more

ahead_less : (least most : ℕ) (time : Time) (readings : List Reading) → least ≤ most → AreAhead most time readings → AreAhead least time readings
ahead_less least most time [] less p = tt
ahead_less least most time (reading ∷ readings) less p =
    (omega (arith, less, p.0), ahead_less least most (after time reading) readings less p.1)

ahead_more : (least : ℕ) (time : Time) (readings : List Reading) (last : Reading) → AreAhead least time readings
    → steady_time (after_all time readings) last + least ≤ wall_of last → AreAhead least time (readings ++ last ∷ [])
ahead_more least time [] last p q = (q, tt)
ahead_more least time (reading ∷ readings) last p q = (p.0, ahead_more least (after time reading) readings last p.1 q)

-- ---- since when

-- the wall clock was ahead in these readings as this lead says
record IsLed (first : Time) (readings : List Reading) (lead : Lead) : Type 0 where
  pub before : List Reading
  pub since : Reading
  pub more : List Reading
  pub are : readings ≡ before ++ since ∷ more
  pub counted : counted_by (after_all first before) since ≡ lead.since
  pub ahead : AreAhead lead.least (after_all first before) (since ∷ more)

abbrev MayLead : Time → List Reading → Option Lead → Type 0
MayLead first readings None = ⊤
MayLead first readings (Some lead) = IsLed first readings lead

led_more : (first : Time) (readings : List Reading) (last : Reading) (lead : Option Lead) → MayLead first readings lead
    → steady_time (after_all first readings) last < wall_of last
    → IsLed first (readings ++ last ∷ []) (with_lead lead (counted_by (after_all first readings) last) (wall_of last - steady_time (after_all first readings) last))
led_more first readings last None led is_ahead = record {
  before = readings;
  since = last;
  more = [];
  are = refl;
  counted = refl;
  ahead = (omega (arith, is_ahead), tt);
}
led_more first readings last (Some lead) led is_ahead =
    let by = wall_of last - steady_time (after_all first readings) last in
    let whole = led.since ∷ led.more in
    let at : after_all (after_all first led.before) whole ≡ after_all first readings =
    sym (after_more first led.before whole) ∙ ap (after_all first) (sym led.are) in
    let here : steady_time (after_all first readings) last + min lead.least by ≤ wall_of last = omega (arith, is_ahead) in
    let there : steady_time (after_all (after_all first led.before) whole) last + min lead.least by ≤ wall_of last =
    subst (λ (time : Time). steady_time time last + min lead.least by ≤ wall_of last) (sym at) here in
    record {
      before = led.before;
      since = led.since;
      more = led.more ++ last ∷ [];
      are = ap (λ (all : List Reading). all ++ last ∷ []) led.are ∙ append_assoc led.before whole (last ∷ []);
      counted = led.counted;
      ahead = ahead_more (min lead.least by) (after_all first led.before) whole last
          (ahead_less (min lead.least by) lead.least (after_all first led.before) whole (omega arith) led.ahead) there;
    }

leads_on : (first : Time) (readings : List Reading) (last : Reading) (new : Time) → Moves (after_all first readings) last new
    → MayLead first readings (after_all first readings).lead → MayLead first (readings ++ last ∷ []) new.lead
leads_on first readings last _ (level e) led = tt
leads_on first readings last _ (believed e d) led = tt
leads_on first readings last _ (ahead e) led = led_more first readings last (after_all first readings).lead led e

leads_all : (first : Time) (readings more : List Reading) → MayLead first readings (after_all first readings).lead
    → MayLead first (readings ++ more) (after_all first (readings ++ more)).lead
leads_all first readings [] led = subst (λ (all : List Reading). MayLead first all (after_all first all).lead) (sym (append-nil readings)) led
leads_all first readings (last ∷ more) led =
    let one = leads_on first readings last _ (moves (after_all first readings) last) led in
    let next : MayLead first (readings ++ last ∷ []) (after_all first (readings ++ last ∷ [])).lead =
    subst (λ (time : Time). MayLead first (readings ++ last ∷ []) time.lead) (sym (after_more first readings (last ∷ []))) one in
    subst (λ (all : List Reading). MayLead first all (after_all first all).lead) (append_assoc readings (last ∷ []) more)
    (leads_all first (readings ++ last ∷ []) more next)

-- ---- it steps up

stepped : (first : Time) (readings : List Reading) (last : Reading) (new : Time) → Moves (after_all first readings) last new
    → MayLead first readings (after_all first readings).lead → new ≡ after_all first (readings ++ last ∷ [])
    → steady_time (after_all first readings) last < new.nanos
    → WasAhead (new.nanos - steady_time (after_all first readings) last) first (readings ++ last ∷ [])
stepped first readings last _ (level e) led is more = absurd (omega (arith, more))
stepped first readings last _ (ahead e) led is more = absurd (omega (arith, more))
stepped first readings last new (believed e d) led is more =
    let time = after_all first readings in
    let now = led_more first readings last time.lead led e in
    let least : steady_time time last + (lead_of time last).least - steady_time time last ≡ (lead_of time last).least = omega arith in
    let minute : counted_by (after_all first now.before) now.since + one_minute ≤ counted_by time last = omega (arith, d, now.counted) in
    record {
      before = now.before;
      since = now.since;
      more = now.more;
      are = now.are;
      minute = subst (λ (t : Time). counted_by (after_all first now.before) now.since + one_minute ≤ t.counted) is minute;
      ahead = subst (λ (n : ℕ). AreAhead n (after_all first now.before) (now.since ∷ now.more)) (sym least) now.ahead;
    }

pub steps_up : (start : Reading) (readings : List Reading) (last : Reading) → StepsUp (begun start) readings last
steps_up start readings last more =
    stepped (begun start) readings last _ (moves (after_all (begun start) readings) last) (leads_all (begun start) [] readings tt)
    (sym (after_more (begun start) readings (last ∷ []))) more
