-- A turn under way.
use Rattle.std.proofs.Common.{◌≡◌, ◌<◌, ◌≤◌, ◌∙◌, ◌++◌, ◌∷◌, ◌||◌, [], ℕ, Bool, true, false, IsSome, List, OnErr, Option, Some, None, Result, Ok, Err, refl, sym, ap, subst, length, is_some}
use Rattle.std.specs.Prelude.{IfNone, IfSome, is_none, map}
use Rattle.std.proofs.Math.Bool.{or-false}
use Rattle.std.proofs.lemmas.List.Folds.{list_any-append}
use Rattle.std.proofs.lemmas.List.{append-nil, length-map, map-append}
use Rattle.osc_model.specs.declared.node.Draw.{Draw}
use Rattle.osc_model.specs.declared.node.Moment.{Moment}
use Rattle.osc_model.specs.declared.node.Peer.{Peer}
use Rattle.osc_model.specs.declared.step.Step.{Step}
use Rattle.osc_run.specs.{Cause}
use Rattle.osc_turn.specs.{BatchState, CameIn, Draws, HasLost, IsRefusedIn, Made, MakesMore, MakesTurn, Received, any_changed, busy_after, came_for, cause_of, gave_in, grown, received_in, stepped_of, ticks_at}
use Rattle.osc_turn.specs.Kept.{path_changed_by}
use Rattle.osc_turn.specs.Inner.Making.{HasEnded, HasMade, HasTaken, Loses, MakesFirst, MakesNext, NextFails}
use Rattle.osc_turn.specs.Running.{Running}
use Rattle.osc_turn.specs.Turns.{HasFailed}
use Rattle.osc_turn.specs.declared.error.TurnError.{TurnError}
use Rattle.osc_turn.specs.declared.error.TurnError.TheVariants.{Port, Memory}
use Rattle.osc_turn.specs.declared.port.PortFault.{PortFault}
use Rattle.osc_turn.specs.declared.turning.Stepped.{Stepped}
use Rattle.osc_turn.proofs.kept.Grown.{grown_more, grown_none}

-- ---- what changed

neither : (a b : Bool) → (a || b) ≡ false → (a ≡ false) × (b ≡ false)
neither true b none = absurd cc
neither false b none = (refl, none)

nothing_there : (o : Option (List ℕ)) → is_some o ≡ false → o ≡ None
nothing_there None none = refl
nothing_there (Some path) none = absurd cc

-- one step more
pub any_more : (steps : List Stepped) (stepped : Stepped) → any_changed (steps ++ stepped ∷ []) ≡ false
    → (any_changed steps ≡ false) × (path_changed_by stepped.step.notes.served ≡ None)
any_more steps stepped none =
    let both = neither (any_changed steps) (any_changed (stepped ∷ [])) (sym (list_any-append (λ (s : Stepped). is_some (path_changed_by s.step.notes.served)) steps (stepped ∷ [])) ∙ none) in
    (both.0, nothing_there (path_changed_by stepped.step.notes.served) (sym (or-false (is_some (path_changed_by stepped.step.notes.served))) ∙ both.1))

-- ---- what came

pub some_of : {A : Type 0} (o : Option A) → is_none o ≡ false → IsSome o
some_of None is = absurd cc
some_of (Some it) is = refl

pub some_in : {A : Type 0} (P : A → Type 0) (o : Option A) (it : A) → o ≡ Some it → IfSome o P → P it
some_in P None it is holds = absurd cc
some_in P (Some one) it is holds = subst P (ap (unwrap_or_it one) is) holds
  where
    unwrap_or_it : {A : Type 0} → A → Option A → A
    unwrap_or_it one None = one
    unwrap_or_it one (Some it) = it

pub none_in : {A : Type 0} {X : Type 0} (o : Option A) → o ≡ None → IfNone o X → X
none_in None is holds = holds
none_in (Some one) is holds = absurd cc

pub on_err : {A E : Type 0} (result : Result A E) (X : Type 0) → X → OnErr result X
on_err (Ok it) X x = tt
on_err (Err e) X x = x

pub some_received : (buffer : List ℕ) (got : Option (Peer × ℕ)) → IsSome got → IsSome (received_in buffer got)
some_received buffer None some = absurd cc
some_received buffer (Some it) some = refl

came_gave : (due : Bool) (made : Made) (received received_after : Option (List (Option Received))) → CameIn due made.came received received_after
    → (due ≡ true → made.came ≡ None) × (received_after ≡ grown received (gave_in due (made ∷ []) None))
came_gave true made received received_after came = (λ due. came.0, came.1 ∙ grown_none received)
came_gave false made received received_after came = (λ due. absurd cc, came)

-- ---- why a step isn't made

pub refused_awake : (due : Bool) (error : TurnError) (received received_after : Option (List (Option Received))) (failures failures_after : ℕ)
    → IsRefusedIn due error received received_after failures failures_after → due ≡ false
refused_awake true error received received_after failures failures_after refused = absurd refused
refused_awake false error received received_after failures failures_after refused = refl

pub refused_lost : (due : Bool) (received received_after : Option (List (Option Received))) (failures failures_after : ℕ)
    → IsRefusedIn due Memory received received_after failures failures_after → HasLost received received_after failures failures_after
refused_lost true received received_after failures failures_after refused = absurd refused
refused_lost false received received_after failures failures_after refused = refused

pub refused_failed : (due : Bool) (fault : PortFault) (received received_after : Option (List (Option Received))) (failures failures_after : ℕ)
    → IsRefusedIn due (Port fault) received received_after failures failures_after → HasFailed received received_after failures failures_after
refused_failed true fault received received_after failures failures_after refused = absurd refused
refused_failed false fault received received_after failures failures_after refused = refused

module _ {N : Type 0} (acts : N → Moment → Bool) (is_step : N → Cause → Step → N → Type 0) where
  -- at the moment of the batch, which was read from it
  pub next_at : (now at : Moment) (old : Running N) (stepped : Stepped) (new : Running N) (received received_after : Option (List (Option Received)))
      → now ≡ at → MakesNext acts is_step now old stepped new received received_after → MakesNext acts is_step at old stepped new received received_after
  next_at now at old stepped new received received_after is next =
      subst (λ (n : Moment). MakesNext acts is_step n old stepped new received received_after) is next

  pub fails_at : (now at : Moment) (error : TurnError) (old new : Running N) (received received_after : Option (List (Option Received))) (failures failures_after : ℕ)
      → now ≡ at → NextFails acts is_step now error old new received received_after failures failures_after
      → NextFails acts is_step at error old new received received_after failures failures_after
  fails_at now at error old new received received_after failures failures_after is fails =
      subst (λ (n : Moment). NextFails acts is_step n error old new received received_after failures failures_after) is fails

module _ {N : Type 0} (acts : N → Moment → Bool) (is_step : N → Cause → Step → N → Type 0) (now : Moment) where
  pub makes_first : (old new : Running N) (came : Option Received) (stepped : Stepped) (received received_after : Option (List (Option Received))) (draw : Draw)
      → CameIn (ticks_at acts is_step now old) came received received_after → stepped.received ≡ is_some came
      → Draws old.supply draw new.supply → is_step old.node (cause_of now draw came) stepped.step new.node → new.busy ≡ busy_after old.busy now stepped.received
      → MakesFirst acts is_step now old stepped new received received_after
  makes_first old new came stepped received received_after draw gave is draws steps pace =
      let made : Made = record { came = came; step = stepped.step } in
      let said = came_gave (ticks_at acts is_step now old) made received received_after gave in
      record {
        made = made;
        is = λ i. record { received = sym is i; step = stepped.step };
        makes = record { draw = draw; draws = draws; ticks = said.0; steps = steps; pace = pace ∙ ap (busy_after old.busy now) is };
        came_in = said.1;
      }

  pub makes_next : (old new : Running N) (came : Option Received) (step : Step) (received received_after : Option (List (Option Received))) (draw : Draw)
      → IsSome came → IsSome old.busy → ticks_at acts is_step now old ≡ false
      → Draws old.supply draw new.supply → is_step old.node (cause_of now draw came) step new.node → new.busy ≡ busy_after old.busy now true
      → received_after ≡ grown received (came_for came) → MakesNext acts is_step now old (record { received = true; step = step }) new received received_after
  makes_next old new None step received received_after draw some busy awake draws steps pace gave = absurd cc
  makes_next old new (Some came) step received received_after draw some busy awake draws steps pace gave =
      record {
        came = came;
        made = record { came = Some came; step = step };
        is = refl;
        of_it = refl;
        busy = busy;
        awake = awake;
        makes = record { draw = draw; draws = draws; ticks = λ due. absurd cc; steps = steps; pace = pace };
        came_in = gave;
      }

  pub loses_next : (old new : Running N) (came : Option Received) (received received_after : Option (List (Option Received))) (draw : Draw)
      → IsSome came → ticks_at acts is_step now old ≡ false → Draws old.supply draw new.supply → new.node ≡ old.node → new.busy ≡ None
      → received_after ≡ grown received (came_for came) → Loses acts is_step now old new received received_after
  loses_next old new None received received_after draw some awake draws node rested gave = absurd cc
  loses_next old new (Some came) received received_after draw some awake draws node rested gave =
      record { lost = came; loses = record { draw = draw; draws = draws; awake = awake; node = node; rested = rested }; came_in = gave }

  -- ---- steps so far

  -- after a tick the node isn't busy, so a turn whose last step left it busy began with no tick
  pub not_ticked : (first : Running N) (made : List Made) (new : Running N) → MakesMore acts is_step now first made new → IsSome new.busy
      → (due : Bool) → ticks_at acts is_step now first ≡ due → due ≡ false
  not_ticked first _ new (MakesMore.one made _ makes) busy true due =
      absurd (no_busy _ (subst (λ (came : Option Received). new.busy ≡ busy_after first.busy now (is_some came)) (makes.ticks due) makes.pace) busy)
    where
      no_busy : (o : Option Moment) → o ≡ None → IsSome o → ⊥
      no_busy None is some = absurd cc
      no_busy (Some it) is some = absurd cc
  not_ticked first _ new (MakesMore.more earlier between made _ so_far some came makes) busy true due = not_ticked first earlier between so_far some true due
  not_ticked first made new makes busy false due = refl

  pub one_made : (old : Running N) (stepped : Stepped) (new : Running N) (received received_after : Option (List (Option Received)))
      → MakesFirst acts is_step now old stepped new received received_after
      → HasMade acts is_step now old (record { at = now; steps = stepped ∷ [] }) new received received_after
  one_made old stepped new received received_after first = record {
    made = first.made ∷ [];
    makes = MakesMore.one first.made new first.makes;
    is_batch = λ i. record { at = now; steps = sym first.is i ∷ [] };
    came_in = first.came_in;
  }

  gave_more : (due : Bool) → due ≡ false → (made : List Made) (one : Made) (came : Received) (received between received_after : Option (List (Option Received)))
      → one.came ≡ Some came → between ≡ grown received (gave_in due made None) → received_after ≡ grown between (Some came ∷ [])
      → received_after ≡ grown received (gave_in due (made ++ one ∷ []) None)
  gave_more true is made one came received between received_after of_it gave more = absurd cc
  gave_more false is made one came received between received_after of_it gave more =
      grown_more received between received_after (map (λ (m : Made). m.came) made ++ []) (Some came ∷ []) gave more
      ∙ ap (grown received) (ap (λ (l : List (Option Received)). l ++ Some came ∷ []) (append-nil _)
      ∙ ap (λ (o : Option Received). map (λ (m : Made). m.came) made ++ o ∷ []) (sym of_it)
      ∙ sym (map-append (λ (m : Made). m.came) made (one ∷ [])) ∙ sym (append-nil _))

  gave_lost : (due : Bool) → due ≡ false → (made : List Made) (came : Received) (received between received_after : Option (List (Option Received)))
      → between ≡ grown received (gave_in due made None) → received_after ≡ grown between (Some came ∷ [])
      → received_after ≡ grown received (gave_in due made (Some came))
  gave_lost true is made came received between received_after gave more = absurd cc
  gave_lost false is made came received between received_after gave more =
      grown_more received between received_after (map (λ (m : Made). m.came) made ++ []) (Some came ∷ []) gave more
      ∙ ap (grown received) (ap (λ (l : List (Option Received)). l ++ Some came ∷ []) (append-nil _))

  -- one step more
  pub made_more : (first old : Running N) (batch : BatchState) (stepped : Stepped) (new : Running N) (received between received_after : Option (List (Option Received)))
      → HasMade acts is_step now first batch old received between → MakesNext acts is_step now old stepped new between received_after
      → HasMade acts is_step now first (record batch { steps = batch.steps ++ stepped ∷ [] }) new received received_after
  made_more first old batch stepped new received between received_after so_far next = record {
    made = so_far.made ++ next.made ∷ [];
    makes = MakesMore.more so_far.made old next.made new so_far.makes next.busy (subst (λ (came : Option Received). IsSome came) (sym next.of_it) refl) next.makes;
    is_batch = ap (λ (b : BatchState). record b { steps = b.steps ++ stepped ∷ [] }) so_far.is_batch
        ∙ ap (λ (s : List Stepped). record { at = now; steps = s })
        (ap (λ (s : Stepped). map stepped_of so_far.made ++ s ∷ []) (sym next.is) ∙ sym (map-append stepped_of so_far.made (next.made ∷ [])));
    came_in = gave_more (ticks_at acts is_step now first) (not_ticked first so_far.made old so_far.makes next.busy _ refl) so_far.made next.made next.came
        received between received_after next.of_it so_far.came_in next.came_in;
  }

  few_made : (made : List Made) (batch : BatchState) → batch ≡ record { at = now; steps = map stepped_of made } → length batch.steps ≤ 64 → length made ≤ 64
  few_made made batch is few =
      subst (λ (n : ℕ). n ≤ 64) (ap (λ (b : BatchState). length b.steps) is ∙ length-map made stepped_of) few

  -- all steps of a turn that took nothing more
  pub taken_whole : (first : Running N) (batch : BatchState) (new : Running N) (received received_after : Option (List (Option Received)))
      → HasMade acts is_step now first batch new received received_after → length batch.steps ≤ 64
      → HasTaken acts is_step now first batch new received received_after
  taken_whole first batch new received received_after so_far few = record {
    made = so_far.made;
    lost = None;
    makes = MakesTurn.whole new so_far.makes;
    few = few_made so_far.made batch so_far.is_batch few;
    is_batch = so_far.is_batch;
    came_in = so_far.came_in;
  }

  -- and of one whose last datagram was lost
  pub taken_lossy : (first old : Running N) (batch : BatchState) (new : Running N) (received between received_after : Option (List (Option Received)))
      → HasMade acts is_step now first batch old received between → length batch.steps ≤ 64 → IsSome old.busy → Loses acts is_step now old new between received_after
      → (taken : HasTaken acts is_step now first batch new received received_after) × IsSome taken.lost
  taken_lossy first old batch new received between received_after so_far few busy loses = (
    record {
      made = so_far.made;
      lost = Some loses.lost;
      makes = MakesTurn.lossy old loses.lost new so_far.makes busy loses.loses;
      few = few_made so_far.made batch so_far.is_batch few;
      is_batch = so_far.is_batch;
      came_in = gave_lost (ticks_at acts is_step now first) (not_ticked first so_far.made old so_far.makes busy _ refl) so_far.made loses.lost
          received between received_after so_far.came_in loses.came_in;
    },
    refl,
  )

  pub ended_whole : (first : Running N) (batch : BatchState) (new : Running N) (received received_after : Option (List (Option Received))) (failures failures_after : ℕ)
      → HasMade acts is_step now first batch new received received_after → length batch.steps ≤ 64 → failures_after ≡ failures
      → HasEnded acts is_step now first None batch new received received_after failures failures_after
  unfolding taken_whole
  ended_whole first batch new received received_after failures failures_after so_far few same =
      record { taken = taken_whole first batch new received received_after so_far few; ends = (refl, same) }

  -- why it took nothing more
  pub ended_by : (first old : Running N) (batch : BatchState) (error : TurnError) (new : Running N)
      (received between received_after : Option (List (Option Received))) (failures before failures_after : ℕ)
      → HasMade acts is_step now first batch old received between → length batch.steps ≤ 64 → before ≡ failures
      → NextFails acts is_step now error old new between received_after before failures_after
      → HasEnded acts is_step now first (Some error) batch new received received_after failures failures_after
  unfolding taken_whole
  ended_by first old batch (Port fault) new received between received_after failures before failures_after so_far few same fails =
      let moved : HasMade acts is_step now first batch new received received_after =
      subst (λ (r : Option (List (Option Received))). HasMade acts is_step now first batch new received r) (sym fails.1)
      (subst (λ (n : Running N). HasMade acts is_step now first batch n received between) (sym fails.0) so_far) in
      record { taken = taken_whole first batch new received received_after moved few; ends = (refl, subst (λ (n : ℕ). n < failures_after) same fails.2) }
  ended_by first old batch Memory new received between received_after failures before failures_after so_far few same fails =
      let taken = taken_lossy first old batch new received between received_after so_far few fails.0 fails.1 in
      record { taken = taken.0; ends = (taken.1, fails.2 ∙ same) }

  -- what the step is that was made
  pub step_made : (old : Running N) (stepped : Stepped) (new : Running N) (received received_after : Option (List (Option Received)))
      → MakesNext acts is_step now old stepped new received received_after → (cause : Cause) × is_step old.node cause stepped.step new.node
  step_made old stepped new received received_after next = (
    cause_of now next.makes.draw next.made.came,
    subst (λ (s : Stepped). is_step old.node (cause_of now next.makes.draw next.made.came) s.step new.node) next.is next.makes.steps,
  )
