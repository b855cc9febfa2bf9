-- Turns are runs.
use Rattle.std.proofs.Common.{◌≡◌, ◌<◌, ◌∙◌, ◌++◌, ◌∷◌, [], ℕ, zero, suc, length, false, Bool, List, Option, Some, None, refl, sym, ap, subst, append_assoc}
use Rattle.std.specs.Prelude.{map, slice_get, slice_set}
use Rattle.std.proofs.lemmas.List.{get_or-set_same, map-append, length-set, reverse-append, set-get_or}
use Rattle.std.proofs.lemmas.Option.{get_or_from_slice_get, slice_get-get_or, slice_get_within}
use Rattle.osc_model.specs.StepNotes.{StepNotes}
use Rattle.osc_model.specs.declared.node.Draw.{Draw}
use Rattle.osc_model.specs.declared.node.Moment.{Moment}
use Rattle.osc_model.specs.declared.step.Step.{Step}
use Rattle.osc_run.specs.{Cause, ClientState, ClientStep, IsReached, Noted, OfClient, OfProxy, OfServer, ProxyStep, ServerState, ServerStep, WorldState, WorldStep, by_client, by_proxy, by_server, moment_of}
use Rattle.osc_turn.specs.{AreSteps, Made, MakesMore, MakesStep, MakesTurn, Received, TakesTurn, TakesTurns, cause_of, noted_by}
use Rattle.osc_turn.specs.Running.{Running}
use Rattle.osc_turn.specs.Kept.{ServerSteps}

-- ---- notes

-- one step more before them
noted_more : (all : List Noted) (made : List Made) (one : Made) (by : StepNotes → Noted)
    → noted_by by made ++ by one.step.notes ∷ all ≡ noted_by by (one ∷ made) ++ all
noted_more all made one by =
    sym (ap (λ (l : List Noted). l ++ all) (reverse-append (by one.step.notes ∷ []) (map (λ (m : Made). by m.step.notes) made))
    ∙ append_assoc (noted_by by made) (by one.step.notes ∷ []) all)

-- a run leads on by one step
went_on : (v w : WorldState) → WorldStep v w → IsReached v → IsReached w
went_on v w step reached = (v ∷ reached.0, (step, reached.1))

-- ---- clients

set_same : {A : Type 0} (all : List A) (number : ℕ) (item : A) → slice_get all number ≡ Some item → slice_set all number item ≡ all
set_same all number item there = ap (λ it. slice_set all number it) (sym (get_or_from_slice_get all number item item there)) ∙ set-get_or all number item

set_found : {A : Type 0} (all : List A) (number : ℕ) (item : A) → number < length all → slice_get (slice_set all number item) number ≡ Some item
set_found all number item inside =
    slice_get-get_or (slice_set all number item) number item (subst (λ (n : ℕ). number < n) (sym (length-set all number item)) inside)
    ∙ ap Some (get_or-set_same all number item item inside)

set_twice : {A : Type 0} (all : List A) (number : ℕ) (first last : A) → slice_set (slice_set all number first) number last ≡ slice_set all number last
set_twice [] number first last = refl
set_twice (item ∷ all) zero first last = refl
set_twice (item ∷ all) (suc number) first last = ap (λ (l : List _). item ∷ l) (set_twice all number first last)

module _ {N : Type 0} (acts : N → Moment → Bool) (is_step : N → Cause → Step → N → Type 0) where
  -- ---- lists of steps

  steps_append : (first between last : N) (some more : List Made) → AreSteps is_step first some between → AreSteps is_step between more last
      → AreSteps is_step first (some ++ more) last
  steps_append first between last _ more (AreSteps.none _) rest = rest
  steps_append first between last _ more (AreSteps.more _ next _ made some now draw step steps) rest =
      AreSteps.more first next last made (some ++ more) now draw step (steps_append next between last some more steps rest)

  pub steps_begin : (first last : N) (before rest : List Made) → AreSteps is_step first (before ++ rest) last
      → (between : N) × AreSteps is_step first before between × AreSteps is_step between rest last
  steps_begin first last [] rest steps = (first, AreSteps.none first, steps)
  steps_begin first last (made ∷ before) rest (AreSteps.more _ next _ _ _ now draw step steps) =
      let split = steps_begin next last before rest steps in
      (split.0, AreSteps.more first next split.0 made before now draw step split.1, split.2)

  one_step : (now : Moment) (old : Running N) (made : Made) (new : Running N) → MakesStep acts is_step now old made new → AreSteps is_step old.node (made ∷ []) new.node
  one_step now old made new makes = AreSteps.more old.node new.node new.node made [] now makes.draw makes.steps (AreSteps.none new.node)

  made_steps : (now : Moment) (first : Running N) (made : List Made) (new : Running N) → MakesMore acts is_step now first made new → AreSteps is_step first.node made new.node
  made_steps now first _ new (MakesMore.one made _ makes) = one_step now first made new makes
  made_steps now first _ new (MakesMore.more earlier between made _ so_far busy some makes) =
      steps_append first.node between.node new.node earlier (made ∷ []) (made_steps now first earlier between so_far) (one_step now between made new makes)

  turn_steps : (now : Moment) (first : Running N) (made : List Made) (lost : Option Received) (new : Running N) → MakesTurn acts is_step now first made lost new
      → AreSteps is_step first.node made new.node
  turn_steps now first made _ new (MakesTurn.whole _ makes) = made_steps now first made new makes
  turn_steps now first made _ new (MakesTurn.lossy between came _ makes busy loses) =
      subst (λ (n : N). AreSteps is_step first.node made n) (sym loses.node) (made_steps now first made between makes)

  pub takes_steps : (old new : Running N) (made : List Made) (lost : Option Received) → TakesTurn acts is_step old made lost new → AreSteps is_step old.node made new.node
  takes_steps old new made lost turn =
      subst (λ (n : N). AreSteps is_step n made new.node) turn.begins.node (turn_steps turn.now turn.begun made lost new turn.makes)

  pub turns_steps : (n : ℕ) (first last : Running N) (made : List Made) → TakesTurns acts is_step n first made last → AreSteps is_step first.node made last.node
  turns_steps n _ last made (TakesTurns.none _) = AreSteps.none last.node
  turns_steps n first last made (TakesTurns.taken before _ between _ earlier more lost turns turn) =
      steps_append first.node between.node last.node earlier more (turns_steps before first between earlier turns) (takes_steps between last more lost turn)
  turns_steps n first last made (TakesTurns.lost before _ between _ earlier turns turn) =
      subst (λ (node : N). AreSteps is_step first.node made node) (sym (turn.loses.node ∙ turn.begins.node)) (turns_steps before first between earlier turns)

  -- ---- runs

  module _ (core : N → ServerState)
      (kind : (old new : N) (cause : Cause) (step : Step) → is_step old cause step new → ServerStep (core old) (moment_of cause) step.notes (core new)) where
    abbrev AfterServer : WorldState → N → List Made → WorldState
    AfterServer w last made = record w { server = core last; notes = noted_by by_server made ++ w.notes }

    pub server_runs : (first last : N) (made : List Made) → AreSteps is_step first made last → (w : WorldState) → w.server ≡ core first → IsReached w
        → IsReached (AfterServer w last made)
    server_runs first _ _ (AreSteps.none _) w is reached = subst (λ (s : ServerState). IsReached (record w { server = s })) is reached
    server_runs first last _ (AreSteps.more _ between _ made rest now draw step steps) w is reached =
        let next : WorldState = record w { server = core between; notes = by_server made.step.notes ∷ w.notes } in
        let moved = subst (λ (s : ServerState). ServerStep s (moment_of (cause_of now draw made.came)) made.step.notes (core between)) (sym is) (kind first between _ made.step step) in
        subst (λ (notes : List Noted). IsReached (record w { server = core last; notes = notes })) (noted_more w.notes rest made by_server)
        (server_runs between last rest steps next refl (went_on w next (OfServer (moment_of (cause_of now draw made.came)) (core between) made.step.notes moved refl) reached))

    -- ---- the steps of a turn

    at_moment : (now : Moment) (draw : Draw) (came : Option Received) → moment_of (cause_of now draw came) ≡ now
    at_moment now draw None = refl
    at_moment now draw (Some came) = refl

    abbrev steps_in : List Made → List Step
    steps_in made = map (λ (one : Made). one.step) made

    cut_append : (now : Moment) (first between last : ServerState) (some more : List Step) → ServerSteps now first some between → ServerSteps now between more last
        → ServerSteps now first (some ++ more) last
    cut_append now first between last _ more (ServerSteps.none _) rest = rest
    cut_append now first between last _ more (ServerSteps.more _ next _ step some kind steps) rest =
        ServerSteps.more first next last step (some ++ more) kind (cut_append now next between last some more steps rest)

    one_cut : (now : Moment) (old : Running N) (made : Made) (new : Running N) → MakesStep acts is_step now old made new → ServerSteps now (core old.node) (made.step ∷ []) (core new.node)
    one_cut now old made new makes =
        ServerSteps.more (core old.node) (core new.node) (core new.node) made.step []
        (subst (λ (at : Moment). ServerStep (core old.node) at made.step.notes (core new.node)) (at_moment now makes.draw made.came)
        (kind old.node new.node _ made.step makes.steps)) (ServerSteps.none (core new.node))

    made_cut : (now : Moment) (first : Running N) (made : List Made) (new : Running N) → MakesMore acts is_step now first made new
        → ServerSteps now (core first.node) (steps_in made) (core new.node)
    made_cut now first _ new (MakesMore.one made _ makes) = one_cut now first made new makes
    made_cut now first _ new (MakesMore.more earlier between made _ so_far busy some makes) =
        subst (λ (steps : List Step). ServerSteps now (core first.node) steps (core new.node)) (sym (map-append (λ (one : Made). one.step) earlier (made ∷ [])))
        (cut_append now (core first.node) (core between.node) (core new.node) (steps_in earlier) (made.step ∷ [])
        (made_cut now first earlier between so_far) (one_cut now between made new makes))

    turn_cut : (now : Moment) (first : Running N) (made : List Made) (lost : Option Received) (new : Running N) → MakesTurn acts is_step now first made lost new
        → ServerSteps now (core first.node) (steps_in made) (core new.node)
    turn_cut now first made _ new (MakesTurn.whole _ makes) = made_cut now first made new makes
    turn_cut now first made _ new (MakesTurn.lossy between came _ makes busy loses) =
        subst (λ (n : N). ServerSteps now (core first.node) (steps_in made) (core n)) (sym loses.node) (made_cut now first made between makes)

    pub takes_cut : (old new : Running N) (made : List Made) (lost : Option Received) → (turn : TakesTurn acts is_step old made lost new)
        → ServerSteps turn.now (core old.node) (steps_in made) (core new.node)
    takes_cut old new made lost turn =
        subst (λ (n : N). ServerSteps turn.now (core n) (steps_in made) (core new.node)) turn.begins.node (turn_cut turn.now turn.begun made lost new turn.makes)

  module _ (core : N → ClientState)
      (kind : (old new : N) (cause : Cause) (step : Step) → is_step old cause step new → ClientStep false (core old) step.notes (core new)) where
    pub client_runs : (first last : N) (made : List Made) → AreSteps is_step first made last → (w : WorldState) (by : ℕ) → slice_get w.clients by ≡ Some (core first)
        → IsReached w → IsReached (record w { clients = slice_set w.clients by (core last); notes = noted_by (by_client by false) made ++ w.notes })
    client_runs first _ _ (AreSteps.none _) w by there reached =
        subst (λ (all : List ClientState). IsReached (record w { clients = all })) (sym (set_same w.clients by (core first) there)) reached
    client_runs first last _ (AreSteps.more _ between _ made rest now draw step steps) w by there reached =
        let all = slice_set w.clients by (core between) in
        let next : WorldState = record w { clients = all; notes = by_client by false made.step.notes ∷ w.notes } in
        let inside = slice_get_within w.clients by (core first) there in
        let found : slice_get all by ≡ Some (core between) = set_found w.clients by (core between) inside in
        subst (λ (clients : List ClientState). IsReached (record w { clients = clients; notes = noted_by (by_client by false) (made ∷ rest) ++ w.notes }))
        (set_twice w.clients by (core between) (core last))
        (subst (λ (notes : List Noted). IsReached (record w { clients = slice_set all by (core last); notes = notes })) (noted_more w.notes rest made (by_client by false))
        (client_runs between last rest steps next by found
        (went_on w next (OfClient by false (core first) (core between) made.step.notes there (kind first between _ made.step step) refl) reached)))

  module _ (kind : (old new : N) (cause : Cause) (step : Step) → is_step old cause step new → ProxyStep step.notes) where
    pub proxy_runs : (first last : N) (made : List Made) → AreSteps is_step first made last → (w : WorldState) (by : ℕ) → IsReached w
        → IsReached (record w { notes = noted_by (by_proxy by) made ++ w.notes })
    proxy_runs first _ _ (AreSteps.none _) w by reached = reached
    proxy_runs first last _ (AreSteps.more _ between _ made rest now draw step steps) w by reached =
        let next : WorldState = record w { notes = by_proxy by made.step.notes ∷ w.notes } in
        subst (λ (notes : List Noted). IsReached (record w { notes = notes })) (noted_more w.notes rest made (by_proxy by))
        (proxy_runs between last rest steps next by (went_on w next (OfProxy by made.step.notes (kind first between _ made.step step) refl) reached))
