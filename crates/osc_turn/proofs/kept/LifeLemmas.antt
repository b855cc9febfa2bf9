-- The lives of a server are one run.
use Rattle.std.proofs.Common.{◌≡◌, ◌⊎◌, ◌∙◌, List, [], ◌∷◌, ◌++◌, inl, inr, refl, sym, ap, subst, append_assoc}
use Rattle.std.specs.Prelude.{map}
use Rattle.std.proofs.lemmas.List.{reverse-append}
use Rattle.osc_model.specs.{quiet}
use Rattle.osc_model.specs.StepNotes.{StepNotes}
use Rattle.osc_model.specs.declared.node.Moment.{Moment}
use Rattle.osc_model.specs.declared.step.Datagram.{Datagram}
use Rattle.osc_model.specs.declared.step.Step.{Step}
use Rattle.osc_run.specs.{IsReached, Noted, OfServer, Posted, Served, ServerIdle, ServerRestarted, ServerState, ServerStep, WorldState, by_server}
use Rattle.osc_turn.specs.Kept.{Cut, IsLived, Notes, ServerSteps, StartsOver, noted_steps}

noted_of : (old : ServerState) (cut : Cut old) → (noted : List Noted) × Notes old cut noted
noted_of old cut = by cut.sent refl cut.either
  where
    by : (sent : List Datagram) → cut.sent ≡ sent → (cut.found ≡ old.tree) ⊎ (cut.found ≡ cut.new.tree) → (noted : List Noted) × Notes old cut noted
    by [] none (inl before) = ([], Notes.unheard none before)
    by (datagram ∷ more) some (inl before) = (noted_steps cut.steps, Notes.counted (cut.kept (λ none. cc)))
    by sent is (inr after) = (noted_steps cut.steps, Notes.counted after)

pub starts_over : (old : WorldState) (cut : Cut old.server) → (new : WorldState) × (over : StartsOver old new) × (over.cut ≡ cut)
starts_over old cut = (_, record { cut = cut; noted = (noted_of old.server cut).0; notes = (noted_of old.server cut).1; is = refl }, refl)

-- the rules of contexts stay
rules_stay : (old new : ServerState) (now : Moment) (notes : StepNotes) → ServerStep old now notes new → new.rules ≡ old.rules
rules_stay old new now notes (ServerIdle is) = is.rules
rules_stay old new now notes (Posted is) = is.rules
rules_stay old new now notes (Served is) = is.rules
rules_stay old new now notes (ServerRestarted is) = ap (λ (s : ServerState). s.rules) is.is

-- from one world of a run to another
abbrev over_from : (v : WorldState) → Cut v.server → List Noted → WorldState
over_from v cut noted = record v { server = record v.server { contexts = []; tree = cut.found }; notes = by_server quiet ∷ (noted ++ v.notes) }

-- ---- the steps of a turn

noted_more : (all : List Noted) (steps : List Step) (step : Step) → noted_steps steps ++ by_server step.notes ∷ all ≡ noted_steps (step ∷ steps) ++ all
noted_more all steps step =
    sym (ap (λ (l : List Noted). l ++ all) (reverse-append (by_server step.notes ∷ []) (map (λ (s : Step). by_server s.notes) steps))
    ∙ append_assoc (noted_steps steps) (by_server step.notes ∷ []) all)

-- a run leads on by these steps
reached_steps : (now : Moment) (first last : ServerState) (steps : List Step) → ServerSteps now first steps last → (v : WorldState) → v.server ≡ first → IsReached v
    → IsReached (record v { server = last; notes = noted_steps steps ++ v.notes })
reached_steps now first _ _ (ServerSteps.none _) v is reached = subst (λ (s : ServerState). IsReached (record v { server = s })) is reached
reached_steps now first last _ (ServerSteps.more _ between _ step rest kind steps) v is reached =
    let next : WorldState = record v { server = between; notes = by_server step.notes ∷ v.notes } in
    let moved = subst (λ (s : ServerState). ServerStep s now step.notes between) (sym is) kind in
    subst (λ (notes : List Noted). IsReached (record v { server = last; notes = notes })) (noted_more v.notes rest step)
    (reached_steps now between last rest steps next refl (v ∷ reached.0, (OfServer now between step.notes moved refl, reached.1)))

steps_stay : (now : Moment) (first last : ServerState) (steps : List Step) → ServerSteps now first steps last → last.rules ≡ first.rules
steps_stay now first _ _ (ServerSteps.none _) = refl
steps_stay now first last _ (ServerSteps.more _ between _ step rest kind steps) = steps_stay now between last rest steps ∙ rules_stay first between now step.notes kind

reached_over : (v w : WorldState) (cut : Cut v.server) (noted : List Noted) → Notes v.server cut noted → w ≡ over_from v cut noted → IsReached v → IsReached w
reached_over v w cut _ (Notes.unheard none before) is reached = (
  v ∷ reached.0,
  (
    OfServer cut.now _ quiet (ServerRestarted (record { noted = refl; is = λ i. record v.server { contexts = []; tree = before i } })) is,
    reached.1,
  ),
)
reached_over v w cut _ (Notes.counted after) is reached =
    let between : WorldState = record v { server = cut.new; notes = noted_steps cut.steps ++ v.notes } in
    let stays : v.server.rules ≡ cut.new.rules = sym (steps_stay cut.now v.server cut.new cut.steps cut.kinds) in
    let there = reached_steps cut.now v.server cut.new cut.steps cut.kinds v refl reached in (
      between ∷ there.0,
      (
        OfServer cut.now _ quiet (ServerRestarted (record { noted = refl; is = λ i. record { contexts = []; tree = after i; rules = stays i } })) is,
        there.1,
      ),
    )

pub lived_is_reached : (w : WorldState) → IsLived w → IsReached w
lived_is_reached w (IsLived.begun _ start) = ([], start)
lived_is_reached w (IsLived.went_on v _ lived step) = let reached = lived_is_reached v lived in (v ∷ reached.0, (step, reached.1))
lived_is_reached w (IsLived.started_over v _ lived over) = reached_over v w over.cut over.noted over.notes over.is (lived_is_reached v lived)
