-- A turn, from its beginning to its end.
use Rattle.std.proofs.Common.{◌≡◌, ◌∙◌, ◌++◌, ◌∷◌, [], ℕ, Bool, List, Option, refl, sym, ap, subst}
use Rattle.std.specs.List.{flat_map}
use Rattle.std.specs.Prelude.{map}
use Rattle.std.proofs.lemmas.List.Concat.{flat_map-cons}
use Rattle.osc_model.specs.declared.node.Moment.{Moment}
use Rattle.osc_model.specs.declared.step.Datagram.{Datagram}
use Rattle.osc_model.specs.declared.step.Step.{Step}
use Rattle.osc_run.specs.{Cause}
use Rattle.osc_turn.specs.{BatchState, Begins, CountsFault, DoesTurn, DropsTurn, EndsBy, FailsTurn, IfFailed, IfLost, Made, MissesTurn, Received, at_port, cause_of, grown, sent_by, stepped_of}
use Rattle.osc_turn.specs.Inner.Making.{FirstFails, HasEnded, HasMade, HasTaken, MakesFirst}
use Rattle.osc_turn.specs.Running.{Running}
use Rattle.osc_turn.specs.declared.error.TurnError.{TurnError}
use Rattle.osc_turn.specs.declared.error.TurnError.TheVariants.{Port, Memory}
use Rattle.osc_turn.specs.declared.kept.error.Unsent.TheVariants.{NoStep}
use Rattle.osc_turn.specs.declared.kept.turning.Taken.{Taken}
use Rattle.osc_turn.specs.declared.turning.Stepped.{Stepped}
use Rattle.osc_turn.proofs.kept.MakingLemmas.{one_made}

-- what the steps send
pub sent_made : (made : List Made) → flat_map (λ (s : Stepped). s.step.out) (map stepped_of made) ≡ sent_by made
sent_made [] = refl
sent_made (one ∷ made) =
    flat_map-cons (λ (s : Stepped). s.step.out) (stepped_of one) (map stepped_of made) ∙ ap (λ (l : List Datagram). one.step.out ++ l) (sent_made made)
    ∙ sym (flat_map-cons (λ (m : Made). m.step.out) one made)

module _ {N : Type 0} (acts : N → Moment → Bool) (is_step : N → Cause → Step → N → Type 0) where
  -- ---- no step

  pub fails_node : (now : Moment) (error : TurnError) (old new : Running N) (received received_after : Option (List (Option Received))) (failures failures_after : ℕ)
      → FirstFails acts is_step now error old new received received_after failures failures_after → new.node ≡ old.node
  fails_node now (Port fault) old new received received_after failures failures_after fails = fails.1
  fails_node now Memory old new received received_after failures failures_after fails = fails.0.loses.node

  pub drops_turn : (old begun : Running N) (now : Moment) (batch : BatchState) (error : TurnError) (new : Running N)
      (received received_after : Option (List (Option Received))) (sent sent_after : Option (List Datagram)) (failures failures_after : ℕ) (X : Type 0)
      → Begins old now begun → batch ≡ record { at = now; steps = [] } → FirstFails acts is_step now error begun new received received_after failures failures_after
      → sent_after ≡ sent → X
      → IfLost (X × DropsTurn acts is_step old (at_port received sent failures) batch new (at_port received_after sent_after failures_after)) (NoStep error)
  drops_turn old begun now batch (Port fault) new received received_after sent sent_after failures failures_after X begins is fails same x = tt
  drops_turn old begun now batch Memory new received received_after sent sent_after failures failures_after X begins is fails same x = (
    x,
    record {
      lost = fails.0.lost;
      turn = record { now = now; begun = begun; begins = begins; loses = fails.0.loses };
      is_batch = is;
      came_in = fails.0.came_in;
      sends = same;
      not_counted = fails.1;
    },
  )

  pub fails_turn : (old begun : Running N) (now : Moment) (error : TurnError) (new : Running N)
      (received received_after : Option (List (Option Received))) (sent sent_after : Option (List Datagram)) (failures failures_after : ℕ) (X : Type 0)
      → Begins old now begun → FirstFails acts is_step now error begun new received received_after failures failures_after → sent_after ≡ sent
      → (new.node ≡ begun.node → X)
      → IfFailed (X × FailsTurn acts is_step old (at_port received sent failures) new (at_port received_after sent_after failures_after)) (NoStep error)
  fails_turn old begun now Memory new received received_after sent sent_after failures failures_after X begins fails same x = tt
  fails_turn old begun now (Port fault) new received received_after sent sent_after failures failures_after X begins fails same x = (
    x fails.1,
    record {
      now = now;
      begun = begun;
      begins = begins;
      awake = fails.0;
      node = fails.1 ∙ begins.node;
      busy = fails.2 ∙ begins.busy;
      nothing = fails.3;
      sends = same;
      counted = fails.4;
    },
  )

  -- ---- steps

  module _ (old begun mid : Running N) (now : Moment) (first : BatchState) (stepped : Stepped) (received between : Option (List (Option Received)))
      (begins : Begins old now begun) (is : first ≡ record { at = now; steps = stepped ∷ [] }) (makes : MakesFirst acts is_step now begun stepped mid received between) where
    pub first_made : HasMade acts is_step first.at begun first mid received between
    first_made = subst (λ (b : BatchState). HasMade acts is_step b.at begun b mid received between) (sym is) (one_made acts is_step now begun stepped mid received between makes)

    pub does_turn : (taken : Taken) (batch : BatchState) (new : Running N) (received_mid received_after : Option (List (Option Received)))
        (sent sent_mid sent_after : Option (List Datagram)) (failures failures_from failures_mid failures_after : ℕ)
        → HasEnded acts is_step first.at begun taken.ended batch new received received_mid failures_from failures_mid
        → received_after ≡ received_mid → failures_from ≡ failures → sent_mid ≡ sent
        → sent_after ≡ grown sent_mid (flat_map (λ (s : Stepped). s.step.out) batch.steps) → CountsFault taken.fault failures_mid failures_after
        → DoesTurn acts is_step taken old (at_port received sent failures) batch new (at_port received_after sent_after failures_after)
    does_turn taken batch new received_mid received_after sent sent_mid sent_after failures failures_from failures_mid failures_after ended gave from still sends fault =
        let here = subst (λ (at : Moment). HasEnded acts is_step at begun taken.ended batch new received received_mid failures_from failures_mid) (ap (λ (b : BatchState). b.at) is) ended in
        record {
          made = here.taken.made;
          lost = here.taken.lost;
          turn = record { now = now; begun = begun; begins = begins; makes = here.taken.makes; few = here.taken.few };
          is_batch = here.taken.is_batch;
          came_in = gave ∙ here.taken.came_in;
          sends = sends ∙ ap (λ (s : Option (List Datagram)). grown s (flat_map (λ (s : Stepped). s.step.out) batch.steps)) still
              ∙ ap (grown sent) (ap (λ (b : BatchState). flat_map (λ (s : Stepped). s.step.out) b.steps) here.taken.is_batch ∙ sent_made here.taken.made);
          failures = failures_mid;
          ends = subst (λ (n : ℕ). EndsBy taken.ended here.taken.lost n failures_mid) from here.ends;
          fault = fault;
        }

    pub misses_turn : (batch : BatchState) (new : Running N) (received_after : Option (List (Option Received)))
        (sent sent_after : Option (List Datagram)) (failures failures_after : ℕ)
        → HasTaken acts is_step first.at begun batch new received received_after → sent_after ≡ sent
        → MissesTurn acts is_step old (at_port received sent failures) batch new (at_port received_after sent_after failures_after)
    misses_turn batch new received_after sent sent_after failures failures_after taken still =
        let here = subst (λ (at : Moment). HasTaken acts is_step at begun batch new received received_after) (ap (λ (b : BatchState). b.at) is) taken in
        record {
          made = here.made;
          lost = here.lost;
          turn = record { now = now; begun = begun; begins = begins; makes = here.makes; few = here.few };
          is_batch = here.is_batch;
          came_in = here.came_in;
          sends = still;
        }

    -- the cause of its first step
    pub first_step_is : (cause : Cause) × is_step begun.node cause stepped.step mid.node
    first_step_is = (
      cause_of now makes.makes.draw makes.made.came,
      subst (λ (s : Stepped). is_step begun.node (cause_of now makes.makes.draw makes.made.came) s.step mid.node) makes.is makes.makes.steps,
    )
