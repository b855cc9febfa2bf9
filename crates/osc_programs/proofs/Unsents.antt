-- Turns of which nothing was sent.
use Rattle.std.proofs.Common.{◌≡◌, ◌∙◌, ◌∷◌, [], ℕ, Bool, IsSome, List, None, Option, Some, ap, refl, subst, sym}
use Rattle.osc_log.specs.Log as log
use Rattle.osc_model.specs.declared.node.Moment.{Moment}
use Rattle.osc_model.specs.declared.step.Datagram.{Datagram}
use Rattle.osc_model.specs.declared.step.Step.{Step}
use Rattle.osc_run.specs.{Cause}
use Rattle.osc_store.specs.declared.error.KeepError.{KeepError}
use Rattle.osc_turn.specs.{Received}
use Rattle.osc_turn.specs.Kept.{Stands}
use Rattle.osc_turn.specs.Running.{EndsBy, Running}
use Rattle.osc_turn.specs.Unsent.{IfFailed, IfLost, IfNoMoment, IfNotKept}
use Rattle.osc_turn.specs.declared.error.TurnError.{TurnError}
use Rattle.osc_turn.specs.declared.error.TurnError.TheVariants as turn_error
use Rattle.osc_turn.specs.declared.kept.error.Unsent.{Unsent}
use Rattle.osc_turn.specs.declared.kept.error.Unsent.TheVariants as unsent
use Rattle.osc_turn.specs.declared.port.PortFault.{PortFault}
use Rattle.osc_programs.specs.{LeavesNode, Passes, as_it_was}
use Rattle.osc_programs.specs.Turning.{of_lost}
use Rattle.osc_programs.specs.declared.ended.Ended.{Ended}
use Rattle.osc_programs.proofs.Passing.{grown_none}

-- ---- by why nothing was

pub was_lost : (X : Type 0) (why : Unsent) (error : TurnError) → why ≡ unsent.NoStep error → error ≡ turn_error.Memory → IfLost X why → X
was_lost X why error is memory x = subst (λ (e : TurnError). IfLost X (unsent.NoStep e)) memory (subst (IfLost X) is x)

pub was_failed : (X : Type 0) (why : Unsent) (error : TurnError) (fault : PortFault) → why ≡ unsent.NoStep error → error ≡ turn_error.Port fault → IfFailed X why → X
was_failed X why error fault is port x = subst (λ (e : TurnError). IfFailed X (unsent.NoStep e)) port (subst (IfFailed X) is x)

pub was_missed : (X : KeepError → Type 0) (why : Unsent) (error : KeepError) → why ≡ unsent.NotKept error → IfNotKept X why → X error
was_missed X why error is x = subst (IfNotKept X) is x

-- ---- what it leaves

pub stays_so : {N : Type 0} (acts : N → Moment → Bool) (is_step : N → Cause → Step → N → Type 0) (last : Running N) (ended : Ended) (new : N) → new ≡ last.node
    → LeavesNode acts is_step last ended [] new
stays_so acts is_step last ended new same = subst (LeavesNode acts is_step last ended []) (sym same) (as_it_was ended)

module _ {P : Type 0} (received_by : P → Option (List (Option Received))) (sent_by : P → Option (List Datagram)) where
  pub passes_nothing : (first last : P) → received_by last ≡ received_by first → sent_by last ≡ sent_by first
      → Passes received_by sent_by first last (record { received = []; sent = [] })
  passes_nothing first last same too = record { given = same ∙ grown_none (received_by first); handed = too ∙ grown_none (sent_by first) }

-- whatever a crash leaves in a turn, it is of one of two nodes
pub stood : {N K : Type 0} (keeps : K → N → Type 0) (may_hold : K → N → N → Type 0) (second : (it : K) (first last : N) → keeps it last → may_hold it first last)
    (old new : N) (keeper : K) (sent : List Datagram) → Stands keeps may_hold old new keeper sent → may_hold keeper old new
stood keeps may_hold second old new keeper _ (Stands.untold may) = may
stood keeps may_hold second old new keeper sent (Stands.told _ kept) = second keeper old new kept

-- ---- what was lost after some steps

pub lost_none : (ended : Option TurnError) (lost : Option Received) (before after : ℕ) → ended ≡ None → EndsBy ended lost before after → lost ≡ None
lost_none ended lost before after none ends = (subst (λ (e : Option TurnError). EndsBy e lost before after) none ends).0

pub lost_at_port : (ended : Option TurnError) (error : TurnError) (fault : PortFault) (lost : Option Received) (before after : ℕ) → ended ≡ Some error → error ≡ turn_error.Port fault
    → EndsBy ended lost before after → lost ≡ None
lost_at_port ended error fault lost before after is port ends =
    (subst (λ (e : TurnError). EndsBy (Some e) lost before after) port (subst (λ (e : Option TurnError). EndsBy e lost before after) is ends)).0

some_lost : (now : Moment) (lost : Option Received) → IsSome lost → of_lost now lost ≡ log.lost now ∷ []
some_lost now None some = absurd cc
some_lost now (Some came) some = refl

pub lost_some : (ended : Option TurnError) (error : TurnError) (now : Moment) (lost : Option Received) (before after : ℕ) → ended ≡ Some error → error ≡ turn_error.Memory
    → EndsBy ended lost before after → of_lost now lost ≡ log.lost now ∷ []
lost_some ended error now lost before after is memory ends =
    some_lost now lost (subst (λ (e : TurnError). EndsBy (Some e) lost before after) memory (subst (λ (e : Option TurnError). EndsBy e lost before after) is ends)).0
