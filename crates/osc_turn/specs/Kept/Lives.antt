-- The lives of a server over one store, each up to a power cut, and what is noted of all of them.
use Rattle.std.specs.Prelude.{◌≡◌, ◌≢◌, ◌⊎◌, List, [], ◌∷◌, ◌++◌, map, reverse}
use Rattle.osc_model.specs.{quiet}
use Rattle.osc_model.specs.Tree.{Tree}
use Rattle.osc_model.specs.declared.node.Moment.{Moment}
use Rattle.osc_model.specs.declared.step.Datagram.{Datagram}
use Rattle.osc_model.specs.declared.step.Step.{Step}
use Rattle.osc_run.specs.{IsStart, Noted, ServerState, ServerStep, WorldState, WorldStep, by_server}

-- the steps that a server makes at one moment, one after another
pub data ServerSteps (now : Moment) : ServerState → List Step → ServerState → Type 0 where
  none : (server : ServerState) → ServerSteps now server [] server
  more : (first between last : ServerState) (step : Step) (rest : List Step) → ServerStep first now step.notes between
      → ServerSteps now between rest last → ServerSteps now first (step ∷ rest) last

-- what a run notes of them, the newest first
abbrev pub noted_steps : List Step → List Noted
noted_steps steps = reverse (map (λ step. by_server step.notes) steps)

-- A turn in which the power goes: the steps that the server made, what of them was handed to the port, and the resources that the next start
-- finds: those before the turn or those after it, and once anything was handed to the port, those after it.
pub record Cut (old : ServerState) : Type 0 where
  pub now : Moment
  pub steps : List Step
  pub new : ServerState
  pub kinds : ServerSteps now old steps new
  pub sent : List Datagram
  pub found : Tree
  pub either : (found ≡ old.tree) ⊎ (found ≡ new.tree)
  pub kept : sent ≢ [] → found ≡ new.tree

-- What is noted of the turn: nothing, where nothing of it was handed to the port and the resources before it are found; else its steps.
pub data Notes (old : ServerState) (cut : Cut old) : List Noted → Type 0 where
  unheard : cut.sent ≡ [] → cut.found ≡ old.tree → Notes old cut []
  counted : cut.found ≡ cut.new.tree → Notes old cut (noted_steps cut.steps)

-- The power goes in a turn of the server, and it starts again from what it finds: without a context, and with these resources. No other
-- node changes.
pub record StartsOver (old new : WorldState) : Type 0 where
  pub cut : Cut old.server
  pub noted : List Noted
  pub notes : Notes old.server cut noted
  pub is : new ≡ record old { server = record old.server { contexts = []; tree = cut.found }; notes = by_server quiet ∷ (noted ++ old.notes) }

-- a world whose server's power may go at any moment, any number of times
pub data IsLived : WorldState → Type 0 where
  begun : (w : WorldState) → IsStart w → IsLived w
  went_on : (v w : WorldState) → IsLived v → WorldStep v w → IsLived w
  started_over : (v w : WorldState) → IsLived v → StartsOver v w → IsLived w
