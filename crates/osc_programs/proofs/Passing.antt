-- What passed at a port, one after another.
use Rattle.std.proofs.Common.{◌≡◌, ◌∙◌, ◌++◌, ◌∷◌, [], Bool, true, false, List, Option, None, Some, refl, ap, sym, append_assoc, append-nil}
use Rattle.osc_model.specs.declared.step.Datagram.{Datagram}
use Rattle.osc_model.specs.declared.step.Step.{Step}
use Rattle.osc_turn.specs.{CameIn, Received, grown}
use Rattle.osc_turn.specs.Running.{gave_in}
use Rattle.osc_programs.specs.{Passed, Passes, nothing_passed, then_passed}

pub grown_none : {A : Type 0} (told : Option (List A)) → told ≡ grown told []
grown_none None = refl
grown_none (Some items) = ap Some (sym (append-nil items))

-- one after another
pub grown_more : {A : Type 0} (first between last : Option (List A)) (some more : List A) → between ≡ grown first some → last ≡ grown between more → last ≡ grown first (some ++ more)
grown_more first between last some more e f = f ∙ ap (λ told. grown told more) e ∙ joined first
  where
    joined : (told : Option (List _)) → grown (grown told some) more ≡ grown told (some ++ more)
    joined None = refl
    joined (Some items) = ap Some (append_assoc items some more)

-- what a port gave in a turn of one step
pub came_given : (due : Bool) (came : Option Received) (step : Step) (before after : Option (List (Option Received))) → CameIn due came before after
    → after ≡ grown before (gave_in due (record { came = came; step = step } ∷ []) None)
came_given true came step before after it = it.1 ∙ grown_none before
came_given false came step before after it = it

module _ {P : Type 0} (received_by : P → Option (List (Option Received))) (sent_by : P → Option (List Datagram)) where
  pub passes_none : (port : P) → Passes received_by sent_by port port nothing_passed
  passes_none port = record { given = grown_none (received_by port); handed = grown_none (sent_by port) }

  pub passes_more : (first between last : P) (some more : Passed) → Passes received_by sent_by first between some → Passes received_by sent_by between last more
      → Passes received_by sent_by first last (then_passed some more)
  passes_more first between last some more a b = record {
    given = grown_more _ _ _ some.received more.received a.given b.given;
    handed = grown_more _ _ _ some.sent more.sent a.handed b.handed;
  }

  -- nothing was received
  pub passes_sent : (first last : P) (sent : List Datagram) → received_by last ≡ received_by first → sent_by last ≡ grown (sent_by first) sent
      → Passes received_by sent_by first last (record { received = []; sent = sent })
  passes_sent first last sent same handed = record { given = same ∙ grown_none (received_by first); handed = handed }

  -- nothing more was
  pub passes_done : (first last : P) (passed : Passed) → Passes received_by sent_by first last passed → Passes received_by sent_by first last (then_passed passed nothing_passed)
  passes_done first last passed it = passes_more first last last passed nothing_passed it (passes_none last)
