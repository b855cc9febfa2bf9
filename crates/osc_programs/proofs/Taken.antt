-- What ports tell over several turns, and how programs end.
use Rattle.std.proofs.Common.{◌≡◌, ◌≢◌, ◌+◌, ℕ, add-one, subst, Bool, true, false, List, Option, None, sym}
use Rattle.osc_model.specs.declared.node.Moment.{Moment}
use Rattle.osc_model.specs.declared.request.Request.{Request}
use Rattle.osc_model.specs.declared.step.Step.{Step}
use Rattle.osc_programs.specs.{IsFault, NoSettings, EndsNode, EndsTurns, EndsTold, EndsClient, CannotTalk, CannotAsk, Shown, Turns, and_then}
use Rattle.osc_programs.specs.Turning.{GoesOn}
use Rattle.osc_log.specs.declared.held.Held.{Held}
use Rattle.osc_run.specs.{Cause}
use Rattle.osc_turn.specs.{CameIn, Received}
use Rattle.osc_turn.specs.Running.{Running}
use Rattle.osc_programs.specs.Turning as turning
use Rattle.osc_programs.specs.declared.ended.Ended.{Ended}
use Rattle.osc_programs.specs.declared.ended.Ended.TheVariants.{Done, BadCommandLine, BadLine, TooLong, BadSettings, OutOfMemory, Failed, PortFailed, NotDone, Unopened, NotKept}

-- where a tick is due, nothing came
pub came_in : (due : Bool) (came : Option Received) (before after : Option (List (Option Received))) → CameIn due came before after → due ≡ true → came ≡ None
came_in true came before after c e = c.0
came_in false came before after c e = absurd cc

-- ---- how programs end

pub no_end : (ended : Ended) → IsFault ended → ended ≢ Done
no_end Done f e = f
no_end BadCommandLine f e = absurd cc
no_end (BadLine n) f e = absurd cc
no_end TooLong f e = absurd cc
no_end BadSettings f e = absurd cc
no_end OutOfMemory f e = absurd cc
no_end Failed f e = absurd cc
no_end PortFailed f e = absurd cc
no_end NotDone f e = absurd cc
no_end (Unopened error) f e = absurd cc
no_end (NotKept error) f e = absurd cc

pub settings_no_end : (ended : Ended) → NoSettings ended → ended ≢ Done
settings_no_end Done f e = f
settings_no_end BadCommandLine f e = absurd cc
settings_no_end (BadLine n) f e = absurd cc
settings_no_end TooLong f e = absurd cc
settings_no_end BadSettings f e = absurd cc
settings_no_end OutOfMemory f e = absurd cc
settings_no_end Failed f e = absurd cc
settings_no_end PortFailed f e = absurd cc
settings_no_end NotDone f e = absurd cc
settings_no_end (Unopened error) f e = absurd cc
settings_no_end (NotKept error) f e = absurd cc

pub ask_no_end : (request : Request) (ended : Ended) → CannotAsk request ended → ended ≢ Done
ask_no_end request Done f e = f
ask_no_end request BadCommandLine f e = absurd cc
ask_no_end request (BadLine n) f e = absurd cc
ask_no_end request TooLong f e = absurd cc
ask_no_end request BadSettings f e = absurd cc
ask_no_end request OutOfMemory f e = absurd cc
ask_no_end request Failed f e = absurd cc
ask_no_end request PortFailed f e = absurd cc
ask_no_end request NotDone f e = absurd cc
ask_no_end request (Unopened error) f e = absurd cc
ask_no_end request (NotKept error) f e = absurd cc

pub ask_not_done : (request : Request) (ended : Ended) → CannotAsk request ended → ended ≢ NotDone
ask_not_done request Done f e = absurd cc
ask_not_done request BadCommandLine f e = absurd cc
ask_not_done request (BadLine n) f e = absurd cc
ask_not_done request TooLong f e = absurd cc
ask_not_done request BadSettings f e = absurd cc
ask_not_done request OutOfMemory f e = absurd cc
ask_not_done request Failed f e = absurd cc
ask_not_done request PortFailed f e = absurd cc
ask_not_done request NotDone f e = f
ask_not_done request (Unopened error) f e = absurd cc
ask_not_done request (NotKept error) f e = absurd cc

pub fault_turns : (ended : Ended) → IsFault ended → EndsTurns ended
fault_turns Done f = absurd f
fault_turns BadCommandLine f = absurd f
fault_turns (BadLine n) f = absurd f
fault_turns TooLong f = absurd f
fault_turns BadSettings f = absurd f
fault_turns OutOfMemory f = f
fault_turns Failed f = f
fault_turns PortFailed f = f
fault_turns NotDone f = absurd f
fault_turns (Unopened error) f = absurd f
fault_turns (NotKept error) f = absurd f

pub turns_node : (ended : Ended) → EndsTurns ended → EndsNode ended
turns_node Done f = tt
turns_node BadCommandLine f = absurd f
turns_node (BadLine n) f = absurd f
turns_node TooLong f = absurd f
turns_node BadSettings f = absurd f
turns_node OutOfMemory f = f
turns_node Failed f = f
turns_node PortFailed f = f
turns_node NotDone f = absurd f
turns_node (Unopened error) f = absurd f
turns_node (NotKept error) f = absurd f

pub turns_not_bad : (ended : Ended) → EndsTurns ended → ended ≢ BadSettings
turns_not_bad Done f e = absurd cc
turns_not_bad BadCommandLine f e = absurd cc
turns_not_bad (BadLine n) f e = absurd cc
turns_not_bad TooLong f e = absurd cc
turns_not_bad BadSettings f e = f
turns_not_bad OutOfMemory f e = absurd cc
turns_not_bad Failed f e = absurd cc
turns_not_bad PortFailed f e = absurd cc
turns_not_bad NotDone f e = absurd cc
turns_not_bad (Unopened error) f e = absurd cc
turns_not_bad (NotKept error) f e = absurd cc

pub fault_not_bad : (ended : Ended) → IsFault ended → ended ≢ BadSettings
fault_not_bad Done f e = absurd cc
fault_not_bad BadCommandLine f e = absurd cc
fault_not_bad (BadLine n) f e = absurd cc
fault_not_bad TooLong f e = absurd cc
fault_not_bad BadSettings f e = f
fault_not_bad OutOfMemory f e = absurd cc
fault_not_bad Failed f e = absurd cc
fault_not_bad PortFailed f e = absurd cc
fault_not_bad NotDone f e = absurd cc
fault_not_bad (Unopened error) f e = absurd cc
fault_not_bad (NotKept error) f e = absurd cc

pub talk_not_bad : (request : Request) (ended : Ended) → CannotTalk request ended → ended ≢ BadSettings
talk_not_bad request Done f e = absurd cc
talk_not_bad request BadCommandLine f e = absurd cc
talk_not_bad request (BadLine n) f e = absurd cc
talk_not_bad request TooLong f e = absurd cc
talk_not_bad request BadSettings f e = f
talk_not_bad request OutOfMemory f e = absurd cc
talk_not_bad request Failed f e = absurd cc
talk_not_bad request PortFailed f e = absurd cc
talk_not_bad request NotDone f e = absurd cc
talk_not_bad request (Unopened error) f e = absurd cc
talk_not_bad request (NotKept error) f e = absurd cc

pub told_not_bad : (ended : Ended) → EndsTold ended → ended ≢ BadSettings
told_not_bad Done f e = absurd cc
told_not_bad BadCommandLine f e = absurd cc
told_not_bad (BadLine n) f e = absurd cc
told_not_bad TooLong f e = absurd cc
told_not_bad BadSettings f e = f
told_not_bad OutOfMemory f e = absurd cc
told_not_bad Failed f e = absurd cc
told_not_bad PortFailed f e = absurd cc
told_not_bad NotDone f e = absurd cc
told_not_bad (Unopened error) f e = absurd cc
told_not_bad (NotKept error) f e = absurd cc

pub settings_node : (ended : Ended) → NoSettings ended → EndsNode ended
settings_node Done f = absurd f
settings_node BadCommandLine f = absurd f
settings_node (BadLine n) f = absurd f
settings_node TooLong f = absurd f
settings_node BadSettings f = f
settings_node OutOfMemory f = f
settings_node Failed f = f
settings_node PortFailed f = f
settings_node NotDone f = absurd f
settings_node (Unopened error) f = absurd f
settings_node (NotKept error) f = absurd f

pub fault_talk : (request : Request) (ended : Ended) → IsFault ended → CannotTalk request ended
fault_talk request Done f = absurd f
fault_talk request BadCommandLine f = absurd f
fault_talk request (BadLine n) f = absurd f
fault_talk request TooLong f = absurd f
fault_talk request BadSettings f = absurd f
fault_talk request OutOfMemory f = f
fault_talk request Failed f = f
fault_talk request PortFailed f = f
fault_talk request NotDone f = absurd f
fault_talk request (Unopened error) f = absurd f
fault_talk request (NotKept error) f = absurd f

pub talk_ask : (request : Request) (ended : Ended) → CannotTalk request ended → CannotAsk request ended
talk_ask request Done f = absurd f
talk_ask request BadCommandLine f = f
talk_ask request (BadLine n) f = absurd f
talk_ask request TooLong f = absurd f
talk_ask request BadSettings f = absurd f
talk_ask request OutOfMemory f = f
talk_ask request Failed f = f
talk_ask request PortFailed f = f
talk_ask request NotDone f = absurd f
talk_ask request (Unopened error) f = absurd f
talk_ask request (NotKept error) f = absurd f

pub settings_ask : (request : Request) (ended : Ended) → NoSettings ended → CannotAsk request ended
settings_ask request Done f = absurd f
settings_ask request BadCommandLine f = absurd f
settings_ask request (BadLine n) f = absurd f
settings_ask request TooLong f = absurd f
settings_ask request BadSettings f = f
settings_ask request OutOfMemory f = f
settings_ask request Failed f = f
settings_ask request PortFailed f = f
settings_ask request NotDone f = absurd f
settings_ask request (Unopened error) f = absurd f
settings_ask request (NotKept error) f = absurd f

pub ask_client : (request : Request) (ended : Ended) → CannotAsk request ended → EndsClient request ended
ask_client request Done f = absurd f
ask_client request BadCommandLine f = f
ask_client request (BadLine n) f = absurd f
ask_client request TooLong f = absurd f
ask_client request BadSettings f = f
ask_client request OutOfMemory f = f
ask_client request Failed f = f
ask_client request PortFailed f = f
ask_client request NotDone f = absurd f
ask_client request (Unopened error) f = absurd f
ask_client request (NotKept error) f = absurd f

pub told_client : (request : Request) (ended : Ended) → EndsTold ended → EndsClient request ended
told_client request Done f = f
told_client request BadCommandLine f = absurd f
told_client request (BadLine n) f = absurd f
told_client request TooLong f = absurd f
told_client request BadSettings f = absurd f
told_client request OutOfMemory f = f
told_client request Failed f = f
told_client request PortFailed f = absurd f
told_client request NotDone f = f
told_client request (Unopened error) f = absurd f
told_client request (NotKept error) f = absurd f

-- ---- turns

-- one turn more
pub one_more : {N : Type 0} (acts : N → Moment → Bool) (is_step : N → Cause → Step → N → Type 0) (held : N → Held) (n : ℕ) (first between last : Running N) (shown next : Shown)
    → Turns acts is_step held n first shown between → GoesOn acts is_step held between next last → Turns acts is_step held (n + 1) first (and_then shown next) last
one_more acts is_step held n first between last shown next taken turn =
    subst (λ (k : ℕ). Turns acts is_step held k first (and_then shown next) last) (sym (add-one n)) (turning.more n first between last shown next taken turn)
