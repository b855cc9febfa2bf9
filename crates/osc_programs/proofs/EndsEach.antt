-- How a client ends that sends many requests.
use Rattle.std.proofs.Common.{◌≡◌, Bool, true, false, List, subst, sym}
use Rattle.std.specs.Prelude.{if◌then◌else◌}
use Rattle.std.specs.List.{list_all}
use Rattle.osc_model.specs.declared.request.Request.{Request}
use Rattle.osc_programs.specs.{CannotTalk}
use Rattle.osc_programs.specs.Ended.{CannotAskEach, CannotTalkEach, EndsEach}
use Rattle.osc_programs.specs.Staying.{ended_by_ends, is_answered_well}
use Rattle.osc_programs.specs.declared.ended.Ended.{Ended}
use Rattle.osc_programs.specs.declared.ended.Ended.TheVariants.{Done, BadCommandLine, BadLine, TooLong, BadSettings, OutOfMemory, Failed, PortFailed, NotDone, Unopened, NotKept}
use Rattle.osc_programs.specs.declared.requests.LineEnd.{LineEnd}

pub talk_each : (request : Request) (ended : Ended) → CannotTalk request ended → CannotTalkEach ended
talk_each request Done f = absurd f
talk_each request BadCommandLine f = tt
talk_each request (BadLine number) f = absurd f
talk_each request TooLong f = absurd f
talk_each request BadSettings f = absurd f
talk_each request OutOfMemory f = tt
talk_each request Failed f = tt
talk_each request PortFailed f = tt
talk_each request NotDone f = absurd f
talk_each request (Unopened error) f = absurd f
talk_each request (NotKept error) f = absurd f

pub each_ask : (ended : Ended) → CannotTalkEach ended → CannotAskEach ended
each_ask Done f = absurd f
each_ask BadCommandLine f = tt
each_ask (BadLine number) f = absurd f
each_ask TooLong f = absurd f
each_ask BadSettings f = absurd f
each_ask OutOfMemory f = tt
each_ask Failed f = tt
each_ask PortFailed f = tt
each_ask NotDone f = absurd f
each_ask (Unopened error) f = absurd f
each_ask (NotKept error) f = absurd f

pub ask_ends : (ended : Ended) → CannotAskEach ended → EndsEach ended
ask_ends Done f = absurd f
ask_ends BadCommandLine f = tt
ask_ends (BadLine number) f = absurd f
ask_ends TooLong f = absurd f
ask_ends BadSettings f = tt
ask_ends OutOfMemory f = tt
ask_ends Failed f = tt
ask_ends PortFailed f = tt
ask_ends NotDone f = absurd f
ask_ends (Unopened error) f = absurd f
ask_ends (NotKept error) f = absurd f

pub ask_no_done : (ended : Ended) → CannotAskEach ended → ended ≡ Done → ⊥
ask_no_done ended f e = subst CannotAskEach e f

pub ask_no_not_done : (ended : Ended) → CannotAskEach ended → ended ≡ NotDone → ⊥
ask_no_not_done ended f e = subst CannotAskEach e f

either : Bool → Ended
either b = if b then Done else NotDone

either_ends : (b : Bool) → EndsEach (either b)
unfolding either
either_ends true = tt
either_ends false = tt

either_good : (b : Bool) → either b ≡ BadSettings → ⊥
unfolding either
either_good true e = cc
either_good false e = cc

pub ends_each : (ends : List LineEnd) (ended : Ended) → ended ≡ ended_by_ends ends → EndsEach ended
unfolding either
ends_each ends ended e = subst EndsEach (sym e) (either_ends (list_all (λ (end : LineEnd). is_answered_well end.outcome) ends))

pub ends_no_bad : (ends : List LineEnd) (ended : Ended) → ended ≡ ended_by_ends ends → ended ≡ BadSettings → ⊥
unfolding either
ends_no_bad ends ended e bad = either_good (list_all (λ (end : LineEnd). is_answered_well end.outcome) ends) (subst (λ (x : Ended). x ≡ BadSettings) e bad)
