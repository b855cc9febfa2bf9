-- The numbers of what calls answer, as include/nozzlefern.h has them.
use Rattle.std.specs.Prelude.{ℕ}
use Rattle.osc_model.specs.Refusals as refusal
use Rattle.osc_c.specs.declared.calls.outcome.Outcome.{Outcome}
use Rattle.osc_c.specs.declared.calls.outcome.Outcome.TheVariants.{Done, TooShort, NoMemory, TooLong, Busy, Exhausted, NoContext, BadScope, Nothing, BadArgument, Lost, Unverified, NotNow, Refused, NotKept}

abbrev pub number_of : Outcome → ℕ
number_of Done = 0
number_of TooShort = refusal.out_too_small
number_of NoMemory = refusal.memory
number_of TooLong = refusal.datagram_too_long
number_of Busy = refusal.busy
number_of Exhausted = refusal.exhausted
number_of NoContext = refusal.no_context
number_of BadScope = refusal.bad_scope
number_of Nothing = refusal.nothing_held
number_of BadArgument = refusal.bad_argument
number_of Lost = refusal.lost
number_of Unverified = refusal.unverified
number_of NotNow = refusal.not_now
number_of Refused = 39
number_of NotKept = 40
