-- What a client learnt, as include/nozzlefern.h tells it.
use Rattle.std.specs.Prelude.{◌≡◌, ℕ, List, [], length, None, Option, option_and_then, MatchOption, negsuc}
use Rattle.osc_model.specs.declared.step.ClientResult.{ClientResult}
use Rattle.osc_model.specs.declared.step.ClientResult.TheVariants.{Made, Answer, Unverified, TimedOut, Refused}
use Rattle.osc_c.specs.Arguments.{format_number}
use Rattle.osc_c.specs.Filled.{where_whole}
use Rattle.osc_c.specs.Filling.{if_fits, written}
use Rattle.osc_c.specs.Given.{result_size}
use Rattle.osc_c.specs.Last.{LastStep}
use Rattle.osc_c.specs.Plain.{plain_etag}
use Rattle.osc_c.specs.declared.calls.outcome.Outcome.{Outcome}
use Rattle.osc_c.specs.declared.calls.outcome.Outcome.TheVariants.{Nothing}
use Rattle.osc_c.specs.declared.calls.plain.PlainResult.{PlainResult}
use Rattle.osc_c.specs.declared.calls.results.Learnt.{Learnt}

abbrev pub bare : ℕ → ℕ → Learnt
bare what code = record { what = what; code = code; format = negsuc 0; length = 0; etag = None }

abbrev pub numbers_of : ClientResult → Learnt
numbers_of Made = bare 1 0
numbers_of (Answer reply) =
    record { what = 2; code = reply.code.0; format = format_number reply.format; length = length reply.payload; etag = reply.etag }
numbers_of (Unverified code) = bare 3 code.0
numbers_of TimedOut = bare 4 0
numbers_of (Refused number) = bare 5 number

-- the numbers, and the ETag where the struct has room for it
abbrev pub told_result : Learnt → PlainResult → PlainResult
told_result numbers old = record {
  size = old.size;
  what = numbers.what;
  code = numbers.code;
  format = numbers.format;
  length = numbers.length;
  etag = where_whole result_size old.size (plain_etag numbers.etag) old.etag;
}

abbrev pub payload_in : ClientResult → List ℕ
payload_in (Answer reply) = reply.payload
payload_in learnt = []

abbrev pub TellsResult : Option ClientResult → PlainResult → List ℕ → Outcome → PlainResult → List ℕ → Type 0
TellsResult learnt old room outcome new filled =
    MatchOption learnt ((outcome ≡ Nothing) × (new ≡ old) × (filled ≡ room))
    (λ learnt. (outcome ≡ if_fits (payload_in learnt) room) × (new ≡ told_result (numbers_of learnt) old) × (filled ≡ written (payload_in learnt) room))

-- what was learnt in the last step
abbrev pub learnt_in : LastStep → Option ClientResult
learnt_in last = option_and_then (λ step. step.notes.result) last.step
