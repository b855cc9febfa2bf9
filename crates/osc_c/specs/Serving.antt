-- What a step of a device's server served and refused, as include/nozzlefern.h tells it.
use Rattle.std.specs.Prelude.{◌≡◌, ℕ, List, [], ◌∷◌, ◌++◌, length, Option, Some, None, MatchOption, option_and_then}
use Rattle.osc_model.specs.declared.step.Step.{Step}
use Rattle.osc_model.specs.declared.node.Peer.{Peer}
use Rattle.osc_model.specs.declared.step.RefusedRequest.{RefusedRequest}
use Rattle.osc_model.specs.{method_number}
use Rattle.osc_model.specs.declared.code.Method.{Method}
use Rattle.osc_device.specs.{IsTokenOf, ServedRequest, refused_in, served_in}
use Rattle.osc_c.specs.Filled.{where_whole}
use Rattle.osc_c.specs.Filling.{if_fits, written}
use Rattle.osc_c.specs.Given.{refused_size, served_size}
use Rattle.osc_c.specs.Last.{LastStep}
use Rattle.osc_c.specs.Plain.{plain_etag, plain_id, plain_peer}
use Rattle.osc_c.specs.declared.calls.outcome.Outcome.{Outcome}
use Rattle.osc_c.specs.declared.calls.outcome.Outcome.TheVariants.{Done, Nothing}
use Rattle.osc_c.specs.declared.calls.plain.PlainRefused.{PlainRefused}
use Rattle.osc_c.specs.declared.calls.plain.PlainServed.{PlainServed}

-- the number of a reason, or 0 where the code tells it
abbrev pub reason_of : Option ℕ → ℕ
reason_of (Some number) = number
reason_of None = 0

abbrev pub bytes_of : Option (List ℕ) → List ℕ
bytes_of (Some bytes) = bytes
bytes_of None = []

abbrev pub flag_of : Option (List ℕ) → ℕ
flag_of (Some bytes) = 1
flag_of None = 0

-- to whom it was answered and why, and its token where the struct has room for it
abbrev pub told_refused : Peer × RefusedRequest → Option (List ℕ) → PlainRefused → PlainRefused
told_refused refused token old = record {
  size = old.size;
  from = plain_peer refused.0;
  code = refused.1.code.0;
  reason = reason_of refused.1.reason;
  has_token = where_whole refused_size old.size (flag_of token) old.has_token;
  token = where_whole refused_size old.size (plain_id (bytes_of token)) old.token;
}

-- What this step refused is told, where it refused something; and whose it was, where it is a post whose token opened.
abbrev pub TellsRefused : Option Step → PlainRefused → Outcome → PlainRefused → Type 0
TellsRefused step old outcome new =
    MatchOption (option_and_then refused_in step) ((outcome ≡ Nothing) × (new ≡ old))
    (λ refused. (token : Option (List ℕ)) × IsTokenOf (option_and_then (λ step. step.notes.opens) step) token
    × (outcome ≡ Done) × (new ≡ told_refused refused token old))

-- ---- a protected request that was served

abbrev pub method_number_of : Option Method → ℕ
method_number_of (Some method) = method_number method
method_number_of None = 0

-- a kid that a server gave is one byte
abbrev pub first_of : List ℕ → ℕ
first_of (byte ∷ bytes) = byte
first_of [] = 0

-- its numbers, and the id of its token and the answer's ETag where the struct has room for them
abbrev pub told_served : ServedRequest → PlainServed → PlainServed
told_served served old = record {
  size = old.size;
  method = method_number_of served.method;
  code = served.reply.code.0;
  kid = first_of served.by.kid;
  has_context = flag_of served.by.kid_context;
  number = served.number;
  path_length = length (bytes_of served.path);
  payload_length = length served.payload;
  context_length = length (bytes_of served.by.kid_context);
  token = where_whole served_size old.size (plain_id (bytes_of served.token)) old.token;
  etag = where_whole served_size old.size (plain_etag served.reply.etag) old.etag;
}

-- its bytes: the path, the payload and the id context, one after the other
abbrev pub told_bytes : ServedRequest → List ℕ
told_bytes served = bytes_of served.path ++ served.payload ++ bytes_of served.by.kid_context

-- Its numbers are told, and its bytes are written where there is room.
abbrev pub HasServed : ServedRequest → PlainServed → List ℕ → Outcome → PlainServed → List ℕ → Type 0
HasServed served old room outcome new filled =
    (outcome ≡ if_fits (told_bytes served) room) × (new ≡ told_served served old) × (filled ≡ written (told_bytes served) room)

-- what the last step served
abbrev pub served_by_last : LastStep → Option ServedRequest
served_by_last last = option_and_then (λ step. served_in step.notes) last.step

-- It is told, where there was one.
abbrev pub TellsServed : Option ServedRequest → PlainServed → List ℕ → Outcome → PlainServed → List ℕ → Type 0
TellsServed found old room outcome new filled =
    MatchOption found ((outcome ≡ Nothing) × (new ≡ old) × (filled ≡ room))
    (λ served. HasServed served old room outcome new filled)
