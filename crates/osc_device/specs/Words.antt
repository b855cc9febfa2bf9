-- What a step of a server did, as a device tells it.
use Rattle.std.specs.Prelude.{◌≡◌, ℕ, List, [], ◌∷◌, Option, Some, None, MatchOption, Result, Ok, Err, option_map}
use Rattle.osc_model.specs.{method_of}
use Rattle.osc_model.specs.StepNotes.{StepNotes}
use Rattle.osc_model.specs.declared.code.Code.{Code}
use Rattle.osc_model.specs.declared.code.Method.{Method}
use Rattle.osc_model.specs.declared.node.Peer.{Peer}
use Rattle.osc_model.specs.declared.reply.Reply.{Reply}
use Rattle.osc_model.specs.declared.request.Request.{Request}
use Rattle.osc_model.specs.declared.step.Datagram.{Datagram}
use Rattle.osc_model.specs.declared.step.Entry.{Entry}
use Rattle.osc_model.specs.declared.step.Note.{Note}
use Rattle.osc_model.specs.declared.step.RefusedRequest.{RefusedRequest}
use Rattle.osc_model.specs.declared.step.Step.{Step}
use Rattle.osc_token.specs.{IsNameIn}

-- ---- a protected request that was served

-- Who asked: the kid of the context, and its kid context, where it has one (RFC 8613 section 6.1). Neither is a secret.
pub record Holder : Type 0 where
  pub kid : List ℕ
  pub kid_context : Option (List ℕ)

-- who asked, by which number, for what by which method, with which payload, what it was answered, and the id of the token that made its
-- context; of a text that is no request neither method nor path
pub record ServedRequest : Type 0 where
  pub by : Holder
  pub number : ℕ
  pub method : Option Method
  pub path : Option (List ℕ)
  pub payload : List ℕ
  pub reply : Reply
  pub token : Option (List ℕ)

abbrev pub holder_of : Entry → Holder
holder_of entry = record { kid = entry.context.client_id; kid_context = entry.context.id_context }

abbrev pub method_asked : Option Request → Option Method
method_asked None = None
method_asked (Some request) = method_of request.code

abbrev pub path_asked : Option Request → Option (List ℕ)
path_asked None = None
path_asked (Some request) = request.path

abbrev pub payload_asked : Option Request → List ℕ
payload_asked None = []
payload_asked (Some request) = request.payload

abbrev pub served_as : Holder → ℕ → Option Request → Reply → Option (List ℕ) → ServedRequest
served_as by number request reply token =
    record { by = by; number = number; method = method_asked request; path = path_asked request; payload = payload_asked request; reply = reply; token = token }

-- the request that a text was read as, if it is one
abbrev pub request_in : Result Request Code → Option Request
request_in (Ok request) = Some request
request_in (Err code) = None

abbrev pub served_by : Option (List ℕ) → Entry → ServedRequest
served_by token entry = served_as (holder_of entry) entry.number (request_in entry.request) entry.reply token

abbrev pub served_in : StepNotes → Option ServedRequest
served_in notes = option_map (served_by notes.holder) notes.served

-- ---- a request that was refused

-- to whom it was answered, and why
abbrev pub refused_by : Option RefusedRequest → List Datagram → Option (Peer × RefusedRequest)
refused_by (Some why) (datagram ∷ []) = Some (datagram.to, why)
refused_by why out = None

abbrev pub refused_in : Step → Option (Peer × RefusedRequest)
refused_in step = refused_by step.notes.refused step.out

-- ---- whose token a refused post has

-- the id of the token that a step opened, or that it says none; without one there is none
abbrev pub IsTokenOf : Option Note → Option (List ℕ) → Type 0
IsTokenOf opened token = MatchOption opened (token ≡ None) (λ note. IsNameIn note.plaintext token)
