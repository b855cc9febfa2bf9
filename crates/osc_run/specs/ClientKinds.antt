-- The kinds of step that a client may take. Beyond what its kind names, a step seals nothing, and leaves context, number and what
-- is outstanding as they were. What was granted stays in each.
use Rattle.std.specs.Prelude.{◌≡◌, ◌≢◌, ◌⊎◌, ⊤, ℕ, ◌+◌, ◌≤◌, Bool, true, false, List, [], ◌∷◌, length, Option, Some, None, option_map}
use Rattle.osc_model.specs.{quiet}
use Rattle.osc_model.specs.StepNotes.{StepNotes}
use Rattle.osc_model.specs.declared.context.ContextName.{ContextName}
use Rattle.osc_model.specs.declared.context.Side.TheVariants.{Client}
use Rattle.osc_model.specs.declared.reply.Reply.{Reply}
use Rattle.osc_model.specs.declared.step.ClientResult.{ClientResult}
use Rattle.osc_model.specs.declared.step.ClientResult.TheVariants as result
use Rattle.osc_model.specs.declared.step.Note.{Note}
use Rattle.osc_context.specs.{longest_id, greatest_number}
use Rattle.osc_protect.specs.{request_nonce, response_nonce, note_of}
use Rattle.osc_authz.specs.{ClientContextState, offered_id, made_name}
use Rattle.osc_authz.specs.Begun.{Begun}
use Rattle.osc_run.specs.States.{ClientState, OpenAsk, Nothing, Exchange, Ask}
use Rattle.osc_options.specs.{IsReplyIn}

-- ---- words

-- what a client seals of a request with this number (RFC 8613 section 8.1)
abbrev pub request_note : ContextName → ℕ → List ℕ → Note
request_note context number plaintext = note_of context Client number (request_nonce context number) plaintext

-- What it opens of a response: with the associated data of its request, and the request's nonce, or that of a Partial IV of the
-- response's own (sections 5.2 and 8.4).
abbrev pub response_note : ContextName → ℕ → Option ℕ → List ℕ → Note
response_note context number own text = note_of context Client number (response_nonce context number own) text

-- How something ends that isn't answered: by an unprotected answer or a Reset, in silence, or for a reason by its number.
abbrev pub IsEnding : ClientResult → Type 0
IsEnding result.Made = ⊥
IsEnding (result.Answer reply) = ⊥
IsEnding (result.Unverified code) = ⊤
IsEnding result.TimedOut = ⊤
IsEnding (result.Refused number) = ⊤

-- ---- kinds

-- Nothing changes. At most an answer opened that is no response, or something was refused before it began, or what was due was lost for
-- lack of memory.
pub record IsClientIdle (old : ClientState) (notes : StepNotes) (new : ClientState) : Type 0 where
  pub opened : Option Note
  pub refusal : Option ℕ
  pub lost : Bool
  pub noted : notes ≡ record quiet { opens = opened; result = option_map result.Refused refusal; lost = lost }
  pub is : new ≡ old

-- An exchange is open, with the nonce that the client drew and the recipient ID that it offers (RFC 9203 section 4.1).
pub record IsStarted (old : ClientState) (notes : StepNotes) (new : ClientState) : Type 0 where
  pub begun : Begun
  pub size : length begun.nonce1 ≡ 8
  pub offered : begun.recipient_id ≡ offered_id old.context
  pub noted : notes ≡ record quiet { drawn = Some begun.nonce1 }
  pub before : old.outstanding ≡ Nothing
  pub is : new ≡ record old { outstanding = Exchange begun }

-- The open exchange is used up. It gives one context in place of the old one: its name has the grant's secret and the nonce of
-- the exchange (RFC 9203 section 4.3), its IDs differ, and the number that it takes next is 0.
pub record IsMade (old : ClientState) (notes : StepNotes) (new : ClientState) : Type 0 where
  pub begun : Begun
  pub nonce2 : List ℕ
  pub size : (1 ≤ length nonce2) × (length nonce2 ≤ 64)
  pub server_id : List ℕ
  pub short : length server_id ≤ longest_id
  pub apart : server_id ≢ begun.recipient_id ∷ []
  pub noted : notes ≡ record quiet { result = Some result.Made }
  pub before : old.outstanding ≡ Exchange begun
  pub is : new
      ≡ record old {
        context = Some (record { name = made_name old.desk begun nonce2 server_id; next = 0 });
        outstanding = Nothing;
      }

-- The next number is taken for one seal, and the one after it comes next (RFC 8613 sections 7.2 and 8.1). The request waits for
-- its response.
pub record IsAsked (old : ClientState) (notes : StepNotes) (new : ClientState) : Type 0 where
  pub context : ClientContextState
  pub lawful : context.next ≤ greatest_number
  pub plaintext : List ℕ
  pub noted : notes ≡ record quiet { seals = Some (request_note context.name context.next plaintext) }
  pub held : old.context ≡ Some context
  pub before : old.outstanding ≡ Nothing
  pub is : new
      ≡ record old {
        context = Some (record { name = context.name; next = context.next + 1 });
        outstanding = Ask (record { context = context.name; number = context.next });
      }

-- A response opens with the associated data of the open request (section 8.4), which is answered by the reply that it is.
pub record IsAnswered (old : ClientState) (notes : StepNotes) (new : ClientState) : Type 0 where
  pub ask : OpenAsk
  pub own : Option ℕ
  pub text : List ℕ
  pub reply : Reply
  pub reads : IsReplyIn text reply
  pub noted : notes ≡ record quiet { opens = Some (response_note ask.context ask.number own text); result = Some (result.Answer reply) }
  pub before : old.outstanding ≡ Ask ask
  pub is : new ≡ record old { outstanding = Nothing }

-- What is open ends without an answer. The context is as it was. What was due may have been lost for lack of memory.
pub record IsEnded (old : ClientState) (notes : StepNotes) (new : ClientState) : Type 0 where
  pub result : ClientResult
  pub ending : IsEnding result
  pub lost : Bool
  pub noted : notes ≡ record quiet { result = Some result; lost = lost }
  pub before : old.outstanding ≢ Nothing
  pub is : new ≡ record old { outstanding = Nothing }

-- The client's holder seals what it likes, at a lawful number of its choice, in the context that the client has.
pub record IsLied (old : ClientState) (notes : StepNotes) (new : ClientState) : Type 0 where
  pub context : ClientContextState
  pub number : ℕ
  pub lawful : number ≤ greatest_number
  pub plaintext : List ℕ
  pub noted : notes ≡ record quiet { seals = Some (request_note context.name number plaintext) }
  pub held : old.context ≡ Some context
  pub is : new ≡ old

-- The client starts again: what was granted stays alone.
pub record IsClientRestarted (old : ClientState) (notes : StepNotes) (new : ClientState) : Type 0 where
  pub noted : notes ≡ quiet
  pub is : new ≡ record old { context = None; outstanding = Nothing }

-- From old to new the client takes one step, at an event in which its holder lies, or at one in which it doesn't.
pub data ClientStep (lied : Bool) (old : ClientState) (notes : StepNotes) (new : ClientState) : Type 0 where
  ClientIdle : IsClientIdle old notes new → ClientStep lied old notes new
  Started : lied ≡ false → IsStarted old notes new → ClientStep lied old notes new
  Made : lied ≡ false → IsMade old notes new → ClientStep lied old notes new
  Asked : lied ≡ false → IsAsked old notes new → ClientStep lied old notes new
  Answered : lied ≡ false → IsAnswered old notes new → ClientStep lied old notes new
  Ended : lied ≡ false → IsEnded old notes new → ClientStep lied old notes new
  Lied : lied ≡ true → IsLied old notes new → ClientStep lied old notes new
  ClientRestarted : lied ≡ false → IsClientRestarted old notes new → ClientStep lied old notes new

-- ---- between events

-- the number that is taken next is raised
pub record IsRaised (old new : ClientState) : Type 0 where
  pub context : ClientContextState
  pub next : ℕ
  pub held : old.context ≡ Some context
  pub above : context.next ≤ next
  pub is : new ≡ record old { context = Some (record { name = context.name; next = next }) }

-- nothing changes, or the number is raised
abbrev pub IsSkipped : ClientState → ClientState → Type 0
IsSkipped old new = (new ≡ old) ⊎ IsRaised old new
