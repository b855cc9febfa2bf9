-- Of which kind a line is that is told a few times a second.
use Rattle.std.specs.Prelude.{ℕ, ◌==◌, ◌||◌, Bool, false, if◌then◌else◌, List, Option, Some, None, codes}
use Rattle.osc_model.specs.Refusals as refusal
use Rattle.osc_model.specs.StepNotes.{StepNotes}
use Rattle.osc_model.specs.declared.step.Entry.{Entry}
use Rattle.osc_model.specs.declared.step.Note.{Note}
use Rattle.osc_model.specs.declared.step.RefusedRequest.{RefusedRequest}
use Rattle.osc_log.specs.declared.kind.Kind.{Kind}
use Rattle.osc_log.specs.declared.kind.Kind.TheVariants.{NoContext, UnderContext, Sent}

-- a protected request, once its security context was found, is refused for one of these reasons (RFC 8613 section 8.2)
abbrev pub needs_context : Option ℕ → Bool
needs_context None = false
needs_context (Some number) = number == refusal.not_genuine || number == refusal.replay

-- a refusal for this reason, where this was opened: a post whose token was opened may be a replay too, and has no context
abbrev pub kind_of_refusal : Option Note → Option ℕ → Kind
kind_of_refusal None reason = if needs_context reason then UnderContext else NoContext
kind_of_refusal (Some token) reason = NoContext

-- a line of what is served is of none of these kinds
abbrev pub kind_by : Option Note → Option RefusedRequest → Option Entry → Option Kind
kind_by opens (Some refused) served = Some (kind_of_refusal opens refused.reason)
kind_by opens None (Some entry) = None
kind_by opens None None = Some Sent

-- of the lines by which a turn is told
abbrev pub kind_of : StepNotes → Option Kind
kind_of notes = kind_by notes.opens notes.refused notes.served

-- ---- how they are named

abbrev pub kind_words : Kind → List ℕ
kind_words NoContext = codes "refusals without a context"
kind_words UnderContext = codes "refusals under a context"
kind_words Sent = codes "sent lines"

abbrev pub kind_level : Kind → List ℕ
kind_level NoContext = codes "refused"
kind_level UnderContext = codes "refused"
kind_level Sent = codes "sent"
