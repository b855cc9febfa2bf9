-- The outcome of what was opened of a protected response.
use Rattle.std.specs.Prelude.{◌≡◌, Option, Some, None}
use Rattle.osc_model.specs.declared.reply.Reply.{Reply}
use Rattle.osc_model.specs.declared.step.Note.{Note}
use Rattle.osc_options.specs.{IsReplyIn}
use Rattle.osc_client.specs.declared.answering.AnswerEffect.{AnswerEffect}
use Rattle.osc_client.specs.declared.answering.AnswerEffect.TheVariants.{Stays, Answers}

-- a reply answers the request; else what opened, if anything did, is noted
pub data ComesOf (opened : Option Note) (outcome : AnswerEffect) : Type 0 where
  nothing : opened ≡ None → outcome ≡ Stays None → ComesOf opened outcome
  no_reply : (note : Note) → opened ≡ Some note → ((reply : Reply) → ¬ IsReplyIn note.plaintext reply) → outcome ≡ Stays (Some note)
      → ComesOf opened outcome
  a_reply : (note : Note) (reply : Reply) → opened ≡ Some note → IsReplyIn note.plaintext reply → outcome ≡ Answers note reply
      → ComesOf opened outcome
