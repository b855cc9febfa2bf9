-- The numbers of the refusals.
use Rattle.std.specs.Prelude.{ℕ}
use Rattle.osc_model.specs.Refusals as refusal
use Rattle.osc_token.specs.{token_number}
use Rattle.osc_authz.specs.declared.error.PostError.{PostError}
use Rattle.osc_authz.specs.declared.error.PostError.TheVariants as post
use Rattle.osc_authz.specs.declared.error.FinishError.{FinishError}
use Rattle.osc_authz.specs.declared.error.FinishError.TheVariants as finish

abbrev pub post_number : PostError → ℕ
post_number post.Fields = refusal.fields
post_number (post.Token error) = token_number error
post_number post.Revoked = refusal.revoked
post_number post.Replayed = refusal.replay
post_number post.Full = refusal.full

abbrev pub finish_number : FinishError → ℕ
finish_number finish.Fields = refusal.fields
finish_number finish.EqualIds = refusal.equal_ids
finish_number (finish.Memory begun) = refusal.memory
