-- What is answered to a post that is known. No public contract rests on this.
use Rattle.std.specs.Prelude.{◌≡◌, ◌⊎◌, Result, Ok, Err}
use Rattle.osc_token.specs.declared.claims.Claims.{Claims}
use Rattle.osc_authz.specs.Agreement.{MadeIsHeld}
use Rattle.osc_authz.specs.Desk.{DeskState}
use Rattle.osc_authz.specs.Posting.{Offer}
use Rattle.osc_authz.specs.declared.error.PostError.{PostError}
use Rattle.osc_authz.specs.declared.error.PostError.TheVariants.{Replayed}
use Rattle.osc_authz.specs.declared.post.PostAnswer.{PostAnswer}
use Rattle.osc_authz.specs.declared.post.PostReply.{PostReply}
use Rattle.osc_authz.specs.declared.post.PostReply.TheVariants.{Known}

-- the same as before while its context is held, and a refusal after that
abbrev pub IsKnownAnswer : DeskState → Offer → Claims → PostAnswer → Result PostReply PostError → Type 0
IsKnownAnswer desk offer claims made answer =
    (MadeIsHeld desk offer claims made × (answer ≡ Ok (Known made))) ⊎ ((¬ MadeIsHeld desk offer claims made) × (answer ≡ Err Replayed))
