use Rattle.std.proofs.Common.{refl}
use Rattle.osc_run.proofs.premise.is_genuine_opening.Goals as goal

pub returns-then-is_of_token : goal.returns-then-is_of_token
returns-then-is_of_token c =
    let of_token = c.if-is_of_token.ensures.0 refl in (
      (λ t. record { token = λ h. c.is_minted.ensures.0 t; message = λ h. absurd (h of_token) }),
      (λ g. c.is_minted.ensures.1 (g.token of_token)),
    )
