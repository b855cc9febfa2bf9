use Rattle.osc_device.proofs.Going.{then}
use Rattle.osc_device.proofs.Lives.{lives_on}
use Rattle.osc_device.proofs.laws.lives_are_one_run.Goals as goal

pub returns-clause-calls : goal.returns-clause-calls
returns-clause-calls g c = λ old between new steps later goes goes_on number v reached is_in.
    let first = goes number v reached is_in in
    then number _ _ v between new first (goes_on number first.w first.reached first.is_in)

pub returns-clause-again : goal.returns-clause-again
returns-clause-again g c = λ parts own first last next steps is goes again same number v reached is_in.
    lives_on g.A.Ciphers.is_sealing own parts first last next is again same number _ v is_in (goes number v reached is_in)
