-- What holds whatever a call returned.
use Rattle.std.proofs.Common.{Result, Ok, Err, rules}
use Rattle.std.specs.Result.{IfOk}

pub IfOk-always : {T E : Type 0} (r : Result T E) (P : Type 0) → P → IfOk r (λ x. P)
IfOk-always (Ok x) P p = p
IfOk-always (Err e) P p = search rules
