use Rattle.std.proofs.Common.{◌≡◌, ◌||◌, Bool, true, false, refl, ap}
use Rattle.clap.specs.Words.{App}

-- equal programs have equal first commands
pub top : {a b : App} → a ≡ b → a.top ≡ b.top
top e = ap (λ (app : App). app.top) e

pub or_false : (b : Bool) → (b || false) ≡ b
or_false true = refl
or_false false = refl
