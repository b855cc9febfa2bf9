use Rattle.std.proofs.Common.{Some, List, ℕ, Option, refl, subst, sym}
use Rattle.osc_script.specs.{SpellsScope}
use Rattle.osc_words.specs.{IsGiven}
use Rattle.osc_words.proofs.token_words.scope.Goals as goal

pub returns-in_default : goal.returns-in_default
returns-in_default c =
    let none = rw c.in_default.is at c.in_ok-bytes.ensures in
    (refl, subst (λ (given : Option (List ℕ)). (bytes : List ℕ) → ¬ IsGiven SpellsScope given (Some bytes)) (sym c.in_ok-text.ensures) none)
