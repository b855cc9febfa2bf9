-- What no number of seconds spells says nothing of how long a client waits.
use Rattle.std.specs.Prelude.{◌≡◌, ℕ, List, Option, Some, None}
use Rattle.std.proofs.Common.{subst, subst₂, sym}
use Rattle.osc_words.specs.Times.{IsPatience, SpellsPatience, SpellsTimeout}
use Rattle.osc_words.specs.declared.times.Patience.{Patience}

pub seconds_refused : (text : List ℕ) (seconds : Option (List ℕ)) → Some text ≡ seconds → ((millis : ℕ) → ¬ SpellsTimeout text millis) → (patience : Patience) → ¬ SpellsPatience seconds patience
seconds_refused text seconds is none patience says = none patience.millis (subst (λ (it : Option (List ℕ)). SpellsPatience it patience) (sym is) says).0

pub seconds_alone_refused : (text : List ℕ) (turns seconds : Option (List ℕ)) → None ≡ turns → Some text ≡ seconds → ((millis : ℕ) → ¬ SpellsTimeout text millis)
    → (patience : Patience) → ¬ IsPatience turns seconds patience
seconds_alone_refused text turns seconds left_out is none patience says =
    none patience.millis (subst₂ (λ (a b : Option (List ℕ)). IsPatience a b patience) (sym left_out) (sym is) says).0
