-- What an opened text is read as.
use Rattle.std.proofs.Common.{◌≡◌, ℕ, List, Option, Some, None, Result, Err, refl, sym, ap, inl, inr, ◌∙◌}
use Rattle.osc_model.specs.declared.request.Request.{Request}
use Rattle.osc_coap.specs.{SpellsPlaintext, plaintext_at}
use Rattle.osc_coap.specs.Plaintext.{Plaintext}
use Rattle.osc_options.specs.{IsMemoryAside, request_of_plaintext, or_code, read_request, request_or_code}
use Rattle.osc_options.specs.declared.error.PlaintextError.{PlaintextError}
use Rattle.osc_options.specs.declared.error.PlaintextError.TheVariants.{Format, Memory}

nothing : (p : Plaintext) → None ≡ Some p → ⊥
nothing p e = cc

pub read_as : (text : List ℕ) (result : Result Request PlaintextError)
    → ((p : Plaintext) → plaintext_at text ≡ Some p → SpellsPlaintext text p)
    → ((p : Plaintext) → SpellsPlaintext text p → plaintext_at text ≡ Some p)
    → ((p : Plaintext) → SpellsPlaintext text p → IsMemoryAside Memory (request_of_plaintext p) result)
    → (((p : Plaintext) → ¬ SpellsPlaintext text p) → result ≡ Err Format)
    → ¬ (result ≡ Err Memory) → or_code result ≡ read_request text
unfolding read_request
read_as text result takes again plain none memory = by (plaintext_at text) refl
  where
    aside : (due : Result Request PlaintextError) → IsMemoryAside Memory due result → or_code result ≡ or_code due
    aside due (inl same) = ap or_code same
    aside due (inr wants) = absurd (memory wants.1)

    by : (found : Option Plaintext) → plaintext_at text ≡ found → or_code result ≡ request_or_code found
    by None e = ap or_code (none (λ p spells. absurd (nothing p (sym e ∙ again p spells))))
    by (Some p) e = aside (request_of_plaintext p) (plain p (takes p e))
