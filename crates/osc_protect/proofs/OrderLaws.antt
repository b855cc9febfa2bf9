-- The numbers of a message's options don't fall (RFC 7252 section 3.1).
use Rattle.std.proofs.Common.{◌≡◌, ℕ, ◌<◌, List, [], ◌∷◌, None, refl, arith}
use Rattle.std.proofs.lemmas.Bool.{ne_eqb}
use Rattle.osc_coap.specs.{NumberAndValue, AreOptions}
use Rattle.osc_options.specs.{value}

-- none of a smaller number follows an option
no_value : (number before : ℕ) (options : List NumberAndValue) → AreOptions before options → number < before → value number options ≡ None
no_value number before [] order less = refl
no_value number before (option ∷ options) order less =
    rw (ne_eqb option.0 number (λ e. omega (arith, e, order.0.rises))) (no_value number option.0 options order.1 (omega (arith, order.0.rises)))

-- nor is it that option
pub no_value_from : (number other : ℕ) (bytes : List ℕ) (rest : List NumberAndValue) → AreOptions other rest → number < other → value number ((other, bytes) ∷ rest) ≡ None
no_value_from number other bytes rest order less = rw (ne_eqb other number (λ e. omega (arith, e))) (no_value number other rest order less)
