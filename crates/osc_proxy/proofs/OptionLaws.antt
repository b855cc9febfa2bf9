-- Options that stay are options, and in order.
use Rattle.std.proofs.Common.{◌≡◌, ℕ, true, List, [], ◌∷◌, refl, ap, ◌∙◌}
use Rattle.osc_coap.specs.declared.kind.Kind.{Kind}
use Rattle.osc_coap.specs.{NumberAndValue, AreOptions}
use Rattle.osc_coap.specs.Message.{Message}
use Rattle.osc_options.specs.{AreInOrder}
use Rattle.osc_proxy.specs.{answer}
use Rattle.osc_proxy.specs.Inner.Rewriting.{rewritten, stays, staying}
use Rattle.osc_proxy.specs.declared.forwarding.Rewriting.{Rewriting}
use Rattle.osc_proxy.specs.declared.forwarding.Rewriting.TheVariants.{Whole}

pub AreInOrder-options : (before : ℕ) (options : List NumberAndValue) → AreOptions before options → AreInOrder before options
AreInOrder-options before [] p = tt
AreInOrder-options before (option ∷ options) p = (p.0.rises, AreInOrder-options option.0 options p.1)

-- one that stays, before others
pub one_stays : (rewriting : Rewriting) (number : ℕ) (value : List ℕ) (rest options : List NumberAndValue) → options ≡ (number, value) ∷ rest → stays rewriting number ≡ true
    → staying rewriting options ≡ (number, value) ∷ staying rewriting rest
one_stays rewriting number value rest options e is = ap (staying rewriting) e ∙ rw is refl

-- where all stay
all_stay : (options : List NumberAndValue) → staying Whole options ≡ options
all_stay [] = refl
all_stay (option ∷ options) = ap (λ (rest : List NumberAndValue). option ∷ rest) (all_stay options)

pub whole_is : (kind : Kind) (id : ℕ) (token : List ℕ) (message : Message) → rewritten kind id token Whole message ≡ answer kind id token message
whole_is kind id token message = ap (λ (options : List NumberAndValue). record message { kind = kind; id = id; token = token; options = options }) (all_stay message.options)
