-- What is sent fits a datagram.
use Rattle.std.proofs.Common.{◌≡◌, ℕ, List, [], Result, Ok, Err, sym, ap, subst}
use Rattle.std.specs.Result.{IfOk}
use Rattle.std.proofs.lemmas.List.Elements.{All-nil}
use Rattle.osc_model.specs.declared.step.Datagram.{Datagram}
use Rattle.osc_model.specs.declared.step.Step.{Step}
use Rattle.osc_message.specs.{AreSendable, FitsDatagram}
use Rattle.osc_client.specs.{refusing}

pub none_fit : (out : List Datagram) → out ≡ [] → AreSendable out
none_fit out none = subst AreSendable (sym none) (All-nil (λ sent. FitsDatagram sent.bytes))

-- what is refused sends nothing
pub refusal_fits : (step : Step) (number : ℕ) → step ≡ refusing number → AreSendable step.out
refusal_fits step number refused = none_fit step.out (ap (λ (s : Step). s.out) refused)

-- two facts of one result
pub both_ok : {T E : Type 0} (r : Result T E) (P Q : T → Type 0) → IfOk r P → IfOk r Q → IfOk r (λ x. P x × Q x)
both_ok (Ok x) P Q p q = (p, q)
both_ok (Err e) P Q p q = tt
