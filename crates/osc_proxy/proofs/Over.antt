-- The messages of exchanges that are over leave one exchange after another.
use Rattle.std.proofs.Common.{◌≡◌, ℕ, Bool, true, false, not, ◌||◌, ◌&&◌, List, [], ◌∷◌, refl, ap, sym, ◌∙◌}
use Rattle.std.specs.Prelude.{cond, filter}
use Rattle.std.proofs.lemmas.List.Elements.{filter_agree}
use Rattle.osc_model.specs.declared.node.Moment.{Moment}
use Rattle.osc_message.specs.{Open, EndpointState}
use Rattle.osc_proxy.specs.{is_its, is_of_over, without, is_overdue}
use Rattle.osc_proxy.specs.declared.exchanges.Exchange.{Exchange}

all_stay : {X : Type 0} (xs : List X) → filter (λ _. true) xs ≡ xs
all_stay [] = refl
all_stay (x ∷ xs) = ap (λ ys. x ∷ ys) (all_stay xs)

-- an exchange that isn't confirmable has no open message
pub none_its : (exchange : Exchange) (sending : List Open) → exchange.confirmable ≡ false → sending ≡ without exchange sending
none_its exchange sending other = sym (filter_agree (λ message. not (is_its exchange message)) (λ _. true) (λ message. rw other refl) sending ∙ all_stay sending)

first_more : {X : Type 0} (p q : X → Bool) (x : X) (more same : List X) → more ≡ same
    → (kept : Bool) → q x ≡ kept → cond kept (cond (p x) (x ∷ more) more) more ≡ cond (kept && p x) (x ∷ same) same
first_more p q x more same e true is = ap (λ xs. cond (p x) (x ∷ xs) xs) e
first_more p q x more same e false is = e

first_kept : {X : Type 0} (p : X → Bool) (x : X) (rest : List X) (kept : Bool)
    → filter p (cond kept (x ∷ rest) rest) ≡ cond kept (cond (p x) (x ∷ filter p rest) (filter p rest)) (filter p rest)
first_kept p x rest true = refl
first_kept p x rest false = refl

filter_twice : {X : Type 0} (p q : X → Bool) (xs : List X) → filter p (filter q xs) ≡ filter (λ x. q x && p x) xs
filter_twice p q [] = refl
filter_twice p q (x ∷ xs) =
    first_kept p x (filter q xs) (q x)
    ∙ first_more p q x (filter p (filter q xs)) (filter (λ y. q y && p y) xs) (filter_twice p q xs) (q x) refl

neither : (its others : Bool) → (not its && not others) ≡ not ((true && its) || others)
neither true others = refl
neither false others = refl

-- the messages of one that is over leave, and then those of the others
pub one_over : (now : Moment) (key : ℕ) (exchange : Exchange) (rest : List (ℕ × Exchange)) (endpoint : EndpointState) → is_overdue now exchange ≡ true
    → record endpoint { sending = filter (λ message. not (is_of_over now rest message)) (without exchange endpoint.sending) }
    ≡ record endpoint { sending = filter (λ message. not (is_of_over now ((key, exchange) ∷ rest) message)) endpoint.sending }
one_over now key exchange rest endpoint over =
    ap (λ (s : List Open). record endpoint { sending = s })
    (filter_twice (λ message. not (is_of_over now rest message)) (λ message. not (is_its exchange message)) endpoint.sending
    ∙ filter_agree (λ message. not (is_its exchange message) && not (is_of_over now rest message))
    (λ message. not (is_of_over now ((key, exchange) ∷ rest) message))
    (λ message. rw over (neither (is_its exchange message) (is_of_over now rest message))) endpoint.sending)

pub none_over : (now : Moment) (key : ℕ) (exchange : Exchange) (rest : List (ℕ × Exchange)) (endpoint : EndpointState) → is_overdue now exchange ≡ false
    → record endpoint { sending = filter (λ message. not (is_of_over now rest message)) endpoint.sending }
    ≡ record endpoint { sending = filter (λ message. not (is_of_over now ((key, exchange) ∷ rest) message)) endpoint.sending }
none_over now key exchange rest endpoint other =
    ap (λ (s : List Open). record endpoint { sending = s })
    (filter_agree (λ message. not (is_of_over now rest message)) (λ message. not (is_of_over now ((key, exchange) ∷ rest) message))
    (λ message. rw other refl) endpoint.sending)

-- where no exchange is left all stay
pub all_over : (now : Moment) (endpoint : EndpointState)
    → record endpoint { sending = filter (λ message. not (is_of_over now [] message)) endpoint.sending } ≡ endpoint
all_over now endpoint = ap (λ (s : List Open). record endpoint { sending = s }) (all_stay endpoint.sending)
