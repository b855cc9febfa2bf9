-- Options and a payload that are read are those that were written, and what was written is read again.
use Rattle.std.proofs.Common.{◌≡◌, ℕ, zero, suc, ◌<◌, ◌≤◌, eqb, List, [], ◌∷◌, ◌++◌, length, Option, Some, None, refl, sym, ap, subst, ◌∙◌, append_assoc, arith, inl, inr}
use Rattle.std.specs.Prelude.{IfSome}
use Rattle.std.proofs.lemmas.Bool.{cases_Bool, eqb-true, eqb-false, ne_eqb}
use Rattle.std.proofs.lemmas.Option.{same_Some}
use Rattle.osc_coap.specs.{NumberAndValue, option_spelling, options_spelling, payload_spelling, AreOptions, AreBytes, ◌>>=◌, Body, option_at, payload_at, body_within, body_at}
use Rattle.osc_coap.proofs.Steps.{bind_some}
use Rattle.osc_coap.proofs.OptionLaws.{IsOptionRead, first_byte, option_spelling-cons, first_byte_below, option_again, option_takes, option_left}

-- the options and the payload after one option
abbrev pub behind : NumberAndValue → Option Body → Option Body
behind option body = body >>= λ others. Some (option ∷ others.0, others.1)

-- a step of the reader with fuel
abbrev step : ℕ → ℕ → ℕ → List ℕ → Option Body
step fuel before b bytes = option_at before (b ∷ bytes) >>= λ first. behind first.0 (body_within fuel first.0.0 first.1)

-- nothing is no options and no payload
within_nil : (fuel before : ℕ) → body_within fuel before [] ≡ Some ([], None)
unfolding body_within
within_nil zero before = refl
within_nil (suc fuel) before = refl

-- after a marker is the payload
within_marker : (fuel before : ℕ) (bytes : List ℕ) → body_within (suc fuel) before (255 ∷ bytes) ≡ payload_at bytes
unfolding body_within
within_marker fuel before bytes = refl

-- another byte begins an option
within_option : (fuel before b : ℕ) (bytes : List ℕ) → (b ≡ 255 → ⊥) → body_within (suc fuel) before (b ∷ bytes) ≡ step fuel before b bytes
unfolding body_within
within_option fuel before b bytes other = rw (ne_eqb b 255 other) refl

-- enough fuel is as good as any
step_same : (f g : ℕ) (o : Option (NumberAndValue × List ℕ)) → ((x : NumberAndValue × List ℕ) → o ≡ Some x → body_within f x.0.0 x.1 ≡ body_within g x.0.0 x.1) → (o >>= λ first. behind first.0 (body_within f first.0.0 first.1)) ≡ (o >>= λ first. behind first.0 (body_within g first.0.0 first.1))
step_same f g None same = refl
step_same f g (Some x) same = ap (behind x.0) (same x refl)

-- enough fuel is as good as any
within_same : (f g before : ℕ) (bytes : List ℕ) → length bytes ≤ f → length bytes ≤ g → body_within f before bytes ≡ body_within g before bytes
within_same zero g before [] p q = within_nil zero before ∙ sym (within_nil g before)
within_same (suc f) g before [] p q = within_nil (suc f) before ∙ sym (within_nil g before)
within_same zero g before (b ∷ bytes) p q = absurd (omega arith)
within_same (suc f) zero before (b ∷ bytes) p q = absurd (omega arith)
within_same (suc f) (suc g) before (b ∷ bytes) p q =
    elim (cases_Bool (eqb b 255)) [
      | inl is ↦
          let e : b ≡ 255 = eqb-true b 255 is in
          rw e (within_marker f before bytes ∙ sym (within_marker g before bytes))
      | inr is ↦
          let other : b ≡ 255 → ⊥ = eqb-false b 255 is in
          within_option f before b bytes other
          ∙ step_same f g (option_at before (b ∷ bytes)) (λ x e. let lt : length x.1 < suc (length bytes) = option_left before (b ∷ bytes) x e in within_same f g x.0.0 x.1 (omega arith) (omega arith))
          ∙ sym (within_option g before b bytes other)
    ]

-- ---- the four steps, without fuel

-- nothing is no options and no payload
pub body_nil : (before : ℕ) → body_at before [] ≡ Some ([], None)
unfolding body_at
body_nil before = within_nil 0 before

-- after a marker is the payload
pub body_marker : (before : ℕ) (bytes : List ℕ) → body_at before (255 ∷ bytes) ≡ payload_at bytes
unfolding body_at
body_marker before bytes = within_marker (length bytes) before bytes

-- an option is followed by others
pub body_option : (before b : ℕ) (bytes : List ℕ) (x : NumberAndValue × List ℕ) → (b ≡ 255 → ⊥) → option_at before (b ∷ bytes) ≡ Some x → body_at before (b ∷ bytes) ≡ behind x.0 (body_at x.0.0 x.1)
unfolding body_at
body_option before b bytes x other e =
    let lt : length x.1 < suc (length bytes) = option_left before (b ∷ bytes) x e in
    within_option (length bytes) before b bytes other ∙ rw e (ap (behind x.0) (within_same (length bytes) (length x.1) x.0.0 x.1 (omega arith) (omega arith)))

-- bytes that are no option are refused
pub body_refused : (before b : ℕ) (bytes : List ℕ) → (b ≡ 255 → ⊥) → option_at before (b ∷ bytes) ≡ None → body_at before (b ∷ bytes) ≡ None
unfolding body_at
body_refused before b bytes other e = within_option (length bytes) before b bytes other ∙ rw e refl

-- ---- the two laws

-- the spelling of options and a payload
abbrev pub body_spelling : ℕ → Body → List ℕ
body_spelling before body = options_spelling before body.0 ++ payload_spelling body.1

pub record IsBody (before : ℕ) (body : Body) : Type 0 where
  pub options : AreOptions before body.0
  pub payload : IfSome body.1 (λ bytes. 0 < length bytes)

-- a payload is read again
payload_again : (before : ℕ) (payload : Option (List ℕ)) → IfSome payload (λ bytes. 0 < length bytes) → body_at before (payload_spelling payload) ≡ Some ([], payload)
unfolding payload_spelling
payload_again before None h = body_nil before
payload_again before (Some []) h = absurd (omega arith)
payload_again before (Some (b ∷ bytes)) h = body_marker before (b ∷ bytes)

-- options and a payload are read again
body_again' : (before : ℕ) (options : List NumberAndValue) (payload : Option (List ℕ)) → AreOptions before options → IfSome payload (λ bytes. 0 < length bytes) → body_at before (options_spelling before options ++ payload_spelling payload) ≡ Some (options, payload)
unfolding options_spelling
body_again' before [] payload fits nonempty = payload_again before payload nonempty
body_again' before (option ∷ options) payload fits nonempty =
    let rest = options_spelling option.0 options ++ payload_spelling payload in
    let head = first_byte before option in
    let begins : (options_spelling before (option ∷ options)) ++ payload_spelling payload ≡ option_spelling before option ++ rest = append_assoc (option_spelling before option) (options_spelling option.0 options) (payload_spelling payload) in
    let regrouped = begins ∙ option_spelling-cons before option rest in
    let again = option_again before option rest fits.0 in
    let again' = sym (ap (option_at before) (option_spelling-cons before option rest)) ∙ again in
    let lt = first_byte_below before option in
    ap (body_at before) regrouped ∙ body_option before head _ (option, rest) (λ e. omega arith) again' ∙ ap (behind option) (body_again' option.0 options payload fits.1 nonempty)

-- the same of the two as one
pub body_again : (before : ℕ) (body : Body) → IsBody before body → body_at before (body_spelling before body) ≡ Some body
body_again before body is = body_again' before body.0 body.1 is.options is.payload

pub record IsBodyRead (before : ℕ) (bytes : List ℕ) (body : Body) : Type 0 where
  pub whole : bytes ≡ body_spelling before body
  pub fits : IsBody before body

-- a payload that is read is spelled so
payload_takes : (before : ℕ) (bytes : List ℕ) (body : Body) → payload_at bytes ≡ Some body → IsBodyRead before (255 ∷ bytes) body
unfolding options_spelling payload_spelling
payload_takes before [] body e = absurd cc
payload_takes before (b ∷ bytes) body e =
    let made : Body = ([], Some (b ∷ bytes)) in
    subst (λ (x : Body). IsBodyRead before (255 ∷ b ∷ bytes) x) (same_Some made body e) (record { whole = refl; fits = record { options = tt; payload = omega arith } })

-- nothing that is read is spelled so
nil_takes : (before : ℕ) (body : Body) → body_at before [] ≡ Some body → IsBodyRead before [] body
unfolding options_spelling payload_spelling
nil_takes before body e =
    let made : Body = ([], None) in
    subst (λ (x : Body). IsBodyRead before [] x) (same_Some made body (sym (body_nil before) ∙ e)) (record { whole = refl; fits = record { options = tt; payload = tt } })

-- an option and the others after it are spelled so
option_then : (before : ℕ) (bytes : List ℕ) (option : NumberAndValue) (rest : List ℕ) (body : Body) → IsOptionRead before bytes option rest → IsBodyRead option.0 rest body → IsBodyRead before bytes (option ∷ body.0, body.1)
unfolding options_spelling
option_then before bytes option rest body first others = record {
  whole = first.takes.parts ∙ ap (λ (t : List ℕ). option_spelling before option ++ t) others.whole ∙ sym (append_assoc (option_spelling before option) (options_spelling option.0 body.0) (payload_spelling body.1));
  fits = record { options = (first.fits, others.fits.options); payload = others.fits.payload };
}

-- what an option that is read leaves to be read
option_reads : (before b : ℕ) (bytes : List ℕ) → (b ≡ 255 → ⊥) → (o : Option (NumberAndValue × List ℕ)) → option_at before (b ∷ bytes) ≡ o → (body : Body) → body_at before (b ∷ bytes) ≡ Some body
    → (x : NumberAndValue × List ℕ) × (others : Body) × (o ≡ Some x) × (body_at x.0.0 x.1 ≡ Some others) × ((x.0 ∷ others.0, others.1) ≡ body)
option_reads before b bytes other None e body read = let none = body_refused before b bytes other e in absurd cc
option_reads before b bytes other (Some x) e body read =
    let step = bind_some (body_at x.0.0 x.1) (λ others. Some (x.0 ∷ others.0, others.1)) body (sym (body_option before b bytes x other e) ∙ read) in
    (x, step.0, refl, step.1, same_Some (x.0 ∷ step.0.0, step.0.1) body step.2)

-- what is read is spelled so, with enough fuel
takes_within : (fuel before : ℕ) (bytes : List ℕ) (body : Body) → length bytes ≤ fuel → AreBytes bytes → body_at before bytes ≡ Some body → IsBodyRead before bytes body
takes_within fuel before [] body le fits e = nil_takes before body e
takes_within zero before (b ∷ bytes) body le fits e = absurd (omega arith)
takes_within (suc fuel) before (b ∷ bytes) body le fits e =
    elim (cases_Bool (eqb b 255)) [
      | inl is ↦
          let b_is : b ≡ 255 = eqb-true b 255 is in
          rw b_is (payload_takes before bytes body (sym (body_marker before bytes) ∙ (rw b_is at e)))
      | inr is ↦
          let step = option_reads before b bytes (eqb-false b 255 is) (option_at before (b ∷ bytes)) refl body e in
          let x = step.0 in
          let first = option_takes before (b ∷ bytes) x.0 x.1 fits step.2 in
          let lt : length x.1 < suc (length bytes) = option_left before (b ∷ bytes) x step.2 in
          let others = takes_within fuel x.0.0 x.1 step.1 (omega arith) first.takes.rest_fits step.3 in
          subst (λ (y : Body). IsBodyRead before (b ∷ bytes) y) step.4 (option_then before (b ∷ bytes) x.0 x.1 step.1 first others)
    ]

-- what is read is spelled so
pub body_takes : (before : ℕ) (bytes : List ℕ) (body : Body) → AreBytes bytes → body_at before bytes ≡ Some body → IsBodyRead before bytes body
body_takes before bytes body fits e = takes_within (length bytes) before bytes body (omega arith) fits e
