-- One step over the options, as the code makes it.
use Rattle.std.proofs.Common.{◌≡◌, ℕ, ◌<◌, true, false, List, [], ◌∷◌, Option, Some, None, length, zero, suc, ◌≤◌, inl, inr, refl, sym, ap, subst, ◌∙◌, arith}
use Rattle.std.specs.Prelude.{IsTrue, is_some, unwrap_or}
use Rattle.std.specs.Option.{option_map}
use Rattle.std.proofs.lemmas.Bool.{eqb-true, eqb-false, cases_Bool}
use Rattle.std.proofs.lemmas.List.{nil_from_length}
use Rattle.osc_coap.specs.{NumberAndValue, Body, option_at, payload_at, body_at, is_end, options_in, payload_in, CanBeRead}
use Rattle.osc_coap.proofs.OptionLaws.{option_left}
use Rattle.osc_coap.proofs.BodyLaws.{behind, body_nil, body_marker, body_option, body_refused}

-- an option is followed by others
pub body_more : (before : ℕ) (bytes : List ℕ) (x : NumberAndValue × List ℕ) → is_end bytes ≡ false → option_at before bytes ≡ Some x → body_at before bytes ≡ behind x.0 (body_at x.0.0 x.1)
body_more before [] x more e = absurd cc
body_more before (b ∷ bytes) x more e = body_option before b bytes x (eqb-false b 255 more) e

-- bytes that are no option are refused
pub body_none : (before : ℕ) (bytes : List ℕ) → is_end bytes ≡ false → option_at before bytes ≡ None → body_at before bytes ≡ None
body_none before [] more e = absurd cc
body_none before (b ∷ bytes) more e = body_refused before b bytes (eqb-false b 255 more) e

-- ---- the options

-- what follows an option can be read too
behind_read : (option : NumberAndValue) (body : Option Body) → IsTrue (is_some (behind option body)) → IsTrue (is_some body)
behind_read option None h = h
behind_read option (Some body) h = refl

-- the options of a body, if there is one
abbrev options_part : Option Body → List NumberAndValue
options_part body = unwrap_or (option_map (λ body. body.0) body) []

-- the options after an option
behind_options : (option : NumberAndValue) (body : Option Body) → IsTrue (is_some (behind option body)) → options_part (behind option body) ≡ option ∷ options_part body
behind_options option None h = absurd cc
behind_options option (Some body) h = refl

-- what is left can be read
pub still_read : (before : ℕ) (bytes : List ℕ) (x : NumberAndValue × List ℕ) → is_end bytes ≡ false → option_at before bytes ≡ Some x → CanBeRead before bytes → CanBeRead x.0.0 x.1
still_read before bytes x more e read = behind_read x.0 (body_at x.0.0 x.1) (subst (λ (b : Option Body). IsTrue (is_some b)) (body_more before bytes x more e) read)

-- the first of the options, and the others
pub options_more : (before : ℕ) (bytes : List ℕ) (x : NumberAndValue × List ℕ) → is_end bytes ≡ false → option_at before bytes ≡ Some x → CanBeRead before bytes → options_in before bytes ≡ x.0 ∷ options_in x.0.0 x.1
options_more before bytes x more e read =
    ap options_part (body_more before bytes x more e) ∙ behind_options x.0 (body_at x.0.0 x.1) (subst (λ (b : Option Body). IsTrue (is_some b)) (body_more before bytes x more e) read)

-- bytes that can be read begin with an option, or end
pub is_read : (before : ℕ) (bytes : List ℕ) → is_end bytes ≡ false → option_at before bytes ≡ None → CanBeRead before bytes → ⊥
is_read before bytes more e read = let none = subst (λ (b : Option Body). IsTrue (is_some b)) (body_none before bytes more e) read in cc

-- no options follow a marker
marker_options : (bytes : List ℕ) → options_part (payload_at bytes) ≡ []
marker_options [] = refl
marker_options (b ∷ bytes) = refl

-- no options are at the end
pub options_end : (before : ℕ) (bytes : List ℕ) → is_end bytes ≡ true → options_in before bytes ≡ []
options_end before [] end = ap options_part (body_nil before)
options_end before (b ∷ bytes) end = rw (eqb-true b 255 end) (ap options_part (body_marker before bytes) ∙ marker_options bytes)

-- ---- the payload

-- the payload of a body, if there is one
abbrev payload_part : Option Body → Option (Option (List ℕ))
payload_part body = option_map (λ body. body.1) body

-- the payload is that after an option
behind_payload : (option : NumberAndValue) (body : Option Body) → payload_part (behind option body) ≡ payload_part body
behind_payload option None = refl
behind_payload option (Some body) = refl

-- the payload is that of what is left
pub payload_more : (before : ℕ) (bytes : List ℕ) (x : NumberAndValue × List ℕ) → is_end bytes ≡ false → option_at before bytes ≡ Some x → payload_in before bytes ≡ payload_in x.0.0 x.1
payload_more before bytes x more e = ap payload_part (body_more before bytes x more e) ∙ behind_payload x.0 (body_at x.0.0 x.1)

-- bytes that are no option have none
pub payload_none : (before : ℕ) (bytes : List ℕ) → is_end bytes ≡ false → option_at before bytes ≡ None → payload_in before bytes ≡ None
payload_none before bytes more e = ap payload_part (body_none before bytes more e)

-- what is at the end of the options
pub payload_nil : (before : ℕ) (bytes : List ℕ) → length bytes ≡ 0 → payload_in before bytes ≡ Some None
payload_nil before bytes len = ap (payload_in before) (nil_from_length bytes len) ∙ ap payload_part (body_nil before)

-- after a marker is the payload
payload_behind : (before : ℕ) (bytes : List ℕ) (marker : ℕ) (payload : List ℕ) → is_end bytes ≡ true → bytes ≡ marker ∷ payload → payload_in before bytes ≡ payload_part (payload_at payload)
payload_behind before bytes marker payload end e =
    let is : marker ≡ 255 = eqb-true marker 255 (sym (ap is_end e) ∙ end) in
    ap (payload_in before) (e ∙ ap (λ (b : ℕ). b ∷ payload) is) ∙ ap payload_part (body_marker before payload)

-- a marker with nothing after it is refused
pub payload_empty : (before : ℕ) (bytes : List ℕ) (marker : ℕ) (payload : List ℕ) → is_end bytes ≡ true → bytes ≡ marker ∷ payload → length payload ≡ 0 → payload_in before bytes ≡ None
payload_empty before bytes marker payload end e len =
    payload_behind before bytes marker payload end e ∙ ap (λ (p : List ℕ). payload_part (payload_at p)) (nil_from_length payload len)

-- some bytes after a marker are the payload
nonempty_part : (payload : List ℕ) → 0 < length payload → payload_part (payload_at payload) ≡ Some (Some payload)
nonempty_part [] lt = absurd (omega arith)
nonempty_part (b ∷ bytes) lt = refl

-- some bytes after a marker are the payload
pub payload_found : (before : ℕ) (bytes : List ℕ) (marker : ℕ) (payload : List ℕ) → is_end bytes ≡ true → bytes ≡ marker ∷ payload → 0 < length payload → payload_in before bytes ≡ Some (Some payload)
payload_found before bytes marker payload end e lt = payload_behind before bytes marker payload end e ∙ nonempty_part payload lt

-- ---- how many options

-- one option more
behind_length : (option : NumberAndValue) (body : Option Body) → length (options_part (behind option body)) ≤ suc (length (options_part body))
behind_length option None = omega arith
behind_length option (Some body) = omega arith

-- no more options than bytes, if that holds of what is left
step_length : (before : ℕ) (bytes : List ℕ) (o : Option (NumberAndValue × List ℕ)) → is_end bytes ≡ false → option_at before bytes ≡ o
    → ((x : NumberAndValue × List ℕ) → o ≡ Some x → length (options_in x.0.0 x.1) < length bytes) → length (options_in before bytes) ≤ length bytes
step_length before bytes None more e below = rw (body_none before bytes more e) (omega arith)
step_length before bytes (Some x) more e below = rw (body_more before bytes x more e) (omega (arith, behind_length x.0 (body_at x.0.0 x.1), below x refl))

-- no more options than bytes, with enough fuel
count_within : (fuel before : ℕ) (bytes : List ℕ) → length bytes ≤ fuel → length (options_in before bytes) ≤ length bytes
count_within fuel before [] le = rw (options_end before [] refl) (omega arith)
count_within zero before (b ∷ bytes) le = absurd (omega arith)
count_within (suc fuel) before (b ∷ bytes) le =
    elim (cases_Bool (is_end (b ∷ bytes))) [
      | inl end ↦ rw (options_end before (b ∷ bytes) end) (omega arith)
      | inr more ↦ step_length before (b ∷ bytes) (option_at before (b ∷ bytes)) more refl (λ x e. let lt : length x.1 < suc (length bytes) = option_left before (b ∷ bytes) x e in omega (arith, lt, count_within fuel x.0.0 x.1 (omega arith)))
    ]

-- no more options than bytes
pub length-options_in : (before : ℕ) (bytes : List ℕ) → length (options_in before bytes) ≤ length bytes
length-options_in before bytes = count_within (length bytes) before bytes (omega arith)
