-- What was split is merged again.
use Rattle.std.proofs.Common.{◌≡◌, ℕ, ◌<◌, ◌≤◌, Bool, true, false, ◌⊎◌, ◌&&◌, not, ◌==◌, nat_lt, List, [], ◌∷◌, length, refl, sym, ap, subst, ◌∙◌, arith, inl, inr}
use Rattle.std.specs.Prelude.{filter, IfSome}
use Rattle.std.proofs.lemmas.Bool.{cases_Bool, lt-ltb}
use Rattle.osc_coap.specs.{NumberAndValue, AreOptions, HasSpelling, HasPlaintextSpelling, payload_of}
use Rattle.osc_coap.specs.Message.{Message}
use Rattle.osc_coap.specs.Plaintext.{Plaintext}
use Rattle.osc_options.specs.declared.table.Class.TheVariants.{E, U}
use Rattle.osc_options.specs.{class_of, same_class, outer_options, inner_options, merge, plaintext_of, protected, unprotected, has_oscore, AreInOrder}
use Rattle.osc_options.specs.Inner.Merging.{is_outer, is_inner}
use Rattle.osc_options.proofs.MergeLaws.{merge-first, merge-outer, AreOptions-merge, AreInOrder-options, AreInOrder-merge}

-- ---- one option at a time

pub outer_taken : (option : NumberAndValue) (options : List NumberAndValue) → is_outer option.0 ≡ true → outer_options (option ∷ options) ≡ option ∷ outer_options options
outer_taken option options is =
    elim (cases_Bool (same_class U (class_of option.0))) [
      | inl outer ↦ elim (cases_Bool (option.0 == 9)) [
        | inl own ↦ let no = rw (outer, own) at is in absurd cc
        | inr other ↦ rw (outer, other) refl
      ]
      | inr inner ↦ let no = rw inner at is in absurd cc
    ]

pub outer_left : (option : NumberAndValue) (options : List NumberAndValue) → is_outer option.0 ≡ false → outer_options (option ∷ options) ≡ outer_options options
outer_left option options is =
    elim (cases_Bool (same_class U (class_of option.0))) [
      | inl outer ↦ elim (cases_Bool (option.0 == 9)) [
        | inl own ↦ rw (outer, own) refl
        | inr other ↦ let no = rw (outer, other) at is in absurd cc
      ]
      | inr inner ↦ rw inner refl
    ]

pub inner_taken : (option : NumberAndValue) (options : List NumberAndValue) → is_inner option.0 ≡ true → inner_options (option ∷ options) ≡ option ∷ inner_options options
inner_taken option options is = rw is refl

pub inner_left : (option : NumberAndValue) (options : List NumberAndValue) → is_inner option.0 ≡ false → inner_options (option ∷ options) ≡ inner_options options
inner_left option options is = rw is refl

-- an option stays outside, is encrypted, or is OSCORE's own
pub class_cases : (number : ℕ) → (number == 9) ≡ false → (is_outer number ≡ true) × (is_inner number ≡ false) ⊎ (is_outer number ≡ false) × (is_inner number ≡ true)
class_cases number other =
    elim (class_of number) as (λ class. ((same_class U class && not (number == 9)) ≡ true) × (same_class E class ≡ false) ⊎ ((same_class U class && not (number == 9)) ≡ false) × (same_class E class ≡ true)) [
      | E ↦ inr (refl, refl)
      | U ↦ inl (rw other refl, refl)
    ]

-- ---- twice the same

outer_again : (options : List NumberAndValue) → outer_options (outer_options options) ≡ outer_options options
outer_again [] = refl
outer_again (option ∷ options) =
    elim (cases_Bool (is_outer option.0)) [
      | inl is ↦ ap outer_options (outer_taken option options is) ∙ outer_taken option (outer_options options) is ∙ ap (λ (rest : List NumberAndValue). option ∷ rest) (outer_again options) ∙ sym (outer_taken option options is)
      | inr not_so ↦ ap outer_options (outer_left option options not_so) ∙ outer_again options ∙ sym (outer_left option options not_so)
    ]

inner_again : (options : List NumberAndValue) → inner_options (inner_options options) ≡ inner_options options
inner_again [] = refl
inner_again (option ∷ options) =
    elim (cases_Bool (is_inner option.0)) [
      | inl is ↦ ap inner_options (inner_taken option options is) ∙ inner_taken option (inner_options options) is ∙ ap (λ (rest : List NumberAndValue). option ∷ rest) (inner_again options) ∙ sym (inner_taken option options is)
      | inr not_so ↦ ap inner_options (inner_left option options not_so) ∙ inner_again options ∙ sym (inner_left option options not_so)
    ]

-- ---- OSCORE's own option is left out again

-- whether the first is left out depends on it alone
outer_same : (option : NumberAndValue) (a b : List NumberAndValue) → outer_options a ≡ outer_options b → outer_options (option ∷ a) ≡ outer_options (option ∷ b)
outer_same option a b e =
    elim (cases_Bool (is_outer option.0)) [
      | inl is ↦ outer_taken option a is ∙ ap (λ (rest : List NumberAndValue). option ∷ rest) e ∙ sym (outer_taken option b is)
      | inr not_so ↦ outer_left option a not_so ∙ e ∙ sym (outer_left option b not_so)
    ]

own_left : (value : List ℕ) (options : List NumberAndValue) → outer_options ((9, value) ∷ options) ≡ outer_options options
own_left value options = refl

without_own : (options : List NumberAndValue) (value : List ℕ) → outer_options (merge options ((9, value) ∷ [])) ≡ outer_options options
without_own [] value = refl
without_own (option ∷ options) value =
    elim (cases_Bool (nat_lt 9 option.0)) [
      | inl larger ↦ rw larger (own_left value (option ∷ options))
      | inr other ↦ rw other (outer_same option (merge options ((9, value) ∷ [])) options (without_own options value))
    ]

-- ---- split and merged

-- some of the options are options
abbrev pub FewerLaw : Type 0
FewerLaw = (keeps : NumberAndValue → Bool) (before : ℕ) (options : List NumberAndValue) → AreOptions before options → AreOptions before (filter keeps options)

pub outer_are : FewerLaw → (before : ℕ) (options : List NumberAndValue) → AreOptions before options → AreOptions before (outer_options options)
outer_are fewer before options are = fewer _ before _ (fewer _ before options are)

-- each of these stays outside
abbrev AllOuter : List NumberAndValue → Type 0
AllOuter [] = Unit {0}
AllOuter (option ∷ options) = (is_outer option.0 ≡ true) × AllOuter options

all_outer : (options : List NumberAndValue) → AllOuter (outer_options options)
all_outer [] = tt
all_outer (option ∷ options) =
    elim (cases_Bool (is_outer option.0)) [
      | inl is ↦ subst AllOuter (sym (outer_taken option options is)) (is, all_outer options)
      | inr not_so ↦ subst AllOuter (sym (outer_left option options not_so)) (all_outer options)
    ]

-- an encrypted option is before outer ones after it
inner_first : (option : NumberAndValue) (outer inner : List NumberAndValue) → is_outer option.0 ≡ false → AllOuter outer → AreOptions option.0 outer → AreOptions option.0 inner → merge outer (option ∷ inner) ≡ option ∷ merge outer inner
inner_first option [] inner is all are behind = merge-first option [] inner (AreInOrder-options option.0 inner behind)
inner_first option (first ∷ outer) inner is all are behind =
    let other : first.0 ≡ option.0 → ⊥ = λ same. let both = ap is_outer same in absurd cc in
    let lt : option.0 < first.0 = omega (arith, are.0.rises, other) in
    rw (lt-ltb option.0 first.0 lt) (merge-first option (first ∷ outer) inner (AreInOrder-options option.0 inner behind))

-- options that are split are merged again
pub split_merged : FewerLaw → (before : ℕ) (options : List NumberAndValue) → AreOptions before options → has_oscore options ≡ false → merge (outer_options options) (inner_options options) ≡ options
split_merged fewer before [] are none = refl
split_merged fewer before (option ∷ options) are none =
    elim (cases_Bool (option.0 == 9)) [
      | inl own ↦ let no = rw own at none in absurd cc
      | inr other ↦
          let rest = split_merged fewer option.0 options are.1 (rw other at none) in
          elim (class_cases option.0 other) [
            | inl is ↦
                ap (λ (outer : List NumberAndValue). merge outer (inner_options (option ∷ options))) (outer_taken option options is.0)
                ∙ ap (merge (option ∷ outer_options options)) (inner_left option options is.1)
                ∙ merge-outer option (outer_options options) (inner_options options) (fewer _ option.0 options are.1)
                ∙ ap (λ (rest : List NumberAndValue). option ∷ rest) rest
            | inr is ↦
                ap (λ (outer : List NumberAndValue). merge outer (inner_options (option ∷ options))) (outer_left option options is.0)
                ∙ ap (merge (outer_options options)) (inner_taken option options is.1)
                ∙ inner_first option (outer_options options) (inner_options options) is.0 (all_outer options) (outer_are fewer option.0 options are.1) (fewer _ option.0 options are.1)
                ∙ ap (λ (rest : List NumberAndValue). option ∷ rest) rest
          ]
    ]

-- ---- messages

-- a protected message and its plaintext make the message again
pub message_again : FewerLaw → (m : Message) (code : ℕ) (value payload : List ℕ) → HasSpelling m → has_oscore m.options ≡ false → unprotected (protected m code value payload) (plaintext_of m) ≡ m
message_again fewer m code value payload lawful none =
    let outer : outer_options (merge (outer_options m.options) ((9, value) ∷ [])) ≡ outer_options m.options = without_own (outer_options m.options) value ∙ outer_again m.options in
    let whole = split_merged fewer 0 m.options lawful.options none in
    ap (λ (options : List NumberAndValue). record m { options = merge options (inner_options (inner_options m.options)) }) outer
    ∙ ap (λ (options : List NumberAndValue). record m { options = merge (outer_options m.options) options }) (inner_again m.options)
    ∙ ap (λ (options : List NumberAndValue). record m { options = options }) whole

-- what is encrypted has a spelling
pub plaintext_lawful : FewerLaw → (m : Message) → HasSpelling m → HasPlaintextSpelling (plaintext_of m)
plaintext_lawful fewer m lawful = record { options = fewer _ 0 m.options lawful.options; payload = lawful.payload }

-- a payload is not empty
nonempty : (bytes : List ℕ) → IfSome (payload_of bytes) (λ bytes. 0 < length bytes)
nonempty [] = tt
nonempty (b ∷ bytes) = omega arith

-- the options of a protected message are options
protected_options : FewerLaw → (options : List NumberAndValue) (value : List ℕ) → AreOptions 0 options → length value ≤ 65804 → AreOptions 0 (merge (outer_options options) ((9, value) ∷ []))
protected_options fewer options value are size =
    AreOptions-merge 0 (outer_options options) ((9, value) ∷ []) (outer_are fewer 0 options are) (record { rises = omega arith; number = omega arith; size = omega arith }, tt)

-- a protected message has a spelling
pub protected_lawful : FewerLaw → (m : Message) (code : ℕ) (value payload : List ℕ) → HasSpelling m → 0 < code → length value ≤ 255 → HasSpelling (protected m code value payload)
protected_lawful fewer m code value payload lawful code_fits size = record {
  id = lawful.id;
  token = lawful.token;
  options = protected_options fewer m.options value lawful.options (omega arith);
  payload = nonempty payload;
  empty = λ zero_code. absurd (omega arith);
}

-- the options of a message that was made again are options
unprotected_options : FewerLaw → (outer inner : List NumberAndValue) → AreOptions 0 outer → AreOptions 0 inner → AreOptions 0 (merge (outer_options outer) (inner_options inner))
unprotected_options fewer outer inner p q = AreOptions-merge 0 (outer_options outer) (inner_options inner) (outer_are fewer 0 outer p) (fewer _ 0 inner q)

-- a message that was made again has a spelling
pub unprotected_lawful : FewerLaw → (outer : Message) (inner : Plaintext) → HasSpelling outer → HasPlaintextSpelling inner → 0 < inner.code → HasSpelling (unprotected outer inner)
unprotected_lawful fewer outer inner p q code_fits = record {
  id = p.id;
  token = p.token;
  options = unprotected_options fewer outer.options inner.options p.options q.options;
  payload = q.payload;
  empty = λ zero_code. absurd (omega arith);
}

-- ---- in order

-- the options of a protected message are in order, whatever the value
pub protected_order : FewerLaw → (options : List NumberAndValue) (value : List ℕ) → AreOptions 0 options → AreInOrder 0 (merge (outer_options options) ((9, value) ∷ []))
protected_order fewer options value are =
    AreInOrder-merge 0 (outer_options options) ((9, value) ∷ []) (AreInOrder-options 0 _ (outer_are fewer 0 options are)) (omega arith, tt)

-- those of what is encrypted
pub inner_order : FewerLaw → (options : List NumberAndValue) → AreOptions 0 options → AreInOrder 0 (inner_options options)
inner_order fewer options are = AreInOrder-options 0 _ (fewer _ 0 options are)

-- and those of a message that was made again
pub unprotected_order : FewerLaw → (outer inner : List NumberAndValue) → AreOptions 0 outer → AreOptions 0 inner → AreInOrder 0 (merge (outer_options outer) (inner_options inner))
unprotected_order fewer outer inner p q = AreInOrder-options 0 _ (unprotected_options fewer outer inner p q)
