-- Forwarding keeps a message's protection: what is encrypted, and the place of option 9 among those that stay outside.
use Rattle.std.proofs.Common.{◌≡◌, ◌∙◌, sym, ap, subst, refl, ℕ, ◌<◌, ◌≤◌, Bool, true, false, not, nat_eq, nat_lt, List, [], ◌∷◌, Option, arith, inl, inr}
use Rattle.std.specs.Prelude.{filter, ◌==◌}
use Rattle.std.specs.List.{list_any}
use Rattle.std.proofs.lemmas.Bool.{cases_Bool, cases_lt, lt-ltb, le-ltb, eqb-true}
use Rattle.osc_model.specs.declared.context.ContextName.{ContextName}
use Rattle.osc_model.specs.declared.context.Side.TheVariants.{Client}
use Rattle.osc_coap.specs.{payload_of, NumberAndValue, plaintext_spelling}
use Rattle.osc_coap.specs.Message.{Message}
use Rattle.osc_coap.specs.Plaintext.{Plaintext}
use Rattle.osc_coap.specs.declared.kind.Kind.{Kind}
use Rattle.osc_options.specs.{AreInOrder, inner_options, insert, merge, outer_options, plaintext_of, protected, same_class, class_of}
use Rattle.osc_options.specs.declared.table.Class.TheVariants.{E, U}
use Rattle.osc_context.specs.{algorithm_of, key_of}
use Rattle.osc_protect.specs.{aad_of, IsProtectedRequest, IsProtectedResponse, plain_bytes, request_nonce, request_value}
use Rattle.osc_ccm.specs.{Sealings}
use Rattle.osc_proxy.specs.{answer, forwarded, forwarded_options, has_proxy_uri, is_taken_out}

-- ---- options of which some are left out

-- one that fails a test, put in where all fail it
none_inserted : (passes : NumberAndValue → Bool) (option : NumberAndValue) (options : List NumberAndValue) → passes option ≡ false → list_any passes options ≡ false
    → list_any passes (insert option options) ≡ false
none_inserted passes option [] isnt none = rw isnt refl
none_inserted passes option (first ∷ options) isnt none =
    elim (cases_Bool (passes first)) [
      | inl is ↦ let wrong = rw is at none in absurd cc
      | inr other ↦
          let rest : list_any passes options ≡ false = rw other at none in
          elim (cases_Bool (nat_lt option.0 first.0)) [
            | inl lt ↦ rw (lt, isnt, other) rest
            | inr ge ↦ rw (ge, other) (none_inserted passes option options isnt rest)
          ]
    ]

-- which of two tests is made first doesn't matter
filtered_twice : (p q : NumberAndValue → Bool) (options : List NumberAndValue) → filter p (filter q options) ≡ filter q (filter p options)
filtered_twice p q [] = refl
filtered_twice p q (option ∷ options) =
    let rest = filtered_twice p q options in
    elim (cases_Bool (p option)) [
      | inl at_p ↦ elim (cases_Bool (q option)) [
        | inl at_q ↦ rw (at_q, at_p, at_q) (ap (λ (all : List NumberAndValue). option ∷ all) rest)
        | inr at_q ↦ rw (at_q, at_p, at_q) rest
      ]
      | inr at_p ↦ elim (cases_Bool (q option)) [
        | inl at_q ↦ rw (at_q, at_p) rest
        | inr at_q ↦ rw (at_q, at_p) rest
      ]
    ]

-- where each that passes one test passes the other, the other changes nothing
filtered_within : (p q : NumberAndValue → Bool) → ((option : NumberAndValue) → p option ≡ true → q option ≡ true) → (options : List NumberAndValue)
    → filter p (filter q options) ≡ filter p options
filtered_within p q within [] = refl
filtered_within p q within (option ∷ options) =
    let rest = filtered_within p q within options in
    elim (cases_Bool (p option)) [
      | inl at_p ↦ rw (within option at_p, at_p) (ap (λ (all : List NumberAndValue). option ∷ all) rest)
      | inr at_p ↦ elim (cases_Bool (q option)) [
        | inl at_q ↦ rw (at_q, at_p) rest
        | inr at_q ↦ rw (at_q, at_p) rest
      ]
    ]

in_order_below : (low high : ℕ) (options : List NumberAndValue) → low ≤ high → AreInOrder high options → AreInOrder low options
in_order_below low high [] le order = tt
in_order_below low high (option ∷ options) le order = (omega (arith, le, order.0), order.1)

in_order_left : (keeps : NumberAndValue → Bool) (before : ℕ) (options : List NumberAndValue) → AreInOrder before options → AreInOrder before (filter keeps options)
in_order_left keeps before [] order = tt
in_order_left keeps before (option ∷ options) order =
    let rest = in_order_left keeps option.0 options order.1 in
    elim (cases_Bool (keeps option)) [
      | inl kept ↦ rw kept (order.0, rest)
      | inr left ↦ rw left (in_order_below before option.0 (filter keeps options) order.0 rest)
    ]

-- ---- one option put in, and some left out

in_front : (option : NumberAndValue) (before : ℕ) (options : List NumberAndValue) → option.0 < before → AreInOrder before options → insert option options ≡ option ∷ options
in_front option before [] lt order = refl
in_front option before (first ∷ options) lt order = rw (lt-ltb option.0 first.0 (omega (arith, lt, order.0))) refl

left_then_put_in : (keeps : NumberAndValue → Bool) (option : NumberAndValue) (before : ℕ) (options : List NumberAndValue) → keeps option ≡ true → AreInOrder before options
    → filter keeps (insert option options) ≡ insert option (filter keeps options)
left_then_put_in keeps option before [] is order = rw is refl
left_then_put_in keeps option before (first ∷ options) is order =
    elim (cases_lt option.0 first.0) [
      | inl lt ↦
          rw (lt-ltb option.0 first.0 lt, is)
          (sym (in_front option first.0 (filter keeps (first ∷ options)) lt (in_order_left keeps first.0 (first ∷ options) (omega arith, order.1))))
      | inr ge ↦
          let rest = left_then_put_in keeps option first.0 options is order.1 in
          elim (cases_Bool (keeps first)) [
            | inl kept ↦ rw (le-ltb option.0 first.0 ge, kept, le-ltb option.0 first.0 ge) (ap (λ (all : List NumberAndValue). first ∷ all) rest)
            | inr left ↦ rw (le-ltb option.0 first.0 ge, left) rest
          ]
    ]

-- ---- which options stay, where no Proxy-Uri is among them

-- none of those that are left out passes the test
any_left : (passes keeps : NumberAndValue → Bool) → ((option : NumberAndValue) → passes option ≡ true → keeps option ≡ true) → (options : List NumberAndValue)
    → list_any passes (filter keeps options) ≡ list_any passes options
any_left passes keeps within [] = refl
any_left passes keeps within (option ∷ options) =
    let rest = any_left passes keeps within options in
    elim (cases_Bool (passes option)) [
      | inl is ↦ rw (within option is, is) refl
      | inr isnt ↦ elim (cases_Bool (keeps option)) [ inl kept ↦ rw (kept, isnt) rest | inr left ↦ rw (left, isnt) rest ]
    ]

-- a Proxy-Uri stays outside
pub uri_outside : (options : List NumberAndValue) → has_proxy_uri (outer_options options) ≡ has_proxy_uri options
uri_outside options =
    let is_uri : NumberAndValue → Bool = λ option. option.0 == 35 in
    let of_u : NumberAndValue → Bool = λ option. same_class U (class_of option.0) in
    let other : NumberAndValue → Bool = λ option. not (option.0 == 9) in
    any_left is_uri other (λ option is. ap (λ (n : ℕ). not (n == 9)) (eqb-true option.0 35 is)) (filter of_u options)
    ∙ any_left is_uri of_u (λ option is. ap (λ (n : ℕ). same_class U (class_of n)) (eqb-true option.0 35 is)) options

abbrev stays : NumberAndValue → Bool
stays option = not (is_taken_out false option.0)

stay_is : (options : List NumberAndValue) → has_proxy_uri options ≡ false → forwarded_options options ≡ filter stays options
stay_is options none = ap (λ (by_uri : Bool). filter (λ (option : NumberAndValue). not (is_taken_out by_uri option.0)) options) none

-- what is encrypted stays
inner_stays : (number : ℕ) → same_class E (class_of number) ≡ true → not (is_taken_out false number) ≡ true
inner_stays number inner =
    elim (cases_Bool (nat_eq number 7)) [
      | inl is ↦ let wrong : same_class E (class_of 7) ≡ true = subst (λ (n : ℕ). same_class E (class_of n) ≡ true) (eqb-true number 7 is) inner in absurd cc
      | inr isnt_7 ↦ elim (cases_Bool (nat_eq number 35)) [
        | inl is ↦ let wrong : same_class E (class_of 35) ≡ true = subst (λ (n : ℕ). same_class E (class_of n) ≡ true) (eqb-true number 35 is) inner in absurd cc
        | inr isnt_35 ↦ elim (cases_Bool (nat_eq number 39)) [
          | inl is ↦ let wrong : same_class E (class_of 39) ≡ true = subst (λ (n : ℕ). same_class E (class_of n) ≡ true) (eqb-true number 39 is) inner in absurd cc
          | inr isnt_39 ↦ rw (isnt_7, isnt_35, isnt_39) refl
        ]
      ]
    ]

inner_forwarded : (options : List NumberAndValue) → has_proxy_uri options ≡ false → inner_options (forwarded_options options) ≡ inner_options options
inner_forwarded options none =
    ap inner_options (stay_is options none)
    ∙ filtered_within (λ (option : NumberAndValue). same_class E (class_of option.0)) stays (λ option. inner_stays option.0) options

no_uri_outside : (options : List NumberAndValue) → has_proxy_uri options ≡ false → has_proxy_uri (outer_options options) ≡ false
no_uri_outside options none = uri_outside options ∙ none

outer_stay : (options : List NumberAndValue) → outer_options (filter stays options) ≡ filter stays (outer_options options)
outer_stay options =
    let of_u : NumberAndValue → Bool = λ option. same_class U (class_of option.0) in
    let other : NumberAndValue → Bool = λ option. not (option.0 == 9) in
    ap (filter other) (filtered_twice of_u stays options) ∙ filtered_twice other stays (filter of_u options)

pub outer_forwarded : (options : List NumberAndValue) → has_proxy_uri options ≡ false → outer_options (forwarded_options options) ≡ forwarded_options (outer_options options)
outer_forwarded options none = ap outer_options (stay_is options none) ∙ outer_stay options ∙ sym (stay_is (outer_options options) (no_uri_outside options none))

pub outer_in_order : (options : List NumberAndValue) → AreInOrder 0 options → AreInOrder 0 (outer_options options)
outer_in_order options order = in_order_left _ 0 _ (in_order_left _ 0 options order)

-- the options of a protected message, forwarded
pub protected_forwarded : (options : List NumberAndValue) (value : List ℕ) → AreInOrder 0 (outer_options options) → has_proxy_uri options ≡ false
    → forwarded_options (merge (outer_options options) ((9, value) ∷ [])) ≡ merge (outer_options (forwarded_options options)) ((9, value) ∷ [])
protected_forwarded options value order none =
    let nine : NumberAndValue = (9, value) in
    let no_uri : has_proxy_uri (insert nine (outer_options options)) ≡ false =
    none_inserted (λ option. option.0 == 35) nine (outer_options options) refl (no_uri_outside options none) in
    stay_is (insert nine (outer_options options)) no_uri
    ∙ left_then_put_in stays nine 0 (outer_options options) refl order
    ∙ ap (insert nine) (sym (ap outer_options (stay_is options none) ∙ outer_stay options))

pub uri_in_protected : (outer : List NumberAndValue) (value : List ℕ) → has_proxy_uri outer ≡ false → has_proxy_uri (merge outer ((9, value) ∷ [])) ≡ false
uri_in_protected outer value none = none_inserted (λ option. option.0 == 35) (9, value) outer refl none

-- ---- messages

plaintext_forwarded : (id : ℕ) (token : List ℕ) (m : Message) → has_proxy_uri m.options ≡ false → plaintext_of (forwarded id token m) ≡ plaintext_of m
plaintext_forwarded id token m none =
    ap (λ (options : List NumberAndValue). let p : Plaintext = record { code = m.code; options = options; payload = m.payload } in p) (inner_forwarded m.options none)

pub text_forwarded : (id : ℕ) (token : List ℕ) (m : Message) → has_proxy_uri m.options ≡ false → plain_bytes (forwarded id token m) ≡ plain_bytes m
text_forwarded id token m none = ap plaintext_spelling (plaintext_forwarded id token m none)

whole_forwarded : (id : ℕ) (token : List ℕ) (m : Message) (value sealed : List ℕ) → AreInOrder 0 (outer_options m.options) → has_proxy_uri m.options ≡ false
    → forwarded id token (protected m 2 value sealed) ≡ protected (forwarded id token m) 2 value sealed
whole_forwarded id token m value sealed order none =
    ap (λ (options : List NumberAndValue). record m { code = 2; id = id; token = token; options = options; payload = payload_of sealed }) (protected_forwarded m.options value order none)

module _ (is_sealing : Sealings) where
  -- a protected request is forwarded as the forwarded one, protected
  pub request_forwarded : (name : ContextName) (number : ℕ) (m p : Message) (id : ℕ) (token : List ℕ) → AreInOrder 0 (outer_options m.options) → has_proxy_uri m.options ≡ false
      → IsProtectedRequest is_sealing name number m p → IsProtectedRequest is_sealing name number (forwarded id token m) (forwarded id token p)
  request_forwarded name number m p id token order none made = record {
    sealed = made.sealed;
    is_sealed =
        subst (λ (text : List ℕ). is_sealing (algorithm_of name) (key_of name Client) (request_nonce name number) (aad_of name number) text made.sealed)
        (sym (text_forwarded id token m none)) made.is_sealed;
    whole = ap (forwarded id token) made.whole ∙ whole_forwarded id token m (request_value name number) made.sealed order none;
  }

  -- a protected response goes back as the one that goes back, protected
  pub response_sent_back : (name : ContextName) (number : ℕ) (own : Option ℕ) (m p : Message) (kind : Kind) (id : ℕ) (token : List ℕ)
      → IsProtectedResponse is_sealing name number own m p → IsProtectedResponse is_sealing name number own (answer kind id token m) (answer kind id token p)
  response_sent_back name number own m p kind id token made = record {
    sealed = made.sealed;
    is_sealed = made.is_sealed;
    whole = ap (answer kind id token) made.whole;
  }
