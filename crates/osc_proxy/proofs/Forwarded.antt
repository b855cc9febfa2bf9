-- The options of a forwarded message are those that it came with, but for those that are for the proxy.
use Rattle.std.proofs.Common.{◌≡◌, ◌≤◌, ◌+◌, inl, inr, ℕ, Bool, true, false, not, nat_eq, List, [], ◌∷◌, length, refl, ap, sym, ◌∙◌, arith, subst, Option, Some, None}
use Rattle.std.specs.Prelude.{cond, filter, codes}
use Rattle.std.proofs.lemmas.Bool.{cases_Bool, eqb-true}
use Rattle.osc_coap.specs.{options_length, payload_length, spelled_length, AreOptions, HasSpelling, NumberAndValue, spelling}
use Rattle.osc_coap.specs.Message.{Message}
use Rattle.osc_options.specs.{proxy_scheme, proxy_uri, uri_host, uri_port, recognised, value, AreInOrder, of_number}
use Rattle.osc_proxy.specs.{forwarded, forwarded_options, has_proxy_uri, is_taken_out, HostAndPort, Names, NamesBy, by_scheme, port_in}

-- ---- a filter after a filter

first_within : {X : Type 0} (p q : X → Bool) (x : X) (kept all : List X) → (p x ≡ true → q x ≡ true) → filter p kept ≡ filter p all
    → filter p (cond (q x) (x ∷ kept) kept) ≡ filter p (x ∷ all)
first_within p q x kept all within same =
    elim (cases_Bool (q x)) [
      | inl stays ↦ rw stays (ap (λ rest. cond (p x) (x ∷ rest) rest) same)
      | inr goes ↦
          elim (cases_Bool (p x)) [
            | inl passes ↦
                let wrong : true ≡ false = sym (within passes) ∙ goes in
                absurd (cc)
            | inr fails ↦ rw goes (rw fails same)
          ]
    ]

filter_within : {X : Type 0} (p q : X → Bool) → ((x : X) → p x ≡ true → q x ≡ true) → (xs : List X) → filter p (filter q xs) ≡ filter p xs
filter_within p q within [] = refl
filter_within p q within (x ∷ xs) = first_within p q x (filter q xs) xs (within x) (filter_within p q within xs)

first_apart : {X : Type 0} (p q : X → Bool) (x : X) (kept : List X) → (p x ≡ true → q x ≡ false) → filter p kept ≡ []
    → filter p (cond (q x) (x ∷ kept) kept) ≡ []
first_apart p q x kept apart none =
    elim (cases_Bool (q x)) [
      | inl stays ↦
          elim (cases_Bool (p x)) [
            | inl passes ↦
                let wrong : true ≡ false = sym stays ∙ apart passes in
                absurd (cc)
            | inr fails ↦ rw stays (rw fails none)
          ]
      | inr goes ↦ rw goes none
    ]

filter_apart : {X : Type 0} (p q : X → Bool) → ((x : X) → p x ≡ true → q x ≡ false) → (xs : List X) → filter p (filter q xs) ≡ []
filter_apart p q apart [] = refl
filter_apart p q apart (x ∷ xs) = first_apart p q x (filter q xs) (apart x) (filter_apart p q apart xs)

-- ---- options

pub others_stay : (options : List NumberAndValue) (number : ℕ) → is_taken_out (has_proxy_uri options) number ≡ false
    → of_number number (forwarded_options options) ≡ of_number number options
others_stay options number stays =
    filter_within (λ option. nat_eq option.0 number) (λ option. not (is_taken_out (has_proxy_uri options) option.0))
    (λ option same. ap (λ n. not (is_taken_out (has_proxy_uri options) n)) (eqb-true option.0 number same) ∙ ap not stays) options

pub taken_go : (options : List NumberAndValue) (number : ℕ) → is_taken_out (has_proxy_uri options) number ≡ true
    → of_number number (forwarded_options options) ≡ []
taken_go options number goes =
    filter_apart (λ option. nat_eq option.0 number) (λ option. not (is_taken_out (has_proxy_uri options) option.0))
    (λ option same. ap (λ n. not (is_taken_out (has_proxy_uri options) n)) (eqb-true option.0 number same) ∙ ap not goes) options

lower : (low high : ℕ) (options : List NumberAndValue) → low ≤ high → AreInOrder high options → AreInOrder low options
lower low high [] less order = tt
lower low high (option ∷ options) less order = (omega (arith, less, order.0), order.1)

first_order : (before : ℕ) (stays : Bool) (option : NumberAndValue) (rest : List NumberAndValue) → before ≤ option.0 → AreInOrder option.0 rest
    → AreInOrder before (cond stays (option ∷ rest) rest)
first_order before true option rest less order = (less, order)
first_order before false option rest less order = lower before option.0 rest less order

filter_order : (keeps : NumberAndValue → Bool) (before : ℕ) (options : List NumberAndValue) → AreInOrder before options → AreInOrder before (filter keeps options)
filter_order keeps before [] order = tt
filter_order keeps before (option ∷ options) order =
    first_order before (keeps option) option (filter keeps options) order.0 (filter_order keeps option.0 options order.1)

pub stay_in_order : (before : ℕ) (options : List NumberAndValue) → AreInOrder before options → AreInOrder before (forwarded_options options)
stay_in_order before options order = filter_order (λ option. not (is_taken_out (has_proxy_uri options) option.0)) before options order

-- ---- how long it is

abbrev pub LengthIs : Type 0
LengthIs = (m : Message) → length (spelling m) ≡ spelled_length m

abbrev pub FewerAreShorter : Type 0
FewerAreShorter =
    (keeps : NumberAndValue → Bool) (before : ℕ) (options : List NumberAndValue) → AreOptions before options
    → options_length before (filter keeps options) ≤ options_length before options

pub no_longer : LengthIs → FewerAreShorter → (id : ℕ) (token : List ℕ) (message : Message) → HasSpelling message → length token ≤ length message.token
    → length (spelling (forwarded id token message)) ≤ length (spelling message)
no_longer exact fewer id token message lawful short =
    let options = fewer (λ option. not (is_taken_out (has_proxy_uri message.options) option.0)) 0 message.options lawful.options in
    let before : length (spelling message) ≡ 4 + length message.token + options_length 0 message.options + payload_length message.payload = exact message in
    let after : length (spelling (forwarded id token message))
    ≡ 4 + length token + options_length 0 (forwarded_options message.options) + payload_length message.payload = exact (forwarded id token message) in
    omega (arith, options, before, after, short)

-- ---- what a request names

pub named_by_options : (options : List NumberAndValue) (named : Option HostAndPort) (host : List ℕ) → value proxy_uri (recognised 0 options) ≡ None
    → value proxy_scheme (recognised 0 options) ≡ Some (codes "coap") → value uri_host (recognised 0 options) ≡ Some host → Names options named
    → named ≡ Some (host, port_in (value uri_port (recognised 0 options)))
named_by_options options named host no_uri scheme is_host names =
    let known = recognised 0 options in
    let by : named ≡ by_scheme (codes "coap") (value uri_host known) (value uri_port known) =
    subst (λ s. NamesBy None s known named) scheme (subst (λ u. NamesBy u (value proxy_scheme known) known named) no_uri names) in
    by ∙ ap (λ h. by_scheme (codes "coap") h (value uri_port known)) is_host
