-- A request within what stays outside of it: the message that results from both is split into the same parts again.
use Rattle.std.proofs.Common.{◌≡◌, ℕ, ◌≤◌, Bool, true, false, ◌==◌, List, [], ◌∷◌, ◌++◌, Option, Some, None, refl, sym, ap, ap₂, subst, ◌∙◌, append_assoc, arith, inl, inr}
use Rattle.std.specs.Prelude.{filter, not}
use Rattle.std.proofs.lemmas.Bool.{cases_Bool}
use Rattle.std.proofs.lemmas.List.Elements.{filter-append}
use Rattle.osc_model.specs.declared.request.Request.{Request}
use Rattle.osc_coap.specs.declared.kind.Kind.{Kind}
use Rattle.osc_coap.specs.{NumberAndValue, bare, payload_of}
use Rattle.osc_coap.specs.Message.{Message}
use Rattle.osc_options.specs.declared.table.Class.{Class}
use Rattle.osc_options.specs.declared.table.Class.TheVariants.{E, U}
use Rattle.osc_model.specs.{segments_of}
use Rattle.osc_options.specs.{request_plaintext, each, none_match_options, path_options, request_options, uint_options, with_request, AreInOrder, inner_options, merge, of_class, of_number, outer_options, plaintext_of, protected, same_class, unprotected, class_of}
use Rattle.osc_options.proofs.MergeLaws.{AreInOrder-filter, AreInOrder-merge, merge-none, of_number-merge, one_merge}

-- ---- merged options of which some are left out

abbrev is_of : ℕ → NumberAndValue → Bool
is_of number option = option.0 == number

-- which of two tests is made first doesn't matter
filtered_twice : (p q : NumberAndValue → Bool) (options : List NumberAndValue) → filter p (filter q options) ≡ filter q (filter p options)
filtered_twice p q [] = refl
filtered_twice p q (option ∷ options) =
    let rest = filtered_twice p q options in
    elim (cases_Bool (p option)) [
      | inl at_p ↦ elim (cases_Bool (q option)) [
        | inl at_q ↦ rw (at_q, at_p, at_q) (ap (λ (all : List NumberAndValue). option ∷ all) rest)
        | inr at_q ↦ rw (at_q, at_p, at_q) rest
      ]
      | inr at_p ↦ elim (cases_Bool (q option)) [
        | inl at_q ↦ rw (at_q, at_p) rest
        | inr at_q ↦ rw (at_q, at_p) rest
      ]
    ]

filter-merge : (keeps : NumberAndValue → Bool) (outer inner : List NumberAndValue) → AreInOrder 0 outer → AreInOrder 0 inner
    → filter keeps (merge outer inner) ≡ merge (filter keeps outer) (filter keeps inner)
filter-merge keeps outer inner p q =
    one_merge 0 (filter keeps outer) (filter keeps inner) (filter keeps (merge outer inner))
    (AreInOrder-filter keeps 0 outer p) (AreInOrder-filter keeps 0 inner q) (AreInOrder-filter keeps 0 (merge outer inner) (AreInOrder-merge 0 outer inner p q))
    (λ number.
    filtered_twice (is_of number) keeps (merge outer inner)
    ∙ ap (filter keeps) (of_number-merge number 0 outer inner p q)
    ∙ filter-append keeps (of_number number outer) (of_number number inner)
    ∙ ap₂ (λ (a b : List NumberAndValue). a ++ b) (filtered_twice keeps (is_of number) outer) (filtered_twice keeps (is_of number) inner))

-- ---- of both classes

abbrev is_own : NumberAndValue → Bool
is_own option = not (option.0 == 9)

outer_again : (options : List NumberAndValue) → of_class U (of_class U options) ≡ of_class U options
outer_again [] = refl
outer_again (option ∷ options) =
    elim (cases_Bool (same_class U (class_of option.0))) [
      | inl is ↦ rw (is, is) (ap (λ (rest : List NumberAndValue). option ∷ rest) (outer_again options))
      | inr is ↦ rw is (outer_again options)
    ]

own_again : (options : List NumberAndValue) → filter is_own (filter is_own options) ≡ filter is_own options
own_again [] = refl
own_again (option ∷ options) =
    elim (cases_Bool (is_own option)) [
      | inl is ↦ rw (is, is) (ap (λ (rest : List NumberAndValue). option ∷ rest) (own_again options))
      | inr is ↦ rw is (own_again options)
    ]

not_both : (class : Class) → same_class U class ≡ true → same_class E class ≡ false
not_both E is = absurd cc
not_both U is = refl

none_inner : (options : List NumberAndValue) → of_class E (of_class U options) ≡ []
none_inner [] = refl
none_inner (option ∷ options) =
    elim (cases_Bool (same_class U (class_of option.0))) [
      | inl is ↦ rw (is, not_both (class_of option.0) is) (none_inner options)
      | inr is ↦ rw is (none_inner options)
    ]

outer_outer : (options : List NumberAndValue) → outer_options (outer_options options) ≡ outer_options options
outer_outer options =
    ap (filter is_own) (filtered_twice (λ option. same_class U (class_of option.0)) is_own (of_class U options))
    ∙ own_again (of_class U (of_class U options))
    ∙ ap (filter is_own) (outer_again options)

inner_outer : (options : List NumberAndValue) → inner_options (outer_options options) ≡ []
inner_outer options =
    filtered_twice (λ option. same_class E (class_of option.0)) is_own (of_class U options)
    ∙ ap (filter is_own) (none_inner options)

-- ---- the options of a request

-- in the order of their numbers, and all encrypted
abbrev AreEncrypted : ℕ → List NumberAndValue → Type 0
AreEncrypted before [] = Unit {0}
AreEncrypted before (option ∷ options) = (before ≤ option.0) × (same_class E (class_of option.0) ≡ true) × AreEncrypted option.0 options

in_order : (before : ℕ) (options : List NumberAndValue) → AreEncrypted before options → AreInOrder before options
in_order before [] p = tt
in_order before (option ∷ options) p = (p.0, in_order option.0 options p.2)

all_inside : (before : ℕ) (options : List NumberAndValue) → AreEncrypted before options → inner_options options ≡ options
all_inside before [] p = refl
all_inside before (option ∷ options) p = rw p.1 (ap (λ (rest : List NumberAndValue). option ∷ rest) (all_inside option.0 options p.2))

not_outer : (class : Class) → same_class E class ≡ true → same_class U class ≡ false
not_outer E is = refl
not_outer U is = absurd cc

none_outer : (before : ℕ) (options : List NumberAndValue) → AreEncrypted before options → of_class U options ≡ []
none_outer before [] p = refl
none_outer before (option ∷ options) p = rw (not_outer (class_of option.0) p.1) (none_outer option.0 options p.2)

-- after options of no larger number
abbrev EncryptedFrom : ℕ → List NumberAndValue → Type 0
EncryptedFrom least rest = (before : ℕ) → before ≤ least → AreEncrypted before rest

each_encrypted : (number : ℕ) (values : List (List ℕ)) (rest : List NumberAndValue) → same_class E (class_of number) ≡ true → EncryptedFrom number rest
    → EncryptedFrom number (each number values ++ rest)
each_encrypted number [] rest inner others before le = others before le
each_encrypted number (value ∷ values) rest inner others before le = (le, inner, each_encrypted number values rest inner others number (omega arith))

none_encrypted : (asked : Bool) (rest : List NumberAndValue) → EncryptedFrom 5 rest → EncryptedFrom 1 (none_match_options asked ++ rest)
none_encrypted false rest others before le = others before (omega (arith, le))
none_encrypted true rest others before le = (omega (arith, le), refl, others 5 (omega arith))

path_encrypted : (path : Option (List ℕ)) (rest : List NumberAndValue) → EncryptedFrom 11 rest → EncryptedFrom 5 (path_options path ++ rest)
path_encrypted None rest others before le = others before (omega (arith, le))
path_encrypted (Some text) rest others before le = each_encrypted 11 (segments_of text) rest refl others before (omega (arith, le))

format_encrypted : (format : Option ℕ) (rest : List NumberAndValue) → EncryptedFrom 12 rest → EncryptedFrom 11 (uint_options 12 format ++ rest)
format_encrypted None rest others before le = others before (omega (arith, le))
format_encrypted (Some n) rest others before le = (omega (arith, le), refl, others 12 (omega arith))

accept_encrypted : (accept : Option ℕ) → EncryptedFrom 12 (uint_options 17 accept)
accept_encrypted None before le = tt
accept_encrypted (Some n) before le = (omega (arith, le), refl, tt)

request_encrypted : (request : Request) → AreEncrypted 0 (request_options request)
request_encrypted r =
    let tags = each 1 r.if_match in
    let none = none_match_options r.if_none_match in
    let path = path_options r.path in
    let format = uint_options 12 r.format in
    let accept = uint_options 17 r.accept in
    let all : AreEncrypted 0 (tags ++ (none ++ (path ++ (format ++ accept)))) =
    each_encrypted 1 r.if_match _ refl (none_encrypted r.if_none_match _ (path_encrypted r.path _ (format_encrypted r.format _ (accept_encrypted r.accept)))) 0 (omega arith) in
    subst (AreEncrypted 0) (sym (append_assoc (tags ++ none ++ path) format accept ∙ append_assoc (tags ++ none) path (format ++ accept) ∙ append_assoc tags none (path ++ (format ++ accept)))) all

pub request_order : (request : Request) → AreInOrder 0 (request_options request)
request_order request = in_order 0 (request_options request) (request_encrypted request)

pub request_inner : (request : Request) → inner_options (request_options request) ≡ request_options request
request_inner request = all_inside 0 (request_options request) (request_encrypted request)

pub request_outer : (request : Request) → outer_options (request_options request) ≡ []
request_outer request = ap (filter is_own) (none_outer 0 (request_options request) (request_encrypted request))

pub request_whole : (message : Message) (request : Request) → plaintext_of (with_request message request) ≡ request_plaintext request
request_whole message request = ap (λ (options : List NumberAndValue). record { code = request.code.0; options = options; payload = payload_of request.payload }) (request_inner request)

-- ---- within what stays outside

-- the options of both
abbrev around : List NumberAndValue → Request → List NumberAndValue
around outside request = merge (outer_options outside) (inner_options (request_options request))

around_inner : (outside : List NumberAndValue) (request : Request) → AreInOrder 0 outside → inner_options (around outside request) ≡ request_options request
around_inner outside request p =
    let inner = request_inner request in
    let outer_order : AreInOrder 0 (outer_options outside) = AreInOrder-filter is_own 0 (of_class U outside) (AreInOrder-filter (λ option. same_class U (class_of option.0)) 0 outside p) in
    ap (λ (options : List NumberAndValue). inner_options (merge (outer_options outside) options)) inner
    ∙ filter-merge (λ option. same_class E (class_of option.0)) (outer_options outside) (request_options request) outer_order (request_order request)
    ∙ ap₂ merge (inner_outer outside) inner
    ∙ merge-none 0 (request_options request) (request_order request)

around_outer : (outside : List NumberAndValue) (request : Request) → AreInOrder 0 outside → outer_options (around outside request) ≡ outer_options outside
around_outer outside request p =
    let inner = request_inner request in
    let outer = outer_options outside in
    let of_u = λ (option : NumberAndValue). same_class U (class_of option.0) in
    let outer_order : AreInOrder 0 outer = AreInOrder-filter is_own 0 (of_class U outside) (AreInOrder-filter of_u 0 outside p) in
    let order = request_order request in
    ap (λ (options : List NumberAndValue). outer_options (merge outer options)) inner
    ∙ ap (filter is_own) (filter-merge of_u outer (request_options request) outer_order order)
    ∙ filter-merge is_own (of_class U outer) (of_class U (request_options request)) (AreInOrder-filter of_u 0 outer outer_order) (AreInOrder-filter of_u 0 (request_options request) order)
    ∙ ap₂ merge (outer_outer outside) (request_outer request)

pub inside_again : (outside : Message) (request : Request) → AreInOrder 0 outside.options → plaintext_of (unprotected outside (request_plaintext request)) ≡ request_plaintext request
inside_again outside request p =
    ap (λ (options : List NumberAndValue). record { code = request.code.0; options = options; payload = payload_of request.payload }) (around_inner outside.options request p)

pub outside_again : (outside : Message) (request : Request) (code : ℕ) (value payload : List ℕ) → AreInOrder 0 outside.options
    → protected (unprotected outside (request_plaintext request)) code value payload ≡ protected outside code value payload
outside_again outside request code value payload p =
    ap (λ (options : List NumberAndValue). record outside { code = code; options = merge options ((9, value) ∷ []); payload = payload_of payload }) (around_outer outside.options request p)

-- with nothing outside
pub alone : (kind : Kind) (code id : ℕ) (token : List ℕ) (request : Request)
    → unprotected (bare kind code id token) (request_plaintext request) ≡ with_request (bare kind code id token) request
alone kind code id token request =
    ap (λ (options : List NumberAndValue). record (bare kind code id token) { code = request.code.0; options = options; payload = payload_of request.payload })
    (merge-none 0 (inner_options (request_options request)) (subst (AreInOrder 0) (sym (request_inner request)) (request_order request)) ∙ request_inner request)
