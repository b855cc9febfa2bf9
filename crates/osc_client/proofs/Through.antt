-- Messages to a server behind a proxy: what is encrypted of them.
use Rattle.std.proofs.Common.{◌≡◌, ℕ, ◌≤◌, Bool, true, false, ◌==◌, if◌then◌else◌, List, [], ◌∷◌, ◌++◌, length, Option, Some, None, codes, refl, sym, ap, ap₂, subst, ◌∙◌, append_assoc, arith, inl, inr}
use Rattle.std.specs.Prelude.{filter}
use Rattle.std.proofs.lemmas.Bool.{cases_Bool}
use Rattle.std.proofs.lemmas.List.Elements.{filter-append}
use Rattle.osc_model.specs.declared.request.Request.{Request}
use Rattle.osc_coap.specs.{NumberAndValue, spelling, bare, spelled_length}
use Rattle.osc_coap.specs.Message.{Message}
use Rattle.osc_coap.specs.declared.kind.Kind.{Kind}
use Rattle.osc_coap.specs.declared.kind.Kind.TheVariants.{Confirmable}
use Rattle.osc_coap.specs.Plaintext.{Plaintext}
use Rattle.osc_options.specs.declared.table.Class.TheVariants.{E}
use Rattle.osc_model.specs.{segments_of}
use Rattle.osc_options.specs.{uint_bytes, each, none_match_options, path_options, request_options, uint_options, with_request, request_plaintext, AreInOrder, has_oscore, inner_options, merge, of_number, outer_options, plaintext_of, same_class, unprotected, class_of}
use Rattle.osc_client.specs.{plain_request, post_with, HostAndPort, proxy_options, through}

-- ---- the laws that this is on

abbrev pub LengthLaw : Type 0
LengthLaw = (m : Message) → length (spelling m) ≡ spelled_length m

abbrev pub OrderLaw : Type 0
OrderLaw = (before : ℕ) (outer inner : List NumberAndValue) → AreInOrder before outer → AreInOrder before inner → AreInOrder before (merge outer inner)

abbrev pub EachLaw : Type 0
EachLaw = (before number : ℕ) (outer inner : List NumberAndValue) → AreInOrder before outer → AreInOrder before inner
    → of_number number (merge outer inner) ≡ of_number number outer ++ of_number number inner

abbrev pub OnlyLaw : Type 0
OnlyLaw = (before : ℕ) (outer inner merged : List NumberAndValue) → AreInOrder before outer → AreInOrder before inner → AreInOrder before merged
    → ((number : ℕ) → of_number number merged ≡ of_number number outer ++ of_number number inner) → merged ≡ merge outer inner

-- ---- options of which some are left out

abbrev is_inner : NumberAndValue → Bool
is_inner option = same_class E (class_of option.0)

abbrev is_of : ℕ → NumberAndValue → Bool
is_of number option = option.0 == number

-- in order after a smaller number
in_order_below : (low high : ℕ) (options : List NumberAndValue) → low ≤ high → AreInOrder high options → AreInOrder low options
in_order_below low high [] le p = tt
in_order_below low high (option ∷ options) le p = (omega (arith, p.0), p.1)

in_order_filtered : (keeps : NumberAndValue → Bool) (before : ℕ) (options : List NumberAndValue) → AreInOrder before options → AreInOrder before (filter keeps options)
in_order_filtered keeps before [] p = tt
in_order_filtered keeps before (option ∷ options) p =
    let rest = in_order_filtered keeps option.0 options p.1 in
    elim (cases_Bool (keeps option)) [
      | inl kept ↦ rw kept (p.0, rest)
      | inr out ↦ rw out (in_order_below before option.0 (filter keeps options) p.0 rest)
    ]

-- which of two tests is made first doesn't matter
filtered_twice : (p q : NumberAndValue → Bool) (options : List NumberAndValue) → filter p (filter q options) ≡ filter q (filter p options)
filtered_twice p q [] = refl
filtered_twice p q (option ∷ options) =
    let rest = filtered_twice p q options in
    elim (cases_Bool (p option)) [
      | inl at_p ↦ elim (cases_Bool (q option)) [
        | inl at_q ↦ rw (at_q, at_p, at_q) (ap (λ (all : List NumberAndValue). option ∷ all) rest)
        | inr at_q ↦ rw (at_q, at_p, at_q) rest
      ]
      | inr at_p ↦ elim (cases_Bool (q option)) [
        | inl at_q ↦ rw (at_q, at_p) rest
        | inr at_q ↦ rw (at_q, at_p) rest
      ]
    ]

-- ---- what is encrypted of two lists of options in one, where it is nothing of the outer one

module _ (order : OrderLaw) (each_of : EachLaw) (only : OnlyLaw) where
  inner_merged : (outer inner : List NumberAndValue) → AreInOrder 0 outer → AreInOrder 0 inner → inner_options outer ≡ []
      → inner_options (merge outer inner) ≡ inner_options inner
  inner_merged outer inner p q none =
      let mine = inner_options inner in
      let whole = inner_options (merge outer inner) in
      let mine_order : AreInOrder 0 mine = in_order_filtered is_inner 0 inner q in
      let whole_order : AreInOrder 0 whole = in_order_filtered is_inner 0 (merge outer inner) (order 0 outer inner p q) in
      only 0 [] mine whole tt mine_order whole_order counts ∙ sym (only 0 [] mine mine tt mine_order mine_order (λ number. refl))
    where
      counts : (number : ℕ) → of_number number (inner_options (merge outer inner)) ≡ of_number number (inner_options inner)
      counts number =
          filtered_twice (is_of number) is_inner (merge outer inner)
          ∙ ap inner_options (each_of 0 number outer inner p q)
          ∙ filter-append is_inner (of_number number outer) (of_number number inner)
          ∙ ap₂ (λ (a b : List NumberAndValue). a ++ b)
          (filtered_twice is_inner (is_of number) outer ∙ ap (of_number number) none)
          (filtered_twice is_inner (is_of number) inner)

-- ---- the options by which a proxy finds the server

-- by whether the port is the scheme's
abbrev found_by : Bool → HostAndPort → List NumberAndValue
found_by default origin = (3, origin.host) ∷ (if default then [] else (7, uint_bytes origin.port) ∷ []) ++ (39, codes "coap") ∷ []

found_order : (default : Bool) (origin : HostAndPort) → AreInOrder 0 (found_by default origin)
found_order true origin = (omega arith, (omega arith, tt))
found_order false origin = (omega arith, (omega arith, (omega arith, tt)))

found_inside : (default : Bool) (origin : HostAndPort) → inner_options (found_by default origin) ≡ []
found_inside true origin = refl
found_inside false origin = refl

-- ---- what is encrypted of a message stays

module _ (order : OrderLaw) (each_of : EachLaw) (only : OnlyLaw) where
  pub encrypted_same : (origin : Option HostAndPort) (m : Message) → AreInOrder 0 m.options → plaintext_of (through origin m) ≡ plaintext_of m
  encrypted_same None m p = refl
  encrypted_same (Some origin) m p =
      let inside : List NumberAndValue → Plaintext = λ options. record { code = m.code; options = options; payload = m.payload } in
      ap inside (inner_merged order each_of only (proxy_options (Some origin)) m.options (found_order (origin.port == 5683) origin) p (found_inside (origin.port == 5683) origin))

-- ---- the options of a request, and of a post

-- in the order of their numbers, and all encrypted
abbrev AreEncrypted : ℕ → List NumberAndValue → Type 0
AreEncrypted before [] = Unit {0}
AreEncrypted before (option ∷ options) = (before ≤ option.0) × (is_inner option ≡ true) × AreEncrypted option.0 options

in_order : (before : ℕ) (options : List NumberAndValue) → AreEncrypted before options → AreInOrder before options
in_order before [] p = tt
in_order before (option ∷ options) p = (p.0, in_order option.0 options p.2)

-- after options of no larger number
abbrev EncryptedFrom : ℕ → List NumberAndValue → Type 0
EncryptedFrom least rest = (before : ℕ) → before ≤ least → AreEncrypted before rest

each_encrypted : (number : ℕ) (values : List (List ℕ)) (rest : List NumberAndValue) → same_class E (class_of number) ≡ true → EncryptedFrom number rest
    → EncryptedFrom number (each number values ++ rest)
each_encrypted number [] rest inner others before le = others before le
each_encrypted number (value ∷ values) rest inner others before le = (le, inner, each_encrypted number values rest inner others number (omega arith))

none_encrypted : (asked : Bool) (rest : List NumberAndValue) → EncryptedFrom 5 rest → EncryptedFrom 1 (none_match_options asked ++ rest)
none_encrypted false rest others before le = others before (omega (arith, le))
none_encrypted true rest others before le = (omega (arith, le), refl, others 5 (omega arith))

path_encrypted : (path : Option (List ℕ)) (rest : List NumberAndValue) → EncryptedFrom 11 rest → EncryptedFrom 5 (path_options path ++ rest)
path_encrypted None rest others before le = others before (omega (arith, le))
path_encrypted (Some text) rest others before le = each_encrypted 11 (segments_of text) rest refl others before (omega (arith, le))

format_encrypted : (format : Option ℕ) (rest : List NumberAndValue) → EncryptedFrom 12 rest → EncryptedFrom 11 (uint_options 12 format ++ rest)
format_encrypted None rest others before le = others before (omega (arith, le))
format_encrypted (Some n) rest others before le = (omega (arith, le), refl, others 12 (omega arith))

accept_encrypted : (accept : Option ℕ) → EncryptedFrom 12 (uint_options 17 accept)
accept_encrypted None before le = tt
accept_encrypted (Some n) before le = (omega (arith, le), refl, tt)

request_encrypted : (request : Request) → AreEncrypted 0 (request_options request)
request_encrypted r =
    let tags = each 1 r.if_match in
    let none = none_match_options r.if_none_match in
    let path = path_options r.path in
    let format = uint_options 12 r.format in
    let accept = uint_options 17 r.accept in
    let all : AreEncrypted 0 (tags ++ (none ++ (path ++ (format ++ accept)))) =
    each_encrypted 1 r.if_match _ refl (none_encrypted r.if_none_match _ (path_encrypted r.path _ (format_encrypted r.format _ (accept_encrypted r.accept)))) 0 (omega arith) in
    subst (AreEncrypted 0) (sym (append_assoc (tags ++ none ++ path) format accept ∙ append_assoc (tags ++ none) path (format ++ accept) ∙ append_assoc tags none (path ++ (format ++ accept)))) all

pub request_order : (id : ℕ) (token : List ℕ) (request : Request) → AreInOrder 0 (plain_request id token request).options
request_order id token request = in_order 0 (request_options request) (request_encrypted request)

-- what stays outside of a request, and its plaintext, are the request as it goes to the server
found_outside : (default : Bool) (origin : HostAndPort) → outer_options (found_by default origin) ≡ found_by default origin
found_outside true origin = refl
found_outside false origin = refl

pub request_around : ((m : Message) (r : Request) → plaintext_of (with_request m r) ≡ request_plaintext r)
    → ((kind : Kind) (code id : ℕ) (token : List ℕ) (r : Request) → unprotected (bare kind code id token) (request_plaintext r) ≡ with_request (bare kind code id token) r)
    → (origin : Option HostAndPort) (id : ℕ) (token : List ℕ) (request : Request)
    → unprotected (through origin (bare Confirmable 2 id token)) (request_plaintext request) ≡ through origin (plain_request id token request)
request_around plaintext alone None id token request = alone Confirmable 2 id token request
request_around plaintext alone (Some origin) id token request =
    ap₂ (λ (outer inner : List NumberAndValue). record (plain_request id token request) { options = merge outer inner })
    (found_outside (origin.port == 5683) origin) (ap (λ (p : Plaintext). p.options) (plaintext (bare Confirmable 2 id token) request))

-- a post isn't protected, through a proxy either
pub post_unprotected : (origin : Option HostAndPort) (id : ℕ) (token body : List ℕ) → has_oscore (through origin (post_with id token body)).options ≡ false
post_unprotected None id token body = refl
post_unprotected (Some origin) id token body = by (origin.port == 5683)
  where
    by : (default : Bool) → has_oscore (merge (found_by default origin) (post_with id token body).options) ≡ false
    by true = refl
    by false = refl
