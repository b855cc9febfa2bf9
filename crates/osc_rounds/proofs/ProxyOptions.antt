-- The options by which a proxy finds the server, in a protected request: what a proxy reads of them, and what it forwards.
use Rattle.std.proofs.Common.{◌≡◌, ◌∙◌, sym, ap, subst, refl, ℕ, ◌<◌, ◌≤◌, Bool, true, false, not, nat_le, nat_lt, if◌then◌else◌, List, [], ◌∷◌, ◌++◌, length, Some, None, codes, arith, inl, inr}
use Rattle.std.specs.Prelude.{◌==◌, ◌&&◌}
use Rattle.std.proofs.lemmas.Bool.{cases_Bool, cases_eq, cases_lt, eqb-true, le-leb, le-ltb, lt-ltb, ne_eqb}
use Rattle.osc_coap.specs.{NumberAndValue}
use Rattle.osc_options.specs.{has_unrecognised_unsafe, recognised, uint_bytes, uint, value, AreInOrder, insert, merge, outer_options, same_class, class_of}
use Rattle.osc_options.specs.declared.table.Class.TheVariants.{U}
use Rattle.osc_client.specs.{HostAndPort, IsHost, proxy_options}
use Rattle.osc_proxy.specs.{forwarded_options, has_proxy_uri, port_in}

-- ---- a whole number is read again

uint_again : (n : ℕ) → n < 65536 → uint (uint_bytes n) ≡ n
uint_again n lt =
    elim (cases_eq n 0) [
      | inl is ↦ rw is refl
      | inr positive ↦ elim (cases_lt n 256) [
        | inl low ↦ rw (ne_eqb n 0 positive, lt-ltb n 256 low) (omega arith)
        | inr wide ↦ rw (ne_eqb n 0 positive, le-ltb n 256 wide) (omega arith)
      ]
    ]

uint_short : (n : ℕ) → length (uint_bytes n) ≤ 2
uint_short n =
    elim (cases_eq n 0) [
      | inl is ↦ rw is (omega arith)
      | inr positive ↦ elim (cases_lt n 256) [
        | inl low ↦ rw (ne_eqb n 0 positive, lt-ltb n 256 low) (omega arith)
        | inr wide ↦ rw (ne_eqb n 0 positive, le-ltb n 256 wide) (omega arith)
      ]
    ]

-- ---- options that are all encrypted change nothing of those that stay outside

abbrev is_outer : ℕ → Bool
is_outer number = same_class U (class_of number) && not (number == 9)

outer_taken : (option : NumberAndValue) (options : List NumberAndValue) → is_outer option.0 ≡ true → outer_options (option ∷ options) ≡ option ∷ outer_options options
outer_taken option options is =
    elim (cases_Bool (same_class U (class_of option.0))) [
      | inl outer ↦ elim (cases_Bool (option.0 == 9)) [
        | inl own ↦ let no = rw (outer, own) at is in absurd cc
        | inr other ↦ rw (outer, other) refl
      ]
      | inr inner ↦ let no = rw inner at is in absurd cc
    ]

outer_left : (option : NumberAndValue) (options : List NumberAndValue) → is_outer option.0 ≡ false → outer_options (option ∷ options) ≡ outer_options options
outer_left option options is =
    elim (cases_Bool (same_class U (class_of option.0))) [
      | inl outer ↦ elim (cases_Bool (option.0 == 9)) [
        | inl own ↦ rw (outer, own) refl
        | inr other ↦ let no = rw (outer, other) at is in absurd cc
      ]
      | inr inner ↦ rw inner refl
    ]

outer_same : (first : NumberAndValue) (a b : List NumberAndValue) → outer_options a ≡ outer_options b → outer_options (first ∷ a) ≡ outer_options (first ∷ b)
outer_same first a b e =
    elim (cases_Bool (is_outer first.0)) [
      | inl is ↦ outer_taken first a is ∙ ap (λ (rest : List NumberAndValue). first ∷ rest) e ∙ sym (outer_taken first b is)
      | inr isnt ↦ outer_left first a isnt ∙ e ∙ sym (outer_left first b isnt)
    ]

outer_inserted : (option : NumberAndValue) (options : List NumberAndValue) → is_outer option.0 ≡ false → outer_options (insert option options) ≡ outer_options options
outer_inserted option [] inner = outer_left option [] inner
outer_inserted option (first ∷ options) inner =
    elim (cases_Bool (nat_lt option.0 first.0)) [
      | inl lt ↦ rw lt (outer_left option (first ∷ options) inner)
      | inr ge ↦ rw ge (outer_same first (insert option options) options (outer_inserted option options inner))
    ]

first_inner : (option : NumberAndValue) (options : List NumberAndValue) → outer_options (option ∷ options) ≡ [] → is_outer option.0 ≡ false
first_inner option options none =
    elim (cases_Bool (is_outer option.0)) [
      | inl is ↦ let wrong : (option ∷ outer_options options) ≡ [] = sym (outer_taken option options is) ∙ none in absurd cc
      | inr isnt ↦ isnt
    ]

pub outer_merged : (outer inner : List NumberAndValue) → outer_options inner ≡ [] → outer_options (merge outer inner) ≡ outer_options outer
outer_merged outer [] none = refl
outer_merged outer (option ∷ inner) none =
    let is : is_outer option.0 ≡ false = first_inner option inner none in
    outer_merged (insert option outer) inner (sym (outer_left option inner is) ∙ none) ∙ outer_inserted option outer is

-- ---- the options by which a proxy finds the server

-- by whether the port is the scheme's
abbrev found_by : Bool → List ℕ → List ℕ → List NumberAndValue
found_by default host port = (3, host) ∷ (if default then [] else (7, port) ∷ []) ++ (39, codes "coap") ∷ []

found_outside : (default : Bool) (host port : List ℕ) → outer_options (found_by default host port) ≡ found_by default host port
found_outside true host port = refl
found_outside false host port = refl

found_in_order : (default : Bool) (host port : List ℕ) → AreInOrder 0 (found_by default host port)
found_in_order true host port = (omega arith, (omega arith, tt))
found_in_order false host port = (omega arith, (omega arith, (omega arith, tt)))

found_without_uri : (default : Bool) (host port : List ℕ) → has_proxy_uri (found_by default host port) ≡ false
found_without_uri true host port = refl
found_without_uri false host port = refl

found_forwarded : (default : Bool) (host port : List ℕ) → forwarded_options (found_by default host port) ≡ (3, host) ∷ []
found_forwarded true host port = refl
found_forwarded false host port = refl

pub proxy_outside : (origin : HostAndPort) → outer_options (proxy_options (Some origin)) ≡ proxy_options (Some origin)
proxy_outside origin = found_outside (origin.port == 5683) origin.host (uint_bytes origin.port)

pub proxy_in_order : (origin : HostAndPort) → AreInOrder 0 (proxy_options (Some origin))
proxy_in_order origin = found_in_order (origin.port == 5683) origin.host (uint_bytes origin.port)

pub proxy_without_uri : (origin : HostAndPort) → has_proxy_uri (proxy_options (Some origin)) ≡ false
proxy_without_uri origin = found_without_uri (origin.port == 5683) origin.host (uint_bytes origin.port)

-- a Uri-Host alone is forwarded of them
pub proxy_forwarded : (origin : HostAndPort) → forwarded_options (proxy_options (Some origin)) ≡ (3, origin.host) ∷ []
proxy_forwarded origin = found_forwarded (origin.port == 5683) origin.host (uint_bytes origin.port)

-- ---- with option 9 among them

-- what a proxy reads of the options of a message
pub record Reads (host : List ℕ) (port : ℕ) (options : List NumberAndValue) : Type 0 where
  pub forwardable : has_unrecognised_unsafe 0 options ≡ false
  pub no_uri : value 35 (recognised 0 options) ≡ None
  pub scheme : value 39 (recognised 0 options) ≡ Some (codes "coap")
  pub host_is : value 3 (recognised 0 options) ≡ Some host
  pub port_is : port_in (value 7 (recognised 0 options)) ≡ port

with_nine : (default : Bool) (host port v : List ℕ) → merge (found_by default host port) ((9, v) ∷ []) ≡ (3, host) ∷ (if default then [] else (7, port) ∷ []) ++ (9, v) ∷ (39, codes "coap") ∷ []
with_nine true host port v = refl
with_nine false host port v = refl

-- whether or not option 9 is recognised
read_default : (host v : List ℕ) → IsHost host → (short : Bool) → nat_le (length v) 255 ≡ short → Reads host 5683 ((3, host) ∷ (9, v) ∷ (39, codes "coap") ∷ [])
read_default host v is true short =
    let some = le-leb 1 (length host) is.0 in
    let few = le-leb (length host) 255 is.1 in
    let none = le-leb 0 (length v) (omega arith) in
    record {
      forwardable = rw (some, few) refl;
      no_uri = rw (some, few, none, short) refl;
      scheme = rw (some, few, none, short) refl;
      host_is = rw (some, few) refl;
      port_is = rw (some, few, none, short) refl;
    }
read_default host v is false long =
    let some = le-leb 1 (length host) is.0 in
    let few = le-leb (length host) 255 is.1 in
    let none = le-leb 0 (length v) (omega arith) in
    record {
      forwardable = rw (some, few) refl;
      no_uri = rw (some, few, none, long) refl;
      scheme = rw (some, few, none, long) refl;
      host_is = rw (some, few) refl;
      port_is = rw (some, few, none, long) refl;
    }

read_other : (host port v : List ℕ) → IsHost host → length port ≤ 2 → (short : Bool) → nat_le (length v) 255 ≡ short
    → Reads host (uint port) ((3, host) ∷ (7, port) ∷ (9, v) ∷ (39, codes "coap") ∷ [])
read_other host port v is two true short =
    let some = le-leb 1 (length host) is.0 in
    let few = le-leb (length host) 255 is.1 in
    let least = le-leb 0 (length port) (omega arith) in
    let most = le-leb (length port) 2 two in
    let none = le-leb 0 (length v) (omega arith) in
    record {
      forwardable = rw (some, few, least, most) refl;
      no_uri = rw (some, few, least, most, none, short) refl;
      scheme = rw (some, few, least, most, none, short) refl;
      host_is = rw (some, few) refl;
      port_is = rw (some, few, least, most) refl;
    }
read_other host port v is two false long =
    let some = le-leb 1 (length host) is.0 in
    let few = le-leb (length host) 255 is.1 in
    let least = le-leb 0 (length port) (omega arith) in
    let most = le-leb (length port) 2 two in
    let none = le-leb 0 (length v) (omega arith) in
    record {
      forwardable = rw (some, few, least, most) refl;
      no_uri = rw (some, few, least, most, none, long) refl;
      scheme = rw (some, few, least, most, none, long) refl;
      host_is = rw (some, few) refl;
      port_is = rw (some, few, least, most) refl;
    }

read_by : (default : Bool) (host : List ℕ) (port : ℕ) (v : List ℕ) → (port == 5683) ≡ default → IsHost host → port < 65536
    → Reads host port (merge (found_by default host (uint_bytes port)) ((9, v) ∷ []))
read_by true host port v same is few =
    subst (λ (n : ℕ). Reads host n ((3, host) ∷ (9, v) ∷ (39, codes "coap") ∷ [])) (sym (eqb-true port 5683 same)) (read_default host v is (nat_le (length v) 255) refl)
read_by false host port v other is few =
    subst (λ (n : ℕ). Reads host n ((3, host) ∷ (7, uint_bytes port) ∷ (9, v) ∷ (39, codes "coap") ∷ [])) (uint_again port few)
    (read_other host (uint_bytes port) v is (uint_short port) (nat_le (length v) 255) refl)

pub proxy_reads : (origin : HostAndPort) (v : List ℕ) → IsHost origin.host → origin.port < 65536 → Reads origin.host origin.port (merge (proxy_options (Some origin)) ((9, v) ∷ []))
proxy_reads origin v is few = read_by (origin.port == 5683) origin.host origin.port v refl is few
