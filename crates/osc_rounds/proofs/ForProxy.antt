-- A post through a proxy: what a proxy finds in it, and what it forwards.
use Rattle.std.proofs.Common.{◌≡◌, ◌∙◌, sym, ap, refl, ℕ, ◌<◌, ◌≤◌, Bool, true, false, ◌==◌, if◌then◌else◌, List, [], ◌∷◌, ◌++◌, length, Some, None, codes, arith, inl, inr}
use Rattle.std.proofs.lemmas.Bool.{cases_eq, cases_lt, eqb-true, le-leb, le-ltb, lt-ltb, ne_eqb}
use Rattle.osc_coap.specs.{NumberAndValue}
use Rattle.osc_options.specs.{has_unrecognised_unsafe, recognised, uint_bytes, uint, value, merge}
use Rattle.osc_client.specs.{post_with, HostAndPort, IsLawfulOrigin, through}
use Rattle.osc_proxy.specs.{forwarded, has_proxy_uri, port_in}
use Rattle.osc_rounds.proofs.Agreement.{post_to}

-- ---- a port, as Uri-Port

uint_again : (n : ℕ) → n < 65536 → uint (uint_bytes n) ≡ n
uint_again n lt =
    elim (cases_eq n 0) [
      | inl is ↦ rw is refl
      | inr positive ↦ elim (cases_lt n 256) [
        | inl low ↦ rw (ne_eqb n 0 positive, lt-ltb n 256 low) (omega arith)
        | inr wide ↦ rw (ne_eqb n 0 positive, le-ltb n 256 wide) (omega arith)
      ]
    ]

uint_short : (n : ℕ) → length (uint_bytes n) ≤ 2
uint_short n =
    elim (cases_eq n 0) [
      | inl is ↦ rw is (omega arith)
      | inr positive ↦ elim (cases_lt n 256) [
        | inl low ↦ rw (ne_eqb n 0 positive, lt-ltb n 256 low) (omega arith)
        | inr wide ↦ rw (ne_eqb n 0 positive, le-ltb n 256 wide) (omega arith)
      ]
    ]

-- ---- what a proxy finds

-- what the options say to a proxy
pub record AreFor (origin : HostAndPort) (options : List NumberAndValue) : Type 0 where
  pub safe : has_unrecognised_unsafe 0 options ≡ false
  pub no_uri : value 35 (recognised 0 options) ≡ None
  pub scheme : value 39 (recognised 0 options) ≡ Some (codes "coap")
  pub host : value 3 (recognised 0 options) ≡ Some origin.host
  pub port : port_in (value 7 (recognised 0 options)) ≡ origin.port
  pub bare : has_proxy_uri options ≡ false

-- the options of a post through a proxy, by whether the port is the scheme's
abbrev posted : Bool → HostAndPort → List NumberAndValue
posted default origin =
    merge ((3, origin.host) ∷ (if default then [] else (7, uint_bytes origin.port) ∷ []) ++ (39, codes "coap") ∷ []) ((11, codes "authz-info") ∷ (12, 19 ∷ []) ∷ [])

module _ (origin : HostAndPort) (lawful : IsLawfulOrigin origin) where
  known_default : recognised 0 (posted true origin) ≡ posted true origin
  known_default = rw (le-leb 1 (length origin.host) lawful.host.0, le-leb (length origin.host) 255 lawful.host.1) refl

  known_other : recognised 0 (posted false origin) ≡ posted false origin
  known_other =
      rw (
        le-leb 1 (length origin.host) lawful.host.0,
        le-leb (length origin.host) 255 lawful.host.1,
        le-leb 0 (length (uint_bytes origin.port)) (omega arith),
        le-leb (length (uint_bytes origin.port)) 2 (uint_short origin.port),
      ) refl

  safe_default : has_unrecognised_unsafe 0 (posted true origin) ≡ false
  safe_default = rw (le-leb 1 (length origin.host) lawful.host.0, le-leb (length origin.host) 255 lawful.host.1) refl

  safe_other : has_unrecognised_unsafe 0 (posted false origin) ≡ false
  safe_other =
      rw (
        le-leb 1 (length origin.host) lawful.host.0,
        le-leb (length origin.host) 255 lawful.host.1,
        le-leb 0 (length (uint_bytes origin.port)) (omega arith),
        le-leb (length (uint_bytes origin.port)) 2 (uint_short origin.port),
      ) refl

  for_default : origin.port ≡ 5683 → AreFor origin (posted true origin)
  for_default port = record {
    safe = safe_default;
    no_uri = ap (value 35) known_default;
    scheme = ap (value 39) known_default;
    host = ap (value 3) known_default;
    port = ap (λ (options : List NumberAndValue). port_in (value 7 options)) known_default ∙ sym port;
    bare = refl;
  }

  for_other : AreFor origin (posted false origin)
  for_other = record {
    safe = safe_other;
    no_uri = ap (value 35) known_other;
    scheme = ap (value 39) known_other;
    host = ap (value 3) known_other;
    port = ap (λ (options : List NumberAndValue). port_in (value 7 options)) known_other ∙ uint_again origin.port lawful.port;
    bare = refl;
  }

  for_either : (default : Bool) → (default ≡ true → origin.port ≡ 5683) → AreFor origin (posted default origin)
  for_either true port = for_default (port refl)
  for_either false port = for_other

  pub are_for : (id : ℕ) (token body : List ℕ) → AreFor origin (through (Some origin) (post_with id token body)).options
  are_for id token body = for_either (origin.port == 5683) (λ same. eqb-true origin.port 5683 same)

-- ---- what is forwarded: the post with its Uri-Host

forwarded_either : (default : Bool) (origin : HostAndPort) (its_id id : ℕ) (its_token token body : List ℕ)
    → forwarded id token (record (post_with its_id its_token body) { options = posted default origin }) ≡ post_to (Some origin.host) id token body
forwarded_either true origin its_id id its_token token body = refl
forwarded_either false origin its_id id its_token token body = refl

pub forwarded_post : (origin : HostAndPort) (its_id id : ℕ) (its_token token body : List ℕ)
    → forwarded id token (through (Some origin) (post_with its_id its_token body)) ≡ post_to (Some origin.host) id token body
forwarded_post origin its_id id its_token token body = forwarded_either (origin.port == 5683) origin its_id id its_token token body
