-- A Proxy-Uri is read from left to right as its form says.
use Rattle.std.proofs.Common.{◌≡◌, ℕ, suc, ◌≤◌, ◌<◌, ◌+◌, ◌-◌, ◌*◌, Bool, true, false, ◌||◌, ◌==◌, nat_lt, List, [], ◌∷◌, ◌++◌, length, take, drop, Option, Some, None, refl, sym, ap, subst, ◌∙◌, arith, inl, inr, eqb-true}
use Rattle.std.specs.Prelude.{fold, IfSome, codes, bytes_eq, nat_le, if◌then◌else◌}
use Rattle.std.specs.List.{AllByRecursion, prefix_len}
use Rattle.std.proofs.Math.Seq.{take-append_seam, drop-append_seam}
use Rattle.std.proofs.lemmas.Bool.{cases_Bool}
use Rattle.std.proofs.lemmas.Bool.Decides.{nat_tests}
use Rattle.std.proofs.lemmas.List.{take-append-drop}
use Rattle.std.proofs.lemmas.Slice.Eq.{bytes_eq-Decides}
use Rattle.osc_proxy.specs.{HostAndPort, IsHost, IsPort, IsProxyUri, Reads, is_host_byte, is_digit, decimal, port_named, port_spelling, path_spelling, Names, NamesBy, by_scheme}
use Rattle.osc_coap.specs.{NumberAndValue}
use Rattle.osc_options.specs.{recognised, value}
use Rattle.osc_proxy.specs.Inner.Reading.{is_end, port_of, port_at, port_behind, with_port, authority, host_and_port}

-- ---- the digits of a port

-- a number doesn't fall with the digits after it
pub grows : (n : ℕ) (digits : List ℕ) → n ≤ fold (λ n digit. 10 * n + (digit - 48)) n digits
grows n [] = omega arith
grows n (digit ∷ digits) = omega (arith, grows (10 * n + (digit - 48)) digits)

is_refused : (n : ℕ) → 65536 ≤ n → ((n == 0) || nat_le 65536 n) ≡ true
is_refused n big = grind (arith, nat_tests)

is_taken : (n : ℕ) → 0 < n → n < 65536 → ((n == 0) || nat_le 65536 n) ≡ false
is_taken n some small = grind (arith, nat_tests)

was_taken : (n : ℕ) → ((n == 0) || nat_le 65536 n) ≡ false → (0 < n) × (n < 65536)
was_taken n e = (grind (arith, nat_tests), grind (arith, nat_tests))

is_few : (n : ℕ) → 1 ≤ n → n ≤ 5 → ((n == 0) || nat_lt 5 n) ≡ false
is_few n some few = grind (arith, nat_tests)

was_few : (n : ℕ) → ((n == 0) || nat_lt 5 n) ≡ false → (1 ≤ n) × (n ≤ 5)
was_few n e = (grind (arith, nat_tests), grind (arith, nat_tests))

pub too_great : (digits : List ℕ) → 65536 ≤ decimal digits → None ≡ port_of digits
too_great digits big =
    elim (cases_Bool ((length digits == 0) || nat_lt 5 (length digits))) [
      | inl many ↦ rw many refl
      | inr few ↦ rw (few, is_refused (decimal digits) big) refl
    ]

-- ---- the front of bytes that pass a test

suc_is : (n : ℕ) → suc n ≡ 1 + n
suc_is n = omega arith

module _ (test : ℕ → Bool) where
  abbrev Passes : List ℕ → Type 0
  Passes bytes = AllByRecursion (λ byte. test byte ≡ true) bytes

  -- the bytes begin with none that passes
  abbrev Stops : List ℕ → Type 0
  Stops [] = Unit {0}
  Stops (byte ∷ bytes) = test byte ≡ false

  pub front_passes : (bytes : List ℕ) → Passes (take (prefix_len test bytes) bytes)
  front_passes [] = tt
  front_passes (byte ∷ bytes) =
      elim (cases_Bool (test byte)) [
        | inl is ↦ rw is (subst (λ (n : ℕ). Passes (take n (byte ∷ bytes))) (suc_is (prefix_len test bytes)) (is, front_passes bytes))
        | inr other ↦ rw other tt
      ]

  front_length : (front back : List ℕ) → Passes front → Stops back → prefix_len test (front ++ back) ≡ length front
  front_length [] [] passes stops = refl
  front_length [] (byte ∷ back) passes stops = rw stops refl
  front_length (byte ∷ front) back passes stops = rw (passes.0, front_length front back passes.1 stops) (omega arith)

  front_is : (front back : List ℕ) → Passes front → Stops back → take (prefix_len test (front ++ back)) (front ++ back) ≡ front
  front_is front back passes stops = rw (front_length front back passes stops) (take-append_seam front back)

  back_is : (front back : List ℕ) → Passes front → Stops back → drop (prefix_len test (front ++ back)) (front ++ back) ≡ back
  back_is front back passes stops = rw (front_length front back passes stops) (drop-append_seam front back)

  -- the front is as long as its count
  front_some : (bytes : List ℕ) → 0 < prefix_len test bytes → 0 < length (take (prefix_len test bytes) bytes)
  front_some [] some = some
  front_some (byte ∷ bytes) some =
      elim (cases_Bool (test byte)) [
        | inl is ↦ rw is (subst (λ (n : ℕ). 0 < length (take n (byte ∷ bytes))) (suc_is (prefix_len test bytes)) (omega arith))
        | inr other ↦ let none = rw other at some in absurd (omega (arith, none))
      ]

-- ---- what a test lets through

kept : {X : Type 0} (test : Bool) (found : Option X) (x : X) → (if test then found else None) ≡ Some x → (test ≡ true) × (found ≡ Some x)
kept true found x e = (refl, e)
kept false found x e = absurd cc

passed : {X : Type 0} (test : Bool) (found : Option X) (x : X) → (if test then None else found) ≡ Some x → (test ≡ false) × (found ≡ Some x)
passed true found x e = absurd cc
passed false found x e = (refl, e)

same_some : {X : Type 0} (x y : X) → Some x ≡ Some y → x ≡ y
same_some x y e = cc

-- ---- after a host

-- nothing but the empty path
record IsLast (bytes : List ℕ) : Type 0 where
  pub slash : Bool
  pub whole : bytes ≡ path_spelling slash

last_found : (bytes : List ℕ) → is_end bytes ≡ true → IsLast bytes
last_found [] e = record { slash = false; whole = refl }
last_found (byte ∷ []) e = record { slash = true; whole = ap (λ (b : ℕ). b ∷ []) (eqb-true byte 47 e) }
last_found (byte ∷ next ∷ bytes) e = absurd cc

last_again : (slash : Bool) → is_end (path_spelling slash) ≡ true
last_again false = refl
last_again true = refl

-- these bytes name this port after a host
record NamesPort (bytes : List ℕ) (port : ℕ) : Type 0 where
  pub digits : Option (List ℕ)
  pub slash : Bool
  pub whole : bytes ≡ port_spelling digits ++ path_spelling slash
  pub digits_are : IfSome digits IsPort
  pub port_is : port ≡ port_named digits
  pub some : 0 < port
  pub small : port < 65536

port_found : (bytes : List ℕ) (port : ℕ) → port_at bytes ≡ Some port → NamesPort (58 ∷ bytes) port
unfolding port_at
port_found bytes port e =
    let count = prefix_len is_digit bytes in
    let digits = take count bytes in
    let a = kept (is_end (drop count bytes)) (port_of digits) port e in
    let last = last_found (drop count bytes) a.0 in
    let b = passed ((length digits == 0) || nat_lt 5 (length digits)) (if (decimal digits == 0) || nat_le 65536 (decimal digits) then None else Some (decimal digits)) port a.1 in
    let c = passed ((decimal digits == 0) || nat_le 65536 (decimal digits)) (Some (decimal digits)) port b.1 in
    let is = same_some (decimal digits) port c.1 in
    let few = was_few (length digits) b.0 in
    let bounds = was_taken (decimal digits) c.0 in
    record {
      digits = Some digits;
      slash = last.slash;
      whole = ap (λ (b : List ℕ). 58 ∷ b) (sym (take-append-drop count bytes) ∙ ap (λ (b : List ℕ). digits ++ b) last.whole);
      digits_are = record { some = few.0; few = few.1; bytes = front_passes is_digit bytes };
      port_is = sym is;
      some = omega (arith, is, bounds.0);
      small = omega (arith, is, bounds.1);
    }

path_stops : (slash : Bool) → Stops is_digit (path_spelling slash)
path_stops false = tt
path_stops true = refl

port_again : (digits : List ℕ) (slash : Bool) → IsPort digits → 0 < decimal digits → decimal digits < 65536 → port_at (digits ++ path_spelling slash) ≡ Some (decimal digits)
unfolding port_at
port_again digits slash is some small =
    rw (
      front_is is_digit digits (path_spelling slash) is.bytes (path_stops slash),
      back_is is_digit digits (path_spelling slash) is.bytes (path_stops slash),
      last_again slash,
      is_few (length digits) is.some is.few,
      is_taken (decimal digits) some small,
    ) refl

behind_found : (bytes : List ℕ) (port : ℕ) → port_behind bytes ≡ Some port → NamesPort bytes port
behind_found [] port e =
    let is = same_some 5683 port e in
    record { digits = None; slash = false; whole = refl; digits_are = tt; port_is = sym is; some = omega (arith, is); small = omega (arith, is) }
behind_found (byte ∷ rest) port e =
    elim (cases_Bool (is_end (byte ∷ rest))) [
      | inl last ↦
          let is = same_some 5683 port (rw last at e) in
          let end = last_found (byte ∷ rest) last in
          record { digits = None; slash = end.slash; whole = end.whole; digits_are = tt; port_is = sym is; some = omega (arith, is); small = omega (arith, is) }
      | inr more ↦
          let a = kept (byte == 58) (port_at rest) port (rw more at e) in
          subst (λ (b : ℕ). NamesPort (b ∷ rest) port) (sym (eqb-true byte 58 a.0)) (port_found rest port a.1)
    ]

-- digits are more than a last '/'
not_end : (digits path : List ℕ) → 1 ≤ length digits → is_end (58 ∷ digits ++ path) ≡ false
not_end [] path some = absurd (omega arith)
not_end (digit ∷ digits) path some = refl

behind_again : (digits : Option (List ℕ)) (slash : Bool) → IfSome digits IsPort → 0 < port_named digits → port_named digits < 65536
    → port_behind (port_spelling digits ++ path_spelling slash) ≡ Some (port_named digits)
behind_again None false are some small = refl
behind_again None true are some small = refl
behind_again (Some digits) slash are some small = rw (not_end digits (path_spelling slash) are.some) (port_again digits slash are some small)

behind_stops : (digits : Option (List ℕ)) (slash : Bool) → Stops is_host_byte (port_spelling digits ++ path_spelling slash)
behind_stops None false = tt
behind_stops None true = refl
behind_stops (Some digits) slash = refl

-- ---- after the scheme

not_none : (n : ℕ) → 0 < n → (n == 0) ≡ false
not_none n some = grind (arith, nat_tests)

was_some : (n : ℕ) → (n == 0) ≡ false → 0 < n
was_some n e = grind (arith, nat_tests)

with_port_found : (host : List ℕ) (port : Option ℕ) (named : HostAndPort) → with_port host port ≡ Some named → (port ≡ Some named.1) × (host ≡ named.0)
with_port_found host None named e = absurd cc
with_port_found host (Some port) named e =
    let is = same_some (host, port) named e in
    (ap (λ (n : HostAndPort). Some n.1) is, ap (λ (n : HostAndPort). n.0) is)

-- ---- the whole

authority_again : (host : List ℕ) (digits : Option (List ℕ)) (slash : Bool) → IsHost host → IfSome digits IsPort → 0 < port_named digits → port_named digits < 65536
    → authority (host ++ (port_spelling digits ++ path_spelling slash)) ≡ Some (host, port_named digits)
unfolding authority
authority_again host digits slash is are some small =
    let back = port_spelling digits ++ path_spelling slash in
    let stops = behind_stops digits slash in
    rw (
      not_none (prefix_len is_host_byte (host ++ back)) (omega (arith, front_length is_host_byte host back is.bytes stops, is.some)),
      front_is is_host_byte host back is.bytes stops,
      back_is is_host_byte host back is.bytes stops,
      behind_again digits slash are some small,
    ) refl

pub uri_again : (uri host : List ℕ) (port : ℕ) → IsProxyUri uri host port → host_and_port uri ≡ Some (host, port)
unfolding host_and_port
uri_again uri host port is =
    let some = subst (λ (n : ℕ). 0 < n) is.port_is is.some in
    let small = subst (λ (n : ℕ). n < 65536) is.port_is is.small in
    ap host_and_port is.whole
    ∙ authority_again host is.digits is.slash is.host_is is.digits_are some small
    ∙ ap (λ (n : ℕ). Some (host, n)) (sym is.port_is)

scheme_is : (uri : List ℕ) → bytes_eq (take 7 uri) (codes "coap://") ≡ true → take 7 uri ≡ codes "coap://"
scheme_is uri e = (bytes_eq-Decides (take 7 uri) (codes "coap://")).0 e

pub uri_found : (uri : List ℕ) (named : HostAndPort) → host_and_port uri ≡ Some named → IsProxyUri uri named.0 named.1
unfolding host_and_port authority
uri_found uri named e =
    let a = kept (bytes_eq (take 7 uri) (codes "coap://")) (authority (drop 7 uri)) named e in
    let rest = drop 7 uri in
    let count = prefix_len is_host_byte rest in
    let b = passed (count == 0) (with_port (take count rest) (port_behind (drop count rest))) named a.1 in
    let c = with_port_found (take count rest) (port_behind (drop count rest)) named b.1 in
    let behind = behind_found (drop count rest) named.1 c.0 in
    let host : IsHost (take count rest) = record { some = front_some is_host_byte rest (was_some count b.0); bytes = front_passes is_host_byte rest } in
    record {
      digits = behind.digits;
      slash = behind.slash;
      whole = sym (take-append-drop 7 uri) ∙ ap (λ (front : List ℕ). front ++ rest) (scheme_is uri a.0)
          ∙ ap (λ (back : List ℕ). codes "coap://" ++ back) (sym (take-append-drop count rest) ∙ ap (λ (host : List ℕ). host ++ drop count rest) c.1 ∙ ap (λ (back : List ℕ). named.0 ++ back) behind.whole);
      host_is = subst IsHost c.1 host;
      digits_are = behind.digits_are;
      port_is = behind.port_is;
      some = behind.some;
      small = behind.small;
    }

as_found : (uri : List ℕ) (found : Option HostAndPort) → host_and_port uri ≡ found → Reads uri found
as_found uri None e = λ host port is. let no = uri_again uri host port is in absurd cc
as_found uri (Some named) e = uri_found uri named e

pub reads : (uri : List ℕ) → Reads uri (host_and_port uri)
reads uri = as_found uri (host_and_port uri) refl

-- ---- whatever options a message has, they name something or nothing

pub names_something : (options : List NumberAndValue) → (named : Option HostAndPort) × Names options named
names_something options = by (value 35 (recognised 0 options)) (value 39 (recognised 0 options))
  where
    by : (uri scheme : Option (List ℕ)) → (named : Option HostAndPort) × NamesBy uri scheme (recognised 0 options) named
    by (Some uri) scheme = (host_and_port uri, reads uri)
    by None (Some scheme) = (by_scheme scheme (value 3 (recognised 0 options)) (value 7 (recognised 0 options)), refl)
    by None None = (None, refl)
