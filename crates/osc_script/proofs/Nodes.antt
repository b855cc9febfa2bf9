-- A word names a client, a node or a method exactly where one is read, and it is that one.
use Rattle.std.proofs.Common.{◌≡◌, ◌≢◌, ℕ, ◌+◌, ◌-◌, ◌<◌, ◌≤◌, ◌==◌, ◌&&◌, Bool, true, false, List, [], ◌∷◌, length, get_or, Option, Some, None, ◌⊎◌, nat_le, refl, sym, ap, ◌∙◌, arith, inl, inr, bytes_eq, eqb-true, leb-true, le-leb}
use Rattle.std.specs.Prelude.{IfNone, IfSome, IsSome, ◌↔◌}
use Rattle.std.proofs.Props.{props}
use Rattle.std.proofs.lemmas.Bool.{and_parts}
use Rattle.std.proofs.lemmas.Slice.Eq.{bytes_eq-Decides}
use Rattle.osc_model.specs.declared.code.Method.{Method}
use Rattle.osc_model.specs.declared.code.Method.TheVariants as method
use Rattle.osc_script.specs.declared.client_name.ClientName.{ClientName}
use Rattle.osc_script.specs.declared.node.NodeName.{NodeName}
use Rattle.osc_script.specs.declared.node.NodeName.TheVariants.{Server, Client, Proxy, Stranger}
use Rattle.osc_script.specs.declared.proxy_name.ProxyName.{ProxyName}
use Rattle.osc_model.specs.declared.node.Peer.{Peer}
use Rattle.osc_script.specs.{client_name, proxy_name, name_of, local, address_of, Reads, SpellsMethod}
use Rattle.osc_scope.specs.{name_of as method_name}
use Rattle.osc_script.specs.Inner.Reading.{client_if, client_with, client_in, proxy_if, proxy_with, proxy_in, one_named, node_in, unless_stranger, worker_in, method_in}
use Rattle.osc_script.proofs.Found.{step_found, test_held, chosen}

-- ---- clients

client_tested : (digit : ℕ) (is : Bool) (e : (nat_le 1 digit && nat_le digit 9) ≡ is) (client : ClientName) → client_if digit is e ≡ Some client → digit ≡ client.digit
client_tested digit true e client found =
    let p = and_parts (nat_le 1 digit) (nat_le digit 9) e in
    let is : record { digit = digit; bound = (leb-true 1 digit p.0, leb-true digit 9 p.1) } ≡ client = cc in
    ap (λ (c : ClientName). c.digit) is
client_tested digit false e client found = absurd cc

-- a bound has one proof
bound_prop : (digit : ℕ) → IsProp ((1 ≤ digit) × (digit ≤ 9))
bound_prop digit = Prim.hlevel props

client_one : (client : ClientName) (is : Bool) (e : (nat_le 1 client.digit && nat_le client.digit 9) ≡ is) → client_if client.digit is e ≡ Some client
client_one client true e =
    let p = and_parts (nat_le 1 client.digit) (nat_le client.digit 9) e in
    ap (λ (bound : (1 ≤ client.digit) × (client.digit ≤ 9)). Some (record { digit = client.digit; bound = bound })) (bound_prop client.digit (leb-true 1 client.digit p.0, leb-true client.digit 9 p.1) client.bound)
client_one client false e =
    let least : nat_le 1 client.digit ≡ true = le-leb 1 client.digit client.bound.0 in
    let most : nat_le client.digit 9 ≡ true = le-leb client.digit 9 client.bound.1 in
    let yes_ : (nat_le 1 client.digit && nat_le client.digit 9) ≡ true = rw (least, most) refl in
    absurd cc

with_again : (client : ClientName) → client_with client.digit ≡ Some client
with_again client = client_one client (nat_le 1 client.digit && nat_le client.digit 9) refl

-- what is found of a digit is its client, and nothing is where it has none
pub client_read : (digit : ℕ) (found : Option ClientName) → IfSome found (λ client. client.digit ≡ digit) → (IsSome found ↔ (1 ≤ digit) × (digit ≤ 9)) → found ≡ client_with digit
client_read digit (Some client) value some = sym (with_again client) ∙ ap client_with value
client_read digit None value some = none_found digit (nat_le 1 digit && nat_le digit 9) refl (λ bound. let no : false ≡ true = some.1 bound in absurd cc)
  where
    none_found : (digit : ℕ) (is : Bool) (e : (nat_le 1 digit && nat_le digit 9) ≡ is) → ((1 ≤ digit) × (digit ≤ 9) → ⊥) → None ≡ client_if digit is e
    none_found digit true e h = let p = and_parts (nat_le 1 digit) (nat_le digit 9) e in absurd (h (leb-true 1 digit p.0, leb-true digit 9 p.1))
    none_found digit false e h = refl

pub client_found : (word : List ℕ) (client : ClientName) → client_in word ≡ Some client → word ≡ client_name client
unfolding client_in
client_found [] client e = absurd cc
client_found (letter ∷ []) client e = absurd cc
client_found (letter ∷ digit ∷ []) client e =
    let t = test_held (letter == 99) (client_with (digit - 48)) client e in
    let value = client_tested (digit - 48) (nat_le 1 (digit - 48) && nat_le (digit - 48) 9) refl client t.1 in
    let is_letter : letter ≡ 99 = eqb-true letter 99 t.0 in
    let is_digit : digit ≡ 48 + client.digit = omega (arith, client.bound.0) in
    cc
client_found (letter ∷ digit ∷ more ∷ word) client e = absurd cc

pub client_again : (client : ClientName) → client_in (client_name client) ≡ Some client
unfolding client_in
client_again client =
    let digit : 48 + client.digit - 48 ≡ client.digit = omega arith in
    ap client_with digit ∙ with_again client

pub client_named : (word : List ℕ) (found : Option ClientName) → found ≡ client_in word → IfSome found (λ client. word ≡ client_name client)
client_named word (Some client) e = client_found word client (sym e)
client_named word None e = tt

pub client_unnamed : (word : List ℕ) (found : Option ClientName) → found ≡ client_in word → IfNone found ((client : ClientName) → ¬ (word ≡ client_name client))
client_unnamed word (Some client) e = tt
client_unnamed word None e = λ client is. let no : None ≡ Some client = e ∙ ap client_in is ∙ client_again client in absurd cc

-- ---- proxies

proxy_tested : (digit : ℕ) (is : Bool) (e : (nat_le 1 digit && nat_le digit 9) ≡ is) (proxy : ProxyName) → proxy_if digit is e ≡ Some proxy → digit ≡ proxy.digit
proxy_tested digit true e proxy found =
    let p = and_parts (nat_le 1 digit) (nat_le digit 9) e in
    let is : record { digit = digit; bound = (leb-true 1 digit p.0, leb-true digit 9 p.1) } ≡ proxy = cc in
    ap (λ (p : ProxyName). p.digit) is
proxy_tested digit false e proxy found = absurd cc

proxy_one : (proxy : ProxyName) (is : Bool) (e : (nat_le 1 proxy.digit && nat_le proxy.digit 9) ≡ is) → proxy_if proxy.digit is e ≡ Some proxy
proxy_one proxy true e =
    let p = and_parts (nat_le 1 proxy.digit) (nat_le proxy.digit 9) e in
    ap (λ (bound : (1 ≤ proxy.digit) × (proxy.digit ≤ 9)). Some (record { digit = proxy.digit; bound = bound })) (bound_prop proxy.digit (leb-true 1 proxy.digit p.0, leb-true proxy.digit 9 p.1) proxy.bound)
proxy_one proxy false e =
    let least : nat_le 1 proxy.digit ≡ true = le-leb 1 proxy.digit proxy.bound.0 in
    let most : nat_le proxy.digit 9 ≡ true = le-leb proxy.digit 9 proxy.bound.1 in
    let yes_ : (nat_le 1 proxy.digit && nat_le proxy.digit 9) ≡ true = rw (least, most) refl in
    absurd cc

with_proxy_again : (proxy : ProxyName) → proxy_with proxy.digit ≡ Some proxy
with_proxy_again proxy = proxy_one proxy (nat_le 1 proxy.digit && nat_le proxy.digit 9) refl

-- what is found of a digit is its proxy, and nothing is where it has none
pub proxy_read : (digit : ℕ) (found : Option ProxyName) → IfSome found (λ proxy. proxy.digit ≡ digit) → (IsSome found ↔ (1 ≤ digit) × (digit ≤ 9)) → found ≡ proxy_with digit
proxy_read digit (Some proxy) value some = sym (with_proxy_again proxy) ∙ ap proxy_with value
proxy_read digit None value some = none_found digit (nat_le 1 digit && nat_le digit 9) refl (λ bound. let no : false ≡ true = some.1 bound in absurd cc)
  where
    none_found : (digit : ℕ) (is : Bool) (e : (nat_le 1 digit && nat_le digit 9) ≡ is) → ((1 ≤ digit) × (digit ≤ 9) → ⊥) → None ≡ proxy_if digit is e
    none_found digit true e h = let p = and_parts (nat_le 1 digit) (nat_le digit 9) e in absurd (h (leb-true 1 digit p.0, leb-true digit 9 p.1))
    none_found digit false e h = refl

pub proxy_found : (word : List ℕ) (proxy : ProxyName) → proxy_in word ≡ Some proxy → word ≡ proxy_name proxy
unfolding proxy_in
proxy_found [] proxy e = absurd cc
proxy_found (letter ∷ []) proxy e = absurd cc
proxy_found (letter ∷ digit ∷ []) proxy e =
    let t = test_held (letter == 112) (proxy_with (digit - 48)) proxy e in
    let value = proxy_tested (digit - 48) (nat_le 1 (digit - 48) && nat_le (digit - 48) 9) refl proxy t.1 in
    let is_letter : letter ≡ 112 = eqb-true letter 112 t.0 in
    let is_digit : digit ≡ 48 + proxy.digit = omega (arith, proxy.bound.0) in
    cc
proxy_found (letter ∷ digit ∷ more ∷ word) proxy e = absurd cc

pub proxy_again : (proxy : ProxyName) → proxy_in (proxy_name proxy) ≡ Some proxy
unfolding proxy_in
proxy_again proxy =
    let digit : 48 + proxy.digit - 48 ≡ proxy.digit = omega arith in
    ap proxy_with digit ∙ with_proxy_again proxy

-- two letters, the first of which is `p`
pub proxy_word : (word : List ℕ) (found : Option ProxyName) → 2 ≤ length word → length word < 3 → get_or word 0 0 ≡ 112 → found ≡ proxy_with (get_or word 1 0 - 48) → found ≡ proxy_in word
unfolding proxy_in
proxy_word [] found least most letter e = absurd (omega arith)
proxy_word (a ∷ []) found least most letter e = absurd (omega arith)
proxy_word (a ∷ b ∷ []) found least most letter e = rw letter e
proxy_word (a ∷ b ∷ c ∷ word) found least most letter e = absurd (omega arith)

-- ---- nodes

node_is : (x y : NodeName) → Some x ≡ Some y → x ≡ y
node_is x y e = cc

named_found : (client : Option ClientName) (proxy : Option ProxyName) (node : NodeName) → one_named client proxy ≡ Some node
    → ((c : ClientName) × (client ≡ Some c) × (Client c ≡ node)) ⊎ ((p : ProxyName) × (proxy ≡ Some p) × (Proxy p ≡ node))
named_found (Some c) proxy node e = inl (c, refl, node_is (Client c) node e)
named_found None (Some p) node e = inr (p, refl, node_is (Proxy p) node e)
named_found None None node e = absurd cc

pub node_found : (word : List ℕ) (node : NodeName) → node_in word ≡ Some node → word ≡ name_of node
unfolding node_in
node_found word node e =
    elim (chosen (bytes_eq word (name_of Server)) _ _ _ e) [
      | inl server ↦ (bytes_eq-Decides word (name_of Server)).0 server.0 ∙ ap name_of (node_is Server node server.1)
      | inr other ↦ elim (chosen (bytes_eq word (name_of Stranger)) _ _ _ other.1) [
        | inl stranger ↦ (bytes_eq-Decides word (name_of Stranger)).0 stranger.0 ∙ ap name_of (node_is Stranger node stranger.1)
        | inr other ↦ elim (named_found (client_in word) (proxy_in word) node other.1) [
          | inl a ↦ client_found word a.0 a.1 ∙ ap name_of a.2
          | inr a ↦ proxy_found word a.0 a.1 ∙ ap name_of a.2
        ]
      ]
    ]

no_client : (proxy : ProxyName) → client_in (proxy_name proxy) ≡ None
unfolding client_in
no_client proxy = refl

pub node_again : (node : NodeName) → node_in (name_of node) ≡ Some node
unfolding node_in
node_again Server = refl
node_again (Client client) = rw (client_again client) refl
node_again (Proxy proxy) = rw (no_client proxy, proxy_again proxy) refl
node_again Stranger = refl

worker_is : (node found : NodeName) → unless_stranger node ≡ Some found → (node ≡ found) × (found ≢ Stranger)
worker_is Server found e = let is : Server ≡ found = node_is Server found e in (is, λ s. let no : Server ≡ Stranger = is ∙ s in absurd cc)
worker_is (Client client) found e = let is : Client client ≡ found = node_is (Client client) found e in (is, λ s. let no : Client client ≡ Stranger = is ∙ s in absurd cc)
worker_is (Proxy proxy) found e = let is : Proxy proxy ≡ found = node_is (Proxy proxy) found e in (is, λ s. let no : Proxy proxy ≡ Stranger = is ∙ s in absurd cc)
worker_is Stranger found e = absurd cc

pub worker_found : (word : List ℕ) (node : NodeName) → worker_in word ≡ Some node → (word ≡ name_of node) × (node ≢ Stranger)
unfolding worker_in
worker_found word node e =
    let a = step_found (node_in word) unless_stranger node e in
    let b = worker_is a.0 node a.2 in
    (node_found word a.0 a.1 ∙ ap name_of b.0, b.1)

is_worker : (node : NodeName) → node ≢ Stranger → unless_stranger node ≡ Some node
is_worker Server h = refl
is_worker (Client client) h = refl
is_worker (Proxy proxy) h = refl
is_worker Stranger h = absurd (h refl)

pub worker_again : (node : NodeName) → node ≢ Stranger → worker_in (name_of node) ≡ Some node
unfolding worker_in
worker_again node h = rw (node_again node) (is_worker node h)

-- ---- methods

method_is : (x y : Method) → Some x ≡ Some y → x ≡ y
method_is x y e = cc

named : (word : List ℕ) (m found : Method) → bytes_eq word (method_name m) ≡ true → Some m ≡ Some found → word ≡ method_name found
named word m found t e = (bytes_eq-Decides word (method_name m)).0 t ∙ ap method_name (method_is m found e)

pub method_found : (word : List ℕ) (m : Method) → method_in word ≡ Some m → word ≡ method_name m
unfolding method_in
method_found word m e =
    elim (chosen (bytes_eq word (method_name method.Get)) _ _ _ e) [
      | inl get ↦ named word method.Get m get.0 get.1
      | inr other ↦ elim (chosen (bytes_eq word (method_name method.Post)) _ _ _ other.1) [
        | inl post ↦ named word method.Post m post.0 post.1
        | inr other ↦ elim (chosen (bytes_eq word (method_name method.Put)) _ _ _ other.1) [
          | inl put ↦ named word method.Put m put.0 put.1
          | inr other ↦
              let t = test_held (bytes_eq word (method_name method.Delete)) (Some method.Delete) m other.1 in
              named word method.Delete m t.0 t.1
        ]
      ]
    ]

pub method_again : (m : Method) → method_in (method_name m) ≡ Some m
unfolding method_in
method_again method.Get = refl
method_again method.Post = refl
method_again method.Put = refl
method_again method.Delete = refl

pub method_reads : (word : List ℕ) (found : Option Method) → found ≡ method_in word → Reads (SpellsMethod word) found
method_reads word (Some m) e = method_found word m (sym e)
method_reads word None e = λ m is. let no : None ≡ Some m = e ∙ ap method_in is ∙ method_again m in absurd cc

-- two letters, the first of which is `c`
pub client_word : (word : List ℕ) (found : Option ClientName) → 2 ≤ length word → length word < 3 → get_or word 0 0 ≡ 99 → found ≡ client_with (get_or word 1 0 - 48) → found ≡ client_in word
unfolding client_in
client_word [] found least most letter e = absurd (omega arith)
client_word (a ∷ []) found least most letter e = absurd (omega arith)
client_word (a ∷ b ∷ []) found least most letter e = rw letter e
client_word (a ∷ b ∷ c ∷ word) found least most letter e = absurd (omega arith)

-- an address that is none of them
pub no_node : (peer : Peer) → (peer ≡ address_of Server → ⊥) → (peer ≡ address_of Stranger → ⊥) → ((client : ClientName) → peer ≡ local (7000 + client.digit) → ⊥)
    → ((proxy : ProxyName) → peer ≡ local (6000 + proxy.digit) → ⊥) → (node : NodeName) → peer ≡ address_of node → ⊥
no_node peer server stranger client proxy Server e = server e
no_node peer server stranger client proxy (Client name) e = client name e
no_node peer server stranger client proxy (Proxy name) e = proxy name e
no_node peer server stranger client proxy Stranger e = stranger e
