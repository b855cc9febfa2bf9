-- Names are equal where all that they are made of is.
use Rattle.std.proofs.Common.{◌≡◌, ℕ, nat_eq, Bool, true, ◌&&◌, List, Option, Some, None, refl, sym, ap, subst, ◌∙◌}
use Rattle.std.specs.Cmp.Lexicographic.{pointwise}
use Rattle.std.specs.Option.{option_eq}
use Rattle.std.proofs.lemmas.Bool.{and_parts}
use Rattle.std.proofs.lemmas.Bool.Decides.{Decides-eqb}
use Rattle.std.proofs.lemmas.Slice.Eq.{slice_eq-Decides}
use Rattle.osc_model.specs.contracts.algorithm.AlgorithmPartialEq.TheImpl as alg_eq
use Rattle.osc_model.specs.contracts.context.ContextNamePartialEq.TheImpl as name_eq
use Rattle.osc_model.specs.declared.algorithm.Algorithm.{Algorithm}
use Rattle.osc_model.specs.declared.algorithm.Algorithm.TheVariants.{EightByteTag, SixteenByteTag}
use Rattle.osc_model.specs.declared.context.ContextName.{ContextName}
use Rattle.osc_authz.specs.{IsStillHeld, is_live, with_id}
use Rattle.osc_authz.specs.SecurityContext.{SecurityContext}
use Rattle.osc_authz.specs.Standing.{Standing}
use Rattle.osc_authz.specs.declared.token_entry.TokenEntry.{TokenEntry}

abbrev pub same_bytes : List ℕ → List ℕ → Bool
same_bytes = pointwise nat_eq

bytes_are : (a b : List ℕ) → same_bytes a b ≡ true → a ≡ b
bytes_are a b e = (slice_eq-Decides Decides-eqb a b (same_bytes a b) refl).0 e

bytes_same : (a b : List ℕ) → a ≡ b → same_bytes a b ≡ true
bytes_same a b e = (slice_eq-Decides Decides-eqb a b (same_bytes a b) refl).1 e

may_be : (a b : Option (List ℕ)) → option_eq same_bytes a b ≡ true → a ≡ b
may_be None None e = refl
may_be None (Some b) e = absurd (cc)
may_be (Some a) None e = absurd (cc)
may_be (Some a) (Some b) e = ap (λ (x : List ℕ). Some x) (bytes_are a b e)

may_same : (a : Option (List ℕ)) → option_eq same_bytes a a ≡ true
may_same None = refl
may_same (Some a) = bytes_same a a refl

alg_is : (a b : Algorithm) → (alg_eq.ghosts).eq a b ≡ true → a ≡ b
alg_is EightByteTag EightByteTag e = refl
alg_is EightByteTag SixteenByteTag e = absurd (cc)
alg_is SixteenByteTag EightByteTag e = absurd (cc)
alg_is SixteenByteTag SixteenByteTag e = refl

alg_same : (a : Algorithm) → (alg_eq.ghosts).eq a a ≡ true
alg_same EightByteTag = refl
alg_same SixteenByteTag = refl

abbrev pub same_name : ContextName → ContextName → Bool
same_name = (name_eq.ghosts).eq

pub names_are : (a b : ContextName) → same_name a b ≡ true → a ≡ b
names_are a b e =
    let one = and_parts (same_bytes a.secret b.secret) _ e in
    let two = and_parts (same_bytes a.salt b.salt) _ one.1 in
    let three = and_parts (option_eq same_bytes a.id_context b.id_context) _ two.1 in
    let four = and_parts (same_bytes a.client_id b.client_id) _ three.1 in
    let five = and_parts (same_bytes a.server_id b.server_id) ((alg_eq.ghosts).eq a.alg b.alg) four.1 in
    let secret = bytes_are a.secret b.secret one.0 in
    let salt = bytes_are a.salt b.salt two.0 in
    let id_context = may_be a.id_context b.id_context three.0 in
    let client_id = bytes_are a.client_id b.client_id four.0 in
    let server_id = bytes_are a.server_id b.server_id five.0 in
    let alg = alg_is a.alg b.alg five.1 in
    λ i. record { secret = secret i; salt = salt i; id_context = id_context i; client_id = client_id i; server_id = server_id i; alg = alg i }

both : (x y : Bool) → x ≡ true → y ≡ true → (x && y) ≡ true
both x y p q = rw (p, q) refl

one_name : (a : ContextName) → same_name a a ≡ true
one_name a =
    both (same_bytes a.secret a.secret) _ (bytes_same a.secret a.secret refl)
    (both (same_bytes a.salt a.salt) _ (bytes_same a.salt a.salt refl)
    (both (option_eq same_bytes a.id_context a.id_context) _ (may_same a.id_context)
    (both (same_bytes a.client_id a.client_id) _ (bytes_same a.client_id a.client_id refl)
    (both (same_bytes a.server_id a.server_id) ((alg_eq.ghosts).eq a.alg a.alg) (bytes_same a.server_id a.server_id refl) (alg_same a.alg)))))

pub names_same : (a b : ContextName) → a ≡ b → same_name a b ≡ true
names_same a b e = subst (λ (n : ContextName). same_name a n ≡ true) e (one_name a)

-- ---- a context that is still held

-- the context that was found has the name, and lives
pub still_held : (on : Standing) (name : ContextName) (table : List TokenEntry) (held : SecurityContext) (named live : Bool)
    → with_id name.client_id table ≡ Some held → named ≡ same_name held.name name → named ≡ true → live ≡ is_live on held → live ≡ true → IsStillHeld on name table
still_held on name table held named live found n nt l lt = record { held = held; found = found; is_named = names_are held.name name (sym n ∙ nt); live = sym l ∙ lt }

one_some : (a b : SecurityContext) → Some a ≡ Some b → a ≡ b
one_some a b e = cc

-- what was found is the one that is held
pub held_so : (on : Standing) (name : ContextName) (table : List TokenEntry) (held : SecurityContext)
    → with_id name.client_id table ≡ Some held → IsStillHeld on name table → (same_name held.name name ≡ true) × (is_live on held ≡ true)
held_so on name table held found is =
    let same : is.held ≡ held = one_some is.held held (sym is.found ∙ found) in
    (names_same held.name name (ap (λ (c : SecurityContext). c.name) (sym same) ∙ is.is_named), subst (λ (c : SecurityContext). is_live on c ≡ true) same is.live)

pub none_held : (on : Standing) (name : ContextName) (table : List TokenEntry) → with_id name.client_id table ≡ None → IsStillHeld on name table → ⊥
none_held on name table none is = let never : Some is.held ≡ None = sym is.found ∙ none in cc
