-- Grants that were minted, each with a secret of its own.
use Rattle.std.proofs.Common.{◌≢◌, ℕ, List, [], ◌∷◌, refl, sym, ap, ◌∙◌, inl, inr}
use Rattle.std.specs.List.{AllByRecursion}
use Rattle.osc_authz.specs.{In}
use Rattle.osc_run.specs.{Minted, grants_of}

-- of a secret that no grant of these has
abbrev pub DifferFrom : List ℕ → List Minted → Type 0
DifferFrom secret minted = (other : Minted) → In other minted → other.grant.secret ≢ secret

pub all_differ : (secret : List ℕ) (minted : List Minted) → DifferFrom secret minted → AllByRecursion (λ grant. grant.secret ≢ secret) (grants_of minted)
all_differ secret [] differ = tt
all_differ secret (x ∷ minted) differ = (differ x (inl refl), all_differ secret minted (λ other there. differ other (inr there)))

pub each_differs : (secret : List ℕ) (minted : List Minted) → AllByRecursion (λ grant. grant.secret ≢ secret) (grants_of minted) → DifferFrom secret minted
each_differs secret [] all other there = absurd there
each_differs secret (x ∷ minted) all other (inl is) = λ same. all.0 (sym (ap (λ (m : Minted). m.grant.secret) is) ∙ same)
each_differs secret (x ∷ minted) all other (inr there) = each_differs secret minted all.1 other there
