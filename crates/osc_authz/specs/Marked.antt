-- Marks of the contexts whose tokens are revoked, by which they are told without a look into the tree.
use Rattle.std.specs.Prelude.{◌≡◌, ◌≢◌, ℕ, Bool, false, List, [], ◌∷◌, slice_index_or}
use Rattle.std.specs.FinMap as map
use Rattle.osc_model.specs.{stands}
use Rattle.osc_model.specs.Tree.{Tree}
use Rattle.osc_authz.specs.Members.{In}
use Rattle.osc_authz.specs.SecurityContext.{SecurityContext}
use Rattle.osc_authz.specs.Table.{contexts}
use Rattle.osc_authz.specs.declared.token_entry.TokenEntry.{TokenEntry}

-- The mark of a recipient ID, which has one byte. No other is marked.
abbrev pub mark_of : List Bool → List ℕ → Bool
mark_of marks [] = false
mark_of marks (byte ∷ []) = slice_index_or marks byte false
mark_of marks (byte ∷ next ∷ rest) = false

-- a context is marked where the tree has a resource that revokes its token
abbrev pub IsMarked : Tree → List Bool → SecurityContext → Type 0
IsMarked tree marks held = mark_of marks held.name.client_id ≡ stands tree held.revocation

-- so are all contexts of a table
abbrev pub AreMarked : Tree → List TokenEntry → List Bool → Type 0
AreMarked tree table marks = (held : SecurityContext) → In held (contexts table) → IsMarked tree marks held

-- two trees have resources at the same paths, but for this one
abbrev pub IsSameBut : Tree → Tree → List ℕ → Type 0
IsSameBut before after path = (other : List ℕ) → other ≢ path → map.contains_key before other ≡ map.contains_key after other
