-- The resources that a device has from the start.
use Rattle.std.specs.Prelude.{◌≡◌, ℕ, ℤ, ◌⊎◌, ◌≤◌, ◌<◌, false, List, [], ◌∷◌, length, Option, Some, None, pos, negsuc, ⊤}
use Rattle.std.specs.FinMap as map
use Rattle.osc_model.specs.{IsPath, longest_payload, most_resources}
use Rattle.osc_model.specs.Tree.{Tree}
use Rattle.osc_model.specs.declared.resource.Resource.{Resource}
use Rattle.osc_c.specs.Arguments.{IsFormatNumber}
use Rattle.osc_c.specs.Given.{resource_size}
use Rattle.osc_c.specs.declared.calls.outcome.Outcome.{Outcome}
use Rattle.osc_c.specs.declared.calls.outcome.Outcome.TheVariants.{BadArgument, NoMemory}
use Rattle.osc_c.specs.declared.calls.plain.PlainResource.{PlainResource}

-- a Content-Format by its number, where that isn't below 0
abbrev pub format_of : ℤ → Option ℕ
format_of (pos number) = Some number
format_of (negsuc number) = None

abbrev pub resource_of : PlainResource → Resource
resource_of given = record { format = format_of given.format; payload = given.payload.bytes.now }

-- there is room for something at this path: something is there, or the tree isn't full
abbrev pub HasRoom : Tree → List ℕ → Type 0
HasRoom tree path = map.contains_key tree path ≡ false → map.len tree < most_resources

-- these numbers and bytes are a value for a path, for which the tree has room
pub record FitsFirst (tree : Tree) (given : PlainResource) : Type 0 where
  pub size : given.size ≡ resource_size
  pub format : IsFormatNumber given.format
  pub path : IsPath given.path.bytes.now
  pub payload : length given.payload.bytes.now ≤ longest_payload
  pub room : HasRoom tree given.path.bytes.now

abbrev pub with_first : Tree → PlainResource → Tree
with_first tree given = map.insert tree given.path.bytes.now (resource_of given)

-- the tree with these, one after the other: of two for a path the later counts
abbrev pub with_all : Tree → List PlainResource → Tree
with_all tree [] = tree
with_all tree (given ∷ rest) = with_all (with_first tree given) rest

abbrev pub FitAll : Tree → List PlainResource → Type 0
FitAll tree [] = ⊤
FitAll tree (given ∷ rest) = FitsFirst tree given × FitAll (with_first tree given) rest

-- one of them doesn't fit, or there was no memory
abbrev pub IsUnfitOrWants : Type 0 → Outcome → Type 0
IsUnfitOrWants Fit outcome = ((outcome ≡ BadArgument) × ¬ Fit) ⊎ (outcome ≡ NoMemory)
