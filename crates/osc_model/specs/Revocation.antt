-- Which tokens are revoked. A server may have a revocation path; a token is revoked where a resource is at that path with the
-- hexadecimal text of the token's id after it.
use Rattle.std.specs.Prelude.{ℕ, zero, suc, Bool, false, List, [], ◌∷◌, ◌++◌, length, take, drop, Option, option_and_then}
use Rattle.std.specs.Option.{option_map_or}
use Rattle.std.specs.FinMap as map
use Rattle.hex.specs.Hex.{encode_lower}
use Rattle.osc_model.specs.Path.{path_of, segments_of}
use Rattle.osc_model.specs.Tree.{Tree}

-- a text in pieces of 32 bytes, the last one with what is left; of an empty text there are none. At most this number of pieces is cut off.
unfoldable pub pieces : ℕ → List ℕ → List (List ℕ)
pieces zero text = []
pieces (suc more) [] = []
pieces (suc more) (byte ∷ text) = take 32 (byte ∷ text) ∷ pieces more (drop 32 (byte ∷ text))

-- the segments that an id's digits make, in lower case
abbrev pub id_segments : List ℕ → List (List ℕ)
id_segments id = pieces (length (encode_lower id)) (encode_lower id)

-- the path that stands for a token of this id below this revocation path, unless it would have too many segments
abbrev pub revoked_path : List ℕ → List ℕ → Option (List ℕ)
revoked_path root id = path_of (segments_of root ++ id_segments id)

-- the same of a server that may have a revocation path
abbrev pub revocation_of : Option (List ℕ) → List ℕ → Option (List ℕ)
revocation_of root id = option_and_then (λ path. revoked_path path id) root

-- whether a resource is at a path, if there is one
abbrev pub stands : Tree → Option (List ℕ) → Bool
stands tree path = option_map_or (map.contains_key tree) path false

-- whether a token of this id is revoked
abbrev pub is_revoked : Option (List ℕ) → Tree → List ℕ → Bool
is_revoked root tree id = stands tree (revocation_of root id)
