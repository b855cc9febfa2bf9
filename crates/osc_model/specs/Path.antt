-- Paths of resources, as their texts: what the Uri-Path options of a request name (RFC 7252 section 5.10.1).
use Rattle.std.specs.Prelude.{◌≡◌, ℕ, Bool, true, false, ◌&&◌, not, cond, List, [], ◌∷◌, ◌++◌, length, drop, bytes_eq, ◌==◌, nat_le, Option, Some, None}
use Rattle.std.specs.List.{list_any, list_all, slice_split}
use Rattle.std.specs.Ordering.{nat_cmp}
use Rattle.std.specs.Cmp.Lexicographic.{slice_cmp}
use Rattle.std.specs.declared.cmp.Ordering.{Ordering}
use Rattle.std.specs.Str.{is_utf8}

-- 1 to 32 bytes of UTF-8 without `/`
abbrev pub is_segment : List ℕ → Bool
is_segment bytes = nat_le 1 (length bytes) && nat_le (length bytes) 32 && not (list_any (λ b. b == 47) bytes) && is_utf8 bytes

-- 1 to 8 of them
abbrev pub are_segments : List (List ℕ) → Bool
are_segments segments = nat_le 1 (length segments) && nat_le (length segments) 8 && list_all is_segment segments

-- a `/` before each segment
abbrev pub path_text : List (List ℕ) → List ℕ
path_text [] = []
path_text (segment ∷ segments) = 47 ∷ (segment ++ path_text segments)

-- the text of a path
pub record IsPath (text : List ℕ) : Type 0 where
  pub segments : List (List ℕ)
  pub lawful : are_segments segments ≡ true
  pub spelled : text ≡ path_text segments

-- the path that these segments make, or none
abbrev pub path_of : List (List ℕ) → Option (List ℕ)
path_of segments = cond (are_segments segments) (Some (path_text segments)) None

-- the segments of a path's text: what is between its slashes
abbrev pub segments_of : List ℕ → List (List ℕ)
segments_of text = slice_split (λ b. b == 47) (drop 1 text)

-- whether a path's segments begin with all those of another: it is that path, or one below it
abbrev pub begins_with : List (List ℕ) → List (List ℕ) → Bool
begins_with segments [] = true
begins_with [] (top ∷ above) = false
begins_with (segment ∷ segments) (top ∷ above) = bytes_eq segment top && begins_with segments above

-- paths are ordered by the bytes of their texts
abbrev pub path_cmp : List ℕ → List ℕ → Ordering
path_cmp = slice_cmp nat_cmp
