-- The text of a path is UTF-8.
use Rattle.std.proofs.Common.{◌≡◌, ◌∷◌, [], ◌++◌, List, ℕ, true, refl, subst, sym}
use Rattle.std.specs.List.{list_all}
use Rattle.std.specs.Char.{encode_utf8}
use Rattle.std.specs.Str.{IsUtf8, chars, is_utf8}
use Rattle.std.proofs.lemmas.Bool.{and_parts}
use Rattle.std.proofs.lemmas.Str.{IsUtf8-append, IsUtf8-from_is_utf8, IsUtf8-nil}
use Rattle.osc_model.specs.Path.{IsPath, is_segment, path_text}

slash_is_utf8 : IsUtf8 (47 ∷ [])
unfolding is_utf8 chars encode_utf8
slash_is_utf8 = IsUtf8-from_is_utf8 (47 ∷ []) refl

segment_is_utf8 : (segment : List ℕ) → is_segment segment ≡ true → IsUtf8 segment
segment_is_utf8 segment lawful = IsUtf8-from_is_utf8 segment (and_parts _ _ lawful).1

all_are_utf8 : (segments : List (List ℕ)) → list_all is_segment segments ≡ true → IsUtf8 (path_text segments)
all_are_utf8 [] all = IsUtf8-nil
all_are_utf8 (segment ∷ segments) all =
    let parts = and_parts (is_segment segment) (list_all is_segment segments) all in
    IsUtf8-append (47 ∷ []) (segment ++ path_text segments) slash_is_utf8
    (IsUtf8-append segment (path_text segments) (segment_is_utf8 segment parts.0) (all_are_utf8 segments parts.1))

pub path_is_utf8 : (text : List ℕ) → IsPath text → IsUtf8 text
path_is_utf8 text path =
    subst IsUtf8 (sym path.spelled) (all_are_utf8 path.segments (and_parts _ _ path.lawful).1)
