-- A path's text is UTF-8.
use Rattle.std.proofs.Common.{◌≡◌, ℕ, ◌<◌, true, List, [], ◌∷◌, ◌++◌, sym, subst, lit<}
use Rattle.std.specs.Str.{IsUtf8, is_utf8}
use Rattle.std.specs.List.{list_all}
use Rattle.std.proofs.lemmas.Bool.{and_parts}
use Rattle.std.proofs.lemmas.List.Elements.{All-nil, All-cons}
use Rattle.std.proofs.lemmas.Str.{IsUtf8-append, IsUtf8-nil, IsUtf8-from_ascii, IsUtf8-from_is_utf8}
use Rattle.std.proofs.lemmas.Str.Ascii.{IsAscii-from_all}
use Rattle.osc_model.specs.{is_segment, path_text, IsPath}

slash : IsUtf8 (47 ∷ [])
slash = IsUtf8-from_ascii (47 ∷ []) (IsAscii-from_all (47 ∷ []) (All-cons (λ b. b < 128) 47 [] (lit< tt) (All-nil (λ b. b < 128))))

segments_utf8 : (segments : List (List ℕ)) → list_all is_segment segments ≡ true → IsUtf8 (path_text segments)
segments_utf8 [] e = IsUtf8-nil
segments_utf8 (segment ∷ segments) e =
    let parts = and_parts (is_segment segment) (list_all is_segment segments) e in
    let text = IsUtf8-from_is_utf8 segment (and_parts _ (is_utf8 segment) parts.0).1 in
    IsUtf8-append (47 ∷ []) (segment ++ path_text segments) slash (IsUtf8-append segment (path_text segments) text (segments_utf8 segments parts.1))

pub path_utf8 : (text : List ℕ) → IsPath text → IsUtf8 text
path_utf8 text path = subst IsUtf8 (sym path.spelled) (segments_utf8 path.segments (and_parts _ (list_all is_segment path.segments) path.lawful).1)
