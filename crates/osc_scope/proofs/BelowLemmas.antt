-- Which paths begin with all segments of another, by their texts.
use Rattle.std.proofs.Common.{◌≡◌, ◌≢◌, ℕ, Bool, true, false, not, ◌&&◌, ◌||◌, ◌==◌, List, [], ◌∷◌, ◌++◌, take, drop, length, append_assoc, refl, sym, ap, ◌∙◌, subst, bytes_eq}
use Rattle.std.specs.List.{list_any, list_all, slice_split}
use Rattle.std.specs.Cmp.{both_ways}
use Rattle.std.specs.Str.{is_utf8}
use Rattle.std.proofs.lemmas.Bool.{and_parts, both_ways as either}
use Rattle.std.proofs.lemmas.List.{append_cancel_left}
use Rattle.std.proofs.lemmas.Slice.Eq.{bytes_eq-Decides}
use Rattle.osc_model.specs.{is_segment, are_segments, path_text, segments_of, begins_with, IsPath}

-- nothing, or a further segment
abbrev pub is_end : List ℕ → Bool
is_end rest = list_all (λ b. b == 47) (take 1 rest)

abbrev has_slash : List ℕ → Bool
has_slash bytes = list_any (λ b. b == 47) bytes

-- ---- texts of segments

ends : (segments : List (List ℕ)) → is_end (path_text segments) ≡ true
ends [] = refl
ends (segment ∷ segments) = refl

ends_too : (segments : List (List ℕ)) (rest : List ℕ) → is_end rest ≡ true → is_end (path_text segments ++ rest) ≡ true
ends_too [] rest e = e
ends_too (segment ∷ segments) rest e = refl

or_parts : (a b : Bool) → (a || b) ≡ false → (a ≡ false) × (b ≡ false)
or_parts true b e = cc
or_parts false b e = (refl, e)

not_parts : (a : Bool) → not a ≡ true → a ≡ false
not_parts true e = cc
not_parts false e = refl

no_slash : (segment : List ℕ) → is_segment segment ≡ true → has_slash segment ≡ false
no_slash segment e = not_parts (has_slash segment) (and_parts _ (not (has_slash segment)) (and_parts _ (is_utf8 segment) e).0).1

-- what has no slash is cut off at the first one in one way
cut_once : (p t P Q : List ℕ) → has_slash p ≡ false → has_slash t ≡ false → is_end P ≡ true → is_end Q ≡ true → p ++ P ≡ t ++ Q → (p ≡ t) × (P ≡ Q)
cut_once [] [] P Q hp ht eP eQ e = (refl, e)
cut_once [] (b ∷ t) P Q hp ht eP eQ e =
    absurd (either (b == 47) (or_parts (b == 47) (has_slash t) ht).0 (and_parts (b == 47) true (subst (λ x. is_end x ≡ true) e eP)).0)
cut_once (b ∷ p) [] P Q hp ht eP eQ e =
    absurd (either (b == 47) (or_parts (b == 47) (has_slash p) hp).0 (and_parts (b == 47) true (subst (λ x. is_end x ≡ true) (sym e) eQ)).0)
cut_once (b ∷ p) (c ∷ t) P Q hp ht eP eQ e =
    let heads : b ≡ c = cc in
    let tails : p ++ P ≡ t ++ Q = cc in
    let more = cut_once p t P Q (or_parts (b == 47) (has_slash p) hp).1 (or_parts (c == 47) (has_slash t) ht).1 eP eQ tails in
    ((λ i. heads i ∷ more.0 i), more.1)

-- a text that goes on after that of segments has these first
begins : (ps ts : List (List ℕ)) (rest : List ℕ) → list_all is_segment ps ≡ true → list_all is_segment ts ≡ true → is_end rest ≡ true
    → path_text ps ≡ path_text ts ++ rest → begins_with ps ts ≡ true
begins ps [] rest hp ht end e = refl
begins [] (t ∷ ts) rest hp ht end e = cc
begins (p ∷ ps) (t ∷ ts) rest hp ht end e =
    let first = and_parts (is_segment p) (list_all is_segment ps) hp in
    let top = and_parts (is_segment t) (list_all is_segment ts) ht in
    let tails : p ++ path_text ps ≡ (t ++ path_text ts) ++ rest = cc in
    let parts = cut_once p t (path_text ps) (path_text ts ++ rest) (no_slash p first.0) (no_slash t top.0) (ends ps) (ends_too ts rest end)
    (tails ∙ append_assoc t (path_text ts) rest) in
    (λ i. (bytes_eq-Decides p t).1 parts.0 i && begins ps ts rest first.1 top.1 end parts.1 i)

goes_on : (ps ts : List (List ℕ)) → begins_with ps ts ≡ true → path_text ps ≡ path_text ts ++ path_text (drop (length ts) ps)
goes_on ps [] e = refl
goes_on [] (t ∷ ts) e = cc
goes_on (p ∷ ps) (t ∷ ts) e =
    let parts = and_parts (bytes_eq p t) (begins_with ps ts) e in
    (λ i. 47 ∷ ((bytes_eq-Decides p t).0 parts.0 i ++ goes_on ps ts parts.1 i))
    ∙ ap (λ more. 47 ∷ more) (sym (append_assoc t (path_text ts) (path_text (drop (length ts) ps))))

-- ---- texts of paths

-- What follows rests on a law of osc_model.
module _ (cut : (segments : List (List ℕ)) → are_segments segments ≡ true → slice_split (λ b. b == 47) (drop 1 (path_text segments)) ≡ segments) where
  own_segments : (text : List ℕ) (path : IsPath text) → segments_of text ≡ path.segments
  own_segments text path = ap segments_of path.spelled ∙ cut path.segments path.lawful

  same_segments : (text top : List ℕ) (path : IsPath text) (above : IsPath top)
      → begins_with (segments_of text) (segments_of top) ≡ begins_with path.segments above.segments
  same_segments text top path above = λ i. begins_with (own_segments text path i) (own_segments top above i)

  all_segments : (segments : List (List ℕ)) → are_segments segments ≡ true → list_all is_segment segments ≡ true
  all_segments segments lawful = (and_parts _ (list_all is_segment segments) lawful).1

  pub decides_below : (text top rest : List ℕ) → IsPath text → IsPath top → text ≡ top ++ rest → is_end rest ≡ begins_with (segments_of text) (segments_of top)
  decides_below text top rest path above e =
      let spelled : path_text path.segments ≡ path_text above.segments ++ rest = sym path.spelled ∙ e ∙ ap (λ t. t ++ rest) above.spelled in
      both_ways (is_end rest) (begins_with path.segments above.segments)
      (λ end. begins path.segments above.segments rest (all_segments path.segments path.lawful) (all_segments above.segments above.lawful) end spelled)
      (λ begun.
      let more = path_text (drop (length above.segments) path.segments) in
      ap is_end (append_cancel_left (path_text above.segments) rest more (sym spelled ∙ goes_on path.segments above.segments begun)) ∙ ends _)
      ∙ sym (same_segments text top path above)

  pub never_below : (text top : List ℕ) → IsPath text → IsPath top → ((rest : List ℕ) → text ≢ top ++ rest) → false ≡ begins_with (segments_of text) (segments_of top)
  never_below text top path above never =
      both_ways false (begins_with path.segments above.segments) (λ none. cc)
      (λ begun. absurd (never _ (path.spelled ∙ goes_on path.segments above.segments begun ∙ ap (λ t. t ++ path_text (drop (length above.segments) path.segments)) (sym above.spelled))))
      ∙ sym (same_segments text top path above)
