-- A path's text has one way to be cut into segments: at each `/`.
use Rattle.std.proofs.Common.{◌≡◌, ℕ, ◌<◌, Bool, true, false, cond, not, ◌&&◌, ◌||◌, ◌==◌, nat_lt, List, [], ◌∷◌, ◌++◌, ◌≢◌, ◌≤◌, ◌+◌, ◌*◌, map, Bor, get_or, subst, length, drop, append-nil, length-append, leb-true, arith, refl, sym, ap, ◌∙◌}
use Rattle.std.specs.List.{All, slice_split, onto_first, list_any, list_all, count_by}
use Rattle.std.proofs.lemmas.Bool.Decides.{nat_tests}
use Rattle.std.proofs.lemmas.List.{drop_more}
use Rattle.std.proofs.lemmas.List.Elements.{All-nil, All-cons}
use Rattle.std.proofs.lemmas.List.Splits.{slice_split_none, slice_split_at, length-slice_split}
use Rattle.osc_model.specs.{is_segment, are_segments, path_text, IsPath}

abbrev pub parts : List ℕ → List (List ℕ)
parts rest = slice_split (λ b. b == 47) rest

both : (x y : Bool) → (x && y) ≡ true → (x ≡ true) × (y ≡ true)
both true y e = (refl, e)
both false y e = cc

neither : (x y : Bool) → not (x || y) ≡ true → (x ≡ false) × (not y ≡ true)
neither true y e = cc
neither false y e = (refl, e)

none_found : (bytes : List ℕ) → not (list_any (λ b. b == 47) bytes) ≡ true → All (λ b. (b == 47) ≡ false) bytes
none_found [] e = All-nil _
none_found (b ∷ bytes) e = let each = neither (b == 47) _ e in All-cons (λ b. (b == 47) ≡ false) b bytes each.0 (none_found bytes each.1)

no_slash : (segment : List ℕ) → is_segment segment ≡ true → All (λ b. (b == 47) ≡ false) segment
no_slash segment lawful = none_found segment (both _ _ (both _ _ lawful).0).1

segments_back : (segment : List ℕ) (segments : List (List ℕ)) → list_all is_segment (segment ∷ segments) ≡ true → parts (segment ++ path_text segments) ≡ segment ∷ segments
segments_back segment [] lawful = ap parts (append-nil segment) ∙ slice_split_none (λ b. b == 47) segment (no_slash segment (both _ _ lawful).0)
segments_back segment (next ∷ segments) lawful =
    slice_split_at (λ b. b == 47) segment 47 (next ++ path_text segments) (no_slash segment (both _ _ lawful).0) refl
    ∙ ap (λ rest. segment ∷ rest) (segments_back next segments (both _ _ lawful).1)

-- after its first slash a path's text is cut into its segments
pub segments_again : (segments : List (List ℕ)) → are_segments segments ≡ true → parts (drop 1 (path_text segments)) ≡ segments
segments_again [] lawful = cc
segments_again (segment ∷ segments) lawful = segments_back segment segments (both _ _ lawful).1

text_more : (b : ℕ) (rest : List ℕ) (cut : List (List ℕ)) → path_text cut ≡ 47 ∷ rest → path_text (onto_first b cut) ≡ 47 ∷ b ∷ rest
text_more b rest [] e = cc
text_more b rest (part ∷ cut) e = ap (λ text. 47 ∷ b ∷ drop 1 text) e

text_next : (b : ℕ) (rest : List ℕ) (is_slash : Bool) → (b == 47) ≡ is_slash → path_text (parts rest) ≡ 47 ∷ rest → path_text (cond is_slash ([] ∷ parts rest) (onto_first b (parts rest))) ≡ 47 ∷ b ∷ rest
text_next b rest true e text = let same : b ≡ 47 = grind (arith, nat_tests) in ap (λ more. 47 ∷ more) text ∙ ap (λ c. 47 ∷ c ∷ rest) (sym same)
text_next b rest false e text = text_more b rest (parts rest) text

-- the parts spell the text
pub text_back : (rest : List ℕ) → path_text (parts rest) ≡ 47 ∷ rest
text_back [] = refl
text_back (b ∷ rest) = text_next b rest (b == 47) refl (text_back rest)

pub is_path_from_parts : (rest : List ℕ) → are_segments (parts rest) ≡ true → IsPath (47 ∷ rest)
is_path_from_parts rest lawful = record { segments = parts rest; lawful = lawful; spelled = sym (text_back rest) }

cut_of : (text : List ℕ) (segments : List (List ℕ)) → are_segments segments ≡ true → text ≡ path_text segments → (text ≡ 47 ∷ drop 1 text) × (are_segments (parts (drop 1 text)) ≡ true)
cut_of text [] lawful e = cc
cut_of text (segment ∷ segments) lawful e = (
  e ∙ ap (λ l. 47 ∷ drop 1 l) (sym e),
  ap (λ l. are_segments (parts (drop 1 l))) e ∙ ap are_segments (segments_back segment segments (both _ _ lawful).1) ∙ lawful,
)

-- a path's text begins with `/`, and its parts after that are segments
pub parts_from_is_path : (text : List ℕ) → IsPath text → (text ≡ 47 ∷ drop 1 text) × (are_segments (parts (drop 1 text)) ≡ true)
parts_from_is_path text path = cut_of text path.segments path.lawful path.spelled

-- there is one part more than there are slashes
pub few_slashes : (n : ℕ) (rest : List ℕ) (passed : Bool) → n ≡ count_by (λ b. b == 47) rest → n < 8 → passed ≡ list_all is_segment (parts rest) → passed ≡ are_segments (parts rest)
few_slashes n rest passed count few lawful = let more = length-slice_split (λ b. b == 47) rest in grind (arith, nat_tests)

pub many_slashes : (n : ℕ) (rest : List ℕ) → n ≡ count_by (λ b. b == 47) rest → 8 ≤ n → nat_lt n 8 ≡ are_segments (parts rest)
many_slashes n rest count many = let more = length-slice_split (λ b. b == 47) rest in grind (arith, nat_tests)

-- so a text that begins with `/` is a path's exactly where its parts after that are segments
pub decides_path : (text rest : List ℕ) (first : ℕ) (passed : Bool) → text ≡ first ∷ rest → first ≡ 47 → passed ≡ are_segments (parts rest) → (passed ≡ true → IsPath text) × (IsPath text → passed ≡ true)
decides_path text rest first passed e slash p = (
  (λ yes. subst IsPath (sym (e ∙ ap (λ b. b ∷ rest) slash)) (is_path_from_parts rest (sym p ∙ yes))),
  (λ path. p ∙ ap (λ l. are_segments (parts (drop 1 l))) (sym e) ∙ (parts_from_is_path text path).1),
)

pub decides_no_slash : (text rest : List ℕ) (first : ℕ) → text ≡ first ∷ rest → first ≢ 47 → ((first == 47) ≡ true → IsPath text) × (IsPath text → (first == 47) ≡ true)
decides_no_slash text rest first e other = (
  (λ yes. let same : first ≡ 47 = grind (arith, nat_tests) in absurd (other same)),
  (λ path. absurd (other (ap (λ l. get_or l 0 0) (sym e ∙ (parts_from_is_path text path).0)))),
)

false_is_not : (A : Type 0) → false ≡ true → A
false_is_not A e = cc

pub decides_empty : (text : List ℕ) → length text ≡ 0 → (false ≡ true → IsPath text) × (IsPath text → false ≡ true)
decides_empty [] e = (false_is_not (IsPath []), (λ path. let first : 0 ≡ 47 = ap (λ l. get_or l 0 0) (parts_from_is_path [] path).0 in cc))
decides_empty (b ∷ text) e = absurd (omega arith)

-- a path's text is short
short_segment : (segment : List ℕ) → is_segment segment ≡ true → length segment ≤ 32
short_segment segment lawful = leb-true (length segment) 32 (both _ _ (both _ _ (both _ _ lawful).0).0).1

short_text : (segments : List (List ℕ)) → list_all is_segment segments ≡ true → length (path_text segments) ≤ 33 * length segments
short_text [] lawful = omega arith
short_text (segment ∷ segments) lawful =
    let each : (is_segment segment ≡ true) × (list_all is_segment segments ≡ true) = both _ _ lawful in
    omega (arith, length-append segment (path_text segments), short_segment segment each.0, short_text segments each.1)

path_is_short : (segments : List (List ℕ)) → are_segments segments ≡ true → length (path_text segments) ≤ 264
path_is_short segments lawful =
    omega (arith, leb-true (length segments) 8 (both _ _ (both _ _ lawful).0).1, short_text segments (both _ _ lawful).1)

abbrev lent : List (Bor (List ℕ)) → List (List ℕ)
lent segments = map (λ s. s.now) segments

-- so is the text of some of its segments
pub length_stays : (segments : List (Bor (List ℕ))) (i : ℕ) (d : Bor (List ℕ)) (n : ℕ) → are_segments (lent segments) ≡ true → i < length segments
    → n + length (path_text (lent (drop i segments))) ≡ length (path_text (lent segments)) → n + (1 + length (get_or segments i d).now) ≤ 264
length_stays segments i d n lawful more sum =
    let next = get_or segments i d in
    let rest = path_text (lent (drop (i + 1) segments)) in
    let cut : length (path_text (lent (drop i segments))) ≡ length (47 ∷ (next.now ++ rest)) = ap (λ l. length (path_text (lent l))) (drop_more segments i d more) in
    let whole = path_is_short (lent segments) lawful in
    omega (arith, length-append next.now rest)
