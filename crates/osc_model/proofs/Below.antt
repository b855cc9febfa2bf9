-- Which paths begin with all segments of another.
use Rattle.std.proofs.Common.{◌≡◌, ◌≢◌, ℕ, Bool, true, false, cond, ◌&&◌, ◌||◌, ◌==◌, List, [], ◌∷◌, ◌++◌, take, drop, length, append-nil, append_assoc, refl, sym, ap, ◌∙◌, subst, bytes_eq, eqb-true}
use Rattle.std.specs.List.{onto_first, list_all}
use Rattle.std.proofs.lemmas.Bool.{and_parts}
use Rattle.std.proofs.lemmas.List.{append_cancel_left}
use Rattle.std.proofs.lemmas.Slice.Eq.{bytes_eq-Decides}
use Rattle.osc_model.specs.{path_text, segments_of, begins_with, IsPath, is_reached}
use Rattle.osc_model.proofs.Members.{or_true, both_ways}
use Rattle.osc_model.proofs.Segments.{parts, text_back, parts_from_is_path}

-- ---- segments that begin with others

pub begins_itself : (xs more : List (List ℕ)) → begins_with (xs ++ more) xs ≡ true
begins_itself [] more = refl
begins_itself (x ∷ xs) more = (λ i. (bytes_eq-Decides x x).1 refl i && begins_itself xs more i)

-- where one list begins with another, the rest follows
pub rest_of : (xs ys : List (List ℕ)) → begins_with xs ys ≡ true → xs ≡ ys ++ drop (length ys) xs
rest_of xs [] e = refl
rest_of [] (y ∷ ys) e = cc
rest_of (x ∷ xs) (y ∷ ys) e =
    let parts = and_parts (bytes_eq x y) (begins_with xs ys) e in
    λ i. (bytes_eq-Decides x y).0 parts.0 i ∷ rest_of xs ys parts.1 i

-- of two with which a third begins, one begins with the other
two_begin : (xs ys zs : List (List ℕ)) → begins_with xs ys ≡ true → begins_with xs zs ≡ true → (begins_with zs ys || begins_with ys zs) ≡ true
two_begin xs [] zs here there = refl
two_begin xs (y ∷ ys) [] here there = or_true (begins_with [] (y ∷ ys))
two_begin [] (y ∷ ys) (z ∷ zs) here there = cc
two_begin (x ∷ xs) (y ∷ ys) (z ∷ zs) here there =
    let one = and_parts (bytes_eq x y) (begins_with xs ys) here in
    let other = and_parts (bytes_eq x z) (begins_with xs zs) there in
    let y_is : x ≡ y = (bytes_eq-Decides x y).0 one.0 in
    let z_is : x ≡ z = (bytes_eq-Decides x z).0 other.0 in
    (λ i. ((bytes_eq-Decides z y).1 (sym z_is ∙ y_is) i && begins_with zs ys) || ((bytes_eq-Decides y z).1 (sym y_is ∙ z_is) i && begins_with ys zs))
    ∙ two_begin xs ys zs one.1 other.1

-- ---- texts that begin with others

-- nothing, or a further segment
abbrev pub is_end : List ℕ → Bool
is_end rest = list_all (λ b. b == 47) (take 1 rest)

onto_more : (b : ℕ) (xs ys : List (List ℕ)) → xs ≢ [] → onto_first b (xs ++ ys) ≡ onto_first b xs ++ ys
onto_more b [] ys some = absurd (some refl)
onto_more b (x ∷ xs) ys some = refl

some_part : (text : List ℕ) → parts text ≢ []
some_part [] e = cc
some_part (b ∷ text) e = go (b == 47) (parts text) e
  where
    go : (r : Bool) (cut : List (List ℕ)) → cond r ([] ∷ cut) (onto_first b cut) ≢ []
    go true cut e = cc
    go false [] e = cc
    go false (part ∷ cut) e = cc

-- a text that goes on with a `/` has further parts
more_parts : (text rest : List ℕ) → parts (text ++ 47 ∷ rest) ≡ parts text ++ parts rest
more_parts [] rest = refl
more_parts (b ∷ text) rest = go (b == 47) (more_parts text rest)
  where
    go : (r : Bool) → parts (text ++ 47 ∷ rest) ≡ parts text ++ parts rest
        → cond r ([] ∷ parts (text ++ 47 ∷ rest)) (onto_first b (parts (text ++ 47 ∷ rest))) ≡ cond r ([] ∷ parts text) (onto_first b (parts text)) ++ parts rest
    go true e = ap (λ more. [] ∷ more) e
    go false e = ap (onto_first b) e ∙ onto_more b (parts text) (parts rest) (some_part text)

begins_on : (text rest : List ℕ) → is_end rest ≡ true → begins_with (parts (text ++ rest)) (parts text) ≡ true
begins_on text [] end =
    subst (λ cut. begins_with cut (parts text) ≡ true) (append-nil (parts text) ∙ ap parts (sym (append-nil text))) (begins_itself (parts text) [])
begins_on text (b ∷ rest) end =
    let slash : b ≡ 47 = eqb-true b 47 (and_parts (b == 47) true end).0 in
    subst (λ cut. begins_with cut (parts text) ≡ true) (sym (more_parts text rest) ∙ ap (λ c. parts (text ++ c ∷ rest)) (sym slash)) (begins_itself (parts text) (parts rest))

texts_append : (xs ys : List (List ℕ)) → path_text (xs ++ ys) ≡ path_text xs ++ path_text ys
texts_append [] ys = refl
texts_append (x ∷ xs) ys = ap (λ more. 47 ∷ (x ++ more)) (texts_append xs ys) ∙ ap (λ more. 47 ∷ more) (sym (append_assoc x (path_text xs) (path_text ys)))

ends : (segments : List (List ℕ)) → is_end (path_text segments) ≡ true
ends [] = refl
ends (segment ∷ segments) = refl

-- a path's text is that of its parts
pub spells : (text : List ℕ) → IsPath text → path_text (segments_of text) ≡ text
spells text path = text_back (drop 1 text) ∙ sym (parts_from_is_path text path).0

-- where a path begins with the segments of another, its text goes on after the other's with nothing or a `/`
goes_on : (text top : List ℕ) → IsPath text → IsPath top → begins_with (segments_of text) (segments_of top) ≡ true
    → text ≡ top ++ path_text (drop (length (segments_of top)) (segments_of text))
goes_on text top path above e =
    sym (spells text path)
    ∙ ap path_text (rest_of (segments_of text) (segments_of top) e)
    ∙ texts_append (segments_of top) _
    ∙ ap (λ front. front ++ path_text (drop (length (segments_of top)) (segments_of text))) (spells top above)

pub decides_below : (text top rest : List ℕ) → IsPath text → IsPath top → text ≡ top ++ rest → is_end rest ≡ begins_with (segments_of text) (segments_of top)
decides_below text top rest path above e =
    both_ways (is_end rest) (begins_with (segments_of text) (segments_of top))
    (λ end.
    let behind : drop 1 text ≡ drop 1 top ++ rest = ap (drop 1) (e ∙ ap (λ front. front ++ rest) (parts_from_is_path top above).0) in
    subst (λ cut. begins_with cut (segments_of top) ≡ true) (ap parts (sym behind)) (begins_on (drop 1 top) rest end))
    (λ begun.
    let more = path_text (drop (length (segments_of top)) (segments_of text)) in
    let same : rest ≡ more = append_cancel_left top rest more (sym e ∙ goes_on text top path above begun) in
    ap is_end same ∙ ends _)

pub never_below : (text top : List ℕ) → IsPath text → IsPath top → ((rest : List ℕ) → text ≢ top ++ rest) → false ≡ begins_with (segments_of text) (segments_of top)
never_below text top path above never =
    both_ways false (begins_with (segments_of text) (segments_of top)) (λ none. cc) (λ begun. absurd (never _ (goes_on text top path above begun)))

-- ---- paths in common

pub reaches_itself : (top : List ℕ) (below : Bool) → is_reached top below top ≡ true
reaches_itself top true = subst (λ cut. begins_with cut (segments_of top) ≡ true) (append-nil (segments_of top)) (begins_itself (segments_of top) [])
reaches_itself top false = (bytes_eq-Decides top top).1 refl

pub one_reaches : (top other : List ℕ) (below others_below : Bool) (path : List ℕ)
    → is_reached top below path ≡ true → is_reached other others_below path ≡ true
    → (is_reached top below other || is_reached other others_below top) ≡ true
one_reaches top other false others_below path here there =
    let same : path ≡ top = (bytes_eq-Decides path top).0 here in
    ap (λ b. is_reached top false other || b) (subst (λ p. is_reached other others_below p ≡ true) same there) ∙ or_true (is_reached top false other)
one_reaches top other true false path here there =
    let same : path ≡ other = (bytes_eq-Decides path other).0 there in
    ap (λ b. b || is_reached other false top) (subst (λ p. is_reached top true p ≡ true) same here)
one_reaches top other true true path here there = two_begin (segments_of path) (segments_of top) (segments_of other) here there
