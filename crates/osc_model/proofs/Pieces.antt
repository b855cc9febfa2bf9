-- A text in pieces.
use Rattle.std.proofs.Common.{true, append-nil, ◌≡◌, ◌-◌, ◌≤◌, ◌<◌, ◌++◌, ◌∷◌, [], ℕ, zero, suc, List, length, take, drop, min, map, Bor, arith, refl, sym, ap, ◌∙◌}
use Rattle.std.proofs.lemmas.List.{append_assoc, length-drop, map-append, take_all, take_min}
use Rattle.osc_model.specs.{IsPath, path_text, are_segments, pieces}

-- two limits that are both enough for a text give the same pieces
pub enough : (n m : ℕ) (text : List ℕ) → length text ≤ n → length text ≤ m → pieces n text ≡ pieces m text
unfolding pieces
enough zero zero text _ _ = refl
enough zero (suc m) [] _ _ = refl
enough zero (suc m) (byte ∷ text) short _ = absurd (omega (arith, short))
enough (suc n) zero [] _ _ = refl
enough (suc n) zero (byte ∷ text) _ short = absurd (omega (arith, short))
enough (suc n) (suc m) [] _ _ = refl
enough (suc n) (suc m) (byte ∷ text) a b =
    let left = length-drop 32 (byte ∷ text) in
    ap (λ more. take 32 (byte ∷ text) ∷ more) (enough n m (drop 32 (byte ∷ text)) (omega (arith, a, left)) (omega (arith, b, left)))

-- the first piece, and those of the rest
pub one_more : (text : List ℕ) → 0 < length text → pieces (length text) text ≡ take 32 text ∷ pieces (length (drop 32 text)) (drop 32 text)
unfolding pieces
one_more [] some = absurd (omega (arith, some))
one_more (byte ∷ text) some =
    let left = length-drop 32 (byte ∷ text) in
    ap (λ more. take 32 (byte ∷ text) ∷ more) (enough (length text) (length (drop 32 (byte ∷ text))) (drop 32 (byte ∷ text)) (omega (arith, left)) (omega arith))

-- once a piece is pushed, those of the rest are still to come
pub pushed : (segments : List (Bor (List ℕ))) (piece : Bor (List ℕ)) (rest more : List ℕ) → 0 < length rest
    → piece.now ≡ take (min 32 (length rest)) rest → more ≡ drop (min 32 (length rest)) rest → drop (min 32 (length rest)) rest ≡ drop 32 rest
    → map (λ segment. segment.now) (segments ++ piece ∷ []) ++ pieces (length more) more ≡ map (λ segment. segment.now) segments ++ pieces (length rest) rest
pushed segments piece rest more some piece_is more_is same =
    ap (λ front. front ++ pieces (length more) more) (map-append (λ (segment : Bor (List ℕ)). segment.now) segments (piece ∷ []))
    ∙ append_assoc (map (λ (segment : Bor (List ℕ)). segment.now) segments) (piece.now ∷ []) (pieces (length more) more)
    ∙ ap (λ first. map (λ (segment : Bor (List ℕ)). segment.now) segments ++ first ∷ pieces (length more) more) (piece_is ∙ take_min 32 rest)
    ∙ ap (λ last. map (λ (segment : Bor (List ℕ)). segment.now) segments ++ take 32 rest ∷ pieces (length last) last) (more_is ∙ same)
    ∙ ap (λ all. map (λ (segment : Bor (List ℕ)). segment.now) segments ++ all) (sym (one_more rest some))

some_text : (text : List ℕ) (segments : List (List ℕ)) → are_segments segments ≡ true → text ≡ path_text segments → 1 ≤ length text
some_text text [] lawful e = cc
some_text text (segment ∷ segments) lawful e = omega (arith, ap length e)

-- a path's text has a byte
pub some_path : (text : List ℕ) → IsPath text → 1 ≤ length text
some_path text path = some_text text path.segments path.lawful path.spelled

-- what a range from the second byte on lends
pub behind_first : (text : List ℕ) → take (length text - 1) (drop 1 text) ≡ drop 1 text
behind_first text = take_all (length text - 1) (drop 1 text) (omega (arith, length-drop 1 text))

-- once nothing is left, all pieces were added
pub finished : (added all : List (List ℕ)) (rest : List ℕ) → length rest ≡ 0 → added ++ pieces (length rest) rest ≡ all → added ≡ all
unfolding pieces
finished added all [] over is = sym (append-nil added) ∙ is
finished added all (byte ∷ rest) over is = absurd (omega (arith, over))
