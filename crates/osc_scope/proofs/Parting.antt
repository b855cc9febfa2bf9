-- Texts that are parted by a byte, and cut at it again.
use Rattle.std.proofs.Common.{◌≡◌, ◌≢◌, ℕ, ◌==◌, Bool, true, false, cond, List, [], ◌∷◌, ◌++◌, refl, sym, ap, ◌∙◌, append_assoc, eqb-true, eq-eqb}
use Rattle.std.specs.List.{All, slice_split, onto_first, join_with_byte}
use Rattle.std.proofs.lemmas.Bool.{false≢true}
use Rattle.std.proofs.lemmas.List.Elements.{All-nil, All-cons, All-head, All-tail, All-append, All-push, All-weaker}
use Rattle.std.proofs.lemmas.List.Splits.{slice_split_none, slice_split_at, join_with_byte-slice_split}
use Rattle.osc_scope.specs.{parted_by}

abbrev pub Lacks : ℕ → List ℕ → Type 0
Lacks byte text = All (λ b. b ≢ byte) text

abbrev pub cut : ℕ → List ℕ → List (List ℕ)
cut byte text = slice_split (λ b. b == byte) text

-- ---- parts, parted and cut again

differs : (a b : ℕ) → a ≢ b → (a == b) ≡ false
differs a b h = go (a == b) refl
  where
    go : (r : Bool) → (a == b) ≡ r → (a == b) ≡ false
    go true e = absurd (h (eqb-true a b e))
    go false e = e

no_test : (byte : ℕ) (text : List ℕ) → Lacks byte text → All (λ b. (b == byte) ≡ false) text
no_test byte text h = All-weaker (λ b. b ≢ byte) (λ b. (b == byte) ≡ false) (λ b. differs b byte) text h

pub cut_parted : (byte : ℕ) (part : List ℕ) (parts : List (List ℕ)) → All (Lacks byte) (part ∷ parts) → cut byte (parted_by byte (part ∷ parts)) ≡ part ∷ parts
cut_parted byte part [] h = slice_split_none (λ b. b == byte) part (no_test byte part (All-head (Lacks byte) part [] h))
cut_parted byte part (next ∷ parts) h =
    slice_split_at (λ b. b == byte) part byte (parted_by byte (next ∷ parts)) (no_test byte part (All-head (Lacks byte) part (next ∷ parts) h)) (eq-eqb byte byte refl)
    ∙ ap (λ rest. part ∷ rest) (cut_parted byte next parts (All-tail (Lacks byte) part (next ∷ parts) h))

pub parts_back : (byte : ℕ) (parts : List (List ℕ)) → parts ≢ [] → All (Lacks byte) parts → cut byte (parted_by byte parts) ≡ parts
parts_back byte [] some h = absurd (some refl)
parts_back byte (part ∷ parts) some h = cut_parted byte part parts h

-- one part more
pub parted_more : (byte : ℕ) (parts : List (List ℕ)) (last : List ℕ) → parts ≢ [] → parted_by byte (parts ++ last ∷ []) ≡ parted_by byte parts ++ byte ∷ last
parted_more byte [] last some = absurd (some refl)
parted_more byte (part ∷ []) last some = refl
parted_more byte (part ∷ next ∷ parts) last some =
    ap (λ rest. part ++ byte ∷ rest) (parted_more byte (next ∷ parts) last (λ none. cc))
    ∙ sym (append_assoc part (byte ∷ parted_by byte (next ∷ parts)) (byte ∷ last))

-- ---- a text, cut and parted again

joined : (byte : ℕ) (parts : List (List ℕ)) → parted_by byte parts ≡ join_with_byte byte parts
joined byte [] = refl
joined byte (part ∷ []) = refl
joined byte (part ∷ next ∷ parts) = ap (λ rest. part ++ byte ∷ rest) (joined byte (next ∷ parts))

pub parted_cut : (byte : ℕ) (text : List ℕ) → parted_by byte (cut byte text) ≡ text
parted_cut byte text = joined byte (cut byte text) ∙ join_with_byte-slice_split byte text

lacking : (byte b : ℕ) (parts : List (List ℕ)) → b ≢ byte → All (Lacks byte) parts → All (Lacks byte) (onto_first b parts)
lacking byte b [] other h = All-cons (Lacks byte) (b ∷ []) [] (All-cons (λ x. x ≢ byte) b [] other (All-nil (λ x. x ≢ byte))) (All-nil (Lacks byte))
lacking byte b (part ∷ parts) other h =
    All-cons (Lacks byte) (b ∷ part) parts (All-cons (λ x. x ≢ byte) b part other (All-head (Lacks byte) part parts h)) (All-tail (Lacks byte) part parts h)

-- the parts are without the byte
pub parts_lack : (byte : ℕ) (text : List ℕ) → All (Lacks byte) (cut byte text)
parts_lack byte [] = All-cons (Lacks byte) [] [] (All-nil (λ x. x ≢ byte)) (All-nil (Lacks byte))
parts_lack byte (b ∷ text) = go (b == byte) refl (parts_lack byte text)
  where
    go : (r : Bool) → (b == byte) ≡ r → All (Lacks byte) (cut byte text) → All (Lacks byte) (cond r ([] ∷ cut byte text) (onto_first b (cut byte text)))
    go true e rest = All-cons (Lacks byte) [] (cut byte text) (All-nil (λ x. x ≢ byte)) rest
    go false e rest = lacking byte b (cut byte text) (λ same. false≢true (sym e ∙ eq-eqb b byte same)) rest

-- there is one at least
pub some_part : (byte : ℕ) (text : List ℕ) → cut byte text ≢ []
some_part byte [] e = cc
some_part byte (b ∷ text) e = go (b == byte) (cut byte text) e
  where
    go : (r : Bool) (parts : List (List ℕ)) → cond r ([] ∷ parts) (onto_first b parts) ≢ []
    go true parts e = cc
    go false [] e = cc
    go false (part ∷ parts) e = cc

-- a text with one part more at its end is cut so
pub cut_more : (byte : ℕ) (text last : List ℕ) → Lacks byte last → cut byte (text ++ byte ∷ last) ≡ cut byte text ++ last ∷ []
cut_more byte text last h =
    let parts = cut byte text in
    ap (cut byte) (ap (λ front. front ++ byte ∷ last) (sym (parted_cut byte text)) ∙ sym (parted_more byte parts last (some_part byte text)))
    ∙ parts_back byte (parts ++ last ∷ []) (not_empty parts) (All-push (Lacks byte) parts last (parts_lack byte text) h)
  where
    not_empty : (xs : List (List ℕ)) → xs ++ last ∷ [] ≢ []
    not_empty [] e = cc
    not_empty (x ∷ xs) e = cc

-- ---- the first such byte

-- a text is cut at it in one way
pub one_cut : (byte : ℕ) (p q x y : List ℕ) → Lacks byte p → Lacks byte q → p ++ byte ∷ x ≡ q ++ byte ∷ y → (p ≡ q) × (x ≡ y)
one_cut byte [] [] x y hp hq e = (refl, cc)
one_cut byte [] (b ∷ q) x y hp hq e = absurd (All-head (λ c. c ≢ byte) b q hq cc)
one_cut byte (a ∷ p) [] x y hp hq e = absurd (All-head (λ c. c ≢ byte) a p hp cc)
one_cut byte (a ∷ p) (b ∷ q) x y hp hq e =
    let rest = one_cut byte p q x y (All-tail (λ c. c ≢ byte) a p hp) (All-tail (λ c. c ≢ byte) b q hq) cc in
    (cc, rest.1)

pub not_lacking : (byte : ℕ) (p x : List ℕ) → Lacks byte (p ++ byte ∷ x) → ⊥
not_lacking byte [] x h = All-head (λ c. c ≢ byte) byte x h refl
not_lacking byte (a ∷ p) x h = not_lacking byte p x (All-tail (λ c. c ≢ byte) a (p ++ byte ∷ x) h)

pub first_lacks : (byte : ℕ) (p x : List ℕ) → Lacks byte (p ++ x) → Lacks byte p
first_lacks byte [] x h = All-nil (λ c. c ≢ byte)
first_lacks byte (a ∷ p) x h = All-cons (λ c. c ≢ byte) a p (All-head (λ c. c ≢ byte) a (p ++ x) h) (first_lacks byte p x (All-tail (λ c. c ≢ byte) a (p ++ x) h))

pub parted_lacks : (byte separator : ℕ) (parts : List (List ℕ)) → separator ≢ byte → All (Lacks byte) parts → Lacks byte (parted_by separator parts)
parted_lacks byte separator [] other h = All-nil (λ c. c ≢ byte)
parted_lacks byte separator (part ∷ []) other h = All-head (Lacks byte) part [] h
parted_lacks byte separator (part ∷ next ∷ parts) other h =
    All-append (λ c. c ≢ byte) part (separator ∷ parted_by separator (next ∷ parts)) (All-head (Lacks byte) part (next ∷ parts) h)
    (All-cons (λ c. c ≢ byte) separator (parted_by separator (next ∷ parts)) other
    (parted_lacks byte separator (next ∷ parts) other (All-tail (Lacks byte) part (next ∷ parts) h)))
