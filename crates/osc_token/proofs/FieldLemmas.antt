-- Maps whose keys are rising numbers, of which some may be left out.
use Rattle.std.proofs.Common.{◌≡◌, ◌≢◌, inl, inr, ℕ, suc, ◌≤◌, ◌<◌, ◌^◌, Bool, true, ◌&&◌, nat_eq, nat_le, if◌then◌else◌, List, [], ◌∷◌, length, Option, Some, None, refl, sym, ◌∙◌, arith}
use Rattle.std.specs.Option.{IfSome}
use Rattle.std.proofs.Math.Nat.{max-le}
use Rattle.std.proofs.lemmas.Bool.{false≢true, and_parts, leb-true, eqb-true, eq-eqb, ne_eqb, cond-true, cond-false, cases_Bool}
use Rattle.osc_cbor.specs.{DataItem, unsigned, map, Pairs, no_pairs, pair, pair_count, HasKey, HasOwnKeys, value_under, nesting, pairs_nesting, HasSpelling, PairsHaveSpellings}

-- a label, and the value under it, if it is there
abbrev pub Field : Type 0
Field = ℕ × Option DataItem

abbrev pub optional : ℕ → Option DataItem → Pairs → Pairs
optional label None others = others
optional label (Some v) others = pair (unsigned label) v others

abbrev pub fields : List Field → Pairs
fields [] = no_pairs
fields (f ∷ fs) = optional f.0 f.1 (fields fs)

-- the labels rise, from this one on
abbrev pub rising : ℕ → List Field → Bool
rising n [] = true
rising n (f ∷ fs) = nat_le n f.0 && rising (suc f.0) fs

abbrev pub look : ℕ → List Field → Option DataItem
look label [] = None
look label (f ∷ fs) = if nat_eq label f.0 then f.1 else look label fs

-- ---- values

other_value : (l m : ℕ) (v : Option DataItem) (ps : Pairs) → l ≢ m → value_under l (optional m v ps) ≡ value_under l ps
other_value l m None ps ne = refl
other_value l m (Some v) ps ne = cond-false (nat_eq l m) (Some v) (value_under l ps) (ne_eqb l m ne)

own_value : (l m : ℕ) (v : Option DataItem) (ps : Pairs) → l ≡ m → value_under l ps ≡ None → value_under l (optional m v ps) ≡ v
own_value l m None ps e none = none
own_value l m (Some v) ps e none = cond-true (nat_eq l m) (Some v) (value_under l ps) (eq-eqb l m e)

absent : (l n : ℕ) (fs : List Field) → rising n fs ≡ true → l < n → value_under l (fields fs) ≡ None
absent l n [] r lt = refl
absent l n (f ∷ fs) r lt =
    let p = and_parts (nat_le n f.0) (rising (suc f.0) fs) r in
    let le = leb-true n f.0 p.0 in
    other_value l f.0 f.1 (fields fs) (omega (arith, le)) ∙ absent l (suc f.0) fs p.1 (omega (arith, le))

pub value_at : (l n : ℕ) (fs : List Field) → rising n fs ≡ true → value_under l (fields fs) ≡ look l fs
value_at l n [] r = refl
value_at l n (f ∷ fs) r =
    let p = and_parts (nat_le n f.0) (rising (suc f.0) fs) r in
    elim (cases_Bool (nat_eq l f.0)) [
      | inl e ↦
          let same = eqb-true l f.0 e in
          own_value l f.0 f.1 (fields fs) same (absent l (suc f.0) fs p.1 (omega (arith, same)))
          ∙ sym (cond-true (nat_eq l f.0) f.1 (look l fs) e)
      | inr e ↦
          other_value l f.0 f.1 (fields fs) (λ same. false≢true (sym e ∙ eq-eqb l f.0 same))
          ∙ value_at l (suc f.0) fs p.1
          ∙ sym (cond-false (nat_eq l f.0) f.1 (look l fs) e)
    ]

-- ---- keys

other_key : (l m : ℕ) (v : Option DataItem) (ps : Pairs) → l ≢ m → HasKey (unsigned l) (optional m v ps) → HasKey (unsigned l) ps
other_key l m None ps ne k = k
other_key l m (Some v) ps ne (inl e) = let same : l ≡ m = cc in absurd (ne same)
other_key l m (Some v) ps ne (inr k) = k

no_key : (l n : ℕ) (fs : List Field) → rising n fs ≡ true → l < n → ¬ HasKey (unsigned l) (fields fs)
no_key l n [] r lt k = k
no_key l n (f ∷ fs) r lt k =
    let p = and_parts (nat_le n f.0) (rising (suc f.0) fs) r in
    let le = leb-true n f.0 p.0 in
    no_key l (suc f.0) fs p.1 (omega (arith, le)) (other_key l f.0 f.1 (fields fs) (omega (arith, le)) k)

one_key : (l : ℕ) (v : Option DataItem) (ps : Pairs) → ¬ HasKey (unsigned l) ps → HasOwnKeys ps → HasOwnKeys (optional l v ps)
one_key l None ps absent own = own
one_key l (Some v) ps absent own = (absent, own)

own_keys : (n : ℕ) (fs : List Field) → rising n fs ≡ true → HasOwnKeys (fields fs)
own_keys n [] r = tt
own_keys n (f ∷ fs) r =
    let p = and_parts (nat_le n f.0) (rising (suc f.0) fs) r in
    one_key f.0 f.1 (fields fs) (no_key f.0 (suc f.0) fs p.1 (omega arith)) (own_keys (suc f.0) fs p.1)

-- ---- spellings

-- it has a spelling, and isn't nested deeper than this
abbrev pub IsSpelled : ℕ → DataItem → Type 0
IsSpelled k d = HasSpelling d × (nesting d ≤ k)

abbrev pub AreSpelled : ℕ → List Field → Type 0
AreSpelled k [] = Unit {0}
AreSpelled k (f ∷ fs) = (f.0 < 2 ^ 64) × IfSome f.1 (IsSpelled k) × AreSpelled k fs

record PairsAreSpelled (k count : ℕ) (ps : Pairs) : Type 0 where
  spelled : PairsHaveSpellings ps
  shallow : pairs_nesting ps ≤ suc k
  fewer : pair_count ps ≤ count

one_spelled : (k count l : ℕ) (v : Option DataItem) (ps : Pairs) → l < 2 ^ 64 → IfSome v (IsSpelled k) → PairsAreSpelled k count ps
    → PairsAreSpelled k (suc count) (optional l v ps)
one_spelled k count l None ps lt is others = record { spelled = others.spelled; shallow = others.shallow; fewer = omega (arith, others.fewer) }
one_spelled k count l (Some v) ps lt is others = record {
  spelled = (lt, is.0, others.spelled);
  shallow = max-le (omega arith) (max-le (omega (arith, is.1)) others.shallow);
  fewer = omega (arith, others.fewer);
}

pairs_spelled : (k : ℕ) (fs : List Field) → AreSpelled k fs → PairsAreSpelled k (length fs) (fields fs)
pairs_spelled k [] are = record { spelled = tt; shallow = omega arith; fewer = omega arith }
pairs_spelled k (f ∷ fs) are = one_spelled k (length fs) f.0 f.1 (fields fs) are.0 are.1 (pairs_spelled k fs are.2)

pub are_spelled : (n k : ℕ) (fs : List Field) → rising n fs ≡ true → length fs < 2 ^ 64 → AreSpelled k fs → IsSpelled (suc k) (map (fields fs))
are_spelled n k fs r lt are =
    let all = pairs_spelled k fs are in
    ((own_keys n fs r, omega (arith, all.fewer), all.spelled), all.shallow)
