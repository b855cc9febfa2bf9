-- Claims have a spelling, whatever the lengths of their parts.
use Rattle.std.proofs.Common.{◌≡◌, ℕ, ◌+◌, ◌<◌, ◌≤◌, ◌^◌, List, [], ◌∷◌, length, Option, Some, None, refl, ◌∙◌, inl, inr, arith}
use Rattle.std.specs.Option.{ForSome}
use Rattle.osc_model.specs.declared.algorithm.Algorithm.{Algorithm}
use Rattle.osc_model.specs.declared.algorithm.Algorithm.TheVariants.{EightByteTag, SixteenByteTag}
use Rattle.osc_cbor.specs.{DataItem, unsigned, byte_string, text_string, map, Pairs, no_pairs, pair, pair_count, HasKey, HasOwnKeys, HasSpelling, PairsHaveSpellings}
use Rattle.osc_cose.specs.{parameter}
use Rattle.osc_token.specs.{date, alg_field, salt_field, material_item, claims_item, FitTheirTypes}
use Rattle.osc_token.specs.declared.claims.Claims.{Claims}
use Rattle.osc_token.specs.declared.claims.InputMaterial.{InputMaterial}

-- ---- pairs whose keys rise

-- each key is a number above this one
abbrev AreAbove : ℕ → Pairs → Type 0
AreAbove n no_pairs = Unit {0}
AreAbove n (pair k v ps) = (m : ℕ) × (k ≡ unsigned m) × (n < m) × AreAbove n ps

lower : (n m : ℕ) (ps : Pairs) → n < m → AreAbove m ps → AreAbove n ps
lower n m no_pairs lt above = tt
lower n m (pair k v ps) lt above = (above.0, above.1, omega (arith, above.2), lower n m ps lt above.3)

same_number : (m n : ℕ) → unsigned m ≡ unsigned n → m ≡ n
same_number m n e = cc

absent : (n : ℕ) (ps : Pairs) → AreAbove n ps → HasKey (unsigned n) ps → ⊥
absent n no_pairs above has = absurd has
absent n (pair k v ps) above (inl e) = let same : n ≡ above.0 = same_number n above.0 (e ∙ above.1) in omega (arith, above.2, same)
absent n (pair k v ps) above (inr has) = absent n ps above.3 has

-- they have a spelling, and are at most `count`
record Rising (n count : ℕ) (ps : Pairs) : Type 0 where
  above : AreAbove n ps
  own : HasOwnKeys ps
  few : pair_count ps ≤ count
  spelled : PairsHaveSpellings ps

none : (n : ℕ) → Rising n 0 no_pairs
none n = record { above = tt; own = tt; few = omega arith; spelled = tt }

over : (n m count : ℕ) (ps : Pairs) → n < m → Rising m count ps → Rising n (count + 1) ps
over n m count ps lt r = record { above = lower n m ps lt r.above; own = r.own; few = omega (arith, r.few); spelled = r.spelled }

one_more : (n m count : ℕ) (v : DataItem) (ps : Pairs) → n < m → m < 2 ^ 64 → HasSpelling v → Rising m count ps → Rising n (count + 1) (pair (unsigned m) v ps)
one_more n m count v ps lt small spelled r = record {
  above = (m, refl, lt, lower n m ps lt r.above);
  own = (absent m ps r.above, r.own);
  few = omega (arith, r.few);
  spelled = (small, spelled, r.spelled);
}

a_map : (m count : ℕ) (v : DataItem) (ps : Pairs) → m < 2 ^ 64 → count < 100 → HasSpelling v → Rising m count ps → HasSpelling (map (pair (unsigned m) v ps))
a_map m count v ps small few spelled r = ((absent m ps r.above, r.own), omega (arith, r.few, few), (small, spelled, r.spelled))

-- ---- those that may be absent

a_date : (n m count : ℕ) (o : Option ℕ) (ps : Pairs) → n < m → m < 2 ^ 64 → ForSome o (λ s. s < 2 ^ 64) → Rising m count ps → Rising n (count + 1) (date m o ps)
a_date n m count None ps lt small fits r = over n m count ps lt r
a_date n m count (Some s) ps lt small fits r = one_more n m count (unsigned s) ps lt small (fits s refl) r

a_salt : (n count : ℕ) (salt : List ℕ) (ps : Pairs) → n < 5 → length salt < 2 ^ 64 → Rising 5 count ps → Rising n (count + 1) (salt_field salt ps)
a_salt n count [] ps lt fits r = over n 5 count ps lt r
a_salt n count (b ∷ bytes) ps lt fits r = one_more n 5 count (byte_string (b ∷ bytes)) ps lt (omega arith) fits r

an_alg : (n count : ℕ) (alg : Algorithm) (ps : Pairs) → n < 4 → Rising 4 count ps → Rising n (count + 1) (alg_field alg ps)
an_alg n count EightByteTag ps lt r = over n 4 count ps lt r
an_alg n count SixteenByteTag ps lt r = one_more n 4 count (unsigned 30) ps lt (omega arith) (omega arith) r

a_context : (n : ℕ) (o : Option (List ℕ)) → n < 6 → ForSome o (λ bytes. length bytes < 2 ^ 64) → Rising n 1 (parameter 6 o no_pairs)
a_context n None lt fits = over n 6 0 no_pairs lt (none 6)
a_context n (Some bytes) lt fits = one_more n 6 0 (byte_string bytes) no_pairs lt (omega arith) (fits bytes refl) (none 6)

-- ---- claims

material_spelled : (m : InputMaterial) → length m.id < 2 ^ 64 → length m.secret < 2 ^ 64 → length m.salt < 2 ^ 64 → ForSome m.id_context (λ bytes. length bytes < 2 ^ 64) → HasSpelling (material_item m)
material_spelled m id secret salt context =
    let last = a_context 5 m.id_context (omega arith) context in
    let salted = a_salt 4 1 m.salt (parameter 6 m.id_context no_pairs) (omega arith) salt last in
    let behind = an_alg 2 2 m.alg (salt_field m.salt (parameter 6 m.id_context no_pairs)) (omega arith) salted in
    let more = one_more 0 2 3 (byte_string m.secret) (alg_field m.alg (salt_field m.salt (parameter 6 m.id_context no_pairs))) (omega arith) (omega arith) secret behind in
    a_map 0 4 (byte_string m.id) _ (omega arith) (omega arith) id more

pub claims_spelled : (c : Claims) → FitTheirTypes c → HasSpelling (claims_item c)
claims_spelled c fit =
    let material = material_spelled c.material fit.id fit.secret fit.salt fit.id_context in
    let confirmation : HasSpelling (map (pair (unsigned 4) (material_item c.material) no_pairs)) = a_map 4 0 (material_item c.material) no_pairs (omega arith) (omega arith) material (none 4) in
    let last = one_more 8 9 0 (byte_string c.scope) no_pairs (omega arith) (omega arith) fit.scope (none 9) in
    let behind = one_more 5 8 1 (map (pair (unsigned 4) (material_item c.material) no_pairs)) _ (omega arith) (omega arith) confirmation last in
    let begins = a_date 4 5 2 c.not_before _ (omega arith) (omega arith) fit.not_before behind in
    let ends = a_date 3 4 3 c.expires _ (omega arith) (omega arith) fit.expires begins in
    a_map 3 4 (text_string c.audience) _ (omega arith) (omega arith) fit.audience ends
