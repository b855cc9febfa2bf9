-- How long the text of claims is, part by part.
use Rattle.std.proofs.Common.{◌≡◌, ℕ, ◌+◌, ◌-◌, ◌<◌, ◌≤◌, ◌^◌, min, List, [], ◌∷◌, ◌++◌, length, Option, Some, None, refl, sym, ap, ◌∙◌, arith}
use Rattle.std.proofs.lemmas.Bool.{lt-ltb}
use Rattle.std.proofs.lemmas.List.{length-append}
use Rattle.osc_model.specs.declared.algorithm.Algorithm.{Algorithm}
use Rattle.osc_model.specs.declared.algorithm.Algorithm.TheVariants.{EightByteTag, SixteenByteTag}
use Rattle.osc_cbor.specs.{DataItem, unsigned, byte_string, text_string, map, Pairs, no_pairs, pair, pair_count, head, spelling, pairs_spelling}
use Rattle.osc_cose.specs.{parameter}
use Rattle.osc_token.specs.Inner.Lengths.{counted}
use Rattle.osc_token.specs.{alg_field, claims_item, date, material_item, salt_field}
use Rattle.osc_token.specs.declared.claims.Claims.{Claims}
use Rattle.osc_token.specs.declared.claims.InputMaterial.{InputMaterial}

-- a sum of two parts
pub counted_sum : (a b x y sum : ℕ) → x ≡ counted a → y ≡ counted b → sum ≡ min (x + y) (2 ^ 64 - 1) → sum ≡ counted (a + b)
counted_sum a b x y sum e f g = omega arith

-- what four parts and a byte come to, one after another
pub counted_four : (a b c d w x y z one two three sum : ℕ) → w ≡ counted a → x ≡ counted b → y ≡ counted c → z ≡ counted d
    → one ≡ min (w + x) (2 ^ 64 - 1) → two ≡ min (one + y) (2 ^ 64 - 1) → three ≡ min (two + z) (2 ^ 64 - 1)
    → sum ≡ min (three + 1) (2 ^ 64 - 1) → sum ≡ counted (a + b + c + d + 1)
counted_four a b c d w x y z one two three sum wa xb yc zd first second third last =
    let ab : one ≡ counted (a + b) = counted_sum a b w x one wa xb first in
    let abc : two ≡ counted (a + b + c) = counted_sum (a + b) c one y two ab yc second in
    let abcd : three ≡ counted (a + b + c + d) = counted_sum (a + b + c) d two z three abc zd third in
    counted_sum (a + b + c + d) 1 three 1 sum abcd refl last

-- and five
pub counted_five : (a b c d e v w x y z one two three four sum : ℕ) → v ≡ counted a → w ≡ counted b → x ≡ counted c → y ≡ counted d → z ≡ counted e
    → one ≡ min (v + w) (2 ^ 64 - 1) → two ≡ min (one + x) (2 ^ 64 - 1) → three ≡ min (two + y) (2 ^ 64 - 1)
    → four ≡ min (three + z) (2 ^ 64 - 1) → sum ≡ min (four + 1) (2 ^ 64 - 1) → sum ≡ counted (a + b + c + d + e + 1)
counted_five a b c d e v w x y z one two three four sum va wb xc yd ze first second third fourth last =
    let ab : one ≡ counted (a + b) = counted_sum a b v w one va wb first in
    counted_four (a + b) c d e one x y z two three four sum ab xc yd ze second third fourth last

abbrev pairs_length : Pairs → ℕ
pairs_length pairs = length (pairs_spelling pairs)

-- ---- one pair before others

pub pair_length : (k v : DataItem) (others : Pairs) → pairs_length (pair k v others) ≡ pairs_length (pair k v no_pairs) + pairs_length others
pair_length k v others =
    omega (arith, length-append (spelling k ++ spelling v) (pairs_spelling others), length-append (spelling k ++ spelling v) [])

pub one_pair : (k v : DataItem) → pairs_length (pair k v no_pairs) ≡ length (spelling k) + length (spelling v)
one_pair k v = omega (arith, length-append (spelling k ++ spelling v) [], length-append (spelling k) (spelling v))

date_length : (label : ℕ) (seconds : Option ℕ) (others : Pairs) → pairs_length (date label seconds others) ≡ pairs_length (date label seconds no_pairs) + pairs_length others
date_length label None others = omega arith
date_length label (Some n) others = pair_length (unsigned label) (unsigned n) others

salt_length : (salt : List ℕ) (others : Pairs) → pairs_length (salt_field salt others) ≡ pairs_length (salt_field salt no_pairs) + pairs_length others
salt_length [] others = omega arith
salt_length (byte ∷ bytes) others = pair_length (unsigned 5) (byte_string (byte ∷ bytes)) others

alg_length : (alg : Algorithm) (others : Pairs) → pairs_length (alg_field alg others) ≡ pairs_length (alg_field alg no_pairs) + pairs_length others
alg_length EightByteTag others = omega arith
alg_length SixteenByteTag others = pair_length (unsigned 4) (unsigned 30) others

-- ---- the heads of the maps, each of one byte

head_length : (major n : ℕ) → n < 24 → length (head major n) ≡ 1
unfolding head
head_length major n small = rw (lt-ltb n 24 small) refl

map_length : (pairs : Pairs) → pair_count pairs < 24 → length (spelling (map pairs)) ≡ pairs_length pairs + 1
map_length pairs few = omega (arith, length-append (head 5 (pair_count pairs)) (pairs_spelling pairs), head_length 5 (pair_count pairs) few)

few_fields : (m : InputMaterial) → pair_count (pair (unsigned 0) (byte_string m.id) (pair (unsigned 2) (byte_string m.secret) (alg_field m.alg (salt_field m.salt (parameter 6 m.id_context no_pairs))))) < 24
few_fields m = by m.alg m.salt m.id_context
  where
    by : (alg : Algorithm) (salt : List ℕ) (context : Option (List ℕ))
        → pair_count (pair (unsigned 0) (byte_string m.id) (pair (unsigned 2) (byte_string m.secret) (alg_field alg (salt_field salt (parameter 6 context no_pairs))))) < 24
    by EightByteTag [] None = omega arith
    by EightByteTag [] (Some bytes) = omega arith
    by EightByteTag (b ∷ bs) None = omega arith
    by EightByteTag (b ∷ bs) (Some bytes) = omega arith
    by SixteenByteTag [] None = omega arith
    by SixteenByteTag [] (Some bytes) = omega arith
    by SixteenByteTag (b ∷ bs) None = omega arith
    by SixteenByteTag (b ∷ bs) (Some bytes) = omega arith

-- ---- the whole

material_length : (m : InputMaterial) → length (spelling (material_item m))
    ≡ pairs_length (pair (unsigned 0) (byte_string m.id) no_pairs) + pairs_length (pair (unsigned 2) (byte_string m.secret) no_pairs)
    + pairs_length (alg_field m.alg no_pairs) + pairs_length (salt_field m.salt no_pairs) + pairs_length (parameter 6 m.id_context no_pairs) + 1
material_length m =
    let context : Pairs = parameter 6 m.id_context no_pairs in
    let salt : Pairs = salt_field m.salt context in
    let alg : Pairs = alg_field m.alg salt in
    let secret : Pairs = pair (unsigned 2) (byte_string m.secret) alg in
    omega (
      arith,
      map_length (pair (unsigned 0) (byte_string m.id) secret) (few_fields m),
      pair_length (unsigned 0) (byte_string m.id) secret,
      pair_length (unsigned 2) (byte_string m.secret) alg,
      alg_length m.alg salt,
      salt_length m.salt context,
    )

confirmation_length : (material : DataItem) → pairs_length (pair (unsigned 8) (map (pair (unsigned 4) material no_pairs)) no_pairs)
    ≡ length (spelling material) + (length (spelling (unsigned 8)) + 1 + length (spelling (unsigned 4)))
confirmation_length material =
    let inner : Pairs = pair (unsigned 4) material no_pairs in
    omega (arith, one_pair (unsigned 8) (map inner), map_length inner (omega arith), one_pair (unsigned 4) material)

few_claims : (c : Claims) (confirmation : DataItem) → pair_count (pair (unsigned 3) (text_string c.audience)
    (date 4 c.expires (date 5 c.not_before (pair (unsigned 8) confirmation (pair (unsigned 9) (byte_string c.scope) no_pairs))))) < 24
few_claims c confirmation = by c.expires c.not_before
  where
    by : (expires not_before : Option ℕ) → pair_count (pair (unsigned 3) (text_string c.audience)
        (date 4 expires (date 5 not_before (pair (unsigned 8) confirmation (pair (unsigned 9) (byte_string c.scope) no_pairs))))) < 24
    by None None = omega arith
    by None (Some n) = omega arith
    by (Some n) None = omega arith
    by (Some n) (Some m) = omega arith

claims_length : (c : Claims) → length (spelling (claims_item c))
    ≡ pairs_length (pair (unsigned 3) (text_string c.audience) no_pairs) + pairs_length (date 4 c.expires no_pairs) + pairs_length (date 5 c.not_before no_pairs)
    + pairs_length (pair (unsigned 8) (map (pair (unsigned 4) (material_item c.material) no_pairs)) no_pairs)
    + pairs_length (pair (unsigned 9) (byte_string c.scope) no_pairs) + 1
claims_length c =
    let confirmation : DataItem = map (pair (unsigned 4) (material_item c.material) no_pairs) in
    let scope : Pairs = pair (unsigned 9) (byte_string c.scope) no_pairs in
    let confirmed : Pairs = pair (unsigned 8) confirmation scope in
    let begun : Pairs = date 5 c.not_before confirmed in
    let ended : Pairs = date 4 c.expires begun in
    omega (
      arith,
      map_length (pair (unsigned 3) (text_string c.audience) ended) (few_claims c confirmation),
      pair_length (unsigned 3) (text_string c.audience) ended,
      date_length 4 c.expires begun,
      date_length 5 c.not_before confirmed,
      pair_length (unsigned 8) confirmation scope,
    )

-- ---- the whole, as it is counted

pub material_counted : (m : InputMaterial) (v w x y z one two three four sum : ℕ)
    → v ≡ counted (pairs_length (pair (unsigned 0) (byte_string m.id) no_pairs))
    → w ≡ counted (pairs_length (pair (unsigned 2) (byte_string m.secret) no_pairs)) → x ≡ counted (pairs_length (alg_field m.alg no_pairs))
    → y ≡ counted (pairs_length (salt_field m.salt no_pairs)) → z ≡ counted (pairs_length (parameter 6 m.id_context no_pairs))
    → one ≡ min (v + w) (2 ^ 64 - 1) → two ≡ min (one + x) (2 ^ 64 - 1) → three ≡ min (two + y) (2 ^ 64 - 1)
    → four ≡ min (three + z) (2 ^ 64 - 1) → sum ≡ min (four + 1) (2 ^ 64 - 1) → sum ≡ counted (length (spelling (material_item m)))
material_counted m v w x y z one two three four sum id secret alg salt context first second third fourth last =
    counted_five (pairs_length (pair (unsigned 0) (byte_string m.id) no_pairs)) (pairs_length (pair (unsigned 2) (byte_string m.secret) no_pairs))
    (pairs_length (alg_field m.alg no_pairs)) (pairs_length (salt_field m.salt no_pairs)) (pairs_length (parameter 6 m.id_context no_pairs))
    v w x y z one two three four sum id secret alg salt context first second third fourth last
    ∙ ap counted (sym (material_length m))

pub confirmation_counted : (material : DataItem) (size label inner sum : ℕ) → size ≡ counted (length (spelling material))
    → label ≡ length (spelling (unsigned 8)) → inner ≡ length (spelling (unsigned 4)) → label ≤ 9 → inner ≤ 9
    → sum ≡ min (size + (label + 1 + inner)) (2 ^ 64 - 1)
    → sum ≡ counted (pairs_length (pair (unsigned 8) (map (pair (unsigned 4) material no_pairs)) no_pairs))
confirmation_counted material size label inner sum counts outer under short low last =
    counted_sum (length (spelling material)) (label + 1 + inner) size (label + 1 + inner) sum counts (omega arith) last
    ∙ ap counted (omega (arith, outer, under, confirmation_length material))

pub claims_counted : (c : Claims) (v w x y z one two three four sum : ℕ)
    → v ≡ counted (pairs_length (pair (unsigned 3) (text_string c.audience) no_pairs))
    → w ≡ counted (pairs_length (date 4 c.expires no_pairs)) → x ≡ counted (pairs_length (date 5 c.not_before no_pairs))
    → y ≡ counted (pairs_length (pair (unsigned 8) (map (pair (unsigned 4) (material_item c.material) no_pairs)) no_pairs))
    → z ≡ counted (pairs_length (pair (unsigned 9) (byte_string c.scope) no_pairs))
    → one ≡ min (v + w) (2 ^ 64 - 1) → two ≡ min (one + x) (2 ^ 64 - 1) → three ≡ min (two + y) (2 ^ 64 - 1)
    → four ≡ min (three + z) (2 ^ 64 - 1) → sum ≡ min (four + 1) (2 ^ 64 - 1) → sum ≡ counted (length (spelling (claims_item c)))
claims_counted c v w x y z one two three four sum audience expires not_before confirmation scope first second third fourth last =
    counted_five (pairs_length (pair (unsigned 3) (text_string c.audience) no_pairs)) (pairs_length (date 4 c.expires no_pairs)) (pairs_length (date 5 c.not_before no_pairs))
    (pairs_length (pair (unsigned 8) (map (pair (unsigned 4) (material_item c.material) no_pairs)) no_pairs)) (pairs_length (pair (unsigned 9) (byte_string c.scope) no_pairs))
    v w x y z one two three four sum audience expires not_before confirmation scope first second third fourth last
    ∙ ap counted (sym (claims_length c))
