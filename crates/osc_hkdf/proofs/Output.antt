-- The lengths of codes and of output, and how the output grows block by block.
use Rattle.std.proofs.Common.{◌≡◌, ℕ, zero, suc, ◌+◌, ◌*◌, ◌-◌, ◌<◌, ◌≤◌, min, List, [], ◌∷◌, ◌++◌, take, drop, length, refl, sym, ap, ◌∙◌, add-one, add-zero, arith, length-append}
use Rattle.std.proofs.Math.Seq.{take-append-add}
use Rattle.std.proofs.lemmas.List.{append-nil, map-id, length-drop, length-take-le, take-take, take_all, take_min, take-append-le, drop_at}
use Rattle.std.proofs.lemmas.List.Concat.{flat_map-append}
use Rattle.std.proofs.lemmas.List.FromFn.{map-range_with_len_more}
use Rattle.std.proofs.lemmas.Slice.{between_is, take-put_mid}
use Rattle.std.specs.List.{between, flat_map, range_with_len}
use Rattle.std.specs.Int.{div_ceil}
use Rattle.sha2.proofs.Facts256.{length-sha256}
use Rattle.osc_hkdf.specs.{hmac_of, extract_of, salt_or_zeros, output_block, output_blocks, expand_of}
use borrow.Rule.Slice.PartMut.{put_mid, same_len_mid}

pub length-hmac_of : (key text : List ℕ) → length (hmac_of key text) ≡ 32
unfolding hmac_of
length-hmac_of key text = length-sha256 _

pub length-extract_of : (salt ikm : List ℕ) → length (extract_of salt ikm) ≡ 32
unfolding extract_of
length-extract_of salt ikm = length-hmac_of (salt_or_zeros salt) ikm

pub output_block-more : (prk info : List ℕ) (i : ℕ) → output_block prk info (i + 1) ≡ hmac_of prk (output_block prk info i ++ info ++ (i + 1) ∷ [])
unfolding output_block
output_block-more prk info i = rw add-one refl

pub length-output_block : (prk info : List ℕ) (i : ℕ) → length (output_block prk info (i + 1)) ≡ 32
length-output_block prk info i = ap length (output_block-more prk info i) ∙ length-hmac_of prk _

-- the numbers from a on, and one more
range-more : (a n m : ℕ) → a + n ≡ m → range_with_len a (n + 1) ≡ range_with_len a n ++ m ∷ []
range-more a n m e = simp map-id at (map-range_with_len_more (λ x. x) a n m e)

pub output_blocks-more : (prk info : List ℕ) (n : ℕ) → output_blocks prk info (n + 1) ≡ output_blocks prk info n ++ output_block prk info (n + 1)
unfolding output_blocks
output_blocks-more prk info n =
    ap (flat_map (output_block prk info)) (range-more 1 n (n + 1) (omega arith))
    ∙ flat_map-append (output_block prk info) (range_with_len 1 n) ((n + 1) ∷ [])
    ∙ ap (λ last. flat_map (output_block prk info) (range_with_len 1 n) ++ last) (append-nil (output_block prk info (n + 1)))

output_blocks-none : (prk info : List ℕ) → output_blocks prk info 0 ≡ []
unfolding output_blocks
output_blocks-none prk info = refl

output_block-none : (prk info : List ℕ) → output_block prk info 0 ≡ []
unfolding output_block
output_block-none prk info = refl

pub length-output_blocks : (prk info : List ℕ) (n : ℕ) → length (output_blocks prk info n) ≡ 32 * n
length-output_blocks prk info zero = ap length (output_blocks-none prk info)
length-output_blocks prk info (suc n) =
    let more : length (output_blocks prk info (n + 1)) ≡ 32 * (n + 1) =
    ap length (output_blocks-more prk info n) ∙ length-append (output_blocks prk info n) (output_block prk info (n + 1))
    ∙ omega (arith, length-output_blocks prk info n, length-output_block prk info n) in
    rw add-one at more

-- T(n) is the end of T(1) | .. | T(n), and T(0) that of nothing
pub last_block : (prk info : List ℕ) (n : ℕ) → drop (32 * n - 32) (output_blocks prk info n) ≡ output_block prk info n
last_block prk info zero = output_blocks-none prk info ∙ sym (output_block-none prk info)
last_block prk info (suc n) =
    let more : drop (32 * (n + 1) - 32) (output_blocks prk info (n + 1)) ≡ output_block prk info (n + 1) =
    ap (drop (32 * (n + 1) - 32)) (output_blocks-more prk info n)
    ∙ drop_at (output_blocks prk info n) (output_block prk info (n + 1)) (32 * (n + 1) - 32) (omega (arith, length-output_blocks prk info n)) in
    rw add-one at more

-- fewer blocks are the beginning of more
blocks_begin_more : (prk info : List ℕ) (m d : ℕ) → take (32 * m) (output_blocks prk info (m + d)) ≡ output_blocks prk info m
blocks_begin_more prk info m zero =
    ap (λ k. take (32 * m) (output_blocks prk info k)) (add-zero m)
    ∙ take_all (32 * m) (output_blocks prk info m) (omega (arith, length-output_blocks prk info m))
blocks_begin_more prk info m (suc d) =
    let next : m + suc d ≡ m + d + 1 = omega arith in
    let whole : length (output_blocks prk info (m + d)) ≡ 32 * (m + d) = length-output_blocks prk info (m + d) in
    ap (λ k. take (32 * m) (output_blocks prk info k)) next
    ∙ ap (take (32 * m)) (output_blocks-more prk info (m + d))
    ∙ take-append-le (32 * m) (output_blocks prk info (m + d)) (output_block prk info (m + d + 1)) (omega arith)
    ∙ blocks_begin_more prk info m d

pub blocks_begin : (prk info : List ℕ) (m n : ℕ) → m ≤ n → take (32 * m) (output_blocks prk info n) ≡ output_blocks prk info m
blocks_begin prk info m n fewer =
    let e : n ≡ m + (n - m) = omega arith in
    ap (λ k. take (32 * m) (output_blocks prk info k)) e ∙ blocks_begin_more prk info m (n - m)

pub length-expand_of : (prk info : List ℕ) (n : ℕ) → length (expand_of prk info n) ≡ n
unfolding expand_of
length-expand_of prk info n =
    length-take-le n (output_blocks prk info (div_ceil n 32)) (omega (arith, length-output_blocks prk info (div_ceil n 32)))

-- a shorter output is the beginning of a longer one
pub expand_of-begins : (prk info : List ℕ) (short long : ℕ) → short ≤ long → take short (expand_of prk info long) ≡ expand_of prk info short
unfolding expand_of
expand_of-begins prk info short long shorter =
    let m : ℕ = div_ceil short 32 in
    let n : ℕ = div_ceil long 32 in
    take-take short long (output_blocks prk info n) shorter
    ∙ sym (take-take short (32 * m) (output_blocks prk info n) (omega arith))
    ∙ ap (take short) (blocks_begin prk info m n (omega arith))

-- a block that is counted begins inside
pub begins_inside : (i n m count : ℕ) → i < count → count ≡ div_ceil m 32 → n ≡ m → 32 * i < n
begins_inside i n m count counted count_is same = omega arith

-- the loop ends when all are counted
pub all_counted : (i n m count : ℕ) → i ≤ count → count ≤ i → count ≡ div_ceil m 32 → n ≡ m → i ≡ div_ceil n 32
all_counted i n m count most least count_is same =
    let e : i ≡ count = omega arith in
    e ∙ count_is ∙ ap (λ k. div_ceil k 32) (sym same)

-- what is before block i + 1 ends in T(i)
pub previous_block : (prk info out : List ℕ) (i from : ℕ) → 32 * i < length out → from ≡ 32 * i - 32
    → take (32 * i) out ≡ take (length out) (output_blocks prk info i) → between from (32 * i) out ≡ output_block prk info i
previous_block prk info out i from inside from_is before =
    let whole = length-output_blocks prk info i in
    between_is out from (32 * i)
    ∙ ap (drop from) (before ∙ take_all (length out) (output_blocks prk info i) (omega arith))
    ∙ ap (λ k. drop k (output_blocks prk info i)) from_is
    ∙ last_block prk info i

-- T(i + 1) is written after the blocks before it, as far as there is room
pub one_more : (prk info out block : List ℕ) (i size : ℕ) → 32 * i < length out → size ≡ min (32 * i + 32) (length out) - 32 * i
    → take (32 * i) out ≡ take (length out) (output_blocks prk info i) → block ≡ output_block prk info (i + 1)
    → take (32 * (i + 1)) (put_mid (32 * i) size out (take size block)) ≡ take (length out) (output_blocks prk info (i + 1))
one_more prk info out block i size inside size_is before block_is =
    let blocks : List ℕ = output_blocks prk info i in
    let part : List ℕ = take size block in
    let new : List ℕ = put_mid (32 * i) size out part in
    let room : ℕ = length out - 32 * i in
    let whole : length blocks ≡ 32 * i = length-output_blocks prk info i in
    let begun : take (32 * i) out ≡ blocks = before ∙ take_all (length out) blocks (omega arith) in
    let long : length block ≡ 32 = ap length block_is ∙ length-output_block prk info i in
    let part_long : length part ≡ size = length-take-le size block (omega arith) in
    let rest_long : length (drop (32 * i) out) ≡ room = length-drop (32 * i) out in
    let new_long : length new ≡ length out = same_len_mid (32 * i) size out part (part_long ∙ sym (length-take-le size (drop (32 * i) out) (omega arith))) in
    let end : min (32 * (i + 1)) (length new) ≡ 32 * i + size = omega arith in
    let written : take (32 * (i + 1)) new ≡ blocks ++ part =
    sym (take_min (32 * (i + 1)) new) ∙ ap (λ k. take k new) end
    ∙ take-put_mid (32 * i) size out part (32 * i + size) (omega arith) (omega arith)
    ∙ ap (λ b. b ++ part) begun in
    let few : size ≡ min room (length block) = omega arith in
    let same : part ≡ take room block = ap (λ k. take k block) few ∙ take_min room block in
    let count : length out ≡ length blocks + room = omega arith in
    let wanted : take (length out) (output_blocks prk info (i + 1)) ≡ blocks ++ take room block =
    ap (take (length out)) (output_blocks-more prk info i ∙ ap (λ b. blocks ++ b) (sym block_is))
    ∙ ap (λ k. take k (blocks ++ block)) count ∙ take-append-add blocks block room in
    written ∙ ap (λ b. blocks ++ b) same ∙ sym wanted

-- as many blocks as there is room for are the whole output
pub filled : (prk info out : List ℕ) (n : ℕ) → n ≡ div_ceil (length out) 32
    → take (32 * n) out ≡ take (length out) (output_blocks prk info n) → out ≡ expand_of prk info (length out)
unfolding expand_of
filled prk info out n all before =
    sym (take_all (32 * n) out (omega arith)) ∙ before ∙ ap (λ k. take (length out) (output_blocks prk info k)) all

-- before the first block
pub none_yet : (prk info out : List ℕ) → [] ≡ take (length out) (output_blocks prk info 0)
none_yet prk info out = rw (output_blocks-none prk info) (sym (take_all (length out) [] (omega arith)))
