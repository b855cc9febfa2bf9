-- What is written of a text's entries is the spelling of a scope.
use Rattle.std.proofs.Common.{◌≡◌, ℕ, ◌<◌, ◌≤◌, ◌^◌, List, [], ◌∷◌, ◌++◌, length, map, ap, arith, lit<, length-append}
use Rattle.std.specs.List.{All}
use Rattle.std.proofs.lemmas.List.Elements.{All-nil, All-cons, All-head, All-tail, All-map, All-weaker}
use Rattle.osc_cbor.specs.{DataItem, array, item_count, items_nesting, Spells, HasSpelling, HaveSpellings, spelling}
use Rattle.osc_scope.specs.{Entry, IsLawful, IsScope, entry_items, Written, IsLawfulText, IsScopeText, words_of, parted_by, entry_text, entry_of}
use Rattle.osc_scope.proofs.PathLemmas.{path_utf8}
use Rattle.osc_scope.proofs.MethodLemmas.{whole_some, whole_most}

shallow : (entries : List Entry) → items_nesting (entry_items entries) ≤ 2
shallow [] = omega arith
shallow (entry ∷ entries) = omega (arith, shallow entries)

lawful : (entry : Written) → IsLawfulText entry → IsLawful (entry_of entry)
lawful entry e = record { is_path = e.is_path; some = whole_some entry.methods entry.below e.some e.apart; known = whole_most entry.methods entry.below e.apart }

-- ---- lengths

-- each part fits into the text, and there are no more parts than bytes
fits : (byte : ℕ) (parts : List (List ℕ)) → All (λ part. length part ≤ length (parted_by byte parts)) parts
fits byte [] = All-nil (λ part. length part ≤ length (parted_by byte []))
fits byte (part ∷ []) = All-cons (λ p. length p ≤ length part) part [] (omega arith) (All-nil (λ p. length p ≤ length part))
fits byte (part ∷ next ∷ parts) =
    let whole = part ++ byte ∷ parted_by byte (next ∷ parts) in
    All-cons (λ p. length p ≤ length whole) part (next ∷ parts)
    (omega (arith, length-append part (byte ∷ parted_by byte (next ∷ parts))))
    (All-weaker (λ p. length p ≤ length (parted_by byte (next ∷ parts))) (λ p. length p ≤ length whole)
    (λ p h. omega (arith, length-append part (byte ∷ parted_by byte (next ∷ parts)))) (next ∷ parts) (fits byte (next ∷ parts)))

few : (byte : ℕ) (parts : List (List ℕ)) → All (λ part. 1 ≤ length part) parts → length parts ≤ length (parted_by byte parts)
few byte [] h = omega arith
few byte (part ∷ []) h = All-head (λ p. 1 ≤ length p) part [] h
few byte (part ∷ next ∷ parts) h =
    omega (
      arith,
      few byte (next ∷ parts) (All-tail (λ p. 1 ≤ length p) part (next ∷ parts) h),
      All-head (λ p. 1 ≤ length p) part (next ∷ parts) h,
      length-append part (byte ∷ parted_by byte (next ∷ parts)),
    )

some_text : (entries : List Written) → All (λ part. 1 ≤ length part) (map entry_text entries)
some_text [] = All-nil (λ part. 1 ≤ length part)
some_text (entry ∷ entries) =
    All-cons (λ part. 1 ≤ length part) (entry_text entry) (map entry_text entries) (simp length-append (omega arith)) (some_text entries)

count_is : (entries : List Written) → item_count (entry_items (map entry_of entries)) ≡ length (map entry_text entries)
count_is [] = omega arith
count_is (entry ∷ entries) = omega (arith, count_is entries)

-- ---- spellings

have : (entries : List Written) → All IsLawfulText entries → All (λ part. length part < 2 ^ 64) (map entry_text entries) → HaveSpellings (entry_items (map entry_of entries))
have [] h short = tt
have (entry ∷ entries) h short =
    let e = All-head IsLawfulText entry entries h in
    let text = All-head (λ part. length part < 2 ^ 64) (entry_text entry) (map entry_text entries) short in
    let path : length entry.path < 2 ^ 64 = omega (arith, text, length-append entry.path (58 ∷ parted_by 43 (words_of entry))) in
    let mask : (entry_of entry).mask < 2 ^ 64 = omega (arith, whole_most entry.methods entry.below e.apart) in
    ((lit< tt, ((path_utf8 entry.path e.is_path, path), (mask, tt))), have entries (All-tail IsLawfulText entry entries h) (All-tail (λ part. length part < 2 ^ 64) (entry_text entry) (map entry_text entries) short))

pub spelled : (text : List ℕ) (entries : List Written) → ((d : DataItem) → HasSpelling d → Spells (spelling d) d)
    → IsScopeText text entries → length text < 2 ^ 64 → IsScope (spelling (array (entry_items (map entry_of entries)))) (map entry_of entries)
spelled text entries spells s short =
    let parts = map entry_text entries in
    let long : length text ≡ length (parted_by 44 parts) = ap length s.spelled in
    let each = All-weaker (λ part. length part ≤ length (parted_by 44 parts)) (λ part. length part < 2 ^ 64) (λ p h. omega arith) parts (fits 44 parts) in
    let count : item_count (entry_items (map entry_of entries)) < 2 ^ 64 = omega (arith, count_is entries, few 44 parts (some_text entries)) in
    record {
      whole = record {
        spelled = spells (array (entry_items (map entry_of entries))) (count, have entries s.lawful each);
        shallow = omega (arith, shallow (map entry_of entries));
      };
      lawful = All-map IsLawful entry_of entries (All-weaker IsLawfulText (λ entry. IsLawful (entry_of entry)) lawful entries s.lawful);
    }
