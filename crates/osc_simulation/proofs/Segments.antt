-- The segments of a path as options of a plaintext, which fits a datagram.
use Rattle.std.proofs.Common.{◌≡◌, ℕ, ◌≤◌, ◌+◌, ◌*◌, ◌-◌, ◌==◌, Bool, true, false, cond, nat_lt, List, [], ◌∷◌, ◌++◌, length, take, drop, get_or, ◌<◌, None, sym, ap, ◌∙◌, append_assoc, append-nil, leb-true, length-drop, arith}
use Rattle.std.specs.List.{list_all, slice_split}
use Rattle.std.proofs.lemmas.Bool.{and_parts}
use Rattle.std.proofs.lemmas.List.{at_drop_more, drop_all, take_all}
use Rattle.osc_model.specs.{IsPath, is_segment, are_segments, path_text, segments_of}
use Rattle.osc_coap.specs.{NumberAndValue, options_spelling, payload_spelling, plaintext_spelling, datagram_limit, extension_length, option_length, options_length, plaintext_length, bare_plaintext, last_number, payload_of, with_inner_option}
use Rattle.osc_coap.specs.Plaintext.{Plaintext}
use Rattle.osc_options.specs.Inner.Merging.{with_inner_options}
use Rattle.osc_options.specs.{each}

-- ---- the laws of paths, options and plaintexts that are used

-- a path's text, cut at its slashes, gives its segments again
abbrev pub CutLaw : Type 0
CutLaw = (segments : List (List ℕ)) → are_segments segments ≡ true → slice_split (λ b. b == 47) (drop 1 (path_text segments)) ≡ segments

-- how long options in two parts are
abbrev pub PartsLaw : Type 0
PartsLaw = (before : ℕ) (front back : List NumberAndValue) → options_length before (front ++ back) ≡ options_length before front + options_length (last_number before front) back

-- how long a plaintext's spelling is
abbrev pub PlaintextLaw : Type 0
PlaintextLaw = (p : Plaintext) → length (plaintext_spelling p) ≡ plaintext_length p

-- ---- a path's text

segments_lawful : CutLaw → (text : List ℕ) → IsPath text → are_segments (segments_of text) ≡ true
segments_lawful cut text path =
    ap (λ t. are_segments (slice_split (λ b. b == 47) (drop 1 t))) path.spelled ∙ ap are_segments (cut path.segments path.lawful) ∙ path.lawful

some_text : (text : List ℕ) (segments : List (List ℕ)) → are_segments segments ≡ true → text ≡ path_text segments → 1 ≤ length text
some_text text [] lawful e = absurd cc
some_text text (segment ∷ segments) lawful e = omega (arith, ap length e)

-- it begins with a slash
pub some_path : (text : List ℕ) → IsPath text → 1 ≤ length text
some_path text path = some_text text path.segments path.lawful path.spelled

-- what a range from the second byte on lends
pub behind_first : (text : List ℕ) → take (length text - 1) (drop 1 text) ≡ drop 1 text
behind_first text = take_all (length text - 1) (drop 1 text) (omega (arith, length-drop 1 text))

-- ---- options one after the other

-- a value is the one at this index
abbrev pub IsAt : List (List ℕ) → ℕ → List ℕ → Type 0
IsAt values i value = (i < length values) × (value ≡ get_or values i value)

with_inner_options-more : (p : Plaintext) (number : ℕ) (value : List ℕ) (rest : List NumberAndValue) → with_inner_options (with_inner_option p number value) rest ≡ with_inner_options p ((number, value) ∷ rest)
with_inner_options-more p number value rest = ap (λ (options : List NumberAndValue). record p { options = options }) (append_assoc p.options ((number, value) ∷ []) rest)

-- the beginning is no longer than the whole
inner_options_front : PlaintextLaw → PartsLaw → (p : Plaintext) (options : List NumberAndValue) → length (plaintext_spelling p) ≤ length (plaintext_spelling (with_inner_options p options))
inner_options_front law parts p options = omega (arith, law p, law (with_inner_options p options), parts 0 p.options options)

pub inner_more : (p : Plaintext) (values : List (List ℕ)) (i : ℕ) (value : List ℕ) → IsAt values i value → with_inner_options (with_inner_option p 11 value) (each 11 (drop (i + 1) values)) ≡ with_inner_options p (each 11 (drop i values))
inner_more p values i value at =
    let rest = drop (i + 1) values in
    with_inner_options-more p 11 value (each 11 rest)
    ∙ ap (λ (v : List ℕ). with_inner_options p (each 11 (v ∷ rest))) at.1
    ∙ sym (at_drop_more (λ vs. with_inner_options p (each 11 vs)) values i value at.0)

-- after the last of them none is left
pub inner_all : (p : Plaintext) (values : List (List ℕ)) (i : ℕ) → i ≡ length values → p ≡ with_inner_options p (each 11 (drop i values))
inner_all p values i all =
    sym (ap (λ (vs : List (List ℕ)). with_inner_options p (each 11 vs)) (drop_all i values (omega arith)) ∙ ap (λ (options : List NumberAndValue). record p { options = options }) (append-nil p.options))

-- a segment has at most 32 bytes, and its option 5 more
short : (segment : List ℕ) → is_segment segment ≡ true → length segment ≤ 32
short segment lawful =
    let front = and_parts _ _ (and_parts _ _ lawful).0 in
    leb-true (length segment) 32 (and_parts _ _ front.0).1

extension_short : (n : ℕ) → extension_length n ≤ 2
extension_short n = go (nat_lt n 13) (nat_lt n 269)
  where
    go : (low high : Bool) → cond low 0 (cond high 1 2) ≤ 2
    go true high = omega arith
    go false true = omega arith
    go false false = omega arith

option_short : (before : ℕ) (segment : List ℕ) → is_segment segment ≡ true → option_length before (11, segment) ≤ 37
option_short before segment lawful = omega (arith, short segment lawful, extension_short (11 - before), extension_short (length segment))

segments_short : (before : ℕ) (segments : List (List ℕ)) → list_all is_segment segments ≡ true → options_length before (each 11 segments) ≤ 37 * length segments
segments_short before [] lawful = omega arith
segments_short before (segment ∷ segments) lawful =
    let parts = and_parts (is_segment segment) (list_all is_segment segments) lawful in
    omega (arith, option_short before segment parts.0, segments_short 11 segments parts.1)

few : (segments : List (List ℕ)) → are_segments segments ≡ true → length segments ≤ 8
few segments lawful = leb-true (length segments) 8 (and_parts _ _ (and_parts _ _ lawful).0).1

-- so the options of a path have at most 296
path_short : (segments : List (List ℕ)) → are_segments segments ≡ true → options_length 0 (each 11 segments) ≤ 296
path_short segments lawful = omega (arith, few segments lawful, segments_short 0 segments (and_parts _ _ lawful).1)

-- a plaintext with the segments up to one of them is no longer than with them all
pub fits_within : PlaintextLaw → PartsLaw → CutLaw → (bare : Plaintext) (path : List ℕ) → IsPath path → bare ≡ bare_plaintext bare.code → (p : Plaintext) (i : ℕ) (value : List ℕ) → IsAt (segments_of path) i value
    → with_inner_options p (each 11 (drop i (segments_of path))) ≡ with_inner_options bare (each 11 (segments_of path)) → length (plaintext_spelling (with_inner_option p 11 value)) ≤ datagram_limit
fits_within law parts cut bare path is_path is_bare p i value at whole =
    let segments = segments_of path in
    let lawful = segments_lawful cut path is_path in
    let front = inner_options_front law parts (with_inner_option p 11 value) (each 11 (drop (i + 1) segments)) in
    let all = ap (λ (w : Plaintext). length (plaintext_spelling w)) (inner_more p segments i value at ∙ whole ∙ ap (λ (b : Plaintext). with_inner_options b (each 11 segments)) is_bare) in
    omega (arith, front, all, law (with_inner_options (bare_plaintext bare.code) (each 11 segments)), path_short segments lawful)

-- a payload after a plaintext that has none
pub text_whole : (code : ℕ) (options : List NumberAndValue) (payload : List ℕ)
    → plaintext_spelling (record { code = code; options = options; payload = None }) ++ payload_spelling (payload_of payload) ≡ plaintext_spelling (record { code = code; options = options; payload = payload_of payload })
unfolding plaintext_spelling payload_spelling
text_whole code options payload = ap (λ front. code ∷ front ++ payload_spelling (payload_of payload)) (append-nil (options_spelling 0 options))
