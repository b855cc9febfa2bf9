-- The options of a request appended to a plaintext, a number after the other and of each a value after the other.
use Rattle.std.proofs.Common.{◌≡◌, ℕ, ◌<◌, ◌≤◌, ◌+◌, ◌-◌, Bool, true, false, List, [], ◌∷◌, ◌++◌, length, take, drop, get_or, Option, Some, None, sym, ap, subst, ◌∙◌, append_assoc, append-nil, length-drop, arith}
use Rattle.std.proofs.lemmas.List.{at_drop_more, drop_all, take_all}
use Rattle.osc_model.specs.{IsPath, path_text, are_segments}
use Rattle.osc_model.specs.declared.request.Request.{Request}
use Rattle.osc_coap.specs.{NumberAndValue, plaintext_spelling, last_number, with_inner_option}
use Rattle.osc_coap.specs.Plaintext.{Plaintext}
use Rattle.osc_options.specs.Inner.Merging.{with_inner_options}
use Rattle.osc_model.specs.{segments_of}
use Rattle.osc_options.specs.{each, none_match_options, path_options, uint_options, request_options}
use Rattle.osc_options.proofs.AddLaws.{PlaintextLaw, with_inner_options-more, inner_options_front}

-- ---- options of one number

-- a value is the one at this index
abbrev pub IsAt : List (List ℕ) → ℕ → List ℕ → Type 0
IsAt values i value = (i < length values) × (value ≡ get_or values i value)

pub each_more : (m : Plaintext) (number : ℕ) (values : List (List ℕ)) (i : ℕ) (value : List ℕ) → IsAt values i value → with_inner_options (with_inner_option m number value) (each number (drop (i + 1) values)) ≡ with_inner_options m (each number (drop i values))
each_more m number values i value at =
    let rest = drop (i + 1) values in
    with_inner_options-more m number value (each number rest)
    ∙ ap (λ (v : List ℕ). with_inner_options m (each number (v ∷ rest))) at.1
    ∙ sym (at_drop_more (λ vs. with_inner_options m (each number vs)) values i value at.0)

-- after the last of them no value is left
pub each_all : (m : Plaintext) (number : ℕ) (values : List (List ℕ)) (i : ℕ) → i ≡ length values → m ≡ with_inner_options m (each number (drop i values))
each_all m number values i all =
    sym (ap (λ (vs : List (List ℕ)). with_inner_options m (each number vs)) (drop_all i values (omega arith)) ∙ ap (λ (options : List NumberAndValue). record m { options = options }) (append-nil m.options))

-- a plaintext with the values up to one of them is no longer than with them all
pub each_front : PlaintextLaw → (m whole : Plaintext) (number : ℕ) (values : List (List ℕ)) (i : ℕ) (value : List ℕ) → IsAt values i value
    → with_inner_options m (each number (drop i values)) ≡ whole → length (plaintext_spelling (with_inner_option m number value)) ≤ length (plaintext_spelling whole)
each_front law m whole number values i value at all =
    subst (λ (w : Plaintext). length (plaintext_spelling (with_inner_option m number value)) ≤ length (plaintext_spelling w)) (each_more m number values i value at ∙ all)
    (inner_options_front law (with_inner_option m number value) (each number (drop (i + 1) values)))

-- ---- a path's text

some_text : (text : List ℕ) (segments : List (List ℕ)) → are_segments segments ≡ true → text ≡ path_text segments → 1 ≤ length text
some_text text [] lawful e = absurd cc
some_text text (segment ∷ segments) lawful e = omega (arith, ap length e)

-- it begins with a slash
pub some_path : (text : List ℕ) → IsPath text → 1 ≤ length text
some_path text path = some_text text path.segments path.lawful path.spelled

-- what a range from the second byte on lends
pub behind_first : (text : List ℕ) → take (length text - 1) (drop 1 text) ≡ drop 1 text
behind_first text = take_all (length text - 1) (drop 1 text) (omega (arith, length-drop 1 text))

-- ---- options of one number after those of others

pub with_options-again : (m : Plaintext) (front back : List NumberAndValue) → with_inner_options (with_inner_options m front) back ≡ with_inner_options m (front ++ back)
with_options-again m front back = ap (λ (options : List NumberAndValue). record m { options = options }) (append_assoc m.options front back)

-- one step more
pub grown : (old now next : Plaintext) (front back : List NumberAndValue) → now ≡ with_inner_options old front → next ≡ with_inner_options now back → next ≡ with_inner_options old (front ++ back)
grown old now next front back so_far step = step ∙ ap (λ (m : Plaintext). with_inner_options m back) so_far ∙ with_options-again old front back

-- ---- the options of a request so far are no longer than all

front_options : PlaintextLaw → (m : Plaintext) (front back : List NumberAndValue) → length (plaintext_spelling (with_inner_options m front)) ≤ length (plaintext_spelling (with_inner_options m (front ++ back)))
front_options law m front back =
    subst (λ (w : Plaintext). length (plaintext_spelling (with_inner_options m front)) ≤ length (plaintext_spelling w)) (with_options-again m front back) (inner_options_front law (with_inner_options m front) back)

abbrev pub conditions : Request → List NumberAndValue
conditions r = each 1 r.if_match ++ none_match_options r.if_none_match

abbrev pub before_accept : Request → List NumberAndValue
before_accept r = conditions r ++ path_options r.path ++ uint_options 12 r.format

pub format_front : PlaintextLaw → (m : Plaintext) (r : Request) → length (plaintext_spelling (with_inner_options m (before_accept r))) ≤ length (plaintext_spelling (with_inner_options m (request_options r)))
format_front law m r = front_options law m (before_accept r) (uint_options 17 r.accept)

pub path_front : PlaintextLaw → (m : Plaintext) (r : Request) → length (plaintext_spelling (with_inner_options m (conditions r ++ path_options r.path))) ≤ length (plaintext_spelling (with_inner_options m (request_options r)))
path_front law m r = omega (arith, format_front law m r, front_options law m (conditions r ++ path_options r.path) (uint_options 12 r.format))

pub conditions_front : PlaintextLaw → (m : Plaintext) (r : Request) → length (plaintext_spelling (with_inner_options m (conditions r))) ≤ length (plaintext_spelling (with_inner_options m (request_options r)))
conditions_front law m r = omega (arith, path_front law m r, front_options law m (conditions r) (path_options r.path))

pub tags_front : PlaintextLaw → (m : Plaintext) (r : Request) → length (plaintext_spelling (with_inner_options m (each 1 r.if_match))) ≤ length (plaintext_spelling (with_inner_options m (request_options r)))
tags_front law m r = omega (arith, conditions_front law m r, front_options law m (each 1 r.if_match) (none_match_options r.if_none_match))

-- ---- and their numbers

-- the last number of options in two parts
abbrev pub LastLaw : Type 0
LastLaw = (before : ℕ) (front back : List NumberAndValue) → last_number before (front ++ back) ≡ last_number (last_number before front) back

-- where the numbers stay below a bound
abbrev StaysBelow : ℕ → List NumberAndValue → Type 0
StaysBelow most options = (before : ℕ) → before ≤ most → last_number before options ≤ most

last_of : LastLaw → (old new : Plaintext) (options : List NumberAndValue) (most : ℕ) → new ≡ with_inner_options old options → last_number 0 old.options ≤ most → StaysBelow most options → last_number 0 new.options ≤ most
last_of law old new options most is le stays = omega (arith, ap (λ (m : Plaintext). last_number 0 m.options) is, law 0 old.options options, stays (last_number 0 old.options) le)

each_stays : (number : ℕ) (values : List (List ℕ)) → StaysBelow number (each number values)
each_stays number [] before le = le
each_stays number (value ∷ values) before le = each_stays number values number (omega arith)

none_match_stays : (asked : Bool) → StaysBelow 5 (none_match_options asked)
none_match_stays false before le = le
none_match_stays true before le = omega arith

path_stays : (path : Option (List ℕ)) → StaysBelow 11 (path_options path)
path_stays None before le = le
path_stays (Some text) before le = each_stays 11 (segments_of text) before le

uint_stays : (number : ℕ) (value : Option ℕ) → StaysBelow number (uint_options number value)
uint_stays number None before le = le
uint_stays number (Some n) before le = omega arith

pub last_tag : LastLaw → (old new : Plaintext) (tags : List (List ℕ)) → new ≡ with_inner_options old (each 1 tags) → last_number 0 old.options ≤ 1 → last_number 0 new.options ≤ 1
last_tag law old new tags is le = last_of law old new (each 1 tags) 1 is le (each_stays 1 tags)

pub last_none_match : LastLaw → (old new : Plaintext) (asked : Bool) → new ≡ with_inner_options old (none_match_options asked) → last_number 0 old.options ≤ 5 → last_number 0 new.options ≤ 5
last_none_match law old new asked is le = last_of law old new (none_match_options asked) 5 is le (none_match_stays asked)

pub last_segment : LastLaw → (old new : Plaintext) (path : Option (List ℕ)) → new ≡ with_inner_options old (path_options path) → last_number 0 old.options ≤ 11 → last_number 0 new.options ≤ 11
last_segment law old new path is le = last_of law old new (path_options path) 11 is le (path_stays path)

pub last_uint : LastLaw → (old new : Plaintext) (number : ℕ) (value : Option ℕ) → new ≡ with_inner_options old (uint_options number value) → last_number 0 old.options ≤ number → last_number 0 new.options ≤ number
last_uint law old new number value is le = last_of law old new (uint_options number value) number is le (uint_stays number value)
