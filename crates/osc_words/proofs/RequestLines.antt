-- Lines one after another.
use Rattle.std.proofs.Common.{◌≡◌, ℕ, Result, Err, take-append-drop, drop-cons, add-one, ◌+◌, ◌<◌, ◌≤◌, List, [], ◌∷◌, ◌++◌, length, get_or, take, drop, map, Option, Bor, refl, sym, ap, ◌∙◌, arith}
use Rattle.std.proofs.lemmas.List.{take_more, map_push, map-append}
use Rattle.osc_model.specs.declared.request.Request.{Request}
use Rattle.osc_script.specs.declared.read.ScriptError.{ScriptError}
use Rattle.osc_script.specs.declared.read.ScriptError.TheVariants.{BadLine}
use Rattle.osc_script.specs.{Reads}
use Rattle.osc_words.specs.RequestLines.{IsFirstBad, IsRequestIn, IsRequestOf, Say, Says, format_digits, parts_of, with_fourth, with_third}

-- one line more
one_more : (lines : List (List ℕ)) (said : List (Option Request)) (line : List ℕ) (more : Option Request) → Say lines said → Says line more
    → Say (lines ++ line ∷ []) (said ++ more ∷ [])
one_more [] [] line more s n = (n, tt)
one_more [] (r ∷ said) line more s n = absurd s
one_more (l ∷ lines) [] line more s n = absurd s
one_more (l ∷ lines) (r ∷ said) line more s n = (s.0, one_more lines said line more s.1 n)

as_many : (lines : List (List ℕ)) (said : List (Option Request)) → Say lines said → length lines ≡ length said
as_many [] [] s = refl
as_many [] (r ∷ said) s = absurd s
as_many (l ∷ lines) [] s = absurd s
as_many (l ∷ lines) (r ∷ said) s = omega (arith, as_many lines said s.1)

-- the lines up to place i, and the one there
take_one : (lines : List (Bor (List ℕ))) (i : ℕ) (d : Bor (List ℕ)) → i < length lines
    → map (λ line. line.now) (take (i + 1) lines) ≡ map (λ line. line.now) (take i lines) ++ (get_or lines i d).now ∷ []
take_one lines i d lt =
    ap (map (λ (line : Bor (List ℕ)). line.now)) (take_more lines i d lt) ∙ map_push (λ (line : Bor (List ℕ)). line.now) (take i lines) (get_or lines i d)

pub next_at : (lines : List (Bor (List ℕ))) (i : ℕ) (d : Bor (List ℕ)) (said all : List (Option Request)) (more : Option Request) → i < length lines
    → Says (get_or lines i d).now more → all ≡ said ++ more ∷ [] → Say (map (λ line. line.now) (take i lines)) said
    → Say (map (λ line. line.now) (take (i + 1) lines)) all
next_at lines i d said all more lt n e so_far =
    rw (e, take_one lines i d lt) (one_more (map (λ (line : Bor (List ℕ)). line.now) (take i lines)) said (get_or lines i d).now more so_far n)

parted : (lines : List (Bor (List ℕ))) (i : ℕ) (d : Bor (List ℕ)) → i < length lines
    → map (λ line. line.now) lines ≡ map (λ line. line.now) (take i lines) ++ (get_or lines i d).now ∷ map (λ line. line.now) (drop (i + 1) lines)
parted lines i d lt =
    let rest : drop i lines ≡ get_or lines i d ∷ drop (i + 1) lines = rw (add-one, drop-cons lines i d) refl in
    ap (map (λ (line : Bor (List ℕ)). line.now)) (sym (take-append-drop i lines)) ∙ map-append (λ (line : Bor (List ℕ)). line.now) (take i lines) (drop i lines)
    ∙ ap (λ (ls : List (Bor (List ℕ))). map (λ (line : Bor (List ℕ)). line.now) (take i lines) ++ map (λ (line : Bor (List ℕ)). line.now) ls) rest

pub bad_is : {T : Type 0} (k n : ℕ) → ◌≡◌ {A = Result T ScriptError} (Err (BadLine k)) (Err (BadLine n)) → n ≡ k
bad_is k n e = cc

pub bad_at : (lines : List (Bor (List ℕ))) (i : ℕ) (d : Bor (List ℕ)) (said : List (Option Request)) (n : ℕ) → i < length lines
    → ((request : Option Request) → ¬ Says (get_or lines i d).now request) → n ≡ length said + 1
    → Say (map (λ line. line.now) (take i lines)) said → IsFirstBad (map (λ line. line.now) lines) n
bad_at lines i d said n lt h e s = record {
  before = map (λ (line : Bor (List ℕ)). line.now) (take i lines);
  bad = (get_or lines i d).now;
  after = map (λ (line : Bor (List ℕ)). line.now) (drop (i + 1) lines);
  requests = said;
  whole = parted lines i d lt;
  count = omega (arith, as_many (map (λ (line : Bor (List ℕ)). line.now) (take i lines)) said s);
  good = s;
  nothing = h;
}

-- ---- the words of a line

pub three_words : (words : List (Bor (List ℕ))) (d e f : Bor (List ℕ)) (found : Option Request) → 3 ≤ length words → length words < 4
    → Reads (IsRequestOf (with_third (get_or words 0 d).now (get_or words 1 e).now (get_or words 2 f).now (format_digits (get_or words 2 f).now))) found
    → Reads (IsRequestIn (parts_of (map (λ word. word.now) words))) found
three_words [] d e f found le lt h = absurd (omega (arith, le))
three_words (w ∷ []) d e f found le lt h = absurd (omega (arith, le))
three_words (w ∷ x ∷ []) d e f found le lt h = absurd (omega (arith, le))
three_words (w ∷ x ∷ y ∷ []) d e f found le lt h = h
three_words (w ∷ x ∷ y ∷ z ∷ words) d e f found le lt h = absurd (omega (arith, lt))

pub four_words : (words : List (Bor (List ℕ))) (d e f g : Bor (List ℕ)) (found : Option Request) → 4 ≤ length words → length words < 5
    → Reads (IsRequestIn (with_fourth (get_or words 0 d).now (get_or words 1 e).now (get_or words 2 f).now (format_digits (get_or words 3 g).now))) found
    → Reads (IsRequestIn (parts_of (map (λ word. word.now) words))) found
four_words [] d e f g found le lt h = absurd (omega (arith, le))
four_words (w ∷ []) d e f g found le lt h = absurd (omega (arith, le))
four_words (w ∷ x ∷ []) d e f g found le lt h = absurd (omega (arith, le))
four_words (w ∷ x ∷ y ∷ []) d e f g found le lt h = absurd (omega (arith, le))
four_words (w ∷ x ∷ y ∷ z ∷ []) d e f g found le lt h = h
four_words (w ∷ x ∷ y ∷ z ∷ v ∷ words) d e f g found le lt h = absurd (omega (arith, lt))

-- five or more
pub many_words : (words : List (Bor (List ℕ))) → 5 ≤ length words → (request : Request) → IsRequestIn (parts_of (map (λ word. word.now) words)) request → ⊥
many_words [] le request says = says
many_words (v ∷ []) le request says = says
many_words (v ∷ w ∷ []) le request says = absurd (omega (arith, le))
many_words (v ∷ w ∷ x ∷ []) le request says = absurd (omega (arith, le))
many_words (v ∷ w ∷ x ∷ y ∷ []) le request says = absurd (omega (arith, le))
many_words (v ∷ w ∷ x ∷ y ∷ z ∷ words) le request says = says

pub one_word : (words : List (Bor (List ℕ))) → 1 ≤ length words → length words < 2 → (request : Request) → IsRequestIn (parts_of (map (λ word. word.now) words)) request → ⊥
one_word [] le lt request says = absurd (omega (arith, le))
one_word (w ∷ []) le lt request says = says
one_word (w ∷ x ∷ words) le lt request says = absurd (omega (arith, lt))
