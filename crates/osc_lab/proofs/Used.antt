-- The first line of a script that a lab doesn't use.
use Rattle.std.proofs.Common.{◌≡◌, ◌∙◌, ◌+◌, ◌-◌, ◌<◌, ◌≤◌, ℕ, suc, Bool, true, false, not, ◌==◌, ◌&&◌, cond, eqb-true, List, [], ◌∷◌, ◌++◌, length, get_or, take, drop, drop-cons, take_all, take-append-drop, Option, Some, None, refl, sym, ap, subst, arith, append_assoc, append-nil, inl, inr}
use Rattle.std.proofs.Math.Seq.{take-add, take-append-add, take-append_seam}
use Rattle.std.proofs.lemmas.List.{get_or-take, length-append, length-take-le}
use Rattle.std.proofs.lemmas.List.Quantifiers.{position-Some}
use Rattle.std.proofs.lemmas.List.Splits.{length-slice_split, slice_split_at, slice_split_none}
use Rattle.std.proofs.lemmas.List.Sums.{AllPass-from_list_all, list_all-from_AllPass}
use Rattle.std.proofs.lemmas.Iterator.Adapters.{position_from-zero}
use Rattle.std.specs.List.{All, list_all, position, position_from, slice_split}
use Rattle.osc_script.specs.{IsFirstBad, IsScript, StandFor, StandsFor, lines_of, without_empty_last}
use Rattle.osc_script.specs.declared.line.Line.{Line}
use Rattle.osc_script.specs.declared.line.Line.TheVariants.{Skipped}
use Rattle.osc_programs.specs.declared.ended.Ended.TheVariants.{BadLine}
use Rattle.osc_lab.specs.{IsFirstUnused, is_used}

-- ---- the first of a list that passes

record Cut {X : Type 0} (p : X → Bool) (xs : List X) (i : ℕ) : Type 0 where
  first : List X
  item : X
  rest : List X
  whole : xs ≡ first ++ item ∷ rest
  long : length first ≡ i
  passes : p item ≡ true
  before : All (λ x. p x ≡ false) first

cut_at : {X : Type 0} (p : X → Bool) (xs : List X) (i : ℕ) (d : X) → position p xs ≡ Some i → Cut p xs i
cut_at p xs i d e =
    let there = position-Some p xs i d e in
    let long : length (take i xs) ≡ i = length-take-le i xs (omega (arith, there.0)) in
    record {
      first = take i xs;
      item = get_or xs i d;
      rest = drop (suc i) xs;
      whole = sym (take-append-drop i xs) ∙ ap (λ (tail : List _). take i xs ++ tail) (drop-cons xs i d there.0);
      long = long;
      passes = there.1;
      before = λ k other lt.
          let inside : k < i = omega (arith, lt, long) in
          ap p (get_or-take i xs k other inside) ∙ (position-Some p xs i other e).2 k inside;
    }

-- where none does
none_more : (b : Bool) (i : ℕ) (later : Option ℕ) (all : Bool) → cond b (Some i) later ≡ None → (later ≡ None → all ≡ true) → (not b && all) ≡ true
none_more true i later all e more = let bad : Some i ≡ None = e in absurd (cc)
none_more false i later all e more = more e

none_from : {X : Type 0} (p : X → Bool) (i : ℕ) (xs : List X) → position_from p i xs ≡ None → list_all (λ x. not (p x)) xs ≡ true
none_from p i [] e = refl
none_from p i (x ∷ xs) e = none_more (p x) i (position_from p (i + 1) xs) (list_all (λ y. not (p y)) xs) e (none_from p (i + 1) xs)

none_passes : {X : Type 0} (p : X → Bool) (xs : List X) → position p xs ≡ None → list_all (λ x. not (p x)) xs ≡ true
none_passes p xs e = none_from p 0 xs (sym (position_from-zero p xs) ∙ e)

not_false : (b : Bool) → not b ≡ false → b ≡ true
not_false true e = refl
not_false false e = absurd cc

not_true : (b : Bool) → not b ≡ true → b ≡ false
not_true true e = absurd cc
not_true false e = refl

-- ---- lines

abbrev is_other : Line → Bool
is_other line = not (is_used line)

double : (b : Bool) → not (not b) ≡ true → b ≡ true
double true e = refl
double false e = absurd cc

pub all_used : (lines : List Line) → position (λ line. not (is_used line)) lines ≡ None → list_all is_used lines ≡ true
all_used lines e =
    let pass = AllPass-from_list_all (λ line. not (is_other line)) lines (none_passes is_other lines e) in
    list_all-from_AllPass is_used lines (λ k d lt. double _ (pass k d lt))

-- The text of this line, among those of others.
record StandsCut (above : List Line) (texts : List (List ℕ)) (first : List Line) (line : Line) : Type 0 where
  before : List (List ℕ)
  bad : List ℕ
  after : List (List ℕ)
  whole : texts ≡ before ++ bad ∷ after
  long : length before ≡ length first
  good : StandFor above before first
  stands : StandsFor (above ++ first) bad line

stand_cut : (above : List Line) (texts : List (List ℕ)) (first : List Line) (line : Line) (rest : List Line) → StandFor above texts (first ++ line ∷ rest)
    → StandsCut above texts first line
stand_cut above [] [] line rest s = absurd s
stand_cut above [] (l ∷ first) line rest s = absurd s
stand_cut above (t ∷ texts) [] line rest s = record {
  before = [];
  bad = t;
  after = texts;
  whole = refl;
  long = refl;
  good = tt;
  stands = subst (λ (lines : List Line). StandsFor lines t line) (sym (append-nil above)) s.0;
}
stand_cut above (t ∷ texts) (l ∷ first) line rest s =
    let further = stand_cut (above ++ l ∷ []) texts first line rest s.1 in
    record {
      before = t ∷ further.before;
      bad = further.bad;
      after = further.after;
      whole = ap (λ (all : List (List ℕ)). t ∷ all) further.whole;
      long = ap suc further.long;
      good = (s.0, further.good);
      stands = subst (λ (lines : List Line). StandsFor lines further.bad line) (append_assoc above (l ∷ []) first) further.stands;
    }

-- a line of another kind is the first that isn't used, where all before it are
pub other_is_first : (text : List ℕ) (lines : List Line) (i : ℕ) → IsScript text lines → position (λ line. not (is_used line)) lines ≡ Some i
    → IsFirstUnused text (i + 1)
other_is_first text lines i says e =
    let cut = cut_at is_other lines i Skipped e in
    let stands = stand_cut [] (lines_of text) cut.first cut.item cut.rest (subst (λ (all : List Line). StandFor [] (lines_of text) all) cut.whole says) in
    record {
      before = stands.before;
      bad = stands.bad;
      after = stands.after;
      lines = cut.first;
      whole = stands.whole;
      count = omega (arith, stands.long, cut.long);
      good = stands.good;
      used = list_all-from_AllPass is_used cut.first (λ k d lt. not_false _ (cut.before k d lt));
      unused = inr (cut.item, stands.stands, not_true _ cut.passes);
    }

-- what is so of the first lines of a text is so of the text
pub of_first_lines : (text part : List ℕ) (m n : ℕ) → lines_of part ≡ take m (lines_of text) → IsFirstUnused part n → IsFirstUnused text n
of_first_lines text part m n e u = record {
  before = u.before;
  bad = u.bad;
  after = u.after ++ drop m (lines_of text);
  lines = u.lines;
  whole = sym (take-append-drop m (lines_of text)) ∙ ap (λ (first : List (List ℕ)). first ++ drop m (lines_of text)) (sym e ∙ u.whole)
      ∙ append_assoc u.before (u.bad ∷ u.after) (drop m (lines_of text));
  count = u.count;
  good = u.good;
  used = u.used;
  unused = u.unused;
}

-- where all lines before the first bad one are used, it is the first that isn't
pub bad_is_first : ((text : List ℕ) (lines others : List Line) → IsScript text lines → IsScript text others → lines ≡ others)
    → (text part : List ℕ) (n : ℕ) (lines : List Line) → IsFirstBad text n → lines_of part ≡ take (n - 1) (lines_of text) → IsScript part lines
    → position (λ line. not (is_used line)) lines ≡ None → IsFirstUnused text n
bad_is_first one_script text part n lines b e says none =
    let m : n - 1 ≡ length b.before = omega (arith, b.count) in
    let same : lines_of part ≡ b.before =
    e ∙ ap (λ (k : ℕ). take k (lines_of text)) m ∙ ap (take (length b.before)) b.whole ∙ take-append_seam b.before (b.bad ∷ b.after) in
    let lines_are : b.lines ≡ lines = one_script part b.lines lines (subst (λ (texts : List (List ℕ)). StandFor [] texts b.lines) (sym same) b.good) says in
    record {
      before = b.before;
      bad = b.bad;
      after = b.after;
      lines = lines;
      whole = b.whole;
      count = b.count;
      good = subst (λ (all : List Line). StandFor [] b.before all) lines_are b.good;
      used = all_used lines none;
      unused = inl (subst (λ (all : List Line). (line : Line) → ¬ StandsFor all b.bad line) lines_are b.nothing);
    }

-- ---- the first lines of a text

line_feed : ℕ → Bool
line_feed b = b == 10

first_stays : (part next : List ℕ) (parts : List (List ℕ)) → without_empty_last (part ∷ next ∷ parts) ≡ part ∷ without_empty_last (next ∷ parts)
first_stays [] next parts = refl
first_stays (b ∷ part) next parts = refl

first_of_more : (part : List ℕ) (parts : List (List ℕ)) → 1 ≤ length parts → without_empty_last (part ∷ parts) ≡ part ∷ without_empty_last parts
first_of_more part [] some = absurd (omega (arith, some))
first_of_more part (next ∷ parts) some = first_stays part next parts

line_first : (line rest : List ℕ) → All (λ b. (b == 10) ≡ false) line → lines_of (line ++ 10 ∷ rest) ≡ line ∷ lines_of rest
line_first line rest none =
    let some : 1 ≤ length (slice_split (λ b. b == 10) rest) = omega (arith, length-slice_split (λ (b : ℕ). b == 10) rest) in
    ap without_empty_last (slice_split_at (λ (b : ℕ). b == 10) line 10 rest none refl) ∙ first_of_more line (slice_split (λ b. b == 10) rest) some

one_at_most : (part : List ℕ) → length (without_empty_last (part ∷ [])) ≤ 1
one_at_most [] = omega arith
one_at_most (b ∷ part) = omega arith

last_line : (bytes : List ℕ) → position (λ b. b == 10) bytes ≡ None → length (lines_of bytes) ≤ 1
last_line bytes e =
    let pass = AllPass-from_list_all (λ (b : ℕ). not (b == 10)) bytes (none_passes (λ (b : ℕ). b == 10) bytes e) in
    let one : slice_split (λ b. b == 10) bytes ≡ bytes ∷ [] = slice_split_none (λ (b : ℕ). b == 10) bytes (λ k d lt. not_true _ (pass k d lt)) in
    subst (λ (parts : List (List ℕ)). length (without_empty_last parts) ≤ 1) (sym one) (one_at_most bytes)

-- the first `at` bytes of a text are its first `n` lines
pub record CutAt (bytes : List ℕ) (at n : ℕ) : Type 0 where
  pub within : at ≤ length bytes
  pub long : n ≤ length (lines_of bytes)
  pub cut : (rest : List ℕ) → lines_of (take at bytes ++ rest) ≡ take n (lines_of bytes) ++ lines_of rest

pub cut_none : (bytes : List ℕ) → CutAt bytes 0 0
cut_none bytes = record { within = omega arith; long = omega arith; cut = λ rest. refl }

whole_cut : (bytes : List ℕ) (at n : ℕ) → CutAt bytes at n → lines_of bytes ≡ take n (lines_of bytes) ++ lines_of (drop at bytes)
whole_cut bytes at n c = ap lines_of (sym (take-append-drop at bytes)) ∙ c.cut (drop at bytes)

pub cut_more : (bytes : List ℕ) (at n end : ℕ) → CutAt bytes at n → position (λ b. b == 10) (drop at bytes) ≡ Some end → CutAt bytes (at + (end + 1)) (n + 1)
cut_more bytes at n end c e =
    let here = cut_at (λ (b : ℕ). b == 10) (drop at bytes) end 0 e in
    let feed : here.item ≡ 10 = eqb-true here.item 10 here.passes in
    let lines = lines_of bytes in
    let tail : drop at bytes ≡ here.first ++ 10 ∷ here.rest = here.whole ∙ ap (λ (b : ℕ). here.first ++ b ∷ here.rest) feed in
    let head : take (end + 1) (drop at bytes) ≡ here.first ++ 10 ∷ [] =
    ap (λ (k : ℕ). take (k + 1) (drop at bytes)) (sym here.long) ∙ ap (take (length here.first + 1)) tail ∙ take-append-add here.first (10 ∷ here.rest) 1 in
    let so_far : take (at + (end + 1)) bytes ≡ take at bytes ++ (here.first ++ 10 ∷ []) = take-add at (end + 1) bytes ∙ ap (λ (more : List ℕ). take at bytes ++ more) head in
    let long : length (take n lines) ≡ n = length-take-le n lines c.long in
    let all : lines ≡ take n lines ++ (here.first ∷ lines_of here.rest) =
    whole_cut bytes at n c ∙ ap (λ (more : List (List ℕ)). take n lines ++ more) (ap lines_of tail ∙ line_first here.first here.rest here.before) in
    let next : take (n + 1) lines ≡ take n lines ++ here.first ∷ [] =
    ap (λ (k : ℕ). take (k + 1) lines) (sym long) ∙ ap (take (length (take n lines) + 1)) all ∙ take-append-add (take n lines) (here.first ∷ lines_of here.rest) 1 in
    let lengths : length lines ≡ length (take n lines) + suc (length (lines_of here.rest)) = ap length all ∙ length-append (take n lines) (here.first ∷ lines_of here.rest) in
    let bytes_long : length bytes ≡ length (take at bytes) + length (drop at bytes) = ap length (sym (take-append-drop at bytes)) ∙ length-append (take at bytes) (drop at bytes) in
    let tail_long : length (drop at bytes) ≡ length here.first + suc (length here.rest) = ap length tail ∙ length-append here.first (10 ∷ here.rest) in
    record {
      within = omega (arith, bytes_long, tail_long, here.long, length-take-le at bytes c.within);
      long = omega (arith, lengths, long);
      cut = λ rest.
          ap (λ (first : List ℕ). lines_of (first ++ rest)) so_far ∙ ap lines_of (append_assoc (take at bytes) (here.first ++ 10 ∷ []) rest)
          ∙ ap (λ (more : List ℕ). lines_of (take at bytes ++ more)) (append_assoc here.first (10 ∷ []) rest) ∙ c.cut (here.first ++ 10 ∷ rest)
          ∙ ap (λ (more : List (List ℕ)). take n lines ++ more) (line_first here.first rest here.before)
          ∙ sym (append_assoc (take n lines) (here.first ∷ []) (lines_of rest)) ∙ ap (λ (first : List (List ℕ)). first ++ lines_of rest) (sym next);
    }

-- so far
pub lines_cut : (bytes : List ℕ) (at n : ℕ) → CutAt bytes at n → lines_of (take at bytes) ≡ take n (lines_of bytes)
lines_cut bytes at n c = ap lines_of (sym (append-nil (take at bytes))) ∙ c.cut [] ∙ append-nil (take n (lines_of bytes))

-- where no line feed is left
pub all_cut : (bytes : List ℕ) (at n most : ℕ) → CutAt bytes at n → position (λ b. b == 10) (drop at bytes) ≡ None → n < most → lines_of bytes ≡ take most (lines_of bytes)
all_cut bytes at n most c e lt =
    let lines = lines_of bytes in
    let lengths : length lines ≡ length (take n lines) + length (lines_of (drop at bytes)) = ap length (whole_cut bytes at n c) ∙ length-append (take n lines) (lines_of (drop at bytes)) in
    let fits : length lines ≤ most = omega (arith, lengths, length-take-le n lines c.long, last_line (drop at bytes) e, lt) in
    sym (take_all most lines fits)

-- ---- its number

pub same_number : (k n : ℕ) → BadLine k ≡ BadLine n → k ≡ n
same_number k n e = cc
