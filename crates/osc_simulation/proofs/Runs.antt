-- Runs that go on: what is left prints after what was printed.
use Rattle.std.proofs.Common.{◌≡◌, ◌∙◌, ap, sym, subst, refl, ℕ, ◌+◌, List, [], ◌∷◌, ◌++◌, ◌<◌, ◌≤◌, drop, take, get_or, suc, add-one, length, length-take-le, append_assoc, append-nil, arith, Option, Some, None, Result, Err}
use Rattle.std.proofs.Math.Seq.{drop-cons, take-suc}
use Rattle.std.specs.Io.KnownBytes.{Appends, Keeps}
use Rattle.std.specs.Result.{IsErrAnd}
use Rattle.osc_script.specs.declared.line.Line.{Line}
use Rattle.osc_simulation.specs.{Printing, Prints, PrintsLine}
use Rattle.osc_simulation.specs.declared.stage.Stage.{Stage}

-- what is left at an item, and after it
pub drop_item : {A : Type 0} (xs : List A) (i : ℕ) (x : A) → i < length xs → x ≡ get_or xs i x → drop i xs ≡ x ∷ drop (i + 1) xs
drop_item xs i x lt e = rw (add-one, drop-cons xs i x lt) (ap (λ y. y ∷ drop (suc i) xs) (sym e))

add-zero : (n : ℕ) → n + 0 ≡ n
add-zero n = omega arith

one_further : (n k : ℕ) → n + suc k ≡ n + 1 + k
one_further n k = omega arith

-- one line more
pub one_line_more : (printing : Printing) (number : ℕ) (lines : List Line) (l : Line) (first between last : Stage) (text more : List ℕ)
    → Prints printing number first lines text between → PrintsLine printing (number + length lines) between l more last
    → Prints printing number first (lines ++ l ∷ []) (text ++ more) last
one_line_more printing number [] l first between last text more so_far line = (
  more,
  [],
  last,
  subst (λ n. PrintsLine printing n first l more last) (add-zero number) (subst (λ stage. PrintsLine printing (number + 0) stage l more last) so_far.1 line),
  (refl, refl),
  ap (λ printed. printed ++ more) so_far.0 ∙ sym (append-nil more),
)
one_line_more printing number (x ∷ xs) l first between last text more so_far line = (
  so_far.0,
  so_far.1 ++ more,
  so_far.2,
  so_far.3,
  one_line_more printing (number + 1) xs l so_far.2 between last so_far.1 more so_far.4
      (subst (λ n. PrintsLine printing n between l more last) (one_further number (length xs)) line),
  ap (λ printed. printed ++ more) so_far.5 ∙ append_assoc so_far.0 so_far.1 more,
)

-- the number of the next item, from 1
pub nth : {A : Type 0} (xs : List A) (i n : ℕ) → i < length xs → n ≡ i → n + 1 ≡ 1 + length (take i xs)
nth xs i n lt e = let short = length-take-le i xs (omega (arith, lt)) in omega (arith, short, e)

-- up to the next item
pub take_item : {A : Type 0} (xs : List A) (i : ℕ) (d x : A) → i < length xs → x ≡ get_or xs i d → take (i + 1) xs ≡ take i xs ++ x ∷ []
take_item xs i d x lt e = rw (add-one i, take-suc xs i d lt, e) refl

-- the error by which a function ends is that of the call
pub exit_was : {T E : Type 0} (r : Result T E) (error e : E) → IsErrAnd r (λ x. x ≡ error) → r ≡ Err e → e ≡ error
exit_was r error e is ends = subst (λ q. IsErrAnd q (λ x. x ≡ error)) ends is

-- what a writer got in two parts, and in none
pub appends_more : (a b c : Option (List ℕ)) (xs ys : List ℕ) → Appends a b xs → Appends b c ys → Appends a c (xs ++ ys)
appends_more None b c xs ys h k = h
appends_more (Some x) None c xs ys h k = absurd h
appends_more (Some x) (Some y) None xs ys h k = k
appends_more (Some x) (Some y) (Some z) xs ys h k = k ∙ (ap (λ bytes. bytes ++ ys) h ∙ append_assoc x xs ys)

pub appends_none : (a : Option (List ℕ)) → Appends a a []
appends_none None = tt
appends_none (Some x) = sym (append-nil x)

pub appends_kept : (a b c : Option (List ℕ)) (xs : List ℕ) → Appends a b xs → Keeps b c → Appends a c xs
appends_kept None b c xs h k = h
appends_kept (Some x) None c xs h k = absurd h
appends_kept (Some x) (Some y) None xs h k = k
appends_kept (Some x) (Some y) (Some z) xs h k = k ∙ h

-- what goes after a text in three parts
pub three_behind : (before events end alone : List ℕ) {one two three : List ℕ} → one ≡ before ++ events → two ≡ one ++ end → three ≡ two ++ alone
    → three ≡ before ++ (events ++ end ++ alone)
three_behind before events end alone e f g = g ∙ (ap (λ bytes. bytes ++ alone) (f ∙ ap (λ bytes. bytes ++ end) e) ∙ assoc)
  where
    assoc : before ++ events ++ end ++ alone ≡ before ++ (events ++ end ++ alone)
    assoc = simp append_assoc

-- what goes after a text is of the same thing by another name
pub behind_by : {A : Type 0} (f : A → List ℕ) (before : List ℕ) {a b : A} {after : List ℕ} → a ≡ b → after ≡ before ++ f a → after ≡ before ++ f b
behind_by f before {a} {b} {after} same e = subst (λ x. after ≡ before ++ f x) same e
