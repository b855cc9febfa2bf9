-- Methods, their names and their bits.
use Rattle.std.proofs.Common.{◌≡◌, ◌≢◌, ℕ, ◌+◌, ◌*◌, ◌/◌, ◌%◌, ◌≤◌, ◌==◌, Bool, true, false, cond, not, List, [], ◌∷◌, ◌++◌, get_or, map, refl, sym, ap, ◌∙◌, add-zero, arith, codes}
use Rattle.std.specs.List.{All, list_all, sum_by}
use Rattle.std.proofs.lemmas.Bool.{and_parts, false≢true}
use Rattle.std.proofs.lemmas.Bool.Decides.{nat_tests}
use Rattle.std.proofs.lemmas.List.Elements.{All-nil, All-cons, All-head, All-tail, All-push}
use Rattle.std.proofs.lemmas.List.Sums.{sum_by-cons}
use Rattle.osc_model.specs.{method_number, method_with_number, method_back}
use Rattle.osc_model.specs.declared.code.Method.{Method}
use Rattle.osc_model.specs.declared.code.Method.TheVariants.{Get, Post, Put, Delete}
use Rattle.osc_scope.specs.{bit_of, has, is_below, name_of, below_word, below_bit, AreApart}
use Rattle.osc_scope.proofs.Parting.{Lacks}

-- ---- names

pub lacks_by : (byte : ℕ) (text : List ℕ) → list_all (λ b. not (b == byte)) text ≡ true → Lacks byte text
lacks_by byte [] e = All-nil (λ b. b ≢ byte)
lacks_by byte (b ∷ text) e =
    let parts = and_parts (not (b == byte)) (list_all (λ b. not (b == byte)) text) e in
    All-cons (λ b. b ≢ byte) b text (differs parts.0) (lacks_by byte text parts.1)
  where
    differs : not (b == byte) ≡ true → b ≢ byte
    differs e same = grind (arith, nat_tests)

-- a name has none of these bytes: `+`, `,` and `:`
name_lacks : (m : Method) → Lacks 43 (name_of m) × Lacks 44 (name_of m) × Lacks 58 (name_of m)
name_lacks Get = (lacks_by 43 (codes "GET") refl, lacks_by 44 (codes "GET") refl, lacks_by 58 (codes "GET") refl)
name_lacks Post = (lacks_by 43 (codes "POST") refl, lacks_by 44 (codes "POST") refl, lacks_by 58 (codes "POST") refl)
name_lacks Put = (lacks_by 43 (codes "PUT") refl, lacks_by 44 (codes "PUT") refl, lacks_by 58 (codes "PUT") refl)
name_lacks Delete = (lacks_by 43 (codes "DELETE") refl, lacks_by 44 (codes "DELETE") refl, lacks_by 58 (codes "DELETE") refl)

pub names_lack : (ms : List Method) → All (Lacks 43) (map name_of ms) × All (Lacks 44) (map name_of ms) × All (Lacks 58) (map name_of ms)
names_lack [] = (All-nil (Lacks 43), All-nil (Lacks 44), All-nil (Lacks 58))
names_lack (m ∷ ms) =
    let one = name_lacks m in
    let more = names_lack ms in (
      All-cons (Lacks 43) (name_of m) (map name_of ms) one.0 more.0,
      All-cons (Lacks 44) (name_of m) (map name_of ms) one.1 more.1,
      All-cons (Lacks 58) (name_of m) (map name_of ms) one.2 more.2,
    )

pub below_lacks : (b : Bool) → All (Lacks 43) (below_word b) × All (Lacks 44) (below_word b)
below_lacks true = (
  All-cons (Lacks 43) (codes "SUB") [] (lacks_by 43 (codes "SUB") refl) (All-nil (Lacks 43)),
  All-cons (Lacks 44) (codes "SUB") [] (lacks_by 44 (codes "SUB") refl) (All-nil (Lacks 44)),
)
below_lacks false = (All-nil (Lacks 43), All-nil (Lacks 44))

-- SUB is no method's name
pub sub_is_no_name : (m : Method) → name_of m ≢ codes "SUB"
sub_is_no_name m e = never m (ap (λ name. get_or name 0 0) e)
  where
    never : (m : Method) → get_or (name_of m) 0 0 ≢ 83
    never Get = λ (same : 71 ≡ 83). absurd (omega arith)
    never Post = λ (same : 80 ≡ 83). absurd (omega arith)
    never Put = λ (same : 80 ≡ 83). absurd (omega arith)
    never Delete = λ (same : 68 ≡ 83). absurd (omega arith)

abbrev named_by : ℕ → ℕ → Method
named_by first second = cond (first == 71) Get (cond (first == 68) Delete (cond (second == 79) Post Put))

named_back : (m : Method) → named_by (get_or (name_of m) 0 0) (get_or (name_of m) 1 0) ≡ m
named_back Get = refl
named_back Post = refl
named_back Put = refl
named_back Delete = refl

pub one_name : (m n : Method) → name_of m ≡ name_of n → m ≡ n
one_name m n e = sym (named_back m) ∙ ap (λ name. named_by (get_or name 0 0) (get_or name 1 0)) e ∙ named_back n

-- words are those of some methods, and SUB or not, in one way
pub one_saying : (ms ns : List Method) (b c : Bool) → map name_of ms ++ below_word b ≡ map name_of ns ++ below_word c → (ms ≡ ns) × (b ≡ c)
one_saying [] [] true true e = (refl, refl)
one_saying [] [] true false e = cc
one_saying [] [] false true e = cc
one_saying [] [] false false e = (refl, refl)
one_saying [] (n ∷ ns) true c e = absurd (sub_is_no_name n (sym cc))
one_saying [] (n ∷ ns) false c e = cc
one_saying (m ∷ ms) [] b true e = absurd (sub_is_no_name m cc)
one_saying (m ∷ ms) [] b false e = cc
one_saying (m ∷ ms) (n ∷ ns) b c e =
    let head = one_name m n cc in
    let tail = one_saying ms ns b c cc in
    ((λ i. head i ∷ tail.0 i), tail.1)

-- ---- how often a method is among some

abbrev pub same : Method → Method → Bool
same m n = method_number m == method_number n

abbrev one_if : Bool → ℕ
one_if b = cond b 1 0

abbrev pub times : Method → List Method → ℕ
times m [] = 0
times m (n ∷ ns) = one_if (same m n) + times m ns

pub same_is : (m n : Method) → same m n ≡ true → m ≡ n
same_is m n e =
    let numbers : method_number m ≡ method_number n = grind (arith, nat_tests) in
    sym (method_back m) ∙ ap method_with_number numbers ∙ method_back n

itself : (m : Method) → same m m ≡ true
itself Get = refl
itself Post = refl
itself Put = refl
itself Delete = refl

pub absent : (m : Method) (ms : List Method) → All (λ other. other ≢ m) ms → times m ms ≡ 0
absent m [] h = refl
absent m (n ∷ ms) h =
    go (same m n) refl (absent m ms (All-tail (λ other. other ≢ m) n ms h))
  where
    go : (b : Bool) → same m n ≡ b → times m ms ≡ 0 → one_if b + times m ms ≡ 0
    go true e rest = absurd (All-head (λ other. other ≢ m) n ms h (sym (same_is m n e)))
    go false e rest = omega arith

none_there : (m : Method) (ms : List Method) → times m ms ≡ 0 → All (λ other. other ≢ m) ms
none_there m [] e = All-nil (λ other. other ≢ m)
none_there m (n ∷ ms) e =
    go (same m n) refl e (λ zero_times. none_there m ms zero_times)
  where
    go : (b : Bool) → same m n ≡ b → one_if b + times m ms ≡ 0 → (times m ms ≡ 0 → All (λ other. other ≢ m) ms) → All (λ other. other ≢ m) (n ∷ ms)
    go true s e rest = absurd (omega arith)
    go false s e rest =
        All-cons (λ other. other ≢ m) n ms (λ is. false≢true (sym s ∙ ap (same m) is ∙ itself m)) (rest (omega arith))

once : (m : Method) (ms : List Method) → AreApart ms → times m ms ≤ 1
once m [] apart = omega arith
once m (n ∷ ms) apart =
    go (same m n) refl (once m ms apart.1)
  where
    go : (b : Bool) → same m n ≡ b → times m ms ≤ 1 → one_if b + times m ms ≤ 1
    go true s rest =
        let none : times m ms ≡ 0 = ap (λ x. times x ms) (same_is m n s) ∙ absent n ms apart.0 in
        omega arith
    go false s rest = omega arith

-- ---- the set of some methods

abbrev counted : List Method → ℕ
counted ms = times Get ms + 2 * times Post ms + 4 * times Put ms + 8 * times Delete ms

one_more : (m : Method) (ms : List Method) → bit_of m + counted ms ≡ counted (m ∷ ms)
one_more Get ms = omega arith
one_more Post ms = omega arith
one_more Put ms = omega arith
one_more Delete ms = omega arith

set_is : (ms : List Method) → sum_by bit_of ms ≡ counted ms
set_is [] = refl
set_is (m ∷ ms) = sum_by-cons bit_of m ms ∙ ap (λ n. bit_of m + n) (set_is ms) ∙ one_more m ms

pub set_most : (ms : List Method) → AreApart ms → sum_by bit_of ms ≤ 15
set_most ms apart = omega (arith, set_is ms, once Get ms apart, once Post ms apart, once Put ms apart, once Delete ms apart)

pub set_some : (ms : List Method) → ms ≢ [] → 1 ≤ sum_by bit_of ms
set_some [] some = absurd (some refl)
set_some (m ∷ ms) some = omega (arith, sum_by-cons bit_of m ms, some_bit m)
  where
    some_bit : (m : Method) → 1 ≤ bit_of m
    some_bit Get = omega arith
    some_bit Post = omega arith
    some_bit Put = omega arith
    some_bit Delete = omega arith

-- ---- with the bit for the paths below

pub whole_some : (ms : List Method) (b : Bool) → ms ≢ [] → AreApart ms → 1 ≤ (sum_by bit_of ms + below_bit b) % 16
whole_some ms true some apart = omega (arith, set_some ms some, set_most ms apart)
whole_some ms false some apart = omega (arith, set_some ms some, set_most ms apart)

pub whole_most : (ms : List Method) (b : Bool) → AreApart ms → sum_by bit_of ms + below_bit b ≤ 31
whole_most ms true apart = omega (arith, set_most ms apart)
whole_most ms false apart = omega (arith, set_most ms apart)

-- that bit touches none of the methods' ..
untouched : (set : ℕ) (m : Method) → (set + 16) / bit_of m % 2 ≡ set / bit_of m % 2
untouched set Get = omega arith
untouched set Post = omega arith
untouched set Put = omega arith
untouched set Delete = omega arith

pub has_whole : (set : ℕ) (b : Bool) (m : Method) → has (set + below_bit b) m ≡ has set m
has_whole set true m = ap (λ n. n == 1) (untouched set m)
has_whole set false m = ap (λ n. has n m) (add-zero set)

-- .. nor these that one
pub below_whole : (ms : List Method) (b : Bool) → AreApart ms → is_below (sum_by bit_of ms + below_bit b) ≡ b
below_whole ms true apart =
    let one : (sum_by bit_of ms + 16) / 16 % 2 ≡ 1 = omega (arith, set_most ms apart) in ap (λ n. n == 1) one
below_whole ms false apart =
    let none : (sum_by bit_of ms + 0) / 16 % 2 ≡ 0 = omega (arith, set_most ms apart) in ap (λ n. n == 1) none

bit_at : (g p u d : ℕ) (m : Method) → g ≤ 1 → p ≤ 1 → u ≤ 1 → d ≤ 1
    → (g + 2 * p + 4 * u + 8 * d) / bit_of m % 2 ≡ cond (same m Get) g (cond (same m Post) p (cond (same m Put) u d))
bit_at g p u d Get hg hp hu hd = omega arith
bit_at g p u d Post hg hp hu hd = omega arith
bit_at g p u d Put hg hp hu hd = omega arith
bit_at g p u d Delete hg hp hu hd = omega arith

chosen : (m : Method) (ms : List Method) → cond (same m Get) (times Get ms) (cond (same m Post) (times Post ms) (cond (same m Put) (times Put ms) (times Delete ms))) ≡ times m ms
chosen Get ms = refl
chosen Post ms = refl
chosen Put ms = refl
chosen Delete ms = refl

pub has_is : (ms : List Method) (m : Method) → AreApart ms → has (sum_by bit_of ms) m ≡ (times m ms == 1)
has_is ms m apart =
    ap (λ n. has n m) (set_is ms)
    ∙ ap (λ n. n == 1) (bit_at (times Get ms) (times Post ms) (times Put ms) (times Delete ms) m (once Get ms apart) (once Post ms apart) (once Put ms apart) (once Delete ms apart) ∙ chosen m ms)

pub lacks_method : (ms : List Method) (m : Method) → AreApart ms → has (sum_by bit_of ms) m ≡ false → All (λ other. other ≢ m) ms
lacks_method ms m apart e =
    let most = once m ms apart in
    let not_one : (times m ms == 1) ≡ false = sym (has_is ms m apart) ∙ e in
    let none : times m ms ≡ 0 = grind (arith, nat_tests) in
    none_there m ms none

pub has_method : (ms : List Method) (m : Method) → AreApart ms → has (sum_by bit_of ms) m ≡ true → All (λ other. other ≢ m) ms → ⊥
has_method ms m apart e h =
    let one : (times m ms == 1) ≡ true = sym (has_is ms m apart) ∙ e in
    let none = absent m ms h in
    grind (arith, nat_tests)

-- ---- one method more

pub apart_push : (ms : List Method) (m : Method) → AreApart ms → All (λ other. other ≢ m) ms → AreApart (ms ++ m ∷ [])
apart_push [] m apart h = (All-nil (λ other. other ≢ m), tt)
apart_push (n ∷ ms) m apart h = (
  All-push (λ other. other ≢ n) ms m apart.0 (λ e. All-head (λ other. other ≢ m) n ms h (sym e)),
  apart_push ms m apart.1 (All-tail (λ other. other ≢ m) n ms h),
)

-- a method is none of those before it
pub apart_before : (before after : List Method) (m : Method) → AreApart (before ++ m ∷ after) → All (λ other. other ≢ m) before
apart_before [] after m apart = All-nil (λ other. other ≢ m)
apart_before (n ∷ before) after m apart =
    All-cons (λ other. other ≢ m) n before (λ e. among before (sym e) apart.0) (apart_before before after m apart.1)
  where
    among : (xs : List Method) → m ≡ n → All (λ other. other ≢ n) (xs ++ m ∷ after) → ⊥
    among [] e h = All-head (λ other. other ≢ n) m after h e
    among (x ∷ xs) e h = among xs e (All-tail (λ other. other ≢ n) x (xs ++ m ∷ after) h)
