-- Lists that have some items of others, in their order.
use Rattle.std.proofs.Common.{◌≡◌, ◌≤◌, Bool, true, false, cond, List, [], ◌∷◌, ◌++◌, length, map, filter, arith}
use Rattle.std.specs.List.{All, AllByRecursion, IsDistinct}
use Rattle.std.proofs.lemmas.List.Elements.{All-from_recursion, recursion_from_All}

-- the first list has items of the second, in their order
pub data Part {X : Type 0} : List X → List X → Type 0 where
  none : Part [] []
  kept : {xs ys : List X} (x : X) → Part xs ys → Part (x ∷ xs) (x ∷ ys)
  left : {xs ys : List X} (y : X) → Part xs ys → Part xs (y ∷ ys)

pub part_whole : {X : Type 0} (xs : List X) → Part xs xs
part_whole [] = none
part_whole (x ∷ xs) = kept x (part_whole xs)

pub part_nothing : {X : Type 0} (xs : List X) → Part [] xs
part_nothing [] = none
part_nothing (x ∷ xs) = left x (part_nothing xs)

pub part_append : {X : Type 0} {xs ys zs ws : List X} → Part xs ys → Part zs ws → Part (xs ++ zs) (ys ++ ws)
part_append none part = part
part_append (kept x rest) part = kept x (part_append rest part)
part_append (left y rest) part = left y (part_append rest part)

-- a list in front that is left out
pub part_back : {X : Type 0} (xs : List X) {ys zs : List X} → Part ys zs → Part ys (xs ++ zs)
part_back [] part = part
part_back (x ∷ xs) part = left x (part_back xs part)

pub part_map : {X Y : Type 0} (f : X → Y) {xs ys : List X} → Part xs ys → Part (map f xs) (map f ys)
part_map f none = none
part_map f (kept x rest) = kept (f x) (part_map f rest)
part_map f (left y rest) = left (f y) (part_map f rest)

pub part_filter : {X : Type 0} (test : X → Bool) (xs : List X) → Part (filter test xs) xs
part_filter test [] = none
part_filter {X} test (x ∷ xs) = by (test x) (part_filter test xs)
  where
    by : (b : Bool) → Part (filter test xs) xs → Part (cond b (x ∷ filter test xs) (filter test xs)) (x ∷ xs)
    by true part = kept x part
    by false part = left x part

-- ---- what holds of the longer list holds of the shorter

pub part_length : {X : Type 0} {xs ys : List X} → Part xs ys → length xs ≤ length ys
part_length none = omega arith
part_length (kept x rest) = omega (arith, part_length rest)
part_length (left y rest) = omega (arith, part_length rest)

part_each : {X : Type 0} (P : X → Type 0) {xs ys : List X} → Part xs ys → AllByRecursion P ys → AllByRecursion P xs
part_each P none all = all
part_each P (kept x rest) all = (all.0, part_each P rest all.1)
part_each P (left y rest) all = part_each P rest all.1

pub part_all : {X : Type 0} (P : X → Type 0) {xs ys : List X} → Part xs ys → All P ys → All P xs
part_all P {xs} {ys} part all = All-from_recursion P xs (part_each P part (recursion_from_All P ys all))

pub part_distinct : {X : Type 0} (eq : X → X → Bool) {xs ys : List X} → Part xs ys → IsDistinct eq ys → IsDistinct eq xs
unfolding IsDistinct
part_distinct eq none apart = apart
part_distinct eq (kept x rest) apart = (part_each (λ y. eq x y ≡ false) rest apart.0, part_distinct eq rest apart.1)
part_distinct eq (left y rest) apart = part_distinct eq rest apart.1
