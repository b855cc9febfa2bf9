-- Members that are texts and whole numbers have no float.
use Rattle.std.proofs.Common.{◌≡◌, ℕ, List, Bool, true, false, ◌||◌, refl}
use Rattle.std.proofs.lemmas.Bool.{or_parts}
use Rattle.std.specs.Ordering.{match_ordering, nat_cmp}
use Rattle.std.specs.Cmp.Lexicographic.{slice_cmp}
use Rattle.std.specs.declared.cmp.Ordering.{Ordering}
use Rattle.std.specs.declared.cmp.Ordering.TheVariants.{Less, Equal, Greater}
use Rattle.serde_json.specs.Data.{Data, Members, member, no_members, put}
use Rattle.serde_json.specs.Written.{has_float, members_have_float}

neither : (a b : Bool) → a ≡ false → b ≡ false → (a || b) ≡ false
neither true b p q = p
neither false b p q = q

by_order : (order : Ordering) (a b c : Members) → members_have_float a ≡ false → members_have_float b ≡ false → members_have_float c ≡ false
    → members_have_float (match_ordering order a b c) ≡ false
by_order Less a b c p q r = p
by_order Equal a b c p q r = q
by_order Greater a b c p q r = r

pub no_float_put : (key : List ℕ) (value : Data) (members : Members) → has_float value ≡ false → members_have_float members ≡ false
    → members_have_float (put key value members) ≡ false
no_float_put key value no_members h none = neither (has_float value) false h refl
no_float_put key value (member name other members) h none =
    let parts = or_parts (has_float other) (members_have_float members) none in
    by_order (slice_cmp nat_cmp key name) (member key value (member name other members)) (member name value members) (member name other (put key value members))
    (neither (has_float value) _ h none) (neither (has_float value) _ h parts.1) (neither (has_float other) _ parts.0 (no_float_put key value members h parts.1))
