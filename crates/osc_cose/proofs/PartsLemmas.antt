-- The parts of an object, taken out of its item.
use Rattle.std.proofs.Common.{◌≡◌, ℕ, List, Option, Some, None, refl, sym, ap, ◌∙◌, subst}
use Rattle.std.specs.Option.{option_map, option_and_then}
use Rattle.osc_cbor.specs.{DataItem, unsigned, negative, byte_string, text_string, array, map, tag, bool, null, Items, no_items, item, Pairs, as_bytes, as_array, as_map, value}
use Rattle.osc_cose.specs.{IsObject, IsProtected, untagged}
use Rattle.osc_cose.specs.Inner.Parts.{three_of, typed, parts_of}
use Rattle.osc_cose.specs.declared.encrypt0.Encrypt0.{Encrypt0}

some_is : {A : Type 0} (x y : A) → Some x ≡ Some y → x ≡ y
some_is x y e = cc

-- ---- from an object to its parts

pub parts_from_object : (d : DataItem) (object : Encrypt0) (o : IsObject d object)
    → parts_of (untagged d) ≡ Some (object.protected, (map o.unprotected, object.ciphertext))
parts_from_object d object o = ap parts_of o.whole

-- the protected header among them is the object's
pub protected_from_object : (d : DataItem) (object : Encrypt0) (p : List ℕ) (u : DataItem) (c : List ℕ)
    → parts_of (untagged d) ≡ Some (p, (u, c)) → IsObject d object → IsProtected p
protected_from_object d object p u c e o =
    let is = parts_from_object d object o in
    let same : object.protected ≡ p = ap (λ x. x.0) (some_is _ _ (sym is ∙ e)) in
    subst IsProtected same o.protected

-- ---- and back

then_some : {A B : Type 0} (f : A → Option B) (o : Option A) (b : B) → option_and_then f o ≡ Some b → (a : A) × (o ≡ Some a) × (f a ≡ Some b)
then_some f None b e = cc
then_some f (Some a) b e = (a, refl, e)

bytes_is : (d : DataItem) (b : List ℕ) → as_bytes d ≡ Some b → d ≡ byte_string b
bytes_is (byte_string a) b e = cc
bytes_is (unsigned n) b e = cc
bytes_is (negative n) b e = cc
bytes_is (text_string a) b e = cc
bytes_is (array ds) b e = cc
bytes_is (map ps) b e = cc
bytes_is (tag n d) b e = cc
bytes_is (bool x) b e = cc
bytes_is null b e = cc

map_is : (d : DataItem) (ps : Pairs) → as_map d ≡ Some ps → d ≡ map ps
map_is (map qs) ps e = cc
map_is (byte_string a) ps e = cc
map_is (unsigned n) ps e = cc
map_is (negative n) ps e = cc
map_is (text_string a) ps e = cc
map_is (array ds) ps e = cc
map_is (tag n d) ps e = cc
map_is (bool x) ps e = cc
map_is null ps e = cc

array_is : (d : DataItem) (ds : Items) → as_array d ≡ Some ds → d ≡ array ds
array_is (array es) ds e = cc
array_is (byte_string a) ds e = cc
array_is (unsigned n) ds e = cc
array_is (negative n) ds e = cc
array_is (text_string a) ds e = cc
array_is (map ps) ds e = cc
array_is (tag n d) ds e = cc
array_is (bool x) ds e = cc
array_is null ds e = cc

three_is : (ds : Items) (x : DataItem × (DataItem × DataItem)) → three_of ds ≡ Some x → ds ≡ item x.0 (item x.1.0 (item x.1.1 no_items))
three_is no_items x e = cc
three_is (item a no_items) x e = cc
three_is (item a (item b no_items)) x e = cc
three_is (item a (item b (item c no_items))) x e = ap (λ (y : DataItem × (DataItem × DataItem)). item y.0 (item y.1.0 (item y.1.1 no_items))) (some_is _ _ e)
three_is (item a (item b (item c (item d ds)))) x e = cc

typed_is : (x : DataItem × (DataItem × DataItem)) (p : List ℕ) (u : DataItem) (c : List ℕ) → typed x ≡ Some (p, (u, c))
    → (ps : Pairs) × (x.0 ≡ byte_string p) × (x.1.0 ≡ map ps) × (u ≡ map ps) × (x.1.1 ≡ byte_string c)
typed_is x p u c e =
    let first = then_some _ (as_bytes x.0) (p, (u, c)) e in
    let second = then_some _ (as_map x.1.0) (p, (u, c)) first.2 in
    let third = then_some _ (as_bytes x.1.1) (p, (u, c)) second.2 in
    let parts = some_is _ _ third.2 in
    let is_map = map_is x.1.0 second.0 second.1 in (
      second.0,
      bytes_is x.0 p (first.1 ∙ ap (λ y. Some y.0) parts),
      is_map,
      sym (ap (λ y. y.1.0) parts) ∙ is_map,
      bytes_is x.1.1 c (third.1 ∙ ap (λ y. Some y.1.1) parts),
    )

pub object_from_parts : (d : DataItem) (object : Encrypt0) (u : DataItem)
    → parts_of (untagged d) ≡ Some (object.protected, (u, object.ciphertext)) → IsProtected object.protected
    → value 4 u ≡ option_map byte_string object.kid → value 5 u ≡ option_map byte_string object.iv → IsObject d object
object_from_parts d object u e protected kid iv =
    let outer = then_some typed _ _ e in
    let inner = then_some three_of _ _ outer.1 in
    let is_array = array_is (untagged d) inner.0 inner.1 in
    let is_three = three_is inner.0 outer.0 inner.2 in
    let parts = typed_is outer.0 object.protected u object.ciphertext outer.2 in
    record {
      unprotected = parts.0;
      whole = is_array ∙ ap array is_three ∙ cc;
      protected = protected;
      kid = sym (ap (value 4) parts.3) ∙ kid;
      iv = sym (ap (value 5) parts.3) ∙ iv;
    }
