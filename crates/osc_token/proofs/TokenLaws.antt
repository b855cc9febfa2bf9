-- What is minted is a token, and bytes are one token at most.
use Rattle.std.proofs.Common.{◌≡◌, ℕ, ◌<◌, ◌^◌, List, [], ◌++◌, length, Some, None, refl, sym, ap, ◌∙◌, subst, arith}
use Rattle.std.specs.Option.{option_map}
use Rattle.osc_cbor.specs.{DataItem, unsigned, byte_string, map, array, item, no_items, Pairs, pair, no_pairs, value_under, Spells, HasSpelling, IsWhole, spelling, head}
use Rattle.osc_cose.specs.{IsObject, IsProtected, NamesAlgorithm, object_item, untagged, enc_structure}
use Rattle.osc_cose.specs.declared.encrypt0.Encrypt0.{Encrypt0}
use Rattle.osc_token.specs.{IsToken, without_cwt_tag, algorithm_header, token_object}
use Rattle.osc_token.proofs.OpeningLemmas.{object_of}

-- ---- what is minted

abbrev header_item : DataItem
header_item = map (pair (unsigned 1) (unsigned 10) no_pairs)

header_spelled : spelling header_item ≡ algorithm_header
unfolding head
header_spelled = refl

header_has : HasSpelling header_item
header_has = ((λ h. h, tt), omega arith, (omega arith, omega arith, tt))

token_has : (iv ciphertext : List ℕ) → length iv ≡ 13 → length ciphertext < 2 ^ 64 → HasSpelling (object_item (token_object iv ciphertext))
token_has iv ciphertext size short =
    (omega arith, (omega arith, (((λ h. h, tt), omega arith, (omega arith, omega arith, tt)), (short, tt))))

module _ (spells : (d : DataItem) → HasSpelling d → Spells (spelling d) d) where
  whole_header : IsWhole algorithm_header header_item
  whole_header = record { spelled = subst (λ x. Spells x header_item) header_spelled (spells header_item header_has); shallow = omega arith }

  whole_token : (iv ciphertext : List ℕ) → length iv ≡ 13 → length ciphertext < 2 ^ 64
      → IsWhole (spelling (object_item (token_object iv ciphertext))) (object_item (token_object iv ciphertext))
  whole_token iv ciphertext size short = record {
    spelled = spells (object_item (token_object iv ciphertext)) (token_has iv ciphertext size short);
    shallow = omega arith;
  }

  pub minted : (written : (object : Encrypt0) → IsProtected object.protected → IsObject (object_item object) object)
      → (IsSealing : List ℕ → List ℕ → List ℕ → List ℕ → List ℕ → Type 0) (key iv text ciphertext : List ℕ)
      → length iv ≡ 13 → length ciphertext < 2 ^ 64
      → IsSealing key iv (enc_structure algorithm_header []) text ciphertext
      → IsToken IsSealing key (spelling (object_item (token_object iv ciphertext))) algorithm_header iv text
  minted written IsSealing key iv text ciphertext size short sealed = record {
    token = object_item (token_object iv ciphertext);
    kid = None;
    ciphertext = ciphertext;
    whole = whole_token iv ciphertext size short;
    is_object = written (token_object iv ciphertext) (IsProtected.holds _ whole_header);
    named = ((λ e. cc), NamesAlgorithm.named _ whole_header refl);
    iv_size = size;
    sealed = sealed;
  }

-- ---- one token

-- the array of an object's parts
abbrev parts : Encrypt0 → Pairs → DataItem
parts object unprotected = array (item (byte_string object.protected) (item (map unprotected) (item (byte_string object.ciphertext) no_items)))

some_bytes : (a b : List ℕ) → Some (byte_string a) ≡ Some (byte_string b) → a ≡ b
some_bytes a b e = cc

-- two objects that one item is
module _ (d e : DataItem) (object other : Encrypt0) (same : d ≡ e) (one : IsObject (without_cwt_tag d) object) (two : IsObject (without_cwt_tag e) other) where
  same_parts : parts object one.unprotected ≡ parts other two.unprotected
  same_parts = sym one.whole ∙ ap (λ x. untagged (without_cwt_tag x)) same ∙ two.whole

  same_protected : object.protected ≡ other.protected
  same_protected = cc same_parts

  same_ciphertext : object.ciphertext ≡ other.ciphertext
  same_ciphertext = cc same_parts

  same_unprotected : one.unprotected ≡ two.unprotected
  same_unprotected = cc same_parts

  same_iv : (iv ivs : List ℕ) → object.iv ≡ Some iv → other.iv ≡ Some ivs → iv ≡ ivs
  same_iv iv ivs is_iv is_ivs =
      let first = one.iv ∙ ap (option_map byte_string) is_iv in
      let second = two.iv ∙ ap (option_map byte_string) is_ivs in
      some_bytes iv ivs (sym first ∙ ap (value_under 5) same_unprotected ∙ second)

pub one_token : (IsSealing : List ℕ → List ℕ → List ℕ → List ℕ → List ℕ → Type 0)
    → ((a b x y : List ℕ) (d e : DataItem) → Spells a d → Spells b e → a ++ x ≡ b ++ y → (a ≡ b) × (d ≡ e))
    → ((key nonce aad text other sealed : List ℕ) → IsSealing key nonce aad text sealed → IsSealing key nonce aad other sealed → text ≡ other)
    → (key bytes protected iv text others ivs other : List ℕ)
    → IsToken IsSealing key bytes protected iv text → IsToken IsSealing key bytes others ivs other
    → (protected ≡ others) × (iv ≡ ivs) × (text ≡ other)
one_token IsSealing one_item one_text key bytes protected iv text others ivs other t u =
    let same = (one_item bytes bytes [] [] t.token u.token t.whole.spelled u.whole.spelled refl).1 in
    let first = object_of IsSealing key bytes protected iv text t in
    let second = object_of IsSealing key bytes others ivs other u in
    let is_protected = same_protected t.token u.token first second same t.is_object u.is_object in
    let is_ciphertext = same_ciphertext t.token u.token first second same t.is_object u.is_object in
    let is_iv = same_iv t.token u.token first second same t.is_object u.is_object iv ivs refl refl in
    (is_protected, is_iv, one_text key ivs (enc_structure others []) text other u.ciphertext (rw (← is_protected, ← is_iv, ← is_ciphertext) t.sealed) u.sealed)
