-- From a token to what its object holds, and back.
use Rattle.std.proofs.Common.{◌≡◌, ◌≢◌, ◌↔◌, ℕ, false, List, [], length, Option, Some, None, Result, Ok, Err, IfOk, IfSome, IsErr, ◌⊎◌, inl, inr, refl, sym, ap, ◌∙◌, subst, nat_eq}
use Rattle.std.proofs.lemmas.Bool.{false≢true}
use Rattle.osc_cbor.specs.{DataItem, IsWhole}
use Rattle.osc_cose.specs.{IsObject}
use Rattle.osc_cose.specs.declared.encrypt0.Encrypt0.{Encrypt0}
use Rattle.osc_token.specs.Inner.Opening.{HoldsText, answer_of}
use Rattle.osc_token.specs.{IsToken, without_cwt_tag}

-- ---- results and bytes

-- what was found is what was answered ..
pub found_of : {T E F : Type 0} (P : T → Type 0) (x : Result T E) (r : Result (Option T) F) → IfOk r (λ found. found ≡ answer_of x) → IfOk x P
    → IfOk r (λ found. IfSome found P)
found_of P x (Err f) e p = tt
found_of P x (Ok None) e p = tt
found_of P (Ok y) (Ok (Some t)) e p = let same : y ≡ t = cc in subst P same p
found_of P (Err z) (Ok (Some t)) e p = cc

-- .. and where one of two is, and memory wasn't wanting, it is the other
pub only_of : {T E F : Type 0} (t : T) (memory : E) (x : Result T E) (r : Result (Option T) F) → IfOk r (λ found. found ≡ answer_of x)
    → (IsErr r ↔ (x ≡ Err memory)) → (x ≡ Ok t) ⊎ (x ≡ Err memory) → IfOk r (λ found. found ≡ Some t)
only_of t memory x (Err f) e m o = tt
only_of t memory x (Ok found) e m (inl is) = e ∙ ap answer_of is
only_of t memory x (Ok found) e m (inr is) = absurd (false≢true (m.1 is))

pub both_ok : {T E : Type 0} (P Q : T → Type 0) (x : Result T E) → IfOk x P → IfOk x Q → IfOk x (λ t. P t × Q t)
both_ok P Q (Ok t) p q = (p, q)
both_ok P Q (Err e) p q = tt

pub weaker : {T E : Type 0} (P Q : T → Type 0) (r : Result (Option T) E) → ((t : T) → P t → Q t) → IfOk r (λ found. IfSome found P) → IfOk r (λ found. IfSome found Q)
weaker P Q (Ok (Some t)) so p = so t p
weaker P Q (Ok None) so p = tt
weaker P Q (Err e) so p = tt

pub same_some : {T : Type 0} (x : Option T) (a b : T) → x ≡ Some a → x ≡ Some b → a ≡ b
same_some x a b e f = cc

pub not_both : {T : Type 0} (x : Option T) (t : T) → x ≡ Some t → x ≡ None → ⊥
not_both x t e f = cc

pub some_bytes : (bytes : List ℕ) → nat_eq (length bytes) 0 ≡ false → bytes ≢ []
some_bytes bytes e none = false≢true (sym e ∙ ap (λ x. nat_eq (length x) 0) none)

-- ---- tokens

module _ (IsSealing : List ℕ → List ℕ → List ℕ → List ℕ → List ℕ → Type 0) (key bytes : List ℕ) where
  pub token_of : (d : DataItem) (object : Encrypt0) (iv text : List ℕ)
      → IsWhole bytes d → IsObject (without_cwt_tag d) object → HoldsText IsSealing key object iv text
      → IsToken IsSealing key bytes object.protected iv text
  token_of d object iv text whole is_object holds = record {
    token = d;
    kid = object.kid;
    ciphertext = object.ciphertext;
    whole = whole;
    is_object = subst (λ x. IsObject (without_cwt_tag d) (record { protected = object.protected; kid = object.kid; iv = x; ciphertext = object.ciphertext })) holds.has_iv is_object;
    named = holds.named;
    iv_size = holds.iv_size;
    sealed = holds.sealed;
  }

  -- the object of a token
  abbrev pub object_of : (protected iv text : List ℕ) → IsToken IsSealing key bytes protected iv text → Encrypt0
  object_of protected iv text t = record { protected = protected; kid = t.kid; iv = Some iv; ciphertext = t.ciphertext }

  pub holds_text : (protected iv text : List ℕ) (t : IsToken IsSealing key bytes protected iv text)
      → HoldsText IsSealing key (object_of protected iv text t) iv text
  holds_text protected iv text t = record {
    named = t.named;
    has_iv = refl;
    iv_size = t.iv_size;
    sealed = t.sealed;
  }
