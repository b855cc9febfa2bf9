-- Opening a token's object. No public contract rests on this.
use Rattle.std.specs.Prelude.{◌≡◌, ◌≢◌, ℕ, ◌==◌, Bool, false, List, [], length, Option, Some, None, Result, Ok, Err}
use Rattle.osc_cbor.specs.{DataItem, tag}
use Rattle.osc_cose.specs.{NamesAlgorithm, enc_structure}
use Rattle.osc_cose.specs.declared.encrypt0.Encrypt0.{Encrypt0}

-- the item is one under this tag
abbrev pub has_tag : ℕ → DataItem → Bool
has_tag m (tag n d) = n == m
has_tag m d = false

-- the object is that of a token, and opens to this text under the key
pub record HoldsText (IsSealing : List ℕ → List ℕ → List ℕ → List ℕ → List ℕ → Type 0) (key : List ℕ) (object : Encrypt0) (iv text : List ℕ) : Type 0 where
  pub named : (object.protected ≢ []) × NamesAlgorithm object.protected
  pub has_iv : object.iv ≡ Some iv
  pub iv_size : length iv ≡ 13
  pub sealed : IsSealing key iv (enc_structure object.protected []) text object.ciphertext

-- what was found, where nothing was refused
abbrev pub answer_of : {T E : Type 0} → Result T E → Option T
answer_of (Ok x) = Some x
answer_of (Err e) = None
