-- Tokens: encrypted claims (RFC 8392 section 7), as COSE_Encrypt0 objects.
use Rattle.std.specs.Prelude.{◌≡◌, ◌≢◌, ℕ, ◌==◌, if◌then◌else◌, List, [], ◌∷◌, length, Option, Some, None}
use Rattle.osc_model.specs.declared.algorithm.Algorithm.{Algorithm}
use Rattle.osc_model.specs.declared.algorithm.Algorithm.TheVariants.{EightByteTag, SixteenByteTag}
use Rattle.osc_model.specs.declared.context.ContextName.{ContextName}
use Rattle.osc_model.specs.declared.context.Side.TheVariants.{Server}
use Rattle.osc_model.specs.declared.step.Note.{Note}
use Rattle.osc_cbor.specs.{DataItem, unsigned, byte_string, text_string, map, tag, Pairs, no_pairs, pair, IsWhole}
use Rattle.osc_cose.specs.{IsObject, NamesAlgorithm, parameter, enc_structure}
use Rattle.osc_cose.specs.declared.encrypt0.Encrypt0.{Encrypt0}
use Rattle.osc_token.specs.declared.claims.Claims.{Claims}
use Rattle.osc_token.specs.declared.claims.InputMaterial.{InputMaterial}

-- without the tag 61 of a CWT, which may be round the tag 16 of the object (RFC 8392 section 6)
abbrev pub without_cwt_tag : DataItem → DataItem
without_cwt_tag (tag n (tag m d)) = if n == 61 then (if m == 16 then tag m d else tag n (tag m d)) else tag n (tag m d)
without_cwt_tag d = d

-- The bytes are a token that opens to this text under the key: an object whose protected header names AES-CCM-16-64-128
-- and isn't empty, whose IV has 13 bytes, and whose ciphertext is the sealing of the text.
pub record IsToken (IsSealing : List ℕ → List ℕ → List ℕ → List ℕ → List ℕ → Type 0) (key bytes protected iv text : List ℕ) : Type 0 where
  pub token : DataItem
  pub kid : Option (List ℕ)
  pub ciphertext : List ℕ
  pub whole : IsWhole bytes token
  pub is_object : IsObject (without_cwt_tag token) (record { protected = protected; kid = kid; iv = Some iv; ciphertext = ciphertext })
  pub named : (protected ≢ []) × NamesAlgorithm protected
  pub iv_size : length iv ≡ 13
  pub sealed : IsSealing key iv (enc_structure protected []) text ciphertext

-- the note of a token's opening: under the name that has the token key as its secret, the algorithm of tokens, and nothing else
abbrev pub token_name : List ℕ → ContextName
token_name key = record { secret = key; salt = []; id_context = None; client_id = []; server_id = []; alg = EightByteTag }

abbrev pub token_note : List ℕ → List ℕ → List ℕ → List ℕ → Note
token_note key protected iv text =
    record { context = token_name key; side = Server; number = 0; nonce = iv; aad = enc_structure protected []; plaintext = text }

-- ---- what is minted

-- {1: 10}, as its bytes
abbrev pub algorithm_header : List ℕ
algorithm_header = 161 ∷ 1 ∷ 10 ∷ []

-- a date, where it is there, before the other claims
abbrev pub date : ℕ → Option ℕ → Pairs → Pairs
date label None others = others
date label (Some seconds) others = pair (unsigned label) (unsigned seconds) others

-- a salt that isn't empty, before the other fields
abbrev pub salt_field : List ℕ → Pairs → Pairs
salt_field [] others = others
salt_field (byte ∷ bytes) others = pair (unsigned 5) (byte_string (byte ∷ bytes)) others

-- an algorithm that isn't the default, before the other fields
abbrev pub alg_field : Algorithm → Pairs → Pairs
alg_field EightByteTag others = others
alg_field SixteenByteTag others = pair (unsigned 4) (unsigned 30) others

abbrev pub material_item : InputMaterial → DataItem
material_item material = map (pair (unsigned 0) (byte_string material.id) (pair (unsigned 2) (byte_string material.secret)
    (alg_field material.alg (salt_field material.salt (parameter 6 material.id_context no_pairs)))))

abbrev pub claims_item : Claims → DataItem
claims_item claims = map (pair (unsigned 3) (text_string claims.audience)
    (date 4 claims.expires (date 5 claims.not_before
    (pair (unsigned 8) (map (pair (unsigned 4) (material_item claims.material) no_pairs))
    (pair (unsigned 9) (byte_string claims.scope) no_pairs)))))

-- the object of claims with this ciphertext: no tags, no kid
abbrev pub token_object : List ℕ → List ℕ → Encrypt0
token_object iv ciphertext = record { protected = algorithm_header; kid = None; iv = Some iv; ciphertext = ciphertext }
