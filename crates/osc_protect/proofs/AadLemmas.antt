-- The associated data, part by part.
use Rattle.std.proofs.Common.{◌≡◌, ℕ, ◌+◌, ◌*◌, ◌<◌, ◌≤◌, List, [], ◌∷◌, ◌++◌, length, refl, arith}
use Rattle.std.proofs.lemmas.List.{append-nil, append_assoc, length-append}
use Rattle.osc_model.specs.{algorithm_number}
use Rattle.osc_model.specs.declared.algorithm.Algorithm.{Algorithm}
use Rattle.osc_model.specs.declared.algorithm.Algorithm.TheVariants.{EightByteTag, SixteenByteTag}
use Rattle.osc_model.specs.declared.context.ContextName.{ContextName}
use Rattle.osc_cbor.specs.{byte_string, unsigned, head, spelling}
use Rattle.osc_cose.specs.{enc_structure}
use Rattle.osc_context.specs.{algorithm_of, partial_iv}
use Rattle.osc_protect.specs.{external_aad, aad_of}

-- a short string's head is one byte
pub short_head : (major n : ℕ) → n < 24 → head major n ≡ (32 * major + n) ∷ []
unfolding head
short_head major n h = grind arith

pub short_head_length : (major n : ℕ) → n < 24 → length (head major n) ≡ 1
short_head_length major n h = rw (short_head major n h) refl

pub short_string_length : (bytes : List ℕ) → length bytes < 24 → length (spelling (byte_string bytes)) ≡ 1 + length bytes
short_string_length bytes h =
    let front = short_head_length 2 (length bytes) h in
    simp length-append (omega (arith, front))

-- an algorithm's number takes two bytes at most
pub algorithm_short : (a : Algorithm) → length (head 0 (algorithm_number a)) ≤ 2
unfolding head
algorithm_short EightByteTag = grind arith
algorithm_short SixteenByteTag = grind arith

-- the parts in the order in which they are written
pub external_aad_is : (name : ContextName) (number : ℕ)
    → external_aad name number
    ≡ (133 ∷ 1 ∷ 129 ∷ []) ++ spelling (unsigned (algorithm_number (algorithm_of name))) ++ spelling (byte_string name.client_id) ++ spelling (byte_string (partial_iv number)) ++ spelling (byte_string [])
unfolding external_aad head
external_aad_is name number = grind (arith, append_assoc)

-- the structure that is authenticated, of which the first parts are always the same
pub aad_of_is : (name : ContextName) (number : ℕ)
    → aad_of name number
    ≡ (131 ∷ 104 ∷ 69 ∷ 110 ∷ 99 ∷ 114 ∷ 121 ∷ 112 ∷ 116 ∷ 48 ∷ 64 ∷ []) ++ spelling (byte_string (external_aad name number))
unfolding aad_of enc_structure head
aad_of_is name number = simp (append-nil, append_assoc)
