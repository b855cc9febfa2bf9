-- A cipher for each AEAD algorithm. The proofs are here and not in `proofs/`, since impls cite them.
use Rattle.std.specs.Prelude.{◌≡◌, ℕ, List, length, ◌+◌, ◌≤◌}
use Rattle.std.proofs.Common.{subst}
use Rattle.osc_ccm.specs.Limits.{IsInRange, most_tag}
use Rattle.osc_model.specs.declared.algorithm.Algorithm.{Algorithm}
use Rattle.osc_model.specs.declared.algorithm.Algorithm.TheVariants.{EightByteTag, SixteenByteTag}

-- `is_sealing key nonce aad text sealed`: under this key and nonce and with this associated data the bytes are a sealing of the text
abbrev pub Sealing : Type 1
Sealing = List ℕ → List ℕ → List ℕ → List ℕ → List ℕ → Type 0

-- the relation of each algorithm's cipher, and the size of its tag
abbrev pub Sealings : Type 1
Sealings = Algorithm → Sealing

abbrev pub Tags : Type 0
Tags = Algorithm → ℕ

-- ---- of two, by the algorithm

abbrev pub chosen_tag : ℕ → ℕ → Tags
chosen_tag eight sixteen EightByteTag = eight
chosen_tag eight sixteen SixteenByteTag = sixteen

abbrev pub chosen_sealing : Sealing → Sealing → Sealings
chosen_sealing eight sixteen EightByteTag = eight
chosen_sealing eight sixteen SixteenByteTag = sixteen

-- ---- the laws of a cipher

-- bytes are a sealing of at most one text
abbrev pub SealsOneText : Sealing → Type 0
SealsOneText is_sealing = (key nonce aad text other sealed : List ℕ) → is_sealing key nonce aad text sealed → is_sealing key nonce aad other sealed → text ≡ other

-- a sealing is longer than its text by the tag
abbrev pub IsLongerBy : ℕ → Sealing → Type 0
IsLongerBy tag is_sealing = (key nonce aad text sealed : List ℕ) → is_sealing key nonce aad text sealed → length sealed ≡ length text + tag

-- what is sealed is within the limits
abbrev pub StaysInRange : Sealing → Type 0
StaysInRange is_sealing = (key nonce aad text sealed : List ℕ) → is_sealing key nonce aad text sealed → IsInRange (length text) (length aad)

-- ---- what has them for each of two has them for the one that is chosen

pub one_text_of : (a b : Sealing) → SealsOneText a → SealsOneText b → (algorithm : Algorithm) → SealsOneText (chosen_sealing a b algorithm)
one_text_of a b eight sixteen EightByteTag = eight
one_text_of a b eight sixteen SixteenByteTag = sixteen

pub sealed_length_of : (s t : ℕ) (a b : Sealing) → IsLongerBy s a → IsLongerBy t b → (algorithm : Algorithm) → IsLongerBy (chosen_tag s t algorithm) (chosen_sealing a b algorithm)
sealed_length_of s t a b eight sixteen EightByteTag = eight
sealed_length_of s t a b eight sixteen SixteenByteTag = sixteen

pub in_range_of : (a b : Sealing) → StaysInRange a → StaysInRange b → (algorithm : Algorithm) → StaysInRange (chosen_sealing a b algorithm)
in_range_of a b eight sixteen EightByteTag = eight
in_range_of a b eight sixteen SixteenByteTag = sixteen

pub short_tag_of : (s t : ℕ) → s ≤ most_tag → t ≤ most_tag → (algorithm : Algorithm) → chosen_tag s t algorithm ≤ most_tag
short_tag_of s t eight sixteen EightByteTag = eight
short_tag_of s t eight sixteen SixteenByteTag = sixteen

pub longer_by_same : {s t : ℕ} {is_sealing : Sealing} → s ≡ t → IsLongerBy s is_sealing → IsLongerBy t is_sealing
longer_by_same {s} {t} {is_sealing} same known = subst (λ tag. IsLongerBy tag is_sealing) same known
