-- What fixes a common IV and a key.
use Rattle.std.proofs.Common.{◌≡◌, ℕ, List, [], ap}
use Rattle.std.specs.Prelude.{codes, Option}
use Rattle.osc_model.specs.declared.algorithm.Algorithm.{Algorithm}
use Rattle.osc_model.specs.declared.context.ContextName.{ContextName}
use Rattle.osc_model.specs.declared.context.Side.{Side}
use Rattle.osc_context.specs.{derived, common_iv_of, key_of, KeyName, key_name_of}

-- a name without IDs
bare : List ℕ → List ℕ → Option (List ℕ) → Algorithm → ContextName
bare secret salt id_context alg = record { secret = secret; salt = salt; id_context = id_context; client_id = []; server_id = []; alg = alg }

pub one_common_iv : (a b : ContextName) → a.secret ≡ b.secret → a.salt ≡ b.salt → a.id_context ≡ b.id_context → a.alg ≡ b.alg → common_iv_of a ≡ common_iv_of b
unfolding derived bare
one_common_iv a b secret salt context alg = λ i. derived (bare (secret i) (salt i) (context i) (alg i)) [] (codes "IV") 13

pub one_key : (a b : ContextName) (x y : Side) → key_name_of a x ≡ key_name_of b y → key_of a x ≡ key_of b y
unfolding derived bare
one_key a b x y same = ap (λ (n : KeyName). derived (bare n.secret n.salt n.id_context n.alg) n.id (codes "Key") 16) same
