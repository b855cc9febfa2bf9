-- The tokens of a script's grants, which are numbered from 1 in the order of their lines.
use Rattle.std.specs.Prelude.{ℕ, List, [], ◌∷◌, ◌++◌, replicate, codes, Option, None}
use Rattle.osc_model.specs.declared.algorithm.Algorithm.{Algorithm}
use Rattle.osc_token.specs.declared.claims.Claims.{Claims}
use Rattle.osc_token.specs.declared.claims.InputMaterial.{InputMaterial}

-- the number as the id, and after 15 zero bytes as the secret
abbrev pub material_of : ℕ → Algorithm → InputMaterial
material_of number alg = record { id = number ∷ []; secret = replicate 15 0 ++ number ∷ []; salt = []; id_context = None; alg = alg }

-- the claims, for the audience `s`
abbrev pub claims_of : ℕ → List ℕ → Option ℕ → Option ℕ → Algorithm → Claims
claims_of number scope not_before expires alg =
    record { audience = codes "s"; not_before = not_before; expires = expires; material = material_of number alg; scope = scope }

-- the IV under which they are sealed: 12 zero bytes and the number
abbrev pub iv_of : ℕ → List ℕ
iv_of number = replicate 12 0 ++ number ∷ []

-- the key: the bytes 40 to 4f, in hexadecimal digits
abbrev pub token_key : List ℕ
token_key = codes "@ABCDEFGHIJKLMNO"
