-- Nonces: no two seals under one key share one (RFC 8613 section 5.2).
use Rattle.std.specs.Prelude.{◌≡◌, ⊤, false, List, [], ◌∷◌, Some}
use Rattle.osc_model.specs.declared.step.Note.{Note}
use Rattle.osc_context.specs.{key_name_of}
use Rattle.osc_authz.specs.{In}
use Rattle.osc_run.specs.Notes.{Noted}

-- They are of one key, by all that fixes it: secret, master salt, id context and the sender ID of the end that sealed (section
-- 3.2.1); and of one nonce.
pub record HasKeyAndNonceOf (a b : Note) : Type 0 where
  pub key : key_name_of a.context a.side ≡ key_name_of b.context b.side
  pub nonce : a.nonce ≡ b.nonce

-- a step sealed it that was no lie
abbrev pub IsSealed : List Noted → Note → Type 0
IsSealed notes note = (step : Noted) × In step notes × (step.lied ≡ false) × (step.notes.seals ≡ Some note)

-- No two seals share key and nonce, those of lies aside.
abbrev pub HasOwnNonces : List Noted → Type 0
HasOwnNonces [] = ⊤
HasOwnNonces (step ∷ earlier) =
    ((a b : Note) → step.lied ≡ false → step.notes.seals ≡ Some a → IsSealed earlier b → ¬ HasKeyAndNonceOf a b) × HasOwnNonces earlier
