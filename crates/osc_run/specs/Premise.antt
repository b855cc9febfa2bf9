-- What is assumed of a run: what opens was sealed by the other end, no drawn nonce comes twice, and no two grants share a secret.
use Rattle.std.specs.Prelude.{◌≡◌, ◌≢◌, ⊤, ℕ, List, [], ◌∷◌, Some}
use Rattle.osc_model.specs.{HaveOwnSecrets}
use Rattle.osc_model.specs.declared.context.Side.TheVariants.{Server}
use Rattle.osc_model.specs.declared.step.Note.{Note}
use Rattle.osc_token.specs.{token_name}
use Rattle.osc_authz.specs.{In}
use Rattle.osc_run.specs.Notes.{Noted}
use Rattle.osc_run.specs.States.{Minted, grants_of}

-- ---- genuine: what opens was sealed

-- An earlier step sealed, in the same context but as the other end, with the same nonce, associated data and plaintext.
pub record IsVouched (earlier : List Noted) (opening : Note) : Type 0 where
  pub step : Noted
  pub noted : In step earlier
  pub sealing : Note
  pub seal : step.notes.seals ≡ Some sealing
  pub context : sealing.context ≡ opening.context
  pub side : sealing.side ≢ opening.side
  pub nonce : sealing.nonce ≡ opening.nonce
  pub aad : sealing.aad ≡ opening.aad
  pub plaintext : sealing.plaintext ≡ opening.plaintext

-- the text was sealed into the token of a grant
abbrev pub IsMinted : List Minted → List ℕ → Type 0
IsMinted minted text = (m : Minted) × In m minted × (m.text ≡ text)

-- A token's opening is noted as the server's, under a name that has the token key as its secret, and nothing else.
abbrev pub IsOfToken : Note → Type 0
IsOfToken opening = (opening.side ≡ Server) × (opening.context ≡ token_name opening.context.secret)

-- what opened as a token was minted (RFC 8392 section 7), and what opened as a message was sealed by the other end
pub record IsGenuineOpening (minted : List Minted) (earlier : List Noted) (opening : Note) : Type 0 where
  pub token : IsOfToken opening → IsMinted minted opening.plaintext
  pub message : ¬ IsOfToken opening → IsVouched earlier opening

-- of each step's opening, by the steps before it
abbrev pub IsGenuine : List Minted → List Noted → Type 0
IsGenuine minted [] = ⊤
IsGenuine minted (step ∷ earlier) =
    ((opening : Note) → step.notes.opens ≡ Some opening → IsGenuineOpening minted earlier opening) × IsGenuine minted earlier

-- ---- fresh: no drawn nonce comes twice

-- a step drew this nonce, for an exchange that it began or for a post that it agreed to (RFC 9203 sections 4.1 and 4.2)
abbrev pub IsDrawn : List Noted → List ℕ → Type 0
IsDrawn notes nonce = (step : Noted) × In step notes × (step.notes.drawn ≡ Some nonce)

-- no step drew what an earlier one drew
abbrev pub HasFreshDraws : List Noted → Type 0
HasFreshDraws [] = ⊤
HasFreshDraws (step ∷ earlier) = ((nonce : List ℕ) → step.notes.drawn ≡ Some nonce → ¬ IsDrawn earlier nonce) × HasFreshDraws earlier

-- ---- separate: no two grants share a secret

-- each grant has a secret of its own, and by its holder one holder
abbrev pub HasOwnSecrets : List Minted → Type 0
HasOwnSecrets minted = HaveOwnSecrets (grants_of minted)

-- all three, of what was minted and of the notes of the steps
pub record Premise (minted : List Minted) (notes : List Noted) : Type 0 where
  pub genuine : IsGenuine minted notes
  pub fresh : HasFreshDraws notes
  pub separate : HasOwnSecrets minted
