-- What a server keeps as the last answers of its contexts.
use Rattle.std.specs.Prelude.{ℕ, List}
use Rattle.osc_model.specs.declared.context.Side.TheVariants.{Server}
use Rattle.osc_context.specs.{algorithm_of, key_of}
use Rattle.osc_protect.specs.{aad_of, request_nonce}
use Rattle.osc_ccm.specs.{Sealings}
use Rattle.osc_authz.specs.{Keeps, LastAnswerState}
use Rattle.osc_authz.specs.SecurityContext.{SecurityContext}
use Rattle.osc_server.specs.State.{State}

-- `is_sealing algorithm` is the relation of the algorithm's cipher
module _ (is_sealing : Sealings) where
  -- what the reply carries is the sealing of a text under this context's key, and under the nonce and the associated data of the request's
  -- number
  pub record WasSealed (held : SecurityContext) (last : LastAnswerState) : Type 0 where
    pub text : List ℕ
    pub is_sealed : is_sealing (algorithm_of held.name) (key_of held.name Server) (request_nonce held.name last.number) (aad_of held.name last.number) text last.reply

  -- so is what each answer carries that the server keeps
  abbrev pub KeepsSealed : State → Type 0
  KeepsSealed state = (held : SecurityContext) (last : LastAnswerState) → Keeps held last state.desk.table → WasSealed held last
