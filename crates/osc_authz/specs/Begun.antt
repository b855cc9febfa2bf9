-- What a client has of an exchange and of a context.
use Rattle.std.specs.Prelude.{ℕ, List}
use Rattle.osc_model.specs.declared.context.ContextName.{ContextName}

-- an open exchange: the nonce and the recipient ID that the client posted
pub record Begun : Type 0 where
  pub nonce1 : List ℕ
  pub recipient_id : ℕ

-- a context, and the sender sequence number that it takes next
pub record ClientContextState : Type 0 where
  pub name : ContextName
  pub next : ℕ
