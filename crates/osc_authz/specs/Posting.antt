-- What is posted to authz-info, and what opens of it.
use Rattle.std.specs.Prelude.{ℕ, List}
use Rattle.osc_model.specs.declared.node.Draw.{Draw}
use Rattle.osc_authz.specs.Standing.{Standing}

-- when and on which resources something is posted, its bytes, and the random bytes of the step
pub record Posting : Type 0 where
  pub on : Standing
  pub body : List ℕ
  pub draw : Draw

-- when and on which resources a client offers an exchange, the random bytes of the step, and the nonce and the recipient ID of the client
pub record Offer : Type 0 where
  pub on : Standing
  pub draw : Draw
  pub nonce1 : List ℕ
  pub client_id : List ℕ

-- the protected header, the IV and the text of a token that opened
pub record OpenedToken : Type 0 where
  pub protected : List ℕ
  pub iv : List ℕ
  pub text : List ℕ

-- what is offered by a post that has this nonce and this ID
abbrev pub offered : Posting → List ℕ → List ℕ → Offer
offered posting nonce1 client_id = record { on = posting.on; draw = posting.draw; nonce1 = nonce1; client_id = client_id }
