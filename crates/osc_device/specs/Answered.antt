-- The result of a request of the device's own.
use Rattle.std.specs.Prelude.{◌≡◌, ◌≢◌, ℕ, false, List, [], Option, Some, None}
use Rattle.std.specs.Option.{IsSome}
use Rattle.osc_model.specs.Refusals as refusal
use Rattle.osc_model.specs.{apply_read, code, is_revoked, method_number}
use Rattle.osc_model.specs.declared.code.Method.{Method}
use Rattle.osc_model.specs.declared.node.Draw.{Draw}
use Rattle.osc_model.specs.declared.node.Moment.{Moment}
use Rattle.osc_model.specs.declared.reply.Reply.{Reply}
use Rattle.osc_model.specs.declared.request.Request.{Request}
use Rattle.osc_model.specs.declared.step.ClientResult.TheVariants as result
use Rattle.osc_model.specs.declared.step.Step.{Step}
use Rattle.osc_dedup.specs.{looked}
use Rattle.osc_message.specs.{own_id}
use Rattle.osc_scope.specs.{Entry}
use Rattle.osc_token.specs.declared.claims.Claims.{Claims}
use Rattle.osc_ccm.specs.{Sealings}
use Rattle.osc_authz.specs.{ClientContextState, holder_at}
use Rattle.osc_authz.specs.SecurityContext.{SecurityContext}
use Rattle.osc_client.specs.{Asked, begun_by}
use Rattle.osc_run.specs.{Replies as AppliesTo}
use Rattle.osc_options.specs.{read_request}
use Rattle.osc_server.specs.{notes_of_request}
use Rattle.osc_rounds.specs.{asked_text, IsHeld, MakesContexts, MayAsk, MayExchange}
use Rattle.osc_device.specs.Begun.{IsGranted}
use Rattle.osc_device.specs.State.{State, own_address}
use Rattle.osc_device.specs.declared.round.Round.{Round}

-- The device may ask: it waits for nothing, both have a context of one name, which is live, and its next number is fresh at the server,
-- which heard no message of the ID that it takes.
pub record IsReady (device : State) (now : Moment) (draw : Draw) (context : ClientContextState) (held : SecurityContext) : Type 0 where
  pub may_ask : MayAsk device.own device.server now context held
  pub unheard : looked now own_address (own_id draw device.own.endpoint.next_id) device.server.endpoint.seen ≡ None

-- the request wasn't too long for a datagram, and no step wanted memory
pub record IsWhole (round : Round) : Type 0 where
  pub fits : round.begun.notes.result ≢ Some (result.Refused refusal.datagram_too_long)
  pub served : IsSome round.served
  pub learnt : IsSome round.learnt

-- It is served as one entry: its plaintext is applied to the resources under the scope of the device's token, or is answered by 5.00 where the
-- resources lack memory; the device learns that reply, and waits for nothing.
pub record IsAnswered (old : State) (asked : Asked) (held : SecurityContext) (number : ℕ) (round : Round) (new : State) : Type 0 where
  pub reply : Reply
  pub applied : AppliesTo old.server.tree (apply_read old.server.desk.rules.revoked old.server.tree held.scope (read_request (asked_text old.own asked.draw asked.request))) reply new.server.tree
  pub second : Step
  pub served : round.served ≡ Some second
  pub entry : second.notes ≡ notes_of_request asked.at held (holder_at held.name.client_id old.server.desk.table) number (asked_text old.own asked.draw asked.request) reply
  pub third : Step
  pub learnt : round.learnt ≡ Some third
  pub told : third.notes.result ≡ Some (result.Answer reply)
  pub idle : new.own.waiting ≡ None

-- wherever it may ask, and no step wants memory
abbrev pub IsAnsweredWhereReady : State → Asked → Round → State → Type 0
IsAnsweredWhereReady old asked round new =
    (context : ClientContextState) (held : SecurityContext) → IsReady old asked.at asked.draw context held → IsWhole round
    → IsAnswered old asked held context.next round new

-- a request of this method on this path, with a payload, its format, and no other option
abbrev pub own_request : Method → List ℕ → Option ℕ → List ℕ → Request
own_request method path format payload =
    record { code = code 0 (method_number method); path = Some path; format = format; accept = None; if_match = []; if_none_match = false; payload = payload }

-- `is_sealing algorithm` is the relation of the algorithm's cipher
module _ (is_sealing : Sealings) where
  -- The device may post its token, which has these claims and this scope: it waits for nothing, the token is welcome at the server, and
  -- that heard no message of the ID that the device takes.
  pub record MayOpen (device : State) (now : Moment) (draw : Draw) (claims : Claims) (entries : List Entry) : Type 0 where
    pub may_exchange : MayExchange is_sealing device.own device.server now draw claims entries
    pub unheard : looked now own_address (own_id draw device.own.endpoint.next_id) device.server.endpoint.seen ≡ None

  -- So may a device whose server keeps a place for its token, whoever else has a context there: the token counts, and its id isn't revoked; the device
  -- waits for nothing; its contexts count for a while; and the server doesn't know the post, and heard no message of the ID that it takes.
  pub record MayReturn (device : State) (now : Moment) (draw : Draw) (claims : Claims) (entries : List Entry) : Type 0 where
    pub granted : IsGranted is_sealing device claims entries
    pub reserved : device.server.desk.rules.reserved ≡ Some claims.material.id
    pub unrevoked : is_revoked device.server.desk.rules.revoked device.server.tree claims.material.id ≡ false
    pub idle : device.own.waiting ≡ None
    pub makes : MakesContexts device.server.desk claims (begun_by device.own draw)
    pub unheard : looked now own_address (own_id draw device.own.endpoint.next_id) device.server.endpoint.seen ≡ None

-- The server has a live context with the token's scope, and the device one of the same name, and waits for nothing.
pub record IsOpen (now : Moment) (entries : List Entry) (device : State) : Type 0 where
  pub held : SecurityContext
  pub is_held : IsHeld device.server now entries held
  pub context : device.own.context ≡ Some (record { name = held.name; next = 0 })
  pub idle : device.own.waiting ≡ None
