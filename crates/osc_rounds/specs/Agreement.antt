-- The two ends of an exchange (RFC 9203 section 4), whatever way its post and the answer go: the server agrees to a post, and the client
-- waits for that.
use Rattle.std.specs.Prelude.{◌≡◌, ℕ, ◌<◌, true, List, [], ◌∷◌, length, IfSome, Some, None, Ok}
use Rattle.osc_model.specs.Tree.{Tree}
use Rattle.osc_model.specs.Arrival.{Arrival}
use Rattle.osc_model.specs.{code, nonce_drawn, same_peer}
use Rattle.osc_model.specs.declared.algorithm.Algorithm.TheVariants.{EightByteTag}
use Rattle.osc_model.specs.declared.node.Peer.{Peer}
use Rattle.osc_model.specs.declared.step.Step.{Step}
use Rattle.osc_cbor.specs.{spelling as item_spelling}
use Rattle.osc_coap.specs.{bare}
use Rattle.osc_coap.specs.Message.{Message}
use Rattle.osc_coap.specs.declared.kind.Kind.{Kind}
use Rattle.osc_coap.specs.declared.kind.Kind.TheVariants.{Acknowledgement}
use Rattle.osc_options.specs.{with_reply}
use Rattle.osc_dedup.specs.{looked}
use Rattle.osc_message.specs.{datagram}
use Rattle.osc_scope.specs.{Entry}
use Rattle.osc_token.specs.declared.claims.Claims.{Claims}
use Rattle.osc_ccm.specs.{Sealings}
use Rattle.osc_authz.specs.Begun.{Begun}
use Rattle.osc_authz.specs.{known, post_item, DeskState, Posts}
use Rattle.osc_authz.specs.Posting.{Posting}
use Rattle.osc_authz.specs.declared.granted.ClientDesk.{ClientDesk}
use Rattle.osc_authz.specs.declared.post.Post.{Post}
use Rattle.osc_authz.specs.declared.post.PostAnswer.{PostAnswer}
use Rattle.osc_authz.specs.declared.post.PostReply.TheVariants.{New}
use Rattle.osc_server.specs.State.{State as Server}
use Rattle.osc_server.specs.{standing_of, notes_of_post, post_reply}
use Rattle.osc_client.specs.State.{State as Client}
use Rattle.osc_client.specs.declared.waiting.Awaited.TheVariants.{Exchange}
use Rattle.osc_client.specs.declared.waiting.Waiting.{Waiting}
use Rattle.osc_rounds.specs.Welcome.{IsWelcomeUnder}

-- an exchange that a client has begun: what its token claims, and the entries of the token's scope; what the client was granted, and what
-- it began
pub record BegunExchange : Type 0 where
  pub claims : Claims
  pub entries : List Entry
  pub holder : ClientDesk
  pub begun : Begun

-- what this exchange posts: the token, the client's nonce and its recipient ID
abbrev pub body_of : ClientDesk → Begun → List ℕ
body_of holder begun = item_spelling (post_item holder.token begun.nonce1 (begun.recipient_id ∷ []))

-- the same, as it comes to a desk
abbrev pub posted : Tree → BegunExchange → Arrival Message → Posting
posted tree exchange came = record { on = record { at = came.at; tree = tree }; body = body_of exchange.holder exchange.begun; draw = came.draw }

-- 2.01 with the nonce and the recipient ID of the server, in a message of this kind, message ID and token (section 4.2)
abbrev pub agreement : Kind → ℕ → List ℕ → PostAnswer → Message
agreement kind id token answer = with_reply (bare kind (code 2 1).0 id token) (post_reply (Ok (New answer)))

-- The desk makes contexts that count for a while, and knows no post with a token of these claims and with what was begun.
pub record MakesContexts (desk : DeskState) (claims : Claims) (begun : Begun) : Type 0 where
  pub lasting : IfSome desk.rules.seconds (λ seconds. 0 < seconds)
  pub unknown : known claims.material.id begun.nonce1 (begun.recipient_id ∷ []) desk.table ≡ None

-- `is_sealing algorithm` is the relation of the algorithm's cipher
module _ (is_sealing : Sealings) where
  -- The token of this client is welcome at the server, which doesn't know the post, the client's nonce is one of 8 bytes, and no message of
  -- the post's ID was heard from there.
  pub record AwaitsPost (server : Server) (came : Arrival Message) (exchange : BegunExchange) : Type 0 where
    pub token_key : List ℕ
    pub welcome : IsWelcomeUnder (is_sealing EightByteTag) token_key server.desk (standing_of server came.at) exchange.claims exchange.entries exchange.holder
    pub makes : MakesContexts server.desk exchange.claims exchange.begun
    pub nonce : length exchange.begun.nonce1 ≡ 8
    pub unheard : looked came.at came.from came.what.id server.endpoint.seen ≡ None

  -- The server's desk agreed to what this exchange posts, and one datagram says so, in the acknowledgement of the post. The step notes what
  -- the desk did: it opened the token and drew a nonce. The resources stay.
  pub record IsAgreedTo (old : Server) (came : Arrival Message) (exchange : BegunExchange) (step : Step) (new : Server) : Type 0 where
    pub answer : PostAnswer
    pub post : Post
    pub posts : Posts (is_sealing EightByteTag) old.desk (posted old.tree exchange came) post new.desk
    pub agrees : post.answer ≡ Ok (New answer)
    pub nonce : answer.nonce2 ≡ nonce_drawn came.draw
    pub out : step.out ≡ datagram came.from (agreement Acknowledgement came.what.id came.what.token answer) ∷ []
    pub notes : step.notes ≡ notes_of_post post
    pub tree : new.tree ≡ old.tree

-- the client waits for the answer to this exchange, under this token, from its next hop, which has this address
pub record AwaitsAgreement (client : Client) (from : Peer) (holder : ClientDesk) (begun : Begun) (its_token : List ℕ) : Type 0 where
  pub desk : client.desk ≡ holder
  pub waiting : Waiting
  pub waits : client.waiting ≡ Some waiting
  pub exchange : waiting.what ≡ Exchange begun
  pub token : waiting.token ≡ its_token
  pub peer : same_peer client.next_hop from ≡ true
