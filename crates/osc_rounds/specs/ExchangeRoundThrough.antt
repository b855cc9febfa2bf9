-- An exchange that goes through a forward proxy, delivery by delivery: the outcome at client, proxy and server.
use Rattle.std.specs.Prelude.{◌≡◌, ℕ, List, [], ◌∷◌, length, Some}
use Rattle.osc_model.specs.{nonce_drawn, sends, quiet}
use Rattle.osc_model.specs.declared.node.Draw.{Draw}
use Rattle.osc_model.specs.declared.node.Moment.{Moment}
use Rattle.osc_model.specs.declared.node.Peer.{Peer}
use Rattle.osc_model.specs.declared.step.Step.{Step}
use Rattle.osc_coap.specs.Message.{Message}
use Rattle.osc_message.specs.{datagram, empty_acknowledgement}
use Rattle.osc_scope.specs.{Entry}
use Rattle.osc_token.specs.declared.claims.Claims.{Claims}
use Rattle.osc_ccm.specs.{Sealings}
use Rattle.osc_authz.specs.SecurityContext.{SecurityContext}
use Rattle.osc_server.specs.{Hears as ServerHears}
use Rattle.osc_server.specs.State.{State as Server}
use Rattle.osc_client.specs.{Hears as ClientHears}
use Rattle.osc_client.specs.State.{State as Client}
use Rattle.osc_proxy.specs.{Hears as ProxyHears, forwarded_by, IsAtRest, answer_id}
use Rattle.osc_proxy.specs.Passage.{Passage}
use Rattle.osc_proxy.specs.State.{State as Proxy}
use Rattle.osc_rounds.specs.Coming.{coming}
use Rattle.osc_rounds.specs.ExchangeRound.{IsHeld}
use Rattle.osc_rounds.specs.ProxiedExchange.{IsMadeThrough, claims_text}
use Rattle.osc_rounds.specs.RoundNotes.{AreNotesOfAgreement}

-- a post on its way: the client that has begun the exchange, proxy and server before, their addresses, the moment, and what client and
-- proxy draw; what its token claims, the scope's entries, and the key that the server opens the token with; its message, and the key of its
-- exchange at the proxy
pub record PostOnItsWay : Type 0 where
  pub begun : Client
  pub proxy : Proxy
  pub server : Server
  pub at : Peer
  pub proxy_at : Peer
  pub server_at : Peer
  pub now : Moment
  pub draw : Draw
  pub proxy_draw : Draw
  pub claims : Claims
  pub entries : List Entry
  pub token_key : List ℕ
  pub message : Message
  pub key : ℕ

-- the same, as the proxy takes it up
abbrev pub post_passage : PostOnItsWay → Passage
post_passage post = record {
  came = record { at = post.now; from = post.at; draw = post.proxy_draw; what = post.message };
  to = post.server_at;
  key = post.key;
}

-- what the proxy forwards, and the message ID of what it sends back
abbrev pub forwarded_post : PostOnItsWay → Message
forwarded_post post = forwarded_by post.proxy (post_passage post)

abbrev pub post_id_back : PostOnItsWay → ℕ
post_id_back post = answer_id post.proxy post.proxy_draw

-- `is_sealing algorithm` is the relation of the algorithm's cipher
module _ (is_sealing : Sealings) where
  -- sixth: client and server have a context of one name, the server's with the scope of these entries, and the client acknowledged the
  -- answer; and where that comes to the proxy, nothing goes out
  pub record IsMadeAndEnds (post : PostOnItsWay) (agreed : Server) (brought : Proxy) (fifth : Step) (made : Client) : Type 0 where
    pub held : SecurityContext
    pub is_held : IsHeld agreed post.now post.entries held
    pub is_made : IsMadeThrough post.begun post.proxy_at (post_id_back post) held fifth made
    pub ends : (draw : Draw) (sixth : Step) (rested : Proxy)
        → ProxyHears brought (coming post.now post.at draw (empty_acknowledgement (post_id_back post))) sixth rested
        → IsAtRest post.proxy (post_passage post) sixth rested

  -- fifth: one datagram goes back to the client; and where that comes there, the context is made
  pub record IsBroughtBackAndMade (post : PostOnItsWay) (settled : Client) (agreed : Server) (fourth : Step) (brought : Proxy) : Type 0 where
    pub back : Message
    pub out : fourth ≡ sends (datagram post.at back ∷ [])
    pub made : (draw : Draw) (fifth : Step) (after : Client) → ClientHears is_sealing settled (coming post.now post.proxy_at draw back) fifth after
        → IsMadeAndEnds post agreed brought fifth after

  -- fourth: one datagram goes to the proxy; and where that comes there, it goes back
  pub record IsAgreedAndBroughtBack (post : PostOnItsWay) (settled : Client) (passed : Proxy) (third : Step) (agreed : Server) : Type 0 where
    pub response : Message
    pub out : third.out ≡ datagram post.proxy_at response ∷ []
    pub brought : (draw : Draw) (fourth : Step) (after : Proxy) → ProxyHears passed (coming post.now post.server_at draw response) fourth after
        → IsBroughtBackAndMade post settled agreed fourth after

  -- third: the client's message is acknowledged, and nothing goes out; and where what is forwarded comes to the server, it opens the token,
  -- to the text of its claims, draws a nonce, and agrees
  pub record IsSettledAndAgreed (post : PostOnItsWay) (passed : Proxy) (second : Step) (settled : Client) : Type 0 where
    pub told : second ≡ sends []
    pub agreed : (server_draw : Draw) (third : Step) (after : Server) → length server_draw.0 ≡ 32
        → ServerHears is_sealing post.server (coming post.now post.proxy_at server_draw (forwarded_post post)) third after
        → AreNotesOfAgreement post.token_key (claims_text post.claims) server_draw third.notes
        × IsAgreedAndBroughtBack post settled passed third after

  -- second: two datagrams go out, an acknowledgement to the client and the forwarded post to the server; and where the first comes to the
  -- client, that waits as before
  pub record IsPassedOnAndAgreed (post : PostOnItsWay) (first : Step) (passed : Proxy) : Type 0 where
    pub out : first ≡ sends (datagram post.at (empty_acknowledgement post.message.id) ∷ datagram post.server_at (forwarded_post post) ∷ [])
    pub settled : (draw : Draw) (second : Step) (after : Client)
        → ClientHears is_sealing post.begun (coming post.now post.proxy_at draw (empty_acknowledgement post.message.id)) second after
        → IsSettledAndAgreed post passed second after

  -- first: one datagram goes to the proxy, and the client drew a nonce; and where that comes there, it is passed on
  pub record IsPostedAndAgreedThrough (post : PostOnItsWay) (posts : Step) : Type 0 where
    pub out : posts.out ≡ datagram post.proxy_at post.message ∷ []
    pub notes : posts.notes ≡ record quiet { drawn = Some (nonce_drawn post.draw) }
    pub passed : (first : Step) (after : Proxy) → ProxyHears post.proxy (coming post.now post.at post.proxy_draw post.message) first after
        → IsPassedOnAndAgreed post first after
