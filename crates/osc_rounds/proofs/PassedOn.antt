-- What a forward proxy takes up and passes on.
use Rattle.std.proofs.Common.{◌≡◌, ◌∙◌, sym, ap, subst, ℕ, ◌<◌, refl, true, false, List, length, None, arith}
use Rattle.std.specs.Prelude.{drop}
use Rattle.std.proofs.lemmas.Bool.{lt-ltb}
use Rattle.std.proofs.lemmas.List.{length-drop, length-take}
use Rattle.osc_model.specs.{token_drawn}
use Rattle.osc_model.specs.declared.node.Draw.{Draw}
use Rattle.osc_model.specs.declared.node.Peer.{Peer}
use Rattle.osc_model.specs.declared.step.Step.{Step}
use Rattle.osc_coap.specs.Message.{Message}
use Rattle.osc_dedup.specs.{looked}
use Rattle.osc_message.specs.{Open, has_open, peers_of, takes, own_id}
use Rattle.osc_server.specs.State.{State as Server}
use Rattle.osc_client.specs.State.{State as Client}
use Rattle.osc_proxy.specs.{forwarded_token, Hears as ProxyHears, peer_of, CanSendTo, GoesThereAndBack, IsLawfulProxy, TakesUp, datagram_of}
use Rattle.osc_proxy.specs.Passage.{Passage}
use Rattle.osc_proxy.specs.State.{State as Proxy}
use Rattle.osc_rounds.specs.{IsForProxy, Hops, IsThrough}

-- what is passed on goes there, and its answer comes back
abbrev pub PassesLaw : Type 0
PassesLaw = (proxy passed : Proxy) (passage : Passage) (step : Step)
    → IsLawfulProxy proxy → TakesUp proxy passage → CanSendTo proxy passage.came.from
    → ProxyHears proxy (datagram_of passage) step passed → GoesThereAndBack proxy passage step passed

pub token_size : (key : ℕ) (draw : Draw) → length draw.0 ≡ 32 → length (forwarded_token key draw) ≡ 8
token_size key draw size = omega (arith, length-drop 1 (token_drawn draw), length-take 8 (drop 8 draw.0), length-drop 8 draw.0, size)

takes_one : (peer : Peer) (all : List Open) → has_open peer all ≡ false → length (peers_of all) < 64 → takes peer all ≡ true
takes_one peer all none few = rw (none, lt-ltb (length (peers_of all)) 64 few) refl

-- fewer than 64 peers have a message open, and this one has none
pub can_send : (proxy : Proxy) (peer : Peer) → has_open peer proxy.endpoint.sending ≡ false → length (peers_of proxy.endpoint.sending) < 64 → CanSendTo proxy peer
can_send proxy peer none few = record { idle = none; room = takes_one peer proxy.endpoint.sending none few }

-- a message that goes so, and the key of its exchange, as the proxy takes it up
abbrev pub passage_on : Hops → Message → ℕ → Passage
passage_on hops message key = record {
  came = record { at = hops.now; from = hops.at; draw = hops.proxy_draw; what = message };
  to = hops.server_at;
  key = key;
}

-- what is for the proxy, under the message ID that the client takes, it takes up on this way
pub takes_up : (client : Client) (proxy : Proxy) (server : Server) (draw : Draw) (hops : Hops) (message : Message) (way : IsThrough client proxy server draw hops)
    → message.id ≡ own_id draw client.endpoint.next_id → IsForProxy way.origin message → TakesUp proxy (passage_on hops message way.key)
takes_up client proxy server draw hops message way id is = record {
  carried = is.carried;
  kind = is.kind;
  request = is.code;
  token = is.token;
  unheard = subst (λ (n : ℕ). looked hops.now hops.at n proxy.endpoint.seen ≡ None) (sym id) way.unheard;
  safe = is.safe;
  no_uri = is.no_uri;
  scheme = is.scheme;
  host = way.origin.host;
  host_is = is.host;
  target = ap (λ (n : ℕ). peer_of proxy.targets way.origin.host n) is.port ∙ way.target;
  free = way.free;
  there = can_send proxy hops.server_at way.none_to_server way.few;
}
