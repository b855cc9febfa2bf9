-- Where a world begins, a client that was enrolled may exchange, straight or through a proxy that was added.
use Rattle.std.proofs.Common.{◌≡◌, ◌∙◌, sym, ap, inl, subst, refl, ℕ, ◌^◌, ◌<◌, ◌≤◌, Bool, true, false, List, [], length, Option, None, Some, if◌then◌else◌, ◌||◌, bytes_eq, arith}
use Rattle.std.specs.Prelude.{slice_get, IfSome}
use Rattle.osc_model.specs.{HasBegun, IsNotOver, is_revoked}
use Rattle.osc_server.specs.{standing_of}
use Rattle.osc_model.specs.declared.algorithm.Algorithm.TheVariants.{EightByteTag}
use Rattle.osc_model.specs.declared.node.Draw.{Draw}
use Rattle.osc_model.specs.declared.node.Moment.{Moment}
use Rattle.osc_model.specs.declared.node.Peer.{Peer}
use Rattle.osc_ccm.specs.{most_tag, Sealings, IsLongerBy}
use Rattle.osc_cbor.specs.{spelling}
use Rattle.osc_cose.specs.{enc_structure}
use Rattle.osc_authz.specs.HoldsToken.{HoldsToken}
use Rattle.osc_authz.specs.{FitAToken, IsFull, has_token, is_allowed}
use Rattle.osc_client.specs.{HostAndPort}
use Rattle.osc_dedup.specs.{looked}
use Rattle.osc_message.specs.{EndpointState}
use Rattle.osc_proxy.specs.{peer_of, answer_id}
use Rattle.osc_proxy.specs.declared.targets.Target.{Target}
use Rattle.osc_rounds.specs.{MayExchange, IsWelcomeUnder}
use Rattle.osc_scope.specs.{scope_of}
use Rattle.osc_token.specs.{FitTheirTypes, HasLawfulParts, algorithm_header, claims_item}
use Rattle.osc_token.specs.declared.claims.Claims.{Claims}
use Rattle.osc_proxy.specs.State.{State as Proxy}
use Rattle.osc_world.specs.declared.nodes.Placed.{Placed}
use Rattle.osc_world.specs.{ClientRound, IsReady, Beginning, Enrols, begun, new_proxy}
use Rattle.osc_world.specs.Ready as ready_as
use Rattle.osc_world.specs.declared.start.NewHolder.{NewHolder}

fit : (claims : Claims) → HasLawfulParts claims → FitTheirTypes claims
fit claims lawful = record {
  audience = lawful.audience;
  not_before = lawful.not_before;
  expires = lawful.expires;
  id = omega (arith, lawful.id);
  secret = omega (arith, lawful.secret.1);
  salt = omega (arith, lawful.salt);
  id_context = λ bytes is. omega (arith, lawful.id_context bytes is);
  scope = lawful.scope;
}

-- at an empty table there is room for each token id, whichever place is kept
at_most_one : (is_there : Bool) → (if is_there then 0 else 1) ≤ 1
at_most_one true = omega arith
at_most_one false = omega arith

room_at_first : (reserved : Option (List ℕ)) (token : List ℕ) → ¬ IsFull reserved token []
room_at_first None token full = omega (arith, full.many)
room_at_first (Some id) token full = omega (arith, full.many, at_most_one (bytes_eq id token || has_token id []))

module _ (is_sealing : Sealings) (tag : ℕ)
    (sealed_length : IsLongerBy tag (is_sealing EightByteTag))
    (short_tag : tag ≤ most_tag)
    (before after start : Beginning) (holder : NewHolder) (enrols : Enrols is_sealing before holder after)
    (key : start.key ≡ before.key) (lawful : HasLawfulParts holder.claims) (fits : FitAToken holder.claims)
    (iv_size : length holder.iv ≡ 13) (token_size : length enrols.placed.node.desk.token < 2 ^ 64) where
  pub holds : HoldsToken (is_sealing EightByteTag) start.key holder.claims enrols.enrolled.entries enrols.placed.node.desk
  holds =
      let is = enrols.enrolled in record {
        iv = holder.iv;
        ciphertext = is.ciphertext;
        iv_size = iv_size;
        short = omega (
          arith,
          short_tag,
          fits,
          sealed_length before.key holder.iv (enc_structure algorithm_header []) (spelling (claims_item holder.claims)) is.ciphertext is.sealed,
        );
        sealed = subst (λ (k : List ℕ). is_sealing EightByteTag k holder.iv (enc_structure algorithm_header []) (spelling (claims_item holder.claims)) is.ciphertext) (sym key) is.sealed;
        fit = fit holder.claims lawful;
        is_scope = is.scope;
        token = is.client.desk.token_is;
        token_size = token_size;
        secret = is.client.desk.secret;
        salt = is.client.desk.salt;
        id_context = is.client.desk.id_context;
        alg = is.client.desk.alg;
      }

  module _ (audience : holder.claims.audience ≡ start.audience) (now : Moment)
      (begins : HasBegun holder.claims.not_before now) (ends : IsNotOver holder.claims.expires now)
      (unrevoked : is_revoked start.rules.revoked start.first holder.claims.material.id ≡ false)
      (allowed : is_allowed start.rules (scope_of enrols.enrolled.entries) ≡ true)
      (lasting : IfSome start.rules.seconds (λ seconds. 0 < seconds)) (draw : Draw) where
    welcome : IsWelcomeUnder (is_sealing EightByteTag) start.key (begun start).nodes.server.desk (standing_of (begun start).nodes.server now) holder.claims enrols.enrolled.entries enrols.placed.node.desk
    welcome = record {
      opens = inl refl;
      welcome = record {
        holds = holds;
        lawful = lawful;
        audience = audience;
        begun = begins;
        not_over = ends;
        allowed = allowed;
        unrevoked = unrevoked;
        room = room_at_first start.rules.reserved holder.claims.material.id;
      };
    }

    pub may_exchange : MayExchange is_sealing enrols.placed.node (begun start).nodes.server now draw holder.claims enrols.enrolled.entries
    may_exchange = record { idle = enrols.enrolled.client.waiting; token_key = start.key; welcome = welcome; makes = record { lasting = lasting; unknown = refl } }

module _ (is_sealing : Sealings)
    (before after start : Beginning) (holder : NewHolder) (round : ClientRound) (enrols : Enrols is_sealing before holder after) where
  pub ready_straight : slice_get start.clients (length before.clients) ≡ Some enrols.placed
      → holder.way.origin ≡ None → holder.way.next_hop ≡ start.server_at
      → IsReady (begun start) (length before.clients) enrols.placed round 2
  ready_straight there direct next_hop =
      let is = enrols.enrolled.client in record {
        still = refl;
        here = there;
        way = ready_as.Way.straight refl (record { direct = is.origin ∙ direct; next_hop = is.next_hop ∙ next_hop; unheard = refl });
      }

  -- nobody heard anything, no message is open, and the proxy's first key is free
  pub ready_through : (origin : HostAndPort) (number : ℕ) (at : Peer) (targets : List Target)
      → slice_get start.clients (length before.clients) ≡ Some enrols.placed
      → holder.way.origin ≡ Some origin → holder.way.next_hop ≡ at
      → slice_get start.proxies number ≡ Some (new_proxy at targets) → peer_of targets origin.host origin.port ≡ Some start.server_at
      → IsReady (begun start) (length before.clients) enrols.placed round 6
  ready_through origin number at targets there named next_hop stands target =
      let is = enrols.enrolled.client in
      let proxy : Placed Proxy = new_proxy at targets in record {
        still = refl;
        here = there;
        way = ready_as.Way.through refl number proxy stands
            (record {
              origin = origin;
              named = is.origin ∙ named;
              next_hop = is.next_hop ∙ next_hop;
              target = target;
              key = 0;
              free = refl;
              few = omega arith;
              none_to_server = refl;
              none_to_client = refl;
              unheard = refl;
              new_at_server = refl;
              new_at_client = ap (λ (endpoint : EndpointState). looked round.at at (answer_id proxy.node round.first) endpoint.seen) is.endpoint;
            });
      }
