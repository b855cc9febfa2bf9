-- What `osc server` and `osc proxy` do: the node of the settings takes its turns.
use Rattle.std.specs.Prelude.{◌≡◌, ◌||◌, ℕ, Bool, true, bytes_eq, List, [], Option, Some, None, fold, map, replicate}
use Rattle.std.specs.Option.{option_eq}
use Rattle.std.specs.FinMap as map
use Rattle.std.specs.FinSet as set
use Rattle.osc_model.specs.{exactly, remembered_posts}
use Rattle.osc_model.specs.Peer.{octets_of}
use Rattle.osc_model.specs.Tree.{Tree}
use Rattle.osc_model.specs.declared.code.Method.TheVariants.{Get}
use Rattle.osc_model.specs.declared.node.Moment.{Moment}
use Rattle.osc_model.specs.declared.node.Peer.{Peer}
use Rattle.osc_model.specs.declared.step.Datagram.{Datagram}
use Rattle.osc_log.specs.{Event}
use Rattle.osc_message.specs.{fresh, fresh_with}
use Rattle.osc_proxy.specs.{none_open, IsStep as IsStepOfProxy, acts as proxy_acts_at}
use Rattle.osc_proxy.specs.State.{State as Proxy}
use Rattle.osc_proxy.specs.declared.targets.Target.{Target}
use Rattle.osc_server.specs.State.{State as Server}
use Rattle.osc_server.specs.{IsStep as IsStepOfServer, acts as server_acts}
use Rattle.osc_words.specs.declared.settings.proxy.ProxySettings.{ProxySettings}
use Rattle.osc_words.specs.declared.settings.proxy.TargetSetting.{TargetSetting}
use Rattle.osc_words.specs.declared.settings.resource.ResourceSetting.{ResourceSetting}
use Rattle.osc_words.specs.declared.settings.server.ServerSettings.{ServerSettings}
use Rattle.osc_simulation.specs.{is_sealing}
use Rattle.osc_turn.specs.{Received}
use Rattle.osc_programs.specs.Holding.{proxy_held, server_held}
use Rattle.osc_programs.specs.Revoking.{AreRevoked, Stops, with_revoked}
use Rattle.osc_programs.specs.Turning.{Ran}
use Rattle.osc_programs.specs.declared.ended.Ended.{Ended}

-- ---- their addresses

-- 0.0.0.0 or ::, each of which stands for each address of the machine (RFC 1122 section 3.2.1.3, RFC 3493 section 3.8)
abbrev pub is_every_address : Peer → Bool
is_every_address peer = bytes_eq peer.address (replicate 16 0) || option_eq bytes_eq (octets_of peer) (Some (replicate 4 0))

-- ---- the nodes at first

-- one resource more; it takes the place of one of the same path
abbrev pub with_resource : Tree → ResourceSetting → Tree
with_resource tree resource = map.insert tree resource.path (record { format = resource.format; payload = resource.payload })

abbrev pub tree_of : List ResourceSetting → Tree
tree_of resources = fold with_resource map.empty resources

-- the server of these settings, which did nothing yet: it has these resources and no contexts, and a GET of the open paths needs no protection
pub record IsServerOf (settings : ServerSettings) (resources : Tree) (server : Server) : Type 0 where
  pub key : server.desk.key ≡ settings.key
  pub old_key : server.desk.old_key ≡ settings.old_key
  pub audience : server.desk.audience ≡ settings.audience
  pub rules : server.desk.rules
      ≡ record { revoked = settings.revoked; seconds = settings.context_seconds; remembered = remembered_posts; reserved = settings.reserved_id; subtrees = settings.subtrees; answers = true }
  pub contexts : server.desk.table ≡ []
  pub open_paths : server.open_scope ≡ set.from_list (map (λ path. exactly path Get) settings.open.items)
  pub tree : server.tree ≡ resources
  pub endpoint : server.endpoint ≡ fresh

abbrev pub target_of : TargetSetting → Target
target_of setting = record { host = setting.host; port = setting.port; peer = setting.to }

-- The proxy of these settings, which did nothing yet: it forwards to their targets, and 16 confirmable messages may be outstanding to a peer, 15 more than
-- one (RFC 7252 section 4.7).
pub record IsProxyOf (settings : ProxySettings) (proxy : Proxy) : Type 0 where
  pub targets : proxy.targets ≡ map target_of settings.targets.items
  pub exchanges : proxy.exchanges ≡ none_open
  pub endpoint : proxy.endpoint ≡ fresh_with 15

-- ---- their turns

-- whether a tick at this moment sends, gives up or ends anything
abbrev pub proxy_acts : Proxy → Moment → Bool
proxy_acts proxy now = proxy_acts_at now proxy

module _ {P : Type 0} (gave : List ℕ → Type 0) (opened : List Peer → Option Peer → P → Type 0) (received_by : P → Option (List (Option Received))) (sent_by : P → Option (List Datagram)) where
  -- What a server of these settings did that began with these resources and was to take this number of turns, until it ended so, whatever ended it:
  -- what there is to tell of that, and the resources after the last turn, and after all that it did.
  pub data Lives (settings : ServerSettings) (tree : Tree) (turns : ℕ) : Ended → List Event → Tree → Tree → Type 0 where
    -- it came no further than the tokens of ids that its settings revoke
    revoking : (ended : Ended) (before after : Tree) → Stops settings.revoked settings.revoked_ids.items tree ended before after
        → Lives settings tree turns ended [] before after
    -- the tokens of all of them are revoked, and then it took turns
    serving : (ended : Ended) (events : List Event) (first before after : Server) → IsServerOf settings (with_revoked settings.revoked settings.revoked_ids.items tree) first
        → AreRevoked settings.revoked first.tree settings.revoked_ids.items
        → Ran gave (opened settings.bind.items None) received_by sent_by server_acts (IsStepOfServer is_sealing) server_held turns first ended events before after
        → Lives settings tree turns ended events before.tree after.tree

  -- What a proxy of these settings did that was to take this number of turns, until it ended so, and what there is to tell of that.
  pub record Forwards (settings : ProxySettings) (turns : ℕ) (ended : Ended) (events : List Event) : Type 0 where
    pub first : Proxy
    pub is_proxy : IsProxyOf settings first
    pub before : Proxy
    pub last : Proxy
    pub ran : Ran gave (opened settings.bind.items None) received_by sent_by proxy_acts IsStepOfProxy proxy_held turns first ended events before last
