-- Which settings a document stands for, program by program. A key that isn't named here is in none of them.
use Rattle.std.specs.Prelude.{◌≡◌, ◌⊎◌, ◌≤◌, ℕ, Bool, true, pos, List, [], ◌∷◌, length, Option, Some, None, is_some, codes}
use Rattle.toml.specs.Data.{Data, Items, Members, array, string, integer, table, get_member}
use Rattle.osc_model.specs.{IsPath, default_port, longest_payload, most_resources}
use Rattle.osc_model.specs.declared.algorithm.Algorithm.{Algorithm}
use Rattle.osc_model.specs.declared.algorithm.Algorithm.TheVariants.{EightByteTag}
use Rattle.osc_model.specs.declared.node.Peer.{Peer}
use Rattle.osc_words.specs.Settings.Document.{other_key, IsLeftOut, SpelledAt, MaySpellAt, IsAlgorithmAt, IsBooleanAt, IsPortAt, MayBeSecondsAt, ListedAt, StandForEach}
use Rattle.osc_words.specs.Settings.Values.{IsAddress, IsFileName, IsHost, IsIdBelow, IsOpenAddress, IsRevocationPath, SpellsHex, SpellsBytes}
use Rattle.osc_words.specs.declared.settings.client.ClientSettings.{ClientSettings}
use Rattle.osc_words.specs.declared.settings.key.SettingsKey.{SettingsKey}
use Rattle.osc_words.specs.declared.settings.key.SettingsKey.TheVariants as key
use Rattle.osc_words.specs.declared.settings.proxy.ProxySettings.{ProxySettings}
use Rattle.osc_words.specs.declared.settings.proxy.TargetSetting.{TargetSetting}
use Rattle.osc_words.specs.declared.settings.resource.ResourceSetting.{ResourceSetting}
use Rattle.osc_words.specs.declared.settings.server.ServerSettings.{ServerSettings}
use Rattle.osc_words.specs.declared.settings.store_file.StoreDisk.{StoreDisk}
use Rattle.osc_words.specs.declared.settings.store_file.StoreDisk.TheVariants as disk

-- ---- of a server or a proxy

-- an address that can be sent to, as a text
abbrev pub IsAddressText : Data → Peer → Type 0
IsAddressText value peer = (text : List ℕ) × (value ≡ string text) × IsAddress text peer

-- 1 to 8 of them
abbrev pub AreAddressTexts : Items → List Peer → Type 0
AreAddressTexts items peers = StandForEach IsAddressText items peers × (1 ≤ length peers) × (length peers ≤ 8)

-- one, alone
abbrev pub IsAlone : Data → List Peer → Type 0
IsAlone value (peer ∷ []) = IsAddressText value peer
IsAlone value peers = ⊥

-- an array of addresses, or the text of one
abbrev pub AreAddresses : Data → List Peer → Type 0
AreAddresses (array items) peers = AreAddressTexts items peers
AreAddresses value peers = IsAlone value peers

-- the addresses that it receives on, at the key
abbrev pub AreAddressesAt : List ℕ → Members → List Peer → Type 0
AreAddressesAt name document peers = (value : Data) × (get_member name document ≡ Some value) × AreAddresses value peers

-- ---- of a server

abbrev pub server_keys : List SettingsKey
server_keys = key.Audience ∷ key.Bind ∷ key.ContextSeconds ∷ key.Key ∷ key.OldKey ∷ key.Open ∷ key.ReservedId ∷ key.Resource ∷ key.Revoked
    ∷ key.RevokedIds ∷ key.Store ∷ key.StoreDisk ∷ key.Subtrees ∷ []

abbrev pub resource_keys : List SettingsKey
resource_keys = key.Format ∷ key.Hex ∷ key.Path ∷ key.Text ∷ []

-- the path of a resource, by what is there
abbrev pub IsPathOf : Option Data → List ℕ → Type 0
IsPathOf (Some (string text)) path = (path ≡ text) × IsPath path
IsPathOf found path = ⊥

-- its Content-Format: a number of 16 bits, or none
abbrev pub IsFormatOf : Option Data → Option ℕ → Type 0
IsFormatOf None None = Unit {0}
IsFormatOf (Some (integer number)) (Some format) = (number ≡ pos format) × (format ≤ 65535)
IsFormatOf found format = ⊥

-- its payload, by what is at `text` and at `hex`: one of them does, with at most 512 bytes
abbrev pub IsContentOf : Option Data → Option Data → List ℕ → Type 0
IsContentOf (Some (string text)) None payload = (payload ≡ text) × (length payload ≤ longest_payload)
IsContentOf None (Some (string text)) payload = SpellsBytes 0 longest_payload text payload
IsContentOf text hex payload = ⊥

pub record IsResource (document : Members) (resource : ResourceSetting) : Type 0 where
  pub keys : other_key resource_keys document ≡ None
  pub path : IsPathOf (get_member (codes "path") document) resource.path
  pub format : IsFormatOf (get_member (codes "format") document) resource.format
  pub payload : IsContentOf (get_member (codes "text") document) (get_member (codes "hex") document) resource.payload

-- a resource, as a table of its own
abbrev pub IsResourceTable : Data → ResourceSetting → Type 0
IsResourceTable value resource = (document : Members) × (value ≡ table document) × IsResource document resource

-- as many as a server holds, at the key
abbrev pub AreResourcesAt : List ℕ → Members → List ResourceSetting → Type 0
AreResourcesAt name document resources = ListedAt name IsResourceTable document resources × (length resources ≤ most_resources)

-- what a server has at first; it may be left out
abbrev pub AreResources : Members → List ResourceSetting → Type 0
AreResources document resources = AreResourcesAt (codes "resource") document resources ⊎ (IsLeftOut (codes "resource") document × (resources ≡ []))

-- a path, as its text
abbrev pub IsPathText : Data → List ℕ → Type 0
IsPathText value path = (value ≡ string path) × IsPath path

-- an id whose token is revoked below this path, as a text in hexadecimal
abbrev pub IsRevokedId : List ℕ → Data → List ℕ → Type 0
IsRevokedId root value id = (text : List ℕ) × (value ≡ string text) × IsIdBelow root text id

-- as many as a server has places for token ids, at the key
abbrev pub AreRevokedIdsAt : List ℕ → List ℕ → Members → List (List ℕ) → Type 0
AreRevokedIdsAt root name document ids = ListedAt name (IsRevokedId root) document ids × (length ids ≤ 64)

-- The ids that are revoked at each start; they may be left out. Without a revocation path they are.
abbrev pub AreRevokedIds : Option (List ℕ) → Members → List (List ℕ) → Type 0
AreRevokedIds None document ids = IsLeftOut (codes "revoked_ids") document × (ids ≡ [])
AreRevokedIds (Some root) document ids = AreRevokedIdsAt root (codes "revoked_ids") document ids ⊎ (IsLeftOut (codes "revoked_ids") document × (ids ≡ []))

-- tokens may reach what is below their paths where this is left out
abbrev pub IsSubtrees : Members → Bool → Type 0
IsSubtrees document may = IsBooleanAt (codes "subtrees") document may ⊎ (IsLeftOut (codes "subtrees") document × (may ≡ true))

-- the owner says that the disk of the store writes each sector whole
abbrev pub IsWhole : Members → Type 0
IsWhole document = get_member (codes "store_disk") document ≡ Some (string (codes "whole-sectors"))

-- what is supposed of the disk of a store: nothing where this is left out
abbrev pub IsStoreDisk : Members → StoreDisk → Type 0
IsStoreDisk document disk.Any = IsLeftOut (codes "store_disk") document
IsStoreDisk document disk.WholeSectors = IsWhole document × (is_some (get_member (codes "store") document) ≡ true)

pub record AreServerSettings (document : Members) (settings : ServerSettings) : Type 0 where
  pub keys : other_key server_keys document ≡ None
  pub bind : AreAddressesAt (codes "bind") document settings.bind.items
  pub key : SpelledAt (codes "key") (SpellsBytes 16 16) document settings.key
  pub old_key : MaySpellAt (codes "old_key") (SpellsBytes 16 16) document settings.old_key
  pub audience : get_member (codes "audience") document ≡ Some (string settings.audience)
  pub open_paths : ListedAt (codes "open") IsPathText document settings.open.items
  pub revoked : MaySpellAt (codes "revoked") IsRevocationPath document settings.revoked
  pub revoked_ids : AreRevokedIds settings.revoked document settings.revoked_ids.items
  pub context_seconds : MayBeSecondsAt (codes "context_seconds") document settings.context_seconds
  pub reserved_id : MaySpellAt (codes "reserved_id") (SpellsBytes 0 64) document settings.reserved_id
  pub subtrees : IsSubtrees document settings.subtrees
  pub store : MaySpellAt (codes "store") IsFileName document settings.store
  pub store_disk : IsStoreDisk document settings.store_disk
  pub resources : AreResources document settings.resources.items

-- ---- of a proxy

abbrev pub proxy_keys : List SettingsKey
proxy_keys = key.Bind ∷ key.Target ∷ []

abbrev pub target_keys : List SettingsKey
target_keys = key.Host ∷ key.Port ∷ key.To ∷ []

pub record IsTarget (document : Members) (target : TargetSetting) : Type 0 where
  pub keys : other_key target_keys document ≡ None
  pub host : SpelledAt (codes "host") IsHost document target.host
  pub port : IsPortAt (codes "port") document target.port
  pub to : SpelledAt (codes "to") IsAddress document target.to

-- a target, as a table of its own
abbrev pub IsTargetTable : Data → TargetSetting → Type 0
IsTargetTable value target = (document : Members) × (value ≡ table document) × IsTarget document target

pub record AreProxySettings (document : Members) (settings : ProxySettings) : Type 0 where
  pub keys : other_key proxy_keys document ≡ None
  pub bind : AreAddressesAt (codes "bind") document settings.bind.items
  pub targets : ListedAt (codes "target") IsTargetTable document settings.targets.items

-- ---- of a client

abbrev pub client_keys : List SettingsKey
client_keys = key.Alg ∷ key.Bind ∷ key.Context ∷ key.Host ∷ key.Peer ∷ key.Port ∷ key.Salt ∷ key.Secret ∷ key.Token ∷ []

-- a port that is left out is that of `coap` (RFC 7252 section 6.1)
abbrev pub IsOriginPort : Members → ℕ → Type 0
IsOriginPort document port = IsPortAt (codes "port") document port ⊎ (IsLeftOut (codes "port") document × (port ≡ default_port))

-- The host and the port by which a proxy knows the server. Without a host there is no proxy, and then no port either.
abbrev pub IsOrigin : Members → Option (List ℕ × ℕ) → Type 0
IsOrigin document None = IsLeftOut (codes "host") document × IsLeftOut (codes "port") document
IsOrigin document (Some origin) = SpelledAt (codes "host") IsHost document origin.0 × IsOriginPort document origin.1

-- a salt that is left out is empty
abbrev pub IsSalt : Members → List ℕ → Type 0
IsSalt document salt = SpelledAt (codes "salt") (SpellsBytes 0 64) document salt ⊎ (IsLeftOut (codes "salt") document × (salt ≡ []))

-- an algorithm that is left out is AES-CCM-16-64-128
abbrev pub IsClientAlgorithm : Members → Algorithm → Type 0
IsClientAlgorithm document algorithm = IsAlgorithmAt (codes "alg") document algorithm ⊎ (IsLeftOut (codes "alg") document × (algorithm ≡ EightByteTag))

pub record AreClientSettings (document : Members) (settings : ClientSettings) : Type 0 where
  pub keys : other_key client_keys document ≡ None
  pub bind : SpelledAt (codes "bind") IsOpenAddress document settings.bind
  pub peer : SpelledAt (codes "peer") IsAddress document settings.peer
  pub origin : IsOrigin document settings.origin
  pub token : SpelledAt (codes "token") SpellsHex document settings.token
  pub secret : SpelledAt (codes "secret") (SpellsBytes 1 64) document settings.secret
  pub salt : IsSalt document settings.salt
  pub context : MaySpellAt (codes "context") (SpellsBytes 0 64) document settings.context
  pub alg : IsClientAlgorithm document settings.alg
