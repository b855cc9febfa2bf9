-- What `--check` says of settings that it read. Nothing of a key, a secret, a token or a payload is in it.
use Rattle.std.specs.Prelude.{◌≡◌, ℕ, Bool, true, false, List, [], ◌++◌, ◌==◌, length, map, IfSome, Option, Some, None, codes, decimal, if◌then◌else◌}
use Rattle.std.specs.Io.KnownBytes.{Appends}
use Rattle.std.specs.List.{flat_map}
use Rattle.std.specs.Str.{bytes_eq}
use Rattle.hex.specs.Hex.{encode_lower}
use Rattle.osc_model.specs.{algorithm_number, peer_text}
use Rattle.osc_model.specs.declared.node.Peer.{Peer}
use Rattle.osc_words.specs.Settings.{AreServerSettings, StandsFor}
use Rattle.osc_words.specs.declared.settings.client.ClientSettings.{ClientSettings}
use Rattle.osc_words.specs.declared.settings.proxy.ProxySettings.{ProxySettings}
use Rattle.osc_words.specs.declared.settings.proxy.TargetSetting.{TargetSetting}
use Rattle.osc_words.specs.declared.settings.resource.ResourceSetting.{ResourceSetting}
use Rattle.osc_words.specs.declared.settings.server.ServerSettings.{ServerSettings}
use Rattle.osc_words.specs.declared.settings.store_file.StoreDisk.{StoreDisk}
use Rattle.osc_words.specs.declared.settings.store_file.StoreDisk.TheVariants.{Any, WholeSectors}
use Rattle.osc_simulation.specs.{line}
use Rattle.osc_log.specs.{IsUnreadText, Told, Writes, shown_byte}

-- NAME and an address with its port
abbrev pub address_line : List ℕ → Peer → List ℕ
address_line name peer = line (name ++ codes " " ++ peer_text peer)

-- NAME and these bytes, of which each that isn't printable ASCII shows as `?`
abbrev pub shown_line : List ℕ → List ℕ → List ℕ
shown_line name bytes = line (name ++ codes " " ++ map shown_byte bytes)

-- ---- of a server

abbrev pub format_text : Option ℕ → List ℕ
format_text None = codes "none"
format_text (Some format) = decimal format

-- resource PATH FORMAT N bytes
abbrev pub resource_line : ResourceSetting → List ℕ
resource_line resource =
    line (codes "resource " ++ map shown_byte resource.path ++ codes " " ++ format_text resource.format ++ codes " " ++ decimal (length resource.payload) ++ codes " bytes")

-- store FILE, where it has one
abbrev pub store_text : Option (List ℕ) → List ℕ
store_text None = []
store_text (Some file) = shown_line (codes "store") file

-- store_disk whole-sectors, where its disk is said to write each sector whole
abbrev pub disk_text : StoreDisk → List ℕ
disk_text Any = []
disk_text WholeSectors = line (codes "store_disk whole-sectors")

-- revoked PATH, where it has one
abbrev pub revoked_text : Option (List ℕ) → List ℕ
revoked_text None = []
revoked_text (Some path) = shown_line (codes "revoked") path

-- NAME and an id in hexadecimal
abbrev pub id_line : List ℕ → List ℕ → List ℕ
id_line name id = line (name ++ codes " " ++ encode_lower id)

-- revoked_ids N, where there are any
abbrev pub ids_text : ℕ → List ℕ
ids_text count = if count == 0 then [] else line (codes "revoked_ids " ++ decimal count)

-- context_seconds N, where contexts have a greatest age
abbrev pub seconds_text : Option ℕ → List ℕ
seconds_text None = []
seconds_text (Some seconds) = line (codes "context_seconds " ++ decimal seconds)

-- reserved_id ID, where a place is kept
abbrev pub reserved_text : Option (List ℕ) → List ℕ
reserved_text None = []
reserved_text (Some id) = id_line (codes "reserved_id") id

-- subtrees false, where no scope may reach below its paths
abbrev pub subtrees_text : Bool → List ℕ
subtrees_text true = []
subtrees_text false = line (codes "subtrees false")

-- the rules by which it judges tokens and contexts
abbrev pub rules_text : ServerSettings → List ℕ
rules_text settings =
    revoked_text settings.revoked ++ ids_text (length settings.revoked_ids.items) ++ seconds_text settings.context_seconds
    ++ reserved_text settings.reserved_id ++ subtrees_text settings.subtrees

abbrev pub server_text : ServerSettings → List ℕ
server_text settings =
    flat_map (address_line (codes "bind")) settings.bind.items ++ shown_line (codes "audience") settings.audience ++ store_text settings.store ++ disk_text settings.store_disk
    ++ flat_map (shown_line (codes "open")) settings.open.items ++ rules_text settings ++ flat_map resource_line settings.resources.items

-- ---- a key of a server that everybody knows

-- the bytes 40 to 4f, which the documentation prints as a key
abbrev pub is_printed : List ℕ → Bool
is_printed key = bytes_eq key (codes "@ABCDEFGHIJKLMNO")

abbrev pub is_printed_if : Option (List ℕ) → Bool
is_printed_if None = false
is_printed_if (Some key) = is_printed key

-- what is said of that key, where it is the server's own or its former one
abbrev pub printed_words : ServerSettings → Option (List ℕ)
printed_words settings =
    if is_printed settings.key then Some (codes "settings: key key is that of the documentation: make one by osc key")
    else if is_printed_if settings.old_key then Some (codes "settings: key old_key is that of the documentation: make one by osc key")
    else None

-- the log told that
pub record TellsPrinted (settings : ServerSettings) (old new : Told) : Type 0 where
  pub words : List ℕ
  pub is_printed : printed_words settings ≡ Some words
  pub text : List ℕ
  pub is_text : IsUnreadText old.form (Some words) text
  pub tells : Writes old new text

-- These bytes are settings of a server, and what was understood of them was written; then the log told that.
pub record RefusesPrinted (bytes before after : Option (List ℕ)) (old new : Told) : Type 0 where
  pub settings : ServerSettings
  pub stands : IfSome bytes (λ text. StandsFor AreServerSettings text settings)
  pub said : Appends before after (server_text settings)
  pub tells : TellsPrinted settings old new

-- ---- of a proxy

-- HOST:PORT
abbrev pub host_text : List ℕ → ℕ → List ℕ
host_text host port = map shown_byte host ++ codes ":" ++ decimal port

-- target HOST:PORT to an address with its port
abbrev pub target_line : TargetSetting → List ℕ
target_line target = line (codes "target " ++ host_text target.host target.port ++ codes " to " ++ peer_text target.to)

abbrev pub proxy_text : ProxySettings → List ℕ
proxy_text settings = flat_map (address_line (codes "bind")) settings.bind.items ++ flat_map target_line settings.targets.items

-- ---- of a client

-- host HOST:PORT, where it sends through a proxy
abbrev pub origin_text : Option (List ℕ × ℕ) → List ℕ
origin_text None = []
origin_text (Some origin) = line (codes "host " ++ host_text origin.0 origin.1)

-- token N bytes, alg N
abbrev pub grant_line : ℕ → ℕ → List ℕ
grant_line size alg = line (codes "token " ++ decimal size ++ codes " bytes, alg " ++ decimal alg)

abbrev pub grant_text : ClientSettings → List ℕ
grant_text settings = grant_line (length settings.token) (algorithm_number settings.alg)

abbrev pub client_text : ClientSettings → List ℕ
client_text settings =
    address_line (codes "bind") settings.bind ++ address_line (codes "peer") settings.peer ++ origin_text settings.origin ++ grant_text settings
