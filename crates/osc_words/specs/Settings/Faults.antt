-- Why a text gives no settings: the first fault. A key that should not be there comes before all else, the first in the order of the
-- bytes of their names; then the keys, in the order in which they are here.
use Rattle.std.specs.Prelude.{◌≡◌, ◌⊎◌, ℕ, zero, suc, true, List, Option, Some, None, is_some, IsSomeAnd}
use Rattle.toml.specs.Data.{Data, Items, Members, no_items, item, array, table, string, get_member}
use Rattle.toml.specs.Parse.{parse_document}
use Rattle.osc_model.specs.declared.node.Peer.{Peer}
use Rattle.osc_words.specs.Settings.Document.{other_key, IsLeftOut, IsLineOf, SpelledAt, MaySpellAt, IsAlgorithmAt, IsBooleanAt, IsPortAt, IsSecondsAt, ListedAt}
use Rattle.osc_words.specs.Settings.Keys.{name_of}
use Rattle.osc_words.specs.Settings.Settings.{server_keys, proxy_keys, target_keys, client_keys, AreAddressesAt, AreResourcesAt, AreRevokedIds, AreRevokedIdsAt, IsOrigin, IsPathText, IsStoreDisk, IsTargetTable, IsWhole}
use Rattle.osc_words.specs.Settings.Values.{IsAddress, IsFileName, IsHost, IsOpenAddress, IsRevocationPath, SpellsHex, SpellsBytes}
use Rattle.osc_words.specs.declared.settings.error.KeyFault.{KeyFault}
use Rattle.osc_words.specs.declared.settings.error.KeyFault.TheVariants.{Unknown, Missing, Wrong}
use Rattle.osc_words.specs.declared.settings.error.SettingsError.{SettingsError}
use Rattle.osc_words.specs.declared.settings.error.SettingsError.TheVariants as error
use Rattle.osc_words.specs.declared.settings.key.SettingsKey.{SettingsKey}
use Rattle.osc_words.specs.declared.settings.key.SettingsKey.TheVariants as key
use Rattle.osc_words.specs.declared.settings.proxy.TargetSetting.{TargetSetting}
use Rattle.osc_words.specs.declared.settings.store_file.StoreDisk.{StoreDisk}

-- ---- of one key

-- this key is the first that should not be there
abbrev pub IsOther : List SettingsKey → Members → KeyFault → Type 0
IsOther keys document fault = (name : List ℕ) × (other_key keys document ≡ Some name) × (fault ≡ Unknown name)

-- something is at the key, but no such value
abbrev pub IsWrongAt : {X : Type 0} → SettingsKey → (List ℕ → Members → X → Type 0) → Members → KeyFault → Type 0
IsWrongAt {X} key Stands document fault = (is_some (get_member (name_of key) document) ≡ true) × ((x : X) → ¬ Stands (name_of key) document x) × (fault ≡ Wrong key)

-- so, or nothing is there
abbrev pub IsFaultAt : {X : Type 0} → SettingsKey → (List ℕ → Members → X → Type 0) → Members → KeyFault → Type 0
IsFaultAt key Stands document fault = IsWrongAt key Stands document fault ⊎ (IsLeftOut (name_of key) document × (fault ≡ Missing key))

-- ---- of several, in their order

-- no key should be elsewhere, and then there is this fault; or the first that should is the fault
abbrev pub OnlyThen : List SettingsKey → Members → (KeyFault → Type 0) → KeyFault → Type 0
OnlyThen keys document Later fault = IsOther keys document fault ⊎ ((other_key keys document ≡ None) × Later fault)

-- such a value is at the key, and then there is this fault; or the key has it
abbrev pub KeyThen : {X : Type 0} → SettingsKey → (List ℕ → Members → X → Type 0) → Members → (KeyFault → Type 0) → KeyFault → Type 0
KeyThen {X} key Stands document Later fault = IsFaultAt key Stands document fault ⊎ (((x : X) × Stands (name_of key) document x) × Later fault)

-- the same of a key that may be left out
abbrev pub MayThen : {X : Type 0} → SettingsKey → (List ℕ → Members → X → Type 0) → Members → (KeyFault → Type 0) → KeyFault → Type 0
MayThen {X} key Stands document Later fault =
    IsWrongAt key Stands document fault ⊎ ((((x : X) × Stands (name_of key) document x) ⊎ IsLeftOut (name_of key) document) × Later fault)

-- ---- of a server

-- this text is at the key
abbrev pub IsTextAt : List ℕ → Members → List ℕ → Type 0
IsTextAt key document text = get_member key document ≡ Some (string text)

-- ids without a revocation path lack that; with one they are to be ids whose tokens are revoked below it
abbrev pub IsRevokedIdsFault : Members → KeyFault → Type 0
IsRevokedIdsFault document fault =
    (IsLeftOut (name_of key.Revoked) document × (is_some (get_member (name_of key.RevokedIds) document) ≡ true) × (fault ≡ Missing key.Revoked))
    ⊎ ((root : List ℕ) × SpelledAt (name_of key.Revoked) IsRevocationPath document root × IsWrongAt key.RevokedIds (AreRevokedIdsAt root) document fault)

abbrev pub RevokedIdsThen : Members → (KeyFault → Type 0) → KeyFault → Type 0
RevokedIdsThen document Later fault = IsRevokedIdsFault document fault
    ⊎ (((root : Option (List ℕ)) × (ids : List (List ℕ)) × MaySpellAt (name_of key.Revoked) IsRevocationPath document root × AreRevokedIds root document ids) × Later fault)

-- what is said of the disk is no such text, or there is no store
abbrev pub IsStoreDiskFault : Members → KeyFault → Type 0
IsStoreDiskFault document fault =
    ((is_some (get_member (name_of key.StoreDisk) document) ≡ true) × (¬ IsWhole document) × (fault ≡ Wrong key.StoreDisk))
    ⊎ (IsWhole document × IsLeftOut (name_of key.Store) document × (fault ≡ Missing key.Store))

abbrev pub StoreDiskThen : Members → (KeyFault → Type 0) → KeyFault → Type 0
StoreDiskThen document Later fault = IsStoreDiskFault document fault ⊎ (((disk : StoreDisk) × IsStoreDisk document disk) × Later fault)

abbrev pub IsServerFault : Members → KeyFault → Type 0
IsServerFault document =
    OnlyThen server_keys document
    (KeyThen key.Bind AreAddressesAt document
    (KeyThen key.Key (λ key. SpelledAt key (SpellsBytes 16 16)) document
    (MayThen key.OldKey (λ key. SpelledAt key (SpellsBytes 16 16)) document
    (KeyThen key.Audience IsTextAt document
    (KeyThen key.Open (λ key. ListedAt key IsPathText) document
    (MayThen key.Revoked (λ key. SpelledAt key IsRevocationPath) document
    (RevokedIdsThen document
    (MayThen key.ContextSeconds IsSecondsAt document
    (MayThen key.ReservedId (λ key. SpelledAt key (SpellsBytes 0 64)) document
    (MayThen key.Subtrees IsBooleanAt document
    (MayThen key.Store (λ key. SpelledAt key IsFileName) document
    (StoreDiskThen document
    (IsWrongAt key.Resource AreResourcesAt document)))))))))))))

-- ---- of a proxy

abbrev pub IsTargetFault : Members → KeyFault → Type 0
IsTargetFault document =
    OnlyThen target_keys document
    (KeyThen key.Port IsPortAt document
    (KeyThen key.To (λ key. SpelledAt key IsAddress) document
    (IsFaultAt key.Host (λ key. SpelledAt key IsHost) document)))

-- of an item of the array of targets: it has a fault, or is no table
abbrev pub IsItemFault : Data → KeyFault → Type 0
IsItemFault (table document) fault = IsTargetFault document fault
IsItemFault value fault = fault ≡ Wrong key.Target

-- the items before that of this number, from 0, stand for targets, and that one has the fault
abbrev pub IsFirstFault : Items → ℕ → KeyFault → Type 0
IsFirstFault no_items n fault = ⊥
IsFirstFault (item value rest) zero fault = IsItemFault value fault
IsFirstFault (item value rest) (suc n) fault = ((target : TargetSetting) × IsTargetTable value target) × IsFirstFault rest n fault

-- these are the items of the array at the key
abbrev pub IsArrayAt : List ℕ → Members → Items → Type 0
IsArrayAt key document items = get_member key document ≡ Some (array items)

-- the keys of the proxy itself
abbrev pub IsProxyFault : Members → KeyFault → Type 0
IsProxyFault document =
    OnlyThen proxy_keys document
    (KeyThen key.Bind AreAddressesAt document
    (IsFaultAt key.Target IsArrayAt document))

-- those of the target of this number, from 1, where the proxy's own are right
pub record IsFaultIn (document : Members) (number : ℕ) (fault : KeyFault) : Type 0 where
  pub keys : other_key proxy_keys document ≡ None
  pub peers : List Peer
  pub bind : AreAddressesAt (name_of key.Bind) document peers
  pub items : Items
  pub targets : IsArrayAt (name_of key.Target) document items
  pub before : ℕ
  pub count : number ≡ suc before
  pub first : IsFirstFault items before fault

-- ---- of a client

-- where a host is there, a port if one does, and then the host; a port without a host lacks it
abbrev pub IsOriginFault : Members → KeyFault → Type 0
IsOriginFault document fault =
    ((is_some (get_member (name_of key.Host) document) ≡ true) × MayThen key.Port IsPortAt document (IsWrongAt key.Host (λ key. SpelledAt key IsHost) document) fault)
    ⊎ (IsLeftOut (name_of key.Host) document × (is_some (get_member (name_of key.Port) document) ≡ true) × (fault ≡ Missing key.Host))

abbrev pub OriginThen : Members → (KeyFault → Type 0) → KeyFault → Type 0
OriginThen document Later fault = IsOriginFault document fault ⊎ (((origin : Option (List ℕ × ℕ)) × IsOrigin document origin) × Later fault)

abbrev pub IsClientFault : Members → KeyFault → Type 0
IsClientFault document =
    OnlyThen client_keys document
    (KeyThen key.Bind (λ key. SpelledAt key IsOpenAddress) document
    (KeyThen key.Peer (λ key. SpelledAt key IsAddress) document
    (OriginThen document
    (KeyThen key.Token (λ key. SpelledAt key SpellsHex) document
    (KeyThen key.Secret (λ key. SpelledAt key (SpellsBytes 1 64)) document
    (MayThen key.Salt (λ key. SpelledAt key (SpellsBytes 0 64)) document
    (MayThen key.Context (λ key. SpelledAt key (SpellsBytes 0 64)) document
    (IsWrongAt key.Alg IsAlgorithmAt document))))))))

-- ---- of a text

-- lack of memory apart, a key is at fault so
abbrev pub IsKeyFault : (KeyFault → Type 0) → SettingsError → Type 0
IsKeyFault Is (error.Key fault) = Is fault
IsKeyFault Is error.Memory = Unit {0}
IsKeyFault Is other = ⊥

-- of a proxy, or one of a target
abbrev pub IsFaultOfProxy : Members → SettingsError → Type 0
IsFaultOfProxy document (error.Target number fault) = IsFaultIn document number fault
IsFaultOfProxy document other = IsKeyFault (IsProxyFault document) other

-- Lack of memory apart, the text is no document, or one that is at fault so. Of the first a line of the text is told: the parser says that its place is
-- in the text, and no more of it.
abbrev pub Lacks : (Members → SettingsError → Type 0) → List ℕ → SettingsError → Type 0
Lacks Is text (error.NotToml line) = (parse_document text ≡ None) × IsLineOf text line
Lacks Is text error.Memory = Unit {0}
Lacks Is text other = IsSomeAnd (parse_document text) (λ document. Is document other)
