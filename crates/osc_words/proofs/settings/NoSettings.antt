-- A document that is at fault stands for no settings.
use Rattle.std.proofs.Common.{◌≡◌, ◌≢◌, ℕ, Bool, zero, suc, List, [], ◌∷◌, Option, Some, None, refl, inl, inr, sym, ◌∙◌, subst}
use Rattle.toml.specs.Data.{Data, Items, Members, no_items, item, array, string, get_member}
use Rattle.osc_model.specs.declared.node.Peer.{Peer}
use Rattle.osc_words.specs.Settings.{IsBooleanAt, IsPortAt, IsSecondsAt, ListedAt, MayBeSecondsAt, MaySpellAt, SpelledAt, StandForEach, other_key, IsArrayAt, IsClientFault, IsFaultAt, IsFaultOfProxy, IsFirstFault, IsItemFault, IsKeyFault, IsOriginFault, IsOther, IsRevokedIdsFault, IsServerFault, IsStoreDiskFault, IsTargetFault, IsTextAt, IsWrongAt, name_of, AreAddressesAt, AreClientSettings, AreProxySettings, AreRevokedIds, AreRevokedIdsAt, AreServerSettings, IsOrigin, IsPathText, IsStoreDisk, IsSubtrees, IsTarget, IsTargetTable, client_keys, proxy_keys, server_keys, target_keys, IsAddress, IsFileName, IsHost, IsOpenAddress, IsRevocationPath, SpellsBytes, SpellsHex}
use Rattle.osc_words.specs.declared.settings.client.ClientSettings.{ClientSettings}
use Rattle.osc_words.specs.declared.settings.error.KeyFault.{KeyFault}
use Rattle.osc_words.specs.declared.settings.error.SettingsError.{SettingsError}
use Rattle.osc_words.specs.declared.settings.error.SettingsError.TheVariants.{NotToml, Key, Target, Memory}
use Rattle.osc_words.specs.declared.settings.key.SettingsKey.{SettingsKey}
use Rattle.osc_words.specs.declared.settings.key.SettingsKey.TheVariants as key
use Rattle.osc_words.specs.declared.settings.proxy.ProxySettings.{ProxySettings}
use Rattle.osc_words.specs.declared.settings.proxy.TargetSetting.{TargetSetting}
use Rattle.osc_words.specs.declared.settings.server.ServerSettings.{ServerSettings}
use Rattle.osc_words.specs.declared.settings.store_file.StoreDisk.{StoreDisk}
use Rattle.osc_words.specs.declared.settings.store_file.StoreDisk.TheVariants.{Any, WholeSectors}
use Rattle.osc_words.proofs.settings.Keys.{some_there}

-- ---- of one key

no_other : (keys : List SettingsKey) (document : Members) (fault : KeyFault) → IsOther keys document fault → other_key keys document ≡ None → ⊥
no_other keys document fault h none =
    let both : Some h.0 ≡ None = sym h.1 ∙ none in
    absurd cc

there_not : {A : Type 0} (o : Option A) (x : A) → o ≡ Some x → o ≡ None → ⊥
there_not o x some none =
    let both : Some x ≡ None = sym some ∙ none in
    absurd cc

no_spelled : {X : Type 0} (key : SettingsKey) (Spells : List ℕ → X → Type 0) (document : Members) (fault : KeyFault) (x : X)
    → IsFaultAt key (λ name. SpelledAt name Spells) document fault → SpelledAt (name_of key) Spells document x → ⊥
no_spelled key Spells document fault x h s = elim h [ inl wrong ↦ wrong.1 x s | inr missing ↦ there_not (get_member (name_of key) document) _ s.1 missing.0 ]

no_text : (key : SettingsKey) (document : Members) (fault : KeyFault) (text : List ℕ) → IsFaultAt key IsTextAt document fault → IsTextAt (name_of key) document text → ⊥
no_text key document fault text h s = elim h [ inl wrong ↦ wrong.1 text s | inr missing ↦ there_not (get_member (name_of key) document) _ s missing.0 ]

no_port : (key : SettingsKey) (document : Members) (fault : KeyFault) (port : ℕ) → IsFaultAt key IsPortAt document fault → IsPortAt (name_of key) document port → ⊥
no_port key document fault port h s = elim h [ inl wrong ↦ wrong.1 port s | inr missing ↦ there_not (get_member (name_of key) document) _ s.1 missing.0 ]

no_list : {X : Type 0} (key : SettingsKey) (Stands : Data → X → Type 0) (document : Members) (fault : KeyFault) (xs : List X)
    → IsFaultAt key (λ name. ListedAt name Stands) document fault → ListedAt (name_of key) Stands document xs → ⊥
no_list key Stands document fault xs h s = elim h [ inl wrong ↦ wrong.1 xs s | inr missing ↦ there_not (get_member (name_of key) document) _ s.1 missing.0 ]

no_bound : (key : SettingsKey) (document : Members) (fault : KeyFault) (peers : List Peer) → IsFaultAt key AreAddressesAt document fault → AreAddressesAt (name_of key) document peers → ⊥
no_bound key document fault peers h s = elim h [ inl wrong ↦ wrong.1 peers s | inr missing ↦ there_not (get_member (name_of key) document) _ s.1 missing.0 ]

no_array : (key : SettingsKey) (document : Members) (fault : KeyFault) (items : Items) → IsFaultAt key IsArrayAt document fault → IsArrayAt (name_of key) document items → ⊥
no_array key document fault items h s = elim h [ inl wrong ↦ wrong.1 items s | inr missing ↦ there_not (get_member (name_of key) document) _ s missing.0 ]

-- ---- of a server

no_may : {X : Type 0} (key : SettingsKey) (Spells : List ℕ → X → Type 0) (document : Members) (fault : KeyFault) (o : Option X)
    → IsWrongAt key (λ name. SpelledAt name Spells) document fault → MaySpellAt (name_of key) Spells document o → ⊥
no_may key Spells document fault None h a = some_there (get_member (name_of key) document) h.0 a
no_may key Spells document fault (Some x) h a = h.1 x a

no_seconds : (key : SettingsKey) (document : Members) (fault : KeyFault) (o : Option ℕ) → IsWrongAt key IsSecondsAt document fault → MayBeSecondsAt (name_of key) document o → ⊥
no_seconds key document fault None h a = some_there (get_member (name_of key) document) h.0 a
no_seconds key document fault (Some seconds) h a = h.1 seconds a

one_text : (found : Option Data) (text other : List ℕ) → found ≡ Some (string text) → found ≡ Some (string other) → other ≡ text
one_text found text other e f = cc

-- a revocation path is its text, so there is one at most
one_root : (document : Members) (a b : List ℕ) → SpelledAt (name_of key.Revoked) IsRevocationPath document a → SpelledAt (name_of key.Revoked) IsRevocationPath document b → a ≡ b
one_root document a b h k = h.2.0 ∙ (sym (one_text (get_member (name_of key.Revoked) document) h.0 k.0 h.1 k.1) ∙ sym k.2.0)

no_ids : (document : Members) (fault : KeyFault) (root : Option (List ℕ)) (ids : List (List ℕ))
    → IsRevokedIdsFault document fault → MaySpellAt (name_of key.Revoked) IsRevocationPath document root → AreRevokedIds root document ids → ⊥
no_ids document fault None ids h r a = elim h [
  | inl rootless ↦ some_there (get_member (name_of key.RevokedIds) document) rootless.1 a.0
  | inr rooted ↦ there_not (get_member (name_of key.Revoked) document) _ rooted.1.1 r
]
no_ids document fault (Some root) ids h r a = elim h [
  | inl rootless ↦ there_not (get_member (name_of key.Revoked) document) _ r.1 rootless.0
  | inr rooted ↦ elim a [
    | inl there ↦ rooted.2.1 ids (subst (λ path. AreRevokedIdsAt path (name_of key.RevokedIds) document ids) (one_root document root rooted.0 r rooted.1) there)
    | inr out ↦ some_there (get_member (name_of key.RevokedIds) document) rooted.2.0 out.0
  ]
]

no_subtrees : (document : Members) (fault : KeyFault) (may : Bool) → IsWrongAt key.Subtrees IsBooleanAt document fault → IsSubtrees document may → ⊥
no_subtrees document fault may h a = elim a [ inl there ↦ h.1 may there | inr out ↦ some_there (get_member (name_of key.Subtrees) document) h.0 out.0 ]

no_disk : (document : Members) (fault : KeyFault) (disk : StoreDisk) → IsStoreDiskFault document fault → IsStoreDisk document disk → ⊥
no_disk document fault Any h a = elim h [
  | inl wrong ↦ some_there (get_member (name_of key.StoreDisk) document) wrong.0 a
  | inr storeless ↦ there_not (get_member (name_of key.StoreDisk) document) _ storeless.0 a
]
no_disk document fault WholeSectors h a = elim h [
  | inl wrong ↦ wrong.1 a.0
  | inr storeless ↦ some_there (get_member (name_of key.Store) document) a.1 storeless.1
]

server_fault : (document : Members) (fault : KeyFault) (s : ServerSettings) → IsServerFault document fault → AreServerSettings document s → ⊥
server_fault document fault s h a = elim h [
  | inl other ↦ no_other server_keys document fault other a.keys
  | inr only ↦ elim only.1 [
    | inl bind ↦ no_bound key.Bind document fault s.bind.items bind a.bind
    | inr bound ↦ elim bound.1 [
      | inl secret ↦ no_spelled key.Key (SpellsBytes 16 16) document fault s.key secret a.key
      | inr keyed ↦ elim keyed.1 [
        | inl old ↦ no_may key.OldKey (SpellsBytes 16 16) document fault s.old_key old a.old_key
        | inr former ↦ elim former.1 [
          | inl audience ↦ no_text key.Audience document fault s.audience audience a.audience
          | inr named ↦ elim named.1 [
            | inl paths ↦ no_list key.Open IsPathText document fault s.open.items paths a.open_paths
            | inr listed ↦ elim listed.1 [
              | inl revoked ↦ no_may key.Revoked IsRevocationPath document fault s.revoked revoked a.revoked
              | inr taken ↦ elim taken.1 [
                | inl ids ↦ no_ids document fault s.revoked s.revoked_ids.items ids a.revoked a.revoked_ids
                | inr gone ↦ elim gone.1 [
                  | inl seconds ↦ no_seconds key.ContextSeconds document fault s.context_seconds seconds a.context_seconds
                  | inr timed ↦ elim timed.1 [
                    | inl reserved ↦ no_may key.ReservedId (SpellsBytes 0 64) document fault s.reserved_id reserved a.reserved_id
                    | inr placed ↦ elim placed.1 [
                      | inl subtrees ↦ no_subtrees document fault s.subtrees subtrees a.subtrees
                      | inr reached ↦ elim reached.1 [
                        | inl store ↦ no_may key.Store IsFileName document fault s.store store a.store
                        | inr kept ↦ elim kept.1 [
                          | inl disk ↦ no_disk document fault s.store_disk disk a.store_disk
                          | inr supposed ↦ elim a.resources [
                            | inl there ↦ supposed.1.1 s.resources.items there
                            | inr out ↦ some_there (get_member (name_of key.Resource) document) supposed.1.0 out.0
                          ]
                        ]
                      ]
                    ]
                  ]
                ]
              ]
            ]
          ]
        ]
      ]
    ]
  ]
]

pub no_server : (document : Members) (error : SettingsError) (s : ServerSettings) → error ≢ Memory → IsKeyFault (IsServerFault document) error → ¬ AreServerSettings document s
no_server document (NotToml line) s some h a = h
no_server document (Key fault) s some h a = server_fault document fault s h a
no_server document (Target number fault) s some h a = h
no_server document Memory s some h a = some refl

-- ---- of a proxy

target_fault : (document : Members) (fault : KeyFault) (t : TargetSetting) → IsTargetFault document fault → IsTarget document t → ⊥
target_fault document fault t h a = elim h [
  | inl other ↦ no_other target_keys document fault other a.keys
  | inr only ↦ elim only.1 [
    | inl port ↦ no_port key.Port document fault t.port port a.port
    | inr numbered ↦ elim numbered.1 [
      | inl to ↦ no_spelled key.To IsAddress document fault t.to to a.to
      | inr sent ↦ no_spelled key.Host IsHost document fault t.host sent.1 a.host
    ]
  ]
]

item_fault : (value : Data) (fault : KeyFault) (t : TargetSetting) → IsItemFault value fault → IsTargetTable value t → ⊥
item_fault value fault t h a = target_fault a.0 fault t (subst (λ it. IsItemFault it fault) a.1 h) a.2

first_fault : (items : Items) (i : ℕ) (fault : KeyFault) (xs : List TargetSetting) → IsFirstFault items i fault → StandForEach IsTargetTable items xs → ⊥
first_fault no_items i fault xs h s = h
first_fault (item value rest) i fault [] h s = s
first_fault (item value rest) zero fault (x ∷ xs) h s = item_fault value fault x h s.0
first_fault (item value rest) (suc i) fault (x ∷ xs) h s = first_fault rest i fault xs h.1 s.1

one_array : (found : Option Data) (items others : Items) → found ≡ Some (array items) → found ≡ Some (array others) → others ≡ items
one_array found items others e f = cc

pub no_proxy : (document : Members) (error : SettingsError) (s : ProxySettings) → error ≢ Memory → IsFaultOfProxy document error → ¬ AreProxySettings document s
no_proxy document (NotToml line) s some h a = h
no_proxy document (Key fault) s some h a = elim h [
  | inl other ↦ no_other proxy_keys document fault other a.keys
  | inr only ↦ elim only.1 [
    | inl bind ↦ no_bound key.Bind document fault s.bind.items bind a.bind
    | inr bound ↦ no_array key.Target document fault a.targets.0 bound.1 a.targets.1
  ]
]
no_proxy document (Target number fault) s some h a =
    first_fault h.items h.before fault s.targets.items h.first
    (subst (λ items. StandForEach IsTargetTable items s.targets.items) (one_array (get_member (name_of key.Target) document) h.items a.targets.0 h.targets a.targets.1) a.targets.2)
no_proxy document Memory s some h a = some refl

-- ---- of a client

no_origin : (document : Members) (fault : KeyFault) (o : Option (List ℕ × ℕ)) → IsOriginFault document fault → IsOrigin document o → ⊥
no_origin document fault None h a = elim h [
  | inl host ↦ some_there (get_member (name_of key.Host) document) host.0 a.0
  | inr alone ↦ some_there (get_member (name_of key.Port) document) alone.1 a.1
]
no_origin document fault (Some origin) h a = elim h [
  | inl host ↦ elim host.1 [
    | inl port ↦ elim a.1 [ inl there ↦ port.1 origin.1 there | inr out ↦ some_there (get_member (name_of key.Port) document) port.0 out.0 ]
    | inr ported ↦ ported.1.1 origin.0 a.0
  ]
  | inr alone ↦ there_not (get_member (name_of key.Host) document) _ a.0.1 alone.0
]

no_context : (document : Members) (fault : KeyFault) (o : Option (List ℕ)) → IsWrongAt key.Context (λ name. SpelledAt name (SpellsBytes 0 64)) document fault
    → MaySpellAt (name_of key.Context) (SpellsBytes 0 64) document o → ⊥
no_context document fault None h a = some_there (get_member (name_of key.Context) document) h.0 a
no_context document fault (Some context) h a = h.1 context a

client_fault : (document : Members) (fault : KeyFault) (s : ClientSettings) → IsClientFault document fault → AreClientSettings document s → ⊥
client_fault document fault s h a = elim h [
  | inl other ↦ no_other client_keys document fault other a.keys
  | inr only ↦ elim only.1 [
    | inl bind ↦ no_spelled key.Bind IsOpenAddress document fault s.bind bind a.bind
    | inr bound ↦ elim bound.1 [
      | inl peer ↦ no_spelled key.Peer IsAddress document fault s.peer peer a.peer
      | inr known ↦ elim known.1 [
        | inl origin ↦ no_origin document fault s.origin origin a.origin
        | inr named ↦ elim named.1 [
          | inl token ↦ no_spelled key.Token SpellsHex document fault s.token token a.token
          | inr held ↦ elim held.1 [
            | inl secret ↦ no_spelled key.Secret (SpellsBytes 1 64) document fault s.secret secret a.secret
            | inr shared ↦ elim shared.1 [
              | inl salt ↦ elim a.salt [ inl there ↦ salt.1 s.salt there | inr out ↦ some_there (get_member (name_of key.Salt) document) salt.0 out.0 ]
              | inr salted ↦ elim salted.1 [
                | inl context ↦ no_context document fault s.context context a.context
                | inr told ↦ elim a.alg [ inl there ↦ told.1.1 s.alg there | inr out ↦ some_there (get_member (name_of key.Alg) document) told.1.0 out.0 ]
              ]
            ]
          ]
        ]
      ]
    ]
  ]
]

pub no_client : (document : Members) (error : SettingsError) (s : ClientSettings) → error ≢ Memory → IsKeyFault (IsClientFault document) error → ¬ AreClientSettings document s
no_client document (NotToml line) s some h a = h
no_client document (Key fault) s some h a = client_fault document fault s h a
no_client document (Target number fault) s some h a = h
no_client document Memory s some h a = some refl
