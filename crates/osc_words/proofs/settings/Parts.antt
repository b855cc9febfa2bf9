-- What is at fault in a part is at fault in the whole.
use Rattle.std.proofs.Common.{◌≡◌, ◌≢◌, ◌⊎◌, ℕ, Bool, true, Option, Some, None, Result, Ok, Err, List, refl, sym, subst, inl, inr, IfErr, MatchResult}
use Rattle.std.specs.Option.{IsSomeAnd, is_some}
use Rattle.toml.specs.Data.{Members, get_member}
use Rattle.toml.specs.Parse.{parse_document}
use Rattle.osc_model.specs.declared.node.Peer.{Peer}
use Rattle.osc_words.specs.Settings.{IsBooleanAt, IsLeftOut, IsPortAt, IsSecondsAt, MayBeSecondsAt, MaySpellAt, SpelledAt, StandsFor, other_key, IsFaultAt, IsFaultOfProxy, IsKeyFault, IsOriginFault, IsProxyFault, IsWrongAt, Lacks, name_of, IsOriginPort, IsSalt, IsSubtrees, proxy_keys, AreAddressesAt, IsHost, SpellsBytes}
use Rattle.osc_words.specs.Settings.Inner.Reading.{AreTargetsRefused, IsNoDocument}
use Rattle.osc_words.specs.declared.settings.error.KeyFault.{KeyFault}
use Rattle.osc_words.specs.declared.settings.error.SettingsError.{SettingsError}
use Rattle.osc_words.specs.declared.settings.error.SettingsError.TheVariants.{NotToml, Key, Target, Memory}
use Rattle.osc_words.specs.declared.settings.key.SettingsKey.{SettingsKey}
use Rattle.osc_words.specs.declared.settings.key.SettingsKey.TheVariants as key
use Rattle.osc_words.proofs.settings.Keys.{some_there}

pub fault_within : (F G : KeyFault → Type 0) (error : SettingsError) → ((fault : KeyFault) → F fault → G fault) → IsKeyFault F error → IsKeyFault G error
fault_within F G (NotToml line) so h = absurd h
fault_within F G (Key fault) so h = so fault h
fault_within F G (Target number fault) so h = absurd h
fault_within F G Memory so h = tt

-- ---- what may be left out

-- what is there can't be missing
wrong_there : {X : Type 0} (key : SettingsKey) (Stands : List ℕ → Members → X → Type 0) (document : Members) (fault : KeyFault)
    → is_some (get_member (name_of key) document) ≡ true → IsFaultAt key Stands document fault → IsWrongAt key Stands document fault
wrong_there key Stands document fault there h = elim h [ inl wrong ↦ wrong | inr missing ↦ absurd (some_there (get_member (name_of key) document) there missing.0) ]

pub wrong_at : {X : Type 0} (key : SettingsKey) (Stands : List ℕ → Members → X → Type 0) (document : Members) (error : SettingsError)
    → is_some (get_member (name_of key) document) ≡ true → IsKeyFault (IsFaultAt key Stands document) error → IsKeyFault (IsWrongAt key Stands document) error
wrong_at key Stands document error there = fault_within (IsFaultAt key Stands document) (IsWrongAt key Stands document) error (λ fault. wrong_there key Stands document fault there)

pub or_left_out : {X : Type 0} (key : SettingsKey) (Stands : List ℕ → Members → X → Type 0) (document : Members) (Q : X → Type 0) (r : Result X SettingsError)
    → is_some (get_member (name_of key) document) ≡ true → MatchResult r (Stands (name_of key) document) (IsKeyFault (IsFaultAt key Stands document))
    → MatchResult r (λ x. Stands (name_of key) document x ⊎ Q x) (IsKeyFault (IsWrongAt key Stands document))
or_left_out key Stands document Q (Ok x) there h = inl h
or_left_out key Stands document Q (Err error) there h = wrong_at key Stands document error there h

pub salt_found : (document : Members) (salt : List ℕ) → IsSalt document salt
    → ((x : List ℕ) × SpelledAt (name_of key.Salt) (SpellsBytes 0 64) document x) ⊎ IsLeftOut (name_of key.Salt) document
salt_found document salt h = elim h [ inl there ↦ inl (salt, there) | inr out ↦ inr out.0 ]

pub context_found : (document : Members) (o : Option (List ℕ)) → MaySpellAt (name_of key.Context) (SpellsBytes 0 64) document o
    → ((x : List ℕ) × SpelledAt (name_of key.Context) (SpellsBytes 0 64) document x) ⊎ IsLeftOut (name_of key.Context) document
context_found document None h = inr h
context_found document (Some context) h = inl (context, h)

pub may_found : {X : Type 0} (key : SettingsKey) (Spells : List ℕ → X → Type 0) (document : Members) (o : Option X) → MaySpellAt (name_of key) Spells document o
    → ((x : X) × SpelledAt (name_of key) Spells document x) ⊎ IsLeftOut (name_of key) document
may_found key Spells document None h = inr h
may_found key Spells document (Some x) h = inl (x, h)

pub seconds_found : (key : SettingsKey) (document : Members) (o : Option ℕ) → MayBeSecondsAt (name_of key) document o
    → ((seconds : ℕ) × IsSecondsAt (name_of key) document seconds) ⊎ IsLeftOut (name_of key) document
seconds_found key document None h = inr h
seconds_found key document (Some seconds) h = inl (seconds, h)

pub subtrees_found : (document : Members) (may : Bool) → IsSubtrees document may
    → ((is : Bool) × IsBooleanAt (name_of key.Subtrees) document is) ⊎ IsLeftOut (name_of key.Subtrees) document
subtrees_found document may h = elim h [ inl there ↦ inl (may, there) | inr out ↦ inr out.0 ]

-- ---- an origin

pub port_refused : (document : Members) (error : SettingsError)
    → is_some (get_member (name_of key.Host) document) ≡ true → IsKeyFault (IsWrongAt key.Port IsPortAt document) error → IsKeyFault (IsOriginFault document) error
port_refused document error there = fault_within (IsWrongAt key.Port IsPortAt document) (IsOriginFault document) error (λ fault h. inl (there, inl h))

pub host_refused : (document : Members) (error : SettingsError) (port : ℕ)
    → is_some (get_member (name_of key.Host) document) ≡ true → IsOriginPort document port
    → IsKeyFault (IsFaultAt key.Host (λ name. SpelledAt name IsHost) document) error → IsKeyFault (IsOriginFault document) error
host_refused document error port there right =
    fault_within (IsFaultAt key.Host (λ name. SpelledAt name IsHost) document) (IsOriginFault document) error
    (λ fault h. inl (there, inr (elim right [ inl at ↦ inl (port, at) | inr out ↦ inr out.0 ], wrong_there key.Host (λ name. SpelledAt name IsHost) document fault there h)))

-- ---- of a proxy

pub proxy_refused : (F : KeyFault → Type 0) (document : Members) (error : SettingsError) → ((fault : KeyFault) → F fault → IsProxyFault document fault)
    → IsKeyFault F error → IsFaultOfProxy document error
proxy_refused F document (NotToml line) so h = absurd h
proxy_refused F document (Key fault) so h = so fault h
proxy_refused F document (Target number fault) so h = absurd h
proxy_refused F document Memory so h = tt

pub targets_refused : (document : Members) (peers : List Peer) (error : SettingsError) → other_key proxy_keys document ≡ None → AreAddressesAt (name_of key.Bind) document peers
    → AreTargetsRefused document error → IsFaultOfProxy document error
targets_refused document peers (NotToml line) only bind h = absurd h
targets_refused document peers (Key fault) only bind h = inr (only, inr ((peers, bind), h))
targets_refused document peers (Target number fault) only bind h = record {
  keys = only;
  peers = peers;
  bind = bind;
  items = h.0;
  targets = h.1;
  before = h.2.0;
  count = h.2.1;
  first = h.2.2;
}
targets_refused document peers Memory only bind h = tt

-- ---- of a text

pub no_document : (Is : Members → SettingsError → Type 0) (text : List ℕ) (error : SettingsError) → IsNoDocument text error → Lacks Is text error
no_document Is text (NotToml line) h = h
no_document Is text (Key fault) h = absurd h
no_document Is text (Target number fault) h = absurd h
no_document Is text Memory h = tt

pub lacks : {S : Type 0} (Are : Members → S → Type 0) (Is : Members → SettingsError → Type 0) (text : List ℕ) (document : Members) (r : Result S SettingsError)
    → ((line : ℕ) → ¬ Is document (NotToml line)) → parse_document text ≡ Some document → MatchResult r (Are document) (Is document) → IfErr r (Lacks Is text)
lacks Are Is text document (Ok s) never e h = tt
lacks Are Is text document (Err (NotToml line)) never e h = absurd (never line h)
lacks Are Is text document (Err (Key fault)) never e h = subst (λ o. IsSomeAnd o (λ document. Is document (Key fault))) (sym e) h
lacks Are Is text document (Err (Target number fault)) never e h = subst (λ o. IsSomeAnd o (λ document. Is document (Target number fault))) (sym e) h
lacks Are Is text document (Err Memory) never e h = tt

-- no settings are at fault
pub bad : {S : Type 0} (Are : Members → S → Type 0) (Is : Members → SettingsError → Type 0) (text : List ℕ) (error : SettingsError)
    → ((document : Members) (error : SettingsError) (s : S) → error ≢ Memory → Is document error → ¬ Are document s) → Lacks Is text error → error ≢ Memory → (s : S) → ¬ StandsFor Are text s
bad Are Is text (NotToml line) never h some s = subst (λ o. ¬ IsSomeAnd o (λ document. Are document s)) (sym h.0) (λ none. none)
bad Are Is text (Key fault) never h some s = by (parse_document text) h
  where
    by : (o : Option Members) → IsSomeAnd o (λ document. Is document (Key fault)) → ¬ IsSomeAnd o (λ document. Are document s)
    by (Some document) k a = never document (Key fault) s some k a
    by None k a = k
bad Are Is text (Target number fault) never h some s = by (parse_document text) h
  where
    by : (o : Option Members) → IsSomeAnd o (λ document. Is document (Target number fault)) → ¬ IsSomeAnd o (λ document. Are document s)
    by (Some document) k a = never document (Target number fault) s some k a
    by None k a = k
bad Are Is text Memory never h some s = absurd (some refl)

pub all_bad : {S : Type 0} (Are : Members → S → Type 0) (Is : Members → SettingsError → Type 0) (text : List ℕ) (r : Result S SettingsError)
    → ((document : Members) (error : SettingsError) (s : S) → error ≢ Memory → Is document error → ¬ Are document s)
    → IfErr r (Lacks Is text) → IfErr r (λ error. error ≢ Memory → (s : S) → ¬ StandsFor Are text s)
all_bad Are Is text (Ok s) never h = tt
all_bad Are Is text (Err error) never h = bad Are Is text error never h
