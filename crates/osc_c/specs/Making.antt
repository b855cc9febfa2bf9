-- Devices that are made of keys, names and scopes.
use Rattle.std.specs.Prelude.{◌≡◌, ℕ, ◌⊎◌, ◌==◌, ◌≤◌, Bool, not, if◌then◌else◌, List, [], ◌∷◌, length, take, drop, codes, Option, Some, None}
use Rattle.std.specs.Str.{IsUtf8}
use Rattle.std.specs.FinMap as map
use Rattle.std.specs.FinSet as set
use Rattle.osc_model.specs.{IsPath, segments_of}
use Rattle.osc_model.specs.Scope.{Scope}
use Rattle.osc_model.specs.Tree.{Tree}
use Rattle.osc_ccm.specs.{Sealings}
use Rattle.osc_scope.specs.{Entry, IsScope, scope_of}
use Rattle.osc_device.specs.{IsBegun, IsGranted, IsNoDevice, own_claims}
use Rattle.osc_device.specs.declared.error.NewError.{NewError}
use Rattle.osc_device.specs.declared.error.NewError.TheVariants.{Token}
use Rattle.osc_device.specs.declared.error.NewError.TheVariants as device
use Rattle.osc_device.specs.declared.own_token.OwnToken.{OwnToken}
use Rattle.osc_device.specs.declared.own_token.ServerParts.{ServerParts}
use Rattle.osc_authz.specs.declared.enrolling.EnrollError.TheVariants as enroll
use Rattle.osc_c.specs.Arguments.{IsUnfit}
use Rattle.osc_c.specs.First.{FitAll, with_all}
use Rattle.osc_c.specs.Given.{GivenDevice, GivenRules, device_settings_size}
use Rattle.osc_c.specs.Last.{nothing}
use Rattle.osc_c.specs.Tokens.{IsNoScopeText, IsScopeOf}
use Rattle.osc_c.specs.declared.calls.device.DeviceNode.{DeviceNode}
use Rattle.osc_c.specs.declared.calls.making.Rules.{Rules}
use Rattle.osc_c.specs.declared.calls.outcome.Outcome.{Outcome}
use Rattle.osc_c.specs.declared.calls.outcome.Outcome.TheVariants.{BadArgument, BadScope, NoMemory, TooLong}
use Rattle.osc_c.specs.declared.calls.plain.PlainResource.{PlainResource}

-- ---- what its server rules

-- a key, where the flag is 1
abbrev pub old_key_of : GivenRules → Option (List ℕ)
old_key_of given = if given.has_old_key == 1 then Some given.old_key else None

-- how many seconds a context counts; 0 is no limit
abbrev pub limit_of : ℕ → Option ℕ
limit_of seconds = if seconds == 0 then None else Some seconds

-- the revocation path of this text; an empty one says none
abbrev pub revoked_of : List ℕ → Option (List ℕ)
revoked_of [] = None
revoked_of (byte ∷ text) = Some (byte ∷ text)

-- whether a token's scope may reach below its paths: it may, where the flag isn't 1
abbrev pub subtrees_of : GivenRules → Bool
subtrees_of given = not (given.no_subtrees == 1)

abbrev pub rules_of : GivenRules → Rules
rules_of given = record {
  old_key = old_key_of given;
  revoked = revoked_of given.revoked;
  seconds = limit_of given.context_seconds;
  subtrees = subtrees_of given;
}

-- an empty text, or that of a path of at most 4 segments: those of a token's id, of at most 64 bytes, are four more, and a path has at most 8
abbrev pub IsRevocationText : List ℕ → Type 0
IsRevocationText text = (text ≡ []) ⊎ (IsPath text × (length (segments_of text) ≤ 4))

-- the flags are 0 or 1, and the text says a revocation path, or none
abbrev pub AreRules : GivenRules → Type 0
AreRules given = (given.has_old_key ≤ 1) × IsRevocationText given.revoked × (given.no_subtrees ≤ 1)

-- ---- what it is made of

-- what a text grants to all: nothing where it is empty
abbrev pub IsOpenScope : List ℕ → Scope → Type 0
IsOpenScope text scope =
    ((text ≡ []) × (scope ≡ set.empty))
    ⊎ ((bytes : List ℕ) × (entries : List Entry) × IsScopeOf text bytes × IsScope bytes entries × (scope ≡ scope_of entries))

-- a server with these resources
abbrev pub AreParts : GivenDevice → Tree → Rules → ServerParts → Type 0
AreParts given tree rules parts =
    (parts.tree ≡ tree) × IsOpenScope given.free parts.open_scope × (parts.key ≡ given.key) × (parts.old_key ≡ rules.old_key)
    × (parts.audience ≡ given.audience) × (parts.revoked ≡ rules.revoked) × (parts.context_seconds ≡ rules.seconds)
    × (parts.subtrees ≡ rules.subtrees)

-- the device's own token: its secret are the first 16 bytes of the draw, and its IV the 13 after them
abbrev pub IsOwnToken : List ℕ → List ℕ → OwnToken → Type 0
IsOwnToken scope draw own =
    (own.id ≡ codes "device") × (own.secret ≡ take 16 draw) × IsScopeOf scope own.scope × (own.iv ≡ take 13 (drop 16 draw))

-- ---- why there is none

-- a text says no scope, or what it says isn't one
abbrev pub SaysNoScope : List ℕ → Type 0
SaysNoScope text = IsNoScopeText text ⊎ ((bytes : List ℕ) × IsScopeOf text bytes × ((entries : List Entry) → ¬ (IsScope bytes entries)))

-- it grants nothing to all, and isn't empty
abbrev pub IsNoOpenScope : List ℕ → Type 0
IsNoOpenScope text = ¬ (text ≡ []) × SaysNoScope text

-- why a device isn't made of parts and a token
abbrev pub unmade_as : NewError → Outcome
unmade_as (Token enroll.Memory) = NoMemory
unmade_as (Token enroll.BadScope) = BadScope
unmade_as (Token enroll.TooLong) = TooLong
unmade_as device.TooLong = TooLong
unmade_as device.Subtrees = BadScope
unmade_as other = BadArgument

-- these numbers and bytes make a device, whatever the texts of scopes say: the size is the struct's, the audience is UTF-8, and the rules are some
abbrev pub FitsDevice : GivenDevice → Type 0
FitsDevice given = (given.size ≡ device_settings_size) × IsUtf8 given.audience × AreRules given.rules

-- a text of a scope says none
abbrev pub HasNoScope : GivenDevice → Type 0
HasNoScope given = IsNoOpenScope given.free ⊎ IsNoScopeText given.own

-- Why there is none. What can be told of the settings without memory is told first; it takes memory to tell that a first resource doesn't fit, that a text
-- says no scope, or why parts make no device.
abbrev pub IsNoNewDevice : GivenDevice → List PlainResource → List ℕ → Outcome → Type 0
IsNoNewDevice given first draw outcome =
    IsUnfit (FitsDevice given) outcome ⊎ ((outcome ≡ BadArgument) × FitsDevice given × ¬ FitAll map.empty first)
    ⊎ ((outcome ≡ BadScope) × FitsDevice given × HasNoScope given)
    ⊎ ((parts : ServerParts) × (token : OwnToken) × (error : NewError) × FitsDevice given × AreParts given (with_all map.empty first) (rules_of given.rules) parts
    × IsOwnToken given.own draw token × IsNoDevice parts token error × (outcome ≡ unmade_as error))

-- `is_sealing algorithm` is the relation of the algorithm's cipher
module _ (is_sealing : Sealings) where
  -- It begins with these parts and this token, which counts at its server, and with these resources, and has made no step.
  pub record IsNewDevice (given : GivenDevice) (first : List PlainResource) (draw : List ℕ) (node : DeviceNode) : Type 0 where
    pub parts : ServerParts
    pub token : OwnToken
    pub fits : FitsDevice given
    pub fit_all : FitAll map.empty first
    pub are_parts : AreParts given (with_all map.empty first) (rules_of given.rules) parts
    pub is_token : IsOwnToken given.own draw token
    pub begun : IsBegun is_sealing parts token node.device
    pub granted : (entries : List Entry) × IsScope token.scope entries × IsGranted is_sealing node.device (own_claims parts token) entries
    pub last : node.last ≡ nothing
