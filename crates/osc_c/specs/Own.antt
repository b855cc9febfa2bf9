-- What a device does at its own server, by calls.
use Rattle.std.specs.Prelude.{◌≡◌, ℕ, ◌<◌, ◌^◌, ◌⊎◌, Bool, true, false, not, if◌then◌else◌, List, [], Option, Some, None, IsSome, ⊤}
use Rattle.osc_model.specs.{IsPath, is_revoked, revocation_of}
use Rattle.osc_model.specs.declared.code.Method.{Method}
use Rattle.osc_model.specs.declared.code.Method.TheVariants.{Delete}
use Rattle.osc_model.specs.declared.node.Moment.{Moment}
use Rattle.osc_model.specs.declared.request.Request.{Request}
use Rattle.osc_model.specs.declared.step.ClientResult.{ClientResult}
use Rattle.osc_model.specs.declared.step.ClientResult.TheVariants.{Refused}
use Rattle.osc_authz.specs.{ClientContextState}
use Rattle.osc_client.specs.{Begins, IsFree}
use Rattle.osc_client.specs.State.{State as Own}
use Rattle.osc_ccm.specs.{Sealings, Tags}
use Rattle.osc_turn.specs.Kept.{IsChangeOf}
use Rattle.osc_scope.specs.{Entry}
use Rattle.osc_token.specs.declared.claims.Claims.{Claims}
use Rattle.osc_device.specs.{IsAnsweredWhereReady, IsOpen, IsWhole, MayOpen, MayReturn, method_of, own_request, AskedOfServer, AsksItsServer, Carries, asked_by, AllGoOn, IsOfAnEntry, noted}
use Rattle.osc_device.specs.declared.round.Round.{Round}
use Rattle.osc_device.specs.declared.ruling.Ruling.{Ruling}
use Rattle.osc_device.specs.declared.ruling.Ruling.TheVariants.{Allow, Revoke}
use Rattle.osc_c.specs.Arguments.{IsFormat, IsFormatNumber, IsUnfit}
use Rattle.osc_c.specs.Given.{GivenId, GivenPath, GivenValue, resource_size}
use Rattle.osc_c.specs.Last.{LastStep, entry_in, since_own}
use Rattle.osc_c.specs.Plain.{draw_of}
use Rattle.osc_c.specs.Told.{bare, settled, told_of}
use Rattle.osc_c.specs.declared.calls.device.DeviceNode.{DeviceNode}
use Rattle.osc_c.specs.declared.calls.outcome.Outcome.{Outcome}
use Rattle.osc_c.specs.declared.calls.outcome.Outcome.TheVariants as outcome
use Rattle.osc_c.specs.declared.calls.plain.PlainDraws.{PlainDraws}
use Rattle.osc_c.specs.declared.calls.round.Told.{Told}

-- whether nothing was begun
abbrev pub is_refused_by : Option ClientResult → Bool
is_refused_by (Some (Refused number)) = true
is_refused_by result = false

-- Where nothing was begun the last step stays, and else there is none for others.
abbrev pub last_after : Round → LastStep → LastStep
last_after round last = if is_refused_by round.begun.notes.result then last else since_own round

-- nothing was begun: something is open, there is no context, its numbers are used up, or it would be too long
abbrev pub IsRefusal : Outcome → Type 0
IsRefusal outcome.Busy = ⊤
IsRefusal outcome.NoContext = ⊤
IsRefusal outcome.Exhausted = ⊤
IsRefusal outcome.TooLong = ⊤
IsRefusal other = ⊥

-- It gives a round of this kind, of which the caller is told so; where nothing was begun, nothing changes. Or it takes memory, of which there was
-- none, and nothing changes.
abbrev pub ComesAs : (Told → Told) → DeviceNode → Told → DeviceNode → Type 0 → (Round → Type 0) → Type 0
ComesAs as_told old told new Takes Does =
    ((round : Round) × Does round × (told ≡ as_told (told_of round)) × (new.last ≡ last_after round old.last)
    × (IsRefusal told.outcome → new ≡ old))
    ⊎ ((told ≡ bare outcome.NoMemory) × (new ≡ old) × Takes)

-- the same, where the caller is told of the round as it is
abbrev pub ComesTo : DeviceNode → Told → DeviceNode → Type 0 → (Round → Type 0) → Type 0
ComesTo old told new Takes Does = ComesAs (λ it. it) old told new Takes Does

-- these numbers and bytes are a value for a path: the size is that of the struct
abbrev pub FitsValue : GivenValue → Type 0
FitsValue given = (given.size ≡ resource_size) × (given.ms < 2 ^ 63) × IsFormatNumber given.format × IsPath given.path

-- a path at a moment
abbrev pub FitsPath : GivenPath → Type 0
FitsPath given = (given.ms < 2 ^ 63) × IsPath given.path

-- the path whose resource revokes the tokens of this id, where the device has a revocation path and the id isn't too long for it
abbrev pub revoked_by : DeviceNode → List ℕ → Option (List ℕ)
revoked_by node id = revocation_of node.device.server.desk.rules.revoked id

-- whether the tokens of this id are revoked
abbrev pub are_revoked : DeviceNode → List ℕ → Bool
are_revoked node id = is_revoked node.device.server.desk.rules.revoked node.device.server.tree id

-- whether it is so, as it was ruled
abbrev pub is_so : Ruling → Bool → Bool
is_so Revoke revoked = revoked
is_so Allow revoked = not revoked

-- what is told to be done is so
abbrev pub IsSoWhereDone : Ruling → GivenId → Told → DeviceNode → Type 0
IsSoWhereDone ruling given told new = told.outcome ≡ outcome.Done → is_so ruling (are_revoked new given.id) ≡ true

-- a value, which is put at its path, or appended to what is there, with these draws
pub record Writing : Type 0 where
  pub method : Method
  pub value : GivenValue
  pub draws : PlainDraws

-- the request that says so, with this format
abbrev pub request_of : Writing → Option ℕ → Request
request_of writing format = own_request writing.method writing.value.path format writing.value.payload

-- what the device asks of its server at this moment, with these draws
abbrev pub asked_for : PlainDraws → Moment → Request → AskedOfServer
asked_for draws now request = record { at = now; draw = draw_of draws.own; server_draw = draw_of draws.server; request = request }

-- the arguments don't fit, or there was no memory for them: nothing changes
abbrev pub IsRejected : Type 0 → DeviceNode → Told → DeviceNode → Type 0
IsRejected Fit old told new = IsUnfit Fit told.outcome × (told.code ≡ 0) × (new ≡ old)

-- of its resources that of the path alone has changed which the server's step says, if it made one
abbrev pub ChangesOne : DeviceNode → Round → DeviceNode → Type 0
ChangesOne old round new = IsChangeOf (entry_in round.served) old.device.server.tree new.device.server.tree

-- `is_sealing algorithm` is the relation of the algorithm's cipher, and `tag algorithm` how long its tag is
module _ (is_sealing : Sealings) where
  -- The device posts its token, and what it sends is carried to its server and back; where it may, and no step wants memory, it has a context: a place is
  -- kept for it, so no others keep it out. Each run goes on by these steps.
  abbrev pub Opens : DeviceNode → Moment → PlainDraws → Round → DeviceNode → Type 0
  Opens old now draws round new =
      ((begun : Own) × Begins old.device.own now (draw_of draws.own) round.begun begun
      × Carries is_sealing (record old.device { own = begun }) now (draw_of draws.server) round new.device)
      × ((claims : Claims) (entries : List Entry) → MayOpen is_sealing old.device now (draw_of draws.own) claims entries → IsWhole round
      → IsOpen now entries new.device)
      × ((claims : Claims) (entries : List Entry) → MayReturn is_sealing old.device now (draw_of draws.own) claims entries → IsWhole round
      → IsOpen now entries new.device)
      × AllGoOn old.device (λ number. noted number round) new.device
      × ChangesOne old round new

  abbrev pub OpensBy : DeviceNode → ℕ → PlainDraws → Told → DeviceNode → Type 0
  OpensBy old ms draws told new =
      ((now : Moment) × (now.ms ≡ ms) × ComesTo old told new (old.device.own.waiting ≡ None) (λ round. Opens old now draws round new))
      ⊎ ((told ≡ bare outcome.BadArgument) × ¬ (ms < 2 ^ 63) × (new ≡ old))

  module _ (tag : Tags) where
    -- The device asks its server so; where it may, and no step wants memory, it is answered. Each run goes on by these steps, and a reply that
    -- it learns is that of an entry of the history.
    abbrev pub Asks : DeviceNode → AskedOfServer → Round → DeviceNode → Type 0
    Asks old asked round new =
        AsksItsServer is_sealing tag old.device asked round new.device
        × IsAnsweredWhereReady old.device (asked_by asked) round new.device
        × AllGoOn old.device (λ number. noted number round) new.device
        × IsOfAnEntry old.device round
        × ChangesOne old round new

    -- nothing hinders the request
    abbrev pub IsBegun : DeviceNode → PlainDraws → Request → Type 0
    IsBegun old draws request = (context : ClientContextState) × IsFree is_sealing tag old.device.own request (draw_of draws.own) context

    abbrev pub AsksBy : DeviceNode → Writing → Told → DeviceNode → Type 0
    AsksBy old writing told new =
        ((now : Moment) × (format : Option ℕ) × FitsValue writing.value × (now.ms ≡ writing.value.ms) × IsFormat writing.value.format format
        × ComesTo old told new (IsBegun old writing.draws (request_of writing format)) (λ round. Asks old (asked_for writing.draws now (request_of writing format)) round new))
        ⊎ IsRejected (FitsValue writing.value) old told new

    abbrev pub RemovesBy : DeviceNode → GivenPath → Told → DeviceNode → Type 0
    RemovesBy old given told new =
        ((now : Moment) × FitsPath given × (now.ms ≡ given.ms)
        × ComesTo old told new (IsBegun old given.draws (own_request Delete given.path None []))
        (λ round. Asks old (asked_for given.draws now (own_request Delete given.path None [])) round new))
        ⊎ IsRejected (FitsPath given) old told new

    -- The device rules so of the tokens of this id: it asks for nothing but PUT, which revokes them, or DELETE, which lets them in again, at the path that
    -- is for the id. It is told that this is done where it is so then, and else that it was refused. Where there is no such path, or for a bad moment,
    -- nothing changes. Memory is taken only where the device has a revocation path: to spell the path for the id, which tells whether the id is too
    -- long, and for the step.
    abbrev pub RulesBy : Ruling → DeviceNode → GivenId → Told → DeviceNode → Type 0
    RulesBy ruling old given told new =
        ((now : Moment) × (now.ms ≡ given.ms)
        × ComesAs (settled (is_so ruling (are_revoked new given.id))) old told new (IsSome old.device.server.desk.rules.revoked)
        (λ round. (path : List ℕ) × (revoked_by old given.id ≡ Some path) × Asks old (asked_for given.draws now (own_request (method_of ruling) path None [])) round new))
        ⊎ ((told ≡ bare outcome.BadArgument) × (¬ (given.ms < 2 ^ 63) ⊎ (revoked_by old given.id ≡ None)) × (new ≡ old))
