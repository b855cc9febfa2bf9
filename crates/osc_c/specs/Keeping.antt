-- A device whose holder keeps what steps change: nothing of a step is handed out before that.
use Rattle.std.specs.Prelude.{◌≡◌, ℕ, ◌≤◌, ◌⊎◌, ◌==◌, Bool, true, false}
use Rattle.osc_c.specs.Ends.{Stays}
use Rattle.osc_c.specs.Last.{HandsOut, LastStep, Out, waits}
use Rattle.osc_c.specs.Told.{bare}
use Rattle.osc_c.specs.declared.calls.device.DeviceNode.{DeviceNode}
use Rattle.osc_c.specs.declared.calls.keeping.Keeping.{Keeping}
use Rattle.osc_c.specs.declared.calls.keeping.Keeping.TheVariants.{On, Failed}
use Rattle.osc_c.specs.declared.calls.keeping.KeptNode.{KeptNode}
use Rattle.osc_c.specs.declared.calls.outcome.Outcome.{Outcome}
use Rattle.osc_c.specs.declared.calls.outcome.Outcome.TheVariants.{BadArgument, Done, Nothing, NotKept}
use Rattle.osc_c.specs.declared.calls.round.Told.{Told}

-- the last step changed something that isn't kept yet, and the holder keeps what steps change
abbrev pub waits_for : Keeping → LastStep → Bool
waits_for On last = waits last
waits_for other last = false

-- nothing is handed out, and no step is made: what the last one changed isn't kept yet, or couldn't be
abbrev pub is_withheld_by : Keeping → LastStep → Bool
is_withheld_by Failed last = true
is_withheld_by other last = waits_for other last

abbrev pub is_withheld : KeptNode → Bool
is_withheld kept = is_withheld_by kept.keeping kept.node.last

-- ---- what is withheld

abbrev pub Unless : Bool → Type 0 → Type 0 → Type 0
Unless true Withheld Does = Withheld
Unless false Withheld Does = Does

-- Where something is withheld, no step is made, and all stays. Else the device goes on so, and its holder goes on to keep what steps change, or not.
abbrev pub StepsBy : KeptNode → Outcome → KeptNode → (DeviceNode → Outcome → DeviceNode → Type 0) → Type 0
StepsBy old outcome new Does = Unless (is_withheld old) (Stays NotKept old outcome new) (Does old.node outcome new.node × (new.keeping ≡ old.keeping))

-- the same of a call that tells a code, too
abbrev pub StepsAs : KeptNode → Told → KeptNode → (DeviceNode → Told → DeviceNode → Type 0) → Type 0
StepsAs old told new Does = Unless (is_withheld old) ((told ≡ bare NotKept) × (new ≡ old)) (Does old.node told new.node × (new.keeping ≡ old.keeping))

-- The next datagram of the last step is handed out, unless something is withheld: then all stays.
abbrev pub HandsOutKept : KeptNode → Out → Outcome → KeptNode → Out → Type 0
HandsOutKept old out outcome new after =
    Unless (is_withheld old) (Stays NotKept old outcome new × (after ≡ out))
    (HandsOut old.node.last out outcome new.node.last after × (new.node.device ≡ old.node.device) × (new.keeping ≡ old.keeping))

-- ---- what the holder says

-- From now on the holder keeps what steps change, the last one's too; where something couldn't be kept, all stays.
abbrev pub StartsKeeping : Keeping → KeptNode → Outcome → KeptNode → Type 0
StartsKeeping Failed old outcome new = Stays NotKept old outcome new
StartsKeeping other old outcome new = (outcome ≡ Done) × (new ≡ record old { keeping = On })

-- it is kept now; or it couldn't be, so that nothing of it is handed out, and no other step is made
abbrev pub settled : Bool → KeptNode → KeptNode
settled true old = record old { node = record old.node { last = record old.node.last { kept = true } } }
settled false old = record old { keeping = Failed }

-- nothing waits to be kept, and all stays
abbrev pub HasNothingToSettle : Keeping → KeptNode → Outcome → KeptNode → Type 0
HasNothingToSettle Failed old outcome new = Stays NotKept old outcome new
HasNothingToSettle other old outcome new = Stays Nothing old outcome new

-- Of what waits to be kept the holder says whether it is.
abbrev pub Settles : KeptNode → Bool → Outcome → KeptNode → Type 0
Settles old is_kept outcome new =
    Unless (waits_for old.keeping old.node.last) ((outcome ≡ Done) × (new ≡ settled is_kept old)) (HasNothingToSettle old.keeping old outcome new)

-- it is said by 1 or 0
abbrev pub SettlesBy : KeptNode → ℕ → Outcome → KeptNode → Type 0
SettlesBy old said outcome new =
    ((said ≤ 1) × Settles old (said == 1) outcome new) ⊎ (¬ (said ≤ 1) × Stays BadArgument old outcome new)
