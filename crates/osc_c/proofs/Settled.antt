-- What is told of a ruling: where it is told to be done it is so, and where nothing was begun nothing changed.
use Rattle.std.proofs.Common.{◌≡◌, Bool, true, false, refl}
use Rattle.osc_c.specs.{IsRefusal, settled}
use Rattle.osc_c.specs.Told.{refused_where_done}
use Rattle.osc_c.specs.declared.calls.outcome.Outcome.{Outcome}
use Rattle.osc_c.specs.declared.calls.outcome.Outcome.TheVariants as outcome
use Rattle.osc_c.specs.declared.calls.round.Told.{Told}

never_done : (which : Outcome) → refused_where_done which ≡ outcome.Done → ⊥
never_done outcome.Done is = let wrong : outcome.Refused ≡ outcome.Done = is in cc
never_done outcome.TooShort is = let wrong : outcome.TooShort ≡ outcome.Done = is in cc
never_done outcome.NoMemory is = let wrong : outcome.NoMemory ≡ outcome.Done = is in cc
never_done outcome.TooLong is = let wrong : outcome.TooLong ≡ outcome.Done = is in cc
never_done outcome.Busy is = let wrong : outcome.Busy ≡ outcome.Done = is in cc
never_done outcome.Exhausted is = let wrong : outcome.Exhausted ≡ outcome.Done = is in cc
never_done outcome.NoContext is = let wrong : outcome.NoContext ≡ outcome.Done = is in cc
never_done outcome.BadScope is = let wrong : outcome.BadScope ≡ outcome.Done = is in cc
never_done outcome.Nothing is = let wrong : outcome.Nothing ≡ outcome.Done = is in cc
never_done outcome.BadArgument is = let wrong : outcome.BadArgument ≡ outcome.Done = is in cc
never_done outcome.Lost is = let wrong : outcome.Lost ≡ outcome.Done = is in cc
never_done outcome.Unverified is = let wrong : outcome.Unverified ≡ outcome.Done = is in cc
never_done outcome.NotNow is = let wrong : outcome.NotNow ≡ outcome.Done = is in cc
never_done outcome.Refused is = let wrong : outcome.Refused ≡ outcome.Done = is in cc
never_done outcome.NotKept is = let wrong : outcome.NotKept ≡ outcome.Done = is in cc

pub done_is_so : (is_so : Bool) (told : Told) → (settled is_so told).outcome ≡ outcome.Done → is_so ≡ true
done_is_so true told done = refl
done_is_so false told done = absurd (never_done told.outcome done)

same_refusal : (which : Outcome) → IsRefusal (refused_where_done which) → IsRefusal which
same_refusal outcome.Done is = is
same_refusal outcome.TooShort is = is
same_refusal outcome.NoMemory is = is
same_refusal outcome.TooLong is = is
same_refusal outcome.Busy is = is
same_refusal outcome.Exhausted is = is
same_refusal outcome.NoContext is = is
same_refusal outcome.BadScope is = is
same_refusal outcome.Nothing is = is
same_refusal outcome.BadArgument is = is
same_refusal outcome.Lost is = is
same_refusal outcome.Unverified is = is
same_refusal outcome.NotNow is = is
same_refusal outcome.Refused is = is
same_refusal outcome.NotKept is = is

pub refusal_is_told : (is_so : Bool) (told : Told) → IsRefusal (settled is_so told).outcome → IsRefusal told.outcome
refusal_is_told true told is = is
refusal_is_told false told is = same_refusal told.outcome is
