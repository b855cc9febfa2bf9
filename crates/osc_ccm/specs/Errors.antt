-- The numbers of the refusals.
use Rattle.std.specs.Prelude.{ℕ}
use Rattle.osc_model.specs.Refusals as refusal
use Rattle.osc_ccm.specs.declared.error.SealError.{SealError}
use Rattle.osc_ccm.specs.declared.error.OpenError.{OpenError}
use Rattle.osc_ccm.specs.declared.error.SealError.TheVariants as s
use Rattle.osc_ccm.specs.declared.error.OpenError.TheVariants as o

abbrev pub seal_number : SealError → ℕ
seal_number s.TooLong = refusal.too_long
seal_number s.OutTooSmall = refusal.out_too_small

abbrev pub open_number : OpenError → ℕ
open_number o.TooLong = refusal.too_long
open_number o.OutTooSmall = refusal.out_too_small
open_number o.NotGenuine = refusal.not_genuine
