-- The numbers of the refusals.
use Rattle.std.specs.Prelude.{ℕ}
use Rattle.osc_model.specs.Refusals as refusal
use Rattle.osc_cose.specs.declared.error.ParseEncrypt0Error.{ParseEncrypt0Error}
use Rattle.osc_cose.specs.declared.error.ParseEncrypt0Error.TheVariants as p
use Rattle.osc_cose.specs.declared.error.SealEncrypt0Error.{SealEncrypt0Error}
use Rattle.osc_cose.specs.declared.error.SealEncrypt0Error.TheVariants as s
use Rattle.osc_cose.specs.declared.error.OpenEncrypt0Error.{OpenEncrypt0Error}
use Rattle.osc_cose.specs.declared.error.OpenEncrypt0Error.TheVariants as o

abbrev pub parse_number : ParseEncrypt0Error → ℕ
parse_number p.Shape = refusal.shape
parse_number p.Memory = refusal.memory

abbrev pub seal_number : SealEncrypt0Error → ℕ
seal_number s.TooLong = refusal.too_long
seal_number s.Memory = refusal.memory

abbrev pub open_number : OpenEncrypt0Error → ℕ
open_number o.Algorithm = refusal.algorithm
open_number o.TooLong = refusal.too_long
open_number o.NotGenuine = refusal.not_genuine
open_number o.Memory = refusal.memory
