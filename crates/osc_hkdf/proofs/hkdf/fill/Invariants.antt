use Rattle.std.proofs.Common.{◌≡◌, ℕ, ◌*◌, List, [], length, take}
use Rattle.osc_hkdf.specs.{output_blocks}
use Rattle.osc_hkdf.specs.Inner.Mac.{Holds}
use Rattle.osc_hkdf.proofs.hkdf.fill.Given as goal

abbrev pub invariant-loop-i : goal.invariant-loop-i
invariant-loop-i l = record {
  kept : length l.out ≡ length l.initial.out;
  blocks : (prk : List ℕ) → Holds l.start prk [] → take (32 * l.i) l.out ≡ take (length l.out) (output_blocks prk l.info l.i);
}
