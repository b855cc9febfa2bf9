use Rattle.std.proofs.Common.{ℕ, ◌≤◌, ◌^◌, arith}
use Rattle.std.proofs.Math.Nat.{pow-le-pow_right}
use Rattle.osc_protect.proofs.value.number_in.Goals as goal

below_four : (i : ℕ) → i ≤ 4 → 256 ^ i ≤ 256 ^ 4
below_four i le = pow-le-pow_right (omega arith) le

pub overflow_mul-number : goal.overflow_mul-number
overflow_mul-number c = let most = below_four c.loop-byte.byte-index (omega arith) in omega arith
