use Rattle.std.proofs.Common.{refl}
use Rattle.sqlite_wal.specs.Format.{be32}
use Rattle.osc_store.proofs.damage.sum_at_end.Goals as goal

pub returns : goal.returns
unfolding be32
returns c = refl
