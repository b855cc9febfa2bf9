use Rattle.std.proofs.Common.{length}
use Rattle.sqlite_wal.specs.PageSize.{bytes_of}
use Rattle.osc_store.proofs.DamageLemmas.{whole_are}
use Rattle.osc_store.proofs.damage.whole_frames.Goals as goal

pub returns-clause-ok : goal.returns-clause-ok
returns-clause-ok g c clean i =
    rw (c.saturating_sub.ensures, c.bytes.ensures.value, c.in_ok-len.ensures.len clean) (whole_are (bytes_of c.args.size) (length (g.D.Disk.seen c.args.log.now)) i)
