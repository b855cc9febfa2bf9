use Rattle.std.proofs.Common.{◌≡◌, false, length, nat_lt}
use Rattle.std.proofs.lemmas.Bool.{le-ltb}
use Rattle.osc_store.proofs.belonging.version_of.Goals as goal

pub returns-in-Some-clause-version : goal.returns-in-Some-clause-version
returns-in-Some-clause-version g c clean =
    let old = g.D.Disk.seen c.args.db.now in
    let found = rw c.in-Some.is at (c.in_ok-version.ensures.some clean) in
    let few : nat_lt (length old) 64 ≡ false = le-ltb (length old) 64 found.0 in
    rw few found.1
