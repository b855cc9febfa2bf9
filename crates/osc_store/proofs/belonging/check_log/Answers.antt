use Rattle.std.proofs.Common.{subst}
use Rattle.std.proofs.lemmas.Bool.{iff_false}
use Rattle.osc_store.specs.{GivesVersion, IsLogged, SaysOther}
use Rattle.osc_store.proofs.LogLemmas.{gives_once}
use Rattle.osc_store.proofs.belonging.check_log.Goals as goal

pub returns-in-Ok-None-clause-ok : goal.returns-in-Ok-None-clause-ok
returns-in-Ok-None-clause-ok g c clean logged given is other = c.in-Ok-None.ensures.none clean c.in-Ok-None.field-0-is logged given

pub returns-else-is_of_another-clause-ok : goal.returns-else-is_of_another-clause-ok
returns-else-is_of_another-clause-ok g c clean logged given is other =
    let found : GivesVersion (g.D.Disk.seen c.args.files.now.log) c.in-Ok-Some.logged = rw c.in-Ok-Some.field-0-is at (c.in-Ok-Some.ensures.some clean) in
    let same = gives_once (g.D.Disk.seen c.args.files.now.log) logged c.in-Ok-Some.logged given found in
    iff_false c.is_of_another.ensures c.if-is_of_another.false (subst IsLogged same is, subst (SaysOther c.args.version) same other)
