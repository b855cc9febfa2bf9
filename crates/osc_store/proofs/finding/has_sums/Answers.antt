use Rattle.std.proofs.Common.{subst, ◌∙◌, refl}
use Rattle.sqlite_wal.specs.Recovery as raw
use Rattle.sqlite_pool.proofs.ProbeLemmas.{reserved_word}
use Rattle.sqlite_pool.proofs.ResealLemmas.{adopts_of}
use Rattle.osc_store.specs.{image_of}
use Rattle.osc_store.proofs.FindLemmas.{large_of, log_cause, sums_by_word}
use Rattle.osc_store.proofs.finding.has_sums.Goals as goal

pub returns-in-Err-clause-cause : goal.returns-in-Err-clause-cause
returns-in-Err-clause-cause g c clean =
    rw c.of_probe.ensures (log_cause _ _ _ (image_of g.D.Disk c.args.files.now) _ c.in-Err.error (c.in-Err.ensures.cause.0 clean)
    (λ w. let found = w.1.found.found in (found.frames, rw (← w.2) found.replays)))

pub returns-then-head-ne83-clause-cause : goal.returns-then-head-ne83-clause-cause
returns-then-head-ne83-clause-cause g c clean = λ w.
    let n = w.0 in
    let held = w.1 in
    let whole = adopts_of n _ held.pages held.found in
    let page = reserved_word n _ _ whole (large_of n held.sized) held.sound in
    c.if-head-ne83.true ((c.in-Ok.ensures.value clean whole.stored page.0 (subst (λ s. raw.Recovers s (image_of g.D.Disk c.args.files.now) whole.stored) w.2 whole.found) page.1 (page.2 ∙ w.2)).0 ∙ page.4)

pub returns-clause-ok : goal.returns-clause-ok
returns-clause-ok g c clean n held is =
    let whole = adopts_of n _ held.pages held.found in
    let page = reserved_word n _ _ whole (large_of n held.sized) held.sound in
    let word = (c.in-Ok.ensures.value clean whole.stored page.0 (subst (λ s. raw.Recovers s (image_of g.D.Disk c.args.files.now) whole.stored) is whole.found) page.1 (page.2 ∙ is)).1 ∙ page.3 in
    sums_by_word _ n _ _ held is word _ refl
