use Rattle.std.proofs.Common.{arith, sym, subst}
use Rattle.osc_store.specs.{FindsTree, IsUnmade, IsOver}
use Rattle.osc_store.proofs.FindLemmas.{fails_wider, more_faults, surely}
use Rattle.osc_store.proofs.FileLemmas.{clean_there, faults_same, image_same, leaves_here}
use Rattle.osc_store.proofs.starting.make.Goals as goal

pub returns-in-Ok-create-clause-gives : goal.returns-in-Ok-create-clause-gives
returns-in-Ok-create-clause-gives g c clean =
    let e = c.in-Ok-create.ensures in
    let fresh = c.in-Ok.fresh in
    let same = c.in-Ok.ensures.files in
    let seen = image_same fresh c.args.files same in
    record {
      honest = clean_there fresh c.args.files same (e.honest clean);
      over = subst (λ i. IsOver i c.in-Ok-create.store) seen (e.over clean);
      counts = omega (arith, faults_same fresh c.args.files same, e.counts clean);
      goes_on = λ tree found leaves. e.goes_on clean tree (subst (λ i. FindsTree i tree) (sym seen) found) (leaves_here fresh c.args.files same tree leaves);
    }

pub returns-in-Ok-create-clause-started : goal.returns-in-Ok-create-clause-started
returns-in-Ok-create-clause-started g c clean =
    let e = c.in-Ok-create.ensures in
    let seen = image_same c.in-Ok.fresh c.args.files c.in-Ok.ensures.files in
    (subst IsUnmade seen (e.started clean).0, (e.started clean).1)

pub returns-in-Err-create-clause-spares : goal.returns-in-Err-create-clause-spares
returns-in-Err-create-clause-spares g c clean =
    let e = c.in-Err-create.ensures in
    let fresh = c.in-Ok.fresh in
    let same = c.in-Ok.ensures.files in
    let seen = image_same fresh c.args.files same in
    let count = faults_same fresh c.args.files same in
    record {
      honest = clean_there fresh c.args.files same (e.falls clean);
      counts = omega (arith, count, e.more clean);
      cause = fails_wider _ _ _ _ _ _ _ _ c.in-Err-create.error (more_faults _ _ _ _ (omega (arith, count)) (omega arith)) (λ l. l) (λ unmade. surely (subst IsUnmade (sym seen) unmade)) (λ o. o) (e.cause clean);
      goes_on = λ unmade tree found leaves. e.unharmed clean (subst IsUnmade (sym seen) unmade) tree (subst (λ i. FindsTree i tree) (sym seen) found) (leaves_here fresh c.args.files same tree leaves);
    }
