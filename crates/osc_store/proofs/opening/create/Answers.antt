use Rattle.std.proofs.Common.{◌∙◌, ◌<◌, length, arith, ap, inr, sym, subst}
use Rattle.std.proofs.Math.Logic.{∥∥₁_map}
use Rattle.sqlite_pool.specs.Stored.{is_summed}
use Rattle.sqlite_trees.proofs.Doubt.{no_doubt}
use Rattle.sqlite_store.specs.Build.{CanBuild}
use Rattle.sqlite_store.specs.FileStore.{state}
use Rattle.osc_store.proofs.StartLemmas.{can_build, create_goes_on, from_file, has_table, lists_shown, started_of, unmade_of}
use Rattle.osc_store.proofs.FindLemmas.{surely_some}
use Rattle.osc_store.proofs.opening.create.Goals as goal

pub returns-in-Ok-clause-over : goal.returns-in-Ok-clause-over
returns-in-Ok-clause-over g c clean =
    let e = c.in-Ok.ensures in
    let it = c.in-Ok.store in
    let unmade = ∥∥₁_map (e.started clean) (unmade_of c.args.files c.requires.size) in
    record {
      ready = record { is_open = e.ready.is_open (no_doubt _ clean); sound = e.ready.sound (no_doubt _ clean); table = has_table _ (e.schema ∙ c.requires.schema); numbered = e.numbered };
      settled = e.ready.clean;
      lists = lists_shown it clean (e.schema ∙ c.requires.schema) e.ready.unaltered;
      shows = inr (unmade, e.empty clean 0 (omega arith));
      sums = λ _. ap is_summed ((e.kept clean).size ∙ c.requires.size);
    }

pub returns-in-Ok-clause-goes_on : goal.returns-in-Ok-clause-goes_on
returns-in-Ok-clause-goes_on g c clean =
    let e = c.in-Ok.ensures in
    create_goes_on c.args.files (state c.in-Ok.store) c.requires.schema c.requires.size (e.started clean) (e.kept clean)

pub returns-in-Err-clause-cause : goal.returns-in-Err-clause-cause
returns-in-Err-clause-cause g c clean =
    rw c.of_open.ensures.value (from_file _ _ _ _ _ c.in-Err.error
    (λ unmade. surely_some unmade (λ way. record {
      few = subst (λ s. length s < 65536) (sym c.requires.schema) (omega arith);
      schema = subst CanBuild (sym c.requires.schema) can_build;
      files = started_of c.args.files c.requires.size way;
    })) (c.in-Err.ensures.cause clean))

pub returns-in-Err-clause-unharmed : goal.returns-in-Err-clause-unharmed
returns-in-Err-clause-unharmed g c clean unmade =
    create_goes_on c.args.files _ c.requires.schema c.requires.size (∥∥₁_map unmade (started_of c.args.files c.requires.size)) (c.in-Err.ensures.unharmed clean)

pub returns-in-Ok-clause-started : goal.returns-in-Ok-clause-started
returns-in-Ok-clause-started g c clean =
    let e = c.in-Ok.ensures in
    (∥∥₁_map (e.started clean) (unmade_of c.args.files c.requires.size), e.empty clean 0 (omega arith))
