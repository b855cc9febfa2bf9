use Rattle.std.proofs.Common.{◌∙◌}
use Rattle.indexmap.proofs.CallerLemmas.{insert_entry-new}
use Rattle.osc_dedup.specs.{same_key}
use Rattle.osc_dedup.proofs.table.append.Goals as goal

pub returns-clause-appended : goal.returns-clause-appended
returns-clause-appended c =
    let inserted = rw c.unwrap.ensures at c.insert.ensures.entries in
    inserted ∙ insert_entry-new same_key c.args.table.now c.args.key c.args.noted c.requires.absent
