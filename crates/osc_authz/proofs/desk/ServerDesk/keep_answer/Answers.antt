use Rattle.std.proofs.Common.{◌≡◌, ◌++◌, List, length, sym, subst, take, drop, Some, arith, ap, ◌∙◌}
use Rattle.std.proofs.lemmas.List.{take_at}
use Rattle.osc_authz.specs.Inner.Places.{IsIndex}
use Rattle.osc_authz.specs.{with_last}
use Rattle.osc_authz.specs.declared.token_entry.TokenEntry.{TokenEntry}
use Rattle.osc_authz.proofs.LastAnswers.{few_with_last, kept_with_last, with_last_is_table}
use Rattle.osc_authz.proofs.desk.ServerDesk.keep_answer.Goals as goal

pub keep_answer-requires-clause-there : goal.keep_answer-requires-clause-there
keep_answer-requires-clause-there c = (c.requires.there.0, rw c.deref_mut.ensures.value (rw (← c.self.view_is) at c.requires.there.1))

pub invariant_of-self : goal.invariant_of-self
invariant_of-self c =
    let id = c.requires.there.0.name.client_id in
    let same : c.keep_answer.new.table ≡ with_last id c.args.last c.self.inside.table.items =
    rw (rw (← c.self.view_is) at c.requires.there.1) at (rw c.deref_mut.ensures.value at c.keep_answer.ensures.kept) in
    let written : take c.self.inside.table.len (c.keep_answer.new.table ++ drop (length c.keep_answer.new.table) c.self.inside.table.items) ≡ c.keep_answer.new.table =
    take_at c.keep_answer.new.table (drop (length c.keep_answer.new.table) c.self.inside.table.items) c.self.inside.table.len (omega (arith, c.keep_answer.auto.table, c.deref_mut.ensures.len)) in (
      rw (written, same) (with_last_is_table id c.args.last c.self.inside.table.items c.self.invariant.0),
      subst (λ (table : List TokenEntry). IsIndex c.self.inside.places table) (sym written) c.keep_answer.ensures.index,
      rw (written, same) (few_with_last id c.args.last c.self.inside.rules.remembered c.self.inside.table.items c.self.invariant.2),
      rw (written, same) (kept_with_last id c.args.last c.self.inside.rules.reserved c.self.inside.table.items c.self.invariant.3),
    )
