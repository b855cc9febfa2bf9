use Rattle.osc_programs.proofs.store.store_of.Goals as goal

pub returns-clause-opened : goal.returns-clause-opened
returns-clause-opened g c = record {
  name = c.in_ok-kept.ensures.file;
  opened = c.in_ok-kept.ensures.opened;
  as_made = c.in_ok-is_as_made.ensures.as_made;
}
