use Rattle.std.proofs.Common.{◌∙◌, inl, inr, sym}
use Rattle.osc_programs.proofs.Staying.{is_no_well, is_well}
use Rattle.osc_programs.proofs.requests.tell_by.Goals as goal

pub returns-in-Done-clause-told : goal.returns-in-Done-clause-told
returns-in-Done-clause-told g c =
    let told = c.told.ensures.told (inl c.in-Done.is) in (is_well c.args.end.now.outcome (sym c.in-Done.is ∙ told.0), told.1)

pub returns-in-NotDone-clause-told : goal.returns-in-NotDone-clause-told
returns-in-NotDone-clause-told g c =
    let told = c.told.ensures.told (inr c.in-NotDone.is) in (is_no_well c.args.end.now.outcome (sym c.in-NotDone.is ∙ told.0), told.1)
