use Rattle.std.proofs.Common.{inl, inr, subst}
use Rattle.osc_log.specs.{Tells}
use Rattle.osc_programs.proofs.Stored.{fault_no_settings}
use Rattle.osc_programs.proofs.Taken.{settings_no_end, settings_node, turns_node, turns_not_bad}
use Rattle.osc_programs.proofs.running.forward.Goals as goal

pub returns-in-Ok : goal.returns-in-Ok
returns-in-Ok g c = record {
  forwarded = elim c.forward_by.ensures.forwarded [
    | inl fault ↦ inl (fault_no_settings c.forward_by.result fault)
    | inr told ↦ inr (
      c.in-Ok.settings,
      c.in-Ok.ensures.settings,
      told.0,
      told.1,
      subst (λ log. Tells (g.L.Log.told log) (g.L.Log.told c.forward_by.new.log) told.0) c.in-Ok.ensures.silent told.2,
    )
  ];
  bad = λ bad. absurd (turns_not_bad c.forward_by.result c.forward_by.ensures.ends bad);
  short = λ done. c.in-Ok.ensures.short;
  end = c.proxy_settings.ensures.end;
  ends = turns_node c.forward_by.result c.forward_by.ensures.ends;
}

pub returns-in-Err : goal.returns-in-Err
returns-in-Err g c = record {
  forwarded = inl c.in-Err.ensures.ends;
  bad = c.in-Err.ensures.bad;
  short = λ done. absurd (settings_no_end c.in-Err.ended c.in-Err.ensures.ends done);
  end = c.proxy_settings.ensures.end;
  ends = settings_node c.in-Err.ended c.in-Err.ensures.ends;
}
