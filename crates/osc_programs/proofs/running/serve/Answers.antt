use Rattle.std.proofs.Common.{inl, inr, refl, subst}
use Rattle.osc_log.specs.{Tells}
use Rattle.osc_programs.proofs.Stored.{serving_not_bad, serving_server, settings_no_server, settings_server}
use Rattle.osc_programs.proofs.Taken.{settings_no_end}
use Rattle.osc_programs.proofs.running.serve.Goals as goal

pub returns-in-Ok : goal.returns-in-Ok
returns-in-Ok g c = record {
  served = elim c.serve_by.ensures.served [
    | inl none ↦ inl none
    | inr told ↦ inr (
      c.in-Ok.settings,
      c.in-Ok.ensures.settings,
      told.0,
      told.1,
      told.2,
      told.3,
      told.4,
      subst (λ log. Tells (g.L.Log.told log) (g.L.Log.told c.serve_by.new.log) told.1) c.in-Ok.ensures.silent told.5,
      told.6,
    )
  ];
  bad = λ bad. absurd (serving_not_bad c.serve_by.result.ended c.serve_by.ensures.ends bad);
  short = λ done. c.in-Ok.ensures.short;
  end = c.server_settings.ensures.end;
  ends = serving_server c.serve_by.result.ended c.serve_by.ensures.ends;
}

pub returns-in-Err : goal.returns-in-Err
returns-in-Err g c = record {
  served = inl (settings_no_server c.in-Err.ended c.in-Err.ensures.ends, refl);
  bad = c.in-Err.ensures.bad;
  short = λ done. absurd (settings_no_end c.in-Err.ended c.in-Err.ensures.ends done);
  end = c.server_settings.ensures.end;
  ends = settings_server c.in-Err.ended c.in-Err.ensures.ends;
}
