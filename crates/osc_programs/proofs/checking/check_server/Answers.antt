use Rattle.std.proofs.Common.{inl, inr, subst}
use Rattle.osc_programs.specs.Checked.{TellsPrinted}
use Rattle.osc_programs.proofs.Taken.{settings_no_end, settings_node}
use Rattle.osc_programs.proofs.checking.check_server.Goals as goal

pub returns-in-Ok : goal.returns-in-Ok
returns-in-Ok g c = record {
  done = λ done. (c.in-Ok.settings, c.in-Ok.ensures.settings, c.judge_server.ensures.said (inl done), c.judge_server.ensures.done done);
  bad = λ bad. inr (record {
    settings = c.in-Ok.settings;
    stands = c.in-Ok.ensures.settings;
    said = c.judge_server.ensures.said (inr bad);
    tells = subst (λ log. TellsPrinted c.in-Ok.settings (g.L.Log.told log) (g.L.Log.told c.judge_server.new.log)) c.in-Ok.ensures.silent (c.judge_server.ensures.bad bad);
  });
  short = λ done. c.in-Ok.ensures.short;
  end = c.server_settings.ensures.end;
  ends = c.judge_server.ensures.ends;
}

pub returns-in-Err : goal.returns-in-Err
returns-in-Err g c = record {
  done = λ done. absurd (settings_no_end c.in-Err.ended c.in-Err.ensures.ends done);
  bad = λ bad. inl (c.in-Err.ensures.bad bad);
  short = λ done. absurd (settings_no_end c.in-Err.ended c.in-Err.ensures.ends done);
  end = c.server_settings.ensures.end;
  ends = settings_node c.in-Err.ended c.in-Err.ensures.ends;
}
