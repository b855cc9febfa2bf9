use Rattle.osc_programs.proofs.Taken.{settings_no_end, settings_node, turns_node, turns_not_bad}
use Rattle.osc_programs.proofs.checking.check_client.Goals as goal

pub returns-in-Ok : goal.returns-in-Ok
returns-in-Ok g c = record {
  done = λ done. (c.in-Ok.settings, c.in-Ok.ensures.settings, c.say_client.ensures.done done);
  bad = λ bad. absurd (turns_not_bad c.say_client.result c.say_client.ensures.ends bad);
  short = λ done. c.in-Ok.ensures.short;
  end = c.client_settings.ensures.end;
  ends = turns_node c.say_client.result c.say_client.ensures.ends;
}

pub returns-in-Err : goal.returns-in-Err
returns-in-Err g c = record {
  done = λ done. absurd (settings_no_end c.in-Err.ended c.in-Err.ensures.ends done);
  bad = c.in-Err.ensures.bad;
  short = λ done. absurd (settings_no_end c.in-Err.ended c.in-Err.ensures.ends done);
  end = c.client_settings.ensures.end;
  ends = settings_node c.in-Err.ended c.in-Err.ensures.ends;
}
