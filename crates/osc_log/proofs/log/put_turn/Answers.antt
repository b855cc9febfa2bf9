use Rattle.std.proofs.Common.{ap, option_map}
use Rattle.osc_log.proofs.Telling.{untold_lines}
use Rattle.osc_log.proofs.log.put_turn.Goals as goal

pub returns-in-None : goal.returns-in-None
returns-in-None g c = untold_lines _ _ c.args.form c.args.turn.now _ _ (ap (option_map (λ lines. lines.now)) c.in-None.is) c.moment.ensures c.put_untold.ensures
