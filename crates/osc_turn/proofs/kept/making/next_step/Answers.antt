use Rattle.std.proofs.Common.{refl, rules}
use Rattle.osc_turn.specs.{received_in}
use Rattle.osc_turn.proofs.kept.MakingLemmas.{loses_next, makes_next, some_of, some_received}
use Rattle.osc_turn.proofs.kept.making.next_step.Goals as goal

pub returns-in-Ok-clause-made : goal.returns-in-Ok-clause-made
returns-in-Ok-clause-made g c =
    makes_next g.N.Node.acts g.N.Node.is_step c.args.now _ _ _ c.in-Ok.step _ _ c.draw-draw.result (some_received _ _ (some_of _ (search rules)))
    (search rules) (search rules) (search rules) c.in-Ok.ensures.made (search rules) (search rules)

pub returns-in-Err-clause-fails : goal.returns-in-Err-clause-fails
returns-in-Err-clause-fails g c = (
  search rules,
  loses_next g.N.Node.acts g.N.Node.is_step c.args.now _ _ (received_in c.receive_waiting.new.buffer c.in_ok-got.got) _ _ c.draw-draw.result
      (some_received c.receive_waiting.new.buffer c.in_ok-got.got (some_of c.in_ok-got.got (search rules)))
      (search rules) (search rules) c.in-Err.ensures.err refl (search rules),
  search rules,
)
