use Rattle.std.proofs.Common.{◌≡◌, ◌||◌, not, take, drop, IfNone}
use Rattle.std.specs.List.{All, list_any}
use Rattle.osc_model.specs.declared.node.Moment.{Moment}
use Rattle.osc_message.specs.{is_reached, IsIdle, messages, dues, is_kept, acts}
use Rattle.osc_message.proofs.deadline.deadline.Given as goal

abbrev pub invariant-loop-index : goal.invariant-loop-index
invariant-loop-index l = record {
  reached : (now : Moment) → (is_reached now l.first || list_any (λ pair. not (is_kept pair.1)) (dues l.pace now (messages l.all) (messages (take l.index l.all)) (messages (drop l.index l.all)))) ≡ acts l.pace now (messages l.all);
  open_ones : IfNone l.first (All IsIdle (take l.index l.all));
}
