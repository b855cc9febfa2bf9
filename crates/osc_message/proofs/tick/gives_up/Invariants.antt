use Rattle.std.proofs.Common.{◌≡◌, ◌||◌, drop}
use Rattle.std.specs.List.{list_any}
use Rattle.osc_message.specs.{messages}
use Rattle.osc_message.proofs.Over.{over}
use Rattle.osc_message.proofs.tick.gives_up.Given as goal

abbrev pub invariant-loop-index : goal.invariant-loop-index
invariant-loop-index l =
    record { any : (l.found || list_any (over l.now l.peer l.id) (messages (drop l.index l.all))) ≡ list_any (over l.now l.peer l.id) (messages l.all) }
