use Rattle.std.proofs.Common.{◌≡◌, ◌≤◌, ◌++◌, take, drop, vec_len, vec_capacity}
use Rattle.osc_message.specs.{placed}
use Rattle.osc_message.proofs.queued.place_again.Given as goal

abbrev pub invariant-loop-index : goal.invariant-loop-index
invariant-loop-index l = record {
  items : take l.index l.queue.items ++ placed l.peer l.before (drop l.index l.queue.items) ≡ placed l.peer 0 l.initial.queue.items;
  len : vec_len l.queue ≡ vec_len l.initial.queue;
  bound : l.before ≤ l.index;
  capacity : vec_capacity l.queue ≡ vec_capacity l.initial.queue;
}
