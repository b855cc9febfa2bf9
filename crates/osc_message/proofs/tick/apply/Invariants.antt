use Rattle.std.proofs.Common.{◌≡◌, ◌++◌, ◌+◌, ◌≤◌, length, take, drop, vec_len, vec_capacity}
use Rattle.std.specs.List.{All, filter_map, zip}
use Rattle.osc_message.specs.{IsBounded, ArePlaced, messages, after}
use Rattle.osc_message.proofs.tick.apply.Given as goal

abbrev pub invariant-loop-due : goal.invariant-loop-due
invariant-loop-due l = record {
  items : messages (take l.place l.sending.items) ++ filter_map (after l.now) (zip (messages (drop l.place l.sending.items)) (drop l.due-index l.dues)) ≡ filter_map (after l.now) (zip (messages l.initial.sending.items) l.dues);
  each : vec_len l.sending + l.due-index ≡ length l.dues + l.place;
  bounded : All IsBounded (messages (drop l.place l.sending.items));
  placed : ArePlaced l.initial.sending.items → ArePlaced l.sending.items;
  len : vec_len l.sending ≤ vec_len l.initial.sending;
  capacity : vec_capacity l.sending ≡ vec_capacity l.initial.sending;
}
