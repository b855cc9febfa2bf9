use Rattle.std.proofs.Common.{◌≡◌, ◌≤◌, length, map, take, drop, option_map}
use Rattle.osc_script.specs.Inner.Reading.{parts_in}
use Rattle.osc_script.proofs.Payloads.{with_front}
use Rattle.osc_script.proofs.words.joined.Given as goal

abbrev pub invariant-loop-part : goal.invariant-loop-part
invariant-loop-part l = record {
  few : length l.items.items ≤ l.most;
  joined : with_front l.most l.items.items (parts_in (map (λ part. part.now) (drop l.part-index l.parts))) ≡ option_map (take l.most) (parts_in (map (λ part. part.now) l.parts));
}
