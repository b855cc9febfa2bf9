use Rattle.std.proofs.Common.{◌≡◌, length, map}
use Rattle.osc_script.specs.Inner.Reading.{changes_in}
use Rattle.osc_script.proofs.ChangeWords.{with_front}
use Rattle.osc_script.proofs.datagrams.changes.Given as goal

abbrev pub invariant-loop-rest : goal.invariant-loop-rest
invariant-loop-rest l = with_front l.changes.items (changes_in (map (λ word. word.now) l.rest)) ≡ changes_in (map (λ word. word.now) l.words)

abbrev pub decreases-loop-rest : goal.decreases-loop-rest
decreases-loop-rest l = length l.rest
