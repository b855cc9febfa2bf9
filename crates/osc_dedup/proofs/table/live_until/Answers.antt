use Rattle.std.proofs.Common.{◌≡◌, ◌≤◌, [], ◌∷◌, map, arith, rules}
use Rattle.std.proofs.lemmas.List.{map-append}
use Rattle.std.proofs.lemmas.Map.Iter.{iter_end}
use Rattle.std.specs.Map.Iter.{deref_pair}
use Rattle.osc_dedup.proofs.Places.{live_longer, live_with}
use Rattle.osc_dedup.proofs.table.live_until.Goals as goal

pub loop-noted-preserved : goal.loop-noted-preserved
loop-noted-preserved c =
    let before : c.min-earliest.result ≤ c.loop-noted.earliest = omega (arith, c.min-earliest.ensures) in
    let at : c.min-earliest.result ≤ c.in-Some.noted.now.until = omega (arith, c.min-earliest.ensures) in
    rw (map-append deref_pair c.loop-noted.yielded ((c.in-Some.field-0-0, c.in-Some.noted) ∷ []))
    (live_with c.min-earliest.result (map deref_pair c.loop-noted.yielded) (c.in-Some.field-0-0.now, c.in-Some.noted.now)
    (live_longer c.loop-noted.earliest c.min-earliest.result (map deref_pair c.loop-noted.yielded) before c.loop-noted.invariant) at)

pub returns : goal.returns
returns c =
    let all : map deref_pair c.loop-noted.yielded ≡ c.args.table.now.entries = search (rules, iter_end) in
    rw all at c.loop-noted.invariant
