use Rattle.std.proofs.Common.{◌≡◌, arith, length, take_all, true, false, refl, length-drop, ◌∙◌, sym, eqb-true}
use Rattle.std.proofs.lemmas.List.{nil_from_length}
use Rattle.osc_script.proofs.ChangeWords.{goes_on_at, ends_at, odd_at, is_done_at}
use Rattle.osc_script.proofs.datagrams.changes.Goals as goal

pub returns-in_default-2 : goal.returns-in_default-2
returns-in_default-2 c =
    let none = rw c.in_default-2.is at c.in_ok-change.ensures in
    ends_at c.loop-rest.changes.items c.loop-rest.rest.now _ _ _ c.in-len2-up.len_at_least none c.loop-rest.invariant

pub loop-rest-preserved : goal.loop-rest-preserved
loop-rest-preserved c =
    let some = rw c.in-Some.is at c.in_ok-change.ensures in
    goes_on_at c.loop-rest.changes.items c.push.new.self.items c.loop-rest.rest.now _ _ _ c.in-Some.change _ c.in-len2-up.len_at_least (take_all _ _ (omega (arith, length-drop 2 c.loop-rest.rest.now))) some c.in_ok-push.ensures.items c.loop-rest.invariant

pub returns-then-not-is_empty : goal.returns-then-not-is_empty
returns-then-not-is_empty c = odd_at c.loop-rest.changes.items c.loop-rest.rest.now _ c.in_default.len_below (λ nil. let no : false ≡ true = c.if-not-is_empty.ensures ∙ rw nil refl in absurd cc) c.loop-rest.invariant

pub returns : goal.returns
returns c = is_done_at c.loop-rest.changes.items c.loop-rest.rest.now _ (nil_from_length c.loop-rest.rest.now (eqb-true (length c.loop-rest.rest.now) 0 (sym c.if-not-is_empty.ensures))) c.loop-rest.invariant
