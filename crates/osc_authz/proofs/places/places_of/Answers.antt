use Rattle.std.proofs.Common.{◌≡◌, suc, ◌-◌, ◌∷◌, [], sym, ap, ◌∙◌, drop, subst, arith}
use Rattle.osc_authz.proofs.PlaceLemmas.{AreFrom, place_from, placed_is, none_noted, none_left, one_more}
use Rattle.osc_authz.specs.Inner.Places.{place_at}
use Rattle.osc_authz.proofs.places.places_of.Goals as goal

pub loop-left-init : goal.loop-left-init
loop-left-init c = record {
  within = omega arith;
  noted = λ byte small. none_noted byte small ∙ sym (none_left (byte ∷ []) c.args.table.now);
}

pub loop-left-preserved : goal.loop-left-preserved
loop-left-preserved c =
    let left = c.loop-left.left in
    let table = c.args.table.now in
    let again : suc (left - 1) ≡ left = omega (arith, c.loop-left-test.true) in
    record {
      within = omega (arith, c.loop-left.invariant.within);
      noted = λ byte small.
          one_more table (left - 1) c.index-table-left.result byte (place_at c.loop-left.places byte) (place_at c.note_entry.new.places byte)
          (omega (arith, again, c.loop-left.invariant.within)) c.requires c.index-table-left.is (c.note_entry.ensures byte small)
          (c.loop-left.invariant.noted byte small ∙ ap (λ n. place_from n (byte ∷ []) (drop n table)) (sym again));
    }

pub returns : goal.returns
returns c =
    let table = c.args.table.now in
    let none : c.loop-left.left ≡ 0 = omega (arith, c.loop-left-test.false) in
    let all : AreFrom 0 c.loop-left.places table = subst (λ left. AreFrom left c.loop-left.places table) none c.loop-left.invariant.noted in
    λ byte small. all byte small ∙ placed_is (byte ∷ []) table
