use Rattle.std.proofs.Common.{◌≡◌, ◌-◌, Some, drop, filter, count_by, length, ap, sym, ◌∙◌, arith}
use Rattle.std.proofs.lemmas.List.{length-drop, length-map}
use Rattle.osc_dedup.specs.{stays, same_key}
use Rattle.osc_dedup.proofs.Keys.{absent_from_end, absent_staying, few_left}
use Rattle.osc_dedup.proofs.Places.{moved_behind, none_moved, absent_by_keys, live_past}
use Rattle.osc_dedup.proofs.table.make_ready.Goals as goal

pub returns-then-all_stay-clause-ready : goal.returns-then-all_stay-clause-ready
returns-then-all_stay-clause-ready c =
    let es = c.args.kept.now.entries in
    let left = drop c.args.gone es in
    let stay = c.all_stay.ensures c.if-all_stay.true in
    let fs = c.make_place.new.table.entries in
    let same : length fs ≡ length es = sym (length-map fs (λ e. e.0)) ∙ ap length c.make_place.ensures.keys ∙ length-map es (λ e. e.0) in
    let long : length left ≡ length es - c.args.gone = length-drop c.args.gone es in
    let moved : drop c.make_place.result fs ≡ drop (length left - 63) left = c.make_place.ensures.left ∙ ap (λ n. drop (n - 63) left) (sym long) in
    record {
      absent = absent_by_keys c.args.key fs es c.make_place.ensures.keys stay.2;
      within = c.make_place.ensures.within;
      few = c.make_place.ensures.few;
      free = omega (arith, same, stay.1);
      places = omega (arith, same, c.make_place.ensures.room, c.requires.room);
      before = c.make_place.ensures.gone;
      lives = rw c.make_place.ensures.left (live_past c.args.live_until (length es - c.args.gone - 63) left c.requires.live);
      is_left = none_moved c.args.live_until c.args.now c.args.key left (drop c.make_place.result fs) stay.0 c.requires.live
          (absent_from_end (same_key c.args.key) c.args.gone es stay.2) moved;
    }

pub returns-else-all_stay-clause-ready : goal.returns-else-all_stay-clause-ready
returns-else-all_stay-clause-ready c =
    let es = c.args.kept.now.entries in
    let test = stays c.args.now (Some c.args.key) in
    let fs = c.renew.new.kept.entries in
    let few = few_left test es fs 63 c.renew.ensures.moved in
    record {
      absent = rw c.renew.ensures.moved (absent_from_end (same_key c.args.key) (count_by test es - 63) (filter test es) (absent_staying c.args.now c.args.key es));
      within = omega arith;
      few = omega (arith, few);
      free = omega (arith, few);
      places = omega (arith, c.renew.ensures.kept_room, c.requires.other_room);
      before = tt;
      lives = c.renew.ensures.live;
      is_left = moved_behind c.args.now (Some c.args.key) 63 c.args.gone es fs c.requires.gone c.renew.ensures.moved;
    }
