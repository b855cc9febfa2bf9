use Rattle.std.proofs.Common.{◌≡◌, ◌≤◌, ◌+◌, ◌++◌, ◌∷◌, [], drop, length, ap, ◌∙◌, arith, length-append}
use Rattle.std.proofs.lemmas.List.{drop-append-le}
use Rattle.osc_dedup.specs.declared.table.Remembered.{Remembered}
use Rattle.osc_dedup.specs.{with_note, Key, entries_of}
use Rattle.osc_dedup.proofs.Keys.{noted_keys}
use Rattle.osc_dedup.proofs.Places.{live_longer, live_with, gone_with}
use Rattle.osc_dedup.proofs.table.Duplicates.note.Goals as goal

pub invariant_of-self : goal.invariant_of-self
invariant_of-self c =
    let ready = c.make_ready-gone.ensures.ready in
    let es = c.make_ready-gone.new.kept.entries in
    let e : Key × Remembered = ((c.args.peer, c.args.id), c.args.noted) in
    let gone = c.make_ready-gone.result.0 in
    let live = c.min-self-inside.result in
    let long : length c.append.new.table.entries ≡ length es + 1 = ap length c.append.ensures.appended ∙ length-append es (e ∷ []) in
    let behind : drop gone c.append.new.table.entries ≡ drop gone es ++ e ∷ [] =
    ap (drop gone) c.append.ensures.appended ∙ drop-append-le gone es (e ∷ []) ready.within in
    let sooner : live ≤ c.make_ready-gone.result.1 = omega (arith, c.min-self-inside.ensures) in
    let until : live ≤ c.args.noted.until = omega (arith, c.min-self-inside.ensures) in (
      omega (arith, long, ready.within),
      omega (arith, long, ready.few),
      omega (arith, long, ready.free),
      omega (arith, long, ready.places, c.append.ensures.room_left),
      c.make_ready-gone.ensures.emptied,
      c.make_ready-gone.ensures.other_room,
      c.append.ensures.distinct,
      rw c.append.ensures.appended (gone_with gone es (e ∷ []) ready.within ready.before),
      rw behind (live_with live (drop gone es) e (live_longer c.make_ready-gone.result.1 live (drop gone es) sooner ready.lives) until),
    )

pub returns : goal.returns
returns c =
    let ready = c.make_ready-gone.ensures.ready in
    let key : Key = (c.args.peer, c.args.id) in
    let es = c.make_ready-gone.new.kept.entries in
    let left = drop c.self.inside.gone c.self.inside.kept.entries in
    let gone = c.make_ready-gone.result.0 in
    let kept : drop gone c.append.new.table.entries ≡ drop gone es ++ (key, c.args.noted) ∷ [] =
    ap (drop gone) c.append.ensures.appended ∙ drop-append-le gone es ((key, c.args.noted) ∷ []) ready.within in
    ap entries_of kept
    ∙ noted_keys c.args.now c.args.peer c.args.id c.args.noted left (drop gone es) ready.is_left
    ∙ ap (with_note c.args.now c.args.peer c.args.id c.args.noted) c.self.view_is
