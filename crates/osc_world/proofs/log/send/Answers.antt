use Rattle.std.proofs.Common.{◌++◌, length, map, ap, sym, ◌∙◌, append_assoc, arith}
use Rattle.std.specs.Option.{option_to_list}
use Rattle.std.proofs.lemmas.List.{map-append, length-append}
use Rattle.osc_world.specs.{sent_from}
use Rattle.osc_world.proofs.log.send.Goals as goal

pub send_first-requires : goal.send_first-requires
send_first-requires c =
    omega (arith, c.requires, ap length c.into_parts-first.ensures, length-append (option_to_list c.into_parts-first.result.0) c.into_parts-first.result.1.items)

pub send_all-requires : goal.send_all-requires
send_all-requires c =
    omega (
      arith,
      c.requires,
      ap length c.into_parts-first.ensures,
      length-append (option_to_list c.into_parts-first.result.0) c.into_parts-first.result.1.items,
      c.send_first.ensures.len,
      c.send_first.ensures.capacity,
    )

pub returns : goal.returns
returns c =
    let kept = map (sent_from c.args.at) in
    let first = option_to_list c.into_parts-first.result.0 in
    let more = c.into_parts-first.result.1.items in
    c.send_all.ensures
    ∙ ap (λ xs. xs ++ kept more) c.send_first.ensures.items
    ∙ append_assoc c.args.sent.now.items (kept first) (kept more)
    ∙ ap (λ xs. c.args.sent.now.items ++ xs) (sym (map-append (sent_from c.args.at) first more) ∙ ap kept c.into_parts-first.ensures)
