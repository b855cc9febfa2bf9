use Rattle.std.proofs.Common.{◌∙◌, sym, ap, String, Global, Bor, Some, string_bytes}
use Rattle.std.specs.Option.{option_map}
use Rattle.osc_words.proofs.settings.Keys.{first_member, seen_some, seen_none}
use Rattle.osc_words.proofs.settings.document.other_key.Goals as goal

pub returns-in-Some : goal.returns-in-Some
returns-in-Some c =
    let there = seen_some (λ (name : Bor (String Global)). name.now) c.first_other.result _ c.in-Some.name c.first_other.ensures c.in-Some.is in
    ap Some c.as_str.ensures.value ∙ (sym (ap (option_map (λ name. string_bytes name)) there) ∙ first_member c.args.keys.now c.args.table.now.entries)

pub returns-in-None : goal.returns-in-None
returns-in-None c =
    let none = seen_none (λ (name : Bor (String Global)). name.now) c.first_other.result _ c.first_other.ensures c.in-None.is in
    sym (ap (option_map (λ name. string_bytes name)) none) ∙ first_member c.args.keys.now c.args.table.now.entries
