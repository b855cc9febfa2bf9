use Rattle.std.proofs.Common.{sym, ap, ◌∙◌}
use Rattle.std.specs.Option.{option_and_then}
use Rattle.osc_token.specs.Inner.Reading.{algorithm_numbered}
use Rattle.osc_token.proofs.ReadingLemmas.{found_by_number}
use Rattle.osc_token.proofs.material.numbered.Goals as goal

pub returns : goal.returns
returns c =
    let seen = sym c.as_unsigned.ensures ∙ c.in_ok-as_unsigned.was in
    found_by_number c.in_ok-as_unsigned.field-0 c.from_number.result c.from_number.ensures.some c.from_number.ensures.none
    ∙ sym (ap (option_and_then algorithm_numbered) seen)
