use Rattle.std.proofs.Common.{◌∙◌, sym, ap}
use Rattle.std.proofs.lemmas.Option.{same_Some}
use Rattle.osc_protect.specs.Inner.ValueReading.{value_at}
use Rattle.osc_protect.proofs.ValueLaws.{value_again}
use Rattle.osc_protect.proofs.laws.one_value.Goals as goal

pub returns : goal.returns
returns c = λ bytes one other a b.
    same_Some one other (sym (value_again one) ∙ ap value_at (sym a.whole ∙ b.whole) ∙ value_again other)
