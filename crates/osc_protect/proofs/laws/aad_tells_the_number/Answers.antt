use Rattle.osc_protect.proofs.LawAad.{one_aad}
use Rattle.osc_protect.proofs.laws.aad_tells_the_number.Goals as goal

pub returns : goal.returns
returns c = λ name m n id small_m small_n same. one_aad name m n id same
