use Rattle.std.proofs.Common.{drop, List, subst}
use Rattle.std.specs.List.Sorted.{IsPermutation}
use Rattle.osc_cbor.specs.declared.keys.Key.{Key}
use Rattle.osc_cbor.proofs.RowLaws.{says_sorted, rest_of}
use Rattle.osc_cbor.proofs.keys.judge_from.Goals as goal

pub returns-clause-says : goal.returns-clause-says
returns-clause-says c =
    says_sorted c.neighbours_say.result c.args.spelled.now (drop c.args.first c.args.keys.now) c.sort.new.keys
    (subst (λ (x : List Key). IsPermutation x c.sort.new.keys) (rest_of c.args.keys.now c.args.first) c.sort.ensures) c.neighbours_say.ensures
