use Rattle.std.proofs.Common.{◌≡◌, ◌≢◌, ℕ, ◌≤◌, ◌++◌, List, ◌∙◌, arith, ap, sym, None, Some, codes}
use Rattle.std.specs.List.{sum_by}
use Rattle.std.proofs.lemmas.Bool.Decides.{Decides-eqb}
use Rattle.std.proofs.lemmas.Slice.Eq.{strip_suffix_is}
use Rattle.osc_scope.specs.{bit_of}
use Rattle.osc_scope.proofs.MethodLemmas.{set_most}
use Rattle.osc_scope.proofs.NameLemmas.{words_below, no_words_below, each_alone, none_alone}
use Rattle.osc_scope.proofs.text.mask.Goals.{In-Some, In-None}
use Rattle.osc_scope.proofs.text.mask.Goals as goal

-- the text ends with `+SUB` ..
ends : (c : In-Some) → c.args.words.now ≡ c.in-Some.names.now ++ codes "+SUB"
ends c =
    strip_suffix_is Decides-eqb c.args.words.now c.as_slice.result.now (Some c.in-Some.names) c.in-Some.ensures.cases
    ∙ ap (λ last. c.in-Some.names.now ++ last) c.as_slice.ensures

-- .. or with something else
ends_otherwise : (c : In-None) → (front : List ℕ) → c.args.words.now ≢ front ++ codes "+SUB"
ends_otherwise c front is =
    strip_suffix_is Decides-eqb c.args.words.now c.as_slice.result.now None c.in-None.ensures.cases front
    (is ∙ ap (λ last. front ++ last) (sym c.as_slice.ensures))

pub returns-in_err-methods-in-Some-clause-none : goal.returns-in_err-methods-in-Some-clause-none
returns-in_err-methods-in-Some-clause-none c =
    rw c.from_residual.ensures (no_words_below c.args.words.now c.in-Some.names.now (ends (goal.at.returns-in_err-methods-in-Some-clause-none c).In-Some) c.in_err-methods-in-Some.ensures.none)

pub overflow_add-result : goal.overflow_add-result
overflow_add-result c =
    let names = c.in_ok-methods-in-Some.ensures.found in
    let most : sum_by bit_of names.methods ≤ 15 = set_most names.methods names.apart in
    omega (arith, names.counted, most)

pub returns-in_ok-methods-in-Some-clause-found : goal.returns-in_ok-methods-in-Some-clause-found
returns-in_ok-methods-in-Some-clause-found c =
    words_below c.args.words.now c.in-Some.names.now c.in_ok-methods-in-Some.field-0 (ends (goal.at.returns-in_ok-methods-in-Some-clause-found c).In-Some) c.in_ok-methods-in-Some.ensures.found

pub returns-in-None-clause-found : goal.returns-in-None-clause-found
returns-in-None-clause-found c = each_alone c.args.words.now c.methods-in-None.result c.methods-in-None.ensures.found

pub returns-in-None-clause-none : goal.returns-in-None-clause-none
returns-in-None-clause-none c = none_alone c.args.words.now c.methods-in-None.result (ends_otherwise (goal.at.returns-in-None-clause-none c).In-None) c.methods-in-None.ensures.none
