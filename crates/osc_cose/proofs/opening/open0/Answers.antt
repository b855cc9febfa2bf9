use Rattle.std.proofs.Common.{sym, ◌∙◌, rules}
use Rattle.std.proofs.lemmas.Bool.{false≢true}
use Rattle.osc_cose.proofs.OpenLemmas.{IfOk-always}
use Rattle.osc_cose.proofs.ProtectedLemmas.{protected_from_names}
use Rattle.osc_cose.proofs.opening.open0.Goals as goal

pub returns-then-not-names_algorithm-clause-only : goal.returns-then-not-names_algorithm-clause-only
returns-then-not-names_algorithm-clause-only g c = λ text names s.
    let is = rw c.as_slice-protected.ensures at c.names_algorithm.ensures in
    absurd (false≢true (sym c.if-not-names_algorithm.true ∙ is.1 names))

pub returns-then-not-names_algorithm-clause-algorithm : goal.returns-then-not-names_algorithm-clause-algorithm
returns-then-not-names_algorithm-clause-algorithm g c = λ e names.
    let is = rw c.as_slice-protected.ensures at c.names_algorithm.ensures in
    false≢true (sym c.if-not-names_algorithm.true ∙ is.1 names)

pub returns-clause-named : goal.returns-clause-named
returns-clause-named g c =
    let is = rw c.as_slice-protected.ensures at c.names_algorithm.ensures in
    IfOk-always c.open_text.result _ (is.0 c.if-not-names_algorithm.false)

pub returns-clause-not_genuine : goal.returns-clause-not_genuine
returns-clause-not_genuine g c = λ e.
    let is = rw c.as_slice-protected.ensures at c.names_algorithm.ensures in
    let none = c.open_text.ensures.not_genuine e in
    (is.0 c.if-not-names_algorithm.false, search rules, λ text s. none.1 text (search rules))

pub returns-clause-too_long : goal.returns-clause-too_long
returns-clause-too_long g c = λ e.
    let is = rw c.as_slice-protected.ensures at c.names_algorithm.ensures in
    (is.0 c.if-not-names_algorithm.false, search rules)

pub returns-clause-memory : goal.returns-clause-memory
returns-clause-memory g c = λ e.
    let is = rw c.as_slice-protected.ensures at c.names_algorithm.ensures in
    protected_from_names _ (is.0 c.if-not-names_algorithm.false)

pub returns-in_err-enc_structure-clause-memory : goal.returns-in_err-enc_structure-clause-memory
returns-in_err-enc_structure-clause-memory g c = λ e.
    let is = rw c.as_slice-protected.ensures at c.names_algorithm.ensures in
    protected_from_names _ (is.0 c.if-not-names_algorithm.false)
