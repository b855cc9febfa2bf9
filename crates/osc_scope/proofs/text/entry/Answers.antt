use Rattle.std.proofs.Common.{rules, sym, subst}
use Rattle.osc_model.specs.{IsPath}
use Rattle.osc_scope.proofs.TextLemmas.{entry_is, needs_colon, entry_parts, item_is}
use Rattle.osc_scope.proofs.text.entry.Goals as goal

pub returns-in_default-clause-bad : goal.returns-in_default-clause-bad
returns-in_default-clause-bad c = λ e. needs_colon c.args.text.now c.in_default.ensures

pub returns-in_default-mask-clause-bad : goal.returns-in_default-mask-clause-bad
returns-in_default-mask-clause-bad c = λ e entry is said.
    let parts = entry_parts c.args.text.now c.in-Some.path.now c.in-Some.words.now c.in-Some.ensures.0 c.in-Some.ensures.1 entry is said in
    c.in_default-mask.ensures.none entry is.some is.apart parts.1

pub returns-in_err-path-clause-bad : goal.returns-in_err-path-clause-bad
returns-in_err-path-clause-bad c = λ e entry is said.
    let parts = entry_parts c.args.text.now c.in-Some.path.now c.in-Some.words.now c.in-Some.ensures.0 c.in-Some.ensures.1 entry is said in
    c.in_err-path.ensures.bad (search rules) (subst IsPath (sym parts.0) is.is_path)

pub returns-clause-found : goal.returns-clause-found
returns-clause-found c =
    let words = c.in-Some-mask.ensures.found in
    let found = entry_is c.args.text.now c.in-Some.path.now c.in-Some.words.now c.in-Some-mask.mask c.in-Some.ensures.0 c.in-Some.ensures.1 c.in_ok-path.ensures.path words in (
      record { path = c.in-Some.path.now; methods = words.methods; below = words.below },
      found.0,
      found.1,
      item_is c.in_ok-vec.field-0 c.in_ok-path.path c.in-Some-mask.mask c.in-Some.path.now _ c.in_ok-vec.ensures.items c.in_ok-path.ensures.found words.counted,
    )
