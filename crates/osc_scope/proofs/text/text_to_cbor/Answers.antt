use Rattle.std.proofs.Common.{rules, map, ◌∙◌, ap, sym, refl, inl, inr, ◌++◌}
use Rattle.osc_cbor.specs.{array, spelling}
use Rattle.osc_scope.specs.{entry_items, entry_of}
use Rattle.osc_scope.proofs.TextLemmas.{scope_parts, scope_from_parts, one_list, view_array, memory_is}
use Rattle.osc_scope.proofs.text.text_to_cbor.Goals as goal

pub returns-in_err-entries-clause-only : goal.returns-in_err-entries-clause-only
returns-in_err-entries-clause-only c = λ entries s.
    let parts = scope_parts c.args.text.now entries s in
    inl (memory_is c.from_residual.result c.in_err-entries.field-0.0 (search rules) (λ e. c.in_err-entries.ensures.bad (search rules) entries parts.1 parts.0))

pub returns-clause-ok : goal.returns-clause-ok
returns-clause-ok c =
    let found = c.in_ok-entries.ensures.found in (
      found.entries,
      scope_from_parts c.args.text.now found.entries found.spelled found.lawful,
      c.in_ok-write.ensures.ok ∙ ap (λ d. c.args.out.now.items ++ spelling d) (view_array c.in_ok-entries.entries ∙ ap array found.written),
    )

pub returns-clause-only : goal.returns-clause-only
returns-clause-only c = λ entries s.
    let found = c.in_ok-entries.ensures.found in
    let parts = scope_parts c.args.text.now entries s in
    let same = one_list found.entries entries found.lawful parts.1 (sym found.spelled ∙ parts.0) in
    inr (
      refl,
      c.in_ok-write.ensures.ok
          ∙ ap (λ d. c.args.out.now.items ++ spelling d) (view_array c.in_ok-entries.entries ∙ ap array (found.written ∙ ap (λ es. entry_items (map entry_of es)) same)),
    )
