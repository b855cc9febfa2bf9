use Rattle.std.proofs.Common.{List, ◌∷◌, sym, ap, ap₂, subst, ◌∙◌}
use Rattle.osc_cbor.specs.{DataItem, array, item, no_items, text_string, unsigned}
use Rattle.osc_scope.specs.{AreEntriesBefore}
use Rattle.osc_scope.proofs.EntryLemmas.{one_more, no_entry_of, no_entry_after, all_are_entries}
use Rattle.osc_scope.proofs.entries.entries.Goals as goal

pub returns-in_default-entry-clause-bad : goal.returns-in_default-entry-clause-bad
returns-in_default-entry-clause-bad c =
    let pair : DataItem = array (item c.in-Some.text (item c.in-Some.number no_items)) in
    let so_far : AreEntriesBefore (pair ∷ c.next_two.new.self) c.args.items c.loop-text.entries =
    subst (λ (left : List DataItem). AreEntriesBefore left c.args.items c.loop-text.entries) c.in-Some.ensures.two c.loop-text.invariant in
    λ e. no_entry_after c.loop-text.entries c.next_two.new.self pair c.args.items so_far (no_entry_of c.in-Some.text c.in-Some.number c.in_default-entry.ensures.none)

pub loop-text-preserved : goal.loop-text-preserved
loop-text-preserved c =
    let pair : DataItem = array (item c.in-Some.text (item c.in-Some.number no_items)) in
    let so_far : AreEntriesBefore (pair ∷ c.next_two.new.self) c.args.items c.loop-text.entries =
    subst (λ (left : List DataItem). AreEntriesBefore left c.args.items c.loop-text.entries) c.in-Some.ensures.two c.loop-text.invariant in
    one_more c.args.items c.next_two.new.self pair c.loop-text.entries c.push.new.self
    (c.in-Some-entry.text.now, c.in-Some-entry.mask) so_far c.in-Some-entry.ensures.lawful
    (ap₂ (λ (text number : DataItem). array (item text (item number no_items))) c.in-Some-entry.ensures.found.0 c.in-Some-entry.ensures.found.1) c.in_ok-push.ensures.ok

pub returns-in-None-clause-found : goal.returns-in-None-clause-found
returns-in-None-clause-found c =
    all_are_entries c.args.items c.loop-text.entries
    (subst (λ (left : List DataItem). AreEntriesBefore left c.args.items c.loop-text.entries) (sym c.in_default.ensures.unchanged ∙ c.in-None.ensures.steps.0) c.loop-text.invariant)

pub returns-in-Some-next-clause-bad : goal.returns-in-Some-next-clause-bad
returns-in-Some-next-clause-bad c =
    let are = sym c.in_default.ensures.unchanged ∙ c.in-Some-next.ensures.steps in
    let so_far : AreEntriesBefore (c.in-Some-next.field-0 ∷ c.next.new.self) c.args.items c.loop-text.entries =
    subst (λ (left : List DataItem). AreEntriesBefore left c.args.items c.loop-text.entries) are c.loop-text.invariant in
    λ e. no_entry_after c.loop-text.entries c.next.new.self c.in-Some-next.field-0 c.args.items so_far
    (λ entry lawful same. c.in_default.ensures.none (text_string entry.path) (unsigned entry.mask) c.next.new.self (are ∙ ap (λ (x : DataItem). x ∷ c.next.new.self) same))
