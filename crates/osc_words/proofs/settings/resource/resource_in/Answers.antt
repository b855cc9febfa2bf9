use Rattle.std.proofs.Common.{codes, Bor, Option, option_map, subst}
use Rattle.std.proofs.lemmas.Result.{err_from_is_err_and}
use Rattle.toml.specs.Data.{Data, get_member}
use Rattle.toml.specs.View.{table_view, view}
use Rattle.toml.specs.declared.value.Value.{Value}
use Rattle.osc_words.specs.Settings.Inner.Reading.{IsRefusal}
use Rattle.osc_words.specs.Settings.{IsContentOf, IsFormatOf, IsPathOf, IsResource}
use Rattle.osc_words.proofs.settings.Resources.{refused_within}
use Rattle.osc_words.proofs.settings.resource.resource_in.Goals as goal

pub returns-in_err-path_of : goal.returns-in_err-path_of
returns-in_err-path_of c =
    let p = err_from_is_err_and c.from_residual.result c.from_residual.ensures.1 in
    let document = table_view c.args.table.now in
    rw (p.1, p.2)
    (refused_within (IsPathOf (get_member (codes "path") document)) (IsResource document) c.in_err-path_of.field-0.0 (λ resource is. (resource.path, is.path))
    (subst (λ (found : Option Data). IsRefusal (IsPathOf found) c.in_err-path_of.field-0.0) c.value_at.ensures c.in_err-path_of.ensures))

pub returns-in_err-format_of : goal.returns-in_err-format_of
returns-in_err-format_of c =
    let p = err_from_is_err_and c.from_residual-in_err-format_of.result c.from_residual-in_err-format_of.ensures.1 in
    let document = table_view c.args.table.now in
    rw (p.1, p.2)
    (refused_within (IsFormatOf (get_member (codes "format") document)) (IsResource document) c.in_err-format_of.field-0.0 (λ resource is. (resource.format, is.format))
    (subst (λ (found : Option Data). IsRefusal (IsFormatOf found) c.in_err-format_of.field-0.0) c.value_at-2.ensures c.in_err-format_of.ensures))

pub returns-in_err-content_of : goal.returns-in_err-content_of
returns-in_err-content_of c =
    let p = err_from_is_err_and c.from_residual-in_err-content_of.result c.from_residual-in_err-content_of.ensures.1 in
    let document = table_view c.args.table.now in
    rw (p.1, p.2)
    (refused_within (IsContentOf (get_member (codes "text") document) (get_member (codes "hex") document)) (IsResource document) c.in_err-content_of.field-0.0
    (λ resource is. (resource.payload, is.payload))
    (subst (λ (found : Option Data). IsRefusal (IsContentOf (get_member (codes "text") document) found) c.in_err-content_of.field-0.0) c.value_at-hex.ensures
    (subst (λ (found : Option Data). IsRefusal (IsContentOf found (option_map (λ (value : Bor Value). view value.now) c.value_at-hex.result)) c.in_err-content_of.field-0.0) c.value_at-text.ensures c.in_err-content_of.ensures)))
