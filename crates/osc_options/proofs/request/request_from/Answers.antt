use Rattle.std.proofs.Common.{rules, ◌≡◌, ◌≤◌, ℕ, List, length, Option, map, sym, ap, subst, ◌∙◌, arith}
use Rattle.std.specs.Prelude.{IfSome, is_some}
use Rattle.std.specs.Option.{option_map}
use Rattle.osc_model.specs.{path_of}
use Rattle.osc_options.specs.{recognised, uint, value, values}
use Rattle.osc_options.proofs.RecognisedLaws.{value_within}
use Rattle.osc_options.proofs.OnePassLaws.{shown_within, shown_some, same_path}
use Rattle.osc_options.proofs.request.request_from.Goals as goal

pub uint_in-requires : goal.uint_in-requires
uint_in-requires c =
    let fields = c.args.fields in
    let short = value_within 12 2 0 c.requires.0 (omega arith) in
    shown_within (λ v. v.now) fields.format
    (subst (λ (found : Option (List ℕ)). IfSome found (λ bytes. length bytes ≤ 2)) (sym c.requires.1.format) short)

pub uint_in-requires-2 : goal.uint_in-requires-2
uint_in-requires-2 c =
    let fields = c.args.fields in
    let short = value_within 17 2 0 c.requires.0 (omega arith) in
    shown_within (λ v. v.now) fields.accept
    (subst (λ (found : Option (List ℕ)). IfSome found (λ bytes. length bytes ≤ 2)) (sym c.requires.1.accept) short)

pub returns : goal.returns
returns c = λ options said.
    let fields = c.args.fields in
    let segments : path_of (map (λ s. s.now) fields.segments.items) ≡ path_of (values 11 (recognised 0 options)) =
    same_path (map (λ s. s.now) fields.segments.items) (values 11 (recognised 0 options)) said.segments in
    let path : c.in_ok-from_segments.field-0 ≡ path_of (values 11 (recognised 0 options)) =
    c.in_ok-from_segments.ensures.path ∙ ap (λ s. path_of (map (λ s. s.now) s)) c.as_slice.ensures.value ∙ segments in
    let format : c.uint_in.result ≡ option_map uint (value 12 (recognised 0 options)) = c.uint_in.ensures ∙ ap (option_map uint) said.format in
    let accept : c.uint_in-2.result ≡ option_map uint (value 17 (recognised 0 options)) = c.uint_in-2.ensures ∙ ap (option_map uint) said.accept in
    let none : is_some fields.if_none_match ≡ is_some (value 5 (recognised 0 options)) = sym (shown_some (λ v. v.now) fields.if_none_match) ∙ ap is_some said.none_match in
    search rules
