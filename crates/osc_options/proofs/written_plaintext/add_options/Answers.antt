use Rattle.std.proofs.Common.{◌++◌, length, refl, ap, arith}
use Rattle.std.proofs.lemmas.Bool.{both_ways}
use Rattle.osc_coap.specs.{plaintext_spelling}
use Rattle.osc_coap.specs.Plaintext.{Plaintext}
use Rattle.osc_options.specs.{each, none_match_options, path_options, uint_options}
use Rattle.osc_options.proofs.AddLaws.{refused}
use Rattle.osc_options.proofs.WrittenPlaintextLaws.{conditions, grown, tags_front, conditions_front, path_front, format_front, last_tag, last_none_match, last_segment, last_uint}
use Rattle.osc_options.proofs.written_plaintext.add_options.Goals as goal

pub returns-in_err-add_tags-clause-variant : goal.returns-in_err-add_tags-clause-variant
returns-in_err-add_tags-clause-variant c =
    let front = tags_front c.length_of_plaintext.ensures c.args.plaintext.now c.args.request.now in
    refused c.from_residual.result c.from_residual.ensures.0 (λ fits. both_ways _ refl (c.in_err-add_tags.ensures.variant.1 (omega (arith, fits, front))))

pub add_none_match-requires-clause-order : goal.add_none_match-requires-clause-order
add_none_match-requires-clause-order c =
    let tags = last_tag c.options_in_parts.ensures.last c.args.plaintext.now c.add_tags.new.plaintext c.args.request.now.if_match c.in_ok-add_tags.ensures.ok c.requires.order in
    omega arith

pub returns-in_err-add_none_match-clause-variant : goal.returns-in_err-add_none_match-clause-variant
returns-in_err-add_none_match-clause-variant c =
    let old = c.args.plaintext.now in
    let r = c.args.request.now in
    let so_far = c.in_ok-add_tags.ensures.ok in
    let whole = grown old c.add_tags.new.plaintext _ (each 1 r.if_match) (none_match_options r.if_none_match) so_far refl in
    let front = conditions_front c.length_of_plaintext.ensures old r in
    let same = ap (λ (m : Plaintext). length (plaintext_spelling m)) whole in
    refused c.from_residual-in_err-add_none_match.result c.from_residual-in_err-add_none_match.ensures.0 (λ fits. both_ways _ refl (c.in_err-add_none_match.ensures.variant.1 (omega (arith, fits, front, same))))

pub add_path-requires-clause-order : goal.add_path-requires-clause-order
add_path-requires-clause-order c =
    let law = c.options_in_parts.ensures.last in
    let r = c.args.request.now in
    let tags = last_tag law c.args.plaintext.now c.add_tags.new.plaintext r.if_match c.in_ok-add_tags.ensures.ok c.requires.order in
    let none_match = last_none_match law c.add_tags.new.plaintext c.add_none_match.new.plaintext r.if_none_match c.in_ok-add_none_match.ensures.ok (omega arith) in
    omega arith

pub returns-in_err-add_path-clause-variant : goal.returns-in_err-add_path-clause-variant
returns-in_err-add_path-clause-variant c =
    let old = c.args.plaintext.now in
    let r = c.args.request.now in
    let so_far = grown old c.add_tags.new.plaintext c.add_none_match.new.plaintext (each 1 r.if_match) (none_match_options r.if_none_match) c.in_ok-add_tags.ensures.ok c.in_ok-add_none_match.ensures.ok in
    let whole = grown old c.add_none_match.new.plaintext _ (conditions r) (path_options r.path) so_far refl in
    let front = path_front c.length_of_plaintext.ensures old r in
    let same = ap (λ (m : Plaintext). length (plaintext_spelling m)) whole in
    refused c.from_residual-in_err-add_path.result c.from_residual-in_err-add_path.ensures.0 (λ fits. both_ways _ refl (c.in_err-add_path.ensures.variant.1 (omega (arith, fits, front, same))))

pub add_uint-requires-clause-order : goal.add_uint-requires-clause-order
add_uint-requires-clause-order c =
    let law = c.options_in_parts.ensures.last in
    let r = c.args.request.now in
    let tags = last_tag law c.args.plaintext.now c.add_tags.new.plaintext r.if_match c.in_ok-add_tags.ensures.ok c.requires.order in
    let none_match = last_none_match law c.add_tags.new.plaintext c.add_none_match.new.plaintext r.if_none_match c.in_ok-add_none_match.ensures.ok (omega arith) in
    let path = last_segment law c.add_none_match.new.plaintext c.add_path.new.plaintext r.path c.in_ok-add_path.ensures.ok (omega arith) in
    omega arith

pub returns-in_err-add_uint-clause-variant : goal.returns-in_err-add_uint-clause-variant
returns-in_err-add_uint-clause-variant c =
    let old = c.args.plaintext.now in
    let r = c.args.request.now in
    let so_far = grown old c.add_none_match.new.plaintext c.add_path.new.plaintext (conditions r) (path_options r.path)
    (grown old c.add_tags.new.plaintext c.add_none_match.new.plaintext (each 1 r.if_match) (none_match_options r.if_none_match) c.in_ok-add_tags.ensures.ok c.in_ok-add_none_match.ensures.ok)
    c.in_ok-add_path.ensures.ok in
    let whole = grown old c.add_path.new.plaintext _ (conditions r ++ path_options r.path) (uint_options 12 r.format) so_far refl in
    let front = format_front c.length_of_plaintext.ensures old r in
    let same = ap (λ (m : Plaintext). length (plaintext_spelling m)) whole in
    refused c.from_residual-in_err-add_uint.result c.from_residual-in_err-add_uint.ensures.0 (λ fits. both_ways _ refl (c.in_err-add_uint.ensures.variant.1 (omega (arith, fits, front, same))))

pub add_uint-requires-2-clause-order : goal.add_uint-requires-2-clause-order
add_uint-requires-2-clause-order c =
    let law = c.options_in_parts.ensures.last in
    let r = c.args.request.now in
    let tags = last_tag law c.args.plaintext.now c.add_tags.new.plaintext r.if_match c.in_ok-add_tags.ensures.ok c.requires.order in
    let none_match = last_none_match law c.add_tags.new.plaintext c.add_none_match.new.plaintext r.if_none_match c.in_ok-add_none_match.ensures.ok (omega arith) in
    let path = last_segment law c.add_none_match.new.plaintext c.add_path.new.plaintext r.path c.in_ok-add_path.ensures.ok (omega arith) in
    let format = last_uint law c.add_path.new.plaintext c.add_uint.new.plaintext 12 r.format c.in_ok-add_uint.ensures.ok (omega arith) in
    omega arith
