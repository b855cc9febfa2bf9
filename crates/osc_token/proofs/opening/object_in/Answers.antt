use Rattle.std.proofs.Common.{ap, ◌∙◌, sym, subst}
use Rattle.osc_cose.specs.{IsObject}
use Rattle.osc_cose.specs.declared.error.ParseEncrypt0Error.TheVariants.{Memory}
use Rattle.osc_token.specs.{without_cwt_tag}
use Rattle.osc_token.proofs.OpeningLemmas.{only_of}
use Rattle.osc_token.proofs.opening.object_in.Goals as goal

pub returns-in-Some-clause-only : goal.returns-in-Some-clause-only
returns-in-Some-clause-only c =
    let found = rw c.in-Some.is at c.whole.ensures in
    λ d object whole is_object.
    let same = sym (c.without_cwt_tag.ensures ∙ ap without_cwt_tag (found.1 d whole)) in
    only_of object Memory c.object_of.result c.object_found.result c.object_found.ensures.answer c.object_found.ensures.memory
    (c.object_of.ensures.only object (subst (λ x. IsObject x object) same is_object))
