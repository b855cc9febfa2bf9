use Rattle.std.proofs.Common.{◌≡◌, ◌∙◌, sym, ap, subst, ℕ, List, Some}
use Rattle.std.proofs.lemmas.Option.{same_Some}
use Rattle.osc_protect.specs.{SealedRequest, Compressed, SpellsValue}
use Rattle.osc_protect.proofs.laws.one_request.Goals as goal

abbrev said_by : SealedRequest → Compressed
said_by r = record { partial_iv = Some r.number; kid_context = r.kid_context; kid = Some r.kid }

pub returns : goal.returns
returns c = λ m a b is others.
    let bytes : others.bytes ≡ is.bytes = same_Some others.bytes is.bytes (sym others.option ∙ is.option) in
    let same : said_by a ≡ said_by b = c.one_value.ensures is.bytes (said_by a) (said_by b) is.says.spelled (subst (λ (t : List ℕ). SpellsValue t (said_by b)) bytes others.says.spelled) in
    let number : a.number ≡ b.number = same_Some a.number b.number (ap (λ (v : Compressed). v.partial_iv) same) in
    let kid : a.kid ≡ b.kid = same_Some a.kid b.kid (ap (λ (v : Compressed). v.kid) same) in
    let context : a.kid_context ≡ b.kid_context = ap (λ (v : Compressed). v.kid_context) same in
    let sealed : a.sealed ≡ b.sealed = same_Some a.sealed b.sealed (sym is.says.payload ∙ others.says.payload) in
    λ i. record { number = number i; kid = kid i; kid_context = context i; sealed = sealed i }
