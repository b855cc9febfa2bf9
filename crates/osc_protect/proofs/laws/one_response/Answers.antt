use Rattle.std.proofs.Common.{◌≡◌, ◌∙◌, sym, ap, subst, ℕ, List}
use Rattle.std.proofs.lemmas.Option.{same_Some}
use Rattle.osc_protect.specs.{Compressed, SpellsValue}
use Rattle.osc_protect.proofs.laws.one_response.Goals as goal

pub returns : goal.returns
returns c = λ m a b is others.
    let first : Compressed = record { partial_iv = a.own; kid_context = is.kid_context; kid = is.kid } in
    let other : Compressed = record { partial_iv = b.own; kid_context = others.kid_context; kid = others.kid } in
    let bytes : others.bytes ≡ is.bytes = same_Some others.bytes is.bytes (sym others.option ∙ is.option) in
    let same : first ≡ other = c.one_value.ensures is.bytes first other is.spelled (subst (λ (t : List ℕ). SpellsValue t other) bytes others.spelled) in
    let own : a.own ≡ b.own = ap (λ (v : Compressed). v.partial_iv) same in
    let sealed : a.sealed ≡ b.sealed = same_Some a.sealed b.sealed (sym is.payload ∙ others.payload) in
    λ i. record { own = own i; sealed = sealed i }
