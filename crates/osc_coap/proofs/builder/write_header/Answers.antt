use Rattle.std.proofs.Common.{◌≡◌, ℕ, ◌+◌, ◌*◌, List, ◌++◌, length, refl, sym, ap, ◌∙◌, arith}
use Rattle.osc_coap.specs.{kind_bits, header}
use Rattle.osc_coap.proofs.BuildLaws.{header_built, spelling-bare}
use Rattle.osc_coap.proofs.builder.write_header.Goals as goal

pub returns : goal.returns
returns c =
    let first : 64 + 16 * c.bits.result + length c.args.token.now ≡ 64 + 16 * kind_bits c.args.kind + length c.args.token.now = ap (λ (b : ℕ). 64 + 16 * b + length c.args.token.now) c.bits.ensures.value in
    let front : c.push-4.new.self.items ≡ header c.args.kind c.args.code c.args.id (length c.args.token.now) =
    rw (c.push-4.ensures.items, c.push-3.ensures.items, c.push-2.ensures.items, c.push.ensures.items, c.requires.first, first) (header_built c.args.kind c.args.code c.args.id (length c.args.token.now) (omega arith)) in
    c.append.ensures ∙ ap (λ (t : List ℕ). t ++ c.args.token.now) front ∙ sym (spelling-bare c.args.kind c.args.code c.args.id c.args.token.now)
