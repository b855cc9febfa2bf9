use Rattle.std.proofs.Common.{◌≡◌, ℕ, ◌+◌, ◌*◌, List, ◌++◌, length, sym, ap, ◌∙◌, arith}
use Rattle.osc_coap.specs.{kind_bits, header}
use Rattle.osc_coap.proofs.BuildLaws.{header_built, spelling-bare}
use Rattle.osc_coap.proofs.written.write_start.Goals as goal

pub returns-clause-written : goal.returns-clause-written
returns-clause-written c =
    let token = c.args.token.now in
    let first : 64 + 16 * c.bits.result + length token ≡ 64 + 16 * kind_bits c.args.kind + length token = ap (λ (b : ℕ). 64 + 16 * b + length token) c.bits.ensures.value in
    let front : c.push_reserved-4.new.self.items ≡ header c.args.kind c.args.code c.args.id (length token) =
    rw (c.push_reserved-4.ensures.items, c.push_reserved-3.ensures.items, c.push_reserved-2.ensures.items, c.push_reserved.ensures.items, c.requires.empty, first) (header_built c.args.kind c.args.code c.args.id (length token) (omega arith)) in
    let all : c.extend_from_slice.new.self.items ≡ c.push_reserved-4.new.self.items ++ token = rw c.unwrap.ensures at c.extend_from_slice.ensures.items in
    all ∙ ap (λ (t : List ℕ). t ++ token) front ∙ sym (spelling-bare c.args.kind c.args.code c.args.id token)
