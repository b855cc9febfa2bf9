-- Bytes that are one whole item, and what a read of them gives.
use Rattle.std.proofs.Common.{◌≡◌, ℕ, List, [], length, Ok, sym, ap, subst, ◌∙◌, arith}
use Rattle.std.proofs.lemmas.List.{append-nil, take_all}
use Rattle.osc_cbor.specs.{DataItem, item_at, any_item_at, Spells, Begins, IsWhole}
use Rattle.osc_cbor.proofs.Steps.{ok_is}
use Rattle.osc_cbor.proofs.AgainLaws.{item_again}
use Rattle.osc_cbor.proofs.AnyLaws.{item_too}

-- What begins the bytes, and takes all of them, is the whole.
pub whole_from_begins : (bytes : List ℕ) (d : DataItem) (n : ℕ) → Begins bytes d n → n ≡ length bytes → IsWhole bytes d
whole_from_begins bytes d n b e = record {
  spelled = subst (λ x. Spells x d) (take_all n bytes (omega arith)) b.spelled;
  shallow = b.shallow;
}

-- What is read of a whole item is this item.
pub whole_is_read : (bytes : List ℕ) (e : DataItem) (rest : List ℕ) → any_item_at 9 bytes ≡ Ok (e, rest) → (d : DataItem) → IsWhole bytes d → e ≡ d
whole_is_read bytes e rest read d w =
    let again : item_at 9 bytes ≡ Ok (d, []) = ap (item_at 9) (sym (append-nil bytes)) ∙ item_again 9 d bytes [] w.spelled (omega (arith, w.shallow)) in
    ap (λ (x : DataItem × List ℕ). x.0) (ok_is (e, rest) (d, []) (sym read ∙ item_too 9 bytes (d, []) again))
