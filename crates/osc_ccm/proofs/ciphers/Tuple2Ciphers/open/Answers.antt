use Rattle.std.proofs.Common.{sym, subst, ◌≡◌, ◌↔◌, ℕ, ◌-◌, ◌≤◌, List, length, Err, Result}
use Rattle.osc_ccm.specs.{IsInRange, Sealing, chosen_tag, chosen_sealing}
use Rattle.osc_ccm.specs.declared.error.OpenError.{OpenError}
use Rattle.osc_model.specs.declared.algorithm.Algorithm.{Algorithm}
use Rattle.osc_ccm.proofs.ciphers.Tuple2Ciphers.open.Goals as goal

abbrev IsOfNone : ℕ → Sealing → List ℕ → List ℕ → List ℕ → List ℕ → List ℕ → Type 0
IsOfNone tag sealing nonce aad sealed out key =
    IsInRange (length sealed - tag) (length aad) × (length sealed - tag ≤ length out) × ((text : List ℕ) → ¬ sealing key nonce aad text sealed)

pub returns-in-EightByteTag-clause-not_genuine : goal.returns-in-EightByteTag-clause-not_genuine
returns-in-EightByteTag-clause-not_genuine g c =
    let Clause : Algorithm → List ℕ → Type 0 = λ a key. (c.open.result ≡ Err OpenError.NotGenuine) ↔ IsOfNone (chosen_tag g.A.Aead.TAG g.B.Aead.TAG a) (chosen_sealing g.A.Aead.is_sealing g.B.Aead.is_sealing a) c.args.nonce.now c.args.aad.now c.args.sealed.now c.args.out.now key in
    subst (λ a. Clause a c.args.key.now) (sym c.in-EightByteTag.is) (subst (Clause Algorithm.EightByteTag) c.from_key.ensures c.open.ensures.not_genuine)

pub returns-in-SixteenByteTag-clause-not_genuine :
    goal.returns-in-SixteenByteTag-clause-not_genuine
returns-in-SixteenByteTag-clause-not_genuine g c =
    let Clause : Algorithm → List ℕ → Type 0 = λ a key. (c.open-in-SixteenByteTag.result ≡ Err OpenError.NotGenuine) ↔ IsOfNone (chosen_tag g.A.Aead.TAG g.B.Aead.TAG a) (chosen_sealing g.A.Aead.is_sealing g.B.Aead.is_sealing a) c.args.nonce.now c.args.aad.now c.args.sealed.now c.args.out.now key in
    subst (λ a. Clause a c.args.key.now) (sym c.in-SixteenByteTag.is) (subst (Clause Algorithm.SixteenByteTag) c.from_key-in-SixteenByteTag.ensures c.open-in-SixteenByteTag.ensures.not_genuine)
