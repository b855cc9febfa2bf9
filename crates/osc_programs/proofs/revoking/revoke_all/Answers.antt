use Rattle.std.proofs.Common.{◌≡◌, ◌∙◌, ℕ, List, ap, ap₂, arith, subst, sym, true}
use Rattle.std.proofs.lemmas.List.{take_all}
use Rattle.std.proofs.lemmas.List.Elements.{All-more}
use Rattle.std.proofs.lemmas.List.Sums.{fold_more}
use Rattle.osc_model.specs.{is_revoked}
use Rattle.osc_programs.specs.{AreRevoked, under_way, with_revoked_id}
use Rattle.osc_programs.proofs.Lasting.{cause_since, cause_under_way}
use Rattle.osc_programs.proofs.Placed.{all_still}
use Rattle.osc_programs.proofs.Stored.{unkept_no_end}
use Rattle.osc_programs.proofs.revoking.revoke_all.Goals as goal

pub loop-id-preserved : goal.loop-id-preserved
loop-id-preserved g c =
    let here = c.loop-id in
    let root = c.args.root.now in
    let one = c.in-Ok.ensures in (
      one.tree ∙ (ap₂ (with_revoked_id root) here.invariant.0 c.id-item.is ∙ sym (fold_more (with_revoked_id root) c.args.tree.now c.args.ids.now here.id-index _ c.loop-id-test.true)),
      All-more (λ (id : List ℕ). is_revoked root c.revoke.new.tree id ≡ true) c.args.ids.now here.id-index _ c.loop-id-test.true (all_still root here.tree c.revoke.new.tree _ one.stay here.invariant.1)
          (subst (λ (id : List ℕ). is_revoked root c.revoke.new.tree id ≡ true) c.id-item.is one.revoked),
      λ keeps. one.kept (here.invariant.2 keeps),
      omega (arith, here.invariant.3, c.revoke.ensures.counts),
      λ trust. here.invariant.4 (c.revoke.ensures.trust trust),
      c.revoke.ensures.file ∙ here.invariant.5,
    )

pub returns-in-Err-clause-stops : goal.returns-in-Err-clause-stops
returns-in-Err-clause-stops g c =
    let here = c.loop-id in
    let root = c.args.root.now in
    let ended = c.in-Err.ended in (
      here.tree,
      _,
      record {
        not_done = unkept_no_end ended c.in-Err.ensures.ends;
        revoked = here.id-index;
        few = omega (arith, c.loop-id-test.true);
        is_before = here.invariant.0;
        is_after = ap (under_way ended here.tree)
            (ap₂ (with_revoked_id root) here.invariant.0 c.id-item.is ∙ sym (fold_more (with_revoked_id root) c.args.tree.now c.args.ids.now here.id-index _ c.loop-id-test.true));
      },
      λ keeps. (
        c.in-Err.ensures.left (here.invariant.2 keeps),
        cause_since g.K.KeepsSteps.trusted g.K.KeepsSteps.faults _ _ _ _ _ ended here.invariant.3 (λ long. long)
            (cause_under_way g.K.KeepsSteps.trusted g.K.KeepsSteps.faults g.K.KeepsSteps.too_long ended here.tree _ _ _ (c.in-Err.ensures.cause (here.invariant.2 keeps))),
      ),
    )

pub returns-in-Err-clause-counts : goal.returns-in-Err-clause-counts
returns-in-Err-clause-counts g c = omega (arith, c.loop-id.invariant.3, c.revoke.ensures.counts)

pub returns-in-Err-clause-trust : goal.returns-in-Err-clause-trust
returns-in-Err-clause-trust g c = λ trust. c.loop-id.invariant.4 (c.revoke.ensures.trust trust)

pub returns-in-Err-clause-file : goal.returns-in-Err-clause-file
returns-in-Err-clause-file g c = c.revoke.ensures.file ∙ c.loop-id.invariant.5

pub returns-clause-revoked : goal.returns-clause-revoked
returns-clause-revoked g c =
    let here = c.loop-id in
    subst (AreRevoked c.args.root.now here.tree) (take_all here.id-index c.args.ids.now (omega (arith, c.loop-id-test.false))) here.invariant.1

pub returns-clause-counts : goal.returns-clause-counts
returns-clause-counts g c = c.loop-id.invariant.3

pub returns-clause-trust : goal.returns-clause-trust
returns-clause-trust g c = c.loop-id.invariant.4

pub returns-clause-file : goal.returns-clause-file
returns-clause-file g c = c.loop-id.invariant.5
