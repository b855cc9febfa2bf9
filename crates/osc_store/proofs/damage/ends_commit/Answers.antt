use Rattle.std.proofs.Common.{◌≡◌, ◌≢◌, ◌≤◌, ◌<◌, ◌↔◌, ◌+◌, ◌*◌, ◌%◌, ◌^◌, ◌∙◌, ℕ, Bool, IsTrue, List, ap, arith, length, subst, sym}
use Rattle.std.proofs.lemmas.Bool.{false≢true}
use Rattle.std.proofs.lemmas.Result.{IfOk-weaker as ok_weaker}
use Rattle.sqlite_wal.specs.Format.{be32}
use Rattle.sqlite_wal.specs.PageSize.{bytes_of}
use Rattle.sqlite_wal.specs.Recovery.{frame_at}
use Rattle.osc_store.proofs.DamageLemmas.{ends_by, no_end, no_salt, place_of}
use Rattle.osc_store.proofs.damage.ends_commit.Goals as goal

abbrev place : ℕ → ℕ → ℕ → ℕ
place at size k = (((at * (24 + size)) % 2 ^ 64 + 32) % 2 ^ 64 + k) % 2 ^ 64

place_is : (at size bytes n k : ℕ) → bytes ≡ size → 512 ≤ bytes → frame_at size at + (24 + size) ≤ n → n < 2 ^ 64 → k ≤ 24 → place at bytes k ≡ frame_at size at + k
place_is at size bytes n k value large within few low =
    place_of at bytes n k large (subst (λ s. frame_at s at + (24 + s) ≤ n) (sym value) within) few low ∙ ap (λ s. frame_at s at + k) value

pub returns-then-not-commits-clause-ok : goal.returns-then-not-commits-clause-ok
returns-then-not-commits-clause-ok g c clean within =
    let log = g.D.Disk.seen c.args.log.now in
    let size = bytes_of c.args.size in
    let bytes = c.bytes.result in
    let value = c.bytes.ensures.value in
    let smallest = c.args.size.smallest in
    let large : 512 ≤ bytes = omega (arith, value, smallest) in
    let few = c.in_ok-commits.ensures.fits clean in
    let is = place_is c.args.at size bytes (length log) 4 value large within few (omega arith) in (
      λ yes. absurd (false≢true yes),
      λ ends. absurd (no_end size log c.args.at (place c.args.at bytes 4) c.in_ok-commits.commits is (c.in_ok-commits.ensures.ok clean) c.if-not-commits.true ends),
    )

pub returns-then-not-has_salt-clause-ok : goal.returns-then-not-has_salt-clause-ok
returns-then-not-has_salt-clause-ok g c clean within =
    let log = g.D.Disk.seen c.args.log.now in
    let size = bytes_of c.args.size in
    let bytes = c.bytes.result in
    let value = c.bytes.ensures.value in
    let smallest = c.args.size.smallest in
    let large : 512 ≤ bytes = omega (arith, value, smallest) in
    let first = c.is_other_than_0.ensures.same in
    let few = c.in_ok-commits.ensures.fits (c.are_equal.ensures.same.clean clean) in
    let at = place c.args.at bytes 8 in
    let is = place_is c.args.at size bytes (length log) 8 value large within few (omega arith) in
    let tells = subst (λ (l : List ℕ). at + 4 ≤ length l → 20 ≤ length l → (IsTrue c.in_ok-has_salt.has_salt ↔ (be32 l at ≡ be32 l 16))) first.seen (c.in_ok-has_salt.ensures.ok clean) in (
      λ yes. absurd (false≢true yes),
      λ ends. absurd (no_salt size log c.args.at at c.in_ok-has_salt.has_salt is tells c.if-not-has_salt.true ends),
    )

pub returns-clause-ok : goal.returns-clause-ok
returns-clause-ok g c =
    let log = g.D.Disk.seen c.args.log.now in
    let size = bytes_of c.args.size in
    let bytes = c.bytes.result in
    let value = c.bytes.ensures.value in
    let smallest = c.args.size.smallest in
    let large : 512 ≤ bytes = omega (arith, value, smallest) in
    let first = c.is_other_than_0.ensures.same in
    let second = c.are_equal.ensures.same in
    let third = c.are_equal-2.ensures.same in
    let commit = place c.args.at bytes 4 in
    let salt = place c.args.at bytes 8 in
    let other = place c.args.at bytes 12 in
    ok_weaker c.are_equal-2.result _ _ (λ b tells clean within.
    let early = third.clean clean in
    let few = c.in_ok-commits.ensures.fits (second.clean early) in
    let is = λ (k : ℕ) (low : k ≤ 24). place_is c.args.at size bytes (length log) k value large within few low in
    let salts = subst (λ (l : List ℕ). salt + 4 ≤ length l → 20 ≤ length l → (IsTrue c.in_ok-has_salt.has_salt ↔ (be32 l salt ≡ be32 l 16))) first.seen (c.in_ok-has_salt.ensures.ok early) in
    let others = subst (λ (l : List ℕ). other + 4 ≤ length l → 24 ≤ length l → (IsTrue b ↔ (be32 l other ≡ be32 l 20))) (second.seen ∙ first.seen) (tells clean) in
    ends_by size log c.args.at commit salt other c.in_ok-commits.commits c.in_ok-has_salt.has_salt b (is 4 (omega arith)) (is 8 (omega arith)) (is 12 (omega arith)) within
    (c.in_ok-commits.ensures.ok (second.clean early)) salts others c.if-not-commits.false c.if-not-has_salt.false) c.are_equal-2.ensures.ok
