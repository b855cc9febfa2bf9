use Rattle.std.proofs.Common.{◌≡◌, ◌↔◌, Bool, true, false, IsTrue, arith, inl, inr, length, refl, rules, subst, sym}
use Rattle.std.proofs.lemmas.Bool.{false≢true}
use Rattle.sqlite_wal.specs.Format.{IsSigned}
use Rattle.sqlite_wal.specs.Recovery.{header}
use Rattle.sqlite_wal.proofs.PartLemmas.{held_is_part}
use Rattle.osc_store.proofs.damage.is_log.Goals as goal

not_never : (b : Bool) (P : Type 0) → (IsTrue b ↔ P) → ¬ (¬ P) → IsTrue b
not_never true P is never = refl
not_never false P is never = absurd (never (λ p. false≢true (is.1 p)))

pub returns-clause-ok : goal.returns-clause-ok
returns-clause-ok g c clean =
    let log = g.D.Disk.seen c.args.log.now in
    let buf = c.read_at.new.buf in
    let len : length buf ≡ 32 = search rules in
    let long = c.in_ok-len.ensures.len (c.read_at.ensures.clean clean) in
    let room = c.if-branch-lt-FRAMED_LOG.false in
    let head : header log ≡ buf = held_is_part log _ 0 32 (rw (← c.len.ensures.seen) (c.in_ok-read_at.ensures.read clean (omega arith))) len in
    let signed = c.is_signed.ensures in (
      λ yes ignored. elim ignored [
        | inl short ↦ absurd (omega (arith, long, room, short))
        | inr unsigned ↦ unsigned (subst IsSigned (sym head) (signed.0 yes))
      ],
      λ counts. not_never c.is_signed.result (IsSigned buf) signed (λ unsigned. counts (inr (λ s. unsigned (subst IsSigned head s)))),
    )
