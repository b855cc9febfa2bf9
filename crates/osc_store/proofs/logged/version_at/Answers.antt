use Rattle.std.proofs.Common.{◌≤◌, ◌+◌, ◌∙◌, ap, arith, length, subst, sym}
use Rattle.sqlite_wal.specs.Format.{be32}
use Rattle.sqlite_wal.specs.Recovery.{frame_at}
use Rattle.osc_store.proofs.LogLemmas.{place_is}
use Rattle.osc_store.proofs.logged.version_at.Goals as goal

pub returns-in-Some-clause-version : goal.returns-in-Some-clause-version
returns-in-Some-clause-version g c clean within =
    let log = g.D.Disk.seen c.args.log.now in
    let size = c.bytes.result in
    let value = c.bytes.ensures.value in
    let found = rw c.in-Some.is at (c.in_ok-version.ensures.some clean) in
    let large : 512 ≤ size = omega (arith, value, c.args.size.smallest) in
    let whole : frame_at size c.args.at + (24 + size) ≤ length log = subst (λ s. frame_at s c.args.at + (24 + s) ≤ length log) (sym value) within in
    found.1 ∙ ap (be32 log) (place_is c.args.at size (length log) large whole (c.in_ok-version.ensures.fits clean)) ∙ ap (λ s. be32 log (frame_at s c.args.at + 84)) value

pub returns-in-None-clause-version : goal.returns-in-None-clause-version
returns-in-None-clause-version g c clean within =
    let log = g.D.Disk.seen c.args.log.now in
    let size = c.bytes.result in
    let value = c.bytes.ensures.value in
    let none = c.in_ok-version.ensures.none clean c.in-None.is in
    let large : 512 ≤ size = omega (arith, value, c.args.size.smallest) in
    let whole : frame_at size c.args.at + (24 + size) ≤ length log = subst (λ s. frame_at s c.args.at + (24 + s) ≤ length log) (sym value) within in
    let is = place_is c.args.at size (length log) large whole (c.in_ok-version.ensures.fits clean) in
    absurd (omega (arith, none, is, whole, large))
