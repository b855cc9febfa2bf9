use Rattle.std.proofs.Common.{subst, sym}
use Rattle.std.specs.Prelude.{IsOk}
use Rattle.std.specs.Str.{IsUtf8}
use Rattle.osc_log.proofs.Ascii.{shown_utf8}
use Rattle.osc_log.proofs.words.shown.Goals as goal

pub unreachable-requires : goal.unreachable-requires
unreachable-requires c =
    let valid = subst IsUtf8 (sym c.in_ok-shown_bytes.ensures) (shown_utf8 c.args.bytes.now) in
    let is_ok = subst IsOk c.in-Err.is (c.from_utf8.ensures.succeeds valid) in
    cc
