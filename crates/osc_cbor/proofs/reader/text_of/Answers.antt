use Rattle.std.proofs.Common.{◌≡◌, true, false, refl}
use Rattle.std.proofs.lemmas.Bool.{false_from_ne_true}
use Rattle.std.proofs.lemmas.Str.{IsUtf8-from_is_utf8, is_utf8-from_IsUtf8}
use Rattle.std.specs.Str.{is_utf8}
use Rattle.osc_cbor.specs.{text_at}
use Rattle.osc_cbor.proofs.reader.text_of.Goals as goal

pub returns-in-Ok : goal.returns-in-Ok
unfolding text_at
returns-in-Ok c =
    let utf8 : is_utf8 c.in_ok-content.content.now ≡ true = is_utf8-from_IsUtf8 c.in_ok-content.content.now c.in-Ok.ensures.cases.1 in
    rw (c.in_ok-content.ensures, utf8, c.in-Ok.ensures.cases.0) refl

pub returns-in-Err : goal.returns-in-Err
unfolding text_at
returns-in-Err c =
    let other : is_utf8 c.in_ok-content.content.now ≡ false = false_from_ne_true _ (λ e. c.in-Err.ensures.cases.0 (IsUtf8-from_is_utf8 c.in_ok-content.content.now e)) in
    rw (c.in_ok-content.ensures, other) refl
