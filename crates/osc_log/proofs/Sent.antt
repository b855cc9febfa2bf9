-- What is told of what a turn sent, datagram by datagram.
use Rattle.std.proofs.Common.{◌≡◌, ◌<◌, ◌≤◌, ◌+◌, ◌∙◌, ℕ, List, ◌∷◌, ◌++◌, length, get_or, drop, ap, sym, append_assoc, append-nil}
use Rattle.std.proofs.lemmas.List.{drop_more, drop_all}
use Rattle.osc_model.specs.declared.step.Datagram.{Datagram}
use Rattle.osc_log.specs.Limits.{after_line}
use Rattle.osc_log.specs.Sent.{after_lines, told_by, told_of}
use Rattle.osc_log.specs.Turns.{Telling, Turn}
use Rattle.osc_log.specs.declared.limits.Limits.{Limits}

-- at place i of what a loop goes over
at_place : (out : List Datagram) (i : ℕ) (d : Datagram) → i < length out → d ≡ get_or out i d → drop i out ≡ d ∷ drop (i + 1) out
at_place out i d lt is = drop_more out i d lt ∙ ap (λ (x : Datagram). x ∷ drop (i + 1) out) (sym is)

pub told_next : (telling : Telling) (turn : Turn) (limits after : Limits) (so_far next all : List ℕ) (out : List Datagram) (i : ℕ) (d : Datagram) → i < length out → d ≡ get_or out i d
    → next ≡ so_far ++ told_of telling turn limits d → after ≡ after_line turn limits
    → so_far ++ told_by telling turn limits (drop i out) ≡ all → next ++ told_by telling turn after (drop (i + 1) out) ≡ all
told_next telling turn limits after so_far next all out i d lt is told is_after joined =
    let rest = told_by telling turn (after_line turn limits) (drop (i + 1) out) in
    rw (told, is_after) (append_assoc so_far (told_of telling turn limits d) rest
    ∙ sym (ap (λ (left : List Datagram). so_far ++ told_by telling turn limits left) (at_place out i d lt is)) ∙ joined)

pub told_last : (telling : Telling) (turn : Turn) (limits : Limits) (text all : List ℕ) (out : List Datagram) (i : ℕ) → length out ≤ i
    → text ++ told_by telling turn limits (drop i out) ≡ all → text ≡ all
told_last telling turn limits text all out i le joined =
    sym (append-nil text) ∙ sym (ap (λ (left : List Datagram). text ++ told_by telling turn limits left) (drop_all i out le)) ∙ joined

pub counts_next : (turn : Turn) (limits after all : Limits) (out : List Datagram) (i : ℕ) (d : Datagram) → i < length out → d ≡ get_or out i d → after ≡ after_line turn limits
    → after_lines turn limits (drop i out) ≡ all → after_lines turn after (drop (i + 1) out) ≡ all
counts_next turn limits after all out i d lt is is_after so_far =
    rw is_after (sym (ap (after_lines turn limits) (at_place out i d lt is)) ∙ so_far)

pub counts_last : (turn : Turn) (limits all : Limits) (out : List Datagram) (i : ℕ) → length out ≤ i → after_lines turn limits (drop i out) ≡ all → limits ≡ all
counts_last turn limits all out i le so_far = sym (ap (after_lines turn limits) (drop_all i out le)) ∙ so_far
