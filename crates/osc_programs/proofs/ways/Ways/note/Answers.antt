use Rattle.std.proofs.Common.{◌≡◌, ◌∙◌, ℕ, List, Some, is_some, length, ap, sym, arith}
use Rattle.indexmap.specs.Layout.{length-set_value_at}
use Rattle.indexmap.specs.IndexMap.{spare}
use Rattle.std.specs.Map.{lookup}
use Rattle.osc_model.specs.Peer.{same_peer}
use Rattle.osc_model.specs.declared.node.Peer.{Peer}
use Rattle.osc_programs.specs.Heard.{Heard, heard_at, with_heard}
use Rattle.osc_programs.proofs.Hearings.{heard_again, heard_first, is_found, one_peer, renumbered}
use Rattle.osc_programs.proofs.ways.Ways.note.Goals as goal

pub invariant_of-self : goal.invariant_of-self
invariant_of-self c =
    let long : length c.renumber.new.heard.entries ≡ length c.self.inside.recent.entries =
    ap (λ m. length m.entries) c.renumber.ensures ∙ length-set_value_at c.self.inside.recent.entries c.in-Some.index c.args.number in
    let room : spare c.renumber.new.heard ≡ spare c.self.inside.recent = ap (λ m. spare m) c.renumber.ensures in
    (omega (arith, long, room, c.self.invariant.0), c.self.invariant.1)

pub returns-in-Some-clause-noted : goal.returns-in-Some-clause-noted
returns-in-Some-clause-noted c =
    heard_again c.args.peer c.args.number c.self.inside.recent.entries c.self.inside.earlier.entries c.renumber.new.heard.entries
    (sym c.get_index_of.ensures.found ∙ ap is_some c.in-Some.is)
    (ap (λ m. m.entries) c.renumber.ensures
    ∙ renumbered c.args.peer c.args.number c.self.inside.recent.entries c.in-Some.index (sym c.get_index_of.ensures.index ∙ c.in-Some.is))
    ∙ ap (with_heard c.args.peer c.args.number) c.self.view_is

pub returns-in-Some-clause-known : goal.returns-in-Some-clause-known
returns-in-Some-clause-known c =
    ap (λ (heard : Heard). heard_at heard c.args.peer) (returns-in-Some-clause-noted c) ∙ is_found c.args.peer c.args.number (one_peer c.args.peer) c.args.self.now

pub returns-in-None-clause-known : goal.returns-in-None-clause-known
returns-in-None-clause-known c =
    ap (λ (heard : Heard). heard_at heard c.args.peer)
    (c.note_new.ensures
    ∙ heard_first c.args.peer c.args.number c.args.self.now (ap (λ (heard : Heard). is_some (lookup (same_peer c.args.peer) heard.recent)) (sym c.self.view_is)
    ∙ sym c.get_index_of.ensures.found
    ∙ ap is_some c.in-None.is))
    ∙ is_found c.args.peer c.args.number (one_peer c.args.peer) c.args.self.now
