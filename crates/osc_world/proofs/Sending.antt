-- What a step sends is kept.
use Rattle.std.proofs.Common.{◌≡◌, List, [], ◌∷◌, ◌++◌, length, map, refl, arith, ap, sym, ◌∙◌, append_assoc}
use Rattle.osc_model.specs.declared.node.Peer.{Peer}
use Rattle.osc_model.specs.declared.step.Datagram.{Datagram}
use Rattle.osc_world.specs.{sent_from}
use Rattle.osc_world.specs.declared.log.SentDatagram.{SentDatagram}

pub sent_more : (at : Peer) (old new : List SentDatagram) (one : SentDatagram) (datagram : Datagram) (rest later : List Datagram)
    → new ≡ old ++ one ∷ [] → rest ≡ datagram ∷ later → sent_from at datagram ≡ one
    → new ++ map (sent_from at) later ≡ old ++ map (sent_from at) rest
sent_more at old new one datagram rest later is split same =
    ap (λ xs. xs ++ map (sent_from at) later) is
    ∙ append_assoc old (one ∷ []) (map (sent_from at) later)
    ∙ ap (λ x. old ++ x ∷ map (sent_from at) later) (sym same)
    ∙ ap (λ r. old ++ map (sent_from at) r) (sym split)

pub no_items : {A : Type 0} (xs : List A) → length xs ≡ 0 → xs ≡ []
no_items [] e = refl
no_items (x ∷ xs) e = absurd (omega (arith, e))
