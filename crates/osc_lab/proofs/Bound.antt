-- Where the nodes are at first.
use Rattle.std.proofs.Common.{◌≡◌, ◌∙◌, ◌+◌, ◌<◌, ◌≤◌, ℕ, List, [], ◌∷◌, ◌++◌, length, take, get_or, map, Option, ap, refl, subst, sym, append_assoc, append-nil, take_all}
use Rattle.std.proofs.lemmas.List.{map_push, take_more}
use Rattle.osc_model.specs.declared.node.Peer.{Peer}
use Rattle.osc_world.specs.declared.nodes.Placed.{Placed}
use Rattle.osc_lab.specs.{AreAt, IsAt}
use Rattle.osc_lab.specs.Inner.Telling.{AreBound, IsBound}
use Rattle.osc_lab.specs.declared.port.Known.{Known}
use Rattle.osc_lab.specs.declared.ports.PacedPort.{PacedPort}

module _ {P : Type 0} (opened : P → Type 0) (listens : P → Peer → Type 0) where
  one_at_more : (all : List Known) (ports : List (PacedPort P)) (known : Known) (port : PacedPort P) → AreAt opened listens all ports → IsAt opened listens known port
      → AreAt opened listens (all ++ known ∷ []) (ports ++ port ∷ [])
  one_at_more [] [] known port are is = (is, tt)
  one_at_more [] (p ∷ ports) known port are is = absurd are
  one_at_more (k ∷ all) [] known port are is = absurd are
  one_at_more (k ∷ all) (p ∷ ports) known port are is = (are.0, one_at_more all ports known port are.1 is)

  pub bound_none : (sockets : List Known) (ports : List (PacedPort P)) → ports ≡ [] → AreBound opened listens [] sockets sockets ports
  bound_none sockets ports e = record {
    all = [];
    named = refl;
    are_at = subst (λ (all : List (PacedPort P)). AreAt opened listens [] all) (sym e) tt;
    added = sym (append-nil sockets);
  }

  -- one node more
  pub bound_more : {N : Type 0} (nodes : List (Placed N)) (i : ℕ) (d placed : Placed N) (before between after : List Known) (ports more : List (PacedPort P)) (port : PacedPort P)
      → i < length nodes → placed ≡ get_or nodes i d → AreBound opened listens (map (λ one. one.at) (take i nodes)) before between ports
      → IsBound opened listens placed.at between after port → more ≡ ports ++ port ∷ []
      → AreBound opened listens (map (λ one. one.at) (take (i + 1) nodes)) before after more
  bound_more nodes i d placed before between after ports more port lt there so_far one e =
      let places : map (λ (node : Placed _). node.at) (take (i + 1) nodes) ≡ map (λ (node : Placed _). node.at) (take i nodes) ++ placed.at ∷ [] =
      ap (map (λ (node : Placed _). node.at)) (take_more nodes i d lt) ∙ map_push (λ (node : Placed _). node.at) (take i nodes) (get_or nodes i d)
      ∙ ap (λ (node : Placed _). map (λ (one : Placed _). one.at) (take i nodes) ++ node.at ∷ []) (sym there) in
      record {
        all = so_far.all ++ one.known ∷ [];
        named = map_push (λ (known : Known). known.script) so_far.all one.known ∙ ap (λ (scripts : List Peer). scripts ++ one.known.script ∷ []) so_far.named
            ∙ ap (λ (script : Peer). map (λ (node : Placed _). node.at) (take i nodes) ++ script ∷ []) one.named ∙ sym places;
        are_at = subst (λ (all : List (PacedPort P)). AreAt opened listens (so_far.all ++ one.known ∷ []) all) (sym e)
            (one_at_more so_far.all ports one.known port so_far.are_at one.is_at);
        added = one.added ∙ ap (λ (sockets : List Known). sockets ++ one.known ∷ []) so_far.added ∙ append_assoc before so_far.all (one.known ∷ []);
      }

  pub bound_all : {N : Type 0} (nodes : List (Placed N)) (i : ℕ) (before after : List Known) (ports : List (PacedPort P)) → length nodes ≤ i
      → AreBound opened listens (map (λ one. one.at) (take i nodes)) before after ports → AreBound opened listens (map (λ one. one.at) nodes) before after ports
  bound_all nodes i before after ports le are =
      subst (λ (all : List (Placed _)). AreBound opened listens (map (λ (one : Placed _). one.at) all) before after ports) (take_all i nodes le) are

-- the server, then the proxies, then the clients
pub all_added : (first second third last : List Known) (server : Known) (proxies clients : List Known) → first ≡ [] → second ≡ first ++ server ∷ [] → third ≡ second ++ proxies
    → last ≡ third ++ clients → last ≡ server ∷ (proxies ++ clients)
all_added first second third last server proxies clients none one more all =
    all ∙ ap (λ (known : List Known). known ++ clients) (more ∙ ap (λ (known : List Known). known ++ proxies) (one ∙ ap (λ (known : List Known). known ++ server ∷ []) none))
