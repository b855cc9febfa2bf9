-- One more entry at the end of a history.
use Rattle.std.proofs.Common.{◌≡◌, ℕ, List, [], ◌∷◌, ◌++◌, Option, Result, refl}
use Rattle.std.specs.List.{AllByRecursion}
use Rattle.osc_model.specs.Tree.{Tree}
use Rattle.osc_model.specs.{MayReply, IsSameRequest, HasOwnNumbers, outcome_of, tree_after, effect, AreAnswered, IsInTime, IsLegal, MayFollow}
use Rattle.osc_model.specs.Grant.{Grant}
use Rattle.osc_model.specs.declared.code.Code.{Code}
use Rattle.osc_model.specs.declared.request.Request.{Request}
use Rattle.osc_model.specs.declared.step.Entry.{Entry}

-- what holds of each entry and of one more holds of all
all_push : (P : Entry → Type 0) (entries : List Entry) (entry : Entry) → AllByRecursion P entries → P entry → AllByRecursion P (entries ++ entry ∷ [])
all_push P [] entry earlier last = (last, tt)
all_push P (e ∷ entries) entry earlier last = (earlier.0, all_push P entries entry earlier.1 last)

-- numbers stay apart where the last is none of the others
numbers_push : (entries : List Entry) (entry : Entry) → HasOwnNumbers entries → AllByRecursion (λ other. ¬ IsSameRequest other entry) entries → HasOwnNumbers (entries ++ entry ∷ [])
numbers_push [] entry earlier last = (tt, tt)
numbers_push (e ∷ entries) entry earlier last =
    (all_push (λ other. ¬ IsSameRequest e other) entries entry earlier.0 last.0, numbers_push entries entry earlier.1 last.1)

module _ (read : List ℕ → Result Request Code) (root : Option (List ℕ)) (grants : List Grant) where
  pub effect_push : (tree : Tree) (entries : List Entry) (entry : Entry) → effect read root grants tree (entries ++ entry ∷ []) ≡ tree_after read root grants (effect read root grants tree entries) entry
  effect_push tree [] entry = refl
  effect_push tree (e ∷ entries) entry = effect_push (tree_after read root grants tree e) entries entry

  -- answered on the tree that the others leave
  answered_push : (tree : Tree) (entries : List Entry) (entry : Entry) → AreAnswered read root grants tree entries → MayReply (outcome_of read root grants (effect read root grants tree entries) entry) entry.reply → AreAnswered read root grants tree (entries ++ entry ∷ [])
  answered_push tree [] entry earlier last = (last, tt)
  answered_push tree (e ∷ entries) entry earlier last = (earlier.0, answered_push (tree_after read root grants tree e) entries entry earlier.1 last)

  pub legal_push : (first : Tree) (history : List Entry) (entry : Entry) → IsLegal read root grants first history → MayFollow read root grants first history entry → IsLegal read root grants first (history ++ entry ∷ [])
  legal_push first history entry legal more = record {
    once = numbers_push history entry legal.once more.once;
    timely = all_push (IsInTime read root grants) history entry legal.timely more.timely;
    answered = answered_push first history entry legal.answered more.answered;
  }
