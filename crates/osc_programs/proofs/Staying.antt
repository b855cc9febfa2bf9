-- A client that stays: one request after another, and what was told of them.
use Rattle.std.proofs.Common.{◌≡◌, ◌∙◌, ◌+◌, ◌<◌, ◌≤◌, ℕ, Bool, true, false, ◌&&◌, not, is_none, is_some, List, [], ◌∷◌, ◌++◌, length, get_or, take, take_all, Option, Some, None, ap, ap₂, append-nil, sym, refl, subst}
use Rattle.std.specs.Prelude.{flat_map, if◌then◌else◌}
use Rattle.std.specs.List.{list_all}
use Rattle.std.proofs.lemmas.Grind.{flat_map-append}
use Rattle.std.proofs.lemmas.List.{take_more}
use Rattle.std.proofs.lemmas.List.Folds.{list_all-append}
use Rattle.osc_model.specs.declared.request.Request.{Request}
use Rattle.osc_model.specs.declared.step.ClientResult.TheVariants as learnt
use Rattle.osc_turn.specs.Running.{Running}
use Rattle.osc_client.specs.State.{State as Client}
use Rattle.osc_programs.specs.{Passed, then_passed}
use Rattle.osc_programs.specs.Conversation.{ended_by_outcome, outcome_text}
use Rattle.osc_programs.specs.Staying.{Attended, Progress, Stays, ended_by_ends, ended_with, ends_text, is_answered_well, more, skipped}
use Rattle.osc_programs.specs.declared.asking.AskEnd.{AskEnd}
use Rattle.osc_programs.specs.declared.asking.AskEnd.TheVariants.{Told, Open}
use Rattle.osc_programs.specs.declared.ended.Ended.{Ended}
use Rattle.osc_programs.specs.declared.ended.Ended.TheVariants.{Done, BadLine, NotDone}
use Rattle.osc_programs.specs.declared.requests.LineEnd.{LineEnd}
use Rattle.osc_programs.specs.declared.requests.Manner.{Manner}

-- ---- one line more

pub stays_skipped : (manner : Manner) (first last : Progress) (items : List (Option Request)) (i : ℕ) (d : Option Request) → i < length items
    → get_or items i d ≡ None → Stays manner first (take i items) last → Stays manner first (take (i + 1) items) last
stays_skipped manner first last items i d lt e so_far =
    subst (λ (before : List (Option Request)). Stays manner first before last)
    (sym (take_more items i d lt ∙ ap (λ (item : Option Request). take i items ++ item ∷ []) e)) (skipped (take i items) last so_far)

pub stays_more : (manner : Manner) (first between : Progress) (items : List (Option Request)) (i : ℕ) (d : Option Request) (request : Request) (end : LineEnd) (passed : Passed)
    (client : Running Client) (due : ℕ) (stale : Bool) → i < length items → get_or items i d ≡ Some request → Stays manner first (take i items) between
    → Attended manner request between.client between.due between.stale end passed client due stale
    → Stays manner first (take (i + 1) items)
    (record { client = client; due = due; stale = stale; ends = between.ends ++ end ∷ []; passed = then_passed between.passed passed })
stays_more manner first between items i d request end passed client due stale lt e so_far attended =
    let last : Progress = record { client = client; due = due; stale = stale; ends = between.ends ++ end ∷ []; passed = then_passed between.passed passed } in
    subst (λ (before : List (Option Request)). Stays manner first before last)
    (sym (take_more items i d lt ∙ ap (λ (item : Option Request). take i items ++ item ∷ []) e))
    (more (take i items) request between end passed client due stale so_far attended)

-- all of them
pub stays_all : (manner : Manner) (first last : Progress) (items : List (Option Request)) (i : ℕ) → length items ≤ i → Stays manner first (take i items) last
    → Stays manner first items last
stays_all manner first last items i le so_far = subst (λ (all : List (Option Request)). Stays manner first all last) (take_all i items le) so_far

-- ---- what is told

pub text_more : (ends : List LineEnd) (end : LineEnd) → ends_text (ends ++ end ∷ []) ≡ ends_text ends ++ outcome_text end.outcome
text_more ends end =
    flat_map-append (λ (end : LineEnd). outcome_text end.outcome) ends (end ∷ []) ∙ ap (λ (text : List ℕ). ends_text ends ++ text) (append-nil (outcome_text end.outcome))

well : AskEnd → Ended
well outcome = if is_answered_well outcome then Done else NotDone

same_end : (outcome : AskEnd) → ended_by_outcome outcome ≡ well outcome
unfolding well
same_end (Told learnt.Made) = refl
same_end (Told (learnt.Answer reply)) = refl
same_end (Told (learnt.Unverified code)) = refl
same_end (Told learnt.TimedOut) = refl
same_end (Told (learnt.Refused number)) = refl
same_end Open = refl

both : (a b : Bool) → (if a && b then Done else NotDone) ≡ (if b then (if a then Done else NotDone) else NotDone)
both true true = refl
both true false = refl
both false true = refl
both false false = refl

ends_more : (ends : List LineEnd) (end : LineEnd)
    → ended_by_ends (ends ++ end ∷ []) ≡ (if is_answered_well end.outcome then ended_by_ends ends else NotDone)
ends_more ends end =
    ap (λ (all : Bool). if all then Done else NotDone) (list_all-append (λ (end : LineEnd). is_answered_well end.outcome) ends (end ∷ []) ∙ one)
    ∙ both (list_all (λ (end : LineEnd). is_answered_well end.outcome) ends) (is_answered_well end.outcome)
  where
    one_of : (a b : Bool) → (a && (b && true)) ≡ (a && b)
    one_of true true = refl
    one_of true false = refl
    one_of false true = refl
    one_of false false = refl

    one : (list_all (λ (end : LineEnd). is_answered_well end.outcome) ends && list_all (λ (end : LineEnd). is_answered_well end.outcome) (end ∷ []))
        ≡ (list_all (λ (end : LineEnd). is_answered_well end.outcome) ends && is_answered_well end.outcome)
    one = one_of _ _

pub ended_more : (ends : List LineEnd) (end : LineEnd) (before after : Ended) (answered : Bool) → before ≡ ended_by_ends ends
    → answered ≡ is_answered_well end.outcome → after ≡ ended_with before answered → after ≡ ended_by_ends (ends ++ end ∷ [])
ended_more ends end before after answered e f g = g ∙ ap₂ (λ (ended : Ended) (b : Bool). ended_with ended b) e f ∙ sym (ends_more ends end)

pub is_well : (outcome : AskEnd) → Done ≡ ended_by_outcome outcome → true ≡ is_answered_well outcome
unfolding well
is_well outcome done = go (is_answered_well outcome) refl
  where
    go : (b : Bool) → b ≡ is_answered_well outcome → true ≡ is_answered_well outcome
    go true is = is
    go false is =
        let both : Done ≡ NotDone = done ∙ same_end outcome ∙ ap (λ (b : Bool). if b then Done else NotDone) (sym is) in absurd cc

pub is_no_well : (outcome : AskEnd) → NotDone ≡ ended_by_outcome outcome → false ≡ is_answered_well outcome
unfolding well
is_no_well outcome done = go (is_answered_well outcome) refl
  where
    go : (b : Bool) → b ≡ is_answered_well outcome → false ≡ is_answered_well outcome
    go false is = is
    go true is =
        let both : NotDone ≡ Done = done ∙ same_end outcome ∙ ap (λ (b : Bool). if b then Done else NotDone) (sym is) in absurd cc

pub line_is : (k n : ℕ) → BadLine k ≡ BadLine n → k ≡ n
line_is k n e = cc
