-- Each holder is answered as if alone: the others leave what the holder's grants name as it is.
use Rattle.std.proofs.Common.{◌≡◌, ◌≢◌, ◌==◌, ◌||◌, if◌then◌else◌, cond, ℕ, Bool, true, false, List, [], ◌∷◌, Option, Some, None, is_some, Result, IsSomeAnd, bytes_eq, refl, sym, ap, ◌∙◌, subst, inl, inr}
use Rattle.std.specs.List.{AllByRecursion, filter, find}
use Rattle.std.specs.FinMap as fin
use Rattle.std.proofs.lemmas.Slice.Eq.{bytes_eq-Decides}
use Rattle.osc_model.specs.Tree.{Tree}
use Rattle.osc_model.specs.{names, Outcome, MayReply, apply_read, IsTimely, grant_of, scope_of, outcome_of, tree_after, AreAnswered, IsInTime, IsLegal, held_by, HaveOwnSecrets, AreApart, HaveOwnPaths, answers, entries_under, machine_answers, is_for_want, AgreeUpToWant, numbers, IsIsolated}
use Rattle.osc_model.specs.Scope.{Scope}
use Rattle.osc_model.specs.Grant.{Grant}
use Rattle.osc_model.specs.declared.code.Code.{Code}
use Rattle.osc_model.specs.declared.context.ContextName.{ContextName}
use Rattle.osc_model.specs.declared.reply.Reply.{Reply}
use Rattle.osc_model.specs.declared.request.Request.{Request}
use Rattle.osc_model.specs.declared.step.Entry.{Entry}
use Rattle.osc_model.proofs.Locality.{Alike, alike, keeps_unnamed}

-- ---- the grant of a context, among all and among those that a client holds

-- a scope and another have no path in common, from either side
turned : (scope other : Scope) → AreApart scope other → AreApart other scope
turned scope other apart path named = by (names scope path) refl
  where
    by : (b : Bool) → names scope path ≡ b → names scope path ≡ false
    by true e = cc (named, apart path e)
    by false e = e

-- what holds of all holds of the one that is found, which passes the test
found : (P : Grant → Type 0) (test : Grant → Bool) (grants : List Grant) (grant : Grant) → AllByRecursion P grants → find test grants ≡ Some grant → P grant × (test grant ≡ true)
found P test [] grant all e = cc
found P test (x ∷ grants) grant all e = by (test x) refl e (λ f. found P test grants grant all.1 f)
  where
    by : (b : Bool) → test x ≡ b → cond b (Some x) (find test grants) ≡ Some grant → (find test grants ≡ Some grant → P grant × (test grant ≡ true)) → P grant × (test grant ≡ true)
    by true passes e later = let same : x ≡ grant = cc e in (subst P same all.0, ap test (sym same) ∙ passes)
    by false passes e later = later e

module _ (mine : Grant → Bool) where
  all_mine : (P : Grant → Type 0) (grants : List Grant) → AllByRecursion P grants → AllByRecursion P (filter mine grants)
  all_mine P [] all = tt
  all_mine P (x ∷ grants) all =
      elim (mine x) as (λ b. AllByRecursion P (cond b (x ∷ filter mine grants) (filter mine grants))) [
        | true ↦ (all.0, all_mine P grants all.1)
        | false ↦ all_mine P grants all.1
      ]

  -- one that is not found among mine is not mine
  not_mine : (test : Grant → Bool) (grants : List Grant) (other : Grant) → find test grants ≡ Some other → find test (filter mine grants) ≡ None → mine other ≡ false
  not_mine test [] other e none = cc
  not_mine test (x ∷ grants) other e none = by (test x) (mine x) refl refl e none (λ f n. not_mine test grants other f n)
    where
      by : (b m : Bool) → test x ≡ b → mine x ≡ m → cond b (Some x) (find test grants) ≡ Some other → find test (cond m (x ∷ filter mine grants) (filter mine grants)) ≡ None → (find test grants ≡ Some other → find test (filter mine grants) ≡ None → mine other ≡ false) → mine other ≡ false
      by true true passes own e none later = let none : Some x ≡ None = subst (λ b. cond b (Some x) (find test (filter mine grants)) ≡ None) passes none in cc
      by true false passes own e none later = let same : x ≡ other = cc e in ap mine (sym same) ∙ own
      by false true passes own e none later = later e (subst (λ b. cond b (Some x) (find test (filter mine grants)) ≡ None) passes none)
      by false false passes own e none later = later e none

  -- one of mine with a secret is the one with that secret
  one_of_all : (name : ContextName) (grants : List Grant) (grant : Grant) → HaveOwnSecrets grants → grant_of (filter mine grants) name ≡ Some grant → grant_of grants name ≡ Some grant
  one_of_all name [] grant own e = e
  one_of_all name (x ∷ grants) grant own e = by (bytes_eq x.secret name.secret) (mine x) refl e (λ f. one_of_all name grants grant own.1 f)
    where
      by : (b m : Bool) → bytes_eq x.secret name.secret ≡ b → grant_of (cond m (x ∷ filter mine grants) (filter mine grants)) name ≡ Some grant → (grant_of (filter mine grants) name ≡ Some grant → grant_of grants name ≡ Some grant) → cond b (Some x) (grant_of grants name) ≡ Some grant
      by true true passes e later = subst (λ b. cond b (Some x) (grant_of (filter mine grants) name) ≡ Some grant) passes e
      by true false passes e later =
          let there = found (λ other. other.secret ≢ x.secret) (λ other. bytes_eq other.secret name.secret) (filter mine grants) grant (all_mine _ grants own.0) e in
          absurd (there.0 ((bytes_eq-Decides grant.secret name.secret).0 there.1 ∙ sym ((bytes_eq-Decides x.secret name.secret).0 passes)))
      by false true passes e later = later (subst (λ b. cond b (Some x) (grant_of (filter mine grants) name) ≡ Some grant) passes e)
      by false false passes e later = later e

  -- what one of mine names, one that isn't mine doesn't
  apart_from_others : (here there : Grant → Bool) (grants : List Grant) (grant other : Grant) → HaveOwnPaths grants → find here (filter mine grants) ≡ Some grant → find there grants ≡ Some other → mine other ≡ false → AreApart grant.scope other.scope
  apart_from_others here there [] grant other own e f not = cc
  apart_from_others here there (x ∷ grants) grant other own e f not = by (mine x) (here x) (there x) refl refl e f (λ p q. apart_from_others here there grants grant other own.1 p q not)
    where
      by : (m h t : Bool) → mine x ≡ m → here x ≡ h → find here (cond m (x ∷ filter mine grants) (filter mine grants)) ≡ Some grant → cond t (Some x) (find there grants) ≡ Some other → (find here (filter mine grants) ≡ Some grant → find there grants ≡ Some other → AreApart grant.scope other.scope) → AreApart grant.scope other.scope
      by true h true is passes e f later = let same : x ≡ other = cc f in cc (is, not, ap mine same)
      by true true false is passes e f later =
          let same : Some x ≡ Some grant = subst (λ b. cond b (Some x) (find here (filter mine grants)) ≡ Some grant) passes e in
          let one : x ≡ grant = cc same in
          subst (λ (g : Grant). AreApart g.scope other.scope) one (found (λ o. AreApart x.scope o.scope) there grants other own.0 f).0
      by true false false is passes e f later =
          later (subst (λ b. cond b (Some x) (find here (filter mine grants)) ≡ Some grant) passes e) f
      by false h true is passes e f later =
          let one : x ≡ other = cc f in
          subst (λ (g : Grant). AreApart grant.scope g.scope) one
          (turned x.scope grant.scope (found (λ o. AreApart x.scope o.scope) here (filter mine grants) grant (all_mine _ grants own.0) e).0)
      by false h false is passes e f later = later e f

-- ---- one entry

-- an entry that isn't for want is answered alike
own_entry : (here there : Tree) (number : ℕ) (reply : Reply) (one other : Outcome) (more others : List (ℕ × Reply)) → Alike here there one other → MayReply one reply
    → (((path : List ℕ) → fin.get here path ≡ fin.get there path → fin.get (if reply.code.0 == 160 then here else one.tree) path ≡ fin.get other.tree path) → AgreeUpToWant more others)
    → AgreeUpToWant ((number, reply) ∷ more) ((number, other.reply) ∷ others)
own_entry here there number reply one other more others same (inl e) later = λ calm.
    let one_is = same (subst (λ r. is_for_want r other.reply ≡ false) e calm) in
    (e ∙ one_is.0, later (subst (λ b. (path : List ℕ) → fin.get here path ≡ fin.get there path → fin.get (if b then here else one.tree) path ≡ fin.get other.tree path) (sym (first_false (reply.code.0 == 160) (reply.code.0 == 163) (other.reply.code.0 == 163) calm)) one_is.1))
  where
    first_false : (a b c : Bool) → (a || b || c) ≡ false → a ≡ false
    first_false true b c e = cc
    first_false false b c e = refl
own_entry here there number reply one other more others same (inr e) later = λ calm.
    let never : true ≡ false = subst (λ r. is_for_want r other.reply ≡ false) e.0 calm in cc

-- a 5.00 leaves the tree, and what an outcome keeps stays
either : (b : Bool) (tree : Tree) (outcome : Outcome) (path : List ℕ) → fin.get outcome.tree path ≡ fin.get tree path → fin.get (if b then tree else outcome.tree) path ≡ fin.get tree path
either true tree outcome path e = refl
either false tree outcome path e = e

-- ---- a history

module _ (read : List ℕ → Result Request Code) (root : Option (List ℕ)) (grants : List Grant) (client : ℕ) (secrets : HaveOwnSecrets grants) (paths : HaveOwnPaths grants) where
  abbrev mine : Grant → Bool
  mine grant = grant.holder == client

  abbrev held : List Grant
  held = held_by client grants

  -- two trees are one where the client's grants name paths
  abbrev Near : Tree → Tree → Type 0
  Near here there = (name : ContextName) (grant : Grant) → grant_of held name ≡ Some grant → (path : List ℕ) → names grant.scope path ≡ true → fin.get here path ≡ fin.get there path

  pub isolated : (here there : Tree) (entries : List Entry) → Near here there → AllByRecursion (IsInTime read root grants) entries → AreAnswered read root grants here entries
      → AgreeUpToWant (answers (entries_under held entries)) (machine_answers read root held there (entries_under held entries))
  isolated here there [] near timely answered = tt
  isolated here there (entry ∷ entries) near timely answered =
      by (grant_of held entry.context) (grant_of grants entry.context) refl refl timely.0
      (λ here' there' near' answered'. isolated here' there' entries near' timely.1 answered')
    where
      -- an entry of the client's own, whose grant is that of its context among all
      of_own : (grant : Grant) → grant_of held entry.context ≡ Some grant
          → ((here' there' : Tree) → Near here' there' → AreAnswered read root grants here' entries → AgreeUpToWant (answers (entries_under held entries)) (machine_answers read root held there' (entries_under held entries)))
          → AgreeUpToWant (answers (entry ∷ entries_under held entries)) (machine_answers read root held there (entry ∷ entries_under held entries))
      of_own grant is later =
          let asked : Result Request Code = read entry.plaintext in
          let among_all : Some grant ≡ grant_of grants entry.context = sym (one_of_all mine entry.context grants grant secrets is) in
          let same : Alike here there (apply_read root here grant.scope asked) (apply_read root there grant.scope asked) =
          alike root here there grant.scope asked (λ q named. near entry.context grant is q named) in
          let same : Alike here there (outcome_of read root grants here entry) (apply_read root there grant.scope asked) =
          subst (λ g. Alike here there (apply_read root here (scope_of g) asked) (apply_read root there grant.scope asked)) among_all same in
          let same : Alike here there (outcome_of read root grants here entry) (outcome_of read root held there entry) =
          subst (λ g. Alike here there (outcome_of read root grants here entry) (apply_read root there (scope_of g) asked)) (sym is) same in
          own_entry here there entry.number entry.reply (outcome_of read root grants here entry) (outcome_of read root held there entry)
          (answers (entries_under held entries)) (machine_answers read root held (outcome_of read root held there entry).tree (entries_under held entries))
          same answered.0
          (λ kept. later (tree_after read root grants here entry) (outcome_of read root held there entry).tree (λ name g found q named. kept q (near name g found q named)) answered.1)

      -- an entry of another, which leaves what the client's grants name
      of_other : (other : Grant) → grant_of held entry.context ≡ None → grant_of grants entry.context ≡ Some other → Near (tree_after read root grants here entry) there
      of_other other none is name grant own q named =
          let far : AreApart grant.scope other.scope =
          apart_from_others mine (λ g. bytes_eq g.secret name.secret) (λ g. bytes_eq g.secret entry.context.secret) grants grant other paths own is
          (not_mine mine (λ g. bytes_eq g.secret entry.context.secret) grants other is none) in
          let unnamed : names (scope_of (grant_of grants entry.context)) q ≡ false = ap (λ g. names (scope_of g) q) is ∙ far q named in
          either (entry.reply.code.0 == 160) here (outcome_of read root grants here entry) q (keeps_unnamed root here (scope_of (grant_of grants entry.context)) (read entry.plaintext) q unnamed)
          ∙ near name grant own q named

      by : (own its : Option Grant) → grant_of held entry.context ≡ own → grant_of grants entry.context ≡ its → IsSomeAnd its (λ grant. IsTimely grant entry.moment)
          → ((here' there' : Tree) → Near here' there' → AreAnswered read root grants here' entries → AgreeUpToWant (answers (entries_under held entries)) (machine_answers read root held there' (entries_under held entries)))
          → AgreeUpToWant (answers (cond (is_some own) (entry ∷ entries_under held entries) (entries_under held entries)))
          (machine_answers read root held there (cond (is_some own) (entry ∷ entries_under held entries) (entries_under held entries)))
      by (Some grant) its is_own is_its timed later = of_own grant is_own later
      by None (Some other) is_own is_its timed later = later (tree_after read root grants here entry) there (of_other other is_own is_its) answered.1
      by None None is_own is_its timed later = absurd timed

-- one answer to each entry, under its number
one_each : (read : List ℕ → Result Request Code) (root : Option (List ℕ)) (grants : List Grant) (tree : Tree) (entries : List Entry) → numbers (answers entries) ≡ numbers (machine_answers read root grants tree entries)
one_each read root grants tree [] = refl
one_each read root grants tree (entry ∷ entries) = ap (λ ns. entry.number ∷ ns) (one_each read root grants (outcome_of read root grants tree entry).tree entries)

-- whoever the client is
pub each_isolated : (read : List ℕ → Result Request Code) (root : Option (List ℕ)) (grants : List Grant) (first : Tree) (history : List Entry) → HaveOwnSecrets grants → HaveOwnPaths grants → IsLegal read root grants first history → IsIsolated read root grants first history
each_isolated read root grants first history secrets paths legal client = record {
  requests = one_each read root (held_by client grants) first (entries_under (held_by client grants) history);
  replies = isolated read root grants client secrets paths first first history (λ name grant own path named. refl) legal.timely legal.answered;
}
