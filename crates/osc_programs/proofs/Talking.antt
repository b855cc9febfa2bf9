-- What is known of some value, and a client's turns.
use Rattle.std.proofs.Common.{◌≡◌, ◌∙◌, ◌+◌, ◌-◌, ◌^◌, ◌<◌, ◌≤◌, ◌≢◌, ◌⊎◌, ℕ, suc, inr, List, [], ◌++◌, Option, Some, None, Result, Ok, Err, IfOk, refl, sym, subst, ap, ap₂, append_assoc, append-nil, arith}
use Rattle.std.specs.Option.{IfSome}
use Rattle.std.specs.Prelude.{min}
use Rattle.osc_model.specs.declared.step.ClientResult.{ClientResult}
use Rattle.osc_model.specs.declared.node.Moment.{Moment}
use Rattle.osc_model.specs.declared.step.Step.{Step}
use Rattle.osc_client.specs.{acts_at, IsStep}
use Rattle.osc_client.specs.State.{State as Client}
use Rattle.osc_model.specs.declared.request.Request.{Request}
use Rattle.osc_model.specs.declared.step.ClientResult.TheVariants.{Made, Answer, Unverified, TimedOut, Refused}
use Rattle.osc_simulation.specs.{is_sealing}
use Rattle.osc_turn.specs.{Received}
use Rattle.osc_programs.specs.{GoesOn, GoesOnBy, Passed, Requests, Upshot, Waits, at_once, nothing_passed, told, still, then_passed, turns, TakesTurn}
use Rattle.osc_turn.specs.Running.{Running}
use Rattle.osc_programs.specs.Conversation.{IsOver, time_of}
use Rattle.osc_programs.specs.declared.asking.AskEnd.{AskEnd}
use Rattle.osc_programs.specs.declared.asking.AskEnd.TheVariants.{Told, Open}

pub some_more : {X : Type 0} (o : Option X) (P Q : X → Type 0) → ((x : X) → P x → Q x) → IfSome o P → IfSome o Q
some_more None P Q more known = tt
some_more (Some x) P Q more known = more x known

pub then_joined : (a b c : Passed) → then_passed (then_passed a b) c ≡ then_passed a (then_passed b c)
then_joined a b c = ap₂ (λ received sent. record { received = received; sent = sent }) (append_assoc a.received b.received c.received) (append_assoc a.sent b.sent c.sent)

pub then_nothing : (a : Passed) → then_passed a nothing_passed ≡ a
then_nothing a = ap₂ (λ received sent. record { received = received; sent = sent }) (append-nil a.received) (append-nil a.sent)

-- The outcome of the turns that are left, from this client on, is that of all turns from the first one on, after what passed so far.
abbrev pub GoOn : ℕ → ℕ → ℕ → Running Client → Running Client → Passed → Type 0
GoOn until most left first now passed =
    (outcome : AskEnd) (rest : ℕ) (last : Running Client) (more : Passed)
    → Waits until left None now (record { passed = more; outcome = outcome }) rest last
    → Waits until most None first (record { passed = then_passed passed more; outcome = outcome }) rest last

pub starts : (until most : ℕ) (first : Running Client) → GoOn until most (most - 0) first first nothing_passed
starts until most first outcome rest last more waits =
    let all : most - 0 ≡ most = omega arith in
    subst (λ (n : ℕ). Waits until n None first (record { passed = more; outcome = outcome }) rest last) all waits

-- one turn more, and then these
pub one_turn : (until left rest : ℕ) (now next last : Running Client) (received : List (Option Received)) (step : Step) (outcome : AskEnd) (more : Passed)
    → time_of now < until → TakesTurn acts_at (IsStep is_sealing) now received step next
    → Waits until left step.notes.result next (record { passed = more; outcome = outcome }) rest last
    → Waits until (suc left) None now (record { passed = then_passed (record { received = received; sent = step.out }) more; outcome = outcome }) rest last
one_turn until left rest now next last received step outcome more early turn waits =
    turns left rest now next last received step (record { passed = more; outcome = outcome }) early turn waits

-- a turn by which nothing was learnt
pub goes_on : (until most taken : ℕ) (first now next : Running Client) (passed : Passed) (received : List (Option Received)) (step : Step) → taken < most
    → time_of now < until → TakesTurn acts_at (IsStep is_sealing) now received step next → step.notes.result ≡ None → GoOn until most (most - taken) first now passed
    → GoOn until most (most - (taken + 1)) first next (then_passed passed (record { received = received; sent = step.out }))
goes_on until most taken first now next passed received step lt early turn none so_far outcome rest last more waits =
    let left = most - (taken + 1) in
    let same : suc left ≡ most - taken = omega (arith, lt) in
    let own : Passed = record { received = received; sent = step.out } in
    let here = one_turn until left rest now next last received step outcome more early turn
    (subst (λ (learnt : Option ClientResult). Waits until left learnt next (record { passed = more; outcome = outcome }) rest last) (sym none) waits) in
    subst (λ (all : Passed). Waits until most None first (record { passed = all; outcome = outcome }) rest last) (sym (then_joined passed own more))
    (so_far outcome rest last (then_passed own more)
    (subst (λ (n : ℕ). Waits until n None now (record { passed = then_passed own more; outcome = outcome }) rest last) same here))

-- one by which something was
pub learns : (until most taken left : ℕ) (first now next : Running Client) (passed : Passed) (received : List (Option Received)) (step : Step) (result : ClientResult) → taken < most
    → left ≡ most - taken - 1 → time_of now < until → TakesTurn acts_at (IsStep is_sealing) now received step next → step.notes.result ≡ Some result
    → GoOn until most (most - taken) first now passed
    → Waits until most None first (record { passed = then_passed passed (record { received = received; sent = step.out }); outcome = Told result }) left next
learns until most taken left first now next passed received step result lt e early turn is so_far =
    let same : suc left ≡ most - taken = omega (arith, lt, e) in
    let own : Passed = record { received = received; sent = step.out } in
    let here = one_turn until left left now next next received step (Told result) nothing_passed early turn
    (subst (λ (learnt : Option ClientResult). Waits until left learnt next (at_once (Told result)) left next) (sym is) (told left next result)) in
    subst (λ (all : Passed). Waits until most None first (record { passed = then_passed passed all; outcome = Told result }) left next) (then_nothing own)
    (so_far (Told result) left next (then_passed own nothing_passed)
    (subst (λ (n : ℕ). Waits until n None now (record { passed = then_passed own nothing_passed; outcome = Told result }) left next) same here))

-- no further turn may be begun
pub still_open : (until most taken left : ℕ) (first now : Running Client) (passed : Passed) → left ≡ most - taken → IsOver until left now
    → GoOn until most (most - taken) first now passed → Waits until most None first (record { passed = passed; outcome = Open }) left now
still_open until most taken left first now passed e over so_far =
    let all = so_far Open left now nothing_passed (subst (λ (n : ℕ). Waits until n None now (at_once Open) left now) e (still left now over)) in
    subst (λ (all : Passed). Waits until most None first (record { passed = all; outcome = Open }) left now) (then_nothing passed) all

-- the time of a client is this moment's
pub is_early : (until : ℕ) (now : Moment) (ms : ℕ) → now.ms ≡ ms → now.ms < until → ms < until
is_early until now ms e lt = subst (λ (n : ℕ). n < until) e lt

pub is_late : (until left : ℕ) (now : Moment) (ms : ℕ) → now.ms ≡ ms → until ≤ now.ms → (left ≡ 0) ⊎ (until ≤ ms)
is_late until left now ms e le = inr (subst (λ (n : ℕ). until ≤ n) e le)

-- whatever else than a context is last
pub is_last : (until left : ℕ) (request : Request) (result : ClientResult) (client : Running Client) → result ≢ Made
    → GoesOnBy until left request result client (at_once (Told result)) client
is_last until left request Made client n = absurd (n refl)
is_last until left request (Answer reply) client n = (refl, refl)
is_last until left request (Unverified code) client n = (refl, refl)
is_last until left request TimedOut client n = (refl, refl)
is_last until left request (Refused number) client n = (refl, refl)

pub both_ok : {T E : Type 0} (r : Result T E) (P Q R : T → Type 0) → ((x : T) → P x → Q x → R x) → IfOk r P → IfOk r Q → IfOk r R
both_ok (Ok x) P Q R both p q = both x p q
both_ok (Err e) P Q R both p q = tt

-- ---- what was learnt, under another name

pub waits_as : (until left : ℕ) (learnt other : Option ClientResult) (first : Running Client) (upshot : Upshot) (rest : ℕ) (last : Running Client)
    → learnt ≡ other → Waits until left other first upshot rest last → Waits until left learnt first upshot rest last
waits_as until left learnt other first upshot rest last e waits = subst (λ (l : Option ClientResult). Waits until left l first upshot rest last) (sym e) waits

-- the time from which on a client begins no further turn that began to wait at a moment
pub ends_so : (millis : ℕ) (now : Moment) (ms until : ℕ) → now.ms ≡ ms → until ≡ min (now.ms + millis) (2 ^ 64 - 1) → until ≡ min (ms + millis) (2 ^ 64 - 1)
ends_so millis now ms until at is = is ∙ ap (λ (n : ℕ). min (n + millis) (2 ^ 64 - 1)) at

-- the same by other numbers
pub waits_so : (until other left most : ℕ) (learnt : Option ClientResult) (first : Running Client) (upshot : Upshot) (rest : ℕ) (last : Running Client)
    → until ≡ other → left ≡ most → Waits until left learnt first upshot rest last → Waits other most learnt first upshot rest last
waits_so until other left most learnt first upshot rest last e f waits =
    subst (λ (u : ℕ). Waits u most learnt first upshot rest last) e (subst (λ (n : ℕ). Waits until n learnt first upshot rest last) f waits)

pub goes_so : (until other left : ℕ) (request : Request) (exchanged : AskEnd) (old : Running Client) (upshot : Upshot) (new : Running Client)
    → until ≡ other → GoesOn until left request exchanged old upshot new → GoesOn other left request exchanged old upshot new
goes_so until other left request exchanged old upshot new e goes = subst (λ (u : ℕ). GoesOn u left request exchanged old upshot new) e goes

pub made_goes : (until left : ℕ) (request : Request) (result : ClientResult) (old : Running Client) (upshot : Upshot) (new : Running Client)
    → result ≡ Made → Requests until left request old upshot new → GoesOnBy until left request result old upshot new
made_goes until left request result old upshot new e asked = subst (λ (r : ClientResult). GoesOnBy until left request r old upshot new) (sym e) asked

pub told_goes : (until left : ℕ) (request : Request) (exchanged : AskEnd) (result : ClientResult) (old : Running Client) (upshot : Upshot) (new : Running Client)
    → exchanged ≡ Told result → GoesOnBy until left request result old upshot new → GoesOn until left request exchanged old upshot new
told_goes until left request exchanged result old upshot new e goes = subst (λ (x : AskEnd). GoesOn until left request x old upshot new) (sym e) goes

pub open_goes : (until left : ℕ) (request : Request) (exchanged : AskEnd) (client : Running Client) → exchanged ≡ Open
    → GoesOn until left request exchanged client (at_once Open) client
open_goes until left request exchanged client e = subst (λ (x : AskEnd). GoesOn until left request x client (at_once Open) client) (sym e) (refl, refl)
