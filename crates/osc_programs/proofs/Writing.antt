-- What an output has: a text, or a beginning of it.
use Rattle.std.proofs.Common.{◌≡◌, ◌≤◌, ◌++◌, ◌∙◌, ℕ, List, [], Option, Some, None, drop, length, refl, subst, sym, take}
use Rattle.std.proofs.lemmas.List.{take-append-drop, take_all}
use Rattle.std.specs.Io.KnownBytes.{Appends, Keeps}
use Rattle.std.specs.Option.{IfSome}
use Rattle.osc_programs.specs.{IsBegun, IsBegunAfter}
use Rattle.osc_programs.proofs.Appended.{appends_more, appends_none}

-- so many bytes were taken
pub begun_by : (text : List ℕ) (taken : ℕ) (old new : Option (List ℕ)) → Appends old new (take taken text) → IsBegun text old new
begun_by text taken old new appends = record { put = take taken text; left = drop taken text; parts = sym (take-append-drop taken text); appends = appends }

-- all were
pub whole_by : (text : List ℕ) (taken : ℕ) (old new : Option (List ℕ)) → length text ≤ taken → Appends old new (take taken text) → Appends old new text
whole_by text taken old new all appends = subst (Appends old new) (take_all taken text all) appends

pub begun_none : (text : List ℕ) (same : Option (List ℕ)) → IsBegun text same same
begun_none text same = record { put = []; left = text; parts = refl; appends = appends_none same }

pub begun_after : (before text : List ℕ) (old between new : Option (List ℕ)) → Appends old between before → IsBegun text between new → IsBegunAfter before text old new
begun_after before text old between new first p =
    record { put = p.put; left = p.left; parts = p.parts; appends = appends_more old between new before p.put first p.appends }

pub appends_kept : (a b c : Option (List ℕ)) (text : List ℕ) → Appends a b text → Keeps b c → Appends a c text
appends_kept None b c text p q = tt
appends_kept (Some xs) None c text p q = absurd p
appends_kept (Some xs) (Some ys) None text p q = absurd q
appends_kept (Some xs) (Some ys) (Some zs) text p q = q ∙ p

pub always_some : (known : Option (List ℕ)) (P : List ℕ → Type 0) → ((bytes : List ℕ) → P bytes) → IfSome known P
always_some None P h = tt
always_some (Some bytes) P h = h bytes
