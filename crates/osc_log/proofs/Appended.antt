-- What a writer has, one text after another, and what a log put there.
use Rattle.std.proofs.Common.{◌≡◌, ◌≤◌, ◌<◌, ◌+◌, ◌++◌, ◌∙◌, inl, inr, ℕ, List, [], ◌∷◌, Option, Some, None, ap, refl, subst, sym, append_assoc, append-nil, arith, count_by, length, max, min, ◌==◌}
use Rattle.std.specs.Io.KnownBytes.{Appends, Keeps}
use Rattle.osc_model.specs.declared.node.Moment.{Moment}
use Rattle.osc_log.specs.Counters.{more}
use Rattle.osc_log.specs.Output.{Admits, Puts, Written, lines_left, none_dropped}
use Rattle.osc_log.specs.declared.form.Form.{Form}

pub appends_none : (w : Option (List ℕ)) → Appends w w []
appends_none None = tt
appends_none (Some xs) = sym (append-nil xs)

pub appends_more : (a b c : Option (List ℕ)) (some more : List ℕ) → Appends a b some → Appends b c more → Appends a c (some ++ more)
appends_more None b c some more p q = tt
appends_more (Some xs) None c some more p q = absurd p
appends_more (Some xs) (Some ys) None some more p q = absurd q
appends_more (Some xs) (Some ys) (Some zs) some more p q = q ∙ ap (λ bytes. bytes ++ more) p ∙ append_assoc xs some more

pub appends_this : (a b : Option (List ℕ)) (text line : List ℕ) → Appends a b text → text ≡ line → Appends a b line
appends_this a b text line p e = subst (Appends a b) e p

pub appends_kept : (a b c : Option (List ℕ)) (text : List ℕ) → Keeps a b → Appends b c text → Appends a c text
appends_kept None b c text p q = tt
appends_kept (Some xs) None c text p q = absurd p
appends_kept (Some xs) (Some ys) None text p q = absurd q
appends_kept (Some xs) (Some ys) (Some zs) text p q = q ∙ ap (λ bytes. bytes ++ text) p

pub kept_appends : (a b : Option (List ℕ)) → Keeps a b → Appends a b []
kept_appends None b p = tt
kept_appends (Some xs) None p = absurd p
kept_appends (Some xs) (Some ys) p = p ∙ sym (append-nil xs)

-- ---- what was put

-- nothing was dropped by then, nor before
more_none : (count some : ℕ) → more count some ≡ 0 → (count ≡ 0) × (some ≡ 0)
more_none count some e = (omega (arith, e), omega (arith, e))

left_none : (left : List ℕ) → lines_left left ≡ 0 → left ≡ []
left_none [] e = refl
left_none (byte ∷ bytes) e = absurd (omega (arith, e))

pub puts_all : (old new : Written) (text : List ℕ) → Puts old new text → new.dropped ≡ 0 → (old.dropped ≡ 0) × Appends old.text new.text text
puts_all old new text p none =
    let parts = more_none old.dropped (lines_left p.left) (sym p.dropped ∙ none) in
    let whole = p.parts ∙ ap (λ left. p.put ++ left) (left_none p.left parts.1) ∙ append-nil p.put in
    (parts.0, subst (Appends old.text new.text) (sym whole) p.appends)

pub puts_none : (text : List ℕ) → Puts (none_dropped None) (none_dropped None) text
puts_none text = record { put = text; left = []; parts = sym (append-nil text); appends = tt; dropped = refl; admitted = refl }

-- ---- what was admitted

pub admits_none : (form : Form) (now : Moment) (old new : Written) → Admits form now old new → new.dropped ≡ 0 → (old.dropped ≡ 0) × (new ≡ old)
admits_none form now old new (inl same) none = (ap (λ (w : Written). w.dropped) (sym same.1) ∙ none, same.1)
admits_none form now old new (inr told) none = absurd (omega (arith, told.0, told.1.dropped, none))

pub admits_some : (form : Form) (now : Moment) (old new : Written) → Admits form now old new → (text : List ℕ) × Appends old.text new.text text
admits_some form now old new (inl same) = ([], subst (λ (w : Written). Appends old.text w.text []) (sym same.1) (appends_none old.text))
admits_some form now old new (inr told) = (told.1.put, told.1.appends)
