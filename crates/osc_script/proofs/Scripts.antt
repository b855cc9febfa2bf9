-- Lines one after another.
use Rattle.std.proofs.Common.{◌≡◌, ℕ, suc, Bool, true, false, Result, Err, ◌==◌, eqb-true, take_all, take-append-drop, drop-cons, add-one, ◌+◌, ◌-◌, ◌<◌, ◌≤◌, List, [], ◌∷◌, ◌++◌, length, get_or, take, drop, map, Bor, refl, sym, ap, subst, ◌∙◌, arith, append_assoc, append-nil}
use Rattle.std.proofs.lemmas.List.{take_more, map_push, map-append, nil_from_length}
use Rattle.osc_script.specs.declared.line.Line.{Line}
use Rattle.osc_script.specs.declared.read.ScriptError.{ScriptError}
use Rattle.osc_script.specs.declared.read.ScriptError.TheVariants.{BadLine}
use Rattle.osc_script.specs.{StandsFor, without_empty_last, lines_of, StandFor, IsScript, IsFirstBadIn}
use Rattle.osc_script.proofs.Said.{one_line}

-- a part that another follows isn't the last
first_stays : (part next : List ℕ) (parts : List (List ℕ)) → without_empty_last (part ∷ next ∷ parts) ≡ part ∷ without_empty_last (next ∷ parts)
first_stays [] next parts = refl
first_stays (b ∷ part) next parts = refl

pub trimmed : (parts : List (Bor (List ℕ))) (d : Bor (List ℕ)) → 1 ≤ length parts → (get_or parts (length parts - 1) d).now ≡ []
    → map (λ part. part.now) (take (length parts - 1) parts) ≡ without_empty_last (map (λ part. part.now) parts)
trimmed [] d le e = absurd (omega arith)
trimmed (p ∷ []) d le e = rw e refl
trimmed (p ∷ q ∷ parts) d le e =
    let rest = map (λ (part : Bor (List ℕ)). part.now) parts in
    let k : suc (suc (length parts)) - 1 ≡ suc (suc (length parts) - 1) = omega arith in
    let last : (get_or (q ∷ parts) (suc (length parts) - 1) d).now ≡ [] = sym (ap (λ (i : ℕ). (get_or (p ∷ q ∷ parts) i d).now) k) ∙ e in
    ap (λ (i : ℕ). map (λ (part : Bor (List ℕ)). part.now) (take i (p ∷ q ∷ parts))) k ∙ ap (λ (x : List (List ℕ)). p.now ∷ x) (trimmed (q ∷ parts) d (omega arith) last) ∙ sym (first_stays p.now q.now rest)

one_kept : (part : List ℕ) → (part ≡ [] → ⊥) → part ∷ [] ≡ without_empty_last (part ∷ [])
one_kept [] h = absurd (h refl)
one_kept (b ∷ part) h = refl

pub kept : (parts : List (Bor (List ℕ))) (d : Bor (List ℕ)) → 1 ≤ length parts → ((get_or parts (length parts - 1) d).now ≡ [] → ⊥)
    → map (λ part. part.now) parts ≡ without_empty_last (map (λ part. part.now) parts)
kept [] d le e = absurd (omega arith)
kept (p ∷ []) d le e = one_kept p.now e
kept (p ∷ q ∷ parts) d le e =
    let rest = map (λ (part : Bor (List ℕ)). part.now) parts in
    let k : suc (suc (length parts)) - 1 ≡ suc (suc (length parts) - 1) = omega arith in
    let last : (get_or (q ∷ parts) (suc (length parts) - 1) d).now ≡ [] → ⊥ = λ h. e (ap (λ (i : ℕ). (get_or (p ∷ q ∷ parts) i d).now) k ∙ h) in
    ap (λ (x : List (List ℕ)). p.now ∷ x) (kept (q ∷ parts) d (omega arith) last) ∙ sym (first_stays p.now q.now rest)

-- what the test of a length says
pub nil_if : (bytes : List ℕ) (empty : Bool) → empty ≡ (length bytes == 0) → empty ≡ true → bytes ≡ []
nil_if bytes empty e t = nil_from_length bytes (eqb-true (length bytes) 0 (sym e ∙ t))

pub no_nil_if : (bytes : List ℕ) (empty : Bool) → empty ≡ (length bytes == 0) → empty ≡ false → bytes ≡ [] → ⊥
no_nil_if bytes empty e f n =
    let yes_ : empty ≡ true = e ∙ rw n refl in
    absurd cc

-- one line more
pub one_more : (above : List Line) (texts : List (List ℕ)) (lines : List Line) (text : List ℕ) (line : Line) → StandFor above texts lines → StandsFor (above ++ lines) text line → StandFor above (texts ++ text ∷ []) (lines ++ line ∷ [])
one_more above [] [] text line s n = (subst (λ (ls : List Line). StandsFor ls text line) (append-nil above) n, tt)
one_more above [] (l ∷ lines) text line s n = absurd s
one_more above (t ∷ texts) [] text line s n = absurd s
one_more above (t ∷ texts) (l ∷ lines) text line s n = (s.0, one_more (above ++ l ∷ []) texts lines text line s.1 (subst (λ (ls : List Line). StandsFor ls text line) (sym (append_assoc above (l ∷ []) lines)) n))

pub as_many : (above : List Line) (texts : List (List ℕ)) (lines : List Line) → StandFor above texts lines → length texts ≡ length lines
as_many above [] [] s = refl
as_many above [] (l ∷ lines) s = absurd s
as_many above (t ∷ texts) [] s = absurd s
as_many above (t ∷ texts) (l ∷ lines) s = omega (arith, as_many (above ++ l ∷ []) texts lines s.1)

-- the texts up to place i, and the one there
take_one : (texts : List (Bor (List ℕ))) (i : ℕ) (d : Bor (List ℕ)) → i < length texts → map (λ text. text.now) (take (i + 1) texts) ≡ map (λ text. text.now) (take i texts) ++ (get_or texts i d).now ∷ []
take_one texts i d lt = ap (map (λ (text : Bor (List ℕ)). text.now)) (take_more texts i d lt) ∙ map_push (λ (text : Bor (List ℕ)). text.now) (take i texts) (get_or texts i d)

pub next_at : (texts : List (Bor (List ℕ))) (i : ℕ) (d : Bor (List ℕ)) (lines more : List Line) (line : Line) → i < length texts → StandsFor lines (get_or texts i d).now line → more ≡ lines ++ line ∷ []
    → StandFor [] (map (λ text. text.now) (take i texts)) lines → StandFor [] (map (λ text. text.now) (take (i + 1) texts)) more
next_at texts i d lines more line lt n e so_far = rw (e, take_one texts i d lt) (one_more [] (map (λ (text : Bor (List ℕ)). text.now) (take i texts)) lines (get_or texts i d).now line so_far n)

pub all_at : (texts : List (Bor (List ℕ))) (i : ℕ) (lines : List Line) → length texts ≤ i → StandFor [] (map (λ text. text.now) (take i texts)) lines → StandFor [] (map (λ text. text.now) texts) lines
all_at texts i lines le s = subst (λ (ts : List (Bor (List ℕ))). StandFor [] (map (λ (text : Bor (List ℕ)). text.now) ts) lines) (take_all i texts le) s

parted : (texts : List (Bor (List ℕ))) (i : ℕ) (d : Bor (List ℕ)) → i < length texts
    → map (λ text. text.now) texts ≡ map (λ text. text.now) (take i texts) ++ (get_or texts i d).now ∷ map (λ text. text.now) (drop (i + 1) texts)
parted texts i d lt =
    let behind : drop i texts ≡ get_or texts i d ∷ drop (i + 1) texts = rw (add-one, drop-cons texts i d) refl in
    ap (map (λ (text : Bor (List ℕ)). text.now)) (sym (take-append-drop i texts)) ∙ map-append (λ (text : Bor (List ℕ)). text.now) (take i texts) (drop i texts)
    ∙ ap (λ (ts : List (Bor (List ℕ))). map (λ (text : Bor (List ℕ)). text.now) (take i texts) ++ map (λ (text : Bor (List ℕ)). text.now) ts) behind

pub bad_is : {T : Type 0} (k n : ℕ) → ◌≡◌ {A = Result T ScriptError} (Err (BadLine k)) (Err (BadLine n)) → n ≡ k
bad_is k n e = cc

pub bad_at : (texts : List (Bor (List ℕ))) (i : ℕ) (d : Bor (List ℕ)) (lines : List Line) (n : ℕ) → i < length texts → ((line : Line) → ¬ StandsFor lines (get_or texts i d).now line) → n ≡ length lines + 1
    → StandFor [] (map (λ text. text.now) (take i texts)) lines → IsFirstBadIn (map (λ text. text.now) texts) n
bad_at texts i d lines n lt h e s = record {
  before = map (λ (text : Bor (List ℕ)). text.now) (take i texts);
  bad = (get_or texts i d).now;
  after = map (λ (text : Bor (List ℕ)). text.now) (drop (i + 1) texts);
  lines = lines;
  whole = parted texts i d lt;
  count = omega (arith, as_many [] (map (λ (text : Bor (List ℕ)). text.now) (take i texts)) lines s);
  good = s;
  nothing = h;
}

one_way : (above : List Line) (texts : List (List ℕ)) (lines others : List Line) → StandFor above texts lines → StandFor above texts others → lines ≡ others
one_way above [] [] [] s t = refl
one_way above [] [] (o ∷ others) s t = absurd t
one_way above [] (l ∷ lines) others s t = absurd s
one_way above (x ∷ texts) [] others s t = absurd s
one_way above (x ∷ texts) (l ∷ lines) [] s t = absurd t
one_way above (x ∷ texts) (l ∷ lines) (o ∷ others) s t =
    let same : l ≡ o = one_line x l o s.0.0 t.0.0 in
    let rest = one_way (above ++ l ∷ []) texts lines others s.1 (subst (λ (m : Line). StandFor (above ++ m ∷ []) texts others) (sym same) t.1) in
    cc

pub one_script_law : (text : List ℕ) (lines others : List Line) → IsScript text lines → IsScript text others → lines ≡ others
one_script_law text lines others s t = one_way [] (lines_of text) lines others s t
