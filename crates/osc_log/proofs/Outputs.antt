-- What an output puts, by how much its writer took.
use Rattle.std.proofs.Common.{◌≡◌, ◌≢◌, ◌≤◌, ◌<◌, ◌+◌, ◌-◌, ◌^◌, ◌==◌, ◌++◌, ◌∙◌, ℕ, List, [], ◌∷◌, Option, ap, arith, cond, count_by, drop, length, max, min, refl, subst, sym, take, append_assoc, append-nil}
use Rattle.std.proofs.lemmas.List.{length-drop, take-append-drop, take_all}
use Rattle.std.proofs.lemmas.List.Sums.{sum_by-append}
use Rattle.std.specs.Io.KnownBytes.{Appends}
use Rattle.osc_model.specs.declared.node.Moment.{Moment}
use Rattle.osc_log.specs.Counters.{more}
use Rattle.osc_log.specs.Faults.{dropped_text}
use Rattle.osc_log.specs.LineEnd.{line}
use Rattle.osc_log.specs.Output.{Admitted, Puts, Written, admitted_by, lines_left}
use Rattle.osc_log.specs.Time.{IsTime}
use Rattle.osc_log.specs.declared.form.Form.{Form}
use Rattle.osc_log.proofs.Appended.{appends_more}

-- the first so many bytes were taken
pub puts_first : (old new : Written) (text : List ℕ) (taken : ℕ) → Appends old.text new.text (take taken text)
    → new.dropped ≡ more old.dropped (lines_left (drop taken text)) → new.admitted ≡ old.admitted → Puts old new text
puts_first old new text taken appends dropped admitted = record {
  put = take taken text;
  left = drop taken text;
  parts = sym (take-append-drop taken text);
  appends = appends;
  dropped = dropped;
  admitted = admitted;
}

-- a line's words were taken, and then its end, or not that
pub puts_ended : (old new : Written) (between : Option (List ℕ)) (words : List ℕ) (taken : ℕ) → taken ≡ length words
    → Appends old.text between (take taken words) → Puts (record old { text = between }) new (10 ∷ []) → Puts old new (line words)
puts_ended old new between words taken all appends p = record {
  put = words ++ p.put;
  left = p.left;
  parts = ap (λ end. words ++ end) p.parts ∙ sym (append_assoc words p.put p.left);
  appends = appends_more old.text between new.text words p.put (subst (Appends old.text between) (take_all taken words (omega (arith, all))) appends) p.appends;
  dropped = p.dropped;
  admitted = p.admitted;
}

-- what is left of a line whose words aren't all taken
left_of_line : (rest : List ℕ) → lines_left (line rest) ≡ count_by (λ b. b == 10) rest + 1
left_of_line [] = refl
left_of_line (byte ∷ rest) =
    let all = sum_by-append (λ b. cond (b == 10) 1 0) (byte ∷ rest) (10 ∷ []) in
    ap (λ n. max n 1) all ∙ omega arith

-- not all of its words were
pub puts_cut : (old new : Written) (words : List ℕ) (taken ended : ℕ) → Appends old.text new.text (take taken words)
    → ended ≡ min (count_by (λ b. b == 10) (drop taken words) + 1) (2 ^ 64 - 1) → new.dropped ≡ min (old.dropped + ended) (2 ^ 64 - 1)
    → new.admitted ≡ old.admitted → Puts old new (line words)
puts_cut old new words taken ended appends is_ended dropped admitted = record {
  put = take taken words;
  left = line (drop taken words);
  parts = sym (ap (λ all. all ++ 10 ∷ []) (take-append-drop taken words)) ∙ append_assoc (take taken words) (drop taken words) (10 ∷ []);
  appends = appends;
  dropped = dropped ∙ saturated old.dropped _ ended is_ended ∙ ap (more old.dropped) (sym (left_of_line (drop taken words)));
  admitted = admitted;
}
  where
    saturated : (count n ended : ℕ) → ended ≡ min n (2 ^ 64 - 1) → min (count + ended) (2 ^ 64 - 1) ≡ more count n
    saturated count n ended e = omega (arith, e)

-- what a slice to the end has
pub rest_is : (words : List ℕ) (taken : ℕ) → take (length words - taken) (drop taken words) ≡ drop taken words
rest_is words taken = take_all (length words - taken) (drop taken words) (omega (arith, length-drop taken words))

pub ended_by : (count lines ended : ℕ) → count ≡ lines → ended ≡ min (count + 1) (2 ^ 64 - 1) → ended ≡ min (lines + 1) (2 ^ 64 - 1)
ended_by count lines ended e p = omega (arith, e, p)

-- ---- how many were dropped

-- nothing is left of it
pub admitted_all : (form : Form) (now : Moment) (old new : Written) (time text : List ℕ) (taken : ℕ) → IsTime now time
    → text ≡ dropped_text form time (old.dropped - old.admitted) → taken ≡ length text → Appends old.text new.text (take taken text)
    → new.dropped ≡ old.dropped → new.admitted ≡ old.dropped → Admitted form now old new
admitted_all form now old new time text taken is_time is_text all appends dropped admitted = record {
  time = time;
  is_time = is_time;
  put = text;
  left = [];
  parts = sym is_text ∙ sym (append-nil text);
  appends = subst (Appends old.text new.text) (take_all taken text (omega (arith, all))) appends;
  dropped = dropped;
  admitted = admitted;
}

-- something is
left_some : (left : List ℕ) (old : Written) → 0 < length left → old.admitted ≡ admitted_by left old
left_some [] old some = absurd (omega (arith, some))
left_some (byte ∷ bytes) old some = refl

pub admitted_part : (form : Form) (now : Moment) (old new : Written) (time text : List ℕ) (taken : ℕ) → IsTime now time
    → text ≡ dropped_text form time (old.dropped - old.admitted) → taken ≤ length text → taken ≢ length text → Appends old.text new.text (take taken text)
    → new.dropped ≡ old.dropped → new.admitted ≡ old.admitted → Admitted form now old new
admitted_part form now old new time text taken is_time is_text within part appends dropped admitted = record {
  time = time;
  is_time = is_time;
  put = take taken text;
  left = drop taken text;
  parts = sym is_text ∙ sym (take-append-drop taken text);
  appends = appends;
  dropped = dropped;
  admitted = admitted ∙ left_some (drop taken text) old (omega (arith, within, part, length-drop taken text));
}
