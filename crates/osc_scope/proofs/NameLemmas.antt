-- Names of methods, one after another, and the word after them.
use Rattle.std.proofs.Common.{◌≡◌, ◌≢◌, ℕ, zero, suc, ◌+◌, ◌<◌, Bool, true, false, List, [], ◌∷◌, ◌++◌, length, get_or, take, drop, map, refl, sym, ap, ◌∙◌, subst, append-nil, add-zero, codes, arith, Bor, Option, Some, None, IfSome, IfNone}
use Rattle.std.specs.List.{sum_by}
use Rattle.std.proofs.lemmas.List.{map-append, drop_more, append_cancel_right}
use Rattle.std.proofs.lemmas.Option.{IfSome_then}
use Rattle.std.proofs.Math.ListN.{take-append-drop}
use Rattle.std.proofs.lemmas.List.Sums.{sum_by_push}
use Rattle.osc_model.specs.declared.code.Method.{Method}
use Rattle.osc_scope.specs.{bit_of, has, Written, AreApart, name_of, below_word, parted_by, words_of, Names, Words}
use Rattle.osc_scope.proofs.Parting.{Lacks, cut, cut_more, some_part, parted_cut, parted_more}
use Rattle.osc_scope.proofs.MethodLemmas.{lacks_by, sub_is_no_name, one_name, lacks_method, has_method, apart_push, apart_before}

abbrev texts : List (Bor (List ℕ)) → List (List ℕ)
texts names = map (λ name. name.now) names

-- one name more
pub names_more : (names : List (Bor (List ℕ))) (name : Bor (List ℕ)) (mask : ℕ) (m : Method)
    → Names (texts names) mask → has mask m ≡ false → name.now ≡ name_of m → Names (texts (names ++ name ∷ [])) (mask + bit_of m)
names_more names name mask m n new is = record {
  methods = n.methods ++ m ∷ [];
  apart = apart_push n.methods m n.apart (lacks_method n.methods m n.apart (ap (λ x. has x m) (sym n.counted) ∙ new));
  spelled =
      map-append (λ (x : Bor (List ℕ)). x.now) names (name ∷ [])
      ∙ (λ i. n.spelled i ++ is i ∷ [])
      ∙ sym (map-append name_of n.methods (m ∷ []));
  counted = ap (λ x. x + bit_of m) n.counted ∙ sym (sum_by_push bit_of n.methods m);
}

-- a text that is no name
pub no_name : (all : List (List ℕ)) (k : ℕ) (name : List ℕ) → (k < length all) × (name ≡ get_or all k name)
    → ((m : Method) → name ≢ name_of m) → (methods : List Method) → all ≡ map name_of methods → ⊥
no_name [] k name (lt, is) none methods e = absurd (omega arith)
no_name (part ∷ all) k name (lt, is) none [] e = cc
no_name (part ∷ all) zero name (lt, is) none (m ∷ methods) e = none m (is ∙ cc)
no_name (part ∷ all) (suc k) name (lt, is) none (m ∷ methods) e = no_name all k name (omega arith, is) none methods cc

methods_at : (before : List Method) (m : Method) (rest : List (List ℕ)) (methods : List Method)
    → map name_of before ++ name_of m ∷ rest ≡ map name_of methods → (after : List Method) × (methods ≡ before ++ m ∷ after)
methods_at [] m rest [] e = cc
methods_at [] m rest (n ∷ methods) e =
    let same : m ≡ n = one_name m n cc in
    (methods, ap (λ x. x ∷ methods) (sym same))
methods_at (b ∷ before) m rest [] e = cc
methods_at (b ∷ before) m rest (n ∷ methods) e =
    let same : b ≡ n = one_name b n cc in
    let more = methods_at before m rest methods cc in
    (more.0, λ i. sym same i ∷ more.1 i)

-- a method that is named again
pub name_again : (all : List (List ℕ)) (names : List (Bor (List ℕ))) (name : List ℕ) (mask : ℕ) (m : Method)
    → Names (texts names) mask → has mask m ≡ true → name ≡ name_of m
    → texts names ≡ take (length names) all → (length names < length all) × (name ≡ get_or all (length names) name)
    → (methods : List Method) → AreApart methods → all ≡ map name_of methods → ⊥
name_again all names name mask m n there is so_far (lt, turn) methods apart e =
    let k = length names in
    let parts : all ≡ map name_of n.methods ++ name_of m ∷ drop (k + 1) all =
    sym (take-append-drop k all)
    ∙ (λ i. sym so_far i ++ drop_more all k name lt i)
    ∙ (λ i. n.spelled i ++ (sym turn ∙ is) i ∷ drop (k + 1) all) in
    let at = methods_at n.methods m (drop (k + 1) all) methods (sym parts ∙ e) in
    has_method n.methods m n.apart (ap (λ x. has x m) (sym n.counted) ∙ there)
    (apart_before n.methods at.0 m (subst AreApart at.1 apart))

-- ---- words: the names of methods, and SUB last or not

lacks_plus : Lacks 43 (codes "SUB")
lacks_plus = lacks_by 43 (codes "SUB") refl

sub_at_end : (names : List ℕ) → cut 43 (names ++ codes "+SUB") ≡ cut 43 names ++ codes "SUB" ∷ []
sub_at_end names = cut_more 43 names (codes "SUB") lacks_plus

some_methods : (parts : List (List ℕ)) (methods : List Method) → parts ≢ [] → parts ≡ map name_of methods → methods ≢ []
some_methods parts methods some spelled none = some (spelled ∙ ap (map name_of) none)

-- a text that ends with `+SUB`
pub words_below : (words names : List ℕ) (mask : ℕ) → words ≡ names ++ codes "+SUB" → Names (cut 43 names) mask → Words (cut 43 words) (mask + 16)
words_below words names mask is n = record {
  methods = n.methods;
  below = true;
  some = some_methods (cut 43 names) n.methods (some_part 43 names) n.spelled;
  apart = n.apart;
  spelled = ap (cut 43) is ∙ sub_at_end names ∙ ap (λ parts. parts ++ codes "SUB" ∷ []) n.spelled;
  counted = ap (λ set. set + 16) n.counted;
}

-- .. and one that doesn't
words_alone : (words : List ℕ) (mask : ℕ) → Names (cut 43 words) mask → Words (cut 43 words) mask
words_alone words mask n = record {
  methods = n.methods;
  below = false;
  some = some_methods (cut 43 words) n.methods (some_part 43 words) n.spelled;
  apart = n.apart;
  spelled = n.spelled ∙ sym (append-nil (map name_of n.methods));
  counted = n.counted ∙ sym (add-zero (sum_by bit_of n.methods));
}

sub_among_names : (parts : List (List ℕ)) (methods : List Method) → parts ++ codes "SUB" ∷ [] ≡ map name_of methods → ⊥
sub_among_names [] [] e = cc
sub_among_names [] (m ∷ methods) e = sub_is_no_name m (sym cc)
sub_among_names (part ∷ parts) [] e = cc
sub_among_names (part ∷ parts) (m ∷ methods) e = sub_among_names parts methods cc

-- what is before `+SUB` and is no names
pub no_words_below : (words names : List ℕ) → words ≡ names ++ codes "+SUB" → ((methods : List Method) → AreApart methods → ¬ (cut 43 names ≡ map name_of methods))
    → (entry : Written) → entry.methods ≢ [] → AreApart entry.methods → ¬ (cut 43 words ≡ words_of entry)
no_words_below words names is none entry some apart e = by entry.below (sym (sub_at_end names) ∙ ap (cut 43) (sym is) ∙ e)
  where
    by : (b : Bool) → cut 43 names ++ codes "SUB" ∷ [] ≡ map name_of entry.methods ++ below_word b → ⊥
    by true e = none entry.methods apart (append_cancel_right (cut 43 names) (map name_of entry.methods) (codes "SUB" ∷ []) e)
    by false e = sub_among_names (cut 43 names) entry.methods (e ∙ append-nil (map name_of entry.methods))

-- .. and what doesn't end so and is no names
no_words_alone : (words : List ℕ) → ((front : List ℕ) → words ≢ front ++ codes "+SUB") → ((methods : List Method) → AreApart methods → ¬ (cut 43 words ≡ map name_of methods))
    → (entry : Written) → entry.methods ≢ [] → AreApart entry.methods → ¬ (cut 43 words ≡ words_of entry)
no_words_alone words never none entry some apart e = by entry.below e
  where
    no_part : (ms : List Method) → ms ≢ [] → map name_of ms ≢ []
    no_part [] some e = some refl
    no_part (m ∷ ms) some e = cc

    by : (b : Bool) → cut 43 words ≡ map name_of entry.methods ++ below_word b → ⊥
    by true e =
        never (parted_by 43 (map name_of entry.methods))
        (sym (parted_cut 43 words) ∙ ap (parted_by 43) e ∙ parted_more 43 (map name_of entry.methods) (codes "SUB") (no_part entry.methods some))
    by false e = none entry.methods apart (e ∙ append-nil (map name_of entry.methods))

-- what was found, or not, where the text doesn't end with `+SUB`
pub each_alone : (words : List ℕ) (found : Option ℕ) → IfSome found (λ mask. Names (cut 43 words) mask) → IfSome found (λ mask. Words (cut 43 words) mask)
each_alone words found n = IfSome_then found n (λ mask. words_alone words mask)

pub none_alone : (words : List ℕ) (found : Option ℕ) → ((front : List ℕ) → words ≢ front ++ codes "+SUB")
    → IfNone found ((methods : List Method) → AreApart methods → ¬ (cut 43 words ≡ map name_of methods))
    → IfNone found ((entry : Written) → entry.methods ≢ [] → AreApart entry.methods → ¬ (cut 43 words ≡ words_of entry))
none_alone words None never none = no_words_alone words never none
none_alone words (Some mask) never none = tt
