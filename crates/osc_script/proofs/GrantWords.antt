-- Words say a grant exactly where one is read, and it is that one.
use Rattle.std.proofs.Common.{◌≡◌, ℕ, ◌≤◌, ◌<◌, true, false, List, [], ◌∷◌, ◌++◌, length, get_or, map, take, drop, Option, Some, None, Bor, codes, refl, sym, ap, subst, ◌∙◌, arith, bytes_eq, nat_le, leb-true, le-leb, take-append-drop, append-nil}
use Rattle.std.specs.Prelude.{IsTrue, ◌↔◌}
use Rattle.std.proofs.lemmas.Slice.Eq.{bytes_eq-Decides}
use Rattle.osc_cbor.specs.{array, spelling}
use Rattle.osc_model.specs.declared.algorithm.Algorithm.{Algorithm}
use Rattle.osc_model.specs.declared.algorithm.Algorithm.TheVariants.{EightByteTag, SixteenByteTag}
use Rattle.osc_scope.specs.{entry_items, Written, entry_of}
use Rattle.osc_token.specs.{most_claims, claims_item}
use Rattle.osc_token.specs.declared.claims.Claims.{Claims}
use Rattle.osc_script.specs.declared.client_name.ClientName.{ClientName}
use Rattle.osc_script.specs.declared.line.Line.{Line}
use Rattle.osc_script.specs.declared.line.Line.TheVariants.{Skipped, Put, Open, Revoked, Grant, Proxy, Via, At, Draw, Drop, Skip, Exchange, Ask, Tick, Restart, Deliver, Alter, Graft, Inject, Lie, Quiet}
use Rattle.osc_script.specs.{claims_of, client_name, SpellsNumber, SpellsScope, SpellsDate, SpellsAlgorithm, Say}
use Rattle.osc_script.specs.Inner.Reading.{◌>>=◌, number_in, date_in, one_date, dates_in, algorithm_in, client_in}
use Rattle.osc_script.proofs.AlgorithmWords.{algorithm_found, algorithm_last}
use Rattle.osc_script.proofs.Found.{step_found, test_held}
use Rattle.osc_script.proofs.Numbers.{number_found, number_again}
use Rattle.osc_script.proofs.Nodes.{client_found, client_again}
use Rattle.osc_script.proofs.ScopeTexts.{one_text}

-- ---- scopes

-- a text spells one scope
pub one_scope : (text scope other : List ℕ) → SpellsScope text scope → SpellsScope text other → scope ≡ other
one_scope text scope other s t =
    let same : s.0 ≡ t.0 = one_text text s.0 t.0 s.1 t.1 in
    s.2 ∙ ap (λ (entries : List Written). spelling (array (entry_items (map entry_of entries)))) same ∙ sym t.2

-- ---- dates

date_found : (name word : List ℕ) (n : ℕ) → date_in name word ≡ Some n → (number : List ℕ) × (word ≡ name ++ number) × SpellsNumber number n
unfolding date_in
date_found name word n e =
    let t = test_held (bytes_eq (take (length name) word) name) (number_in (drop (length name) word)) n e in
    let front : take (length name) word ≡ name = (bytes_eq-Decides (take (length name) word) name).0 t.0 in
    (drop (length name) word, sym (take-append-drop (length name) word) ∙ ap (λ (w : List ℕ). w ++ drop (length name) word) front, number_found (drop (length name) word) n t.1)

begins_again : (number : List ℕ) (n : ℕ) → SpellsNumber number n → date_in (codes "nbf=") (codes "nbf=" ++ number) ≡ Some n
unfolding date_in
begins_again number n s = number_again number n s

ends_again : (number : List ℕ) (n : ℕ) → SpellsNumber number n → date_in (codes "exp=") (codes "exp=" ++ number) ≡ Some n
unfolding date_in
ends_again number n s = number_again number n s

no_begin : (number : List ℕ) → date_in (codes "nbf=") (codes "exp=" ++ number) ≡ None
unfolding date_in
no_begin number = refl

-- the words of both dates
abbrev pub SpellDates : List (List ℕ) → Option ℕ → Option ℕ → Type 0
SpellDates words not_before expires = (begins ends : List (List ℕ)) × (words ≡ begins ++ ends) × SpellsDate (codes "nbf=") begins not_before × SpellsDate (codes "exp=") ends expires

one_found : (word : List ℕ) (begins ends : Option ℕ) (dates : Option ℕ × Option ℕ) → date_in (codes "nbf=") word ≡ begins → date_in (codes "exp=") word ≡ ends
    → one_date begins ends ≡ Some dates → SpellDates (word ∷ []) dates.0 dates.1
one_found word (Some n) ends dates b e is =
    let same : (Some n, None) ≡ dates = dates_are (Some n, None) dates is in
    let d = date_found (codes "nbf=") word n b in
    subst (λ (ds : Option ℕ × Option ℕ). SpellDates (word ∷ []) ds.0 ds.1) same (word ∷ [], [], refl, (d.0, ap (λ (w : List ℕ). w ∷ []) d.1, d.2), refl)
  where
    dates_are : (x y : Option ℕ × Option ℕ) → Some x ≡ Some y → x ≡ y
    dates_are x y e = cc
one_found word None (Some n) dates b e is =
    let same : (None, Some n) ≡ dates = dates_are (None, Some n) dates is in
    let d = date_found (codes "exp=") word n e in
    subst (λ (ds : Option ℕ × Option ℕ). SpellDates (word ∷ []) ds.0 ds.1) same ([], word ∷ [], refl, refl, (d.0, ap (λ (w : List ℕ). w ∷ []) d.1, d.2))
  where
    dates_are : (x y : Option ℕ × Option ℕ) → Some x ≡ Some y → x ≡ y
    dates_are x y e = cc
one_found word None None dates b e is = absurd cc

dates_is : (x y : Option ℕ × Option ℕ) → Some x ≡ Some y → x ≡ y
dates_is x y e = cc

pub dates_found : (words : List (List ℕ)) (dates : Option ℕ × Option ℕ) → dates_in words ≡ Some dates → SpellDates words dates.0 dates.1
unfolding dates_in
dates_found [] dates e = subst (λ (ds : Option ℕ × Option ℕ). SpellDates [] ds.0 ds.1) (dates_is (None, None) dates e) ([], [], refl, refl, refl)
dates_found (word ∷ []) dates e = one_found word (date_in (codes "nbf=") word) (date_in (codes "exp=") word) dates refl refl e
dates_found (first ∷ second ∷ []) dates e =
    let a = step_found (date_in (codes "nbf=") first) (λ begins. date_in (codes "exp=") second >>= λ ends. Some (Some begins, Some ends)) dates e in
    let b = step_found (date_in (codes "exp=") second) (λ ends. Some (Some a.0, Some ends)) dates a.2 in
    let f = date_found (codes "nbf=") first a.0 a.1 in
    let s = date_found (codes "exp=") second b.0 b.1 in
    subst (λ (ds : Option ℕ × Option ℕ). SpellDates (first ∷ second ∷ []) ds.0 ds.1) (dates_is (Some a.0, Some b.0) dates b.2)
    (first ∷ [], second ∷ [], refl, (f.0, ap (λ (w : List ℕ). w ∷ []) f.1, f.2), (s.0, ap (λ (w : List ℕ). w ∷ []) s.1, s.2))
dates_found (a ∷ b ∷ c ∷ words) dates e = absurd cc

pub dates_again : (words : List (List ℕ)) (not_before expires : Option ℕ) → SpellDates words not_before expires → dates_in words ≡ Some (not_before, expires)
unfolding dates_in
dates_again words None None s =
    let is : words ≡ [] = s.2 ∙ rw (s.3, s.4) refl in
    ap dates_in is
dates_again words (Some n) None s =
    let is : words ≡ (codes "nbf=" ++ s.3.0) ∷ [] = s.2 ∙ rw (s.3.1, s.4) refl in
    ap dates_in is ∙ rw (begins_again s.3.0 n s.3.2) refl
dates_again words None (Some m) s =
    let is : words ≡ (codes "exp=" ++ s.4.0) ∷ [] = s.2 ∙ rw (s.3, s.4.1) refl in
    ap dates_in is ∙ rw (no_begin s.4.0, ends_again s.4.0 m s.4.2) refl
dates_again words (Some n) (Some m) s =
    let is : words ≡ (codes "nbf=" ++ s.3.0) ∷ (codes "exp=" ++ s.4.0) ∷ [] = s.2 ∙ rw (s.3.1, s.4.1) refl in
    ap dates_in is ∙ rw (begins_again s.3.0 n s.3.2, ends_again s.4.0 m s.4.2) refl

-- ---- algorithms

-- dates say none
no_algorithm : (words : List (List ℕ)) (not_before expires : Option ℕ) → SpellDates words not_before expires → algorithm_in words ≡ (words, EightByteTag)
unfolding algorithm_in
no_algorithm words None None s =
    let is : words ≡ [] = s.2 ∙ rw (s.3, s.4) refl in
    rw is refl
no_algorithm words (Some n) None s =
    let is : words ≡ (codes "nbf=" ++ s.3.0) ∷ [] = s.2 ∙ rw (s.3.1, s.4) refl in
    rw is refl
no_algorithm words None (Some m) s =
    let is : words ≡ (codes "exp=" ++ s.4.0) ∷ [] = s.2 ∙ rw (s.3, s.4.1) refl in
    rw is refl
no_algorithm words (Some n) (Some m) s =
    let is : words ≡ (codes "nbf=" ++ s.3.0) ∷ (codes "exp=" ++ s.4.0) ∷ [] = s.2 ∙ rw (s.3.1, s.4.1) refl in
    rw is refl

-- what is said after dates
algorithm_again : (words last : List (List ℕ)) (not_before expires : Option ℕ) (alg : Algorithm) → SpellDates words not_before expires → SpellsAlgorithm last alg → algorithm_in (words ++ last) ≡ (words, alg)
algorithm_again words last not_before expires EightByteTag s a =
    ap (λ (ws : List (List ℕ)). algorithm_in (words ++ ws)) a ∙ ap algorithm_in (append-nil words) ∙ no_algorithm words not_before expires s
algorithm_again words last not_before expires SixteenByteTag s a = ap (λ (ws : List (List ℕ)). algorithm_in (words ++ ws)) a ∙ algorithm_last words

-- ---- grants

abbrev pub can_be_sealed : List ℕ → Option ℕ → Option ℕ → Algorithm → Type 0
can_be_sealed scope not_before expires alg = length (spelling (claims_item (claims_of 1 scope not_before expires alg))) ≤ most_claims

-- what a grant's words give
pub record GrantSaid (args : List (List ℕ)) (line : Line) : Type 0 where
  pub client : ClientName
  pub name : List ℕ
  pub text : List ℕ
  pub rest : List (List ℕ)
  pub scope : List ℕ
  pub not_before : Option ℕ
  pub expires : Option ℕ
  pub before : List (List ℕ)
  pub alg : Algorithm
  pub whole : args ≡ name ∷ text ∷ rest
  pub is_client : client_in name ≡ Some client
  pub is_scope : SpellsScope text scope
  pub algorithm : algorithm_in rest ≡ (before, alg)
  pub dates : dates_in before ≡ Some (not_before, expires)
  pub short : can_be_sealed scope not_before expires alg
  pub is : line ≡ Grant client scope not_before expires alg

tail_is : (x y : List ℕ) (xs ys : List (List ℕ)) → x ∷ xs ≡ y ∷ ys → xs ≡ ys
tail_is x y xs ys e = cc

head_is : (x y : List ℕ) (xs ys : List (List ℕ)) → x ∷ xs ≡ y ∷ ys → x ≡ y
head_is x y xs ys e = cc

differ : (a b : List ℕ) → bytes_eq a b ≡ false → a ≡ b → ⊥
differ a b f e = let t : bytes_eq a b ≡ true = (bytes_eq-Decides a b).1 e in absurd cc

pub grant_only : (args : List (List ℕ)) (line : Line) → Say (codes "grant" ∷ args) line → GrantSaid args line
grant_only args Skipped s = absurd s
grant_only args (Put path resource) s = absurd (differ (codes "grant") (codes "put") refl (head_is _ _ _ _ s.2))
grant_only args (Open path) s = absurd (differ (codes "grant") (codes "open") refl (head_is _ _ _ _ s.0))
grant_only args (Revoked path) s = absurd (differ (codes "grant") (codes "revoked") refl (head_is _ _ _ _ s.0))
grant_only args (Grant client scope not_before expires alg) s = record {
  client = client;
  name = client_name client;
  text = s.0;
  rest = s.1 ++ s.2 ++ s.3;
  scope = scope;
  not_before = not_before;
  expires = expires;
  before = s.1 ++ s.2;
  alg = alg;
  whole = tail_is _ _ _ _ s.4;
  is_client = client_again client;
  is_scope = s.5;
  algorithm = algorithm_again (s.1 ++ s.2) s.3 not_before expires alg (s.1, s.2, refl, s.6, s.7) s.8;
  dates = dates_again (s.1 ++ s.2) not_before expires (s.1, s.2, refl, s.6, s.7);
  short = s.9;
  is = refl;
}
grant_only args (Proxy proxy) s = absurd (differ (codes "grant") (codes "proxy") refl (head_is _ _ _ _ s))
grant_only args (Via client proxy) s = absurd (differ (codes "grant") (codes "via") refl (head_is _ _ _ _ s))
grant_only args (At moment) s = absurd (differ (codes "grant") (codes "at") refl (head_is _ _ _ _ s.1))
grant_only args (Draw nonce) s = absurd (differ (codes "grant") (codes "draw") refl (head_is _ _ _ _ s.1))
grant_only args (Drop datagram) s = absurd (differ (codes "grant") (codes "drop") refl (head_is _ _ _ _ s.1))
grant_only args (Skip client number) s = absurd (differ (codes "grant") (codes "skip") refl (head_is _ _ _ _ s.1))
grant_only args (Exchange client) s = absurd (differ (codes "grant") (codes "exchange") refl (head_is _ _ _ _ s))
grant_only args (Ask client request) s = absurd (differ (codes "grant") (codes "ask") refl (head_is _ _ _ _ s.1))
grant_only args (Tick node) s = absurd (differ (codes "grant") (codes "tick") refl (head_is _ _ _ _ s.0))
grant_only args (Restart node) s = absurd (differ (codes "grant") (codes "restart") refl (head_is _ _ _ _ s.0))
grant_only args (Deliver datagram) s = absurd (differ (codes "grant") (codes "deliver") refl (head_is _ _ _ _ s.1))
grant_only args (Alter datagram changes) s = absurd (differ (codes "grant") (codes "alter") refl (head_is _ _ _ _ s.2))
grant_only args (Graft header body) s = absurd (differ (codes "grant") (codes "graft") refl (head_is _ _ _ _ s.2))
grant_only args (Inject from to bytes) s = absurd (differ (codes "grant") (codes "inject") refl (head_is _ _ _ _ s.1))
grant_only args (Lie client number request) s = absurd (differ (codes "grant") (codes "lie") refl (head_is _ _ _ _ s.2))
grant_only args Quiet s = absurd (differ (codes "grant") (codes "quiet") refl (head_is _ _ _ _ s))

-- too few words
pub too_few : (args : List (Bor (List ℕ))) → length args < 2 → (line : Line) → Say (codes "grant" ∷ map (λ arg. arg.now) args) line → ⊥
too_few [] lt line s = let g = grant_only [] line s in let no : [] ≡ g.name ∷ g.text ∷ g.rest = g.whole in absurd cc
too_few (a ∷ []) lt line s = let g = grant_only (a.now ∷ []) line s in let no : a.now ∷ [] ≡ g.name ∷ g.text ∷ g.rest = g.whole in absurd cc
too_few (a ∷ b ∷ args) lt line s = absurd (omega arith)

-- two words and more
pub two_more : (args behind : List (Bor (List ℕ))) (d e : Bor (List ℕ)) → 2 ≤ length args → behind ≡ drop 2 args
    → (get_or args 0 d).now ∷ (get_or args 1 e).now ∷ map (λ arg. arg.now) behind ≡ map (λ arg. arg.now) args
two_more [] behind d e le b = absurd (omega arith)
two_more (x ∷ []) behind d e le b = absurd (omega arith)
two_more (x ∷ y ∷ args) behind d e le b = rw b refl

pub bad_client : (name text : List ℕ) (rest : List (List ℕ)) (line : Line) → None ≡ client_in name → Say (codes "grant" ∷ name ∷ text ∷ rest) line → ⊥
bad_client name text rest line none s =
    let g = grant_only (name ∷ text ∷ rest) line s in
    let same : name ≡ g.name = head_is _ _ _ _ g.whole in
    let no : None ≡ Some g.client = none ∙ ap client_in same ∙ g.is_client in
    absurd cc

rest_is : (a b c d : List ℕ) (xs ys : List (List ℕ)) → a ∷ b ∷ xs ≡ c ∷ d ∷ ys → xs ≡ ys
rest_is a b c d xs ys e = cc

text_is : (a b c d : List ℕ) (xs ys : List (List ℕ)) → a ∷ b ∷ xs ≡ c ∷ d ∷ ys → d ≡ b
text_is a b c d xs ys e = cc

-- the words before the algorithm, and the algorithm
parts_are : (name text : List ℕ) (rest before : List (List ℕ)) (alg : Algorithm) (line : Line) (g : GrantSaid (name ∷ text ∷ rest) line) → (before, alg) ≡ algorithm_in rest → ◌≡◌ {A = List (List ℕ) × Algorithm} (before, alg) (g.before, g.alg)
parts_are name text rest before alg line g is = is ∙ ap algorithm_in (rest_is _ _ _ _ _ _ g.whole) ∙ g.algorithm

pub bad_dates : (name text : List ℕ) (rest before : List (List ℕ)) (alg : Algorithm) (line : Line) → (before, alg) ≡ algorithm_in rest → None ≡ dates_in before → Say (codes "grant" ∷ name ∷ text ∷ rest) line → ⊥
bad_dates name text rest before alg line is none s =
    let g = grant_only (name ∷ text ∷ rest) line s in
    let same : before ≡ g.before = ap (λ (found : List (List ℕ) × Algorithm). found.0) (parts_are name text rest before alg line g is) in
    let no : None ≡ Some (g.not_before, g.expires) = none ∙ ap dates_in same ∙ g.dates in
    absurd cc

pub bad_scope : (name text : List ℕ) (rest : List (List ℕ)) (line : Line) → ((scope : List ℕ) → ¬ SpellsScope text scope) → Say (codes "grant" ∷ name ∷ text ∷ rest) line → ⊥
bad_scope name text rest line none s =
    let g = grant_only (name ∷ text ∷ rest) line s in
    none g.scope (subst (λ (t : List ℕ). SpellsScope t g.scope) (text_is _ _ _ _ _ _ g.whole) g.is_scope)

pub too_long : (name text : List ℕ) (rest before : List (List ℕ)) (alg : Algorithm) (line : Line) (scope : List ℕ) (not_before expires : Option ℕ) → SpellsScope text scope → (before, alg) ≡ algorithm_in rest
    → Some (not_before, expires) ≡ dates_in before → (can_be_sealed scope not_before expires alg → ⊥) → Say (codes "grant" ∷ name ∷ text ∷ rest) line → ⊥
too_long name text rest before alg line scope not_before expires sc is dates long s =
    let g = grant_only (name ∷ text ∷ rest) line s in
    let same : g.scope ≡ scope = one_scope text g.scope scope (subst (λ (t : List ℕ). SpellsScope t g.scope) (text_is _ _ _ _ _ _ g.whole) g.is_scope) sc in
    let parts : (g.before, g.alg) ≡ (before, alg) = sym (parts_are name text rest before alg line g is) in
    let ds : (g.not_before, g.expires) ≡ (not_before, expires) = dates_is (g.not_before, g.expires) (not_before, expires) (sym g.dates ∙ ap (λ (found : List (List ℕ) × Algorithm). dates_in found.0) parts ∙ sym dates) in
    let short : can_be_sealed scope g.not_before g.expires g.alg = subst (λ (sc : List ℕ). can_be_sealed sc g.not_before g.expires g.alg) same g.short in
    long (subst (λ (found : List (List ℕ) × Algorithm). can_be_sealed scope not_before expires found.1) parts (subst (λ (ds : Option ℕ × Option ℕ). can_be_sealed scope ds.0 ds.1 g.alg) ds short))

pub grant_says : (name text : List ℕ) (rest before : List (List ℕ)) (alg : Algorithm) (client : ClientName) (scope : List ℕ) (not_before expires : Option ℕ) → Some client ≡ client_in name → SpellsScope text scope
    → (before, alg) ≡ algorithm_in rest → Some (not_before, expires) ≡ dates_in before → can_be_sealed scope not_before expires alg → Say (codes "grant" ∷ name ∷ text ∷ rest) (Grant client scope not_before expires alg)
grant_says name text rest before alg client scope not_before expires c sc is dates short =
    let a = algorithm_found rest before alg is in
    let d = dates_found before (not_before, expires) (sym dates) in
    let behind : rest ≡ d.0 ++ d.1 ++ a.0 = a.1 ∙ ap (λ (ws : List (List ℕ)). ws ++ a.0) d.2 in
    let words : codes "grant" ∷ name ∷ text ∷ rest ≡ codes "grant" ∷ client_name client ∷ text ∷ (d.0 ++ d.1 ++ a.0) =
    ap (λ (w : List ℕ). codes "grant" ∷ w ∷ text ∷ rest) (client_found name client (sym c)) ∙ ap (λ (ws : List (List ℕ)). codes "grant" ∷ client_name client ∷ text ∷ ws) behind in
    (text, d.0, d.1, a.0, words, sc, d.3, d.4, a.2, short)

-- words say one grant
pub one_grant : (args : List (List ℕ)) (line other : Line) → Say (codes "grant" ∷ args) line → Say (codes "grant" ∷ args) other → line ≡ other
one_grant args line other s t =
    let g = grant_only args line s in
    let h = grant_only args other t in
    let whole : g.name ∷ g.text ∷ g.rest ≡ h.name ∷ h.text ∷ h.rest = sym g.whole ∙ h.whole in
    let name : g.name ≡ h.name = head_is _ _ _ _ whole in
    let client : Some g.client ≡ Some h.client = sym g.is_client ∙ ap client_in name ∙ h.is_client in
    let scope : g.scope ≡ h.scope = one_scope g.text g.scope h.scope g.is_scope (subst (λ (t : List ℕ). SpellsScope t h.scope) (text_is _ _ _ _ _ _ whole) h.is_scope) in
    let parts : (g.before, g.alg) ≡ (h.before, h.alg) = sym g.algorithm ∙ ap algorithm_in (rest_is _ _ _ _ _ _ whole) ∙ h.algorithm in
    let dates : (g.not_before, g.expires) ≡ (h.not_before, h.expires) =
    dates_is (g.not_before, g.expires) (h.not_before, h.expires) (sym g.dates ∙ ap (λ (found : List (List ℕ) × Algorithm). dates_in found.0) parts ∙ h.dates) in
    let begins : g.not_before ≡ h.not_before = ap (λ (ds : Option ℕ × Option ℕ). ds.0) dates in
    let ends : g.expires ≡ h.expires = ap (λ (ds : Option ℕ × Option ℕ). ds.1) dates in
    let algs : g.alg ≡ h.alg = ap (λ (found : List (List ℕ) × Algorithm). found.1) parts in
    let clients : g.client ≡ h.client = client_is g.client h.client client in
    g.is ∙ ap (λ (c : ClientName). Grant c g.scope g.not_before g.expires g.alg) clients ∙ ap (λ (sc : List ℕ). Grant h.client sc g.not_before g.expires g.alg) scope
    ∙ ap (λ (b : Option ℕ). Grant h.client h.scope b g.expires g.alg) begins ∙ ap (λ (e : Option ℕ). Grant h.client h.scope h.not_before e g.alg) ends ∙ ap (Grant h.client h.scope h.not_before h.expires) algs ∙ sym h.is
  where
    client_is : (x y : ClientName) → Some x ≡ Some y → x ≡ y
    client_is x y e = cc

-- the test of their length
pub sealed_by : (len : ℕ) (text scope : List ℕ) (not_before expires : Option ℕ) (alg : Algorithm) (claims : Claims) → len ≡ length text → text ≡ spelling (claims_item claims) → claims ≡ claims_of 1 scope not_before expires alg
    → (IsTrue (nat_le len 65535) ↔ can_be_sealed scope not_before expires alg)
sealed_by len text scope not_before expires alg claims l t c =
    let same : len ≡ length (spelling (claims_item (claims_of 1 scope not_before expires alg))) = l ∙ ap length t ∙ ap (λ (cs : Claims). length (spelling (claims_item cs))) c in
    (λ yes_. subst (λ (n : ℕ). n ≤ 65535) same (leb-true len 65535 yes_), λ le. le-leb len 65535 (subst (λ (n : ℕ). n ≤ 65535) (sym same) le))
