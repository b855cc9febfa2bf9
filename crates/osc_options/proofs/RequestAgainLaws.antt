-- A request that is written is read again.
use Rattle.std.proofs.Common.{◌≡◌, ℕ, ◌<◌, ◌≤◌, Bool, true, false, ◌&&◌, ◌==◌, nat_le, List, [], ◌∷◌, ◌++◌, length, Option, Some, None, Ok, refl, sym, ap, subst, ◌∙◌, append_assoc, append-nil, arith}
use Rattle.std.specs.Prelude.{IfSome, option_map, unwrap_or, is_some}
use Rattle.std.specs.List.{AllByRecursion, list_all}
use Rattle.std.proofs.lemmas.Bool.{ne_eqb}
use Rattle.std.proofs.lemmas.Bool.Decides.{nat_tests}
use Rattle.osc_model.specs.{is_segment, are_segments, path_text, path_of, IsPath}
use Rattle.osc_model.specs.declared.request.Request.{Request}
use Rattle.osc_coap.specs.{is_request_code, NumberAndValue, payload_of}
use Rattle.osc_coap.specs.Message.{Message}
use Rattle.osc_options.specs.declared.table.Class.TheVariants.{E, U}
use Rattle.osc_model.specs.{segments_of}
use Rattle.osc_options.specs.{is_critical, class_of, is_recognised, recognised, unrecognised_critical, uint, value, values, request_of, each, path_options, none_match_options, uint_options, request_options, with_request, IsWithinTable, uint_bytes, refused_option, request_of_plaintext, same_class, inner_options, plaintext_of}
use Rattle.osc_options.proofs.ReplyAgainLaws.{uint_again, uint_short}

le_test : (m n : ℕ) → m ≤ n → nat_le m n ≡ true
le_test m n le = grind (arith, nat_tests)

both : (x y : Bool) → (x && y) ≡ true → (x ≡ true) × (y ≡ true)
both true y e = (refl, e)
both false y e = absurd cc

never : (b : Bool) → (b && false) ≡ false
never true = refl
never false = refl

-- ---- options that are all recognised, and all encrypted

pub record IsKnown (before : ℕ) (option : NumberAndValue) : Type 0 where
  pub known : is_recognised before option ≡ true
  pub inner : same_class E (class_of option.0) ≡ true
  pub not_outer : same_class U (class_of option.0) ≡ false

abbrev pub AreKnown : ℕ → List NumberAndValue → Type 0
AreKnown before [] = Unit {0}
AreKnown before (option ∷ options) = IsKnown before option × AreKnown option.0 options

known_all : (before : ℕ) (options : List NumberAndValue) → AreKnown before options → recognised before options ≡ options
known_all before [] p = refl
known_all before (option ∷ options) p = rw p.0.known (ap (λ (rest : List NumberAndValue). option ∷ rest) (known_all option.0 options p.1))

known_critical : (before : ℕ) (options : List NumberAndValue) → AreKnown before options → unrecognised_critical before options ≡ None
known_critical before [] p = refl
known_critical before (option ∷ options) p = rw (p.0.known, never (is_critical option.0)) (known_critical option.0 options p.1)

known_accepted : (before : ℕ) (options : List NumberAndValue) → AreKnown before options → refused_option before options ≡ None
known_accepted before [] p = refl
known_accepted before (option ∷ options) p = rw (p.0.not_outer, p.0.known, never (is_critical option.0)) (known_accepted option.0 options p.1)

known_inner : (before : ℕ) (options : List NumberAndValue) → AreKnown before options → inner_options options ≡ options
known_inner before [] p = refl
known_inner before (option ∷ options) p = rw p.0.inner (ap (λ (rest : List NumberAndValue). option ∷ rest) (known_inner option.0 options p.1))

-- ---- one kind of option before others

abbrev KnownFrom : ℕ → List NumberAndValue → Type 0
KnownFrom least rest = (before : ℕ) → before ≤ least → AreKnown before rest

tags_known : (tags : List (List ℕ)) (rest : List NumberAndValue) → AllByRecursion (λ tag. length tag ≤ 8) tags → KnownFrom 1 rest → KnownFrom 1 (each 1 tags ++ rest)
tags_known [] rest short others before le = others before le
tags_known (tag ∷ tags) rest short others before le =
    (record { known = rw (le_test 0 (length tag) (omega arith), le_test (length tag) 8 short.0) refl; inner = refl; not_outer = refl }, tags_known tags rest short.1 others 1 (omega arith))

none_known : (present : Bool) (rest : List NumberAndValue) → KnownFrom 5 rest → KnownFrom 1 (none_match_options present ++ rest)
none_known false rest others before le = others before (omega arith)
none_known true rest others before le =
    (record { known = rw (ne_eqb 5 before (λ e. omega (arith, e))) refl; inner = refl; not_outer = refl }, others 5 (omega arith))

segments_known : (segments : List (List ℕ)) (rest : List NumberAndValue) → AllByRecursion (λ s. length s ≤ 255) segments → KnownFrom 11 rest → KnownFrom 11 (each 11 segments ++ rest)
segments_known [] rest short others before le = others before le
segments_known (s ∷ segments) rest short others before le =
    (record { known = rw (le_test 0 (length s) (omega arith), le_test (length s) 255 short.0) refl; inner = refl; not_outer = refl }, segments_known segments rest short.1 others 11 (omega arith))

format_known : (format : Option ℕ) (rest : List NumberAndValue) → KnownFrom 12 rest → KnownFrom 11 (uint_options 12 format ++ rest)
format_known None rest others before le = others before (omega arith)
format_known (Some n) rest others before le =
    (record { known = rw (le_test 0 (length (uint_bytes n)) (omega arith), le_test (length (uint_bytes n)) 2 (uint_short n), ne_eqb 12 before (λ e. omega (arith, e))) refl; inner = refl; not_outer = refl }, others 12 (omega arith))

accept_known : (accept : Option ℕ) → KnownFrom 12 (uint_options 17 accept)
accept_known None before le = tt
accept_known (Some n) before le =
    (record { known = rw (le_test 0 (length (uint_bytes n)) (omega arith), le_test (length (uint_bytes n)) 2 (uint_short n), ne_eqb 17 before (λ e. omega (arith, e))) refl; inner = refl; not_outer = refl }, tt)

-- ---- a path's segments

few : (n : ℕ) → nat_le n 32 ≡ true → n ≤ 255
few n e = let within : n ≤ 32 = grind (arith, nat_tests) in omega (arith, within)

few_bytes : (segments : List (List ℕ)) → list_all is_segment segments ≡ true → AllByRecursion (λ s. length s ≤ 255) segments
few_bytes [] e = tt
few_bytes (s ∷ segments) e =
    let first = both (is_segment s) (list_all is_segment segments) e in
    let sizes = (both (nat_le 1 (length s) && nat_le (length s) 32) _ (both _ _ first.0).0).0 in
    (few (length s) ((both (nat_le 1 (length s)) (nat_le (length s) 32) sizes).1), few_bytes segments first.1)

-- a path's text, cut at its slashes, gives its segments again
abbrev pub CutLaw : Type 0
CutLaw = (segments : List (List ℕ)) → are_segments segments ≡ true → segments_of (path_text segments) ≡ segments

cut : CutLaw → (text : List ℕ) (path : IsPath text) → segments_of text ≡ path.segments
cut law text path = ap segments_of path.spelled ∙ law path.segments path.lawful

-- a path's segments make it again
path_back : CutLaw → (text : List ℕ) → IsPath text → path_of (segments_of text) ≡ Some text
path_back law text path = ap path_of (cut law text path) ∙ rw path.lawful (ap (λ (t : List ℕ). Some t) (sym path.spelled))

path_bytes : CutLaw → (text : List ℕ) → IsPath text → AllByRecursion (λ s. length s ≤ 255) (segments_of text)
path_bytes law text path =
    subst (λ (segments : List (List ℕ)). AllByRecursion (λ s. length s ≤ 255) segments) (sym (cut law text path)) (few_bytes path.segments (both _ _ path.lawful).1)

path_known : CutLaw → (path : Option (List ℕ)) (rest : List NumberAndValue) → IfSome path IsPath → KnownFrom 11 rest → KnownFrom 5 (path_options path ++ rest)
path_known law None rest is others before le = others before (omega arith)
path_known law (Some text) rest is others before le = segments_known (segments_of text) rest (path_bytes law text is) others before (omega arith)

-- ---- all of them

abbrev grouped : Request → List NumberAndValue
grouped r = each 1 r.if_match ++ (none_match_options r.if_none_match ++ (path_options r.path ++ (uint_options 12 r.format ++ uint_options 17 r.accept)))

regrouped : (r : Request) → request_options r ≡ grouped r
regrouped r =
    let a = each 1 r.if_match in
    let b = none_match_options r.if_none_match in
    let c = path_options r.path in
    let d = uint_options 12 r.format in
    let e = uint_options 17 r.accept in
    append_assoc (a ++ b ++ c) d e ∙ append_assoc (a ++ b) c (d ++ e) ∙ append_assoc a b (c ++ (d ++ e))

all_known : CutLaw → (r : Request) → IsWithinTable r → AreKnown 0 (grouped r)
all_known law r is =
    tags_known r.if_match _ is.tags (none_known r.if_none_match _ (path_known law r.path _ is.path (format_known r.format _ (accept_known r.accept)))) 0 (omega arith)

-- ---- their values

each_same : (n : ℕ) (vs : List (List ℕ)) (rest : List NumberAndValue) → (n == n) ≡ true → values n (each n vs ++ rest) ≡ vs ++ values n rest
each_same n [] rest e = refl
each_same n (v ∷ vs) rest e = rw e (ap (λ (l : List (List ℕ)). v ∷ l) (each_same n vs rest e))

each_other : (m n : ℕ) (vs : List (List ℕ)) (rest : List NumberAndValue) → (m == n) ≡ false → values n (each m vs ++ rest) ≡ values n rest
each_other m n [] rest e = refl
each_other m n (v ∷ vs) rest e = rw e (each_other m n vs rest e)

each_first : (m n : ℕ) (vs : List (List ℕ)) (rest : List NumberAndValue) → (m == n) ≡ false → value n (each m vs ++ rest) ≡ value n rest
each_first m n [] rest e = refl
each_first m n (v ∷ vs) rest e = rw e (each_first m n vs rest e)

none_other : (n : ℕ) (present : Bool) (rest : List NumberAndValue) → (5 == n) ≡ false → values n (none_match_options present ++ rest) ≡ values n rest
none_other n false rest e = refl
none_other n true rest e = rw e refl

none_first : (n : ℕ) (present : Bool) (rest : List NumberAndValue) → (5 == n) ≡ false → value n (none_match_options present ++ rest) ≡ value n rest
none_first n false rest e = refl
none_first n true rest e = rw e refl

path_other : (n : ℕ) (path : Option (List ℕ)) (rest : List NumberAndValue) → (11 == n) ≡ false → values n (path_options path ++ rest) ≡ values n rest
path_other n None rest e = refl
path_other n (Some text) rest e = each_other 11 n (segments_of text) rest e

path_first : (n : ℕ) (path : Option (List ℕ)) (rest : List NumberAndValue) → (11 == n) ≡ false → value n (path_options path ++ rest) ≡ value n rest
path_first n None rest e = refl
path_first n (Some text) rest e = each_first 11 n (segments_of text) rest e

uint_none : (n : ℕ) (format accept : Option ℕ) → (12 == n) ≡ false → (17 == n) ≡ false → values n (uint_options 12 format ++ uint_options 17 accept) ≡ []
uint_none n None None p q = refl
uint_none n None (Some b) p q = rw q refl
uint_none n (Some a) None p q = rw p refl
uint_none n (Some a) (Some b) p q = rw (p, q) refl

tags_again : (r : Request) → values 1 (grouped r) ≡ r.if_match
tags_again r =
    each_same 1 r.if_match _ refl
    ∙ ap (λ (l : List (List ℕ)). r.if_match ++ l) (none_other 1 r.if_none_match _ refl ∙ path_other 1 r.path _ refl ∙ uint_none 1 r.format r.accept refl refl)
    ∙ append-nil r.if_match

segments_again : CutLaw → (path : Option (List ℕ)) (format accept : Option ℕ) → IfSome path IsPath → path_of (values 11 (path_options path ++ (uint_options 12 format ++ uint_options 17 accept))) ≡ path
segments_again law None format accept is = ap path_of (uint_none 11 format accept refl refl)
segments_again law (Some text) format accept is =
    ap path_of (each_same 11 (segments_of text) _ refl ∙ ap (λ (l : List (List ℕ)). segments_of text ++ l) (uint_none 11 format accept refl refl) ∙ append-nil (segments_of text))
    ∙ path_back law text is

path_again : CutLaw → (r : Request) → IfSome r.path IsPath → path_of (values 11 (grouped r)) ≡ r.path
path_again law r is = ap path_of (each_other 1 11 r.if_match _ refl ∙ none_other 11 r.if_none_match _ refl) ∙ segments_again law r.path r.format r.accept is

format_again : (format accept : Option ℕ) → IfSome format (λ n. n < 65536) → option_map uint (value 12 (uint_options 12 format ++ uint_options 17 accept)) ≡ format
format_again None None lt = refl
format_again None (Some b) lt = refl
format_again (Some a) accept lt = ap (λ (n : ℕ). Some n) (uint_again a lt)

accept_again : (format accept : Option ℕ) → IfSome accept (λ n. n < 65536) → option_map uint (value 17 (uint_options 12 format ++ uint_options 17 accept)) ≡ accept
accept_again None None lt = refl
accept_again (Some a) None lt = refl
accept_again None (Some b) lt = ap (λ (n : ℕ). Some n) (uint_again b lt)
accept_again (Some a) (Some b) lt = ap (λ (n : ℕ). Some n) (uint_again b lt)

no_five : (format accept : Option ℕ) → value 5 (uint_options 12 format ++ uint_options 17 accept) ≡ None
no_five None None = refl
no_five None (Some b) = refl
no_five (Some a) None = refl
no_five (Some a) (Some b) = refl

none_again : (present : Bool) (path : Option (List ℕ)) (format accept : Option ℕ) → is_some (value 5 (none_match_options present ++ (path_options path ++ (uint_options 12 format ++ uint_options 17 accept)))) ≡ present
none_again true path format accept = refl
none_again false path format accept = ap is_some (path_first 5 path _ refl ∙ no_five format accept)

payload_again : (bytes : List ℕ) → unwrap_or (payload_of bytes) [] ≡ bytes
payload_again [] = refl
payload_again (b ∷ bytes) = refl

-- ---- the whole

known_options : CutLaw → (r : Request) → IsWithinTable r → recognised 0 (request_options r) ≡ grouped r
known_options law r is = ap (recognised 0) (regrouped r) ∙ known_all 0 (grouped r) (all_known law r is)

pub request_again : CutLaw → (m : Message) (r : Request) → IsWithinTable r → request_of (with_request m r) ≡ r
request_again law m r is =
    let known = known_options law r is in
    let tags = ap (values 1) known ∙ tags_again r in
    let path = ap (λ (o : List NumberAndValue). path_of (values 11 o)) known ∙ path_again law r is.path in
    let first : (n : ℕ) → (1 == n) ≡ false → (5 == n) ≡ false → (11 == n) ≡ false → value n (recognised 0 (request_options r)) ≡ value n (uint_options 12 r.format ++ uint_options 17 r.accept) =
    λ n a b c. ap (value n) known ∙ each_first 1 n r.if_match _ a ∙ none_first n r.if_none_match _ b ∙ path_first n r.path _ c in
    let format = ap (option_map uint) (first 12 refl refl refl) ∙ format_again r.format r.accept is.format in
    let accept = ap (option_map uint) (first 17 refl refl refl) ∙ accept_again r.format r.accept is.accept in
    let none = ap (λ (o : List NumberAndValue). is_some (value 5 o)) known ∙ ap is_some (each_first 1 5 r.if_match _ refl) ∙ none_again r.if_none_match r.path r.format r.accept in
    λ i. record { code = r.code; path = path i; format = format i; accept = accept i; if_match = tags i; if_none_match = none i; payload = payload_again r.payload i }

pub request_understood : CutLaw → (r : Request) → IsWithinTable r → unrecognised_critical 0 (request_options r) ≡ None
request_understood law r is = ap (unrecognised_critical 0) (regrouped r) ∙ known_critical 0 (grouped r) (all_known law r is)

pub request_inside : CutLaw → (r : Request) → IsWithinTable r → inner_options (request_options r) ≡ request_options r
request_inside law r is = ap inner_options (regrouped r) ∙ known_inner 0 (grouped r) (all_known law r is) ∙ sym (regrouped r)

pub plaintext_again : CutLaw → (m : Message) (r : Request) → IsWithinTable r → is_request_code r.code.0 ≡ true → request_of_plaintext (plaintext_of (with_request m r)) ≡ Ok r
plaintext_again law m r is code =
    let inside = request_inside law r is in
    let accepts = ap (refused_option 0) (regrouped r) ∙ known_accepted 0 (grouped r) (all_known law r is) in
    rw (inside, code, accepts) (ap (λ (x : Request). Ok x) (request_again law m r is))
