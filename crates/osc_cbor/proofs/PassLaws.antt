-- The steps of a pass.
use Rattle.std.proofs.Common.{◌≡◌, ℕ, ◌+◌, ◌-◌, ◌<◌, ◌≤◌, true, false, List, [], ◌∷◌, ◌++◌, length, drop, Result, Ok, Err, refl, sym, ap, ap₂, subst, ◌∙◌, append_assoc, arith}
use Rattle.std.proofs.lemmas.List.{append-nil, length-append}
use Rattle.std.proofs.Math.Seq.{drop-append_seam}
use Rattle.osc_cbor.specs.{DataItem, byte_string, text_string, array, map, tag, null, Items, no_items, Pairs, no_pairs, item_count, pair_count, HasOwnKeys, head, spelling, items_spelling, pairs_spelling, HasSpelling, PairsHaveSpellings, has_key, Found, push_item, push_pair, string_at, text_at, items_from, pairs_from, content_at}
use Rattle.osc_cbor.specs.Inner.Notes.{Grows, piece, pieces, times, AreApart, Repeats, Judged, again, apart, key_spellings, Passes, PassesBehind}
use Rattle.osc_cbor.specs.declared.heads.Major.TheVariants.{Bytes, Text, Array, Map, Tag}
use Rattle.osc_cbor.specs.declared.error.ReadError.{ReadError}
use Rattle.osc_cbor.specs.declared.error.ReadError.TheVariants.{DuplicateKey}
use Rattle.osc_cbor.specs.declared.keys.Stop.{Stop}
use Rattle.osc_cbor.specs.declared.keys.Stop.TheVariants.{Fault, Unsure}
use Rattle.osc_cbor.proofs.Steps.{AreBytes}
use Rattle.osc_cbor.proofs.KeyLaws.{key_means, key_absent, own_pushed}
use Rattle.osc_cbor.proofs.FoundLaws.{Takes, string_takes, text_takes, items_take, pairs_take}
use Rattle.osc_cbor.proofs.ReadSteps.{items_more, items_done, pairs_more, pairs_again, pairs_done}
use Rattle.osc_cbor.proofs.ExtentLaws.{all_left, items_err, key_err, value_err}
use Rattle.osc_cbor.proofs.OneItem.{has}
use Rattle.osc_cbor.proofs.RowLaws.{times-here, times-append, itself}
use Rattle.osc_cbor.specs.declared.keys.Key.{Key}
use Rattle.osc_cbor.proofs.NoteLaws.{Within, within_more, within_push, pieces-grown, pieces-push, piece-new, key_is_noted, own_keys_apart, key_spellings-push, have_push, items_spelling-push, pairs_spelling-push, repeats_more}

-- ---- what is noted grows

pub grows_none : (x : List ℕ) → Grows x x
grows_none x = ([], sym (append-nil x))

pub grows_then : (x y z : List ℕ) → Grows x y → Grows y z → Grows x z
grows_then x y z a b = (a.0 ++ b.0, b.1 ∙ ap (λ (w : List ℕ). w ++ b.0) a.1 ∙ append_assoc x a.0 b.0)

-- ---- pairs

-- the pairs before, whose keys are apart; and those that are left are read as all are
pub record Left (inner : List ℕ → Found) (count index : ℕ) (bytes rest : List ℕ) (rows : List (List ℕ)) (old new : List ℕ) : Type 0 where
  pub before : Pairs
  pub have : PairsHaveSpellings before
  pub own : HasOwnKeys before
  pub rows_are : rows ≡ key_spellings before
  pub text : new ≡ old ++ pairs_spelling before
  pub fits : AreBytes rest
  pub left : pairs_from inner before (count - index) rest ≡ pairs_from inner no_pairs count bytes

-- the same with a key that is new after them
pub record KeyLeft (inner : List ℕ → Found) (count index : ℕ) (bytes rest behind_key : List ℕ) (rows : List (List ℕ)) (old new : List ℕ) (k : DataItem) : Type 0 where
  pub earlier : Left inner count index bytes rest rows old new
  pub new_key : has_key k earlier.before ≡ false
  pub read_key : inner rest ≡ Ok (k, behind_key)

pub left_start : (inner : List ℕ → Found) (count : ℕ) (bytes old : List ℕ) → AreBytes bytes → Left inner count 0 bytes bytes [] old old
left_start inner count bytes old fits =
    let n : count - 0 ≡ count = omega arith in
    record { before = no_pairs; have = tt; own = tt; rows_are = refl; text = sym (append-nil old); fits = fits; left = ap (λ (m : ℕ). pairs_from inner no_pairs m bytes) n }

apart_none : AreApart []
apart_none x = omega arith

pub judged_start : (inner : List ℕ → Found) (count : ℕ) (bytes old : List ℕ) → AreBytes bytes → Judged [] (pairs_from inner no_pairs count bytes) (Left inner count 0 bytes bytes [] old old)
judged_start inner count bytes old fits = apart apart_none (left_start inner count bytes old fits)

-- a claim for another
pub judged_then : {X : Type 0} (rows : List (List ℕ)) (read : Result X ReadError) (P Q : Type 0) → (P → Q) → Judged rows read P → Judged rows read Q
judged_then rows read P Q f (again r e) = again r e
judged_then rows read P Q f (apart a p) = apart a (f p)

pub key_stopped : {X : Type 0} (inner : List ℕ → Found) (now : X → List ℕ) (count index : ℕ) (bytes rest : List ℕ) (rows : List (List ℕ)) (old new newer : List ℕ) (e : Stop) → index < count
    → Passes spelling now new newer (Err e) (inner rest) → Judged rows (pairs_from inner no_pairs count bytes) (Left inner count index bytes rest rows old new)
    → Judged rows (pairs_from inner no_pairs count bytes) (Passes pairs_spelling now old newer (Err e) (pairs_from inner no_pairs count bytes))
key_stopped inner now count index bytes rest rows old new newer (Fault fault) lt h j =
    judged_then rows _ _ _ (λ (x : Left inner count index bytes rest rows old new). sym x.left ∙ key_err fault inner x.before count index rest lt h) j
key_stopped inner now count index bytes rest rows old new newer Unsure lt h j =
    judged_then rows _ _ _ (λ (x : Left inner count index bytes rest rows old new). tt) j

pub no_room : {X : Type 0} (inner : List ℕ → Found) (now : X → List ℕ) (count index : ℕ) (bytes rest : List ℕ) (rows : List (List ℕ)) (old new newer : List ℕ) (e : Stop) → e ≡ Unsure
    → Judged rows (pairs_from inner no_pairs count bytes) (Left inner count index bytes rest rows old new)
    → Judged rows (pairs_from inner no_pairs count bytes) (Passes pairs_spelling now old newer (Err e) (pairs_from inner no_pairs count bytes))
no_room inner now count index bytes rest rows old new newer e is j =
    judged_then rows _ _ _ (λ (x : Left inner count index bytes rest rows old new). subst (λ (s : Stop). Passes pairs_spelling now old newer (Err s) (pairs_from inner no_pairs count bytes)) (sym is) tt) j

pub key_judged : (inner : List ℕ → Found) (left : ℕ) → Takes inner left → (count index : ℕ) (bytes rest : List ℕ) (rows : List (List ℕ)) (old new : List ℕ) (k : DataItem) (behind_key : List ℕ) → index < count
    → inner rest ≡ Ok (k, behind_key) → Judged rows (pairs_from inner no_pairs count bytes) (Left inner count index bytes rest rows old new)
    → Judged (rows ++ spelling k ∷ []) (pairs_from inner no_pairs count bytes) (KeyLeft inner count index bytes rest behind_key rows old new k)
key_judged inner left takes count index bytes rest rows old new k behind_key lt read (again r e) = again (repeats_more rows (spelling k) r) e
key_judged inner left takes count index bytes rest rows old new k behind_key lt read (apart a x) =
    let key = takes rest k behind_key x.fits read in
    let is : HasSpelling k = has key.front k key.spelled in
    elim (has_key k x.before) as (λ b. has_key k x.before ≡ b → Judged (rows ++ spelling k ∷ []) (pairs_from inner no_pairs count bytes) (KeyLeft inner count index bytes rest behind_key rows old new k)) [
      | true ↦ λ h.
          let some : 1 ≤ times (spelling k) (key_spellings x.before) = key_is_noted k x.before (key_means k x.before h) in
          let same : times (spelling k) rows ≡ times (spelling k) (key_spellings x.before) = ap (times (spelling k)) x.rows_are in
          again (spelling k, omega (arith, some, same, times-append (spelling k) rows (spelling k ∷ []), times-here (spelling k) (spelling k) [] (itself (spelling k))))
          (sym x.left ∙ pairs_again inner x.before count index rest k behind_key lt read h)
      | false ↦ λ h.
          let grown : HasOwnKeys (push_pair x.before k null) = own_pushed x.before k null x.own (key_absent k x.before h) in
          let rows_are : key_spellings (push_pair x.before k null) ≡ rows ++ spelling k ∷ [] = key_spellings-push x.before k null ∙ ap (λ (y : List (List ℕ)). y ++ spelling k ∷ []) (sym x.rows_are) in
          apart (subst AreApart rows_are (own_keys_apart (push_pair x.before k null) (have_push x.before k null x.have is tt) grown)) (record { earlier = x; new_key = h; read_key = read })
    ] refl

pub value_stopped : {X : Type 0} (inner : List ℕ → Found) (now : X → List ℕ) (count index : ℕ) (bytes rest behind_key : List ℕ) (rows rows' : List (List ℕ)) (old new with_key newer : List ℕ) (k : DataItem) (e : Stop) → index < count
    → Passes spelling now with_key newer (Err e) (inner behind_key) → Judged rows' (pairs_from inner no_pairs count bytes) (KeyLeft inner count index bytes rest behind_key rows old new k)
    → Judged rows' (pairs_from inner no_pairs count bytes) (Passes pairs_spelling now old newer (Err e) (pairs_from inner no_pairs count bytes))
value_stopped inner now count index bytes rest behind_key rows rows' old new with_key newer k (Fault fault) lt h j =
    judged_then rows' _ _ _ (λ (x : KeyLeft inner count index bytes rest behind_key rows old new k).
    sym x.earlier.left ∙ value_err fault inner x.earlier.before count index rest k behind_key lt x.read_key x.new_key h) j
value_stopped inner now count index bytes rest behind_key rows rows' old new with_key newer k Unsure lt h j =
    judged_then rows' _ _ _ (λ (x : KeyLeft inner count index bytes rest behind_key rows old new k). tt) j

pair_left : (inner : List ℕ → Found) (left : ℕ) → Takes inner left → (count index : ℕ) (bytes rest behind_key after : List ℕ) (rows : List (List ℕ)) (old new newer : List ℕ) (k v : DataItem) → index < count
    → inner behind_key ≡ Ok (v, after) → newer ≡ new ++ (spelling k ++ spelling v) → KeyLeft inner count index bytes rest behind_key rows old new k
    → Left inner count (index + 1) bytes after (rows ++ spelling k ∷ []) old newer
pair_left inner left takes count index bytes rest behind_key after rows old new newer k v lt read text x =
    let y = x.earlier in
    let key = takes rest k behind_key y.fits x.read_key in
    let value = takes behind_key v after key.rest_fits read in
    record {
      before = push_pair y.before k v;
      have = have_push y.before k v y.have (has key.front k key.spelled) (has value.front v value.spelled);
      own = own_pushed y.before k v y.own (key_absent k y.before x.new_key);
      rows_are = ap (λ (z : List (List ℕ)). z ++ spelling k ∷ []) y.rows_are ∙ sym (key_spellings-push y.before k v);
      text = text ∙ ap (λ (z : List ℕ). z ++ (spelling k ++ spelling v)) y.text ∙ append_assoc old (pairs_spelling y.before) (spelling k ++ spelling v) ∙ ap (λ (z : List ℕ). old ++ z) (sym (pairs_spelling-push y.before k v));
      fits = value.rest_fits;
      left = sym (pairs_more inner y.before count index rest k v behind_key after lt x.read_key x.new_key read) ∙ y.left;
    }

pub pair_judged : (inner : List ℕ → Found) (left : ℕ) → Takes inner left → (count index : ℕ) (bytes rest behind_key after : List ℕ) (rows : List (List ℕ)) (old new newer : List ℕ) (k v : DataItem) → index < count
    → inner behind_key ≡ Ok (v, after) → newer ≡ new ++ (spelling k ++ spelling v)
    → Judged (rows ++ spelling k ∷ []) (pairs_from inner no_pairs count bytes) (KeyLeft inner count index bytes rest behind_key rows old new k)
    → Judged (rows ++ spelling k ∷ []) (pairs_from inner no_pairs count bytes) (Left inner count (index + 1) bytes after (rows ++ spelling k ∷ []) old newer)
pair_judged inner left takes count index bytes rest behind_key after rows old new newer k v lt read text j =
    judged_then (rows ++ spelling k ∷ []) _ _ _ (pair_left inner left takes count index bytes rest behind_key after rows old new newer k v lt read text) j

pub pairs_passed : (inner : List ℕ → Found) (count index : ℕ) (bytes rest : List ℕ) (rows : List (List ℕ)) (old new : List ℕ) → count ≤ index
    → Judged rows (pairs_from inner no_pairs count bytes) (Left inner count index bytes rest rows old new)
    → Judged rows (pairs_from inner no_pairs count bytes) ((ps : Pairs) × (pairs_from inner no_pairs count bytes ≡ Ok (ps, rest)) × (new ≡ old ++ pairs_spelling ps))
pairs_passed inner count index bytes rest rows old new le j =
    judged_then rows _ _ _ (λ (x : Left inner count index bytes rest rows old new). (x.before, sym x.left ∙ pairs_done inner x.before count index rest le, x.text)) j

-- ---- what the keys said

pub they_are_apart : {X : Type 0} (rows : List (List ℕ)) (read : Result X ReadError) (P : Type 0) → AreApart rows → Judged rows read P → P
they_are_apart rows read P a (again r e) = absurd (omega (arith, a r.0, r.1))
they_are_apart rows read P a (apart b p) = p

pub one_repeats : {X : Type 0} (rows : List (List ℕ)) (read : Result X ReadError) (P : Type 0) → Repeats rows → Judged rows read P → read ≡ Err DuplicateKey
one_repeats rows read P r (again s e) = e
one_repeats rows read P r (apart b p) = absurd (omega (arith, b r.0, r.1))

-- ---- what follows a head

pub bytes_behind : {X : Type 0} (inner : List ℕ → Found) (now : X → List ℕ) (old new : List ℕ) (r : Result X Stop) (n : ℕ) (bytes : List ℕ) → AreBytes bytes
    → Passes (λ (content : List ℕ). content) now old new r (string_at n bytes) → PassesBehind (head 2 n) now old new r (content_at inner Bytes n bytes)
unfolding content_at
bytes_behind inner now old new (Ok x) n bytes fits h =
    let t = string_takes n bytes h.0 (now x) fits h.1 in
    (byte_string h.0, rw h.1 refl, h.0, h.2, ap (λ (m : ℕ). head 2 m ++ h.0) (sym t.size))
bytes_behind inner now old new (Err (Fault e)) n bytes fits h = rw h refl
bytes_behind inner now old new (Err Unsure) n bytes fits h = tt

pub text_behind : {X : Type 0} (inner : List ℕ → Found) (now : X → List ℕ) (old new : List ℕ) (r : Result X Stop) (n : ℕ) (bytes : List ℕ) → AreBytes bytes
    → Passes (λ (content : List ℕ). content) now old new r (text_at n bytes) → PassesBehind (head 3 n) now old new r (content_at inner Text n bytes)
unfolding content_at
text_behind inner now old new (Ok x) n bytes fits h =
    let t = (text_takes n bytes h.0 (now x) fits h.1).1 in
    (text_string h.0, rw h.1 refl, h.0, h.2, ap (λ (m : ℕ). head 3 m ++ h.0) (sym t.size))
text_behind inner now old new (Err (Fault e)) n bytes fits h = rw h refl
text_behind inner now old new (Err Unsure) n bytes fits h = tt

pub items_behind : {X : Type 0} (inner : List ℕ → Found) (left : ℕ) → Takes inner left → (now : X → List ℕ) (old new : List ℕ) (r : Result X Stop) (n : ℕ) (bytes : List ℕ) → AreBytes bytes
    → Passes items_spelling now old new r (items_from inner no_items n bytes) → PassesBehind (head 4 n) now old new r (content_at inner Array n bytes)
unfolding content_at
items_behind inner left takes now old new (Ok x) n bytes fits h =
    let (more, is-more, t) = items_take inner left takes n no_items bytes h.0 (now x) fits h.1 in
    let size : item_count h.0 ≡ n = ap item_count (sym is-more) ∙ t.size in
    (array h.0, rw h.1 refl, items_spelling h.0, h.2, ap (λ (m : ℕ). head 4 m ++ items_spelling h.0) (sym size))
items_behind inner left takes now old new (Err (Fault e)) n bytes fits h = rw h refl
items_behind inner left takes now old new (Err Unsure) n bytes fits h = tt

pub pairs_behind : {X : Type 0} (inner : List ℕ → Found) (left : ℕ) → Takes inner left → (now : X → List ℕ) (old new : List ℕ) (r : Result X Stop) (n : ℕ) (bytes : List ℕ) → AreBytes bytes
    → Passes pairs_spelling now old new r (pairs_from inner no_pairs n bytes) → PassesBehind (head 5 n) now old new r (content_at inner Map n bytes)
unfolding content_at
pairs_behind inner left takes now old new (Ok x) n bytes fits h =
    let (more, is-more, t) = pairs_take inner left takes n no_pairs bytes h.0 (now x) fits tt h.1 in
    let size : pair_count h.0 ≡ n = ap pair_count (sym is-more) ∙ t.size in
    (map h.0, rw h.1 refl, pairs_spelling h.0, h.2, ap (λ (m : ℕ). head 5 m ++ pairs_spelling h.0) (sym size))
pairs_behind inner left takes now old new (Err (Fault e)) n bytes fits h = rw h refl
pairs_behind inner left takes now old new (Err Unsure) n bytes fits h = tt

pub tag_behind : {X : Type 0} (inner : List ℕ → Found) (now : X → List ℕ) (old new : List ℕ) (r : Result X Stop) (n : ℕ) (bytes : List ℕ)
    → Passes spelling now old new r (inner bytes) → PassesBehind (head 6 n) now old new r (content_at inner Tag n bytes)
unfolding content_at
tag_behind inner now old new (Ok x) n bytes h = (tag n h.0, rw h.1 refl, spelling h.0, h.2, refl)
tag_behind inner now old new (Err (Fault e)) n bytes h = rw h refl
tag_behind inner now old new (Err Unsure) n bytes h = tt

-- a head, and what follows it
pub behind_head : {X : Type 0} (front : List ℕ) (now : X → List ℕ) (old new newer : List ℕ) (r : Result X Stop) (read : Found) → new ≡ old ++ front
    → PassesBehind front now new newer r read → Passes spelling now old newer r read
behind_head front now old new newer (Ok x) read noted h =
    (h.0, h.1, h.3 ∙ ap (λ (z : List ℕ). z ++ h.2) noted ∙ append_assoc old front h.2 ∙ ap (λ (z : List ℕ). old ++ z) h.4)
behind_head front now old new newer (Err (Fault e)) read noted h = h
behind_head front now old new newer (Err Unsure) read noted h = tt

-- a number is its head
pub number_behind : {X : Type 0} (front : List ℕ) (now : X → List ℕ) (old : List ℕ) (x : X) (d : DataItem) (read : Found) → read ≡ Ok (d, now x) → front ≡ spelling d → PassesBehind front now old old (Ok x) read
number_behind front now old x d read is same = (d, is, [], sym (append-nil old), append-nil front ∙ same)

-- ---- loops

pub record PassedItems (inner : List ℕ → Found) (count index : ℕ) (bytes rest old new : List ℕ) (keys keys' : List Key) : Type 0 where
  pub before : Items
  pub text : new ≡ old ++ items_spelling before
  pub same_keys : keys' ≡ keys
  pub left : items_from inner before (count - index) rest ≡ items_from inner no_items count bytes

pub record PassedPairs (inner : List ℕ → Found) (count index : ℕ) (bytes rest old new : List ℕ) (keys keys' : List Key) : Type 0 where
  pub mine : List Key
  pub noted : keys' ≡ keys ++ mine
  pub grown : Grows old new
  pub within : Within (length new) mine
  pub judged : Judged (pieces new mine) (pairs_from inner no_pairs count bytes) (Left inner count index bytes rest (pieces new mine) old new)

-- a key was passed and noted
pub record PassedKey (inner : List ℕ → Found) (count index : ℕ) (bytes rest behind_key old new newer : List ℕ) (keys keys' : List Key) (k : DataItem) : Type 0 where
  pub mine : List Key
  pub noted : keys' ≡ keys ++ mine
  pub grown : Grows old newer
  pub within : Within (length newer) mine
  pub rows : List (List ℕ)
  pub rows_are : pieces newer mine ≡ rows ++ spelling k ∷ []
  pub text : newer ≡ new ++ spelling k
  pub judged : Judged (rows ++ spelling k ∷ []) (pairs_from inner no_pairs count bytes) (KeyLeft inner count index bytes rest behind_key rows old new k)

pub pairs_start : (inner : List ℕ → Found) (count : ℕ) (bytes old : List ℕ) (keys : List Key) → AreBytes bytes → PassedPairs inner count 0 bytes bytes old old keys keys
pairs_start inner count bytes old keys fits = record { mine = []; noted = sym (append-nil keys); grown = grows_none old; within = tt; judged = judged_start inner count bytes old fits }

-- the pieces of a map's keys, after more was noted
mine_stay : (old_keys mine keys' : List Key) (new newer : List ℕ) → keys' ≡ old_keys ++ mine → Within (length new) mine → Grows new newer → pieces newer (drop (length old_keys) keys') ≡ pieces new mine
mine_stay old_keys mine keys' new newer noted within (more, is) =
    let behind : drop (length old_keys) keys' ≡ mine = ap (drop (length old_keys)) noted ∙ drop-append_seam old_keys mine in
    ap (pieces newer) behind ∙ ap (λ (x : List ℕ). pieces x mine) is ∙ pieces-grown new more mine within

pub key_ends : {X : Type 0} (inner : List ℕ → Found) (now : X → List ℕ) (count index : ℕ) (bytes rest old new newer : List ℕ) (keys keys' keys'' : List Key) (e : Stop) → index < count
    → PassedPairs inner count index bytes rest old new keys keys' → Grows new newer → keys'' ≡ keys' → Passes spelling now new newer (Err e) (inner rest)
    → Judged (pieces newer (drop (length keys) keys'')) (pairs_from inner no_pairs count bytes) (Passes pairs_spelling now old newer (Err e) (pairs_from inner no_pairs count bytes))
key_ends inner now count index bytes rest old new newer keys keys' keys'' e lt x grown same h =
    subst (λ (rows : List (List ℕ)). Judged rows (pairs_from inner no_pairs count bytes) (Passes pairs_spelling now old newer (Err e) (pairs_from inner no_pairs count bytes)))
    (sym (mine_stay keys x.mine keys'' new newer (same ∙ x.noted) x.within grown))
    (key_stopped inner now count index bytes rest (pieces new x.mine) old new newer e lt h x.judged)

pub room_ends : {X : Type 0} (inner : List ℕ → Found) (now : X → List ℕ) (count index : ℕ) (bytes rest old new newer : List ℕ) (keys keys' keys'' : List Key) (e : Stop)
    → PassedPairs inner count index bytes rest old new keys keys' → Grows new newer → keys'' ≡ keys' → e ≡ Unsure
    → Judged (pieces newer (drop (length keys) keys'')) (pairs_from inner no_pairs count bytes) (Passes pairs_spelling now old newer (Err e) (pairs_from inner no_pairs count bytes))
room_ends inner now count index bytes rest old new newer keys keys' keys'' e x grown same is =
    subst (λ (rows : List (List ℕ)). Judged rows (pairs_from inner no_pairs count bytes) (Passes pairs_spelling now old newer (Err e) (pairs_from inner no_pairs count bytes)))
    (sym (mine_stay keys x.mine keys'' new newer (same ∙ x.noted) x.within grown))
    (no_room inner now count index bytes rest (pieces new x.mine) old new newer e is x.judged)

pub key_passed : (inner : List ℕ → Found) (left : ℕ) → Takes inner left → (count index : ℕ) (bytes rest behind_key old new newer : List ℕ) (keys keys' keys'' : List Key) (k : DataItem) (key : Key) → index < count
    → PassedPairs inner count index bytes rest old new keys keys' → inner rest ≡ Ok (k, behind_key) → newer ≡ new ++ spelling k
    → keys'' ≡ keys' ++ key ∷ [] → key.start ≡ length new → key.end ≡ length newer
    → PassedKey inner count index bytes rest behind_key old new newer keys keys'' k
key_passed inner left takes count index bytes rest behind_key old new newer keys keys' keys'' k key lt x read text noted start end =
    let longer : length new ≤ length newer = omega (arith, ap length text, length-append new (spelling k)) in
    let stay : pieces newer x.mine ≡ pieces new x.mine = ap (λ (z : List ℕ). pieces z x.mine) text ∙ pieces-grown new (spelling k) x.mine x.within in
    let own : piece newer key ≡ spelling k = ap (λ (z : List ℕ). piece z key) text ∙ piece-new new (spelling k) key start (end ∙ ap length text) in
    record {
      mine = x.mine ++ key ∷ [];
      noted = noted ∙ ap (λ (z : List Key). z ++ key ∷ []) x.noted ∙ append_assoc keys x.mine (key ∷ []);
      grown = grows_then old new newer x.grown (spelling k, text);
      within = within_push (length newer) x.mine key (within_more (length new) (length newer) x.mine longer x.within) (omega (arith, end));
      rows = pieces new x.mine;
      rows_are = pieces-push newer x.mine key ∙ ap₂ (λ (a : List (List ℕ)) (b : List ℕ). a ++ b ∷ []) stay own;
      text = text;
      judged = key_judged inner left takes count index bytes rest (pieces new x.mine) old new k behind_key lt read x.judged;
    }

pub value_ends : {X : Type 0} (inner : List ℕ → Found) (now : X → List ℕ) (count index : ℕ) (bytes rest behind_key old new newer newest : List ℕ) (keys keys' keys'' : List Key) (k : DataItem) (e : Stop) → index < count
    → PassedKey inner count index bytes rest behind_key old new newer keys keys' k → Grows newer newest → keys'' ≡ keys' → Passes spelling now newer newest (Err e) (inner behind_key)
    → Judged (pieces newest (drop (length keys) keys'')) (pairs_from inner no_pairs count bytes) (Passes pairs_spelling now old newest (Err e) (pairs_from inner no_pairs count bytes))
value_ends inner now count index bytes rest behind_key old new newer newest keys keys' keys'' k e lt x grown same h =
    subst (λ (rows : List (List ℕ)). Judged rows (pairs_from inner no_pairs count bytes) (Passes pairs_spelling now old newest (Err e) (pairs_from inner no_pairs count bytes)))
    (sym (mine_stay keys x.mine keys'' newer newest (same ∙ x.noted) x.within grown ∙ x.rows_are))
    (value_stopped inner now count index bytes rest behind_key x.rows (x.rows ++ spelling k ∷ []) old new newer newest k e lt h x.judged)

pub pair_passed : (inner : List ℕ → Found) (left : ℕ) → Takes inner left → (count index : ℕ) (bytes rest behind_key after old new newer newest : List ℕ) (keys keys' keys'' : List Key) (k v : DataItem) → index < count
    → PassedKey inner count index bytes rest behind_key old new newer keys keys' k → inner behind_key ≡ Ok (v, after) → newest ≡ newer ++ spelling v → keys'' ≡ keys'
    → PassedPairs inner count (index + 1) bytes after old newest keys keys''
pair_passed inner left takes count index bytes rest behind_key after old new newer newest keys keys' keys'' k v lt x read text same =
    let longer : length newer ≤ length newest = omega (arith, ap length text, length-append newer (spelling v)) in
    let both : newest ≡ new ++ (spelling k ++ spelling v) = text ∙ ap (λ (z : List ℕ). z ++ spelling v) x.text ∙ append_assoc new (spelling k) (spelling v) in
    let rows_are : pieces newest x.mine ≡ x.rows ++ spelling k ∷ [] = ap (λ (z : List ℕ). pieces z x.mine) text ∙ pieces-grown newer (spelling v) x.mine x.within ∙ x.rows_are in
    record {
      mine = x.mine;
      noted = same ∙ x.noted;
      grown = grows_then old newer newest x.grown (spelling v, text);
      within = within_more (length newer) (length newest) x.mine longer x.within;
      judged = subst (λ (rows : List (List ℕ)). Judged rows (pairs_from inner no_pairs count bytes) (Left inner count (index + 1) bytes after rows old newest)) (sym rows_are)
          (pair_judged inner left takes count index bytes rest behind_key after x.rows old new newest k v lt read both x.judged);
    }

pub all_passed : (inner : List ℕ → Found) (count index : ℕ) (bytes rest old new : List ℕ) (keys keys' : List Key) → count ≤ index → PassedPairs inner count index bytes rest old new keys keys'
    → Judged (pieces new (drop (length keys) keys')) (pairs_from inner no_pairs count bytes) ((ps : Pairs) × (pairs_from inner no_pairs count bytes ≡ Ok (ps, rest)) × (new ≡ old ++ pairs_spelling ps))
all_passed inner count index bytes rest old new keys keys' le x =
    subst (λ (rows : List (List ℕ)). Judged rows (pairs_from inner no_pairs count bytes) ((ps : Pairs) × (pairs_from inner no_pairs count bytes ≡ Ok (ps, rest)) × (new ≡ old ++ pairs_spelling ps)))
    (sym (mine_stay keys x.mine keys' new new x.noted x.within (grows_none new)))
    (pairs_passed inner count index bytes rest (pieces new x.mine) old new le x.judged)

-- ---- items

pub items_start : (inner : List ℕ → Found) (count : ℕ) (bytes old : List ℕ) (keys : List Key) → PassedItems inner count 0 bytes bytes old old keys keys
items_start inner count bytes old keys = record { before = no_items; text = sym (append-nil old); same_keys = refl; left = all_left inner no_items count bytes }

pub item_ends : {X : Type 0} (inner : List ℕ → Found) (now : X → List ℕ) (count index : ℕ) (bytes rest old new newer : List ℕ) (keys keys' : List Key) (e : Stop) → index < count → PassedItems inner count index bytes rest old new keys keys'
    → Passes spelling now new newer (Err e) (inner rest) → Passes items_spelling now old newer (Err e) (items_from inner no_items count bytes)
item_ends inner now count index bytes rest old new newer keys keys' (Fault fault) lt x h = sym x.left ∙ items_err fault inner x.before count index rest lt h
item_ends inner now count index bytes rest old new newer keys keys' Unsure lt x h = tt

pub item_passed : (inner : List ℕ → Found) (count index : ℕ) (bytes rest after old new newer : List ℕ) (keys keys' keys'' : List Key) (d : DataItem) → index < count → PassedItems inner count index bytes rest old new keys keys'
    → inner rest ≡ Ok (d, after) → newer ≡ new ++ spelling d → keys'' ≡ keys' → PassedItems inner count (index + 1) bytes after old newer keys keys''
item_passed inner count index bytes rest after old new newer keys keys' keys'' d lt x read text same = record {
  before = push_item x.before d;
  text = text ∙ ap (λ (z : List ℕ). z ++ spelling d) x.text ∙ append_assoc old (items_spelling x.before) (spelling d) ∙ ap (λ (z : List ℕ). old ++ z) (sym (items_spelling-push x.before d));
  same_keys = same ∙ x.same_keys;
  left = sym (items_more inner x.before count index rest d after lt read) ∙ x.left;
}

pub items_passed : (inner : List ℕ → Found) (count index : ℕ) (bytes rest old new : List ℕ) (keys keys' : List Key) → count ≤ index → PassedItems inner count index bytes rest old new keys keys'
    → (ds : Items) × (items_from inner no_items count bytes ≡ Ok (ds, rest)) × (new ≡ old ++ items_spelling ds)
items_passed inner count index bytes rest old new keys keys' le x = (x.before, sym x.left ∙ items_done inner x.before count index rest le, x.text)
