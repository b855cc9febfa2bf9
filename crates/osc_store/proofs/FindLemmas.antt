-- What the first page of two files tells of the database in them.
use Rattle.std.proofs.Common.{◌≡◌, ◌⊎◌, ◌+◌, ◌-◌, ◌%◌, ◌≤◌, ℕ, Bool, true, false, List, take, eqb, ◌*◌, Option, Some, None, unwrap_or, option_map, refl, sym, subst, ap, ap₂, ◌∙◌, inl, inr, arith, zero, suc, [], ◌∷◌, eq-eqb, ne_eqb}
use Rattle.std.proofs.Math.Logic.{∥∥₁_elim, ∥∥₁_map}
use Rattle.std.proofs.lemmas.Bool.{cases_eq}
use Rattle.sqlite_disk.specs.Disk.{MoreFaults}
use Rattle.sqlite_disk.specs.declared.Disk as disk
use Rattle.sqlite_disk.specs.declared.Files.{Files}
use Rattle.sqlite_wal.specs.declared.error.Error.{Error as LogError}
use Rattle.sqlite_wal.specs.declared.error.Error.TheVariants as log
use Rattle.sqlite_wal.specs.declared.page_size.PageSize.{PageSize}
use Rattle.sqlite_wal.specs.Files as log_files
use Rattle.sqlite_wal.specs.Format.{be32}
use Rattle.sqlite_wal.specs.Opening.{RefusesLog}
use Rattle.sqlite_wal.specs.Outcome.{HasCause}
use Rattle.sqlite_wal.specs.PageSize.{bytes_of, size_in_file, Names, IsPageSize}
use Rattle.sqlite_wal.specs.Reads.{OnlyReads}
use Rattle.sqlite_wal.specs.Recovery as raw
use Rattle.sqlite_wal.specs.Recovery.{Image, IsIgnored, IsLogFor}
use Rattle.sqlite_wal.proofs.RecoveryLemmas.{recovers_once as raw_once}
use Rattle.sqlite_pages.specs.PageMap.{PageMap}
use Rattle.sqlite_format.specs.Bytes.{u32_at}
use Rattle.sqlite_pool.specs.File.{header_in}
use Rattle.sqlite_pool.specs.Opening.{IsBlankFile}
use Rattle.sqlite_pool.specs.Stored.{reserved, stored_size, trimmed, used_size, Recovers}
use Rattle.sqlite_pool.specs.StoredLaws.{recovers_once}
use Rattle.sqlite_pool.proofs.ProbeLemmas.{size_by_log, size_by_file, not_blank}
use Rattle.sqlite_pool.proofs.ResealLemmas.{adopts_of}
use Rattle.osc_store.specs.declared.error.OpenStoreError.{OpenStoreError}
use Rattle.osc_store.specs.declared.error.OpenStoreError.TheVariants as opening
use Rattle.sqlite_trees.specs.declared.error.StoreError.{StoreError}
use Rattle.sqlite_trees.specs.declared.error.StoreError.TheVariants as call
use Rattle.osc_store.specs.{by_fault, of_probe, IsEmpty, IsStore, ReadsAs, page, Fails, HasSound, WhyNotOpened, image_of}

-- ---- reading

pub reads_then : {D : Type 0} {g : disk.Ghosts D} {a b c : D} → OnlyReads g a b → OnlyReads g b c → OnlyReads g a c
reads_then s t = record { seen = t.seen ∙ s.seen; clean = λ h. s.clean (t.clean h); usable = t.usable; key = t.key ∙ s.key; rot = t.rot ∙ s.rot; crash = λ x may. s.crash x (t.crash x may) }

pub same_image : {D : Type 0} {g : disk.Ghosts D} {old new : Files D} → OnlyReads g old.log new.log → OnlyReads g old.db new.db → image_of g new ≡ image_of g old
same_image log db = ap₂ (λ a b. let i : Image = record { log = a; db = b } in i) log.seen db.seen

pub stored_used : (size : PageSize) (has_sums : Bool) → stored_size (used_size (bytes_of size) has_sums) ≡ bytes_of size
stored_used size true = rw (eq-eqb ((size.bytes - 8) % 16) 8 (omega (arith, size.aligned, size.smallest))) (omega (arith, size.smallest))
stored_used size false = rw (ne_eqb (size.bytes % 16) 8 (omega (arith, size.aligned))) (omega arith)

-- ---- one database in one pair of files

pub large_of : (size : ℕ) → IsPageSize (stored_size size) → 504 ≤ size
large_of size allowed = let few : reserved size ≤ 8 = grind arith in omega (arith, allowed.0)

take_both : (n m : ℕ) (xs : List ℕ) → n ≤ m → take n (take m xs) ≡ take n xs
take_both zero m xs h = refl
take_both (suc n) zero xs h = absurd (omega arith)
take_both (suc n) (suc m) [] h = refl
take_both (suc n) (suc m) (x ∷ xs) h = ap (λ ys. x ∷ ys) (take_both n m xs (omega arith))

cut_both : (n m : ℕ) (o : Option (List ℕ)) → n ≤ m → take n (unwrap_or (option_map (take m) o) []) ≡ take n (unwrap_or o [])
cut_both n m None h = refl
cut_both n m (Some xs) h = take_both n m xs h

head_of : (size : ℕ) (image : Image) (pages : PageMap) (r : Recovers size image pages) → 100 ≤ size → header_in pages ≡ take 100 (unwrap_or (r.stored 1) [])
unfolding trimmed
head_of size image pages r large = ap (λ (p : PageMap). take 100 (unwrap_or (p 1) [])) (sym r.shows) ∙ cut_both 100 size (r.stored 1) large

module _ (image : Image) (m n : ℕ) (a : HasSound image m) (b : HasSound image n) where
  stored_alike : stored_size m ≡ stored_size n
  stored_alike = elim (cases_eq (stored_size m) (stored_size n)) [
    | inl same ↦ same
    | inr other ↦
        let read = λ (seen : ¬ IsIgnored image.log). other (sym (size_by_log m image a.pages (adopts_of m image a.pages a.found) seen) ∙ size_by_log n image b.pages (adopts_of n image b.pages b.found) seen) in
        absurd (read (λ ignored. other (
        sym (size_by_file m image a.pages (adopts_of m image a.pages a.found) (large_of m a.sized) a.sound ignored)
        ∙ size_by_file n image b.pages (adopts_of n image b.pages b.found) (large_of n b.sized) b.sound ignored)))
  ]

  same_head : header_in a.pages ≡ header_in b.pages
  same_head =
      let once : a.found.stored ≡ b.found.stored = raw_once (stored_size n) image a.found.stored b.found.stored (subst (λ s. raw.Recovers s image a.found.stored) stored_alike a.found.found) b.found.found in
      let enough = λ (s : ℕ) (big : 504 ≤ s). let h : 100 ≤ s = omega arith in h in
      head_of m image a.pages a.found (enough m (large_of m a.sized))
      ∙ ap (λ (x : PageMap). take 100 (unwrap_or (x 1) [])) once
      ∙ sym (head_of n image b.pages b.found (enough n (large_of n b.sized)))

  pub same_size : m ≡ n
  same_size =
      let here = a.sound.header.1.fractions in
      let there = b.sound.header.1.fractions in
      let alike = ap (λ h. u32_at h 20) same_head in
      let reserves : reserved m ≡ reserved n = omega (arith, sym here ∙ alike ∙ there) in
      let whole : m + reserved m ≡ n + reserved n = stored_alike in
      omega (arith, reserves, whole)

  pub same_pages : a.pages ≡ b.pages
  same_pages = recovers_once n image a.pages b.pages (subst (λ s. Recovers s image a.pages) same_size a.found) b.found

-- ---- probes

module _ (image : Image) (found : Option PageSize) (by_log : ¬ IsIgnored image.log → Names found (be32 image.log 8)) (by_file : IsIgnored image.log → Names found (size_in_file image.db))
    (n : ℕ) (held : HasSound image n) where
  names : ¬ (¬ Names found (stored_size n))
  names never =
      let read = λ (seen : ¬ IsIgnored image.log). never (subst (Names found) (size_by_log n image held.pages (adopts_of n image held.pages held.found) seen) (by_log seen)) in
      read (λ ignored. never (subst (Names found) (size_by_file n image held.pages (adopts_of n image held.pages held.found) (large_of n held.sized) held.sound ignored) (by_file ignored)))

  pub probe_finds : found ≡ None → ⊥
  probe_finds none = names (λ named. let some = named.0.1 held.sized in let x = rw none at some in cc)

  pub probe_size : (size : PageSize) → found ≡ Some size → stored_size n ≡ bytes_of size
  probe_size size is = elim (cases_eq (stored_size n) (bytes_of size)) [ inl same ↦ same | inr other ↦ absurd (names (λ named. other (sym (rw is at named.1)))) ]

-- the first page says whether the pages end in sums
pub sums_by_word : (image : Image) (n size : ℕ) (word : ℕ) (held : HasSound image n) → stored_size n ≡ size
    → word ≡ reserved n * 0x100_0000 + 0x0040_2020 → (b : Bool) → b ≡ eqb word 0x0840_2020 → n ≡ used_size size b
sums_by_word image n size word held is said b tells =
    elim (cases_eq (n % 16) 8) [
      | inl on ↦ let eight : reserved n ≡ 8 = rw (eq-eqb _ 8 on) in rw (tells, eq-eqb word 0x0840_2020 (omega arith)) (omega arith)
      | inr off ↦ let none : reserved n ≡ 0 = rw (ne_eqb _ 8 off) in rw (tells, ne_eqb word 0x0840_2020 (omega arith)) (omega arith)
    ]

-- ---- causes

pub log_cause : (a b size : ℕ) (image : Image) (Held : Type 0) (e : LogError) → HasCause a b (RefusesLog size image.log) e → (Held → (k : ℕ) × raw.Replays size image.log k)
    → Fails (MoreFaults a b) (log_files.IsHuge size image) Held ⊥ (of_probe e)
log_cause a b size image Held (log.Io x) cause reads = cause
log_cause a b size image Held log.OutOfMemory cause reads = tt
log_cause a b size image Held log.Full cause reads = elim cause [ inl bad ↦ let e = bad.0 in absurd (cc) | inr huge ↦ inl huge.1 ]
log_cause a b size image Held log.Corrupt cause reads = λ w. elim cause [ inl bad ↦ bad.1 (reads w).0 (reads w).1 | inr huge ↦ let e = huge.0 in cc ]
log_cause a b size image Held log.Closed cause reads = λ w. elim cause [ inl bad ↦ let e = bad.0 in cc | inr huge ↦ let e = huge.0 in cc ]
log_cause a b size image Held log.NoSuchPage cause reads = λ w. elim cause [ inl bad ↦ let e = bad.0 in cc | inr huge ↦ let e = huge.0 in cc ]
log_cause a b size image Held log.Exists cause reads = λ w. elim cause [ inl bad ↦ let e = bad.0 in cc | inr huge ↦ let e = huge.0 in cc ]

pub fails_wider : (F F' L L' H H' O O' : Type 0) (e : OpenStoreError) → (F → F') → (L → L') → (H' → ¬ (¬ H)) → (O → O') → Fails F L H O e → Fails F' L' H' O' e
fails_wider F F' L L' H H' O O' opening.OutOfMemory f l h o was = tt
fails_wider F F' L L' H H' O O' opening.Full f l h o was = l was
fails_wider F F' L L' H H' O O' opening.Failed f l h o was = f was
fails_wider F F' L L' H H' O O' opening.Busy f l h o was = was
fails_wider F F' L L' H H' O O' opening.Journal f l h o was = was
fails_wider F F' L L' H H' O O' opening.NoStore f l h o was = λ w. h w was
fails_wider F F' L L' H H' O O' opening.OtherVersion f l h o was = (o was.0, λ w. h w was.1)
fails_wider F F' L L' H H' O O' opening.Damaged f l h o was = λ w. h w was
fails_wider F F' L L' H H' O O' opening.EmptyFile f l h o was = was
fails_wider F F' L L' H H' O O' opening.NoLog f l h o was = was
fails_wider F F' L L' H H' O O' opening.ForeignLog f l h o was = was
fails_wider F F' L L' H H' O O' opening.DamagedLog f l h o was = was

pub more_faults : (a b c d : ℕ) → a ≤ b → c ≤ d → MoreFaults b c → MoreFaults a d
more_faults a b c d p q h = omega (arith, h)

-- ---- a store is a sound database, or nothing yet

pub page_sized : IsPageSize (stored_size page)
page_sized = (omega arith, omega arith, refl, refl)

pub reads_sound : (image : Image) (db : _) (r : ReadsAs image db) → ∥ HasSound image r.size ∥₁
reads_sound image db r = ∥∥₁_map r.ours (λ ours. record { pages = r.pages; sized = r.sized; found = r.found; sound = ours.file.sound })

pub store_is_sound : (image : Image) → IsStore image → ¬ IsBlankFile page image → ∥ ((n : ℕ) × HasSound image n) ∥₁
store_is_sound image store some = elim store.1 [
  | inl held ↦ ∥∥₁_map (reads_sound image held.0 held.1) (λ sound. (held.1.size, sound))
  | inr unmade ↦ ∥∥₁_map unmade.0 (elim [
    | inl blank ↦ absurd (some blank)
    | inr empty ↦ (page, record { pages = empty.0; sized = page_sized; found = empty.1; sound = empty.2.0.sound })
  ])
]

pub sound_is_something : (image : Image) (n : ℕ) → HasSound image n → ¬ IsBlankFile page image
sound_is_something image n held = not_blank n image held.pages (adopts_of n image held.pages held.found) (large_of n held.sized) held.sound page (omega arith)

pub surely : {A : Type 0} → A → ¬ (¬ A)
surely a never = never a

pub surely_some : {A B : Type 0} → ∥ A ∥₁ → (A → B) → ¬ (¬ B)
surely_some some f never = ∥∥₁_elim some (λ x y. absurd x) (λ a. never (f a))

pub empty_is_something : (image : Image) → IsEmpty image → ¬ IsBlankFile page image
empty_is_something image empty = sound_is_something image page (record { pages = empty.0; sized = page_sized; found = empty.1; sound = empty.2.0.sound })

-- a failure of the disk, once it is named
pub once_named : (F L H O : Type 0) (e : OpenStoreError) (kind : StoreError) → (kind ≡ call.Io) ⊎ ((kind ≡ call.Corrupt) ⊎ (kind ≡ call.Full)) → Fails F L H O e
    → WhyNotOpened (λ k. F × (kind ≡ k)) L H O (by_fault kind e)
once_named F L H O opening.Failed kind (inl is) h = rw is (h, refl)
once_named F L H O opening.Failed kind (inr (inl is)) h = rw is (inl (h, refl))
once_named F L H O opening.Failed kind (inr (inr is)) h = rw is (inl (h, refl))
once_named F L H O opening.OutOfMemory kind is h = elim is [ inl a ↦ rw a tt | inr b ↦ elim b [ inl c ↦ rw c tt | inr d ↦ rw d tt ] ]
once_named F L H O opening.Full kind is h = elim is [ inl a ↦ rw a (inr h) | inr b ↦ elim b [ inl c ↦ rw c (inr h) | inr d ↦ rw d (inr h) ] ]
once_named F L H O opening.Busy kind is h = absurd h
once_named F L H O opening.Journal kind is h = absurd h
once_named F L H O opening.EmptyFile kind is h = absurd h
once_named F L H O opening.NoLog kind is h = absurd h
once_named F L H O opening.ForeignLog kind is h = absurd h
once_named F L H O opening.DamagedLog kind is h = absurd h
once_named F L H O opening.NoStore kind is h = elim is [ inl a ↦ rw a h | inr b ↦ elim b [ inl c ↦ rw c h | inr d ↦ rw d h ] ]
once_named F L H O opening.OtherVersion kind is h = elim is [ inl a ↦ rw a h | inr b ↦ elim b [ inl c ↦ rw c h | inr d ↦ rw d h ] ]
once_named F L H O opening.Damaged kind is h = elim is [ inl a ↦ rw a (inr h) | inr b ↦ elim b [ inl c ↦ rw c (inr h) | inr d ↦ rw d (inr h) ] ]
