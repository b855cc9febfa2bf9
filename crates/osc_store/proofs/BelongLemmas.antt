-- What is refused as no store of its own is refused for nothing else.
use Rattle.std.proofs.Common.{◌≡◌, ◌⊎◌, inl, inr, refl, subst, IsTrue}
use Rattle.std.specs.Bool.{⊤}
use Rattle.sqlite_wal.specs.Recovery.{Image}
use Rattle.osc_store.specs.Causes.{is_refusal}
use Rattle.osc_store.specs.declared.error.OpenStoreError.{OpenStoreError}
use Rattle.osc_store.specs.declared.error.OpenStoreError.TheVariants as opening
use Rattle.sqlite_trees.specs.declared.error.StoreError.{StoreError}
use Rattle.sqlite_trees.specs.declared.error.StoreError.TheVariants as call
use Rattle.osc_store.specs.{by_fault, Fails, Refuses, RefusesPair, WhyNotOpened}
use Rattle.osc_store.proofs.FindLemmas.{once_named}

-- what fails with the files taken for one store isn't refused so
pub no_refusal : {P : Type 0} (F L H O : Type 0) (e : OpenStoreError) → IsTrue (is_refusal e) → Fails F L H O e → P
no_refusal F L H O opening.EmptyFile is h = absurd h
no_refusal F L H O opening.NoLog is h = absurd h
no_refusal F L H O opening.ForeignLog is h = absurd h
no_refusal F L H O opening.DamagedLog is h = absurd h
no_refusal F L H O opening.OutOfMemory is h = absurd (cc)
no_refusal F L H O opening.Full is h = absurd (cc)
no_refusal F L H O opening.Failed is h = absurd (cc)
no_refusal F L H O opening.Busy is h = absurd h
no_refusal F L H O opening.Journal is h = absurd h
no_refusal F L H O opening.NoStore is h = absurd (cc)
no_refusal F L H O opening.OtherVersion is h = absurd (cc)
no_refusal F L H O opening.Damaged is h = absurd (cc)

abbrev OneOf : StoreError → Type 0
OneOf kind = (kind ≡ call.Io) ⊎ ((kind ≡ call.Corrupt) ⊎ (kind ≡ call.Full))

-- the same, once a failure of the disk is named
pub stops_named : (image : Image) (F L H O : Type 0) (e : OpenStoreError) (kind : StoreError) → OneOf kind
    → Fails F L H O e ⊎ Refuses image ⊥ e → WhyNotOpened (λ k. F × (kind ≡ k)) L H O (by_fault kind e)
stops_named image F L H O e kind is (inl why) = once_named F L H O e kind is why
stops_named image F L H O opening.EmptyFile kind is (inr why) = elim is [ inl a ↦ rw a tt | inr b ↦ elim b [ inl c ↦ rw c tt | inr d ↦ rw d tt ] ]
stops_named image F L H O opening.NoLog kind is (inr why) = elim is [ inl a ↦ rw a tt | inr b ↦ elim b [ inl c ↦ rw c tt | inr d ↦ rw d tt ] ]
stops_named image F L H O opening.ForeignLog kind is (inr why) = elim is [ inl a ↦ rw a tt | inr b ↦ elim b [ inl c ↦ rw c tt | inr d ↦ rw d tt ] ]
stops_named image F L H O opening.DamagedLog kind is (inr why) = elim is [ inl a ↦ rw a tt | inr b ↦ elim b [ inl c ↦ rw c tt | inr d ↦ rw d tt ] ]
stops_named image F L H O opening.OutOfMemory kind is (inr why) = absurd why
stops_named image F L H O opening.Full kind is (inr why) = absurd why
stops_named image F L H O opening.Failed kind is (inr why) = absurd why
stops_named image F L H O opening.Busy kind is (inr why) = absurd why
stops_named image F L H O opening.Journal kind is (inr why) = absurd why
stops_named image F L H O opening.NoStore kind is (inr why) = absurd why
stops_named image F L H O opening.OtherVersion kind is (inr why) = absurd why
stops_named image F L H O opening.Damaged kind is (inr why) = absurd why

-- and what is told of the two
pub refusal_told : (image : Image) (F L H O : Type 0) (e : OpenStoreError) (kind : StoreError) → OneOf kind → Fails F L H O e ⊎ Refuses image ⊥ e → Refuses image ⊤ (by_fault kind e)
refusal_told image F L H O opening.EmptyFile kind is (inl why) = absurd why
refusal_told image F L H O opening.NoLog kind is (inl why) = absurd why
refusal_told image F L H O opening.ForeignLog kind is (inl why) = absurd why
refusal_told image F L H O opening.DamagedLog kind is (inl why) = absurd why
refusal_told image F L H O opening.EmptyFile kind is (inr why) = elim is [ inl a ↦ rw a why | inr b ↦ elim b [ inl c ↦ rw c why | inr d ↦ rw d why ] ]
refusal_told image F L H O opening.NoLog kind is (inr why) = elim is [ inl a ↦ rw a why | inr b ↦ elim b [ inl c ↦ rw c why | inr d ↦ rw d why ] ]
refusal_told image F L H O opening.ForeignLog kind is (inr why) = elim is [ inl a ↦ rw a why | inr b ↦ elim b [ inl c ↦ rw c why | inr d ↦ rw d why ] ]
refusal_told image F L H O opening.DamagedLog kind is (inr why) = elim is [ inl a ↦ rw a why | inr b ↦ elim b [ inl c ↦ rw c why | inr d ↦ rw d why ] ]
refusal_told image F L H O opening.OutOfMemory kind is why = elim is [ inl a ↦ rw a tt | inr b ↦ elim b [ inl c ↦ rw c tt | inr d ↦ rw d tt ] ]
refusal_told image F L H O opening.Full kind is why = elim is [ inl a ↦ rw a tt | inr b ↦ elim b [ inl c ↦ rw c tt | inr d ↦ rw d tt ] ]
refusal_told image F L H O opening.Failed kind is why = elim is [ inl a ↦ rw a tt | inr b ↦ elim b [ inl c ↦ rw c tt | inr d ↦ rw d tt ] ]
refusal_told image F L H O opening.Busy kind is why = elim is [ inl a ↦ rw a tt | inr b ↦ elim b [ inl c ↦ rw c tt | inr d ↦ rw d tt ] ]
refusal_told image F L H O opening.Journal kind is why = elim is [ inl a ↦ rw a tt | inr b ↦ elim b [ inl c ↦ rw c tt | inr d ↦ rw d tt ] ]
refusal_told image F L H O opening.NoStore kind is why = elim is [ inl a ↦ rw a tt | inr b ↦ elim b [ inl c ↦ rw c tt | inr d ↦ rw d tt ] ]
refusal_told image F L H O opening.OtherVersion kind is why = elim is [ inl a ↦ rw a tt | inr b ↦ elim b [ inl c ↦ rw c tt | inr d ↦ rw d tt ] ]
refusal_told image F L H O opening.Damaged kind is why = elim is [ inl a ↦ rw a tt | inr b ↦ elim b [ inl c ↦ rw c tt | inr d ↦ rw d tt ] ]

-- a refusal stays one once a failure of the disk is named
pub refusal_named : (e : OpenStoreError) (kind : StoreError) → OneOf kind → IsTrue (is_refusal (by_fault kind e)) → IsTrue (is_refusal e)
refusal_named opening.EmptyFile kind is h = refl
refusal_named opening.NoLog kind is h = refl
refusal_named opening.ForeignLog kind is h = refl
refusal_named opening.DamagedLog kind is h = refl
refusal_named opening.OutOfMemory kind is h = elim is [ inl a ↦ rw a at h | inr b ↦ elim b [ inl c ↦ (let x = rw c at h in absurd (cc)) | inr d ↦ (let x = rw d at h in absurd (cc)) ] ]
refusal_named opening.Full kind is h = elim is [ inl a ↦ rw a at h | inr b ↦ elim b [ inl c ↦ (let x = rw c at h in absurd (cc)) | inr d ↦ (let x = rw d at h in absurd (cc)) ] ]
refusal_named opening.Failed kind is h = elim is [ inl a ↦ rw a at h | inr b ↦ elim b [ inl c ↦ (let x = rw c at h in absurd (cc)) | inr d ↦ (let x = rw d at h in absurd (cc)) ] ]
refusal_named opening.Busy kind is h = elim is [ inl a ↦ rw a at h | inr b ↦ elim b [ inl c ↦ (let x = rw c at h in absurd (cc)) | inr d ↦ (let x = rw d at h in absurd (cc)) ] ]
refusal_named opening.Journal kind is h = elim is [ inl a ↦ rw a at h | inr b ↦ elim b [ inl c ↦ (let x = rw c at h in absurd (cc)) | inr d ↦ (let x = rw d at h in absurd (cc)) ] ]
refusal_named opening.NoStore kind is h = elim is [ inl a ↦ rw a at h | inr b ↦ elim b [ inl c ↦ (let x = rw c at h in absurd (cc)) | inr d ↦ (let x = rw d at h in absurd (cc)) ] ]
refusal_named opening.OtherVersion kind is h = elim is [ inl a ↦ rw a at h | inr b ↦ elim b [ inl c ↦ (let x = rw c at h in absurd (cc)) | inr d ↦ (let x = rw d at h in absurd (cc)) ] ]
refusal_named opening.Damaged kind is h = elim is [ inl a ↦ rw a at h | inr b ↦ elim b [ inl c ↦ (let x = rw c at h in absurd (cc)) | inr d ↦ (let x = rw d at h in absurd (cc)) ] ]

-- a pair that isn't taken for one store is refused
pub pair_refused : (image : Image) (e : OpenStoreError) → RefusesPair image ⊥ e → Refuses image ⊥ e
pair_refused image opening.EmptyFile why = why
pair_refused image opening.NoLog why = why
pair_refused image opening.ForeignLog why = why
pair_refused image opening.DamagedLog why = absurd why
pair_refused image opening.OutOfMemory why = why
pair_refused image opening.Full why = why
pair_refused image opening.Failed why = why
pair_refused image opening.Busy why = why
pair_refused image opening.Journal why = why
pair_refused image opening.NoStore why = why
pair_refused image opening.OtherVersion why = why
pair_refused image opening.Damaged why = why

-- and what is told of the pair alone
pub pair_told : (image : Image) (F L H O : Type 0) (e : OpenStoreError) → Fails F L H O e ⊎ RefusesPair image ⊥ e → RefusesPair image ⊤ e
pair_told image F L H O opening.EmptyFile (inl why) = absurd why
pair_told image F L H O opening.NoLog (inl why) = absurd why
pair_told image F L H O opening.ForeignLog (inl why) = absurd why
pair_told image F L H O opening.EmptyFile (inr why) = why
pair_told image F L H O opening.NoLog (inr why) = why
pair_told image F L H O opening.ForeignLog (inr why) = why
pair_told image F L H O opening.DamagedLog why = tt
pair_told image F L H O opening.OutOfMemory why = tt
pair_told image F L H O opening.Full why = tt
pair_told image F L H O opening.Failed why = tt
pair_told image F L H O opening.Busy why = tt
pair_told image F L H O opening.Journal why = tt
pair_told image F L H O opening.NoStore why = tt
pair_told image F L H O opening.OtherVersion why = tt
pair_told image F L H O opening.Damaged why = tt

-- damage isn't told of a pair
pub no_damage : (image : Image) (F L H O : Type 0) (e : OpenStoreError) → Fails F L H O e ⊎ RefusesPair image ⊥ e → e ≡ opening.DamagedLog → ⊥
no_damage image F L H O e (inl why) is = subst (Fails F L H O) is why
no_damage image F L H O e (inr why) is = subst (RefusesPair image ⊥) is why
