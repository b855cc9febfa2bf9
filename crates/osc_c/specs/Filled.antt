-- Structs that are filled in for a caller: with all their members, or without the last of them.
use Rattle.std.specs.Prelude.{◌≡◌, ℕ, ◌⊎◌, ◌==◌, if◌then◌else◌}
use Rattle.osc_c.specs.Given.{refused_size, result_size, served_size, value_size}

-- The first member says the size of the whole struct, or that without its last members.
abbrev pub IsEither : ℕ → ℕ → ℕ → Type 0
IsEither whole short size = (size ≡ short) ⊎ (size ≡ whole)

-- without the ETag
abbrev pub IsValueSize : ℕ → Type 0
IsValueSize size = IsEither value_size 24 size

-- without token and ETag
abbrev pub IsServedSize : ℕ → Type 0
IsServedSize size = IsEither served_size 48 size

-- without the token
abbrev pub IsRefusedSize : ℕ → Type 0
IsRefusedSize size = IsEither refused_size 40 size

-- without the ETag
abbrev pub IsResultSize : ℕ → Type 0
IsResultSize size = IsEither result_size 24 size

-- one of the last members: it is told where it is there, and else as it was
abbrev pub where_whole : {A : Type 0} → ℕ → ℕ → A → A → A
where_whole whole size told old = if size == whole then told else old
