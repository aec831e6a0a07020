-- The two versions of the file, which differ in the first item and in the last.
use Rattle.std.specs.Prelude.{◌≡◌, true, ℕ, ◌==◌, ◌||◌, cond, Bool, List, [], ◌++◌, length, take, drop, Option, Some, None, Ok, nat_le, codes}
use Rattle.htl_object.specs.{Common.w16, Common.to_be_bytes, Common.flat_map, Common.bytes_eq, Common.is_name, Common.Schedule, Blocks.blocks_at, Blocks.blocks_bytes, Fields.name_bytes, Fields.name_at, declared.malformed.MalKind.MalKind}
use Rattle.htl_object.specs.Reading.{Read, ◌>>=◌, bad_at, short, need, field_at, items_at, number_at}
use Rattle.htl_object.specs.{Schedules.schedule_at, Schedules.schedule_bytes, declared.malformed.MalKind.TheVariants.Magic, declared.malformed.MalKind.TheVariants.Version, declared.malformed.MalKind.TheVariants.Index}

-- ---- the head: a text, the version, and in version 2 the platform's name

-- just these bytes
abbrev pub text_at : MalKind → List ℕ → List ℕ → Read (List ℕ)
text_at kind text bytes =
    need (nat_le (length text) (length bytes)) short
    (need (bytes_eq (take (length text) bytes) text) (bad_at kind bytes) (Ok (text, drop (length text) bytes)))

-- the version of a file that names a platform, or none
abbrev pub version_of : Option (List ℕ) → ℕ
version_of None = 1
version_of (Some name) = 2

abbrev pub platform_bytes : Option (List ℕ) → List ℕ
platform_bytes None = []
platform_bytes (Some name) = name_bytes name

abbrev pub head_bytes : Option (List ℕ) → List ℕ
head_bytes platform = codes "HTLO" ++ (to_be_bytes w16 (version_of platform) ++ platform_bytes platform)

abbrev pub version_at : List ℕ → Read ℕ
version_at = field_at Version (λ n. n == 1 || n == 2) (number_at w16)

abbrev pub platform_at : ℕ → List ℕ → Read (Option (List ℕ))
platform_at version bytes = cond (version == 1) (Ok (None, bytes)) (name_at bytes >>= λ name rest. Ok (Some name, rest))

abbrev pub head_at : List ℕ → Read (Option (List ℕ))
head_at bytes =
    text_at Magic (codes "HTLO") bytes >>= λ magic rest.
    version_at rest >>= λ version rest.
    platform_at version rest

-- a name, where there is one
abbrev pub IsPlatformName : Option (List ℕ) → Type 0
IsPlatformName None = Unit {0}
IsPlatformName (Some name) = is_name name ≡ true

-- ---- the tail: a count of schedules, and these one by one, or in version 2 equal ones once

abbrev pub schedules_bytes : Option (List ℕ) → List Schedule → List ℕ
schedules_bytes None ss = flat_map schedule_bytes ss
schedules_bytes (Some name) ss = blocks_bytes ss

abbrev pub tail_bytes : Option (List ℕ) → List Schedule → List ℕ
tail_bytes platform ss = to_be_bytes w16 (length ss) ++ schedules_bytes platform ss

abbrev pub schedules_at : Option (List ℕ) → ℕ → List ℕ → Read (List Schedule)
schedules_at None n = items_at (λ _. schedule_at) n []
schedules_at (Some name) n = blocks_at n

abbrev pub tail_at : Option (List ℕ) → (ℕ → Bool) → List ℕ → Read (List Schedule)
tail_at platform test bytes = field_at Index test (number_at w16) bytes >>= λ n rest. schedules_at platform n rest
