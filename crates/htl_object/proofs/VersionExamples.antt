-- The definitions compute: schedules written once, and the first bad fields of heads and tails.
use Rattle.std.proofs.Common.{◌≡◌, ◌==◌, ℕ, List, [], ◌∷◌, ◌++◌, Option, Some, None, Ok, Err, take, refl}
use Rattle.htl_object.proofs.Words.{codes, Read, short, Version, Index, Tag, Spelling, Schedule, block_numbers, block_list, head_bytes, head_at, tail_bytes, tail_at}
use Rattle.htl_walk.specs.declared.schedule.SInstr.TheVariants as S

-- ---- four nodes with two schedules

abbrev one : Schedule
one = record { instrs = S.End ∷ [] }

abbrev two : Schedule
two = record { instrs = S.Idle 5 ∷ S.End ∷ [] }

abbrev four : List Schedule
four = one ∷ two ∷ one ∷ two ∷ []

numbers : block_numbers four ≡ 0 ∷ 1 ∷ 0 ∷ 1 ∷ []
numbers = refl

blocks : block_list four ≡ one ∷ two ∷ []
blocks = refl

abbrev first_block : List ℕ
first_block = 0 ∷ 0 ∷ 0 ∷ 1 ∷ 3 ∷ []

abbrev second_block : List ℕ
second_block = 0 ∷ 0 ∷ 0 ∷ 2 ∷ 2 ∷ 0 ∷ 0 ∷ 0 ∷ 5 ∷ 3 ∷ []

abbrev numbered : List ℕ → List ℕ
numbered bytes = 0 ∷ 4 ∷ (0 ∷ 0 ∷ 0 ∷ 1 ∷ 0 ∷ 0 ∷ 0 ∷ 1 ∷ bytes)

abbrev named : Option (List ℕ)
named = Some (codes "fast")

abbrev read_as : ℕ → List ℕ → Read (List Schedule)
read_as n = tail_at named (λ k. k == n)

spelled : tail_bytes named four ≡ numbered (first_block ++ second_block)
spelled = refl

read : read_as 4 (numbered (first_block ++ second_block)) ≡ Ok (four, [])
read = refl

-- without a platform each is written
one_by_one : tail_bytes None (one ∷ one ∷ []) ≡ 0 ∷ 2 ∷ (first_block ++ first_block)
one_by_one = refl

-- ---- none

none_spelled : tail_bytes named [] ≡ 0 ∷ 0 ∷ []
none_spelled = refl

none_read : read_as 0 (0 ∷ 0 ∷ 7 ∷ []) ≡ Ok ([], 7 ∷ [])
none_read = refl

-- ---- bad fields

-- the first number isn't 0
first_number : read_as 1 (0 ∷ 1 ∷ 0 ∷ 1 ∷ []) ≡ Err (record { kind = Index; left = 2 })
first_number = refl

-- a number is two above the greatest before
skips : read_as 2 (0 ∷ 2 ∷ 0 ∷ 0 ∷ 0 ∷ 2 ∷ []) ≡ Err (record { kind = Index; left = 2 })
skips = refl

wrong_count : read_as 4 (0 ∷ 3 ∷ []) ≡ Err (record { kind = Index; left = 2 })
wrong_count = refl

-- the second block is equal to the first, at its count's first byte
equal_block : read_as 4 (numbered (first_block ++ (first_block ++ (9 ∷ 9 ∷ [])))) ≡ Err (record { kind = Spelling; left = 7 })
equal_block = refl

-- a cut or a bad tag inside it comes first
cut_block : read_as 4 (numbered (first_block ++ take 4 first_block)) ≡ Err short
cut_block = refl

bad_tag : read_as 4 (numbered (first_block ++ (0 ∷ 0 ∷ 0 ∷ 1 ∷ 9 ∷ []))) ≡ Err (record { kind = Tag; left = 1 })
bad_tag = refl

-- a number comes again, and there is one block
one_block : read_as 2 (0 ∷ 2 ∷ 0 ∷ 0 ∷ 0 ∷ 0 ∷ first_block) ≡ Ok (one ∷ one ∷ [], [])
one_block = refl

-- ---- the head

version_1 : head_at (head_bytes None ++ 5 ∷ []) ≡ Ok (None, 5 ∷ [])
version_1 = refl

version_2 : head_at (head_bytes (Some (codes "fast")) ++ 5 ∷ []) ≡ Ok (Some (codes "fast"), 5 ∷ [])
version_2 = refl

version_3 : head_at (codes "HTLO" ++ (0 ∷ 3 ∷ 9 ∷ [])) ≡ Err (record { kind = Version; left = 3 })
version_3 = refl

no_name : head_at (codes "HTLO" ++ (0 ∷ 2 ∷ (4 ∷ codes "mode"))) ≡ Err (record { kind = Spelling; left = 5 })
no_name = refl

cut_name : head_at (codes "HTLO" ++ (0 ∷ 2 ∷ (5 ∷ codes "mode"))) ≡ Err short
cut_name = refl
