-- Schedules with equal ones written once: for each schedule the number of its block, and then the blocks.
use Rattle.std.specs.Prelude.{◌≡◌, ℕ, suc, max, not, nat_le, Bool, cond, List, [], ◌∷◌, ◌++◌, map, get_or, Ok, All}
use Rattle.htl_object.specs.{Common.w16, Common.to_be_bytes, Common.bytes_eq, Common.SInstr, Common.Schedule, Schedules.schedule_bytes, Schedules.schedule_at, Schedules.IsSchedule}
use Rattle.std.specs.{List.flat_map, List.list_any, List.position_or_len, Cmp.Lexicographic.pointwise}
use Rattle.htl_object.specs.Reading.{Read, ◌>>=◌, field_at, items_at, number_at}
use Rattle.htl_object.specs.declared.malformed.MalKind.TheVariants.{Index, Spelling}
use Rattle.htl_walk.specs.declared.schedule.SInstr.TheVariants as S

-- ---- blocks of a list, for any test of equality

-- the blocks with one more item; an item that is already there adds none
abbrev pub with_block : {A : Type 0} → (A → A → Bool) → List A → A → List A
with_block same bs x = cond (list_any (same x) bs) bs (bs ++ x ∷ [])

-- the blocks of the items, in the order of first occurrence, behind those found
abbrev pub blocks_from : {A : Type 0} → (A → A → Bool) → List A → List A → List A
blocks_from same bs [] = bs
blocks_from same bs (x ∷ xs) = blocks_from same (with_block same bs x) xs

-- the number of an item's block: of the first that is the same, or of the next
abbrev pub number_in : {A : Type 0} → (A → A → Bool) → List A → A → ℕ
number_in same bs x = position_or_len (same x) bs

-- the number of each item's block
abbrev pub numbers_from : {A : Type 0} → (A → A → Bool) → List A → List A → List ℕ
numbers_from same bs [] = []
numbers_from same bs (x ∷ xs) = number_in same bs x ∷ numbers_from same (with_block same bs x) xs

-- ---- spelling

abbrev pub instr_numbers : SInstr → List ℕ
instr_numbers (S.Dispatch position until) = 1 ∷ position ∷ until ∷ []
instr_numbers (S.Idle until) = 2 ∷ until ∷ []
instr_numbers S.End = 3 ∷ []

abbrev pub same_instr : SInstr → SInstr → Bool
same_instr a b = bytes_eq (instr_numbers a) (instr_numbers b)

-- the same instructions
abbrev pub same_schedule : Schedule → Schedule → Bool
same_schedule a b = pointwise same_instr a.instrs b.instrs

abbrev pub block_numbers : List Schedule → List ℕ
block_numbers = numbers_from same_schedule []

abbrev pub block_list : List Schedule → List Schedule
block_list = blocks_from same_schedule []

abbrev pub blocks_bytes : List Schedule → List ℕ
blocks_bytes ss = flat_map (to_be_bytes w16) (block_numbers ss) ++ flat_map schedule_bytes (block_list ss)

-- ---- reading

-- how many blocks there are with these numbers, where there were c before
abbrev pub count_from : ℕ → List ℕ → ℕ
count_from c [] = c
count_from c (n ∷ ns) = count_from (max c (suc n)) ns

abbrev pub block_count : List ℕ → ℕ
block_count = count_from 0

-- a number of a block that stands, or of the next
abbrev pub block_number_at : List ℕ → List ℕ → Read ℕ
block_number_at before = field_at Index (λ n. nat_le n (block_count before)) (number_at w16)

-- a block that is none of those before
abbrev pub is_new : List Schedule → Schedule → Bool
is_new before s = not (list_any (same_schedule s) before)

abbrev pub block_at : List Schedule → List ℕ → Read Schedule
block_at before = field_at Spelling (is_new before) schedule_at

-- the schedule with each number
abbrev pub schedules_of : List Schedule → List ℕ → List Schedule
schedules_of bs ns = map (λ n. get_or bs n (record { instrs = [] })) ns

-- n numbers, and as many blocks as they say
abbrev pub blocks_at : ℕ → List ℕ → Read (List Schedule)
blocks_at n bytes =
    items_at block_number_at n [] bytes >>= λ numbers rest.
    items_at block_at (block_count numbers) [] rest >>= λ blocks rest.
    Ok (schedules_of blocks numbers, rest)

-- ---- what the code keeps of the blocks so far

-- the pieces are the spellings of the blocks, which are in range
pub record AreSpelled (pieces : List (List ℕ)) (bs : List Schedule) : Type 0 where
  pub spelled : pieces ≡ map schedule_bytes bs
  pub fit : All IsSchedule bs
