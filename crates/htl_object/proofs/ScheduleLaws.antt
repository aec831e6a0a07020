-- Schedules, and lists of them with equal ones written once: what is spelled is read, and what is read is spelled so.
use Rattle.std.proofs.Common.{◌≡◌, ◌≤◌, ◌<◌, ◌^◌, ℕ, zero, suc, max, ◌+◌, Bool, true, false, not, List, [], ◌∷◌, ◌++◌, length, map, get_or, All, refl, sym, ap, subst, ◌∙◌, arith, append_assoc, append-nil}
use Rattle.htl_object.proofs.Words.{nat_le, w16, w32, to_be_bytes, list_any, flat_map, bytes_eq, false≢true, not-true, leb-true, le-leb, length-map, flat_map-map, slice_eq-Decides, bytes_eq-Decides, SInstr, Schedule, s_code_at, schedule_bytes, schedule_at, IsSchedule, s_bytes, Each, Every, Fits16, Is32, IsSInstr, Index, Spelling, instr_numbers, same_schedule, with_block, blocks_from, number_in, numbers_from, block_numbers, block_list, blocks_bytes, count_from, block_count, block_number_at, is_new, block_at, schedules_of, blocks_at, IsShort}
use Rattle.htl_walk.specs.declared.schedule.SInstr.TheVariants as S
use Rattle.htl_object.specs.Reading.{◌>>=◌, field_at, number_at}
use Rattle.htl_object.proofs.{Lawful.IsCodec, Lawful.given-value, Lawful.field, Lawful.last, Lawful.checked, Lawful.counted, Lawful.items, Lawful.whole, FieldLaws.number16, FieldLaws.number32, InstructionLaws.s_instr, Each.every}
use Rattle.htl_object.proofs.BlockSpellings.{numbers_spelled, blocks_spelled}
use Rattle.htl_object.proofs.BlockLaws.{said, step, length-numbers, length-blocks, Steps, News, count_from-least, back, with_block-new, with_block-old}

-- ---- one schedule

s_code : IsCodec (λ is. to_be_bytes w32 (length is) ++ flat_map s_bytes is) (λ is. Is32 (length is) × Every IsSInstr is) s_code_at
s_code = counted number32 (λ _. s_instr)

abbrev make_schedule : List SInstr → Schedule
make_schedule is = record { instrs = is }

pub schedule : IsCodec schedule_bytes IsSchedule schedule_at
schedule = whole make_schedule (λ s. s.instrs) schedule_bytes IsSchedule (last {make = make_schedule} s_code) (λ s f. (refl, refl, f)) (λ is f. (refl, f))

-- ---- equal schedules

instr_equal : (a b : SInstr) → instr_numbers a ≡ instr_numbers b → a ≡ b
instr_equal (S.Dispatch p u) (S.Dispatch q v) e = cc
instr_equal (S.Dispatch p u) (S.Idle v) e = cc
instr_equal (S.Idle u) (S.Dispatch q v) e = cc
instr_equal S.End S.End e = refl
instr_equal _ _ e = cc

pub schedule_equal : (a b : Schedule) → same_schedule a b ≡ true → a ≡ b
schedule_equal a b e =
    ap (λ (is : List SInstr). record { instrs = is })
    ((slice_eq-Decides (λ x y. (λ h. instr_equal x y ((bytes_eq-Decides (instr_numbers x) (instr_numbers y)).0 h), λ h. (bytes_eq-Decides (instr_numbers x) (instr_numbers y)).1 (ap instr_numbers h)))
    a.instrs b.instrs (same_schedule a b) refl).0 e)

pub schedule_itself : (a : Schedule) → same_schedule a a ≡ true
schedule_itself a =
    (slice_eq-Decides (λ x y. (λ h. instr_equal x y ((bytes_eq-Decides (instr_numbers x) (instr_numbers y)).0 h), λ h. (bytes_eq-Decides (instr_numbers x) (instr_numbers y)).1 (ap instr_numbers h)))
    a.instrs a.instrs (same_schedule a a) refl).1 refl

-- of schedules in range, equal ones are those with equal spellings
pub same_spelling : (a b : Schedule) → IsSchedule a → IsSchedule b → same_schedule a b ≡ bytes_eq (schedule_bytes a) (schedule_bytes b)
same_spelling a b f g = by (same_schedule a b) (bytes_eq (schedule_bytes a) (schedule_bytes b)) refl refl
  where
    one : schedule_bytes a ≡ schedule_bytes b → a ≡ b
    one e = (given-value a b [] [] (sym (schedule.again a [] f) ∙ ap (λ (t : List ℕ). schedule_at (t ++ [])) e ∙ schedule.again b [] g)).0

    by : (c d : Bool) → same_schedule a b ≡ c → bytes_eq (schedule_bytes a) (schedule_bytes b) ≡ d → c ≡ d
    by true true x y = refl
    by false false x y = refl
    by true false x y = absurd (false≢true (sym y ∙ (bytes_eq-Decides (schedule_bytes a) (schedule_bytes b)).1 (ap schedule_bytes (schedule_equal a b x))))
    by false true x y =
        let e : a ≡ b = one ((bytes_eq-Decides (schedule_bytes a) (schedule_bytes b)).0 y) in
        absurd (false≢true (sym x ∙ ap (λ (z : Schedule). same_schedule a z) (sym e) ∙ schedule_itself a))

-- ---- lists of items one by one

pub count_from-last : (c : ℕ) (before : List ℕ) (n : ℕ) → count_from c (before ++ n ∷ []) ≡ max (count_from c before) (suc n)
count_from-last c [] n = refl
count_from-last c (b ∷ before) n = count_from-last (max c (suc b)) before n

abbrev fits_number : List ℕ → ℕ → Type 0
fits_number before = Fits16 (λ k. nat_le k (block_count before))

abbrev fits_block : List Schedule → Schedule → Type 0
fits_block before s = IsSchedule s × (is_new before s ≡ true)

numbers_fit : (before : List ℕ) (bs xs : List Schedule) → block_count before ≡ length bs → length bs + length xs < 2 ^ 16 → Each fits_number before (numbers_from same_schedule bs xs)
numbers_fit before bs [] e few = tt
numbers_fit before bs (x ∷ xs) e few =
    let s = step same_schedule schedule_equal x bs in
    let n = number_in same_schedule bs x in
    let within : n ≤ block_count before = omega (arith, s.within, e) in
    let small : n < 2 ^ 16 = omega (arith, s.within, few) in
    let next : block_count (before ++ n ∷ []) ≡ length (with_block same_schedule bs x) = count_from-last 0 before n ∙ ap (λ (c : ℕ). max c (suc n)) e ∙ s.counts in
    let fewer : length (with_block same_schedule bs x) + length xs < 2 ^ 16 = omega (arith, s.short, few) in
    ((small, le-leb _ _ within), numbers_fit (before ++ n ∷ []) (with_block same_schedule bs x) xs next fewer)

blocks_new : (ds bs xs : List Schedule) → Each (λ _. IsSchedule) ds xs → (more : List Schedule) × (blocks_from same_schedule bs xs ≡ bs ++ more) × Each fits_block bs more
blocks_new ds bs [] f = ([], sym (append-nil bs), tt)
blocks_new ds bs (x ∷ xs) f = by (λ cs. blocks_new (ds ++ x ∷ []) cs xs f.1) (list_any (same_schedule x) bs) refl
  where
    by : ((cs : List Schedule) → (more : List Schedule) × (blocks_from same_schedule cs xs ≡ cs ++ more) × Each fits_block cs more) → (b : Bool) → list_any (same_schedule x) bs ≡ b
        → (more : List Schedule) × (blocks_from same_schedule bs (x ∷ xs) ≡ bs ++ more) × Each fits_block bs more
    by go true e =
        let (more, is, each) = go bs in
        (more, ap (λ (cs : List Schedule). blocks_from same_schedule cs xs) (with_block-old same_schedule schedule_equal x bs e) ∙ is, each)
    by go false e =
        let (more, is, each) = go (bs ++ x ∷ []) in (
          x ∷ more,
          ap (λ (cs : List Schedule). blocks_from same_schedule cs xs) (with_block-new same_schedule schedule_equal x bs e) ∙ is ∙ append_assoc bs (x ∷ []) more,
          ((f.0, ap not e), each),
        )

steps_of : (before ns : List ℕ) → Each fits_number before ns → Steps same_schedule schedule_equal (block_count before) ns
steps_of before [] f = tt
steps_of before (n ∷ ns) f =
    (leb-true _ _ f.0.1, subst (λ (c : ℕ). Steps same_schedule schedule_equal c ns) (count_from-last 0 before n) (steps_of (before ++ n ∷ []) ns f.1))

news_of : (found rest : List Schedule) → Each fits_block found rest → News same_schedule schedule_equal found rest
news_of found [] f = tt
news_of found (b ∷ rest) f = (not-true _ f.0.1, news_of (found ++ b ∷ []) rest f.1)

block_fits : (d : Schedule) (before bs : List Schedule) (k : ℕ) → Each fits_block before bs → k < length bs → IsSchedule (get_or bs k d)
block_fits d before [] k f less = absurd (omega (arith, less))
block_fits d before (b ∷ bs) zero f less = f.0.0
block_fits d before (b ∷ bs) (suc k) f less = block_fits d (before ++ b ∷ []) bs k f.1 (omega (arith, less))

items_fit : (d : Schedule) (bs ds : List Schedule) (c : ℕ) (ns : List ℕ) → count_from c ns ≤ length bs → Each fits_block [] bs → Each (λ _. IsSchedule) ds (map (λ n. get_or bs n d) ns)
items_fit d bs ds c [] few f = tt
items_fit d bs ds c (n ∷ ns) few f =
    let least = count_from-least same_schedule schedule_equal (max c (suc n)) ns in
    let less : n < length bs = omega (arith, least, few) in
    (block_fits d [] bs n f less, items_fit d bs (ds ++ get_or bs n d ∷ []) (max c (suc n)) ns few f)

-- ---- the lists

-- as many as the test wants, each in range
abbrev pub AreSchedules : (ℕ → Bool) → List Schedule → Type 0
AreSchedules test ss = Fits16 test (length ss) × Every IsSchedule ss

block_number : (before : List ℕ) → IsCodec (to_be_bytes w16) (fits_number before) (block_number_at before)
block_number before = checked Index (λ k. nat_le k (block_count before)) number16

block : (before : List Schedule) → IsCodec schedule_bytes (fits_block before) (block_at before)
block before = checked Spelling (is_new before) schedule

abbrev none : Schedule
none = record { instrs = [] }

abbrev Parts : Type 0
Parts = ℕ × (List ℕ × List Schedule)

abbrev make_items : Parts → List Schedule
make_items p = schedules_of p.1.1 p.1.0

-- a count of them, and equal ones once
pub blocks : (test : ℕ → Bool) → IsCodec (λ ss. to_be_bytes w16 (length ss) ++ blocks_bytes ss) (AreSchedules test) (λ bytes. field_at Index test (number_at w16) bytes >>= λ n rest. blocks_at n rest)
blocks test =
    whole make_items (λ ss. (length ss, (block_numbers ss, block_list ss))) (λ ss. to_be_bytes w16 (length ss) ++ blocks_bytes ss) (AreSchedules test)
    (field (checked Index test number16) (λ _ n. field (items block_number n []) (λ _ numbers. last (items block (block_count numbers) []))))
    (λ ss f.
    let (more, is, each) = blocks_new [] [] ss f.1 in
    let few : 0 + length ss < 2 ^ 16 = omega (arith, f.0.0) in (
      said same_schedule schedule_equal none [] ss,
      refl,
      (
        f.0,
        (
          (length-numbers same_schedule schedule_equal [] ss, numbers_fit [] [] ss refl few),
          (length-blocks same_schedule schedule_equal [] ss, subst (λ (bs : List Schedule). Each fits_block [] bs) (sym is) each),
        ),
      ),
    ))
    (λ p f.
    let ns = p.1.0 in
    let bs = p.1.1 in
    let few : count_from 0 ns ≤ length bs = omega (arith, f.1.1.0) in
    let count : 0 + length bs ≡ count_from 0 ns = omega (arith, f.1.1.0) in
    let b = back same_schedule schedule_equal schedule_itself none [] bs ns (λ k less. absurd (omega (arith, less))) (steps_of [] ns f.1.0.1) (news_of [] bs f.1.1.1) count in
    let len : length (make_items p) ≡ p.0 = length-map ns (λ n. get_or bs n none) ∙ f.1.0.0 in (
      ap (λ (n : ℕ). to_be_bytes w16 n ++ (flat_map (to_be_bytes w16) (block_numbers (make_items p)) ++ flat_map schedule_bytes (block_list (make_items p)))) len
          ∙ ap (λ (ms : List ℕ). to_be_bytes w16 p.0 ++ (flat_map (to_be_bytes w16) ms ++ flat_map schedule_bytes (block_list (make_items p)))) b.numbers
          ∙ ap (λ (cs : List Schedule). to_be_bytes w16 p.0 ++ (flat_map (to_be_bytes w16) ns ++ flat_map schedule_bytes cs)) b.blocks,
      (subst (λ (n : ℕ). Fits16 test n) (sym len) f.0, items_fit none bs [] 0 ns few f.1.1.1),
    ))

-- ---- numbers and spellings of blocks, as they are put

blocks_put : (ss : List Schedule) (spellings : List (List ℕ)) → All IsShort ss → All (λ s. All IsSInstr s.instrs) ss
    → spellings ≡ blocks_from bytes_eq [] (map schedule_bytes ss)
    → flat_map (to_be_bytes w16) (numbers_from bytes_eq [] (map schedule_bytes ss)) ++ flat_map (λ x. x) spellings ≡ blocks_bytes ss
blocks_put ss spellings short types e =
    let none : All IsSchedule [] = λ k d less. absurd (omega (arith, less)) in
    let fits : All IsSchedule ss = λ k d less. (omega (arith, short k d less), every IsSInstr (get_or ss k d).instrs (types k d less)) in
    let numbers : block_numbers ss ≡ numbers_from bytes_eq [] (map schedule_bytes ss) = numbers_spelled same_schedule schedule_bytes IsSchedule same_spelling [] ss none fits in
    let blocks : map schedule_bytes (block_list ss) ≡ spellings = blocks_spelled same_schedule schedule_bytes IsSchedule same_spelling [] ss none fits ∙ sym e in
    ap (λ (ns : List ℕ). flat_map (to_be_bytes w16) ns ++ flat_map (λ x. x) spellings) (sym numbers)
    ∙ ap (λ (ts : List (List ℕ)). flat_map (to_be_bytes w16) (block_numbers ss) ++ flat_map (λ x. x) ts) (sym blocks)
    ∙ ap (λ (bs : List ℕ). flat_map (to_be_bytes w16) (block_numbers ss) ++ bs) (flat_map-map (λ x. x) schedule_bytes (block_list ss))

pub put_as_blocks : {K : Type 0} (see : K → List ℕ) (out numbered all : List ℕ) (ss : List Schedule) (first found : List K) → first ≡ [] → All IsShort ss → All (λ s. All IsSInstr s.instrs) ss
    → numbered ≡ out ++ flat_map (to_be_bytes w16) (numbers_from bytes_eq (map see first) (map schedule_bytes ss))
    → map see found ≡ blocks_from bytes_eq (map see first) (map schedule_bytes ss)
    → all ≡ numbered ++ flat_map see found
    → all ≡ out ++ blocks_bytes ss
put_as_blocks see out numbered all ss first found empty short types numbers blocks put =
    let none : map see first ≡ [] = ap (map see) empty in
    let texts = map schedule_bytes ss in
    let ns = flat_map (to_be_bytes w16) (numbers_from bytes_eq [] texts) in
    let front : numbered ≡ out ++ ns = numbers ∙ ap (λ (ts : List (List ℕ)). out ++ flat_map (to_be_bytes w16) (numbers_from bytes_eq ts texts)) none in
    let spellings : map see found ≡ blocks_from bytes_eq [] texts = blocks ∙ ap (λ (ts : List (List ℕ)). blocks_from bytes_eq ts texts) none in
    put ∙ ap (λ (b : List ℕ). b ++ flat_map see found) front ∙ append_assoc out ns (flat_map see found)
    ∙ ap (λ (b : List ℕ). out ++ (ns ++ b)) (sym (flat_map-map (λ x. x) see found))
    ∙ ap (λ (b : List ℕ). out ++ b) (blocks_put ss (map see found) short types spellings)
