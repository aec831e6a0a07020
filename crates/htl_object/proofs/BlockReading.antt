-- Blocks that are read one after the other, with the pieces of the bytes that spell them.
use Rattle.std.proofs.Common.{◌≡◌, ◌+◌, ◌-◌, ◌<◌, ◌≤◌, ℕ, suc, max, Bool, true, false, not, List, [], ◌∷◌, ◌++◌, length, map, take, All, Ok, Err, inl, inr, refl, sym, ap, subst, ◌∙◌, arith}
use Rattle.htl_object.proofs.Words.{not-true, cases_lt, take_at, length-append, All-push, All-cons, list_any, bytes_eq, Schedule, same_schedule, with_block, count_from, block_count, is_new, block_at, AreSpelled, schedule_bytes, schedule_at, IsSchedule, Spelling}
use Rattle.htl_object.specs.Reading.{IsBytes, Read, ◌>>=◌, bad_at, need}
use Rattle.htl_object.proofs.{BlockLaws.count_from-least, BlockLaws.with_block-new, BlockSpellings.any_spelled, BlockSpellings.with_block_spelled}
use Rattle.htl_object.proofs.ScheduleLaws.{schedule, schedule_equal, same_spelling, count_from-last}

-- ---- one block

-- a schedule that was read, and the piece that spells it
pub record IsPiece (piece : List ℕ) (s : Schedule) : Type 0 where
  pub spells : piece ≡ schedule_bytes s
  pub fit : IsSchedule s

pub piece_read : (bytes now piece : List ℕ) (left : ℕ) (s : Schedule) (rest : List ℕ) → IsBytes bytes → bytes ≡ now → left ≡ length rest → piece ≡ take (length bytes - left) bytes
    → schedule_at now ≡ Ok (s, rest) → IsPiece piece s
piece_read bytes now piece left s rest are same size front e =
    let t = schedule.takes bytes s rest are (ap schedule_at same ∙ e) in
    let spelled : bytes ≡ schedule_bytes s ++ rest = subst (λ (x : Schedule). bytes ≡ schedule_bytes x ++ rest) t.made t.spelled in
    let long : length bytes - left ≡ length (schedule_bytes s) = omega (arith, ap (λ (l : List ℕ). length l) spelled, length-append (schedule_bytes s) rest, size) in
    record {
      spells = front ∙ ap (λ (n : ℕ). take n bytes) long ∙ ap (take (length (schedule_bytes s))) spelled ∙ take_at (schedule_bytes s) rest (length (schedule_bytes s)) refl;
      fit = subst IsSchedule t.made t.fit;
    }

-- and no more bytes are left than there were
pub rest_shorter : (bytes : List ℕ) (s : Schedule) (rest : List ℕ) → IsBytes bytes → schedule_at bytes ≡ Ok (s, rest) → length rest ≤ length bytes
rest_shorter bytes s rest are e =
    let t = schedule.takes bytes s rest are e in
    omega (arith, ap (λ (l : List ℕ). length l) t.spelled, length-append (schedule_bytes t.part) rest)

-- whether the piece is new tells whether the schedule is
pub new_piece : (pieces : List (List ℕ)) (bs : List Schedule) (piece : List ℕ) (s : Schedule) (new : Bool) → AreSpelled pieces bs → IsPiece piece s
    → new ≡ not (list_any (bytes_eq piece) pieces) → is_new bs s ≡ new
new_piece pieces bs piece s new h p told =
    ap not (any_spelled same_schedule schedule_bytes IsSchedule same_spelling s bs p.fit h.fit)
    ∙ ap (λ (ts : List (List ℕ)). not (list_any (bytes_eq (schedule_bytes s)) ts)) (sym h.spelled)
    ∙ ap (λ (t : List ℕ). not (list_any (bytes_eq t) pieces)) (sym p.spells) ∙ sym told

pub block_given : (before : List Schedule) (bytes : List ℕ) (s : Schedule) (rest : List ℕ) → schedule_at bytes ≡ Ok (s, rest) → is_new before s ≡ true → block_at before bytes ≡ Ok (s, rest)
block_given before bytes s rest e new =
    ap (λ (r : Read Schedule). r >>= λ x q. need (is_new before x) (bad_at Spelling bytes) (Ok (x, q))) e
    ∙ ap (λ (t : Bool). need t (bad_at Spelling bytes) (Ok (s, rest))) new

pub block_refused : (before : List Schedule) (bytes : List ℕ) (s : Schedule) (rest : List ℕ) → schedule_at bytes ≡ Ok (s, rest) → is_new before s ≡ false → block_at before bytes ≡ Err (bad_at Spelling bytes)
block_refused before bytes s rest e old =
    ap (λ (r : Read Schedule). r >>= λ x q. need (is_new before x) (bad_at Spelling bytes) (Ok (x, q))) e
    ∙ ap (λ (t : Bool). need t (bad_at Spelling bytes) (Ok (s, rest))) old

pub pieces_more : (pieces new : List (List ℕ)) (bs : List Schedule) (piece : List ℕ) (s : Schedule) → AreSpelled pieces bs → IsPiece piece s → is_new bs s ≡ true → new ≡ with_block bytes_eq pieces piece → AreSpelled new (bs ++ s ∷ [])
pieces_more pieces new bs piece s h p is e =
    let absent : list_any (same_schedule s) bs ≡ false = not-true _ is in
    record {
      spelled = e ∙ ap (with_block bytes_eq pieces) p.spells ∙ ap (λ (ts : List (List ℕ)). with_block bytes_eq ts (schedule_bytes s)) h.spelled
          ∙ sym (with_block_spelled same_schedule schedule_bytes IsSchedule same_spelling s bs p.fit h.fit)
          ∙ ap (map schedule_bytes) (with_block-new same_schedule schedule_equal s bs absent);
      fit = All-push IsSchedule bs s h.fit p.fit;
    }

-- ---- numbers of blocks

pub count_grows : (before : List ℕ) (c n : ℕ) → c ≡ block_count before → n ≡ c → c + 1 ≡ block_count (before ++ n ∷ [])
count_grows before c n count last = let more = count_from-last 0 before n in omega (arith, count, more, last)

pub count_stays : (before : List ℕ) (c n : ℕ) → c ≡ block_count before → n ≤ c → (n ≡ c → ⊥) → c ≡ block_count (before ++ n ∷ [])
count_stays before c n count most other =
    let more = count_from-last 0 before n in
    elim (cases_lt n c) [
      | inl below ↦ omega (arith, count, more, below)
      | inr above ↦ absurd (other (omega (arith, most, above)))
    ]

pub numbers_below : (c : ℕ) (ns : List ℕ) → All (λ n. n < count_from c ns) ns
numbers_below c [] = λ k d less. absurd (omega (arith, less))
numbers_below c (n ∷ ns) =
    let least = count_from-least same_schedule schedule_equal (max c (suc n)) ns in
    All-cons (λ m. m < count_from (max c (suc n)) ns) n ns (omega (arith, least)) (numbers_below (max c (suc n)) ns)
