-- The loop that leaves the records of an instant.
use Rattle.std.proofs.Common.{◌≡◌, ℕ, ◌≤◌, Bool, true, false, cond, eqb, List, get_or, slice_get, Some, None, refl, sym, ap, ◌∙◌, arith}
use Rattle.htl_runs.proofs.Words.{nat_tests, SInstr, Point, next_point, left_falls, Pending, Round, Stands, state_of, next_left, moved, walk_records, left_until, slice_get_within, pending_is, is_pending, next_point_is, length-told, answer_is, not_some, item_at}
use Rattle.htl_smach.specs.declared.left.Left.{Left}

-- ---- one record more

pub still_pending : (r : Round) (code : List SInstr) (p : ℕ) (i : SInstr) → Stands r code → slice_get code r.place ≡ Some i → state_of (moved r code) p ≡ Pending → state_of r p ≡ Pending
still_pending r code p i st e pend =
    let h = pending_is (moved r code) p pend in
    let point : (moved r code).point ≡ next_point r.jobs i r.point = next_point_is r code st i e in
    let fall : get_or (next_point r.jobs i r.point).left p 0 ≤ get_or r.point.left p 0 = left_falls r.jobs i r.point p in
    let some : eqb (get_or (next_point r.jobs i r.point).left p 0) 0 ≡ false = ap (λ (z : Point). eqb (get_or z.left p 0) 0) (sym point) ∙ h.left in
    is_pending r p (record { present = h.present; left = more (get_or (next_point r.jobs i r.point).left p 0) (get_or r.point.left p 0) fall some; told = h.told })
  where
    more : (a b : ℕ) → a ≤ b → eqb a 0 ≡ false → eqb b 0 ≡ false
    more a b h e = grind (arith, nat_tests)

pub is_running : (r : Round) (code : List SInstr) (at : ℕ) (l : Left) → next_left r code at ≡ Some l → r.running ≡ true
is_running r code at l e = grind (arith, not_some)

-- an instruction stands where one was left
pub instr_there : (r : Round) (code : List SInstr) (at : ℕ) (l : Left) → next_left r code at ≡ Some l → (i : SInstr) × (slice_get code r.place ≡ Some i)
instr_there r code at l e =
    item_at code r.place
    (omega (arith, slice_get_within (walk_records r code) r.place l (answer_is r code at l e), length-told r.start 0 r.jobs code r.first))
