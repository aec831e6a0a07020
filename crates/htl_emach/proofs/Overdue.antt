-- No trigger is due before the instant at which a run stands.
use Rattle.std.proofs.Common.{◌≡◌, ℕ, zero, suc, ◌+◌, ◌-◌, ◌≤◌, ◌<◌, Bool, true, false, cond, eqb, List, length, Option, Some, None, refl, sym, ap, ◌∙◌, subst, arith, ◌⊎◌, inl, inr}
use Rattle.htl_emach.proofs.Words.{cases_lt, none-some, same_Some, Event, Stay, AreInRange, Tables, mode_period, ECode, block_at, entered, next_offset, phase_offsets, IsLeast, least_is, Block, Trigger, Calendar, list_at, triggers_of, IsNextOf, NoneBefore, Entry, Between, IsSized, trigger_at, awaited, turning, is_called, entering, ending, ended, opening, pending_entry, switched, closed, entry_at, old_stay, new_stay, PhaseStands, NothingOverdue}
use Rattle.htl_emach.proofs.{States.module_at, States.new_stays, States.goes_on, States.begins_now, States.option_cases, Switching.positive, Roots.listed_within}

instant_of : (x y : Trigger) → Some x ≡ Some y → x.at ≡ y.at
instant_of x y e = let same : x ≡ y = cc in ap (λ (w : Trigger). w.at) same

-- ---- rounds end no earlier

module _ (t : Tables) (es : List Event) (r : AreInRange t) (j : ℕ) (inside : j < length t.modules) where
  new_end : (now : ℕ) → ((z : Stay) → old_stay t es now j ≡ Some z → now ≤ z.start + mode_period t z.mode) → (y : Stay) → new_stay t es now j ≡ Some y → now < y.start + mode_period t y.mode
  new_end now olds y new = by_old (option_cases (old_stay t es now j))
    where
      some : 1 ≤ mode_period t y.mode
      some = positive t y.mode r (new_stays t es now j y r inside new).mode

      from_now : y.start ≡ now → now < y.start + mode_period t y.mode
      from_now e = omega (arith, some, e)

      by_old : (old_stay t es now j ≡ None) ⊎ ((z : Stay) × (old_stay t es now j ≡ Some z)) → now < y.start + mode_period t y.mode
      by_old (inl gone) = let x = module_at t j inside in from_now (ap (λ (s : Stay). s.start) (begins_now t es now j x.0 y r x.1 gone new))
      by_old (inr z) =
          let x = module_at t j inside in
          let g = goes_on t es now j x.0 z.0 y r x.1 z.1 new in
          elim g.ended [
            | inl over ↦ from_now (ap (λ (s : Stay). s.start) (g.fresh over))
            | inr kept ↦ subst (λ (s : Stay). now < s.start + mode_period t s.mode) (sym kept.0) (below now (z.0.start + mode_period t z.0.mode) (olds z.0 z.1) kept.1)
          ]
        where
          below : (a b : ℕ) → a ≤ b → (a ≡ b → ⊥) → a < b
          below a b h apart = elim (order a b h) [ inl l ↦ l | inr e ↦ absurd (apart e) ]
            where
              order : (a b : ℕ) → a ≤ b → (a < b) ⊎ (a ≡ b)
              order a b h = grind arith

  old_end : (now : ℕ) (y : Stay) → old_stay t es now j ≡ Some y → now ≤ y.start + mode_period t y.mode
  old_end zero y old = omega arith
  old_end (suc n) y old = omega (arith, new_end n (old_end n) y old)

-- ---- each trigger

-- a block of the write or the read phase
awaited_later : (t : Tables) (code : ECode) (p from : ℕ) (s : Option Stay) (z : Trigger) → awaited t code p from s ≡ Some z → from ≤ z.at
awaited_later t code p from None z e = absurd (none-some z e)
awaited_later t code p from (Some x) z e = by_next (next_offset t x.mode p (from - x.start)) (least_is (from - x.start) (phase_offsets t x.mode p)) e
  where
    by_block : (o : ℕ) (a : Option ℕ) → from - x.start ≤ o → trigger_at (x.start + o) a ≡ Some z → from ≤ z.at
    by_block o None h f = absurd (none-some z f)
    by_block o (Some a) h f = let at : x.start + o ≡ z.at = instant_of (record { at = x.start + o; target = a }) z f in omega (arith, h, at)

    by_next : (n : Option ℕ) → IsLeast (from - x.start) (phase_offsets t x.mode p) n → elim n as (λ _. Option Trigger) [ Some o ↦ trigger_at (x.start + o) (block_at t code x.mode p o) | None ↦ None ] ≡ Some z → from ≤ z.at
    by_next None l f = absurd (none-some z f)
    by_next (Some o) l f = by_block o (block_at t code x.mode p o) l.0 f

-- the trigger of a phase
abbrev pick : Bool → Bool → Entry → Option Trigger
pick a b e = cond a e.write (cond b e.switch e.read)

picked : (a b : Bool) (c : Calendar) (j : ℕ) → list_at (cond a c.writes (cond b c.switches c.reads)) j ≡ pick a b (entry_at c j)
picked true b c j = refl
picked false true c j = refl
picked false false c j = refl

sized_at : (a b : Bool) (t : Tables) (c : Calendar) → IsSized t c → length (cond a c.writes (cond b c.switches c.reads)) ≡ length t.modules
sized_at true b t c s = s.writes
sized_at false true t c s = s.switches
sized_at false false t c s = s.reads

module _ (t : Tables) (code : ECode) (es : List Event) (now : ℕ) (r : AreInRange t) (j : ℕ) (inside : j < length t.modules) (z : Trigger) where
  at_end : (x : Stay) → now ≤ x.start + mode_period t x.mode → ended t code (Some x) ≡ Some z → now ≤ z.at
  at_end x late e = let at : x.start + mode_period t x.mode ≡ z.at = instant_of (ending t code x) z e in omega (arith, late, at)

  turning_later : (k : ℕ) (o n : Option Stay) → old_stay t es now j ≡ o → turning t code now k j o n ≡ Some z → now ≤ z.at
  turning_later k (Some x) n is e = at_end x (old_end t es r j inside now x is) e
  turning_later k None n is e = by_test (is_called t k j) n e
    where
      by_test : (b : Bool) (m : Option Stay) → cond b (entering code now m) None ≡ Some z → now ≤ z.at
      by_test false m f = absurd (none-some z f)
      by_test true None f = absurd (none-some z f)
      by_test true (Some y) f = let at : now ≡ z.at = instant_of (record { at = now; target = entered code y.mode }) z f in omega (arith, at)

  ended_later : (n : Option Stay) → new_stay t es now j ≡ n → ended t code n ≡ Some z → now ≤ z.at
  ended_later None is e = absurd (none-some z e)
  ended_later (Some y) is e = at_end y (omega (arith, new_end t es r j inside now (old_end t es r j inside now) y is)) e

  opening_later : (p q : Bool) → pick p q (opening t code now j (old_stay t es now j) (new_stay t es now j)) ≡ Some z → now ≤ z.at
  opening_later true q e = awaited_later t code 1 now (old_stay t es now j) z e
  opening_later false true e = turning_later 0 (old_stay t es now j) (new_stay t es now j) refl e
  opening_later false false e = awaited_later t code 3 now (old_stay t es now j) z e

  written_later : (p q : Bool) (k : ℕ) → pick p q (pending_entry t code now k j (old_stay t es now j) (new_stay t es now j)) ≡ Some z → now ≤ z.at
  written_later true q k e = omega (arith, awaited_later t code 1 (suc now) (old_stay t es now j) z e)
  written_later false true k e = turning_later k (old_stay t es now j) (new_stay t es now j) refl e
  written_later false false k e = awaited_later t code 3 now (old_stay t es now j) z e

  switched_later : (p q : Bool) → pick p q (switched t code now (new_stay t es now j)) ≡ Some z → now ≤ z.at
  switched_later true q e = omega (arith, awaited_later t code 1 (suc now) (new_stay t es now j) z e)
  switched_later false true e = ended_later (new_stay t es now j) refl e
  switched_later false false e = awaited_later t code 3 now (new_stay t es now j) z e

  closed_later : (p q : Bool) → pick p q (closed t code now (new_stay t es now j)) ≡ Some z → now ≤ z.at
  closed_later true q e = omega (arith, awaited_later t code 1 (suc now) (new_stay t es now j) z e)
  closed_later false true e = ended_later (new_stay t es now j) refl e
  closed_later false false e = omega (arith, awaited_later t code 3 (suc now) (new_stay t es now j) z e)

  before_later : (a b p q : Bool) (k : ℕ)
      → pick p q (cond a (opening t code now j (old_stay t es now j) (new_stay t es now j)) (cond b (pending_entry t code now k j (old_stay t es now j) (new_stay t es now j)) (switched t code now (new_stay t es now j)))) ≡ Some z → now ≤ z.at
  before_later true b p q k e = opening_later p q e
  before_later false true p q k e = written_later p q k e
  before_later false false p q k e = switched_later p q e

  after_later : (a b p q : Bool)
      → pick p q (cond a (pending_entry t code now 0 j (old_stay t es now j) (new_stay t es now j)) (cond b (switched t code now (new_stay t es now j)) (closed t code now (new_stay t es now j)))) ≡ Some z → now ≤ z.at
  after_later true b p q e = written_later p q 0 e
  after_later false true p q e = switched_later p q e
  after_later false false p q e = closed_later p q e

-- no trigger of any phase p is due before the instant
between_later : (t : Tables) (code : ECode) (es : List Event) (now phase k : ℕ) (c : Calendar) → AreInRange t → Between t code es now phase c k → (p : ℕ) → NoneBefore now (triggers_of p c)
between_later t code es now phase k c r between p j z e =
    let xs : List (Option Trigger) = cond (eqb p 1) c.writes (cond (eqb p 2) c.switches c.reads) in
    let within : j < length xs = listed_within xs j z e in
    let even : length xs ≡ length t.modules = sized_at (eqb p 1) (eqb p 2) t c between.sized in
    let inside : j < length t.modules = omega (arith, within, even) in
    let own : pick (eqb p 1) (eqb p 2) (entry_at c j) ≡ Some z = sym (picked (eqb p 1) (eqb p 2) c j) ∙ e in
    elim (cases_lt j k) [
      | inl less ↦ after_later t code es now r j inside z (eqb phase 1) (eqb phase 2) (eqb p 1) (eqb p 2) (sym (ap (pick (eqb p 1) (eqb p 2)) (between.below j less)) ∙ own)
      | inr more ↦ before_later t code es now r j inside z (eqb phase 1) (eqb phase 2) (eqb p 1) (eqb p 2) k (sym (ap (pick (eqb p 1) (eqb p 2)) (between.above j more inside)) ∙ own)
    ]

pub nothing_overdue : NothingOverdue
nothing_overdue t code es now phase m done rest r mid = by_running m.running mid.stands
  where
    by_running : (b : Option Block) → PhaseStands t code es now phase m.calendar b rest → (next : ℕ) → IsNextOf m.calendar b (Some next) → now ≤ next
    by_running (Some b) s next is = let same : next ≡ b.at = same_Some next b.at is in let here = s.at in omega (arith, same, here)
    by_running None s next is =
        let due = is.0 in
        let late = between_later t code es now phase s.«module» m.calendar r s.calendar due.0 due.1 due.2 due.3 in
        let at = due.4 in
        omega (arith, late, at)
