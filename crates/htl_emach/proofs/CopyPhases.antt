-- What holds of each module in the write phase and in the read phase.
use Rattle.std.proofs.Common.{◌≡◌, ℕ, suc, ◌+◌, ◌-◌, ◌<◌, ◌≤◌, Bool, true, false, cond, List, [], length, Option, Some, None, refl, sym, ap, ◌∙◌, subst, arith, ◌⊎◌, inl, inr}
use Rattle.htl_emach.proofs.Words.{eq-eqb, ne_eqb, Event, Stay, Tables, ECode, next_offset, least_from, phase_offsets, holds, block_chain, block_at, on, chain_path, due_path, IsLeast, least_is, ModeReads, IsBlockPhase, no_block, Trigger, Calendar, goes, with_trigger, target_at, Ends, AreAllowed, trigger_at, next_block, awaited, Between, IsSized, Entry, entry_at, entry_before, entry_after, opening, switched, old_stay, new_stay, calendar_replay, none-some, true_not_false, cases_below}
use Rattle.htl_emach.proofs.{ModuleLaws.ModuleLaws, Effects.entry_with, Effects.with_next, Effects.next_here, Effects.next_other, Effects.next_sized, WriteRead.BlockIs, WriteRead.phase_block}

-- the blocks of a phase in a mode, for module k
pub record PhaseIs (t : Tables) (code : ECode) (p m k : ℕ) : Type 0 where
  pub offsets : List ℕ
  pub next_is : (o : ℕ) → next_offset t m p o ≡ least_from o offsets
  pub absent : (o : ℕ) → holds o offsets ≡ false → block_at t code m p o ≡ None
  pub present : (o : ℕ) → holds o offsets ≡ true → (a : ℕ) × (block_at t code m p o ≡ Some a) × BlockIs t code m p o a k

pub phase_are : (t : Tables) (code : ECode) (p m k : ℕ) → IsBlockPhase p → ModeReads t code m → PhaseIs t code p m k
phase_are t code p m k phase r =
    record {
      offsets = phase_offsets t m p;
      next_is = λ o. refl;
      absent = λ o h. no_block t code m p o h;
      present = λ o h. phase_block t code m p o k phase r h;
    }

-- ---- offsets

pub at_offset : (o : ℕ) (xs : List ℕ) → holds o xs ≡ true → least_from o xs ≡ Some o
at_offset o xs h = by_least (least_from o xs) (least_is o xs)
  where
    by_least : (r : Option ℕ) → IsLeast o xs r → r ≡ Some o
    by_least None l = absurd (omega (arith, l o h))
    by_least (Some q) l = let same : q ≡ o = omega (arith, l.0, l.2 o h (omega arith)) in ap (λ z. Some z) same

pub off_offset : (o : ℕ) (xs : List ℕ) → holds o xs ≡ false → least_from o xs ≡ least_from (suc o) xs
off_offset o xs h = by_least (least_from o xs) (least_from (suc o) xs) (least_is o xs) (least_is (suc o) xs)
  where
    other : (q : ℕ) → holds q xs ≡ true → o ≡ q → ⊥
    other q there same = true_not_false (holds q xs) there (subst (λ z. holds z xs ≡ false) same h)

    by_least : (r u : Option ℕ) → IsLeast o xs r → IsLeast (suc o) xs u → r ≡ u
    by_least None None l m = refl
    by_least None (Some q) l m = absurd (omega (arith, l q m.1, m.0))
    by_least (Some q) None l m = let same : o ≡ q = omega (arith, l.0, m q l.1) in absurd (other q l.1 same)
    by_least (Some q) (Some v) l m = elim (apart o q l.0) [ inl same ↦ absurd (other q l.1 same) | inr less ↦ ap (λ z. Some z) (both q v (m.2 q l.1 less) (l.2 v m.1 (weak v m.0))) ]
      where
        apart : (a b : ℕ) → a ≤ b → (a ≡ b) ⊎ (suc a ≤ b)
        apart a b h = grind arith

        both : (a b : ℕ) → b ≤ a → a ≤ b → a ≡ b
        both a b g h = omega (arith, g, h)

        weak : (b : ℕ) → suc o ≤ b → o ≤ b
        weak b g = omega (arith, g)

pub past_offset : (o q : ℕ) (xs : List ℕ) → least_from (suc o) xs ≡ Some q → o < q
past_offset o q xs e = let l : IsLeast (suc o) xs (Some q) = subst (IsLeast (suc o) xs) e (least_is (suc o) xs) in omega (arith, l.0)

-- ---- triggers that are due, and those that aren't

pub due_here : (at now : ℕ) (a : ℕ) → at ≡ now → target_at now (trigger_at at (Some a)) ≡ Some a
due_here at now a e = ap (λ b. cond b (Some a) None) (eq-eqb at now e)

pub not_due : (at now : ℕ) (x : Option ℕ) → (at ≡ now → ⊥) → target_at now (trigger_at at x) ≡ None
not_due at now None h = refl
not_due at now (Some a) h = ap (λ b. cond b (Some a) None) (ne_eqb at now h)

pub later_block : (t : Tables) (code : ECode) (m p s now from : ℕ) → ((q : ℕ) → next_offset t m p from ≡ Some q → s + q ≡ now → ⊥) → target_at now (next_block t code m p s from) ≡ None
later_block t code m p s now from h = by_next (next_offset t m p from) h
  where
    by_next : (n : Option ℕ) → ((q : ℕ) → n ≡ Some q → s + q ≡ now → ⊥) → target_at now (elim n [ Some o ↦ trigger_at (s + o) (block_at t code m p o) | None ↦ None ]) ≡ None
    by_next None h = refl
    by_next (Some q) h = not_due (s + q) now (block_at t code m p q) (h q refl)

-- ---- a module in a round, or inactive

pub record StayLaws (t : Tables) (code : ECode) (p now k : ℕ) (x : Option Stay) : Type 0 where
  pub passed : target_at now (awaited t code p (suc now) x) ≡ None
  pub idle : target_at now (awaited t code p now x) ≡ None → (due_path t code p now x ≡ []) × (awaited t code p now x ≡ awaited t code p (suc now) x)
  pub busy : (a : ℕ) → target_at now (awaited t code p now x) ≡ Some a → (xs : List ℕ) × (due_path t code p now x ≡ xs)
      × ((hs rs : ℕ → Bool) → Ends code.instrs (goes hs rs) a xs) × AreAllowed t code.instrs p k xs × ((c : Calendar) → calendar_replay t code now k xs c ≡ with_next p k (awaited t code p (suc now) x) c)

pub none_laws : (t : Tables) (code : ECode) (p now k : ℕ) → StayLaws t code p now k None
none_laws t code p now k = record { passed = refl; idle = λ e. (refl, refl); busy = λ a e. absurd (none-some a e) }

pub stay_laws : (t : Tables) (code : ECode) (p now k : ℕ) (x : Stay) → x.start ≤ now → PhaseIs t code p x.mode k → StayLaws t code p now k (Some x)
stay_laws t code p now k x from h =
    let o : ℕ = now - x.start in
    let when : x.start + (now - x.start) ≡ now = omega (arith, from) in
    let next : suc now - x.start ≡ suc (now - x.start) = omega (arith, from) in
    by_offset (holds (now - x.start) h.offsets) refl when next
  where
    late : target_at now (next_block t code x.mode p x.start (suc (now - x.start))) ≡ None
    late = later_block t code x.mode p x.start now (suc (now - x.start)) (λ q e same. no q (past_offset (now - x.start) q h.offsets (sym (h.next_is (suc (now - x.start))) ∙ e)) same)
      where
        no : (q : ℕ) → now - x.start < q → x.start + q ≡ now → ⊥
        no q less same = omega (arith, less, same, from)

    by_offset : (b : Bool) → holds (now - x.start) h.offsets ≡ b → x.start + (now - x.start) ≡ now → suc now - x.start ≡ suc (now - x.start) → StayLaws t code p now k (Some x)
    by_offset true there when next =
        let b = h.present (now - x.start) there in
        let here : next_offset t x.mode p (now - x.start) ≡ Some (now - x.start) = h.next_is (now - x.start) ∙ at_offset (now - x.start) h.offsets there in
        let due : target_at now (next_block t code x.mode p x.start (now - x.start)) ≡ Some b.0 =
        ap (λ (n : Option ℕ). target_at now (elim n as (λ _. Option Trigger) [ Some q ↦ trigger_at (x.start + q) (block_at t code x.mode p q) | None ↦ None ])) here
        ∙ ap (λ z. target_at now (trigger_at (x.start + (now - x.start)) z)) b.1
        ∙ due_here (x.start + (now - x.start)) now b.0 when in
        record {
          passed = ap (λ n. target_at now (next_block t code x.mode p x.start n)) next ∙ late;
          idle = λ e. absurd (none-some b.0 (sym e ∙ due));
          busy = λ a e. by_block a b.0 b.2 (some_same b.0 a (sym due ∙ e)) when next;
        }
      where
        some_same : (a b : ℕ) → Some a ≡ Some b → a ≡ b
        some_same a b e = cc

        by_block : (a a0 : ℕ) → BlockIs t code x.mode p (now - x.start) a0 k → a0 ≡ a → x.start + (now - x.start) ≡ now → suc now - x.start ≡ suc (now - x.start) → (xs : List ℕ) × (due_path t code p now (Some x) ≡ xs)
            × ((hs rs : ℕ → Bool) → Ends code.instrs (goes hs rs) a xs) × AreAllowed t code.instrs p k xs × ((c : Calendar) → calendar_replay t code now k xs c ≡ with_next p k (awaited t code p (suc now) (Some x)) c)
        by_block a a0 b same when next = (
          b.path,
          b.is,
          λ hs rs. subst (λ z. Ends code.instrs (goes hs rs) z b.path) same (b.ends hs rs),
          b.allowed,
          λ c. ap (λ n. calendar_replay t code n k b.path c) (sym when) ∙ b.sets x.start c ∙ ap (λ n. with_next p k (next_block t code x.mode p x.start n) c) (sym next),
        )
    by_offset false gone when next =
        let skip : next_offset t x.mode p (now - x.start) ≡ next_offset t x.mode p (suc (now - x.start)) =
        h.next_is (now - x.start) ∙ off_offset (now - x.start) h.offsets gone ∙ sym (h.next_is (suc (now - x.start))) in
        let same : next_block t code x.mode p x.start (now - x.start) ≡ next_block t code x.mode p x.start (suc (now - x.start)) =
        ap (λ (n : Option ℕ). elim n as (λ _. Option Trigger) [ Some q ↦ trigger_at (x.start + q) (block_at t code x.mode p q) | None ↦ None ]) skip in
        let after : next_block t code x.mode p x.start (now - x.start) ≡ next_block t code x.mode p x.start (suc now - x.start) = same ∙ ap (next_block t code x.mode p x.start) (sym next) in
        record {
          passed = ap (λ n. target_at now (next_block t code x.mode p x.start n)) next ∙ late;
          idle = λ e. (
            ap (λ (z : Option ℕ). elim z as (λ _. List ℕ) [ Some y ↦ chain_path code y (block_chain t x.mode p (now - x.start)) | None ↦ [] ]) (h.absent (now - x.start) gone),
            after,
          );
          busy = λ a e. absurd (none-some a (sym late ∙ sym (ap (target_at now) same) ∙ e));
        }

-- ---- one module in a phase

-- the calendar between two blocks, once the block of module k is done
pub step_between : (t : Tables) (code : ECode) (es : List Event) (now p : ℕ) (c d : Calendar) (k : ℕ) → Between t code es now p c k → k < length t.modules → IsSized t d →
    entry_at d k ≡ entry_after t code now p k (old_stay t es now k) (new_stay t es now k) → ((j : ℕ) → (j ≡ k → ⊥) → entry_at d j ≡ entry_at c j) →
    ((j : ℕ) → k < j → j < length t.modules → entry_before t code now p k j (old_stay t es now j) (new_stay t es now j) ≡ entry_before t code now p (suc k) j (old_stay t es now j) (new_stay t es now j)) →
    Between t code es now p d (suc k)
step_between t code es now p c d k b inside sized here other above =
    record {
      sized = sized;
      below = λ j less. elim (cases_below j k less) [
        | inl lower ↦ other j (λ e. no j lower e) ∙ b.below j lower
        | inr same ↦ subst (λ z. entry_at d z ≡ entry_after t code now p z (old_stay t es now z) (new_stay t es now z)) (sym same) here
      ];
      above = λ j more within. other j (λ e. yet j more e) ∙ b.above j (omega (arith, more)) within ∙ above j (omega (arith, more)) within;
    }
  where
    no : (j : ℕ) → j < k → j ≡ k → ⊥
    no j h e = omega (arith, h, e)

    yet : (j : ℕ) → suc k ≤ j → j ≡ k → ⊥
    yet j h e = omega (arith, h, e)

pub module_writes : (t : Tables) (code : ECode) (es : List Event) (now k : ℕ) → k < length t.modules → StayLaws t code 1 now k (old_stay t es now k) → ModuleLaws t code es now 1 k
module_writes t code es now k inside h =
    record {
      passed = h.passed;
      idle = λ e. let i = h.idle e in (ap (on k) i.0, λ c b. step_between t code es now 1 c c k b inside b.sized (b.above k (omega arith) inside ∙ ap with_write i.1) (λ j n. refl) (λ j more within. refl));
      busy = λ a e. let b = h.busy a e in (
        b.0,
        ap (on k) b.1,
        λ c between. record {
          within = inside;
          ends = b.2 _ _;
          allowed = b.3;
          leads = subst (λ z. Between t code es now 1 z (suc k)) (sym (b.4 (with_trigger 1 k None c)))
              (step_between t code es now 1 c (with_next 1 k (awaited t code 1 (suc now) (old_stay t es now k)) (with_trigger 1 k None c)) k between inside
              (next_sized t 1 k (awaited t code 1 (suc now) (old_stay t es now k)) c between.sized)
              (next_here t 1 k (awaited t code 1 (suc now) (old_stay t es now k)) c between.sized inside ∙ ap (entry_with 1 (awaited t code 1 (suc now) (old_stay t es now k))) (between.above k (omega arith) inside))
              (λ j n. next_other 1 k j (awaited t code 1 (suc now) (old_stay t es now k)) c n) (λ j more within. refl));
        },
      );
    }
  where
    with_write : Option Trigger → Entry
    with_write x = record (opening t code now k (old_stay t es now k) (new_stay t es now k)) { write = x }

pub module_reads : (t : Tables) (code : ECode) (es : List Event) (now k : ℕ) → k < length t.modules → StayLaws t code 3 now k (new_stay t es now k) → ModuleLaws t code es now 3 k
module_reads t code es now k inside h =
    record {
      passed = h.passed;
      idle = λ e. let i = h.idle e in (ap (on k) i.0, λ c b. step_between t code es now 3 c c k b inside b.sized (b.above k (omega arith) inside ∙ ap with_read i.1) (λ j n. refl) (λ j more within. refl));
      busy = λ a e. let b = h.busy a e in (
        b.0,
        ap (on k) b.1,
        λ c between. record {
          within = inside;
          ends = b.2 _ _;
          allowed = b.3;
          leads = subst (λ z. Between t code es now 3 z (suc k)) (sym (b.4 (with_trigger 3 k None c)))
              (step_between t code es now 3 c (with_next 3 k (awaited t code 3 (suc now) (new_stay t es now k)) (with_trigger 3 k None c)) k between inside
              (next_sized t 3 k (awaited t code 3 (suc now) (new_stay t es now k)) c between.sized)
              (next_here t 3 k (awaited t code 3 (suc now) (new_stay t es now k)) c between.sized inside ∙ ap (entry_with 3 (awaited t code 3 (suc now) (new_stay t es now k))) (between.above k (omega arith) inside))
              (λ j n. next_other 3 k j (awaited t code 3 (suc now) (new_stay t es now k)) c n) (λ j more within. refl));
        },
      );
    }
  where
    with_read : Option Trigger → Entry
    with_read x = record (switched t code now (new_stay t es now k)) { read = x }
