-- What holds of all that an auditor keeps, from call to call.
use Rattle.std.proofs.Common.{◌≡◌, ℕ, zero, suc, ◌≤◌, ◌<◌, inr, Bool, true, false, cond, ◌&&◌, eqb, leb, ltb, List, [], ◌∷◌, ◌++◌, length, get_or, set, map, drop, replicate, Option, Some, None, IfSome, All, refl, sym, ◌∙◌, ap, ap₂, subst, arith}
use Rattle.htl_audit.proofs.Words.{slice_get, eqb-true, nat_tests, get_or-set_same, get_or-set_other, length-set, length-drop, get_or_from_slice_get, slice_get_within, none-some, Event, Inv, Task, AreInRange, IsInvInRange, IsTaskInRange, Tables, task_worst, Object, IsAccepted, took, IsTookWithin, map_at, worst_some, Values, IsLength, reading_of, taken_as, took_took, Slice, LogKind, LogFault, Audit, AuditFollows, IsAuditor, all_rounds, Kept, judged_to, judged, with_kind, kind_of, passed, lengths_begun, inv_takes, first_kept, AreKept, AreSummed, IsSized, LogFollows, all_zero, each_at, item_at, length_mapped, none_marked}
use Rattle.htl_model.specs.declared.event.Event.TheVariants as V
use Rattle.htl_machine.specs.Calls as machines
use Rattle.htl_audit.proofs.{Passing.judged_leaves, Renewing.renewed_sized, Renewing.renewed_else, Rounds.accepted_range, Rounds.have_rounds, Steps.judged_within, Taking.taken_leaves, Taking.taken_follows}
use Rattle.std.proofs.lemmas.List.{length-replicate}

-- ---- a beginning

pub begun_auditor : (o : Object) (m : machines.Seen) (takes : List ℕ) (log : List Slice) (k : Kept) (t : Tables) (modes : List (Option ℕ)) (lengths : List ℕ) (s : ℕ) → IsAuditor o m takes log k → IsAuditor o m takes log (lengths_begun t modes lengths s k)
begun_auditor o m takes log k t modes lengths s i =
    let z = renewed_sized t modes lengths s (length o.tables.invs) (length t.invs) k (record { stands = i.rows; starts = i.starts; lengths = i.lengths; sums = i.sums }) in
    record {
      object = i.object;
      rows = z.stands;
      starts = z.starts;
      lengths = z.lengths;
      sums = z.sums;
      count = i.count;
      small = i.small;
      lines = i.lines;
      place = omega (arith, i.place, (renewed_else t modes lengths s (length t.invs) (length t.invs) k).place);
    }

-- ---- a passage

pub passed_rows : (t : Tables) (now : ℕ) (xs : List Slice) (k : Kept) → length (judged_to t now xs k).roster.stands ≡ length k.roster.stands
passed_rows t now xs k = ap (λ o. length o.stands) (judged_leaves t now xs k).roster

pub passed_sized : (n : ℕ) (t : Tables) (now : ℕ) (xs : List Slice) (k : Kept) → IsSized n k → IsSized n (passed t now xs k)
passed_sized n t now xs k z =
    let l = judged_leaves t now xs k in
    record { stands = ap (λ o. length o.stands) l.roster ∙ z.stands; starts = ap (λ o. length o.starts) l.roster ∙ z.starts; lengths = ap (λ o. length o.lengths) l.roster ∙ z.lengths; sums = l.sums ∙ z.sums }

pub passed_auditor : (o : Object) (m : machines.Seen) (takes : List ℕ) (log : List Slice) (k : Kept) (t : Tables) (now : ℕ) → IsAuditor o m takes log k → IsAuditor o m takes log (passed t now (drop k.place log) k)
passed_auditor o m takes log k t now i =
    record {
      object = i.object;
      rows = passed_rows t now (drop k.place log) k ∙ i.rows;
      starts = ap (λ o. length o.starts) (judged_leaves t now (drop k.place log) k).roster ∙ i.starts;
      lengths = ap (λ o. length o.lengths) (judged_leaves t now (drop k.place log) k).roster ∙ i.lengths;
      sums = (judged_leaves t now (drop k.place log) k).sums ∙ i.sums;
      count = i.count;
      small = i.small;
      lines = i.lines;
      place = omega (arith, i.place, judged_within t now (drop k.place log) k, length-drop k.place log);
    }

-- ---- a length

-- it is of an invocation
pub length_known : (m o : Object) (t : Tables) (i n : ℕ) → m ≡ o → t ≡ o.tables → IsLength m.tables i n → i < length t.invs
length_known m o t i n same tables l = omega (arith, slice_get_within m.tables.invs i l.inv l.known, ap (λ (z : Object). length z.tables.invs) same, ap (λ (z : Tables). length z.invs) tables)

pub length_small : (o : Object) → IsAccepted o → (i n : ℕ) → IsLength o.tables i n → n ≤ 1000000
length_small o accepted i n l =
    let range = accepted_range o accepted in
    let inv = (each_at (IsInvInRange o.tables) o.tables.invs range.invs i l.inv l.known).task in
    let worst = (each_at (IsTaskInRange o.tables) o.tables.tasks range.tasks l.inv.task inv.0 inv.1).worst in
    let is : task_worst o.tables l.inv.task ≡ inv.0.worst = ap (λ (z : Option Task). elim z [ Some x ↦ x.worst | None ↦ 0 ]) inv.1 in
    omega (arith, l.worst, is, worst.most)

set_small : (xs : List ℕ) (i n : ℕ) → n ≤ 1000000 → ((j : ℕ) → get_or xs j 0 ≤ 1000000) → (j : ℕ) → get_or (set xs i n) j 0 ≤ 1000000
set_small [] i n few small j = small j
set_small (x ∷ xs) zero n few small zero = few
set_small (x ∷ xs) zero n few small (suc j) = small (suc j)
set_small (x ∷ xs) (suc i) n few small zero = small 0
set_small (x ∷ xs) (suc i) n few small (suc j) = set_small xs i n few (λ d. small (suc d)) j

pub taken_auditor : (o : Object) (m new : machines.Seen) (takes : List ℕ) (log : List Slice) (k : Kept) (t : Tables) (now i n : ℕ) → n ≤ 1000000 → new.object ≡ m.object → IsAuditor o m takes log k
    → IsAuditor o new (set takes i n) log (inv_takes t now i n k)
taken_auditor o m new takes log k t now i n few same a =
    let l = taken_leaves t now i n k in
    record {
      object = same ∙ a.object;
      rows = ap length l.stands ∙ a.rows;
      starts = ap length l.starts ∙ a.starts;
      lengths = l.lengths ∙ a.lengths;
      sums = ap length l.sums ∙ a.sums;
      count = length-set takes i n ∙ a.count;
      small = set_small takes i n few a.small;
      lines = a.lines;
      place = omega (arith, a.place, l.place);
    }

-- ---- nothing is followed yet

first_roster : (t : Tables) (n : ℕ) → AreKept t [] (first_kept n).roster
first_roster t n =
    record {
      has = λ i e. absurd (let z : false ≡ true = sym (none_marked n i) ∙ e in let y : ⊥ = cc in y);
      only = λ r p j i. absurd (none-some r i.at);
      together = λ r p q j h i m c. absurd (none-some r i.at);
      before = λ r p q j h i m. absurd (none-some r i.at);
      mates = λ r p j i m c e f. absurd (none-some r m.at);
      once = λ r s p q j h a b c d e. absurd (none-some r a.at);
    }

pub first_follows : (t : Tables) (log : List Slice) (n : ℕ) → LogFollows t [] 0 log (first_kept n)
first_follows t log n =
    record {
      judged = record { count = 0; few = omega arith; keep = λ i x below at. absurd (omega (arith, below)); next = (summed, late (slice_get log 0)) };
      short = λ e. refl;
      began = λ i. inr (all_zero n i);
    }
  where
    summed : AreSummed t [] [] (first_kept n)
    summed =
        record {
          kept = first_roster t n;
          place = refl;
          end = refl;
          room = length-replicate n 0 ∙ sym (length-replicate n false);
          sums = λ r p j i c. absurd (none-some r i.at);
          done = refl;
        }

    late : (o : Option Slice) → IfSome o (λ x. 0 ≤ x.to)
    late None = tt
    late (Some x) = omega arith

pub worst_took : (t : Tables) (i u : ℕ) → i < length t.invs → took t [] i u ≡ get_or (map (λ (x : Inv). task_worst t x.task) t.invs) i 0
worst_took t i u h =
    let x = item_at t.invs i h in
    ap (λ (z : Option Inv). elim z [ Some x ↦ task_worst t x.task | None ↦ 0 ]) x.1
    ∙ sym (get_or_from_slice_get (map (λ (x : Inv). task_worst t x.task) t.invs) i (task_worst t x.0.task) 0 (map_at (λ (x : Inv). task_worst t x.task) t.invs i x.0 x.1))

worst_small : (t : Tables) → AreInRange t → (xs : List Inv) → ((i : ℕ) (x : Inv) → slice_get xs i ≡ Some x → task_worst t x.task ≤ 1000000) → (i : ℕ) → get_or (map (λ (x : Inv). task_worst t x.task) xs) i 0 ≤ 1000000
worst_small t range [] h i = omega arith
worst_small t range (x ∷ xs) h zero = h 0 x refl
worst_small t range (x ∷ xs) h (suc i) = worst_small t range xs (λ j y at. h (suc j) y at) i

pub first_auditor : (o : Object) → IsAccepted o → (m : machines.Seen) (takes : List ℕ) (log : List Slice) (k : Kept) → m.object ≡ o → takes ≡ map (λ (x : Inv). task_worst o.tables x.task) o.tables.invs → k ≡ first_kept (length o.tables.invs)
    → All (λ (x : Slice). x.inv < length o.tables.invs) log → IsAuditor o m takes log k
first_auditor o accepted m takes log k object takes_are kept lines =
    subst (λ z. IsAuditor o m z log k) (sym takes_are)
    (subst (λ z. IsAuditor o m (map (λ (x : Inv). task_worst o.tables x.task) o.tables.invs) log z) (sym kept)
    (record {
      object = object;
      rows = length-replicate (length o.tables.invs) false;
      starts = length-replicate (length o.tables.invs) 0;
      lengths = length-replicate (length o.tables.invs) 0;
      sums = length-replicate (length o.tables.invs) 0;
      count = length_mapped (λ (x : Inv). task_worst o.tables x.task) o.tables.invs;
      small = worst_small o.tables range o.tables.invs each;
      lines = lines;
      place = omega arith;
    }))
  where
    range : AreInRange o.tables
    range = accepted_range o accepted

    each : (i : ℕ) (x : Inv) → slice_get o.tables.invs i ≡ Some x → task_worst o.tables x.task ≤ 1000000
    each i x at =
        let inv = (each_at (IsInvInRange o.tables) o.tables.invs range.invs i x at).task in
        let worst = (each_at (IsTaskInRange o.tables) o.tables.tasks range.tasks x.task inv.0 inv.1).worst in
        let is : task_worst o.tables x.task ≡ inv.0.worst = ap (λ (z : Option Task). elim z [ Some y ↦ y.worst | None ↦ 0 ]) inv.1 in
        omega (arith, is, worst.most)

pub audit_first : (m : machines.Seen) (takes : List ℕ) (log : List Slice) (k : Kept) (n : ℕ) → machines.Follows m [] → m.show ≡ Values → takes ≡ map (λ (x : Inv). task_worst m.object.tables x.task) m.object.tables.invs → k ≡ first_kept n
    → AuditFollows (record { machine = m; log = log; takes = takes; kept = k }) []
audit_first m takes log k n f shown takes_are kept =
    record {
      machine = f;
      shown = shown;
      takes = λ i u h later. worst_took m.object.tables i u h ∙ sym (ap (λ ns. get_or ns i 0) takes_are);
      log =
          subst (λ z. LogFollows m.object.tables (all_rounds m.object.tables [] m.run_state.reading) m.run_state.reading log z) (sym kept)
          (subst (λ at. LogFollows m.object.tables (all_rounds m.object.tables [] at) at log (first_kept n)) (sym f.kept.reading) (first_follows m.object.tables log n));
    }

-- ---- a length is followed

pub took_follows : (a : Audit) (es : List Event) (i n : ℕ) (m : machines.Seen) → IsAccepted a.machine.object → IsLength a.machine.object.tables i n → i < length a.takes → i < length a.kept.roster.lengths
    → m ≡ record a.machine { run_state = taken_as i n a.machine.run_state } → machines.Follows m (es ++ V.Took i n ∷ []) → AuditFollows a es
    → AuditFollows (record { machine = m; log = a.log; takes = set a.takes i n; kept = inv_takes a.machine.object.tables a.machine.run_state.reading i n a.kept }) (es ++ V.Took i n ∷ [])
took_follows a es i n m accepted len room rows is machine f =
    subst (λ z. AuditFollows (record { machine = z; log = a.log; takes = set a.takes i n; kept = inv_takes t a.machine.run_state.reading i n a.kept }) fs) (sym is)
    (record {
      machine = subst (λ z. machines.Follows z fs) is machine;
      shown = f.shown;
      takes = takes;
      log = subst (λ r. LogFollows t (all_rounds t fs r) r a.log (inv_takes t r i n a.kept)) (sym f.machine.kept.reading) log;
    })
  where
    t : Tables
    t = a.machine.object.tables

    fs : List Event
    fs = es ++ V.Took i n ∷ []

    fits : IsTookWithin t (V.Took i n)
    fits = (len.some, omega (arith, len.worst, (worst_some t i len.inv (accepted_range a.machine.object accepted) len.known).1))

    log : LogFollows t (all_rounds t fs (reading_of 0 es)) (reading_of 0 es) a.log (inv_takes t (reading_of 0 es) i n a.kept)
    log =
        taken_follows t (accepted_range a.machine.object accepted) (have_rounds a.machine.object accepted) es f.machine.kept.within i n fits a.log a.kept rows
        (subst (λ r. LogFollows t (all_rounds t es r) r a.log a.kept) f.machine.kept.reading f.log)

    takes : (j u : ℕ) → j < length t.invs → a.machine.run_state.reading ≤ u → took t fs j u ≡ get_or (set a.takes i n) j 0
    takes j u h later = took_took t es i n j u ∙ by (eqb j i) refl
      where
        now : (x y : ℕ) → x ≤ y → leb x y ≡ true
        now x y h = grind (arith, nat_tests)

        by : (b : Bool) → eqb j i ≡ b → cond (eqb j i && leb (reading_of 0 es) u) n (took t es j u) ≡ get_or (set a.takes i n) j 0
        by true e =
            ap₂ (λ x y. cond (x && y) n (took t es j u)) e (now (reading_of 0 es) u (omega (arith, later, f.machine.kept.reading)))
            ∙ sym (subst (λ z. get_or (set a.takes i n) z 0 ≡ n) (sym (eqb-true j i e)) (get_or-set_same a.takes i n 0 room))
        by false e =
            ap (λ x. cond (x && leb (reading_of 0 es) u) n (took t es j u)) e ∙ f.takes j u h later
            ∙ sym (get_or-set_other a.takes i j n 0 (λ z. let y : true ≡ false = sym (same_number j i z) ∙ e in let w : ⊥ = cc in w))
          where
            same_number : (x y : ℕ) → x ≡ y → eqb x y ≡ true
            same_number x y e = grind (arith, nat_tests)
