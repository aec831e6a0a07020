-- What sensors are shown stays over an instant, and what one is shown makes it wait.
use Rattle.std.proofs.Common.{◌≡◌, ◌≢◌, ℕ, suc, ◌<◌, ◌≤◌, Bool, true, false, cond, not, eqb, List, ◌++◌, length, get_or, set, Option, ℤ, pos, negsuc, refl, sym, ap, ◌∙◌, subst, arith, get_or-set_same, get_or-set_other}
use Rattle.htl_machine.proofs.Words.{eqb-true, nat_tests, Event, same, hyper, Tables, Round, Standing, list_at, Content, phase_path, IsAccepted, Seen, IsUpTo, GoesBy, ListAt, SMachineFollows, is_marked, MarksChanges, schedules_of, turn_at, records_at, MarksWaiting, Passed, Noted, Sensors, Tally}
use Rattle.htl_smach.specs.declared.left.Left.{Left}
use Rattle.htl_machine.proofs.{After.next_up_to, Composing.counts_after}

-- the machine before the next instant, with what its sensors are shown
pub next_shown_up_to : (m : Seen) (es : List Event) (now : ℕ) (accepted : IsAccepted m.object) (read : m.run_state.reading ≤ now) (u : IsUpTo m es now) (shows : List ℤ) (world : Content) (s_machine : Round) (e1 : Standing) (last : Option ListAt) (old new : List Left)
    (start n : Tally) → shows ≡ m.run_state.shows → Passed m.object.tables m.object.ecode (schedules_of m.object) es now m.run_state.world world e1
    → SMachineFollows (turn_at m.object.tables (schedules_of m.object) es) (hyper m.object.tables) (suc now) s_machine → GoesBy (turn_at m.object.tables (schedules_of m.object) es) (hyper m.object.tables) (suc now) last
    → records_at m.object.tables (schedules_of m.object) es now ≡ old ++ new → start ≡ record { jobs = m.jobs; e = m.e; s = m.s }
    → n ≡ counts_after old new (length (phase_path m.object.tables m.object.ecode es now 1)) (length (phase_path m.object.tables m.object.ecode es now 2)) (length (phase_path m.object.tables m.object.ecode es now 3)) start
    → IsUpTo (record m { run_state = record m.run_state { shows = shows; world = world; s_machine = s_machine }; standing = e1; list = last; jobs = n.jobs; e = n.e; s = n.s }) es (suc now)
next_shown_up_to m es now accepted read u shows world s_machine e1 last old new start n is passed follows goes are was counts =
    subst (λ (xs : List ℤ). IsUpTo (record m { run_state = record m.run_state { shows = xs; world = world; s_machine = s_machine }; standing = e1; list = last; jobs = n.jobs; e = n.e; s = n.s }) es (suc now)) (sym is)
    (next_up_to m es now accepted read u world s_machine e1 last old new start n passed follows goes are was counts)

-- what is noted needs no mark
pub noted_marks : (n : Noted) (values : List ℤ) (modes : List (Option ℕ)) → n.values ≡ values → n.modes ≡ modes → MarksChanges n values modes
noted_marks n values modes same are = record {
  comms = ap length same;
  values_are = λ c free. ap (λ xs. get_or xs c (pos 0)) same;
  modules = ap length are;
  modes_are = λ k free. ap (λ xs. list_at xs k) are;
}

-- where each sensor is shown what it has none need wait
pub none_waits : (t : Tables) (s : Sensors) (values : List ℤ) → s.shows ≡ values → MarksWaiting t s values
none_waits t s values is = λ c x at sensor free. ap (λ xs. get_or xs c (pos 0)) is

same_is : (x y : ℤ) → same x y ≡ true → x ≡ y
same_is (pos a) (pos b) e = ap pos (eqb-true a b e)
same_is (negsuc a) (negsuc b) e = ap negsuc (eqb-true a b e)
same_is _ _ e = absurd (let z : ⊥ = cc in z)

pub sensed_waits : (t : Tables) (s next : Sensors) (values : List ℤ) (comm : ℕ) (x has : ℤ) → MarksWaiting t s values → comm < length s.shows → next.shows ≡ set s.shows comm x → has ≡ get_or values comm (pos 0)
    → ((c : ℕ) → is_marked next.waiting c ≡ cond (eqb c comm) (not (same x has)) (is_marked s.waiting c)) → MarksWaiting t next values
sensed_waits t s next values comm x has h room shows is marks c y at sensor free = by (eqb c comm) refl (sym (marks c) ∙ free)
  where
    by : (b : Bool) → eqb c comm ≡ b → cond b (not (same x has)) (is_marked s.waiting c) ≡ false → get_or next.shows c (pos 0) ≡ get_or values c (pos 0)
    by true e f =
        let here : c ≡ comm = eqb-true c comm e in
        ap (λ (xs : List ℤ). get_or xs c (pos 0)) shows ∙ ap (λ j. get_or (set s.shows comm x) j (pos 0)) here ∙ get_or-set_same s.shows comm x (pos 0) room
        ∙ same_is x has (yes (same x has) f) ∙ is ∙ ap (λ j. get_or values j (pos 0)) (sym here)
      where
        yes : (b : Bool) → not b ≡ false → b ≡ true
        yes true g = refl
        yes false g = absurd (let z : ⊥ = cc in z)
    by false e f =
        let other : c ≢ comm = grind (arith, nat_tests) in
        ap (λ (xs : List ℤ). get_or xs c (pos 0)) shows ∙ get_or-set_other s.shows comm c x (pos 0) other ∙ h c y at sensor f
