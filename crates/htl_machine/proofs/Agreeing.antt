-- What the parts of an instant in code say, in the words of the meaning: the modes, the lines, the totals.
use Rattle.std.proofs.Common.{◌≡◌, ℕ, zero, suc, ◌+◌, ◌-◌, ◌^◌, ◌≤◌, ◌<◌, Bool, true, false, cond, min, List, [], ◌∷◌, ◌++◌, length, Option, Some, None, ℤ, refl, sym, ap, ap₂, ◌∙◌, arith, inl, inr}
use Rattle.htl_machine.proofs.Words.{slice_get_past, Event, Line, Stay, joined, up_to, Tables, AreInRange, state, before, stay_of, mode_of, mode_in_state, value_lines, up_to_same, ECode, Done, e_path, Calendar, list_at, Between, Entry, phase_path, whole_path, Shown, shows_code, Tally, one_record, one_instr, with_records, with_instrs, mode_change, value_changes, mode_changes, all_changes, path_lines, e_line, standing_at, cases_lt}
use Rattle.htl_smach.specs.declared.left.Left.{Left}
use Rattle.htl_runs.proofs.lines.Joined.{joined-append}

-- ---- modes

none_past : (modes : List (Option ℕ)) (k : ℕ) → length modes ≤ k → list_at modes k ≡ None
none_past modes k h = ap (λ (o : Option (Option ℕ)). elim o [ Some x ↦ x | None ↦ None ]) (slice_get_past modes k h)

-- where the modules of the tables have the modes of an instant, so have all numbers
modes_stand : (t : Tables) (es : List Event) (now : ℕ) (c : Calendar) → AreInRange t → length c.modes ≤ length t.modules
    → ((k : ℕ) → k < length t.modules → list_at c.modes k ≡ mode_in_state (state t es now) k) → (k : ℕ) → list_at c.modes k ≡ mode_in_state (state t es now) k
modes_stand t es now c range sized below k = elim (cases_lt k (length t.modules)) [
  | inl h ↦ below k h
  | inr h ↦ none_past c.modes k (omega (arith, h, sized)) ∙ sym (nowhere (stay_of (state t es now).stays k) refl h)
]
  where
    nowhere : (o : Option Stay) → stay_of (state t es now).stays k ≡ o → length t.modules ≤ k → mode_in_state (state t es now) k ≡ None
    nowhere None e h = ap mode_of e
    nowhere (Some y) e h = absurd (omega (arith, h, (standing_at t range es now).known k y e))

-- the modes once the switch phase is done
pub modes_switched : (t : Tables) (code : ECode) (es : List Event) (now : ℕ) (c : Calendar) → AreInRange t → Between t code es now 2 c (length t.modules) → (k : ℕ) → list_at c.modes k ≡ mode_in_state (state t es now) k
modes_switched t code es now c range b = modes_stand t es now c range (omega (arith, b.sized.modes)) (λ k h. ap (λ (e : Entry). e.mode) (b.below k h))

-- and once the read phase is done
pub modes_closed : (t : Tables) (code : ECode) (es : List Event) (now : ℕ) (c : Calendar) → AreInRange t → Between t code es now 3 c (length t.modules) → (k : ℕ) → list_at c.modes k ≡ mode_in_state (state t es now) k
modes_closed t code es now c range b = modes_stand t es now c range (omega (arith, b.sized.modes)) (λ k h. ap (λ (e : Entry). e.mode) (b.below k h))

-- the modes before an instant
pub modes_open : (t : Tables) (code : ECode) (es : List Event) (now : ℕ) (c : Calendar) → Between t code es now 1 c 0 → (k : ℕ) → k < length t.modules → list_at c.modes k ≡ mode_in_state (before t es now) k
modes_open t code es now c b k h = ap (λ (e : Entry). e.mode) (b.above k (omega arith) h)

-- ---- lines

-- at the first instant each value is told, whatever it was before
values_told : (now n : ℕ) (old was new : List ℤ) → (0 < now → old ≡ was) → up_to (value_changes now old new) n ≡ up_to (value_changes now was new) n
values_told zero n old was new a = refl
values_told (suc m) n old was new a = ap (λ z. up_to (value_changes (suc m) z new) n) (a (omega arith))

-- the lines of values and modes are those of the meaning
pub changes_are : (t : Tables) (es : List Event) (now : ℕ) (old new : List ℤ) (was is : List (Option ℕ)) → (0 < now → old ≡ (before t es now).values) → new ≡ (state t es now).values
    → ((k : ℕ) → k < length t.modules → list_at was k ≡ mode_in_state (before t es now) k) → ((k : ℕ) → list_at is k ≡ mode_in_state (state t es now) k) → all_changes t now old new was is ≡ value_lines t es now
changes_are t es now old new was is a b c d =
    ap (λ ls. ls ++ up_to (mode_changes now was is) (length t.modules)) (values_told now (length t.comms) old (before t es now).values new a)
    ∙ ap (λ y. all_changes t now (before t es now).values y was is) b
    ∙ ap (λ ls. up_to (λ k. value_of k) (length t.comms) ++ ls) (up_to_same (mode_changes now was is) (λ k. mode_change now k (mode_in_state (before t es now) k) (mode_in_state (state t es now) k)) (length t.modules)
    (λ k h. ap₂ (λ x y. mode_change now k x y) (c k h) (d k)))
  where
    value_of : ℕ → List Line
    value_of k = value_changes now (before t es now).values (state t es now).values k

pub path_lines-append : (t : Tables) (code : ECode) (show : Shown) (at : ℕ) (xs ys : List Done) → path_lines t code show at (xs ++ ys) ≡ path_lines t code show at xs ++ path_lines t code show at ys
path_lines-append t code show at xs ys = by_show (shows_code show)
  where
    by_show : (b : Bool) → cond b (joined (e_line t code at) (xs ++ ys)) [] ≡ cond b (joined (e_line t code at) xs) [] ++ cond b (joined (e_line t code at) ys) []
    by_show true = joined-append (e_line t code at) xs ys
    by_show false = refl

-- the lines of the three phases are those of the instant
pub phases_are : (t : Tables) (code : ECode) (es : List Event) (show : Shown) (now : ℕ)
    → path_lines t code show now (e_path t code es now) ≡ path_lines t code show now (phase_path t code es now 1) ++ (path_lines t code show now (phase_path t code es now 2) ++ path_lines t code show now (phase_path t code es now 3))
phases_are t code es show now =
    ap (path_lines t code show now) (whole_path t code es now)
    ∙ path_lines-append t code show now (phase_path t code es now 1) (phase_path t code es now 2 ++ phase_path t code es now 3)
    ∙ ap (λ z. path_lines t code show now (phase_path t code es now 1) ++ z) (path_lines-append t code show now (phase_path t code es now 2) (phase_path t code es now 3))

-- ---- totals

pub instrs_capped : (k : ℕ) (n : Tally) → n.e ≤ 2 ^ 64 - 1 → (with_instrs k n).e ≡ min (n.e + k) (2 ^ 64 - 1)
instrs_capped zero n h = omega arith
instrs_capped (suc k) n h = instrs_capped k (one_instr n) (omega arith) ∙ (let z : min (min (n.e + 1) (2 ^ 64 - 1) + k) (2 ^ 64 - 1) ≡ min (n.e + suc k) (2 ^ 64 - 1) = omega arith in z)

pub steps_capped : (ls : List Left) (n : Tally) → n.s ≤ 2 ^ 64 - 1 → (with_records ls n).s ≡ min (n.s + length ls) (2 ^ 64 - 1)
steps_capped [] n h = omega arith
steps_capped (l ∷ ls) n h = steps_capped ls (one_record l.finished n) (omega arith) ∙ (let z : min (min (n.s + 1) (2 ^ 64 - 1) + length ls) (2 ^ 64 - 1) ≡ min (n.s + suc (length ls)) (2 ^ 64 - 1) = omega arith in z)
