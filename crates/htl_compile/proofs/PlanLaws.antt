-- The schedules that are planned are those of the object, and what is overloaded is so whatever the functions are.
use Rattle.std.proofs.Common.{◌≡◌, ◌<◌, ℕ, suc, List, [], ◌∷◌, length, get_or, slice_get, Some, refl, sym, ◌∙◌, ap, subst, arith, pos}
use Rattle.htl_compile.proofs.Words.{slice_get_within, slice_get-get_or, IsBackFault, IsFirstOverload, unplanned_of, node_schedule, schedules, AreSchedulable, BackFault, tightened, AreNodeLists, ExplainsNodes, Reported, NoOverload, PlanFault, Overload, PlanMemory, length-list_to, Formed, with_functions, paths, nodes, AreInRange, Tables, Fun, list_read, instrs_of, path_jobs, Job, SInstr, Schedule}
use Rattle.htl_names.proofs.FlatMaps.{list_to_at}
use Rattle.htl_compile.proofs.{NodeSchedules.only_lists, SamePaths.paths_same, SamePaths.path_jobs_same}

-- ---- the schedules

-- lists of one length with the same items are the same
same_items : {A : Type 0} (xs ys : List A) → length xs ≡ length ys → ((k : ℕ) (y : A) → slice_get ys k ≡ Some y → slice_get xs k ≡ Some y) → xs ≡ ys
same_items [] [] e h = refl
same_items (x ∷ xs) (y ∷ ys) e h =
    let first : Some x ≡ Some y = h 0 y refl in
    let one : x ≡ y = cc in
    ap (λ z. z ∷ xs) one ∙ ap (λ zs. y ∷ zs) (same_items xs ys (omega (arith, e)) (λ k z at. h (suc k) z at))
same_items _ _ e h = absurd (omega (arith, e))

none : Schedule
none = record { instrs = [] }

pub planned_is : (t : Tables) (ss : List Schedule) → AreInRange t → length ss ≡ nodes t → AreNodeLists t (instrs_of ss) → ss ≡ schedules t
planned_is t ss range count lists =
    let many : length (schedules t) ≡ nodes t = length-list_to (node_schedule t) (nodes t) in
    same_items ss (schedules t) (count ∙ sym many) (λ k y at.
    let less : k < nodes t = omega (arith, many, slice_get_within (schedules t) k y at) in
    let there : slice_get ss k ≡ Some (get_or ss k none) = slice_get-get_or ss k none (omega (arith, less, count)) in
    let is : (get_or ss k none).instrs ≡ (node_schedule t k).instrs = list_read ss none k (omega (arith, less, count)) ∙ only_lists t range ss count lists k less in
    let here : Some y ≡ Some (node_schedule t k) = sym at ∙ list_to_at (node_schedule t) (nodes t) k less in
    let one : y ≡ node_schedule t k = cc in
    there ∙ ap (λ (i : List SInstr). let s : Schedule = record { instrs = i } in Some s) is ∙ ap (λ (s : Schedule). Some s) (sym one))

-- an overload of tables that keep the form rules is a fault of theirs
pub unplanned_is : (t : Tables) (e : PlanFault) (f : BackFault) → Formed t → ExplainsNodes t e → f ≡ unplanned_of e → IsBackFault t f
unplanned_is t (Overload path a b demand) f formed h is = subst (IsBackFault t) (sym is) (formed, record { there = h.0; free = h.1; here = h.2 })
unplanned_is t PlanMemory f formed h is = subst (IsBackFault t) (sym is) tt

-- ---- whatever the functions are

pub free_same : (t : Tables) (fs : List Fun) → AreSchedulable (with_functions t fs) → AreSchedulable t
free_same t fs free = λ path less.
    subst (λ (js : List Job). NoOverload (tightened js)) (sym (path_jobs_same t fs path)) (free path (subst (λ (n : ℕ). path < n) (paths_same t fs) less))

pub overload_same : (t : Tables) (fs : List Fun) (path a b demand : ℕ) → IsFirstOverload (with_functions t fs) path a b demand → IsFirstOverload t path a b demand
overload_same t fs path a b demand h =
    let jobs : (k : ℕ) → path_jobs (with_functions t fs) k ≡ path_jobs t k = λ k. sym (path_jobs_same t fs k) in
    let count : paths (with_functions t fs) ≡ paths t = sym (paths_same t fs) in
    record {
      there = omega (arith, count, h.there);
      free = λ k less. subst (λ (js : List Job). NoOverload (tightened js)) (jobs k) (h.free k (omega (arith, less)));
      here = subst (λ (js : List Job). Reported (tightened js) a (pos b) demand) (jobs path) h.here;
    }
