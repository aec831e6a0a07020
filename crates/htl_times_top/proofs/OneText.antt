-- An object has one text of latest finishes, in which what is told as left is left.
use Rattle.std.proofs.Common.{arith, ◌≡◌, ℕ, ◌<◌, List, [], length, get_or, Option, Some, None, refl, sym, ap, ◌∙◌, subst, inl, inr}
use Rattle.std.proofs.lemmas.List.{ext_get_or}
use Rattle.htl_base.proofs.Words.{cases_lt, get_or_past, none-some}
use Rattle.htl_model.specs.Tables.{Tables}
use Rattle.htl_times.proofs.{AcceptedRuns.accepted_is_feasible, NoLater.latest_in_window}
use Rattle.htl_times.specs.{Busy.IsBusiestOf, Response.IsLatest, Response.IsLatestOf, declared.greatest.Greatest.Greatest}
use Rattle.htl_times_top.specs.{Laws.OneText, Laws.LeftIsTrue, Texts.times_text}
use Rattle.htl_walk.proofs.Nodes.{some_root}
use Rattle.htl_walk.specs.{NodeWalks.instrs_of, declared.schedule.SInstr.SInstr}

-- ---- one of each

greatest_of : ℕ → ℕ → Greatest
greatest_of ticks path = record { ticks = ticks; path = path }

-- of two that are each the greatest, and the first of it
same_greatest : (l m : Greatest) → l.ticks ≡ m.ticks → l.path ≡ m.path → l ≡ m
unfolding greatest_of
same_greatest l m ticks path = ap (λ (n : ℕ). greatest_of n l.path) ticks ∙ ap (λ (p : ℕ). greatest_of m.ticks p) path

same_path : (l m : Greatest) → l.ticks ≡ m.ticks → (l.path < m.path → l.ticks < m.ticks) → (m.path < l.path → m.ticks < l.ticks) → l.path ≡ m.path
same_path l m same before behind = elim (cases_lt l.path m.path) [
  | inl less ↦ absurd (omega (arith, before less, same))
  | inr more ↦ elim (cases_lt m.path l.path) [ inl less ↦ absurd (omega (arith, behind less, same)) | inr least ↦ omega (arith, more, least) ]
]

one_latest : (t : Tables) (lists : List (List SInstr)) (i : ℕ) (a b : Option Greatest) → IsLatestOf t lists i a → IsLatestOf t lists i b → a ≡ b
one_latest t lists i None None p q = refl
one_latest t lists i None (Some m) p q = absurd (p m.path m.ticks q.within q.reached)
one_latest t lists i (Some l) None p q = absurd (q l.path l.ticks p.within p.reached)
one_latest t lists i (Some l) (Some m) p q =
    let same : l.ticks ≡ m.ticks = omega (arith, p.latest m.path m.ticks q.within q.reached, q.latest l.path l.ticks p.within p.reached) in
    let path = same_path l m same (λ less. q.first l.path l.ticks less p.reached) (λ less. p.first m.path m.ticks less q.reached) in
    ap (λ (g : Greatest). Some g) (same_greatest l m same path)

one_busiest : (t : Tables) (a b : Option Greatest) → IsBusiestOf t a → IsBusiestOf t b → a ≡ b
one_busiest t None None p q = refl
one_busiest t None (Some m) p q = absurd (omega (arith, p, q.within))
one_busiest t (Some l) None p q = absurd (omega (arith, q, p.within))
one_busiest t (Some l) (Some m) p q =
    let same : l.ticks ≡ m.ticks = omega (arith, p.most m.path q.within, q.sum, q.most l.path p.within, p.sum) in
    let path = same_path l m same (λ less. omega (arith, q.first l.path less, p.sum)) (λ less. omega (arith, p.first m.path less, q.sum)) in
    ap (λ (g : Greatest). Some g) (same_greatest l m same path)

pub one_text : OneText
one_text o rows others busiest another p q =
    let long : length rows ≡ length others = p.count ∙ sym q.count in
    let same : rows ≡ others =
    ext_get_or None rows others long
    (λ i below. one_latest o.tables (instrs_of o.schedules) i (get_or rows i None) (get_or others i None) (p.latest i below) (q.latest i (subst (λ (n : ℕ). i < n) long below))) in
    ap (λ (r : List (Option Greatest)). times_text o.tables r busiest) same
    ∙ ap (λ (b : Option Greatest). times_text o.tables others b) (one_busiest o.tables busiest another p.busy q.busy)

-- ---- in the window

pub left_is_true : LeftIsTrue
left_is_true o rows busiest i x l accepted are item row =
    let below : i < length rows = elim (cases_lt i (length rows)) [ inl less ↦ less | inr past ↦ absurd (none-some l (sym (get_or_past rows i None past) ∙ row)) ] in
    let is : IsLatest o.tables (instrs_of o.schedules) i l = subst (IsLatestOf o.tables (instrs_of o.schedules) i) row (are.latest i below) in
    latest_in_window o.tables (instrs_of o.schedules) [] i x l (accepted_is_feasible o [] accepted tt (some_root o.tables l.path is.within)) item is
