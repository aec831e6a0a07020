-- The search by halves ends with the greatest worst case.
use Rattle.std.proofs.Common.{◌≡◌, ◌≤◌, ◌<◌, ◌+◌, ◌-◌, ◌/◌, ℕ, suc, pos, Option, Some, None, sym, subst, ◌∙◌, arith}
use Rattle.htl_model.specs.declared.frame.Frame.{Frame}
use Rattle.htl_edf.proofs.{Words.nodes, Words.IsFrame, Words.Tables, Words.task_worst, Words.AreReady, Words.ExplainsNodes, Greatest.greatest_by_one_more, FrameTasks.frame_with_worst, ReadyTasks.own_worst, ReadyTasks.ready_with_worst}
use Rattle.htl_edf.specs.{Greatest.with_worst, Greatest.Fits, Greatest.IsGreatest, declared.plan.PlanFault.TheVariants.Overload}
use Rattle.htl_slack.specs.{declared.report.Above.Above, Slack.NoneOverloaded, Slack.IsFirstOverload, Slack.IsKnown}

-- the own worst case is the first that is known to fit
pub own_fits : (t : Tables) (task : ℕ) → NoneOverloaded t → Fits t task (task_worst t task)
own_fits t task h = subst NoneOverloaded (sym (own_worst t task)) h

-- one more overloads what is told
more_fails : (t : Tables) (task g : ℕ) (a : Above) → IsFirstOverload (with_worst t task (suc g)) a → Fits t task (suc g) → ⊥
more_fails t task g a first fits = fits a.selection first.path a.from (pos a.to) a.demand first.interval.over

next_first : (t : Tables) (task low high : ℕ) (a : Above) → high ≡ suc low → IsFirstOverload (with_worst t task high) a → IsFirstOverload (with_worst t task (suc low)) a
next_first t task low high a next first = subst (λ (w : ℕ). IsFirstOverload (with_worst t task w) a) next first

pub is_greatest : (t : Tables) (task limit low high : ℕ) (o : Option Above) → Fits t task low → low < high → high ≤ suc limit → high ≤ suc low → IsKnown t task limit high o → IsGreatest t task limit low
is_greatest t task limit low high None fits order within next known =
    greatest_by_one_more t task limit low (omega (arith, order, within)) fits (λ less f. absurd (omega (arith, less, known, next)))
is_greatest t task limit low high (Some a) fits order within next known =
    greatest_by_one_more t task limit low (omega (arith, order, within)) fits
    (λ less f. more_fails t task low a (next_first t task low high a (omega (arith, order, next)) known.1) f)

-- ---- a try

pub middle : (low high : ℕ) → low + 1 < high → (low < low + (high - low) / 2) × (low + (high - low) / 2 < high)
middle low high l = (omega (arith, l), omega (arith, l))

pub try_ready : (t u : Tables) (task w : ℕ) → u ≡ with_worst t task w → 0 < w → w ≤ 1000000 → AreReady t → AreReady u
try_ready t u task w e some most ready = subst AreReady (sym e) (ready_with_worst t task w (omega (arith, some)) most ready)

pub try_frame : (t u : Tables) (f : Frame) (task w : ℕ) → u ≡ with_worst t task w → IsFrame t f → IsFrame u f
try_frame t u f task w e h = subst (λ (z : Tables). IsFrame z f) (sym e) (frame_with_worst t f task w h)

pub nodes_same : (t : Tables) (f : Frame) (task w : ℕ) → IsFrame t f → nodes (with_worst t task w) ≡ nodes t
nodes_same t f task w h = sym (frame_with_worst t f task w h).nodes ∙ h.nodes

-- where no path is overloaded none is told
pub no_fault : (t : Tables) (path a b demand : ℕ) → NoneOverloaded t → ExplainsNodes t (Overload path a b demand) → ⊥
no_fault t path a b demand none h = none path h.0 a (pos b) demand h.2.over
