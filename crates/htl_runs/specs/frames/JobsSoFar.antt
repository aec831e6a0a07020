-- Which jobs a frame has so far: one for each invocation that stands, in its module's own round, with its window and its predecessors.
use Rattle.std.specs.Prelude.{◌≡◌, ℕ, ◌+◌, ◌<◌, ◌≤◌, true, List, slice_get, Option, Some, None}
use Rattle.htl_runs.specs.{Common.Inv, Common.Stay, Common.writer_from, Common.Job, frames.LastPositions.position_from, values.Values.InvStands}
use Rattle.htl_model.specs.declared.parts.End.TheVariants as E
use Rattle.htl_model.specs.Tables.{Tables, release, window_end, task_worst}
use Rattle.htl_walk.specs.{Jobs.precedes, Walk.Left, Walk.job_at, Walk.finish}

-- the job at position p of the frame is that of invocation i, which is x, in the round of its module from s
pub record IsJob (t : Tables) (jobs : List Job) (frame p i : ℕ) (x : Inv) (s : ℕ) : Type 0 where
  pub job : Job
  pub at : slice_get jobs p ≡ Some job
  pub present : job.present ≡ true
  pub inv : job.inv ≡ i
  -- no round of a frame began before it
  pub begun : frame ≤ s
  pub release : frame + job.release ≡ s + release t x
  pub end : frame + job.end ≡ s + window_end t x
  pub worst : job.worst ≡ task_worst t x.task

-- the jobs so far of the frame from `frame`, where at n the modules are as `stays` says
pub record AreJobsSoFar (t : Tables) (stays : List (Option Stay)) (frame n : ℕ) (jobs : List Job) : Type 0 where
  -- whoever stands has a position for its round, which is its last so far
  pub has : (i : ℕ) (x : Inv) (s : ℕ) → InvStands t stays i x s → (p : ℕ) × IsJob t jobs frame p i x s × (position_from 0 jobs i ≡ Some p)
  -- whoever has a position whose window hasn't ended stands, in that round
  pub stands : (p : ℕ) (j : Job) → slice_get jobs p ≡ Some j → j.present ≡ true → n < frame + j.end → (x : Inv) × (s : ℕ) × InvStands t stays j.inv x s × IsJob t jobs frame p j.inv x s
  -- nobody has two for one round
  pub once : (p q i s : ℕ) (x : Inv) → IsJob t jobs frame p i x s → IsJob t jobs frame q i x s → p ≡ q
  -- whoever reads a port follows its writer in the same round
  pub preds : (p q i w o k a s : ℕ) (x y : Inv) → IsJob t jobs frame p i x s → IsJob t jobs frame q w y s → slice_get t.invs i ≡ Some x → slice_get t.invs w ≡ Some y → slice_get x.reads k ≡ Some (E.Port a)
      → writer_from x.mode a 0 t.invs ≡ Some (w, o) → precedes q (job_at jobs p) ≡ true

-- each job's window ends behind its release
abbrev pub HaveWindows : List Job → Type 0
HaveWindows jobs = (p : ℕ) (j : Job) → slice_get jobs p ≡ Some j → j.present ≡ true → j.release < j.end

-- when the invocation at a position finishes; 0 where it doesn't
abbrev pub finish_or : Option ℕ → ℕ
finish_or (Some f) = f
finish_or None = 0

-- the order of finishing, by invocation
abbrev pub rank_at : List Left → Option ℕ → ℕ
rank_at ls (Some p) = finish_or (finish ls p)
rank_at ls None = 0

abbrev pub rank : List Job → List Left → ℕ → ℕ
rank jobs ls i = rank_at ls (position_from 0 jobs i)
