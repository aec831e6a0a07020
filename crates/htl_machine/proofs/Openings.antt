-- The first part of an instant, put together.
use Rattle.std.proofs.Common.{◌≡◌, ℕ, ◌-◌, ℤ, List, [], Option, Result, Ok, Err, refl, sym, subst, arith}
use Rattle.htl_machine.proofs.Words.{Puts, append_known-start, Puts-failed, Puts-second, Event, joined, Tables, SInstr, Round, ECode, Content, Standing, FollowsCode, phase_path, replay, Shown, due_by, Records, AreShown, Prints, IsStarting, path_lines, told_in_phase, Opens, IsOpened, plan_text, some_records}

pub opens_failed : {T S E F : Type 0} (t : Tables) (code : ECode) (es : List Event) (show : Shown) (sel : ℕ) (old : Round) (steps : List SInstr) (at : ℕ) (w0 w : Option (List ℕ)) (f0 f : ℕ) (x : E) (y : F)
    → Prints {T = T} {E = E} t show sel old steps at w0 w f0 f (Err x) → Opens {T = S} {E = F} t code es show sel old steps at w0 w f0 f (Err y)
opens_failed t code es show sel old steps at w0 w f0 f x y h =
    λ p s k d same past few was.
    Puts-failed w0 w0 w f0 f0 f [] (joined (plan_text t show p sel) (some_records p s k (due_by p s at - k))) (path_lines t code show at (phase_path t code es at 1)) x y (append_known-start w0) refl (h p s k d same past few was)

pub opens_second : {T S E F : Type 0} (t : Tables) (code : ECode) (es : List Event) (show : Shown) (sel : ℕ) (old : Round) (steps : List SInstr) (at : ℕ) (w0 w1 w : Option (List ℕ)) (f0 f1 f : ℕ) (u : T) (result : Result S F)
    → Prints {T = T} {E = E} t show sel old steps at w0 w1 f0 f1 (Ok u) → Puts w1 w f1 f (path_lines t code show at (phase_path t code es at 1)) result → Opens {T = S} {E = F} t code es show sel old steps at w0 w f0 f result
opens_second t code es show sel old steps at w0 w1 w f0 f1 f u result h puts =
    λ p s k d same past few was.
    let first = h p s k d same past few was in
    Puts-second w0 w1 w f0 f1 f (joined (plan_text t show p sel) (some_records p s k (due_by p s at - k))) (path_lines t code show at (phase_path t code es at 1)) result first.whole first.cause.kept puts

pub opened : (t : Tables) (code : ECode) (es : List Event) (at : ℕ) (steps : List SInstr) (shows values : List ℤ) (r0 r1 n : Round) (w0 w1 w2 w3 : Content) → Records t r0 w0 r1 w1 steps at → n ≡ told_in_phase 1 code (phase_path t code es at 1) r1
    → w2 ≡ replay t code (phase_path t code es at 1) w1 → AreShown t shows values at w2 w3 → IsOpened t code es at steps shows values r0 w0 n w3
opened t code es at steps shows values r0 r1 n w0 w1 w2 w3 records s_machine writes sensors =
    record {
      w1 = w1;
      w2 = w2;
      records = subst (λ z. Records t r0 w0 z w1 steps at) (sym s_machine) records;
      writes = writes;
      sensors = sensors;
    }

-- before an instant the writes come next
pub writes_start : (t : Tables) (code : ECode) (es : List Event) (at : ℕ) (m : Standing) (w : Content) → FollowsCode t code es at m → IsStarting t code es at 1 m w
writes_start t code es at m w h = record {
  values = λ two. absurd (omega (arith, two));
  idle = h.idle;
  calendar = h.calendar;
}
