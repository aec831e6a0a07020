-- The last part of an instant at which no round begins, put together.
use Rattle.std.proofs.Common.{◌≡◌, ℕ, ◌<◌, ℤ, cond, List, [], length, Option, Some, None, IfSome, Result, Ok, Err, refl, sym, ap, subst, arith}
use Rattle.htl_machine.proofs.Words.{Puts, append_known-start, Puts-failed, Puts-second, Event, Stay, Line, lines_text, AreInRange, Tables, state, before, stay_of, mode_of, mode_in_state, value_lines, ECode, Calendar, Standing, list_at, Between, Content, phase_path, to_switches, to_reads, Shown, shows_values, IsToRead, IsToClose, IsStarting, path_lines, reading_text, closing_text, standing_at}
use Rattle.htl_runs.specs.lines.ChangedItems.{change_lines}
use Rattle.htl_machine.proofs.Agreeing.{modes_closed, changes_are}

-- the modes after the read phase are modes of the tables
pub modes_known : (t : Tables) (code : ECode) (es : List Event) (now : ℕ) (c : Calendar) → AreInRange t → Between t code es now 3 c (length t.modules) → (k : ℕ) → IfSome (list_at c.modes k) (λ q. q < length t.modes)
modes_known t code es now c range b k =
    subst (λ o. IfSome o (λ q. q < length t.modes)) (sym (modes_closed t code es now c range b k)) (by_stay (stay_of (state t es now).stays k) refl)
  where
    by_stay : (o : Option Stay) → stay_of (state t es now).stays k ≡ o → IfSome (mode_of (stay_of (state t es now).stays k)) (λ q. q < length t.modes)
    by_stay None e = subst (λ o. IfSome (mode_of o) (λ q. q < length t.modes)) (sym e) tt
    by_stay (Some y) e = subst (λ o. IfSome (mode_of o) (λ q. q < length t.modes)) (sym e) ((standing_at t range es now).real k y e)

-- the switch phase fails
pub switches_fail : {T S E F : Type 0} (t : Tables) (code : ECode) (es : List Event) (show : Shown) (at : ℕ) (w0 w : Option (List ℕ)) (f0 f : ℕ) (x : E) (y : F)
    → Puts {T = T} {E = E} w0 w f0 f (path_lines t code show at (phase_path t code es at 2)) (Err x) → Puts {T = S} {E = F} w0 w f0 f (closing_text t code es show at) (Err y)
switches_fail t code es show at w0 w f0 f x y puts =
    Puts-failed w0 w0 w f0 f0 f [] (path_lines t code show at (phase_path t code es at 2)) (reading_text t code es show at) x y (append_known-start w0) refl puts

-- the reads follow the switches
pub reads_second : {T S E G : Type 0} (t : Tables) (code : ECode) (es : List Event) (show : Shown) (at : ℕ) (w0 w1 w : Option (List ℕ)) (f0 f1 f : ℕ) (u : S) (result : Result T E)
    → Puts {T = S} {E = G} w0 w1 f0 f1 (path_lines t code show at (phase_path t code es at 2)) (Ok u) → Puts w1 w f1 f (reading_text t code es show at) result → Puts w0 w f0 f (closing_text t code es show at) result
reads_second t code es show at w0 w1 w f0 f1 f u result first second =
    Puts-second w0 w1 w f0 f1 f (path_lines t code show at (phase_path t code es at 2)) (reading_text t code es show at) result first.whole first.cause.kept second

-- the read phase fails
pub reads_fail : {T S E F : Type 0} (t : Tables) (code : ECode) (es : List Event) (show : Shown) (at : ℕ) (w0 w : Option (List ℕ)) (f0 f : ℕ) (x : E) (y : F)
    → Puts {T = T} {E = E} w0 w f0 f (path_lines t code show at (phase_path t code es at 3)) (Err x) → Puts {T = S} {E = F} w0 w f0 f (reading_text t code es show at) (Err y)
reads_fail t code es show at w0 w f0 f x y puts =
    Puts-failed w0 w0 w f0 f0 f [] (path_lines t code show at (phase_path t code es at 3)) (cond (shows_values show) (lines_text t (value_lines t es at)) []) x y (append_known-start w0) refl puts

-- the lines of what changed come last
pub changes_last : {T S E G : Type 0} (t : Tables) (code : ECode) (es : List Event) (show : Shown) (at : ℕ) (w1 w2 w : Option (List ℕ)) (f1 f2 f : ℕ) (v : S) (result : Result T E) (old new : List ℤ) (was : List (Option ℕ)) (c : Calendar)
    → AreInRange t → Puts {T = S} {E = G} w1 w2 f1 f2 (path_lines t code show at (phase_path t code es at 3)) (Ok v)
    → (0 < at → old ≡ (before t es at).values) → new ≡ (state t es at).values → ((k : ℕ) → k < length t.modules → list_at was k ≡ mode_in_state (before t es at) k) → Between t code es at 3 c (length t.modules)
    → Puts w2 w f2 f (change_lines t show at old new was c.modes) result → Puts w1 w f1 f (reading_text t code es show at) result
changes_last t code es show at w1 w2 w f1 f2 f v result old new was c range second a b d between puts =
    let lines = cond (shows_values show) (lines_text t (value_lines t es at)) [] in
    let same : change_lines t show at old new was c.modes ≡ lines =
    ap (λ (ls : List Line). cond (shows_values show) (lines_text t ls) []) (changes_are t es at old new was c.modes a b d (modes_closed t code es at c range between)) in
    Puts-second w1 w2 w f1 f2 f (path_lines t code show at (phase_path t code es at 3)) lines result second.whole second.cause.kept (subst (λ z. Puts w2 w f2 f z result) same puts)

-- phase follows phase
pub switches_start : {t : Tables} {code : ECode} {es : List Event} {now : ℕ} {m : Standing} {w : Content} {values : List ℤ} {modes : List (Option ℕ)} → IsToClose t code es now m w values modes → IsStarting t code es now 2 m w
switches_start {t} {code} {es} {now} {m} h = record {
  values = λ two. h.now;
  idle = h.writes.1;
  calendar = to_switches t code es now m.calendar h.writes.2;
}

pub reads_start : {t : Tables} {code : ECode} {es : List Event} {now : ℕ} {m : Standing} {w : Content} {values : List ℤ} {modes : List (Option ℕ)} → IsToRead t code es now m w values modes → IsStarting t code es now 3 m w
reads_start {t} {code} {es} {now} {m} h = record {
  values = λ two. absurd (omega (arith, two));
  idle = h.switches.1;
  calendar = to_reads t code es now m.calendar h.switches.2;
}
