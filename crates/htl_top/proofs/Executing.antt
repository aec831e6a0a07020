-- The text of a whole run, with its totals.
use Rattle.std.proofs.Common.{◌≡◌, ℕ, suc, List, [], ◌∷◌, ◌++◌, Option, Result, Ok, sym, ap, ◌∙◌, subst}
use Rattle.htl_top.proofs.Vocabulary.{append_known, Shown, Puts-second, Puts, Seen, IsFinished, e_done, jobs_done, s_done, before_of, schedules_of, text_of, totals_line, Event, Object, totals_text, EndsAt, text_before_fault}
use Rattle.htl_edge.specs.declared.Failed.{Failed}
use Rattle.htl_model.specs.declared.event.Event.TheVariants as event
use Rattle.htl_top.proofs.{Playing.text_ended, Totals.totals_end}

-- a whole script makes all instants up to its end
told_whole : (o : Object) (show : Shown) (events : List Event) (end : ℕ) → EndsAt events end → text_before_fault o show events ≡ before_of o events show (suc end)
told_whole o show events end ends =
    ap (text_before_fault o show) ends.last.1 ∙ sym (text_ended o show ends.last.0 end) ∙ sym (ap (λ (es : List Event). before_of o es show (suc end)) ends.last.1)

-- the totals that a machine has at the end
line_is : (at to j k e f s u : ℕ) → at ≡ to → j ≡ k → e ≡ f → s ≡ u → totals_line at j e s ≡ totals_line to k f u
line_is at to j k e f s u a b c d =
    ap (λ (n : ℕ). totals_line n j e s) a ∙ ap (λ (n : ℕ). totals_line to n e s) b ∙ ap (λ (n : ℕ). totals_line to k n s) c ∙ ap (totals_line to k f) d

pub finished_totals : (m : Seen) (es : List Event) (end : ℕ) → IsFinished m es end → totals_line m.run_state.reading m.jobs m.e m.s ≡ totals_text m.object (es ++ event.End end ∷ []) end
finished_totals m es end done =
    line_is m.run_state.reading end m.jobs (jobs_done m.object.tables (schedules_of m.object) es (suc end)) m.e (e_done m.object.tables m.object.ecode es (suc end)) m.s
    (s_done m.object.tables (schedules_of m.object) es (suc end)) done.reading done.jobs done.e done.s
    ∙ totals_end m.object.tables m.object.ecode (schedules_of m.object) es end (suc end)

totals_are : (m : Seen) (events : List Event) (end : ℕ) (ends : EndsAt events end) → IsFinished m ends.last.0 end
    → totals_line m.run_state.reading m.jobs m.e m.s ≡ totals_text m.object events end
totals_are m events end ends done =
    finished_totals m ends.last.0 end done ∙ sym (ap (λ (es : List Event). totals_text m.object es end) ends.last.1)

-- ---- what is put

module _ (o : Object) (show : Shown) (events : List Event) where
  pub run_put : {S T : Type 0} (m : Seen) (w w1 w2 : Option (List ℕ)) (f f1 f2 : ℕ) (x : S) (r : Result T Failed) → m.object ≡ o
      → Puts {T = S} {E = Failed} w w1 f f1 (text_before_fault o show events) (Ok x)
      → ((front : List Event) (end : ℕ) → events ≡ front ++ event.End end ∷ [] → IsFinished m front end)
      → Puts w1 w2 f1 f2 (totals_line m.run_state.reading m.jobs m.e m.s) r → (end : ℕ) → EndsAt events end → Puts w w2 f f2 (text_of o events show end) r
  run_put {S = S} {T = T} m w w1 w2 f f1 f2 x r same first done second end ends =
      let line : totals_line m.run_state.reading m.jobs m.e m.s ≡ totals_text o events end =
      totals_are m events end ends (done ends.last.0 end ends.last.1) ∙ ap (λ (p : Object). totals_text p events end) same in
      Puts-second w w1 w2 f f1 f2 (before_of o events show (suc end)) (totals_text o events end) r
      (first.whole ∙ ap (append_known w) (told_whole o show events end ends)) first.cause.kept (subst (λ (bs : List ℕ). Puts w1 w2 f1 f2 bs r) line second)
