-- The text before an instant stays, whatever is read at that instant or later.
use Rattle.std.proofs.Common.{◌≡◌, ◌<◌, ℕ, List, [], ◌∷◌, ◌++◌, refl, sym, ap, ◌∙◌, subst, arith}
use Rattle.htl_runs.proofs.Words.{append_assoc, append-nil, Event, Tables, up_to_same, SInstr, ECode, IsTookWithin, AreTookWithin, Shown, reading_of, IsLoaded, AreReadFrom, lines, text_before}
use Rattle.htl_model.specs.declared.event.Event.TheVariants as V
use Rattle.htl_runs.proofs.{events.SameSensors.reading_more, events.SameBefore.same_at, events.SameBefore.same_end, events.SameBefore.same_sense, events.SameBefore.same_took, events.SameBefore.lines_stay}

front_within : (t : Tables) (es later : List Event) → AreTookWithin t (es ++ later) → AreTookWithin t es
front_within t [] later h = tt
front_within t (e ∷ es) later h = (h.0, front_within t es later h.1)

module _ (t : Tables) (code : ECode) (schedules : List (List SInstr)) (show : Shown) (now : ℕ) (loaded : IsLoaded t schedules) where
  -- one event more
  more : (es : List Event) (e : Event) → AreTookWithin t es → IsTookWithin t e → AreReadFrom now (reading_of 0 es) (e ∷ [])
      → text_before t code schedules es show now ≡ text_before t code schedules (es ++ e ∷ []) show now
  more es e within fits from = up_to_same (lines t code schedules es show) (lines t code schedules (es ++ e ∷ []) show) now (by e fits from)
    where
      by : (e : Event) → IsTookWithin t e → AreReadFrom now (reading_of 0 es) (e ∷ []) → (n : ℕ) → n < now → lines t code schedules es show n ≡ lines t code schedules (es ++ e ∷ []) show n
      by (V.At to) fits from n h = lines_stay t schedules loaded es (es ++ V.At to ∷ []) now (same_at t schedules loaded es within to now) code show n h
      by (V.End to) fits from n h = lines_stay t schedules loaded es (es ++ V.End to ∷ []) now (same_end t schedules loaded es within to now) code show n h
      by (V.Sense d y) fits from n h = lines_stay t schedules loaded es (es ++ V.Sense d y ∷ []) now (same_sense t schedules loaded es within d y now from.0) code show n h
      by (V.Took i k) fits from n h =
          lines_stay t schedules loaded es (es ++ V.Took i k ∷ []) (reading_of 0 es) (same_took t schedules loaded es within i k fits (reading_of 0 es) refl) code show n (omega (arith, h, from.0))

  first_from : (r : ℕ) (e : Event) (later : List Event) → AreReadFrom now r (e ∷ later) → AreReadFrom now r (e ∷ []) × AreReadFrom now (reading_of r (e ∷ [])) later
  first_from r (V.Sense c x) later h = ((h.0, tt), h.1)
  first_from r (V.Took i n) later h = ((h.0, tt), h.1)
  first_from r _ later h = (tt, h)

  back_within : (es : List Event) (e : Event) (later : List Event) → AreTookWithin t (es ++ e ∷ later) → IsTookWithin t e
  back_within [] e later h = h.0
  back_within (x ∷ es) e later h = back_within es e later h.1

  pub later_leave : (es later : List Event) → AreTookWithin t (es ++ later) → AreReadFrom now (reading_of 0 es) later → text_before t code schedules (es ++ later) show now ≡ text_before t code schedules es show now
  later_leave es [] within from = ap (λ xs. text_before t code schedules xs show now) (append-nil es)
  later_leave es (e ∷ later) within from =
      let parts = first_from (reading_of 0 es) e later from in
      let next = es ++ e ∷ [] in
      let same : next ++ later ≡ es ++ e ∷ later = append_assoc es (e ∷ []) later in
      let rest = later_leave next later (subst (AreTookWithin t) (sym same) within) (subst (λ r. AreReadFrom now r later) (sym (reading_more 0 es e)) parts.1) in
      ap (λ xs. text_before t code schedules xs show now) (sym same) ∙ rest
      ∙ sym (more es e (front_within t es (e ∷ later) within) (back_within es e later within) parts.0)
