-- What calls told a machine: it keeps what a reading, a sensor's value or a length tells.
use Rattle.std.proofs.Common.{◌≡◌, ℕ, ◌≤◌, ◌<◌, Bool, true, false, cond, ◌&&◌, eqb, leb, List, [], ◌∷◌, ◌++◌, length, get_or, set, slice_get, Some, IfSome, ℤ, pos, refl, sym, ap, ◌∙◌, subst, arith}
use Rattle.htl_runs.proofs.Words.{eqb-true, eqb-false, le-leb, length-set, get_or-set_same, get_or-set_other, Event, Comm, FitsType, Tables, sense, took, IsTookWithin, RunState, reading_of, IsKept, at_reading, shown_as, taken_as}
use Rattle.htl_model.specs.declared.event.Event.TheVariants as V
use Rattle.htl_runs.proofs.events.SameSensors.{reading_more, sense_at, sense_sense, sense_took, took_at, took_sense, took_took}
use Rattle.htl_runs.proofs.events.NextReading.{within_more}

module _ (t : Tables) (es : List Event) (m : RunState) (k : IsKept t es m) where
  -- a reading
  pub reading_kept : (to : ℕ) → m.reading ≤ to → IsKept t (es ++ V.At to ∷ []) (at_reading to m)
  reading_kept to later = grind (arith, reading_more, within_more, sense_at, took_at)

  -- a sensor that shows another value from now on
  pub sense_kept : (d : ℕ) (y : ℤ) → d < length t.comms → IfSome (slice_get t.comms d) (λ x. FitsType x.ty y) → IsKept t (es ++ V.Sense d y ∷ []) (shown_as d y m)
  sense_kept d y known fits =
      let more : reading_of 0 (es ++ V.Sense d y ∷ []) ≡ reading_of 0 es = reading_more 0 es (V.Sense d y) in
      record {
        fresh = k.fresh;
        reading = k.reading ∙ sym more;
        within = within_more t es (V.Sense d y) k.within tt;
        fits = record { count = length-set m.shows d y ∙ k.fits.count; fit = λ c x at. by_comm c x at (eqb c d) refl };
        shows = λ c u less h. sense_sense t es d c u y ∙ by_test c u less (omega (arith, more)) (eqb c d) refl;
        takes = λ i u less h. took_sense t es d i u y ∙ k.takes i u less (omega (arith, more));
        count = k.count;
      }
    where
      by_comm : (c : ℕ) (x : Comm) → slice_get t.comms c ≡ Some x → (b : Bool) → eqb c d ≡ b → FitsType x.ty (get_or (set m.shows d y) c (pos 0))
      by_comm c x at true is =
          let e : c ≡ d = eqb-true c d is in
          let one : FitsType x.ty y = subst (λ o. IfSome o (λ z. FitsType z.ty y)) (sym (ap (slice_get t.comms) e) ∙ at) fits in
          subst (FitsType x.ty) (sym (ap (λ i. get_or (set m.shows d y) i (pos 0)) e ∙ get_or-set_same m.shows d y (pos 0) (omega (arith, k.fits.count)))) one
      by_comm c x at false is = subst (FitsType x.ty) (sym (get_or-set_other m.shows d c y (pos 0) (eqb-false c d is))) (k.fits.fit c x at)

      by_test : (c u : ℕ) → c < length t.comms → reading_of 0 es ≤ u → (b : Bool) → eqb c d ≡ b → cond (b && leb (reading_of 0 es) u) y (sense t es c u) ≡ get_or (set m.shows d y) c (pos 0)
      by_test c u less h true is =
          ap (λ b. cond b y (sense t es c u)) (le-leb (reading_of 0 es) u h)
          ∙ sym (ap (λ i. get_or (set m.shows d y) i (pos 0)) (eqb-true c d is) ∙ get_or-set_same m.shows d y (pos 0) (omega (arith, k.fits.count)))
      by_test c u less h false is = k.shows c u less h ∙ sym (get_or-set_other m.shows d c y (pos 0) (eqb-false c d is))

  -- from the reading on the jobs of an invocation take so long
  pub took_kept : (i n : ℕ) → IsTookWithin t (V.Took i n) → i < length t.invs → IsKept t (es ++ V.Took i n ∷ []) (taken_as i n m)
  took_kept i n fits known =
      let more : reading_of 0 (es ++ V.Took i n ∷ []) ≡ reading_of 0 es = reading_more 0 es (V.Took i n) in
      record {
        fresh = k.fresh;
        reading = k.reading ∙ sym more;
        within = within_more t es (V.Took i n) k.within fits;
        fits = k.fits;
        shows = λ c u less h. sense_took t es i n c u ∙ k.shows c u less (omega (arith, more));
        takes = λ j u less h. took_took t es i n j u ∙ by_test j u less (omega (arith, more)) (eqb j i) refl;
        count = length-set m.takes i n ∙ k.count;
      }
    where
      by_test : (j u : ℕ) → j < length t.invs → reading_of 0 es ≤ u → (b : Bool) → eqb j i ≡ b → cond (b && leb (reading_of 0 es) u) n (took t es j u) ≡ get_or (set m.takes i n) j 0
      by_test j u less h true is =
          let e : j ≡ i = eqb-true j i is in
          ap (λ b. cond b n (took t es j u)) (le-leb (reading_of 0 es) u h) ∙ sym (ap (λ z. get_or (set m.takes i n) z 0) e ∙ get_or-set_same m.takes i n 0 (omega (arith, k.count)))
      by_test j u less h false is = k.takes j u less h ∙ sym (get_or-set_other m.takes i j n 0 (eqb-false j i is))
