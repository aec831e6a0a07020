-- The jobs of who stands at the positions of a frame stand.
use Rattle.std.proofs.Common.{◌≡◌, ℕ, zero, suc, ◌+◌, ◌≤◌, Bool, true, false, ◌&&◌, cond, eqb, List, [], ◌∷◌, slice_get, map, take, Option, Some, None, option_map, refl, sym, ap, ap₂, ◌∙◌, subst, arith, inl, inr}
use Rattle.htl_runs.proofs.Words.{eq-eqb, cases_lt, and_from, slice_get-map, get_or_from_slice_get, same_Some, Inv, Stay, Tables, release, window_end, task_worst, no_place, writer_from, feeds, Job, is_fed_by, mask, precedes, absent_job, job_at, mask_bit, get_mapped, Place, job_in, placed, placed_job, placed_jobs, later_or, position_from, InvStands, IsJob, AreJobsSoFar, place, front_there, take-map, IsFramePlacing, JobsOfPlacing, not_some, job_is, and_none}
use Rattle.htl_model.specs.declared.parts.End.TheVariants as E
use Rattle.htl_runs.proofs.{values.JobOutputs.writer_is, frames.JobWindows.position_some, frames.JobWindows.position_none, values.PortWriters.fed}

-- ---- the last position

-- no position of an invocation comes behind the one that is found
pub position_latest : (q : ℕ) (js : List Job) (i d r : ℕ) (j : Job) → slice_get js d ≡ Some j → j.present ≡ true → j.inv ≡ i → position_from q js i ≡ Some r → q + d ≤ r
position_latest q [] i d r j at here is e = not_some j at
position_latest q (k ∷ js) i d r j at here is e = by_rest (position_from (suc q) js i) refl d at e (λ m f g. position_latest (suc q) js i m r j f here is g)
  where
    by_test : (b : Bool) → ◌≡◌ {A = Option ℕ} (cond b (Some q) None) (Some r) → q ≤ r
    by_test true f = omega (arith, same_Some _ _ f)
    by_test false f = not_some r f

    by_rest : (o : Option ℕ) → position_from (suc q) js i ≡ o → (d : ℕ) → slice_get (k ∷ js) d ≡ Some j → later_or o (cond (k.present && eqb k.inv i) (Some q) None) ≡ Some r
        → ((m : ℕ) → slice_get js m ≡ Some j → position_from (suc q) js i ≡ Some r → suc q + m ≤ r) → q + d ≤ r
    by_rest None f (suc m) at e ih = absurd (position_none (suc q) js i m j f at here is)
    by_rest None f zero at e ih = omega (arith, by_test (k.present && eqb k.inv i) e)
    by_rest (Some s) f (suc m) at e ih = omega (arith, ih m at (f ∙ e))
    by_rest (Some s) f zero at e ih =
        omega (arith, (position_some (suc q) js i s f).1, same_Some _ _ e)

-- ---- jobs

module _ (t : Tables) (stays : List (Option Stay)) (frame n m : ℕ) (all : List Place) (placing : IsFramePlacing t stays frame n (take m all)) where
  abbrev places : List Place
  places = take m all

  abbrev jobs : List Job
  jobs = map (placed_job t all) (take m all)

  job_made : (i a : ℕ) (x : Inv) → slice_get t.invs i ≡ Some x
      → placed_job t all (place i a)
      ≡ record {
        present = true;
        inv = i;
        release = a + release t x;
        end = a + window_end t x;
        worst = task_worst t x.task;
        preds = mask (map (λ (y : Place). eqb y.at a && is_fed_by t i y.inv) all);
      }
  job_made i a x e = ap (job_in t all a i) e

  job_placed : (p : ℕ) (x : Place) → slice_get places p ≡ Some x → slice_get jobs p ≡ Some (placed_job t all x)
  job_placed p x e = slice_get-map (placed_job t all) places p ∙ ap (option_map (placed_job t all)) e

  -- a present job is of an invocation in a round
  placed_at : (p : ℕ) (j : Job) → slice_get jobs p ≡ Some j → j.present ≡ true
      → (i a : ℕ) × (x : Inv) × (slice_get places p ≡ Some (place i a)) × (slice_get t.invs i ≡ Some x) × (j.inv ≡ i) × (j.release ≡ a + release t x) × (j.end ≡ a + window_end t x)
  placed_at p j at here = by_place (slice_get places p) refl (sym (slice_get-map (placed_job t all) places p) ∙ at)
    where
      by_inv : (x : Place) → slice_get places p ≡ Some x → (o : Option ℕ) → x.inv ≡ o → placed_job t all x ≡ j
          → (i a : ℕ) × (y : Inv) × (slice_get places p ≡ Some (place i a)) × (slice_get t.invs i ≡ Some y) × (j.inv ≡ i) × (j.release ≡ a + release t y) × (j.end ≡ a + window_end t y)
      by_inv x is None f e =
          let z : false ≡ true = ap (λ (k : Job). k.present) (sym (ap (placed t all x.at) f) ∙ e) ∙ here in absurd (let w : ⊥ = cc in w)
      by_inv x is (Some i) f e =
          let same : slice_get places p ≡ Some (place i x.at) = is ∙ ap (λ (o : Option ℕ). let y : Place = record { inv = o; at = x.at } in Some y) f in
          let k = placing.known p i x.at same in
          let job = sym (ap (placed t all x.at) f ∙ job_made i x.at k.0 k.1) ∙ e in
          (i, x.at, k.0, same, k.1, sym (ap (λ (z : Job). z.inv) job), sym (ap (λ (z : Job). z.release) job), sym (ap (λ (z : Job). z.end) job))

      by_place : (o : Option Place) → slice_get places p ≡ o → option_map (placed_job t all) o ≡ Some j
          → (i a : ℕ) × (y : Inv) × (slice_get places p ≡ Some (place i a)) × (slice_get t.invs i ≡ Some y) × (j.inv ≡ i) × (j.release ≡ a + release t y) × (j.end ≡ a + window_end t y)
      by_place None is e = not_some j e
      by_place (Some x) is e = by_inv x is x.inv refl (same_Some _ _ e)

  the_job : (i a s : ℕ) (x : Inv) (p : ℕ) → slice_get t.invs i ≡ Some x → slice_get places p ≡ Some (place i a) → frame + a ≡ s → IsJob t jobs frame p i x s
  the_job i a s x p known at e =
      record {
        job = placed_job t all (place i a);
        at = job_placed p (place i a) at;
        present = ap (λ (j : Job). j.present) (job_made i a x known);
        inv = ap (λ (j : Job). j.inv) (job_made i a x known);
        begun = omega (arith, e);
        release = omega (arith, e, ap (λ (j : Job). j.release) (job_made i a x known));
        end = omega (arith, e, ap (λ (j : Job). j.end) (job_made i a x known));
        worst = ap (λ (j : Job). j.worst) (job_made i a x known);
      }

  -- the position of who stands is the last of its invocation
  last_one : (i a s : ℕ) (x : Inv) (p : ℕ) → InvStands t stays i x s → slice_get places p ≡ Some (place i a) → frame + a ≡ s → position_from 0 jobs i ≡ Some p
  last_one i a s x p st at e = by_found (position_from 0 jobs i) refl
    where
      by_found : (o : Option ℕ) → position_from 0 jobs i ≡ o → position_from 0 jobs i ≡ Some p
      by_found None f =
          let j = the_job i a s x p st.known at e in
          absurd (position_none 0 jobs i p j.job f j.at j.present j.inv)
      by_found (Some q) f =
          let j = the_job i a s x p st.known at e in
          let w = position_some 0 jobs i q f in
          let place_q : q ≡ w.0 = omega (arith, w.1) in
          let other = placed_at w.0 w.2 w.3 w.4 in
          let same_inv : other.0 ≡ i = sym other.5 ∙ w.5 in
          let there : slice_get places q ≡ Some (place i other.1) = ap (slice_get places) place_q ∙ other.3 ∙ ap (λ k. Some (place k other.1)) same_inv in
          elim (cases_lt p q) [
            | inl less ↦
                let not_sooner : a ≤ other.1 = placing.order p q (place i a) (place i other.1) less at there in
                let one : other.1 ≡ a = omega (arith, e, placing.latest q i other.1 s x there st, not_sooner) in
                f ∙ ap (λ z. Some z) (placing.once q p i a (there ∙ ap (λ b. Some (place i b)) one) at)
            | inr past ↦ f ∙ ap (λ z. Some z) (let z : q ≡ p = omega (arith, position_latest 0 jobs i p q j.job j.at j.present j.inv f, past) in z)
          ]

  -- whoever reads a port follows its writer
  preds_are : (p q i w o k b s : ℕ) (x y : Inv) → IsJob t jobs frame p i x s → IsJob t jobs frame q w y s → slice_get t.invs i ≡ Some x → slice_get t.invs w ≡ Some y
      → slice_get x.reads k ≡ Some (E.Port b) → writer_from x.mode b 0 t.invs ≡ Some (w, o) → precedes q (job_at jobs p) ≡ true
  preds_are p q i w o k b s x y jp jq known known_w e wr =
      let pp = placed_at p jp.job jp.at jp.present in
      let pq = placed_at q jq.job jq.at jq.present in
      let ip : pp.0 ≡ i = sym pp.5 ∙ jp.inv in
      let iq : pq.0 ≡ w = sym pq.5 ∙ jq.inv in
      let sp : frame + pp.1 ≡ s = omega (arith, jp.release, pp.6, ap (release t) (same_Some _ _ (sym pp.4 ∙ ap (slice_get t.invs) ip ∙ known))) in
      let sq : frame + pq.1 ≡ s = omega (arith, jq.release, pq.6, ap (release t) (same_Some _ _ (sym pq.4 ∙ ap (slice_get t.invs) iq ∙ known_w))) in
      let at_p : slice_get places p ≡ Some (place i pp.1) = pp.3 ∙ ap (λ z. Some (place z pp.1)) ip in
      let at_q : slice_get places q ≡ Some (place w pp.1) = pq.3 ∙ ap₂ (λ z c. Some (place z c)) iq (omega (arith, sp, sq)) in
      let test : Place → Bool = λ z. eqb z.at pp.1 && is_fed_by t i z.inv in
      ap (λ (j : Job). precedes q j) (job_is jobs p (placed_job t all (place i pp.1)) (job_placed p (place i pp.1) at_p) ∙ job_made i pp.1 x known)
      ∙ mask_bit (map test all) q
      ∙ get_mapped test all no_place q (and_none (eqb 0 pp.1))
      ∙ ap test (get_or_from_slice_get all q (place w pp.1) no_place (front_there m all q (place w pp.1) at_q).0)
      ∙ and_from (eqb pp.1 pp.1) (feeds t w i) (eq-eqb pp.1 pp.1 refl) (fed t i w k b o x known e (writer_is t x.mode b w o wr))

  jobs_so : AreJobsSoFar t stays frame n jobs
  jobs_so =
      record {
        has = λ i x s st.
            let h = placing.has i x s st in
            (h.0, the_job i h.1 s x h.0 st.known h.2 h.3, last_one i h.1 s x h.0 st h.2 h.3);
        stands = λ p j at here open_yet.
            let r = placed_at p j at here in
            let st = placing.stands p r.0 r.1 r.2 r.3 r.4 (omega (arith, open_yet, r.7)) in
            (r.2, frame + r.1, subst (λ z. InvStands t stays z r.2 (frame + r.1)) (sym r.5) st, subst (λ z. IsJob t jobs frame p z r.2 (frame + r.1)) (sym r.5) (the_job r.0 r.1 (frame + r.1) r.2 p r.4 r.3 refl));
        once = λ p q i s x jp jq.
            let a = placed_at p jp.job jp.at jp.present in
            let b = placed_at q jq.job jq.at jq.present in
            let ia : a.0 ≡ i = sym a.5 ∙ jp.inv in
            let ib : b.0 ≡ i = sym b.5 ∙ jq.inv in
            let one : a.2 ≡ b.2 = same_Some _ _ (sym a.4 ∙ ap (slice_get t.invs) (ia ∙ sym ib) ∙ b.4) in
            let same : b.1 ≡ a.1 = omega (arith, jp.release, jq.release, a.6, b.6, ap (release t) one) in
            placing.once p q i a.1 (a.3 ∙ ap (λ z. Some (place z a.1)) ia) (b.3 ∙ ap₂ (λ z c. Some (place z c)) ib same);
        preds = preds_are;
      }

  pub jobs_of : AreJobsSoFar t stays frame n (take m (placed_jobs t all))
  jobs_of = subst (AreJobsSoFar t stays frame n) (sym (take-map (placed_job t all) m all)) jobs_so

pub jobs_of_placing : JobsOfPlacing
jobs_of_placing t stays frame n m all placing = jobs_of t stays frame n m all placing
