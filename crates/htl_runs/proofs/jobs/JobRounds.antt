-- The round of a job of a frame: its window lies in it, and its invocation has no other job there.
use Rattle.std.proofs.Common.{◌≡◌, ◌≤◌, ◌<◌, ◌⊎◌, inl, inr, ℕ, suc, ◌+◌, ◌-◌, ◌*◌, ◌/◌, true, List, slice_get, Option, Some, None, sym, ap, ap₂, ◌∙◌, arith}
use Rattle.htl_runs.proofs.Words.{mul_comm, mul-div_cancel_left, mul-le-mul_left, get_or_from_slice_get, same_Some, Event, Place, Inv, KeptApart, frame_of, known_by, no_place, AreInRange, Tables, mode_period, Job, placed_job, derived_place, place, standing_places, AreOrdered, frame_modes, frame_places, frame_jobs, mapped, placed_present, places_ordered, job_round, inv_period, window_within}
use Rattle.htl_runs.proofs.frames.PlacedStays.{at_place_is}

-- rounds of one period that have an instant in common are one
one_round : (per a b at : ℕ) → per * a < at → at ≤ per * a + per → per * b < at → at ≤ per * b + per → a ≡ b
one_round per a b at low high low' high' = grind (arith, mul-le-mul_left)

module _ (t : Tables) (es : List Event) (k : ℕ) (range : AreInRange t) (kept : KeptApart t 16) (ticks : 0 < frame_of t) where
  abbrev frame : ℕ
  frame = k * frame_of t

  -- the place of a job, and its round
  pub record IsPlaced (q : ℕ) (j : Job) : Type 0 where
    pub at : ℕ
    pub place_is : slice_get (standing_places t es frame) q ≡ Some (place j.inv at)
    pub starts : job_round t es frame q ≡ frame + at
    -- its window lies in the round
    pub first : at ≤ j.release
    pub last : j.end ≤ at + inv_period t j.inv
    pub inside : at + inv_period t j.inv ≤ frame_of t
    pub times : ℕ
    pub multiple : frame + at ≡ inv_period t j.inv * times

  first_rules : KeptApart t 12
  first_rules r s have need small other broken = kept r s have need (omega (arith, small)) other broken

  begun : ℕ
  begun = known_by (frame - frame) (frame_places t (frame_modes t es frame))

  ordered : AreOrdered (standing_places t es frame) begun (frame - frame)
  unfolding begun
  ordered = places_ordered t es frame (frame - frame) range kept

  at_frame : frame ≡ frame_of t * (frame / frame_of t)
  at_frame = grind (arith, mul_comm, mul-div_cancel_left)

  pub is_placed : (q : ℕ) (j : Job) → slice_get (frame_jobs t (frame_modes t es frame)) q ≡ Some j → j.present ≡ true → IsPlaced q j
  is_placed q j at here =
      let modes = frame_modes t es frame in
      let xs = frame_places t modes in
      let ys = standing_places t es frame in
      let y = mapped (placed_job t ys) ys q j at in
      let c = placed_present t ys y.0.at y.0.inv j y.2 here in
      let x = mapped (derived_place t modes) xs q y.0 y.1 in
      let inv : c.0 ≡ j.inv = ap (λ (z : Job). z.inv) c.4 in
      let there : slice_get ys q ≡ Some (place j.inv y.0.at) =
      y.1 ∙ ap (λ (o : Option ℕ). let z : Place = record { inv = o; at = y.0.at } in Some z) (c.2 ∙ ap (λ i. Some i) inv) in
      let w = at_place_is t es frame frame begun range kept at_frame (omega arith) (omega (arith, ticks)) ordered q j.inv y.0.at there in
      let known : slice_get t.invs j.inv ≡ Some c.1 = ap (slice_get t.invs) (sym inv) ∙ c.3 in
      let period : inv_period t j.inv ≡ mode_period t c.1.mode = ap (λ (o : Option Inv). elim o [ Some z ↦ mode_period t z.mode | None ↦ 0 ]) known in
      let one : w.inv ≡ c.1 = same_Some _ _ (sym w.known ∙ known) in
      record {
        at = y.0.at;
        place_is = there;
        starts = ap (λ (z : Place). frame + z.at) (get_or_from_slice_get xs q x.0 no_place x.1) ∙ ap (λ (z : Place). frame + z.at) x.2;
        first = omega (arith, ap (λ (z : Job). z.release) c.4);
        last = omega (arith, ap (λ (z : Job). z.end) c.4, window_within t c.0 c.1 range first_rules c.3, period);
        inside = omega (arith, w.ends, period, ap (λ (z : Inv). mode_period t z.mode) one);
        times = w.times;
        multiple = w.multiple_of ∙ ap (λ (z : Inv). mode_period t z.mode * w.times) one ∙ ap (λ z. z * w.times) (sym period);
      }

  -- where two jobs of an invocation have rounds with an instant in common they are one
  pub only_job : (p q : ℕ) (i j : Job) → IsPlaced p i → IsPlaced q j → i.inv ≡ j.inv → (at : ℕ) → frame + i.release < at → at ≤ frame + i.end
      → job_round t es frame q < at → at ≤ job_round t es frame q + inv_period t j.inv → p ≡ q
  only_job p q i j x y same at a b c d =
      let per = inv_period t j.inv in
      let times : frame + x.at ≡ per * x.times = x.multiple ∙ ap (λ z. inv_period t z * x.times) same in
      let period : inv_period t i.inv ≡ per = ap (inv_period t) same in
      let one : x.times ≡ y.times =
      one_round per x.times y.times at (omega (arith, times, x.first, a)) (omega (arith, times, x.last, period, b)) (omega (arith, y.multiple, y.starts, c)) (omega (arith, y.multiple, y.starts, d)) in
      ordered.once p q j.inv y.at (x.place_is ∙ ap₂ (λ i a. Some (place i a)) same (omega (arith, times, y.multiple, ap (λ z. per * z) one))) y.place_is
