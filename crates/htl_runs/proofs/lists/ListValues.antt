-- The value half over a whole instant, records included: the records of the list that stands are those of its frame.
use Rattle.std.proofs.Common.{◌≡◌, ℕ, zero, suc, ◌+◌, ◌-◌, ◌≤◌, Bool, true, false, cond, ltb, is_some, List, [], ◌∷◌, ◌++◌, length, slice_get, take, refl, sym, ap, ◌∙◌, subst, arith, length-append}
use mathlib.Core.Path.{fun_ext}
use Rattle.htl_runs.proofs.Words.{Event, Inv, Tables, AreInRange, KeptApart, state, before, sense, Job, Left, finish, Content, count_left_before, done_by, complete_by, run_records, Now, finished_at, Turn, turn_walk, records_so_far, left_before, AreTurns, finished_in, InvStands, ValuesFollow, HasPlaces, HasReadInputs, effects, all_writes, with_sensors, get_back, within_front}
use Rattle.htl_runs.specs.frames.FrameSteps as frames
use Rattle.htl_runs.specs.lists.RecordEffects.{finished_before, with_records, next_world}
use Rattle.htl_runs.proofs.{values.InstantWorlds.follows_on, values.InstantWorlds.after_shape, values.InstantWorlds.holds_values, records.SMachineInstants.count_within, frames.FrameSteps.finished_carried}
use Rattle.htl_runs.proofs.frames.FrameValues.{all_ready, count_grows, records_follow}
use Rattle.htl_runs.proofs.frames.FrameValues as by_frames

-- ---- records of one list among those of its frame

pub take_front : {A : Type 0} (xs ys : List A) (k : ℕ) → k ≤ length xs → take k (xs ++ ys) ≡ take k xs
take_front xs ys zero h = refl
take_front [] ys (suc k) h = absurd (omega (arith, h))
take_front (x ∷ xs) ys (suc k) h = ap (λ z. x ∷ z) (take_front xs ys k (omega (arith, h)))

pub count_front : (d : ℕ) (ys zs : List Left) → count_left_before d ys ≤ count_left_before d (ys ++ zs)
count_front d [] zs = omega arith
count_front d (y ∷ ys) zs = grind (arith, count_front d ys zs)

-- where all of the first records are left before, so are those behind them that are
pub count_behind : (d : ℕ) (xs ys zs : List Left) → length xs ≤ count_left_before d ((xs ++ ys) ++ zs) → length xs + count_left_before d ys ≤ count_left_before d ((xs ++ ys) ++ zs)
count_behind d [] ys zs h = let front = count_front d ys zs in omega (arith, front)
count_behind d (x ∷ xs) ys zs h = by (ltb x.at d) h (λ more. count_behind d xs ys zs more)
  where
    by : (b : Bool) → suc (length xs) ≤ cond b (suc (count_left_before d ((xs ++ ys) ++ zs))) 0
        → (length xs ≤ count_left_before d ((xs ++ ys) ++ zs) → length xs + count_left_before d ys ≤ count_left_before d ((xs ++ ys) ++ zs))
        → suc (length xs) + count_left_before d ys ≤ cond b (suc (count_left_before d ((xs ++ ys) ++ zs))) 0
    by true h ih = let rest = ih (omega (arith, h)) in omega (arith, rest)
    by false h ih = absurd (omega (arith, h))

run_behind : (t : Tables) (jobs : List Job) (xs ys zs : List Left) (m k : ℕ) (w : Content) → k + m ≤ length ys → run_records t jobs ((xs ++ ys) ++ zs) m (length xs + k) w ≡ run_records t jobs ys m k w
run_behind t jobs xs ys zs zero k w h = refl
run_behind t jobs xs ys zs (suc m) k w h =
    let all = (xs ++ ys) ++ zs in
    let here : slice_get ((xs ++ ys) ++ zs) (length xs + k) ≡ slice_get ys k = within_front (xs ++ ys) zs (length xs + k) (omega (arith, h, length-append xs ys)) ∙ get_back xs ys k in
    ap (λ o. run_records t jobs all m (suc (length xs + k)) (complete_by t jobs o w)) here
    ∙ ap (λ z. run_records t jobs all m z (complete_by t jobs (slice_get ys k) w)) (let e : suc (length xs + k) ≡ length xs + suc k = omega arith in e)
    ∙ run_behind t jobs xs ys zs m (suc k) (complete_by t jobs (slice_get ys k) w) (omega (arith, h))

module _ (t : Tables) (range : AreInRange t) (kept : KeptApart t 12) (es : List Event) (turn : ℕ → Turn) (turns : AreTurns t es turn) where
  -- the frame at an instant, by its list
  abbrev now : ℕ → Now
  now n = record { frame = (turn n).frame; jobs = (turn n).plan.jobs; walk = turns.walk n }

  few_before : (n d : ℕ) → length (turn n).earlier + left_before (turn n) d ≤ length (records_so_far (turn n))
  few_before n d = let u = turn n in omega (arith, length-append u.earlier (turn_walk u), count_within (d - u.frame) (turn_walk u))

  -- who is done by the first records of the frame
  pub done_front : (n k p : ℕ) → k ≤ length (records_so_far (turn n)) → done_by (turns.walk n) k p ≡ done_by (records_so_far (turn n)) k p
  done_front n k p few = grind (arith, is_some, take_front)

  -- so many records of the frame are left up to the instant behind n, at the least
  pub count_upto : (n : ℕ) → length (turn n).earlier + left_before (turn n) (suc (suc n)) ≤ count_left_before (suc (suc n) - (turn n).frame) (turns.walk n)
  count_upto n = grind (arith, count_grows, count_behind)

  pub same_before : (n : ℕ) → finished_before turn n ≡ frames.present_finished now n
  same_before zero = refl
  same_before (suc n) =
      let u = turn n in
      fun_ext (λ i.
      ap (λ (d : ℕ → Bool). finished_in u.plan.jobs d i) (fun_ext (λ p. sym (done_front n (length u.earlier + left_before u (suc n)) p (few_before n (suc n)))))
      ∙ ap (λ k. finished_in u.plan.jobs (done_by (turns.walk n) k) i) (sym (turns.each n).count))

  -- who is finished before an instant has read all before it
  pub read_before : (n i : ℕ) (x : Inv) (s : ℕ) → InvStands t (before t es n).stays i x s → finished_before turn n i ≡ true → HasReadInputs t n (finished_before turn n) x s
  read_before n i x s st fin =
      let same = same_before n in
      subst (λ (f : ℕ → Bool). HasReadInputs t n f x s) (sym same) (by_frames.read_before t range kept es now turns.frames n i x s st (ap (λ (f : ℕ → Bool). f i) (sym same) ∙ fin))

  -- after the records of the instant
  records_done : (n : ℕ) (w : Content) → ValuesFollow t es n (finished_before turn n) w → HasPlaces t w → ValuesFollow t es n (finished_at now n) (with_records t turn n w) × HasPlaces t (with_records t turn n w)
  records_done zero w f shape = (subst (λ (z : ℕ → Bool). ValuesFollow t es 0 z w) (same_before 0) f, shape)
  records_done (suc n) w f shape =
      let u = turn n in
      let each = turns.each n in
      let e = length u.earlier in
      let a = left_before u (suc n) in
      let b = left_before u (suc (suc n)) in
      let more : a ≤ b = count_grows (suc n - u.frame) (suc (suc n) - u.frame) (turn_walk u) (omega arith) in
      let first : ValuesFollow t es (suc n) (finished_in u.plan.jobs (done_by (turns.walk n) (e + a))) w =
      subst (λ k. ValuesFollow t es (suc n) (finished_in u.plan.jobs (done_by (turns.walk n) k)) w) each.count (subst (λ (z : ℕ → Bool). ValuesFollow t es (suc n) z w) (same_before (suc n)) f) in
      let r = records_follow t range kept es now turns.frames n (b - a) (e + a) w (omega (arith, each.count)) (omega (arith, more, count_upto n)) first shape in
      let is : run_records t u.plan.jobs (turns.walk n) (b - a) (e + a) w ≡ with_records t turn (suc n) w =
      ap (λ (ls : List Left). run_records t u.plan.jobs ls (b - a) (e + a) w) each.front
      ∙ run_behind t u.plan.jobs u.earlier (turn_walk u) each.rest (b - a) a w (omega (arith, more, count_within (suc (suc n) - u.frame) (turn_walk u))) in
      let done : finished_in u.plan.jobs (done_by (turns.walk n) ((e + a) + (b - a))) ≡ finished_at now (suc n) =
      ap (λ k. finished_in u.plan.jobs (done_by (turns.walk n) k)) (let z : (e + a) + (b - a) ≡ e + b = omega (arith, more) in z)
      ∙ ap (λ (d : ℕ → Bool). finished_in u.plan.jobs d) (fun_ext (λ p. sym (each.upto p))) in (
        subst (λ (z : ℕ → Bool). ValuesFollow t es (suc n) z (with_records t turn (suc n) w)) done
            (subst (λ v. ValuesFollow t es (suc n) (finished_in u.plan.jobs (done_by (turns.walk n) ((e + a) + (b - a)))) v) is r.0),
        subst (HasPlaces t) is r.1,
      )

  -- the value half is carried over the whole instant
  pub values_carried : (n : ℕ) (w : Content) → ValuesFollow t es n (finished_before turn n) w → HasPlaces t w
      → ValuesFollow t es (suc n) (finished_before turn (suc n)) (next_world t es turn n w) × HasPlaces t (next_world t es turn n w)
  values_carried n w f shape =
      let r = records_done n w f shape in
      let ready = all_ready t range kept es now turns.frames n in
      let carried = finished_carried t es now range kept turns.frames n in (
        subst (λ (z : ℕ → Bool). ValuesFollow t es (suc n) z (next_world t es turn n w)) (sym (same_before (suc n)))
            (follows_on t range kept es n (finished_at now n) (frames.present_finished now (suc n)) (with_records t turn n w) r.0 r.1 ready carried),
        after_shape t range kept es n (finished_at now n) (frames.present_finished now (suc n)) (with_records t turn n w) r.0 r.1 ready carried,
      )

  -- after the records, the writes and the sensors the world holds the values of the instant
  pub values_now : (n : ℕ) (w : Content) → ValuesFollow t es n (finished_before turn n) w → HasPlaces t w
      → (with_sensors t (sense t es) n (effects t (all_writes t n (before t es n).stays) (with_records t turn n w))).values ≡ (state t es n).values
  values_now n w f shape =
      let r = records_done n w f shape in
      holds_values t range kept es n (finished_at now n) (frames.present_finished now (suc n)) (with_records t turn n w) r.0 r.1 (all_ready t range kept es now turns.frames n) (finished_carried t es now range kept turns.frames n)
