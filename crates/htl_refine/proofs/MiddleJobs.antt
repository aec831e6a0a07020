-- The jobs at places between others of earlier and later starts: the predecessors of a job are of its own start.
use Rattle.std.proofs.Common.{append_assoc, ◌≡◌, ℕ, zero, suc, ◌+◌, ◌*◌, ◌<◌, Bool, false, ◌&&◌, eqb, List, [], ◌∷◌, ◌++◌, length, map, drop, take, get_or, replicate, Option, Some, None, refl, sym, ◌∙◌, ap, ap₂, arith, append-nil}
use Rattle.htl_refine.proofs.Words.{slice_get, flat_map, ne_eqb, length-map, length-replicate, map-append, drop-append_seam, Place, Inv, of_bool, Tables, Job, is_fed_by, mask, job_in, placed, placed_job, placed_jobs, nowhere, and_none}
use Rattle.htl_refine.proofs.FramesAgree.{all_false}

-- ---- lists

pub flat_split : (g : ℕ → List Place) (from : List ℕ) (i : ℕ) → i < length from → flat_map g from ≡ flat_map g (take i from) ++ (g (get_or from i 0) ++ flat_map g (drop (suc i) from))
flat_split g [] i l = absurd (omega (arith, l))
flat_split g (a ∷ from) zero l = refl
flat_split g (a ∷ from) (suc i) l = grind (arith, append_assoc, flat_split g from i (omega (arith, l)))

pub flat_next : (g : ℕ → List Place) (from : List ℕ) (i : ℕ) → i < length from → flat_map g (take (suc i) from) ≡ flat_map g (take i from) ++ g (get_or from i 0)
flat_next g [] i l = absurd (omega (arith, l))
flat_next g (a ∷ from) zero l = append-nil (g a)
flat_next g (a ∷ from) (suc i) l = ap (λ zs. g a ++ zs) (flat_next g from i (omega (arith, l))) ∙ sym (append_assoc (g a) (flat_map g (take i from)) (g (get_or from i 0)))

take_both : {A : Type 0} (xs ys zs : List A) → take (length xs + length ys) (xs ++ (ys ++ zs)) ≡ xs ++ ys
take_both [] ys zs = ap (λ n. take n (ys ++ zs)) (let e : 0 + length ys ≡ length ys = omega arith in e) ∙ all ys zs
  where
    all : {A : Type 0} (ys zs : List A) → take (length ys) (ys ++ zs) ≡ ys
    all [] zs = refl
    all (y ∷ ys) zs = ap (λ ws. y ∷ ws) (all ys zs)
take_both (x ∷ xs) ys zs = ap (λ n. take n (x ∷ (xs ++ (ys ++ zs)))) (let e : suc (length xs) + length ys ≡ suc (length xs + length ys) = omega arith in e) ∙ ap (λ ws. x ∷ ws) (take_both xs ys zs)

-- ---- predecessors are of the same round

only_middle : (test : Place → Bool) (bs cs : List Place) → ((q : ℕ) (y : Place) → slice_get cs q ≡ Some y → test y ≡ false) → mask (map test (bs ++ cs)) ≡ mask (map test bs)
only_middle test [] cs h = all_false test cs h
only_middle test (b ∷ bs) cs h = ap (λ n. of_bool (test b) + 2 * n) (only_middle test bs cs h)

same_mask : (test : Place → Bool) (xs bs cs : List Place) → test nowhere ≡ false → ((q : ℕ) (y : Place) → slice_get xs q ≡ Some y → test y ≡ false) → ((q : ℕ) (y : Place) → slice_get cs q ≡ Some y → test y ≡ false)
    → mask (map test (xs ++ (bs ++ cs))) ≡ mask (map test (replicate (length xs) nowhere ++ bs))
same_mask test [] bs cs none before behind = only_middle test bs cs behind
same_mask test (x ∷ xs) bs cs none before behind =
    ap₂ (λ a n. of_bool a + 2 * n) (before 0 x refl ∙ sym none) (same_mask test xs bs cs none (λ q y e. before (suc q) y e) behind)

module _ (t : Tables) (xs bs cs : List Place) (a : ℕ) (before : (q : ℕ) (y : Place) → slice_get xs q ≡ Some y → y.at < a) (behind : (q : ℕ) (y : Place) → slice_get cs q ≡ Some y → a < y.at) where
  away : (b : ℕ) (c : Bool) → (b ≡ a → ⊥) → (eqb b a && c) ≡ false
  away b c n = ap (λ e. e && c) (ne_eqb b a n)

  idle : (k : ℕ) → (eqb 0 a && is_fed_by t k None) ≡ false
  idle k = and_none (eqb 0 a)

  job_same : (o : Option ℕ) → placed t (xs ++ (bs ++ cs)) a o ≡ placed t (replicate (length xs) nowhere ++ bs) a o
  job_same None = refl
  job_same (Some k) = by (slice_get t.invs k)
    where
      preds : mask (map (λ (y : Place). eqb y.at a && is_fed_by t k y.inv) (xs ++ (bs ++ cs))) ≡ mask (map (λ (y : Place). eqb y.at a && is_fed_by t k y.inv) (replicate (length xs) nowhere ++ bs))
      preds =
          same_mask (λ (y : Place). eqb y.at a && is_fed_by t k y.inv) xs bs cs (idle k)
          (λ q y e. away y.at (is_fed_by t k y.inv) (λ s. let l = before q y e in omega (arith, l, s)))
          (λ q y e. away y.at (is_fed_by t k y.inv) (λ s. let l = behind q y e in omega (arith, l, s)))

      by : (o : Option Inv) → job_in t (xs ++ (bs ++ cs)) a k o ≡ job_in t (replicate (length xs) nowhere ++ bs) a k o
      by None = refl
      by (Some i) = ap (λ n. let j : Job = record (job_in t (xs ++ (bs ++ cs)) a k (Some i)) { preds = n } in j) preds

  all_same : (ds : List Place) → ((q : ℕ) (y : Place) → slice_get ds q ≡ Some y → y.at ≡ a) → map (placed_job t (xs ++ (bs ++ cs))) ds ≡ map (placed_job t (replicate (length xs) nowhere ++ bs)) ds
  all_same [] h = refl
  all_same (d ∷ ds) h =
      ap₂ (λ j js. j ∷ js)
      (ap (λ z. placed t (xs ++ (bs ++ cs)) z d.inv) (h 0 d refl) ∙ job_same d.inv ∙ sym (ap (λ z. placed t (replicate (length xs) nowhere ++ bs) z d.inv) (h 0 d refl)))
      (all_same ds (λ q y e. h (suc q) y e))

  -- the jobs that begin at a
  pub middle_jobs : ((q : ℕ) (y : Place) → slice_get bs q ≡ Some y → y.at ≡ a)
      → drop (length xs) (take (length xs + length bs) (placed_jobs t (xs ++ (bs ++ cs)))) ≡ drop (length xs) (placed_jobs t (replicate (length xs) nowhere ++ bs))
  middle_jobs here =
      let f = placed_job t (xs ++ (bs ++ cs)) in
      let g = placed_job t (replicate (length xs) nowhere ++ bs) in
      let size : length xs + length bs ≡ length (map f xs) + length (map f bs) = omega (arith, length-map xs f, length-map bs f) in
      ap₂ (λ n js. drop (length xs) (take n js)) size (map-append f xs (bs ++ cs) ∙ ap (λ zs. map f xs ++ zs) (map-append f bs cs))
      ∙ ap (drop (length xs)) (take_both (map f xs) (map f bs) (map f cs))
      ∙ ap (λ n. drop n (map f xs ++ map f bs)) (sym (length-map xs f))
      ∙ drop-append_seam (map f xs) (map f bs)
      ∙ all_same bs here
      ∙ sym (drop-append_seam (map g (replicate (length xs) nowhere)) (map g bs))
      ∙ ap (λ n. drop n (map g (replicate (length xs) nowhere) ++ map g bs)) (length-map (replicate (length xs) nowhere) g ∙ length-replicate (length xs) nowhere)
      ∙ ap (drop (length xs)) (sym (map-append g (replicate (length xs) nowhere) bs))
