-- What is kept of the invocations whose rounds begin.
use Rattle.std.proofs.Common.{◌≡◌, ◌≢◌, ℕ, zero, suc, ◌≤◌, ◌<◌, ◌⊎◌, inl, inr, Bool, true, false, cond, ◌&&◌, eqb, List, [], ◌∷◌, length, get_or, Option, Some, None, refl, sym, ◌∙◌, ap, subst, arith}
use Rattle.htl_audit.proofs.Words.{slice_get, eqb-true, and_from, and_parts, nat_tests, get_or-set_same, get_or-set_other, length-set, list_at, Inv, is_at, Runs, Tables, is_concrete, mode_module, Kept, has_job, sum_at, length_at, start_at, inv_runs_in, begins_round, renewed, renewed_to, IsSized, list_is, cases_below}
use Rattle.std.proofs.lemmas.List.{get_or_past}

-- ---- whose mode runs

pub runs_is : (t : Tables) (modes : List (Option ℕ)) (i : ℕ) (x : Inv) → slice_get t.invs i ≡ Some x → is_concrete t x ≡ true → Runs t modes x.mode → inv_runs_in t modes i ≡ true
runs_is t modes i x at concrete runs =
    let here : list_at modes (mode_module t x.mode) ≡ Some x.mode = sym (list_is modes (mode_module t x.mode)) ∙ runs in
    let both_are : (is_concrete t x && is_at (list_at modes (mode_module t x.mode)) x.mode) ≡ true = and_from (is_concrete t x) (is_at (list_at modes (mode_module t x.mode)) x.mode) concrete (ap (λ o. is_at o x.mode) here ∙ same x.mode) in
    ap (λ (o : Option Inv). elim o [ Some y ↦ is_concrete t y && is_at (list_at modes (mode_module t y.mode)) y.mode | None ↦ false ]) at ∙ both_are
  where
    same : (n : ℕ) → eqb n n ≡ true
    same n = grind (arith, nat_tests)

pub runs_of : (t : Tables) (modes : List (Option ℕ)) (i : ℕ) → inv_runs_in t modes i ≡ true → (x : Inv) × (slice_get t.invs i ≡ Some x) × (is_concrete t x ≡ true) × Runs t modes x.mode
runs_of t modes i e = by (slice_get t.invs i) refl e
  where
    found : (o : Option ℕ) (m : ℕ) → is_at o m ≡ true → o ≡ Some m
    found (Some n) m f = ap (λ z. Some z) (eqb-true n m f)
    found None m f = absurd (let z : ⊥ = cc in z)

    by : (o : Option Inv) → slice_get t.invs i ≡ o → elim o [ Some y ↦ is_concrete t y && is_at (list_at modes (mode_module t y.mode)) y.mode | None ↦ false ] ≡ true
        → (x : Inv) × (slice_get t.invs i ≡ Some x) × (is_concrete t x ≡ true) × Runs t modes x.mode
    by None at f = absurd (let z : ⊥ = cc in z)
    by (Some x) at f =
        let two = and_parts (is_concrete t x) (is_at (list_at modes (mode_module t x.mode)) x.mode) f in
        (x, at, two.0, list_is modes (mode_module t x.mode) ∙ found (list_at modes (mode_module t x.mode)) x.mode two.1)

-- ---- the entries of an invocation

module _ (t : Tables) (modes : List (Option ℕ)) (takes : List ℕ) (s count : ℕ) where
  one_sized : (m i : ℕ) (k : Kept) → IsSized count k → IsSized count (renewed t modes s m i k)
  one_sized m i k z =
      record {
        stands = length-set k.roster.stands i (inv_runs_in t modes i) ∙ z.stands;
        starts = length-set k.roster.starts i s ∙ z.starts;
        lengths = length-set k.roster.lengths i m ∙ z.lengths;
        sums = length-set k.sums i 0 ∙ z.sums;
      }

  pub renewed_sized : (n : ℕ) (k : Kept) → IsSized count k → IsSized count (renewed_to t modes takes s n k)
  renewed_sized zero k z = z
  renewed_sized (suc n) k z = by (begins_round t s n) (renewed_sized n k z)
    where
      by : (b : Bool) → IsSized count (renewed_to t modes takes s n k)
          → IsSized count (cond b (renewed t modes s (get_or takes n 0) n (renewed_to t modes takes s n k)) (renewed_to t modes takes s n k))
      by true h = one_sized (get_or takes n 0) n (renewed_to t modes takes s n k) h
      by false h = h

  -- an invocation of which a round begins
  pub record IsNew (i : ℕ) (k : Kept) : Type 0 where
    pub stands : has_job k.roster i ≡ inv_runs_in t modes i
    pub start : start_at k.roster i ≡ s
    pub length : length_at k.roster i ≡ get_or takes i 0
    pub sum : sum_at k.sums i ≡ 0

  -- one that keeps what it had
  pub record IsStill (i : ℕ) (k new : Kept) : Type 0 where
    pub stands : has_job new.roster i ≡ has_job k.roster i
    pub start : start_at new.roster i ≡ start_at k.roster i
    pub length : length_at new.roster i ≡ length_at k.roster i
    pub sum : sum_at new.sums i ≡ sum_at k.sums i

  one_new : (n : ℕ) (k : Kept) → IsSized count k → n < count → IsNew n (renewed t modes s (get_or takes n 0) n k)
  one_new n k z h =
      record {
        stands = get_or-set_same k.roster.stands n (inv_runs_in t modes n) false (omega (arith, h, z.stands));
        start = get_or-set_same k.roster.starts n s 0 (omega (arith, h, z.starts));
        length = get_or-set_same k.roster.lengths n (get_or takes n 0) 0 (omega (arith, h, z.lengths));
        sum = get_or-set_same k.sums n 0 0 (omega (arith, h, z.sums));
      }

  other_still : (m n i : ℕ) (k : Kept) → i ≢ n → IsStill i k (renewed t modes s m n k)
  other_still m n i k differ =
      record {
        stands = get_or-set_other k.roster.stands n i (inv_runs_in t modes n) false differ;
        start = get_or-set_other k.roster.starts n i s 0 differ;
        length = get_or-set_other k.roster.lengths n i m 0 differ;
        sum = get_or-set_other k.sums n i 0 0 differ;
      }

  pub all_new : (n i : ℕ) (k : Kept) → IsSized count k → n ≤ count → i < n → begins_round t s i ≡ true → IsNew i (renewed_to t modes takes s n k)
  all_new zero i k z few h begins = absurd (omega (arith, h))
  all_new (suc n) i k z few h begins = by (cases_below i n h) (λ g. all_new n i k z (omega (arith, few)) g begins)
    where
      earlier : (b : Bool) → i < n → IsNew i (renewed_to t modes takes s n k) → IsNew i (cond b (renewed t modes s (get_or takes n 0) n (renewed_to t modes takes s n k)) (renewed_to t modes takes s n k))
      earlier false g w = w
      earlier true g w =
          let o = other_still (get_or takes n 0) n i (renewed_to t modes takes s n k) (λ e. omega (arith, e, g)) in
          record { stands = o.stands ∙ w.stands; start = o.start ∙ w.start; length = o.length ∙ w.length; sum = o.sum ∙ w.sum }

      by : (i < n) ⊎ (i ≡ n) → (i < n → IsNew i (renewed_to t modes takes s n k))
          → IsNew i (cond (begins_round t s n) (renewed t modes s (get_or takes n 0) n (renewed_to t modes takes s n k)) (renewed_to t modes takes s n k))
      by (inl g) later = earlier (begins_round t s n) g (later g)
      by (inr g) later =
          subst (λ b. IsNew i (cond b (renewed t modes s (get_or takes n 0) n (renewed_to t modes takes s n k)) (renewed_to t modes takes s n k))) (sym begins ∙ ap (begins_round t s) g)
          (subst (λ j. IsNew j (renewed t modes s (get_or takes n 0) n (renewed_to t modes takes s n k))) (sym g) (one_new n (renewed_to t modes takes s n k) (renewed_sized n k z) (omega (arith, few))))

  pub all_still : (n i : ℕ) (k : Kept) → begins_round t s i ≡ false → IsStill i k (renewed_to t modes takes s n k)
  all_still zero i k not = record { stands = refl; start = refl; length = refl; sum = refl }
  all_still (suc n) i k not = by (begins_round t s n) refl (all_still n i k not)
    where
      by : (b : Bool) → begins_round t s n ≡ b → IsStill i k (renewed_to t modes takes s n k)
          → IsStill i k (cond b (renewed t modes s (get_or takes n 0) n (renewed_to t modes takes s n k)) (renewed_to t modes takes s n k))
      by false is w = w
      by true is w =
          let o = other_still (get_or takes n 0) n i (renewed_to t modes takes s n k) (λ e. let z : true ≡ false = sym is ∙ ap (begins_round t s) (sym e) ∙ not in let y : ⊥ = cc in y) in
          record { stands = o.stands ∙ w.stands; start = o.start ∙ w.start; length = o.length ∙ w.length; sum = o.sum ∙ w.sum }

  -- what isn't kept by invocation stays
  pub record IsElse (k new : Kept) : Type 0 where
    pub place : new.place ≡ k.place
    pub fault : new.fault ≡ k.fault
    pub end : new.end ≡ k.end
    pub done : new.done ≡ k.done
    pub short : new.short ≡ k.short

  pub renewed_else : (n : ℕ) (k : Kept) → IsElse k (renewed_to t modes takes s n k)
  renewed_else zero k = record { place = refl; fault = refl; end = refl; done = refl; short = refl }
  renewed_else (suc n) k = by (begins_round t s n) (renewed_else n k)
    where
      by : (b : Bool) → IsElse k (renewed_to t modes takes s n k) → IsElse k (cond b (renewed t modes s (get_or takes n 0) n (renewed_to t modes takes s n k)) (renewed_to t modes takes s n k))
      by true r = record { place = r.place; fault = r.fault; end = r.end; done = r.done; short = r.short }
      by false r = r

  -- past the last invocation there is nothing
  pub start_past : (i : ℕ) (k : Kept) → IsSized count k → count ≤ i → start_at k.roster i ≡ 0
  start_past i k z h = get_or_past k.roster.starts i 0 (omega (arith, h, z.starts))
