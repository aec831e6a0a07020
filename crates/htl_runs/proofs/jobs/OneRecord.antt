-- What the lines of one record show of the job at a position q: what the record itself says of q, if it is left before n.
use Rattle.std.proofs.Common.{arith, ◌≡◌, ◌<◌, ℕ, ◌+◌, Bool, true, false, cond, ◌&&◌, eqb, ltb, List, [], ◌∷◌, ◌++◌, Option, Some, None, option_map, refl, sym, ap, ap₂, ◌∙◌, append-nil}
use Rattle.htl_runs.proofs.Words.{eqb-true, lt-ltb, joined, Job, job_at, is_position, RunLine, closed_slice_line, DoneLine, is_in, done_time, slice_time, inv_at, not_some, same_Some, and_with_true}
use Rattle.htl_runs.proofs.{jobs.PositionRecords.shift, jobs.PositionRecords.shifted_slice, lines.Joined.joined-append, lines.RecordTimes.nothing}

module _ (jobs : List Job) (f q n i start end : ℕ) where
  -- a record at this offset is of a position, and its lines count exactly where that is q
  abbrev pub Count : ℕ → Option ℕ → Type 0
  Count at o = (p : ℕ) × (o ≡ Some p) × (is_in i start end (job_at jobs p).inv (f + at) ≡ eqb p q)

  abbrev lines_at : ℕ → Option ℕ → Option (ℕ × ℕ) → Bool → List RunLine
  lines_at at o sl fin = closed_slice_line (inv_at jobs o) (option_map (shift f) sl) ++ cond fin (DoneLine (f + at) (inv_at jobs o) ∷ []) []

  -- what is left before n of something that only q gives
  left_before : {X : Type 0} (at p : ℕ) (xs : List X) → (p ≡ q → f + at < n) → cond (ltb (f + at) n) (cond (eqb p q) xs []) [] ≡ cond (eqb p q) xs []
  left_before {X} at p xs early = grind (arith, lt-ltb, eqb-true, nothing)

  no_slices : (fin : Bool) (at inv : ℕ) → joined (slice_time i start end) (cond fin (DoneLine at inv ∷ []) []) ≡ []
  no_slices true at inv = refl
  no_slices false at inv = refl

  -- the slice that the line shows
  pub slice_claim : (at : ℕ) (o : Option ℕ) (sl : Option (ℕ × ℕ)) (fin : Bool) → ((u : ℕ × ℕ) → sl ≡ Some u → (u.1 ≡ at) × Count at o) → (o ≡ Some q → (u : ℕ × ℕ) → sl ≡ Some u → f + at < n)
      → cond (ltb (f + at) n) (joined (slice_time i start end) (lines_at at o sl fin)) [] ≡ cond (is_position o q) (shifted_slice f sl) []
  slice_claim at o None fin works early = grind (arith, no_slices, nothing)
  slice_claim at None (Some u) fin works early = let w = works u refl in not_some w.1.0 w.1.1
  slice_claim at (Some p) (Some u) fin works early =
      let w = works u refl in
      let inv = (job_at jobs p).inv in
      let same : w.1.0 ≡ p = same_Some _ _ (sym w.1.1) in
      let test : is_in i start end inv (f + u.1) ≡ eqb p q =
      ap (λ (z : ℕ). is_in i start end inv (f + z)) w.0 ∙ ap (λ (z : ℕ). is_in i start end (job_at jobs z).inv (f + at)) (sym same) ∙ w.1.2 ∙ ap (λ (z : ℕ). eqb z q) same in
      ap (λ (xs : List (ℕ × ℕ)). cond (ltb (f + at) n) xs [])
      (ap₂ (λ (b : Bool) (xs : List (ℕ × ℕ)). cond b (shift f u ∷ []) [] ++ xs) test (no_slices fin (f + at) inv) ∙ append-nil (cond (eqb p q) (shift f u ∷ []) []))
      ∙ left_before at p (shift f u ∷ []) (λ e. early (ap (λ (z : ℕ). Some z) e) u refl)

  no_dones : (inv : ℕ) (sl : Option (ℕ × ℕ)) → joined (done_time i start end) (closed_slice_line inv (option_map (shift f) sl)) ≡ []
  no_dones inv (Some u) = refl
  no_dones inv None = refl

  -- the end that the line shows
  pub done_claim : (at : ℕ) (o : Option ℕ) (sl : Option (ℕ × ℕ)) (fin : Bool) → (fin ≡ true → Count at o) → (o ≡ Some q → fin ≡ true → f + at < n)
      → cond (ltb (f + at) n) (joined (done_time i start end) (lines_at at o sl fin)) [] ≡ cond (is_position o q && fin) ((f + at) ∷ []) []
  done_claim at o sl false works early =
      let empty : joined (done_time i start end) (lines_at at o sl false) ≡ [] =
      joined-append (done_time i start end) (closed_slice_line (inv_at jobs o) (option_map (shift f) sl)) [] ∙ ap (λ (xs : List ℕ). xs ++ []) (no_dones (inv_at jobs o) sl) in
      ap (λ (xs : List ℕ). cond (ltb (f + at) n) xs []) empty ∙ nothing (ltb (f + at) n) ∙ sym (never (is_position o q))
    where
      never : (b : Bool) → cond {A = List ℕ} (b && false) ((f + at) ∷ []) [] ≡ []
      never true = refl
      never false = refl
  done_claim at None sl true works early = let w = works refl in not_some w.0 w.1
  done_claim at (Some p) sl true works early =
      let w = works refl in
      let inv = (job_at jobs p).inv in
      let same : w.0 ≡ p = same_Some _ _ (sym w.1) in
      let test : is_in i start end inv (f + at) ≡ eqb p q = ap (λ (z : ℕ). is_in i start end (job_at jobs z).inv (f + at)) (sym same) ∙ w.2 ∙ ap (λ (z : ℕ). eqb z q) same in
      let one : joined (done_time i start end) (lines_at at (Some p) sl true) ≡ cond (eqb p q) ((f + at) ∷ []) [] =
      joined-append (done_time i start end) (closed_slice_line inv (option_map (shift f) sl)) (DoneLine (f + at) inv ∷ [])
      ∙ ap₂ (λ (xs : List ℕ) (b : Bool). xs ++ (cond b ((f + at) ∷ []) [] ++ [])) (no_dones inv sl) test
      ∙ append-nil (cond (eqb p q) ((f + at) ∷ []) []) in
      ap (λ (xs : List ℕ). cond (ltb (f + at) n) xs []) one ∙ left_before at p ((f + at) ∷ []) (λ e. early (ap (λ (z : ℕ). Some z) e) refl)
      ∙ ap (λ (b : Bool). cond b ((f + at) ∷ []) []) (sym (and_with_true (eqb p q)))

-- a line of another time shows nothing
pub out_of : {X : Type 0} (i inv : ℕ) (b : Bool) (xs : List X) → b ≡ false → cond (eqb inv i && b) xs [] ≡ []
out_of i inv b xs e = grind arith
