-- Bits that are written, and jobs that begin one after another.
use Rattle.std.proofs.Common.{◌≡◌, ℕ, ◌+◌, ◌<◌, ◌⊎◌, Bool, false, cond, not, List, refl, sym, ap, ◌∙◌, arith, inl, inr}
use Rattle.htl_smach.proofs.Words.{has_bit, Job, job_at, IsPut, HaveBegun, AreStates, PositionStates, eq-eqb, ne_eqb}

pub same_bit : (old new p : ℕ) (b : Bool) → IsPut old new p b → (q : ℕ) → q ≡ p → has_bit new q ≡ b
same_bit old new p b put q e = put q ∙ ap (λ x. cond x b (has_bit old q)) (eq-eqb q p e)

pub other_bit : (old new p : ℕ) (b : Bool) → IsPut old new p b → (q : ℕ) → (q ≡ p → ⊥) → has_bit new q ≡ has_bit old q
other_bit old new p b put q n = put q ∙ ap (λ x. cond x b (has_bit old q)) (ne_eqb q p n)

-- none has begun yet
pub none_begun : (x : PositionStates) (first : ℕ) (jobs : List Job) → HaveBegun x x first 0 jobs
none_begun x first jobs =
    record {
      before_present = λ q h. refl;
      before_released = λ q h. refl;
      before_done = λ q h. refl;
      present = λ k h. absurd (omega arith);
      released = λ k h. absurd (omega arith);
      done = λ k h. absurd (omega arith);
    }

module _ (old mid new : PositionStates) (first k : ℕ) (jobs : List Job) (b : Bool) (was : HaveBegun old mid first k jobs) (here : (job_at jobs k).present ≡ b)
    (present : IsPut mid.present new.present (first + k) b) (released : IsPut mid.released new.released (first + k) false) (done : IsPut mid.done new.done (first + k) (not b)) where
  order : (j : ℕ) → j < k + 1 → (j < k) ⊎ (j ≡ k)
  order j h = grind arith

  -- one job more
  pub one_more_begun : HaveBegun old new first (k + 1) jobs
  one_more_begun = record {
    before_present = λ q h. other_bit mid.present new.present (first + k) b present q (λ e. omega (arith, e)) ∙ was.before_present q h;
    before_released = λ q h. other_bit mid.released new.released (first + k) false released q (λ e. omega (arith, e)) ∙ was.before_released q h;
    before_done = λ q h. other_bit mid.done new.done (first + k) (not b) done q (λ e. omega (arith, e)) ∙ was.before_done q h;
    present = λ j h. elim (order j h) [
      | inl l ↦ other_bit mid.present new.present (first + k) b present (first + j) (λ e. omega (arith, e)) ∙ was.present j l
      | inr e ↦ same_bit mid.present new.present (first + k) b present (first + j) (omega (arith, e)) ∙ sym here ∙ ap (λ i. (job_at jobs i).present) (sym e)
    ];
    released = λ j h. elim (order j h) [
      | inl l ↦ other_bit mid.released new.released (first + k) false released (first + j) (λ e. omega (arith, e)) ∙ was.released j l
      | inr e ↦ same_bit mid.released new.released (first + k) false released (first + j) (omega (arith, e))
    ];
    done = λ j h. elim (order j h) [
      | inl l ↦ other_bit mid.done new.done (first + k) (not b) done (first + j) (λ e. omega (arith, e)) ∙ was.done j l
      | inr e ↦ same_bit mid.done new.done (first + k) (not b) done (first + j) (omega (arith, e)) ∙ ap not (sym here) ∙ ap (λ i. not (job_at jobs i).present) (sym e)
    ];
  }

-- what was told of releases changes nothing else
pub are_released : (x y : PositionStates) (n : ℕ) (jobs : List Job) (left : List ℕ) → y.present ≡ x.present → y.done ≡ x.done → AreStates x n jobs left → AreStates y n jobs left
are_released x y n jobs left present done are =
    record { present = λ p h. ap (λ row. has_bit row p) present ∙ are.present p h; done = λ p h. ap (λ row. has_bit row p) done ∙ are.done p h }
