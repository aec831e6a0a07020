-- Windows that a round doesn't change are the tightened ones.
use Rattle.std.proofs.Common.{◌≡◌, ◌∙◌, ℕ, zero, suc, ◌+◌, ◌-◌, ◌<◌, ◌≤◌, List, length, ap, arith, sym, pos, ◌-ℤ◌}
use Rattle.htl_edf.proofs.{Words.ints, Words.Job, Words.Tight, Words.jobs_of, Words.HoldsAfter, Words.AgreeBelow, Words.AreTightened, Words.Jobs, Words.release_at, Words.end_at, Jumps.are_tightened}
use Rattle.htl_edf.proofs.Tightening.{greatest-same, least-same}

module _ (j : Jobs) (k : ℕ) where
  releases_rest : ((q : ℕ) → q < j.count → release_at j (suc k) q ≡ release_at j k q) → (m q : ℕ) → q < j.count → release_at j (m + k) q ≡ release_at j k q
  releases_rest h zero q l = let z : 0 + k ≡ k = omega arith in ap (λ n. release_at j n q) z
  releases_rest h (suc m) q l =
      let z : suc m + k ≡ suc (m + k) = omega arith in
      ap (λ n. release_at j n q) z
      ∙ greatest-same (λ p. j.before p q) (λ p. release_at j (m + k) p + j.worst p) (λ p. release_at j k p + j.worst p) (j.release q) j.count
      (λ p below e. ap (λ n. n + j.worst p) (releases_rest h m p below))
      ∙ h q l

  ends_rest : ((q : ℕ) → q < j.count → end_at j (suc k) q ≡ end_at j k q) → (m p : ℕ) → p < j.count → end_at j (m + k) p ≡ end_at j k p
  ends_rest h zero p l = let z : 0 + k ≡ k = omega arith in ap (λ n. end_at j n p) z
  ends_rest h (suc m) p l =
      let z : suc m + k ≡ suc (m + k) = omega arith in
      ap (λ n. end_at j n p) z
      ∙ least-same (λ q. j.before p q) (λ q. end_at j (m + k) q -ℤ pos (j.worst q)) (λ q. end_at j k q -ℤ pos (j.worst q)) (pos (j.end p)) j.count
      (λ q below e. ap (λ n. n -ℤ pos (j.worst q)) (ends_rest h m q below))
      ∙ h p l

same_pos : (a b : ℕ) → pos a ≡ pos b → a ≡ b
same_pos a b e = omega (arith, ints, e)

-- a round that changed nothing
pub rested : (js : List Job) (ts : List Tight) (k : ℕ) → k ≤ length js → HoldsAfter js ts k → HoldsAfter js ts (suc k) → AreTightened js ts
rested js ts k within before after =
    let j = jobs_of js in
    let n = length js in
    let m : ℕ = n - k in
    let z : m + k ≡ n = omega arith in
    are_tightened js ts (record {
      releases = λ q l. before.releases q l
          ∙ ap pos (sym (ap (λ x. release_at j x q) (sym z) ∙ releases_rest j k (λ p below. same_pos _ _ (sym (after.releases p below) ∙ before.releases p below)) m q l));
      ends = λ q l. before.ends q l ∙ sym (ap (λ x. end_at j x q) (sym z) ∙ ends_rest j k (λ p below. sym (after.ends p below) ∙ before.ends p below) m q l);
    })

pub agreed : (js : List Job) (ts us : List Tight) (n k : ℕ) → length js ≤ n → AgreeBelow n ts us → HoldsAfter js ts k → HoldsAfter js us k
agreed js ts us n k within same holds = record {
  releases = λ q l. sym (same q (omega arith)).0 ∙ holds.releases q l;
  ends = λ q l. sym (same q (omega arith)).1 ∙ holds.ends q l;
}
