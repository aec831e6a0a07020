-- A schedule has one first miss at most.
use Rattle.std.proofs.Common.{◌≡◌, ℕ, ◌+◌, ◌<◌, List, length, get_or, slice_get, sym, ap, ◌∙◌, subst, arith}
use Rattle.htl_walk.proofs.Words.{slice_get_within, Job, Miss, SInstr, Dispatch, job_at, InForm, worst_point, DispatchesAt, IsTooEarly, IsFirstDeparture, IsFirstBefore, IsFirstLate, IsFirstUnfinished, IsFirstMiss, OneFirstMiss, same_from_neither}
use Rattle.htl_walk.specs.declared.miss.Miss.TheVariants as miss
use Rattle.htl_walk.proofs.Acceptance.{departs_nowhere}

module _ (jobs : List Job) (s : List SInstr) where
  same_position : (k l p q : ℕ) → k ≡ l → DispatchesAt s k p → DispatchesAt s l q → p ≡ q
  same_position k l p q e d f = grind arith

  within : (k p : ℕ) → DispatchesAt s k p → k < length s
  within k p d = slice_get_within s k (Dispatch p d.0) d.1

  early_at : (k l p q r : ℕ) → k ≡ l → p ≡ q → IsTooEarly jobs s k p r → IsTooEarly jobs s l q r
  early_at k l p q r e f h = subst (λ m. IsTooEarly jobs s m q r) e (subst (λ n. IsTooEarly jobs s k n r) f h)

  before_before : (p q k p' q' k' : ℕ) → IsFirstBefore jobs s p q k → IsFirstBefore jobs s p' q' k' → ◌≡◌ {A = Miss} (miss.Before p q k) (miss.Before p' q' k')
  before_before p q k p' q' k' a b = grind (arith, same_from_neither, same_position, early_at)

  before_late : (p q k p' f w : ℕ) → IsFirstBefore jobs s p q k → IsFirstLate jobs s p' f w → ⊥
  before_late p q k p' f w a b =
      let place : k ≡ b.place = same_from_neither k b.place (λ h. b.clean.early k p q h a.here) (λ h. a.clean.late b.place p' f h b.here) in
      b.ready q (early_at k b.place p p' q place (same_position k b.place p p' place a.here.dispatches b.here.dispatches) a.here)

  late_late : (p f w p' f' w' : ℕ) → IsFirstLate jobs s p f w → IsFirstLate jobs s p' f' w' → ◌≡◌ {A = Miss} (miss.Late p f w) (miss.Late p' f' w')
  late_late p f w p' f' w' a b =
      let place : a.place ≡ b.place = same_from_neither a.place b.place (λ h. b.clean.late a.place p f h a.here) (λ h. a.clean.late b.place p' f' h b.here) in
      let position : p ≡ p' = same_position a.place b.place p p' place a.here.dispatches b.here.dispatches in
      let finish : f ≡ f' = a.here.at ∙ ap (λ k. (worst_point jobs s (k + 1)).time) place ∙ sym b.here.at in
      let end : w ≡ w' = a.end ∙ ap (λ p. (job_at jobs p).end) position ∙ sym b.end in
      cc

  unfinished_unfinished : (p n p' n' : ℕ) → IsFirstUnfinished jobs s p n → IsFirstUnfinished jobs s p' n' → ◌≡◌ {A = Miss} (miss.Unfinished p n) (miss.Unfinished p' n')
  unfinished_unfinished p n p' n' a b = grind (arith, same_from_neither)

pub one_first_miss : OneFirstMiss
one_first_miss jobs period s m n a b = cases m n a b
  where
    in_form : (k : ℕ) → InForm (length jobs) period s → IsFirstDeparture (length jobs) period s k → ⊥
    in_form k f d = departs_nowhere (length jobs) period s k f d.here

    cases : (m n : Miss) → IsFirstMiss jobs period s m → IsFirstMiss jobs period s n → m ≡ n
    cases (miss.Order k) (miss.Order l) a b = let same : k ≡ l = same_from_neither k l (λ h. b.first k h a.here) (λ h. a.first l h b.here) in ap miss.Order same
    cases (miss.Before p q k) (miss.Before p' q' l) a b = before_before jobs s p q k p' q' l a.1 b.1
    cases (miss.Before p q k) (miss.Late p' f w) a b = absurd (before_late jobs s p q k p' f w a.1 b.1)
    cases (miss.Before p q k) (miss.Unfinished p' n) a b = absurd (b.1.clean.early k p q (within jobs s k p a.1.here.dispatches) a.1.here)
    cases (miss.Late p f w) (miss.Before p' q k) a b = absurd (before_late jobs s p' q k p f w b.1 a.1)
    cases (miss.Late p f w) (miss.Late p' f' w') a b = late_late jobs s p f w p' f' w' a.1 b.1
    cases (miss.Late p f w) (miss.Unfinished p' n) a b = absurd (b.1.clean.late a.1.place p f (within jobs s a.1.place p a.1.here.dispatches) a.1.here)
    cases (miss.Unfinished p n) (miss.Before p' q k) a b = absurd (a.1.clean.early k p' q (within jobs s k p' b.1.here.dispatches) b.1.here)
    cases (miss.Unfinished p n) (miss.Late p' f w) a b = absurd (a.1.clean.late b.1.place p' f (within jobs s b.1.place p' b.1.here.dispatches) b.1.here)
    cases (miss.Unfinished p n) (miss.Unfinished p' n') a b = unfinished_unfinished jobs s p n p' n' a.1 b.1
    cases (miss.Order k) _ a b = absurd (in_form k b.0 a)
    cases _ (miss.Order l) a b = absurd (in_form l a.0 b)
