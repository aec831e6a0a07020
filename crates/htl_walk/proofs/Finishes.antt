-- When a position finishes.
use Rattle.std.proofs.Common.{◌≡◌, ℕ, zero, suc, ◌≤◌, ◌<◌, true, false, cond, ◌&&◌, eqb, List, [], ◌∷◌, get_or, Some, refl, sym, ap, ◌∙◌, subst, arith, ◌⊎◌, inl, inr}
use Rattle.htl_walk.proofs.Words.{eq-eqb, ne_eqb, and_from, and_left, and_right, cases_eq, Job, SInstr, Dispatch, Point, job_at, finishes_by, work_after, next_point, walk_from, finish, DoneBy, same_Some}
use Rattle.htl_walk.proofs.{Steps.left_other, Steps.time_rises, Ahead.Ahead, Ahead.ahead_next}

finishes_yes : (a b : ℕ) → 0 < a → b ≡ 0 → finishes_by a b ≡ true
finishes_yes (suc a) zero h e = refl
finishes_yes _ _ h e = absurd (omega arith)

pub finishes_no : (a b : ℕ) → (a ≡ 0) ⊎ (0 < b) → finishes_by a b ≡ false
finishes_no (suc a) zero h = absurd (omega arith)
finishes_no _ _ h = refl

pub ends : (a b : ℕ) → ((0 < a) × (b ≡ 0)) ⊎ ((a ≡ 0) ⊎ (0 < b))
ends zero b = inr (inl refl)
ends (suc a) zero = inl (omega arith, refl)
ends (suc a) (suc b) = inr (inr (omega arith))

pub finish_now : (jobs : List Job) (i : SInstr) (is : List SInstr) (x : Point) (p : ℕ) →
    0 < get_or x.left p 0 → get_or (next_point jobs i x).left p 0 ≡ 0 → finish (walk_from jobs (i ∷ is) x) p ≡ Some (next_point jobs i x).time
finish_now jobs (Dispatch r h) is x p a e = grind (arith, cases_eq, and_from, eq-eqb, finishes_yes, left_other)
finish_now jobs _ is x p a e = absurd (omega arith)

pub finish_later : (jobs : List Job) (i : SInstr) (is : List SInstr) (x : Point) (p : ℕ) →
    (get_or x.left p 0 ≡ 0) ⊎ (0 < get_or (next_point jobs i x).left p 0) → finish (walk_from jobs (i ∷ is) x) p ≡ finish (walk_from jobs is (next_point jobs i x)) p
finish_later jobs (Dispatch r h) is x p c = grind (arith, cases_eq, and_right, finishes_no, and_left, ne_eqb)
finish_later jobs _ is x p c = refl

pub finish_after : (jobs : List Job) (is : List SInstr) (x : Point) (p f : ℕ) → finish (walk_from jobs is x) p ≡ Some f → x.time ≤ f
finish_after jobs [] x p f e = cc
finish_after jobs (i ∷ is) x p f e =
    let y = next_point jobs i x in
    let t : x.time ≤ y.time = time_rises jobs i x in
    elim (ends (get_or x.left p 0) (get_or y.left p 0)) [
      | inl q ↦ let s : y.time ≡ f = same_Some _ _ (sym (finish_now jobs i is x p q.0 q.1) ∙ e) in omega arith
      | inr c ↦ let s : y.time ≤ f = finish_after jobs is y p f (sym (finish_later jobs i is x p c) ∙ e) in omega arith
    ]

-- a walk that is ahead finishes no later
pub finish_ahead : (js ks : List Job) (is : List SInstr) (x y : Point) (p t : ℕ) → Ahead js ks x y → 0 < get_or x.left p 0 → DoneBy (walk_from ks is y) p t → DoneBy (walk_from js is x) p t
finish_ahead js ks [] x y p t a w d = cc d.1
finish_ahead js ks (i ∷ is) x y p t a w d =
    let x' = next_point js i x in
    let y' = next_point ks i y in
    let n : Ahead js ks x' y' = ahead_next js ks i x y a in
    elim (ends (get_or x.left p 0) (get_or x'.left p 0)) [
      | inl q ↦
          let bound : y'.time ≤ d.0 =
          elim (ends (get_or y.left p 0) (get_or y'.left p 0)) [
            | inl r ↦ let s : y'.time ≡ d.0 = same_Some _ _ (sym (finish_now ks i is y p r.0 r.1) ∙ d.1) in omega arith
            | inr c ↦ finish_after ks is y' p d.0 (sym (finish_later ks i is y p c) ∙ d.1)
          ] in
          let ahead : x'.time ≤ y'.time = n.time in
          (x'.time, finish_now js i is x p q.0 q.1, omega (arith, d.2))
      | inr c ↦
          let less : get_or x'.left p 0 ≤ get_or y'.left p 0 = n.left p in
          let rest : DoneBy (walk_from js is x') p t =
          finish_ahead js ks is x' y' p t n (omega arith) (d.0, sym (finish_later ks i is y p (inr (omega arith))) ∙ d.1, d.2) in
          (rest.0, finish_later js i is x p c ∙ rest.1, rest.2)
    ]
