-- Predecessors are done before a position runs.
use Rattle.std.proofs.Common.{◌≡◌, ℕ, ◌≤◌, ◌<◌, true, List, [], ◌∷◌, get_or, slice_get, Some, sym, ap, ◌∙◌, subst, arith, ◌⊎◌, inl, inr}
use Rattle.htl_walk.proofs.Words.{Job, SInstr, Dispatch, Idle, End, precedes, Point, job_at, IsMet, Meets, next_point, walk_from, walk, work, first_point, slices, DoneBy, InOrder, cases_eq}
use Rattle.htl_walk.proofs.{Ahead.Ahead, Ahead.ahead_next, Finishes.ends, Finishes.finish_now, Finishes.finish_later, Slices.slices_other, Slices.slices_start, Slices.slices_within, Work.job_is}

-- q has nothing left, or finishes by the time s.0
abbrev pub Settled : List Job → List SInstr → Point → ℕ → ℕ → Type 0
Settled jobs is x q t = (get_or x.left q 0 ≡ 0) ⊎ DoneBy (walk_from jobs is x) q t

pub settled_back : (jobs : List Job) (i : SInstr) (is : List SInstr) (x : Point) (q t : ℕ) → (next_point jobs i x).time ≤ t → Settled jobs is (next_point jobs i x) q t → Settled jobs (i ∷ is) x q t
settled_back jobs i is x q t b c =
    elim (ends (get_or x.left q 0) (get_or (next_point jobs i x).left q 0)) [
      | inl r ↦ inr ((next_point jobs i x).time, finish_now jobs i is x q r.0 r.1, b)
      | inr (inl r) ↦ inl r
      | inr (inr r) ↦ elim c [ inl z ↦ absurd (omega arith) | inr d ↦ inr (d.0, finish_later jobs i is x q (inr r) ∙ d.1, d.2) ]
    ]

pub preds_settled : (js ks : List Job) (is : List SInstr) (x y : Point) (p q : ℕ) (s : ℕ × ℕ) → Ahead js ks x y → InOrder ks is y → precedes q (job_at ks p) ≡ true
    → slice_get (slices (walk_from js is x) p) 0 ≡ Some s → Settled js is x q s.0
preds_settled js ks [] x y p q s a o b e = cc
preds_settled js ks (Dispatch r h ∷ is) x y p q s a o b e =
    elim (cases_eq r p) [
      | inl z ↦
          let done : get_or y.left q 0 ≡ 0 = o.0 q (subst (λ k. precedes q (job_at ks k) ≡ true) (sym z) b) in
          inl (omega (arith, a.left q))
      | inr n ↦
          let f : slice_get (slices (walk_from js is (next_point js (Dispatch r h) x)) p) 0 ≡ Some s = sym (ap (λ l. slice_get l 0) (slices_other js r h is x p n)) ∙ e in
          settled_back js (Dispatch r h) is x q s.0 (slices_start js is (next_point js (Dispatch r h) x) p s f)
          (preds_settled js ks is (next_point js (Dispatch r h) x) (next_point ks (Dispatch r h) y) p q s (ahead_next js ks (Dispatch r h) x y a) o.1 b f)
    ]
preds_settled js ks (Idle h ∷ is) x y p q s a o b e =
    settled_back js (Idle h) is x q s.0 (slices_start js is (next_point js (Idle h) x) p s e)
    (preds_settled js ks is (next_point js (Idle h) x) (next_point ks (Idle h) y) p q s (ahead_next js ks (Idle h) x y a) o b e)
preds_settled js ks (End ∷ is) x y p q s a o b e =
    settled_back js End is x q s.0 (slices_start js is x p s e) (preds_settled js ks is x y p q s (ahead_next js ks End x y a) o b e)

-- what is in order and finishes in time meets: slices and predecessors need no look of their own
pub meets_by_finishes : (jobs : List Job) (ns : List ℕ) (s : List SInstr) → InOrder jobs s (first_point jobs ns) → ((p : ℕ) → (job_at jobs p).present ≡ true → 0 < get_or (work jobs ns) p 0) →
    ((p : ℕ) → (job_at jobs p).present ≡ true → DoneBy (walk jobs ns s) p (job_at jobs p).end) → Meets jobs ns s
meets_by_finishes jobs ns s o some done p j at there =
    let x = first_point jobs ns in
    let is_j : job_at jobs p ≡ j = job_is jobs p j at in
    let here : (job_at jobs p).present ≡ true = ap (λ k. k.present) is_j ∙ there in
    let ahead : Ahead jobs jobs x x = record { time = omega arith; left = λ q. omega arith; release = λ q h. omega arith } in
    subst (IsMet jobs (walk jobs ns s) p) is_j
    (record {
      finishes = done p here;
      within = slices_within jobs s x p (job_at jobs p).end (done p here);
      after = λ q z b c e.
          elim (preds_settled jobs jobs s x x p q z ahead o b e) [
            | inl none ↦ let more : 0 < get_or x.left q 0 = some q c in absurd (omega arith)
            | inr d ↦ d
          ];
    })
