-- The point at which the next list of a path begins.
use Rattle.std.proofs.Common.{◌≡◌, ℕ, zero, suc, ◌+◌, ◌≤◌, ◌<◌, List, [], ◌∷◌, length, drop, get_or, refl, sym, ap, ◌∙◌, arith}
use Rattle.htl_runs.proofs.Words.{Job, SInstr, Point, last_point, work, Leg, list_point, AreInForm, path_point, untouched, no_leg}

drop_none : (n : ℕ) → ◌≡◌ {A = List ℕ} (drop n []) []
drop_none zero = refl
drop_none (suc n) = refl

pub drop_work : (n : ℕ) (js : List Job) (ns : List ℕ) → work (drop n js) (drop n ns) ≡ drop n (work js ns)
drop_work zero js ns = refl
drop_work (suc n) [] ns = refl
drop_work (suc n) (j ∷ js) [] = ap (work (drop n js)) (sym (drop_none n)) ∙ drop_work n js []
drop_work (suc n) (j ∷ js) (m ∷ ns) = drop_work n js ns

pub get_behind : (n : ℕ) (xs : List ℕ) (p : ℕ) → get_or (drop n xs) p 0 ≡ get_or xs (n + p) 0
get_behind zero xs p = let z : p ≡ 0 + p = omega arith in ap (λ k. get_or xs k 0) z
get_behind (suc n) [] p = refl
get_behind (suc n) (x ∷ xs) p = get_behind n xs p ∙ (let z : suc (n + p) ≡ suc n + p = omega arith in ap (λ k. get_or (x ∷ xs) k 0) z)

-- what the lists before it don't know is as it was
pub point_untouched : (jobs : List Job) (ss : List (List SInstr)) (gs : List Leg) (j : ℕ) (x : Point) (p : ℕ) → AreInForm ss gs → j < length gs → ((i : ℕ) → i < j → (get_or gs i no_leg).known ≤ p)
    → get_or (path_point jobs ss gs j 0 x).left p 0 ≡ get_or x.left p 0
point_untouched jobs [] [] j x p f h k = absurd (omega arith)
point_untouched jobs [] (g ∷ gs) j x p f h k = absurd f
point_untouched jobs (s ∷ ss) [] j x p f h k = absurd f
point_untouched jobs (s ∷ ss) (g ∷ gs) zero x p f h k = refl
point_untouched jobs (s ∷ ss) (g ∷ gs) (suc j) x p f h k =
    point_untouched jobs ss gs j (last_point jobs s (list_point g.from x)) p f.1 (omega arith) (λ i l. k (suc i) (omega (arith, l)))
    ∙ untouched g.known g.known g.to jobs s (list_point g.from x) p f.0 (omega arith) (k 0 (omega arith))
