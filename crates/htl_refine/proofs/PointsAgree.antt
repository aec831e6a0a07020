-- Where frames agree in their first lists and positions, so do the points at which these lists begin.
use Rattle.std.proofs.Common.{arith, ◌≡◌, ℕ, zero, suc, List, [], ◌∷◌, take, ap, subst}
use Rattle.htl_refine.proofs.Words.{Job, SInstr, Leg, list_point, AreInForm, AgreeOn, AgreeAt, AreWithin, path_point, Point, last_point, walk_alike}

begun_agree : (n a b : ℕ) (x y : Point) → a ≡ b → AgreeAt n x y → AgreeAt n (list_point a x) (list_point b y)
begun_agree n a b x y e g = record { time = e; left = g.left }

pub points_agree : (n : ℕ) (js ks : List Job) (ss ts : List (List SInstr)) (gs hs : List Leg) (j : ℕ) (x y : Point) → AgreeOn n js ks → AgreeAt n x y → AreInForm ss gs → AreWithin n (take (suc j) gs)
    → take (suc j) ss ≡ take (suc j) ts → take (suc j) gs ≡ take (suc j) hs → AgreeAt n (path_point js ss gs j 0 x) (path_point ks ts hs j 0 y)
points_agree n js ks [] [] gs hs j x y a g f w e d = g
points_agree n js ks (s ∷ ss) ts [] hs j x y a g f w e d = absurd f
points_agree n js ks (s ∷ ss) (t ∷ ts) (l ∷ gs) (m ∷ hs) zero x y a g f w e d = grind (arith, begun_agree)
points_agree n js ks (s ∷ ss) (t ∷ ts) (l ∷ gs) (m ∷ hs) (suc j) x y a g f w e d =
    let same : l ≡ m = cc in
    let list : s ≡ t = cc in
    let rest : take (suc j) ss ≡ take (suc j) ts = cc in
    let later : take (suc j) gs ≡ take (suc j) hs = cc in
    let v = list_point l.from x in
    let u = list_point m.from y in
    let r = (walk_alike n js ks l.known l.to s v u a (begun_agree n l.from m.from x y (ap (λ (z : Leg). z.from) same) g) f.0 w.0).1 in
    points_agree n js ks ss ts gs hs j (last_point js s v) (last_point ks t u) a (subst (λ c. AgreeAt n (last_point js s v) (last_point ks c u)) list r) f.1 w.1 rest later
points_agree n js ks _ _ _ _ j x y a g f w e d = absurd (let z : ⊥ = cc in z)
