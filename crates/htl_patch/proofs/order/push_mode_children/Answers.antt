use Rattle.std.proofs.Common.{◌≡◌, ◌<◌, ◌≤◌, ◌+◌, ◌++◌, ◌∷◌, [], ℕ, zero, suc, Bool, true, false, cond, List, None, length, drop, get_or, refl, ap, sym, ◌∙◌, append_assoc, append-nil, arith}
use Rattle.htl_patch.proofs.Words.{nat_tests, flat_map, numbered, places_from, Module, is_under, frame, combined, Frame}
use Rattle.htl_patch.proofs.order.push_mode_children.Goals as goal

-- what place k gives stands behind what was given, and the rest is to come
numbered_step : {A B : Type 0} (p : ℕ × A → Bool) (d : A) (xs : List A) (give : ℕ → List B) (k : ℕ) (found next all : List B) → k < length xs
    → next ≡ found ++ cond (p (k, get_or xs k d)) (give k) [] → found ++ flat_map give (places_from p k (numbered k (drop k xs))) ≡ all
    → next ++ flat_map give (places_from p (k + 1) (numbered (k + 1) (drop (k + 1) xs))) ≡ all
numbered_step {A} {B} p d xs give k found next all less is going = by (p (k, get_or xs k d)) refl is
  where
    front : (ys : List A) (j : ℕ) → j < length ys → drop j ys ≡ get_or ys j d ∷ drop (suc j) ys
    front [] j low = absurd (omega (arith, low))
    front (y ∷ ys) zero low = refl
    front (y ∷ ys) (suc j) low = front ys j (omega (arith, low))

    rest : ℕ → List ℕ
    rest n = places_from p n (numbered n (drop n xs))

    ahead : rest k ≡ cond (p (k, get_or xs k d)) (k ∷ rest (k + 1)) (rest (k + 1))
    ahead = let same : suc k ≡ k + 1 = omega arith in
        ap (λ (ys : List A). places_from p k (numbered k ys)) (front xs k less) ∙ ap (λ (n : ℕ). cond (p (k, get_or xs k d)) (k ∷ rest n) (rest n)) same

    by : (b : Bool) → p (k, get_or xs k d) ≡ b → next ≡ found ++ cond b (give k) [] → next ++ flat_map give (rest (k + 1)) ≡ all
    by true e f =
        ap (λ (ys : List B). ys ++ flat_map give (rest (k + 1))) f ∙ append_assoc found (give k) (flat_map give (rest (k + 1)))
        ∙ ap (λ (ks : List ℕ). found ++ flat_map give ks) (sym (ahead ∙ ap (λ (b : Bool). cond b (k ∷ rest (k + 1)) (rest (k + 1))) e)) ∙ going
    by false e f =
        ap (λ (ys : List B). ys ++ flat_map give (rest (k + 1))) (f ∙ append-nil found)
        ∙ ap (λ (ks : List ℕ). found ++ flat_map give ks) (sym (ahead ∙ ap (λ (b : Bool). cond b (k ∷ rest (k + 1)) (rest (k + 1))) e)) ∙ going

pub loop-x-preserved : goal.loop-x-preserved
loop-x-preserved c =
    let g = c.args.g.now in
    let none : Module = record { name = []; parent = None; start = 0 } in
    let less : c.loop-x.x < length (combined g).modules = grind (arith, nat_tests, c.loop-x-test.true, c.module_count-count.ensures.count) in
    numbered_step (is_under g c.args.m) none (combined g).modules (λ (x : ℕ). frame c.args.steps x ∷ []) c.loop-x.x c.loop-x.into.items c.push_child.new.into.items _ less c.in_ok-push_child.ensures c.loop-x.invariant
