use Rattle.std.proofs.Common.{arith, ◌≡◌, ◌+◌, ◌++◌, ℕ, zero, suc, List, [], ◌∷◌, None, length, get_or, map, refl, sym, ap, ◌∙◌, rules}
use Rattle.htl_names.proofs.Words.{range_with_len, common_steps, YieldsList-from_map, YieldsList-from_range, items_from_extend, YieldsList-at, length-map, list_to, tree_of, mode_of, mode_in, modes_at, ModeAt, map-range_with_len_more}
use Rattle.htl_names.proofs.order.put_modes.Goals as goal

listed : {A : Type 0} (f : ℕ → A) (n : ℕ) → map f (range_with_len 0 n) ≡ list_to f n
listed f zero = refl
listed f (suc n) =
    let next : suc n ≡ n + 1 = omega arith in
    ap (λ m. map f (range_with_len 0 m)) next ∙ map-range_with_len_more f 0 n n (omega arith) ∙ ap (λ l. l ++ f n ∷ []) (listed f n)

pub loop-k-preserved : goal.loop-k-preserved
loop-k-preserved c =
    let s = get_or c.args.modules.now c.loop-k.k (record { program = 0; «module» = 0; parent = None }) in
    let n = length c.modes_at-modes.result.now in
    let taken = YieldsList-at c.map.ensures.source (YieldsList-from_range 0 n n refl (omega arith)) in
    let h = items_from_extend c.extend.result c.extend.ensures.ran (YieldsList-from_map _ (mode_in s) taken c.map.ensures.closure (λ x r q k. search rules)) in
    let put : c.extend.new.self.items ≡ c.loop-k.into.items ++ map (mode_in s) (range_with_len 0 n) = search rules in
    let size : n ≡ length (modes_at (tree_of c.args.tree.now) s.program s.«module») = sym (length-map c.modes_at-modes.result.now mode_of) ∙ ap length c.modes_at-modes.ensures in
    let own = put ∙ ap (λ (xs : List ModeAt). c.loop-k.into.items ++ xs) (listed (mode_in s) n ∙ ap (list_to (mode_in s)) size) in
    grind (arith, common_steps)
