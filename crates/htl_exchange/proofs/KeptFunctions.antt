-- The functions of the host's tasks and switches that stay give what they gave.
use Rattle.std.proofs.Common.{◌≡◌, ◌<◌, ◌+◌, ◌⊎◌, inl, inr, ℕ, zero, suc, Bool, true, false, cond, eqb, List, [], ◌∷◌, ◌++◌, length, length-append, map, take, drop, slice_get, Option, Some, None, ℤ, pos, refl, sym, ◌∙◌, ap, arith}
use Rattle.htl_exchange.proofs.Words.{Task}
use Rattle.htl_base.proofs.Places.{item_at, get_back, get_front, get_mapped, within_front}
use Rattle.htl_model.specs.Tables.{fun, function_value, output_function}
use Rattle.htl_patch.proofs.Words.{flat_map, length-map, same_Some, slice_get-get_or, get_or_from_slice_get, AreInRange, Tables, Fun, function_count, count_at, count_before, switch_function, Joins, Replacement, combined, order, new_numbers, patched, place_among, Numbering, task_at, new_task, new_switch, switch_at, tasks_of, functions_of, function_of_switch}
use Rattle.htl_object.proofs.Each.{get_take}
use Rattle.htl_patch.proofs.{Members.Has, Members.none, Members.of_flat, Members.same_or, Members.place_get, Counting.count_shift, Counting.count_within, Counting.take_length, Renumbering.task_there, Replacing.CanReplace}
use Rattle.htl_patch.proofs.{CombinedTables.combined_sound, FunctionParts.functions_here, FunctionParts.switch_front}

-- ---- lists

-- a place behind the functions of the tasks before
abbrev place_by : List ℕ → ℕ → Task → List Task → ℕ → Bool → ℕ
place_by xs k y ys o b = count_before (cond b 0 (suc (place_among k xs))) (y ∷ ys) + o

-- what a key gives stands behind what those before it give
flat_at : (f : ℕ → List Fun) (to : ℕ → Task) (ks : List ℕ) (k o : ℕ) → ((j : ℕ) → Has ks j → length (f j) ≡ function_count (to j)) → Has ks k → o < length (f k)
    → slice_get (flat_map f ks) (count_before (place_among k ks) (map to ks) + o) ≡ slice_get (f k) o
flat_at f to [] k o sizes h less = absurd (none k h.0 h.1)
flat_at f to (x ∷ xs) k o sizes h less = by (same_or x k) h (λ i. flat_at f to xs k o (λ j l. sizes j (suc l.0, l.1)) i less)
  where
    by : ((eqb x k ≡ true) × (x ≡ k)) ⊎ ((eqb x k ≡ false) × (x ≡ k → ⊥)) → Has (x ∷ xs) k
        → (Has xs k → slice_get (flat_map f xs) (count_before (place_among k xs) (map to xs) + o) ≡ slice_get (f k) o) → slice_get (f x ++ flat_map f xs) (count_before (cond (eqb x k) 0 (suc (place_among k xs))) (to x ∷ map to xs) + o) ≡ slice_get (f k) o
    by (inl r) h later =
        let first : 0 + o ≡ o = omega arith in
        ap (λ b. slice_get (f x ++ flat_map f xs) (place_by xs k (to x) (map to xs) o b)) r.0 ∙ ap (slice_get (f x ++ flat_map f xs)) first ∙ ap (λ y. slice_get (f y ++ flat_map f xs) o) r.1 ∙ within_front (f k) (flat_map f xs) o less
    by (inr r) (zero, e) later = absurd (r.1 (same_Some x k e))
    by (inr r) (suc i, e) later =
        let shift = count_shift (place_among k xs) (to x) (map to xs) in
        let size = sizes x (0, refl) in
        let place : place_by xs k (to x) (map to xs) o false ≡ length (f x) + (count_before (place_among k xs) (map to xs) + o) = omega (arith, shift, size) in
        ap (λ b. slice_get (f x ++ flat_map f xs) (place_by xs k (to x) (map to xs) o b)) r.0 ∙ ap (slice_get (f x ++ flat_map f xs)) place ∙ get_back (f x) (flat_map f xs) (count_before (place_among k xs) (map to xs) + o) ∙ later (i, e)

dropped : {A : Type 0} (a o : ℕ) (xs : List A) → slice_get (drop a xs) o ≡ slice_get xs (a + o)
dropped zero o xs = let same : o ≡ 0 + o = omega arith in ap (slice_get xs) same
dropped (suc a) o [] = refl
dropped (suc a) o (x ∷ xs) = let same : suc (a + o) ≡ suc a + o = omega arith in dropped a o xs ∙ ap (slice_get (x ∷ xs)) same

module _ (g : Replacement) (c : CanReplace g) (j : Joins g) (range : AreInRange (patched g)) where
  abbrev t : Tables
  t = g.host

  abbrev u : Tables
  u = combined g

  abbrev n : Numbering
  n = new_numbers g

  abbrev value_of : List ℤ → Option Fun → ℤ
  value_of args o = elim o [ Some f ↦ fun f args | None ↦ pos 0 ]

  -- ---- outputs

  functions_size : (k : ℕ) (x : Task) → slice_get u.tasks k ≡ Some x → length (functions_of u k) ≡ function_count x
  functions_size k x e =
      let count = (combined_sound g c j.comms).function_count in
      ap (λ (o : Option Task). length (take (count_at o) (drop (count_before k u.tasks) u.functions))) e
      ∙ take_length (function_count x) (count_before k u.tasks) u.functions (omega (arith, count_within u.tasks k x e, count))

  new_size : (k : ℕ) → Has n.tasks k → length (functions_of u k) ≡ function_count (new_task n (task_at u k))
  new_size k h =
      let r = of_flat (tasks_of u) (order g) k h in
      let x = task_there u r.0 k r.2 in
      functions_size k x.0 x.1 ∙ ap (λ (y : Task). function_count (new_task n y)) (sym (get_or_from_slice_get u.tasks k x.0 _ x.1))

  output_new : (k o : ℕ) → Has n.tasks k → o < length (functions_of u k) → slice_get (patched g).functions (output_function (patched g) (place_among k n.tasks) o) ≡ slice_get (functions_of u k) o
  output_new k o h less =
      let f = item_at (functions_of u k) o less in
      get_front (flat_map (functions_of u) n.tasks) (map (function_of_switch u) n.switches) (output_function (patched g) (place_among k n.tasks) o) f.0
      (flat_at (functions_of u) (λ (k : ℕ). new_task n (task_at u k)) n.tasks k o new_size h less ∙ f.1) ∙ sym f.1

  pub output_same : (k o : ℕ) (x : Task) (args : List ℤ) → Has n.tasks k → slice_get t.tasks k ≡ Some x → o < function_count x
      → function_value (patched g) (output_function (patched g) (place_among k n.tasks) o) args ≡ function_value t (output_function t k o) args
  output_same k o x args h at less =
      let here = functions_here g c.host c.donor k x at in
      let count = c.host.function_count in
      let size = ap length here ∙ take_length (function_count x) (count_before k t.tasks) t.functions (omega (arith, count_within t.tasks k x at, count)) in
      ap (value_of args)
      (output_new k o h (omega (arith, less, size)) ∙ ap (λ (fs : List Fun). slice_get fs o) here ∙ get_take (drop (count_before k t.tasks) t.functions) (function_count x) o less ∙ dropped (count_before k t.tasks) o t.functions)

  -- ---- switches

  pub switch_same : (k : ℕ) (args : List ℤ) → Has n.switches k → k < length t.switches
      → function_value (patched g) (switch_function (patched g) (place_among k n.switches)) args ≡ function_value t (switch_function t k) args
  switch_same k args h less =
      let outs : List Fun = flat_map (functions_of u) n.tasks in
      let rest : List Fun = map (function_of_switch u) n.switches in
      let sum = length-append outs rest in
      let few = length-map n.switches (function_of_switch u) in
      let new = length-map n.switches (λ (k : ℕ). new_switch n (switch_at u k)) in
      let size : count_before (length (patched g).tasks) (patched g).tasks ≡ length outs = omega (arith, range.function_count, sum, few, new) in
      let place = place_among k n.switches in
      ap (value_of args)
      (ap (λ (i : ℕ). slice_get (outs ++ rest) (i + place)) size ∙ get_back outs rest place ∙ get_mapped (function_of_switch u) n.switches place k (place_get n.switches k h)
      ∙ ap (λ (f : Fun). Some f) (sym (switch_front g c.host c.donor k less))
      ∙ sym (slice_get-get_or t.functions (switch_function t k) _ (omega (arith, c.host.function_count, less))))
