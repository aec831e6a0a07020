-- The limits of the patched tables, by the numbers that are taken over.
use Rattle.std.proofs.Common.{◌≡◌, ◌≤◌, ℕ, zero, suc, Bool, cond, ltb, eqb, List, [], ◌∷◌, ◌++◌, length, Option, Some, None, refl, sym, ◌∙◌, ap, arith}
use Rattle.htl_model.proofs.Listed.{list_same}
use Rattle.htl_patch.proofs.Words.{count_by, length-map, MAX_MODULES, MAX_MODES, MAX_PORTS, MAX_TASKS, MAX_INVOCATIONS, MAX_SWITCHES, MAX_MODE_INVOCATIONS, list_to, parent_of, Tables, mode_module, greatest, Mode, Module, level, levels, widest, exceeded, first_limit, module_mode_tables, sizes_of, AreFewNumbers, order, new_numbers, patched, mode_at, module_at, port_at, task_at, inv_at, switch_at, new_mode, new_module, new_port, new_task, new_inv, new_switch, Replacement, combined, le-ltb}
use Rattle.htl_patch.proofs.{Replacing.CanReplace, Replacing.order_apart, Limiting.greatest_most, Limiting.of_list_to, CombinedTables.combined_sound, Widths.widths}
use Rattle.htl_patch.proofs.NumberLaws.{few_units, few_modes, few_tasks, few_ports, few_invs, few_switches}

-- levels by the lists of modules and modes alone
level_combined : (t : Tables) (n u : ℕ) → level n (module_mode_tables t.modules t.modes) u ≡ level n t u
level_combined t zero u = refl
level_combined t (suc n) u = by (parent_of t u) (λ p. level_combined t n (mode_module t p))
  where
    by : (o : Option ℕ) → ((p : ℕ) → level n (module_mode_tables t.modules t.modes) (mode_module t p) ≡ level n t (mode_module t p))
        → elim o as (λ _. ℕ) [ Some p ↦ suc (level n (module_mode_tables t.modules t.modes) (mode_module t p)) | None ↦ 1 ] ≡ elim o as (λ _. ℕ) [ Some p ↦ suc (level n t (mode_module t p)) | None ↦ 1 ]
    by None later = refl
    by (Some p) later = ap (λ (k : ℕ). suc k) (later p)

pub levels_combined : (t : Tables) (units : List Module) (modes : List Mode) (count : ℕ) → units ≡ t.modules → modes ≡ t.modes → count ≡ greatest 0 (list_to (level 16 (module_mode_tables units modes)) (length units)) → count ≡ levels t
levels_combined t units modes count same other is =
    is
    ∙ ap (λ (us : List Module). greatest 0 (list_to (level 16 (module_mode_tables us modes)) (length us))) same
    ∙ ap (λ (ms : List Mode). greatest 0 (list_to (level 16 (module_mode_tables t.modules ms)) (length t.modules))) other
    ∙ ap (greatest 0) (list_same (level 16 (module_mode_tables t.modules t.modes)) (level 16 t) (length t.modules) (λ k l. level_combined t 16 k))

exceeded_behind : (xs ys zs : List (ℕ × ℕ)) (k : ℕ) → ((j : ℕ) → exceeded j ys ≡ exceeded j zs) → exceeded k (xs ++ ys) ≡ exceeded k (xs ++ zs)
exceeded_behind [] ys zs k same = same k
exceeded_behind (x ∷ xs) ys zs k same = ap (λ (o : Option (ℕ × ℕ)). cond (ltb x.1 x.0) (Some (k, x.0)) o) (exceeded_behind xs ys zs (suc k) same)

not_first : (j : ℕ) (x : ℕ × ℕ) (xs : List (ℕ × ℕ)) → x.0 ≤ x.1 → exceeded j (x ∷ xs) ≡ exceeded (suc j) xs
not_first j x xs le = ap (λ (b : Bool). cond b (Some (j, x.0)) (exceeded (suc j) xs)) (le-ltb x.1 x.0 le)

abbrev made : ℕ → ℕ → ℕ → ℕ → ℕ → ℕ → ℕ → ℕ → List (ℕ × ℕ)
made a b c d e f w l =
    (a, MAX_MODULES) ∷ (b, MAX_MODES) ∷ (c, MAX_PORTS) ∷ (d, MAX_TASKS) ∷ (e, MAX_INVOCATIONS) ∷ (f, MAX_SWITCHES) ∷ (w, MAX_MODE_INVOCATIONS) ∷ (l, 8) ∷ []

six_lengths : {a b c d e f a' b' c' d' e' f' : ℕ} → a ≡ a' → b ≡ b' → c ≡ c' → d ≡ d' → e ≡ e' → f ≡ f' → (w l : ℕ) → made a b c d e f w l ≡ made a' b' c' d' e' f' w l
six_lengths {a} {b} {c} {d} {e} {f} {a'} {b'} {c'} {d'} {e'} {f'} p q r s t u w l =
    ap (λ (x : ℕ). made x b c d e f w l) p
    ∙ ap (λ (x : ℕ). made a' x c d e f w l) q
    ∙ ap (λ (x : ℕ). made a' b' x d e f w l) r
    ∙ ap (λ (x : ℕ). made a' b' c' x e f w l) s
    ∙ ap (λ (x : ℕ). made a' b' c' d' x f w l) t
    ∙ ap (λ (x : ℕ). made a' b' c' d' e' x w l) u

module _ (g : Replacement) (c : CanReplace g) where
  pub few_numbers : AreFewNumbers (new_numbers g)
  few_numbers =
      record { modules = few_units g c; modes = few_modes g c; ports = few_ports g c; tasks = few_tasks g c; invs = few_invs g c; switches = few_switches g c }

  pub limit_is : g.host.comms ≡ g.donor.comms → (count : ℕ) → count ≡ levels (patched g) → exceeded 2 (sizes_of (new_numbers g) count) ≡ first_limit (patched g)
  limit_is comms count is =
      let n = new_numbers g in
      let t = patched g in
      let u = combined g in
      let wide : widest t ≤ MAX_MODE_INVOCATIONS =
      greatest_most MAX_MODE_INVOCATIONS 0 (list_to (λ m. count_by (λ i. eqb i.mode m) t.invs) (length t.modes)) (omega arith)
      (λ y h. (let k = of_list_to (λ m. count_by (λ i. eqb i.mode m) t.invs) (length t.modes) y h in
      let few = widths u (order g) (combined_sound g c comms) (order_apart g c) k.0 in omega (arith, few, k.2))) in
      let front : List (ℕ × ℕ) =
      (length n.modules, MAX_MODULES) ∷ (length n.modes, MAX_MODES) ∷ (length n.ports, MAX_PORTS) ∷ (length n.tasks, MAX_TASKS) ∷ (length n.invs, MAX_INVOCATIONS) ∷ (length n.switches, MAX_SWITCHES) ∷ [] in
      let last : List (ℕ × ℕ) = (levels t, 8) ∷ [] in
      let lengths = six_lengths (length-map n.modules (λ (k : ℕ). new_module n (module_at u k))) (length-map n.modes (λ (k : ℕ). new_mode n (mode_at u k)))
      (length-map n.ports (λ (k : ℕ). new_port n (port_at u k))) (length-map n.tasks (λ (k : ℕ). new_task n (task_at u k)))
      (length-map n.invs (λ (k : ℕ). new_inv n (inv_at u k))) (length-map n.switches (λ (k : ℕ). new_switch n (switch_at u k))) (widest t) (levels t) in
      ap (λ (l : ℕ). exceeded 2 (sizes_of n l)) is
      ∙ exceeded_behind front ((0, MAX_MODE_INVOCATIONS) ∷ last) ((widest t, MAX_MODE_INVOCATIONS) ∷ last) 2
      (λ j. not_first j (0, MAX_MODE_INVOCATIONS) last (omega arith) ∙ sym (not_first j (widest t, MAX_MODE_INVOCATIONS) last wide))
      ∙ ap (exceeded 2) (sym lengths)
