-- A tree of programs: its levels, how many programs it has, and the table of refined modes.
use Rattle.std.proofs.Common.{◌≡◌, ℕ, zero, suc, ◌+◌, ◌≤◌, ◌<◌, inl, inr, true, eqb, List, [], ◌∷◌, length, Some, refl, sym, ◌∙◌, ap, subst, arith, cond, eq-or-lt_of_le, flat_map, count_by}
use Rattle.htl_names.proofs.Words.{list_any, nat_tests, le-length_from_below, list_to, length-list_to, PlainProgram, PlainModule, Key, ModeAt, Reached, root, Refinement, refinement, mode_refinement, module_refinements, program_refinements, refinements, refined_count, edge_targets, edges, IsMisplaced, refined_by, level, length-map, sum_by-cons, modules_of, beneath, modes_of}
use Rattle.htl_names.proofs.{Places.stable, Refinements.IsRefined, Refinements.in_refinements, Refinements.refinement_counts, Refinements.refinement_below, Refinements.refined_one, Refinements.refined_none, Refinements.edge_refines}
use Rattle.htl_names.proofs.{Members.In, Members.each_at, ListLaws.among_at, ListLaws.flat_map_flat_map, FlatMaps.list_to_at, FlatMaps.flat_map_at_shorter, FlatMaps.flat_map_at_single}

-- the programs make a tree
abbrev pub IsTree : List (Key × ℕ) → List PlainProgram → Type 0
IsTree symbols ps = (p : ℕ) → p < length ps → IsMisplaced symbols ps p → ⊥

module _ (symbols : List (Key × ℕ)) (ps : List PlainProgram) (tree : IsTree symbols ps) where
  pub root_refines_none : 0 < length ps → refined_count symbols ps 0 ≡ 0
  root_refines_none some = let no : 0 < refined_count symbols ps 0 → ⊥ = tree 0 some in omega arith

  -- the root refines no mode
  pub root_refines_no_mode : 0 < length ps → (a : ModeAt) → In {A = Refinement} (refinement a 0) (refinements symbols ps) → ⊥
  root_refines_no_mode some a h = omega (arith, root_refines_none some, refinement_counts a 0 (refinements symbols ps) h.0 h.1)

  -- another program refines one mode
  pub refines_once : (q : ℕ) → suc q < length ps → refined_count symbols ps (suc q) ≡ 1
  refines_once q lt = stable _ _ (λ ne. tree (suc q) lt (inl ne))

  refines : (a : ModeAt) (q : ℕ) → q < length ps → In {A = Refinement} (refinement a q) (refinements symbols ps) → refined_by symbols ps q ≡ Some a
  refines a zero lt h = absurd (root_refines_no_mode lt a h)
  refines a (suc q) lt h = refined_one a (suc q) (refinements symbols ps) h.0 h.1 (refines_once q lt)

  -- a program refines the mode whose head names it
  pub refined_at : (a : ModeAt) (q : ℕ) → q < length ps → IsRefined symbols ps a q → refined_by symbols ps q ≡ Some a
  refined_at a q lt h = refines a q lt (in_refinements symbols ps a q h)

  -- with more than so many steps back the level of q is one more
  abbrev Deep : ℕ → ℕ → Type 0
  Deep d q = (m : ℕ) → d < m → level (refinements symbols ps) m q ≡ suc d

  deep_root : 0 < length ps → Deep 0 0
  deep_root some zero lt = absurd (omega arith)
  deep_root some (suc m) lt = let none = refined_none 0 (refinements symbols ps) (root_refines_none some) in grind arith

  deep_more : (d q : ℕ) (a : ModeAt) → refined_by symbols ps q ≡ Some a → Deep d a.program → Deep (suc d) q
  deep_more d q a e h zero lt = absurd (omega arith)
  deep_more d q a e h (suc m) lt = let up = h m (omega arith) in grind arith

  -- at each depth down to d stands a program
  abbrev Chain : ℕ → Type 0
  Chain d = (k : ℕ) → k ≤ d → (p : ℕ) × (p < length ps) × Deep k p

  chain_of : (q : ℕ) → Reached (edges symbols ps) q → q < length ps → (d : ℕ) × Deep d q × Chain d
  chain_of q root lt = (0, deep_root lt, λ k le. (0, lt, subst (λ j. Deep j 0) (omega (arith, le)) (deep_root lt)))
  chain_of q (beneath p r up by) lt =
      let n = edge_refines symbols ps p q by in
      let c = chain_of p up (omega (arith, n.1, each_at (λ (x : Refinement). x.mode.program < length ps) (refinements symbols ps) n.2.0 (refinement n.0 q) (refinement_below symbols ps) n.2.1)) in
      let here = deep_more c.0 q n.0 (refines n.0 q lt n.2) (subst (Deep c.0) (sym n.1) c.1) in (
        suc c.0,
        here,
        λ k le. elim (eq-or-lt_of_le {n = k} {m = suc c.0} le) [ inl is ↦ (q, lt, subst (λ j. Deep j q) (sym is) here) | inr less ↦ c.2 k (omega (arith, less)) ],
      )

  -- so no program is as deep as there are programs
  chain_short : (d : ℕ) → Chain d → d < length ps
  chain_short d c =
      let size = length-list_to deep (length ps) in
      let all = le-length_from_below (0 ∷ list_to deep (length ps)) (suc (suc d)) there in
      omega (arith, size, all)
    where
      deep : ℕ → ℕ
      deep = level (refinements symbols ps) (suc d)

      there : (k : ℕ) → k < suc (suc d) → list_any (eqb k) (0 ∷ list_to deep (length ps)) ≡ true
      there zero lt = refl
      there (suc k) lt =
          let p = c k (omega (arith, lt)) in
          let at = list_to_at deep (length ps) p.0 p.1 ∙ ap (λ (x : ℕ). Some x) (p.2 (suc d) (omega (arith, lt))) in
          among_at (0 ∷ list_to deep (length ps)) (suc p.0) (suc k) at

  -- one level more than the program of the mode that it refines
  pub level_step : (q : ℕ) (a : ModeAt) → q < length ps → IsRefined symbols ps a q
      → level (refinements symbols ps) (length ps) q ≡ suc (level (refinements symbols ps) (length ps) a.program)
  level_step zero a lt h = absurd (root_refines_no_mode lt a (in_refinements symbols ps a 0 h))
  level_step (suc q) a lt h =
      stable _ _ (λ no. tree (suc q) lt (inr (λ r.
      let d = chain_of (suc q) r lt in
      let short = chain_short d.0 d.2 in
      let one = d.1 (length ps) short in
      let two = d.1 (suc (length ps)) (omega (arith, short)) in
      let up = refined_at a (suc q) lt h in
      no (grind arith))))

-- ---- a tree of programs has at most one program more than modes

refining_among : (q : ℕ) (xs : List Refinement) → 0 < count_by (λ (x : Refinement). eqb q x.program) xs → list_any (eqb q) (edge_targets xs) ≡ true
refining_among q [] h = absurd (let none : count_by (λ (x : Refinement). eqb q x.program) [] ≡ 0 = refl in omega (arith, h, none))
refining_among q (x ∷ xs) h = let first = sum_by-cons (λ (y : Refinement). cond (eqb q y.program) 1 0) x xs in grind (arith, refining_among q xs)

module _ (symbols : List (Key × ℕ)) (ps : List PlainProgram) where
  refinements_length : length (refinements symbols ps) ≤ length (modes_of (modules_of ps))
  refinements_length =
      let one = flat_map_at_shorter (program_refinements symbols) (λ (x : PlainProgram). flat_map (λ (y : PlainModule). y.modes) x.modules)
      (λ p x. flat_map_at_shorter (module_refinements symbols p) (λ (y : PlainModule). y.modes) (λ u y. flat_map_at_single (mode_refinement symbols p u) (λ m z. grind arith) 0 y.modes) 0 x.modules) 0 ps in
      let two = ap length (flat_map_flat_map (λ (y : PlainModule). y.modes) (λ (x : PlainProgram). x.modules) ps) in
      omega (arith, one, two)

  pub few_programs : IsTree symbols ps → length ps ≤ length (modes_of (modules_of ps)) + 1
  few_programs tree =
      let all = le-length_from_below (0 ∷ edge_targets (refinements symbols ps)) (length ps) there in
      omega (arith, all, refinements_length, length-map (refinements symbols ps) (λ (x : Refinement). x.program))
    where
      there : (q : ℕ) → q < length ps → list_any (eqb q) (0 ∷ edge_targets (refinements symbols ps)) ≡ true
      there zero lt = refl
      there (suc q) lt =
          let refines = refining_among (suc q) (refinements symbols ps) (omega (arith, refines_once symbols ps tree q lt)) in
          grind (arith, nat_tests)
