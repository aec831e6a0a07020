-- The search for the programs that are reached: which are marked, and which wait.
use Rattle.std.proofs.Common.{◌≡◌, ◌<◌, ◌+◌, ◌⊎◌, ℕ, suc, Bool, true, false, cond, List, [], ◌∷◌, ◌++◌, length, map, get_or, replicate, sym, ◌∙◌, ap, arith}
use Rattle.htl_names.proofs.{Words.nat_tests, Words.common_steps, Words.length-map, Words.MarksReached, Words.Graph, Words.Refinement, Words.edge_targets, Words.edges_from, Words.Reached, Words.root, Words.set, ListLaws.is_among}
use Rattle.std.proofs.lemmas.List.{get_or-map}
use Rattle.htl_names.specs.Programs.{below}

-- marked or no program, or waits
abbrev pub Covered : List Bool → List ℕ → ℕ → Type 0
Covered seen waiting q = (get_or seen q true ≡ true) ⊎ (is_among waiting q ≡ true)

-- what is marked or waits is reached, and what a marked program names is done or waits
pub record Searches (g : Graph) (seen : List Bool) (waiting : List ℕ) : Type 0 where
  pub len : length seen ≡ length g
  pub says : (p : ℕ) → get_or seen p false ≡ true → Reached g p
  pub waits : (p : ℕ) → is_among waiting p ≡ true → Reached g p
  pub first : Covered seen waiting 0
  pub closed : (p q : ℕ) → get_or seen p false ≡ true → is_among (edges_from g p) q ≡ true → Covered seen waiting q

-- how many edges lead from the programs that aren't marked
abbrev pub owed : List Bool → Graph → ℕ
owed [] g = 0
owed (b ∷ seen) [] = 0
owed (b ∷ seen) (r ∷ g) = cond b 0 (length r) + owed seen g

-- ---- the start

pub search_start : (g : Graph) (seen : List Bool) (waiting : List ℕ) → seen ≡ replicate (length g) false → waiting ≡ 0 ∷ [] → Searches g seen waiting
search_start g seen waiting free alone =
    record {
      len = grind (arith, common_steps);
      says = λ p h. grind (arith, common_steps);
      waits = λ p h. grind (arith, common_steps, nat_tests, root);
      first = grind (arith, common_steps, nat_tests);
      closed = λ p q h n. grind (arith, common_steps);
    }

-- ---- a program is taken off the list, is marked, and what it names waits

-- what a program that isn't marked names is owed no longer once it is
owed-set : (seen : List Bool) (g : Graph) (p : ℕ) → p < length seen → length seen ≡ length g → get_or seen p false ≡ false
    → owed (set seen p true) g + length (edges_from g p) ≡ owed seen g
owed-set (b ∷ seen) (r ∷ g) (suc p) small len free = grind (arith, owed-set seen g p)
owed-set _ _ _ small len free = grind arith

-- the next that waits is not marked: it is, and what its row names waits, which is less to do
pub search_asked : (rows : List (List Refinement)) (seen : List Bool) (old rest new : List ℕ) (p : ℕ) (row : List Refinement) → p < length seen → row ≡ get_or rows p row
    → get_or seen p false ≡ false → old ≡ rest ++ p ∷ [] → new ≡ rest ++ edge_targets row → Searches (map edge_targets rows) seen old
    → Searches (map edge_targets rows) (set seen p true) new × (owed (set seen p true) (map edge_targets rows) + length new < owed seen (map edge_targets rows) + length old)
search_asked rows seen old rest new p row small is free was grew s =
    let g = map edge_targets rows in
    let len = s.len in
    let size = length-map rows edge_targets in
    let names : edge_targets row ≡ edges_from g p = ap edge_targets is ∙ sym (get_or-map edge_targets rows p row [] (omega (arith, small, len, size))) in
    let owes = owed-set seen g p small len free in
    let more = length-map row (λ (x : Refinement). x.program) in
    let here : Reached g p = s.waits p (grind (arith, common_steps, nat_tests)) in (
      record {
        len = grind (arith, common_steps);
        says = λ q h. grind (arith, common_steps, nat_tests);
        waits = λ q h. grind (arith, common_steps, nat_tests, below);
        first = grind (arith, common_steps, nat_tests, s.first);
        closed = λ a q h n. let old = s.closed a q in grind (arith, common_steps, nat_tests);
      },
      grind (arith, common_steps),
    )

-- ---- nothing waits

search_complete : (g : Graph) (seen : List Bool) → Searches g seen [] → (p : ℕ) → Reached g p → get_or seen p true ≡ true
search_complete g seen s _ root = grind (arith, s.first)
search_complete g seen s _ (below p q r edge) =
    let small : p < length g = grind (arith, common_steps) in
    let up = search_complete g seen s p r in
    let more = s.closed p q in
    grind (arith, common_steps)

pub marks_reached : (g : Graph) (seen : List Bool) (waiting : List ℕ) → length waiting ≡ 0 → Searches g seen waiting → MarksReached g seen
marks_reached g seen (p ∷ waiting) none s = absurd (omega (arith, none))
marks_reached g seen [] none s = record { len = s.len; says = s.says; marks = search_complete g seen s }
