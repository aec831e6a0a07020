-- The numbers of a path's nodes, read from the modes that run.
use Rattle.std.proofs.Common.{◌≡◌, ℕ, zero, suc, ◌+◌, ◌*◌, ◌%◌, ◌<◌, Bool, true, false, cond, eqb, List, [], ◌∷◌, ◌++◌, drop, get_or, map, Option, refl, sym, ap, ap₂, ◌∙◌, arith}
use Rattle.htl_refine.proofs.Words.{flat_map, IsSelection, root_modules, Tables, entry_place, Round, starts, rounds_of, rounds_at, choices, ways, nodes_of, node_of, unit_period, path_in, path_of, choice_at, nodes_below, node_read, NodesRead, NodeSteps, NodesAgree, choices_append, choices_starts}
use Rattle.htl_refine.proofs.{Members.of_flat, PathDerived.AreRootRounds, PathDerived.root_units, PathDerived.rounds_root, PathRead.below, MixedRadix.digit, MixedRadix.regroup}

-- ---- joined lists of rounds

pub path_join : (t : Tables) (modes : ℕ → List (Option ℕ)) (xs ys : List Round) → path_in t modes (xs ++ ys) ≡ path_in t modes xs * choices t ys + path_in t modes ys
path_join t modes [] ys = grind arith
path_join t modes (r ∷ xs) ys = grind (arith, choices_append, path_join t modes xs ys)

flat_roots : (t : Tables) (from : List ℕ) → AreRootRounds t (flat_map (rounds_at t) from)
flat_roots t from p r e = grind (arith, of_flat, rounds_root, root_units)

pub at_roots : (t : Tables) (a : ℕ) → AreRootRounds t (rounds_at t a)
at_roots t a = rounds_root t a (root_modules t) (λ p u f. root_units t p u f)

-- ---- the nodes

first_node : (c d e q j : ℕ) (cs : List ℕ) → e < c → q < ways cs → node_of (c ∷ cs) (d * (c * ways cs) + (e * ways cs + q)) 0 ≡ e * suc (nodes_of cs)
first_node c d e q j cs less small = ap (λ z. z * suc (nodes_of cs)) (digit d c (ways cs) e q less small)

later_node : (c d e q j n : ℕ) (cs : List ℕ) → e < c → q < ways cs → node_of cs ((d * c + e) * ways cs + q) j ≡ n
    → node_of (c ∷ cs) (d * (c * ways cs) + (e * ways cs + q)) (suc j) ≡ e * suc (nodes_of cs) + suc n
later_node c d e q j n cs less small ih = grind (arith, digit, regroup)

module _ (t : Tables) (modes : ℕ → List (Option ℕ)) (selections : (a : ℕ) → IsSelection t (modes a)) where
  small_of : (later : List ℕ) → path_in t modes (flat_map (rounds_at t) later) < ways (map (λ a. choices t (rounds_at t a)) later)
  small_of later = let few = below t modes selections (flat_map (rounds_at t) later) (flat_roots t later) in omega (arith, few, choices_starts t later)

  path_of_flat : (a : ℕ) (later : List ℕ) → path_in t modes (flat_map (rounds_at t) (a ∷ later)) ≡ choice_at t modes a * ways (map (λ a. choices t (rounds_at t a)) later) + path_in t modes (flat_map (rounds_at t) later)
  path_of_flat a later = grind (arith, path_join, choices_starts)

  read : (from : List ℕ) (d j : ℕ)
      → node_of (map (λ a. choices t (rounds_at t a)) from) (d * ways (map (λ a. choices t (rounds_at t a)) from) + path_in t modes (flat_map (rounds_at t) from)) j ≡ node_read t modes from j
  read [] d j = refl
  read (a ∷ later) d zero =
      let cs = map (λ a. choices t (rounds_at t a)) later in
      let c = choices t (rounds_at t a) in
      ap (λ z. node_of (c ∷ cs) (d * (c * ways cs) + z) 0) (path_of_flat a later)
      ∙ first_node c d (choice_at t modes a) (path_in t modes (flat_map (rounds_at t) later)) 0 cs (below t modes selections (rounds_at t a) (at_roots t a)) (small_of later)
  read (a ∷ later) d (suc j) =
      let cs = map (λ a. choices t (rounds_at t a)) later in
      let c = choices t (rounds_at t a) in
      ap (λ z. node_of (c ∷ cs) (d * (c * ways cs) + z) (suc j)) (path_of_flat a later)
      ∙ later_node c d (choice_at t modes a) (path_in t modes (flat_map (rounds_at t) later)) j (node_read t modes later j) cs (below t modes selections (rounds_at t a) (at_roots t a)) (small_of later)
      (read later (d * c + choice_at t modes a) j)

pub nodes_read : NodesRead
nodes_read t modes selections j =
    sym (ap (λ z. node_of (map (λ a. choices t (rounds_at t a)) (starts t)) z j) (omega arith)) ∙ read t modes selections (starts t) 0 j

-- ---- from node to node

one_more : (a b : ℕ) → a + suc b ≡ suc a + b
one_more a b = omega arith

more : (a b c x : ℕ) → x ≡ suc b + c → a + suc x ≡ suc (a + suc b) + c
more a b c x e = omega (arith, e)

pub node_steps : NodeSteps
node_steps t modes (a ∷ b ∷ later) zero h = one_more (choice_at t modes a * suc (nodes_below t (b ∷ later))) (choice_at t modes b * suc (nodes_below t later))
node_steps t modes (a ∷ b ∷ later) (suc j) h =
    let rest = b ∷ later in
    more (choice_at t modes a * suc (nodes_below t rest)) (node_read t modes rest j) (choice_at t modes (get_or rest (suc j) 0) * suc (nodes_below t (drop (suc (suc j)) rest))) (node_read t modes rest (suc j))
    (node_steps t modes rest j (omega (arith, h)))
node_steps t modes _ j h = absurd (omega arith)

-- ---- modes that agree

pub choice_agrees : (t : Tables) (modes later : ℕ → List (Option ℕ)) (a : ℕ) (us : List ℕ) → modes a ≡ later a → path_in t modes (rounds_of t a us) ≡ path_in t later (rounds_of t a us)
choice_agrees t modes later a [] e = refl
choice_agrees t modes later a (u ∷ us) e = grind (arith, choice_agrees t modes later a us e)

pub nodes_agree : NodesAgree
nodes_agree t modes later [] j h = refl
nodes_agree t modes later (a ∷ from) zero h = ap (λ z. z * suc (nodes_below t from)) (choice_agrees t modes later a (root_modules t) (h 0 (omega arith)))
nodes_agree t modes later (a ∷ from) (suc j) h =
    ap₂ (λ z w. z * suc (nodes_below t from) + suc w) (choice_agrees t modes later a (root_modules t) (h 0 (omega arith))) (nodes_agree t modes later from j (λ i l. h (suc i) (omega (arith, l))))
