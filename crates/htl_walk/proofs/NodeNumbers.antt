-- The numbers of nodes: one for each node, and one node for each number.
use Rattle.std.proofs.Common.{◌≡◌, ℕ, zero, suc, ◌+◌, ◌*◌, ◌/◌, ◌%◌, ◌≤◌, ◌<◌, Bool, true, false, cond, ◌&&◌, eqb, List, [], ◌∷◌, ◌++◌, length, drop, get_or, refl, sym, ap, ◌∙◌, arith, inl, inr}
use Rattle.htl_walk.proofs.Words.{div-add-mod, mul_assoc, mul_comm, mul-le-mul_right, mul-add-div_right, add-mul-mod_self_right, mod-eq_of_lt, cases_lt, ne_eqb, length-map, div-mul-add, mul-add-lt, frame_of, root_periods, unit_period, rounds_at, choices, starts, rounds, paths, mode_in, mode_from, path_mode, node, node_of, nodes_of, radices, ways, Tables, Round, start_at, start_end_at, NodesDiffer, NodesReached, ModesStay, paths_ways, product_parts}
use Rattle.htl_walk.proofs.Nodes.{places_same, node_below, leg_at, rises_drop, mode_append, rounds_to, rounds_behind, cut_rounds, choices_behind, same_choices}
use Rattle.htl_walk.proofs.Starts.{Rises, starts_rise, LaterRounds, rounds_later}

-- ---- nodes of different starts

pub depth_same : (cs : List ℕ) (p q j i : ℕ) → 0 < ways cs → j < length cs → i < length cs → node_of cs p j ≡ node_of cs q i → j ≡ i
depth_same [] p q j i h l k e = absurd (omega (arith, l))
depth_same (c ∷ cs) p q zero zero h l k e = refl
depth_same (c ∷ cs) p q zero (suc i) h l k e =
    let n = suc (nodes_of cs) in
    let inner : suc (node_of cs q i) < n = omega (arith, node_below cs q i (product_parts c (ways cs) h).1 (omega (arith, k))) in
    absurd (omega (arith, (places_same (p / ways cs % c) (q / ways cs % c) n 0 (suc (node_of cs q i)) (omega arith) inner (omega (arith, e))).1))
depth_same (c ∷ cs) p q (suc j) zero h l k e =
    let n = suc (nodes_of cs) in
    let inner : suc (node_of cs p j) < n = omega (arith, node_below cs p j (product_parts c (ways cs) h).1 (omega (arith, l))) in
    absurd (omega (arith, (places_same (p / ways cs % c) (q / ways cs % c) n (suc (node_of cs p j)) 0 inner (omega arith) (omega (arith, e))).1))
depth_same (c ∷ cs) p q (suc j) (suc i) h l k e =
    let some = product_parts c (ways cs) h in
    let n = suc (nodes_of cs) in
    let a : suc (node_of cs p j) < n = omega (arith, node_below cs p j some.1 (omega (arith, l))) in
    let b : suc (node_of cs q i) < n = omega (arith, node_below cs q i some.1 (omega (arith, k))) in
    ap suc (depth_same cs p q j i some.1 (omega (arith, l)) (omega (arith, k)) (omega (arith, (places_same (p / ways cs % c) (q / ways cs % c) n (suc (node_of cs p j)) (suc (node_of cs q i)) a b e).1)))

pub node_depth : (t : Tables) (p q j i : ℕ) → p < paths t → j < length (starts t) → i < length (starts t) → node t p j ≡ node t q i → j ≡ i
node_depth t p q j i h l k e =
    let n = length-map (starts t) (λ (a : ℕ). choices t (rounds_at t a)) in
    depth_same (radices t) p q j i (omega (arith, h, paths_ways t p h)) (omega (arith, l, n)) (omega (arith, k, n)) e

-- ---- the modes of a path

floor_within : (x p : ℕ) → x / p * p ≤ x
floor_within x p = omega (arith, div-add-mod x p, mul_comm p (x / p))

floor_again : (x p : ℕ) → x / p * p / p * p ≡ x / p * p
floor_again x zero = omega arith
floor_again x (suc p) = let e : x / suc p * suc p + 0 ≡ x / suc p * suc p = omega arith in ap (λ n. n / suc p * suc p) (sym e) ∙ ap (λ n. n * suc p) (div-mul-add (x / suc p) (suc p) 0 (omega arith))

pub modes_stay : ModesStay
modes_stay t path i j u e = grind (arith, floor_again)

-- no round behind begins at a
none_from : (t : Tables) (ps : List ℕ) (path u a z : ℕ) (rs : List Round) → a < z → LaterRounds ps z rs → mode_from t path u a rs ≡ 0
none_from t ps path u a z [] h l = refl
none_from t ps path u a z (r ∷ rs) h l = grind (arith, ne_eqb, none_from t ps path u a r.at rs (omega (arith, h, l.0)) l.2)

mode_from_append : (t : Tables) (path u a : ℕ) (rs ss : List Round) → mode_from t path u a ss ≡ 0 → mode_from t path u a (rs ++ ss) ≡ mode_from t (path / choices t ss) u a rs
mode_from_append t path u a [] ss none = none
mode_from_append t path u a (r ∷ rs) ss none = grind (arith, mode_append, mode_from_append t path u a rs ss none)

starts_in_order : (ps : List ℕ) (h k i : ℕ) (xs : List ℕ) → Rises ps h xs → k ≤ i → i < length xs → get_or xs k 0 ≤ get_or xs i 0
starts_in_order ps h zero zero (x ∷ xs) r l b = omega arith
starts_in_order ps h zero (suc i) (x ∷ y ∷ xs) r l b = omega (arith, r.1, starts_in_order ps h zero i (y ∷ xs) r.3 (omega arith) (omega (arith, b)))
starts_in_order ps h (suc k) zero (x ∷ xs) r l b = absurd (omega (arith, l))
starts_in_order ps h (suc k) (suc i) (x ∷ xs) r l b = starts_in_order ps h k i xs r.3 (omega (arith, l)) (omega (arith, b))
starts_in_order ps h _ _ _ r l b = absurd (omega (arith, b))

module _ (t : Tables) (i : ℕ) (within : i < length (starts t)) where
  abbrev ps : List ℕ
  ps = root_periods t

  -- the mode of a round that has begun at start i is among the choices up to there
  mode_so_far : (path u a : ℕ) → a ≤ start_at t i → mode_from t path u a (rounds t) ≡ mode_from t (path / ways (drop (suc i) (radices t))) u a (rounds_to t i)
  mode_so_far path u a l =
      let rise = starts_rise ps (frame_of t) in
      let leg = leg_at ps (frame_of t) i (starts t) rise within in
      let later = rounds_later t ps (frame_of t) (start_end_at t i) (drop (suc i) (starts t)) (omega arith) (rises_drop ps (frame_of t) (suc i) (starts t) rise) in
      ap (mode_from t path u a) (cut_rounds t i)
      ∙ mode_from_append t path u a (rounds_to t i) (rounds_behind t i) (none_from t ps path u a (start_end_at t i) (rounds_behind t i) (omega (arith, l, leg.0)) later)
      ∙ ap (λ n. mode_from t (path / n) u a (rounds_to t i)) (choices_behind t i)

  same_modes : (p q : ℕ) → p < paths t → q < paths t → node t p i ≡ node t q i → (k u : ℕ) → k ≤ i → path_mode t p k u ≡ path_mode t q k u
  same_modes p q hp hq e k u l =
      let a : ℕ = start_at t k / unit_period t u * unit_period t u in
      let early : a ≤ start_at t i = omega (arith, floor_within (start_at t k) (unit_period t u), starts_in_order ps (frame_of t) k i (starts t) (starts_rise ps (frame_of t)) l within) in
      mode_so_far p u a early ∙ ap (λ n. mode_from t n u a (rounds_to t i)) (same_choices t p q i hp hq within e) ∙ sym (mode_so_far q u a early)

pub nodes_differ : NodesDiffer
nodes_differ t p q i j hp hq li lj e = grind (arith, node_depth, same_modes)

-- ---- the node of a number

-- higher places than there are choices are passed over
node_low : (cs : List ℕ) (d x j : ℕ) → 0 < ways cs → node_of cs (d * ways cs + x) j ≡ node_of cs x j
node_low [] d x j h = refl
node_low (c ∷ cs) d x j h = by j (λ i. node_low cs (d * c) x i some.1)
  where
    w : ℕ
    w = ways cs

    some : (0 < c) × (0 < w)
    some = product_parts c w h

    moved : d * (c * w) + x ≡ d * c * w + x
    moved = ap (λ n. n + x) (sym (mul_assoc d c w))

    digit : (d * (c * w) + x) / w % c ≡ x / w % c
    digit =
        ap (λ n. n / w % c) moved ∙ ap (λ n. n % c) (mul-add-div_right some.1 (d * c) x) ∙ ap (λ n. n % c) (omega arith) ∙ add-mul-mod_self_right (x / w) d c

    by : (j : ℕ) → ((i : ℕ) → node_of cs (d * c * w + x) i ≡ node_of cs x i) → node_of (c ∷ cs) (d * (c * w) + x) j ≡ node_of (c ∷ cs) x j
    by zero later = ap (λ n. n * suc (nodes_of cs)) digit
    by (suc j) later = grind (arith, d, w, digit, moved)

node_found : (cs : List ℕ) (n : ℕ) → 0 < ways cs → n < nodes_of cs → (path : ℕ) × (j : ℕ) × (path < ways cs) × (j < length cs) × (node_of cs path j ≡ n)
node_found [] n h l = absurd (omega (arith, l))
node_found (c ∷ cs) n h l = by (n % m) refl (λ k b. node_found cs k some.1 b)
  where
    w : ℕ
    w = ways cs

    m : ℕ
    m = suc (nodes_of cs)

    d : ℕ
    d = n / m

    some : (0 < c) × (0 < w)
    some = product_parts c w h

    whole : n ≡ d * m + n % m
    whole = omega (arith, div-add-mod n m, mul_comm m (n / m))

    high : d < c
    high = grind (arith, d, m, whole, cases_lt, mul-le-mul_right)

    -- the first place of the path
    place : (x : ℕ) → x < w → (d * w + x) / w % c ≡ d
    place x less = ap (λ k. k % c) (div-mul-add d w x less) ∙ mod-eq_of_lt high

    below : (x : ℕ) → x < w → d * w + x < c * w
    below x less = let z = mul-add-lt d w x c high less in omega (arith, z, mul_comm c w)

    by : (r : ℕ) → n % m ≡ r → ((k : ℕ) → k < nodes_of cs → (path : ℕ) × (j : ℕ) × (path < w) × (j < length cs) × (node_of cs path j ≡ k))
        → (path : ℕ) × (j : ℕ) × (path < c * w) × (j < suc (length cs)) × (node_of (c ∷ cs) path j ≡ n)
    by zero e later = (d * w + 0, 0, below 0 some.1, omega arith, ap (λ k. k * m) (place 0 some.1) ∙ omega (arith, whole, e))
    by (suc r) e later =
        let less : r < nodes_of cs = (let z : n % m < m = omega arith in omega (arith, z, e)) in
        let f = later r less in
        let x : ℕ = f.0 in
        let is : node_of cs (d * w + x) f.1 ≡ r = node_low cs d x f.1 some.1 ∙ f.4 in
        let first : (d * w + x) / w % c ≡ d = place x f.2 in
        let found : (d * w + x) / w % c * m + suc (node_of cs (d * w + x) f.1) ≡ n = (let z : (d * w + x) / w % c * m ≡ d * m = ap (λ k. k * m) first in omega (arith, z, is, whole, e)) in
        (d * w + x, suc f.1, below x f.2, omega (arith, f.3), found)

pub nodes_reached : NodesReached
nodes_reached t n some l =
    let is : paths t ≡ ways (radices t) = paths_ways t 0 some in
    let f = node_found (radices t) n (omega (arith, is, some)) l in
    (f.0, f.1, omega (arith, f.2, is), omega (arith, f.3, length-map (starts t) (λ (a : ℕ). choices t (rounds_at t a))), f.4)
