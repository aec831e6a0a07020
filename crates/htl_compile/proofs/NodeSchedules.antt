-- The schedules of all nodes: each node is that of a path behind a start, and the parts of paths through one node are the same.
use Rattle.std.proofs.Common.{◌≡◌, ◌<◌, ◌≤◌, ℕ, zero, suc, ◌+◌, ◌-◌, ◌*◌, ◌/◌, ◌%◌, Bool, true, false, cond, ◌&&◌, eqb, List, [], ◌∷◌, ◌++◌, length, length-append, map, drop, get_or, Option, Some, None, All, ⊎_elim, refl, sym, ◌∙◌, ap, subst, arith}
use Rattle.htl_edf.proofs.Walking.{instrs_many}
use Rattle.htl_compile.proofs.Words.{mul_assoc, mul_comm, div-lt_iff_lt-mul, cases_Bool, length-map, div-add-mod', div-mul-add, mod-mul-add, mul-add-lt, through, node_schedule, schedules, from_none, from_more, depth_same, one_list_of_node, slice_instrs, Slice, longer, edf, tightened, AreReady, AreNodeLists, slices_from, part, rounds_have, choices_some, choices_starts, limits_kept, length-list_to, get_list_to, frame_of, root_periods, begins, frame_limit, multiple_of, unit_period, starts_below, starts, rounds, rounds_at, choices, paths, radices, ways, nodes_of, nodes, node_of, node, AreInRange, root_modules, Tables, IsShort, list_read, nodes_within, start_at, start_end_at, instrs_of, path_jobs, next_of, Job, End, Schedule, product_parts}

-- ---- the node of a number

-- a path behind a start has this number, whatever stands before it in the number of the path
record IsThrough (cs : List ℕ) (n : ℕ) (x : ℕ × ℕ) : Type 0 where
  path : x.0 < ways cs
  start : x.1 < length cs
  is : (d : ℕ) → node_of cs (d * ways cs + x.0) x.1 ≡ n

right_dist : (a b m : ℕ) → (a + b) * m ≡ a * m + b * m
right_dist a b m = grind arith

module _ (c : ℕ) (cs : List ℕ) (n : ℕ) (some : 0 < c * ways cs) (less : n < c * suc (nodes_of cs)) where
  abbrev q : ℕ
  q = n / suc (nodes_of cs)

  wide : 0 < ways cs
  wide = (product_parts c (ways cs) some).1

  within : q < c
  within = (div-lt_iff_lt-mul (omega arith)).1 less

  high : (d : ℕ) → d * (c * ways cs) + q * ways cs ≡ (d * c + q) * ways cs
  high d = ap (λ z. z + q * ways cs) (sym (mul_assoc d c (ways cs))) ∙ sym (right_dist (d * c) q (ways cs))

  -- a path whose number goes on so behind the first start chooses q there
  chosen : (d p : ℕ) → p < ways cs → (d * (c * ways cs) + (q * ways cs + p)) / ways cs % c ≡ q
  chosen d p small =
      let moved : d * (c * ways cs) + (q * ways cs + p) ≡ (d * c + q) * ways cs + p = omega (arith, high d) in
      ap (λ z. z / ways cs % c) moved ∙ ap (λ z. z % c) (div-mul-add (d * c + q) (ways cs) p small) ∙ mod-mul-add d c q within

  below : (p : ℕ) → p < ways cs → q * ways cs + p < c * ways cs
  below p small = omega (arith, mul-add-lt q (ways cs) p c within small, mul_comm c (ways cs))

  here : n % suc (nodes_of cs) ≡ 0 → IsThrough (c ∷ cs) n (q * ways cs, 0)
  here e =
      let whole : q * suc (nodes_of cs) + n % suc (nodes_of cs) ≡ n = div-add-mod' n (suc (nodes_of cs)) in
      let plus : (d : ℕ) → d * (c * ways cs) + q * ways cs ≡ d * (c * ways cs) + (q * ways cs + 0) = λ d. omega arith in
      record {
        path = omega (arith, below 0 wide);
        start = omega arith;
        is = λ d.
            ap (λ z. z / ways cs % c * suc (nodes_of cs)) (plus d) ∙ ap (λ z. z * suc (nodes_of cs)) (chosen d 0 wide) ∙ omega (arith, whole, e);
      }

  later : (r : ℕ) (x : ℕ × ℕ) → n % suc (nodes_of cs) ≡ suc r → IsThrough cs r x → IsThrough (c ∷ cs) n (q * ways cs + x.0, suc x.1)
  later r x e h =
      let whole : q * suc (nodes_of cs) + n % suc (nodes_of cs) ≡ n = div-add-mod' n (suc (nodes_of cs)) in
      let rest : (d : ℕ) → node_of cs (d * (c * ways cs) + (q * ways cs + x.0)) x.1 ≡ r = λ d.
      (let moved : d * (c * ways cs) + (q * ways cs + x.0) ≡ (d * c + q) * ways cs + x.0 = omega (arith, high d) in ap (λ z. node_of cs z x.1) moved ∙ h.is (d * c + q)) in
      record {
        path = below x.0 h.path;
        start = omega (arith, h.start);
        is = λ d.
            ap (λ z. z * suc (nodes_of cs) + suc (node_of cs (d * (c * ways cs) + (q * ways cs + x.0)) x.1)) (chosen d x.0 h.path)
            ∙ ap (λ z. q * suc (nodes_of cs) + suc z) (rest d) ∙ omega (arith, whole, e);
      }

through_is : (cs : List ℕ) (n : ℕ) → 0 < ways cs → n < nodes_of cs → IsThrough cs n (through cs n)
through_is [] n some less = absurd (omega (arith, less))
through_is (c ∷ cs) n some less = by (n % suc (nodes_of cs)) refl (λ r low. through_is cs r (wide c cs n some less) low)
  where
    by : (r : ℕ) → n % suc (nodes_of cs) ≡ r → ((s : ℕ) → s < nodes_of cs → IsThrough cs s (through cs s))
        → IsThrough (c ∷ cs) n (elim r as (λ _. ℕ × ℕ) [ zero ↦ (n / suc (nodes_of cs) * ways cs, 0) | suc s ↦ (n / suc (nodes_of cs) * ways cs + (through cs s).0, suc (through cs s).1) ])
    by zero e all = here c cs n some less e
    by (suc r) e all =
        let inside : n % suc (nodes_of cs) < suc (nodes_of cs) = omega arith in
        later c cs n some less r (through cs r) e (all r (omega (arith, inside, e)))

none_before : (w x : ℕ) → x ≡ 0 * w + x
none_before w x = omega arith

-- ---- of the nodes of tables

module _ (t : Tables) (range : AreInRange t) where
  some_ways : 0 < ways (radices t)
  some_ways = omega (arith, choices_some t (rounds t) (rounds_have t range), choices_starts t (starts t))

  by_roots : (us : List ℕ) → root_modules t ≡ us → 0 < length (starts t) → paths t ≡ ways (radices t)
  by_roots [] none some = absurd (omega (arith, some, ap length (no_starts none)))
    where
      no_starts : root_modules t ≡ [] → starts t ≡ []
      no_starts e =
          ap (λ (vs : List ℕ). starts_below (map (unit_period t) vs) (elim (elim (map (unit_period t) vs) as (λ _. Option ℕ) [ [] ↦ None | p ∷ ps ↦ Some (multiple_of p ps) ]) as (λ _. ℕ) [ Some h ↦ h | None ↦ 0 ])) e
  by_roots (u ∷ us) at some = ap (λ (vs : List ℕ). elim vs as (λ _. ℕ) [ [] ↦ 0 | v ∷ ws ↦ choices t (rounds t) ]) at ∙ choices_starts t (starts t)

  -- the path and the start of a node
  record IsOf (n : ℕ) : Type 0 where
    path : (through (radices t) n).0 < paths t
    start : (through (radices t) n).1 < length (starts t)
    is : node t (through (radices t) n).0 (through (radices t) n).1 ≡ n

  node_is : (n : ℕ) → n < nodes t → IsOf n
  node_is n less =
      let h = through_is (radices t) n some_ways less in
      let start : (through (radices t) n).1 < length (starts t) = omega (arith, h.start, length-map (starts t) (λ a. choices t (rounds_at t a))) in
      record { path = omega (arith, h.path, by_roots (root_modules t) refl (omega (arith, start))); start = start; is = ap (λ z. node_of (radices t) z (through (radices t) n).1) (none_before (ways (radices t)) (through (radices t) n).0) ∙ h.is 0 }

  no_schedule : Schedule
  no_schedule = record { instrs = [] }

  listed : (n : ℕ) → n < nodes t → get_or (instrs_of (schedules t)) n [] ≡ (node_schedule t n).instrs
  listed n less =
      sym (list_read (schedules t) no_schedule n (omega (arith, less, length-list_to (node_schedule t) (nodes t))))
      ∙ ap (λ (s : Schedule). s.instrs) (get_list_to (node_schedule t) (nodes t) n no_schedule less)

  -- each node of a path has the path's part
  pub node_lists : AreReady t → AreNodeLists t (instrs_of (schedules t))
  node_lists ready path j below l =
      let n = node t path j in
      let less : n < nodes t = nodes_within t path j below l in
      let of = node_is n less in
      let p : ℕ = (through (radices t) n).0 in
      let i : ℕ = (through (radices t) n).1 in
      let same : i ≡ j = depth_same (radices t) p path i j some_ways (in_radices i of.start) (in_radices j l) of.is in
      let there : node t p j ≡ n = ap (node t p) (sym same) ∙ of.is in
      listed n less ∙ ap (λ (k : ℕ). part (path_jobs t p) (start_at t k) (start_end_at t k)) same
      ∙ one_list_of_node t p path j (ready.each p of.path).order (ready.each path below).order of.path below l there
    where
      in_radices : (k : ℕ) → k < length (starts t) → k < length (radices t)
      in_radices k h = omega (arith, h, length-map (starts t) (λ a. choices t (rounds_at t a)))

  -- these are the only lists of all nodes
  pub only_lists : (ss : List Schedule) → length ss ≡ nodes t → AreNodeLists t (instrs_of ss) → (k : ℕ) → k < nodes t → get_or (instrs_of ss) k [] ≡ (node_schedule t k).instrs
  only_lists ss count lists k less = let of = node_is k less in ap (λ (n : ℕ). get_or (instrs_of ss) n []) (sym of.is) ∙ lists (through (radices t) k).0 (through (radices t) k).1 of.path of.start

-- ---- how long they are

from_short : (run : ℕ → Option ℕ) (a n : ℕ) → length (slices_from run a n) ≤ n
from_short run a zero = omega (arith, ap length (from_none run a))
from_short run a (suc n) = omega (arith, ap length (from_more run a n), longer_short (run (a + n)) (a + n) (slices_from run a n), from_short run a n)
  where
    longer_short : (o : Option ℕ) (x : ℕ) (ss : List Slice) → length (longer o x ss) ≤ suc (length ss)
    longer_short None x ss = omega arith
    longer_short (Some p) x [] = omega arith
    longer_short (Some p) x (s ∷ ss) = ⊎_elim (λ e. rw e (omega arith)) (λ e. rw e (omega arith)) (cases_Bool (eqb p s.position && eqb s.end x))

part_short : (js : List Job) (a b : ℕ) → length (part js a b) ≤ b + 1
part_short js a b =
    let ss = slices_from (edf (tightened js)) a (b - a) in
    omega (arith, length-append (slice_instrs ss) (End ∷ []), instrs_many ss, from_short (edf (tightened js)) a (b - a))

AllMost : ℕ → List ℕ → Type 0
AllMost h [] = Unit {0}
AllMost h (x ∷ xs) = (x ≤ h) × AllMost h xs

most_more : (m n : ℕ) (xs : List ℕ) → m ≤ n → AllMost m xs → AllMost n xs
unfolding AllMost
most_more m n [] h a = tt
most_more m n (x ∷ xs) h a = (omega (arith, h, a.0), most_more m n xs h a.1)

most_append : (n : ℕ) (xs ys : List ℕ) → AllMost n xs → AllMost n ys → AllMost n (xs ++ ys)
unfolding AllMost
most_append n [] ys a b = b
most_append n (x ∷ xs) ys a b = (a.0, most_append n xs ys a.1 b)

starts_most : (ps : List ℕ) (n : ℕ) → AllMost n (starts_below ps n)
unfolding AllMost
starts_most ps zero = tt
starts_most ps (suc n) = most_append (suc n) (starts_below ps n) (cond (begins ps n) (n ∷ []) []) (most_more n (suc n) (starts_below ps n) (omega arith) (starts_most ps n)) (by (begins ps n))
  where
    by : (b : Bool) → AllMost (suc n) (cond b (n ∷ []) [])
    by true = (omega arith, tt)
    by false = tt

next_most : (h k : ℕ) (xs : List ℕ) → AllMost h xs → next_of h (drop k xs) ≤ h
unfolding AllMost
next_most h zero [] a = omega arith
next_most h zero (x ∷ xs) a = a.0
next_most h (suc k) [] a = omega arith
next_most h (suc k) (x ∷ xs) a = next_most h k xs a.1

-- a frame is at most a million ticks long, and no list is longer
pub schedules_short : (t : Tables) → AreInRange t → frame_limit t ≡ None → All IsShort (schedules t)
schedules_short t range limit = λ k d less.
    let below : k < nodes t = omega (arith, less, length-list_to (node_schedule t) (nodes t)) in
    let x = through (radices t) k in
    let end : start_end_at t x.1 ≤ frame_of t = next_most (frame_of t) (suc x.1) (starts t) (starts_most (root_periods t) (frame_of t)) in
    let most : length (node_schedule t k).instrs ≤ 4294967295 = omega (arith, part_short (path_jobs t x.0) (start_at t x.1) (start_end_at t x.1), end, (limits_kept t range limit).frame) in
    subst (λ (s : Schedule). IsShort s) (sym (get_list_to (node_schedule t) (nodes t) k d below)) most
