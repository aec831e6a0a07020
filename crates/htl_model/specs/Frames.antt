-- Frames: the rounds of root modules of different periods, up to the least common multiple of these.
use Rattle.std.specs.Prelude.{◌≤◌, ℕ, zero, suc, ◌+◌, ◌*◌, ◌/◌, ◌%◌, Bool, cond, ◌&&◌, eqb, leb, ltb, max, min, List, [], ◌∷◌, ◌++◌, length, get_or, slice_get, map, Option, Some, None, option_map}
use Rattle.std.specs.List.{flat_map, list_any}
use Rattle.htl_base.specs.declared.limits.TheConstants.{MAX_FRAME, MAX_STARTS, MAX_PATHS, MAX_POSITIONS}
use Rattle.htl_model.specs.{declared.frame.Round.Round, declared.frame.Place.Place, First.or_else, Functions.of_bool, Tables.Tables, Tables.mode_period, Selections.root_modules, Selections.modes_of, Selections.invs_of}

-- ---- the frame

abbrev pub unit_start : Tables → ℕ → ℕ
unit_start t u = elim (slice_get t.modules u) [ Some x ↦ x.start | None ↦ 0 ]

-- the period of a root module is that of its start mode
abbrev pub unit_period : Tables → ℕ → ℕ
unit_period t u = mode_period t (unit_start t u)

abbrev pub root_periods : Tables → List ℕ
root_periods t = map (unit_period t) (root_modules t)

-- the greatest common divisor, in n steps at most
abbrev pub gcd_in : ℕ → ℕ → ℕ → ℕ
gcd_in zero a b = a
gcd_in (suc n) a zero = a
gcd_in (suc n) a (suc b) = gcd_in n (suc b) (a % suc b)

abbrev pub common_multiple : ℕ → ℕ → ℕ
common_multiple a b = a / gcd_in (suc b) a b * b

-- the least common multiple of a number and of those of a list
abbrev pub multiple_of : ℕ → List ℕ → ℕ
multiple_of m [] = m
multiple_of m (p ∷ ps) = multiple_of (common_multiple m p) ps

-- the hyperperiod; none without modules
abbrev pub hyper : Tables → Option ℕ
hyper t = elim (root_periods t) [ [] ↦ None | p ∷ ps ↦ Some (multiple_of p ps) ]

abbrev pub frame_of : Tables → ℕ
frame_of t = elim (hyper t) [ Some h ↦ h | None ↦ 0 ]

-- some round begins at x
abbrev pub begins : List ℕ → ℕ → Bool
begins ps x = list_any (λ p. eqb (x % p) 0) ps

-- the instants below n at which a round begins
abbrev pub starts_below : List ℕ → ℕ → List ℕ
starts_below ps zero = []
starts_below ps (suc n) = starts_below ps n ++ cond (begins ps n) (n ∷ []) []

abbrev pub starts : Tables → List ℕ
starts t = starts_below (root_periods t) (frame_of t)

-- ---- rounds

abbrev pub rounds_of : Tables → ℕ → List ℕ → List Round
rounds_of t a [] = []
rounds_of t a (u ∷ us) = let rest = rounds_of t a us in cond (eqb (a % unit_period t u) 0) (record { at = a; unit = u } ∷ rest) rest

-- the rounds that begin at a start, by module
abbrev pub rounds_at : Tables → ℕ → List Round
rounds_at t a = rounds_of t a (root_modules t)

-- those of a frame, by start and then by module
abbrev pub rounds : Tables → List Round
rounds t = flat_map (rounds_at t) (starts t)

-- ---- paths

-- the choices of modes for some rounds
abbrev pub choices : Tables → List Round → ℕ
choices t [] = 1
choices t (r ∷ rs) = length (modes_of t r.unit) * choices t rs

-- the number of paths; none without modules
abbrev pub paths : Tables → ℕ
paths t = elim (root_modules t) [ [] ↦ 0 | u ∷ us ↦ choices t (rounds t) ]

-- the mode of a round in a path, where these rounds come behind it: the first round is the most significant place
abbrev pub mode_in : Tables → ℕ → Round → List Round → ℕ
mode_in t path r rs = get_or (modes_of t r.unit) (path / choices t rs % length (modes_of t r.unit)) 0

-- the mode of the round of module u that begins at a
abbrev pub mode_from : Tables → ℕ → ℕ → ℕ → List Round → ℕ
mode_from t path u a [] = 0
mode_from t path u a (r ∷ rs) = cond (eqb r.unit u && eqb r.at a) (mode_in t path r rs) (mode_from t path u a rs)

-- the mode of root module u at start j: that of its last round that has begun
abbrev pub path_mode : Tables → ℕ → ℕ → ℕ → ℕ
path_mode t path j u = let p = unit_period t u in mode_from t path u (get_or (starts t) j 0 / p * p) (rounds t)

-- ---- nodes

-- the choices at each start
abbrev pub radices : Tables → List ℕ
radices t = map (λ a. choices t (rounds_at t a)) (starts t)

abbrev pub ways : List ℕ → ℕ
ways [] = 1
ways (c ∷ cs) = c * ways cs

-- how many nodes there are with so many choices at each start
abbrev pub nodes_of : List ℕ → ℕ
nodes_of [] = 0
nodes_of (c ∷ cs) = c * suc (nodes_of cs)

abbrev pub nodes : Tables → ℕ
nodes t = nodes_of (radices t)

-- the node of a path after start j, in preorder
abbrev pub node_of : List ℕ → ℕ → ℕ → ℕ
node_of [] path j = 0
node_of (c ∷ cs) path zero = path / ways cs % c * suc (nodes_of cs)
node_of (c ∷ cs) path (suc j) = path / ways cs % c * suc (nodes_of cs) + suc (node_of cs path j)

abbrev pub node : Tables → ℕ → ℕ → ℕ
node t path j = node_of (radices t) path j

-- ---- positions

abbrev pub places_of : ℕ → List ℕ → List Place
places_of a ks = map (λ k. record { inv = Some k; at = a }) ks

-- the positions of some rounds of a path, in the order of the source
abbrev pub places_in : Tables → ℕ → List Round → List Place
places_in t path [] = []
places_in t path (r ∷ rs) = places_of r.at (invs_of t (mode_in t path r rs)) ++ places_in t path rs

abbrev pub path_places : Tables → ℕ → List Place
path_places t path = places_in t path (rounds t)

-- the positions of rounds that begin at a or before
abbrev pub known_by : ℕ → List Place → ℕ
known_by a [] = 0
known_by a (x ∷ xs) = of_bool (leb x.at a) + known_by a xs

abbrev pub path_positions : Tables → ℕ → ℕ → ℕ
path_positions t path j = known_by (get_or (starts t) j 0) (path_places t path)

-- ---- limits

-- the greatest number of invocations in one of the modes
abbrev pub most_invs : Tables → List ℕ → ℕ
most_invs t [] = 0
most_invs t (m ∷ ms) = max (length (invs_of t m)) (most_invs t ms)

-- the greatest number of positions of a path
abbrev pub most_positions : Tables → List Round → ℕ
most_positions t [] = 0
most_positions t (r ∷ rs) = most_invs t (modes_of t r.unit) + most_positions t rs

-- the first of the modules up to which the multiple is too great, with the multiple
abbrev pub too_long : Tables → ℕ → List ℕ → Option (ℕ × ℕ)
too_long t m [] = None
too_long t m (u ∷ us) = let n = common_multiple m (unit_period t u) in cond (ltb MAX_FRAME n) (Some (u, n)) (too_long t n us)

abbrev pub last_of : ℕ → List ℕ → ℕ
last_of u [] = u
last_of u (v ∷ vs) = last_of v vs

-- what there is and what there may be, where there is more
abbrev pub exceeds : ℕ → ℕ → Option (ℕ × ℕ)
exceeds have need = cond (ltb need have) (Some (have, need)) None

-- the first limit that is exceeded behind the one on ticks
abbrev pub other_limit : Tables → Option (ℕ × ℕ)
other_limit t =
    or_else (exceeds (length (starts t)) MAX_STARTS)
    (or_else (exceeds (min (choices t (rounds t)) 4294967295) MAX_PATHS) (exceeds (most_positions t (rounds t)) MAX_POSITIONS))

-- the first limit of frames that is exceeded: the module, what it has and what it may have
abbrev pub frame_limit : Tables → Option (ℕ × (ℕ × ℕ))
frame_limit t = elim (root_modules t) [
  | [] ↦ None
  | u ∷ us ↦ elim (too_long t 1 (u ∷ us)) [ Some x ↦ Some (x.0, (x.1, MAX_FRAME)) | None ↦ option_map (λ o. (last_of u us, o)) (other_limit t) ]
]

-- what tables have where no limit of frames is exceeded
pub record KeepsFrames (t : Tables) : Type 0 where
  pub frame : frame_of t ≤ MAX_FRAME
  pub starts : length (starts t) ≤ MAX_STARTS
  pub paths : paths t ≤ MAX_PATHS
  pub choices : choices t (rounds t) ≤ MAX_PATHS
  pub most : most_positions t (rounds t) ≤ MAX_POSITIONS
  pub positions : (path : ℕ) → length (path_places t path) ≤ MAX_POSITIONS

-- ---- single positions

abbrev pub no_place : Place
no_place = record { inv = None; at = 0 }

abbrev pub number_or : Option ℕ → ℕ
number_or (Some k) = k
number_or None = 0
