-- The limits of frames, as the code finds them.
use Rattle.std.proofs.Common.{◌≡◌, ℕ, ◌+◌, ◌-◌, ◌≤◌, ◌<◌, true, false, cond, ltb, min, List, [], ◌∷◌, ◌++◌, take, length, map, get_or, Some, None, option_map, refl, sym, ap, ◌∙◌, arith}
use Rattle.htl_model.proofs.Words.{nat_tests, flat_map, Round, unit_period, root_periods, starts_below, rounds_at, multiple_of, frame_of, starts, rounds, choices, most_positions, too_long, last_of, exceeds, or_else, frame_limit, other_limit, root_modules, Tables}
use Rattle.htl_model.proofs.{FrameBuild.frame_is_multiple, FrameBuild.front_is, FrameLimits.limit_by, FrameLimits.limit_of, FrameLimits.not_too_long, FrameLimits.with_unit}

-- ---- one limit

pub exceeded : (h n : ℕ) → n < h → exceeds h n ≡ Some (h, n)
exceeded h n l = let b : ltb n h ≡ true = grind (arith, nat_tests) in ap (λ c. cond c (Some (h, n)) None) b

pub not_exceeded : (h n : ℕ) → h ≤ n → exceeds h n ≡ None
not_exceeded h n l = let b : ltb n h ≡ false = grind (arith, nat_tests) in ap (λ c. cond c (Some (h, n)) None) b

-- behind the limit on starts
paths_are : (t : Tables) → length (starts t) ≤ 32 → other_limit t ≡ or_else (exceeds (min (choices t (rounds t)) 4294967295) 1024) (exceeds (most_positions t (rounds t)) 128)
paths_are t s = ap (λ o. or_else o (or_else (exceeds (min (choices t (rounds t)) 4294967295) 1024) (exceeds (most_positions t (rounds t)) 128))) (not_exceeded (length (starts t)) 32 s)

pub paths_over : (t : Tables) (h : ℕ) → length (starts t) ≤ 32 → h ≡ min (choices t (rounds t)) 4294967295 → 1024 < h → Some (h, 1024) ≡ other_limit t
paths_over t h s e l = grind (arith, paths_are, exceeded)

pub rest_is : (t : Tables) → length (starts t) ≤ 32 → min (choices t (rounds t)) 4294967295 ≤ 1024 → other_limit t ≡ exceeds (most_positions t (rounds t)) 128
rest_is t s c = paths_are t s ∙ ap (λ o. or_else o (exceeds (most_positions t (rounds t)) 128)) (not_exceeded (min (choices t (rounds t)) 4294967295) 1024 c)

-- ---- all limits

last_is : (u : ℕ) (us : List ℕ) → last_of u us ≡ get_or (u ∷ us) (length us) 0
last_is u [] = refl
last_is u (v ∷ vs) = last_is v vs

pub limit_none : (t : Tables) → length (root_modules t) ≡ 0 → frame_limit t ≡ None
limit_none t e = grind arith

pub limit_long : (t : Tables) (us : List ℕ) (x : ℕ × ℕ) → us ≡ root_modules t → too_long t 1 us ≡ Some x → frame_limit t ≡ Some (x.0, (x.1, 1000000))
limit_long t us x e f = grind arith

pub limit_rest : (t : Tables) (us : List ℕ) → us ≡ root_modules t → 0 < length us → too_long t 1 us ≡ None → frame_limit t ≡ option_map (with_unit (get_or us (length us - 1) 0)) (other_limit t)
limit_rest t us e l f = grind (arith, last_is)

-- ---- the frame

pub frame_told : (t : Tables) (us : List ℕ) (m : ℕ) → us ≡ root_modules t → 0 < length (root_modules t) → m ≡ multiple_of 1 (map (unit_period t) us) → m ≡ frame_of t
frame_told t us m e some f = f ∙ ap (λ vs. multiple_of 1 (map (unit_period t) vs)) e ∙ sym (frame_is_multiple t some)

pub frame_short : (t : Tables) (us : List ℕ) (m : ℕ) → too_long t 1 us ≡ None → m ≡ multiple_of 1 (map (unit_period t) us) → m ≤ 1000000
frame_short t us m e f = omega (arith, f, not_too_long t 1 us (omega arith) e)

-- ---- the rounds that the code lists

pub starts_same : (t : Tables) (us : List ℕ) (h : ℕ) → us ≡ root_modules t → h ≡ frame_of t → starts_below (map (unit_period t) us) h ≡ starts t
starts_same t us h e f = ap (λ vs. starts_below (map (unit_period t) vs) h) e ∙ ap (starts_below (root_periods t)) f

pub few_starts : (t : Tables) (us : List ℕ) (h many : ℕ) → us ≡ root_modules t → h ≡ frame_of t → many ≡ length (starts_below (map (unit_period t) us) h) → many ≡ length (starts t)
few_starts t us h many e f n = n ∙ ap (λ (xs : List ℕ). length xs) (starts_same t us h e f)

pub rounds_same : (t : Tables) (us : List ℕ) (h n k : ℕ) (out : List ℕ) (rs : List Round) → us ≡ root_modules t → h ≡ frame_of t → take (n + 1) out ≡ starts_below (map (unit_period t) us) h ++ h ∷ [] → n ≡ length (starts_below (map (unit_period t) us) h)
    → take k rs ≡ flat_map (rounds_at t) (take n out) → take k rs ≡ rounds t
rounds_same t us h n k out rs e f whole count is = grind (arith, front_is, starts_same)
