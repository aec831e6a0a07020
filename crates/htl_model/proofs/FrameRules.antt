-- What divides a frame, and what the form rules say of its limits.
use Rattle.std.proofs.Common.{◌≡◌, ℕ, zero, suc, ◌*◌, ◌/◌, ◌%◌, ◌<◌, List, [], ◌∷◌, length, map, get_or, slice_get, Bool, true, false, cond, ltb, Option, Some, None, option_map, refl, sym, ap, ◌∙◌, arith}
use Rattle.std.specs.Prelude.{◌≤◌, ◌+◌, ◌-◌}
use Rattle.htl_model.proofs.Words.{eqb-true, slice_get-get_or, mul-div_assoc, dvd-mul_left, mod_self, dvd_trans, dvd_of_mod-eq-zero, mod-eq-zero_of_dvd, Mode, breach, BreaksAt, Broken, KeptTo, FrameLimits, Part, Itself, Input, Output, Test, Site, KeptApart, gcd_in, common_multiple, multiple_of, frame_of, unit_period, too_long, other_limit, frame_limit, first_mode, AreInRange, is_root, root_modules, modes_of, mode_of_module, Tables}
use Rattle.htl_model.proofs.{Divisors.greatest_divisor, FrameBuild.frame_is_multiple, FrameLimits.with_unit, LimitCode.limit_none, LimitCode.limit_long, LimitCode.limit_rest}
use Rattle.htl_model.proofs.SelectionLaws.{modes_some, places_below, place_passes_0}

-- ---- what divides the frame

common_right : (a b : ℕ) → common_multiple a b % b ≡ 0
common_right a b = mod-eq-zero_of_dvd b (dvd-mul_left b (a / gcd_in (suc b) a b))

common_left : (a b : ℕ) → common_multiple a b % a ≡ 0
common_left a b =
    let g = gcd_in (suc b) a b in
    let d = greatest_divisor a b in
    let e : a / g * b ≡ b / g * a = swap (a / g) b ∙ sym (mul-div_assoc g b d.0) ∙ ap (λ n. n / g) (swap b a) ∙ mul-div_assoc g a d.1 ∙ swap a (b / g) in
    ap (λ n. n % a) e ∙ mod-eq-zero_of_dvd a (dvd-mul_left a (b / g))
  where
    swap : (x y : ℕ) → x * y ≡ y * x
    swap x y = grind arith

through : (a b c : ℕ) → b % a ≡ 0 → c % b ≡ 0 → c % a ≡ 0
through a b c e f = mod-eq-zero_of_dvd a (dvd_trans a (dvd_of_mod-eq-zero a e) (dvd_of_mod-eq-zero b f))

multiple_left : (m : ℕ) (ps : List ℕ) → multiple_of m ps % m ≡ 0
multiple_left m [] = mod_self m
multiple_left m (p ∷ ps) = through m (common_multiple m p) (multiple_of (common_multiple m p) ps) (common_left m p) (multiple_left (common_multiple m p) ps)

multiple_each : (m : ℕ) (f : ℕ → ℕ) (us : List ℕ) (j : ℕ) → j < length us → multiple_of m (map f us) % f (get_or us j 0) ≡ 0
multiple_each m f [] j l = absurd (omega (arith, l))
multiple_each m f (u ∷ us) zero l = through (f u) (common_multiple m (f u)) (multiple_of (common_multiple m (f u)) (map f us)) (common_right m (f u)) (multiple_left (common_multiple m (f u)) (map f us))
multiple_each m f (u ∷ us) (suc j) l = multiple_each (common_multiple m (f u)) f us j (omega (arith, l))

pub frame_divided : (t : Tables) (j : ℕ) → j < length (root_modules t) → frame_of t % unit_period t (get_or (root_modules t) j 0) ≡ 0
frame_divided t j l =
    let p = unit_period t (get_or (root_modules t) j 0) in
    ap (λ n. n % p) (frame_is_multiple t (omega (arith, l))) ∙ (multiple_each 1 (unit_period t) (root_modules t) j l)

-- ---- the limits of frames

-- the module at which a limit is exceeded is a root module
long_among : (t : Tables) (m : ℕ) (us : List ℕ) (x : ℕ × ℕ) → too_long t m us ≡ Some x → (j : ℕ) × (slice_get us j ≡ Some x.0)
long_among t m [] x e = cc
long_among t m (u ∷ us) x e = by (ltb 1000000 n) (λ f. long_among t n us x f) e
  where
    n : ℕ
    n = common_multiple m (unit_period t u)

    by : (b : Bool) → (too_long t n us ≡ Some x → (j : ℕ) × (slice_get us j ≡ Some x.0)) → cond b (Some (u, n)) (too_long t n us) ≡ Some x → (j : ℕ) × (slice_get (u ∷ us) j ≡ Some x.0)
    by true later f = (0, let same : (u, n) ≡ x = cc in ap (λ (y : ℕ × ℕ). Some y.0) same)
    by false later f = let h = later f in (suc h.0, h.1)

of_unit : (v u h n : ℕ) (o : Option (ℕ × ℕ)) → option_map (with_unit v) o ≡ Some (u, (h, n)) → v ≡ u
of_unit v u h n (Some p) e = let is : Some (v, p) ≡ Some (u, (h, n)) = e in let both : (v, p) ≡ (u, (h, n)) = cc in ap (λ (y : ℕ × (ℕ × ℕ)). y.0) both
of_unit v u h n None e = absurd (let no : None ≡ Some (u, (h, n)) = e in cc)

pub limit_among : (t : Tables) (u h n : ℕ) → frame_limit t ≡ Some (u, (h, n)) → (j : ℕ) × (slice_get (root_modules t) j ≡ Some u)
limit_among t u h n e = by (root_modules t) refl (too_long t 1 (root_modules t)) refl
  where
    by : (us : List ℕ) → us ≡ root_modules t → (o : Option (ℕ × ℕ)) → too_long t 1 (root_modules t) ≡ o → (j : ℕ) × (slice_get (root_modules t) j ≡ Some u)
    by [] roots o long = grind (arith, limit_none, n)
    by (v ∷ us) roots (Some x) long = grind (arith, n, limit_long, long_among)
    by (v ∷ us) roots None long =
        let some : 0 < length (root_modules t) = omega (arith, ap (λ (vs : List ℕ). length vs) roots) in
        let j : ℕ = length (root_modules t) - 1 in
        let same : get_or (root_modules t) j 0 ≡ u = of_unit (get_or (root_modules t) j 0) u h n (other_limit t) (sym (limit_rest t (root_modules t) refl some long) ∙ e) in
        (j, slice_get-get_or (root_modules t) j 0 (omega (arith, some)) ∙ ap (λ (y : ℕ). Some y) same)

-- it has a first mode, which is one of its own
pub first_own : (t : Tables) (u : ℕ) → AreInRange t → u < length t.modules
    → (m : ℕ) × (x : Mode) × (first_mode t u ≡ Some m) × (slice_get t.modes m ≡ Some x) × (x.«module» ≡ u)
first_own t u r below =
    let m : ℕ = get_or (modes_of t u) 0 0 in
    let first : slice_get (modes_of t u) 0 ≡ Some m = slice_get-get_or (modes_of t u) 0 0 (modes_some t u r below) in
    let y = place_passes_0 (mode_of_module u) 0 m t.modes first in
    (m, y.0, first, y.1, eqb-true y.0.«module» u y.2)

-- Tables that keep form rule 2 exceed no limit of frames.
pub frames_kept : (t : Tables) (last : ℕ) → AreInRange t → 2 ≤ last → KeptTo t last → frame_limit t ≡ None
frames_kept t last r few kept = by (frame_limit t) refl
  where
    by : (o : Option (ℕ × (ℕ × ℕ))) → frame_limit t ≡ o → frame_limit t ≡ None
    by None e = e
    by (Some p) e =
        let u : ℕ = p.0 in
        let root = limit_among t u p.1.0 p.1.1 e in
        let f = first_own t u r (let z : u < 0 + length t.modules = places_below is_root 0 root.0 u t.modules root.1 in omega (arith, z)) in
        let limit : frame_limit t ≡ Some (f.1.«module», (p.1.0, p.1.1)) = e ∙ ap (λ (v : ℕ). Some (v, (p.1.0, p.1.1))) (sym f.4) in
        absurd (kept FrameLimits (record { mode = f.0; inv = None; part = Itself }) p.1.0 p.1.1 few (f.1, f.3, record { first = ap (first_mode t) f.4 ∙ f.2; limit = limit }))

-- where none is exceeded the rule is broken nowhere
pub frames_unbroken : (t : Tables) → frame_limit t ≡ None → (s : Site) (h n : ℕ) → Broken t FrameLimits s h n → ⊥
frames_unbroken t none s h n broken = grind arith

-- Rules that are kept are kept but for that one.
pub kept_apart : (t : Tables) (last : ℕ) → KeptTo t last → KeptApart t last
kept_apart t last kept r s h n few other b = kept r s h n few b
