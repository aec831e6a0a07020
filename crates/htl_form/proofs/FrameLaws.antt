-- The test of the limits of frames finds exactly what the words say.
use Rattle.std.proofs.Common.{◌≡◌, ◌<◌, ℕ, ◌+◌, Bool, true, false, cond, length, get_or, slice_get, Option, Some, None, refl, sym, ◌∙◌, ap, arith}
use Rattle.htl_form.proofs.Words.{eqb-true, eq-eqb, get_or_from_slice_get, Mode, Found, frame_limit, first_mode, FrameExceeds, AreInRange, is_root, modes_of, Tables, limit_among, first_own, places_below, is_first_of, frame_fault}
use Rattle.htl_form.proofs.Finding.{Finds}

-- what is found where the limit is this
abbrev fault_in : Tables → ℕ → Option (ℕ × (ℕ × ℕ)) → Found
fault_in t m o = elim o as (λ _. Found) [ Some x ↦ cond (is_first_of t x.0 m) (Some x.1) None | None ↦ None ]

-- it is found at the first mode
fault_taken : (t : Tables) (m h n : ℕ) (o : Option (ℕ × (ℕ × ℕ))) → fault_in t m o ≡ Some (h, n) → (u : ℕ) × (o ≡ Some (u, (h, n))) × (get_or (modes_of t u) 0 0 ≡ m)
fault_taken t m h n None e = absurd (let no : None ≡ Some (h, n) = e in cc)
fault_taken t m h n (Some x) e = by (is_first_of t x.0 m) refl e
  where
    by : (b : Bool) → is_first_of t x.0 m ≡ b → cond b (Some x.1) None ≡ Some (h, n) → (u : ℕ) × (◌≡◌ {A = Option (ℕ × (ℕ × ℕ))} (Some x) (Some (u, (h, n)))) × (get_or (modes_of t u) 0 0 ≡ m)
    by true is f = let same : x.1 ≡ (h, n) = cc in (x.0, ap (λ (y : ℕ × ℕ). Some (x.0, y)) same, eqb-true (get_or (modes_of t x.0) 0 0) m is)
    by false is f = absurd (let no : None ≡ Some (h, n) = f in cc)

pub frame_fault_is : (t : Tables) → AreInRange t → (m : ℕ) (x : Mode) → slice_get t.modes m ≡ Some x → Finds (frame_fault t m) (FrameExceeds t m x)
frame_fault_is t range m x at = record { says = said; finds = found }
  where
    said : (h n : ℕ) → frame_fault t m ≡ Some (h, n) → FrameExceeds t m x h n
    said h n e =
        let p = fault_taken t m h n (frame_limit t) e in
        let u : ℕ = p.0 in
        let root = limit_among t u h n p.1 in
        let f = first_own t u range (let z : u < 0 + length t.modules = places_below is_root 0 root.0 u t.modules root.1 in let y : u < length t.modules = omega (arith, z) in y) in
        let same : f.0 ≡ m = sym (get_or_from_slice_get (modes_of t u) 0 f.0 0 f.2) ∙ p.2 in
        let both : Some f.1 ≡ Some x = sym f.3 ∙ ap (slice_get t.modes) same ∙ at in
        let mode : f.1 ≡ x = cc in
        let own : u ≡ x.«module» = sym f.4 ∙ ap (λ (y : Mode). y.«module») mode in
        record { first = sym (ap (first_mode t) own) ∙ f.2 ∙ ap (λ (k : ℕ). Some k) same; limit = p.1 ∙ ap (λ (v : ℕ). Some (v, (h, n))) own }

    found : (h n : ℕ) → FrameExceeds t m x h n → frame_fault t m ≡ Some (h, n)
    found h n p =
        let is : is_first_of t x.«module» m ≡ true = eq-eqb (get_or (modes_of t x.«module») 0 0) m (get_or_from_slice_get (modes_of t x.«module») 0 m 0 p.first) in
        ap (fault_in t m) p.limit ∙ ap (λ (b : Bool). cond b (Some (h, n)) None) is
