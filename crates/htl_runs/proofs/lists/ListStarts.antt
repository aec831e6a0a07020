-- The starts of a frame: which list stands at an offset, and when the next begins.
use Rattle.std.proofs.Common.{◌≡◌, ℕ, zero, suc, ◌+◌, ◌≤◌, ◌<◌, ◌⊎◌, Bool, true, false, cond, leb, List, [], ◌∷◌, length, get_or, slice_get, Some, refl, ap, ap₂, arith, inl, inr}
use Rattle.htl_runs.proofs.Words.{leb-true, le-leb, lt-leb, leb-false, Place, begins, known_by, of_bool, next_of, legs_of, no_leg, begun_of}
use Rattle.htl_walk.proofs.Starts.{Rises}

-- list j stands at an offset: it has begun, the next hasn't, and between both no round begins
pub record StandsAt (ps : List ℕ) (h : ℕ) (places : List Place) (from : List ℕ) (d j : ℕ) : Type 0 where
  pub there : j < length from
  pub begun : get_or from j 0 ≤ d
  pub before : d < (get_or (legs_of h places from) j no_leg).to
  pub quiet : (x : ℕ) → get_or from j 0 < x → x < (get_or (legs_of h places from) j no_leg).to → begins ps x ≡ false

none_yet : (h d : ℕ) (later : List ℕ) → begun_of d later ≡ 0 → d < h → d < next_of h later
none_yet h d [] e less = less
none_yet h d (b ∷ later) e less = grind (arith, leb-false)

pub stands_at : (ps : List ℕ) (h d : ℕ) (places : List Place) (from : List ℕ) → Rises ps h from → d < h → (j : ℕ) → begun_of d from ≡ suc j → StandsAt ps h places from d j
stands_at ps h d places [] r less j e = absurd (omega (arith, e))
stands_at ps h d places (a ∷ later) r less j e = by (leb a d) refl e (λ i g. stands_at ps h d places later r.3 less i g)
  where
    here : (j : ℕ) → a ≤ d → begun_of d later ≡ j → ((i : ℕ) → begun_of d later ≡ suc i → StandsAt ps h places later d i) → StandsAt ps h places (a ∷ later) d j
    here zero some g ih = record { there = omega arith; begun = some; before = none_yet h d later g less; quiet = r.2 }
    here (suc i) some g ih =
        let s = ih i g in
        record { there = omega (arith, s.there); begun = s.begun; before = s.before; quiet = s.quiet }

    by : (b : Bool) → leb a d ≡ b → cond b (suc (begun_of d later)) 0 ≡ suc j → ((i : ℕ) → begun_of d later ≡ suc i → StandsAt ps h places later d i) → StandsAt ps h places (a ∷ later) d j
    by false f g ih = absurd (omega (arith, g))
    by true f g ih = here j (leb-true a d f) (omega (arith, g)) ih

-- the first list begins at once
pub some_begun : (h d : ℕ) (from : List ℕ) → 0 < h → next_of h from ≡ 0 → (k : ℕ) × (begun_of d from ≡ suc k)
some_begun h d [] some first = absurd (omega (arith, some, first))
some_begun h d (a ∷ later) some first = (begun_of d later, ap (λ b. cond b (suc (begun_of d later)) 0) (le-leb a d (omega (arith, first))))

pub none_after : (h d a : ℕ) (later : List ℕ) → a < next_of h later → d ≤ a → begun_of d later ≡ 0
none_after h d a [] less early = refl
none_after h d a (b ∷ later) less early = ap (λ c. cond c (suc (begun_of d later)) 0) (lt-leb b d (omega (arith, less, early)))

-- one offset on the same list stands, or the next begins
pub begun_next : (ps : List ℕ) (h d : ℕ) (from : List ℕ) → Rises ps h from
    → (begun_of (suc d) from ≡ begun_of d from) ⊎ ((begun_of (suc d) from ≡ suc (begun_of d from)) × (begun_of d from < length from) × (get_or from (begun_of d from) 0 ≡ suc d))
begun_next ps h d [] r = inl refl
begun_next ps h d (a ∷ later) r = by (leb a d) (leb a (suc d)) refl refl (begun_next ps h d later r.3)
  where
    by : (b c : Bool) → leb a d ≡ b → leb a (suc d) ≡ c
        → (begun_of (suc d) later ≡ begun_of d later) ⊎ ((begun_of (suc d) later ≡ suc (begun_of d later)) × (begun_of d later < length later) × (get_or later (begun_of d later) 0 ≡ suc d))
        → (cond c (suc (begun_of (suc d) later)) 0 ≡ cond b (suc (begun_of d later)) 0)
        ⊎ ((cond c (suc (begun_of (suc d) later)) 0 ≡ suc (cond b (suc (begun_of d later)) 0)) × (cond b (suc (begun_of d later)) 0 < suc (length later)) × (get_or (a ∷ later) (cond b (suc (begun_of d later)) 0) 0 ≡ suc d))
    by true true e f (inl same) = inl (ap suc same)
    by true true e f (inr next) = inr (ap suc next.0, omega (arith, next.1), next.2)
    by true false e f ih = absurd (omega (arith, leb-true a d e, leb-false a (suc d) f))
    by false false e f ih = inl refl
    by false true e f ih = grind (arith, leb-false, leb-true, none_after)

-- a list ends where the next begins, or where the frame does
pub ends_next : (h : ℕ) (places : List Place) (from : List ℕ) (j : ℕ) → suc j < length from → (get_or (legs_of h places from) j no_leg).to ≡ get_or from (suc j) 0
ends_next h places [] j l = absurd (omega (arith, l))
ends_next h places (a ∷ []) j l = absurd (omega (arith, l))
ends_next h places (a ∷ b ∷ later) zero l = refl
ends_next h places (a ∷ b ∷ later) (suc j) l = ends_next h places (b ∷ later) j (omega (arith, l))

head_below : (ps : List ℕ) (h a : ℕ) (later : List ℕ) → Rises ps h (a ∷ later) → a < h
head_below ps h a [] r = r.1
head_below ps h a (b ∷ later) r = let next = head_below ps h b later r.3 in omega (arith, r.1, next)

pub ends_within : (ps : List ℕ) (h : ℕ) (places : List Place) (from : List ℕ) (j : ℕ) → Rises ps h from → j < length from → (get_or (legs_of h places from) j no_leg).to ≤ h
ends_within ps h places [] j r l = absurd (omega (arith, l))
ends_within ps h places (a ∷ []) zero r l = omega arith
ends_within ps h places (a ∷ []) (suc j) r l = absurd (omega (arith, l))
ends_within ps h places (a ∷ b ∷ later) zero r l = let below = head_below ps h b later r.3 in omega (arith, below)
ends_within ps h places (a ∷ b ∷ later) (suc j) r l = ends_within ps h places (b ∷ later) j r.3 (omega (arith, l))

-- two offsets between which no place begins
pub known_same : (a d : ℕ) (xs : List Place) → ((p : ℕ) (x : Place) → slice_get xs p ≡ Some x → leb x.at a ≡ leb x.at d) → known_by a xs ≡ known_by d xs
known_same a d [] h = refl
known_same a d (x ∷ xs) h = ap₂ (λ b n. of_bool b + n) (h 0 x refl) (known_same a d xs (λ p y e. h (suc p) y e))
