-- The choice of modes at one start, module by module.
use Rattle.std.proofs.Common.{◌≡◌, ◌<◌, ◌≤◌, ℕ, zero, suc, ◌+◌, ◌*◌, ◌%◌, Bool, true, false, cond, eqb, List, [], ◌∷◌, length, get_or, drop, drop-cons, add-one, Option, Some, refl, sym, ap, ◌∙◌, arith}
use Rattle.htl_refine.proofs.Words.{slice_get, modes_some, unit_period, choices, rounds_of, AreInRange, is_root, root_modules, modes_of, Tables, choice_rest, path_in, entry_place, slice_get_within, none-some}
use Rattle.htl_refine.proofs.Members.{of_places}

one_more : (t : Tables) (modes : List (Option ℕ)) (a n m u : ℕ) (us : List ℕ) → m ≡ cond (eqb (a % unit_period t u) 0) (n * length (modes_of t u) + entry_place t modes u) n → choice_rest t modes a m us ≡ choice_rest t modes a n (u ∷ us)
one_more t modes a n m u us e = by (eqb (a % unit_period t u) 0) e
  where
    times : (n l c p q : ℕ) → (n * l + q) * c + p ≡ n * (l * c) + (q * c + p)
    times n l c p q = grind arith

    by : (b : Bool) → m ≡ cond b (n * length (modes_of t u) + entry_place t modes u) n
        → choice_rest t modes a m us
        ≡ n * choices t (cond b (record { at = a; unit = u } ∷ rounds_of t a us) (rounds_of t a us)) + path_in t (λ x. modes) (cond b (record { at = a; unit = u } ∷ rounds_of t a us) (rounds_of t a us))
    by false e = ap (λ z. choice_rest t modes a z us) e
    by true e =
        ap (λ z. choice_rest t modes a z us) e
        ∙ times n (length (modes_of t u)) (choices t (rounds_of t a us)) (path_in t (λ x. modes) (rounds_of t a us)) (entry_place t modes u)

pub choice_step : (t : Tables) (modes like : List (Option ℕ)) (a n m k d : ℕ) (us : List ℕ) → k < length us → like ≡ modes → m ≡ cond (eqb (a % unit_period t (get_or us k d)) 0) (n * length (modes_of t (get_or us k d)) + entry_place t like (get_or us k d)) n
    → choice_rest t modes a m (drop (k + 1) us) ≡ choice_rest t modes a n (drop k us)
choice_step t modes like a n m k d us l same e =
    rw add-one (one_more t modes a n m (get_or us k d) (drop (suc k) us) (e ∙ ap (λ z. cond (eqb (a % unit_period t (get_or us k d)) 0) (n * length (modes_of t (get_or us k d)) + entry_place t z (get_or us k d)) n) same) ∙ ap (choice_rest t modes a n) (sym (drop-cons us k d l)))

-- a module has modes, so the number so far is no greater than the whole
some_choices : (t : Tables) (a : ℕ) (us : List ℕ) → ((i u : ℕ) → slice_get us i ≡ Some u → 0 < length (modes_of t u)) → 0 < choices t (rounds_of t a us)
some_choices t a [] h = omega arith
some_choices t a (u ∷ us) h = by (eqb (a % unit_period t u) 0) (some_choices t a us (λ i v e. h (suc i) v e))
  where
    both : (l c : ℕ) → 0 < l → 0 < c → 0 < l * c
    both l c x y = grind arith

    by : (b : Bool) → 0 < choices t (rounds_of t a us) → 0 < choices t (cond b (record { at = a; unit = u } ∷ rounds_of t a us) (rounds_of t a us))
    by false ih = ih
    by true ih = both (length (modes_of t u)) (choices t (rounds_of t a us)) (h 0 u refl) ih

pub choice_below : (t : Tables) (modes : List (Option ℕ)) (a n k whole : ℕ) (us : List ℕ) → AreInRange t → us ≡ root_modules t → choice_rest t modes a n (drop k us) ≡ whole → whole < 1024 → n < 1024
choice_below t modes a n k whole us range is sum less =
    let some = some_choices t a (drop k us) (λ i u e. let r = behind k us i u e in roots r.0 u (ap (λ (vs : List ℕ). slice_get vs r.0) (sym is) ∙ r.1)) in
    by n (choices t (rounds_of t a (drop k us))) (path_in t (λ x. modes) (rounds_of t a (drop k us))) some sum
  where
    by : (n c p : ℕ) → 0 < c → n * c + p ≡ whole → n < 1024
    by n c p x y = grind arith

    behind : (k : ℕ) (us : List ℕ) (i u : ℕ) → slice_get (drop k us) i ≡ Some u → (j : ℕ) × (slice_get us j ≡ Some u)
    behind zero us i u e = (i, e)
    behind (suc k) [] i u e = absurd (none-some u e)
    behind (suc k) (v ∷ us) i u e = let r = behind k us i u e in (suc r.0, r.1)

    roots : (i u : ℕ) → slice_get (root_modules t) i ≡ Some u → 0 < length (modes_of t u)
    roots i u e = grind (arith, of_places, modes_some, slice_get_within)
