-- Some path has as many positions as any choice of modes for the rounds of a frame gives.
use Rattle.std.proofs.Common.{◌≡◌, ◌≤◌, ◌<◌, ◌⊎◌, ◌+◌, ◌*◌, ◌/◌, ◌%◌, ℕ, suc, max, List, [], ◌∷◌, length, get_or, Some, refl, ◌∙◌, ap, arith, inl, inr}
use Rattle.htl_walk.proofs.Words.{mul_comm, mul_assoc, length-append, length-map, div-mul-add, mod-mul-add, mul-add-lt, HaveModes, choices, mode_in, places_of, places_in, most_invs, most_positions, modes_of, invs_of, Tables, Place, Round}

module _ (t : Tables) where
  -- a place among modes at which there are the most invocations
  widest_mode : (m : ℕ) (ms : List ℕ) → (p : ℕ) × (p < length (m ∷ ms)) × (most_invs t (m ∷ ms) ≤ length (invs_of t (get_or (m ∷ ms) p 0)))
  widest_mode m [] = (0, omega arith, omega arith)
  widest_mode m (n ∷ ms) =
      let later = widest_mode n ms in
      elim (either (length (invs_of t m)) (most_invs t (n ∷ ms))) [
        | inl first ↦ (0, omega arith, omega (arith, first))
        | inr rest ↦ (suc later.0, omega (arith, later.1), omega (arith, rest, later.2))
      ]
    where
      either : (a b : ℕ) → (max a b ≡ a) ⊎ (max a b ≡ b)
      either a b = grind arith

  -- a number of choices for these rounds with the most positions, whatever the rounds before them are
  abbrev IsWidest : List Round → ℕ → Type 0
  IsWidest rs s = (s < choices t rs) × ((path high : ℕ) → path ≡ high * choices t rs + s → most_positions t rs ≤ length (places_in t path rs))

  pub widest_path : (rs : List Round) → HaveModes t rs → (s : ℕ) × IsWidest rs s
  widest_path [] h = (0, (omega arith, λ path high e. omega arith))
  widest_path (r ∷ rs) h = by (modes_of t r.unit) refl h.0 (widest_path rs h.1)
    where
      c : ℕ
      c = choices t rs

      n : ℕ
      n = length (modes_of t r.unit)

      shift : (high p s : ℕ) → high * (n * c) + (p * c + s) ≡ (high * n + p) * c + s
      shift high p s = let one = mul_assoc high n c in let two : (high * n + p) * c ≡ high * n * c + p * c = right_dist (high * n) p c in omega (arith, one, two)
        where
          right_dist : (a b m : ℕ) → (a + b) * m ≡ a * m + b * m
          right_dist a b m = grind arith

      chosen : (path high p s : ℕ) → p < n → s < c → path ≡ (high * n + p) * c + s → mode_in t path r rs ≡ get_or (modes_of t r.unit) p 0
      chosen path high p s inside less is =
          ap (λ (q : ℕ). get_or (modes_of t r.unit) (q % n) 0) (ap (λ (a : ℕ). a / c) is ∙ div-mul-add (high * n + p) c s less)
          ∙ ap (λ (q : ℕ). get_or (modes_of t r.unit) q 0) (mod-mul-add high n p inside)

      here : (p s path high : ℕ) → p < n → s < c → most_invs t (modes_of t r.unit) ≤ length (invs_of t (get_or (modes_of t r.unit) p 0)) → ((path high : ℕ) → path ≡ high * c + s → most_positions t rs ≤ length (places_in t path rs))
          → path ≡ high * (n * c) + (p * c + s) → most_positions t (r ∷ rs) ≤ length (places_in t path (r ∷ rs))
      here p s path high inside less most later is =
          let moved : path ≡ (high * n + p) * c + s = is ∙ shift high p s in
          let m : ℕ = mode_in t path r rs in
          omega (
            arith,
            length-append (places_of r.at (invs_of t m)) (places_in t path rs),
            length-map (invs_of t m) (λ (k : ℕ). let x : Place = record { inv = Some k; at = r.at } in x),
            ap (λ (k : ℕ). length (invs_of t k)) (chosen path high p s inside less moved),
            most,
            later path (high * n + p) moved,
          )

      by : (ms : List ℕ) → modes_of t r.unit ≡ ms → 0 < n → (s : ℕ) × IsWidest rs s → (s : ℕ) × IsWidest (r ∷ rs) s
      by [] e some next = absurd (omega (arith, some, ap (λ (xs : List ℕ). length xs) e))
      by (m ∷ ms) e some next =
          let w = widest_mode m ms in
          let inside : w.0 < n = omega (arith, w.1, ap (λ (xs : List ℕ). length xs) e) in
          let most : most_invs t (modes_of t r.unit) ≤ length (invs_of t (get_or (modes_of t r.unit) w.0 0)) =
          omega (arith, w.2, ap (most_invs t) e, ap (λ (xs : List ℕ). length (invs_of t (get_or xs w.0 0))) e) in
          let less : w.0 * c + next.0 < n * c = (let z = mul-add-lt w.0 c next.0 n inside next.1.0 in omega (arith, z, mul_comm n c)) in
          (w.0 * c + next.0, (less, λ path high is. here w.0 next.0 path high inside next.1.0 most next.1.1 is))
