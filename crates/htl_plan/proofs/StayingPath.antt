-- The number of the path on which every module stays in its mode, start by start.
use Rattle.std.proofs.Common.{◌≡◌, ℕ, suc, ◌+◌, ◌*◌, ◌≤◌, ◌<◌, List, ◌++◌, length, take, drop, drop-cons, get_or, Option, None, sym, ap, ap₂, ◌∙◌, subst, arith, take-append-drop}
use Rattle.htl_plan.proofs.Words.{flat_map, flat_map-append, drop_all, get_or-map, Frame, Round, choices, frame_limit, rounds, rounds_at, starts, IsFrame, AreInRange, IsSelection, Tables, choices_append, choices_some, limits_kept, rounds_have, choice_of, path_in, path_of, paths_read, path_join, product_parts, get_taken}

module _ (t : Tables) (modes : List (Option ℕ)) where
  abbrev always : ℕ → List (Option ℕ)
  always a = modes

  -- the rounds from start j on
  abbrev later_rounds : ℕ → List Round
  later_rounds j = flat_map (rounds_at t) (drop j (starts t))

  -- a number of choices for the rounds before start j, with the choices for those from there on
  abbrev pub path_from : ℕ → ℕ → ℕ
  path_from path j = path * choices t (later_rounds j) + path_in t always (later_rounds j)

  module _ (j : ℕ) (there : j < length (starts t)) where
    abbrev here : List Round
    here = rounds_at t (get_or (starts t) j 0)

    rounds_next : later_rounds j ≡ here ++ later_rounds (suc j)
    rounds_next = ap (flat_map (rounds_at t)) (drop-cons (starts t) j 0 there)

    path_more : (path : ℕ) → path_from path j ≡ path_from (path * choices t here + choice_of t modes (get_or (starts t) j 0)) (suc j)
    path_more path =
        ap (λ (rs : List Round). path * choices t rs + path_in t always rs) rounds_next
        ∙ ap₂ (λ c n. path * c + n) (choices_append t here (later_rounds (suc j))) (path_join t always here (later_rounds (suc j)))
        ∙ shift path (choices t here) (choices t (later_rounds (suc j))) (choice_of t modes (get_or (starts t) j 0)) (path_in t always (later_rounds (suc j)))
      where
        shift : (d c w e q : ℕ) → d * (c * w) + (e * w + q) ≡ (d * c + e) * w + q
        shift d c w e q = grind arith

    -- one start more
    pub path_next : (path radix choice whole : ℕ) → radix ≡ choices t here → choice ≡ choice_of t modes (get_or (starts t) j 0) → path_from path j ≡ whole → path_from (path * radix + choice) (suc j) ≡ whole
    path_next path radix choice whole is chosen going =
        ap₂ (λ c e. path_from (path * c + e) (suc j)) is chosen ∙ sym (path_more path) ∙ going

  pub path_last : (path j : ℕ) → length (starts t) ≤ j → path_from path j ≡ path
  path_last path j past =
      ap (λ (as' : List ℕ). path * choices t (flat_map (rounds_at t) as') + path_in t always (flat_map (rounds_at t) as')) (drop_all j (starts t) past) ∙ one path
    where
      one : (n : ℕ) → n * 1 + 0 ≡ n
      one n = omega arith

  module _ (range : AreInRange t) (limit : frame_limit t ≡ None) (selection : IsSelection t modes) where
    later_some : (j : ℕ) → 0 < choices t (later_rounds j)
    later_some j =
        let all : choices t (rounds t) ≡ choices t (flat_map (rounds_at t) (take j (starts t))) * choices t (later_rounds j) =
        ap (λ (as' : List ℕ). choices t (flat_map (rounds_at t) as')) (sym (take-append-drop j (starts t)))
        ∙ ap (choices t) (flat_map-append (rounds_at t) (take j (starts t)) (drop j (starts t)))
        ∙ choices_append t (flat_map (rounds_at t) (take j (starts t))) (later_rounds j) in
        (product_parts (choices t (flat_map (rounds_at t) (take j (starts t)))) (choices t (later_rounds j)) (subst (λ n. 0 < n) all (choices_some t (rounds t) (rounds_have t range)))).1

    -- the number so far is no greater than the whole
    pub path_small : (path j : ℕ) → path_from path j ≡ path_of t always → path < 1024
    path_small path j going =
        let whole = (paths_read t always (λ a. selection)).below in
        let most = (limits_kept t range limit).choices in
        let grown = more path (choices t (later_rounds j)) (later_some j) in
        omega (arith, going, whole, most, grown)
      where
        more : (n c : ℕ) → 0 < c → n ≤ n * c
        more n c x = grind arith

-- ---- reading a frame

-- the choices at a start
pub radix_read : (t : Tables) (f : Frame) (j : ℕ) → IsFrame t f → j < length (starts t) → get_or f.radices j 0 ≡ choices t (rounds_at t (get_or (starts t) j 0))
radix_read t f j s l =
    sym (get_taken f.count f.radices j (omega (arith, s.count, l))) ∙ ap (λ xs. get_or xs j 0) s.radices
    ∙ get_or-map (λ (a : ℕ). choices t (rounds_at t a)) (starts t) j 0 0 l
