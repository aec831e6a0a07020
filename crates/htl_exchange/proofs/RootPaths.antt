-- Each frame takes the path that it took, where all root modules are in the cone.
use Rattle.std.proofs.Common.{◌≡◌, ℕ, suc, ◌+◌, ◌*◌, cond, eqb, List, [], ◌∷◌, map, Option, Some, None, option_map, refl, sym, ap, ap₂, ◌∙◌}
use Rattle.htl_exchange.proofs.Words.{Event, Stay, mode_in_state, mode_of, state, stay_of}
use Rattle.htl_model.specs.{declared.frame.Round.Round, Selected.entry}
use Rattle.htl_refine.specs.{FrameRuns.frame_modes, FrameRuns.path_in, FrameRuns.path_of, Records.modes_at, Roots.entry_place, Roots.place_among}
use Rattle.htl_runs.proofs.frames.PlacedStays.{entry_is}
use Rattle.htl_patch.proofs.{Words.Tables, Words.choices, Words.modes_of, Words.root_modules, Words.rounds, Words.starts, Members.Has, Embedded.Embeds}
use Rattle.htl_patch.proofs.EmbeddedPaths.{AreOfRoots, all_of, choices_same, later, moved, rounds_same}

-- the place of a number among its likes, where no two of them become one
place_moved : (mode : ℕ → ℕ) (m : ℕ) (ks : List ℕ) → ((k : ℕ) → Has ks k → eqb (mode k) (mode m) ≡ eqb k m) → place_among (mode m) (map mode ks) ≡ place_among m ks
place_moved mode m [] tests = refl
place_moved mode m (k ∷ ks) tests =
    ap (λ b. cond b 0 (suc (place_among (mode m) (map mode ks)))) (tests k (0, refl))
    ∙ ap (λ n. cond (eqb k m) 0 (suc n)) (place_moved mode m ks (λ i h. tests i (suc h.0, h.1)))

-- the mode in which a module is, by the list of all
mode_is : (t : Tables) (es : List Event) (now x : ℕ) → entry (modes_at t es now) x ≡ mode_in_state (state t es now) x
mode_is t es now x = entry_is t es now x ∙ by (stay_of (state t es now).stays x)
  where
    by : (o : Option Stay) → option_map (λ (y : Stay). y.mode) o ≡ mode_of o
    by None = refl
    by (Some y) = refl

module _ (t u : Tables) (unit mode invocation : ℕ → ℕ) (e : Embeds t u unit mode invocation) (es : List Event) (start : ℕ)
    (same : (now x : ℕ) → Has (root_modules t) x → mode_in_state (state u es now) (unit x) ≡ option_map mode (mode_in_state (state t es now) x))
    (tests : (now x m k : ℕ) → Has (root_modules t) x → mode_in_state (state t es now) x ≡ Some m → Has (modes_of t x) k → eqb (mode k) (mode m) ≡ eqb k m) where
  abbrev place_of : Tables → ℕ → Option ℕ → ℕ
  place_of v x o = elim o [ Some m ↦ place_among m (modes_of v x) | None ↦ 0 ]

  entry_same : (a x : ℕ) → Has (root_modules t) x → entry_place u (frame_modes u es start a) (unit x) ≡ entry_place t (frame_modes t es start a) x
  entry_same a x h =
      ap (place_of u (unit x)) (mode_is u es (start + a) (unit x) ∙ same (start + a) x h)
      ∙ by (mode_in_state (state t es (start + a)) x) refl
      ∙ ap (place_of t x) (sym (mode_is t es (start + a) x))
    where
      by : (o : Option ℕ) → mode_in_state (state t es (start + a)) x ≡ o → place_of u (unit x) (option_map mode o) ≡ place_of t x o
      by None at = refl
      by (Some m) at = ap (place_among (mode m)) (e.modes x h) ∙ place_moved mode m (modes_of t x) (λ k i. tests (start + a) x m k h at i)

  path_in_same : (rs : List Round) → AreOfRoots t u unit mode invocation e rs → path_in u (frame_modes u es start) (map (moved t u unit mode invocation e) rs) ≡ path_in t (frame_modes t es start) rs
  path_in_same [] all = refl
  path_in_same (r ∷ rs) all =
      ap (λ n. n * choices u (map (moved t u unit mode invocation e) rs) + path_in u (frame_modes u es start) (map (moved t u unit mode invocation e) rs)) (entry_same r.at r.unit (all 0 r refl))
      ∙ ap₂ (λ n m. entry_place t (frame_modes t es start r.at) r.unit * n + m) (choices_same t u unit mode invocation e rs (later t u unit mode invocation e r rs all))
      (path_in_same rs (later t u unit mode invocation e r rs all))

  pub path_same : path_of u (frame_modes u es start) ≡ path_of t (frame_modes t es start)
  path_same =
      ap (path_in u (frame_modes u es start)) (rounds_same t u unit mode invocation e) ∙ path_in_same (rounds t) (all_of t u unit mode invocation e (starts t))
