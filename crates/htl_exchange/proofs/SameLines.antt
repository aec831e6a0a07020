-- The lines of the part are the same.
use Rattle.std.proofs.Common.{◌≡◌, ℕ, zero, suc, Bool, true, false, cond, not, ◌||◌, eqb, List, [], ◌∷◌, ◌++◌, codes, decimal, subst, Option, Some, None, ℤ, option_map, refl, ap, ap₂, ◌∙◌}
use Rattle.htl_exchange.proofs.{Words.Comm, Words.Event, Words.ModeLine, Words.Stay, Words.ValueLine, Words.before, Words.mode_in_state, Words.mode_of, Words.same_mode, Words.state, Words.stay_of, Words.value_in, Cones.Cone}
use Rattle.htl_model.proofs.Words.{AreInRange, KeptApart, Tables}
use Rattle.htl_model.specs.{Functions.same, Lines.line_text, Lines.lines_text, Lines.shown_mode}
use Rattle.htl_exchange.specs.Texts.{mode_text, value_text}
use Rattle.htl_exchange.proofs.{Matches.IsModeIn, Matches.Matches, Matches.moved, SameRuns.is_same, SameRuns.real_at}

module _ (t u : Tables) (range : AreInRange t) (other : AreInRange u) (kept : KeptApart t 12) (also : KeptApart u 12) (s : Cone) (unit mode invocation : ℕ → ℕ) (e : Matches t u s unit mode invocation) (es : List Event) where
  -- ---- values

  value_before : (now c : ℕ) → s.comms c → value_in (before u es now) c ≡ value_in (before t es now) c
  value_before zero c inside = refl
  value_before (suc n) c inside = (is_same t u range other kept also s unit mode invocation e es n).values c inside

  pub value_text_same : (now c : ℕ) → s.comms c → value_text u es now c ≡ value_text t es now c
  value_text_same now c inside =
      ap₂ (λ (x y : ℤ). lines_text u (cond (eqb now 0 || not (same x y)) (ValueLine now c y ∷ []) [])) (value_before now c inside) ((is_same t u range other kept also s unit mode invocation e es now).values c inside)
      ∙ by (eqb now 0 || not (same (value_in (before t es now) c) (value_in (state t es now) c)))
    where
      named : line_text u (ValueLine now c (value_in (state t es now) c)) ≡ line_text t (ValueLine now c (value_in (state t es now) c))
      named = ap (λ (xs : List Comm). line_text (record t { comms = xs }) (ValueLine now c (value_in (state t es now) c))) e.comms

      by : (b : Bool) → lines_text u (cond b (ValueLine now c (value_in (state t es now) c) ∷ []) []) ≡ lines_text t (cond b (ValueLine now c (value_in (state t es now) c) ∷ []) [])
      by true = ap (λ (bs : List ℕ). bs ++ []) named
      by false = refl

  -- ---- modes

  -- the mode of a round, where it is one of the part
  abbrev AreIn : Option ℕ → Type 0
  AreIn o = (m : ℕ) → o ≡ Some m → IsModeIn t s m

  mode_moved : (o : Option Stay) → mode_of (option_map (moved mode) o) ≡ option_map mode (mode_of o)
  mode_moved None = refl
  mode_moved (Some y) = refl

  pub mode_at : (now x : ℕ) → s.modules x → mode_in_state (state u es now) (unit x) ≡ option_map mode (mode_in_state (state t es now) x)
  mode_at now x inside = ap mode_of ((is_same t u range other kept also s unit mode invocation e es now).stays x inside) ∙ mode_moved (stay_of (state t es now).stays x)

  mode_before : (now x : ℕ) → s.modules x → mode_in_state (before u es now) (unit x) ≡ option_map mode (mode_in_state (before t es now) x)
  mode_before zero x inside = refl
  mode_before (suc n) x inside = mode_at n x inside

  pub are_in : (now x : ℕ) → s.modules x → AreIn (mode_in_state (state t es now) x)
  are_in now x inside = by (stay_of (state t es now).stays x) refl
    where
      by : (o : Option Stay) → stay_of (state t es now).stays x ≡ o → AreIn (mode_of o)
      by None at m f = absurd (let z : ⊥ = cc in z)
      by (Some y) at m f = let is : y.mode ≡ m = cc in subst (IsModeIn t s) is (real_at t u range other kept also s unit mode invocation e es now x y inside at)

  were_in : (now x : ℕ) → s.modules x → AreIn (mode_in_state (before t es now) x)
  were_in zero x inside = λ m f. absurd (let z : ⊥ = cc in z)
  were_in (suc n) x inside = are_in n x inside

  test_moved : (o q : Option ℕ) → AreIn o → AreIn q → same_mode (option_map mode o) (option_map mode q) ≡ same_mode o q
  test_moved None None a b = refl
  test_moved (Some m) (Some k) a b = e.tests m k (a m refl) (b k refl)
  test_moved None (Some k) a b = refl
  test_moved (Some m) None a b = refl

  shown_same : (o : Option ℕ) → AreIn o → shown_mode u (option_map mode o) ≡ shown_mode t o
  shown_same None a = refl
  shown_same (Some m) a = e.mode_names m (a m refl)

  line_same : (now x : ℕ) (o : Option ℕ) → s.modules x → AreIn o → line_text u (ModeLine now (unit x) (option_map mode o)) ≡ line_text t (ModeLine now x o)
  line_same now x o inside a =
      ap₂ (λ (n m : List ℕ). codes "m " ++ decimal now ++ codes " " ++ n ++ codes " " ++ m ++ codes "\n") (e.module_names x inside) (shown_same o a)

  pub mode_text_same : (now x : ℕ) → s.modules x → mode_text u es now (unit x) ≡ mode_text t es now x
  mode_text_same now x inside =
      let old = mode_in_state (before t es now) x in
      let new = mode_in_state (state t es now) x in
      ap₂ (λ (p q : Option ℕ). lines_text u (cond (same_mode p q) [] (ModeLine now (unit x) q ∷ []))) (mode_before now x inside) (mode_at now x inside)
      ∙ ap (λ b. lines_text u (cond b [] (ModeLine now (unit x) (option_map mode new) ∷ []))) (test_moved old new (were_in now x inside) (are_in now x inside))
      ∙ by (same_mode old new)
    where
      by : (b : Bool) → lines_text u (cond b [] (ModeLine now (unit x) (option_map mode (mode_in_state (state t es now) x)) ∷ [])) ≡ lines_text t (cond b [] (ModeLine now x (mode_in_state (state t es now) x) ∷ []))
      by true = refl
      by false = ap (λ (bs : List ℕ). bs ++ []) (line_same now x (mode_in_state (state t es now) x) inside (are_in now x inside))
