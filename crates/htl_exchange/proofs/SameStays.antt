-- The modules of the part are in the same rounds.
use Rattle.std.proofs.Common.{◌≡◌, subst, sym, ℕ, zero, suc, ◌+◌, ◌<◌, Bool, true, false, eqb, List, length, slice_get, Option, Some, None, ℤ, option_map, refl, ap, ◌∙◌, arith}
use Rattle.htl_exchange.proofs.{Words.Module, Words.Stay, Words.go_on, Words.go_on_or_begin, Words.next_stay, Words.runs, Words.stay_of, Words.stays_at, Words.stays_to, Words.target, Cones.Cone}
use Rattle.htl_model.proofs.{Words.AreInRange, Words.Tables, Words.slice_get_within, Words.mode_module, Words.mode_period, Stays.stay_at, Stays.module_is}
use Rattle.htl_base.proofs.Places.{item_at}
use Rattle.htl_refine.proofs.Standing.{IsStanding, lower_is, parent_lower}
use Rattle.htl_exchange.proofs.Matches.{IsModeIn, owner_in, Matches, SameModule, SameOn, moved}

-- whether a module that is there is in mode m
abbrev in_mode : ℕ → Option Stay → Bool
in_mode m o = elim o [ Some y ↦ eqb y.mode m | None ↦ false ]

-- where a module goes on, by its parent and whether that runs
abbrev by_parent : Tables → List (Option Stay) → Option Stay → Option ℕ → Option Stay
by_parent t stays there p = elim p [ None ↦ there | Some m ↦ elim (runs t stays m) [ true ↦ there | false ↦ None ] ]

-- a module goes on by where it was and where all are now
pub next_is : (t : Tables) (range : AreInRange t) (v : List ℤ) (now : ℕ) (old : List (Option Stay)) (k : ℕ) (x : Module) → slice_get t.modules k ≡ Some x
    → stay_of (stays_at t v now old) k ≡ next_stay t v now (stays_at t v now old) x (stay_of old k)
next_is t range v now old k x at =
    let within = slice_get_within t.modules k x at in
    stay_at t v now old (length t.modules) k within
    ∙ ap (λ (o : Option Module). elim o [ Some y ↦ next_stay t v now (stays_to t v now old k) y (stay_of old k) | None ↦ None ]) at
    ∙ by x.parent refl within
  where
    there : Option Stay
    there = go_on_or_begin t v now x (stay_of old k)

    by : (p : Option ℕ) → x.parent ≡ p → k < length t.modules → by_parent t (stays_to t v now old k) there p ≡ by_parent t (stays_at t v now old) there p
    by None e within = refl
    by (Some m) e within =
        ap (λ (o : Option Stay). elim (in_mode m o) as (λ _. Option Stay) [ true ↦ there | false ↦ None ])
        (sym (lower_is t v now old k (length t.modules) (mode_module t m) (parent_lower t range k m x at e) (omega (arith, within))))

module _ (t u : Tables) (range : AreInRange t) (other : AreInRange u) (s : Cone) (unit mode invocation : ℕ → ℕ) (e : Matches t u s unit mode invocation) where
  -- where a module of the part is, elsewhere
  abbrev pub StaysSame : List (Option Stay) → List (Option Stay) → Type 0
  StaysSame stays others = (x : ℕ) → s.modules x → stay_of others (unit x) ≡ option_map (moved mode) (stay_of stays x)

  -- what stands is in a mode of the part
  pub stay_in : (stays : List (Option Stay)) (n x : ℕ) (y : Stay) → IsStanding t stays n → s.modules x → stay_of stays x ≡ Some y → IsModeIn t s y.mode
  stay_in stays n x y st inside at =
      let m = item_at t.modes y.mode (st.real x y at) in
      record { mode = m.0; there = m.1; owner = subst s.modules (sym (st.own x y at) ∙ module_is t y.mode m.0 m.1) inside }

  -- a mode of the part runs here where it runs there
  pub runs_same : (stays others : List (Option Stay)) (n m : ℕ) → IsStanding t stays n → IsModeIn t s m → stay_of others (unit (mode_module t m)) ≡ option_map (moved mode) (stay_of stays (mode_module t m))
      → runs u others (mode m) ≡ runs t stays m
  runs_same stays others n m st is same =
      ap (λ k. in_mode (mode m) (stay_of others k)) (e.owners m is) ∙ ap (in_mode (mode m)) same ∙ by (stay_of stays (mode_module t m)) refl
    where
      by : (o : Option Stay) → stay_of stays (mode_module t m) ≡ o → in_mode (mode m) (option_map (moved mode) o) ≡ in_mode m o
      by None at = refl
      by (Some y) at = e.tests y.mode m (stay_in stays n (mode_module t m) y st (owner_in t s m is) at) is

  -- where a module that goes on is
  go_on_same : (v w : List ℤ) (now : ℕ) (y : Stay) → SameOn s v w → IsModeIn t s y.mode → go_on u w now (moved mode y) ≡ option_map (moved mode) (go_on t v now y)
  go_on_same v w now y same is =
      ap (λ p. elim (eqb now (y.start + p)) as (λ _. Option Stay) [ true ↦ Some (record { mode = target u w (mode y.mode); start = now }) | false ↦ Some (moved mode y) ]) (e.periods y.mode is)
      ∙ by (eqb now (y.start + mode_period t y.mode))
    where
      by : (b : Bool) → elim b as (λ _. Option Stay) [ true ↦ Some (record { mode = target u w (mode y.mode); start = now }) | false ↦ Some (moved mode y) ]
          ≡ option_map (moved mode) (elim b as (λ _. Option Stay) [ true ↦ Some (record { mode = target t v y.mode; start = now }) | false ↦ Some y ])
      by true = ap (λ (m : ℕ). Some (record { mode = m; start = now })) (e.targets v w y.mode same is)
      by false = refl

  goes_same : (v w : List ℤ) (now n : ℕ) (old : List (Option Stay)) (x : ℕ) (m : SameModule t u s unit mode x) (o : Option Stay) → SameOn s v w → ((y : Stay) → o ≡ Some y → IsModeIn t s y.mode)
      → go_on_or_begin u w now m.other (option_map (moved mode) o) ≡ option_map (moved mode) (go_on_or_begin t v now m.here o)
  goes_same v w now n old x m None same is = ap (λ (k : ℕ). Some (record { mode = k; start = now })) m.start
  goes_same v w now n old x m (Some y) same is = go_on_same v w now y same (is y refl)

  -- from where they were and the same values, the modules go to the same rounds
  pub next_same : (v w : List ℤ) (now : ℕ) (old older : List (Option Stay)) → SameOn s v w → StaysSame old older
      → ((x : ℕ) (y : Stay) → s.modules x → stay_of old x ≡ Some y → IsModeIn t s y.mode) → IsStanding t (stays_at t v now old) now → StaysSame (stays_at t v now old) (stays_at u w now older)
  next_same v w now old older same were real st x inside = by_bound (suc x) x (omega arith) inside
    where
      stays : List (Option Stay)
      stays = stays_at t v now old

      others : List (Option Stay)
      others = stays_at u w now older

      by_bound : (b x : ℕ) → x < b → s.modules x → stay_of (stays_at u w now older) (unit x) ≡ option_map (moved mode) (stay_of (stays_at t v now old) x)
      by_bound zero x h inside = absurd (omega (arith, h))
      by_bound (suc b) x h inside =
          let m = e.modules x inside in
          let goes = ap (go_on_or_begin u w now m.other) (were x inside) ∙ goes_same v w now now old x m (stay_of old x) same (λ y at. real x y inside at) in
          next_is u other w now older (unit x) m.other m.elsewhere
          ∙ ap (λ (o : Option Stay). by_parent u (stays_at u w now older) o m.other.parent) goes
          ∙ ap (by_parent u (stays_at u w now older) (option_map (moved mode) (go_on_or_begin t v now m.here (stay_of old x)))) m.parent
          ∙ by m.here.parent refl (λ y i less. by_bound b y (omega (arith, less, h)) i)
          ∙ ap (option_map (moved mode)) (sym (next_is t range v now old x m.here m.there))
        where
          by : (p : Option ℕ) → (e.modules x inside).here.parent ≡ p
              → ((y : ℕ) → s.modules y → y < x → stay_of (stays_at u w now older) (unit y) ≡ option_map (moved mode) (stay_of (stays_at t v now old) y))
              → by_parent u (stays_at u w now older) (option_map (moved mode) (go_on_or_begin t v now (e.modules x inside).here (stay_of old x))) (option_map mode p)
              ≡ option_map (moved mode) (by_parent t (stays_at t v now old) (go_on_or_begin t v now (e.modules x inside).here (stay_of old x)) p)
          by None is lower = refl
          by (Some k) is lower =
              let m = e.modules x inside in
              let up : IsModeIn t s k = m.above k is in
              let less : mode_module t k < x = parent_lower t range x k m.here m.there is in
              let runs_too = runs_same (stays_at t v now old) (stays_at u w now older) now k st up (lower (mode_module t k) (owner_in t s k up) less) in
              ap (λ b. elim b as (λ _. Option Stay) [ true ↦ option_map (moved mode) (go_on_or_begin t v now m.here (stay_of old x)) | false ↦ None ]) runs_too
              ∙ by_run (runs t (stays_at t v now old) k) (go_on_or_begin t v now m.here (stay_of old x))
            where
              by_run : (b : Bool) (o : Option Stay) → elim b as (λ _. Option Stay) [ true ↦ option_map (moved mode) o | false ↦ None ] ≡ option_map (moved mode) (elim b as (λ _. Option Stay) [ true ↦ o | false ↦ None ])
              by_run true o = refl
              by_run false o = refl
