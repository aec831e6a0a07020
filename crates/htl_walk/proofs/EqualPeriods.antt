-- Where all root modules have one period it is that of a round.
use Rattle.std.proofs.Common.{◌≡◌, ◌<◌, ◌≤◌, ◌↔◌, ℕ, zero, suc, Bool, true, false, ◌&&◌, eqb, eqb-true, List, [], ◌∷◌, length, get_or, slice_get, Option, Some, None, refl, sym, ap, ◌∙◌, subst, arith}
use Rattle.htl_walk.proofs.Words.{list_all, eq-eqb, slice_get-get_or, get_or_from_slice_get, KeptApart, unit_period, AreInRange, IsModeInRange, is_root, root_modules, modes_of, root_period, round_length, Tables, mode_period, first_own, root_period_is, place_passes_0, AllHave, RootsHaveOnePeriod, HasOnePeriod, each_at}
use Rattle.htl_walk.proofs.PathReady.{IsRootAt, module_below, period_at, as_unit}

-- ---- a list of modules of one period

have_at : (t : Tables) (p : ℕ) (us : List ℕ) → AllHave t p us → (j u : ℕ) → slice_get us j ≡ Some u → unit_period t u ≡ p
have_at t p [] all j u e = cc
have_at t p (v ∷ us) all zero u e = let same : v ≡ u = cc in ap (unit_period t) (sym same) ∙ all.0
have_at t p (v ∷ us) all (suc j) u e = have_at t p us all.1 j u e

module _ (t : Tables) (p : ℕ) where
  pub all_from_list : (us : List ℕ) → list_all (λ u. eqb (unit_period t u) p) us ≡ true → AllHave t p us
  all_from_list [] e = tt
  all_from_list (u ∷ us) e = by (eqb (unit_period t u) p) refl (λ f. all_from_list us f) e
    where
      by : (b : Bool) → eqb (unit_period t u) p ≡ b → (list_all (λ u. eqb (unit_period t u) p) us ≡ true → AllHave t p us)
          → (b && list_all (λ u. eqb (unit_period t u) p) us) ≡ true → AllHave t p (u ∷ us)
      by true is rest f = (eqb-true (unit_period t u) p is, rest f)
      by false is rest f = absurd (let no : false ≡ true = f in cc)

  pub list_from_all : (us : List ℕ) → AllHave t p us → list_all (λ u. eqb (unit_period t u) p) us ≡ true
  list_from_all [] all = refl
  list_from_all (u ∷ us) all = ap (λ (b : Bool). b && list_all (λ u. eqb (unit_period t u) p) us) (eq-eqb (unit_period t u) p all.0) ∙ list_from_all us all.1

-- the test of the first one's period decides
pub decided : (t : Tables) (us : List ℕ) (result : Bool) → us ≡ root_modules t → 0 < length us → result ≡ list_all (λ u. eqb (unit_period t u) (unit_period t (get_or us 0 0))) us
    → (result ≡ true) ↔ RootsHaveOnePeriod t
decided t [] result roots some is = absurd (omega (arith, some))
decided t (u ∷ us) result roots some is = (one, back)
  where
    one : result ≡ true → RootsHaveOnePeriod t
    one e = (unit_period t u, subst (AllHave t (unit_period t u)) roots (all_from_list t (unit_period t u) (u ∷ us) (sym is ∙ e)))

    back : RootsHaveOnePeriod t → result ≡ true
    back h = grind (arith, list_from_all)

-- ---- the round

pub root_at : (t : Tables) (j u : ℕ) → slice_get (root_modules t) j ≡ Some u → IsRootAt t u
root_at t j u e = let h = place_passes_0 is_root j u t.modules e in record { owner = h.0; at = h.1; root = h.2 }

module _ (t : Tables) (r : AreInRange t) (kept : KeptApart t 12) where
  -- the round has the period of the first root module
  pub first_round : (u : ℕ) → slice_get (root_modules t) 0 ≡ Some u → (round_length t ≡ unit_period t u) × (0 < round_length t) × (round_length t ≤ 1000000)
  first_round u e =
      let root = root_at t 0 u e in
      let f = first_own t u r (module_below t u root) in
      let m : ℕ = get_or (modes_of t u) 0 0 in
      let first : m ≡ f.0 = get_or_from_slice_get (modes_of t u) 0 f.0 0 f.2 in
      let is : Some (mode_period t m) ≡ root_period t = root_period_is t u (mode_period t m) r e refl in
      let round : round_length t ≡ mode_period t f.0 = sym (ap (λ (o : Option ℕ). elim o as (λ _. ℕ) [ Some q ↦ q | None ↦ 0 ]) is) ∙ ap (mode_period t) first in
      let span = (each_at (IsModeInRange t) t.modes r.modes f.0 f.1 f.3).period in
      let period = period_at t f.0 f.1 f.3 in
      (round ∙ (as_unit t u f.0 f.1 r kept root f.3 f.4), omega (arith, round, period, span.some), omega (arith, round, period, span.most))

  -- where they have one period, each has that of the round
  module _ (one : RootsHaveOnePeriod t) where
    pub unit_round : (j u : ℕ) → slice_get (root_modules t) j ≡ Some u → unit_period t u ≡ round_length t
    unit_round j u e = grind (arith, have_at, one, first_round)

    pub one_round : 0 < length (root_modules t) → HasOnePeriod t (round_length t)
    one_round some = grind (arith, slice_get-get_or, one, have_at, unit_round, first_round)
