-- Where a round of a root module begins, its round before ends.
use Rattle.std.proofs.Common.{◌≡◌, ◌<◌, ◌≤◌, ◌⊎◌, ℕ, suc, ◌+◌, ◌*◌, ◌/◌, ◌%◌, Bool, true, false, ◌||◌, eqb, eqb-true, List, [], ◌∷◌, length, map, slice_get, Option, Some, None, refl, sym, ◌∙◌, ap, subst, arith, inl, inr}
use Rattle.htl_refine.proofs.Words.{div-add-mod, mod-lt, slice_get_within, Mode, Module, Stay, unit_start, unit_period, begins, state, stay_of, entry, IsEntry, IsModeOf, root_modules, Tables, mode_module, mode_period, RoundEnds, BeginningsEnd, modes_at, times_grow}
use Rattle.htl_refine.proofs.{OwnPeriods.same_period, OwnPeriods.some_time, OwnRounds.own_starts, PathDerived.root_units, StateLaws.mode_in, StateLaws.entry_is, StateLaws.states_are_selections}

some_begins : (t : Tables) (us : List ℕ) (a : ℕ) → begins (map (unit_period t) us) a ≡ true → (j u : ℕ) × (slice_get us j ≡ Some u) × (a % unit_period t u ≡ 0)
some_begins t [] a e = absurd (let z : ⊥ = cc in z)
some_begins t (u ∷ us) a e = by (eqb (a % unit_period t u) 0) refl e (λ h. some_begins t us a h)
  where
    by : (b : Bool) → eqb (a % unit_period t u) 0 ≡ b → (b || begins (map (unit_period t) us) a) ≡ true → (begins (map (unit_period t) us) a ≡ true → (j v : ℕ) × (slice_get us j ≡ Some v) × (a % unit_period t v ≡ 0))
        → (j v : ℕ) × (slice_get (u ∷ us) j ≡ Some v) × (a % unit_period t v ≡ 0)
    by true f h later = (0, u, refl, eqb-true (a % unit_period t u) 0 f)
    by false f h later = let r = later h in (suc r.0, r.1, r.2, r.3)

-- the round of a period ends at the next multiple
ends_there : (p n : ℕ) → 0 < p → suc n % p ≡ 0 → p * (n / p) + p ≡ suc n
ends_there p n some even = grind (arith, div-add-mod, times_grow, mod-lt)

owner : (t : Tables) (u m : ℕ) → IsModeOf t u m → mode_module t m ≡ u
owner t u m h = ap (λ (o : Option Mode). elim o [ Some z ↦ z.«module» | None ↦ 0 ]) h.1 ∙ h.2

pub beginnings_end : BeginningsEnd
beginnings_end t es n range kept e =
    let r = some_begins t (root_modules t) (suc n) e in
    let root = root_units t r.0 r.1 r.2 in
    let ms = modes_at t es n in
    let own : IsEntry t ms r.1 None (entry ms r.1) = subst (λ o. IsEntry t ms r.1 o (entry ms r.1)) root.2 ((states_are_selections t range es n).each r.1 root.0 root.1) in
    by r.1 root.0 root.1 r.3 (stay_of (state t es n).stays r.1) refl (subst (IsEntry t ms r.1 None) (entry_is (state t es n).stays r.1) own)
  where
    by : (u : ℕ) (x : Module) → slice_get t.modules u ≡ Some x → suc n % unit_period t u ≡ 0 → (o : Option Stay) → stay_of (state t es n).stays u ≡ o
        → IsEntry t (modes_at t es n) u None (mode_in (stay_of (state t es n).stays u)) → RoundEnds t (state t es n).stays (suc n)
    by u x at even None is own = absurd (subst (λ o. IsEntry t (modes_at t es n) u None (mode_in o)) is own tt)
    by u x at even (Some y) is own =
        let mode_at : IsModeOf t u y.mode = (subst (λ o. IsEntry t (modes_at t es n) u None (mode_in o)) is own).0 in
        let real : y.mode < length t.modes = slice_get_within t.modes y.mode mode_at.0 mode_at.1 in
        let start : IsModeOf t u x.start = (range.modules u x at).start in
        let first : unit_start t u ≡ x.start = ap (λ (o : Option Module). elim o [ Some z ↦ z.start | None ↦ 0 ]) at in
        let same : mode_period t y.mode ≡ unit_period t u =
        same_period t range kept y.mode x.start u real (slice_get_within t.modes x.start start.0 start.1) (owner t u y.mode mode_at) (owner t u x.start start) ∙ ap (mode_period t) (sym first) in
        let some : 0 < mode_period t y.mode = some_time t range kept y.mode real in
        let began = own_starts t range kept es n u y is in
        record { unit = u; stay = y; is = is; ends = omega (arith, began, ends_there (mode_period t y.mode) n some (ap (λ z. suc n % z) same ∙ even)) }
