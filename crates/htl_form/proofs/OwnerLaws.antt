-- What one module alone writes is not taken: its modes are rivals.
use Rattle.std.proofs.Common.{◌≡◌, ◌<◌, ◌≤◌, ℕ, zero, suc, ◌+◌, Bool, true, false, eqb, List, [], ◌∷◌, length, get_or, Option, Some, None, refl, ◌∙◌, subst, arith, inl, inr}
use Rattle.htl_form.proofs.Words.{slice_get, list_any, nat_tests, Inv, End, Tables, is_concrete, mode_module, is_comm, takes, is_taken, AreTaken, has_module, has_other, is_shared_end, AreOwners, AreNoted, IsRangeOf, stand_together, Owner, and_parts, eqb-true, or_cases, or_parts}
use Rattle.htl_model.specs.declared.parts.End.TheVariants as E
use Rattle.htl_form.specs.declared.owners.Owner.TheVariants as owner
use Rattle.htl_form.proofs.PathLaws.{rivals_apart}

-- an invocation that takes a communicator from mode m
record Taker (t : Tables) (m base c : ℕ) : Type 0 where
  l : ℕ
  x : Inv
  below : l < base
  at : slice_get t.invs l ≡ Some x
  concrete : is_concrete t x ≡ true
  together : stand_together t x.mode m ≡ true
  writes : list_any (is_comm c) x.writes ≡ true

-- what is taken has one
taker : (t : Tables) (m base c : ℕ) → is_taken t m base c ≡ true → Taker t m base c
taker t m zero c h = cc
taker t m (suc l) c h =
    elim (or_cases (is_taken t m l c) _ h) [
      | inl before ↦ (let r = taker t m l c before in record { l = r.l; x = r.x; below = omega (arith, r.below); at = r.at; concrete = r.concrete; together = r.together; writes = r.writes })
      | inr here ↦ by (slice_get t.invs l) refl here
    ]
  where
    by : (o : Option Inv) → slice_get t.invs l ≡ o → takes t m c o ≡ true → Taker t m (suc l) c
    by (Some x) at h =
        let p = and_parts (is_concrete t x) _ h in
        let q = and_parts (stand_together t x.mode m) _ p.1 in
        record { l = l; x = x; below = omega arith; at = at; concrete = p.0; together = q.0; writes = q.1 }
    by None at h = cc

-- of two modules among the owners one is another than the second, unless they are the same
same_module : (o : Owner) (u v : ℕ) → has_module o u ≡ true → has_other o v ≡ false → u ≡ v
same_module (owner.One w) u v p q = grind (arith, nat_tests)
same_module _ u v p q = cc

-- an end that names a communicator, among ends that are not shared
not_shared : (owners : List Owner) (u c : ℕ) (ends : List End) → list_any (is_comm c) ends ≡ true → list_any (is_shared_end owners u) ends ≡ false
    → has_other (get_or owners c owner.Nobody) u ≡ false
not_shared owners u c [] named free = cc
not_shared owners u c (E.Port p ∷ ends) named free = not_shared owners u c ends named free
not_shared owners u c (E.Comm d n ∷ ends) named free =
    let none = or_parts (has_other (get_or owners d owner.Nobody) u) _ free in
    elim (or_cases (eqb d c) _ named) [
      | inl here ↦ subst (λ z. has_other (get_or owners z owner.Nobody) u ≡ false) (eqb-true d c here) none.0
      | inr later ↦ not_shared owners u c ends later none.1
    ]

pub none_shared : (t : Tables) (m u base n : ℕ) (owners : List Owner) (taken : List Bool) → IsRangeOf t m base n → AreOwners t base owners → u ≡ mode_module t m
    → ((q : ℕ) (y : Inv) → q < n → slice_get t.invs (base + q) ≡ Some y → is_concrete t y ≡ true → list_any (is_shared_end owners u) y.writes ≡ false)
    → AreNoted t m base n taken
none_shared t m u base n owners taken range owned own free = λ q c y less few at conc named is.
    absurd (by c few (not_shared owners u c y.writes named (free q y less at conc)) (taker t m base c is))
  where
    by : (c : ℕ) → c < 1024 → has_other (get_or owners c owner.Nobody) u ≡ false → Taker t m base c → ⊥
    by c few alone r =
        rivals_apart t r.x.mode m
        (same_module (get_or owners c owner.Nobody) (mode_module t r.x.mode) u (owned r.l c r.x r.below few r.at r.concrete r.writes) alone ∙ own)
        (λ same. before (range.outside r.l r.x r.at same).0 r.below) r.together
      where
        before : base ≤ r.l → r.l < base → ⊥
        before a b = omega arith

-- and marks that say what is taken have what is written
pub all_noted : (t : Tables) (m base n : ℕ) (taken : List Bool) → length taken ≡ 1024 → AreTaken t m base taken → AreNoted t m base n taken
all_noted t m base n taken len says = λ q c y less few at conc named is. says c (omega (arith, len)) ∙ is
