-- The write that the meaning finds is one that is due, and where it finds none, none is.
use Rattle.std.proofs.Common.{◌≡◌, ℕ, zero, suc, ◌+◌, ◌*◌, Bool, true, false, cond, ◌&&◌, eqb, List, [], ◌∷◌, slice_get, Option, Some, None, refl, sym, ap, ◌∙◌, arith}
use Rattle.htl_runs.proofs.Words.{eqb-true, eq-eqb, and_parts, Inv, End, Stay, Write, Tables, comm_period, mode_module, is_concrete, stay_of, end_to, in_round, round_start, write_in, with_start, write_from, InvStands, IsDue, not_some, same_Some}
use Rattle.htl_model.specs.declared.parts.End.TheVariants as E

found_end : (t : Tables) (c s now q o : ℕ) (ends : List End) → end_to t c s now q ends ≡ Some o
    → (d : ℕ) × (o ≡ q + d) × (n : ℕ) × (slice_get ends d ≡ Some (E.Comm c n)) × (s + n * comm_period t c ≡ now)
found_end t c s now q o [] e = not_some o e
found_end t c s now q o (E.Port p ∷ ends) e = let r = found_end t c s now (suc q) o ends e in (suc r.0, omega (arith, r.1), r.2, r.3, r.4)
found_end t c s now q o (E.Comm d n ∷ ends) e = by_test (eqb c d && eqb (s + n * comm_period t d) now) refl e (λ g. found_end t c s now (suc q) o ends g)
  where
    by_test : (b : Bool) → (eqb c d && eqb (s + n * comm_period t d) now) ≡ b → ◌≡◌ {A = Option ℕ} (cond b (Some q) (end_to t c s now (suc q) ends)) (Some o)
        → (end_to t c s now (suc q) ends ≡ Some o → (d : ℕ) × (o ≡ suc q + d) × (n : ℕ) × (slice_get ends d ≡ Some (E.Comm c n)) × (s + n * comm_period t c ≡ now))
        → (e : ℕ) × (o ≡ q + e) × (m : ℕ) × (slice_get (E.Comm d n ∷ ends) e ≡ Some (E.Comm c m)) × (s + m * comm_period t c ≡ now)
    by_test true is g ih =
        let h = and_parts (eqb c d) (eqb (s + n * comm_period t d) now) is in
        let same : c ≡ d = eqb-true c d h.0 in
        let place : q ≡ o = same_Some _ _ g in
        (0, omega (arith, place), n, ap (λ z. Some (E.Comm z n)) (sym same), ap (λ z. s + n * comm_period t z) same ∙ eqb-true (s + n * comm_period t d) now h.1)
    by_test false is g ih = let r = ih g in (suc r.0, omega (arith, r.1), r.2, r.3, r.4)

no_end : (t : Tables) (c s now q : ℕ) (ends : List End) → end_to t c s now q ends ≡ None → (d n : ℕ) → slice_get ends d ≡ Some (E.Comm c n) → s + n * comm_period t c ≡ now → ⊥
no_end t c s now q [] e d n at h = not_some (E.Comm c n) at
no_end t c s now q (E.Port p ∷ ends) e zero n at h = let z : E.Port p ≡ E.Comm c n = same_Some _ _ at in cc
no_end t c s now q (E.Port p ∷ ends) e (suc d) n at h = no_end t c s now (suc q) ends e d n at h
no_end t c s now q (E.Comm a m ∷ ends) e d n at h = by_test (eqb c a && eqb (s + m * comm_period t a) now) refl e d at (λ g j f. no_end t c s now (suc q) ends g j n f h)
  where
    by_test : (b : Bool) → (eqb c a && eqb (s + m * comm_period t a) now) ≡ b → ◌≡◌ {A = Option ℕ} (cond b (Some q) (end_to t c s now (suc q) ends)) None
        → (d : ℕ) → slice_get (E.Comm a m ∷ ends) d ≡ Some (E.Comm c n)
        → (end_to t c s now (suc q) ends ≡ None → (j : ℕ) → slice_get ends j ≡ Some (E.Comm c n) → ⊥) → ⊥
    by_test true is g d at ih = not_some q (sym g)
    by_test false is g (suc d) at ih = ih g d at
    by_test false is g zero at ih = grind (arith, same_Some, eq-eqb)

-- the round in which an invocation stands
round_stands : (t : Tables) (stays : List (Option Stay)) (i s : ℕ) (x : Inv) → slice_get t.invs i ≡ Some x → round_start t stays x ≡ Some s → InvStands t stays i x s
round_stands t stays i s x at e = grind (arith, not_some, eqb-true, same_Some)

pub stands_round : (t : Tables) (stays : List (Option Stay)) (i s : ℕ) (x : Inv) → InvStands t stays i x s → round_start t stays x ≡ Some s
stands_round t stays i s x st = grind (arith, eq-eqb)

-- what is found of one invocation
found_in : (t : Tables) (stays : List (Option Stay)) (c now k : ℕ) (x : Inv) (w : Write) → slice_get t.invs k ≡ Some x → write_in t c now k x.writes (round_start t stays x) ≡ Some w
    → (d : IsDue t stays now w.inv w.output c) × (d.start ≡ w.start)
found_in t stays c now k x w at e = by_round (round_start t stays x) refl e
  where
    by_round : (o : Option ℕ) → round_start t stays x ≡ o → write_in t c now k x.writes o ≡ Some w → (d : IsDue t stays now w.inv w.output c) × (d.start ≡ w.start)
    by_round None is g = not_some w g
    by_round (Some s) is g = by_end (end_to t c s now 0 x.writes) refl g
      where
        by_end : (o : Option ℕ) → end_to t c s now 0 x.writes ≡ o → with_start k s o ≡ Some w → (d : IsDue t stays now w.inv w.output c) × (d.start ≡ w.start)
        by_end None f h = not_some w h
        by_end (Some o) f h =
            let r = found_end t c s now 0 o x.writes f in
            let y : ◌≡◌ {A = Write} (record { inv = k; start = s; output = o }) w = same_Some _ _ h in
            let inv : k ≡ w.inv = ap (λ (z : Write). z.inv) y in
            let st = round_stands t stays k s x at is in
            let place : w.output ≡ r.0 = omega (arith, ap (λ (z : Write). z.output) y, r.1) in (
              record {
                inv = x;
                start = s;
                instance = r.2;
                stands = record { known = ap (slice_get t.invs) (sym inv) ∙ st.known; concrete = st.concrete; in_round = st.in_round };
                end = ap (slice_get x.writes) place ∙ r.3;
                at = r.4;
              },
              (ap (λ (z : Write). z.start) y),
            )

pub found_write : (t : Tables) (stays : List (Option Stay)) (c now q : ℕ) (xs : List Inv) (w : Write) → ((j : ℕ) → slice_get t.invs (q + j) ≡ slice_get xs j) → write_from t stays c now q xs ≡ Some w
    → (d : IsDue t stays now w.inv w.output c) × (d.start ≡ w.start)
found_write t stays c now q [] w at e = not_some w e
found_write t stays c now q (x ∷ xs) w at e =
    by_item (write_in t c now q x.writes (round_start t stays x)) refl e
    (λ g. found_write t stays c now (suc q) xs w (λ j. ap (slice_get t.invs) (let z : suc q + j ≡ q + suc j = omega arith in z) ∙ at (suc j)) g)
  where
    by_item : (o : Option Write) → write_in t c now q x.writes (round_start t stays x) ≡ o → ◌≡◌ {A = Option Write} (elim o [ Some w ↦ Some w | None ↦ write_from t stays c now (suc q) xs ]) (Some w)
        → (write_from t stays c now (suc q) xs ≡ Some w → (d : IsDue t stays now w.inv w.output c) × (d.start ≡ w.start)) → (d : IsDue t stays now w.inv w.output c) × (d.start ≡ w.start)
    by_item None is g ih = ih g
    by_item (Some v) is g ih = found_in t stays c now q x w (ap (slice_get t.invs) (let z : q ≡ q + 0 = omega arith in z) ∙ at 0) (is ∙ g)

no_write : (t : Tables) (stays : List (Option Stay)) (c now q : ℕ) (xs : List Inv) → write_from t stays c now q xs ≡ None
    → (j s k n : ℕ) (x : Inv) → slice_get xs j ≡ Some x → round_start t stays x ≡ Some s → slice_get x.writes k ≡ Some (E.Comm c n) → s + n * comm_period t c ≡ now → ⊥
no_write t stays c now q [] e j s k n x at r en h = not_some x at
no_write t stays c now q (y ∷ xs) e j s k n x at r en h = by_item (write_in t c now q y.writes (round_start t stays y)) refl e j at (λ g l f. no_write t stays c now (suc q) xs g l s k n x f r en h)
  where
    none_in : (o : Option ℕ) → with_start q s o ≡ None → o ≡ None
    none_in None f = refl
    none_in (Some o) f = not_some (record { inv = q; start = s; output = o }) (sym f)

    by_item : (o : Option Write) → write_in t c now q y.writes (round_start t stays y) ≡ o → ◌≡◌ {A = Option Write} (elim o [ Some w ↦ Some w | None ↦ write_from t stays c now (suc q) xs ]) None
        → (j : ℕ) → slice_get (y ∷ xs) j ≡ Some x → (write_from t stays c now (suc q) xs ≡ None → (l : ℕ) → slice_get xs l ≡ Some x → ⊥) → ⊥
    by_item (Some v) is g j at ih = not_some v (sym g)
    by_item None is g (suc j) at ih = ih g j at
    by_item None is g zero at ih = grind (arith, same_Some, no_end, none_in)

pub no_due : (t : Tables) (stays : List (Option Stay)) (c now : ℕ) → write_from t stays c now 0 t.invs ≡ None → (i k : ℕ) → IsDue t stays now i k c → ⊥
no_due t stays c now e i k d = no_write t stays c now 0 t.invs e i d.start k d.instance d.inv d.stands.known (stands_round t stays i d.start d.inv d.stands) d.end d.at
