-- What an instruction leaves as it was: sensors and output buffers.
use Rattle.std.proofs.Common.{◌≡◌, ℕ, true, false, Bool, List, [], get_or, slice_get, set, Option, Some, None, ℤ, pos, refl, sym, ap, ◌∙◌, arith, inl, inr}
use Rattle.htl_emach.proofs.Words.{get_or-set_other, Comm, Inv, End, AreInRange, IsInvInRange, Tables, Sensors, Output, KeptApart, EInstr, EDone, Content, buffer, comm_of, writes_at, effect, content_after, SensorsStay, each_at, item_at, cases_eq}
use Rattle.htl_model.specs.declared.parts.End.TheVariants as E
use Rattle.htl_ecode.specs.declared.instr.EInstr.TheVariants as I

effect_outputs : (t : Tables) (i : EInstr) (w : Content) → (effect t i w).outputs ≡ w.outputs
effect_outputs t (I.CallWrite a b) w = refl
effect_outputs t _ w = refl

pub outputs_stay : (t : Tables) (w after : Content) (result : Option EDone) → after ≡ content_after t w result → after.outputs ≡ w.outputs
outputs_stay t w after None e = ap (λ (z : Content). z.outputs) e
outputs_stay t w after (Some d) e = ap (λ (z : Content). z.outputs) e ∙ effect_outputs t d.instr w

-- no invocation writes a sensor
unwritten : (t : Tables) (i k : ℕ) (c n : ℕ) (x : Comm) → AreInRange t → KeptApart t 12 → slice_get (writes_at t i) k ≡ Some (E.Comm c n) → slice_get t.comms c ≡ Some x → x.sensor ≡ true → ⊥
unwritten t i k c n x r kept end at sensor = by_inv (slice_get t.invs i) refl end
  where
    by_inv : (o : Option Inv) → slice_get t.invs i ≡ o → slice_get (elim o as (λ _. List End) [ Some y ↦ y.writes | None ↦ [] ]) k ≡ Some (E.Comm c n) → ⊥
    by_inv None is end = cc
    by_inv (Some y) is end =
        let m = item_at t.modes y.mode (each_at (IsInvInRange t) t.invs r.invs i y is).owner in
        kept Sensors (record { mode = y.mode; inv = Some i; part = Output k }) k 0 (omega arith) (λ e. omega (arith, e))
        (m.0, m.1, (y, is, refl, (E.Comm c n, end, (refl, refl, ap (λ (o : Option Comm). elim o as (λ _. Bool) [ Some z ↦ z.sensor | None ↦ false ]) at ∙ sensor))))

write_sensors : (t : Tables) (w : Content) (i k : ℕ) → AreInRange t → KeptApart t 12 → SensorsStay t w.values (effect t (I.CallWrite i k) w).values
write_sensors t w i k r kept = by_end (slice_get (writes_at t i) k) refl
  where
    by_end : (o : Option End) → slice_get (writes_at t i) k ≡ o → SensorsStay t w.values (elim (comm_of o) as (λ _. List ℤ) [ Some d ↦ set w.values d (buffer w.outputs i k) | None ↦ w.values ])
    by_end None e = λ c x at sensor. refl
    by_end (Some (E.Port p)) e = λ c x at sensor. refl
    by_end (Some (E.Comm d n)) e = λ c x at sensor. elim (cases_eq c d) [
      | inl same ↦ absurd (unwritten t i k d n x r kept e (ap (slice_get t.comms) (sym same) ∙ at) sensor)
      | inr other ↦ get_or-set_other w.values d c (buffer w.outputs i k) (pos 0) other
    ]

effect_sensors : (t : Tables) (i : EInstr) (w : Content) → AreInRange t → KeptApart t 12 → SensorsStay t w.values (effect t i w).values
effect_sensors t (I.CallWrite a b) w r kept = write_sensors t w a b r kept
effect_sensors t _ w r kept = λ c x at sensor. refl

pub sensors_stay : (t : Tables) (w after : Content) (result : Option EDone) → AreInRange t → KeptApart t 12 → after ≡ content_after t w result → SensorsStay t w.values after.values
sensors_stay t w after None r kept e = λ c x at sensor. ap (λ (z : Content). get_or z.values c (pos 0)) e
sensors_stay t w after (Some d) r kept e = λ c x at sensor. ap (λ (z : Content). get_or z.values c (pos 0)) e ∙ effect_sensors t d.instr w r kept c x at sensor
