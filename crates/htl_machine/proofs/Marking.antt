-- What instructions change is marked.
use Rattle.std.proofs.Common.{◌≡◌, ℕ, ◌+◌, ◌<◌, ◌≤◌, Bool, false, ◌&&◌, ◌||◌, eqb, List, [], length, get_or, set, slice_get, Option, Some, None, IfSome, ℤ, pos, refl, sym, ap, ◌∙◌, subst, arith, length-set, get_or-set_other}
use Rattle.htl_machine.proofs.Words.{Event, Tables, AreInRange, KeptApart, ECode, EInstr, Spells, spelled_departs_not, Block, EDone, Calendar, Standing, list_at, triggers_of, first_due, block_in, taken, taken_by, calendar_effect, done_at, done_in, entry_of, standing_after, content_after, Content, comm_of, writes_at, effect, IsReady, StandsSafely, IsShaped, SensorsStay, list_other, ready_safely, Onward, phase_path, IsToClose, IsToRead, is_marked, MarksChanges, KeepsNoted, is_written, decides, replay, Noted, trigger_set_modes, eqb_apart, or_parts}
use Rattle.htl_ecode.specs.declared.instr.EInstr.TheVariants as I

-- ---- values

values_length : (t : Tables) (i : EInstr) (w : Content) → length (effect t i w).values ≡ length w.values
values_length t (I.CallWrite a b) w = by (comm_of (slice_get (writes_at t a) b))
  where
    by : (o : Option ℕ) → length (elim o as (λ _. List ℤ) [ Some c ↦ set w.values c (get_or (get_or w.outputs a []) b (pos 0)) | None ↦ w.values ]) ≡ length w.values
    by None = refl
    by (Some c) = length-set w.values c (get_or (get_or w.outputs a []) b (pos 0))
values_length t _ w = refl

-- a communicator that isn't written keeps its value
value_stays : (t : Tables) (i : EInstr) (w : Content) (c : ℕ) → is_written t i c ≡ false → get_or (effect t i w).values c (pos 0) ≡ get_or w.values c (pos 0)
value_stays t (I.CallWrite a b) w c e = by (comm_of (slice_get (writes_at t a) b)) e
  where
    by : (o : Option ℕ) → elim o as (λ _. Bool) [ Some x ↦ eqb c x | None ↦ false ] ≡ false
        → get_or (elim o as (λ _. List ℤ) [ Some x ↦ set w.values x (get_or (get_or w.outputs a []) b (pos 0)) | None ↦ w.values ]) c (pos 0) ≡ get_or w.values c (pos 0)
    by None e = refl
    by (Some x) e = get_or-set_other w.values x c (get_or (get_or w.outputs a []) b (pos 0)) (pos 0) (eqb_apart c x e)
value_stays t _ w c e = refl

-- ---- modes

modes_taken : (phase at : ℕ) (m : Standing) → (taken phase at m).modes ≡ m.calendar.modes
modes_taken phase at m = by m.running
  where
    by_due : (f : Option (ℕ × ℕ)) → (taken_by phase f m.calendar).modes ≡ m.calendar.modes
    by_due None = refl
    by_due (Some p) = trigger_set_modes phase p.0 None m.calendar

    by : (o : Option Block) → (let d : Calendar = elim o as (λ _. Calendar) [ Some b ↦ m.calendar | None ↦ taken_by phase (first_due at 0 (triggers_of phase m.calendar)) m.calendar ] in d.modes ≡ m.calendar.modes)
    by (Some b) = refl
    by None = by_due (first_due at 0 (triggers_of phase m.calendar))

modes_length : (t : Tables) (code : ECode) (at k : ℕ) (i : EInstr) (c : Calendar) → length (calendar_effect t code at k i c).modes ≡ length c.modes
modes_length t code at k (I.Future d p x) c = ap length (trigger_set_modes p k (Some (record { at = at + d; target = x })) c)
modes_length t code at k (I.Enter a) c = length-set c.modes k (Some a)
modes_length t code at k I.Leave c = length-set c.modes k None
modes_length t code at k (I.Fork a) c = ap length (trigger_set_modes 2 a (Some (record { at = at; target = entry_of t code a })) c)
modes_length t code at k _ c = refl

-- a module that decides nothing keeps its mode
mode_stays : (t : Tables) (code : ECode) (at k : ℕ) (i : EInstr) (c : Calendar) (j : ℕ) → (decides i && eqb j k) ≡ false → list_at (calendar_effect t code at k i c).modes j ≡ list_at c.modes j
mode_stays t code at k (I.Future d p x) c j e = ap (λ xs. list_at xs j) (trigger_set_modes p k (Some (record { at = at + d; target = x })) c)
mode_stays t code at k (I.Enter a) c j e = list_other c.modes k j (Some a) (eqb_apart j k e)
mode_stays t code at k I.Leave c j e = list_other c.modes k j None (eqb_apart j k e)
mode_stays t code at k (I.Fork a) c j e = ap (λ xs. list_at xs j) (trigger_set_modes 2 a (Some (record { at = at; target = entry_of t code a })) c)
mode_stays t code at k _ c j e = refl

-- ---- one instruction

pub noted_on : (n next : Noted) (t : Tables) (code : ECode) (values : List ℤ) (phase at : ℕ) (m after : Standing) (w v : Content) (d : EDone) → MarksChanges n w.values m.calendar.modes
    → after ≡ standing_after t code values phase at m (Some d) → v ≡ content_after t w (Some d) → ((c : ℕ) → is_marked next.written c ≡ (is_marked n.written c || is_written t d.instr c))
    → ((k : ℕ) → is_marked next.decided k ≡ (is_marked n.decided k || (decides d.instr && eqb k d.«module»))) → KeepsNoted n next → MarksChanges next v.values after.calendar.modes
noted_on n next t code values phase at m after w v d h goes is written decided kept =
    subst (λ (z : Content). MarksChanges next z.values after.calendar.modes) (sym is)
    (subst (λ (z : Standing). MarksChanges next (effect t d.instr w).values z.calendar.modes) (sym goes)
    (record {
      comms = ap length kept.values ∙ h.comms ∙ sym (values_length t d.instr w);
      values_are = λ c e.
          let u = or_parts (is_marked n.written c) (is_written t d.instr c) (sym (written c) ∙ e) in
          ap (λ xs. get_or xs c (pos 0)) kept.values ∙ h.values_are c u.0 ∙ sym (value_stays t d.instr w c u.1);
      modules = ap length kept.modes ∙ h.modules ∙ sym (modes_length t code at d.«module» d.instr (taken phase at m) ∙ ap length (modes_taken phase at m));
      modes_are = λ k e.
          let u = or_parts (is_marked n.decided k) (decides d.instr && eqb k d.«module») (sym (decided k) ∙ e) in
          ap (λ xs. list_at xs k) kept.modes ∙ h.modes_are k u.0 ∙ sym (mode_stays t code at d.«module» d.instr (taken phase at m) k u.1 ∙ ap (λ xs. list_at xs k) (modes_taken phase at m));
    }))

-- the module of an instruction that is done is one of the tables
pub module_done : (t : Tables) (code : ECode) (phase at : ℕ) (m : Standing) (w : Content) (d : EDone) → AreInRange t → KeptApart t 12 → Spells t code → (1 ≤ phase) × (phase ≤ 3) → IsShaped t w → StandsSafely t code m
    → Some d ≡ done_in code phase at m → d.«module» < length t.modules
module_done t code phase at m w d range kept spells ph shaped safe is =
    by (block_in phase at m) (ready_safely t code phase at m w range kept (spelled_departs_not t code spells) ph shaped safe) is
  where
    by_instr : (b : Block) → IsReady t code m.calendar w b → (i : Option EInstr) → Some d ≡ done_at b.«module» b.address i → d.«module» < length t.modules
    by_instr b r None e = absurd (let z : ⊥ = cc in z)
    by_instr b r (Some i) e =
        let same : d.«module» ≡ b.«module» = ap (λ (o : Option EDone). elim o as (λ _. ℕ) [ Some x ↦ x.«module» | None ↦ 0 ]) e in
        omega (arith, same, r.«module».modes, safe.sized.modes)

    by : (o : Option Block) → IfSome o (IsReady t code m.calendar w) → Some d ≡ elim o as (λ _. Option EDone) [ Some b ↦ done_at b.«module» b.address (slice_get code.instrs b.address) | None ↦ None ] → d.«module» < length t.modules
    by None r e = absurd (let z : ⊥ = cc in z)
    by (Some b) r e = by_instr b r (slice_get code.instrs b.address) e

-- ---- sensors

pub sensors_then : (t : Tables) (a b c : List ℤ) → SensorsStay t a b → SensorsStay t b c → SensorsStay t a c
sensors_then t a b c f g = λ k x at is. g k x at is ∙ f k x at is

pub sensors_same : (t : Tables) (a b : List ℤ) → b ≡ a → SensorsStay t a b
sensors_same t a b e = λ k x at is. ap (λ xs. get_or xs k (pos 0)) e

-- ---- what was noted stays while the switches are done, behind which the reads come next

pub reads_next : {t : Tables} {code : ECode} {es : List Event} {at : ℕ} {m next : Standing} {w after : Content} {n kept : Noted} → KeepsNoted n kept → IsToClose t code es at m w n.values n.modes
    → Onward t code es at 2 next (phase_path t code es at 2) [] None → after ≡ replay t code (phase_path t code es at 2) w → IsToRead t code es at next after kept.values kept.modes
reads_next {t} {code} {es} {at} same h on is = record {
  switches = on;
  noted =
      record {
        values_are = λ some. same.values ∙ h.noted.values_are some;
        modes_are = λ k less. ap (λ (xs : List (Option ℕ)). list_at xs k) same.modes ∙ h.noted.modes_are k less;
      };
  reads = ap (λ (z : Content). (replay t code (phase_path t code es at 3) z).values) is ∙ h.reads;
}
