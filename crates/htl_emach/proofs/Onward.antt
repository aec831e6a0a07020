-- What the machine does next, from any place inside an instant.
use Rattle.std.proofs.Common.{◌≡◌, ℕ, ◌<◌, true, eqb, List, [], ◌∷◌, ◌++◌, length, slice_get, Option, Some, None, ℤ, IfSome, All, refl, sym, ap, ◌∙◌, subst}
use Rattle.htl_emach.proofs.Words.{slice_get_within, Event, Inv, End, Tables, AreInRange, IsInvInRange, IsEndInRange, state, ECode, EInstr, Done, Block, EDone, Content, comm_of, reads_at, writes_at, IsShaped, HasEnds, Calendar, Standing, taken, taken_by, block_from, first_due, triggers_of, with_trigger, done_at, done_in, stepped, standing_after, Fits, goes_at, IsAllowed, IsSized, BlockRuns, IsInBlock, PhaseStands, Midway, Onward, phase_path, each_at, nothing_ends}
use Rattle.htl_model.specs.declared.parts.End.TheVariants as E
use Rattle.htl_ecode.specs.declared.instr.EInstr.TheVariants as I
use Rattle.htl_emach.proofs.{ModuleLaws.ModuleLaws, Inside.next_of_block, Inside.inside, Beginning.no_block, Beginning.begins, Effects.sized_module}

-- the next instruction of a block, and what it may be
pub record Next (t : Tables) (code : ECode) (phase : ℕ) (b : Block) : Type 0 where
  pub instr : EInstr
  pub stands : slice_get code.instrs b.address ≡ Some instr
  pub allowed : IsAllowed t phase b.«module» instr

pub next_in : (t : Tables) (code : ECode) (es : List Event) (now phase : ℕ) (c : Calendar) (b : Block) (rest : List Done) → IsInBlock t code es now phase c b rest → Next t code phase b
next_in t code es now phase c b rest h = by_path h.path h.runs
  where
    by_path : (xs : List ℕ) → BlockRuns t code es now phase c b.«module» b.address xs → Next t code phase b
    by_path [] r = absurd (nothing_ends r.ends.0 r.ends.1 r.ends.3)
    by_path (x ∷ xs) r =
        let one = next_of_block code.instrs (goes_at t es now) b.address x xs r.ends in
        record { instr = one.1.0; stands = one.1.1; allowed = r.allowed.0 one.1.0 (ap (slice_get code.instrs) one.0 ∙ one.1.1) }

module _ (t : Tables) (code : ECode) (es : List Event) (now phase : ℕ) (laws : (j : ℕ) → j < length t.modules → ModuleLaws t code es now phase j) where
  at_block : (values : List ℤ) (done rest : List Done) → phase_path t code es now phase ≡ done ++ rest → (eqb phase 2 ≡ true → values ≡ (state t es now).values) →
      (m : Standing) (c : Calendar) (b : Block) → taken phase now m ≡ c → IsInBlock t code es now phase c b rest →
      Onward t code es now phase (standing_after t code values phase now m (done_at b.«module» b.address (slice_get code.instrs b.address))) done rest (done_at b.«module» b.address (slice_get code.instrs b.address))
  at_block values done rest path same m c b is h =
      let n = next_in t code es now phase c b rest h in
      let d : EDone = record { address = b.address; instr = n.instr; «module» = b.«module» } in
      let one : Onward t code es now phase (stepped t code values now c d) done rest (Some d) = inside t code es now phase c b values done rest n.instr path h n.stands same in
      let two : Onward t code es now phase (stepped t code values now (taken phase now m) d) done rest (Some d) = subst (λ z. Onward t code es now phase (stepped t code values now z d) done rest (Some d)) (sym is) one in
      subst (λ o. Onward t code es now phase (standing_after t code values phase now m (done_at b.«module» b.address o)) done rest (done_at b.«module» b.address o)) (sym n.stands) two

  pub onward_at : (values : List ℤ) (done rest : List Done) (c : Calendar) (r : Option Block) → phase_path t code es now phase ≡ done ++ rest → (eqb phase 2 ≡ true → values ≡ (state t es now).values) →
      PhaseStands t code es now phase c r rest →
      Onward t code es now phase (standing_after t code values phase now (record { calendar = c; running = r }) (done_in code phase now (record { calendar = c; running = r }))) done rest (done_in code phase now (record { calendar = c; running = r }))
  onward_at values done rest c (Some b) path same h = at_block values done rest path same (record { calendar = c; running = Some b }) c b refl h
  onward_at values done rest c None path same h = by_due (first_due now 0 (triggers_of phase c)) refl
    where
      by_due : (f : Option (ℕ × ℕ)) → first_due now 0 (triggers_of phase c) ≡ f →
          Onward t code es now phase (standing_after t code values phase now (record { calendar = c; running = None }) (elim (block_from now f) [ Some b ↦ done_at b.«module» b.address (slice_get code.instrs b.address) | None ↦ None ])) done rest
          (elim (block_from now f) [ Some b ↦ done_at b.«module» b.address (slice_get code.instrs b.address) | None ↦ None ])
      by_due None is = let r = no_block t code es now phase laws c rest h is in (r.0, refl, r.1)
      by_due (Some p) is =
          at_block values done rest path same (record { calendar = c; running = None }) (with_trigger phase p.0 None c) (record { «module» = p.0; address = p.1; at = now })
          (ap (λ f. taken_by phase f c) is) (begins t code es now phase laws c rest p h is)

  -- one call: from any place inside a phase, the next of the path is done, and the machine stands behind it
  pub onward : (values : List ℤ) (m : Standing) (done rest : List Done) → (eqb phase 2 ≡ true → values ≡ (state t es now).values) → Midway t code es now phase m done rest →
      Onward t code es now phase (standing_after t code values phase now m (done_in code phase now m)) done rest (done_in code phase now m)
  onward values m done rest same h = onward_at values done rest m.calendar m.running h.path same h.stands

-- ---- the next instruction can be done

comm_below : (t : Tables) (m : ℕ) (n : ℕ) (e : End) → n ≡ length t.comms → IsEndInRange t m e → IfSome (comm_of (Some e)) (λ c. c < n)
comm_below t m n (E.Comm c i) same h = subst (λ z. c < z) (sym same) h.0
comm_below t m n (E.Port p) same h = tt

end_below : (t : Tables) (m n k : ℕ) (ends : List End) → n ≡ length t.comms → All (IsEndInRange t m) ends → IfSome (comm_of (slice_get ends k)) (λ c. c < n)
end_below t m n k ends same all = by_end (slice_get ends k) refl
  where
    by_end : (o : Option End) → slice_get ends k ≡ o → IfSome (comm_of o) (λ c. c < n)
    by_end None e = tt
    by_end (Some x) e = comm_below t m n x same (each_at (IsEndInRange t m) ends all k x e)

pub allowed_fits : (t : Tables) (c : Calendar) (w : Content) (phase k : ℕ) (i : EInstr) → AreInRange t → HasEnds t → IsShaped t w → IsSized t c → IsAllowed t phase k i → Fits t c w i
allowed_fits t c w phase k (I.CallWrite u v) r e s z h =
    let row = s.outputs u h.1.0 h.1.1 in
    let ends : writes_at t u ≡ h.1.0.writes = ap (λ (o : Option Inv). elim o as (λ _. List End) [ Some x ↦ x.writes | None ↦ [] ]) h.1.1 in
    let inv = each_at (IsInvInRange t) t.invs r.invs u h.1.0 h.1.1 in
    record {
      end = subst (λ zs. v < length zs) (sym ends) h.1.2;
      room = (subst (λ n. u < n) (sym s.output_rows) (slice_get_within t.invs u h.1.0 h.1.1), subst (λ n. v < n) (e.writes u h.1.0 h.1.1 ∙ sym row.count) h.1.2);
      comm = subst (λ zs. IfSome (comm_of (slice_get zs v)) (λ y. y < length w.values)) (sym ends) (end_below t h.1.0.mode (length w.values) v h.1.0.writes s.values.count inv.writes);
    }
allowed_fits t c w phase k (I.CallRead u v) r e s z h =
    let row = s.inputs u h.1.0 h.1.1 in
    let ends : reads_at t u ≡ h.1.0.reads = ap (λ (o : Option Inv). elim o as (λ _. List End) [ Some x ↦ x.reads | None ↦ [] ]) h.1.1 in
    let inv = each_at (IsInvInRange t) t.invs r.invs u h.1.0 h.1.1 in
    record {
      end = subst (λ zs. v < length zs) (sym ends) h.1.2;
      room = (subst (λ n. u < n) (sym s.input_rows) (slice_get_within t.invs u h.1.0 h.1.1), subst (λ n. v < n) (e.reads u h.1.0 h.1.1 ∙ sym row.count) h.1.2);
      comm = subst (λ zs. IfSome (comm_of (slice_get zs v)) (λ y. y < length w.values)) (sym ends) (end_below t h.1.0.mode (length w.values) v h.1.0.reads s.values.count inv.reads);
    }
allowed_fits t c w phase k (I.JumpIf a b) r e s z h = h.1
allowed_fits t c w phase k (I.Fork a) r e s z h = sized_module t c a z h
allowed_fits t c w phase k _ r e s z h = tt
