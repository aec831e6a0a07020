-- A machine that stands safely can go on, and stands safely after each call.
use Rattle.std.proofs.Common.{◌≡◌, ℕ, zero, suc, ◌+◌, ◌<◌, ◌≤◌, Bool, true, false, cond, eqb, List, [], ◌∷◌, length, slice_get, set, map, Option, Some, None, IfSome, ℤ, refl, sym, ap, ◌∙◌, subst, arith, ◌⊎◌, inl, inr}
use Rattle.htl_emach.proofs.Words.{slice_get_within, none-some, same_Some, length-set, length-map, length-replicate, Module, AreInRange, KeptApart, Tables, ECode, EInstr, departure, entered, holds_in, ModeReads, spelled_reads, Trigger, Block, EDone, Content, IsShaped, HasEnds, Calendar, Standing, list_at, triggers_of, target_at, first_due, block_from, block_in, taken, taken_by, with_trigger, goes, runs_in, going_on, calendar_effect, done_at, done_in, stepped, standing_after, entry_of, first_trigger, first_calendar, Fits, IsReady, IsSized, IsStart, IsFit, MayLead, IsSafe, safe, RunsSafely, LeadToBlocks, StandsSafely}
use Rattle.htl_ecode.specs.declared.instr.EInstr.TheVariants as I
use Rattle.htl_emach.proofs.{Effects.sized_module, Effects.trigger_set_sized, Beginning.due_some, Beginning.module_some, Beginning.triggers_sized, Onward.allowed_fits, Soundness.has_ends, Soundness.phase_is, States.mode_known}
use Rattle.htl_emach.proofs.{Instants.IsPhase, Instants.list_none, Safely.start_safe}

-- what stands at a safe address
safe_parts : (t : Tables) (code : ECode) (k : ℕ) {a : ℕ} → IsSafe t code k a → (i : EInstr) × (slice_get code.instrs a ≡ Some i) × IsFit t code k i × ((c : ℕ) → MayLead a i c → IsSafe t code k c)
safe_parts t code k (safe a i stands fit next) = (i, stands, fit, next)

fit_fits : (t : Tables) (code : ECode) (c : Calendar) (w : Content) (k : ℕ) (i : EInstr) → AreInRange t → HasEnds t → IsShaped t w → IsSized t c → IsFit t code k i → Fits t c w i
fit_fits t code c w k (I.CallWrite a b) r e s z h = allowed_fits t c w 1 k (I.CallWrite a b) r e s z (refl, h)
fit_fits t code c w k (I.CallRead a b) r e s z h = allowed_fits t c w 3 k (I.CallRead a b) r e s z (refl, h)
fit_fits t code c w k (I.JumpIf a b) r e s z h = h
fit_fits t code c w k (I.Fork a) r e s z h = sized_module t c a z h.0
fit_fits t code c w k _ r e s z h = tt

safe_ready : (t : Tables) (code : ECode) (c : Calendar) (w : Content) (k a at : ℕ) → AreInRange t → HasEnds t → IsShaped t w → IsSized t c → k < length t.modules → IsSafe t code k a → IsReady t code c w (record { «module» = k; address = a; at = at })
safe_ready t code c w k a at r e s z inside h =
    let g = safe_parts t code k h in
    record {
      «module» = sized_module t c k z inside;
      stands = slice_get_within code.instrs a g.0 g.1;
      fits = λ j is. subst (Fits t c w) (same_Some g.0 j (sym g.1 ∙ is)) (fit_fits t code c w k g.0 r e s z g.2);
    }

-- ---- triggers

leads_of : (t : Tables) (code : ECode) (phase : ℕ) (m : Standing) → IsPhase phase → StandsSafely t code m → LeadToBlocks t code phase (triggers_of phase m.calendar)
leads_of t code phase m (inl one) s = subst (λ p. LeadToBlocks t code p (triggers_of p m.calendar)) (sym one) s.writes
leads_of t code phase m (inr (inl two)) s = subst (λ p. LeadToBlocks t code p (triggers_of p m.calendar)) (sym two) s.switches
leads_of t code phase m (inr (inr three)) s = subst (λ p. LeadToBlocks t code p (triggers_of p m.calendar)) (sym three) s.reads

target_trigger : (at a : ℕ) (o : Option Trigger) → target_at at o ≡ Some a → (x : Trigger) × (o ≡ Some x) × (x.target ≡ a)
target_trigger at a None e = absurd (none-some a e)
target_trigger at a (Some x) e = by_test (eqb x.at at) e
  where
    by_test : (b : Bool) → cond b (Some x.target) None ≡ Some a → (y : Trigger) × (Some x ≡ Some y) × (y.target ≡ a)
    by_test true e = (x, refl, same_Some x.target a e)
    by_test false e = absurd (none-some a e)

-- the block that a trigger begins is safe
due_safe : (t : Tables) (code : ECode) (phase at : ℕ) (m : Standing) (p : ℕ × ℕ) → AreInRange t → ((x : ℕ) → x < length t.modes → ModeReads t code x) → IsPhase phase → StandsSafely t code m → first_due at 0 (triggers_of phase m.calendar) ≡ Some p →
    (p.0 < length t.modules) × IsSafe t code p.0 p.1
due_safe t code phase at m p r reads ph s e =
    let f = due_some at 0 (triggers_of phase m.calendar) p e in
    let number : p.0 ≡ f.place = f.number ∙ omega arith in
    let due : target_at at (list_at (triggers_of phase m.calendar) p.0) ≡ Some p.1 = ap (λ j. target_at at (list_at (triggers_of phase m.calendar) j)) number ∙ f.due in
    let x = target_trigger at p.1 (list_at (triggers_of phase m.calendar) p.0) due in
    let start : IsStart t code p.0 phase p.1 = subst (IsStart t code p.0 phase) x.2 (leads_of t code phase m ph s p.0 x.0 x.1) in (
      subst (λ n. p.0 < n) (triggers_sized phase (length t.modules) m.calendar s.sized.writes s.sized.switches s.sized.reads) (module_some at (triggers_of phase m.calendar) p.0 p.1 due),
      start_safe t code p.0 phase p.1 r reads start,
    )

pub ready_safely : (t : Tables) (code : ECode) (phase at : ℕ) (m : Standing) (w : Content) → AreInRange t → KeptApart t 12 → departure t code ≡ None → (1 ≤ phase) × (phase ≤ 3) → IsShaped t w → StandsSafely t code m →
    IfSome (block_in phase at m) (IsReady t code m.calendar w)
ready_safely t code phase at m w r kept spelled ph shaped s = by_running m.running s.running
  where
    ends : HasEnds t
    ends = has_ends t 12 (omega arith) r kept

    by_running : (o : Option Block) → RunsSafely t code o → IfSome (elim o as (λ _. Option Block) [ Some b ↦ Some b | None ↦ block_from at (first_due at 0 (triggers_of phase m.calendar)) ]) (IsReady t code m.calendar w)
    by_running (Some b) h = safe_ready t code m.calendar w b.«module» b.address b.at r ends shaped s.sized h.0 h.1
    by_running None h = by_due (first_due at 0 (triggers_of phase m.calendar)) refl
      where
        by_due : (f : Option (ℕ × ℕ)) → first_due at 0 (triggers_of phase m.calendar) ≡ f → IfSome (block_from at f) (IsReady t code m.calendar w)
        by_due None e = tt
        by_due (Some p) e =
            let g = due_safe t code phase at m p r (λ x known. spelled_reads t code x spelled known) (phase_is phase ph) s e in
            safe_ready t code m.calendar w p.0 p.1 at r ends shaped s.sized g.0 g.1

-- ---- after a call

list_set : {A : Type 0} (xs : List (Option A)) (k j : ℕ) (y : Option A) (z : A) → list_at (set xs k y) j ≡ Some z → ((j ≡ k) × (y ≡ Some z)) ⊎ (list_at xs j ≡ Some z)
list_set [] k j y z e = inr e
list_set (x ∷ xs) zero zero y z e = inl (refl, e)
list_set (x ∷ xs) (suc k) (suc j) y z e = elim (list_set xs k j y z e) [ inl h ↦ inl (ap suc h.0, h.1) | inr h ↦ inr h ]
list_set (x ∷ xs) _ _ y z e = inr e

lead_set : (t : Tables) (code : ECode) (p k : ℕ) (y : Option Trigger) (xs : List (Option Trigger)) → LeadToBlocks t code p xs → ((z : Trigger) → y ≡ Some z → IsStart t code k p z.target) → LeadToBlocks t code p (set xs k y)
lead_set t code p k y xs h g = λ j z e. elim (list_set xs k j y z e) [ inl here ↦ subst (λ n. IsStart t code n p z.target) (sym here.0) (g z here.1) | inr there ↦ h j z there ]

-- the triggers of a calendar lead to blocks
record Leads (t : Tables) (code : ECode) (c : Calendar) : Type 0 where
  sized : IsSized t c
  writes : LeadToBlocks t code 1 c.writes
  switches : LeadToBlocks t code 2 c.switches
  reads : LeadToBlocks t code 3 c.reads

trigger_set_leads : (t : Tables) (code : ECode) (p k : ℕ) (y : Option Trigger) (c : Calendar) → IsPhase p → Leads t code c → ((z : Trigger) → y ≡ Some z → IsStart t code k p z.target) → Leads t code (with_trigger p k y c)
trigger_set_leads t code p k y c (inl one) h g =
    subst (λ q. Leads t code (with_trigger q k y c)) (sym one)
    (record { sized = trigger_set_sized t 1 k y c h.sized; writes = lead_set t code 1 k y c.writes h.writes (λ z e. subst (λ q. IsStart t code k q z.target) one (g z e)); switches = h.switches; reads = h.reads })
trigger_set_leads t code p k y c (inr (inl two)) h g =
    subst (λ q. Leads t code (with_trigger q k y c)) (sym two)
    (record { sized = trigger_set_sized t 2 k y c h.sized; writes = h.writes; switches = lead_set t code 2 k y c.switches h.switches (λ z e. subst (λ q. IsStart t code k q z.target) two (g z e)); reads = h.reads })
trigger_set_leads t code p k y c (inr (inr three)) h g =
    subst (λ q. Leads t code (with_trigger q k y c)) (sym three)
    (record { sized = trigger_set_sized t 3 k y c h.sized; writes = h.writes; switches = h.switches; reads = lead_set t code 3 k y c.reads h.reads (λ z e. subst (λ q. IsStart t code k q z.target) three (g z e)) })

none_is : (t : Tables) (code : ECode) (k p : ℕ) (z : Trigger) → None ≡ Some z → IsStart t code k p z.target
none_is t code k p z e = absurd (none-some z e)

set_is : (t : Tables) (code : ECode) (k p : ℕ) (x z : Trigger) → IsStart t code k p x.target → Some x ≡ Some z → IsStart t code k p z.target
set_is t code k p x z h e = subst (λ (y : Trigger). IsStart t code k p y.target) (same_Some x z e) h

effect_leads : (t : Tables) (code : ECode) (at k : ℕ) (i : EInstr) (c : Calendar) → Leads t code c → IsFit t code k i → Leads t code (calendar_effect t code at k i c)
effect_leads t code at k (I.Future d p x) c h f = trigger_set_leads t code p k (Some (record { at = at + d; target = x })) c f.phase h (λ z e. set_is t code k p (record { at = at + d; target = x }) z f e)
effect_leads t code at k (I.Enter m) c h f =
    record { sized = record { modes = length-set c.modes k (Some m) ∙ h.sized.modes; writes = h.sized.writes; switches = h.sized.switches; reads = h.sized.reads }; writes = h.writes; switches = h.switches; reads = h.reads }
effect_leads t code at k I.Leave c h f =
    record { sized = record { modes = length-set c.modes k None ∙ h.sized.modes; writes = h.sized.writes; switches = h.sized.switches; reads = h.sized.reads }; writes = h.writes; switches = h.switches; reads = h.reads }
effect_leads t code at k (I.Fork j) c h f = trigger_set_leads t code 2 j (Some (record { at = at; target = entry_of t code j })) c (inr (inl refl)) h (λ z e. set_is t code j 2 (record { at = at; target = entry_of t code j }) z f.1 e)
effect_leads t code at k _ c h f = h

-- the machine after an instruction, where there was one
abbrev standing_of : Tables → ECode → List ℤ → ℕ → Calendar → Option EDone → Standing
standing_of t code values at c None = record { calendar = c; running = None }
standing_of t code values at c (Some d) = stepped t code values at c d

stepped_safely : (t : Tables) (code : ECode) (values : List ℤ) (at k a : ℕ) (c : Calendar) → Leads t code c → k < length t.modules → IsSafe t code k a →
    StandsSafely t code (standing_of t code values at c (done_at k a (slice_get code.instrs a)))
stepped_safely t code values at k a c h inside s =
    let g = safe_parts t code k s in
    let e = effect_leads t code at k g.0 c h g.2 in
    subst (λ o. StandsSafely t code (standing_of t code values at c (done_at k a o))) (sym g.1)
    (record { sized = e.sized; writes = e.writes; switches = e.switches; reads = e.reads; running = by_next g.0 g.3 (goes (holds_in t values) (runs_in t c.modes) a g.0) refl })
  where
    by_next : (i : EInstr) → ((b : ℕ) → MayLead a i b → IsSafe t code k b) → (o : Option ℕ) → goes (holds_in t values) (runs_in t c.modes) a i ≡ o → RunsSafely t code (going_on k at o)
    by_next i next None e = tt
    by_next i next (Some b) e = (inside, next b (holds_in t values, runs_in t c.modes, e))

pub after_safely : (t : Tables) (code : ECode) (values : List ℤ) (phase at : ℕ) (m after : Standing) (result : Option EDone) → AreInRange t → departure t code ≡ None → (1 ≤ phase) × (phase ≤ 3) → StandsSafely t code m →
    result ≡ done_in code phase at m → after ≡ standing_after t code values phase at m result → StandsSafely t code after
after_safely t code values phase at m after result r spelled ph s is next =
    subst (StandsSafely t code) (sym (next ∙ ap (standing_after t code values phase at m) is)) (by_running m.calendar m.running s)
  where
    leads : (c : Calendar) (o : Option Block) → StandsSafely t code (record { calendar = c; running = o }) → Leads t code c
    leads c o s = record { sized = s.sized; writes = s.writes; switches = s.switches; reads = s.reads }

    at_block : (n : Standing) (c : Calendar) (b : Block) → taken phase at n ≡ c → Leads t code c → b.«module» < length t.modules → IsSafe t code b.«module» b.address →
        StandsSafely t code (standing_after t code values phase at n (done_at b.«module» b.address (slice_get code.instrs b.address)))
    at_block n c b same h inside g = by_instr (slice_get code.instrs b.address) (stepped_safely t code values at b.«module» b.address c h inside g) (let q = safe_parts t code b.«module» g in (q.0, q.1))
      where
        by_instr : (o : Option EInstr) → StandsSafely t code (standing_of t code values at c (done_at b.«module» b.address o)) → (i : EInstr) × (o ≡ Some i) → StandsSafely t code (standing_after t code values phase at n (done_at b.«module» b.address o))
        by_instr None s i = absurd (none-some i.0 i.1)
        by_instr (Some i) s j = subst (λ z. StandsSafely t code (stepped t code values at z (record { address = b.address; instr = i; «module» = b.«module» }))) (sym same) s

    by_running : (c : Calendar) (o : Option Block) → StandsSafely t code (record { calendar = c; running = o }) →
        StandsSafely t code (standing_after t code values phase at (record { calendar = c; running = o }) (done_in code phase at (record { calendar = c; running = o })))
    by_running c (Some b) s = at_block (record { calendar = c; running = Some b }) c b refl (leads c (Some b) s) s.running.0 s.running.1
    by_running c None s = by_due (first_due at 0 (triggers_of phase c)) refl
      where
        by_due : (f : Option (ℕ × ℕ)) → first_due at 0 (triggers_of phase c) ≡ f →
            StandsSafely t code (standing_after t code values phase at (record { calendar = c; running = None }) (elim (block_from at f) [ Some b ↦ done_at b.«module» b.address (slice_get code.instrs b.address) | None ↦ None ]))
        by_due None e = s
        by_due (Some p) e =
            let g = due_safe t code phase at (record { calendar = c; running = None }) p r (λ x known. spelled_reads t code x spelled known) (phase_is phase ph) s e in
            at_block (record { calendar = c; running = None }) (with_trigger phase p.0 None c) (record { «module» = p.0; address = p.1; at = at }) (ap (λ f. taken_by phase f c) e)
            (trigger_set_leads t code phase p.0 None c (phase_is phase ph) (leads c None s) (λ z e. none_is t code p.0 phase z e)) g.0 g.1

pub few_safely : (t : Tables) (code : ECode) (phase : ℕ) (m : Standing) → AreInRange t → StandsSafely t code m → length (triggers_of phase m.calendar) ≤ 64
few_safely t code phase m r s = subst (λ n. n ≤ 64) (sym (triggers_sized phase (length t.modules) m.calendar s.sized.writes s.sized.switches s.sized.reads)) r.few_modules

-- ---- at the start

map_some : (f : Module → Option Trigger) (xs : List Module) (k : ℕ) (z : Trigger) → list_at (map f xs) k ≡ Some z → (x : Module) × (slice_get xs k ≡ Some x) × (f x ≡ Some z)
map_some f [] k z e = absurd (none-some z e)
map_some f (x ∷ xs) zero z e = (x, refl, e)
map_some f (x ∷ xs) (suc k) z e = map_some f xs k z e

pub first_safely : (t : Tables) (code : ECode) → AreInRange t → StandsSafely t code (record { calendar = first_calendar t code; running = None })
first_safely t code r =
    record {
      sized = record { modes = length-replicate (length t.modules) None; writes = length-replicate (length t.modules) None; switches = length-map t.modules (first_trigger code); reads = length-replicate (length t.modules) None };
      writes = λ k z e. absurd (none-some z (sym (list_none (length t.modules) k) ∙ e));
      switches = λ k z e. (let x = map_some (first_trigger code) t.modules k z e in of_module k x.0 z x.1 x.0.parent refl x.2);
      reads = λ k z e. absurd (none-some z (sym (list_none (length t.modules) k) ∙ e));
      running = tt;
    }
  where
    of_module : (k : ℕ) (x : Module) (z : Trigger) → slice_get t.modules k ≡ Some x → (o : Option ℕ) → x.parent ≡ o →
        ◌≡◌ {A = Option Trigger} (elim o [ None ↦ Some (record { at = 0; target = entered code x.start }) | Some m ↦ None ]) (Some z) → IsStart t code k 2 z.target
    of_module k x z at (Some m) e is = absurd (none-some z is)
    of_module k x z at None e is =
        let known = mode_known t k x.start (r.modules k x at).start in
        let same : record { at = 0; target = entered code x.start } ≡ z = same_Some (record { at = 0; target = entered code x.start }) z is in
        record { mode = x.start; known = known.0; owner = known.1; phase = inr (inl refl); starts = inr (inr (sym (ap (λ (y : Trigger). y.target) same))) }
