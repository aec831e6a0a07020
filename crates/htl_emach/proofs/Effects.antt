-- What the instructions at passed addresses do to a calendar.
use Rattle.std.proofs.Common.{◌≡◌, ℕ, zero, suc, ◌+◌, ◌<◌, Bool, true, false, cond, eqb, List, [], ◌∷◌, ◌++◌, length, slice_get, set, Option, Some, None, refl, sym, ap, ◌∙◌, subst, arith}
use Rattle.htl_emach.proofs.Words.{length-set, joined, numbered, Tables, ECode, EInstr, Requirement, Exactly, NextBlock, EndOfRound, SwitchJump, ModeJump, AtAnchor, all_do, jump_to, Step, jump_to_is, kept, kept_one, instrs_of, Trigger, Calendar, HasModule, list_at, calendar_effect, with_trigger, IsAllowed, AreAllowed, IsSized, Entry, entry_at, calendar_at, calendar_replay}
use Rattle.htl_ecode.specs.declared.instr.EInstr.TheVariants as I

-- ---- by the instructions, plain jumps left out

abbrev pub calendar_after : Tables → ECode → ℕ → ℕ → List EInstr → Calendar → Calendar
calendar_after t code at k [] c = c
calendar_after t code at k (i ∷ is) c = calendar_after t code at k is (calendar_effect t code at k i c)

pub replay_kept : (t : Tables) (code : ECode) (at k : ℕ) (xs : List ℕ) (c : Calendar) → calendar_replay t code at k xs c ≡ calendar_after t code at k (kept code.instrs xs) c
replay_kept t code at k [] c = refl
replay_kept t code at k (x ∷ xs) c = by_instr (replay_kept t code at k xs) (slice_get code.instrs x)
  where
    by_jump : ((d : Calendar) → calendar_replay t code at k xs d ≡ calendar_after t code at k (kept code.instrs xs) d) → (i : EInstr) (o : Option ℕ) → jump_to i ≡ o →
        calendar_replay t code at k xs (calendar_effect t code at k i c) ≡ calendar_after t code at k (elim o [ Some y ↦ kept code.instrs xs | None ↦ i ∷ kept code.instrs xs ]) c
    by_jump ih i (Some y) e = ap (λ z. calendar_replay t code at k xs (calendar_effect t code at k z c)) (jump_to_is i y e) ∙ ih c
    by_jump ih i None e = ih (calendar_effect t code at k i c)

    by_instr : ((d : Calendar) → calendar_replay t code at k xs d ≡ calendar_after t code at k (kept code.instrs xs) d) → (o : Option EInstr) →
        calendar_replay t code at k xs (calendar_at t code at k o c) ≡ calendar_after t code at k (kept_one o (kept code.instrs xs)) c
    by_instr ih None = ih c
    by_instr ih (Some i) = by_jump ih i (jump_to i) refl

-- ---- what may stand

abbrev pub AllAllowed : Tables → ℕ → ℕ → List EInstr → Type 0
AllAllowed t phase k [] = Unit {0}
AllAllowed t phase k (i ∷ is) = IsAllowed t phase k i × AllAllowed t phase k is

pub allowed_kept : (t : Tables) (code : List EInstr) (phase k : ℕ) (xs : List ℕ) → AllAllowed t phase k (kept code xs) → AreAllowed t code phase k xs
allowed_kept t code phase k [] h = tt
allowed_kept t code phase k (x ∷ xs) h = by_instr (allowed_kept t code phase k xs) (slice_get code x) refl h
  where
    some_same : (a b : EInstr) → Some a ≡ Some b → a ≡ b
    some_same a b e = cc

    none_some : (b : EInstr) → None ≡ Some b → ⊥
    none_some b e = cc

    by_jump : (AllAllowed t phase k (kept code xs) → AreAllowed t code phase k xs) → (i : EInstr) (o : Option ℕ) → jump_to i ≡ o → slice_get code x ≡ Some i →
        AllAllowed t phase k (elim o [ Some y ↦ kept code xs | None ↦ i ∷ kept code xs ]) → ((j : EInstr) → slice_get code x ≡ Some j → IsAllowed t phase k j) × AreAllowed t code phase k xs
    by_jump ih i (Some y) e at h =
        (λ j is. subst (IsAllowed t phase k) (sym (jump_to_is i y e) ∙ some_same i j (sym at ∙ is)) tt, ih h)
    by_jump ih i None e at h = (λ j is. subst (IsAllowed t phase k) (some_same i j (sym at ∙ is)) h.0, ih h.1)

    by_instr : (AllAllowed t phase k (kept code xs) → AreAllowed t code phase k xs) → (o : Option EInstr) → slice_get code x ≡ o → AllAllowed t phase k (kept_one o (kept code xs)) →
        ((j : EInstr) → slice_get code x ≡ Some j → IsAllowed t phase k j) × AreAllowed t code phase k xs
    by_instr ih None at h = (λ j is. absurd (none_some j (sym at ∙ is)), ih h)
    by_instr ih (Some i) at h = by_jump ih i (jump_to i) refl at h

-- the same of what a chain requires
abbrev pub WantAllowed : Tables → ℕ → ℕ → Requirement → Type 0
WantAllowed t phase k (Exactly j) = IsAllowed t phase k j
WantAllowed t phase k (SwitchJump j m x) = IsAllowed t phase k (I.JumpIf j x)
WantAllowed t phase k (ModeJump q) = IsAllowed t phase k (I.IfMode q 0)
WantAllowed t phase k _ = Unit {0}

abbrev pub WantsAllowed : Tables → ℕ → ℕ → List Requirement → Type 0
WantsAllowed t phase k [] = Unit {0}
WantsAllowed t phase k (w ∷ ws) = WantAllowed t phase k w × WantsAllowed t phase k ws

pub allowed_instrs : (t : Tables) (phase k : ℕ) (ws : List Requirement) (ss : List Step) → WantsAllowed t phase k ws → AllAllowed t phase k (instrs_of ws ss)
allowed_instrs t phase k [] ss h = tt
allowed_instrs t phase k (w ∷ ws) [] h = tt
allowed_instrs t phase k (Exactly j ∷ ws) (s ∷ ss) h = (h.0, allowed_instrs t phase k ws ss h.1)
allowed_instrs t phase k (NextBlock d p ∷ ws) (s ∷ ss) h = (tt, allowed_instrs t phase k ws ss h.1)
allowed_instrs t phase k (EndOfRound d x ∷ ws) (s ∷ ss) h = (tt, allowed_instrs t phase k ws ss h.1)
allowed_instrs t phase k (SwitchJump j m x ∷ ws) (s ∷ ss) h = (h.0, allowed_instrs t phase k ws ss h.1)
allowed_instrs t phase k (ModeJump q ∷ ws) (s ∷ ss) h = (h.0, allowed_instrs t phase k ws ss h.1)
allowed_instrs t phase k (AtAnchor x ∷ ws) (s ∷ ss) h = allowed_instrs t phase k ws ss h.1

pub requirements_more : (t : Tables) (phase k : ℕ) (xs ys : List Requirement) → WantsAllowed t phase k xs → WantsAllowed t phase k ys → WantsAllowed t phase k (xs ++ ys)
requirements_more t phase k [] ys p q = q
requirements_more t phase k (x ∷ xs) ys p q = (p.0, requirements_more t phase k xs ys p.1 q)

-- the same of instructions that are done
pub do_more : (t : Tables) (phase k : ℕ) (xs ys : List EInstr) → WantsAllowed t phase k (all_do xs) → WantsAllowed t phase k (all_do ys) → WantsAllowed t phase k (all_do (xs ++ ys))
do_more t phase k [] ys p q = q
do_more t phase k (x ∷ xs) ys p q = (p.0, do_more t phase k xs ys p.1 q)

pub do_cond : (t : Tables) (phase k : ℕ) (b : Bool) (xs ys : List EInstr) → WantsAllowed t phase k (all_do xs) → WantsAllowed t phase k (all_do ys) → WantsAllowed t phase k (all_do (cond b xs ys))
do_cond t phase k true xs ys p q = p
do_cond t phase k false xs ys p q = q

pub do_numbered : {A : Type 0} (t : Tables) (phase k : ℕ) (f : ℕ × A → List EInstr) (n : ℕ) (xs : List A) → ((i : ℕ) (x : A) → slice_get xs i ≡ Some x → WantsAllowed t phase k (all_do (f (n + i, x)))) →
    WantsAllowed t phase k (all_do (joined f (numbered n xs)))
do_numbered t phase k f n [] h = tt
do_numbered {A} t phase k f n (x ∷ xs) h =
    let zero_is : n + 0 ≡ n = omega arith in
    do_more t phase k (f (n, x)) (joined f (numbered (suc n) xs)) (subst (λ m. WantsAllowed t phase k (all_do (f (m, x)))) zero_is (h 0 x refl))
    (do_numbered t phase k f (suc n) xs (λ i y e. moved i y (h (suc i) y e)))
  where
    moved : (i : ℕ) (y : A) → WantsAllowed t phase k (all_do (f (n + suc i, y))) → WantsAllowed t phase k (all_do (f (suc n + i, y)))
    moved i y g = let same : n + suc i ≡ suc n + i = omega arith in subst (λ m. WantsAllowed t phase k (all_do (f (m, y)))) same g

-- ---- entries

abbrev pub entry_with : ℕ → Option Trigger → Entry → Entry
entry_with p x e = cond (eqb p 1) (record e { write = x }) (cond (eqb p 2) (record e { switch = x }) (record e { read = x }))

pub list_here : {A : Type 0} (xs : List (Option A)) (k : ℕ) (y : Option A) → k < length xs → list_at (set xs k y) k ≡ y
list_here [] k y h = absurd (omega (arith, h))
list_here (x ∷ xs) zero y h = refl
list_here (x ∷ xs) (suc k) y h = list_here xs k y (omega (arith, h))

pub list_other : {A : Type 0} (xs : List (Option A)) (k j : ℕ) (y : Option A) → (j ≡ k → ⊥) → list_at (set xs k y) j ≡ list_at xs j
list_other [] k j y e = refl
list_other (x ∷ xs) zero zero y e = absurd (e refl)
list_other (x ∷ xs) (suc k) (suc j) y e = list_other xs k j y (λ h. e (ap suc h))
list_other (x ∷ xs) _ _ y e = refl

pub trigger_set_here : (p k : ℕ) (x : Option Trigger) (c : Calendar) → HasModule c k → entry_at (with_trigger p k x c) k ≡ entry_with p x (entry_at c k)
trigger_set_here p k x c h = by_test (eqb p 1) (eqb p 2)
  where
    by_test : (a b : Bool) → entry_at (cond a (record c { writes = set c.writes k x }) (cond b (record c { switches = set c.switches k x }) (record c { reads = set c.reads k x }))) k
        ≡ cond a (record (entry_at c k) { write = x }) (cond b (record (entry_at c k) { switch = x }) (record (entry_at c k) { read = x }))
    by_test true b = ap (λ z. record (entry_at c k) { write = z }) (list_here c.writes k x h.writes)
    by_test false true = ap (λ z. record (entry_at c k) { switch = z }) (list_here c.switches k x h.switches)
    by_test false false = ap (λ z. record (entry_at c k) { read = z }) (list_here c.reads k x h.reads)

pub trigger_set_other : (p k j : ℕ) (x : Option Trigger) (c : Calendar) → (j ≡ k → ⊥) → entry_at (with_trigger p k x c) j ≡ entry_at c j
trigger_set_other p k j x c e = by_test (eqb p 1) (eqb p 2)
  where
    by_test : (a b : Bool) → entry_at (cond a (record c { writes = set c.writes k x }) (cond b (record c { switches = set c.switches k x }) (record c { reads = set c.reads k x }))) j ≡ entry_at c j
    by_test true b = ap (λ z. record (entry_at c j) { write = z }) (list_other c.writes k j x e)
    by_test false true = ap (λ z. record (entry_at c j) { switch = z }) (list_other c.switches k j x e)
    by_test false false = ap (λ z. record (entry_at c j) { read = z }) (list_other c.reads k j x e)

pub trigger_set_sized : (t : Tables) (p k : ℕ) (x : Option Trigger) (c : Calendar) → IsSized t c → IsSized t (with_trigger p k x c)
trigger_set_sized t p k x c h = by_test (eqb p 1) (eqb p 2)
  where
    by_test : (a b : Bool) → IsSized t (cond a (record c { writes = set c.writes k x }) (cond b (record c { switches = set c.switches k x }) (record c { reads = set c.reads k x })))
    by_test true b = record { modes = h.modes; writes = length-set c.writes k x ∙ h.writes; switches = h.switches; reads = h.reads }
    by_test false true = record { modes = h.modes; writes = h.writes; switches = length-set c.switches k x ∙ h.switches; reads = h.reads }
    by_test false false = record { modes = h.modes; writes = h.writes; switches = h.switches; reads = length-set c.reads k x ∙ h.reads }

pub sized_module : (t : Tables) (c : Calendar) (k : ℕ) → IsSized t c → k < length t.modules → HasModule c k
sized_module t c k h less =
    record {
      modes = subst (λ n. k < n) (sym h.modes) less;
      writes = subst (λ n. k < n) (sym h.writes) less;
      switches = subst (λ n. k < n) (sym h.switches) less;
      reads = subst (λ n. k < n) (sym h.reads) less;
    }

-- a trigger is set, where there is one
abbrev pub with_next : ℕ → ℕ → Option Trigger → Calendar → Calendar
with_next p k None c = c
with_next p k (Some y) c = with_trigger p k (Some y) c

-- a trigger is taken, and the next one set
pub next_here : (t : Tables) (p k : ℕ) (x : Option Trigger) (c : Calendar) → IsSized t c → k < length t.modules → entry_at (with_next p k x (with_trigger p k None c)) k ≡ entry_with p x (entry_at c k)
next_here t p k None c s h = trigger_set_here p k None c (sized_module t c k s h)
next_here t p k (Some y) c s h =
    trigger_set_here p k (Some y) (with_trigger p k None c) (sized_module t (with_trigger p k None c) k (trigger_set_sized t p k None c s) h)
    ∙ ap (entry_with p (Some y)) (trigger_set_here p k None c (sized_module t c k s h))
    ∙ by_test (eqb p 1) (eqb p 2) (entry_at c k)
  where
    by_test : (a b : Bool) (e : Entry) → (let f : Entry = cond a (record e { write = None }) (cond b (record e { switch = None }) (record e { read = None })) in cond a (record f { write = Some y }) (cond b (record f { switch = Some y }) (record f { read = Some y })))
        ≡ cond a (record e { write = Some y }) (cond b (record e { switch = Some y }) (record e { read = Some y }))
    by_test true b e = refl
    by_test false true e = refl
    by_test false false e = refl

pub next_other : (p k j : ℕ) (x : Option Trigger) (c : Calendar) → (j ≡ k → ⊥) → entry_at (with_next p k x (with_trigger p k None c)) j ≡ entry_at c j
next_other p k j None c e = trigger_set_other p k j None c e
next_other p k j (Some y) c e = trigger_set_other p k j (Some y) (with_trigger p k None c) e ∙ trigger_set_other p k j None c e

pub next_sized : (t : Tables) (p k : ℕ) (x : Option Trigger) (c : Calendar) → IsSized t c → IsSized t (with_next p k x (with_trigger p k None c))
next_sized t p k None c s = trigger_set_sized t p k None c s
next_sized t p k (Some y) c s = trigger_set_sized t p k (Some y) (with_trigger p k None c) (trigger_set_sized t p k None c s)
