-- One instruction of a block that runs is the next of the path.
use Rattle.std.proofs.Common.{◌≡◌, ℕ, suc, ◌+◌, ◌<◌, Bool, true, false, cond, eqb, List, [], ◌∷◌, ◌++◌, slice_get, set, Option, Some, None, ℤ, refl, sym, ap, ◌∙◌, subst, arith, append_assoc, ◌⊎◌, inl, inr}
use Rattle.htl_emach.proofs.Words.{nat_tests, Event, Stay, Tables, mode_module, state, stay_of, mode_of, runs, ECode, EInstr, Done, on, holds_in, Trigger, Block, Calendar, list_at, goes, runs_in, calendar_effect, with_trigger, entry_of, going_on, stepped, Leads, Ends, goes_at, IsAllowed, Between, Entry, pending_entry, switched, closed, old_stay, new_stay, calendar_at, calendar_replay, phase_path, blocks_to_come, BlockRuns, IsInBlock, PhaseStands, Onward, nothing_ends, none-some, same_Some}
use Rattle.htl_ecode.specs.declared.instr.EInstr.TheVariants as I
use Rattle.htl_emach.proofs.Effects.{list_other}

-- the first address of a block is where it stands; its instruction ends the block, or leads to the rest
pub next_of_block : (code : List EInstr) (go : ℕ → EInstr → Option ℕ) (a x : ℕ) (xs : List ℕ) → Ends code go a (x ∷ xs) →
    (x ≡ a) × ((i : EInstr) × (slice_get code a ≡ Some i) × (((go a i ≡ None) × (xs ≡ [])) ⊎ ((c : ℕ) × (go a i ≡ Some c) × Ends code go c xs)))
next_of_block code go a x xs (front, b, i, path, leads, stands, stop) = by_front front path leads
  where
    by_front : (front : List ℕ) → x ∷ xs ≡ front ++ b ∷ [] → Leads code go a front b →
        (x ≡ a) × ((i : EInstr) × (slice_get code a ≡ Some i) × (((go a i ≡ None) × (xs ≡ [])) ⊎ ((c : ℕ) × (go a i ≡ Some c) × Ends code go c xs)))
    by_front [] p l =
        let at : x ≡ b = cc in
        let none : xs ≡ [] = cc in
        (at ∙ sym l, (i, ap (slice_get code) l ∙ stands, inl (ap (λ z. go z i) l ∙ stop, none)))
    by_front (y ∷ ys) p l =
        let at : x ≡ y = cc in
        let rest : xs ≡ ys ++ b ∷ [] = cc in
        (at ∙ l.0, (l.1.0, l.1.1, inr (l.1.2.0, l.1.2.1, (ys, b, i, rest, l.1.2.2, stands, stop))))

-- the same of an instruction that is known, and of where it leads
pub step_of_block : (code : List EInstr) (go : ℕ → EInstr → Option ℕ) (a x : ℕ) (xs : List ℕ) (i : EInstr) (n : Option ℕ) → Ends code go a (x ∷ xs) → slice_get code a ≡ Some i → n ≡ go a i →
    ((n ≡ None) × (xs ≡ [])) ⊎ ((c : ℕ) × (n ≡ Some c) × Ends code go c xs)
step_of_block code go a x xs i n ends at branch_target =
    let r = next_of_block code go a x xs ends in
    let same : r.1.0 ≡ i = same_Some r.1.0 i (sym r.1.1 ∙ at) in
    let here : n ≡ go a r.1.0 = branch_target ∙ sym (ap (go a) same) in
    elim r.1.2 [
      | inl h ↦ inl (here ∙ h.0, h.1)
      | inr h ↦ inr (h.0, here ∙ h.1, h.2)
    ]

-- ---- what instructions leave as it is

pub trigger_set_modes : (phase k : ℕ) (x : Option Trigger) (c : Calendar) → (with_trigger phase k x c).modes ≡ c.modes
trigger_set_modes phase k x c = by_test (eqb phase 1) (eqb phase 2)
  where
    by_test : (a b : Bool) → (cond a (record c { writes = set c.writes k x }) (cond b (record c { switches = set c.switches k x }) (record c { reads = set c.reads k x }))).modes ≡ c.modes
    by_test true b = refl
    by_test false true = refl
    by_test false false = refl

-- an instruction of module k leaves the modes of others
mode_stays : (t : Tables) (code : ECode) (at k j : ℕ) (i : EInstr) (c : Calendar) → (j ≡ k → ⊥) → list_at (calendar_effect t code at k i c).modes j ≡ list_at c.modes j
mode_stays t code at k j (I.Future d p x) c e = ap (λ zs. list_at zs j) (trigger_set_modes p k (Some (record { at = at + d; target = x })) c)
mode_stays t code at k j (I.Enter m) c e = list_other c.modes k j (Some m) e
mode_stays t code at k j I.Leave c e = list_other c.modes k j None e
mode_stays t code at k j (I.Fork a) c e = ap (λ zs. list_at zs j) (trigger_set_modes 2 a (Some (record { at = at; target = entry_of t code a })) c)
mode_stays t code at k j _ c e = refl

modes_stay : (t : Tables) (code : ECode) (at k j : ℕ) (xs : List ℕ) (c : Calendar) → (j ≡ k → ⊥) → list_at (calendar_replay t code at k xs c).modes j ≡ list_at c.modes j
modes_stay t code at k j [] c e = refl
modes_stay t code at k j (x ∷ xs) c e = modes_stay t code at k j xs (calendar_at t code at k (slice_get code.instrs x) c) e ∙ one (slice_get code.instrs x)
  where
    one : (o : Option EInstr) → list_at (calendar_at t code at k o c).modes j ≡ list_at c.modes j
    one None = refl
    one (Some i) = mode_stays t code at k j i c e

-- ---- where an instruction leads

below_other : (j k : ℕ) → j < k → j ≡ k → ⊥
below_other j k h e = omega (arith, h, e)

not_both : (phase : ℕ) → eqb phase 1 ≡ true → eqb phase 2 ≡ true → ⊥
not_both phase a b = grind (arith, nat_tests)

-- a mode runs by the calendar where it runs by the meaning
runs_same : (t : Tables) (modes : List (Option ℕ)) (stays : List (Option Stay)) (q : ℕ) → list_at modes (mode_module t q) ≡ mode_of (stay_of stays (mode_module t q)) → runs_in t modes q ≡ runs t stays q
runs_same t modes stays q e = ap (λ (o : Option ℕ). elim o as (λ _. Bool) [ Some x ↦ eqb x q | None ↦ false ]) e ∙ by_stay (stay_of stays (mode_module t q))
  where
    by_stay : (s : Option Stay) → ◌≡◌ {A = Bool} (elim (mode_of s) [ Some x ↦ eqb x q | None ↦ false ]) (elim s [ Some x ↦ eqb x.mode q | None ↦ false ])
    by_stay None = refl
    by_stay (Some x) = refl

-- an instruction of a block that runs leads where the meaning says
go_same : (t : Tables) (code : ECode) (es : List Event) (now phase k a : ℕ) (c : Calendar) (values : List ℤ) (i : EInstr) → IsAllowed t phase k i → (eqb phase 2 ≡ true → values ≡ (state t es now).values) →
    (eqb phase 2 ≡ true → (j : ℕ) → j < k → list_at c.modes j ≡ mode_of (new_stay t es now j)) → goes (holds_in t values) (runs_in t c.modes) a i ≡ goes_at t es now a i
go_same t code es now phase k a c values (I.JumpIf j x) tests same modes = ap (λ zs. Some (cond (holds_in t zs j) x (suc a))) (same tests.0)
go_same t code es now phase k a c values (I.IfMode q x) tests same modes =
    ap (λ b. Some (cond b x (suc a))) (runs_same t c.modes (state t es now).stays q (modes tests.0 (mode_module t q) tests.1))
go_same t code es now phase k a c values _ tests same modes = refl

-- in the switch phase the modules below k have the modes of the instant
lower_modes : (t : Tables) (code : ECode) (es : List Event) (now phase k : ℕ) (xs : List ℕ) (c : Calendar) → Between t code es now phase (calendar_replay t code now k xs c) (suc k) → eqb phase 2 ≡ true →
    (j : ℕ) → j < k → list_at c.modes j ≡ mode_of (new_stay t es now j)
lower_modes t code es now phase k xs c h two j below =
    sym (modes_stay t code now k j xs c (below_other j k below))
    ∙ ap (λ (e : Entry). e.mode) (h.below j (omega (arith, below)))
    ∙ by_test (eqb phase 1) refl
    ∙ ap (λ b. (cond b (switched t code now (new_stay t es now j)) (closed t code now (new_stay t es now j))).mode) two
  where
    by_test : (b : Bool) → eqb phase 1 ≡ b → (cond b (pending_entry t code now 0 j (old_stay t es now j) (new_stay t es now j)) (cond (eqb phase 2) (switched t code now (new_stay t es now j)) (closed t code now (new_stay t es now j)))).mode
        ≡ (cond (eqb phase 2) (switched t code now (new_stay t es now j)) (closed t code now (new_stay t es now j))).mode
    by_test true e = absurd (not_both phase e two)
    by_test false e = refl

-- ---- one instruction

pub inside : (t : Tables) (code : ECode) (es : List Event) (now phase : ℕ) (c : Calendar) (b : Block) (values : List ℤ) (done rest : List Done) (i : EInstr) → phase_path t code es now phase ≡ done ++ rest →
    IsInBlock t code es now phase c b rest → slice_get code.instrs b.address ≡ Some i → (eqb phase 2 ≡ true → values ≡ (state t es now).values) →
    Onward t code es now phase (stepped t code values now c (record { address = b.address; instr = i; «module» = b.«module» })) done rest (Some (record { address = b.address; instr = i; «module» = b.«module» }))
inside t code es now phase c b values done rest i path h at same = by_path h.path h.runs h.left
  where
    by_path : (xs : List ℕ) → BlockRuns t code es now phase c b.«module» b.address xs → rest ≡ on b.«module» xs ++ blocks_to_come t code es now phase (suc b.«module») →
        Onward t code es now phase (stepped t code values now c (record { address = b.address; instr = i; «module» = b.«module» })) done rest (Some (record { address = b.address; instr = i; «module» = b.«module» }))
    by_path [] r left = absurd (nothing_ends r.ends.0 r.ends.1 r.ends.3)
    by_path (x ∷ xs) r left =
        let one = next_of_block code.instrs (goes_at t es now) b.address x xs r.ends in
        let here : slice_get code.instrs x ≡ Some i = ap (slice_get code.instrs) one.0 ∙ at in
        let leads : Between t code es now phase (calendar_replay t code now b.«module» xs (calendar_effect t code now b.«module» i c)) (suc b.«module») =
        subst (λ o. Between t code es now phase (calendar_replay t code now b.«module» xs (calendar_at t code now b.«module» o c)) (suc b.«module»)) here r.leads in
        let branch_target : goes (holds_in t values) (runs_in t c.modes) b.address i ≡ goes_at t es now b.address i =
        go_same t code es now phase b.«module» b.address c values i (r.allowed.0 i here) same (lower_modes t code es now phase b.«module» (x ∷ xs) c r.leads) in
        let more : List Done = on b.«module» xs ++ blocks_to_come t code es now phase (suc b.«module») in
        let first : rest ≡ record { «module» = b.«module»; address = b.address } ∷ more = left ∙ ap (λ z. record { «module» = b.«module»; address = z } ∷ more) one.0 in
        let onward : phase_path t code es now phase ≡ (done ++ record { «module» = b.«module»; address = b.address } ∷ []) ++ more =
        path ∙ ap (λ z. done ++ z) first ∙ sym (append_assoc done (record { «module» = b.«module»; address = b.address } ∷ []) more) in
        (more, first, at, r.allowed.0 i here, record { path = onward; stands = by_next xs r leads (goes (holds_in t values) (runs_in t c.modes) b.address i) (step_of_block code.instrs (goes_at t es now) b.address x xs i (goes (holds_in t values) (runs_in t c.modes) b.address i) r.ends at branch_target) })
      where
        by_next : (xs : List ℕ) → BlockRuns t code es now phase c b.«module» b.address (x ∷ xs) → Between t code es now phase (calendar_replay t code now b.«module» xs (calendar_effect t code now b.«module» i c)) (suc b.«module») → (n : Option ℕ) →
            ((n ≡ None) × (xs ≡ [])) ⊎ ((e : ℕ) × (n ≡ Some e) × Ends code.instrs (goes_at t es now) e xs) →
            PhaseStands t code es now phase (calendar_effect t code now b.«module» i c) (going_on b.«module» now n) (on b.«module» xs ++ blocks_to_come t code es now phase (suc b.«module»))
        by_next xs r leads None (inl h) =
            record {
              «module» = suc b.«module»;
              within = r.within;
              calendar = subst (λ zs. Between t code es now phase (calendar_replay t code now b.«module» zs (calendar_effect t code now b.«module» i c)) (suc b.«module»)) h.1 leads;
              left = ap (λ zs. on b.«module» zs ++ blocks_to_come t code es now phase (suc b.«module»)) h.1;
            }
        by_next xs r leads None (inr h) = absurd (none-some h.0 h.1)
        by_next xs r leads (Some e) (inl h) = absurd (none-some e (sym h.0))
        by_next xs r leads (Some e) (inr h) =
            record {
              at = refl;
              path = xs;
              runs = record { within = r.within; ends = subst (λ z. Ends code.instrs (goes_at t es now) z xs) (sym (same_Some e h.0 h.1)) h.2; allowed = r.allowed.1; leads = leads };
              left = refl;
            }
