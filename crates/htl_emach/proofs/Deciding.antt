-- The end of a round: the decide list, followed to where the module goes on.
use Rattle.std.proofs.Common.{◌≡◌, ℕ, suc, ◌+◌, ◌<◌, Bool, true, false, cond, ◌&&◌, eqb, List, [], ◌∷◌, ◌++◌, length, slice_get, Option, Some, None, Result, Ok, Err, ℤ, refl, sym, ap, ◌∙◌, subst, arith, append_assoc, append-nil}
use Rattle.htl_emach.proofs.Words.{eq-eqb, Switch, joined, numbered, Tables, mode_period, mode_module, switch_holds, target, target_from, ECode, EInstr, EFault, Action, parent_of, next_offset, same_instr, Requirement, Exactly, NextBlock, EndOfRound, SwitchJump, ModeJump, AtAnchor, waits_for, begin_chain, decide_chain, tests_of, asks_for, branch_target, test_of, Resolved, bind, resolved, fault, jump_to, Step, Reached, pass, leaving, reach, read, steps_of, block_begun, entered, decided, begin_path, enter_path, decide_path, followed, round_end, step_from, turn_step, holds_in, Jumps, IsResolved, IsReached, bind_ok, resolve_is, same_is, reach_is, anchor_is, read_is, kept, kept_one, kept_jumps, kept_reached, instr_of, ModeReads, Calendar, goes, Leads, IsAllowed}
use Rattle.htl_ecode.specs.declared.instr.EInstr.TheVariants as I
use Rattle.htl_emach.proofs.{Blocks.jumps_lead, Blocks.then_at, Blocks.reached_leads, Blocks.test_leads, Effects.calendar_after, Effects.AllAllowed}
use Rattle.htl_emach.proofs.Rounds.{Passes, begun_calendar, entered_calendar, with_mode, begin_passes, enter_passes, leads_then}

-- ---- from the trigger of the round's end to the decide list

abbrev HasTurn : ℕ → List Requirement → Type 0
HasTurn x [] = ⊥
HasTurn x (EndOfRound d y ∷ ws) = y ≡ x
HasTurn x (w ∷ ws) = HasTurn x ws

turn_leads : (code : List EInstr) (x : ℕ) (ws : List Requirement) (a : ℕ) (ss : List Step) → HasTurn x ws → read code a ws ≡ Ok ss → Jumps code (turn_step ws ss).target (turn_step ws ss).side x
turn_leads code x [] a ss h e = absurd h
turn_leads code x (EndOfRound d y ∷ ws) a ss h e =
    let r = read_is code a (EndOfRound d y) ws ss e in
    let m = reach_is code a (EndOfRound d y) r.first tt r.reaches in
    subst (λ zs. Jumps code (turn_step (EndOfRound d y ∷ ws) zs).target (turn_step (EndOfRound d y ∷ ws) zs).side x) (sym r.is) (subst (λ z. Jumps code r.first.step.target r.first.step.side z) h m.meets.2)
turn_leads code x (Exactly j ∷ ws) a ss h e =
    let r = read_is code a (Exactly j) ws ss e in
    subst (λ zs. Jumps code (turn_step (Exactly j ∷ ws) zs).target (turn_step (Exactly j ∷ ws) zs).side x) (sym r.is) (turn_leads code x ws r.first.next r.rest h r.then)
turn_leads code x (NextBlock d p ∷ ws) a ss h e =
    let r = read_is code a (NextBlock d p) ws ss e in
    subst (λ zs. Jumps code (turn_step (NextBlock d p ∷ ws) zs).target (turn_step (NextBlock d p ∷ ws) zs).side x) (sym r.is) (turn_leads code x ws r.first.next r.rest h r.then)
turn_leads code x (SwitchJump j m y ∷ ws) a ss h e =
    let r = read_is code a (SwitchJump j m y) ws ss e in
    subst (λ zs. Jumps code (turn_step (SwitchJump j m y ∷ ws) zs).target (turn_step (SwitchJump j m y ∷ ws) zs).side x) (sym r.is) (turn_leads code x ws r.first.next r.rest h r.then)
turn_leads code x (ModeJump q ∷ ws) a ss h e =
    let r = read_is code a (ModeJump q) ws ss e in
    subst (λ zs. Jumps code (turn_step (ModeJump q ∷ ws) zs).target (turn_step (ModeJump q ∷ ws) zs).side x) (sym r.is) (turn_leads code x ws r.first.next r.rest h r.then)
turn_leads code x (AtAnchor y ∷ ws) a ss h e =
    let r = read_is code a (AtAnchor y) ws ss e in
    subst (λ zs. Jumps code (turn_step (AtAnchor y ∷ ws) zs).target (turn_step (AtAnchor y ∷ ws) zs).side x) (sym r.is) (turn_leads code x ws r.first.next r.rest h r.then)

begin_turns : (p d : ℕ) (w r : Option ℕ) → HasTurn d (waits_for 0 1 w ++ (waits_for 0 3 r ++ EndOfRound p d ∷ Exactly I.Return ∷ []))
begin_turns p d None None = refl
begin_turns p d None (Some y) = refl
begin_turns p d (Some x) None = refl
begin_turns p d (Some x) (Some y) = refl

pub turn_jumps : (t : Tables) (code : ECode) (m : ℕ) → ModeReads t code m → Jumps code.instrs (round_end t code m) (step_from t code m).side (decided code m)
turn_jumps t code m r =
    subst (λ zs. Jumps code.instrs (turn_step (begin_chain t (decided code m) m) (steps_of zs)).target (turn_step (begin_chain t (decided code m) m) (steps_of zs)).side (decided code m)) (sym r.begins.1)
    (turn_leads code.instrs (decided code m) (begin_chain t (decided code m) m) (block_begun code m) r.begins.0 (begin_turns (mode_period t m) (decided code m) (next_offset t m 1 0) (next_offset t m 3 0)) r.begins.1)

-- ---- what is kept

kept_none : (code : List EInstr) (a b : ℕ) (xs : List ℕ) → Jumps code a xs b → kept code xs ≡ []
kept_none code a b xs j = ap (kept code) (sym (append-nil xs)) ∙ kept_jumps code a b xs [] j

kept_first : (code : List EInstr) (a : ℕ) (w : Requirement) (y : Reached) → reach code a w ≡ Ok y → kept code y.step.passed ≡ instr_of w y.step ++ []
kept_first code a w y e = ap (kept code) (sym (append-nil y.step.passed)) ∙ kept_reached code a w y [] e

-- a path with plain jumps before it
pub jumps_then : (t : Tables) (code : ECode) (at k : ℕ) (hs rs : ℕ → Bool) (a b : ℕ) (xs ys : List ℕ) (f : Calendar → Calendar) → Jumps code.instrs a xs b → Passes t code at k (goes hs rs) b ys f →
    Passes t code at k (goes hs rs) a (xs ++ ys) f
jumps_then t code at k hs rs a b xs ys f j p =
    leads_then t code at k hs rs a b xs ys f (λ c. c) (jumps_lead code.instrs hs rs a b xs j) (subst (AllAllowed t 2 k) (sym (kept_none code.instrs a b xs j)) tt)
    (λ c. ap (λ is. calendar_after t code at k is c) (kept_none code.instrs a b xs j)) p

-- ---- the tests of a mode

-- the end of a decide list of mode m
abbrev pub IsTail : Tables → ECode → ℕ → List Requirement → Type 0
IsTail t code m (SwitchJump j x anchor ∷ ws) = (anchor ≡ branch_target (block_begun code m) code.enter m x) × (j < length t.switches) × ModeReads t code x × IsTail t code m ws
IsTail t code m (AtAnchor b ∷ []) = b ≡ block_begun code m
IsTail t code m _ = ⊥

-- the mode to which the first test that holds leads
abbrev pub chosen : (ℕ → Bool) → ℕ → List Requirement → ℕ
chosen hs m (SwitchJump j x anchor ∷ ws) = cond (hs j) x (chosen hs m ws)
chosen hs m _ = m

-- the module goes on in mode y, from mode m
abbrev pub moved_calendar : Tables → ECode → ℕ → ℕ → ℕ → ℕ → Calendar → Calendar
moved_calendar t code at k m y c = cond (eqb y m) (begun_calendar t code at k m c) (entered_calendar t code at k y c)

pub tail_passes : (t : Tables) (code : ECode) (at k m : ℕ) (hs rs : ℕ → Bool) (stays : Bool) (ws : List Requirement) (a : ℕ) (ss : List Step) → ModeReads t code m → IsTail t code m ws → read code.instrs a ws ≡ Ok ss →
    Passes t code at k (goes hs rs) a (followed t code m hs stays ws ss) (moved_calendar t code at k m (chosen hs m ws))
tail_passes t code at k m hs rs stays (AtAnchor b ∷ []) a ss mine h e =
    let r = read_is code.instrs a (AtAnchor b) [] ss e in
    let j : Jumps code.instrs a r.first.step.passed b = (anchor_is code.instrs a b r.first r.reaches).0 in
    let there : Jumps code.instrs a r.first.step.passed (block_begun code m) = subst (Jumps code.instrs a r.first.step.passed) h j in
    let one : Passes t code at k (goes hs rs) a (r.first.step.passed ++ begin_path t code m) (begun_calendar t code at k m) =
    jumps_then t code at k hs rs a (block_begun code m) r.first.step.passed (begin_path t code m) (begun_calendar t code at k m) there (begin_passes t code at k m hs rs mine) in
    let two : Passes t code at k (goes hs rs) a (r.first.step.passed ++ begin_path t code m) (moved_calendar t code at k m m) =
    subst (λ b. Passes t code at k (goes hs rs) a (r.first.step.passed ++ begin_path t code m) (λ c. cond b (begun_calendar t code at k m c) (entered_calendar t code at k m c))) (sym (eq-eqb m m refl)) one in
    subst (λ zs. Passes t code at k (goes hs rs) a (followed t code m hs stays (AtAnchor b ∷ []) zs) (moved_calendar t code at k m m)) (sym r.is) two
tail_passes t code at k m hs rs stays (SwitchJump j x anchor ∷ ws) a ss mine h e =
    let r = read_is code.instrs a (SwitchJump j x anchor) ws ss e in
    subst (λ zs. Passes t code at k (goes hs rs) a (followed t code m hs stays (SwitchJump j x anchor ∷ ws) zs) (moved_calendar t code at k m (cond (hs j) x (chosen hs m ws)))) (sym r.is)
    (by_test r.first r.rest r.reaches (tail_passes t code at k m hs rs stays ws r.first.next r.rest mine h.3 r.then) (hs j) refl)
  where
    here : (y : Reached) → reach code.instrs a (SwitchJump j x anchor) ≡ Ok y → IsReached code.instrs a (SwitchJump j x anchor) y
    here y e = reach_is code.instrs a (SwitchJump j x anchor) y tt e

    may : IsAllowed t 2 k (I.JumpIf j 0)
    may = (refl, h.1)

    by_mode : (y : Reached) → reach code.instrs a (SwitchJump j x anchor) ≡ Ok y → hs j ≡ true → (b : Bool) → eqb x m ≡ b →
        Passes t code at k (goes hs rs) a (y.step.passed ++ (y.step.side ++ cond b (begin_path t code m) (enter_path t code x))) (λ c. cond b (begun_calendar t code at k m c) (entered_calendar t code at k x c))
    by_mode y e on b same =
        let met = here y e in
        let leads = test_leads code.instrs hs rs a j x anchor y on met in
        let sides : kept code.instrs (y.step.passed ++ y.step.side) ≡ I.JumpIf j y.step.target ∷ [] =
        kept_reached code.instrs a (SwitchJump j x anchor) y y.step.side e ∙ ap (λ zs. I.JumpIf j y.step.target ∷ zs) (kept_none code.instrs y.step.target anchor y.step.side met.meets.2) in
        let next : Passes t code at k (goes hs rs) anchor (cond b (begin_path t code m) (enter_path t code x)) (λ c. cond b (begun_calendar t code at k m c) (entered_calendar t code at k x c)) = at_anchor b same in
        subst (λ zs. Passes t code at k (goes hs rs) a zs (λ c. cond b (begun_calendar t code at k m c) (entered_calendar t code at k x c))) (append_assoc y.step.passed y.step.side (cond b (begin_path t code m) (enter_path t code x)))
        (leads_then t code at k hs rs a anchor (y.step.passed ++ y.step.side) (cond b (begin_path t code m) (enter_path t code x)) (λ c. cond b (begun_calendar t code at k m c) (entered_calendar t code at k x c)) (λ c. c) leads
        (subst (AllAllowed t 2 k) (sym sides) (may, tt)) (λ c. ap (λ is. calendar_after t code at k is c) sides) next)
      where
        at_anchor : (b : Bool) → eqb x m ≡ b → Passes t code at k (goes hs rs) anchor (cond b (begin_path t code m) (enter_path t code x)) (λ c. cond b (begun_calendar t code at k m c) (entered_calendar t code at k x c))
        at_anchor true is =
            let to : anchor ≡ block_begun code m = h.0 ∙ ap (λ b. cond b (block_begun code m) (entered code x)) is in
            subst (λ z. Passes t code at k (goes hs rs) z (begin_path t code m) (begun_calendar t code at k m)) (sym to) (begin_passes t code at k m hs rs mine)
        at_anchor false is =
            let to : anchor ≡ entered code x = h.0 ∙ ap (λ b. cond b (block_begun code m) (entered code x)) is in
            subst (λ z. Passes t code at k (goes hs rs) z (enter_path t code x) (entered_calendar t code at k x)) (sym to) (enter_passes t code at k x hs rs h.2)

    by_test : (y : Reached) (rest : List Step) → reach code.instrs a (SwitchJump j x anchor) ≡ Ok y → Passes t code at k (goes hs rs) y.next (followed t code m hs stays ws rest) (moved_calendar t code at k m (chosen hs m ws)) → (b : Bool) → hs j ≡ b →
        Passes t code at k (goes hs rs) a (y.step.passed ++ elim b [ true ↦ y.step.side ++ cond (eqb x m) (begin_path t code m) (enter_path t code x) | false ↦ followed t code m hs stays ws rest ]) (moved_calendar t code at k m (cond b x (chosen hs m ws)))
    by_test y rest e ih true on = by_mode y e on (eqb x m) refl
    by_test y rest e ih false off =
        let first : kept code.instrs y.step.passed ≡ I.JumpIf j y.step.target ∷ [] = kept_first code.instrs a (SwitchJump j x anchor) y e in
        leads_then t code at k hs rs a y.next y.step.passed (followed t code m hs stays ws rest) (moved_calendar t code at k m (chosen hs m ws)) (λ c. c) (reached_leads code.instrs hs rs a (SwitchJump j x anchor) y off (here y e))
        (subst (AllAllowed t 2 k) (sym first) (may, tt)) (λ c. ap (λ is. calendar_after t code at k is c) first) ih
tail_passes t code at k m hs rs stays _ a ss mine h e = absurd h

-- ---- a module that leaves

pub pass_ok : (code : List EInstr) (j : EInstr) (a : ℕ) (y : List ℕ × ℕ) → pass code j a ≡ Ok y → (l : Resolved) × IsResolved code a l × (l.instr ≡ j) × (y.0 ≡ l.jumps ++ l.place ∷ []) × (y.1 ≡ suc l.place)
pass_ok code j a y e =
    let h = bind_ok (resolved code a) (λ l. elim (same_instr j l.instr) as (λ _. Result (List ℕ × ℕ) EFault) [ true ↦ Ok (l.jumps ++ l.place ∷ [], suc l.place) | false ↦ Err (fault Action l.place) ]) y e in
    let resolve : IsResolved code a h.0 = resolve_is code a (length code) a h.0 h.1 in
    by_test h.0 resolve (same_instr j h.0.instr) refl h.2
  where
    by_test : (l : Resolved) → IsResolved code a l → (b : Bool) → same_instr j l.instr ≡ b → ◌≡◌ {A = Result (List ℕ × ℕ) EFault} (elim b [ true ↦ Ok (l.jumps ++ l.place ∷ [], suc l.place) | false ↦ Err (fault Action l.place) ]) (Ok y) →
        (l : Resolved) × IsResolved code a l × (l.instr ≡ j) × (y.0 ≡ l.jumps ++ l.place ∷ []) × (y.1 ≡ suc l.place)
    by_test l resolve true is e =
        let same : (l.jumps ++ l.place ∷ [], suc l.place) ≡ y = cc in
        (l, resolve, sym (same_is j l.instr is), sym (ap (λ (z : List ℕ × ℕ). z.0) same), sym (ap (λ (z : List ℕ × ℕ). z.1) same))
    by_test l resolve false is e = absurd (let z : ⊥ = cc in z)

kept_passed : (code : List EInstr) (a b : ℕ) (js : List ℕ) (i : EInstr) → Jumps code a js b → slice_get code b ≡ Some i → jump_to i ≡ None → kept code (js ++ b ∷ []) ≡ i ∷ []
kept_passed code a b js i j at real =
    kept_jumps code a b js (b ∷ []) j ∙ ap (λ o. kept_one o []) at ∙ ap (λ (o : Option ℕ). elim o as (λ _. List EInstr) [ Some x ↦ [] | None ↦ i ∷ [] ]) real

pub leave_passes : (t : Tables) (code : ECode) (at k : ℕ) (hs rs : ℕ → Bool) (a : ℕ) (xs : List ℕ) → leaving code.instrs a ≡ Ok xs → Passes t code at k (goes hs rs) a xs (with_mode k None)
leave_passes t code at k hs rs a xs e =
    let h = bind_ok (pass code.instrs I.Leave a) (λ x. bind (pass code.instrs I.Return x.1) (λ y. Ok (x.0 ++ y.0))) xs e in
    let g = bind_ok (pass code.instrs I.Return h.0.1) (λ y. Ok (h.0.0 ++ y.0)) xs h.2 in
    let all : h.0.0 ++ g.0.0 ≡ xs = cc in
    let p = pass_ok code.instrs I.Leave a h.0 h.1 in
    let q = pass_ok code.instrs I.Return h.0.1 g.0 g.1 in
    let leave_at : slice_get code.instrs p.0.place ≡ Some I.Leave = p.1.1 ∙ ap (λ z. Some z) p.2 in
    let return_at : slice_get code.instrs q.0.place ≡ Some I.Return = q.1.1 ∙ ap (λ z. Some z) q.2 in
    let from : Jumps code.instrs (suc p.0.place) q.0.jumps q.0.place = subst (λ z. Jumps code.instrs z q.0.jumps q.0.place) p.4 q.1.0 in
    let last : Passes t code at k (goes hs rs) (suc p.0.place) (q.0.jumps ++ q.0.place ∷ []) (λ c. c) =
    record {
      ends = (q.0.jumps, q.0.place, I.Return, refl, jumps_lead code.instrs hs rs (suc p.0.place) q.0.place q.0.jumps from, return_at, refl);
      allowed = subst (AllAllowed t 2 k) (sym (kept_passed code.instrs (suc p.0.place) q.0.place q.0.jumps I.Return from return_at refl)) (tt, tt);
      does = λ c. ap (λ is. calendar_after t code at k is c) (kept_passed code.instrs (suc p.0.place) q.0.place q.0.jumps I.Return from return_at refl);
    } in
    let whole : Passes t code at k (goes hs rs) a ((p.0.jumps ++ p.0.place ∷ []) ++ (q.0.jumps ++ q.0.place ∷ [])) (with_mode k None) =
    leads_then t code at k hs rs a (suc p.0.place) (p.0.jumps ++ p.0.place ∷ []) (q.0.jumps ++ q.0.place ∷ []) (λ c. c) (with_mode k None)
    (then_at code.instrs hs rs a p.0.place (suc p.0.place) p.0.jumps I.Leave p.1.0 leave_at refl)
    (subst (AllAllowed t 2 k) (sym (kept_passed code.instrs a p.0.place p.0.jumps I.Leave p.1.0 leave_at refl)) (tt, tt))
    (λ c. ap (λ is. calendar_after t code at k is c) (kept_passed code.instrs a p.0.place p.0.jumps I.Leave p.1.0 leave_at refl)) last in
    subst (λ zs. Passes t code at k (goes hs rs) a zs (with_mode k None)) (ap (λ zs. zs ++ (q.0.jumps ++ q.0.place ∷ [])) (sym p.3) ∙ ap (λ zs. h.0.0 ++ zs) (sym q.3) ∙ all) whole

-- ---- the whole decide list

-- the switches of the mode, as the list requires them
abbrev pub tests_from : ECode → ℕ → ℕ → List Switch → List Requirement
tests_from code m n ws = joined (test_of (block_begun code m) code.enter m) (numbered n ws)

pub tail_of : (t : Tables) (code : ECode) (m n : ℕ) (ws : List Switch) → n + length ws ≡ length t.switches → ((i : ℕ) (w : Switch) → slice_get ws i ≡ Some w → eqb w.mode m ≡ true → ModeReads t code w.target) →
    IsTail t code m (tests_from code m n ws ++ AtAnchor (block_begun code m) ∷ [])
tail_of t code m n [] len h = refl
tail_of t code m n (w ∷ ws) len h = by_test (eqb w.mode m) refl (tail_of t code m (suc n) ws (omega (arith, len)) (λ i x e. h (suc i) x e))
  where
    by_test : (b : Bool) → eqb w.mode m ≡ b → IsTail t code m (tests_from code m (suc n) ws ++ AtAnchor (block_begun code m) ∷ []) →
        IsTail t code m ((cond b (SwitchJump n w.target (branch_target (block_begun code m) code.enter m w.target) ∷ []) [] ++ tests_from code m (suc n) ws) ++ AtAnchor (block_begun code m) ∷ [])
    by_test true is rest = (refl, omega (arith, len), h 0 w refl is, rest)
    by_test false is rest = rest

chosen_is : (t : Tables) (code : ECode) (values : List ℤ) (m n : ℕ) (ws : List Switch) → ((i : ℕ) (w : Switch) → slice_get ws i ≡ Some w → slice_get t.switches (n + i) ≡ Some w) →
    chosen (holds_in t values) m (tests_from code m n ws ++ AtAnchor (block_begun code m) ∷ []) ≡ target_from t values m n ws
chosen_is t code values m n [] h = refl
chosen_is t code values m n (w ∷ ws) h =
    by_test (eqb w.mode m) (chosen_is t code values m (suc n) ws (λ i x e. moved i x (h (suc i) x e)))
  where
    moved : (i : ℕ) (x : Switch) → slice_get t.switches (n + suc i) ≡ Some x → slice_get t.switches (suc n + i) ≡ Some x
    moved i x e = let same : n + suc i ≡ suc n + i = omega arith in subst (λ z. slice_get t.switches z ≡ Some x) same e

    first : holds_in t values n ≡ switch_holds t values n w
    first =
        let zero_is : n + 0 ≡ n = omega arith in
        let at : slice_get t.switches n ≡ Some w = subst (λ z. slice_get t.switches z ≡ Some w) zero_is (h 0 w refl) in
        ap (λ (o : Option Switch). elim o as (λ _. Bool) [ Some x ↦ switch_holds t values n x | None ↦ false ]) at

    by_test : (b : Bool) → chosen (holds_in t values) m (tests_from code m (suc n) ws ++ AtAnchor (block_begun code m) ∷ []) ≡ target_from t values m (suc n) ws →
        chosen (holds_in t values) m ((cond b (SwitchJump n w.target (branch_target (block_begun code m) code.enter m w.target) ∷ []) [] ++ tests_from code m (suc n) ws) ++ AtAnchor (block_begun code m) ∷ [])
        ≡ cond (b && switch_holds t values n w) w.target (target_from t values m (suc n) ws)
    by_test true ih = ap (λ b. cond b w.target (chosen (holds_in t values) m (tests_from code m (suc n) ws ++ AtAnchor (block_begun code m) ∷ []))) first ∙ ap (λ z. cond (switch_holds t values n w) w.target z) ih
    by_test false ih = ih

-- what tables owe to the decide list of mode m, in module k
pub record Decides (t : Tables) (code : ECode) (m k : ℕ) : Type 0 where
  pub mine : ModeReads t code m
  pub others : (i : ℕ) (w : Switch) → slice_get t.switches i ≡ Some w → eqb w.mode m ≡ true → ModeReads t code w.target
  pub owner : mode_module t m ≡ k
  pub lower : (q : ℕ) → parent_of t k ≡ Some q → mode_module t q < k

pub stay_passes : (t : Tables) (code : ECode) (at k m : ℕ) (values : List ℤ) (rs : ℕ → Bool) → Decides t code m k → ((q : ℕ) → parent_of t k ≡ Some q → rs q ≡ true) →
    Passes t code at k (goes (holds_in t values) rs) (round_end t code m) (decide_path t code values true m) (moved_calendar t code at k m (target t values m))
stay_passes t code at k m values rs d runs =
    jumps_then t code at k (holds_in t values) rs (round_end t code m) (decided code m) (step_from t code m).side _ _ (turn_jumps t code m d.mine)
    (subst (λ z. Passes t code at k (goes (holds_in t values) rs) (decided code m) (followed t code m (holds_in t values) true (decide_chain t (block_begun code m) code.enter m) (steps_of z)) (moved_calendar t code at k m (target t values m))) (sym d.mine.decides.1)
    (by_parent (parent_of t (mode_module t m)) (ap (parent_of t) d.owner) d.mine.decides.0 d.mine.decides.1))
  where
    rest : (a : ℕ) (ss : List Step) → read code.instrs a (tests_of t (block_begun code m) code.enter m ++ AtAnchor (block_begun code m) ∷ []) ≡ Ok ss →
        Passes t code at k (goes (holds_in t values) rs) a (followed t code m (holds_in t values) true (tests_of t (block_begun code m) code.enter m ++ AtAnchor (block_begun code m) ∷ []) ss) (moved_calendar t code at k m (target t values m))
    rest a ss e =
        subst (λ y. Passes t code at k (goes (holds_in t values) rs) a (followed t code m (holds_in t values) true (tests_of t (block_begun code m) code.enter m ++ AtAnchor (block_begun code m) ∷ []) ss) (moved_calendar t code at k m y))
        (chosen_is t code values m 0 t.switches (λ i w h. let same : i ≡ 0 + i = omega arith in subst (λ z. slice_get t.switches z ≡ Some w) same h))
        (tail_passes t code at k m (holds_in t values) rs true (tests_of t (block_begun code m) code.enter m ++ AtAnchor (block_begun code m) ∷ []) a ss d.mine (tail_of t code m 0 t.switches (omega arith) d.others) e)

    by_parent : (o : Option ℕ) → o ≡ parent_of t k → (ss : List Step) → read code.instrs (decided code m) (asks_for o ++ (tests_of t (block_begun code m) code.enter m ++ AtAnchor (block_begun code m) ∷ [])) ≡ Ok ss →
        Passes t code at k (goes (holds_in t values) rs) (decided code m) (followed t code m (holds_in t values) true (asks_for o ++ (tests_of t (block_begun code m) code.enter m ++ AtAnchor (block_begun code m) ∷ [])) ss) (moved_calendar t code at k m (target t values m))
    by_parent None is ss e = rest (decided code m) ss e
    by_parent (Some q) is ss e =
        let r = read_is code.instrs (decided code m) (ModeJump q) (tests_of t (block_begun code m) code.enter m ++ AtAnchor (block_begun code m) ∷ []) ss e in
        let met = reach_is code.instrs (decided code m) (ModeJump q) r.first tt r.reaches in
        let first : kept code.instrs r.first.step.passed ≡ I.IfMode q r.first.step.target ∷ [] = kept_first code.instrs (decided code m) (ModeJump q) r.first r.reaches in
        subst (λ zs. Passes t code at k (goes (holds_in t values) rs) (decided code m) (followed t code m (holds_in t values) true (ModeJump q ∷ (tests_of t (block_begun code m) code.enter m ++ AtAnchor (block_begun code m) ∷ [])) zs) (moved_calendar t code at k m (target t values m))) (sym r.is)
        (leads_then t code at k (holds_in t values) rs (decided code m) r.first.next r.first.step.passed (followed t code m (holds_in t values) true (tests_of t (block_begun code m) code.enter m ++ AtAnchor (block_begun code m) ∷ []) r.rest) (moved_calendar t code at k m (target t values m)) (λ c. c)
        (reached_leads code.instrs (holds_in t values) rs (decided code m) (ModeJump q) r.first (runs q (sym is)) met)
        (subst (AllAllowed t 2 k) (sym first) ((refl, d.lower q (sym is)), tt)) (λ c. ap (λ is. calendar_after t code at k is c) first) (rest r.first.next r.rest r.then))

pub gone_passes : (t : Tables) (code : ECode) (at k m q : ℕ) (values : List ℤ) (rs : ℕ → Bool) → Decides t code m k → parent_of t k ≡ Some q → rs q ≡ false →
    Passes t code at k (goes (holds_in t values) rs) (round_end t code m) (decide_path t code values false m) (with_mode k None)
gone_passes t code at k m q values rs d parent off =
    jumps_then t code at k (holds_in t values) rs (round_end t code m) (decided code m) (step_from t code m).side _ _ (turn_jumps t code m d.mine)
    (subst (λ z. Passes t code at k (goes (holds_in t values) rs) (decided code m) (followed t code m (holds_in t values) false (decide_chain t (block_begun code m) code.enter m) (steps_of z)) (with_mode k None)) (sym d.mine.decides.1)
    (by_parent (parent_of t (mode_module t m)) (ap (parent_of t) d.owner ∙ parent) d.mine.decides.0 d.mine.decides.1))
  where
    by_parent : (o : Option ℕ) → o ≡ Some q → (ss : List Step) → read code.instrs (decided code m) (asks_for o ++ (tests_of t (block_begun code m) code.enter m ++ AtAnchor (block_begun code m) ∷ [])) ≡ Ok ss →
        Passes t code at k (goes (holds_in t values) rs) (decided code m) (followed t code m (holds_in t values) false (asks_for o ++ (tests_of t (block_begun code m) code.enter m ++ AtAnchor (block_begun code m) ∷ [])) ss) (with_mode k None)
    by_parent None is ss e = absurd (let z : ⊥ = cc in z)
    by_parent (Some u) is ss e =
        let same : u ≡ q = cc in
        let r = read_is code.instrs (decided code m) (ModeJump u) (tests_of t (block_begun code m) code.enter m ++ AtAnchor (block_begun code m) ∷ []) ss e in
        let met = reach_is code.instrs (decided code m) (ModeJump u) r.first tt r.reaches in
        let first : kept code.instrs r.first.step.passed ≡ I.IfMode u r.first.step.target ∷ [] = kept_first code.instrs (decided code m) (ModeJump u) r.first r.reaches in
        let below : mode_module t u < k = subst (λ z. mode_module t z < k) (sym same) (d.lower q parent) in
        let on : goes (holds_in t values) rs met.place met.instr ≡ Some (suc met.place) =
        ap (goes (holds_in t values) rs met.place) met.meets.0 ∙ ap (λ b. Some (cond b r.first.step.target (suc met.place))) (ap rs same ∙ off) in
        let leads : Leads code.instrs (goes (holds_in t values) rs) (decided code m) r.first.step.passed (suc met.place) =
        subst (λ zs. Leads code.instrs (goes (holds_in t values) rs) (decided code m) zs (suc met.place)) (sym met.passed) (then_at code.instrs (holds_in t values) rs (decided code m) met.place (suc met.place) met.jumps met.instr met.leads met.stands on) in
        subst (λ zs. Passes t code at k (goes (holds_in t values) rs) (decided code m) (followed t code m (holds_in t values) false (ModeJump u ∷ (tests_of t (block_begun code m) code.enter m ++ AtAnchor (block_begun code m) ∷ [])) zs) (with_mode k None)) (sym r.is)
        (leads_then t code at k (holds_in t values) rs (decided code m) (suc met.place) r.first.step.passed r.first.step.side (with_mode k None) (λ c. c) leads
        (subst (AllAllowed t 2 k) (sym first) ((refl, below), tt)) (λ c. ap (λ is. calendar_after t code at k is c) first) (leave_passes t code at k (holds_in t values) rs (suc met.place) r.first.step.side met.meets.2))
