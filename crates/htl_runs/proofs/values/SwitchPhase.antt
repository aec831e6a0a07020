-- The addresses of the switch phase leave the world as it is.
use Rattle.std.proofs.Common.{arith, ◌≡◌, ℕ, suc, ◌+◌, Bool, true, false, cond, eqb, List, [], ◌∷◌, ◌++◌, length, map, zero, ◌<◌, Option, Some, None, Result, Ok, Err, ℤ, inl, inr, refl, sym, ap, ◌∙◌}
use Rattle.htl_runs.proofs.Words.{Stay, State, joined, numbered, up_to, Switch, Action, Tables, mode_period, mode_module, stay_of, ECode, EInstr, EFault, parent_of, AreInRange, IsSwitchInRange, next_offset, same_instr, Requirement, Exactly, NextBlock, EndOfRound, SwitchJump, ModeJump, AtAnchor, all_do, waits_for, enter_chain, begin_chain, decide_chain, children, asks_for, test_of, tests_of, branch_target, Resolved, resolved, bind, fault, pass, leaving, Step, read, steps_of, passed_by, entered, block_begun, decided, turn_step, step_from, begin_path, enter_path, followed, decide_path, switch_path, switches_done, holds_in, chain_path, bind_ok, IsResolved, resolve_is, same_is, reach_is, read_is, Reads, ModeReads, Content, effect, want_effect, effects, slice_get_within, each_at}
use Rattle.htl_ecode.specs.declared.instr.EInstr.TheVariants as I
use Rattle.htl_runs.proofs.values.BlockContents.{In, numbered_in}
use Rattle.htl_runs.proofs.values.PhasePaths.{replay, replay_more, jumps_do_nothing, one_does, same_effect, reached_does, chain_does, addresses, addresses_on, addresses_more}

-- what is required, but for calls
abbrev pub IsQuiet : Requirement → Type 0
IsQuiet (Exactly (I.CallWrite a b)) = ⊥
IsQuiet (Exactly (I.CallRead a b)) = ⊥
IsQuiet _ = Unit {0}

abbrev pub AreQuiet : List Requirement → Type 0
AreQuiet [] = Unit {0}
AreQuiet (w ∷ ws) = IsQuiet w × AreQuiet ws

quiet_want : (t : Tables) (x : Requirement) (w : Content) → IsQuiet x → want_effect t x w ≡ w
quiet_want t (Exactly (I.CallWrite a b)) w q = absurd q
quiet_want t (Exactly (I.CallRead a b)) w q = absurd q
quiet_want t _ w q = refl

quiet_effects : (t : Tables) (ws : List Requirement) (w : Content) → AreQuiet ws → effects t ws w ≡ w
quiet_effects t [] w q = refl
quiet_effects t (x ∷ xs) w q = ap (effects t xs) (quiet_want t x w q.0) ∙ quiet_effects t xs w q.1

quiet_more : (xs ys : List Requirement) → AreQuiet xs → AreQuiet ys → AreQuiet (xs ++ ys)
quiet_more [] ys p q = q
quiet_more (x ∷ xs) ys p q = (p.0, quiet_more xs ys p.1 q)

quiet_joined : {A : Type 0} (f : A → List Requirement) (ns : List A) → ((n : A) → AreQuiet (f n)) → AreQuiet (joined f ns)
quiet_joined f [] h = tt
quiet_joined f (n ∷ ns) h = quiet_more (f n) (joined f ns) (h n) (quiet_joined f ns h)

quiet_waits : (o p : ℕ) (n : Option ℕ) → AreQuiet (waits_for o p n)
quiet_waits o p None = tt
quiet_waits o p (Some x) = (tt, tt)

quiet_forks : (ks : List ℕ) → AreQuiet (all_do (map (λ k. I.Fork k) ks))
quiet_forks [] = tt
quiet_forks (k ∷ ks) = (tt, quiet_forks ks)

quiet_enter : (t : Tables) (code : ECode) (m : ℕ) → AreQuiet (enter_chain t (block_begun code m) m)
quiet_enter t code m = (tt, quiet_more (all_do (map (λ k. I.Fork k) (children t m))) (AtAnchor (block_begun code m) ∷ []) (quiet_forks (children t m)) (tt, tt))

quiet_begin : (t : Tables) (code : ECode) (m : ℕ) → AreQuiet (begin_chain t (decided code m) m)
quiet_begin t code m = grind (arith, quiet_more, quiet_waits)

quiet_decide : (t : Tables) (code : ECode) (m : ℕ) → AreQuiet (decide_chain t (block_begun code m) code.enter m)
quiet_decide t code m =
    quiet_more (asks_for (parent_of t (mode_module t m))) (tests_of t (block_begun code m) code.enter m ++ AtAnchor (block_begun code m) ∷ []) (quiet_asks (parent_of t (mode_module t m)))
    (quiet_more (tests_of t (block_begun code m) code.enter m) (AtAnchor (block_begun code m) ∷ []) (quiet_joined (test_of (block_begun code m) code.enter m) (numbered 0 t.switches) (λ n. quiet_test n (eqb n.1.mode m))) (tt, tt))
  where
    quiet_asks : (o : Option ℕ) → AreQuiet (asks_for o)
    quiet_asks None = tt
    quiet_asks (Some q) = (tt, tt)

    quiet_test : (n : ℕ × Switch) (b : Bool) → AreQuiet (cond b (SwitchJump n.0 n.1.target (branch_target (block_begun code m) code.enter m n.1.target) ∷ []) [])
    quiet_test n true = (tt, tt)
    quiet_test n false = tt

module _ (t : Tables) (code : ECode) where
  chain_quiet : (ws : List Requirement) (a : ℕ) (w : Content) → Reads code.instrs a ws → AreQuiet ws → replay t code.instrs (chain_path code a ws) w ≡ w
  chain_quiet ws a w r q =
      ap (λ z. replay t code.instrs (passed_by (steps_of z)) w) r.1 ∙ chain_does t code.instrs ws a r.0 w r.1 ∙ quiet_effects t ws w q

  begin_quiet : (m : ℕ) (w : Content) → ModeReads t code m → replay t code.instrs (begin_path t code m) w ≡ w
  begin_quiet m w r = chain_quiet (begin_chain t (decided code m) m) (block_begun code m) w r.begins (quiet_begin t code m)

  enter_quiet : (m : ℕ) (w : Content) → ModeReads t code m → replay t code.instrs (enter_path t code m) w ≡ w
  enter_quiet m w r =
      replay_more t code.instrs (chain_path code (entered code m) (enter_chain t (block_begun code m) m)) (begin_path t code m) w
      ∙ ap (λ z. replay t code.instrs (begin_path t code m) z) (chain_quiet (enter_chain t (block_begun code m) m) (entered code m) w r.enters (quiet_enter t code m)) ∙ begin_quiet m w r

  -- an instruction that was passed, with its jumps
  pass_quiet : (j : EInstr) (a : ℕ) (x : List ℕ × ℕ) (w : Content) → pass code.instrs j a ≡ Ok x → ((v : Content) → effect t j v ≡ v) → replay t code.instrs x.0 w ≡ w
  pass_quiet j a x w e quiet =
      let b = bind_ok (resolved code.instrs a) (λ l. elim (same_instr j l.instr) as (λ _. Result (List ℕ × ℕ) EFault) [ true ↦ Ok (l.jumps ++ l.place ∷ [], suc l.place) | false ↦ Err (fault Action l.place) ]) x e in
      let l = resolve_is code.instrs a (length code.instrs) a b.0 b.1 in
      by_same b.0 (same_instr j b.0.instr) refl l b.2
    where
      by_same : (l : Resolved) (b : Bool) → same_instr j l.instr ≡ b → IsResolved code.instrs a l
          → ◌≡◌ {A = Result (List ℕ × ℕ) EFault} (elim b [ true ↦ Ok (l.jumps ++ l.place ∷ [], suc l.place) | false ↦ Err (fault Action l.place) ]) (Ok x) → replay t code.instrs x.0 w ≡ w
      by_same l false f g e = absurd (let z : ⊥ = cc in z)
      by_same l true f g e =
          let is : ◌≡◌ {A = List ℕ × ℕ} (l.jumps ++ l.place ∷ [], suc l.place) x = cc in
          ap (λ (z : List ℕ × ℕ). replay t code.instrs z.0 w) (sym is)
          ∙ one_does t code.instrs a l.place l.jumps l.instr w g.0 g.1 ∙ same_effect t code.instrs l.instr j w (sym (same_is j l.instr f)) ∙ quiet w

  leaving_quiet : (a : ℕ) (xs : List ℕ) (w : Content) → leaving code.instrs a ≡ Ok xs → replay t code.instrs xs w ≡ w
  leaving_quiet a xs w e =
      let b = bind_ok (pass code.instrs I.Leave a) (λ x. bind (pass code.instrs I.Return x.1) (λ y. Ok (x.0 ++ y.0))) xs e in
      let c = bind_ok (pass code.instrs I.Return b.0.1) (λ y. Ok (b.0.0 ++ y.0)) xs b.2 in
      let is : b.0.0 ++ c.0.0 ≡ xs = (let f : ◌≡◌ {A = Result (List ℕ) EFault} (Ok (b.0.0 ++ c.0.0)) (Ok xs) = c.2 in cc) in
      ap (λ z. replay t code.instrs z w) (sym is) ∙ replay_more t code.instrs b.0.0 c.0.0 w
      ∙ ap (λ z. replay t code.instrs c.0.0 z) (pass_quiet I.Leave a b.0 w b.1 (λ v. refl)) ∙ pass_quiet I.Return b.0.1 c.0 w c.1 (λ v. refl)

-- each test leads to a mode that there is
abbrev pub IsAimed : Tables → Requirement → Type 0
IsAimed t (SwitchJump k x a) = x < length t.modes
IsAimed t _ = Unit {0}

abbrev pub AreAimed : Tables → List Requirement → Type 0
AreAimed t [] = Unit {0}
AreAimed t (w ∷ ws) = IsAimed t w × AreAimed t ws

aimed_more : (t : Tables) (xs ys : List Requirement) → AreAimed t xs → AreAimed t ys → AreAimed t (xs ++ ys)
aimed_more t [] ys p q = q
aimed_more t (x ∷ xs) ys p q = (p.0, aimed_more t xs ys p.1 q)

aimed_tests : (t : Tables) (code : ECode) (m : ℕ) (ns : List (ℕ × Switch)) → ((n : ℕ × Switch) → In n ns → n.1.target < length t.modes)
    → AreAimed t (joined (test_of (block_begun code m) code.enter m) ns)
aimed_tests t code m [] h = tt
aimed_tests t code m (n ∷ ns) h =
    aimed_more t (cond (eqb n.1.mode m) (SwitchJump n.0 n.1.target (branch_target (block_begun code m) code.enter m n.1.target) ∷ []) []) (joined (test_of (block_begun code m) code.enter m) ns)
    (one (eqb n.1.mode m)) (aimed_tests t code m ns (λ k g. h k (inr g)))
  where
    one : (b : Bool) → AreAimed t (cond b (SwitchJump n.0 n.1.target (branch_target (block_begun code m) code.enter m n.1.target) ∷ []) [])
    one true = (h n (inl refl), tt)
    one false = tt

aimed_decide : (t : Tables) (code : ECode) (m : ℕ) → AreInRange t → AreAimed t (decide_chain t (block_begun code m) code.enter m)
aimed_decide t code m range =
    aimed_more t (asks_for (parent_of t (mode_module t m))) (tests_of t (block_begun code m) code.enter m ++ AtAnchor (block_begun code m) ∷ []) (asks (parent_of t (mode_module t m)))
    (aimed_more t (tests_of t (block_begun code m) code.enter m) (AtAnchor (block_begun code m) ∷ [])
    (aimed_tests t code m (numbered 0 t.switches)
    (λ n g. let d = numbered_in t.switches 0 n g in let r = (each_at (IsSwitchInRange t) t.switches range.switches d.0 n.1 d.2).target in slice_get_within t.modes n.1.target r.0 r.1))
    (tt, tt))
  where
    asks : (o : Option ℕ) → AreAimed t (asks_for o)
    asks None = tt
    asks (Some q) = (tt, tt)

module _ (t : Tables) (code : ECode) (reads : (m : ℕ) → m < length t.modes → ModeReads t code m) where
  followed_quiet : (m : ℕ) (holds' : ℕ → Bool) (stays : Bool) → m < length t.modes → (ws : List Requirement) (a : ℕ) (ss : List Step) (w : Content) → read code.instrs a ws ≡ Ok ss → AreAimed t ws → AreQuiet ws
      → replay t code.instrs (followed t code m holds' stays ws ss) w ≡ w
  followed_quiet m holds' stays real [] a [] w e aim q = refl
  followed_quiet m holds' stays real (Exactly j ∷ ws) a [] w e aim q = refl
  followed_quiet m holds' stays real (NextBlock d p ∷ ws) a [] w e aim q = refl
  followed_quiet m holds' stays real (EndOfRound d x ∷ ws) a [] w e aim q = refl
  followed_quiet m holds' stays real (ModeJump r ∷ ws) a ss w e aim q =
      let d = read_is code.instrs a (ModeJump r) ws ss e in
      let g = reach_is code.instrs a (ModeJump r) d.first tt d.reaches in
      let on_it = followed t code m holds' stays ws d.rest in
      let fork : Bool → List ℕ = λ b. elim b [ true ↦ on_it | false ↦ d.first.step.side ] in
      ap (λ z. replay t code.instrs (followed t code m holds' stays (ModeJump r ∷ ws) z) w) d.is
      ∙ replay_more t code.instrs d.first.step.passed (fork stays) w
      ∙ ap (λ z. replay t code.instrs (fork stays) z) (reached_does t code.instrs a (ModeJump r) d.first w d.reaches)
      ∙ by_stay stays on_it d.first.step.side (followed_quiet m holds' stays real ws d.first.next d.rest w d.then aim.1 q.1) (leaving_quiet t code (suc g.place) d.first.step.side w g.meets.2)
    where
      by_stay : (b : Bool) (xs ys : List ℕ) → replay t code.instrs xs w ≡ w → replay t code.instrs ys w ≡ w → replay t code.instrs (elim b [ true ↦ xs | false ↦ ys ]) w ≡ w
      by_stay true xs ys f g = f
      by_stay false xs ys f g = g
  followed_quiet m holds' stays real (SwitchJump k x c ∷ ws) a ss w e aim q =
      let d = read_is code.instrs a (SwitchJump k x c) ws ss e in
      let g = reach_is code.instrs a (SwitchJump k x c) d.first tt d.reaches in
      let there = d.first.step.side ++ cond (eqb x m) (begin_path t code m) (enter_path t code x) in
      let side : replay t code.instrs there w ≡ w =
      replay_more t code.instrs d.first.step.side (cond (eqb x m) (begin_path t code m) (enter_path t code x)) w
      ∙ ap (λ z. replay t code.instrs (cond (eqb x m) (begin_path t code m) (enter_path t code x)) z) (jumps_do_nothing t code.instrs d.first.step.target c d.first.step.side w g.meets.2)
      ∙ by_mode (eqb x m) (begin_path t code m) (enter_path t code x) (begin_quiet t code m w (reads m real)) (enter_quiet t code x w (reads x aim.0)) in
      ap (λ z. replay t code.instrs (followed t code m holds' stays (SwitchJump k x c ∷ ws) z) w) d.is
      ∙ replay_more t code.instrs d.first.step.passed (elim (holds' k) [ true ↦ there | false ↦ followed t code m holds' stays ws d.rest ]) w
      ∙ ap (λ z. replay t code.instrs (elim (holds' k) [ true ↦ there | false ↦ followed t code m holds' stays ws d.rest ]) z) (reached_does t code.instrs a (SwitchJump k x c) d.first w d.reaches)
      ∙ by_test (holds' k) there (followed t code m holds' stays ws d.rest) side (followed_quiet m holds' stays real ws d.first.next d.rest w d.then aim.1 q.1)
    where
      by_mode : (b : Bool) (xs ys : List ℕ) → replay t code.instrs xs w ≡ w → replay t code.instrs ys w ≡ w → replay t code.instrs (cond b xs ys) w ≡ w
      by_mode true xs ys f g = f
      by_mode false xs ys f g = g

      by_test : (b : Bool) (xs ys : List ℕ) → replay t code.instrs xs w ≡ w → replay t code.instrs ys w ≡ w → replay t code.instrs (elim b [ true ↦ xs | false ↦ ys ]) w ≡ w
      by_test true xs ys f g = f
      by_test false xs ys f g = g
  followed_quiet m holds' stays real (AtAnchor x ∷ ws) a ss w e aim q =
      let d = read_is code.instrs a (AtAnchor x) ws ss e in
      ap (λ z. replay t code.instrs (followed t code m holds' stays (AtAnchor x ∷ ws) z) w) d.is
      ∙ replay_more t code.instrs d.first.step.passed (begin_path t code m) w
      ∙ ap (λ z. replay t code.instrs (begin_path t code m) z) (reached_does t code.instrs a (AtAnchor x) d.first w d.reaches) ∙ begin_quiet t code m w (reads m real)
  followed_quiet m holds' stays real _ a (s ∷ ss) w e aim q = refl

  -- the jumps from where the round's end begins to the decide list
  turn_quiet : (ws : List Requirement) (a : ℕ) (ss : List Step) (w : Content) → read code.instrs a ws ≡ Ok ss → replay t code.instrs (turn_step ws ss).side w ≡ w
  turn_quiet [] a [] w e = refl
  turn_quiet [] a (s ∷ ss) w e = refl
  turn_quiet (EndOfRound d x ∷ ws) a ss w e =
      let r = read_is code.instrs a (EndOfRound d x) ws ss e in
      let g = reach_is code.instrs a (EndOfRound d x) r.first tt r.reaches in
      ap (λ z. replay t code.instrs (turn_step (EndOfRound d x ∷ ws) z).side w) r.is ∙ jumps_do_nothing t code.instrs r.first.step.target x r.first.step.side w g.meets.2
  turn_quiet (Exactly j ∷ ws) a ss w e =
      let r = read_is code.instrs a (Exactly j) ws ss e in ap (λ z. replay t code.instrs (turn_step (Exactly j ∷ ws) z).side w) r.is ∙ turn_quiet ws r.first.next r.rest w r.then
  turn_quiet (NextBlock d p ∷ ws) a ss w e =
      let r = read_is code.instrs a (NextBlock d p) ws ss e in ap (λ z. replay t code.instrs (turn_step (NextBlock d p ∷ ws) z).side w) r.is ∙ turn_quiet ws r.first.next r.rest w r.then
  turn_quiet (SwitchJump k m x ∷ ws) a ss w e =
      let r = read_is code.instrs a (SwitchJump k m x) ws ss e in ap (λ z. replay t code.instrs (turn_step (SwitchJump k m x ∷ ws) z).side w) r.is ∙ turn_quiet ws r.first.next r.rest w r.then
  turn_quiet (ModeJump q ∷ ws) a ss w e =
      let r = read_is code.instrs a (ModeJump q) ws ss e in ap (λ z. replay t code.instrs (turn_step (ModeJump q ∷ ws) z).side w) r.is ∙ turn_quiet ws r.first.next r.rest w r.then
  turn_quiet (AtAnchor x ∷ ws) a ss w e =
      let r = read_is code.instrs a (AtAnchor x) ws ss e in ap (λ z. replay t code.instrs (turn_step (AtAnchor x ∷ ws) z).side w) r.is ∙ turn_quiet ws r.first.next r.rest w r.then

  module _ (range : AreInRange t) where
    decide_quiet : (values : List ℤ) (stays : Bool) (m : ℕ) (w : Content) → m < length t.modes → replay t code.instrs (decide_path t code values stays m) w ≡ w
    decide_quiet values stays m w real =
        let r = (reads m real).decides in
        let b = (reads m real).begins in
        let rest = followed t code m (holds_in t values) stays (decide_chain t (block_begun code m) code.enter m) (steps_of (read code.instrs (decided code m) (decide_chain t (block_begun code m) code.enter m))) in
        replay_more t code.instrs (step_from t code m).side rest w
        ∙ ap (λ z. replay t code.instrs rest z) (ap (λ z. replay t code.instrs (turn_step (begin_chain t (decided code m) m) (steps_of z)).side w) b.1 ∙ turn_quiet (begin_chain t (decided code m) m) (block_begun code m) b.0 w b.1)
        ∙ ap (λ z. replay t code.instrs (followed t code m (holds_in t values) stays (decide_chain t (block_begun code m) code.enter m) (steps_of z)) w) r.1
        ∙ followed_quiet m (holds_in t values) stays real (decide_chain t (block_begun code m) code.enter m) (decided code m) r.0 w r.1 (aimed_decide t code m range) (quiet_decide t code m)

    switch_quiet : (values : List ℤ) (now : ℕ) (o p : Option Stay) (w : Content) → ((y : Stay) → o ≡ Some y → y.mode < length t.modes) → ((y : Stay) → p ≡ Some y → y.mode < length t.modes)
        → replay t code.instrs (switch_path t code values now o p) w ≡ w
    switch_quiet values now None None w ro rp = refl
    switch_quiet values now None (Some y) w ro rp = enter_quiet t code y.mode w (reads y.mode (rp y refl))
    switch_quiet values now (Some x) None w ro rp = decide_quiet values false x.mode w (ro x refl)
    switch_quiet values now (Some x) (Some y) w ro rp = by_end (eqb now (x.start + mode_period t x.mode))
      where
        by_end : (b : Bool) → replay t code.instrs (elim b [ true ↦ decide_path t code values true x.mode | false ↦ [] ]) w ≡ w
        by_end true = decide_quiet values true x.mode w (ro x refl)
        by_end false = refl

    -- the addresses of the switch phase change no value and no buffer
    pub switch_phase : (now : ℕ) (old new : State) → ((k : ℕ) (y : Stay) → stay_of old.stays k ≡ Some y → y.mode < length t.modes) → ((k : ℕ) (y : Stay) → stay_of new.stays k ≡ Some y → y.mode < length t.modes)
        → (n : ℕ) (w : Content) → replay t code.instrs (addresses (up_to (switches_done t code now old new) n)) w ≡ w
    switch_phase now old new ro rn zero w = refl
    switch_phase now old new ro rn (suc n) w =
        ap (λ xs. replay t code.instrs xs w) (addresses_more (up_to (switches_done t code now old new) n) (switches_done t code now old new n))
        ∙ replay_more t code.instrs (addresses (up_to (switches_done t code now old new) n)) (addresses (switches_done t code now old new n)) w
        ∙ ap (λ z. replay t code.instrs (addresses (switches_done t code now old new n)) z) (switch_phase now old new ro rn n w)
        ∙ ap (λ xs. replay t code.instrs xs w) (addresses_on n (switch_path t code new.values now (stay_of old.stays n) (stay_of new.stays n)))
        ∙ switch_quiet new.values now (stay_of old.stays n) (stay_of new.stays n) w (λ y e. ro n y e) (λ y e. rn n y e)
