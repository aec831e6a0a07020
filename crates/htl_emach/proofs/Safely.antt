-- Each block of spelled E code is safe, whatever its tests answer.
use Rattle.std.proofs.Common.{◌≡◌, ℕ, suc, ◌+◌, ◌-◌, ◌<◌, ◌≤◌, Bool, true, false, cond, eqb, List, [], ◌∷◌, ◌++◌, length, slice_get, map, drop, length-append, length-drop, Option, Some, None, Ok, refl, sym, ap, ◌∙◌, subst, arith, ◌⊎◌, inl, inr}
use Rattle.htl_emach.proofs.Words.{eq-eqb, eqb-true, cases_Bool, slice_get_within, none-some, same_Some, Module, Switch, places_from, AreInRange, IsModeThat, IsSwitchInRange, parent_of, Tables, mode_module, mode_period, ECode, EInstr, next_offset, phase_offsets, holds, Requirement, Exactly, NextBlock, EndOfRound, SwitchJump, ModeJump, AtAnchor, all_do, waits_for, calls, block_chain, begin_chain, enter_chain, decide_chain, children, is_child, asks_for, tests_of, branch_target, bind, Step, Reached, pass, leaving, read, reach, steps_of, target_of, block_at, block_begun, entered, decided, round_end, step_from, turn_step, Jumps, reach_is, anchor_is, read_is, bind_ok, ModeReads, IsBlockPhase, spelled_stands, no_block, spelled_links, spelled_first, goes, IsStart, IsFit, IsSafe, safe, StartsIn, each_at, true_not_false}
use Rattle.htl_ecode.specs.declared.instr.EInstr.TheVariants as I
use Rattle.htl_emach.proofs.{Deciding.pass_ok, Deciding.turn_jumps, Deciding.tests_from, Effects.WantAllowed, Effects.WantsAllowed, Triggers.IsQuiet, Triggers.AreQuiet, Triggers.calls_quiet, Triggers.length_read, WriteRead.block_wants}
use Rattle.htl_emach.proofs.States.{mode_known}

module _ (t : Tables) (code : ECode) (k : ℕ) where
  jumps_safe : (a b : ℕ) (xs : List ℕ) → Jumps code.instrs a xs b → IsSafe t code k b → IsSafe t code k a
  jumps_safe a b [] j s = subst (IsSafe t code k) (sym j) s
  jumps_safe a b (x ∷ xs) j s =
      let rest : IsSafe t code k j.1.0 = jumps_safe j.1.0 b xs j.1.2 s in
      safe a (I.Jump j.1.0) j.1.1 tt (λ c l. subst (IsSafe t code k) (same_Some j.1.0 c l.2) rest)

  -- an instruction that goes on to the next address
  abbrev Plain : EInstr → Type 0
  Plain i = (a : ℕ) (hs rs : ℕ → Bool) → goes hs rs a i ≡ Some (suc a)

  plain_safe : (a : ℕ) (i : EInstr) → slice_get code.instrs a ≡ Some i → IsFit t code k i → Plain i → IsSafe t code k (suc a) → IsSafe t code k a
  plain_safe a i at fit plain next = safe a i at fit (λ c l. subst (IsSafe t code k) (same_Some (suc a) c (sym (plain a l.0 l.1) ∙ l.2)) next)

  -- what a chain owes to be safe
  abbrev pub OwesOne : Requirement → Step → Type 0
  OwesOne (Exactly j) s = IsFit t code k j × Plain j
  OwesOne (NextBlock d p) s = IsStart t code k p s.target
  OwesOne (EndOfRound d x) s = IsStart t code k 2 s.target
  OwesOne (SwitchJump j m x) s = (j < length t.switches) × IsSafe t code k x
  OwesOne (ModeJump q) s = Unit {0}
  OwesOne (AtAnchor x) s = ⊥

  abbrev pub Owes : List Requirement → List Step → Type 0
  Owes [] ss = ⊥
  Owes (w ∷ ws) [] = ⊥
  Owes (w ∷ []) (s ∷ ss) = (w ≡ Exactly I.Return) ⊎ ((x : ℕ) × (w ≡ AtAnchor x) × IsSafe t code k x)
  Owes (w ∷ v ∷ ws) (s ∷ ss) = OwesOne w s × Owes (v ∷ ws) ss

  leave_safe : (a : ℕ) (xs : List ℕ) → leaving code.instrs a ≡ Ok xs → IsSafe t code k a
  leave_safe a xs e =
      let h = bind_ok (pass code.instrs I.Leave a) (λ x. bind (pass code.instrs I.Return x.1) (λ y. Ok (x.0 ++ y.0))) xs e in
      let g = bind_ok (pass code.instrs I.Return h.0.1) (λ y. Ok (h.0.0 ++ y.0)) xs h.2 in
      let p = pass_ok code.instrs I.Leave a h.0 h.1 in
      let q = pass_ok code.instrs I.Return h.0.1 g.0 g.1 in
      let leave_at : slice_get code.instrs p.0.place ≡ Some I.Leave = p.1.1 ∙ ap (λ z. Some z) p.2 in
      let return_at : slice_get code.instrs q.0.place ≡ Some I.Return = q.1.1 ∙ ap (λ z. Some z) q.2 in
      let from : Jumps code.instrs (suc p.0.place) q.0.jumps q.0.place = subst (λ z. Jumps code.instrs z q.0.jumps q.0.place) p.4 q.1.0 in
      let last : IsSafe t code k q.0.place = safe q.0.place I.Return return_at tt (λ c l. absurd (none-some c l.2)) in
      jumps_safe a p.0.place p.0.jumps p.1.0 (plain_safe p.0.place I.Leave leave_at tt (λ a hs rs. refl) (jumps_safe (suc p.0.place) q.0.place q.0.jumps from last))

  one_safe : (a : ℕ) (w : Requirement) (y : Reached) → reach code.instrs a w ≡ Ok y → OwesOne w y.step → IsSafe t code k y.next → IsSafe t code k a
  one_safe a (Exactly j) y e o next =
      let r = reach_is code.instrs a (Exactly j) y tt e in
      jumps_safe a r.place r.jumps r.leads
      (plain_safe r.place r.instr r.stands (subst (IsFit t code k) (sym r.meets.0) o.0) (λ b hs rs. ap (goes hs rs b) r.meets.0 ∙ o.1 b hs rs) (subst (IsSafe t code k) r.meets.1 next))
  one_safe a (NextBlock d p) y e o next =
      let r = reach_is code.instrs a (NextBlock d p) y tt e in
      jumps_safe a r.place r.jumps r.leads
      (plain_safe r.place r.instr r.stands (subst (IsFit t code k) (sym r.meets.0) o) (λ b hs rs. ap (goes hs rs b) r.meets.0) (subst (IsSafe t code k) r.meets.1 next))
  one_safe a (EndOfRound d x) y e o next =
      let r = reach_is code.instrs a (EndOfRound d x) y tt e in
      jumps_safe a r.place r.jumps r.leads
      (plain_safe r.place r.instr r.stands (subst (IsFit t code k) (sym r.meets.0) o) (λ b hs rs. ap (goes hs rs b) r.meets.0) (subst (IsSafe t code k) r.meets.1 next))
  one_safe a (SwitchJump j m x) y e o next =
      let r = reach_is code.instrs a (SwitchJump j m x) y tt e in
      let on : IsSafe t code k y.step.target = jumps_safe y.step.target x y.step.side r.meets.2 o.1 in
      let off : IsSafe t code k (suc r.place) = subst (IsSafe t code k) r.meets.1 next in
      jumps_safe a r.place r.jumps r.leads
      (safe r.place r.instr r.stands (subst (IsFit t code k) (sym r.meets.0) o.0) (λ c l. by_test c (l.0 j) on off (sym (ap (goes l.0 l.1 r.place) r.meets.0) ∙ l.2)))
    where
      by_test : {x z : ℕ} (c : ℕ) (b : Bool) → IsSafe t code k x → IsSafe t code k z → Some (cond b x z) ≡ Some c → IsSafe t code k c
      by_test {x} {z} c true on off e = subst (IsSafe t code k) (same_Some x c e) on
      by_test {x} {z} c false on off e = subst (IsSafe t code k) (same_Some z c e) off
  one_safe a (ModeJump q) y e o next =
      let r = reach_is code.instrs a (ModeJump q) y tt e in
      let on : IsSafe t code k y.step.target = subst (IsSafe t code k) r.meets.1 next in
      let off : IsSafe t code k (suc r.place) = leave_safe (suc r.place) y.step.side r.meets.2 in
      jumps_safe a r.place r.jumps r.leads
      (safe r.place r.instr r.stands (subst (IsFit t code k) (sym r.meets.0) tt) (λ c l. by_test c (l.1 q) on off (sym (ap (goes l.0 l.1 r.place) r.meets.0) ∙ l.2)))
    where
      by_test : {x z : ℕ} (c : ℕ) (b : Bool) → IsSafe t code k x → IsSafe t code k z → Some (cond b x z) ≡ Some c → IsSafe t code k c
      by_test {x} {z} c true on off e = subst (IsSafe t code k) (same_Some x c e) on
      by_test {x} {z} c false on off e = subst (IsSafe t code k) (same_Some z c e) off
  one_safe a (AtAnchor x) y e o next = absurd o

  pub chain_safe : (ws : List Requirement) (a : ℕ) (ss : List Step) → read code.instrs a ws ≡ Ok ss → Owes ws ss → IsSafe t code k a
  chain_safe [] a ss e o = absurd o
  chain_safe (w ∷ []) a ss e o =
      let r = read_is code.instrs a w [] ss e in
      let owed : (w ≡ Exactly I.Return) ⊎ ((x : ℕ) × (w ≡ AtAnchor x) × IsSafe t code k x) = subst (Owes (w ∷ [])) r.is o in
      elim owed [ inl is ↦ by_return r.first (subst (λ v. reach code.instrs a v ≡ Ok r.first) is r.reaches) | inr h ↦ by_anchor h.0 r.first h.2 (subst (λ v. reach code.instrs a v ≡ Ok r.first) h.1 r.reaches) ]
    where
      by_return : (y : Reached) → reach code.instrs a (Exactly I.Return) ≡ Ok y → IsSafe t code k a
      by_return y e =
          let r = reach_is code.instrs a (Exactly I.Return) y tt e in
          jumps_safe a r.place r.jumps r.leads
          (safe r.place r.instr r.stands (subst (IsFit t code k) (sym r.meets.0) tt) (λ c l. absurd (none-some c (sym (ap (goes l.0 l.1 r.place) r.meets.0) ∙ l.2))))

      by_anchor : (x : ℕ) (y : Reached) → IsSafe t code k x → reach code.instrs a (AtAnchor x) ≡ Ok y → IsSafe t code k a
      by_anchor x y s e = jumps_safe a x y.step.passed (anchor_is code.instrs a x y e).0 s
  chain_safe (w ∷ v ∷ ws) a ss e o =
      let r = read_is code.instrs a w (v ∷ ws) ss e in
      let owed : OwesOne w r.first.step × Owes (v ∷ ws) r.rest = subst (Owes (w ∷ v ∷ ws)) r.is o in
      one_safe a w r.first r.reaches owed.0 (chain_safe (v ∷ ws) r.first.next r.rest r.then owed.1)

  -- ---- the chains

  abbrev Always : Requirement → Type 0
  Always (Exactly j) = IsFit t code k j × Plain j
  Always _ = ⊥

  abbrev AllAlways : List Requirement → Type 0
  AllAlways [] = Unit {0}
  AllAlways (w ∷ ws) = Always w × AllAlways ws

  always_owes : (w : Requirement) (s : Step) → Always w → OwesOne w s
  always_owes (Exactly j) s h = h
  always_owes _ s h = absurd h

  owes_front : (xs : List Requirement) (y : Requirement) (ys : List Requirement) (ss : List Step) → AllAlways xs → length ss ≡ length (xs ++ y ∷ ys) → Owes (y ∷ ys) (drop (length xs) ss) → Owes (xs ++ y ∷ ys) ss
  owes_front [] y ys ss q l o = o
  owes_front (x ∷ []) y ys [] q l o = absurd (omega (arith, l))
  owes_front (x ∷ []) y ys (s ∷ ss) q l o = (always_owes x s q.0, o)
  owes_front (x ∷ z ∷ xs) y ys [] q l o = absurd (omega (arith, l))
  owes_front (x ∷ z ∷ xs) y ys (s ∷ ss) q l o = (always_owes x s q.0, owes_front (z ∷ xs) y ys ss q.1 (omega (arith, l)) o)

  target_front : (p : ℕ) (xs ys : List Requirement) (ss : List Step) → AllAlways xs → length xs ≤ length ss → target_of p (xs ++ ys) ss ≡ target_of p ys (drop (length xs) ss)
  target_front p [] ys ss q l = refl
  target_front p (Exactly j ∷ xs) ys [] q l = absurd (omega (arith, l))
  target_front p (Exactly j ∷ xs) ys (s ∷ ss) q l = target_front p xs ys ss q.1 (omega (arith, l))
  target_front p (NextBlock a b ∷ xs) ys ss q l = absurd q.0
  target_front p _ ys ss q l = absurd q.0

  owes_end : (o p : ℕ) (n : Option ℕ) (ss : List Step) → length ss ≡ length (waits_for o p n ++ Exactly I.Return ∷ []) →
      ((o1 x : ℕ) → n ≡ Some o1 → target_of p (waits_for o p n ++ Exactly I.Return ∷ []) ss ≡ Some x → IsStart t code k p x) → Owes (waits_for o p n ++ Exactly I.Return ∷ []) ss
  owes_end o p None [] l h = absurd (omega (arith, l))
  owes_end o p None (s ∷ []) l h = inl refl
  owes_end o p None (s ∷ u ∷ ss) l h = absurd (omega (arith, l))
  owes_end o p (Some o1) (s ∷ u ∷ []) l h = (h o1 s.target refl (ap (λ (b : Bool). elim b as (λ _. Option ℕ) [ true ↦ Some s.target | false ↦ None ]) (eq-eqb p p refl)), inl refl)
  owes_end o p (Some o1) _ l h = absurd (omega (arith, l))

  -- a chain of quiet instructions, a trigger and a return
  block_owes : (xs : List Requirement) (o p : ℕ) (n : Option ℕ) (ss : List Step) → AllAlways xs → length ss ≡ length (xs ++ (waits_for o p n ++ Exactly I.Return ∷ [])) →
      ((o1 x : ℕ) → n ≡ Some o1 → target_of p (xs ++ (waits_for o p n ++ Exactly I.Return ∷ [])) ss ≡ Some x → IsStart t code k p x) → Owes (xs ++ (waits_for o p n ++ Exactly I.Return ∷ [])) ss
  block_owes xs o p None ss q l h =
      let few : length (drop (length xs) ss) ≡ 1 = omega (arith, l, length-append xs (Exactly I.Return ∷ []), length-drop (length xs) ss) in
      owes_front xs (Exactly I.Return) [] ss q l (owes_end o p None (drop (length xs) ss) few (λ o1 x e g. absurd (none-some o1 e)))
  block_owes xs o p (Some o1) ss q l h =
      let ys : List Requirement = NextBlock (o1 - o) p ∷ Exactly I.Return ∷ [] in
      let few : length (drop (length xs) ss) ≡ 2 = omega (arith, l, length-append xs (NextBlock (o1 - o) p ∷ Exactly I.Return ∷ []), length-drop (length xs) ss) in
      let room : length xs ≤ length ss = omega (arith, l, length-append xs (NextBlock (o1 - o) p ∷ Exactly I.Return ∷ [])) in
      owes_front xs (NextBlock (o1 - o) p) (Exactly I.Return ∷ []) ss q l (owes_end o p (Some o1) (drop (length xs) ss) few (λ o2 x e g. h o2 x e (target_front p xs (NextBlock (o1 - o) p ∷ Exactly I.Return ∷ []) ss q room ∙ g)))

  always_quiet : (p : ℕ) (w : Requirement) → IsQuiet w → WantAllowed t p k w → Always w
  always_quiet p (Exactly (I.CallWrite a b)) q h = (h.1, λ z hs rs. refl)
  always_quiet p (Exactly (I.CallRead a b)) q h = (h.1, λ z hs rs. refl)
  always_quiet p (Exactly (I.Release a)) q h = (tt, λ z hs rs. refl)
  always_quiet p _ q h = absurd q

  all_quiet : (p : ℕ) (xs ys : List Requirement) → AreQuiet xs → WantsAllowed t p k (xs ++ ys) → AllAlways xs
  all_quiet p [] ys q h = tt
  all_quiet p (w ∷ ws) ys q h = (always_quiet p w q.0 h.0, all_quiet p ws ys q.1 h.1)

  -- a block of a phase
  pub block_safe : (m p o a : ℕ) → IsBlockPhase p → ModeReads t code m → m < length t.modes → mode_module t m ≡ k → block_at t code m p o ≡ Some a → IsSafe t code k a
  block_safe m p o a phase r known owner at = elim (cases_Bool (holds o (phase_offsets t m p))) [
    | inr gone ↦ absurd (none-some a (sym (no_block t code m p o gone) ∙ at))
    | inl there ↦ (
        let b = spelled_stands t code m p o phase r there in
        let e : read code.instrs b.address (block_chain t m p o) ≡ Ok b.reads.0 = b.reads.1 in
        let safe_at : IsSafe t code k b.address = chain_safe (block_chain t m p o) b.address b.reads.0 e
        (block_owes (all_do (calls t m p o)) o p (next_offset t m p (suc o)) b.reads.0 (all_quiet p (all_do (calls t m p o)) (waits_for o p (next_offset t m p (suc o)) ++ Exactly I.Return ∷ []) (calls_quiet t m p o) (block_wants t k m p o phase))
        (length_read code.instrs (block_chain t m p o) b.address b.reads.0 e)
        (λ o1 x n to. record { mode = m; known = known; owner = owner; phase = one_of phase; starts = inl (o1, no_turn phase, spelled_links t code m p o o1 b.address phase r there b.found n ∙ ap (λ z. target_of p (block_chain t m p o) (steps_of z)) e ∙ to) })) in
        subst (IsSafe t code k) (same_Some b.address a (sym b.found ∙ at)) safe_at)
  ]
    where
      one_of : IsBlockPhase p → (p ≡ 1) ⊎ ((p ≡ 2) ⊎ (p ≡ 3))
      one_of (inl one) = inl one
      one_of (inr three) = inr (inr three)

      no_turn : IsBlockPhase p → eqb p 2 ≡ false
      no_turn (inl one) = ap (λ q. eqb q 2) one
      no_turn (inr three) = ap (λ q. eqb q 2) three

  -- ---- a round's start, a mode's entry, a round's end

  begin_owes : (p d : ℕ) (w r : Option ℕ) (ss : List Step) → length ss ≡ length (waits_for 0 1 w ++ (waits_for 0 3 r ++ EndOfRound p d ∷ Exactly I.Return ∷ [])) →
      (let ws : List Requirement = waits_for 0 1 w ++ (waits_for 0 3 r ++ EndOfRound p d ∷ Exactly I.Return ∷ []) in
      ((o x : ℕ) → w ≡ Some o → target_of 1 ws ss ≡ Some x → IsStart t code k 1 x) → ((o x : ℕ) → r ≡ Some o → target_of 3 ws ss ≡ Some x → IsStart t code k 3 x) → IsStart t code k 2 (turn_step ws ss).target → Owes ws ss)
  begin_owes p d None None [] l f g h = absurd (omega (arith, l))
  begin_owes p d None None (a ∷ []) l f g h = absurd (omega (arith, l))
  begin_owes p d None None (a ∷ b ∷ []) l f g h = (h, inl refl)
  begin_owes p d None None (a ∷ b ∷ x ∷ xs) l f g h = absurd (omega (arith, l))
  begin_owes p d None (Some y) [] l f g h = absurd (omega (arith, l))
  begin_owes p d None (Some y) (a ∷ []) l f g h = absurd (omega (arith, l))
  begin_owes p d None (Some y) (a ∷ b ∷ []) l f g h = absurd (omega (arith, l))
  begin_owes p d None (Some y) (a ∷ b ∷ x ∷ []) l f g h = (g y a.target refl refl, (h, inl refl))
  begin_owes p d None (Some y) (a ∷ b ∷ x ∷ z ∷ xs) l f g h = absurd (omega (arith, l))
  begin_owes p d (Some u) None [] l f g h = absurd (omega (arith, l))
  begin_owes p d (Some u) None (a ∷ []) l f g h = absurd (omega (arith, l))
  begin_owes p d (Some u) None (a ∷ b ∷ []) l f g h = absurd (omega (arith, l))
  begin_owes p d (Some u) None (a ∷ b ∷ x ∷ []) l f g h = (f u a.target refl refl, (h, inl refl))
  begin_owes p d (Some u) None (a ∷ b ∷ x ∷ z ∷ xs) l f g h = absurd (omega (arith, l))
  begin_owes p d (Some u) (Some y) (a ∷ b ∷ x ∷ z ∷ []) l f g h = (f u a.target refl refl, (g y b.target refl refl, (h, inl refl)))
  begin_owes p d (Some u) (Some y) _ l f g h = absurd (omega (arith, l))

  pub begin_safe : (m : ℕ) → ModeReads t code m → m < length t.modes → mode_module t m ≡ k → IsSafe t code k (block_begun code m)
  begin_safe m r known owner =
      let e : read code.instrs (block_begun code m) (begin_chain t (decided code m) m) ≡ Ok r.begins.0 = r.begins.1 in
      chain_safe (begin_chain t (decided code m) m) (block_begun code m) r.begins.0 e
      (begin_owes (mode_period t m) (decided code m) (next_offset t m 1 0) (next_offset t m 3 0) r.begins.0 (length_read code.instrs (begin_chain t (decided code m) m) (block_begun code m) r.begins.0 e)
      (λ o x n to. record { mode = m; known = known; owner = owner; phase = inl refl; starts = inl (o, refl, spelled_first t code m 1 o (inl refl) r n ∙ ap (λ z. target_of 1 (begin_chain t (decided code m) m) (steps_of z)) e ∙ to) })
      (λ o x n to. record { mode = m; known = known; owner = owner; phase = inr (inr refl); starts = inl (o, refl, spelled_first t code m 3 o (inr refl) r n ∙ ap (λ z. target_of 3 (begin_chain t (decided code m) m) (steps_of z)) e ∙ to) })
      (record { mode = m; known = known; owner = owner; phase = inr (inl refl); starts = inr (inl (sym (ap (λ z. (turn_step (begin_chain t (decided code m) m) (steps_of z)).target) e))) }))

  -- the modules that a mode forks
  fork_fits : (j : ℕ) (x : Module) → AreInRange t → slice_get t.modules j ≡ Some x → IsFit t code k (I.Fork j)
  fork_fits j x r at =
      let known = mode_known t j x.start (r.modules j x at).start in (
        slice_get_within t.modules j x at,
        record { mode = x.start; known = known.0; owner = known.1; phase = inr (inl refl); starts = inr (inr (ap (λ (o : Option Module). elim o as (λ _. ℕ) [ Some y ↦ entered code y.start | None ↦ 0 ]) at)) },
      )

  forks_always : (test : Module → Bool) (n : ℕ) (xs : List Module) → ((i : ℕ) (x : Module) → slice_get xs i ≡ Some x → IsFit t code k (I.Fork (n + i))) → AllAlways (all_do (map (λ j. I.Fork j) (places_from test n xs)))
  forks_always test n [] h = tt
  forks_always test n (y ∷ ys) h = by_test (test y) (forks_always test (suc n) ys (λ i x e. moved i (h (suc i) x e)))
    where
      moved : (i : ℕ) → IsFit t code k (I.Fork (n + suc i)) → IsFit t code k (I.Fork (suc n + i))
      moved i f = let same : n + suc i ≡ suc n + i = omega arith in subst (λ z. IsFit t code k (I.Fork z)) same f

      first : IsFit t code k (I.Fork n)
      first = let zero_is : n + 0 ≡ n = omega arith in subst (λ z. IsFit t code k (I.Fork z)) zero_is (h 0 y refl)

      by_test : (b : Bool) → AllAlways (all_do (map (λ j. I.Fork j) (places_from test (suc n) ys))) → AllAlways (all_do (map (λ j. I.Fork j) (cond b (n ∷ places_from test (suc n) ys) (places_from test (suc n) ys))))
      by_test true rest = ((first, λ a hs rs. refl), rest)
      by_test false rest = rest

  anchor_owes : (x : ℕ) (ss : List Step) → length ss ≡ 1 → IsSafe t code k x → Owes (AtAnchor x ∷ []) ss
  anchor_owes x (u ∷ []) l s = inr (x, refl, s)
  anchor_owes x _ l s = absurd (omega (arith, l))

  pub enter_safe : (m : ℕ) → AreInRange t → ModeReads t code m → m < length t.modes → mode_module t m ≡ k → IsSafe t code k (entered code m)
  enter_safe m r reads known owner =
      let forks : List Requirement = all_do (map (λ j. I.Fork j) (children t m)) in
      let l : length reads.enters.0 ≡ length (enter_chain t (block_begun code m) m) = length_read code.instrs (enter_chain t (block_begun code m) m) (entered code m) reads.enters.0 reads.enters.1 in
      let few : length (drop (length (Exactly (I.Enter m) ∷ all_do (map (λ j. I.Fork j) (children t m)))) reads.enters.0) ≡ 1 =
      omega (arith, l, length-append (all_do (map (λ j. I.Fork j) (children t m))) (AtAnchor (block_begun code m) ∷ []), length-drop (length (Exactly (I.Enter m) ∷ all_do (map (λ j. I.Fork j) (children t m)))) reads.enters.0) in
      chain_safe (enter_chain t (block_begun code m) m) (entered code m) reads.enters.0 reads.enters.1
      (owes_front (Exactly (I.Enter m) ∷ all_do (map (λ j. I.Fork j) (children t m))) (AtAnchor (block_begun code m)) [] reads.enters.0
      ((tt, λ a hs rs. refl), forks_always (is_child m) 0 t.modules (λ i x e. forked i x e)) l
      (anchor_owes (block_begun code m) (drop (length (Exactly (I.Enter m) ∷ all_do (map (λ j. I.Fork j) (children t m)))) reads.enters.0) few (begin_safe m reads known owner)))
    where
      forked : (i : ℕ) (x : Module) → slice_get t.modules i ≡ Some x → IsFit t code k (I.Fork (0 + i))
      forked i x e = let same : i ≡ 0 + i = omega arith in subst (λ z. IsFit t code k (I.Fork z)) same (fork_fits i x r e)

  -- the end of a decide list: each test leads to a mode of the module
  abbrev TestsSafe : List Requirement → Type 0
  TestsSafe (SwitchJump j x anchor ∷ ws) = (j < length t.switches) × IsSafe t code k anchor × TestsSafe ws
  TestsSafe (AtAnchor b ∷ []) = IsSafe t code k b
  TestsSafe _ = ⊥

  tail_owes : (ws : List Requirement) (ss : List Step) → TestsSafe ws → length ss ≡ length ws → Owes ws ss
  tail_owes (AtAnchor b ∷ []) ss h l = anchor_owes b ss l h
  tail_owes (SwitchJump j x anchor ∷ []) ss h l = absurd h.2
  tail_owes (SwitchJump j x anchor ∷ v ∷ ws) [] h l = absurd (omega (arith, l))
  tail_owes (SwitchJump j x anchor ∷ v ∷ ws) (s ∷ ss) h l = ((h.0, h.1), tail_owes (v ∷ ws) ss h.2 (omega (arith, l)))
  tail_owes _ ss h l = absurd h

  tests_safe : (m n : ℕ) (ws : List Switch) → n + length ws ≡ length t.switches → IsSafe t code k (block_begun code m) → ((i : ℕ) (w : Switch) → slice_get ws i ≡ Some w → eqb w.mode m ≡ true → IsSafe t code k (branch_target (block_begun code m) code.enter m w.target)) →
      TestsSafe (tests_from code m n ws ++ AtAnchor (block_begun code m) ∷ [])
  tests_safe m n [] len s h = s
  tests_safe m n (w ∷ ws) len s h = by_test (eqb w.mode m) refl (tests_safe m (suc n) ws (omega (arith, len)) s (λ i x e. h (suc i) x e))
    where
      by_test : (b : Bool) → eqb w.mode m ≡ b → TestsSafe (tests_from code m (suc n) ws ++ AtAnchor (block_begun code m) ∷ []) →
          TestsSafe ((cond b (SwitchJump n w.target (branch_target (block_begun code m) code.enter m w.target) ∷ []) [] ++ tests_from code m (suc n) ws) ++ AtAnchor (block_begun code m) ∷ [])
      by_test true is rest = (omega (arith, len), h 0 w refl is, rest)
      by_test false is rest = rest

  pub turn_safe : (m : ℕ) → AreInRange t → ((x : ℕ) → x < length t.modes → ModeReads t code x) → m < length t.modes → mode_module t m ≡ k → IsSafe t code k (round_end t code m)
  turn_safe m r reads known owner =
      jumps_safe (round_end t code m) (decided code m) (step_from t code m).side (turn_jumps t code m (reads m known))
      (chain_safe (decide_chain t (block_begun code m) code.enter m) (decided code m) (reads m known).decides.0 (reads m known).decides.1
      (by_parent (parent_of t (mode_module t m)) (reads m known).decides.0 (length_read code.instrs (decide_chain t (block_begun code m) code.enter m) (decided code m) (reads m known).decides.0 (reads m known).decides.1)))
    where
      branch_safe : (b : Bool) (x : ℕ) → (x < length t.modes) × (mode_module t x ≡ k) → IsSafe t code k (cond b (block_begun code m) (entered code x))
      branch_safe true x h = begin_safe m (reads m known) known owner
      branch_safe false x h = enter_safe x r (reads x h.0) h.0 h.1

      of_switch : (i : ℕ) (w : Switch) → slice_get t.switches i ≡ Some w → eqb w.mode m ≡ true → IsSafe t code k (branch_target (block_begun code m) code.enter m w.target)
      of_switch i w e same =
          let mode : w.mode ≡ m = eqb-true w.mode m same in
          branch_safe (eqb w.target m) w.target (mode_known t k w.target (subst (λ z. IsModeThat t (λ owner. owner ≡ z) w.target) (ap (mode_module t) mode ∙ owner) (each_at (IsSwitchInRange t) t.switches r.switches i w e).target))

      tests : TestsSafe (tests_of t (block_begun code m) code.enter m ++ AtAnchor (block_begun code m) ∷ [])
      tests = tests_safe m 0 t.switches (omega arith) (begin_safe m (reads m known) known owner) of_switch

      by_parent : (o : Option ℕ) (ss : List Step) → length ss ≡ length (asks_for o ++ (tests_of t (block_begun code m) code.enter m ++ AtAnchor (block_begun code m) ∷ [])) → Owes (asks_for o ++ (tests_of t (block_begun code m) code.enter m ++ AtAnchor (block_begun code m) ∷ [])) ss
      by_parent None ss l = tail_owes (tests_of t (block_begun code m) code.enter m ++ AtAnchor (block_begun code m) ∷ []) ss tests l
      by_parent (Some q) [] l = absurd (omega (arith, l))
      by_parent (Some q) (s ∷ ss) l = asked q s (tests_of t (block_begun code m) code.enter m ++ AtAnchor (block_begun code m) ∷ []) ss tests (omega (arith, l))
        where
          asked : (q : ℕ) (s : Step) (ws : List Requirement) (ss : List Step) → TestsSafe ws → length ss ≡ length ws → Owes (ModeJump q ∷ ws) (s ∷ ss)
          asked q s [] ss h l = absurd h
          asked q s (w ∷ ws) ss h l = (tt, tail_owes (w ∷ ws) ss h l)

  -- each block is safe from its start
  pub start_safe : (p a : ℕ) → AreInRange t → ((x : ℕ) → x < length t.modes → ModeReads t code x) → IsStart t code k p a → IsSafe t code k a
  start_safe p a r reads s = by_start s.starts s.phase
    where
      by_start : StartsIn t code s.mode p a → (p ≡ 1) ⊎ ((p ≡ 2) ⊎ (p ≡ 3)) → IsSafe t code k a
      by_start (inr (inl e)) phase = subst (IsSafe t code k) (sym e) (turn_safe s.mode r reads s.known s.owner)
      by_start (inr (inr e)) phase = subst (IsSafe t code k) (sym e) (enter_safe s.mode r (reads s.mode s.known) s.known s.owner)
      by_start (inl o) (inl one) = block_safe s.mode p o.0 a (inl one) (reads s.mode s.known) s.known s.owner o.2
      by_start (inl o) (inr (inl two)) = absurd (true_not_false (eqb p 2) (eq-eqb p 2 two) o.1)
      by_start (inl o) (inr (inr three)) = block_safe s.mode p o.0 a (inr three) (reads s.mode s.known) s.known s.owner o.2
