-- A block that is read without departure is what the machine does.
use Rattle.std.proofs.Common.{◌≡◌, ℕ, suc, Bool, true, false, cond, List, [], ◌∷◌, ◌++◌, slice_get, Some, Result, Ok, refl, sym, ap, ◌∙◌, subst, append_assoc, append-nil}
use Rattle.htl_emach.proofs.Words.{EInstr, EFault, Requirement, Exactly, SwitchJump, ModeJump, AtAnchor, Step, Reached, read, passed_by, Jumps, IsReached, IsInstr, reach_is, anchor_is, read_is, goes, Leads, Ends}
use Rattle.htl_ecode.specs.declared.instr.EInstr.TheVariants as I

module _ (code : List EInstr) (holds runs : ℕ → Bool) where
  pub leads_on : (a b c : ℕ) (xs ys : List ℕ) → Leads code (goes holds runs) a xs b → Leads code (goes holds runs) b ys c → Leads code (goes holds runs) a (xs ++ ys) c
  leads_on a b c [] ys p q = subst (λ z. Leads code (goes holds runs) z ys c) (sym p) q
  leads_on a b c (x ∷ xs) ys p q = (p.0, (p.1.0, p.1.1, (p.1.2.0, p.1.2.1, leads_on p.1.2.0 b c xs ys p.1.2.2 q)))

  pub jumps_lead : (a b : ℕ) (xs : List ℕ) → Jumps code a xs b → Leads code (goes holds runs) a xs b
  jumps_lead a b [] p = p
  jumps_lead a b (x ∷ xs) p = (p.0, (I.Jump p.1.0, p.1.1, (p.1.0, refl, jumps_lead p.1.0 b xs p.1.2)))

  -- one instruction more
  pub then_at : (a b c : ℕ) (xs : List ℕ) (i : EInstr) → Jumps code a xs b → slice_get code b ≡ Some i → goes holds runs b i ≡ Some c → Leads code (goes holds runs) a (xs ++ b ∷ []) c
  then_at a b c xs i js at go = leads_on a b c xs (b ∷ []) (jumps_lead a b xs js) (refl, (i, at, (c, go, refl)))

  abbrev pub GoesOn : Requirement → Type 0
  GoesOn (Exactly j) = (a : ℕ) → goes holds runs a j ≡ Some (suc a)
  GoesOn (SwitchJump k m x) = holds k ≡ false
  GoesOn (ModeJump q) = runs q ≡ true
  GoesOn (AtAnchor x) = ⊥
  GoesOn _ = Unit {0}

  -- from one required instruction to the next
  pub reached_leads : (a : ℕ) (w : Requirement) (y : Reached) → GoesOn w → IsReached code a w y → Leads code (goes holds runs) a y.step.passed y.next
  reached_leads a (Exactly j) y on r =
      let go : goes holds runs r.place r.instr ≡ Some y.next = ap (goes holds runs r.place) r.meets.0 ∙ on r.place ∙ ap (λ z. Some z) (sym r.meets.1) in
      subst (λ xs. Leads code (goes holds runs) a xs y.next) (sym r.passed) (then_at a r.place y.next r.jumps r.instr r.leads r.stands go)
  reached_leads a (SwitchJump k m x) y on r =
      let go : goes holds runs r.place r.instr ≡ Some y.next = ap (goes holds runs r.place) r.meets.0 ∙ ap (λ b. Some (cond b y.step.target (suc r.place))) on ∙ ap (λ z. Some z) (sym r.meets.1) in
      subst (λ xs. Leads code (goes holds runs) a xs y.next) (sym r.passed) (then_at a r.place y.next r.jumps r.instr r.leads r.stands go)
  reached_leads a (ModeJump q) y on r =
      let go : goes holds runs r.place r.instr ≡ Some y.next = ap (goes holds runs r.place) r.meets.0 ∙ ap (λ b. Some (cond b y.step.target (suc r.place))) on ∙ ap (λ z. Some z) (sym r.meets.1) in
      subst (λ xs. Leads code (goes holds runs) a xs y.next) (sym r.passed) (then_at a r.place y.next r.jumps r.instr r.leads r.stands go)
  reached_leads a (AtAnchor x) y on r = absurd on
  reached_leads a _ y on r =
      let go : goes holds runs r.place r.instr ≡ Some y.next = ap (goes holds runs r.place) r.meets.0 ∙ ap (λ z. Some z) (sym r.meets.1) in
      subst (λ xs. Leads code (goes holds runs) a xs y.next) (sym r.passed) (then_at a r.place y.next r.jumps r.instr r.leads r.stands go)

  -- a switch that holds leads on to the anchor
  pub test_leads : (a k m x : ℕ) (y : Reached) → holds k ≡ true → IsReached code a (SwitchJump k m x) y → Leads code (goes holds runs) a (y.step.passed ++ y.step.side) x
  test_leads a k m x y on r =
      let go : goes holds runs r.place r.instr ≡ Some y.step.target = ap (goes holds runs r.place) r.meets.0 ∙ ap (λ b. Some (cond b y.step.target (suc r.place))) on in
      let one : Leads code (goes holds runs) a y.step.passed y.step.target =
      subst (λ xs. Leads code (goes holds runs) a xs y.step.target) (sym r.passed) (then_at a r.place y.step.target r.jumps r.instr r.leads r.stands go) in
      leads_on a y.step.target x y.step.passed y.step.side one (jumps_lead y.step.target x y.step.side r.meets.2)

  -- a block: what goes on, and a return at the end
  abbrev pub IsBlock : List Requirement → Type 0
  IsBlock [] = ⊥
  IsBlock (w ∷ []) = w ≡ Exactly I.Return
  IsBlock (w ∷ v ∷ ws) = GoesOn w × IsBlock (v ∷ ws)

  pub is_instr : (w : Requirement) → GoesOn w → IsInstr w
  is_instr (AtAnchor x) on = absurd on
  is_instr _ on = tt

  pub ends_on : (a b : ℕ) (xs ys : List ℕ) → Leads code (goes holds runs) a xs b → Ends code (goes holds runs) b ys → Ends code (goes holds runs) a (xs ++ ys)
  ends_on a b xs ys p q =
      (xs ++ q.0, q.1, q.2, ap (λ zs. xs ++ zs) q.3 ∙ sym (append_assoc xs q.0 (q.1 ∷ [])), leads_on a b q.1 xs q.0 p q.4, q.5, q.6)

  return_ends : (a : ℕ) (y : Reached) → IsReached code a (Exactly I.Return) y → Ends code (goes holds runs) a y.step.passed
  return_ends a y r =
      (r.jumps, r.place, r.instr, r.passed, jumps_lead a r.place r.jumps r.leads, r.stands, ap (goes holds runs r.place) r.meets.0)

  -- the machine passes the addresses of a block that is read, and ends there
  pub block_ends : (ws : List Requirement) (a : ℕ) (ss : List Step) → IsBlock ws → read code a ws ≡ Ok ss → Ends code (goes holds runs) a (passed_by ss)
  block_ends [] a ss on e = absurd on
  block_ends (w ∷ []) a ss on e =
      let e' : read code a (Exactly I.Return ∷ []) ≡ Ok ss = subst (λ v. read code a (v ∷ []) ≡ Ok ss) on e in
      let r = read_is code a (Exactly I.Return) [] ss e' in
      let none : [] ≡ r.rest = (let h : ◌≡◌ {A = Result (List Step) EFault} (Ok []) (Ok r.rest) = r.then in cc) in
      let all : ss ≡ r.first.step ∷ [] = r.is ∙ ap (λ zs. r.first.step ∷ zs) (sym none) in
      let ends : Ends code (goes holds runs) a r.first.step.passed = return_ends a r.first (reach_is code a (Exactly I.Return) r.first tt r.reaches) in
      subst (λ zs. Ends code (goes holds runs) a (passed_by zs)) (sym all) (subst (λ zs. Ends code (goes holds runs) a zs) (sym (append-nil r.first.step.passed)) ends)
  block_ends (w ∷ v ∷ ws) a ss on e =
      let r = read_is code a w (v ∷ ws) ss e in
      let one : Leads code (goes holds runs) a r.first.step.passed r.first.next = reached_leads a w r.first on.0 (reach_is code a w r.first (is_instr w on.0) r.reaches) in
      let rest : Ends code (goes holds runs) r.first.next (passed_by r.rest) = block_ends (v ∷ ws) r.first.next r.rest on.1 r.then in
      subst (λ zs. Ends code (goes holds runs) a (passed_by zs)) (sym r.is) (ends_on a r.first.next r.first.step.passed (passed_by r.rest) one rest)

  abbrev pub AllGoOn : List Requirement → Type 0
  AllGoOn [] = Unit {0}
  AllGoOn (w ∷ ws) = GoesOn w × AllGoOn ws

  -- a chain that ends at an anchor leads there
  pub chain_leads : (ws : List Requirement) (a x : ℕ) (ss : List Step) → AllGoOn ws → read code a (ws ++ AtAnchor x ∷ []) ≡ Ok ss → Leads code (goes holds runs) a (passed_by ss) x
  chain_leads [] a x ss on e =
      let r = read_is code a (AtAnchor x) [] ss e in
      let none : [] ≡ r.rest = (let h : ◌≡◌ {A = Result (List Step) EFault} (Ok []) (Ok r.rest) = r.then in cc) in
      let all : ss ≡ r.first.step ∷ [] = r.is ∙ ap (λ zs. r.first.step ∷ zs) (sym none) in
      let leads : Leads code (goes holds runs) a r.first.step.passed x = jumps_lead a x r.first.step.passed (anchor_is code a x r.first r.reaches).0 in
      subst (λ zs. Leads code (goes holds runs) a (passed_by zs) x) (sym all) (subst (λ zs. Leads code (goes holds runs) a zs x) (sym (append-nil r.first.step.passed)) leads)
  chain_leads (w ∷ ws) a x ss on e =
      let r = read_is code a w (ws ++ AtAnchor x ∷ []) ss e in
      let one : Leads code (goes holds runs) a r.first.step.passed r.first.next = reached_leads a w r.first on.0 (reach_is code a w r.first (is_instr w on.0) r.reaches) in
      let rest : Leads code (goes holds runs) r.first.next (passed_by r.rest) x = chain_leads ws r.first.next x r.rest on.1 r.then in
      subst (λ zs. Leads code (goes holds runs) a (passed_by zs) x) (sym r.is) (leads_on a r.first.next x r.first.step.passed (passed_by r.rest) one rest)
