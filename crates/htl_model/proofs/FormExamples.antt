-- Tables that break the rules on refinement, each with its numbers, and ones that just keep them.
use Rattle.std.proofs.Common.{◌≡◌, ◌≢◌, ◌<◌, ◌⊎◌, ℕ, zero, suc, true, false, List, [], ◌∷◌, Option, Some, None, refl, sym, ap, ◌∙◌, subst, inl, inr, arith, codes}
use Rattle.htl_model.proofs.Words.{Inv, Module, End, IntTy, Leads, direct, through, feeds, Precedes, Tables, mode_module, AbstractPlaces, Parents, SharedParents, Inheritance, Itself, Input, Site, IsRefined, IsAbstractIn, AsksMore, SharesParent, SecondChild, Broken, none-some, pos, slice_get}
use Rattle.htl_model.specs.declared.parts.End.TheVariants as E
use Rattle.htl_model.proofs.Sources.{plain, mode, module_named, task, call, int_one}

-- mode m holds an abstract invocation, whose window is 5 to 10 and whose worst case is 4; the mode n of a module with this parent
-- holds the given invocations of a task with the worst case w
abbrev below : Option ℕ → ℕ → List Inv → Tables
below parent w invs =
    record {
      comms = plain (codes "x") 5 (pos 0) ∷ plain (codes "y") 2 (pos 0) ∷ [];
      modes = mode (codes "m") 0 10 ∷ mode (codes "n") 1 10 ∷ [];
      modules = module_named (codes "M") None 0 ∷ module_named (codes "N") parent 1 ∷ [];
      ports = [];
      tasks = task (codes "plan") 0 true 4 int_one ∷ task (codes "f") 1 false w int_one ∷ [];
      invs = call 0 0 None (E.Comm 0 1 ∷ []) (E.Comm 0 2 ∷ []) ∷ invs;
      switches = [];
      functions = [];
    }

abbrev child : Option ℕ → End → End → Inv
child parent read write = call 1 1 parent (read ∷ []) (write ∷ [])

abbrev fit : Inv
fit = child (Some 0) (E.Comm 0 1) (E.Comm 0 2)

abbrev other_fit : Inv
other_fit = call 2 1 (Some 0) (E.Comm 0 1 ∷ []) (E.Comm 0 2 ∷ [])

-- the abstract invocation
abbrev plan : Inv
plan = call 0 0 None (E.Comm 0 1 ∷ []) (E.Comm 0 2 ∷ [])

abbrev reader : Inv
reader = call 1 3 (Some 1) (E.Port 1 ∷ []) (E.Comm 0 2 ∷ [])

-- an invocation as a site
abbrev at : ℕ → ℕ → Site
at m k = record { mode = m; inv = Some k; part = Itself }

-- ---- rule 13

no_parent : (k m : ℕ) (u : Module) → slice_get (below None 1 []).modules k ≡ Some u → u.parent ≡ Some m → ⊥
no_parent zero m u e p = (let same : module_named (codes "M") None 0 ≡ u = cc in cc)
no_parent (suc zero) m u e p = (let same : module_named (codes "N") None 1 ≡ u = cc in cc)
no_parent (suc (suc k)) m u e p = none-some u e

-- nothing refines mode m
unrefined : Broken (below None 1 []) AbstractPlaces (at 0 0) 0 1
unrefined = (mode (codes "m") 0 10, refl, (plan, refl, refl, (refl, refl, refl, λ r. no_parent r.number 0 r.module r.at r.refines)))

-- the module N refines it
refined : IsRefined (below (Some 0) 1 []) 0
refined = record { number = 1; «module» = module_named (codes "N") (Some 0) 1; at = refl; refines = refl }

-- ---- rule 14

without_parent : Broken (below (Some 0) 1 (child None (E.Comm 0 1) (E.Comm 0 2) ∷ [])) Parents (at 1 1) 0 1
without_parent = (mode (codes "n") 1 10, refl, (child None (E.Comm 0 1) (E.Comm 0 2), refl, refl, (refl, refl)))

-- a root invocation with a parent
parent_in_a_root : Broken (below None 1 (fit ∷ [])) Parents (at 1 1) 2 0
parent_in_a_root = (mode (codes "n") 1 10, refl, (fit, refl, refl, (refl, refl)))

-- its parent is itself, a concrete invocation of its own mode
own_parent : Broken (below (Some 0) 1 (child (Some 1) (E.Comm 0 1) (E.Comm 0 2) ∷ [])) Parents (at 1 1) 2 1
own_parent =
    let i = child (Some 1) (E.Comm 0 1) (E.Comm 0 2) in
    (mode (codes "n") 1 10, refl, (i, refl, refl, (refl, (refl, λ p. (let same : i ≡ p.parent = (let e : Some i ≡ Some p.parent = p.at in cc) in let m : 1 ≡ 0 = ap_mode i p.parent same p.mode in absurd (omega (arith, m)))))))
  where
    ap_mode : (a b : Inv) → a ≡ b → b.mode ≡ 0 → a.mode ≡ 0
    ap_mode a b e m = cc

right_parent : IsAbstractIn (below (Some 0) 1 (fit ∷ [])) 0 0
right_parent = record { parent = plan; at = refl; abstract = refl; mode = refl }

-- ---- rule 15: two children in one mode

no_child_before : (l : ℕ) → l < 1 → SharesParent (below (Some 0) 1 (fit ∷ fit ∷ [])) 2 fit 0 l → ⊥
no_child_before zero less s = (let e : Some plan ≡ Some s.other = s.at in let p = s.parent in cc)
no_child_before (suc l) less s = absurd (omega arith)

two_children : Broken (below (Some 0) 1 (fit ∷ fit ∷ [])) SharedParents (at 1 2) 1 0
two_children =
    (mode (codes "n") 1 10, refl, (fit, refl, refl, record { parent = refl; shares = record { earlier = omega arith; other = fit; at = refl; parent = refl; clash = inr refl }; least = no_child_before }))

-- two modules refine mode m, and a child in each has the one parent
abbrev two_refinements : Tables
two_refinements =
    record (below (Some 0) 1 []) {
      modes = mode (codes "m") 0 10 ∷ mode (codes "n") 1 10 ∷ mode (codes "o") 2 10 ∷ [];
      modules = module_named (codes "M") None 0 ∷ module_named (codes "N") (Some 0) 1 ∷ module_named (codes "O") (Some 0) 2 ∷ [];
      tasks = task (codes "plan") 0 true 4 int_one ∷ task (codes "f") 1 false 1 int_one ∷ task (codes "g") 2 false 1 int_one ∷ [];
      invs = plan ∷ fit ∷ call 2 2 (Some 0) (E.Comm 0 1 ∷ []) (E.Comm 0 2 ∷ []) ∷ [];
    }

-- the other module's child comes before this one, and the parent's own invocation isn't a child
no_earlier_child : (l : ℕ) → l < 1 → SharesParent two_refinements 2 (call 2 2 (Some 0) (E.Comm 0 1 ∷ []) (E.Comm 0 2 ∷ [])) 0 l → ⊥
no_earlier_child zero less s = (let e : Some plan ≡ Some s.other = s.at in let p = s.parent in cc)
no_earlier_child (suc l) less s = absurd (omega arith)

child_in_each : Broken two_refinements SharedParents (at 2 2) 1 0
child_in_each =
    let i = call 2 2 (Some 0) (E.Comm 0 1 ∷ []) (E.Comm 0 2 ∷ []) in
    (mode (codes "o") 2 10, refl, (i, refl, refl, record { parent = refl; shares = record { earlier = omega arith; other = fit; at = refl; parent = refl; clash = inl (λ e. absurd (omega (arith, e))) }; least = no_earlier_child }))

-- two modes of one module, and a child of the one parent in each: only one of them runs
abbrev child_in_two_modes : Tables
child_in_two_modes =
    record (below (Some 0) 1 []) {
      modes = mode (codes "m") 0 10 ∷ mode (codes "n") 1 10 ∷ mode (codes "o") 1 10 ∷ [];
      invs = plan ∷ fit ∷ other_fit ∷ [];
    }

no_clash : (l : ℕ) → SharesParent child_in_two_modes 2 other_fit 0 l → ⊥
no_clash zero s = (let e : Some plan ≡ Some s.other = s.at in let p = s.parent in cc)
no_clash (suc zero) s = by s.other (let e : Some fit ≡ Some s.other = s.at in let same : fit ≡ s.other = cc in sym same) s.clash
  where
    by : (x : Inv) → x ≡ fit → (mode_module child_in_two_modes x.mode ≢ 1) ⊎ (x.mode ≡ 2) → ⊥
    by x e (inl differ) = differ (ap (λ (y : Inv). mode_module child_in_two_modes y.mode) e)
    by x e (inr one) = (let m : x.mode ≡ 1 = ap (λ (y : Inv). y.mode) e in absurd (omega (arith, m, one)))
no_clash (suc (suc l)) s = (let less = s.earlier in absurd (omega arith))

both_allowed : (have need : ℕ) → SecondChild child_in_two_modes 2 other_fit have need → ⊥
both_allowed have need s = by need (let e : Some 0 ≡ Some need = s.parent in let z : 0 ≡ need = cc in z) s.shares
  where
    by : (p : ℕ) → 0 ≡ p → SharesParent child_in_two_modes 2 other_fit p have → ⊥
    by p e h = no_clash have (subst (λ (q : ℕ). SharesParent child_in_two_modes 2 other_fit q have) (sym e) h)

-- ---- rule 16

released_later : Broken (below (Some 0) 1 (child (Some 0) (E.Comm 1 3) (E.Comm 0 2) ∷ [])) Inheritance (at 1 1) 6 5
released_later =
    (mode (codes "n") 1 10, refl, (child (Some 0) (E.Comm 1 3) (E.Comm 0 2), refl, refl, (0, refl, plan, refl, inl (refl, refl, omega arith))))

-- a fault of the release is told before one of the end, which is told before one of the worst case
ends_earlier : Broken (below (Some 0) 5 (child (Some 0) (E.Comm 0 1) (E.Comm 1 4) ∷ [])) Inheritance (at 1 1) 8 10
ends_earlier =
    (mode (codes "n") 1 10, refl, (child (Some 0) (E.Comm 0 1) (E.Comm 1 4), refl, refl, (0, refl, plan, refl, inr (inl (omega arith, refl, refl, omega arith)))))

runs_longer : Broken (below (Some 0) 5 (fit ∷ [])) Inheritance (at 1 1) 5 4
runs_longer =
    (mode (codes "n") 1 10, refl, (fit, refl, refl, (0, refl, plan, refl, inr (inr (omega arith, omega arith, refl, refl, omega arith)))))

-- the same window and the same worst case
asks_no_more : (have need : ℕ) → AsksMore (below (Some 0) 4 (fit ∷ [])) fit plan have need → ⊥
asks_no_more have need (inl p) = absurd (omega (arith, p.0, p.1, p.2))
asks_no_more have need (inr (inl p)) = absurd (omega (arith, p.1, p.2, p.3))
asks_no_more have need (inr (inr p)) = absurd (omega (arith, p.2, p.3, p.4))

-- two abstract invocations of mode m, of which the second reads the given end, and their children, of which the second reads a port
-- that the first writes
abbrev in_order : End → Tables
in_order read =
    record (below (Some 0) 1 []) {
      ports = record { name = codes "q"; mode = 0; ty = IntTy } ∷ record { name = codes "p"; mode = 1; ty = IntTy } ∷ [];
      tasks = task (codes "plan") 0 true 4 int_one ∷ task (codes "act") 0 true 4 int_one ∷ task (codes "f") 1 false 1 int_one ∷ task (codes "g") 1 false 1 int_one ∷ [];
      invs = call 0 0 None (E.Comm 0 1 ∷ []) (E.Port 0 ∷ []) ∷ call 0 1 None (read ∷ []) (E.Comm 0 2 ∷ []) ∷ call 1 2 (Some 0) (E.Comm 0 1 ∷ []) (E.Port 1 ∷ []) ∷ reader ∷ [];
    }

-- the parents stand in no order
no_step : (a : ℕ) → feeds (in_order (E.Comm 0 1)) a 1 ≡ true → ⊥
no_step zero e = cc
no_step (suc zero) e = cc
no_step (suc (suc zero)) e = cc
no_step (suc (suc (suc zero))) e = cc
no_step (suc (suc (suc (suc a)))) e = cc

leads_nowhere : (a b : ℕ) → b ≡ 1 → Leads (feeds (in_order (E.Comm 0 1))) a b → ⊥
leads_nowhere a b is (direct _ _ e) = no_step a (ap (feeds (in_order (E.Comm 0 1)) a) (sym is) ∙ e)
leads_nowhere a b is (through _ c _ p q) = leads_nowhere c b is q

unordered_parents : Broken (in_order (E.Comm 0 1)) Inheritance (record { mode = 1; inv = Some 3; part = Input 0 }) 0 1
unordered_parents =
    (mode (codes "n") 1 10, refl, (reader, refl, refl, (E.Port 1, refl, (refl, record { number = 2; writer = call 1 2 (Some 0) (E.Comm 0 1 ∷ []) (E.Port 1 ∷ []); at = refl; place = 0; writes = refl; parent = refl }, leads_nowhere 0 1 refl))))

-- the second parent reads a port that the first writes: they stand in the order of their children
ordered_parents : Precedes (in_order (E.Port 0)) 0 1
ordered_parents = direct 0 1 refl
