-- Tables have one first fault of the rules 1 to 12 at most.
use Rattle.std.proofs.Common.{◌≡◌, ℕ, ◌≤◌, ◌<◌, ◌⊎◌, inl, inr, Option, Some, None, refl, sym, ◌∙◌, ap, subst, arith}
use Rattle.htl_form.proofs.Words.{slice_get, FormFault, End, Inv, Mode, Tables, mode_module, AreInRange, FormRule, number_of, Part, Itself, Input, Output, Test, Site, PartBefore, InvBefore, SiteBefore, ComesBefore, Breach, breach, PartBreaks, ModeBreaks, BreaksAt, Broken, site_of, IsFirstBroken, Found, law_of, all_rules, Tests, tests, Rule, cases_less_same}
use Rattle.htl_form.proofs.{Finding.Finds, Judging.Judges, Judging.judges, RuleOrder.place_of}

-- ---- of two places one is before the other, or they are one

-- the middle of three cases may say what follows from it
in_middle : (L S T M : Type 0) → (S → T) → L ⊎ S ⊎ M → L ⊎ T ⊎ M
in_middle L S T M f h = elim h [ inl before ↦ inl before | inr (inl same) ↦ inr (inl (f same)) | inr (inr after) ↦ inr (inr after) ]

-- a number decides, and where it is the same, what comes second
by_number : (k l : ℕ) (L S M : Type 0) → L ⊎ S ⊎ M → ((k < l) ⊎ ((k ≡ l) × L)) ⊎ ((k ≡ l) × S) ⊎ ((l < k) ⊎ ((l ≡ k) × M))
by_number k l L S M second =
    elim (cases_less_same k l) [
      | inl less ↦ inl (inl less)
      | inr (inl same) ↦ elim second [ inl before ↦ inl (inr (same, before)) | inr (inl is) ↦ inr (inl (same, is)) | inr (inr after) ↦ inr (inr (inr (sym same, after))) ]
      | inr (inr more) ↦ inr (inr (inl more))
    ]

part_order : (p q : Part) → PartBefore p q ⊎ (p ≡ q) ⊎ PartBefore q p
part_order Itself Itself = inr (inl refl)
part_order (Input i) Itself = inr (inr tt)
part_order (Input i) (Input j) = elim (cases_less_same i j) [ inl less ↦ inl less | inr (inl same) ↦ inr (inl (ap Input same)) | inr (inr more) ↦ inr (inr more) ]
part_order (Output i) Itself = inr (inr tt)
part_order (Output i) (Input j) = inr (inr tt)
part_order (Output i) (Output j) = elim (cases_less_same i j) [ inl less ↦ inl less | inr (inl same) ↦ inr (inl (ap Output same)) | inr (inr more) ↦ inr (inr more) ]
part_order (Test k i) Itself = inr (inr tt)
part_order (Test k i) (Input j) = inr (inr tt)
part_order (Test k i) (Output j) = inr (inr tt)
part_order (Test k i) (Test l j) =
    in_middle _ _ _ _ (λ (is : (k ≡ l) × (i ≡ j)). ap (λ n. Test n i) is.0 ∙ ap (Test l) is.1) (by_number k l (i < j) (i ≡ j) (j < i) (cases_less_same i j))
part_order _ _ = inl tt

inv_order : (k l : Option ℕ) (p q : Part) → InvBefore k p l q ⊎ ((k ≡ l) × (p ≡ q)) ⊎ InvBefore l q k p
inv_order None None p q = elim (part_order p q) [ inl less ↦ inl less | inr (inl same) ↦ inr (inl (refl, same)) | inr (inr more) ↦ inr (inr more) ]
inv_order None (Some l) p q = inr (inr tt)
inv_order (Some k) None p q = inl tt
inv_order (Some k) (Some l) p q =
    in_middle _ _ _ _ (λ (is : (k ≡ l) × (p ≡ q)). (ap (λ (n : ℕ). Some n) is.0, is.1)) (by_number k l (PartBefore p q) (p ≡ q) (PartBefore q p) (part_order p q))

-- the same mode, invocation and part
pub record SameSite (a b : Site) : Type 0 where
  pub mode : a.mode ≡ b.mode
  pub inv : a.inv ≡ b.inv
  pub part : a.part ≡ b.part

site_order : (a b : Site) → SiteBefore a b ⊎ SameSite a b ⊎ SiteBefore b a
site_order a b =
    in_middle _ _ _ _ (λ (is : (a.mode ≡ b.mode) × ((a.inv ≡ b.inv) × (a.part ≡ b.part))). record { mode = is.0; inv = is.1.0; part = is.1.1 })
    (by_number a.mode b.mode (InvBefore a.inv a.part b.inv b.part) _ (InvBefore b.inv b.part a.inv a.part) (inv_order a.inv b.inv a.part b.part))

-- two rules and places: one comes before the other, or they are the same
pub order : (r q : FormRule) (a b : Site) → ComesBefore r a q b ⊎ ((number_of r ≡ number_of q) × SameSite a b) ⊎ ComesBefore q b r a
order r q a b = by_number (number_of r) (number_of q) (SiteBefore a b) (SameSite a b) (SiteBefore b a) (site_order a b)

-- ---- at one place the two numbers are one

one_found : (o : Found) (P : ℕ → ℕ → Type 0) → Finds o P → (h n a c : ℕ) → P h n → P a c → (h ≡ a) × (n ≡ c)
one_found o P f h n a c p q =
    let both : ◌≡◌ {A = Found} (Some (h, n)) (Some (a, c)) = sym (f.finds h n p) ∙ f.finds a c q in
    let pair : (h, n) ≡ (a, c) = cc in
    (ap (λ (x : ℕ × ℕ). x.0) pair, ap (λ (x : ℕ × ℕ). x.1) pair)

one_part : (t : Tables) (f : Tests) (b : Breach) → Judges t f b → (k : ℕ) (i : Inv) → slice_get t.invs k ≡ Some i
    → (p : Part) (h n a c : ℕ) → PartBreaks b k i p h n → PartBreaks b k i p a c → (h ≡ a) × (n ≡ c)
one_part t f b judge k i at Itself h n a c x y = one_found (f.inv k i) (b.inv k i) (judge.inv k i at) h n a c x y
one_part t f b judge k i at (Input j) h n a c x y =
    let both : ◌≡◌ {A = Option End} (Some y.0) (Some x.0) = sym y.1 ∙ x.1 in
    let same : y.0 ≡ x.0 = cc in
    one_found (f.input k i j x.0) (b.input k i j x.0) (judge.input k i j x.0 at x.1) h n a c x.2 (subst (λ (e : End). b.input k i j e a c) same y.2)
one_part t f b judge k i at (Output j) h n a c x y =
    let both : ◌≡◌ {A = Option End} (Some y.0) (Some x.0) = sym y.1 ∙ x.1 in
    let same : y.0 ≡ x.0 = cc in
    one_found (f.output k i j x.0) (b.output k i j x.0) (judge.output k i j x.0 at x.1) h n a c x.2 (subst (λ (e : End). b.output k i j e a c) same y.2)
one_part t f b judge k i at (Test l j) h n a c x y = absurd x

one_of_mode : (t : Tables) (f : Tests) (b : Breach) → Judges t f b → (m : ℕ) (x : Mode) → slice_get t.modes m ≡ Some x
    → (p : Part) (h n a c : ℕ) → ModeBreaks t b m x p h n → ModeBreaks t b m x p a c → (h ≡ a) × (n ≡ c)
one_of_mode t f b judge m x at Itself h n a c y z = one_found (f.mode m x) (b.mode m x) (judge.mode m x at) h n a c y z
one_of_mode t f b judge m x at (Test l j) h n a c y z =
    let one = y.1 in let other = z.1 in
    let switch : z.0 ≡ y.0 = cc in
    let reads = y.4 in let others = z.4 in
    let same : z.3 ≡ y.3 = cc in
    one_found (f.test m y.3) (b.test m y.3) (judge.test m y.3) h n a c y.5 (subst (λ (d : ℕ). b.test m d a c) same z.5)
one_of_mode t f b judge m x at _ h n a c y z = absurd y

pub one_at : (t : Tables) (f : Tests) (b : Breach) → Judges t f b → (m : ℕ) (x : Mode) → slice_get t.modes m ≡ Some x
    → (k : Option ℕ) (p : Part) (h n a c : ℕ) → BreaksAt t b m x k p h n → BreaksAt t b m x k p a c → (h ≡ a) × (n ≡ c)
one_at t f b judge m x at None p h n a c y z = one_of_mode t f b judge m x at p h n a c y z
one_at t f b judge m x at (Some k) p h n a c y z =
    let both : ◌≡◌ {A = Option Inv} (Some z.0) (Some y.0) = sym z.1 ∙ y.1 in
    let same : z.0 ≡ y.0 = cc in
    one_part t f b judge k y.0 y.1 p h n a c y.3 (subst (λ (i : Inv). PartBreaks b k i p a c) same z.3)

one_broken : (t : Tables) → AreInRange t → (r : Rule) (s : Site) (h n a c : ℕ) → Broken t (law_of r) s h n → Broken t (law_of r) s a c → (h ≡ a) × (n ≡ c)
one_broken t range r s h n a c y z =
    let both : ◌≡◌ {A = Option Mode} (Some z.0) (Some y.0) = sym z.1 ∙ y.1 in
    let same : z.0 ≡ y.0 = cc in
    one_at t (tests t r) (breach t (law_of r)) (judges t range r) s.mode y.0 y.1 s.inv s.part h n a c y.2
    (subst (λ (x : Mode). BreaksAt t (breach t (law_of r)) s.mode x s.inv s.part a c) same z.2)

-- ---- one fault

pub one_law : (l m : FormRule) → number_of l ≡ number_of m → number_of m ≤ 12 → l ≡ m
one_law l m e few =
    let r = place_of m few in
    let s = place_of l (omega (arith, e, few)) in
    let place : s.0 ≡ r.0 = omega (arith, e, r.2, s.2) in
    let both : Some s.1 ≡ Some r.1 = sym s.3 ∙ ap (slice_get all_rules) place ∙ r.3 in
    let rule : s.1 ≡ r.1 = cc in
    sym s.4 ∙ ap law_of rule ∙ r.4

pub same_fault : (f g : FormFault) → f.rule ≡ g.rule → f.«module» ≡ g.«module» → f.mode ≡ g.mode → f.inv ≡ g.inv → f.have ≡ g.have → f.need ≡ g.need → f ≡ g
same_fault f g a b c d e h =
    let make : ℕ → ℕ → ℕ → Option ℕ → ℕ → ℕ → FormFault = λ r u m i x y. record { rule = r; «module» = u; mode = m; inv = i; have = x; need = y } in
    ap (λ r. make r f.«module» f.mode f.inv f.have f.need) a ∙ ap (λ u. make g.rule u f.mode f.inv f.have f.need) b
    ∙ ap (λ m. make g.rule g.«module» m f.inv f.have f.need) c ∙ ap (λ i. make g.rule g.«module» g.mode i f.have f.need) d
    ∙ ap (λ x. make g.rule g.«module» g.mode g.inv x f.need) e ∙ ap (make g.rule g.«module» g.mode g.inv g.have) h

-- a rule that is broken at a site is broken at the same site
pub broken_there : (t : Tables) (s u : Site) (r l : FormRule) (h n : ℕ) → SameSite s u → r ≡ l → Broken t r s h n → Broken t l u h n
broken_there t s u r l h n at same y =
    let make : ℕ → Option ℕ → Part → Site = λ mode inv part. record { mode = mode; inv = inv; part = part } in
    let is : s ≡ u = ap (λ m. make m s.inv s.part) at.mode ∙ ap (λ k. make u.mode k s.part) at.inv ∙ ap (make u.mode u.inv) at.part in
    subst (λ (v : Site). Broken t l v h n) is (subst (λ (x : FormRule). Broken t x s h n) same y)

pub one_form_fault : (t : Tables) → AreInRange t → (f g : FormFault) → f.rule ≤ 12 → g.rule ≤ 12 → IsFirstBroken t f → IsFirstBroken t g → f ≡ g
one_form_fault t range f g low less p q = by (order p.law q.law (site_of f p.part) (site_of g q.part))
  where
    by : ComesBefore p.law (site_of f p.part) q.law (site_of g q.part) ⊎ ((number_of p.law ≡ number_of q.law) × SameSite (site_of f p.part) (site_of g q.part))
        ⊎ ComesBefore q.law (site_of g q.part) p.law (site_of f p.part) → f ≡ g
    by (inl before) = absurd (q.first p.law (site_of f p.part) f.have f.need before p.broken)
    by (inr (inr after)) = absurd (p.first q.law (site_of g q.part) g.have g.need after q.broken)
    by (inr (inl same)) =
        let few : number_of q.law ≤ 12 = omega (arith, less, q.rule) in
        let r = place_of q.law few in
        let law = one_law p.law q.law same.0 few in
        let numbers = one_broken t range r.1 (site_of g q.part) f.have f.need g.have g.need
        (broken_there t (site_of f p.part) (site_of g q.part) p.law (law_of r.1) f.have f.need same.1 (law ∙ sym r.4) p.broken)
        (subst (λ (l : FormRule). Broken t l (site_of g q.part) g.have g.need) (sym r.4) q.broken) in
        same_fault f g (p.rule ∙ same.0 ∙ sym q.rule) (p.«module» ∙ ap (mode_module t) same.1.mode ∙ sym q.«module») same.1.mode same.1.inv numbers.0 numbers.1
