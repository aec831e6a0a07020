-- The first site at which a rule is broken, for any rule whose tests find exactly what breaks it.
use Rattle.std.proofs.Common.{◌≡◌, ℕ, ◌<◌, ◌⊎◌, true, cond, eqb, Option, Some, None, refl, sym, ◌∙◌, ap, subst, inl, inr}
use Rattle.htl_form.proofs.Words.{slice_get, Inv, Mode, FormFault, Tables, mode_module, FormRule, Part, Site, InvBefore, SiteBefore, Breach, breach, PartBreaks, BreaksAt, Broken, site_of, first_from, Found, Tests, at_inv, at_mode, told, inv_in_mode, in_mode, or_else_some, or_else_none, none_at, found_at, IsFirstAt, eqb-true, none-some, module_is}
use Rattle.htl_form.proofs.{Judging.Judges, PartLaws.eqb_is, PartLaws.taken, PartLaws.inv_none, PartLaws.inv_first, PartLaws.IsFirstPart, PartLaws.mode_none, PartLaws.mode_first, PartLaws.IsFirstOfMode}

-- ---- a fault told with its site

told_none : (n u m : ℕ) (k : Option ℕ) (o : Found) → told n u m k o ≡ None → o ≡ None
told_none n u m k None e = refl
told_none n u m k (Some p) e = cc

pub record IsTold (n u m : ℕ) (k : Option ℕ) (o : Found) (f : FormFault) : Type 0 where
  pub rule : f.rule ≡ n
  pub «module» : f.«module» ≡ u
  pub mode : f.mode ≡ m
  pub inv : f.inv ≡ k
  pub found : o ≡ Some (f.have, f.need)

told_some : (n u m : ℕ) (k : Option ℕ) (o : Found) (f : FormFault) → told n u m k o ≡ Some f → IsTold n u m k o f
told_some n u m k None f e = absurd (none-some f e)
told_some n u m k (Some p) f e =
    let same : ◌≡◌ {A = FormFault} (record { rule = n; «module» = u; mode = m; inv = k; have = p.0; need = p.1 }) f = cc in
    subst (λ g. IsTold n u m k (Some p) g) same (record { rule = refl; «module» = refl; mode = refl; inv = refl; found = refl })

-- ---- in a mode

inv_in_mode_none : (f : Tests) (n u m k : ℕ) (i : Inv) → i.mode ≡ m → inv_in_mode f n u m k i ≡ None → at_inv f k i ≡ None
inv_in_mode_none f n u m k i is e =
    let test : eqb i.mode m ≡ true = subst (λ (x : ℕ). eqb i.mode x ≡ true) is (eqb_is i.mode) in
    told_none n u m (Some k) (at_inv f k i) (sym (ap (λ b. cond b (told n u m (Some k) (at_inv f k i)) None) test) ∙ e)

-- the invocations of a mode break nothing
invs_none : (t : Tables) (f : Tests) (b : Breach) → Judges t f b → (n u m : ℕ) → first_from (inv_in_mode f n u m) 0 t.invs ≡ None
    → (x : Mode) (k : ℕ) (p : Part) (h d : ℕ) → BreaksAt t b m x (Some k) p h d → ⊥
invs_none t f b judge n u m none x k p h d y =
    inv_none t f b judge k y.0 y.1 (inv_in_mode_none f n u m k y.0 y.2 (none_at (inv_in_mode f n u m) t.invs none k y.0 y.1)) p h d y.3

pub in_mode_none : (t : Tables) (f : Tests) (b : Breach) → Judges t f b → (n m : ℕ) (x : Mode) → slice_get t.modes m ≡ Some x → in_mode f n t m x ≡ None
    → (k : Option ℕ) (p : Part) (h d : ℕ) → BreaksAt t b m x k p h d → ⊥
in_mode_none t f b judge n m x at none None p h d y =
    let two = or_else_none (first_from (inv_in_mode f n x.«module» m) 0 t.invs) _ none in
    mode_none t f b judge m x at (told_none n x.«module» m None (at_mode f t m x) two.1) p h d y
in_mode_none t f b judge n m x at none (Some k) p h d y =
    invs_none t f b judge n x.«module» m (or_else_none (first_from (inv_in_mode f n x.«module» m) 0 t.invs) _ none).0 x k p h d y

-- the first in a mode
pub record IsFirstHere (t : Tables) (b : Breach) (n m : ℕ) (x : Mode) (f : FormFault) : Type 0 where
  pub rule : f.rule ≡ n
  pub «module» : f.«module» ≡ x.«module»
  pub mode : f.mode ≡ m
  pub part : Part
  pub breaks : BreaksAt t b m x f.inv part f.have f.need
  pub least : (k : Option ℕ) (q : Part) (a c : ℕ) → InvBefore k q f.inv part → BreaksAt t b m x k q a c → ⊥

least_inv : (t : Tables) (f : Tests) (b : Breach) → Judges t f b → (n m : ℕ) (x : Mode) (fault : FormFault)
    → (g : IsFirstAt (inv_in_mode f n x.«module» m) t.invs fault) (h d : ℕ) (first : IsFirstPart b g.place g.item h d)
    → (k : Option ℕ) (q : Part) (a c : ℕ) → InvBefore k q (Some g.place) first.part → BreaksAt t b m x k q a c → ⊥
least_inv t f b judge n m x fault g h d first None q a c less y = less
least_inv t f b judge n m x fault g h d first (Some k) q a c (inl less) y =
    inv_none t f b judge k y.0 y.1 (inv_in_mode_none f n x.«module» m k y.0 y.2 (g.before k y.0 less y.1)) q a c y.3
least_inv t f b judge n m x fault g h d first (Some k) q a c (inr same) y =
    let item : Some y.0 ≡ Some g.item = sym y.1 ∙ ap (slice_get t.invs) same.0 ∙ g.at in
    let is : y.0 ≡ g.item = cc in
    let here : PartBreaks b g.place g.item q a c = subst (λ (l : ℕ). PartBreaks b l g.item q a c) same.0 (subst (λ (i : Inv). PartBreaks b k i q a c) is y.3) in
    first.least q a c same.1 here

least_mode : (t : Tables) (f : Tests) (b : Breach) → Judges t f b → (n m : ℕ) (x : Mode) → first_from (inv_in_mode f n x.«module» m) 0 t.invs ≡ None
    → (h d : ℕ) (first : IsFirstOfMode t b m x h d) → (k : Option ℕ) (q : Part) (a c : ℕ) → InvBefore k q None first.part → BreaksAt t b m x k q a c → ⊥
least_mode t f b judge n m x none h d first None q a c less y = first.least q a c less y
least_mode t f b judge n m x none h d first (Some k) q a c less y = invs_none t f b judge n x.«module» m none x k q a c y

-- what is told of an invocation of the mode is the first there
first_inv : (t : Tables) (f : Tests) (b : Breach) → Judges t f b → (n m : ℕ) (x : Mode) (fault : FormFault)
    → IsFirstAt (inv_in_mode f n x.«module» m) t.invs fault → IsFirstHere t b n m x fault
first_inv t f b judge n m x fault g =
    let both = taken (eqb g.item.mode m) (told n x.«module» m (Some g.place) (at_inv f g.place g.item)) fault g.gives in
    let tale = told_some n x.«module» m (Some g.place) (at_inv f g.place g.item) fault both.1 in
    let first = inv_first t f b judge g.place g.item g.at fault.have fault.need tale.found in
    record {
      rule = tale.rule;
      «module» = tale.«module»;
      mode = tale.mode;
      part = first.part;
      breaks = subst (λ o. BreaksAt t b m x o first.part fault.have fault.need) (sym tale.inv) (g.item, g.at, eqb-true g.item.mode m both.0, first.breaks);
      least = subst (λ o. (k : Option ℕ) (q : Part) (a c : ℕ) → InvBefore k q o first.part → BreaksAt t b m x k q a c → ⊥) (sym tale.inv)
          (least_inv t f b judge n m x fault g fault.have fault.need first);
    }

-- what is told of the mode itself is the first where its invocations break nothing
first_mode : (t : Tables) (f : Tests) (b : Breach) → Judges t f b → (n m : ℕ) (x : Mode) → slice_get t.modes m ≡ Some x → (fault : FormFault)
    → first_from (inv_in_mode f n x.«module» m) 0 t.invs ≡ None → told n x.«module» m None (at_mode f t m x) ≡ Some fault → IsFirstHere t b n m x fault
first_mode t f b judge n m x at fault none e =
    let tale = told_some n x.«module» m None (at_mode f t m x) fault e in
    let first = mode_first t f b judge m x at fault.have fault.need tale.found in
    record {
      rule = tale.rule;
      «module» = tale.«module»;
      mode = tale.mode;
      part = first.part;
      breaks = subst (λ o. BreaksAt t b m x o first.part fault.have fault.need) (sym tale.inv) first.breaks;
      least = subst (λ o. (k : Option ℕ) (q : Part) (a c : ℕ) → InvBefore k q o first.part → BreaksAt t b m x k q a c → ⊥) (sym tale.inv)
          (least_mode t f b judge n m x none fault.have fault.need first);
    }

pub in_mode_first : (t : Tables) (f : Tests) (b : Breach) → Judges t f b → (n m : ℕ) (x : Mode) → slice_get t.modes m ≡ Some x → (fault : FormFault)
    → in_mode f n t m x ≡ Some fault → IsFirstHere t b n m x fault
in_mode_first t f b judge n m x at fault e =
    elim (or_else_some (first_from (inv_in_mode f n x.«module» m) 0 t.invs) _ fault e) [
      | inl one ↦ first_inv t f b judge n m x fault (found_at (inv_in_mode f n x.«module» m) t.invs fault one)
      | inr two ↦ first_mode t f b judge n m x at fault two.0 two.1
    ]

-- ---- a rule

pub rule_none : (t : Tables) (f : Tests) (l : FormRule) → Judges t f (breach t l) → (n : ℕ) → first_from (in_mode f n t) 0 t.modes ≡ None
    → (s : Site) (h d : ℕ) → Broken t l s h d → ⊥
rule_none t f l judge n none s h d y = in_mode_none t f (breach t l) judge n s.mode y.0 y.1 (none_at (in_mode f n t) t.modes none s.mode y.0 y.1) s.inv s.part h d y.2

-- the first of one rule
pub record IsFirstOfRule (t : Tables) (l : FormRule) (n : ℕ) (fault : FormFault) : Type 0 where
  pub part : Part
  pub rule : fault.rule ≡ n
  pub «module» : fault.«module» ≡ mode_module t fault.mode
  pub broken : Broken t l (site_of fault part) fault.have fault.need
  pub least : (s : Site) (a c : ℕ) → SiteBefore s (site_of fault part) → Broken t l s a c → ⊥

least_site : (t : Tables) (f : Tests) (l : FormRule) → Judges t f (breach t l) → (n : ℕ) (fault : FormFault) (g : IsFirstAt (in_mode f n t) t.modes fault)
    → (here : IsFirstHere t (breach t l) n g.place g.item fault) → (s : Site) (a c : ℕ)
    → (s.mode < g.place) ⊎ ((s.mode ≡ g.place) × InvBefore s.inv s.part fault.inv here.part) → Broken t l s a c → ⊥
least_site t f l judge n fault g here s a c (inl less) y =
    in_mode_none t f (breach t l) judge n s.mode y.0 y.1 (g.before s.mode y.0 less y.1) s.inv s.part a c y.2
least_site t f l judge n fault g here s a c (inr same) y =
    let item : Some y.0 ≡ Some g.item = sym y.1 ∙ ap (slice_get t.modes) same.0 ∙ g.at in
    let is : y.0 ≡ g.item = cc in
    here.least s.inv s.part a c same.1
    (subst (λ (m : ℕ). BreaksAt t (breach t l) m g.item s.inv s.part a c) same.0 (subst (λ (x : Mode). BreaksAt t (breach t l) s.mode x s.inv s.part a c) is y.2))

pub rule_first : (t : Tables) (f : Tests) (l : FormRule) → Judges t f (breach t l) → (n : ℕ) (fault : FormFault) → first_from (in_mode f n t) 0 t.modes ≡ Some fault
    → IsFirstOfRule t l n fault
rule_first t f l judge n fault e =
    let g = found_at (in_mode f n t) t.modes fault e in
    let here = in_mode_first t f (breach t l) judge n g.place g.item g.at fault g.gives in
    let at : slice_get t.modes fault.mode ≡ Some g.item = ap (slice_get t.modes) here.mode ∙ g.at in
    record {
      part = here.part;
      rule = here.rule;
      «module» = here.«module» ∙ sym (module_is t fault.mode g.item at);
      broken = (g.item, at, subst (λ (m : ℕ). BreaksAt t (breach t l) m g.item fault.inv here.part fault.have fault.need) (sym here.mode) here.breaks);
      least = subst (λ (m : ℕ). (s : Site) (a c : ℕ) → (s.mode < m) ⊎ ((s.mode ≡ m) × InvBefore s.inv s.part fault.inv here.part) → Broken t l s a c → ⊥)
          (sym here.mode) (least_site t f l judge n fault g here);
    }
