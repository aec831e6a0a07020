-- The first part of an invocation, or of a mode, at which a rule is broken.
use Rattle.std.proofs.Common.{◌≡◌, ℕ, Bool, true, false, cond, eqb, Option, Some, None, refl, sym, ◌∙◌, ap, subst, arith, inl, inr}
use Rattle.htl_form.proofs.Words.{slice_get, nat_tests, Inv, Mode, Switch, Tables, Part, Itself, Input, Output, Test, PartBefore, Breach, PartBreaks, ModeBreaks, first_from, Found, Tests, at_inv, at_read, at_switch, at_mode, or_else_some, or_else_none, none_at, found_at, IsFirstAt, eqb-true, none-some}
use Rattle.htl_form.proofs.{Finding.Finds, Judging.Judges}

pub eqb_is : (m : ℕ) → eqb m m ≡ true
eqb_is m = grind (arith, nat_tests)

-- a choice that gives something is taken
pub taken : {A : Type 0} (b : Bool) (o : Option A) (y : A) → cond b o None ≡ Some y → (b ≡ true) × (o ≡ Some y)
taken true o y e = (refl, e)
taken false o y e = absurd (none-some y e)

-- ---- nothing found, nothing broken

not_found : (o : Found) (P : ℕ → ℕ → Type 0) → Finds o P → o ≡ None → (h n : ℕ) → P h n → ⊥
not_found o P f none h n p = none-some (h, n) (sym none ∙ f.finds h n p)

inputs_none : (t : Tables) (f : Tests) (b : Breach) → Judges t f b → (k : ℕ) (i : Inv) → slice_get t.invs k ≡ Some i → first_from (f.input k i) 0 i.reads ≡ None
    → (j h n : ℕ) → PartBreaks b k i (Input j) h n → ⊥
inputs_none t f b judge k i at none j h n p =
    not_found (f.input k i j p.0) (b.input k i j p.0) (judge.input k i j p.0 at p.1) (none_at (f.input k i) i.reads none j p.0 p.1) h n p.2

outputs_none : (t : Tables) (f : Tests) (b : Breach) → Judges t f b → (k : ℕ) (i : Inv) → slice_get t.invs k ≡ Some i → first_from (f.output k i) 0 i.writes ≡ None
    → (j h n : ℕ) → PartBreaks b k i (Output j) h n → ⊥
outputs_none t f b judge k i at none j h n p =
    not_found (f.output k i j p.0) (b.output k i j p.0) (judge.output k i j p.0 at p.1) (none_at (f.output k i) i.writes none j p.0 p.1) h n p.2

parts_none : (t : Tables) (f : Tests) (b : Breach) → Judges t f b → (k : ℕ) (i : Inv) → slice_get t.invs k ≡ Some i
    → f.inv k i ≡ None → first_from (f.input k i) 0 i.reads ≡ None → first_from (f.output k i) 0 i.writes ≡ None
    → (p : Part) (h n : ℕ) → PartBreaks b k i p h n → ⊥
parts_none t f b judge k i at one two three Itself h n x = not_found (f.inv k i) (b.inv k i) (judge.inv k i at) one h n x
parts_none t f b judge k i at one two three (Input j) h n x = inputs_none t f b judge k i at two j h n x
parts_none t f b judge k i at one two three (Output j) h n x = outputs_none t f b judge k i at three j h n x
parts_none t f b judge k i at one two three (Test l j) h n x = x

pub inv_none : (t : Tables) (f : Tests) (b : Breach) → Judges t f b → (k : ℕ) (i : Inv) → slice_get t.invs k ≡ Some i → at_inv f k i ≡ None
    → (p : Part) (h n : ℕ) → PartBreaks b k i p h n → ⊥
inv_none t f b judge k i at none p h n x =
    let one = or_else_none (f.inv k i) _ none in
    let two = or_else_none (first_from (f.input k i) 0 i.reads) _ one.1 in
    parts_none t f b judge k i at one.0 two.0 two.1 p h n x

-- ---- the first part of an invocation

pub record IsFirstPart (b : Breach) (k : ℕ) (i : Inv) (h n : ℕ) : Type 0 where
  pub part : Part
  pub breaks : PartBreaks b k i part h n
  pub least : (q : Part) (a c : ℕ) → PartBefore q part → PartBreaks b k i q a c → ⊥

before_itself : (b : Breach) (k : ℕ) (i : Inv) (q : Part) (a c : ℕ) → PartBefore q Itself → PartBreaks b k i q a c → ⊥
before_itself b k i Itself a c less x = less
before_itself b k i _ a c less x = less

before_input : (t : Tables) (f : Tests) (b : Breach) → Judges t f b → (k : ℕ) (i : Inv) → slice_get t.invs k ≡ Some i → (y : ℕ × ℕ) → f.inv k i ≡ None
    → (g : IsFirstAt (f.input k i) i.reads y) → (q : Part) (a c : ℕ) → PartBefore q (Input g.place) → PartBreaks b k i q a c → ⊥
before_input t f b judge k i at y none g Itself a c less x = not_found (f.inv k i) (b.inv k i) (judge.inv k i at) none a c x
before_input t f b judge k i at y none g (Input j) a c less x =
    not_found (f.input k i j x.0) (b.input k i j x.0) (judge.input k i j x.0 at x.1) (g.before j x.0 less x.1) a c x.2
before_input t f b judge k i at y none g _ a c less x = less

before_output : (t : Tables) (f : Tests) (b : Breach) → Judges t f b → (k : ℕ) (i : Inv) → slice_get t.invs k ≡ Some i → (y : ℕ × ℕ) → f.inv k i ≡ None
    → first_from (f.input k i) 0 i.reads ≡ None → (g : IsFirstAt (f.output k i) i.writes y)
    → (q : Part) (a c : ℕ) → PartBefore q (Output g.place) → PartBreaks b k i q a c → ⊥
before_output t f b judge k i at y none inputs g Itself a c less x = not_found (f.inv k i) (b.inv k i) (judge.inv k i at) none a c x
before_output t f b judge k i at y none inputs g (Input j) a c less x = inputs_none t f b judge k i at inputs j a c x
before_output t f b judge k i at y none inputs g (Output j) a c less x =
    not_found (f.output k i j x.0) (b.output k i j x.0) (judge.output k i j x.0 at x.1) (g.before j x.0 less x.1) a c x.2
before_output t f b judge k i at y none inputs g (Test l j) a c less x = less

pub inv_first : (t : Tables) (f : Tests) (b : Breach) → Judges t f b → (k : ℕ) (i : Inv) → slice_get t.invs k ≡ Some i → (h n : ℕ) → at_inv f k i ≡ Some (h, n)
    → IsFirstPart b k i h n
inv_first t f b judge k i at h n e =
    elim (or_else_some (f.inv k i) _ (h, n) e) [
      | inl one ↦ record { part = Itself; breaks = (judge.inv k i at).says h n one; least = before_itself b k i }
      | inr two ↦
          elim (or_else_some (first_from (f.input k i) 0 i.reads) _ (h, n) two.1) [
            | inl some ↦
                let g = found_at (f.input k i) i.reads (h, n) some in
                record {
                  part = Input g.place;
                  breaks = (g.item, g.at, (judge.input k i g.place g.item at g.at).says h n g.gives);
                  least = before_input t f b judge k i at (h, n) two.0 g;
                }
            | inr three ↦
                let g = found_at (f.output k i) i.writes (h, n) three.1 in
                record {
                  part = Output g.place;
                  breaks = (g.item, g.at, (judge.output k i g.place g.item at g.at).says h n g.gives);
                  least = before_output t f b judge k i at (h, n) two.0 three.0 g;
                }
          ]
    ]

-- ---- a mode itself and its switches

-- a switch of the mode at which nothing is found
switch_none : (t : Tables) (f : Tests) (b : Breach) → Judges t f b → (m l : ℕ) (w : Switch) → w.mode ≡ m → at_switch f m l w ≡ None
    → (j c h n : ℕ) → slice_get w.reads j ≡ Some c → b.test m c h n → ⊥
switch_none t f b judge m l w is none j c h n at x =
    let test : eqb w.mode m ≡ true = subst (λ (y : ℕ). eqb w.mode y ≡ true) is (eqb_is w.mode) in
    let reads : first_from (at_read f m) 0 w.reads ≡ None = sym (ap (λ d. cond d (first_from (at_read f m) 0 w.reads) None) test) ∙ none in
    not_found (f.test m c) (b.test m c) (judge.test m c) (none_at (at_read f m) w.reads reads j c at) h n x

mode_parts_none : (t : Tables) (f : Tests) (b : Breach) → Judges t f b → (m : ℕ) (x : Mode) → slice_get t.modes m ≡ Some x
    → f.mode m x ≡ None → first_from (at_switch f m) 0 t.switches ≡ None → (p : Part) (h n : ℕ) → ModeBreaks t b m x p h n → ⊥
mode_parts_none t f b judge m x at one two Itself h n y = not_found (f.mode m x) (b.mode m x) (judge.mode m x at) one h n y
mode_parts_none t f b judge m x at one two (Test l j) h n y = switch_none t f b judge m l y.0 y.2 (none_at (at_switch f m) t.switches two l y.0 y.1) j y.3 h n y.4 y.5
mode_parts_none t f b judge m x at one two _ h n y = y

pub mode_none : (t : Tables) (f : Tests) (b : Breach) → Judges t f b → (m : ℕ) (x : Mode) → slice_get t.modes m ≡ Some x → at_mode f t m x ≡ None
    → (p : Part) (h n : ℕ) → ModeBreaks t b m x p h n → ⊥
mode_none t f b judge m x at none p h n y =
    let two = or_else_none (f.mode m x) (first_from (at_switch f m) 0 t.switches) none in
    mode_parts_none t f b judge m x at two.0 two.1 p h n y

pub record IsFirstOfMode (t : Tables) (b : Breach) (m : ℕ) (x : Mode) (h n : ℕ) : Type 0 where
  pub part : Part
  pub breaks : ModeBreaks t b m x part h n
  pub least : (q : Part) (a c : ℕ) → PartBefore q part → ModeBreaks t b m x q a c → ⊥

before_mode : (t : Tables) (b : Breach) (m : ℕ) (x : Mode) (q : Part) (a c : ℕ) → PartBefore q Itself → ModeBreaks t b m x q a c → ⊥
before_mode t b m x Itself a c less y = less
before_mode t b m x _ a c less y = less

before_test : (t : Tables) (f : Tests) (b : Breach) → Judges t f b → (m : ℕ) (x : Mode) → slice_get t.modes m ≡ Some x → (y : ℕ × ℕ) → f.mode m x ≡ None
    → (g : IsFirstAt (at_switch f m) t.switches y) (r : IsFirstAt (at_read f m) g.item.reads y)
    → (q : Part) (a c : ℕ) → PartBefore q (Test g.place r.place) → ModeBreaks t b m x q a c → ⊥
before_test t f b judge m x at y none g r Itself a c less z = not_found (f.mode m x) (b.mode m x) (judge.mode m x at) none a c z
before_test t f b judge m x at y none g r (Test l j) a c (inl below) z = switch_none t f b judge m l z.0 z.2 (g.before l z.0 below z.1) j z.3 a c z.4 z.5
before_test t f b judge m x at y none g r (Test l j) a c (inr here) z =
    let item : Some z.0 ≡ Some g.item = sym z.1 ∙ ap (slice_get t.switches) here.0 ∙ g.at in
    let is : z.0 ≡ g.item = cc in
    let read : slice_get g.item.reads j ≡ Some z.3 = subst (λ (w : Switch). slice_get w.reads j ≡ Some z.3) is z.4 in
    not_found (f.test m z.3) (b.test m z.3) (judge.test m z.3) (r.before j z.3 here.1 read) a c z.5
before_test t f b judge m x at y none g r _ a c less z = z

pub mode_first : (t : Tables) (f : Tests) (b : Breach) → Judges t f b → (m : ℕ) (x : Mode) → slice_get t.modes m ≡ Some x → (h n : ℕ) → at_mode f t m x ≡ Some (h, n)
    → IsFirstOfMode t b m x h n
mode_first t f b judge m x at h n e =
    elim (or_else_some (f.mode m x) _ (h, n) e) [
      | inl one ↦ record { part = Itself; breaks = (judge.mode m x at).says h n one; least = before_mode t b m x }
      | inr two ↦
          let g = found_at (at_switch f m) t.switches (h, n) two.1 in
          let here = taken (eqb g.item.mode m) (first_from (at_read f m) 0 g.item.reads) (h, n) g.gives in
          let r = found_at (at_read f m) g.item.reads (h, n) here.1 in
          record {
            part = Test g.place r.place;
            breaks = (g.item, g.at, eqb-true g.item.mode m here.0, r.item, r.at, (judge.test m r.item).says h n r.gives);
            least = before_test t f b judge m x at (h, n) two.0 g r;
          }
    ]
