-- The sensors that wait are gone over, and the others have what they are shown.
use Rattle.std.proofs.Common.{◌≡◌, ◌≢◌, ℕ, suc, ◌+◌, ◌%◌, ◌<◌, ◌≤◌, ◌⊎◌, Bool, true, false, cond, ◌&&◌, eqb, List, length, get_or, set, slice_get, Option, Some, ℤ, pos, refl, sym, ap, ◌∙◌, subst, arith, inl, inr, length-set, get_or-set_same, get_or-set_other}
use Rattle.htl_machine.proofs.Words.{cases_lt, ne_eqb, and_parts, nat_tests, Comm, Tables, list_at, Content, SensorsStay, is_marked, MarksChanges, KeepsNoted, shown_then, AreSet, ShowsNothing, MarksWaiting, takes_now, Marks, Noted, Sensors, same_Some}

-- ---- the sensors stay

pub waiting_stays : (t : Tables) (s : Sensors) (old new : List ℤ) → MarksWaiting t s old → SensorsStay t old new → MarksWaiting t s new
waiting_stays t s old new h stay = λ c x at is free. h c x at is free ∙ sym (stay c x at is)

pub waiting_same : (t : Tables) (s : Sensors) (old new : List ℤ) → MarksWaiting t s old → new ≡ old → MarksWaiting t s new
waiting_same t s old new h e = subst (MarksWaiting t s) (sym e) h

pub waiting_at : (t u : Tables) (s : Sensors) (values : List ℤ) → t ≡ u → MarksWaiting u s values → MarksWaiting t s values
waiting_at t u s values e h = subst (λ (z : Tables). MarksWaiting z s values) (sym e) h

-- ---- they are set

-- the sensors below n are set
pub record AreTaking (t : Tables) (old : List ℤ) (now : ℕ) (s0 s : Sensors) (w0 w : Content) (noted0 noted : Noted) (n : ℕ) : Type 0 where
  pub set : AreSet t s0.shows old now w0 w n
  pub shows : s.shows ≡ s0.shows
  pub waiting : MarksWaiting t s w.values
  pub marked : (modes : List (Option ℕ)) → MarksChanges noted0 w0.values modes → MarksChanges noted w.values modes
  pub kept : KeepsNoted noted0 noted

module _ (t : Tables) (old : List ℤ) (now : ℕ) (s0 : Sensors) (w0 : Content) (noted0 : Noted) (before : SensorsStay t old w0.values) where
  -- a communicator that is no sensor that waits is as it was, and is what it is shown
  stays : (s : Sensors) (w : Content) (c : ℕ) (x : Comm) → slice_get t.comms c ≡ Some x → s.shows ≡ s0.shows → MarksWaiting t s w.values → get_or w.values c (pos 0) ≡ get_or w0.values c (pos 0)
      → (is_marked s.waiting c ≡ false) ⊎ (takes_now now x ≡ false) → get_or w.values c (pos 0) ≡ shown_then s0.shows old now w0.values c x
  stays s w c x at shows waits as_was free = by x.sensor refl (eqb (now % x.period) 0) refl free
    where
      was : ℤ
      was = get_or w0.values c (pos 0)

      shown : ℤ
      shown = get_or s0.shows c (pos 0)

      by : (a : Bool) → x.sensor ≡ a → (b : Bool) → eqb (now % x.period) 0 ≡ b → (is_marked s.waiting c ≡ false) ⊎ (takes_now now x ≡ false)
          → get_or w.values c (pos 0) ≡ cond x.sensor (cond (eqb (now % x.period) 0) (get_or s0.shows c (pos 0)) (get_or old c (pos 0))) (get_or w0.values c (pos 0))
      by false e b f g = as_was ∙ sym (ap (λ (z : Bool). cond z (cond (eqb (now % x.period) 0) shown (get_or old c (pos 0))) was) e)
      by true e false f g =
          as_was ∙ before c x at e
          ∙ sym (ap (λ (z : Bool). cond z (cond (eqb (now % x.period) 0) shown (get_or old c (pos 0))) was) e ∙ ap (λ (z : Bool). cond z shown (get_or old c (pos 0))) f)
      by true e true f (inl g) =
          sym (waits c x at e g) ∙ ap (λ (xs : List ℤ). get_or xs c (pos 0)) shows
          ∙ sym (ap (λ (z : Bool). cond z (cond (eqb (now % x.period) 0) shown (get_or old c (pos 0))) was) e ∙ ap (λ (z : Bool). cond z shown (get_or old c (pos 0))) f)
      by true e true f (inr g) = absurd (let z : ⊥ = both e f g in z)
        where
          both : x.sensor ≡ true → eqb (now % x.period) 0 ≡ true → takes_now now x ≡ false → ⊥
          both e f g = no (sym (ap (λ (a : Bool). a && eqb (now % x.period) 0) e ∙ f) ∙ g)
            where
              no : true ≡ false → ⊥
              no z = cc

  -- the sensors up to another place don't wait
  passed : (s : Sensors) (w : Content) (c n : ℕ) → AreSet t s0.shows old now w0 w c → s.shows ≡ s0.shows → MarksWaiting t s w.values → ((k : ℕ) → c ≤ k → k < n → is_marked s.waiting k ≡ false)
      → c ≤ n → AreSet t s0.shows old now w0 w n
  passed s w c n h shows waits skipped low = record {
    only = h.only;
    long = h.long;
    below = λ k x less at. elim (cases_lt k c) [
      | inl l ↦ h.below k x l at
      | inr l ↦ stays s w k x at shows waits (h.above k l) (inl (skipped k l less))
    ];
    above = λ k from. h.above k (omega (arith, low, from));
  }

  pub taking_start : (n : ℕ) → length w0.values ≡ length t.comms → MarksWaiting t s0 w0.values → ((k : ℕ) → 0 ≤ k → k < n → is_marked s0.waiting k ≡ false) → AreTaking t old now s0 s0 w0 w0 noted0 noted0 n
  taking_start n long waits skipped = record {
    set = passed s0 w0 0 n (record { only = refl; long = long; below = λ c x less at. absurd (omega (arith, less)); above = λ c from. refl }) refl waits skipped (omega arith);
    shows = refl;
    waiting = waits;
    marked = λ modes h. h;
    kept = record { values = refl; modes = refl };
  }

  module _ (s s1 : Sensors) (w w1 : Content) (noted noted1 : Noted) (c n : ℕ) (x : Comm) (h : AreTaking t old now s0 s w0 w noted0 noted c) (at : slice_get t.comms c ≡ Some x) (room : c < length t.comms)
      (world : w1 ≡ cond (takes_now now x) (record w { values = set w.values c (get_or s.shows c (pos 0)) }) w) (shows : s1.shows ≡ s.shows)
      (waiting : (k : ℕ) → is_marked s1.waiting k ≡ cond (takes_now now x) (cond (eqb k c) false (is_marked s.waiting k)) (is_marked s.waiting k))
      (written : (k : ℕ) → is_marked noted1.written k ≡ cond (takes_now now x) (cond (eqb k c) true (is_marked noted.written k)) (is_marked noted.written k)) (decided : noted1.decided ≡ noted.decided)
      (kept : KeepsNoted noted noted1) where
    shows_are : s1.shows ≡ s0.shows
    shows_are = shows ∙ h.shows

    split : (k : ℕ) → (k ≡ c) ⊎ (k ≢ c)
    split k = by (eqb k c) refl
      where
        by : (b : Bool) → eqb k c ≡ b → (k ≡ c) ⊎ (k ≢ c)
        by true e = inl (grind (arith, nat_tests))
        by false e = inr (let f : k ≢ c = grind (arith, nat_tests) in f)

    kept_now : KeepsNoted noted0 noted1
    kept_now = record { values = kept.values ∙ h.kept.values; modes = kept.modes ∙ h.kept.modes }

    -- a sensor takes what it is shown
    module _ (takes : takes_now now x ≡ true) where
      abbrev y : ℤ
      y = get_or s.shows c (pos 0)

      is : w1 ≡ record w { values = set w.values c y }
      is = world ∙ ap (λ (b : Bool). cond b (record w { values = set w.values c y }) w) takes

      here : get_or (set w.values c y) c (pos 0) ≡ y
      here = get_or-set_same w.values c y (pos 0) (omega (arith, h.set.long, room))

      there : (k : ℕ) → k ≢ c → get_or (set w.values c y) k (pos 0) ≡ get_or w.values k (pos 0)
      there k e = get_or-set_other w.values c k y (pos 0) e

      waits_k : (k : ℕ) → k ≢ c → is_marked s1.waiting k ≡ false → is_marked s.waiting k ≡ false
      waits_k k e free = sym (waiting k ∙ ap (λ (b : Bool). cond b (cond (eqb k c) false (is_marked s.waiting k)) (is_marked s.waiting k)) takes ∙ ap (λ (b : Bool). cond b false (is_marked s.waiting k)) (ne_eqb k c e)) ∙ free

      waiting_taken : MarksWaiting t s1 (set w.values c y)
      waiting_taken k z there_is sensor free = elim (split k) [
        | inl e ↦ ap (λ (xs : List ℤ). get_or xs k (pos 0)) shows ∙ ap (λ j. get_or s.shows j (pos 0)) e ∙ sym (ap (λ j. get_or (set w.values c y) j (pos 0)) e ∙ here)
        | inr e ↦ ap (λ (xs : List ℤ). get_or xs k (pos 0)) shows ∙ h.waiting k z there_is sensor (waits_k k e free) ∙ sym (there k e)
      ]

      sensor_is : (x.sensor ≡ true) × (eqb (now % x.period) 0 ≡ true)
      sensor_is = and_parts x.sensor (eqb (now % x.period) 0) takes

      shown_is : y ≡ shown_then s0.shows old now w0.values c x
      shown_is =
          ap (λ (xs : List ℤ). get_or xs c (pos 0)) h.shows
          ∙ sym (ap (λ (b : Bool). cond b (cond (eqb (now % x.period) 0) (get_or s0.shows c (pos 0)) (get_or old c (pos 0))) (get_or w0.values c (pos 0))) sensor_is.0
          ∙ ap (λ (b : Bool). cond b (get_or s0.shows c (pos 0)) (get_or old c (pos 0))) sensor_is.1)

      set_taken : AreSet t s0.shows old now w0 (record w { values = set w.values c y }) (suc c)
      set_taken = record {
        only = ap (λ (u : Content). record u { values = set w.values c y }) h.set.only;
        long = length-set w.values c y ∙ h.set.long;
        below = λ k z less there_is. elim (split k) [
          | inl e ↦ ap (λ j. get_or (set w.values c y) j (pos 0)) e ∙ here ∙ shown_is ∙ ap (shown_then s0.shows old now w0.values c) (same_Some x z (sym at ∙ sym (ap (slice_get t.comms) e) ∙ there_is))
              ∙ sym (ap (λ j. shown_then s0.shows old now w0.values j z) e)
          | inr e ↦ there k e ∙ h.set.below k z (omega (arith, e, less)) there_is
        ];
        above = λ k from. there k (λ e. omega (arith, e, from)) ∙ h.set.above k (omega (arith, from));
      }

      marked_taken : (modes : List (Option ℕ)) → MarksChanges noted0 w0.values modes → MarksChanges noted1 (set w.values c y) modes
      marked_taken modes m0 =
          let m = h.marked modes m0 in
          record {
            comms = ap length kept.values ∙ m.comms ∙ sym (length-set w.values c y);
            values_are = λ k free. elim (split k) [
              | inl e ↦ absurd (let z : true ≡ false = sym (written k ∙ ap (λ (b : Bool). cond b (cond (eqb k c) true (is_marked noted.written k)) (is_marked noted.written k)) takes
                  ∙ ap (λ (b : Bool). cond b true (is_marked noted.written k)) (same_place k e)) ∙ free in let v : ⊥ = cc in v)
              | inr e ↦ ap (λ (xs : List ℤ). get_or xs k (pos 0)) kept.values
                  ∙ m.values_are k (sym (written k ∙ ap (λ (b : Bool). cond b (cond (eqb k c) true (is_marked noted.written k)) (is_marked noted.written k)) takes
                  ∙ ap (λ (b : Bool). cond b true (is_marked noted.written k)) (ne_eqb k c e)) ∙ free)
                  ∙ sym (there k e)
            ];
            modules = ap length kept.modes ∙ m.modules;
            modes_are = λ k free. ap (λ (xs : List (Option ℕ)). list_at xs k) kept.modes ∙ m.modes_are k (sym (ap (λ (z : Marks). is_marked z k) decided) ∙ free);
          }
        where
          same_place : (k : ℕ) → k ≡ c → eqb k c ≡ true
          same_place k e = grind (arith, nat_tests)

      taken : AreTaking t old now s0 s1 w0 w1 noted0 noted1 (suc c)
      taken = subst (λ (v : Content). AreTaking t old now s0 s1 w0 v noted0 noted1 (suc c)) (sym is)
          (record { set = set_taken; shows = shows_are; waiting = waiting_taken; marked = marked_taken; kept = kept_now })

    -- it has no instance, or is no sensor
    module _ (leaves : takes_now now x ≡ false) where
      same_world : w1 ≡ w
      same_world = world ∙ ap (λ (b : Bool). cond b (record w { values = set w.values c (get_or s.shows c (pos 0)) }) w) leaves

      waits : (k : ℕ) → is_marked s1.waiting k ≡ is_marked s.waiting k
      waits k = waiting k ∙ ap (λ (b : Bool). cond b (cond (eqb k c) false (is_marked s.waiting k)) (is_marked s.waiting k)) leaves

      waiting_left : MarksWaiting t s1 w.values
      waiting_left k z there_is sensor free = ap (λ (xs : List ℤ). get_or xs k (pos 0)) shows ∙ h.waiting k z there_is sensor (sym (waits k) ∙ free)

      left : AreTaking t old now s0 s1 w0 w1 noted0 noted1 (suc c)
      left = subst (λ (v : Content). AreTaking t old now s0 s1 w0 v noted0 noted1 (suc c)) (sym same_world)
          (record {
            set =
                record {
                  only = h.set.only;
                  long = h.set.long;
                  below = λ k z less there_is. elim (split k) [
                    | inl e ↦
                        let same : x ≡ z = same_Some x z (sym at ∙ sym (ap (slice_get t.comms) e) ∙ there_is) in
                        stays s1 w k z there_is shows_are waiting_left (h.set.above k (omega (arith, e))) (inr (sym (ap (takes_now now) same) ∙ leaves))
                    | inr e ↦ h.set.below k z (omega (arith, e, less)) there_is
                  ];
                  above = λ k from. h.set.above k (omega (arith, from));
                };
            shows = shows_are;
            waiting = waiting_left;
            marked = λ modes m0.
                let m = h.marked modes m0 in
                record {
                  comms = ap length kept.values ∙ m.comms;
                  values_are = λ k free. ap (λ (xs : List ℤ). get_or xs k (pos 0)) kept.values
                      ∙ m.values_are k (sym (written k ∙ ap (λ (b : Bool). cond b (cond (eqb k c) true (is_marked noted.written k)) (is_marked noted.written k)) leaves) ∙ free);
                  modules = ap length kept.modes ∙ m.modules;
                  modes_are = λ k free. ap (λ (xs : List (Option ℕ)). list_at xs k) kept.modes ∙ m.modes_are k (sym (ap (λ (z : Marks). is_marked z k) decided) ∙ free);
                };
            kept = kept_now;
          })

    one_more : AreTaking t old now s0 s1 w0 w1 noted0 noted1 (suc c)
    one_more = by (takes_now now x) refl
      where
        by : (b : Bool) → takes_now now x ≡ b → AreTaking t old now s0 s1 w0 w1 noted0 noted1 (suc c)
        by true e = taken e
        by false e = left e

    pub taking_step : ((k : ℕ) → c + 1 ≤ k → k < n → is_marked s1.waiting k ≡ false) → c + 1 ≤ n → AreTaking t old now s0 s1 w0 w1 noted0 noted1 n
    taking_step skipped low =
        let one = one_more in
        record {
          set = passed s1 w1 (suc c) n one.set one.shows one.waiting (λ k from less. skipped k (omega (arith, from)) less) (omega (arith, low));
          shows = one.shows;
          waiting = one.waiting;
          marked = one.marked;
          kept = one.kept;
        }

-- ---- the first instant at which they show another value than they have

pub nothing_start : (t : Tables) (s : Sensors) (values : List ℤ) (from to n : ℕ) → MarksWaiting t s values → ((c : ℕ) → 0 ≤ c → c < n → is_marked s.waiting c ≡ false) → ShowsNothing t s.shows values n from to
nothing_start t s values from to n waits skipped = λ at low high c x less get sensor divides. waits c x get sensor (skipped c (omega arith) less)

pub nothing_step : (t : Tables) (s : Sensors) (values shows : List ℤ) (from least next new n m : ℕ) (x : Comm) → MarksWaiting t s values → ShowsNothing t s.shows values n from least → shows ≡ s.shows → slice_get t.comms n ≡ Some x
    → ((at : ℕ) → from ≤ at → at < next → x.sensor ≡ true → eqb (at % x.period) 0 ≡ true → get_or shows n (pos 0) ≡ get_or values n (pos 0))
    → new ≤ least → new ≤ next → ((c : ℕ) → n + 1 ≤ c → c < m → is_marked s.waiting c ≡ false) → ShowsNothing t s.shows values m from new
nothing_step t s values shows from least next new n m x waits before same is here least_is next_is skipped = λ at low high c y less get sensor divides.
    elim (cases_lt c n) [
      | inl below ↦ before at low (omega (arith, high, least_is)) c y below get sensor divides
      | inr up ↦ elim (cases_lt n c) [
        | inl behind ↦ waits c y get sensor (skipped c (omega (arith, behind)) less)
        | inr down ↦
            let c_is : c ≡ n = omega (arith, up, down) in
            let y_is : y ≡ x = same_Some _ _ (sym get ∙ ap (slice_get t.comms) c_is ∙ is) in
            subst (λ k. get_or s.shows k (pos 0) ≡ get_or values k (pos 0)) (sym c_is)
            (sym (ap (λ xs. get_or xs n (pos 0)) same) ∙ here at low (omega (arith, high, next_is)) (sym (ap (λ (z : Comm). z.sensor) y_is) ∙ sensor) (sym (ap (λ (z : Comm). eqb (at % z.period) 0) y_is) ∙ divides))
      ]
    ]
