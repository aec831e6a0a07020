-- What jobs put out, with ports: what was read before an instant is what is read at any, and a job that finishes puts out
-- what the meaning says.
use Rattle.std.proofs.Common.{◌≡◌, ℕ, zero, suc, ◌+◌, ◌*◌, ◌≤◌, ◌<◌, Bool, true, false, cond, eqb, ltb, List, [], ◌∷◌, length, slice_get, Option, Some, None, ℤ, pos, refl, sym, ap, ◌∙◌, arith, ◌⊎◌, inl, inr}
use Rattle.htl_runs.proofs.Words.{eqb-true, lt-ltb, le-ltb, ltb-true, slice_get_within, same_Some, Event, Inv, End, Stay, Tables, comm_period, mode_module, is_concrete, function_value, output_function, AreInRange, IsInvInRange, AbstractPorts, Input, KeptApart, before, stay_of, val, out, out_by, input_value, port_output, writer_from, seen_before, InvStands, HasReadInputs, Orders, not_some, each_at, item_at, map_same, cases_below}
use Rattle.htl_model.specs.declared.parts.End.TheVariants as E

-- ---- who writes a port

port_is : (p q o : ℕ) (ends : List End) → port_output p q ends ≡ Some o → (d : ℕ) × (o ≡ q + d) × (slice_get ends d ≡ Some (E.Port p))
port_is p q o [] e = not_some o e
port_is p q o (E.Comm c n ∷ ends) e = let r = port_is p (suc q) o ends e in (suc r.0, omega (arith, r.1), r.2)
port_is p q o (E.Port z ∷ ends) e = by_test (eqb p z) refl e (λ g. port_is p (suc q) o ends g)
  where
    by_test : (b : Bool) → eqb p z ≡ b → ◌≡◌ {A = Option ℕ} (cond b (Some q) (port_output p (suc q) ends)) (Some o)
        → (port_output p (suc q) ends ≡ Some o → (d : ℕ) × (o ≡ suc q + d) × (slice_get ends d ≡ Some (E.Port p)))
        → (d : ℕ) × (o ≡ q + d) × (slice_get (E.Port z ∷ ends) d ≡ Some (E.Port p))
    by_test true is g ih = let same : q ≡ o = same_Some _ _ g in (0, omega (arith, same), ap (λ y. Some (E.Port y)) (sym (eqb-true p z is)))
    by_test false is g ih = let r = ih g in (suc r.0, omega (arith, r.1), r.2)

-- output o of invocation w of mode m writes the port
pub record IsWriter (t : Tables) (m p w o : ℕ) : Type 0 where
  pub inv : Inv
  pub known : slice_get t.invs w ≡ Some inv
  pub mode : inv.mode ≡ m
  pub end : slice_get inv.writes o ≡ Some (E.Port p)

writer_in : (t : Tables) (m p q : ℕ) (xs : List Inv) (w o : ℕ) → ((j : ℕ) → slice_get t.invs (q + j) ≡ slice_get xs j) → writer_from m p q xs ≡ Some (w, o) → IsWriter t m p w o
writer_in t m p q [] w o at e = not_some (w, o) e
writer_in t m p q (x ∷ xs) w o at e =
    by_test (eqb x.mode m) refl e (λ g. writer_in t m p (suc q) xs w o (λ j. ap (slice_get t.invs) (let z : suc q + j ≡ q + suc j = omega arith in z) ∙ at (suc j)) g)
  where
    by_place : eqb x.mode m ≡ true → (r : Option ℕ) → port_output p 0 x.writes ≡ r → ◌≡◌ {A = Option (ℕ × ℕ)} (elim r [ Some o ↦ Some (q, o) | None ↦ writer_from m p (suc q) xs ]) (Some (w, o))
        → (writer_from m p (suc q) xs ≡ Some (w, o) → IsWriter t m p w o) → IsWriter t m p w o
    by_place is None f g ih = ih g
    by_place is (Some z) f g ih =
        let pair : ◌≡◌ {A = ℕ × ℕ} (q, z) (w, o) = same_Some _ _ g in
        let d = port_is p 0 z x.writes f in
        record {
          inv = x;
          known = ap (slice_get t.invs) (let y : w ≡ q + 0 = omega (arith, ap (λ (a : ℕ × ℕ). a.0) pair) in y) ∙ at 0;
          mode = eqb-true x.mode m is;
          end = ap (slice_get x.writes) (let y : o ≡ d.0 = omega (arith, ap (λ (a : ℕ × ℕ). a.1) pair, d.1) in y) ∙ d.2;
        }

    by_test : (b : Bool) → eqb x.mode m ≡ b → ◌≡◌ {A = Option (ℕ × ℕ)} (elim (cond b (port_output p 0 x.writes) None) [ Some o ↦ Some (q, o) | None ↦ writer_from m p (suc q) xs ]) (Some (w, o))
        → (writer_from m p (suc q) xs ≡ Some (w, o) → IsWriter t m p w o) → IsWriter t m p w o
    by_test true is g ih = by_place is (port_output p 0 x.writes) refl g ih
    by_test false is g ih = ih g

pub writer_is : (t : Tables) (m p w o : ℕ) → writer_from m p 0 t.invs ≡ Some (w, o) → IsWriter t m p w o
writer_is t m p w o e = writer_in t m p 0 t.invs w o (λ j. ap (slice_get t.invs) (let z : 0 + j ≡ j = omega arith in z)) e

-- ---- numbers of what comes before

bit : Bool → ℕ
bit b = cond b 1 0

-- how many of the first n have a number below v
pub below : (ℕ → ℕ) → ℕ → ℕ → ℕ
below r v zero = 0
below r v (suc n) = below r v n + bit (ltb (r n) v)

bit_grows : (a v u : ℕ) → v ≤ u → bit (ltb a v) ≤ bit (ltb a u)
unfolding bit
bit_grows a v u h = grind (arith, bit, lt-ltb, ltb-true)

below_grows : (r : ℕ → ℕ) (v u n : ℕ) → v ≤ u → below r v n ≤ below r u n
unfolding below
below_grows r v u zero h = omega arith
below_grows r v u (suc n) h = omega (arith, below_grows r v u n h, bit_grows (r n) v u h)

pub below_more : (r : ℕ → ℕ) (v u n j : ℕ) → v ≤ r j → r j < u → j < n → below r v n < below r u n
unfolding below bit
below_more r v u zero j a b h = omega arith
below_more r v u (suc n) j a b h = by_place (cases_below j n h) (λ g. below_more r v u n j a b g)
  where
    by_place : (j < n) ⊎ (j ≡ n) → (j < n → below r v n < below r u n) → below r v n + bit (ltb (r n) v) < below r u n + bit (ltb (r n) u)
    by_place (inl g) ih = omega (arith, ih g, bit_grows (r n) v u (omega arith))
    by_place (inr e) ih =
        omega (arith, below_grows r v u n (omega arith), ap bit (le-ltb (r n) v (omega (arith, ap r e))), ap bit (lt-ltb (r n) u (omega (arith, ap r e))))

below_all : (r : ℕ → ℕ) (v n : ℕ) → below r v n ≤ n
unfolding below bit
below_all r v zero = omega arith
below_all r v (suc n) = grind (arith, below, bit, below_all r v n)

pub below_less : (r : ℕ → ℕ) (i n : ℕ) → i < n → below r (r i) n < n
below_less r i n h = omega (arith, below_more r (r i) (suc (r i)) n i (omega arith) (omega arith) h, below_all r (suc (r i)) n)

module _ (t : Tables) (range : AreInRange t) (kept : KeptApart t 12) where
  -- a concrete invocation reads no port that an abstract one writes
  pub writer_concrete : (i : ℕ) (x : Inv) (k p w o : ℕ) → slice_get t.invs i ≡ Some x → is_concrete t x ≡ true → slice_get x.reads k ≡ Some (E.Port p) → (d : IsWriter t x.mode p w o) → is_concrete t d.inv ≡ true
  writer_concrete i x k p w o at con e d = by_test (is_concrete t d.inv) refl
    where
      by_test : (b : Bool) → is_concrete t d.inv ≡ b → b ≡ true
      by_test true is = refl
      by_test false is =
          let inv = each_at (IsInvInRange t) t.invs range.invs i x at in
          let mode = item_at t.modes x.mode inv.owner in
          absurd (kept AbstractPorts (record { mode = x.mode; inv = Some i; part = Input k }) k 0 (omega arith) (λ e. omega (arith, e))
          (mode.0, mode.1, (x, at, refl, (E.Port p, e, (refl, refl, con, record { number = w; writer = d.inv; at = d.known; abstract = is; place = o; writes = d.end })))))

  pub writer_stands : (stays : List (Option Stay)) (i s : ℕ) (x : Inv) (k p w o : ℕ) → InvStands t stays i x s → slice_get x.reads k ≡ Some (E.Port p) → (d : IsWriter t x.mode p w o) → InvStands t stays w d.inv s
  writer_stands stays i s x k p w o st e d =
      record {
        known = d.known;
        concrete = writer_concrete i x k p w o st.known st.concrete e d;
        in_round = ap (λ m. stay_of stays (mode_module t m)) d.mode ∙ st.in_round ∙ ap (λ m. Some (record { mode = m; start = s })) (sym d.mode);
      }

  -- what a finished job put out doesn't depend on what is read from `now` on
  pub out_seen : (es : List Event) (now : ℕ) (finished : ℕ → Bool) → ((i : ℕ) (x : Inv) (s : ℕ) → InvStands t (before t es now).stays i x s → finished i ≡ true → HasReadInputs t now finished x s)
      → (n i s k : ℕ) (x : Inv) → InvStands t (before t es now).stays i x s → finished i ≡ true → out n t (seen_before t es now) i s k ≡ out n t (val t es) i s k
  out_seen es now finished read zero i s k x st fin = refl
  out_seen es now finished read (suc n) i s k x st fin =
      let f : ℕ → ℕ → ℤ = λ w o. out n t (seen_before t es now) w s o in
      let g : ℕ → ℕ → ℤ = λ w o. out n t (val t es) w s o in
      ap (out_by t (seen_before t es now) f s k) st.known
      ∙ ap (function_value t (output_function t x.task k))
      (map_same (input_value t (seen_before t es now) f x.mode s) (input_value t (val t es) g x.mode s) x.reads
      (λ j e at. by_end (λ w o y sw fw. out_seen es now finished read n w s o y sw fw) j e at (read i x s st fin)))
      ∙ sym (ap (out_by t (val t es) g s k) st.known)
    where
      by_end : ((w o : ℕ) (y : Inv) → InvStands t (before t es now).stays w y s → finished w ≡ true → out n t (seen_before t es now) w s o ≡ out n t (val t es) w s o)
          → (j : ℕ) (e : End) → slice_get x.reads j ≡ Some e → HasReadInputs t now finished x s
          → input_value t (seen_before t es now) (λ w o. out n t (seen_before t es now) w s o) x.mode s e ≡ input_value t (val t es) (λ w o. out n t (val t es) w s o) x.mode s e
      by_end ih j (E.Comm c m) at h = ap (λ b. cond b (val t es c (s + m * comm_period t c)) (pos 0)) (lt-ltb (s + m * comm_period t c) now (h.comms j (E.Comm c m) at))
      by_end ih j (E.Port p) at h = by_writer (writer_from x.mode p 0 t.invs) refl
        where
          by_writer : (r : Option (ℕ × ℕ)) → writer_from x.mode p 0 t.invs ≡ r
              → ◌≡◌ {A = ℤ} (elim r [ Some w ↦ out n t (seen_before t es now) w.0 s w.1 | None ↦ pos 0 ]) (elim r [ Some w ↦ out n t (val t es) w.0 s w.1 | None ↦ pos 0 ])
          by_writer None is = refl
          by_writer (Some w) is =
              let d = writer_is t x.mode p w.0 w.1 is in
              ih w.0 w.1 d.inv (writer_stands (before t es now).stays i s x j p w.0 w.1 st at d) (h.ports j p w.0 w.1 at is)

  -- enough steps are enough
  pub out_stable : (seen : ℕ → ℕ → ℤ) (m s : ℕ) (r : ℕ → ℕ) → Orders t m r → (n i k : ℕ) (x : Inv) → slice_get t.invs i ≡ Some x → is_concrete t x ≡ true → x.mode ≡ m
      → below r (r i) (length t.invs) < n → out n t seen i s k ≡ out (suc n) t seen i s k
  out_stable seen m s r order zero i k x at con mode h = absurd (omega arith)
  out_stable seen m s r order (suc n) i k x at con mode h =
      let f : ℕ → ℕ → ℤ = λ w o. out n t seen w s o in
      let g : ℕ → ℕ → ℤ = λ w o. out (suc n) t seen w s o in
      ap (out_by t seen f s k) at
      ∙ ap (function_value t (output_function t x.task k))
      (map_same (input_value t seen f x.mode s) (input_value t seen g x.mode s) x.reads
      (λ j e is. by_end (λ w o y aw cw mw hw. out_stable seen m s r order n w o y aw cw mw hw) j e is))
      ∙ sym (ap (out_by t seen g s k) at)
    where
      by_end : ((w o : ℕ) (y : Inv) → slice_get t.invs w ≡ Some y → is_concrete t y ≡ true → y.mode ≡ m → below r (r w) (length t.invs) < n → out n t seen w s o ≡ out (suc n) t seen w s o)
          → (j : ℕ) (e : End) → slice_get x.reads j ≡ Some e
          → input_value t seen (λ w o. out n t seen w s o) x.mode s e ≡ input_value t seen (λ w o. out (suc n) t seen w s o) x.mode s e
      by_end ih j (E.Comm c l) is = refl
      by_end ih j (E.Port p) is = by_writer (writer_from x.mode p 0 t.invs) refl
        where
          by_writer : (q : Option (ℕ × ℕ)) → writer_from x.mode p 0 t.invs ≡ q
              → ◌≡◌ {A = ℤ} (elim q [ Some w ↦ out n t seen w.0 s w.1 | None ↦ pos 0 ]) (elim q [ Some w ↦ out (suc n) t seen w.0 s w.1 | None ↦ pos 0 ])
          by_writer None e = refl
          by_writer (Some w) e =
              let d = writer_is t x.mode p w.0 w.1 e in
              let less : r w.0 < r i = order i x j p w.0 w.1 at con mode is (sym (ap (λ z. writer_from z p 0 t.invs) mode) ∙ e) in
              ih w.0 w.1 d.inv d.known (writer_concrete i x j p w.0 w.1 at con is d) (d.mode ∙ mode)
              (omega (arith, below_more r (r w.0) (r i) (length t.invs) w.0 (omega arith) less (slice_get_within t.invs w.0 d.inv d.known)))
