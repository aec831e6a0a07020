-- A job that finishes puts into its output buffer what the meaning says, ports included.
use Rattle.std.proofs.Common.{◌≡◌, ◌≢◌, ℕ, zero, suc, ◌+◌, ◌<◌, Bool, true, false, ◌||◌, eqb, List, [], ◌∷◌, ◌++◌, length, get_or, slice_get, set, map, Option, Some, None, ℤ, pos, refl, sym, ap, ap₂, ◌∙◌, subst, arith, inl, inr}
use Rattle.htl_runs.proofs.Words.{eqb-true, eqb-false, get_or-set_same, get_or-set_other, length-set, slice_get_within, same_Some, Ty, Event, Inv, End, Stay, numbered, list_to, Tables, mode_module, is_concrete, function_value, output_function, count_at, AreInRange, KeptApart, before, stay_of, val, out, out_by, input_value, writer_from, Content, buffer, argument, arguments, made, completed, concrete_task, has_ends, InvStands, HasReadInputs, Orders, and_also, HasPlaces, ValuesFollow, out_val, length-list_to, cases_below, or_second}
use Rattle.htl_model.specs.declared.parts.End.TheVariants as E
use Rattle.htl_runs.proofs.values.JobOutputs.{writer_is, writer_stands, out_stable, below, below_less, below_more}

-- ---- lists made place by place

get_front : (xs ys : List ℤ) (k : ℕ) → k < length xs → get_or (xs ++ ys) k (pos 0) ≡ get_or xs k (pos 0)
get_front [] ys k h = absurd (omega arith)
get_front (x ∷ xs) ys zero h = refl
get_front (x ∷ xs) ys (suc k) h = get_front xs ys k (omega arith)

get_end : (xs : List ℤ) (y : ℤ) (k : ℕ) → k ≡ length xs → get_or (xs ++ y ∷ []) k (pos 0) ≡ y
get_end [] y zero h = refl
get_end (x ∷ xs) y (suc k) h = get_end xs y k (omega arith)
get_end _ y _ h = absurd (omega arith)

pub list_to_at : (f : ℕ → ℤ) (n k : ℕ) → k < n → get_or (list_to f n) k (pos 0) ≡ f k
list_to_at f zero k h = absurd (omega arith)
list_to_at f (suc n) k h =
    elim (cases_below k n h) [
      | inl q ↦ get_front (list_to f n) (f n ∷ []) k (omega (arith, length-list_to f n)) ∙ list_to_at f n k q
      | inr q ↦ get_end (list_to f n) (f n) k (q ∙ sym (length-list_to f n)) ∙ ap f (sym q)
    ]

arguments_are : (t : Tables) (w : Content) (m i q : ℕ) (g : End → ℤ) (ends : List End) → ((j : ℕ) (e : End) → slice_get ends j ≡ Some e → argument t w m i (q + j, e) ≡ g e) → map (argument t w m i) (numbered q ends) ≡ map g ends
arguments_are t w m i q g [] h = refl
arguments_are t w m i q g (e ∷ ends) h =
    ap₂ (λ a b. a ∷ b) (subst (λ z. argument t w m i (z, e) ≡ g e) (let f : q + 0 ≡ q = omega arith in f) (h 0 e refl))
    (arguments_are t w m i (suc q) g ends (λ j d at. subst (λ z. argument t w m i (z, d) ≡ g d) (let f : q + suc j ≡ suc q + j = omega arith in f) (h (suc j) d at)))

-- a concrete invocation has as many outputs as its task has functions
outputs_many : (t : Tables) (i : ℕ) (x : Inv) → AreInRange t → KeptApart t 12 → slice_get t.invs i ≡ Some x → is_concrete t x ≡ true → length x.writes ≡ count_at (slice_get t.tasks x.task)
outputs_many t i x range kept at concrete =
    let k = concrete_task t i x range at concrete in
    (has_ends t 12 (omega arith) range kept).writes i x at ∙ ap (λ (z : List Ty). length z) k.outs ∙ sym k.count ∙ sym (ap count_at k.at)

-- ---- one job more

module _ (t : Tables) (range : AreInRange t) (kept : KeptApart t 12) (es : List Event) (now : ℕ) (finished : ℕ → Bool) (w : Content) (follows : ValuesFollow t es now finished w)
    (i s : ℕ) (x : Inv) (st : InvStands t (before t es now).stays i x s) (unfinished : finished i ≡ false) (read : HasReadInputs t now finished x s) (r : ℕ → ℕ) (order : Orders t x.mode r) where
  -- the argument at an end, where one step less is enough
  argument_is : (n j : ℕ) (e : End) → length t.invs ≡ suc n → slice_get x.reads j ≡ Some e
      → argument t w x.mode i (j, e) ≡ input_value t (val t es) (λ v o. out n t (val t es) v s o) x.mode s e
  argument_is n j (E.Comm c l) count at = follows.inputs i x s j c l st unfinished at (read.comms j (E.Comm c l) at)
  argument_is n j (E.Port p) count at = by_writer (writer_from x.mode p 0 t.invs) refl
    where
      by_writer : (q : Option (ℕ × ℕ)) → writer_from x.mode p 0 t.invs ≡ q
          → ◌≡◌ {A = ℤ} (elim q [ Some o ↦ buffer w.outputs o.0 o.1 | None ↦ pos 0 ]) (elim q [ Some o ↦ out n t (val t es) o.0 s o.1 | None ↦ pos 0 ])
      by_writer None e = refl
      by_writer (Some o) e =
          let d = writer_is t x.mode p o.0 o.1 e in
          let sd = writer_stands t range kept (before t es now).stays i s x j p o.0 o.1 st at d in
          let less : r o.0 < r i = order i x j p o.0 o.1 st.known st.concrete refl at e in
          let few : below r (r o.0) (length t.invs) < n =
          omega (arith, count, below_more r (r o.0) (r i) (length t.invs) o.0 (omega arith) less (slice_get_within t.invs o.0 d.inv d.known), below_less r i (length t.invs) (slice_get_within t.invs i x st.known)) in
          follows.outputs o.0 d.inv s o.1 sd (read.ports j p o.0 o.1 at e) (slice_get_within d.inv.writes o.1 (E.Port p) d.end)
          ∙ ap (λ z. out z t (val t es) o.0 s o.1) count
          ∙ sym (out_stable t range kept (val t es) x.mode s r order n o.0 o.1 d.inv d.known sd.concrete d.mode few)

  made_is : (k : ℕ) → k < length x.writes → get_or (made t x.task (arguments t w i x)) k (pos 0) ≡ out_val t es i s k
  made_is k h = list_to_at (λ k. function_value t (output_function t x.task k) (arguments t w i x)) (count_at (slice_get t.tasks x.task)) k (omega (arith, h, outputs_many t i x range kept st.known st.concrete)) ∙ by_count (length t.invs) refl
    where
      by_count : (n : ℕ) → length t.invs ≡ n → function_value t (output_function t x.task k) (arguments t w i x) ≡ out_val t es i s k
      by_count zero e = absurd (omega (arith, e, slice_get_within t.invs i x st.known))
      by_count (suc n) e =
          let f : ℕ → ℕ → ℤ = λ v o. out n t (val t es) v s o in
          ap (function_value t (output_function t x.task k))
          (arguments_are t w x.mode i 0 (input_value t (val t es) f x.mode s) x.reads
          (λ j d at. ap (λ z. argument t w x.mode i (z, d)) (let g : 0 + j ≡ j = omega arith in g) ∙ argument_is n j d e at))
          ∙ sym (ap (out_by t (val t es) f s k) st.known) ∙ sym (ap (λ z. out z t (val t es) i s k) e)

  put : (completed t i w).outputs ≡ set w.outputs i (made t x.task (arguments t w i x))
  put = ap (λ (o : Option Inv). elim o [ Some y ↦ set w.outputs i (made t y.task (arguments t w i y)) | None ↦ w.outputs ]) st.known

  outputs_are : HasPlaces t w → (j : ℕ) (y : Inv) (u k : ℕ) → InvStands t (before t es now).stays j y u → and_also i finished j ≡ true → k < length y.writes
      → (b : Bool) → eqb j i ≡ b → buffer (completed t i w).outputs j k ≡ out_val t es j u k
  outputs_are shape j y u k sj fin h false is = grind (arith, eqb-false, put, pos, get_or-set_other)
  outputs_are shape j y u k sj fin h true is =
      let same : j ≡ i = eqb-true j i is in
      let item : y ≡ x = same_Some _ _ (sym sj.known ∙ ap (slice_get t.invs) same ∙ st.known) in
      let one : ◌≡◌ {A = Stay} (record { mode = y.mode; start = u }) (record { mode = x.mode; start = s }) =
      same_Some _ _ (sym sj.in_round ∙ ap (λ (z : Inv). stay_of (before t es now).stays (mode_module t z.mode)) item ∙ st.in_round) in
      ap (λ bs. buffer bs j k) put
      ∙ ap (λ z. buffer (set w.outputs i (made t x.task (arguments t w i x))) z k) same
      ∙ ap (λ q. get_or q k (pos 0)) (get_or-set_same w.outputs i (made t x.task (arguments t w i x)) [] (shape.outputs i x st.known))
      ∙ made_is k (subst (λ (z : Inv). k < length z.writes) item h)
      ∙ ap₂ (λ a b. out_val t es a b k) (sym same) (sym (ap (λ (z : Stay). z.start) one))

  -- the world follows on, with the job among those that are finished
  pub finish_follows : HasPlaces t w → ValuesFollow t es now (and_also i finished) (completed t i w)
  finish_follows shape = grind (arith, or_second, outputs_are)

-- the shape stays
pub completed_shape : (t : Tables) (i : ℕ) (w : Content) → HasPlaces t w → HasPlaces t (completed t i w)
completed_shape t i w s = grind (arith, set, length-set)
