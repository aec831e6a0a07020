-- A whole instant of all modules: the world follows on.
use Rattle.std.proofs.Common.{◌≡◌, ℕ, suc, ◌+◌, ◌*◌, ◌≤◌, ◌<◌, Bool, true, false, List, [], length, get_or, slice_get, Option, Some, None, pos, sym, ap, ◌∙◌, subst, arith, ◌⊎◌, inl, inr}
use Rattle.htl_runs.proofs.Words.{slice_get_within, same_Some, Event, Inv, Stay, Tables, comm_period, mode_module, AreInRange, KeptApart, state, before, stay_of, sense, val, seen_before, Content, buffer, comm_of, effects, all_writes, all_reads, with_sensors, world_after, InvStands, AreDistinct, out_val, ValuesFollow, HasPlaces, Ready, AreCarried, standing_at, stood}
use Rattle.htl_model.specs.declared.parts.End.TheVariants as E
use Rattle.htl_ecode.specs.declared.instr.EInstr.TheVariants as I
use Rattle.htl_emach.specs.Contents as contents
use Rattle.htl_runs.proofs.{values.ModuleStays.standing_before, values.BlockContents.AsksFor, values.BlockContents.read_of, values.BlockContents.read_asks, values.BlockContents.no_write_read, values.BlockContents.no_read_write}
use Rattle.htl_runs.proofs.values.WantEffects.{Filled, are_filled, HasRoom, outputs_stay, inputs_stay, values_stay, shape_stays}
use Rattle.htl_runs.proofs.{values.OneWriter.distinct, values.InstantValues.HoldDue, values.InstantValues.values_step, values.InstantValues.length-shown, values.JobOutputs.out_seen}

module _ (t : Tables) (range : AreInRange t) (kept : KeptApart t 12) (es : List Event) (now : ℕ) (finished later : ℕ → Bool) (w : Content)
    (follows : ValuesFollow t es now finished w) (shape : HasPlaces t w) (ready : Ready t es now finished) (carried : AreCarried t es now finished later) where
  -- the buffers of what is due hold it
  hold_due : HoldDue t (seen_before t es now) (before t es now).stays now w
  hold_due i k c d =
      let fin : finished i ≡ true = ready.in_time i k c d in
      follows.outputs i d.inv d.start k d.stands fin (slice_get_within d.inv.writes k (E.Comm c d.instance) d.end)
      ∙ sym (out_seen t range kept es now finished ready.after_reads (length t.invs) i d.start k d.inv d.stands fin)

  all_distinct : AreDistinct t (before t es now).stays now
  all_distinct = let b = standing_before t range es now in distinct t range kept (before t es now).stays b.0 now b.1

  abbrev pub written : Content
  written = effects t (all_writes t now (before t es now).stays) w

  abbrev pub sensed : Content
  sensed = with_sensors t (sense t es) now written

  -- after the writes and the sensors the world holds the values of the instant
  pub holds_values : sensed.values ≡ (state t es now).values
  holds_values = values_step t range es now w all_distinct hold_due follows.values

  sensed_inputs : sensed.inputs ≡ w.inputs
  sensed_inputs = inputs_stay t (all_writes t now (before t es now).stays) w (λ i k. no_read_write t now (before t es now).stays i k)

  abbrev pub after : Content
  after = world_after t (sense t es) now (before t es now).stays (state t es now).stays w

  sensed_shape : HasPlaces t sensed
  sensed_shape =
      let s = shape_stays t (all_writes t now (before t es now).stays) w shape in
      record { values = length-shown t (sense t es) now written.values; inputs = s.inputs; outputs = s.outputs }

  pub after_shape : HasPlaces t after
  after_shape = shape_stays t (all_reads t now (state t es now).stays) sensed sensed_shape

  reads_comm : (i k c n : ℕ) (x : Inv) → slice_get t.invs i ≡ Some x → slice_get x.reads k ≡ Some (E.Comm c n) → comm_of (slice_get (contents.reads_at t i) k) ≡ Some c
  reads_comm i k c n x at e = grind arith

  split : (a b : ℕ) → a < suc b → (a < b) ⊎ (a ≡ b)
  split a b h = grind arith

  stood_inv : (i s : ℕ) (x : Inv) → InvStands t (state t es now).stays i x s → s < now → InvStands t (before t es now).stays i x s
  stood_inv i s x st h = grind (arith, stood)

  -- what an input that was read at `now` met
  read_instant : (i k c n s : ℕ) (x : Inv) → InvStands t (state t es now).stays i x s → slice_get x.reads k ≡ Some (E.Comm c n) → AsksFor (I.CallRead i k) (all_reads t now (state t es now).stays) → s + n * comm_period t c ≡ now
  read_instant i k c n s x st at a =
      let r = read_of t (state t es now).stays now now (standing_at t range es now) (omega arith) i k a in
      let d = r.1 in
      let item : d.inv ≡ x = same_Some _ _ (sym d.stands.known ∙ st.known) in
      let one : ◌≡◌ {A = Stay} (record { mode = d.inv.mode; start = d.start }) (record { mode = x.mode; start = s }) =
      same_Some _ _ (sym d.stands.in_round ∙ ap (λ (z : Inv). stay_of (state t es now).stays (mode_module t z.mode)) item ∙ st.in_round) in
      let end : E.Comm r.0 d.instance ≡ E.Comm c n = same_Some _ _ (sym d.end ∙ ap (λ (z : Inv). slice_get z.reads k) item ∙ at) in
      let comm : r.0 ≡ c = cc in
      let place : d.instance ≡ n = cc in
      ap (λ z. z + n * comm_period t c) (sym (ap (λ (z : Stay). z.start) one)) ∙ ap (λ z. d.start + z * comm_period t c) (sym place) ∙ ap (λ z. d.start + d.instance * comm_period t z) (sym comm) ∙ d.at

  inputs_after : (i : ℕ) (x : Inv) (s k c n : ℕ) → InvStands t (state t es now).stays i x s → later i ≡ false → slice_get x.reads k ≡ Some (E.Comm c n)
      → s + n * comm_period t c < suc now → buffer after.inputs i k ≡ val t es c (s + n * comm_period t c)
  inputs_after i x s k c n st fin at h =
      let row = sensed_shape.inputs i x st.known in
      let room : HasRoom i k sensed = (row.0, omega (arith, row.1, slice_get_within x.reads k (E.Comm c n) at)) in
      by_read (are_filled t i k c (all_reads t now (state t es now).stays) sensed (reads_comm i k c n x st.known at) (λ a b. no_write_read t now (state t es now).stays a b) room)
    where
      by_read : Filled t i k c (all_reads t now (state t es now).stays) sensed → buffer after.inputs i k ≡ val t es c (s + n * comm_period t c)
      by_read (inr r) = r.1 ∙ ap (λ v. get_or v c (pos 0)) holds_values ∙ ap (val t es c) (sym (read_instant i k c n s x st at r.0))
      by_read (inl r) = by_time (split (s + n * comm_period t c) now h)
        where
          by_time : (s + n * comm_period t c < now) ⊎ (s + n * comm_period t c ≡ now) → buffer after.inputs i k ≡ val t es c (s + n * comm_period t c)
          by_time (inr e) =
              absurd (r.0 (read_asks t (state t es now).stays now now (standing_at t range es now) (omega arith) i k c
              (record { inv = x; start = s; instance = n; stands = st; end = at; at = e })))
          by_time (inl g) =
              let was : InvStands t (before t es now).stays i x s = stood_inv i s x st (omega arith) in
              r.1 ∙ ap (λ bs. buffer bs i k) sensed_inputs ∙ follows.inputs i x s k c n was (sym (carried.kept i x s was st) ∙ fin) at g

  outputs_after : (i : ℕ) (x : Inv) (s k : ℕ) → InvStands t (state t es now).stays i x s → later i ≡ true → k < length x.writes → buffer after.outputs i k ≡ out_val t es i s k
  outputs_after i x s k st fin h = by_time (order s now (standing_at t range es now).past)
    where
      order : (a b : ℕ) → ((k : ℕ) (y : Stay) → stay_of (state t es now).stays k ≡ Some y → y.start ≤ now) → (s < now) ⊎ (s ≡ now)
      order a b p = let q : s ≤ now = p (mode_module t x.mode) (record { mode = x.mode; start = s }) st.in_round in grind arith

      by_time : (s < now) ⊎ (s ≡ now) → buffer after.outputs i k ≡ out_val t es i s k
      by_time (inr e) = absurd (let y : later i ≡ false = carried.fresh i x (subst (λ z. InvStands t (state t es now).stays i x z) e st) in let z : true ≡ false = sym fin ∙ y in cc)
      by_time (inl g) =
          let was : InvStands t (before t es now).stays i x s = stood_inv i s x st g in
          ap (λ bs. buffer bs i k) (outputs_stay t (all_reads t now (state t es now).stays) sensed ∙ outputs_stay t (all_writes t now (before t es now).stays) w)
          ∙ follows.outputs i x s k was (sym (carried.kept i x s was st) ∙ fin) h

  -- the value half is carried over the instant
  pub follows_on : ValuesFollow t es (suc now) later after
  follows_on = grind (arith, values_stay, no_write_read, holds_values, inputs_after, outputs_after)
