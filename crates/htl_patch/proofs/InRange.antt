-- Renumbered tables are in range where not too much is taken over.
use Rattle.std.proofs.Common.{◌≡◌, ◌≤◌, ◌<◌, inl, inr, ℕ, suc, ◌+◌, true, eqb, eq-eqb, List, [], ◌∷◌, length, length-append, map, take, drop, slice_get, Option, Some, None, IfSome, All, option_map, refl, sym, ◌∙◌, ap, subst, arith}
use Rattle.htl_patch.proofs.Words.{flat_map, count_by, length-map, slice_get_within, slice_get-get_or, get_or_from_slice_get, MAX_MODE_INVOCATIONS, End, Inv, Mode, Port, Switch, Task, different_pairs, are_different_pairs, AreInRange, IsInvInRange, IsEndInRange, IsSwitchInRange, IsFunInRange, modes_of, invs_of, Tables, Fun, mode_module, function_count, count_at, count_before, switch_function, place_among, tasks_of, ports_of, switches_of, task_of_module, port_of_mode, Numbering, numbering, mode_at, port_at, task_at, inv_at, switch_at, new_mode, new_port, new_task, new_inv, new_switch, new_end, functions_of, function_of_switch, renumbered, from_map, get_mapped}
use Rattle.htl_model.specs.declared.parts.End.TheVariants as E
use Rattle.htl_patch.proofs.{Members.Has, Members.has_either, Members.of_flat, Members.in_flat, Members.in_places_0, Members.place_get, Members.place_one, Widths.widths, Sound.inv_key, Sound.IsSound, Sound.IsOrder}
use Rattle.htl_patch.proofs.Renumbering.{mode_owner, inv_owner, task_owner, port_owner, switch_owner, modes_apart, invs_apart, task_new}
use Rattle.htl_patch.proofs.Counting.{all_from, all_map, items_rise, keys_differ, total, count_total, count_within, take_length, has_take, has_drop}
use Rattle.htl_patch.proofs.Ranging.{AreParentsTransferred, AreFew, mode_of, inv_of, task_of, switch_of, mode_below, inv_below, mode_transferred, mode_owner_place, mode_owner_at, modes, modules, module_names, mode_names, ports, port_names, tasks, task_names}

module _ (u : Tables) (units : List ℕ) (sound : IsSound u) (order : IsOrder u units) (parents : AreParentsTransferred u (numbering u units))
    (few : AreFew (renumbered u (numbering u units))) where
  abbrev n : Numbering
  n = numbering u units

  abbrev t : Tables
  t = renumbered u n

  -- ---- invocations

  -- the task of an invocation that is taken over is taken over
  task_transferred : (k : ℕ) (h : Has n.invs k) → Has n.tasks ((inv_of u units sound order parents few) k h).2.task
  task_transferred k h =
      let r = (inv_of u units sound order parents few) k h in
      let m = (mode_of u units sound order parents few) r.0 r.1 in
      let s = (sound.invs k r.2 r.3).task in
      let owner : s.0.«module» ≡ m.0 = s.2 ∙ ap (mode_module u) r.4 ∙ (mode_owner_at u units sound order parents few) r.0 m.2 m.3 ∙ m.4 in
      in_flat (tasks_of u) units m.0 r.2.task m.1 (in_places_0 (task_of_module m.0) u.tasks r.2.task s.0 s.1 (eq-eqb s.0.«module» m.0 owner))

  port_transferred : (m : ℕ) → Has n.modes m → (p : ℕ) (q : Port) → slice_get u.ports p ≡ Some q → q.mode ≡ m → Has n.ports p
  port_transferred m h p q at owner = in_flat (ports_of u) n.modes m p h (in_places_0 (port_of_mode m) u.ports p q at (eq-eqb q.mode m owner))

  end_range : (m : ℕ) → Has n.modes m → (e : End) → IsEndInRange u m e → IsEndInRange t (place_among m n.modes) (new_end n e)
  end_range m h (E.Comm c k) r = r
  end_range m h (E.Port p) r =
      let has = port_transferred m h p r.0 r.1 r.2 in
      let is : port_at u p ≡ r.0 = get_or_from_slice_get u.ports p r.0 _ r.1 in (
        new_port n (port_at u p),
        get_mapped (λ (k : ℕ). new_port n (port_at u k)) n.ports (place_among p n.ports) p (place_get n.ports p has),
        ap (λ (x : Port). place_among x.mode n.modes) is ∙ ap (λ (y : ℕ). place_among y n.modes) r.2,
      )

  ends_range : (m : ℕ) → Has n.modes m → (es : List End) → ((e : End) → Has es e → IsEndInRange u m e) → All (IsEndInRange t (place_among m n.modes)) (map (new_end n) es)
  ends_range m h es all = all_map (IsEndInRange t (place_among m n.modes)) (new_end n) es (λ e i. end_range m h e (all e i))

  inv_range : (k : ℕ) → Has n.invs k → IsInvInRange t (new_inv n (inv_at u k))
  inv_range k h =
      let r = (inv_of u units sound order parents few) k h in
      let s = sound.invs k r.2 r.3 in
      let mode : Has n.modes r.2.mode = subst (Has n.modes) (sym r.4) r.1 in
      subst (λ (x : Inv). IsInvInRange t (new_inv n x)) (sym r.5)
      (record {
        owner = (mode_below u units sound order parents few) r.2.mode mode;
        task = (
          new_task n (task_at u r.2.task),
          task_new u units order.apart r.2.task (task_transferred k h),
          ap (λ (x : Task). place_among x.«module» units) (get_or_from_slice_get u.tasks r.2.task s.task.0 _ s.task.1)
              ∙ ap (λ (y : ℕ). place_among y units) (s.task.2 ∙ owner r.2.mode mode)
              ∙ sym ((mode_owner_place u units sound order parents few) r.2.mode mode),
        );
        parent = above k r.2 h r.3 r.2.parent refl;
        reads = ends_range r.2.mode mode r.2.reads s.reads;
        writes = ends_range r.2.mode mode r.2.writes s.writes;
        few_reads = let e = length-map r.2.reads (new_end n) in omega (arith, e, s.few_reads);
        few_writes = let e = length-map r.2.writes (new_end n) in omega (arith, e, s.few_writes);
      })
    where
      owner : (m : ℕ) → Has n.modes m → mode_module u m ≡ (mode_at u m).«module»
      owner m h = let r = (mode_of u units sound order parents few) m h in (mode_owner_at u units sound order parents few) m r.2 r.3 ∙ ap (λ (x : Mode). x.«module») (sym r.5)

      above : (k : ℕ) (i : Inv) → Has n.invs k → slice_get u.invs k ≡ Some i → (o : Option ℕ) → i.parent ≡ o → IfSome (option_map (λ (p : ℕ). place_among p n.invs) o) (λ p. p < length t.invs)
      above k i h e None same = tt
      above k i h e (Some p) same = (inv_below u units sound order parents few) p (parents k i p h e same)

  invs : All (IsInvInRange t) t.invs
  invs = all_map (IsInvInRange t) (λ (k : ℕ). new_inv n (inv_at u k)) n.invs inv_range

  invoked_once : are_different_pairs (map inv_key t.invs) ≡ true
  invoked_once =
      different_pairs (map inv_key t.invs)
      (keys_differ inv_key (new_inv n) (inv_at u) u.invs n.modes n.invs (invs_apart u units order.apart) sound.invoked_once (λ x. refl)
      (inv_of u units sound order parents few) (λ x y h i e. place_one n.tasks (inv_at u x).task (inv_at u y).task (task_has x h) (task_has y i) e))
    where
      task_has : (k : ℕ) → Has n.invs k → Has n.tasks (inv_at u k).task
      task_has k h = subst (λ (i : Inv). Has n.tasks i.task) (sym ((inv_of u units sound order parents few) k h).5) (task_transferred k h)

  few_in_mode : (m : ℕ) → count_by (λ i. eqb i.mode m) t.invs ≤ MAX_MODE_INVOCATIONS
  few_in_mode = widths u units sound order.apart

  -- ---- switches

  switch_range : (k : ℕ) → Has n.switches k → IsSwitchInRange t (new_switch n (switch_at u k))
  switch_range k h =
      let r = (switch_of u units sound order parents few) k h in
      let s = sound.switches k r.2 r.3 in
      let mode : Has n.modes r.2.mode = subst (Has n.modes) (sym r.4) r.1 in
      let m = (mode_of u units sound order parents few) r.2.mode mode in
      let own : mode_module u r.2.mode ≡ m.0 = (mode_owner_at u units sound order parents few) r.2.mode m.2 m.3 ∙ m.4 in
      let place : place_among m.0 units ≡ mode_module t (place_among r.2.mode n.modes) =
      ap (λ (y : ℕ). place_among y units) (sym m.4) ∙ ap (λ (x : Mode). place_among x.«module» units) (sym m.5) ∙ sym ((mode_owner_place u units sound order parents few) r.2.mode mode) in
      subst (λ (x : Switch). IsSwitchInRange t (new_switch n x)) (sym r.5)
      (record {
        owner = (mode_below u units sound order parents few) r.2.mode mode;
        target = ((mode_transferred u units sound order parents few) m.0 m.1 (λ owner. owner ≡ mode_module t (place_among r.2.mode n.modes)) r.2.target (λ x at own. place) s.target.0 s.target.1 (s.target.2 ∙ own)).1;
        reads = s.reads;
        different = s.different;
        few_reads = s.few_reads;
      })

  switches : All (IsSwitchInRange t) t.switches
  switches = all_map (IsSwitchInRange t) (λ (k : ℕ). new_switch n (switch_at u k)) n.switches switch_range

  -- ---- functions

  switch_within : (k : ℕ) → Has n.switches k → switch_function u k < length u.functions
  switch_within k h =
      let r = (switch_of u units sound order parents few) k h in
      let w = slice_get_within u.switches k r.2 r.3 in
      let c = sound.function_count in
      omega (arith, w, c)

  -- what holds of all functions holds of those that are taken over
  pub new_functions : (P : Fun → Type 0) → ((k : ℕ) (f : Fun) → slice_get u.functions k ≡ Some f → P f) → All P t.functions
  new_functions P all =
      all_from P t.functions (λ f h. elim (has_either (flat_map (functions_of u) n.tasks) (map (function_of_switch u) n.switches) f h) [
        | inl a ↦ (let r = of_flat (functions_of u) n.tasks f a in
            let s = has_drop (count_before r.0 u.tasks) u.functions f (has_take (count_at (slice_get u.tasks r.0)) (drop (count_before r.0 u.tasks) u.functions) f r.2) in
            all s.0 f s.1)
        | inr b ↦ (let r = from_map (function_of_switch u) n.switches b.0 f b.1 in
            let less = switch_within r.0 (b.0, r.1) in
            all (switch_function u r.0) f (slice_get-get_or u.functions (switch_function u r.0) _ less ∙ ap (λ (x : Fun). Some x) r.2))
      ])

  task_functions : (k : ℕ) → Has n.tasks k → length (functions_of u k) ≡ function_count (new_task n (task_at u k))
  task_functions k h =
      let r = (task_of u units sound order parents few) k h in
      let fits = count_within u.tasks k r.2 r.3 in
      let c = sound.function_count in
      ap (λ (o : Option Task). length (take (count_at o) (drop (count_before k u.tasks) u.functions))) r.3
      ∙ take_length (function_count r.2) (count_before k u.tasks) u.functions (omega (arith, fits, c))
      ∙ ap function_count (sym r.5)

  all_functions : (ks : List ℕ) → ((k : ℕ) → Has ks k → Has n.tasks k) → length (flat_map (functions_of u) ks) ≡ total (map (λ (k : ℕ). new_task n (task_at u k)) ks)
  all_functions [] all = refl
  all_functions (k ∷ ks) all =
      let a = length-append (functions_of u k) (flat_map (functions_of u) ks) in
      let b = task_functions k (all k (0, refl)) in
      let d = all_functions ks (λ j h. all j (suc h.0, h.1)) in
      omega (arith, a, b, d)

  function_counts : length t.functions ≡ count_before (length t.tasks) t.tasks + length t.switches
  function_counts =
      let a = length-append (flat_map (functions_of u) n.tasks) (map (function_of_switch u) n.switches) in
      let b = all_functions n.tasks (λ k h. h) in
      let c = count_total t.tasks in
      let d = length-map n.switches (function_of_switch u) in
      let e = length-map n.switches (λ (k : ℕ). new_switch n (switch_at u k)) in
      omega (arith, a, b, c, d, e)

  -- ---- the tables

  pub renumbered_in_range : AreInRange t
  renumbered_in_range =
      let ms = modes_apart u units order.apart in
      record {
        few_comms = sound.few_comms;
        few_modules = few.modules;
        few_modes = few.modes;
        few_ports = few.ports;
        few_tasks = few.tasks;
        few_invs = few.invs;
        few_switches = few.switches;
        few_in_mode = few_in_mode;
        comm_names = sound.comm_names;
        module_names = (module_names u units sound order parents few);
        mode_names = (mode_names u units sound order parents few);
        port_names = (port_names u units sound order parents few);
        task_names = (task_names u units sound order parents few);
        invoked_once = invoked_once;
        modes_by_module = items_rise (λ (x : Mode). x.«module») (new_mode n) (mode_at u) (modes_of u) units order.apart (λ x. refl) (mode_owner u);
        ports_by_mode = items_rise (λ (x : Port). x.mode) (new_port n) (port_at u) (ports_of u) n.modes ms (λ x. refl) (port_owner u);
        tasks_by_module = items_rise (λ (x : Task). x.«module») (new_task n) (task_at u) (tasks_of u) units order.apart (λ x. refl) (task_owner u);
        invs_by_mode = items_rise (λ (x : Inv). x.mode) (new_inv n) (inv_at u) (invs_of u) n.modes ms (λ x. refl) (inv_owner u);
        switches_by_mode = items_rise (λ (x : Switch). x.mode) (new_switch n) (switch_at u) (switches_of u) n.modes ms (λ x. refl) (switch_owner u);
        comms = sound.comms;
        modes = (modes u units sound order parents few);
        modules = (modules u units sound order parents few);
        ports = (ports u units sound order parents few);
        tasks = (tasks u units sound order parents few);
        invs = invs;
        switches = switches;
        functions = new_functions IsFunInRange sound.functions;
        function_count = function_counts;
      }
