-- The names of the tables of a tree differ, and the tables are in range.
use Rattle.std.proofs.Common.{◌≤◌, ◌≡◌, ◌<◌, ◌+◌, ℕ, List, map, length, take, slice_get, Some, refl, sym, ◌∙◌, ap, ap₂, subst, arith, None, Option, IfSome, All}
use Rattle.htl_names.proofs.Words.{slice_get_within, same_Some, length-map, All-map, AreApart, Mode, Module, Task, Inv, IsModeInRange, IsTaskInRange, IsCommInRange, AreInRange, IsPortInRange, IsEndInRange, IsInvInRange, IsModeThat, IsSwitchInRange, mode_module, out_params, comms_of, modules_of, invokes_of, names_of, InvokeNode, PlainProgram, PlainModule, PlainTask, PlainMode, PlainSwitch, Id, EndNode, ModeAt, Entry, entry, module_entries, comm_entry, entries, layout, symbols_of, meaning, comm_item, comm_items, mode_item, mode_items, module_items, port_item, port_items, task_item, task_items, invoke_item, invoke_items, switch_item, tables_of_tree, module_number, modes_before, tasks_before, mode_number, end_item, refined_mode, parent_number, comms_in, comm_key, module_key, task_key, mode_key, port_key, invoke_key, flat_map_at, AreNamesRight, module_at, tasks_at, ports_at, invokes_at, switches_at, usage, uses, comm_use, end_use, MeetsBounds, MeetsInvokeBounds, IsNarrowEnd, IsNarrowInvoke, mode_in, ModuleAt, refined_by, Comm, Port, Switch, different, different_owned, different_pairs, different_numbers, modes_of, all_at, from_map}
use Rattle.htl_text.specs.declared.tree.EndNode.TheVariants as end
use Rattle.htl_names.proofs.EntryLaws.{declared, one_place, one_entry, source_entries, entries_are, Origin, of_comm, of_module, of_task, of_mode as mode_origin, of_port, of_invoke}
use Rattle.htl_names.proofs.{FlatMaps.at_part, FlatMaps.same_part, FlatMaps.part_of, FlatMaps.given, FlatMaps.counted, FlatMaps.few_owned, FlatMaps.owners_order, FlatMaps.stands as item_stands, TreeLevels.refined_at}
use Rattle.htl_names.proofs.{SmallFunctions.functions_in_range, SmallFunctions.functions_counted, ModulePlaces.Comes, ModulePlaces.top, ModulePlaces.under, ModulePlaces.child, ModulePlaces.comes}
use Rattle.htl_names.proofs.Numbered.{task_small, switch_small, each_mode, each_module, module_in_range, mode_count, module_count, mode_number_is, all_in_modes, mode_numbered, mode_owner, mode_stands, mode_meant}
use Rattle.htl_names.proofs.Members.{In, in_next, in_second, in_part_at, All-from_places, in_first, in_mapped, all_given}
use Rattle.htl_names.proofs.NameUses.{mode_period_span, worst_span, known, used_in_invoke, comm_period_span, initial_fits, used_in_switch, parent_stands}
use Rattle.htl_names.proofs.Places.{modes_in, tasks_in, program_of_module, within as inside, part_in_source}
use Rattle.htl_names.proofs.Ordering.{kept_limit, right_tree, number_is, are_few, few_in_mode, instances}
use Rattle.htl_names.proofs.ListLaws.{few_reads, read_of, distinct_once, distinct_apart, among_at}

-- items differ by what they are called, where those called alike stand at one place
apart_by : {B N : Type 0} (called : B → N) (ys : List B) → ((j k : ℕ) (y z : B) → slice_get ys j ≡ Some y → slice_get ys k ≡ Some z → called y ≡ called z → j ≡ k) → AreApart (map called ys)
apart_by called ys one j k n less p q =
    let y = from_map called ys j n p in
    let z = from_map called ys k n q in
    omega (arith, less, one j k y.0 z.0 y.1 z.1 (y.2 ∙ sym z.2))

-- the same of the items of nodes, which differ by their owner and what they are told by among its nodes
apart_by_owner : {A N B C : Type 0} (item : ℕ → A → N → B) (nodes : A → List N) (own : B → ℕ) (called : B → C) (told : A → N → C) (xs : List A)
    → ((k : ℕ) (x : A) (n : N) → (own (item k x n) ≡ k) × (called (item k x n) ≡ told x n))
    → ((k : ℕ) (x : A) → slice_get xs k ≡ Some x → (i j : ℕ) (n m : N) → slice_get (nodes x) i ≡ Some n → slice_get (nodes x) j ≡ Some m → told x n ≡ told x m → i ≡ j)
    → AreApart {A = ℕ × C} (map (λ y. (own y, called y)) (flat_map_at (given item nodes) 0 xs))
apart_by_owner {C = C} item nodes own called told xs is one =
    apart_by {N = ℕ × C} (λ y. (own y, called y)) (flat_map_at (given item nodes) 0 xs) (λ j k y z p q same.
    let r = part_of (given item nodes) xs j y p in
    let s = part_of (given item nodes) xs k z q in
    let v = from_map (item r.part r.owner) (nodes r.owner) r.place y r.item in
    let w = from_map (item s.part s.owner) (nodes s.owner) s.place z s.item in
    let first = is r.part r.owner v.0 in
    let second = is s.part s.owner w.0 in
    let part : s.part ≡ r.part = sym second.0 ∙ ap own w.2 ∙ sym (ap (λ (t : ℕ × C). t.0) same) ∙ sym (ap own v.2) ∙ first.0 in
    let owner : s.owner ≡ r.owner = same_Some _ _ (sym s.there ∙ ap (slice_get xs) part ∙ r.there) in
    let names = sym first.1 ∙ ap called v.2 ∙ ap (λ (t : ℕ × C). t.1) same ∙ sym (ap called w.2) ∙ second.1 ∙ ap (λ x. told x w.0) owner in
    let starts = ap (λ (m : ℕ). length (flat_map_at (given item nodes) 0 (take m xs))) part in
    let place = one r.part r.owner r.there r.place s.place v.0 w.0 v.1 (ap (λ x. slice_get (nodes x) s.place) (sym owner) ∙ w.1) names in
    omega (arith, r.number, s.number, place, starts))

module _ (ps : List PlainProgram) (right : AreNamesRight ps) where
  -- two declared items with one key have one number
  same_number : (e d : Entry) → Origin ps e → Origin ps d → e.key ≡ d.key → e.number ≡ d.number
  same_number e d a b same = ap (λ (x : Entry). x.number) (one_entry ps right e d (declared ps e a) (declared ps d b) same)

  comm_names_apart : AreApart (map (λ (c : Comm). c.name) (comm_items ps))
  comm_names_apart =
      apart_by (λ (c : Comm). c.name) (comm_items ps) (λ j k c d p q names.
      let x = from_map comm_item (comms_of ps) j c p in
      let y = from_map comm_item (comms_of ps) k d q in
      let same : x.0.name.name ≡ y.0.name.name = ap (λ (c : Comm). c.name) x.2 ∙ names ∙ sym (ap (λ (c : Comm). c.name) y.2) in
      same_number (comm_entry j x.0) (comm_entry k y.0) (of_comm j x.0 x.1) (of_comm k y.0 y.1) (ap (λ (m : List ℕ). comm_key m) same))

  -- ---- modules

  abbrev module_entry : ℕ → PlainModule → Entry
  module_entry u y = entry (module_key y.name.name) u y.name

  -- its entry is one of its program's
  entry_in : (p u : ℕ) (y : PlainModule) → module_at ps p u ≡ Some y → (x : PlainProgram) × (slice_get ps p ≡ Some x) × (i : ℕ) × (i < length (source_entries ps p x))
      × (slice_get (entries ps) (length (flat_map_at (source_entries ps) 0 (take p ps)) + i) ≡ Some (module_entry u y))
  entry_in p u y there =
      let o = program_of_module ps p u y there in
      let n : In (module_entry u y) (source_entries ps p o.0) = in_next _ _ (in_second _ _ (in_part_at (module_entries p) o.0.modules u y o.2 (0, refl))) in
      let at = at_part (source_entries ps) ps p n.0 o.0 (module_entry u y) o.1 n.1 in
      (o.0, o.1, n.0, slice_get_within (source_entries ps p o.0) n.0 (module_entry u y) n.1, ap (λ es. slice_get es (length (flat_map_at (source_entries ps) 0 (take p ps)) + n.0)) (entries_are ps) ∙ at)

  -- two modules of one name are of one program
  one_program : (p u q v : ℕ) (y w : PlainModule) → module_at ps p u ≡ Some y → module_at ps q v ≡ Some w → y.name.name ≡ w.name.name → p ≡ q
  one_program p u q v y w a b names =
      let f = entry_in p u y a in
      let g = entry_in q v w b in
      same_part (source_entries ps) ps p q f.2 g.2 f.0 g.0 f.1 g.1 f.3 g.3 (one_place ps right _ _ (module_entry u y) (module_entry v w) f.4 g.4 (ap (λ (m : List ℕ). module_key m) names))

  module_names_apart : AreApart (map (λ (x : Module). x.name) (module_items (layout ps) ps))
  module_names_apart =
      apart_by (λ (x : Module). x.name) (module_items (layout ps) ps) (λ j k x z p q.
      each_module ps (λ j x. x.name ≡ z.name → j ≡ k) (λ j s y there its.
      each_module ps (λ k z. y.name.name ≡ z.name → j ≡ k) (λ k r w at own names.
      let same = same_number _ _ (of_module s.program s.«module» y its) (of_module r.program r.«module» w own) (ap (λ (m : List ℕ). module_key m) names) in
      sym (number_is ps right j s there) ∙ ap₂ (module_number (layout ps)) (one_program s.program s.«module» r.program r.«module» y w its own names) same ∙ number_is ps right k r at) k z q) j x p)

  -- the task that an invocation names
  task_named : (a : ModeAt) (j : ℕ) (i : InvokeNode) → slice_get (invokes_at ps a) j ≡ Some i
      → (t : PlainTask) × (slice_get (tasks_at ps a.program a.«module») (meaning (layout ps) (task_key a.program a.«module» i.task.name)) ≡ Some t) × (t.name.name ≡ i.task.name)
  task_named a j i at = let use_of = usage (task_key a.program a.«module» i.task.name) i.task in (known ps right use_of (used_in_invoke ps use_of a j i at (0, refl))).0

  invoked_apart : AreApart {A = ℕ × ℕ} (map (λ (i : Inv). (i.mode, i.task)) (invoke_items (layout ps) ps))
  invoked_apart =
      apart_by_owner (invoke_item (layout ps) ps) (invokes_at ps) (λ (i : Inv). i.mode) (λ (i : Inv). i.task) (λ a x. (invoke_item (layout ps) ps 0 a x).task) (layout ps).modes (λ m a x. (refl, refl)) (λ m a there i j x w p q tasks.
      let one = task_named a i x p in
      let two = task_named a j w q in
      let same : meaning (layout ps) (task_key a.program a.«module» x.task.name) ≡ meaning (layout ps) (task_key a.program a.«module» w.task.name) = omega (arith, tasks) in
      let task : one.0 ≡ two.0 = same_Some _ _ (sym one.1 ∙ ap (slice_get (tasks_at ps a.program a.«module»)) same ∙ two.1) in
      let names : x.task.name ≡ w.task.name = sym one.2 ∙ ap (λ (t : PlainTask). t.name.name) task ∙ two.2 in
      same_number _ _ (of_invoke a i x p) (of_invoke a j w q) (ap (λ (n : List ℕ). invoke_key a.program a.«module» a.mode n) names))

-- ---- what a communicator's name means

comm_below : (ps : List PlainProgram) → AreNamesRight ps → (id : Id) → In (comm_use id) (uses ps) → meaning (layout ps) (comm_key id.name) < length (comm_items ps)
comm_below ps right id used =
    let x = (known ps right (comm_use id) used).0 in
    omega (arith, slice_get_within (comms_of ps) (meaning (layout ps) (comm_key id.name)) x.0 x.1, length-map (comms_of ps) comm_item)

-- ---- what stands in mode m of module k

module _ (ps : List PlainProgram) (small : MeetsBounds ps) (right : AreNamesRight ps)
    (k m : ℕ) (s : ModuleAt) (x : PlainMode) (there : slice_get (layout ps).modules k ≡ Some s) (its : slice_get (modes_in ps s) m ≡ Some x) where
  abbrev a : ModeAt
  a = mode_in s m

  abbrev n : ℕ
  n = modes_before (layout ps) ps k + m

  stands_there : slice_get (layout ps).modes n ≡ Some a
  stands_there = mode_numbered ps k m s x there its

  owner : mode_module (tables_of_tree ps) n ≡ k
  owner = mode_owner ps k m s x there its

  number : module_number (layout ps) s.program s.«module» ≡ k
  number = number_is ps right k s there

  within : n < length (mode_items (layout ps) ps)
  within = slice_get_within (mode_items (layout ps) ps) n _ (mode_stands ps k m s x there its)

  task_in_module : (j : ℕ) (i : InvokeNode) → slice_get (invokes_at ps a) j ≡ Some i
      → (t : Task) × (slice_get (task_items (layout ps) ps) (tasks_before (layout ps) ps (module_number (layout ps) s.program s.«module») + meaning (layout ps) (task_key s.program s.«module» i.task.name)) ≡ Some t)
      × (t.«module» ≡ mode_module (tables_of_tree ps) n)
  task_in_module j i at =
      let l = layout ps in
      let t = task_named ps right a j i at in (
        task_item k t.0,
        ap (λ (q : ℕ). slice_get (task_items l ps) (tasks_before l ps q + meaning l (task_key s.program s.«module» i.task.name))) number
            ∙ item_stands (λ k s. task_item k) (tasks_in ps) l.modules k (meaning l (task_key s.program s.«module» i.task.name)) s t.0 there t.1,
        sym owner,
      )

  end_in_range : (e : EndNode) → In (end_use s.program s.«module» m e) (uses ps) → IsNarrowEnd e → IsEndInRange (tables_of_tree ps) n (end_item (layout ps) ps n a e)
  end_in_range (end.Comm comm instance) used few = (comm_below ps right comm used, few)
  end_in_range (end.Port port) used few =
      let key = port_key s.program s.«module» m port.name in
      let y = (known ps right (usage key port) used).0 in
      (port_item n y.0, item_stands (λ m a. port_item m) (ports_at ps) (layout ps).modes n (meaning (layout ps) key) a y.0 stands_there y.1, refl)

  ends_in_range : (es : List EndNode) → ((j : ℕ) (e : EndNode) → slice_get es j ≡ Some e → In (end_use s.program s.«module» m e) (uses ps)) → All IsNarrowEnd es
      → All (IsEndInRange (tables_of_tree ps) n) (map (end_item (layout ps) ps n a) es)
  ends_in_range es used narrow =
      All-map (IsEndInRange (tables_of_tree ps) n) (end_item (layout ps) ps n a) es
      (All-from_places (λ e. IsEndInRange (tables_of_tree ps) n (end_item (layout ps) ps n a e)) es (λ j e at. end_in_range e (used j e at) (all_at IsNarrowEnd es j e narrow at)))

  parent_within : (j : ℕ) (i : InvokeNode) → slice_get (invokes_at ps a) j ≡ Some i → (o : Option Id) → i.parent ≡ o
      → IfSome (elim o [ Some id ↦ parent_number (layout ps) ps (refined_mode (layout ps) s.program s.«module») id | None ↦ None ]) (λ p. p < length (invoke_items (layout ps) ps))
  parent_within j i at None is = tt
  parent_within j i at (Some id) is = subst Goal (sym refined_is) (by s (comes (symbols_of ps) ps k s there) refl)
    where
      Goal : Option ModeAt → Type 0
      Goal o = IfSome (parent_number (layout ps) ps o id) (λ p. p < length (invoke_items (layout ps) ps))

      refined_is : refined_mode (layout ps) s.program s.«module» ≡ s.parent
      refined_is =
          ap (λ (q : ℕ). elim (slice_get (layout ps).modules q) [ Some r ↦ r.parent | None ↦ None ]) number ∙ ap (λ o. elim o [ Some r ↦ r.parent | None ↦ None ]) there

      by : (r : ModuleAt) → Comes (symbols_of ps) ps (layout ps).modules k r → r.program ≡ s.program → Goal r.parent
      by r (top u y here) same = tt
      by r (under h t v lower before (child c q u y names here)) same =
          let refined = refined_at (symbols_of ps) ps (right_tree ps right) (mode_in t c) q (inside ps q u y here) names in
          let w = parent_stands ps right a j i id at is (mode_in t c) (ap (refined_by (symbols_of ps) ps) (sym same) ∙ refined) in
          let number = ap (slice_get (layout ps).modes) (sym (mode_number_is ps right h c t before)) ∙ mode_numbered ps h c t names.mode before names.there in
          slice_get_within (invoke_items (layout ps) ps) _ _
          (item_stands (invoke_item (layout ps) ps) (invokes_at ps) (layout ps).modes (mode_number (layout ps) ps (mode_in t c)) _ (mode_in t c) w.0 number w.1)

  invoke_in_range : (j : ℕ) (i : InvokeNode) → slice_get (invokes_at ps a) j ≡ Some i → IsInvInRange (tables_of_tree ps) (invoke_item (layout ps) ps n a i)
  invoke_in_range j i at =
      let q = part_in_source (λ (z : PlainMode). z.invokes) ps a j i at in
      let few = all_at MeetsInvokeBounds (invokes_of (modes_of (modules_of ps))) (q.0 + j) i small.invokes q.1 in
      let narrow = all_at IsNarrowInvoke (invokes_at ps a) j i (instances ps right a) at in
      record {
        owner = within;
        task = task_in_module j i at;
        parent = parent_within j i at i.parent refl;
        reads = ends_in_range i.reads (λ p e own. used_in_invoke ps _ a j i at (in_next _ _ (in_first _ _ (in_mapped (end_use s.program s.«module» m) i.reads p e own)))) narrow.reads;
        writes = ends_in_range i.writes (λ p e own. used_in_invoke ps _ a j i at (in_next _ _ (in_second _ _ (in_mapped (end_use s.program s.«module» m) i.writes p e own)))) narrow.writes;
        few_reads = omega (arith, length-map i.reads (end_item (layout ps) ps n a), few.reads);
        few_writes = omega (arith, length-map i.writes (end_item (layout ps) ps n a), few.writes);
      }

  switch_in_range : (j : ℕ) (w : PlainSwitch) → slice_get (switches_at ps a) j ≡ Some w → IsSwitchInRange (tables_of_tree ps) (switch_item (layout ps) ps n a w)
  switch_in_range j w at =
      record {
        owner = within;
        target = target;
        reads = reads;
        different = different_numbers (comms_in (layout ps) w.cond) (distinct_apart (comms_in (layout ps) w.cond) (distinct_once (map (λ (id : Id). meaning (layout ps) (comm_key id.name)) (names_of w.cond))));
        few_reads = omega (arith, few_reads ps w.cond, (switch_small ps small a j w at).names);
      }
    where
      target : IsModeThat (tables_of_tree ps) (λ o. o ≡ mode_module (tables_of_tree ps) n)
          (modes_before (layout ps) ps (module_number (layout ps) s.program s.«module») + meaning (layout ps) (mode_key s.program s.«module» w.target.name))
      target =
          let is_own : ℕ → Type 0 = λ o. o ≡ mode_module (tables_of_tree ps) n in
          subst (λ (q : ℕ). IsModeThat (tables_of_tree ps) is_own (modes_before (layout ps) ps q + meaning (layout ps) (mode_key s.program s.«module» w.target.name))) (sym number)
          (mode_meant ps right k s w.target is_own (sym owner) there (used_in_switch ps _ a j w at (in_second (map comm_use (names_of w.cond)) _ (0, refl))))

      is_comm : ℕ → Type 0
      is_comm c = c < length (comm_items ps)

      reads : All is_comm (comms_in (layout ps) w.cond)
      reads =
          All-from_places is_comm (comms_in (layout ps) w.cond) (λ q c e.
          let id = read_of (layout ps) w.cond c (among_at (comms_in (layout ps) w.cond) q c e) in
          subst is_comm id.2 (comm_below ps right id.0 (used_in_switch ps _ a j w at (in_first _ _ (in_mapped comm_use (names_of w.cond) id.1.0 id.0 id.1.1)))))

-- ---- all of them

pub names-in-range : (ps : List PlainProgram) → MeetsBounds ps → AreNamesRight ps → AreInRange (tables_of_tree ps)
names-in-range ps small right =
    let l = layout ps in
    let t = tables_of_tree ps in
    let few = are_few ps right in
    let within : (k : ℕ) (s : ModuleAt) → slice_get l.modules k ≡ Some s → k < length t.modules = λ k s e. omega (arith, slice_get_within l.modules k s e, module_count ps) in
    record {
      few_comms = omega (arith, length-map (comms_of ps) comm_item, kept_limit ps right 0 (length (comms_of ps)) 1024 refl refl);
      few_modules = omega (arith, module_count ps, few.modules);
      few_modes = omega (arith, counted (λ k s. mode_item k) (modes_in ps) l.modules, few.modes);
      few_ports = omega (arith, counted (λ m a. port_item m) (ports_at ps) l.modes, few.ports);
      few_tasks = omega (arith, counted (λ k s. task_item k) (tasks_in ps) l.modules, few.tasks);
      few_invs = omega (arith, counted (invoke_item l ps) (invokes_at ps) l.modes, few.invokes);
      few_switches = omega (arith, counted (switch_item l ps) (switches_at ps) l.modes, few.switches);
      few_in_mode = λ m. few_owned (invoke_item l ps) (invokes_at ps) (λ (i : Inv). i.mode) (λ n a i. refl) m 128 l.modes
          (each_mode ps (λ n a. length (invokes_at ps a) ≤ 128) (λ k m s x there its. few_in_mode ps right s m x its) m);
      comm_names = different (map (λ (c : Comm). c.name) (comm_items ps)) (comm_names_apart ps right);
      module_names = different (map (λ (x : Module). x.name) (module_items l ps)) (module_names_apart ps right);
      mode_names =
          different_owned (map (λ (m : Mode). (m.«module», m.name)) (mode_items l ps))
          (apart_by_owner (λ k s. mode_item k) (modes_in ps) (λ (m : Mode). m.«module») (λ (m : Mode). m.name) (λ s x. x.name.name) l.modules (λ k s x. (refl, refl)) (λ k s there i j x w a b names.
          same_number ps right _ _ (mode_origin s.program s.«module» i x a) (mode_origin s.program s.«module» j w b) (ap (λ (m : List ℕ). mode_key s.program s.«module» m) names)));
      port_names =
          different_owned (map (λ (q : Port). (q.mode, q.name)) (port_items l ps))
          (apart_by_owner (λ m a. port_item m) (ports_at ps) (λ (q : Port). q.mode) (λ (q : Port). q.name) (λ a x. x.name.name) l.modes (λ m a x. (refl, refl)) (λ m a there i j x w p q names.
          same_number ps right _ _ (of_port a i x p) (of_port a j w q) (ap (λ (n : List ℕ). port_key a.program a.«module» a.mode n) names)));
      task_names =
          different_owned (map (λ (k : Task). (k.«module», k.name)) (task_items l ps))
          (apart_by_owner (λ k s. task_item k) (tasks_in ps) (λ (t : Task). t.«module») (λ (t : Task). t.name) (λ s x. x.name.name) l.modules (λ k s x. (refl, refl)) (λ k s there i j x w a b names.
          same_number ps right _ _ (of_task s.program s.«module» i x a) (of_task s.program s.«module» j w b) (ap (λ (m : List ℕ). task_key s.program s.«module» m) names)));
      invoked_once = different_pairs (map (λ (i : Inv). (i.mode, i.task)) (invoke_items l ps)) (invoked_apart ps right);
      modes_by_module = owners_order (λ k s. mode_item k) (modes_in ps) (λ (m : Mode). m.«module») (λ k s x. refl) l.modules;
      ports_by_mode = owners_order (λ m a. port_item m) (ports_at ps) (λ (q : Port). q.mode) (λ m a x. refl) l.modes;
      tasks_by_module = owners_order (λ k s. task_item k) (tasks_in ps) (λ (k : Task). k.«module») (λ k s x. refl) l.modules;
      invs_by_mode = owners_order (invoke_item l ps) (invokes_at ps) (λ (i : Inv). i.mode) (λ m a i. refl) l.modes;
      switches_by_mode = owners_order (switch_item l ps) (switches_at ps) (λ (w : Switch). w.mode) (λ m a x. refl) l.modes;
      comms =
          All-map IsCommInRange comm_item (comms_of ps)
          (All-from_places (λ x. IsCommInRange (comm_item x)) (comms_of ps) (λ k x e. record { period = comm_period_span ps right k x e; init = initial_fits ps right k x e }));
      modes =
          all_given (IsModeInRange t) (λ k s. mode_item k) (modes_in ps) l.modules (λ k s m x there its.
          record { owner = within k s there; period = mode_period_span ps right s.program s.«module» m x its });
      modules = module_in_range ps right;
      ports = all_given (IsPortInRange t) (λ m a. port_item m) (ports_at ps) l.modes (λ m a j x there its. omega (arith, slice_get_within l.modes m a there, mode_count ps));
      tasks =
          all_given (IsTaskInRange t) (λ k s. task_item k) (tasks_in ps) l.modules (λ k s j x there its.
          let few = task_small ps small s.program s.«module» j x its in
          record {
            owner = within k s there;
            worst = worst_span ps right s.program s.«module» j x its;
            few_inputs = omega (arith, length-map x.inputs (λ y. y.ty), few.inputs);
            few_outputs = omega (arith, length-map (out_params x.outputs) (λ y. y.ty), few.outputs);
          });
      invs = all_in_modes ps (IsInvInRange t) (invoke_item l ps) (invokes_at ps) (invoke_in_range ps small right);
      switches = all_in_modes ps (IsSwitchInRange t) (switch_item l ps) (switches_at ps) (switch_in_range ps small right);
      functions = functions_in_range ps small right;
      function_count = functions_counted ps small right;
    }
