-- Where the name rules are kept, the modules in order differ and are few, and their numbers fit the fields.
use Rattle.std.proofs.Common.{◌≡◌, ℕ, suc, None, Option, length-append, ◌≤◌, ◌<◌, min, ◌^◌, ◌-◌, List, length, slice_get, Some, refl, arith, le_trans, [], All, ap, ◌+◌, ◌∙◌, ◌∷◌, flat_map}
use Rattle.htl_names.proofs.Words.{list_to, mode_in, PlainProgram, PlainModule, PlainMode, PlainTask, ModeAt, ModuleAt, symbols_of, layout, module_number, size_of, Layout, layout_by, tables_by, tables_of_tree, counts, limits, AreNamesRight, ProgramTree, Limits, order, mode_order, mode_at, modes_at, tasks_at, ports_at, invokes_at, switches_at, refinements, level, levels, length-map, flat_map_single, slice_get_within, comms_of, modules_of, CommNode, MeetsBounds, IsNarrow, IsNarrowParent, IsNarrowInvoke, Tables, Key, modes_of, Entry, MeetsTaskBounds, all_at, params_of, out_params, tasks_of, ports_of, invokes_of, look_up, entries, meaning}
use Rattle.htl_names.proofs.{Apart.order_number, Apart.few, Apart.few_in_modes, FlatMaps.list_to_at, FlatMaps.take_length, TreeLevels.IsTree, TreeLevels.few_programs, Members.All-from_places, ListLaws.greatest_at, ListLaws.invokes_most}
use Rattle.htl_names.proofs.Places.{part_is, part_there, modes_there, tasks_there, modes_in, tasks_in, mode_parts, module_in_source, item_in_source, part_in_source}
use Rattle.htl_names.proofs.ModulePlaces.{Comes, top, under, child, comes, exist}
use Rattle.htl_names.proofs.EntryLaws.{Origin, of_program, of_comm, of_module, of_task, of_param, of_mode, of_port, of_invoke, found, origin}
use Rattle.htl_names.proofs.NameUses.{comm_period_span, mode_period_span, worst_span, narrow_invoke}
use Rattle.htl_names.specs.declared.fault.NameFault.TheVariants as fault

-- no limit is exceeded
pub kept_limit : (ps : List PlainProgram) → AreNamesRight ps → (k count limit : ℕ) → slice_get (counts (symbols_of ps) ps) k ≡ Some count → slice_get limits k ≡ Some limit → count ≤ limit
kept_limit ps right k count limit a b = let no = λ (over : limit < count). right Limits k (fault.Limit (suc k) (min count (2 ^ 32 - 1))) (count, limit, a, b, over, refl) in omega arith

-- the programs make a tree
pub right_tree : (ps : List PlainProgram) → AreNamesRight ps → IsTree (symbols_of ps) ps
right_tree ps right p lt wrong = right ProgramTree p (fault.NotATree p) (lt, wrong, refl)

-- the number of a module is its place
pub number_is : (ps : List PlainProgram) → AreNamesRight ps → (k : ℕ) (s : ModuleAt) → slice_get (layout ps).modules k ≡ Some s → module_number (layout ps) s.program s.«module» ≡ k
number_is ps right = order_number (symbols_of ps) ps (right_tree ps right)

pub low : (ps : List PlainProgram) → AreNamesRight ps → (p : ℕ) → p < length ps → level (refinements (symbols_of ps) ps) (length ps) p ≤ 8
low ps right p lt =
    let f : ℕ → ℕ = level (refinements (symbols_of ps) ps) (length ps) in
    let one = greatest_at 0 (f p) (list_to f (length ps)) p (list_to_at f (length ps) p lt) in
    let two = kept_limit ps right 8 (levels (symbols_of ps) ps) 8 refl refl in
    omega (arith, one, two)

-- how many items the modules in order have
pub record AreFew (ps : List PlainProgram) : Type 0 where
  pub modules : length (layout ps).modules ≤ 64
  pub modes : length (flat_map (modes_in ps) (layout ps).modules) ≤ 256
  pub tasks : length (flat_map (tasks_in ps) (layout ps).modules) ≤ 4096
  pub ports : length (flat_map (ports_at ps) (layout ps).modes) ≤ 4096
  pub invokes : length (flat_map (invokes_at ps) (layout ps).modes) ≤ 2048
  pub switches : length (flat_map (switches_at ps) (layout ps).modes) ≤ 4096

pub are_few : (ps : List PlainProgram) → AreNamesRight ps → AreFew ps
are_few ps right =
    let modules = (layout ps).modules in
    let here = exist (symbols_of ps) ps in
    let apart = number_is ps right in
    record {
      modules = le_trans (simp (flat_map_single, length-map) at (few ps modules here apart (λ (s : ModuleAt). s ∷ []) (λ (y : PlainModule). y ∷ []) (λ s y e. refl))) (kept_limit ps right 1 _ 64 refl refl);
      modes = le_trans (few ps modules here apart (modes_in ps) (λ (y : PlainModule). y.modes) (λ s y e. ap length (modes_there ps s.program s.«module» y e))) (kept_limit ps right 2 _ 256 refl refl);
      tasks = le_trans (few ps modules here apart (tasks_in ps) (λ (y : PlainModule). y.tasks) (λ s y e. ap length (tasks_there ps s.program s.«module» y e))) (kept_limit ps right 4 _ 4096 refl refl);
      ports = le_trans (few_in_modes ps modules here apart (λ (x : PlainMode). x.ports)) (kept_limit ps right 3 _ 4096 refl refl);
      invokes = le_trans (few_in_modes ps modules here apart (λ (x : PlainMode). x.invokes)) (kept_limit ps right 5 _ 2048 refl refl);
      switches = le_trans (few_in_modes ps modules here apart (λ (x : PlainMode). x.switches)) (kept_limit ps right 6 _ 4096 refl refl);
    }

-- of the invocations in a mode
pub few_in_mode : (ps : List PlainProgram) → AreNamesRight ps → (s : ModuleAt) (m : ℕ) (x : PlainMode) → slice_get (modes_in ps s) m ≡ Some x → length (invokes_at ps (mode_in s m)) ≤ 128
few_in_mode ps right s m x its =
    let n = item_in_source (λ (y : PlainModule). y.modes) ps s.program s.«module» m x its in
    omega (arith, invokes_most (modes_of (modules_of ps)) (n.0 + m) x n.1, ap length (part_is ps (mode_in s m) x (λ z. z.invokes) its), kept_limit ps right 7 _ 128 refl refl)

-- ---- where the name rules are kept, the numbers of the layout fit the fields of the tables

low_at : {A : Type 0} (xs : List A) (k : ℕ) (y : A) → (n : ℕ) × (slice_get xs (n + k) ≡ Some y) → length xs ≤ 4096 → k ≤ 4096
low_at xs k y at low = let within = slice_get_within xs (at.0 + k) y at.1 in omega (arith, within, low)

-- each name stands at its number in its list
entry_low : (ps : List PlainProgram) → MeetsBounds ps → AreNamesRight ps → (e : Entry) → Origin ps e → e.number ≤ 4096
entry_low ps small right e (of_program p x there) =
    omega (arith, slice_get_within ps p x there, few_programs (symbols_of ps) ps (right_tree ps right), kept_limit ps right 2 _ 256 refl refl)
entry_low ps small right e (of_comm c x there) = omega (arith, slice_get_within (comms_of ps) c x there, kept_limit ps right 0 _ 1024 refl refl)
entry_low ps small right e (of_module p u x there) = low_at (modules_of ps) u x (module_in_source ps p u x there) (omega (arith, kept_limit ps right 1 _ 64 refl refl))
entry_low ps small right e (of_task p u k t there) = low_at (tasks_of (modules_of ps)) k t (item_in_source (λ (y : PlainModule). y.tasks) ps p u k t there) (kept_limit ps right 4 _ 4096 refl refl)
entry_low ps small right e (of_param p u k t there j x at) =
    let n = item_in_source (λ (y : PlainModule). y.tasks) ps p u k t there in
    let bounds = all_at MeetsTaskBounds (tasks_of (modules_of ps)) (n.0 + k) t small.tasks n.1 in
    omega (arith, slice_get_within (params_of t) j x at, length-append t.inputs (out_params t.outputs), bounds.inputs, bounds.outputs)
entry_low ps small right e (of_mode p u m x there) =
    low_at (modes_of (modules_of ps)) m x (item_in_source (λ (y : PlainModule). y.modes) ps p u m x there) (omega (arith, kept_limit ps right 2 _ 256 refl refl))
entry_low ps small right e (of_port a j y at) = low_at (ports_of (modes_of (modules_of ps))) j y (part_in_source (λ (z : PlainMode). z.ports) ps a j y at) (kept_limit ps right 3 _ 4096 refl refl)
entry_low ps small right e (of_invoke a j y at) =
    low_at (invokes_of (modes_of (modules_of ps))) j y (part_in_source (λ (z : PlainMode). z.invokes) ps a j y at) (omega (arith, kept_limit ps right 5 _ 2048 refl refl))

-- what a name means
meaning_low : (ps : List PlainProgram) → MeetsBounds ps → AreNamesRight ps → (key : Key) → meaning (layout ps) key ≤ 4096
meaning_low ps small right key = by (look_up key (symbols_of ps)) refl
  where
    by : (o : Option ℕ) → look_up key (symbols_of ps) ≡ o → (let n : ℕ = elim o [ Some n ↦ n | None ↦ 0 ] in n ≤ 4096)
    by None is = omega arith
    by (Some n) is =
        let f = found key (entries ps) n is in
        omega (arith, entry_low ps small right f.0 (origin ps f.1.0 f.0 f.1.1), f.3)

module _ (ps : List PlainProgram) (right : AreNamesRight ps) where
  pub instances : (a : ModeAt) → All IsNarrowInvoke (invokes_at ps a)
  instances a =
      All-from_places IsNarrowInvoke (invokes_at ps a) (λ k i its.
      let x = part_there (λ (z : PlainMode). z.invokes) (mode_at ps a) k i its in narrow_invoke ps right a.program a.«module» a.mode k x.0 i x.1 x.2)

  parent_narrow : (k : ℕ) (s : ModuleAt) → Comes (symbols_of ps) ps (layout ps).modules k s → IsNarrowParent s.parent
  parent_narrow k s (top u y its) = omega arith
  parent_narrow k s (under j t r lower there (child m q u y names its)) =
      let n = item_in_source (λ (y : PlainModule). y.modes) ps t.program t.«module» m names.mode names.there in
      omega (arith, slice_get_within (modes_of (modules_of ps)) (n.0 + m) names.mode n.1, kept_limit ps right 2 _ 256 refl refl)

pub names-narrow : (ps : List PlainProgram) → MeetsBounds ps → AreNamesRight ps → IsNarrow (layout ps) ps
names-narrow ps small right =
    let modules = order (symbols_of ps) ps in
    let modes = mode_order ps modules in
    let few = are_few ps right in
    record {
      meanings = meaning_low ps small right;
      modules = few.modules;
      modes = omega (arith, mode_parts ps modules, few.modes);
      modes_before = λ k. le_trans (take_length (modes_in ps) k modules) few.modes;
      first_tasks = λ k. le_trans (take_length (tasks_in ps) k modules) few.tasks;
      first_ports = λ m. le_trans (take_length (ports_at ps) m modes) few.ports;
      first_invokes = λ m. le_trans (take_length (invokes_at ps) m modes) few.invokes;
      parents = All-from_places (λ (s : ModuleAt). IsNarrowParent s.parent) modules (λ k s e. parent_narrow ps right k s (comes (symbols_of ps) ps k s e));
      comm_periods = All-from_places (λ (c : CommNode). size_of c.period.x ≤ 1000000) (comms_of ps) (λ k c e. (comm_period_span ps right k c e).most);
      mode_periods = λ p u. All-from_places (λ (x : PlainMode). size_of x.period.x ≤ 1000000) (modes_at ps p u) (λ m x e. (mode_period_span ps right p u m x e).most);
      worsts = λ p u. All-from_places (λ (t : PlainTask). size_of t.worst.x ≤ 1000000) (tasks_at ps p u) (λ k t e. (worst_span ps right p u k t e).most);
      instances = instances ps right;
    }

-- ---- the layout and the tables that are made by the symbols of a tree are those of the tree

pub layout_is : (ps : List PlainProgram) (symbols : List (Key × ℕ)) (l : Layout) → symbols ≡ symbols_of ps → l ≡ layout_by symbols (order symbols ps) ps
    → l ≡ layout ps
layout_is ps symbols l are is = is ∙ ap (λ (s : List (Key × ℕ)). layout_by s (order s ps) ps) are

pub tables_are : (ps : List PlainProgram) (symbols : List (Key × ℕ)) (l : Layout) (t : Tables) → symbols ≡ symbols_of ps
    → l ≡ layout_by symbols (order symbols ps) ps → t ≡ tables_by l ps → t ≡ tables_of_tree ps
tables_are ps symbols l t are is made = made ∙ ap (λ (x : Layout). tables_by x ps) (layout_is ps symbols l are is)
