-- Items with the new numbers that lists of new numbers tell are the renumbered ones.
use Rattle.std.proofs.Common.{◌≡◌, ◌≤◌, ◌<◌, ◌+◌, ◌-◌, ℕ, cond, Bool, true, false, eqb, List, [], ◌∷◌, ◌++◌, length, length-append, map, get_or, slice_get, Option, Some, None, IfSome, option_map, All, refl, sym, ◌∙◌, ap, arith}
use Rattle.htl_patch.proofs.Words.{length-map, slice_get_within, slice_get-get_or, AreInRange, IsInvInRange, IsEndInRange, Tables, End, Inv, Module, Port, Switch, ArePlacesOf, ArePlaces, HasPlace, HasPlaces, placed, placed_module, placed_end, placed_inv, placed_switch, Numbering, place_among, new_module, new_end, new_inv, new_switch, Replacement, combined, donor_mode, donor_module, donor_port, donor_task, donor_end, donor_inv, donor_switch, refined_mode, donor_parent, invs_named, invoked_name, invokes_named, belongs_to_mode, NewNumbers, all_at}
use Rattle.htl_model.specs.declared.parts.End.TheVariants as E
use Rattle.htl_patch.proofs.Members.{Has, map_map, map_on, of_places_0}

-- ---- an item of both programs, by its number

pub has_item : {A : Type 0} (xs : List A) (k : ℕ) (x : A) → k < length xs → x ≡ get_or xs k x → slice_get xs k ≡ Some x
has_item xs k x less is = slice_get-get_or xs k x less ∙ ap (λ y. Some y) (sym is)

all_places : (P : End → Type 0) (Q : End → Type 0) (es : List End) → All P es → ((e : End) → P e → Q e) → All Q es
all_places P Q es p f k d less = f (get_or es k d) (p k d less)

module _ (g : Replacement) (host : AreInRange g.host) (donor : AreInRange g.donor) (n : Numbering) (p : NewNumbers) (are : ArePlaces (combined g) n p) where
  abbrev h : ℕ
  h = length g.host.modules

  abbrev hm : ℕ
  hm = length g.host.modes

  in_both : {A B : Type 0} (f : B → A) (xs : List A) (ys : List B) → length (xs ++ map f ys) ≡ length xs + length ys
  in_both f xs ys = length-append xs (map f ys) ∙ ap (λ (n : ℕ). length xs + n) (length-map ys f)

  units_count : length (combined g).modules ≡ h + length g.donor.modules
  units_count = in_both (donor_module g) g.host.modules g.donor.modules

  modes_count : length (combined g).modes ≡ hm + length g.donor.modes
  modes_count = in_both (donor_mode g) g.host.modes g.donor.modes

  ports_count : length (combined g).ports ≡ length g.host.ports + length g.donor.ports
  ports_count = in_both (donor_port g) g.host.ports g.donor.ports

  tasks_count : length (combined g).tasks ≡ length g.host.tasks + length g.donor.tasks
  tasks_count = in_both (donor_task g) g.host.tasks g.donor.tasks

  invs_count : length (combined g).invs ≡ length g.host.invs + length g.donor.invs
  invs_count = in_both (donor_inv g) g.host.invs g.donor.invs

  -- the new number of an item of the host, and of one of the donor
  front : (count : ℕ) (keys places : List ℕ) (k : ℕ) → ArePlacesOf count keys places → k < count → placed places 0 k ≡ place_among k keys
  front count keys places k a less = let same : 0 + k ≡ k = omega arith in ap (λ (m : ℕ). get_or places m 0) same ∙ a.at k less

  pub unit_front : (k : ℕ) → k < h → placed p.units.items 0 k ≡ place_among k n.modules
  unit_front k less = front (length (combined g).modules) n.modules p.units.items k are.units (omega (arith, less, units_count))

  pub unit_back : (k : ℕ) → k < length g.donor.modules → placed p.units.items h k ≡ place_among (h + k) n.modules
  unit_back k less = are.units.at (h + k) (omega (arith, less, units_count))

  pub mode_front : (k : ℕ) → k < hm → placed p.modes.items 0 k ≡ place_among k n.modes
  mode_front k less = front (length (combined g).modes) n.modes p.modes.items k are.modes (omega (arith, less, modes_count))

  pub mode_back : (k : ℕ) → k < length g.donor.modes → placed p.modes.items hm k ≡ place_among (hm + k) n.modes
  mode_back k less = are.modes.at (hm + k) (omega (arith, less, modes_count))

  pub units_size : length p.units.items ≡ h + length g.donor.modules
  units_size = are.units.size ∙ units_count

  pub modes_size : length p.modes.items ≡ hm + length g.donor.modes
  modes_size = are.modes.size ∙ modes_count

  -- ---- modules

  parent_placed : (o : Option ℕ) → IfSome o (λ k. k < length (combined g).modes) → option_map (λ (k : ℕ). get_or p.modes.items k 0) o ≡ option_map (λ (k : ℕ). place_among k n.modes) o
  parent_placed None less = refl
  parent_placed (Some k) less = ap (λ (m : ℕ). Some m) (are.modes.at k less)

  abbrev make_module : Module → Option ℕ → ℕ → Module
  make_module x parent start = record x { parent = parent; start = start }

  pub host_module : (x : Module) → x.start < hm → IfSome x.parent (λ k. k < hm) → placed_module p.modes.items 0 x.parent x ≡ new_module n x
  host_module x start parent =
      ap (λ (o : Option ℕ). make_module x o (placed p.modes.items 0 x.start)) (parent_placed x.parent (wider x.parent parent))
      ∙ ap (make_module x (option_map (λ (k : ℕ). place_among k n.modes) x.parent)) (mode_front x.start start)
    where
      wider : (o : Option ℕ) → IfSome o (λ k. k < hm) → IfSome o (λ k. k < length (combined g).modes)
      wider None less = tt
      wider (Some k) less = omega (arith, less, modes_count)

  -- the mode that is refined is one of both
  pub refined_within : (o : Option ℕ) → g.patched_mode < hm → IfSome o (λ k. k < length g.donor.modes) → IfSome (option_map (refined_mode g) o) (λ k. k < length (combined g).modes)
  refined_within None into less = tt
  refined_within (Some k) into less = by (eqb k g.replacing_mode)
    where
      by : (b : Bool) → cond b g.patched_mode (hm + k) < length (combined g).modes
      by true = omega (arith, into, modes_count)
      by false = omega (arith, less, modes_count)

  pub guest_module : (x : Module) → g.patched_mode < hm → x.start < length g.donor.modes → IfSome x.parent (λ k. k < length g.donor.modes)
      → placed_module p.modes.items hm (option_map (refined_mode g) x.parent) x ≡ new_module n (donor_module g x)
  guest_module x into start parent =
      ap (λ (o : Option ℕ). make_module x o (placed p.modes.items hm x.start)) (parent_placed (option_map (refined_mode g) x.parent) (refined_within x.parent into parent))
      ∙ ap (make_module x (option_map (λ (k : ℕ). place_among k n.modes) (option_map (refined_mode g) x.parent))) (mode_back x.start start)

  -- ---- switches

  abbrev make_switch : Switch → ℕ → ℕ → Switch
  make_switch x mode target = record x { mode = mode; target = target }

  pub host_switch : (x : Switch) → x.mode < hm → x.target < hm → placed_switch p.modes.items 0 x ≡ new_switch n x
  host_switch x less target =
      ap (λ (k : ℕ). make_switch x k (placed p.modes.items 0 x.target)) (mode_front x.mode less) ∙ ap (make_switch x (place_among x.mode n.modes)) (mode_front x.target target)

  pub guest_switch : (x : Switch) → x.mode < length g.donor.modes → x.target < length g.donor.modes → placed_switch p.modes.items hm x ≡ new_switch n (donor_switch g x)
  guest_switch x less target =
      ap (λ (k : ℕ). make_switch x k (placed p.modes.items hm x.target)) (mode_back x.mode less) ∙ ap (make_switch x (place_among (hm + x.mode) n.modes)) (mode_back x.target target)

  -- ---- invocations

  pub ports_size : length p.ports.items ≡ length g.host.ports + length g.donor.ports
  ports_size = are.ports.size ∙ ports_count

  host_end : (m : ℕ) (e : End) → IsEndInRange g.host m e → placed_end p.ports.items 0 e ≡ new_end n e
  host_end m (E.Comm c k) r = refl
  host_end m (E.Port q) r =
      let w = slice_get_within g.host.ports q r.0 r.1 in
      ap (λ (k : ℕ). E.Port k) (front (length (combined g).ports) n.ports p.ports.items q are.ports (omega (arith, w, ports_count)))

  guest_end : (m : ℕ) (e : End) → IsEndInRange g.donor m e → placed_end p.ports.items (length g.host.ports) e ≡ new_end n (donor_end g e)
  guest_end m (E.Comm c k) r = refl
  guest_end m (E.Port q) r =
      let w = slice_get_within g.donor.ports q r.0 r.1 in
      ap (λ (k : ℕ). E.Port k) (are.ports.at (length g.host.ports + q) (omega (arith, w, ports_count)))

  host_ends : (m : ℕ) (es : List End) → All (IsEndInRange g.host m) es → map (placed_end p.ports.items 0) es ≡ map (new_end n) es
  host_ends m es all = map_on (placed_end p.ports.items 0) (new_end n) es (λ e i. host_end m e (all_at (IsEndInRange g.host m) es i.0 e all i.1))

  guest_ends : (m : ℕ) (es : List End) → All (IsEndInRange g.donor m) es → map (placed_end p.ports.items (length g.host.ports)) es ≡ map (new_end n) (map (donor_end g) es)
  guest_ends m es all =
      map_on (placed_end p.ports.items (length g.host.ports)) (λ e. new_end n (donor_end g e)) es (λ e i. guest_end m e (all_at (IsEndInRange g.donor m) es i.0 e all i.1))
      ∙ sym (map_map (new_end n) (donor_end g) es)

  inv_placed : (o : Option ℕ) → IfSome o (λ k. k < length (combined g).invs) → option_map (λ (k : ℕ). get_or p.invs.items k 0) o ≡ option_map (λ (k : ℕ). place_among k n.invs) o
  inv_placed None less = refl
  inv_placed (Some k) less = ap (λ (m : ℕ). Some m) (are.invs.at k less)

  abbrev make_inv : ℕ → ℕ → Option ℕ → List End → List End → Inv
  make_inv mode task parent reads writes = record { mode = mode; task = task; parent = parent; reads = reads; writes = writes }

  same_inv : (mode task mode' task' : ℕ) (parent parent' : Option ℕ) (reads writes reads' writes' : List End) → mode ≡ mode' → task ≡ task' → parent ≡ parent' → reads ≡ reads' → writes ≡ writes'
      → make_inv mode task parent reads writes ≡ make_inv mode' task' parent' reads' writes'
  same_inv mode task mode' task' parent parent' reads writes reads' writes' a b c d e =
      ap (λ (k : ℕ). make_inv k task parent reads writes) a
      ∙ ap (λ (k : ℕ). make_inv mode' k parent reads writes) b
      ∙ ap (λ (o : Option ℕ). make_inv mode' task' o reads writes) c
      ∙ ap (λ (es : List End). make_inv mode' task' parent' es writes) d
      ∙ ap (make_inv mode' task' parent' reads') e

  task_front : (k : ℕ) → k < length g.host.tasks → placed p.tasks.items 0 k ≡ place_among k n.tasks
  task_front k less = front (length (combined g).tasks) n.tasks p.tasks.items k are.tasks (omega (arith, less, tasks_count))

  host_parent : (o : Option ℕ) → IfSome o (λ k. k < length g.host.invs) → IfSome o (λ k. k < length (combined g).invs)
  host_parent None less = tt
  host_parent (Some k) less = omega (arith, less, invs_count)

  invocations_low : (ks : List ℕ) (m : ℕ) → ((k : ℕ) → Has ks k → k < m) → 0 < m → get_or ks 0 0 < m
  invocations_low [] m all less = less
  invocations_low (k ∷ ks) m all less = all k (0, refl)

  -- what stands for a parent of the donor is an invocation of both
  guest_parent : (o : Option ℕ) → IfSome o (λ k. k < length g.donor.invs) → IfSome (option_map (donor_parent g) o) (λ k. k < length (combined g).invs)
  guest_parent None less = tt
  guest_parent (Some k) less = by (belongs_to_mode g.donor g.replacing_mode k)
    where
      by : (b : Bool) → cond b (get_or (invs_named g.host g.patched_mode (invoked_name g.donor k)) 0 0) (length g.host.invs + k) < length (combined g).invs
      by true =
          invocations_low (invs_named g.host g.patched_mode (invoked_name g.donor k)) (length (combined g).invs)
          (λ m i. (let r = of_places_0 (invokes_named g.host g.patched_mode (invoked_name g.donor k)) g.host.invs m i in let w = slice_get_within g.host.invs m r.0 r.1 in omega (arith, w, invs_count)))
          (omega (arith, less, invs_count))
      by false = omega (arith, less, invs_count)

  pub host_inv : (x : Inv) → IsInvInRange g.host x → placed_inv p 0 0 0 x.parent x ≡ new_inv n x
  host_inv x r =
      let w = slice_get_within g.host.tasks x.task r.task.0 r.task.1 in
      same_inv (placed p.modes.items 0 x.mode) (placed p.tasks.items 0 x.task) (place_among x.mode n.modes) (place_among x.task n.tasks)
      (option_map (λ (k : ℕ). get_or p.invs.items k 0) x.parent) (option_map (λ (k : ℕ). place_among k n.invs) x.parent)
      (map (placed_end p.ports.items 0) x.reads) (map (placed_end p.ports.items 0) x.writes) (map (new_end n) x.reads) (map (new_end n) x.writes)
      (mode_front x.mode r.owner) (task_front x.task w) (inv_placed x.parent (host_parent x.parent r.parent)) (host_ends x.mode x.reads r.reads) (host_ends x.mode x.writes r.writes)

  pub guest_inv : (x : Inv) → IsInvInRange g.donor x
      → placed_inv p hm (length g.host.tasks) (length g.host.ports) (option_map (donor_parent g) x.parent) x ≡ new_inv n (donor_inv g x)
  guest_inv x r =
      let w = slice_get_within g.donor.tasks x.task r.task.0 r.task.1 in
      let parent = option_map (donor_parent g) x.parent in
      same_inv (placed p.modes.items hm x.mode) (placed p.tasks.items (length g.host.tasks) x.task) (place_among (hm + x.mode) n.modes) (place_among (length g.host.tasks + x.task) n.tasks)
      (option_map (λ (k : ℕ). get_or p.invs.items k 0) parent) (option_map (λ (k : ℕ). place_among k n.invs) parent)
      (map (placed_end p.ports.items (length g.host.ports)) x.reads) (map (placed_end p.ports.items (length g.host.ports)) x.writes)
      (map (new_end n) (map (donor_end g) x.reads)) (map (new_end n) (map (donor_end g) x.writes))
      (mode_back x.mode r.owner) (are.tasks.at (length g.host.tasks + x.task) (omega (arith, w, tasks_count))) (inv_placed parent (guest_parent x.parent r.parent))
      (guest_ends x.mode x.reads r.reads) (guest_ends x.mode x.writes r.writes)

  end_place : (m before count : ℕ) (t : Tables) (e : End) → before + length t.ports ≤ count → IsEndInRange t m e → HasPlace count before e
  end_place m before count t (E.Comm c k) le r = tt
  end_place m before count t (E.Port q) le r = let w = slice_get_within t.ports q r.0 r.1 in omega (arith, w, le)

  ends_places : (m before count : ℕ) (t : Tables) (es : List End) → before + length t.ports ≤ count → All (IsEndInRange t m) es → All (HasPlace count before) es
  ends_places m before count t es le all = all_places (IsEndInRange t m) (HasPlace count before) es all (λ e r. end_place m before count t e le r)

  wide_parent : (o : Option ℕ) → IfSome o (λ k. k < length (combined g).invs) → IfSome o (λ k. k < length p.invs.items)
  wide_parent None less = tt
  wide_parent (Some k) less = let size = are.invs.size in omega (arith, less, size)

  pub host_has_places : (x : Inv) → IsInvInRange g.host x → HasPlaces p 0 0 0 x.parent x
  host_has_places x r =
      let w = slice_get_within g.host.tasks x.task r.task.0 r.task.1 in
      let tasks = are.tasks.size in
      let size = ports_size in
      let modes = modes_size in
      record {
        mode = omega (arith, r.owner, modes);
        task = omega (arith, w, tasks, tasks_count);
        parent_in = wide_parent x.parent (host_parent x.parent r.parent);
        reads = ends_places x.mode 0 (length p.ports.items) g.host x.reads (omega (arith, size)) r.reads;
        writes = ends_places x.mode 0 (length p.ports.items) g.host x.writes (omega (arith, size)) r.writes;
      }

  pub guest_has_places : (x : Inv) → IsInvInRange g.donor x → HasPlaces p hm (length g.host.tasks) (length g.host.ports) (option_map (donor_parent g) x.parent) x
  guest_has_places x r =
      let w = slice_get_within g.donor.tasks x.task r.task.0 r.task.1 in
      let tasks = are.tasks.size in
      let size = ports_size in
      let modes = modes_size in
      record {
        mode = omega (arith, r.owner, modes);
        task = omega (arith, w, tasks, tasks_count);
        parent_in = wide_parent (option_map (donor_parent g) x.parent) (guest_parent x.parent r.parent);
        reads = ends_places x.mode (length g.host.ports) (length p.ports.items) g.donor x.reads (omega (arith, size)) r.reads;
        writes = ends_places x.mode (length g.host.ports) (length p.ports.items) g.donor x.writes (omega (arith, size)) r.writes;
      }
