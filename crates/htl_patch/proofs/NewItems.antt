-- The items of both programs with their new numbers, by where they lie in memory.
use Rattle.std.proofs.Common.{◌≡◌, ◌≤◌, ◌<◌, ◌+◌, ◌-◌, ℕ, Bool, true, false, cond, eqb, List, [], ◌++◌, length, length-append, map, get_or, slice_get, Option, Some, None, IfSome, option_map, refl, sym, ◌∙◌, ap, subst, arith}
use Rattle.htl_patch.proofs.Words.{length-map, slice_get_within, get_or_from_slice_get, AreInRange, IsModeInRange, IsPortInRange, IsTaskInRange, IsInvInRange, IsSwitchInRange, IsModeThat, Tables, Inv, Mode, Module, Port, Switch, Task, ArePlaces, HasPlaces, placed, placed_mode, placed_module, placed_port, placed_task, placed_inv, placed_switch, Numbering, place_among, mode_at, module_at, port_at, task_at, inv_at, switch_at, new_mode, new_module, new_port, new_task, new_inv, new_switch, Replacement, combined, donor_mode, donor_module, donor_port, donor_task, donor_inv, donor_switch, refined_mode, donor_parent, NewNumbers, all_at, get_back, get_front, get_mapped}
use Rattle.htl_base.specs.declared.Ty.TheVariants as ty
use Rattle.htl_patch.proofs.PlacedLaws.{has_item, units_size, modes_size, unit_front, unit_back, mode_front, mode_back, host_module, guest_module, refined_within, host_switch, guest_switch, host_inv, guest_inv, host_has_places, guest_has_places}

-- an item that lies in front
pub here : {A : Type 0} (xs ys front : List A) (k : ℕ) (x d : A) → front ≡ xs → k < length front → x ≡ get_or front k x → (slice_get xs k ≡ Some x) × (get_or (xs ++ ys) k d ≡ x)
here xs ys front k x d same less is =
    let at = subst (λ zs. slice_get zs k ≡ Some x) same (has_item front k x less is) in
    (at, get_or_from_slice_get (xs ++ ys) k x d (get_front xs ys k x at))

-- an item that lies behind
pub there : {A B : Type 0} (f : B → A) (xs front : List A) (ys back : List B) (k : ℕ) (x : B) (d : A) → front ≡ xs → back ≡ ys → length front ≤ k → k < length (xs ++ map f ys)
    → x ≡ get_or back (k - length front) x → (slice_get ys (k - length front) ≡ Some x) × (get_or (xs ++ map f ys) k d ≡ f x)
there f xs front ys back k x d same other le less is =
    let size = ap length same in
    let end = ap length other in
    let sum = length-append xs (map f ys) in
    let images = length-map ys f in
    let at = subst (λ zs. slice_get zs (k - length front) ≡ Some x) other (has_item back (k - length front) x (omega (arith, le, less, size, end, sum, images)) is) in
    let place : length xs + (k - length front) ≡ k = omega (arith, le, size) in
    let moved = subst (λ (m : ℕ). slice_get (xs ++ map f ys) m ≡ Some (f x)) place (get_back xs (map f ys) (k - length front) ∙ get_mapped f ys (k - length front) x at) in
    (at, get_or_from_slice_get (xs ++ map f ys) k (f x) d moved)

-- an item in front with the new number of its owner, which is one of `m`
owned_here : {A : Type 0} (own : A → ℕ) (set : A → ℕ → A) (xs ys front : List A) (k m : ℕ) (x d : A) (places items keys : List ℕ) → (slice_get xs k ≡ Some x → own x < m)
    → ((j : ℕ) → j < m → placed items 0 j ≡ place_among j keys) → m ≤ length items → front ≡ xs → k < length front → x ≡ get_or front k x → places ≡ items
    → (0 + own x < length places) × (set x (placed places 0 (own x)) ≡ set (get_or (xs ++ ys) k d) (place_among (own (get_or (xs ++ ys) k d)) keys))
owned_here own set xs ys front k m x d places items keys low new size same less is view =
    let it = here xs ys front k x d same less is in
    rw view (omega (arith, low it.0, size), ap (set x) (new (own x) (low it.0)) ∙ ap (λ y. set y (place_among (own y) keys)) (sym it.1))

-- an item behind, of which the owner is one of `o` that stand behind `m`
owned_there : {A : Type 0} (own : A → ℕ) (set : A → ℕ → A) (move : A → A) (xs ys front back : List A) (k before m o : ℕ) (x d : A) (places items keys : List ℕ)
    → ((y : A) → set (move y) (place_among (own (move y)) keys) ≡ set y (place_among (m + own y) keys)) → (slice_get ys (k - length front) ≡ Some x → own x < o)
    → ((j : ℕ) → j < o → placed items m j ≡ place_among (m + j) keys) → m + o ≤ length items → front ≡ xs → back ≡ ys → length front ≤ k → k < length (xs ++ map move ys)
    → x ≡ get_or back (k - length front) x → places ≡ items → before ≡ m → (before + own x < length places)
    × (set x (placed places before (own x)) ≡ set (get_or (xs ++ map move ys) k d) (place_among (own (get_or (xs ++ map move ys) k d)) keys))
owned_there own set move xs ys front back k before m o x d places items keys moved low new size same other le less is view begins =
    let it = there move xs front ys back k x d same other le less is in
    rw (view, begins) (
      omega (arith, low it.0, size),
      ap (set x) (new (own x) (low it.0)) ∙ sym (moved x) ∙ ap (λ y. set y (place_among (own y) keys)) (sym it.1),
    )

-- the mode that a module of the donor refines has a small number
pub refined_small : (g : Replacement) (host : AreInRange g.host) (donor : AreInRange g.donor) (parent : Option ℕ) (k : ℕ) → g.patched_mode < length g.host.modes
    → IfSome parent (λ m. m < length g.donor.modes) → parent ≡ Some k → refined_mode g k < 65536
refined_small g host donor parent k into within is = by (eqb k g.replacing_mode) (subst (λ (o : Option ℕ). IfSome o (λ m. m < length g.donor.modes)) is within) host.few_modes donor.few_modes
  where
    by : (b : Bool) → k < length g.donor.modes → length g.host.modes ≤ 256 → length g.donor.modes ≤ 256 → cond b g.patched_mode (length g.host.modes + k) < 65536
    by true low a d = omega (arith, into, a)
    by false low a d = omega (arith, low, a, d)

module _ (g : Replacement) (host : AreInRange g.host) (donor : AreInRange g.donor) (n : Numbering) (p : NewNumbers) (are : ArePlaces (combined g) n p) where
  abbrev h : ℕ
  h = length g.host.modules

  abbrev hm : ℕ
  hm = length g.host.modes

  pub mode_here : (front : List Mode) (k : ℕ) (x : Mode) (places : List ℕ) → front ≡ g.host.modes → k < length front → x ≡ get_or front k x → places ≡ p.units.items
      → (0 + x.«module» < length places) × (placed_mode places 0 x ≡ new_mode n (mode_at (combined g) k))
  mode_here front k x places =
      owned_here (λ (y : Mode). y.«module») (λ y v. record y { «module» = v }) g.host.modes (map (donor_mode g) g.donor.modes) front k h x _ places p.units.items n.modules
      (λ e. (all_at (IsModeInRange g.host) g.host.modes k x host.modes e).owner) (unit_front g host donor n p are) (omega (arith, units_size g host donor n p are))

  pub mode_there : (front back : List Mode) (k before : ℕ) (x : Mode) (places : List ℕ) → front ≡ g.host.modes → back ≡ g.donor.modes → length front ≤ k → k < length (combined g).modes
      → x ≡ get_or back (k - length front) x → places ≡ p.units.items → before ≡ h
      → (before + x.«module» < length places) × (placed_mode places before x ≡ new_mode n (mode_at (combined g) k))
  mode_there front back k before x places =
      owned_there (λ (y : Mode). y.«module») (λ y v. record y { «module» = v }) (donor_mode g) g.host.modes g.donor.modes front back k before h (length g.donor.modules) x _
      places p.units.items n.modules (λ y. refl) (λ e. (all_at (IsModeInRange g.donor) g.donor.modes (k - length front) x donor.modes e).owner) (unit_back g host donor n p are)
      (omega (arith, units_size g host donor n p are))

  pub task_here : (front : List Task) (k : ℕ) (x : Task) (places : List ℕ) → front ≡ g.host.tasks → k < length front → x ≡ get_or front k x → places ≡ p.units.items
      → (0 + x.«module» < length places) × (placed_task places 0 x ≡ new_task n (task_at (combined g) k))
  task_here front k x places =
      owned_here (λ (y : Task). y.«module») (λ y v. record y { «module» = v }) g.host.tasks (map (donor_task g) g.donor.tasks) front k h x _ places p.units.items n.modules
      (λ e. (all_at (IsTaskInRange g.host) g.host.tasks k x host.tasks e).owner) (unit_front g host donor n p are) (omega (arith, units_size g host donor n p are))

  pub task_there : (front back : List Task) (k before : ℕ) (x : Task) (places : List ℕ) → front ≡ g.host.tasks → back ≡ g.donor.tasks → length front ≤ k → k < length (combined g).tasks
      → x ≡ get_or back (k - length front) x → places ≡ p.units.items → before ≡ h
      → (before + x.«module» < length places) × (placed_task places before x ≡ new_task n (task_at (combined g) k))
  task_there front back k before x places =
      owned_there (λ (y : Task). y.«module») (λ y v. record y { «module» = v }) (donor_task g) g.host.tasks g.donor.tasks front back k before h (length g.donor.modules) x _
      places p.units.items n.modules (λ y. refl) (λ e. (all_at (IsTaskInRange g.donor) g.donor.tasks (k - length front) x donor.tasks e).owner) (unit_back g host donor n p are)
      (omega (arith, units_size g host donor n p are))

  pub port_here : (front : List Port) (k : ℕ) (x : Port) (places : List ℕ) → front ≡ g.host.ports → k < length front → x ≡ get_or front k x → places ≡ p.modes.items
      → (0 + x.mode < length places) × (placed_port places 0 x ≡ new_port n (port_at (combined g) k))
  port_here front k x places =
      owned_here (λ (y : Port). y.mode) (λ y v. record y { mode = v }) g.host.ports (map (donor_port g) g.donor.ports) front k hm x _ places p.modes.items n.modes
      (λ e. all_at (IsPortInRange g.host) g.host.ports k x host.ports e) (mode_front g host donor n p are) (omega (arith, modes_size g host donor n p are))

  pub port_there : (front back : List Port) (k before : ℕ) (x : Port) (places : List ℕ) → front ≡ g.host.ports → back ≡ g.donor.ports → length front ≤ k → k < length (combined g).ports
      → x ≡ get_or back (k - length front) x → places ≡ p.modes.items → before ≡ hm
      → (before + x.mode < length places) × (placed_port places before x ≡ new_port n (port_at (combined g) k))
  port_there front back k before x places =
      owned_there (λ (y : Port). y.mode) (λ y v. record y { mode = v }) (donor_port g) g.host.ports g.donor.ports front back k before hm (length g.donor.modes) x _
      places p.modes.items n.modes (λ y. refl) (λ e. all_at (IsPortInRange g.donor) g.donor.ports (k - length front) x donor.ports e) (mode_back g host donor n p are)
      (omega (arith, modes_size g host donor n p are))

  pub switch_here : (front : List Switch) (k : ℕ) (x : Switch) (places : List ℕ) → front ≡ g.host.switches → k < length front → x ≡ get_or front k x → places ≡ p.modes.items
      → (0 + x.mode < length places) × (0 + x.target < length places) × (placed_switch places 0 x ≡ new_switch n (switch_at (combined g) k))
  switch_here front k x places same less is are_places =
      let none : Switch = record { mode = 0; target = 0; reads = [] } in
      let it = here g.host.switches (map (donor_switch g) g.donor.switches) front k x none same less is in
      let r = all_at (IsSwitchInRange g.host) g.host.switches k x host.switches it.0 in
      let target = slice_get_within g.host.modes x.target r.target.0 r.target.1 in
      let size = modes_size g host donor n p are in
      rw are_places (omega (arith, r.owner, size), omega (arith, target, size), host_switch g host donor n p are x r.owner target ∙ ap (new_switch n) (sym it.1))

  pub switch_there : (front back : List Switch) (k before : ℕ) (x : Switch) (places : List ℕ) → front ≡ g.host.switches → back ≡ g.donor.switches → length front ≤ k
      → k < length (combined g).switches → x ≡ get_or back (k - length front) x → places ≡ p.modes.items → before ≡ hm
      → (before + x.mode < length places) × (before + x.target < length places) × (placed_switch places before x ≡ new_switch n (switch_at (combined g) k))
  switch_there front back k before x places same other le less is are_places begins =
      let none : Switch = record { mode = 0; target = 0; reads = [] } in
      let it = there (donor_switch g) g.host.switches front g.donor.switches back k x none same other le less is in
      let r = all_at (IsSwitchInRange g.donor) g.donor.switches (k - length front) x donor.switches it.0 in
      let target = slice_get_within g.donor.modes x.target r.target.0 r.target.1 in
      let size = modes_size g host donor n p are in
      rw (are_places, begins)
      (omega (arith, r.owner, size), omega (arith, target, size), guest_switch g host donor n p are x r.owner target ∙ ap (new_switch n) (sym it.1))

  parent_in : (t : Tables) (fits : ℕ → Type 0) (o : Option ℕ) → IfSome o (IsModeThat t fits) → IfSome o (λ k. k < length t.modes)
  parent_in t fits None r = tt
  parent_in t fits (Some k) r = slice_get_within t.modes k r.0 r.1

  wide : (o : Option ℕ) (m l : ℕ) → m ≤ l → IfSome o (λ k. k < m) → IfSome o (λ k. k < l)
  wide None m l le r = tt
  wide (Some k) m l le r = omega (arith, le, r)

  pub module_here : (front : List Module) (k : ℕ) (x : Module) (places : List ℕ) → front ≡ g.host.modules → k < length front → x ≡ get_or front k x → places ≡ p.modes.items
      → (0 + x.start < length places) × IfSome x.parent (λ k. k < length places) × (placed_module places 0 x.parent x ≡ new_module n (module_at (combined g) k))
  module_here front k x places same less is are_places =
      let none : Module = record { name = []; parent = None; start = 0 } in
      let it = here g.host.modules (map (donor_module g) g.donor.modules) front k x none same less is in
      let r = host.modules k x it.0 in
      let start = slice_get_within g.host.modes x.start r.start.0 r.start.1 in
      let parent = parent_in g.host (λ owner. owner < k) x.parent r.parent in
      let size = modes_size g host donor n p are in
      rw are_places (
        omega (arith, start, size),
        wide x.parent hm (length p.modes.items) (omega (arith, size)) parent,
        host_module g host donor n p are x start parent ∙ ap (new_module n) (sym it.1),
      )

  -- the parent of a module of the donor is a mode there
  pub guest_parent_in : (front back : List Module) (k : ℕ) (x : Module) → front ≡ g.host.modules → back ≡ g.donor.modules → length front ≤ k
      → k < length (combined g).modules → x ≡ get_or back (k - length front) x → IfSome x.parent (λ k. k < length g.donor.modes)
  guest_parent_in front back k x same other le less is =
      let it = there (donor_module g) g.host.modules front g.donor.modules back k x x same other le less is in
      parent_in g.donor (λ owner. owner < k - length front) x.parent (donor.modules (k - length front) x it.0).parent

  pub module_there : (front back : List Module) (k before : ℕ) (x : Module) (parent : Option ℕ) (places : List ℕ) → g.patched_mode < hm → front ≡ g.host.modules → back ≡ g.donor.modules → length front ≤ k
      → k < length (combined g).modules → x ≡ get_or back (k - length front) x → places ≡ p.modes.items → before ≡ hm → parent ≡ option_map (refined_mode g) x.parent
      → (before + x.start < length places) × IfSome parent (λ k. k < length places) × (placed_module places before parent x ≡ new_module n (module_at (combined g) k))
  module_there front back k before x parent places into same other le less is are_places begins refined =
      let none : Module = record { name = []; parent = None; start = 0 } in
      let it = there (donor_module g) g.host.modules front g.donor.modules back k x none same other le less is in
      let r = donor.modules (k - length front) x it.0 in
      let start = slice_get_within g.donor.modes x.start r.start.0 r.start.1 in
      let above = parent_in g.donor (λ owner. owner < k - length front) x.parent r.parent in
      let within = refined_within g host donor n p are x.parent into above in
      rw (are_places, begins, refined) (
        omega (arith, start, modes_size g host donor n p are),
        wide (option_map (refined_mode g) x.parent) (length (combined g).modes) (length p.modes.items) (omega (arith, are.modes.size)) within,
        guest_module g host donor n p are x into start above ∙ ap (new_module n) (sym it.1),
      )

  pub inv_here : (front : List Inv) (k : ℕ) (x : Inv) → front ≡ g.host.invs → k < length front → x ≡ get_or front k x
      → HasPlaces p 0 0 0 x.parent x × (placed_inv p 0 0 0 x.parent x ≡ new_inv n (inv_at (combined g) k))
  inv_here front k x same less is =
      let none : Inv = record { mode = 0; task = 0; parent = None; reads = []; writes = [] } in
      let it = here g.host.invs (map (donor_inv g) g.donor.invs) front k x none same less is in
      let r = all_at (IsInvInRange g.host) g.host.invs k x host.invs it.0 in
      (host_has_places g host donor n p are x r, host_inv g host donor n p are x r ∙ ap (new_inv n) (sym it.1))

  pub inv_parent_in : (front back : List Inv) (k : ℕ) (x : Inv) → front ≡ g.host.invs → back ≡ g.donor.invs → length front ≤ k
      → k < length (combined g).invs → x ≡ get_or back (k - length front) x → IfSome x.parent (λ k. k < length g.donor.invs)
  inv_parent_in front back k x same other le less is =
      let it = there (donor_inv g) g.host.invs front g.donor.invs back k x x same other le less is in
      (all_at (IsInvInRange g.donor) g.donor.invs (k - length front) x donor.invs it.0).parent

  pub inv_there : (front back : List Inv) (k modes tasks ports : ℕ) (x : Inv) (parent : Option ℕ) → front ≡ g.host.invs → back ≡ g.donor.invs → length front ≤ k
      → k < length (combined g).invs → x ≡ get_or back (k - length front) x → modes ≡ hm → tasks ≡ length g.host.tasks → ports ≡ length g.host.ports
      → parent ≡ option_map (donor_parent g) x.parent
      → HasPlaces p modes tasks ports parent x × (placed_inv p modes tasks ports parent x ≡ new_inv n (inv_at (combined g) k))
  inv_there front back k modes tasks ports x parent same other le less is begin_modes begin_tasks begin_ports stands =
      let none : Inv = record { mode = 0; task = 0; parent = None; reads = []; writes = [] } in
      let it = there (donor_inv g) g.host.invs front g.donor.invs back k x none same other le less is in
      let r = all_at (IsInvInRange g.donor) g.donor.invs (k - length front) x donor.invs it.0 in
      rw (begin_modes, begin_tasks, begin_ports, stands)
      (guest_has_places g host donor n p are x r, guest_inv g host donor n p are x r ∙ ap (new_inv n) (sym it.1))
