-- The old numbers of what is taken over, by lists of owners; each is that of an item.
use Rattle.std.proofs.Common.{◌≡◌, ◌≤◌, ◌<◌, ℕ, zero, suc, List, [], ◌∷◌, ◌++◌, length, map, All, length-append, refl, ◌∙◌, ap, subst, arith}
use Rattle.htl_patch.proofs.Words.{flat_map, length-map, slice_get_within, same_Some, Inv, Mode, Port, Switch, Task, root_modules, modes_of, invs_of, Tables, is_owner, owned_by, mode_owners, port_owners, task_owners, inv_owners, switch_owners, mode_children, children, below, order, new_numbers, ports_of, tasks_of, switches_of, Replacement, donor_module, combined, get_front}
use Rattle.htl_patch.proofs.{BothOwners.both_few, BothOwners.modes_owned, BothOwners.tasks_owned, BothOwners.ports_owned, BothOwners.invs_owned, BothOwners.switches_owned, CountLaws.few_apart, Counting.all_from}
use Rattle.htl_patch.proofs.{Replacing.CanReplace, Replacing.host_root, Replacing.child_there, Replacing.order_apart, Members.Has, Members.none, Members.of_flat, Members.places_map}
use Rattle.htl_patch.proofs.Renumbering.{mode_there, task_there, port_there, inv_there, switch_there, modes_apart, tasks_apart, ports_apart, invs_apart, switches_apart}

flat_on : {A : Type 0} (f g : ℕ → List A) (xs : List ℕ) → ((x : ℕ) → f x ≡ g x) → flat_map f xs ≡ flat_map g xs
flat_on f g [] same = refl
flat_on f g (x ∷ xs) same = ap (λ ys. ys ++ flat_map f xs) (same x) ∙ ap (λ ys. g x ++ ys) (flat_on f g xs same)

module _ (t : Tables) (us : List ℕ) where
  pub owned_modes : flat_map (owned_by (mode_owners t)) us ≡ flat_map (modes_of t) us
  owned_modes = flat_on (owned_by (mode_owners t)) (modes_of t) us (λ m. places_map (is_owner m) (λ (x : Mode). x.«module») 0 t.modes)

  pub owned_ports : flat_map (owned_by (port_owners t)) us ≡ flat_map (ports_of t) us
  owned_ports = flat_on (owned_by (port_owners t)) (ports_of t) us (λ m. places_map (is_owner m) (λ (x : Port). x.mode) 0 t.ports)

  pub owned_tasks : flat_map (owned_by (task_owners t)) us ≡ flat_map (tasks_of t) us
  owned_tasks = flat_on (owned_by (task_owners t)) (tasks_of t) us (λ m. places_map (is_owner m) (λ (x : Task). x.«module») 0 t.tasks)

  pub owned_invs : flat_map (owned_by (inv_owners t)) us ≡ flat_map (invs_of t) us
  owned_invs = flat_on (owned_by (inv_owners t)) (invs_of t) us (λ m. places_map (is_owner m) (λ (x : Inv). x.mode) 0 t.invs)

  pub owned_switches : flat_map (owned_by (switch_owners t)) us ≡ flat_map (switches_of t) us
  owned_switches = flat_on (owned_by (switch_owners t)) (switches_of t) us (λ m. places_map (is_owner m) (λ (x : Switch). x.mode) 0 t.switches)

  -- the modes of modules are modes
  pub modes_within : All (λ m. m < length t.modes) (flat_map (modes_of t) us)
  modes_within =
      all_from (λ m. m < length t.modes) (flat_map (modes_of t) us)
      (λ m h. (let r = of_flat (modes_of t) us m h in let s = mode_there t r.0 m r.2 in slice_get_within t.modes m s.0 s.1))

  -- and so for what modules and modes own
  pub tasks_within : All (λ m. m < length t.tasks) (flat_map (tasks_of t) us)
  tasks_within =
      all_from (λ m. m < length t.tasks) (flat_map (tasks_of t) us)
      (λ m h. (let r = of_flat (tasks_of t) us m h in let s = task_there t r.0 m r.2 in slice_get_within t.tasks m s.0 s.1))

  pub ports_within : All (λ m. m < length t.ports) (flat_map (ports_of t) us)
  ports_within =
      all_from (λ m. m < length t.ports) (flat_map (ports_of t) us)
      (λ m h. (let r = of_flat (ports_of t) us m h in let s = port_there t r.0 m r.2 in slice_get_within t.ports m s.0 s.1))

  pub invs_within : All (λ m. m < length t.invs) (flat_map (invs_of t) us)
  invs_within =
      all_from (λ m. m < length t.invs) (flat_map (invs_of t) us)
      (λ m h. (let r = of_flat (invs_of t) us m h in let s = inv_there t r.0 m r.2 in slice_get_within t.invs m s.0 s.1))

  pub switches_within : All (λ m. m < length t.switches) (flat_map (switches_of t) us)
  switches_within =
      all_from (λ m. m < length t.switches) (flat_map (switches_of t) us)
      (λ m h. (let r = of_flat (switches_of t) us m h in let s = switch_there t r.0 m r.2 in slice_get_within t.switches m s.0 s.1))

module _ (g : Replacement) (c : CanReplace g) where
  child_within : (y z : ℕ) → Has (children g y) z → z < length (combined g).modules
  child_within y z h =
      let s = of_flat (mode_children g) (modes_of (combined g) y) z h in
      let m = child_there g c s.0 z s.2 in slice_get_within (combined g).modules z m.0 m.1

  below_within : (n y x : ℕ) → y < length (combined g).modules → Has (below (children g) n y) x → x < length (combined g).modules
  below_within zero y x less (zero, e) = subst (λ m. m < length (combined g).modules) (same_Some y x e) less
  below_within zero y x less (suc j, e) = absurd (none x j e)
  below_within (suc n) y x less (zero, e) = subst (λ m. m < length (combined g).modules) (same_Some y x e) less
  below_within (suc n) y x less (suc j, e) =
      let r = of_flat (below (children g) n) (children g y) x (j, e) in below_within n r.0 x (child_within y r.0 r.1) r.2

  -- the modules that are taken over are modules
  pub order_within : All (λ x. x < length (combined g).modules) (order g)
  order_within =
      all_from (λ x. x < length (combined g).modules) (order g)
      (λ x h. (let r = of_flat (below (children g) 14) (root_modules g.host) x h in
      let s = host_root g c r.0 r.1 in
      below_within 14 r.0 x
      (slice_get_within (combined g).modules r.0 s.0 (get_front g.host.modules (map (donor_module g) g.donor.modules) r.0 s.0 s.1)) r.2))

  -- not too many numbers are taken over
  pub few_units : length (new_numbers g).modules ≤ 16384
  few_units =
      let most = few_apart (order g) (length (combined g).modules) (order_apart g c) order_within in
      let both = length-append g.host.modules (map (donor_module g) g.donor.modules) in
      let back = length-map g.donor.modules (donor_module g) in
      let a = c.host.few_modules in
      let b = c.donor.few_modules in omega (arith, most, both, back, a, b)

  pub few_modes : length (new_numbers g).modes ≤ 16384
  few_modes =
      let most = few_apart (new_numbers g).modes (length (combined g).modes) (modes_apart (combined g) (order g) (order_apart g c)) (modes_within (combined g) (order g)) in
      let few = both_few (modes_owned g c.host c.donor) in
      let size = length-map (combined g).modes (λ (x : Mode). x.«module») in omega (arith, most, few, size)

  pub few_tasks : length (new_numbers g).tasks ≤ 16384
  few_tasks =
      let most = few_apart (new_numbers g).tasks (length (combined g).tasks) (tasks_apart (combined g) (order g) (order_apart g c)) (tasks_within (combined g) (order g)) in
      let few = both_few (tasks_owned g c.host c.donor) in
      let size = length-map (combined g).tasks (λ (x : Task). x.«module») in omega (arith, most, few, size)

  pub few_ports : length (new_numbers g).ports ≤ 16384
  few_ports =
      let most = few_apart (new_numbers g).ports (length (combined g).ports) (ports_apart (combined g) (order g) (order_apart g c)) (ports_within (combined g) (new_numbers g).modes) in
      let few = both_few (ports_owned g c.host c.donor) in
      let size = length-map (combined g).ports (λ (x : Port). x.mode) in omega (arith, most, few, size)

  pub few_invs : length (new_numbers g).invs ≤ 16384
  few_invs =
      let most = few_apart (new_numbers g).invs (length (combined g).invs) (invs_apart (combined g) (order g) (order_apart g c)) (invs_within (combined g) (new_numbers g).modes) in
      let few = both_few (invs_owned g c.host c.donor) in
      let size = length-map (combined g).invs (λ (x : Inv). x.mode) in omega (arith, most, few, size)

  pub few_switches : length (new_numbers g).switches ≤ 16384
  few_switches =
      let most = few_apart (new_numbers g).switches (length (combined g).switches) (switches_apart (combined g) (order g) (order_apart g c)) (switches_within (combined g) (new_numbers g).modes) in
      let few = both_few (switches_owned g c.host c.donor) in
      let size = length-map (combined g).switches (λ (x : Switch). x.mode) in omega (arith, most, few, size)
