-- The trees that a source gives meet the conditions under which names are resolved.
use Rattle.htl_names.proofs.Words.{length-map, All-weaker, distinct_count-le, MeetsTaskBounds, MeetsInvokeBounds, MeetsSwitchBounds, MeetsBounds, names_of, modules_of, IsBounded, PlainProgram, PlainTask, PlainSwitch, Id, InvokeNode, List, map, All, arith, flat_map, bytes_eq, modes_of, IsBoundedTask, IsBoundedInvoke, IsBoundedSwitch, IsBoundedMode, IsBoundedModule, IsBoundedProgram, all_at}
use Rattle.htl_names.proofs.{FlatMaps.flat_part, Members.All-from_places}

-- ---- the parts

bounded_task : (t : PlainTask) → IsBoundedTask t → MeetsTaskBounds t
bounded_task t b = record { inputs = b.few_inputs; outputs = b.few_outputs; values = λ k d below. (b.values k d below).few_nodes }

bounded_invoke : (i : InvokeNode) → IsBoundedInvoke i → MeetsInvokeBounds i
bounded_invoke i b = record { reads = b.few_reads; writes = b.few_writes }

bounded_switch : (s : PlainSwitch) → IsBoundedSwitch s → MeetsSwitchBounds s
bounded_switch s b = record { cond = b.cond.few_nodes; names = omega (arith, distinct_count-le bytes_eq (map (λ (id : Id). id.name) (names_of s.cond)), length-map (names_of s.cond) (λ (id : Id). id.name), b.few_names) }

-- what holds of the parts of each item holds of all of them
all_parts : {A B : Type 0} (P : A → Type 0) (Q : B → Type 0) (parts : A → List B) → ((x : A) → P x → All Q (parts x)) → (xs : List A) → All P xs → All Q (flat_map parts xs)
all_parts P Q parts f xs all =
    All-from_places Q (flat_map parts xs) (λ n y e.
    let p = flat_part parts xs n y e in
    all_at Q (parts p.owner) p.place y (f p.owner (all_at P xs p.part p.owner all p.there)) p.item)

-- ---- the tree

pub bounded_tree : (ps : List PlainProgram) → IsBounded ps → MeetsBounds ps
bounded_tree ps b =
    let modules = all_parts IsBoundedProgram IsBoundedModule (λ p. p.modules) (λ p h. h.modules) ps b.programs in
    let modes = all_parts IsBoundedModule IsBoundedMode (λ u. u.modes) (λ u h. h.modes) (modules_of ps) modules in
    record {
      programs = b.few_programs;
      tasks = all_parts IsBoundedModule MeetsTaskBounds (λ u. u.tasks) (λ u h. All-weaker IsBoundedTask MeetsTaskBounds bounded_task u.tasks h.tasks) (modules_of ps) modules;
      invokes = all_parts IsBoundedMode MeetsInvokeBounds (λ m. m.invokes) (λ m h. All-weaker IsBoundedInvoke MeetsInvokeBounds bounded_invoke m.invokes h.invokes) (modes_of (modules_of ps)) modes;
      switches = all_parts IsBoundedMode MeetsSwitchBounds (λ m. m.switches) (λ m h. All-weaker IsBoundedSwitch MeetsSwitchBounds bounded_switch m.switches h.switches) (modes_of (modules_of ps)) modes;
    }
