-- The names that a source declares: where they stand, what they mean, how their numbers are bounded.
use Rattle.std.proofs.Common.{◌≡◌, ℕ, suc, ◌+◌, List, [], ◌∷◌, length, take, slice_get, Some, refl, ◌∙◌, ap, arith, length-append, zero, subst, map, sym, inl, inr, Option, None, ap₂, ◌++◌}
use Rattle.htl_names.proofs.Words.{cond_both, cond-true, none-some, same_Some, comms_of, PlainProgram, PlainModule, PlainMode, PlainTask, CommNode, ParamNode, InvokeNode, Entry, entry, params_of, param_entry, task_entries, port_entry, invoke_entry, mode_entries, module_entries, comm_entry, program_entries, entries_from, entries, program_key, module_key, task_key, mode_key, same_key, look_up, pair_of, flat_map_at, map_at, module_at, tasks_at, modes_at, mode_at, ports_at, invokes_at, ModeAt, Key, Space, symbols_of, layout, meaning, AreNamesRight, RepeatedName, same_key_decides, cases_less_more}
use Rattle.htl_names.specs.declared.fault.NameFault.TheVariants as fault
use Rattle.htl_names.specs.declared.key.Space.TheVariants as space
use Rattle.htl_names.proofs.{FlatMaps.at_flat, FlatMaps.flat_part, Places.part_is, Places.part_there, Places.module_there, Places.tasks_there, Places.modes_there, Places.program_of_module, Places.module_of_task, Places.module_of_mode}
use Rattle.htl_names.proofs.Members.{at_place, Each, each_at, each_append, each_part, In, in_next, in_first, in_second, in_mapped_at, in_part_at}

-- where an entry comes from
pub data Origin (ps : List PlainProgram) : Entry → Type 0 where
  of_program : (p : ℕ) (x : PlainProgram) → slice_get ps p ≡ Some x → Origin ps (entry (program_key x.name.name) p x.name)
  of_comm : (c : ℕ) (x : CommNode) → slice_get (comms_of ps) c ≡ Some x → Origin ps (comm_entry c x)
  of_module : (p u : ℕ) (x : PlainModule) → module_at ps p u ≡ Some x → Origin ps (entry (module_key x.name.name) u x.name)
  of_task : (p u k : ℕ) (t : PlainTask) → slice_get (tasks_at ps p u) k ≡ Some t → Origin ps (entry (task_key p u t.name.name) k t.name)
  of_param : (p u k : ℕ) (t : PlainTask) → slice_get (tasks_at ps p u) k ≡ Some t → (j : ℕ) (x : ParamNode) → slice_get (params_of t) j ≡ Some x → Origin ps (param_entry p u k j x)
  of_mode : (p u m : ℕ) (x : PlainMode) → slice_get (modes_at ps p u) m ≡ Some x → Origin ps (entry (mode_key p u x.name.name) m x.name)
  of_port : (a : ModeAt) (j : ℕ) (y : ParamNode) → slice_get (ports_at ps a) j ≡ Some y → Origin ps (port_entry a.program a.«module» a.mode j y)
  of_invoke : (a : ModeAt) (j : ℕ) (y : InvokeNode) → slice_get (invokes_at ps a) j ≡ Some y → Origin ps (invoke_entry a.program a.«module» a.mode j y)

-- ---- the entries by programs

-- those of program p
abbrev pub source_entries : List PlainProgram → ℕ → PlainProgram → List Entry
source_entries ps p x = program_entries p (length (comms_of (take p ps))) x

entries_by : (f : ℕ → PlainProgram → List Entry) (p first : ℕ) (xs : List PlainProgram)
    → ((i q c : ℕ) (x : PlainProgram) → q ≡ p + i → c ≡ first + length (comms_of (take i xs)) → program_entries q c x ≡ f q x)
    → entries_from p first xs ≡ flat_map_at f p xs
entries_by f p first [] h = refl
entries_by f p first (x ∷ xs) h =
    ap₂ (λ (es ds : List Entry). es ++ ds) (h 0 p first x (omega arith) (omega arith))
    (entries_by f (suc p) (first + length x.comms) xs (λ i q c y is start.
    let size = length-append x.comms (comms_of (take i xs)) in h (suc i) q c y (omega (arith, is)) (omega (arith, start, size))))

pub entries_are : (ps : List PlainProgram) → entries ps ≡ flat_map_at (source_entries ps) 0 ps
entries_are ps =
    entries_by (source_entries ps) 0 0 ps (λ i q c x is start.
    let same : i ≡ q = omega (arith, is) in
    let first : c ≡ length (comms_of (take q ps)) = omega (arith, start, ap (λ (n : ℕ). length (comms_of (take n ps))) same) in
    ap (λ (n : ℕ). program_entries q n x) first)

-- ---- from an entry to its place

each_map_at : {B : Type 0} (P : Entry → Type 0) (f : ℕ → B → Entry) (k : ℕ) (xs : List B) → ((i j : ℕ) (x : B) → i ≡ k + j → slice_get xs j ≡ Some x → P (f i x))
    → Each P (map_at f k xs)
each_map_at P f k [] h = tt
each_map_at P f k (x ∷ xs) h = (h k 0 x (omega arith) refl, each_map_at P f (suc k) xs (λ i j y is there. h i (suc j) y (omega (arith, is)) there))

each_mapped : {B : Type 0} (P : Entry → Type 0) (f : ℕ → B → Entry) (xs : List B) → ((j : ℕ) (x : B) → slice_get xs j ≡ Some x → P (f j x)) → Each P (map_at f 0 xs)
each_mapped P f xs h = each_map_at P f 0 xs (λ i j x is its. h i x (at_place xs i j x is its))

module _ (ps : List PlainProgram) where
  in_task : (p u k : ℕ) (t : PlainTask) → slice_get (tasks_at ps p u) k ≡ Some t → Each (Origin ps) (task_entries p u k t)
  in_task p u k t there = (of_task p u k t there, each_mapped (Origin ps) (param_entry p u k) (params_of t) (of_param p u k t there))

  in_mode : (a : ModeAt) (x : PlainMode) → mode_at ps a ≡ Some x → Each (Origin ps) (mode_entries a.program a.«module» a.mode x)
  in_mode a x there = (
    of_mode a.program a.«module» a.mode x there,
    each_append (Origin ps) _ _
        (each_mapped (Origin ps) (port_entry a.program a.«module» a.mode) x.ports (λ j y its. of_port a j y (ap (λ qs. slice_get qs j) (part_is ps a x (λ z. z.ports) there) ∙ its)))
        (each_mapped (Origin ps) (invoke_entry a.program a.«module» a.mode) x.invokes (λ j y its. of_invoke a j y (ap (λ qs. slice_get qs j) (part_is ps a x (λ z. z.invokes) there) ∙ its))),
  )

  in_module : (p u : ℕ) (x : PlainModule) → module_at ps p u ≡ Some x → Each (Origin ps) (module_entries p u x)
  in_module p u x there = (
    of_module p u x there,
    each_append (Origin ps) _ _
        (each_part (Origin ps) (task_entries p u) x.tasks (λ k t its. in_task p u k t (ap (λ ts. slice_get ts k) (tasks_there ps p u x there) ∙ its)))
        (each_part (Origin ps) (mode_entries p u) x.modes (λ m y its.
        in_mode (record { program = p; «module» = u; mode = m }) y (ap (λ ms. slice_get ms m) (modes_there ps p u x there) ∙ its))),
  )

  in_program : (p : ℕ) (x : PlainProgram) → slice_get ps p ≡ Some x → Each (Origin ps) (source_entries ps p x)
  in_program p x there = (
    of_program p x there,
    each_append (Origin ps) _ _
        (each_map_at (Origin ps) comm_entry (length (comms_of (take p ps))) x.comms (λ c j y is its.
        of_comm c y (ap (slice_get (comms_of ps)) is ∙ at_flat (λ (q : PlainProgram). q.comms) ps p j x y there its)))
        (each_part (Origin ps) (module_entries p) x.modules (λ u y its. in_module p u y (module_there ps p u x y there its))),
  )

  -- each entry comes from somewhere
  pub origin : (n : ℕ) (e : Entry) → slice_get (entries ps) n ≡ Some e → Origin ps e
  origin n e at =
      each_at (Origin ps) (flat_map_at (source_entries ps) 0 ps) n e
      (each_part (Origin ps) (source_entries ps) ps in_program) (ap (λ es. slice_get es n) (sym (entries_are ps)) ∙ at)

  -- ---- each item is declared

  program_declares : (p : ℕ) (x : PlainProgram) → slice_get ps p ≡ Some x → (e : Entry) → In e (source_entries ps p x) → In e (entries ps)
  program_declares p x there e at = subst (In e) (sym (entries_are ps)) (in_part_at (source_entries ps) ps p x there at)

  module_declares : (p u : ℕ) (y : PlainModule) → module_at ps p u ≡ Some y → (e : Entry) → In e (module_entries p u y) → In e (entries ps)
  module_declares p u y there e at = let o = program_of_module ps p u y there in program_declares p o.0 o.1 e (in_next _ _ (in_second _ _ (in_part_at (module_entries p) o.0.modules u y o.2 at)))

  task_declares : (p u k : ℕ) (t : PlainTask) → slice_get (tasks_at ps p u) k ≡ Some t → (e : Entry) → In e (task_entries p u k t) → In e (entries ps)
  task_declares p u k t there e at = let o = module_of_task ps p u k t there in module_declares p u o.0 o.1 e (in_next _ _ (in_first _ _ (in_part_at (task_entries p u) o.0.tasks k t o.2 at)))

  mode_declares : (p u m : ℕ) (x : PlainMode) → slice_get (modes_at ps p u) m ≡ Some x → (e : Entry) → In e (mode_entries p u m x) → In e (entries ps)
  mode_declares p u m x there e at = let o = module_of_mode ps p u m x there in module_declares p u o.0 o.1 e (in_next _ _ (in_second _ _ (in_part_at (mode_entries p u) o.0.modes m x o.2 at)))

  pub declared : (e : Entry) → Origin ps e → In e (entries ps)
  declared e (of_program p x there) = program_declares p x there e (0, refl)
  declared e (of_comm c x there) =
      let r = flat_part (λ (q : PlainProgram). q.comms) ps c x there in
      program_declares r.part r.owner r.there e (in_next _ _ (in_first _ _ (in_mapped_at comm_entry (length (comms_of (take r.part ps))) r.owner.comms c r.place x r.number r.item)))
  declared e (of_module p u x there) = module_declares p u x there e (0, refl)
  declared e (of_task p u k t there) = task_declares p u k t there e (0, refl)
  declared e (of_param p u k t there j x at) = task_declares p u k t there e (in_next _ _ (in_mapped_at (param_entry p u k) 0 (params_of t) j j x (omega arith) at))
  declared e (of_mode p u m x there) = mode_declares p u m x there e (0, refl)
  declared e (of_port a j y at) =
      let o = part_there (λ (z : PlainMode). z.ports) (mode_at ps a) j y at in
      mode_declares a.program a.«module» a.mode o.0 o.1 e (in_next _ _ (in_first _ _ (in_mapped_at (port_entry a.program a.«module» a.mode) 0 o.0.ports j j y (omega arith) o.2)))
  declared e (of_invoke a j y at) =
      let o = part_there (λ (z : PlainMode). z.invokes) (mode_at ps a) j y at in
      mode_declares a.program a.«module» a.mode o.0 o.1 e (in_next _ _ (in_second _ _ (in_mapped_at (invoke_entry a.program a.«module» a.mode) 0 o.0.invokes j j y (omega arith) o.2)))

-- ---- one place for one key

pub one_place : (ps : List PlainProgram) → AreNamesRight ps → (j k : ℕ) (e d : Entry) → slice_get (entries ps) j ≡ Some e → slice_get (entries ps) k ≡ Some d → e.key ≡ d.key → j ≡ k
one_place ps right j k e d at there same =
    elim (cases_less_more j k) [
      | inl less ↦ absurd (right RepeatedName k (fault.Twice d.token) (d, there, (j, e, less, at, same), refl))
      | inr r ↦ elim r [ inl more ↦ absurd (right RepeatedName j (fault.Twice e.token) (e, at, (k, d, more, there, sym same), refl)) | inr is ↦ is ]
    ]

pub one_entry : (ps : List PlainProgram) → AreNamesRight ps → (e d : Entry) → In e (entries ps) → In d (entries ps) → e.key ≡ d.key → e ≡ d
one_entry ps right e d a b same =
    let place = one_place ps right a.0 b.0 e d a.1 b.1 same in
    let is : Some e ≡ Some d = sym a.1 ∙ ap (slice_get (entries ps)) place ∙ b.1 in
    cc

-- ---- look-ups

-- what is found is an entry with the key
pub found : (key : Key) (es : List Entry) (n : ℕ) → look_up key (map pair_of es) ≡ Some n → (e : Entry) × In e es × (e.key ≡ key) × (e.number ≡ n)
found key [] n = λ e. absurd (none-some n e)
found key (x ∷ xs) n =
    cond_both (same_key key x.key) (Some x.number) (look_up key (map pair_of xs)) (λ o. o ≡ Some n → (e : Entry) × In e (x ∷ xs) × (e.key ≡ key) × (e.number ≡ n))
    (λ same got. (x, (0, refl), sym ((same_key_decides key x.key).0 same), same_Some x.number n got))
    (λ other got. let r = found key xs n got in (r.0, in_next x xs r.1, r.2, r.3))

-- an entry's key is found
pub some : (es : List Entry) (k : ℕ) (e : Entry) → slice_get es k ≡ Some e → (n : ℕ) × (look_up e.key (map pair_of es) ≡ Some n)
some [] k e at = absurd (none-some e at)
some (x ∷ xs) zero e at = (x.number, cond-true _ (Some x.number) _ ((same_key_decides e.key x.key).1 (ap (λ (d : Entry). d.key) (sym (same_Some x e at)))))
some (x ∷ xs) (suc k) e at =
    cond_both (same_key e.key x.key) (Some x.number) (look_up e.key (map pair_of xs)) (λ o. (n : ℕ) × (o ≡ Some n)) (λ same. (x.number, refl)) (λ other. some xs k e at)

-- ---- what is found stands in its list

-- the mode of a list of ports or invocations
abbrev mode_of : Key → ModeAt
mode_of key = record { program = key.scope.program; «module» = key.scope.«module»; mode = key.scope.item }

-- the item with the key's name at place n of the key's list
abbrev pub Stands : List PlainProgram → Space → Key → ℕ → Type 0
Stands ps space.Comms key n = (x : CommNode) × (slice_get (comms_of ps) n ≡ Some x) × (x.name.name ≡ key.name)
Stands ps space.Tasks key n = (t : PlainTask) × (slice_get (tasks_at ps key.scope.program key.scope.«module») n ≡ Some t) × (t.name.name ≡ key.name)
Stands ps space.Modes key n = (x : PlainMode) × (slice_get (modes_at ps key.scope.program key.scope.«module») n ≡ Some x) × (x.name.name ≡ key.name)
Stands ps space.Ports key n = (y : ParamNode) × (slice_get (ports_at ps (mode_of key)) n ≡ Some y) × (y.name.name ≡ key.name)
Stands ps space.Invokes key n = (y : InvokeNode) × (slice_get (invokes_at ps (mode_of key)) n ≡ Some y) × (y.task.name ≡ key.name)
Stands ps _ key n = Unit {0}

stands : (ps : List PlainProgram) (e : Entry) → Origin ps e → Stands ps e.key.scope.space e.key e.number
stands ps e (of_comm c x there) = (x, there, refl)
stands ps e (of_task p u k t there) = (t, there, refl)
stands ps e (of_mode p u m x there) = (x, there, refl)
stands ps e (of_port a j y at) = (y, at, refl)
stands ps e (of_invoke a j y at) = (y, at, refl)
stands ps e _ = tt

-- so does what a name means, where it is found
pub means : (ps : List PlainProgram) (key : Key) (n : ℕ) → look_up key (symbols_of ps) ≡ Some n → Stands ps key.scope.space key (meaning (layout ps) key)
means ps key n got =
    let f = found key (entries ps) n got in
    let is : f.0.number ≡ meaning (layout ps) key = f.3 ∙ ap (λ (o : Option ℕ). elim o as (λ _. ℕ) [ Some k ↦ k | None ↦ 0 ]) (sym got) in
    subst (Stands ps key.scope.space key) is (subst (λ (a : Key). Stands ps a.scope.space a f.0.number) f.2 (stands ps f.0 (origin ps f.1.0 f.0 f.1.1)))
