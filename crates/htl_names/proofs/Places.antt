-- What tests tell, what stands at a place of a tree, and where among all of its kind.
use Rattle.std.proofs.Common.{◌≡◌, ℕ, ◌<◌, inl, inr, refl, ◌+◌, List, [], length, slice_get, Option, Some, None, ◌∙◌, ap, sym, flat_map}
use Rattle.htl_names.proofs.Words.{cases_eq, none-some, slice_get_within, modules_of, PlainProgram, PlainModule, PlainMode, PlainTask, module_at, tasks_at, modes_at, mode_at, module_modes, mode_order, ModeAt, mode_in, ModuleAt, length-list_to, modes_of}
use Rattle.htl_names.proofs.FlatMaps.{at_flat, flat_map_is, same_length}

pub stable : (m n : ℕ) → ((m ≡ n → ⊥) → ⊥) → m ≡ n
stable m n h = elim (cases_eq m n) [ inl p ↦ p | inr q ↦ absurd (h q) ]

-- ---- what stands at a place of a tree, and where it stands among all of its kind

pub module_there : (ps : List PlainProgram) (p u : ℕ) (x : PlainProgram) (y : PlainModule) → slice_get ps p ≡ Some x → slice_get x.modules u ≡ Some y → module_at ps p u ≡ Some y
module_there ps p u x y e g = ap (λ o. slice_get (elim o as (λ _. List PlainModule) [ Some z ↦ z.modules | None ↦ [] ]) u) e ∙ g

pub tasks_there : (ps : List PlainProgram) (p u : ℕ) (y : PlainModule) → module_at ps p u ≡ Some y → tasks_at ps p u ≡ y.tasks
tasks_there ps p u y e = ap (λ o. elim o [ Some x ↦ x.tasks | None ↦ [] ]) e

pub modes_there : (ps : List PlainProgram) (p u : ℕ) (y : PlainModule) → module_at ps p u ≡ Some y → modes_at ps p u ≡ y.modes
modes_there ps p u y e = ap (λ o. elim o [ Some x ↦ x.modes | None ↦ [] ]) e

-- what a mode has of a kind
pub part_is : {A : Type 0} (ps : List PlainProgram) (a : ModeAt) (x : PlainMode) (part : PlainMode → List A) → mode_at ps a ≡ Some x
    → elim (mode_at ps a) [ Some y ↦ part y | None ↦ [] ] ≡ part x
part_is ps a x part e = ap (λ o. elim o [ Some y ↦ part y | None ↦ [] ]) e

-- ---- modes and tasks of a module

abbrev pub modes_in : List PlainProgram → ModuleAt → List PlainMode
modes_in ps s = modes_at ps s.program s.«module»

abbrev pub tasks_in : List PlainProgram → ModuleAt → List PlainTask
tasks_in ps s = tasks_at ps s.program s.«module»

pub mode_parts : (ps : List PlainProgram) (modules : List ModuleAt) → length (mode_order ps modules) ≡ length (flat_map (modes_in ps) modules)
mode_parts ps modules =
    ap length (sym (flat_map_is (module_modes ps) 0 modules)) ∙ same_length (λ k. module_modes ps) (modes_in ps) (λ k s. length-list_to (mode_in s) (length (modes_in ps s))) 0 modules

-- ---- whose it is

-- an item of a part of what stands there
pub part_there : {A B : Type 0} (part : A → List B) (o : Option A) (k : ℕ) (y : B) → slice_get (elim o as (λ _. List B) [ Some x ↦ part x | None ↦ [] ]) k ≡ Some y
    → (x : A) × (o ≡ Some x) × (slice_get (part x) k ≡ Some y)
part_there part None k y e = absurd (none-some y e)
part_there part (Some x) k y e = (x, refl, e)

pub program_of_module : (ps : List PlainProgram) (p u : ℕ) (y : PlainModule) → module_at ps p u ≡ Some y → (x : PlainProgram) × (slice_get ps p ≡ Some x) × (slice_get x.modules u ≡ Some y)
program_of_module ps p u y e = part_there (λ (x : PlainProgram). x.modules) (slice_get ps p) u y e

-- it is a program of the source
pub within : (ps : List PlainProgram) (p u : ℕ) (y : PlainModule) → module_at ps p u ≡ Some y → p < length ps
within ps p u y e = let x = program_of_module ps p u y e in slice_get_within ps p x.0 x.1

pub module_of_task : (ps : List PlainProgram) (p u k : ℕ) (t : PlainTask) → slice_get (tasks_at ps p u) k ≡ Some t → (y : PlainModule) × (module_at ps p u ≡ Some y) × (slice_get y.tasks k ≡ Some t)
module_of_task ps p u k t e = part_there (λ (x : PlainModule). x.tasks) (module_at ps p u) k t e

pub module_of_mode : (ps : List PlainProgram) (p u m : ℕ) (x : PlainMode) → slice_get (modes_at ps p u) m ≡ Some x → (y : PlainModule) × (module_at ps p u ≡ Some y) × (slice_get y.modes m ≡ Some x)
module_of_mode ps p u m x e = part_there (λ (x : PlainModule). x.modes) (module_at ps p u) m x e

-- ---- among all of the source: behind n others, and those before it in its own list

pub module_in_source : (ps : List PlainProgram) (p u : ℕ) (y : PlainModule) → module_at ps p u ≡ Some y → (n : ℕ) × (slice_get (modules_of ps) (n + u) ≡ Some y)
module_in_source ps p u y e = let q = program_of_module ps p u y e in (_, at_flat (λ (x : PlainProgram). x.modules) ps p u q.0 y q.1 q.2)

-- a task, a mode
pub item_in_source : {B : Type 0} (part : PlainModule → List B) (ps : List PlainProgram) (p u k : ℕ) (y : B)
    → slice_get (elim (module_at ps p u) as (λ _. List B) [ Some x ↦ part x | None ↦ [] ]) k ≡ Some y → (n : ℕ) × (slice_get (flat_map part (modules_of ps)) (n + k) ≡ Some y)
item_in_source part ps p u k y e =
    let o = part_there part (module_at ps p u) k y e in
    let n = module_in_source ps p u o.0 o.1 in
    (_, at_flat part (modules_of ps) (n.0 + u) k o.0 y n.1 o.2)

-- a port, an invocation, a switch
pub part_in_source : {B : Type 0} (part : PlainMode → List B) (ps : List PlainProgram) (a : ModeAt) (j : ℕ) (y : B)
    → slice_get (elim (mode_at ps a) as (λ _. List B) [ Some x ↦ part x | None ↦ [] ]) j ≡ Some y → (n : ℕ) × (slice_get (flat_map part (modes_of (modules_of ps))) (n + j) ≡ Some y)
part_in_source part ps a j y its =
    let x = part_there part (mode_at ps a) j y its in
    let n = item_in_source (λ (x : PlainModule). x.modes) ps a.program a.«module» a.mode x.0 x.1 in
    (_, at_flat part (modes_of (modules_of ps)) (n.0 + a.mode) j x.0 y n.1 x.2)
