-- Steps of reading repeated items.
use Rattle.std.proofs.Common.{◌≡◌, ◌<◌, Bool, true, false, List, [], ◌∷◌, ◌++◌, length, map, Ok, Err, refl, ap, ◌∙◌}
use Rattle.htl_parse.proofs.Words.{IfOk, map-append, Placed, SpellsComm, SpellsTask, SpellsPort, SpellsInvoke, SpellsSwitch, SpellsMode, SpellsModule, SpellsProgram, again_at, repeated_at, CanList, CanRepeat, out_of, task_of, switch_of, mode_of, module_of, param_at, out_at, end_at, begins_comm, comm_at, begins_task, task_at, begins_port, port_at, begins_invoke, invoke_at, begins_switch, switch_at, begins_mode, mode_at, begins_module, module_at, program_at}
use Rattle.htl_parse.specs.Reading.{Read, Reader, ◌>>=◌}
use Rattle.htl_parse.proofs.{Fronts.Holds, Fronts.Less, Fronts.less-of, Items.with_front, Items.front-append, Items.param-less, Items.out-less, Items.end-less, Repeating.repeated-is, ViableParts.port-tells, ViableParts.invoke-tells}
use Rattle.htl_parse.proofs.{Parts.comm-part, Parts.task-part, Parts.port-part, Parts.invoke-part, Parts.switch-part, Sources.mode-part, Sources.module-part, Sources.program-part}
use Rattle.htl_parse.proofs.{ViableSources.mode-tells, ViableSources.module-tells, ViableSources.program-tells, ViableStatements.comm-tells, ViableStatements.task-tells, ViableStatements.switch-tells}

less-if : {X : Type 0} (ts : List Placed) (r : Read X) → IfOk r (λ x. length x.1 < length ts) → Holds (λ (x : X × List Placed). length x.1 < length ts) r
less-if ts (Ok x) less = less
less-if ts (Err left) less = tt

pub less-given : {X : Type 0} (item : Reader X) → ((ts : List Placed) → IfOk (item ts) (λ x. length x.1 < length ts)) → Less item
less-given item less ts = less-if ts (item ts) (less ts)

-- the whole reading, all, has read these items, and goes on with those that begin in what is left
pub record IsRepeating {X : Type 0} (begins : List Placed → Bool) (item : Reader X) (all : Read (List X)) (left : List Placed) (found : List X) : Type 0 where
  pub reads : all ≡ with_front found (repeated_at begins item left)

module _ {X : Type 0} (begins : List Placed → Bool) (item : Reader X) (less : Less item) (nothing : begins [] ≡ false) (all : Read (List X)) (left : List Placed) (found : List X)
    (so : IsRepeating begins item all left found) where
  again : begins left ≡ true → all ≡ with_front found (item left >>= λ x. repeated_at begins item x.1 >>= λ xs. Ok (x.0 ∷ xs.0, xs.1))
  again here =
      so.reads ∙ ap (with_front found) (repeated-is begins item less nothing left ∙ ap (again_at (repeated_at begins item) item left) here)

  pub repeat-more : (new : List Placed) (x : X) → begins left ≡ true → item left ≡ Ok (x, new) → IsRepeating begins item all new (found ++ x ∷ [])
  repeat-more new x here e = record {
    reads =
        again here ∙ ap (λ (r : Read X). with_front found (r >>= λ x. repeated_at begins item x.1 >>= λ xs. Ok (x.0 ∷ xs.0, xs.1))) e
        ∙ front-append found x (repeated_at begins item new);
  }

less-once : {X : Type 0} (ts : List Placed) (r : Read X) → Holds (λ (x : X × List Placed). length x.1 < length ts) r → IfOk r (λ x. length x.1 < length ts)
less-once ts (Ok x) less = less
less-once ts (Err left) less = tt

-- items that are seen as they are
same-items : {X : Type 0} (item : Reader X) → Less item → CanList (λ (x : X). x) (λ (xs : List X). xs) item
same-items item less = record { less = λ ts. less-once ts (item ts) (less ts); none = refl; more = λ xs x. refl }

-- items that are seen by a function
seen-items : {S X : Type 0} (plain : S → X) (item : Reader X) → Less item → CanList plain (map plain) item
seen-items plain item less = record { less = λ ts. less-once ts (item ts) (less ts); none = refl; more = λ xs x. map-append plain xs (x ∷ []) }

pub param-items : CanList (λ x. x) (λ xs. xs) param_at
param-items = same-items param_at param-less

pub out-items : CanList out_of (map out_of) out_at
out-items = seen-items out_of out_at out-less

pub end-items : CanList (λ x. x) (λ xs. xs) end_at
end-items = same-items end_at end-less

pub comm-items : CanRepeat (λ x. x) (λ xs. xs) begins_comm comm_at
comm-items = record { items = same-items comm_at (less-of SpellsComm comm_at comm-part.shorter comm-tells); nothing = refl }

pub task-items : CanRepeat task_of (map task_of) begins_task task_at
task-items = record { items = seen-items task_of task_at (less-of SpellsTask task_at task-part.shorter task-tells); nothing = refl }

pub port-items : CanRepeat (λ x. x) (λ xs. xs) begins_port port_at
port-items = record { items = same-items port_at (less-of SpellsPort port_at port-part.shorter port-tells); nothing = refl }

pub invoke-items : CanRepeat (λ x. x) (λ xs. xs) begins_invoke invoke_at
invoke-items = record { items = same-items invoke_at (less-of SpellsInvoke invoke_at invoke-part.shorter invoke-tells); nothing = refl }

pub switch-items : CanRepeat switch_of (map switch_of) begins_switch switch_at
switch-items = record { items = seen-items switch_of switch_at (less-of SpellsSwitch switch_at switch-part.shorter switch-tells); nothing = refl }

pub mode-items : CanRepeat mode_of (map mode_of) begins_mode mode_at
mode-items = record { items = seen-items mode_of mode_at (less-of SpellsMode mode_at mode-part.shorter mode-tells); nothing = refl }

pub module-items : CanRepeat module_of (map module_of) begins_module module_at
module-items = record { items = seen-items module_of module_at (less-of SpellsModule module_at module-part.shorter module-tells); nothing = refl }

pub program-less : Less program_at
program-less = less-of SpellsProgram program_at program-part.shorter program-tells
