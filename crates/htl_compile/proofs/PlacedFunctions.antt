-- So a fault of a function is told by a token of the source.
use Rattle.std.proofs.Common.{◌≡◌, slice_get, refl, ℕ, List, [], ◌∷◌, length, Option, Some, None, arith}
use Rattle.htl_compile.proofs.Words.{flat_map, Each, each_at, each_append, AreOperatorsBelow, IsFunctionBelow, AreFunctionsBelow, modules_at, module_at, tasks_at, modes_at, mode_at, switches_at, ModeAt, ModuleAt, Spell, Expr, Prefix, Infix, Choice, PlainOuts, Concrete, Abstract, PlainSwitch, PlainMode, PlainModule, PlainProgram, Token, Id}
use Rattle.htl_names.specs.Flat.{Layout, layout, term_by, input_place, flat_output_function, outs_functions, task_functions, module_functions, comms_in, read_place, flat_switch_function, mode_functions, function_items, tables_of_tree}
use Rattle.htl_compile.proofs.TokenPlaces.{AreOuts, HasOperators, IsMode, IsModule, IsOut, IsProgramNode, IsSwitch, IsTask, each_flat_at, each_map, numbered_below, source_spelled}

module _ (n : ℕ) where
  operators_below : (place : Id → ℕ) (e : Expr) → HasOperators n e → AreOperatorsBelow n (term_by place e)
  operators_below place (Prefix t op e) h = (h.0, operators_below place e h.1)
  operators_below place (Infix t op l r) h = (h.0, (operators_below place l h.1.0, operators_below place r h.1.1))
  operators_below place (Choice t c a b) h =
      (h.0, (operators_below place c h.1.0, (operators_below place a h.1.1.0, operators_below place b h.1.1.1)))
  operators_below place _ h = tt

  outs_below : (l : Layout) (p u k : ℕ) (o : PlainOuts) → AreOuts n o → Each (IsFunctionBelow n) (outs_functions l p u k o)
  outs_below l p u k (Concrete xs) h =
      each_map n (IsFunctionBelow n) (IsOut n) (flat_output_function l p u k) (λ o is. (is.first, operators_below (input_place l p u k) o.value is.value.operators)) xs h
  outs_below l p u k (Abstract xs) h = tt

  modules_by : (o : Option PlainProgram) → ((x : PlainProgram) → o ≡ Some x → IsProgramNode n x) → Each (IsModule n) (elim o [ Some x ↦ x.modules | None ↦ [] ])
  modules_by None h = tt
  modules_by (Some x) h = (h x refl).modules

  tasks_by : (o : Option PlainModule) → ((x : PlainModule) → o ≡ Some x → IsModule n x) → Each (IsTask n) (elim o [ Some x ↦ x.tasks | None ↦ [] ])
  tasks_by None h = tt
  tasks_by (Some x) h = (h x refl).tasks

  modes_by : (o : Option PlainModule) → ((x : PlainModule) → o ≡ Some x → IsModule n x) → Each (IsMode n) (elim o [ Some x ↦ x.modes | None ↦ [] ])
  modes_by None h = tt
  modes_by (Some x) h = (h x refl).modes

  switches_by : (o : Option PlainMode) → ((x : PlainMode) → o ≡ Some x → IsMode n x) → Each (IsSwitch n) (elim o [ Some x ↦ x.switches | None ↦ [] ])
  switches_by None h = tt
  switches_by (Some x) h = (h x refl).switches

  everywhere : {A B : Type 0} (P : B → Type 0) (f : A → List B) (xs : List A) → ((x : A) → Each P (f x)) → Each P (flat_map f xs)
  everywhere P f [] h = tt
  everywhere P f (x ∷ xs) h = each_append P (f x) (flat_map f xs) (h x) (everywhere P f xs h)

  module _ (ps : List PlainProgram) (h : Each (IsProgramNode n) ps) where
    module_there : (p u : ℕ) (x : PlainModule) → module_at ps p u ≡ Some x → IsModule n x
    module_there p u x at = each_at (IsModule n) (modules_at ps p) u x (modules_by (slice_get ps p) (λ y there. each_at (IsProgramNode n) ps p y h there)) at

    mode_there : (a : ModeAt) (x : PlainMode) → mode_at ps a ≡ Some x → IsMode n x
    mode_there a x at =
        each_at (IsMode n) (modes_at ps a.program a.«module») a.mode x
        (modes_by (module_at ps a.program a.«module») (module_there a.program a.«module»)) at

    module_below : (l : Layout) (s : ModuleAt) → Each (IsFunctionBelow n) (module_functions l ps s)
    module_below l s =
        each_flat_at n (IsFunctionBelow n) (IsTask n) (task_functions l s.program s.«module») (λ k t is. outs_below l s.program s.«module» k t.outputs is.outputs) 0
        (tasks_at ps s.program s.«module») (tasks_by (module_at ps s.program s.«module») (module_there s.program s.«module»))

    switch_below : (l : Layout) (s : PlainSwitch) → IsSwitch n s → IsFunctionBelow n (flat_switch_function l s)
    switch_below l s is = (is.first, operators_below (read_place l (comms_in l s.cond)) s.cond is.cond.operators)

    mode_below : (l : Layout) (a : ModeAt) → Each (IsFunctionBelow n) (mode_functions l ps a)
    mode_below l a =
        each_map n (IsFunctionBelow n) (IsSwitch n) (flat_switch_function l) (switch_below l) (switches_at ps a)
        (switches_by (mode_at ps a) (mode_there a))

    items_below : (l : Layout) → Each (IsFunctionBelow n) (function_items l ps)
    items_below l =
        each_append (IsFunctionBelow n) (flat_map (module_functions l ps) l.modules) (flat_map (mode_functions l ps) l.modes)
        (everywhere (IsFunctionBelow n) (module_functions l ps) l.modules (module_below l)) (everywhere (IsFunctionBelow n) (mode_functions l ps) l.modes (mode_below l))

-- the functions of what tokens spell have these tokens
pub functions_placed : (ts : List Token) (ps : List PlainProgram) → Spell ts ps → AreFunctionsBelow (length ts) (tables_of_tree ps)
functions_placed ts ps spelled = λ k g at.
    each_at (IsFunctionBelow (length ts)) (function_items (layout ps) ps) k g
    (items_below (length ts) ps (source_spelled (length ts) spelled (numbered_below (length ts) 0 ts (omega arith))) (layout ps)) at
