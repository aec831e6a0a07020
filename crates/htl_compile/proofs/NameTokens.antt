-- What a tree tells of names by places is told by places of tokens, and so a name fault by a token of the source.
use Rattle.std.proofs.Common.{◌<◌, ℕ, suc, ◌+◌, List, [], ◌∷◌, ◌++◌, length, map, Option, Some, None, sym, subst, arith}
use Rattle.htl_compile.proofs.Words.{flat_map, Each, each_at, each_append, params_of, param_entry, task_entries, port_entry, invoke_entry, mode_entries, module_entries, comm_entry, program_entries, entries_from, entries, Judged, Initial, token_of, comm_kinds, end_kinds, invoke_kinds, mode_kinds, task_kind, module_kinds, program_kinds, kinds, flat_map_at, map_at, NameRule, RepeatedName, UnknownName, WrongKind, ProgramTree, ParentName, Limits, NameBroken, IsFirstNameFault, ParentUse, invoke_parent, mode_parents, module_parents, program_parents, parents, input_use, output_uses, outputs_uses, task_uses, comm_use, end_use, invoke_uses, switch_uses, program_use, mode_uses, module_uses, program_uses, uses, NameFault, Entry, Use, Spell, names_of, out_params, PlainOut, PlainOuts, Concrete, Abstract, PlainTask, PlainSwitch, PlainMode, PlainModule, PlainProgram, Token, CommNode, ConstNode, EndNode, Id, InvokeNode, Ty}
use Rattle.htl_names.specs.declared.fault.NameFault.TheVariants as fault
use Rattle.htl_text.specs.declared.tree.ConstNode.TheVariants as const
use Rattle.htl_text.specs.declared.tree.EndNode.TheVariants as end
use Rattle.htl_compile.proofs.TokenPlaces.{AreOuts, IsClause, IsComm, IsConst, IsEnd, IsId, IsInvoke, IsMode, IsModule, IsOut, IsParam, IsProgramNode, IsSwitch, IsTask, each_flat, each_flat_at, each_map, each_map_at, numbered_below, source_spelled}

module _ (n : ℕ) where
  -- ---- declared names

  abbrev IsEntry : Entry → Type 0
  IsEntry e = e.token < n

  out_params_below : (o : PlainOuts) → (AreOuts n) o → Each (IsParam n) (out_params o)
  out_params_below (Concrete xs) h = (each_map n) (IsParam n) (IsOut n) (λ (o : PlainOut). o.param) (λ o is. is.param) xs h
  out_params_below (Abstract xs) h = h

  task_declares : (p u k : ℕ) (t : PlainTask) → (IsTask n) t → Each IsEntry (task_entries p u k t)
  task_declares p u k t h = (
    h.name,
    (each_map_at n) IsEntry (IsParam n) (param_entry p u k) (λ j x is. is) 0 (params_of t)
        (each_append (IsParam n) t.inputs (out_params t.outputs) h.inputs (out_params_below t.outputs h.outputs)),
  )

  mode_declares : (p u m : ℕ) (x : PlainMode) → (IsMode n) x → Each IsEntry (mode_entries p u m x)
  mode_declares p u m x h = (
    h.name,
    each_append IsEntry (map_at (port_entry p u m) 0 x.ports) (map_at (invoke_entry p u m) 0 x.invokes)
        ((each_map_at n) IsEntry (IsParam n) (port_entry p u m) (λ j y is. is) 0 x.ports h.ports)
        ((each_map_at n) IsEntry (IsInvoke n) (invoke_entry p u m) (λ j y is. is.task) 0 x.invokes h.invokes),
  )

  module_declares : (p u : ℕ) (x : PlainModule) → (IsModule n) x → Each IsEntry (module_entries p u x)
  module_declares p u x h = (
    h.name,
    each_append IsEntry (flat_map_at (task_entries p u) 0 x.tasks) (flat_map_at (mode_entries p u) 0 x.modes)
        ((each_flat_at n) IsEntry (IsTask n) (task_entries p u) (task_declares p u) 0 x.tasks h.tasks)
        ((each_flat_at n) IsEntry (IsMode n) (mode_entries p u) (mode_declares p u) 0 x.modes h.modes),
  )

  program_declares : (p first : ℕ) (x : PlainProgram) → (IsProgramNode n) x → Each IsEntry (program_entries p first x)
  program_declares p first x h = (
    h.name,
    each_append IsEntry (map_at comm_entry first x.comms) (flat_map_at (module_entries p) 0 x.modules)
        ((each_map_at n) IsEntry (IsComm n) comm_entry (λ j y is. is.name) first x.comms h.comms)
        ((each_flat_at n) IsEntry (IsModule n) (module_entries p) (module_declares p) 0 x.modules h.modules),
  )

  source_declares : (p first : ℕ) (ps : List PlainProgram) → Each (IsProgramNode n) ps → Each IsEntry (entries_from p first ps)
  source_declares p first [] h = tt
  source_declares p first (x ∷ xs) h =
      each_append IsEntry (program_entries p first x) (entries_from (suc p) (first + length x.comms) xs) (program_declares p first x h.0)
      (source_declares (suc p) (first + length x.comms) xs h.1)

  -- ---- used names

  abbrev IsUse : Use → Type 0
  IsUse u = u.token < n

  outs_use : (p u k inputs : ℕ) (o : PlainOuts) → (AreOuts n) o → Each IsUse (outputs_uses p u k inputs o)
  outs_use p u k inputs (Concrete xs) h =
      (each_flat n) IsUse (IsOut n) (output_uses p u k inputs) (λ o is. (each_map n) IsUse (IsId n) (input_use p u k inputs) (λ id at. at) (names_of o.value) is.value.names) xs h
  outs_use p u k inputs (Abstract xs) h = tt

  end_uses : (p u m : ℕ) (e : EndNode) → (IsEnd n) e → IsUse (end_use p u m e)
  end_uses p u m (end.Comm comm instance) h = h.0
  end_uses p u m (end.Port id) h = h

  invoke_use : (p u m : ℕ) (i : InvokeNode) → (IsInvoke n) i → Each IsUse (invoke_uses p u m i)
  invoke_use p u m i h = (
    h.task,
    each_append IsUse (map (end_use p u m) i.reads) (map (end_use p u m) i.writes)
        ((each_map n) IsUse (IsEnd n) (end_use p u m) (end_uses p u m) i.reads h.reads) ((each_map n) IsUse (IsEnd n) (end_use p u m) (end_uses p u m) i.writes h.writes),
  )

  switch_use : (p u : ℕ) (s : PlainSwitch) → (IsSwitch n) s → Each IsUse (switch_uses p u s)
  switch_use p u s h =
      each_append IsUse (map comm_use (names_of s.cond)) _ ((each_map n) IsUse (IsId n) comm_use (λ id at. at) (names_of s.cond) h.cond.names) (h.target, tt)

  program_names : (o : Option Id) → (IsClause n) o → Each IsUse (program_use o)
  program_names None h = tt
  program_names (Some id) h = (h, tt)

  mode_use : (p u m : ℕ) (x : PlainMode) → (IsMode n) x → Each IsUse (mode_uses p u m x)
  mode_use p u m x h =
      each_append IsUse (program_use x.program) (flat_map (invoke_uses p u m) x.invokes ++ flat_map (switch_uses p u) x.switches) (program_names x.program h.program)
      (each_append IsUse (flat_map (invoke_uses p u m) x.invokes) (flat_map (switch_uses p u) x.switches)
      ((each_flat n) IsUse (IsInvoke n) (invoke_uses p u m) (invoke_use p u m) x.invokes h.invokes)
      ((each_flat n) IsUse (IsSwitch n) (switch_uses p u) (switch_use p u) x.switches h.switches))

  module_use : (p u : ℕ) (x : PlainModule) → (IsModule n) x → Each IsUse (module_uses p u x)
  module_use p u x h = (
    h.start,
    each_append IsUse (flat_map_at (task_uses p u) 0 x.tasks) (flat_map_at (mode_uses p u) 0 x.modes)
        ((each_flat_at n) IsUse (IsTask n) (task_uses p u) (λ k t is. outs_use p u k (length t.inputs) t.outputs is.outputs) 0 x.tasks h.tasks)
        ((each_flat_at n) IsUse (IsMode n) (mode_uses p u) (mode_use p u) 0 x.modes h.modes),
  )

  source_uses : (ps : List PlainProgram) → Each (IsProgramNode n) ps → Each IsUse (uses ps)
  source_uses ps h =
      (each_flat_at n) IsUse (IsProgramNode n) program_uses (λ p x is. (each_flat_at n) IsUse (IsModule n) (module_uses p) (module_use p) 0 x.modules is.modules) 0 ps h

  -- ---- judged numbers

  abbrev IsJudged : Judged → Type 0
  IsJudged j = token_of j < n

  init_judged : (t : Ty) (c : ConstNode) → (IsConst n) c → IsJudged (Initial t c)
  init_judged t (const.Int token minus x) h = h
  init_judged t (const.Bool token x) h = h

  comm_judged : (c : CommNode) → (IsComm n) c → Each IsJudged (comm_kinds c)
  comm_judged c h = (h.period, (init_judged c.ty c.init h.init, tt))

  end_judged : (e : EndNode) → (IsEnd n) e → Each IsJudged (end_kinds e)
  end_judged (end.Comm comm instance) h = (h.1, tt)
  end_judged (end.Port id) h = tt

  invoke_judged : (i : InvokeNode) → (IsInvoke n) i → Each IsJudged (invoke_kinds i)
  invoke_judged i h =
      each_append IsJudged (flat_map end_kinds i.reads) (flat_map end_kinds i.writes) ((each_flat n) IsJudged (IsEnd n) end_kinds end_judged i.reads h.reads)
      ((each_flat n) IsJudged (IsEnd n) end_kinds end_judged i.writes h.writes)

  mode_judged : (x : PlainMode) → (IsMode n) x → Each IsJudged (mode_kinds x)
  mode_judged x h = (h.period, (each_flat n) IsJudged (IsInvoke n) invoke_kinds invoke_judged x.invokes h.invokes)

  module_judged : (x : PlainModule) → (IsModule n) x → Each IsJudged (module_kinds x)
  module_judged x h =
      each_append IsJudged (map task_kind x.tasks) (flat_map mode_kinds x.modes) ((each_map n) IsJudged (IsTask n) task_kind (λ t is. is.worst) x.tasks h.tasks)
      ((each_flat n) IsJudged (IsMode n) mode_kinds mode_judged x.modes h.modes)

  program_judged : (x : PlainProgram) → (IsProgramNode n) x → Each IsJudged (program_kinds x)
  program_judged x h =
      each_append IsJudged (flat_map comm_kinds x.comms) (flat_map module_kinds x.modules) ((each_flat n) IsJudged (IsComm n) comm_kinds comm_judged x.comms h.comms)
      ((each_flat n) IsJudged (IsModule n) module_kinds module_judged x.modules h.modules)

  source_judged : (ps : List PlainProgram) → Each (IsProgramNode n) ps → Each IsJudged (kinds ps)
  source_judged ps h = (each_flat n) IsJudged (IsProgramNode n) program_kinds program_judged ps h

  -- ---- names after `parent`

  abbrev IsParent : ParentUse → Type 0
  IsParent u = (IsId n) u.id

  invoke_names : (p : ℕ) (i : InvokeNode) → (IsInvoke n) i → Each IsParent (invoke_parent p i)
  invoke_names p i h = by i.parent h.parent
    where
      by : (o : Option Id) → (IsClause n) o → Each IsParent (elim o [ Some id ↦ record { program = p; id = id } ∷ [] | None ↦ [] ])
      by None at = tt
      by (Some id) at = (at, tt)

  source_parents : (ps : List PlainProgram) → Each (IsProgramNode n) ps → Each IsParent (parents ps)
  source_parents ps h =
      (each_flat_at n) IsParent (IsProgramNode n) program_parents
      (λ p x is. (each_flat n) IsParent (IsModule n) (module_parents p)
      (λ y at. (each_flat n) IsParent (IsMode n) (mode_parents p) (λ m there. (each_flat n) IsParent (IsInvoke n) (invoke_parent p) (invoke_names p) m.invokes there.invokes) y.modes at.modes)
      x.modules is.modules)
      0 ps h

  -- ---- faults

  abbrev IsFaultBelow : NameFault → Type 0
  IsFaultBelow (fault.Twice token) = token < n
  IsFaultBelow (fault.Unknown token) = token < n
  IsFaultBelow (fault.Kind token) = token < n
  IsFaultBelow _ = Unit {0}

  fault_below : (ps : List PlainProgram) → Each (IsProgramNode n) ps → (r : NameRule) (k : ℕ) (f : NameFault) → NameBroken ps r k f → IsFaultBelow f
  fault_below ps h RepeatedName k f b = subst IsFaultBelow (sym b.3) (each_at IsEntry (entries ps) k b.0 (source_declares 0 0 ps h) b.1)
  fault_below ps h UnknownName k f b = subst IsFaultBelow (sym b.3) (each_at IsUse (uses ps) k b.0 (source_uses ps h) b.1)
  fault_below ps h WrongKind k f b = subst IsFaultBelow (sym b.3) (each_at IsJudged (kinds ps) k b.0 (source_judged ps h) b.1)
  fault_below ps h ProgramTree k f b = subst IsFaultBelow (sym b.2) tt
  fault_below ps h ParentName k f b = subst IsFaultBelow (sym b.3) (each_at IsParent (parents ps) k b.0 (source_parents ps h) b.1)
  fault_below ps h Limits k f b = subst IsFaultBelow (sym b.5) tt

-- a name fault of what the tokens spell is told by one of them
pub fault_token : (ts : List Token) (ps : List PlainProgram) (f : NameFault) → Spell ts ps → IsFirstNameFault ps f → IsFaultBelow (length ts) f
fault_token ts ps f spelled first =
    fault_below (length ts) ps (source_spelled (length ts) spelled (numbered_below (length ts) 0 ts (omega arith))) first.rule first.place f first.broken
