-- Where no name rule is broken, what the names mean that a tree uses stands in their lists, those after `parent` too, and
-- its numbers and values are of their kinds.
use Rattle.std.proofs.Common.{arith, ◌≡◌, ◌<◌, ◌≤◌, ℕ, List, slice_get, Some, None, refl, ap, inl, inr, ℤ, pos, negsuc, true, false, leb, leb-true, zero, suc, [], ◌∷◌, ◌∙◌, Option, MatchOption, flat_map}
use Rattle.htl_names.proofs.Words.{and_parts, true_from_ne_false, Ty, IsSpan, FitsType, comms_of, PlainProgram, PlainModule, PlainMode, PlainTask, PlainSwitch, Id, InvokeNode, CommNode, ConstNode, EndNode, Use, symbols_of, layout, meaning, size_of, value_of, ModeAt, look_up, invoke_key, AreNamesRight, UnknownName, WrongKind, ParentName, module_at, tasks_at, modes_at, mode_at, invokes_at, switches_at, task_uses, invoke_uses, switch_uses, program_use, mode_uses, module_uses, program_uses, uses, Judged, Span, Instance, Initial, token_of, is_span, is_instance, has_type, IsWrongKind, comm_kinds, end_kinds, invoke_kinds, mode_kinds, task_kind, module_kinds, program_kinds, ParentUse, parents, IsUnmatchedParent, parent_in, invoke_parent, mode_parents, module_parents, program_parents, refined_by, Key, IsNarrowEnd, IsNarrowInvoke}
use Rattle.htl_base.specs.declared.Ty.TheVariants as ty
use Rattle.htl_text.specs.declared.tree.ConstNode.TheVariants as const
use Rattle.htl_text.specs.declared.tree.EndNode.TheVariants as end
use Rattle.htl_names.specs.declared.fault.NameFault.TheVariants as fault
use Rattle.htl_names.proofs.{EntryLaws.Stands, EntryLaws.means, Members.All-from_places, Members.In, Members.in_next, Members.in_first, Members.in_second, Members.in_mapped, Members.in_part, Members.in_part_at, FlatMaps.flat_part}
use Rattle.htl_names.proofs.Places.{part_there, program_of_module, module_of_task, module_of_mode}

-- ---- a use is known

abbrev pub Within : Option ℕ → ℕ → Type 0
Within None n = Unit {0}
Within (Some below) n = n < below

-- what the name means stands in its list, at a place that is allowed
pub known : (ps : List PlainProgram) → AreNamesRight ps → (u : Use) → In u (uses ps)
    → Stands ps u.key.scope.space u.key (meaning (layout ps) u.key) × Within u.below (meaning (layout ps) u.key)
known ps right u at = by (look_up u.key (symbols_of ps)) u.below refl (λ is. right UnknownName at.0 (fault.Unknown u.token) (u, at.1, is, refl))
  where
    by : (o b : Option ℕ) → look_up u.key (symbols_of ps) ≡ o → (MatchOption o (Unit {0}) (λ n. MatchOption b ⊥ (λ below. below ≤ n)) → ⊥)
        → Stands ps u.key.scope.space u.key (meaning (layout ps) u.key) × Within b (elim o as (λ _. ℕ) [ Some n ↦ n | None ↦ 0 ])
    by None b is wrong = absurd (wrong tt)
    by (Some n) None is wrong = (means ps u.key n is, tt)
    by (Some n) (Some below) is wrong = (means ps u.key n is, omega (arith, wrong))

-- ---- the uses of a module, a task, a mode, an invocation, a switch

module _ (ps : List PlainProgram) (u : Use) where
  pub used_in_module : (p v : ℕ) (y : PlainModule) → module_at ps p v ≡ Some y → In u (module_uses p v y) → In u (uses ps)
  used_in_module p v y there at = let o = program_of_module ps p v y there in in_part_at program_uses ps p o.0 o.1 (in_part_at (module_uses p) o.0.modules v y o.2 at)

  pub used_in_task : (p v k : ℕ) (t : PlainTask) → slice_get (tasks_at ps p v) k ≡ Some t → In u (task_uses p v k t) → In u (uses ps)
  used_in_task p v k t there at = let o = module_of_task ps p v k t there in used_in_module p v o.0 o.1 (in_next _ _ (in_first _ _ (in_part_at (task_uses p v) o.0.tasks k t o.2 at)))

  used_in_mode : (a : ModeAt) (x : PlainMode) → mode_at ps a ≡ Some x → In u (mode_uses a.program a.«module» a.mode x) → In u (uses ps)
  used_in_mode a x there at =
      let o = module_of_mode ps a.program a.«module» a.mode x there in
      used_in_module a.program a.«module» o.0 o.1 (in_next _ _ (in_second _ _ (in_part_at (mode_uses a.program a.«module») o.0.modes a.mode x o.2 at)))

  pub used_in_invoke : (a : ModeAt) (j : ℕ) (i : InvokeNode) → slice_get (invokes_at ps a) j ≡ Some i → In u (invoke_uses a.program a.«module» a.mode i) → In u (uses ps)
  used_in_invoke a j i there at =
      let x = part_there (λ (z : PlainMode). z.invokes) (mode_at ps a) j i there in
      used_in_mode a x.0 x.1 (in_second (program_use x.0.program) _ (in_first _ _ (in_part (invoke_uses a.program a.«module» a.mode) x.0.invokes j i x.2 at)))

  pub used_in_switch : (a : ModeAt) (j : ℕ) (s : PlainSwitch) → slice_get (switches_at ps a) j ≡ Some s → In u (switch_uses a.program a.«module» s) → In u (uses ps)
  used_in_switch a j s there at =
      let x = part_there (λ (z : PlainMode). z.switches) (mode_at ps a) j s there in
      used_in_mode a x.0 x.1 (in_second (program_use x.0.program) _ (in_second _ _ (in_part (switch_uses a.program a.«module») x.0.switches j s x.2 at)))

-- ---- a name after `parent` that stands for an invocation

abbrev use_of : ℕ → Id → ParentUse
use_of p id = record { program = p; id = id }

-- in an invocation of a program that refines mode b
pub parent_stands : (ps : List PlainProgram) → AreNamesRight ps → (a : ModeAt) (j : ℕ) (i : InvokeNode) (id : Id) → slice_get (invokes_at ps a) j ≡ Some i → i.parent ≡ Some id
    → (b : ModeAt) → refined_by (symbols_of ps) ps a.program ≡ Some b
    → (y : InvokeNode) × (slice_get (invokes_at ps b) (meaning (layout ps) (invoke_key b.program b.«module» b.mode id.name)) ≡ Some y)
parent_stands ps right a j i id its is b refined = by (look_up key (symbols_of ps)) refl
  where
    key : Key
    key = invoke_key b.program b.«module» b.mode id.name

    used : In (use_of a.program id) (parents ps)
    used =
        let x = part_there (λ (z : PlainMode). z.invokes) (mode_at ps a) j i its in
        let o = module_of_mode ps a.program a.«module» a.mode x.0 x.1 in
        let q = program_of_module ps a.program a.«module» o.0 o.1 in
        let own : In (use_of a.program id) (invoke_parent a.program i) = (0, ap (λ o. slice_get (elim o [ Some n ↦ use_of a.program n ∷ [] | None ↦ [] ]) 0) is) in
        in_part_at program_parents ps a.program q.0 q.1 (in_part (module_parents a.program) q.0.modules a.«module» o.0 q.2
        (in_part (mode_parents a.program) o.0.modes a.mode x.0 o.2 (in_part (invoke_parent a.program) x.0.invokes j i x.2 own)))

    unmatched : (p : ℕ) → refined_by (symbols_of ps) ps p ≡ Some b → look_up key (symbols_of ps) ≡ None → IsUnmatchedParent (symbols_of ps) ps p id
    unmatched zero r none = tt
    unmatched (suc p) r none = ap (λ o. parent_in (symbols_of ps) o id.name) r ∙ none

    by : (o : Option ℕ) → look_up key (symbols_of ps) ≡ o → (y : InvokeNode) × (slice_get (invokes_at ps b) (meaning (layout ps) key) ≡ Some y)
    by None none = absurd (right ParentName used.0 (fault.Unknown id.token) (use_of a.program id, used.1, unmatched a.program refined none, refl))
    by (Some n) some = let y = means ps key n some in (y.0, y.1)

-- ---- what is judged is of its kind

abbrev IsRight : Judged → Type 0
IsRight j = IsWrongKind j → ⊥

module _ (ps : List PlainProgram) (right : AreNamesRight ps) (j : Judged) where
  right_in_program : (p : ℕ) (x : PlainProgram) → slice_get ps p ≡ Some x → In j (program_kinds x) → IsRight j
  right_in_program p x there at wrong = let k = in_part program_kinds ps p x there at in right WrongKind k.0 (fault.Kind (token_of j)) (j, k.1, wrong, refl)

  right_in_comm : (c : ℕ) (x : CommNode) → slice_get (comms_of ps) c ≡ Some x → In j (comm_kinds x) → IsRight j
  right_in_comm c x there at = let r = flat_part (λ (q : PlainProgram). q.comms) ps c x there in right_in_program r.part r.owner r.there (in_first _ _ (in_part comm_kinds r.owner.comms r.place x r.item at))

  right_in_module : (p u : ℕ) (y : PlainModule) → module_at ps p u ≡ Some y → In j (module_kinds y) → IsRight j
  right_in_module p u y there at = let o = program_of_module ps p u y there in right_in_program p o.0 o.1 (in_second _ _ (in_part module_kinds o.0.modules u y o.2 at))

  right_in_mode : (p u m : ℕ) (x : PlainMode) → slice_get (modes_at ps p u) m ≡ Some x → In j (mode_kinds x) → IsRight j
  right_in_mode p u m x there at = let o = module_of_mode ps p u m x there in right_in_module p u o.0 o.1 (in_second _ _ (in_part mode_kinds o.0.modes m x o.2 at))

-- ---- numbers and values

span : (x : ℤ) → (is_span x ≡ false → ⊥) → IsSpan (size_of x)
span (pos n) h = let tests = and_parts (leb 1 n) (leb n 1000000) (true_from_ne_false _ h) in record { some = leb-true 1 n tests.0; most = leb-true n 1000000 tests.1 }
span (negsuc n) h = absurd (h refl)

instance_most : (x : ℤ) → (is_instance x ≡ false → ⊥) → size_of x ≤ 1000000
instance_most (pos n) h = leb-true n 1000000 (true_from_ne_false _ h)
instance_most (negsuc n) h = absurd (h refl)

fits : (t : Ty) (c : ConstNode) → (has_type t c ≡ false → ⊥) → FitsType t (value_of c)
fits ty.Int c h = tt
fits ty.Bool (const.Int token minus x) h = absurd (h refl)
fits ty.Bool (const.Bool token true) h = inr refl
fits ty.Bool (const.Bool token false) h = inl refl

module _ (ps : List PlainProgram) (right : AreNamesRight ps) where
  pub comm_period_span : (c : ℕ) (x : CommNode) → slice_get (comms_of ps) c ≡ Some x → IsSpan (size_of x.period.x)
  comm_period_span c x there = span x.period.x (right_in_comm ps right (Span x.period) c x there (0, refl))

  pub initial_fits : (c : ℕ) (x : CommNode) → slice_get (comms_of ps) c ≡ Some x → FitsType x.ty (value_of x.init)
  initial_fits c x there = fits x.ty x.init (right_in_comm ps right (Initial x.ty x.init) c x there (1, refl))

  pub worst_span : (p u k : ℕ) (t : PlainTask) → slice_get (tasks_at ps p u) k ≡ Some t → IsSpan (size_of t.worst.x)
  worst_span p u k t there = let o = module_of_task ps p u k t there in span t.worst.x (right_in_module ps right (task_kind t) p u o.0 o.1 (in_first _ _ (in_mapped task_kind o.0.tasks k t o.2)))

  pub mode_period_span : (p u m : ℕ) (x : PlainMode) → slice_get (modes_at ps p u) m ≡ Some x → IsSpan (size_of x.period.x)
  mode_period_span p u m x there = span x.period.x (right_in_mode ps right (Span x.period) p u m x there (0, refl))

  module _ (p u m k : ℕ) (x : PlainMode) (i : InvokeNode) (there : slice_get (modes_at ps p u) m ≡ Some x) (its : slice_get x.invokes k ≡ Some i) where
    narrow_end : (e : EndNode) → ((j : Judged) → In j (end_kinds e) → In j (invoke_kinds i)) → IsNarrowEnd e
    narrow_end (end.Comm comm instance) among =
        instance_most instance.x (right_in_mode ps right (Instance instance) p u m x there (in_next _ _ (in_part invoke_kinds x.invokes k i its (among (Instance instance) (0, refl)))))
    narrow_end (end.Port port) among = omega arith

    pub narrow_invoke : IsNarrowInvoke i
    narrow_invoke = record {
      reads = All-from_places IsNarrowEnd i.reads (λ n e at. narrow_end e (λ j h. in_first _ _ (in_part end_kinds i.reads n e at h)));
      writes = All-from_places IsNarrowEnd i.writes (λ n e at. narrow_end e (λ j h. in_second (flat_map end_kinds i.reads) _ (in_part end_kinds i.writes n e at h)));
    }
