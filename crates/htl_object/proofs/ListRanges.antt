-- What is read of a file is tables in range.
use Rattle.std.proofs.Common.{◌≡◌, ◌≤◌, ◌<◌, ◌+◌, ℕ, zero, suc, Bool, true, false, not, cond, ◌&&◌, eqb, List, [], ◌∷◌, length, map, take, slice_get, Option, Some, None, All, IfSome, ℤ, pos, refl, sym, ◌∙◌, ap, subst, arith, inl, inr}
use Rattle.htl_object.proofs.Words.{nat_le, nat_lt, int_eq, bytes_eq, nat_tests, Decides-int_eq, length-map, All-map, sum_by-cons, slice_get_within, bytes_eq-Decides, Ty, is_span, is_owner, is_of, is_named_comm, is_named_mode, last_module, is_named_module, is_mode_of, is_within_before, is_named_port, is_named_task, last_mode, last_owner, is_port_of, is_inv_task, is_parent, is_target, is_read, last_inv_mode, last_switch_mode, is_body, IsFrontInRange, Each, Fits16, IsComm, IsMode, IsModule, IsPort, IsTask, IsEnd, AreEnds, IsInv, IsSwitch, IsCode, Lists, are_different_numbers, FitsType, IsSpan, IsCommInRange, IsModeInRange, IsModeThat, parent_of, is_within, IsPortInRange, IsTaskInRange, IsEndInRange, IsInvInRange, IsSwitchInRange, IsFunInRange, AreInRange, Tables, Compiled, mode_module, task_count, count_before, Code, Comm, End, Inv, Mode, Module, Port, Switch, Task, different, different_owned, different_pairs, different_numbers, AreApart, tables_of_lists, and_from, eq-eqb, eqb-true, not-true, or_cases, and_first, from_take, list_any, count_by, sum_by, count_more, module_is}
use Rattle.htl_base.specs.declared.Ty.TheVariants as ty
use Rattle.htl_model.specs.declared.parts.End.TheVariants as E
use Rattle.htl_object.proofs.Each.{at_place, all_of, length_take, apart, rising, few_from}

-- ---- tests

pub right : (a b : Bool) → (a && b) ≡ true → b ≡ true
right true b h = h
right false b h = cc

pub at_most : (n m : ℕ) → nat_le n m ≡ true → n ≤ m
at_most n m h = grind (arith, nat_tests)

below : (n m : ℕ) → nat_lt n m ≡ true → n < m
below n m h = grind (arith, nat_tests)

same_bytes : (a b : List ℕ) → a ≡ b → bytes_eq a b ≡ true
same_bytes a b h = (bytes_eq-Decides a b).1 h

span : (n : ℕ) → is_span n ≡ true → IsSpan n
span n h = record { some = at_most 1 n (and_first (nat_le 1 n) (nat_le n 1000000) h); most = at_most n 1000000 (right (nat_le 1 n) (nat_le n 1000000) h) }

owner_below : (count least n : ℕ) → is_owner count least n ≡ true → n < count
owner_below count least n h = below n count (and_first (nat_lt n count) (nat_le least n) h)

owner_least : (count least n : ℕ) → is_owner count least n ≡ true → least ≤ n
owner_least count least n h = at_most least n (right (nat_lt n count) (nat_le least n) h)

-- ---- keys without repetitions

pub itself : {A : Type 0} (xs : List A) → map (λ x. x) xs ≡ xs
itself [] = refl
itself (x ∷ xs) = ap (λ ys. x ∷ ys) (itself xs)

-- ---- values

init_fits : (t : Ty) (x : ℤ) → is_of t x ≡ true → FitsType t x
init_fits ty.Int x h = tt
init_fits ty.Bool x h = elim (or_cases (int_eq x (pos 0)) (int_eq x (pos 1)) h) [ inl a ↦ inl ((Decides-int_eq x (pos 0)).0 a) | inr b ↦ inr ((Decides-int_eq x (pos 1)).0 b) ]

-- ---- modes of modules

pub mode_of : (modes : List Mode) (k n : ℕ) → is_mode_of modes k n ≡ true → (m : Mode) × (slice_get modes n ≡ Some m) × (m.«module» ≡ k)
mode_of modes k n h = by (slice_get modes n) refl h
  where
    by : (o : Option Mode) → slice_get modes n ≡ o → elim o as (λ _. Bool) [ Some m ↦ eqb m.«module» k | None ↦ false ] ≡ true → (m : Mode) × (slice_get modes n ≡ Some m) × (m.«module» ≡ k)
    by (Some m) e h = (m, e, eqb-true m.«module» k h)
    by None e h = cc

-- levels over the modules before are levels over all
levels : (t : Tables) (k n : ℕ) (o : Option ℕ) → is_within_before n t.modes (take k t.modules) o ≡ true → is_within n t o ≡ true
levels t k zero None h = refl
levels t k (suc n) None h = refl
levels t k zero (Some q) h = cc
levels t k (suc n) (Some q) h = by (slice_get t.modes q) refl (λ p g. levels t k n p g) h
  where
    above : (m : Mode) → slice_get t.modes q ≡ Some m → (o : Option Module) → slice_get (take k t.modules) m.«module» ≡ o
        → ((p : Option ℕ) → is_within_before n t.modes (take k t.modules) p ≡ true → is_within n t p ≡ true)
        → elim o as (λ _. Bool) [ Some x ↦ is_within_before n t.modes (take k t.modules) x.parent | None ↦ false ] ≡ true → is_within n t (parent_of t (mode_module t q)) ≡ true
    above m e None f go h = cc
    above m e (Some x) f go h =
        let there : slice_get t.modules m.«module» ≡ Some x = (from_take t.modules k m.«module» x f).1 in
        let parent : parent_of t (mode_module t q) ≡ x.parent =
        ap (parent_of t) (module_is t q m e) ∙ ap (λ (o : Option Module). elim o as (λ _. Option ℕ) [ Some y ↦ y.parent | None ↦ None ]) there in
        ap (is_within n t) parent ∙ go x.parent h

    by : (o : Option Mode) → slice_get t.modes q ≡ o → ((p : Option ℕ) → is_within_before n t.modes (take k t.modules) p ≡ true → is_within n t p ≡ true)
        → elim o as (λ _. Bool) [ Some m ↦ elim (slice_get (take k t.modules) m.«module») as (λ _. Bool) [ Some x ↦ is_within_before n t.modes (take k t.modules) x.parent | None ↦ false ] | None ↦ false ] ≡ true
        → is_within n t (parent_of t (mode_module t q)) ≡ true
    by None e go h = cc
    by (Some m) e go h = above m e (slice_get (take k t.modules) m.«module») refl go h

-- a parent is a mode of a module before
parent_there : (t : Tables) (k n : ℕ) (o : Option ℕ) → k ≤ length t.modules → is_within_before n t.modes (take k t.modules) o ≡ true → IfSome o (IsModeThat t (λ owner. owner < k))
parent_there t k n None size h = tt
parent_there t k zero (Some q) size h = cc
parent_there t k (suc n) (Some q) size h = by (slice_get t.modes q) refl h
  where
    above : (m : Mode) → (o : Option Module) → slice_get (take k t.modules) m.«module» ≡ o → elim o as (λ _. Bool) [ Some x ↦ is_within_before n t.modes (take k t.modules) x.parent | None ↦ false ] ≡ true → m.«module» < k
    above m None f h = cc
    above m (Some x) f h = (from_take t.modules k m.«module» x f).0

    by : (o : Option Mode) → slice_get t.modes q ≡ o
        → elim o as (λ _. Bool) [ Some m ↦ elim (slice_get (take k t.modules) m.«module») as (λ _. Bool) [ Some x ↦ is_within_before n t.modes (take k t.modules) x.parent | None ↦ false ] | None ↦ false ] ≡ true
        → IsModeThat t (λ owner. owner < k) q
    by None e h = cc
    by (Some m) e h = (m, e, above m (slice_get (take k t.modules) m.«module») refl h)

-- ---- ends

port_there : (ports : List Port) (mode n : ℕ) → is_port_of ports mode n ≡ true → (q : Port) × (slice_get ports n ≡ Some q) × (q.mode ≡ mode)
port_there ports mode n h = by (slice_get ports n) refl h
  where
    by : (o : Option Port) → slice_get ports n ≡ o → elim o as (λ _. Bool) [ Some p ↦ eqb p.mode mode | None ↦ false ] ≡ true → (q : Port) × (slice_get ports n ≡ Some q) × (q.mode ≡ mode)
    by (Some p) e h = (p, e, eqb-true p.mode mode h)
    by None e h = cc

end_there : (t : Tables) (mode : ℕ) (e : End) → IsEnd (length t.comms) t.ports mode e → IsEndInRange t mode e
end_there t mode (E.Comm comm instance) h = (below comm (length t.comms) h.0.1, at_most instance 1000000 h.1.1)
end_there t mode (E.Port port) h = port_there t.ports mode port h.1

ends_there : (t : Tables) (mode : ℕ) (es : List End) → AreEnds (length t.comms) t.ports mode es → All (IsEndInRange t mode) es
ends_there t mode es h = all_of (λ _. IsEnd (length t.comms) t.ports mode) (IsEndInRange t mode) es (λ b e f. end_there t mode e f) h.1

few_ends : (t : Tables) (mode : ℕ) (es : List End) → AreEnds (length t.comms) t.ports mode es → length es ≤ 256
few_ends t mode es h = at_most (length es) 256 h.0.1

-- ---- invocations

task_there : (t : Tables) (before : List Inv) (mode n : ℕ) → is_inv_task t.modes t.tasks before mode n ≡ true → (k : Task) × (slice_get t.tasks n ≡ Some k) × (k.«module» ≡ mode_module t mode)
task_there t before mode n h = by (slice_get t.tasks n) refl (and_first (elim (slice_get t.tasks n) as (λ _. Bool) [ Some k ↦ is_mode_of t.modes k.«module» mode | None ↦ false ]) (not (list_any (λ i. eqb i.mode mode && eqb i.task n) before)) h)
  where
    by : (o : Option Task) → slice_get t.tasks n ≡ o → elim o as (λ _. Bool) [ Some k ↦ is_mode_of t.modes k.«module» mode | None ↦ false ] ≡ true
        → (k : Task) × (slice_get t.tasks n ≡ Some k) × (k.«module» ≡ mode_module t mode)
    by (Some k) e h = let m = mode_of t.modes k.«module» mode h in (k, e, sym (module_is t mode m.0 m.1 ∙ m.2))
    by None e h = cc

not_invoked : (t : Tables) (before : List Inv) (mode n : ℕ) → is_inv_task t.modes t.tasks before mode n ≡ true → list_any (λ i. eqb i.mode mode && eqb i.task n) before ≡ false
not_invoked t before mode n h =
    not-true (list_any (λ i. eqb i.mode mode && eqb i.task n) before)
    (right (elim (slice_get t.tasks n) as (λ _. Bool) [ Some k ↦ is_mode_of t.modes k.«module» mode | None ↦ false ]) (not (list_any (λ i. eqb i.mode mode && eqb i.task n) before)) h)

parent_below : (invs : ℕ) (o : Option ℕ) → is_parent invs o ≡ true → IfSome o (λ p. p < invs)
parent_below invs None h = tt
parent_below invs (Some p) h = below p invs h

inv_there : (t : Tables) (before : List Inv) (i : Inv) → IsInv (length t.comms) (length t.invs) t.modes t.tasks t.ports before i → IsInvInRange t i
inv_there t before i h =
    record {
      owner = owner_below (length t.modes) (last_inv_mode before) i.mode (and_first (is_owner (length t.modes) (last_inv_mode before) i.mode) (nat_lt (count_by (λ j. eqb j.mode i.mode) before) 128) h.mode.1);
      task = task_there t before i.mode i.task h.task.1;
      parent = parent_below (length t.invs) i.parent h.parent.1;
      reads = ends_there t i.mode i.reads h.reads;
      writes = ends_there t i.mode i.writes h.writes;
      few_reads = few_ends t i.mode i.reads h.reads;
      few_writes = few_ends t i.mode i.writes h.writes;
    }

room : (comms invs : ℕ) (modes : List Mode) (tasks : List Task) (ports : List Port) (m : ℕ) (before : List Inv) (i : Inv) → IsInv comms invs modes tasks ports before i → eqb i.mode m ≡ true
    → count_by (λ j. eqb j.mode m) before < 128
room comms invs modes tasks ports m before i h e =
    let one : i.mode ≡ m = eqb-true i.mode m e in
    subst (λ (n : ℕ). count_by (λ (j : Inv). eqb j.mode n) before < 128) one
    (below (count_by (λ (j : Inv). eqb j.mode i.mode) before) 128 (right (is_owner (length modes) (last_inv_mode before) i.mode) (nat_lt (count_by (λ (j : Inv). eqb j.mode i.mode) before) 128) h.mode.1))

-- ---- switches

target_there : (t : Tables) (mode n : ℕ) → is_target t.modes mode n ≡ true → IsModeThat t (λ owner. owner ≡ mode_module t mode) n
target_there t mode n h = by (slice_get t.modes n) refl h
  where
    by : (o : Option Mode) → slice_get t.modes n ≡ o → elim o as (λ _. Bool) [ Some m ↦ is_mode_of t.modes m.«module» mode | None ↦ false ] ≡ true → IsModeThat t (λ owner. owner ≡ mode_module t mode) n
    by (Some m) e h = let q = mode_of t.modes m.«module» mode h in (m, e, sym (module_is t mode q.0 q.1 ∙ q.2))
    by None e h = cc

reads_apart : (comms : ℕ) (rs : List ℕ) → Each (λ before. Fits16 (is_read comms before)) [] rs → are_different_numbers rs ≡ true
reads_apart comms rs h =
    different_numbers rs (subst (λ (ns : List ℕ). AreApart ns) (itself rs)
    (apart (λ (x : ℕ). x) (λ before. Fits16 (is_read comms before)) (λ (y x : ℕ). eqb y x) rs
    (λ before x f. not-true (list_any (λ c. eqb c x) before) (right (nat_lt x comms) (not (list_any (λ c. eqb c x) before)) f.1)) (λ y x e. eq-eqb y x e) h))

switch_there : (t : Tables) (before : List Switch) (s : Switch) → IsSwitch (length t.comms) t.modes before s → IsSwitchInRange t s
switch_there t before s h =
    record {
      owner = owner_below (length t.modes) (last_switch_mode before) s.mode h.mode.1;
      target = target_there t s.mode s.target h.target.1;
      reads = all_of (λ b. Fits16 (is_read (length t.comms) b)) (λ c. c < length t.comms) s.reads
          (λ b c f. below c (length t.comms) (and_first (nat_lt c (length t.comms)) (not (list_any (λ d. eqb d c) b)) f.1)) h.reads;
      different = reads_apart (length t.comms) s.reads h.reads;
      few_reads = at_most (length s.reads) 256 h.read_count.1;
    }

-- ---- functions

body : (n : ℕ) → is_body n ≡ true → (1 ≤ n) × (n ≤ 512)
body n h = (at_most 1 n (and_first (nat_le 1 n) (nat_le n 512) h), at_most n 512 (right (nat_le 1 n) (nat_le n 512) h))

code_there : (c : Code) → IsCode c → IsFunInRange (Compiled c)
code_there c h = let b = body (length c.instrs) h.instr_count.1 in (b.0, b.1, at_most (length c.args) 256 h.arg_count.1)

pub counted : (ts : List Task) → sum_by (λ t. cond t.is_abstract 0 (length t.outputs)) ts ≡ count_before (length ts) ts
counted [] = refl
counted (k ∷ ts) = let e = sum_by-cons (λ t. cond t.is_abstract 0 (length t.outputs)) k ts in omega (arith, e, counted ts, count_more k ts (length ts))

-- ---- the law

pub lists_in_range : (l : Lists) → IsFrontInRange l → AreInRange (tables_of_lists l)
lists_in_range l h =
    let t : Tables = tables_of_lists l in
    record {
      few_comms = at_most (length l.comms) 1024 h.counts.comms.1;
      few_modules = at_most (length l.modules) 64 h.counts.modules.1;
      few_modes = at_most (length l.modes) 256 h.counts.modes.1;
      few_ports = at_most (length l.ports) 4096 h.counts.ports.1;
      few_tasks = at_most (length l.tasks) 4096 h.counts.tasks.1;
      few_invs = at_most (length l.invs) 2048 h.counts.invs.1;
      few_switches = at_most (length l.switches) 4096 h.counts.switches.1;
      few_in_mode = λ m. few_from (λ (i : Inv). eqb i.mode m) (IsInv (length l.comms) (length l.invs) l.modes l.tasks l.ports) 128 [] l.invs
          (λ b i f e. room (length l.comms) (length l.invs) l.modes l.tasks l.ports m b i f e) (omega arith) h.invs;
      comm_names = different (map (λ c. c.name) l.comms) (apart (λ (c : Comm). c.name) IsComm (λ y x. bytes_eq y.name x.name) l.comms
          (λ b x f. not-true (is_named_comm b x.name) f.differs) (λ y x e. same_bytes y.name x.name e) h.comms);
      module_names = different (map (λ x. x.name) l.modules) (apart (λ (c : Module). c.name) (IsModule l.modes) (λ y x. bytes_eq y.name x.name) l.modules
          (λ b x f. not-true (is_named_module b x.name) f.differs) (λ y x e. same_bytes y.name x.name e) h.modules);
      mode_names = different_owned (map (λ m. (m.«module», m.name)) l.modes) (apart (λ (m : Mode). (m.«module», m.name)) (IsMode (length l.modules)) (λ y x. eqb y.«module» x.«module» && bytes_eq y.name x.name) l.modes
          (λ b x f. not-true (is_named_mode b x.«module» x.name) f.differs)
          (λ y x e. and_from (eqb y.«module» x.«module») (bytes_eq y.name x.name) (eq-eqb y.«module» x.«module» (ap (λ (p : ℕ × List ℕ). p.0) e)) (same_bytes y.name x.name (ap (λ (p : ℕ × List ℕ). p.1) e))) h.modes);
      port_names = different_owned (map (λ p. (p.mode, p.name)) l.ports) (apart (λ (p : Port). (p.mode, p.name)) (IsPort (length l.modes)) (λ y x. eqb y.mode x.mode && bytes_eq y.name x.name) l.ports
          (λ b x f. not-true (is_named_port b x.mode x.name) f.differs)
          (λ y x e. and_from (eqb y.mode x.mode) (bytes_eq y.name x.name) (eq-eqb y.mode x.mode (ap (λ (p : ℕ × List ℕ). p.0) e)) (same_bytes y.name x.name (ap (λ (p : ℕ × List ℕ). p.1) e))) h.ports);
      task_names = different_owned (map (λ k. (k.«module», k.name)) l.tasks) (apart (λ (k : Task). (k.«module», k.name)) (IsTask (length l.modules)) (λ y x. eqb y.«module» x.«module» && bytes_eq y.name x.name) l.tasks
          (λ b x f. not-true (is_named_task b x.«module» x.name) f.differs)
          (λ y x e. and_from (eqb y.«module» x.«module») (bytes_eq y.name x.name) (eq-eqb y.«module» x.«module» (ap (λ (p : ℕ × List ℕ). p.0) e)) (same_bytes y.name x.name (ap (λ (p : ℕ × List ℕ). p.1) e))) h.tasks);
      invoked_once = different_pairs (map (λ i. (i.mode, i.task)) l.invs) (apart (λ (i : Inv). (i.mode, i.task)) (IsInv (length l.comms) (length l.invs) l.modes l.tasks l.ports) (λ y x. eqb y.mode x.mode && eqb y.task x.task) l.invs
          (λ b x f. not_invoked t b x.mode x.task f.task.1)
          (λ y x e. and_from (eqb y.mode x.mode) (eqb y.task x.task) (eq-eqb y.mode x.mode (ap (λ (p : ℕ × ℕ). p.0) e)) (eq-eqb y.task x.task (ap (λ (p : ℕ × ℕ). p.1) e))) h.invs);
      modes_by_module = rising (λ (m : Mode). m.«module») (IsMode (length l.modules)) l.modes (λ b x f. owner_least (length l.modules) (last_module b) x.«module» f.owner.1) h.modes;
      ports_by_mode = rising (λ (p : Port). p.mode) (IsPort (length l.modes)) l.ports (λ b x f. owner_least (length l.modes) (last_mode b) x.mode f.owner.1) h.ports;
      tasks_by_module = rising (λ (k : Task). k.«module») (IsTask (length l.modules)) l.tasks (λ b x f. owner_least (length l.modules) (last_owner b) x.«module» f.owner.1) h.tasks;
      invs_by_mode = rising (λ (i : Inv). i.mode) (IsInv (length l.comms) (length l.invs) l.modes l.tasks l.ports) l.invs
          (λ b x f. owner_least (length l.modes) (last_inv_mode b) x.mode (and_first (is_owner (length l.modes) (last_inv_mode b) x.mode) (nat_lt (count_by (λ (j : Inv). eqb j.mode x.mode) b) 128) f.mode.1)) h.invs;
      switches_by_mode = rising (λ (s : Switch). s.mode) (IsSwitch (length l.comms) l.modes) l.switches (λ b x f. owner_least (length l.modes) (last_switch_mode b) x.mode f.mode.1) h.switches;
      comms = all_of IsComm IsCommInRange l.comms (λ b c f. record { period = span c.period f.period; init = init_fits c.ty c.init f.init }) h.comms;
      modes = all_of (IsMode (length l.modules)) (IsModeInRange t) l.modes (λ b m f. record { owner = owner_below (length l.modules) (last_module b) m.«module» f.owner.1; period = span m.period f.period }) h.modes;
      modules = λ k x at.
          let f = at_place (IsModule l.modes) l.modules k x h.modules at in
          let size : k < length l.modules = slice_get_within l.modules k x at in
          let count : length (take k l.modules) ≡ k = length_take l.modules k (omega arith) in
          let start = mode_of l.modes (length (take k l.modules)) x.start f.start.1 in
          record { start = (start.0, start.1, start.2 ∙ count); parent = parent_there t k 7 x.parent (omega arith) f.parent.1; levels = levels t k 7 x.parent f.parent.1 };
      ports = all_of (IsPort (length l.modes)) (IsPortInRange t) l.ports (λ b p f. owner_below (length l.modes) (last_mode b) p.mode f.owner.1) h.ports;
      tasks = all_of (IsTask (length l.modules)) (IsTaskInRange t) l.tasks
          (λ b k f. record { owner = owner_below (length l.modules) (last_owner b) k.«module» f.owner.1; worst = span k.worst f.worst; few_inputs = at_most (length k.inputs) 256 f.inputs.0.1; few_outputs = at_most (length k.outputs) 256 f.outputs.0.1 }) h.tasks;
      invs = all_of (IsInv (length l.comms) (length l.invs) l.modes l.tasks l.ports) (IsInvInRange t) l.invs (λ b i f. inv_there t b i f) h.invs;
      switches = all_of (IsSwitch (length l.comms) l.modes) (IsSwitchInRange t) l.switches (λ b s f. switch_there t b s f) h.switches;
      functions = All-map IsFunInRange (λ (c : Code). Compiled c) l.functions (all_of (λ _. IsCode) (λ c. IsFunInRange (Compiled c)) l.functions (λ b c f. code_there c f) h.functions);
      function_count = omega (arith, length-map l.functions (λ (c : Code). Compiled c), h.function_count, counted l.tasks);
    }
