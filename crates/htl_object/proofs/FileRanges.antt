-- The lists of an object in range are in range, each item by those before it.
use Rattle.std.proofs.Common.{◌≡◌, ◌≤◌, ◌<◌, ℕ, zero, suc, Bool, true, false, not, cond, ◌&&◌, eqb, List, [], ◌∷◌, ◌++◌, length, map, take, drop, get_or, slice_get, Option, Some, None, All, IfSome, ℤ, pos, refl, sym, ◌∙◌, ap, subst, arith, inl, inr, take-append-drop}
use Rattle.htl_object.proofs.Words.{nat_le, nat_lt, FitsSigned, w64, list_any, count_by, int_eq, bytes_eq, nat_tests, Decides-int_eq, length-map, sum_by-append, sum_by-cons, slice_get-get_or, slice_get_within, slice_get_cases, bytes_eq-Decides, is_name, Ty, EInstr, apart_names, apart_owned, apart_pairs, apart_numbers, length-list_to, get_list_to, AreApart, list_to, FitsType, IsSpan, IsModeThat, parent_of, is_within, IsEndInRange, IsFunInRange, AreInRange, IsCommInRange, IsModeInRange, IsPortInRange, IsInvInRange, IsSwitchInRange, IsTaskInRange, Tables, Fun, Compiled, mode_module, Code, Comm, End, Inv, Mode, Module, Port, Switch, Task, is_named_comm, is_span, is_owner, is_of, AreAnchors, IsFrontInRange, IsFileInRange, is_node_count, is_parent, is_read, last_inv_mode, last_switch_mode, Each, Fits16, IsComm, IsMode, IsOption, IsModule, IsPort, AreTypes, IsTask, IsEnd, AreEnds, IsInv, IsSwitch, IsCode, IsEInstr, IsSInstr, IsFInstr, codes_of, anchors_of, lists_of, tables_of_lists, is_named_mode, last_module, is_named_module, is_mode_of, is_within_before, HasWidths, KeepsFunction, IsObject, is_named_port, is_named_task, last_mode, last_owner, IsPhased, IsShort, IsSchedule, Anchors, Object, Schedule, all_at, and_from, eq-eqb, eqb-true, not_from_false, or_left, or_right, and_first, module_is}
use Rattle.htl_base.specs.declared.Ty.TheVariants as ty
use Rattle.htl_ecode.specs.declared.instr.EInstr.TheVariants as I
use Rattle.htl_model.specs.declared.parts.End.TheVariants as E
use Rattle.htl_object.proofs.{Each.each_of, Each.every, Each.none_before, Each.last_least, Each.length_take, Each.get_take, NodeCounts.nodes_few, NodeCounts.node_count_so, NodeCounts.small as le_test, Listed.all_codes, Listed.object_again}
use Rattle.htl_object.proofs.ListRanges.{counted, itself, right}

-- ---- tests

lt_test : (n m : ℕ) → n < m → nat_lt n m ≡ true
lt_test n m h = grind (arith, nat_tests)

small : (n most : ℕ) → most < 65536 → n ≤ most → Fits16 (λ k. nat_le k most) n
small n most h k = (omega (arith, h, k), le_test n most k)

span_test : (n : ℕ) → IsSpan n → is_span n ≡ true
span_test n s = and_from (nat_le 1 n) (nat_le n 1000000) (le_test 1 n s.some) (le_test n 1000000 s.most)

owner_test : (count least n : ℕ) → count ≤ 65535 → n < count → least ≤ n → Fits16 (is_owner count least) n
owner_test count least n few below up = (omega (arith, few, below), and_from (nat_lt n count) (nat_le least n) (lt_test n count below) (le_test least n up))

same_bytes : (a b : List ℕ) → bytes_eq a b ≡ true → a ≡ b
same_bytes a b h = (bytes_eq-Decides a b).0 h

same_owned_name : (m n : ℕ) (a b : List ℕ) → (eqb m n && bytes_eq a b) ≡ true → ◌≡◌ {A = ℕ × List ℕ} (m, a) (n, b)
same_owned_name m n a b h =
    ap (λ (x : ℕ). (x, a)) (eqb-true m n (and_first (eqb m n) (bytes_eq a b) h)) ∙ ap (λ (x : List ℕ). (n, x)) (same_bytes a b (right (eqb m n) (bytes_eq a b) h))

same_pair : (m n a b : ℕ) → (eqb m n && eqb a b) ≡ true → ◌≡◌ {A = ℕ × ℕ} (m, a) (n, b)
same_pair m n a b h = ap (λ (x : ℕ). (x, a)) (eqb-true m n (and_first (eqb m n) (eqb a b) h)) ∙ ap (λ (x : ℕ). (n, x)) (eqb-true a b (right (eqb m n) (eqb a b) h))

init_test : (t : Ty) (x : ℤ) → FitsType t x → is_of t x ≡ true
init_test ty.Int x h = refl
init_test ty.Bool x (inl e) = or_left (int_eq x (pos 0)) (int_eq x (pos 1)) ((Decides-int_eq x (pos 0)).1 e)
init_test ty.Bool x (inr e) = or_right (int_eq x (pos 0)) (int_eq x (pos 1)) ((Decides-int_eq x (pos 1)).1 e)

all_there : {A : Type 0} (xs : List A) → Each (λ _ _. Unit {0}) [] xs
all_there xs = each_of (λ _ _. Unit {0}) xs (λ k x e. tt)

-- ---- modes of modules

mode_test : (modes : List Mode) (k n : ℕ) (m : Mode) → slice_get modes n ≡ Some m → m.«module» ≡ k → is_mode_of modes k n ≡ true
mode_test modes k n m e same = ap (λ (o : Option Mode). elim o as (λ _. Bool) [ Some y ↦ eqb y.«module» k | None ↦ false ]) e ∙ eq-eqb m.«module» k same

-- a mode of the module of the mode
same_module_test : (t : Tables) (mode k : ℕ) → mode < length t.modes → k ≡ mode_module t mode → is_mode_of t.modes k mode ≡ true
same_module_test t mode k less e = elim (slice_get_cases t.modes mode).1 [
  | inl c ↦ mode_test t.modes k mode c.0 c.2 (sym (module_is t mode c.0 c.2) ∙ sym e)
  | inr c ↦ absurd (omega (arith, c.0, less))
]

-- levels over all modules are levels over those before
levels : (t : Tables) → AreInRange t → (k n : ℕ) (o : Option ℕ) → IfSome o (IsModeThat t (λ owner. owner < k)) → is_within n t o ≡ true → is_within_before n t.modes (take k t.modules) o ≡ true
levels t r k zero None p h = refl
levels t r k (suc n) None p h = refl
levels t r k zero (Some q) p h = absurd (let z : ⊥ = cc in z)
levels t r k (suc n) (Some q) p h = elim (slice_get_cases t.modules p.0.«module»).1 [
  | inl c ↦
      let m = p.0 in
      let x = c.0 in
      let parent : parent_of t (mode_module t q) ≡ x.parent = ap (parent_of t) (module_is t q m p.1) ∙ ap (λ (o : Option Module). elim o as (λ _. Option ℕ) [ Some y ↦ y.parent | None ↦ None ]) c.2 in
      let above : IfSome x.parent (IsModeThat t (λ owner. owner < k)) = lower x.parent m.«module» p.2 (r.modules m.«module» x c.2).parent in
      let further = levels t r k n x.parent above (ap (is_within n t) (sym parent) ∙ h) in
      ap (λ (o : Option Mode). elim o as (λ _. Bool) [ Some y ↦ elim (slice_get (take k t.modules) y.«module») as (λ _. Bool) [ Some z ↦ is_within_before n t.modes (take k t.modules) z.parent | None ↦ false ] | None ↦ false ]) p.1
      ∙ ap (λ (o : Option Module). elim o as (λ _. Bool) [ Some z ↦ is_within_before n t.modes (take k t.modules) z.parent | None ↦ false ]) (get_take t.modules k m.«module» p.2 ∙ c.2)
      ∙ further
  | inr c ↦ absurd (omega (arith, c.0, (all_at (IsModeInRange t) t.modes q p.0 r.modes p.1).owner))
]
  where
    lower : (o : Option ℕ) (j : ℕ) → j < k → IfSome o (IsModeThat t (λ owner. owner < j)) → IfSome o (IsModeThat t (λ owner. owner < k))
    lower None j less f = tt
    lower (Some a) j less f = (f.0, f.1, omega (arith, f.2, less))

few_parents : (o : Option ℕ) (most : ℕ) → most < 65535 → IfSome o (λ p. p < most) → IsOption o
few_parents None most h p = tt
few_parents (Some a) most h p = omega (arith, h, p)

mode_that_below : (t : Tables) (fits : ℕ → Type 0) (o : Option ℕ) → IfSome o (IsModeThat t fits) → IfSome o (λ p. p < length t.modes)
mode_that_below t fits None p = tt
mode_that_below t fits (Some a) p = slice_get_within t.modes a p.0 p.1

-- ---- ends

end_test : (t : Tables) → AreInRange t → (mode : ℕ) (e : End) → IsEndInRange t mode e → IsEnd (length t.comms) t.ports mode e
end_test t r mode (E.Comm c n) h = ((omega (arith, h.0, r.few_comms), lt_test c (length t.comms) h.0), (omega (arith, h.1), le_test n 1000000 h.1))
end_test t r mode (E.Port p) h = (
  omega (arith, slice_get_within t.ports p h.0 h.1, r.few_ports),
  ap (λ (o : Option Port). elim o as (λ _. Bool) [ Some y ↦ eqb y.mode mode | None ↦ false ]) h.1 ∙ eq-eqb h.0.mode mode h.2,
)

ends_test : (t : Tables) → AreInRange t → (mode : ℕ) (es : List End) → length es ≤ 256 → All (IsEndInRange t mode) es → AreEnds (length t.comms) t.ports mode es
ends_test t r mode es few h =
    (small (length es) 256 (omega arith) few, each_of (λ _. IsEnd (length t.comms) t.ports mode) es (λ k e at. end_test t r mode e (all_at (IsEndInRange t mode) es k e h at)))

types_test : (ts : List Ty) → length ts ≤ 256 → AreTypes ts
types_test ts few = (small (length ts) 256 (omega arith) few, all_there ts)

-- ---- invocations

-- one that passes at a place leaves room before it
room : {A : Type 0} (test : A → Bool) (xs : List A) (k : ℕ) (x : A) (most : ℕ) → slice_get xs k ≡ Some x → test x ≡ true → count_by test xs ≤ most → count_by test (take k xs) < most
room {A} test xs k x most e h few =
    let whole : count_by test (take k xs ++ drop k xs) ≡ count_by test xs = ap (count_by test) (take-append-drop k xs) in
    omega (arith, whole, sum_by-append (λ y. cond (test y) 1 0) (take k xs) (drop k xs), one xs k e, few)
  where
    first : (y : A) (ys : List A) → y ≡ x → 1 ≤ count_by test (y ∷ ys)
    first y ys same =
        let yes : cond (test y) 1 0 ≡ 1 = ap (λ (b : Bool). cond {A = ℕ} b 1 0) (ap test same ∙ h) in
        omega (arith, sum_by-cons (λ z. cond (test z) 1 0) y ys, yes)

    one : (ys : List A) (j : ℕ) → slice_get ys j ≡ Some x → 1 ≤ count_by test (drop j ys)
    one [] j e = absurd (let z : ⊥ = cc in z)
    one (y ∷ ys) zero e = first y ys (let same : y ≡ x = cc in same)
    one (y ∷ ys) (suc j) e = one ys j e

parent_test : (invs : ℕ) (o : Option ℕ) → IfSome o (λ p. p < invs) → is_parent invs o ≡ true
parent_test invs None h = refl
parent_test invs (Some p) h = lt_test p invs h

-- ---- instructions

instr_fits : (i : EInstr) → HasWidths i → IsPhased i → IsEInstr i
instr_fits (I.Future d f x) w p = (w.0, ((omega (arith, p.1), and_from (nat_le 1 f) (nat_le f 3) (le_test 1 f p.0) (le_test f 3 p.1)), w.1))
instr_fits I.Leave w p = tt
instr_fits I.Return w p = tt
instr_fits _ w p = w

code_test : (c : Code) → All IsFInstr c.instrs → IsFunInRange (Compiled c) → IsCode c
code_test c w h =
    record {
      arg_count = small (length c.args) 256 (omega arith) h.2;
      args = all_there c.args;
      instr_count = (omega (arith, h.1), and_from (nat_le 1 (length c.instrs)) (nat_le (length c.instrs) 512) (le_test 1 (length c.instrs) h.0) (le_test (length c.instrs) 512 h.1));
      instrs = every IsFInstr c.instrs w;
    }

-- ---- the law

module _ (o : Object) (h : IsObject o) where
  r : AreInRange o.tables
  r = h.ranges.tables

  comm_fits : (k : ℕ) (c : Comm) → slice_get o.tables.comms k ≡ Some c → IsComm (take k o.tables.comms) c
  comm_fits k c at =
      let f = all_at IsCommInRange o.tables.comms k c r.comms at in
      let ty = all_at (λ (y : Comm). (is_name y.name ≡ true) × FitsSigned w64 y.init) o.tables.comms k c h.types.comms at in
      record {
        name = ty.0;
        differs = not_from_false (is_named_comm (take k o.tables.comms) c.name) (none_before (λ (y : Comm). y.name) (λ y. bytes_eq y.name c.name) o.tables.comms k c (apart_names (map (λ (y : Comm). y.name) o.tables.comms) r.comm_names) at (λ y e. same_bytes y.name c.name e));
        period = span_test c.period f.period;
        init = init_test c.ty c.init f.init;
        width = ty.1;
      }

  mode_fits : (k : ℕ) (m : Mode) → slice_get o.tables.modes k ≡ Some m → IsMode (length o.tables.modules) (take k o.tables.modes) m
  mode_fits k m at =
      let f = all_at (IsModeInRange o.tables) o.tables.modes k m r.modes at in
      record {
        name = all_at (λ (y : Mode). is_name y.name ≡ true) o.tables.modes k m h.types.modes at;
        owner = owner_test (length o.tables.modules) (last_module (take k o.tables.modes)) m.«module» (omega (arith, r.few_modules)) f.owner (last_least (λ (y : Mode). y.«module») o.tables.modes k m r.modes_by_module at);
        differs = not_from_false (is_named_mode (take k o.tables.modes) m.«module» m.name) (none_before (λ (y : Mode). (y.«module», y.name)) (λ y. eqb y.«module» m.«module» && bytes_eq y.name m.name) o.tables.modes k m (apart_owned (map (λ (y : Mode). (y.«module», y.name)) o.tables.modes) r.mode_names) at
            (λ y e. same_owned_name y.«module» m.«module» y.name m.name e));
        period = span_test m.period f.period;
      }

  module_fits : (k : ℕ) (x : Module) → slice_get o.tables.modules k ≡ Some x → IsModule o.tables.modes (take k o.tables.modules) x
  module_fits k x at =
      let f = r.modules k x at in
      let size : length (take k o.tables.modules) ≡ k = length_take o.tables.modules k (omega (arith, slice_get_within o.tables.modules k x at)) in
      let s = f.start in
      record {
        name = all_at (λ (y : Module). is_name y.name ≡ true) o.tables.modules k x h.types.modules at;
        differs = not_from_false (is_named_module (take k o.tables.modules) x.name) (none_before (λ (y : Module). y.name) (λ y. bytes_eq y.name x.name) o.tables.modules k x (apart_names (map (λ (y : Module). y.name) o.tables.modules) r.module_names) at (λ y e. same_bytes y.name x.name e));
        parent = (few_parents x.parent (length o.tables.modes) (omega (arith, r.few_modes)) (mode_that_below o.tables (λ owner. owner < k) x.parent f.parent), levels o.tables r k 7 x.parent f.parent f.levels);
        start = (omega (arith, slice_get_within o.tables.modes x.start s.0 s.1, r.few_modes), mode_test o.tables.modes (length (take k o.tables.modules)) x.start s.0 s.1 (s.2 ∙ sym size));
      }

  port_fits : (k : ℕ) (p : Port) → slice_get o.tables.ports k ≡ Some p → IsPort (length o.tables.modes) (take k o.tables.ports) p
  port_fits k p at =
      record {
        name = all_at (λ (y : Port). is_name y.name ≡ true) o.tables.ports k p h.types.ports at;
        owner = owner_test (length o.tables.modes) (last_mode (take k o.tables.ports)) p.mode (omega (arith, r.few_modes)) (all_at (IsPortInRange o.tables) o.tables.ports k p r.ports at) (last_least (λ (y : Port). y.mode) o.tables.ports k p r.ports_by_mode at);
        differs = not_from_false (is_named_port (take k o.tables.ports) p.mode p.name) (none_before (λ (y : Port). (y.mode, y.name)) (λ y. eqb y.mode p.mode && bytes_eq y.name p.name) o.tables.ports k p (apart_owned (map (λ (y : Port). (y.mode, y.name)) o.tables.ports) r.port_names) at
            (λ y e. same_owned_name y.mode p.mode y.name p.name e));
      }

  task_fits : (k : ℕ) (x : Task) → slice_get o.tables.tasks k ≡ Some x → IsTask (length o.tables.modules) (take k o.tables.tasks) x
  task_fits k x at =
      let f = all_at (IsTaskInRange o.tables) o.tables.tasks k x r.tasks at in
      record {
        name = all_at (λ (y : Task). is_name y.name ≡ true) o.tables.tasks k x h.types.tasks at;
        owner = owner_test (length o.tables.modules) (last_owner (take k o.tables.tasks)) x.«module» (omega (arith, r.few_modules)) f.owner (last_least (λ (y : Task). y.«module») o.tables.tasks k x r.tasks_by_module at);
        differs = not_from_false (is_named_task (take k o.tables.tasks) x.«module» x.name) (none_before (λ (y : Task). (y.«module», y.name)) (λ y. eqb y.«module» x.«module» && bytes_eq y.name x.name) o.tables.tasks k x (apart_owned (map (λ (y : Task). (y.«module», y.name)) o.tables.tasks) r.task_names) at
            (λ y e. same_owned_name y.«module» x.«module» y.name x.name e));
        worst = span_test x.worst f.worst;
        inputs = types_test x.inputs f.few_inputs;
        outputs = types_test x.outputs f.few_outputs;
      }

  inv_fits : (k : ℕ) (i : Inv) → slice_get o.tables.invs k ≡ Some i → IsInv (length o.tables.comms) (length o.tables.invs) o.tables.modes o.tables.tasks o.tables.ports (take k o.tables.invs) i
  inv_fits k i at =
      let f = all_at (IsInvInRange o.tables) o.tables.invs k i r.invs at in
      let before = take k o.tables.invs in
      let owner = owner_test (length o.tables.modes) (last_inv_mode before) i.mode (omega (arith, r.few_modes)) f.owner (last_least (λ (y : Inv). y.mode) o.tables.invs k i r.invs_by_mode at) in
      let free = room (λ (y : Inv). eqb y.mode i.mode) o.tables.invs k i 128 at (eq-eqb i.mode i.mode refl) (r.few_in_mode i.mode) in
      let task = f.task in
      let there : elim (slice_get o.tables.tasks i.task) as (λ _. Bool) [ Some y ↦ is_mode_of o.tables.modes y.«module» i.mode | None ↦ false ] ≡ true =
      ap (λ (z : Option Task). elim z as (λ _. Bool) [ Some y ↦ is_mode_of o.tables.modes y.«module» i.mode | None ↦ false ]) task.1 ∙ same_module_test o.tables i.mode task.0.«module» f.owner task.2 in
      let once = none_before (λ (y : Inv). (y.mode, y.task)) (λ y. eqb y.mode i.mode && eqb y.task i.task) o.tables.invs k i (apart_pairs (map (λ (y : Inv). (y.mode, y.task)) o.tables.invs) r.invoked_once) at (λ y e. same_pair y.mode i.mode y.task i.task e) in
      record {
        mode = (owner.0, and_from (is_owner (length o.tables.modes) (last_inv_mode before) i.mode) (nat_lt (count_by (λ (y : Inv). eqb y.mode i.mode) before) 128) owner.1 (lt_test (count_by (λ (y : Inv). eqb y.mode i.mode) before) 128 free));
        task = (
          omega (arith, slice_get_within o.tables.tasks i.task task.0 task.1, r.few_tasks),
          and_from (elim (slice_get o.tables.tasks i.task) as (λ _. Bool) [ Some y ↦ is_mode_of o.tables.modes y.«module» i.mode | None ↦ false ]) (not (list_any (λ (y : Inv). eqb y.mode i.mode && eqb y.task i.task) before)) there (not_from_false (list_any (λ (y : Inv). eqb y.mode i.mode && eqb y.task i.task) before) once),
        );
        parent = (few_parents i.parent (length o.tables.invs) (omega (arith, r.few_invs)) f.parent, parent_test (length o.tables.invs) i.parent f.parent);
        reads = ends_test o.tables r i.mode i.reads f.few_reads f.reads;
        writes = ends_test o.tables r i.mode i.writes f.few_writes f.writes;
      }

  read_fits : (reads : List ℕ) → All (λ c. c < length o.tables.comms) reads → AreApart reads → (k c : ℕ) → slice_get reads k ≡ Some c → Fits16 (is_read (length o.tables.comms) (take k reads)) c
  read_fits reads below apart k c at =
      let less = all_at (λ c. c < length o.tables.comms) reads k c below at in
      let others = none_before (λ (y : ℕ). y) (λ y. eqb y c) reads k c (subst (λ (ns : List ℕ). AreApart ns) (sym (itself reads)) apart) at (λ y e. eqb-true y c e) in
      (omega (arith, less, r.few_comms), and_from (nat_lt c (length o.tables.comms)) (not (list_any (λ y. eqb y c) (take k reads))) (lt_test c (length o.tables.comms) less) (not_from_false (list_any (λ y. eqb y c) (take k reads)) others))

  switch_fits : (k : ℕ) (w : Switch) → slice_get o.tables.switches k ≡ Some w → IsSwitch (length o.tables.comms) o.tables.modes (take k o.tables.switches) w
  switch_fits k w at =
      let f = all_at (IsSwitchInRange o.tables) o.tables.switches k w r.switches at in
      let target = f.target in
      record {
        mode = owner_test (length o.tables.modes) (last_switch_mode (take k o.tables.switches)) w.mode (omega (arith, r.few_modes)) f.owner (last_least (λ (y : Switch). y.mode) o.tables.switches k w r.switches_by_mode at);
        target = (
          omega (arith, slice_get_within o.tables.modes w.target target.0 target.1, r.few_modes),
          ap (λ (z : Option Mode). elim z as (λ _. Bool) [ Some y ↦ is_mode_of o.tables.modes y.«module» w.mode | None ↦ false ]) target.1 ∙ same_module_test o.tables w.mode target.0.«module» f.owner target.2,
        );
        read_count = small (length w.reads) 256 (omega arith) f.few_reads;
        reads = each_of (λ before. Fits16 (is_read (length o.tables.comms) before)) w.reads (read_fits w.reads f.reads (apart_numbers w.reads f.different));
      }

  codes : map (λ c. Compiled c) (codes_of o.tables.functions) ≡ o.tables.functions
  codes = all_codes o.tables.functions h.ranges.coded

  code_fits : (k : ℕ) (c : Code) → slice_get (codes_of o.tables.functions) k ≡ Some c → IsCode c
  code_fits k c at =
      let all : All IsFunInRange (map (λ c. Compiled c) (codes_of o.tables.functions)) = subst (λ fs. All IsFunInRange fs) (sym codes) r.functions in
      let typed : All KeepsFunction (map (λ c. Compiled c) (codes_of o.tables.functions)) = subst (λ fs. All KeepsFunction fs) (sym codes) h.types.functions in
      let there = mapped (codes_of o.tables.functions) k at in
      let fs : List Fun = map (λ c. Compiled c) (codes_of o.tables.functions) in
      code_test c (all_at KeepsFunction fs k (Compiled c) typed there) (all_at IsFunInRange fs k (Compiled c) all there)
    where
      mapped : (cs : List Code) (j : ℕ) → slice_get cs j ≡ Some c → slice_get (map (λ c. Compiled c) cs) j ≡ Some (Compiled c)
      mapped [] j e = absurd (let z : ⊥ = cc in z)
      mapped (d ∷ cs) zero e = let one : d ≡ c = cc in ap (λ x. Some (Compiled x)) one
      mapped (d ∷ cs) (suc j) e = mapped cs j e

  anchors_fit : (k : ℕ) (a : Anchors) → slice_get (list_to (anchors_of o.ecode) (length o.tables.modes)) k ≡ Some a → AreAnchors a
  anchors_fit k a at =
      let n = length o.tables.modes in
      let all = list_to (anchors_of o.ecode) n in
      let less : k < n = omega (arith, slice_get_within all k a at, length-list_to (anchors_of o.ecode) n) in
      let there : Some (get_or all k a) ≡ Some a = sym (slice_get-get_or all k a (omega (arith, less, length-list_to (anchors_of o.ecode) n))) ∙ at in
      let one : get_or all k a ≡ a = cc in
      let is : anchors_of o.ecode k ≡ a = sym (get_list_to (anchors_of o.ecode) n k a less) ∙ one in
      subst AreAnchors is
      (record {
        enter = h.types.enter k 0 (omega (arith, less, h.ranges.enter));
        begin = h.types.begin k 0 (omega (arith, less, h.ranges.begin));
        decide = h.types.decide k 0 (omega (arith, less, h.ranges.decide));
      })

  schedule_count : Fits16 (is_node_count (tables_of_lists (lists_of o))) (length o.schedules)
  schedule_count =
      subst (λ (t : Tables). Fits16 (is_node_count t) (length o.schedules)) (sym (ap (λ (x : Object). x.tables) (object_again o h.ranges)))
      (few, node_count_so o.tables (length o.schedules) r h.ranges.limits h.ranges.frames h.ranges.schedules)
    where
      few : length o.schedules < 65536
      few = omega (arith, h.ranges.schedules, nodes_few o.tables r h.ranges.frames)

  front_in_range : IsFrontInRange (lists_of o)
  front_in_range =
      record {
        counts = record {
          comms = small (length o.tables.comms) 1024 (omega arith) r.few_comms;
          modes = small (length o.tables.modes) 256 (omega arith) r.few_modes;
          modules = small (length o.tables.modules) 64 (omega arith) r.few_modules;
          ports = small (length o.tables.ports) 4096 (omega arith) r.few_ports;
          tasks = small (length o.tables.tasks) 4096 (omega arith) r.few_tasks;
          invs = small (length o.tables.invs) 2048 (omega arith) r.few_invs;
          switches = small (length o.tables.switches) 4096 (omega arith) r.few_switches;
        };
        comms = each_of IsComm o.tables.comms comm_fits;
        modes = each_of (IsMode (length o.tables.modules)) o.tables.modes mode_fits;
        modules = each_of (IsModule o.tables.modes) o.tables.modules module_fits;
        ports = each_of (IsPort (length o.tables.modes)) o.tables.ports port_fits;
        tasks = each_of (IsTask (length o.tables.modules)) o.tables.tasks task_fits;
        invs = each_of (IsInv (length o.tables.comms) (length o.tables.invs) o.tables.modes o.tables.tasks o.tables.ports) o.tables.invs inv_fits;
        switches = each_of (IsSwitch (length o.tables.comms) o.tables.modes) o.tables.switches switch_fits;
        function_count = omega (arith, length-map (codes_of o.tables.functions) (λ c. Compiled c), ap (λ fs. length fs) codes, r.function_count, counted o.tables.tasks);
        functions = each_of (λ _. IsCode) (codes_of o.tables.functions) code_fits;
        anchor_count = length-list_to (anchors_of o.ecode) (length o.tables.modes);
        anchors = each_of (λ _. AreAnchors) (list_to (anchors_of o.ecode) (length o.tables.modes)) anchors_fit;
        instrs = (omega (arith, h.ranges.few_instrs), each_of (λ _. IsEInstr) o.ecode.instrs (λ k i at. instr_fits i (all_at HasWidths o.ecode.instrs k i h.types.instrs at) (all_at IsPhased o.ecode.instrs k i h.ranges.phases at)));
        platform = h.types.platform;
      }

  pub file_in_range : IsFileInRange (lists_of o)
  file_in_range =
      record {
        front = front_in_range;
        schedule_count = schedule_count;
        schedules = each_of (λ _. IsSchedule) o.schedules (λ k s at. let short : length s.instrs ≤ 4294967295 = all_at IsShort o.schedules k s h.ranges.short at in (omega (arith, short), every IsSInstr s.instrs (all_at (λ (y : Schedule). All IsSInstr y.instrs) o.schedules k s h.types.schedules at)));
      }
