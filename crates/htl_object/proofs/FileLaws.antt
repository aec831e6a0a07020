-- The two laws of objects, and that what is written is read again.
use Rattle.std.proofs.Common.{◌≡◌, ℕ, ◌==◌, List, [], ◌++◌, length, Option, None, Ok, Err, refl, sym, ap, subst, ◌∙◌, ◌↔◌}
use Rattle.htl_object.proofs.Words.{nat_le, w16, to_be_bytes, flat_map, eqb-true, Index, Trailing, Comm, Mode, Module, Port, Task, Inv, Switch, Code, EInstr, Schedule, Anchors, Counts, Lists, comm_bytes, mode_bytes, module_bytes, port_bytes, task_bytes, inv_bytes, switch_bytes, code_bytes, Fits16, counts_of, counts_bytes, counts_at, AreCounts, anchors_bytes, anchors_at, AreAnchors, is_node_count, e_code_bytes, e_code_at, IsECode, counted_functions, front_bytes, front_at, IsFront, IsFrontInRange, with_schedules, file_bytes, file_at, IsFileInRange, whole_at, fault_of, first_bad, tables_of_lists, head_bytes, append-nil, nil_from_length}
use Rattle.htl_object.specs.Reading.{IsBytes, Read, ◌>>=◌, bad_at, need, limited_count}
use Rattle.htl_object.proofs.{VersionLaws.head, VersionLaws.tail, Lawful.IsCodec, Lawful.given-value, Lawful.needed, Lawful.bound, Lawful.field, Lawful.last, Lawful.checked, Lawful.counted, Lawful.items, Lawful.whole}
use Rattle.htl_object.proofs.{FieldLaws.number16, FieldLaws.number32, ItemLaws.comm, ItemLaws.mode, ItemLaws.unit, ItemLaws.port, ItemLaws.task, ItemLaws.inv, ItemLaws.switch, InstructionLaws.code, InstructionLaws.e_instr}

-- ---- parts

count : (limit : ℕ) → IsCodec (to_be_bytes w16) (Fits16 (λ n. nat_le n limit)) (limited_count limit)
count limit = checked Index (λ n. nat_le n limit) number16

abbrev make_counts : ℕ × (ℕ × (ℕ × (ℕ × (ℕ × (ℕ × ℕ))))) → Counts
make_counts p = record { comms = p.0; modes = p.1.0; modules = p.1.1.0; ports = p.1.1.1.0; tasks = p.1.1.1.1.0; invs = p.1.1.1.1.1.0; switches = p.1.1.1.1.1.1 }

counts : IsCodec counts_bytes AreCounts counts_at
counts =
    whole make_counts (λ n. (n.comms, (n.modes, (n.modules, (n.ports, (n.tasks, (n.invs, n.switches))))))) counts_bytes AreCounts
    (field (count 1024) (λ _ _. field (count 256) (λ _ _. field (count 64) (λ _ _. field (count 4096) (λ _ _. field (count 4096) (λ _ _. field (count 2048) (λ _ _. last (count 4096))))))))
    (λ n f. (refl, refl, (f.comms, (f.modes, (f.modules, (f.ports, (f.tasks, (f.invs, f.switches))))))))
    (λ p f. (refl, record { comms = f.0; modes = f.1.0; modules = f.1.1.0; ports = f.1.1.1.0; tasks = f.1.1.1.1.0; invs = f.1.1.1.1.1.0; switches = f.1.1.1.1.1.1 }))

abbrev make_anchors : ℕ × (ℕ × ℕ) → Anchors
make_anchors p = record { enter = p.0; begin = p.1.0; decide = p.1.1 }

anchors : IsCodec anchors_bytes AreAnchors anchors_at
anchors =
    whole make_anchors (λ a. (a.enter, (a.begin, a.decide))) anchors_bytes AreAnchors
    (field number32 (λ _ _. field number32 (λ _ _. last number32)))
    (λ a f. (refl, refl, (f.enter, (f.begin, f.decide))))
    (λ p f. (refl, record { enter = f.0; begin = f.1.0; decide = f.1.1 }))

e_code : IsCodec e_code_bytes IsECode e_code_at
e_code = counted number32 (λ _. e_instr)

-- ---- what stands before the schedules

counts-same : (n : Counts) (a b c d e f g : ℕ) → a ≡ n.comms → b ≡ n.modes → c ≡ n.modules → d ≡ n.ports → e ≡ n.tasks → f ≡ n.invs → g ≡ n.switches
    → n ≡ make_counts (a, (b, (c, (d, (e, (f, g))))))
counts-same n a b c d e f g ea eb ec ed ee ef eg =
    ap (λ (x : ℕ). make_counts (x, (n.modes, (n.modules, (n.ports, (n.tasks, (n.invs, n.switches))))))) (sym ea)
    ∙ ap (λ (x : ℕ). make_counts (a, (x, (n.modules, (n.ports, (n.tasks, (n.invs, n.switches))))))) (sym eb)
    ∙ ap (λ (x : ℕ). make_counts (a, (b, (x, (n.ports, (n.tasks, (n.invs, n.switches))))))) (sym ec)
    ∙ ap (λ (x : ℕ). make_counts (a, (b, (c, (x, (n.tasks, (n.invs, n.switches))))))) (sym ed)
    ∙ ap (λ (x : ℕ). make_counts (a, (b, (c, (d, (x, (n.invs, n.switches))))))) (sym ee)
    ∙ ap (λ (x : ℕ). make_counts (a, (b, (c, (d, (e, (x, n.switches))))))) (sym ef)
    ∙ ap (λ (x : ℕ). make_counts (a, (b, (c, (d, (e, (f, x))))))) (sym eg)

abbrev Parts : Type 0
Parts = Option (List ℕ) × (Counts × (List Comm × (List Mode × (List Module × (List Port × (List Task × (List Inv × (List Switch × (List Code × (List Anchors × List EInstr))))))))))

abbrev make_lists : Parts → Lists
make_lists p = record { comms = p.1.1.0; modes = p.1.1.1.0; modules = p.1.1.1.1.0; ports = p.1.1.1.1.1.0; tasks = p.1.1.1.1.1.1.0; invs = p.1.1.1.1.1.1.1.0; switches = p.1.1.1.1.1.1.1.1.0; functions = p.1.1.1.1.1.1.1.1.1.0; anchors = p.1.1.1.1.1.1.1.1.1.1.0; instrs = p.1.1.1.1.1.1.1.1.1.1.1; schedules = []; platform = p.0 }

abbrev parts_of : Lists → Parts
parts_of o = (o.platform, (counts_of o, (o.comms, (o.modes, (o.modules, (o.ports, (o.tasks, (o.invs, (o.switches, (o.functions, (o.anchors, o.instrs)))))))))))

abbrev IsFrontAlone : Lists → Type 0
IsFrontAlone o = IsFrontInRange o × (o.schedules ≡ [])

pub front : IsCodec front_bytes IsFrontAlone front_at
front =
    whole make_lists parts_of front_bytes IsFrontAlone
    (field head (λ _ platform. field counts (λ _ n.
    field (items comm n.comms []) (λ _ _.
    field (items (mode n.modules) n.modes []) (λ _ modes.
    field (items (unit modes) n.modules []) (λ _ modules.
    field (items (port n.modes) n.ports []) (λ _ ports.
    field (items (task n.modules) n.tasks []) (λ _ tasks.
    field (items (inv n.comms n.invs modes tasks ports) n.invs []) (λ _ invs.
    field (items (switch n.comms modes) n.switches []) (λ _ _.
    field (items (λ _. code) (counted_functions tasks n.switches) []) (λ _ _.
    field (items (λ _. anchors) n.modes []) (λ _ _.
    last e_code))))))))))))
    (λ o h.
    let f = h.0 in
    (ap (with_schedules o) (sym h.1), refl, (f.platform, (f.counts, ((refl, f.comms), ((refl, f.modes), ((refl, f.modules), ((refl, f.ports), ((refl, f.tasks), ((refl, f.invs), ((refl, f.switches), ((f.function_count, f.functions), ((f.anchor_count, f.anchors), f.instrs)))))))))))))
    (λ p f.
    let n = p.1.0 in
    let o = make_lists p in
    let same : n ≡ counts_of o = counts-same n (length o.comms) (length o.modes) (length o.modules) (length o.ports) (length o.tasks) (length o.invs) (length o.switches)
    f.1.1.0.0 f.1.1.1.0.0 f.1.1.1.1.0.0 f.1.1.1.1.1.0.0 f.1.1.1.1.1.1.0.0 f.1.1.1.1.1.1.1.0.0 f.1.1.1.1.1.1.1.1.0.0 in
    let is : IsFront n o = record { counts = f.1.0; comms = f.1.1.0.1; modes = f.1.1.1.0.1; modules = f.1.1.1.1.0.1; ports = f.1.1.1.1.1.0.1; tasks = f.1.1.1.1.1.1.0.1; invs = f.1.1.1.1.1.1.1.0.1; switches = f.1.1.1.1.1.1.1.1.0.1; function_count = f.1.1.1.1.1.1.1.1.1.0.0; functions = f.1.1.1.1.1.1.1.1.1.0.1; anchor_count = f.1.1.1.1.1.1.1.1.1.1.0.0; anchors = f.1.1.1.1.1.1.1.1.1.1.0.1; instrs = f.1.1.1.1.1.1.1.1.1.1.1; platform = f.0 } in
    let rest = flat_map comm_bytes o.comms ++ (flat_map mode_bytes o.modes ++ (flat_map module_bytes o.modules ++ (flat_map port_bytes o.ports ++ (flat_map task_bytes o.tasks ++ (flat_map inv_bytes o.invs ++ (flat_map switch_bytes o.switches ++ (flat_map code_bytes o.functions ++ (flat_map anchors_bytes o.anchors ++ e_code_bytes o.instrs)))))))) in
    (ap (λ (m : Counts). head_bytes o.platform ++ (counts_bytes m ++ rest)) (sym same), (subst (λ (m : Counts). IsFront m o) same is, refl)))

-- ---- the whole

-- schedules don't matter to what stands before them
moved : (n : Counts) (o : Lists) (ss : List Schedule) → IsFront n o → IsFront n (with_schedules o ss)
moved n o ss f =
    record {
      counts = f.counts;
      comms = f.comms;
      modes = f.modes;
      modules = f.modules;
      ports = f.ports;
      tasks = f.tasks;
      invs = f.invs;
      switches = f.switches;
      function_count = f.function_count;
      functions = f.functions;
      anchor_count = f.anchor_count;
      anchors = f.anchors;
      instrs = f.instrs;
      platform = f.platform;
    }

object : IsCodec file_bytes IsFileInRange file_at
object =
    whole (λ (p : Lists × List Schedule). with_schedules p.0 p.1) (λ o. (with_schedules o [], o.schedules)) file_bytes IsFileInRange
    (field front (λ _ l. last (tail l.platform (is_node_count (tables_of_lists l)))))
    (λ o f. (refl, refl, ((moved (counts_of o) o [] f.front, refl), (f.schedule_count, f.schedules))))
    (λ p f. (refl, record { front = moved (counts_of p.0) p.0 p.1 f.0.0; schedule_count = f.1.0; schedules = f.1.1 }))

-- what is read before the schedules is in range
pub front-in-range : (bytes : List ℕ) (o : Lists) (rest : List ℕ) → IsBytes bytes → front_at bytes ≡ Ok (o, rest) → IsFrontInRange o
front-in-range bytes o rest are e = let t = front.takes bytes o rest are e in subst IsFrontInRange t.made t.fit.0

-- what is spelled is all read
pub whole-again : (o : Lists) → IsFileInRange o → whole_at (file_bytes o) ≡ Ok (o, [])
whole-again o f =
    let next = λ (x : Lists) (rest : List ℕ). need (length rest == 0) (bad_at Trailing rest) (Ok (x, rest)) in
    ap (λ (bytes : List ℕ). file_at bytes >>= next) (sym (append-nil (file_bytes o))) ∙ ap (λ r. r >>= next) (object.again o [] f)

-- what is read as a whole is in range, and the bytes are its spelling
pub whole-takes : (bytes : List ℕ) (o : Lists) (rest : List ℕ) → IsBytes bytes → whole_at bytes ≡ Ok (o, rest) → IsFileInRange o × (bytes ≡ file_bytes o)
whole-takes bytes o rest are e =
    let b = bound (file_at bytes) (λ x s. need (length s == 0) (bad_at Trailing s) (Ok (x, s))) o rest e in
    let n = needed (length b.rest == 0) (bad_at Trailing b.rest) (Ok (b.value, b.rest)) o rest b.then in
    let g = given-value b.value o b.rest rest n.1 in
    let t = object.takes bytes b.value b.rest are b.first in
    let nothing : b.rest ≡ [] = nil_from_length b.rest (eqb-true _ _ n.0) in
    let is : t.part ≡ o = t.made ∙ g.0 in
    (subst IsFileInRange is t.fit, t.spelled ∙ ap (λ (r : List ℕ). file_bytes t.part ++ r) nothing ∙ append-nil (file_bytes t.part) ∙ ap file_bytes is)

-- an object in range has no other spelling, nor two objects one
pub one-file : (o p : Lists) → IsFileInRange o → IsFileInRange p → file_bytes o ≡ file_bytes p → o ≡ p
one-file o p f g e = (given-value o p [] [] (sym (whole-again o f) ∙ ap whole_at e ∙ whole-again p g)).0

-- bytes have no bad field exactly where some object in range has them
pub no-bad-field : (bytes : List ℕ) → IsBytes bytes → (first_bad bytes ≡ None) ↔ ((o : Lists) × IsFileInRange o × (bytes ≡ file_bytes o))
no-bad-field bytes are = (found (whole_at bytes) refl, λ h. ap first_bad h.2 ∙ ap (fault_of (file_bytes h.0)) (whole-again h.0 h.1))
  where
    found : (r : Read Lists) → whole_at bytes ≡ r → fault_of bytes r ≡ None → (o : Lists) × IsFileInRange o × (bytes ≡ file_bytes o)
    found (Ok x) is e = let t = whole-takes bytes x.0 x.1 are is in (x.0, t.0, t.1)
    found (Err bad) is e = absurd cc
