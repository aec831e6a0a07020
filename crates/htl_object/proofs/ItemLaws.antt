-- The items of the tables.
use Rattle.std.proofs.Common.{◌≡◌, ◌-◌, ℕ, Bool, List, ◌++◌, length, Option, Ok, refl}
use Rattle.htl_base.specs.declared.limits.TheConstants.{MAX_LEVELS}
use Rattle.htl_object.proofs.Words.{Ty, Spelling, Index, Comm, Mode, Module, Port, Task, End, Inv, Switch, bad_at, is_owner, comm_bytes, comm_at, is_named_comm, mode_bytes, mode_at, is_named_mode, last_module, module_bytes, module_at, is_named_module, is_mode_of, leads_up_within, port_bytes, port_at, last_mode, is_named_port, types_bytes, types_at, task_bytes, task_at, last_owner, is_named_task, end_bytes, end_table, end_at, ends_bytes, ends_at, is_instance, is_port_of, inv_bytes, inv_at, is_inv_mode, is_inv_task, is_parent, switch_bytes, switch_at, last_switch_mode, is_target, is_read, IsComm, IsMode, IsModule, IsPort, AreTypes, IsTask, IsEnd, AreEnds, IsInv, IsSwitch, ℤ, not, nat_le}
use Rattle.htl_model.specs.declared.parts.End.TheVariants as N
use Rattle.htl_object.proofs.{Lawful.IsCodec, Lawful.field, Lawful.tested, Lawful.last, Lawful.whole, Lawful.checked, Lawful.counted, Tagged.of_parts, Tagged.tagged}
use Rattle.htl_object.proofs.FieldLaws.{name, type, flag, span, init, owner, place, option, number16, number32}

abbrev make_comm : List ℕ × (Ty × (Bool × (ℕ × ℤ))) → Comm
make_comm p = record { name = p.0; ty = p.1.0; sensor = p.1.1.0; period = p.1.1.1.0; init = p.1.1.1.1 }

pub comm : (before : List Comm) → IsCodec comm_bytes (IsComm before) (comm_at before)
comm before =
    whole make_comm (λ c. (c.name, (c.ty, (c.sensor, (c.period, c.init))))) comm_bytes (IsComm before)
    (field name (λ bytes n. tested (not (is_named_comm before n)) (bad_at Spelling bytes)
    (field type (λ _ ty. field flag (λ _ _. field span (λ _ _. last (init ty)))))))
    (λ c f. (refl, refl, (f.name, (f.differs, (tt, (tt, (f.period, (f.width, f.init))))))))
    (λ p f. (refl, record { name = f.0; differs = f.1.0; period = f.1.1.1.1.0; init = f.1.1.1.1.1.1; width = f.1.1.1.1.1.0 }))

abbrev make_mode : List ℕ × (ℕ × ℕ) → Mode
make_mode p = record { name = p.0; «module» = p.1.0; period = p.1.1 }

pub mode : (modules : ℕ) (before : List Mode) → IsCodec mode_bytes (IsMode modules before) (mode_at modules before)
mode modules before =
    whole make_mode (λ m. (m.name, (m.«module», m.period))) mode_bytes (IsMode modules before)
    (field name (λ bytes n. field (owner modules (last_module before)) (λ _ o.
    tested (not (is_named_mode before o n)) (bad_at Spelling bytes) (last span))))
    (λ m f. (refl, refl, (f.name, (f.owner, (f.differs, f.period)))))
    (λ p f. (refl, record { name = f.0; owner = f.1.0; differs = f.1.1.0; period = f.1.1.1 }))

abbrev make_module : List ℕ × (Option ℕ × ℕ) → Module
make_module p = record { name = p.0; parent = p.1.0; start = p.1.1 }

pub unit : (modes : List Mode) (before : List Module) → IsCodec module_bytes (IsModule modes before) (module_at modes before)
unit modes before =
    whole make_module (λ m. (m.name, (m.parent, m.start))) module_bytes (IsModule modes before)
    (field name (λ bytes n. tested (not (is_named_module before n)) (bad_at Spelling bytes)
    (field (checked Index (leads_up_within (MAX_LEVELS - 1) modes before) option) (λ _ _. last (checked Index (is_mode_of modes (length before)) number16)))))
    (λ m f. (refl, refl, (f.name, (f.differs, (f.parent, f.start)))))
    (λ p f. (refl, record { name = f.0; differs = f.1.0; parent = f.1.1.0; start = f.1.1.1 }))

abbrev make_port : List ℕ × (ℕ × Ty) → Port
make_port p = record { name = p.0; mode = p.1.0; ty = p.1.1 }

pub port : (modes : ℕ) (before : List Port) → IsCodec port_bytes (IsPort modes before) (port_at modes before)
port modes before =
    whole make_port (λ p. (p.name, (p.mode, p.ty))) port_bytes (IsPort modes before)
    (field name (λ bytes n. field (owner modes (last_mode before)) (λ _ o.
    tested (not (is_named_port before o n)) (bad_at Spelling bytes) (last type))))
    (λ m f. (refl, refl, (f.name, (f.owner, (f.differs, tt)))))
    (λ p f. (refl, record { name = f.0; owner = f.1.0; differs = f.1.1.0 }))

pub types : IsCodec types_bytes AreTypes types_at
types = counted (checked Index (λ n. nat_le n 256) number16) (λ _. type)

abbrev make_task : List ℕ × (ℕ × (Bool × (ℕ × (List Ty × List Ty)))) → Task
make_task p = record { name = p.0; «module» = p.1.0; is_abstract = p.1.1.0; worst = p.1.1.1.0; inputs = p.1.1.1.1.0; outputs = p.1.1.1.1.1 }

pub task : (modules : ℕ) (before : List Task) → IsCodec task_bytes (IsTask modules before) (task_at modules before)
task modules before =
    whole make_task (λ t. (t.name, (t.«module», (t.is_abstract, (t.worst, (t.inputs, t.outputs)))))) task_bytes (IsTask modules before)
    (field name (λ bytes n. field (owner modules (last_owner before)) (λ _ o.
    tested (not (is_named_task before o n)) (bad_at Spelling bytes)
    (field flag (λ _ _. field span (λ _ _. field types (λ _ _. last types)))))))
    (λ t f. (refl, refl, (f.name, (f.owner, (f.differs, (tt, (f.worst, (f.inputs, f.outputs))))))))
    (λ p f. (refl, record { name = f.0; owner = f.1.0; differs = f.1.1.0; worst = f.1.1.1.1.0; inputs = f.1.1.1.1.1.0; outputs = f.1.1.1.1.1.1 }))

end-again : (comms : ℕ) (ports : List Port) (mode : ℕ) (e : End) (rest : List ℕ) → IsEnd comms ports mode e → end_at comms ports mode (end_bytes e ++ rest) ≡ Ok (e, rest)
end-again comms ports mode (N.Comm c i) rest f = (field {make = λ p. N.Comm p.0 p.1} (place comms) (λ _ _. last (checked Index is_instance number32))).again (c, i) rest f
end-again comms ports mode (N.Port p) rest f = (last {make = λ p. N.Port p} (checked Index (is_port_of ports mode) number16)).again p rest f

pub end : (comms : ℕ) (ports : List Port) (mode : ℕ) → IsCodec end_bytes (IsEnd comms ports mode) (end_at comms ports mode)
end comms ports mode =
    tagged end_bytes (IsEnd comms ports mode) (end_table comms ports mode) (end-again comms ports mode) (
      of_parts end_bytes (IsEnd comms ports mode) 0 (λ p. N.Comm p.0 p.1) (field (place comms) (λ _ _. last (checked Index is_instance number32))) (λ _. refl) (λ _ f. f),
      (of_parts end_bytes (IsEnd comms ports mode) 1 (λ p. N.Port p) (last (checked Index (is_port_of ports mode) number16)) (λ _. refl) (λ _ f. f), tt),
    )

pub ends : (comms : ℕ) (ports : List Port) (mode : ℕ) → IsCodec ends_bytes (AreEnds comms ports mode) (ends_at comms ports mode)
ends comms ports mode = counted (checked Index (λ n. nat_le n 256) number16) (λ _. end comms ports mode)

abbrev make_inv : ℕ × (ℕ × (Option ℕ × (List End × List End))) → Inv
make_inv p = record { mode = p.0; task = p.1.0; parent = p.1.1.0; reads = p.1.1.1.0; writes = p.1.1.1.1 }

pub inv : (comms invs : ℕ) (modes : List Mode) (tasks : List Task) (ports : List Port) (before : List Inv)
    → IsCodec inv_bytes (IsInv comms invs modes tasks ports before) (inv_at comms invs modes tasks ports before)
inv comms invs modes tasks ports before =
    whole make_inv (λ i. (i.mode, (i.task, (i.parent, (i.reads, i.writes))))) inv_bytes (IsInv comms invs modes tasks ports before)
    (field (checked Index (is_inv_mode (length modes) before) number16) (λ _ m.
    field (checked Index (is_inv_task modes tasks before m) number16) (λ _ _.
    field (checked Index (is_parent invs) option) (λ _ _.
    field (ends comms ports m) (λ _ _. last (ends comms ports m))))))
    (λ i f. (refl, refl, (f.mode, (f.task, (f.parent, (f.reads, f.writes))))))
    (λ p f. (refl, record { mode = f.0; task = f.1.0; parent = f.1.1.0; reads = f.1.1.1.0; writes = f.1.1.1.1 }))

abbrev make_switch : ℕ × (ℕ × List ℕ) → Switch
make_switch p = record { mode = p.0; target = p.1.0; reads = p.1.1 }

pub switch : (comms : ℕ) (modes : List Mode) (before : List Switch) → IsCodec switch_bytes (IsSwitch comms modes before) (switch_at comms modes before)
switch comms modes before =
    whole make_switch (λ s. (s.mode, (s.target, s.reads))) switch_bytes (IsSwitch comms modes before)
    (field (checked Index (is_owner (length modes) (last_switch_mode before)) number16) (λ _ m.
    field (checked Index (is_target modes m) number16) (λ _ _.
    last (counted (checked Index (λ n. nat_le n 256) number16) (λ reads. checked Index (is_read comms reads) number16)))))
    (λ s f. (refl, refl, (f.mode, (f.target, (f.read_count, f.reads)))))
    (λ p f. (refl, record { mode = f.0; target = f.1.0; read_count = f.1.1.0; reads = f.1.1.1 }))
