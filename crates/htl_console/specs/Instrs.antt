-- The texts of instructions.
use Rattle.std.specs.Prelude.{ℕ, zero, suc, List, ◌++◌, codes, decimal}
use Rattle.htl_model.specs.Tables.{Tables}
use Rattle.htl_walk.specs.{declared.schedule.SInstr.SInstr, declared.schedule.SInstr.TheVariants.Dispatch, declared.schedule.SInstr.TheVariants.Idle, declared.schedule.SInstr.TheVariants.End}
use Rattle.htl_ecode.specs.declared.instr.EInstr.{EInstr}
use Rattle.htl_ecode.specs.declared.instr.EInstr.TheVariants as I
use Rattle.htl_console.specs.Names.{inv_name, mode_text, module_text}

abbrev pub phase_word : ℕ → List ℕ
phase_word (suc zero) = codes "write"
phase_word (suc (suc zero)) = codes "switch"
phase_word _ = codes "read"

abbrev pub instr_text : Tables → EInstr → List ℕ
instr_text t (I.CallWrite i k) = codes "call write " ++ inv_name t i ++ codes " " ++ decimal k
instr_text t (I.CallRead i k) = codes "call read " ++ inv_name t i ++ codes " " ++ decimal k
instr_text t (I.Release i) = codes "release " ++ inv_name t i
instr_text t (I.Future d p a) = codes "future " ++ decimal d ++ codes " " ++ phase_word p ++ codes " " ++ decimal a
instr_text t (I.JumpIf k a) = codes "jumpif " ++ decimal k ++ codes " " ++ decimal a
instr_text t (I.Jump a) = codes "jump " ++ decimal a
instr_text t (I.IfMode m a) = codes "ifmode " ++ mode_text t m ++ codes " " ++ decimal a
instr_text t (I.Enter m) = codes "enter " ++ mode_text t m
instr_text t I.Leave = codes "leave"
instr_text t (I.Fork k) = codes "fork " ++ module_text t k
instr_text t I.Return = codes "return"

abbrev pub step_text : SInstr → List ℕ
step_text (Dispatch p until) = codes "dispatch " ++ decimal p ++ codes " until " ++ decimal until
step_text (Idle until) = codes "idle until " ++ decimal until
step_text End = codes "end"
