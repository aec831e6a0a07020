-- The lines of jobs and instructions, and of a plan. Those of values, modes and totals stand beside the meaning.
use Rattle.std.specs.Prelude.{ℕ, List, ◌++◌, codes, decimal}
use Rattle.htl_model.specs.Tables.{Tables}
use Rattle.htl_walk.specs.declared.schedule.SInstr.{SInstr}
use Rattle.htl_ecode.specs.declared.instr.EInstr.{EInstr}
use Rattle.htl_console.specs.{Names.inv_name, Instrs.instr_text, Instrs.step_text}

-- `j A B NAME`: a slice
abbrev pub slice_line : Tables → ℕ → ℕ → ℕ → List ℕ
slice_line t from to i = codes "j " ++ decimal from ++ codes " " ++ decimal to ++ codes " " ++ inv_name t i ++ codes "\n"

-- `d T NAME`: a job is done
abbrev pub done_line : Tables → ℕ → ℕ → List ℕ
done_line t at i = codes "d " ++ decimal at ++ codes " " ++ inv_name t i ++ codes "\n"

-- `e T ADDRESS TEXT`
abbrev pub instr_line : Tables → ℕ → ℕ → EInstr → List ℕ
instr_line t at address i = codes "e " ++ decimal at ++ codes " " ++ decimal address ++ codes " " ++ instr_text t i ++ codes "\n"

-- `s T SELECTION:PLACE TEXT`
abbrev pub step_line : ℕ → ℕ → ℕ → SInstr → List ℕ
step_line at selection place i =
    codes "s " ++ decimal at ++ codes " " ++ decimal selection ++ codes ":" ++ decimal place ++ codes " " ++ step_text i ++ codes "\n"

-- `plan P jobs N s L`
abbrev pub plan_line : ℕ → ℕ → ℕ → List ℕ
plan_line period jobs s = codes "plan " ++ decimal period ++ codes " jobs " ++ decimal jobs ++ codes " s " ++ decimal s ++ codes "\n"
