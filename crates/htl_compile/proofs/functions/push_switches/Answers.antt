use Rattle.std.proofs.Common.{◌≡◌, ◌+◌, List, length, sym, ◌∙◌, ap, arith}
use Rattle.htl_compile.proofs.{FunctionLaws.codes_to, FunctionLaws.typed_all, FunctionLaws.typed_further, FunctionLaws.typed_to, Words.Tables, Words.count_before, Words.Switch, Words.Task, Words.tasks_of}
use Rattle.htl_compile.proofs.functions.push_switches.Goals as goal
use Rattle.htl_compile.proofs.functions.push_switches.Goals.{After-loop-k}

pub loop-k-init : goal.loop-k-init
loop-k-init c =
    let t : Tables = c.args.t.now in
    let tasks = tasks_of t _ c.as_slice-tasks.result.now c.parts-parts.ensures.value c.as_slice-tasks.ensures in
    let first = c.functions_before-first.ensures.value ∙ ap (λ (ts : List Task). count_before (length ts) ts) tasks in
    let before = count_before (length t.tasks) t.tasks in
    record {
      codes = codes_to t c.args.codes.now.items before (c.functions_before-first.result + 0) (omega (arith, first)) c.requires.before;
      typed = typed_to t 0 before (c.functions_before-first.result + 0) (omega (arith, first)) c.requires.typed;
    }

pub loop-k-preserved : goal.loop-k-preserved
loop-k-preserved c =
    let id = c.functions_before-first.result + c.loop-k.k in
    record {
      codes = codes_to c.args.t.now c.push_switch.new.codes.items (id + 1) (c.functions_before-first.result + (c.loop-k.k + 1)) (omega arith) c.in-Ok.ensures.codes;
      typed = typed_further c.args.t.now 0 id (c.functions_before-first.result + (c.loop-k.k + 1)) (omega arith) c.loop-k.invariant.typed c.in-Ok.ensures.typed;
    }

-- behind the last switch
all_there : (c : After-loop-k) → c.functions_before-first.result + c.loop-k.k ≡ length c.args.t.now.functions
all_there c =
    let t : Tables = c.args.t.now in
    let tasks = tasks_of t _ c.as_slice-tasks.result.now c.parts-parts.ensures.value c.as_slice-tasks.ensures in
    let first = c.functions_before-first.ensures.value ∙ ap (λ (ts : List Task). count_before (length ts) ts) tasks in
    let switches = c.as_slice-k-end.ensures ∙ sym (ap (λ (u : Tables). u.switches) c.parts-parts.ensures.value) in
    omega (arith, first, ap (λ (ws : List Switch). length ws) switches, c.parts-parts.ensures.ranges.function_count, c.loop-k-test.false, c.loop-k.auto.k-end)

pub returns-clause-codes : goal.returns-clause-codes
returns-clause-codes c = codes_to c.args.t.now c.loop-k.codes.items (c.functions_before-first.result + c.loop-k.k) (length c.args.t.now.functions) (all_there c) c.loop-k.invariant.codes

pub returns-clause-typed : goal.returns-clause-typed
returns-clause-typed c = typed_all c.args.t.now (c.functions_before-first.result + c.loop-k.k) (sym (all_there c)) c.loop-k.invariant.typed

pub returns-in-Err-clause-fault : goal.returns-in-Err-clause-fault
returns-in-Err-clause-fault c =
    record { place = c.functions_before-first.result + c.loop-k.k; behind = omega arith; here = c.in-Err.ensures.fault; first = c.loop-k.invariant.typed }
