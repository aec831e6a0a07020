-- A tree that few tokens without long runs spell is bounded.
use Rattle.std.proofs.Common.{arith, ◌≡◌, ◌≤◌, ◌+◌, ℕ, List, [], ◌∷◌, length, map, ℤ, Bool, Option, Result, Ok, Err, sym, subst, ap}
use Rattle.htl_parse.proofs.Words.{IfOk, length-map, All-nil, All-cons, All-map, sum_by-cons, Ty, tree_nodes, IsBoundedExpr, IsBoundedConst, IsBoundedComm, IsBoundedTask, IsBoundedEnd, IsBoundedInvoke, IsBoundedSwitch, IsBoundedMode, IsBoundedModule, IsBoundedProgram, task_size, invoke_size, switch_size, mode_size, module_size, program_size, tree_size, IsBounded, PlainOut, PlainTask, PlainSwitch, PlainMode, PlainModule, PlainProgram, tree_of, Placed, Put, tokens_numbered, AreSpellable, SpellsEach, no_other, another, SpellsClause, absent, present, SpellsType, int, bool, SpellsConst, positive, negative, true_const, false_const, SpellsComm, communicator, sensor, SpellsParam, SpellsOut, SpellsTask, concrete, abstract_task, SpellsPort, port, SpellsEnd, SpellsInvoke, invoke, SpellsSwitch, switch, SpellsMode, mode, SpellsModule, a_module, SpellsProgram, program, SpellsSource, source, length-within, size-few, Token, Word, Id, ParamNode, ConstNode, CommNode, InvokeNode, Spell, IsParsed, AreShort, ParseFault, Tree}
use Rattle.std.specs.List.{All, sum_by}
use Rattle.htl_text.specs.declared.token.Token.TheVariants as token
use Rattle.htl_text.specs.declared.token.Sign.TheVariants as sign
use Rattle.htl_text.specs.declared.token.Word.TheVariants as word
use Rattle.htl_parse.proofs.BoundedRuns.{plain, plain-numbered, length-plain, AreFit, behind, run-fit, nodes-weight, names-weight, expr-run, expr-short, expr-bounded, listed, listed-few, list-run, list-short, param_weight, IsAny, param-run, out_weight, IsBoundedOut, out-run, end_weight, end-run}

-- ---- statements

-- x is spelled by at least as many tokens as its size, and what follows is fit
record Over {X : Type 0} (size : X → ℕ) (Good : X → Type 0) (ts : List Placed) (x : X) (rest : List Placed) : Type 0 where
  fit : AreFit rest
  fits : size x + length rest ≤ length ts
  good : Good x

module _ {X : Type 0} (Item : List Placed → X → List Placed → Type 0) (size : X → ℕ) (Good : X → Type 0)
    (item : (ts : List Placed) (x : X) (rest : List Placed) → Item ts x rest → AreFit ts → Over size Good ts x rest) where
  each-over : {ts : List Placed} {xs : List X} {rest : List Placed} → SpellsEach Item ts xs rest → AreFit ts → Over (sum_by size) (All Good) ts xs rest
  each-over no_other fit = record { fit = fit; fits = omega arith; good = All-nil Good }
  each-over (another {ts} {us} {rest} {x} {xs} one more) fit =
      let first = item ts x us one fit in
      let others = each-over more first.fit in
      record { fit = others.fit; fits = omega (arith, first.fits, others.fits, sum_by-cons size x xs); good = All-cons Good x xs first.good others.good }

  -- such a list is no longer than the tokens
  each-few : ((x : X) → 1 ≤ size x) → {ts : List Placed} {xs : List X} {rest : List Placed} → AreFit ts → Over (sum_by size) (All Good) ts xs rest → length xs ≤ 1048576
  each-few some {ts} {xs} {rest} fit over = omega (arith, over.fits, fit.few, length-within size some xs)

abbrev one_item : {X : Type 0} → X → ℕ
one_item x = 1

abbrev no_item : {X : Type 0} → X → ℕ
no_item x = 0

type-over : {ts : List Placed} {t : Ty} {rest : List Placed} → SpellsType ts t rest → AreFit ts → Over one_item IsAny ts t rest
type-over int fit = record { fit = behind fit; fits = omega arith; good = tt }
type-over bool fit = record { fit = behind fit; fits = omega arith; good = tt }

const-over : {ts : List Placed} {c : ConstNode} {rest : List Placed} → SpellsConst ts c rest → AreFit ts → Over one_item IsBoundedConst ts c rest
const-over positive fit = record { fit = behind fit; fits = omega arith; good = fit.spellable.0 }
const-over negative fit = record { fit = behind (behind fit); fits = omega arith; good = fit.spellable.1.0 }
const-over true_const fit = record { fit = behind fit; fits = omega arith; good = tt }
const-over false_const fit = record { fit = behind fit; fits = omega arith; good = tt }

clause-over : {w : Word} {ts : List Placed} {o : Option Id} {rest : List Placed} → SpellsClause w ts o rest → AreFit ts → Over no_item IsAny ts o rest
clause-over absent fit = record { fit = fit; fits = omega arith; good = tt }
clause-over present fit = record { fit = behind (behind fit); fits = omega arith; good = tt }

-- behind "communicator" or "sensor"
comm-parts : {ts us rest : List Placed} {t : Ty} {n : List ℕ} {x : ℤ} {c : ConstNode} {sensor : Bool} {m p q i s : ℕ}
    → SpellsType ts t (Put m (token.Ident n) ∷ Put p (token.Word word.Period) ∷ Put q (token.Number x) ∷ Put i (token.Word word.Init) ∷ us)
    → SpellsConst us c (Put s (token.Sign sign.Semicolon) ∷ rest) → AreFit ts
    → Over no_item IsBoundedComm ts (record { sensor = sensor; ty = t; name = record { name = n; token = m }; period = record { x = x; token = q }; init = c }) rest
comm-parts type init fit =
    let head = type-over type fit in
    let period = behind (behind head.fit) in
    let tail = const-over init (behind (behind period)) in
    record { fit = behind tail.fit; fits = omega (arith, head.fits, tail.fits); good = record { period = period.spellable.0; init = tail.good } }

comm-over : (ts : List Placed) (c : CommNode) (rest : List Placed) → SpellsComm ts c rest → AreFit ts → Over one_item IsBoundedComm ts c rest
comm-over _ _ _ (communicator type init) fit = let parts = comm-parts type init (behind fit) in record { fit = parts.fit; fits = omega (arith, parts.fits); good = parts.good }
comm-over _ _ _ (sensor type init) fit = let parts = comm-parts type init (behind fit) in record { fit = parts.fit; fits = omega (arith, parts.fits); good = parts.good }

-- the outputs of a task and the nodes of their expressions
outs-size : (os : List PlainOut) → length (map (λ (o : PlainOut). o.param) os) + sum_by tree_nodes (map (λ (o : PlainOut). o.value) os) ≤ listed out_weight os
outs-size [] = omega arith
outs-size (o ∷ os) =
    omega (arith, nodes-weight o.value, outs-size os, sum_by-cons (λ (x : PlainOut). out_weight x + 1) o os, sum_by-cons tree_nodes o.value (map (λ (x : PlainOut). x.value) os))

task-over : (ts : List Placed) (t : PlainTask) (rest : List Placed) → SpellsTask ts t rest → AreFit ts → Over task_size IsBoundedTask ts t rest
task-over _ _ _ (concrete {ins = ins} {outs = outs} inputs outputs) fit =
    let at_inputs = behind (behind (behind fit)) in
    let one = list-run SpellsParam param_weight IsAny param-run inputs at_inputs in
    let at_outputs = behind (run-fit one.runs at_inputs) in
    let other = list-run SpellsOut out_weight IsBoundedOut out-run outputs at_outputs in
    let worst = behind (run-fit other.runs at_outputs) in
    record {
      fit = behind (behind worst);
      fits = omega (arith, one.fits, other.fits, listed-few param_weight (λ p. omega arith) ins, outs-size outs);
      good = record {
        few_inputs = list-short SpellsParam param_weight IsAny param-run (λ p. omega arith) at_inputs one;
        few_outputs = omega (arith, length-map outs (λ (o : PlainOut). o.param), list-short SpellsOut out_weight IsBoundedOut out-run (λ o. omega arith) at_outputs other);
        values = All-map IsBoundedExpr (λ (o : PlainOut). o.value) outs other.good;
        worst = worst.spellable.0;
      };
    }
task-over _ _ _ (abstract_task {ins = ins} {outs = outs} inputs outputs) fit =
    let at_inputs = behind (behind (behind (behind fit))) in
    let one = list-run SpellsParam param_weight IsAny param-run inputs at_inputs in
    let at_outputs = behind (run-fit one.runs at_inputs) in
    let other = list-run SpellsParam param_weight IsAny param-run outputs at_outputs in
    let worst = behind (run-fit other.runs at_outputs) in
    record {
      fit = behind (behind worst);
      fits = omega (arith, one.fits, other.fits, listed-few param_weight (λ p. omega arith) ins, listed-few param_weight (λ p. omega arith) outs);
      good = record {
        few_inputs = list-short SpellsParam param_weight IsAny param-run (λ p. omega arith) at_inputs one;
        few_outputs = list-short SpellsParam param_weight IsAny param-run (λ p. omega arith) at_outputs other;
        values = All-nil IsBoundedExpr;
        worst = worst.spellable.0;
      };
    }

port-over : (ts : List Placed) (p : ParamNode) (rest : List Placed) → SpellsPort ts p rest → AreFit ts → Over one_item IsAny ts p rest
port-over _ _ _ (port {ts} {rest} {p} {k} {s} one) fit =
    let run = param-run ts p (Put s (token.Sign sign.Semicolon) ∷ rest) one (behind fit) in
    record { fit = behind (run-fit run.runs (behind fit)); fits = omega (arith, run.fits); good = tt }

invoke-over : (ts : List Placed) (i : InvokeNode) (rest : List Placed) → SpellsInvoke ts i rest → AreFit ts → Over invoke_size IsBoundedInvoke ts i rest
invoke-over _ _ _ (invoke {reads = reads} {writes = writes} inputs outputs parent) fit =
    let at_reads = behind (behind (behind fit)) in
    let one = list-run SpellsEnd end_weight IsBoundedEnd end-run inputs at_reads in
    let at_writes = behind (run-fit one.runs at_reads) in
    let other = list-run SpellsEnd end_weight IsBoundedEnd end-run outputs at_writes in
    let tail = clause-over parent (run-fit other.runs at_writes) in
    record {
      fit = behind tail.fit;
      fits = omega (arith, one.fits, other.fits, tail.fits, listed-few end_weight (λ e. omega arith) reads, listed-few end_weight (λ e. omega arith) writes);
      good = record {
        few_reads = list-short SpellsEnd end_weight IsBoundedEnd end-run (λ e. omega arith) at_reads one;
        few_writes = list-short SpellsEnd end_weight IsBoundedEnd end-run (λ e. omega arith) at_writes other;
        reads = one.good;
        writes = other.good;
      };
    }

switch-over : (ts : List Placed) (s : PlainSwitch) (rest : List Placed) → SpellsSwitch ts s rest → AreFit ts → Over switch_size IsBoundedSwitch ts s rest
switch-over _ _ _ (switch {e = e} cond) fit =
    let at = behind (behind fit) in
    let run = expr-run cond at in
    record {
      fit = behind (behind (behind (behind (run-fit run.runs at))));
      fits = omega (arith, run.fits, nodes-weight e);
      good = record { cond = expr-bounded at run; few_names = omega (arith, names-weight e, expr-short at run) };
    }

mode-over : (ts : List Placed) (m : PlainMode) (rest : List Placed) → SpellsMode ts m rest → AreFit ts → Over mode_size IsBoundedMode ts m rest
mode-over _ _ _ (mode {ports = ports} refiner some_ports invokes switches) fit =
    let period = behind (behind (behind fit)) in
    let head = clause-over refiner (behind period) in
    let at_ports = behind head.fit in
    let one = each-over SpellsPort one_item IsAny port-over some_ports at_ports in
    let two = each-over SpellsInvoke invoke_size IsBoundedInvoke invoke-over invokes one.fit in
    let three = each-over SpellsSwitch switch_size IsBoundedSwitch switch-over switches two.fit in
    record {
      fit = behind three.fit;
      fits = omega (arith, head.fits, one.fits, two.fits, three.fits, length-within one_item (λ (p : ParamNode). omega arith) ports);
      good = record {
        period = period.spellable.0;
        few_ports = each-few SpellsPort one_item IsAny port-over (λ p. omega arith) at_ports one;
        few_invokes = each-few SpellsInvoke invoke_size IsBoundedInvoke invoke-over (λ i. omega arith) one.fit two;
        few_switches = each-few SpellsSwitch switch_size IsBoundedSwitch switch-over (λ s. omega arith) two.fit three;
        invokes = two.good;
        switches = three.good;
      };
    }

module-over : (ts : List Placed) (m : PlainModule) (rest : List Placed) → SpellsModule ts m rest → AreFit ts → Over module_size IsBoundedModule ts m rest
module-over _ _ _ (a_module tasks modes) fit =
    let at = behind (behind (behind (behind (behind fit)))) in
    let one = each-over SpellsTask task_size IsBoundedTask task-over tasks at in
    let two = each-over SpellsMode mode_size IsBoundedMode mode-over modes one.fit in
    record {
      fit = behind two.fit;
      fits = omega (arith, one.fits, two.fits);
      good = record {
        few_tasks = each-few SpellsTask task_size IsBoundedTask task-over (λ t. omega arith) at one;
        few_modes = each-few SpellsMode mode_size IsBoundedMode mode-over (λ m. omega arith) one.fit two;
        tasks = one.good;
        modes = two.good;
      };
    }

program-over : (ts : List Placed) (p : PlainProgram) (rest : List Placed) → SpellsProgram ts p rest → AreFit ts → Over program_size IsBoundedProgram ts p rest
program-over _ _ _ (program {comms = comms} some_comms modules) fit =
    let at = behind (behind (behind fit)) in
    let one = each-over SpellsComm one_item IsBoundedComm comm-over some_comms at in
    let two = each-over SpellsModule module_size IsBoundedModule module-over modules one.fit in
    record {
      fit = behind two.fit;
      fits = omega (arith, one.fits, two.fits, length-within one_item (λ (c : CommNode). omega arith) comms);
      good = record {
        few_comms = each-few SpellsComm one_item IsBoundedComm comm-over (λ c. omega arith) at one;
        few_modules = each-few SpellsModule module_size IsBoundedModule module-over (λ m. omega arith) one.fit two;
        comms = one.good;
        modules = two.good;
      };
    }

-- ---- whole sources

source-bounded : {ts : List Placed} {tree : List PlainProgram} {rest : List Placed} → SpellsSource ts tree rest → AreFit ts → IsBounded tree
source-bounded (source {ts} {us} {rest} {p} {ps} one more) fit =
    let first = program-over ts p us one fit in
    let others = each-over SpellsProgram program_size IsBoundedProgram program-over more first.fit in
    let size : tree_size (p ∷ ps) ≤ 1048576 = omega (arith, first.fits, others.fits, fit.few, sum_by-cons program_size p ps) in
    record {
      some = omega arith;
      few_programs = omega (arith, size, length-within program_size (λ q. omega arith) (p ∷ ps));
      programs = All-cons IsBoundedProgram p ps first.good others.good;
      few = size-few (p ∷ ps) size;
      size = size;
    }

pub tree-bounded : (tokens : List Token) (tree : List PlainProgram) → length tokens ≤ 1048576 → AreSpellable tokens → AreShort tokens → Spell tokens tree → IsBounded tree
tree-bounded tokens tree few spellable short spelled = source-bounded spelled (record {
  few = let same = ap length same_tokens in omega (arith, few, same, length-plain (tokens_numbered 0 tokens));
  short = subst AreShort (sym same_tokens) short;
  spellable = subst AreSpellable (sym same_tokens) spellable;
})
  where
    same_tokens : plain (tokens_numbered 0 tokens) ≡ tokens
    same_tokens = plain-numbered 0 tokens

pub result-bounded : (tokens : List Token) (result : Result Tree ParseFault) → length tokens ≤ 1048576 → AreSpellable tokens → IsParsed tokens result
    → IfOk result (λ (t : Tree). IsBounded (tree_of t))
result-bounded tokens (Ok t) few spellable is = tree-bounded tokens (tree_of t) few spellable is.0 is.1
result-bounded tokens (Err e) few spellable is = tt
