use Rattle.htl_compile.proofs.{Words.length, Words.sym, Words.subst, Words.codes, Words.limits_same, Words.KeepsLimits, FunctionTokens.ill_token, FunctionTokens.deep_token, SourceLaws.function_fault}
use Rattle.htl_func.specs.declared.compiler.FnFault.TheVariants as fn_fault
use Rattle.htl_compile.proofs.source.read_functions.Goals as goal

pub first_byte-at-requires : goal.first_byte-at-requires
first_byte-at-requires c =
    ill_token (length c.args.tokens.now.tokens) c.args.tables c.in-Err-IllTyped.token c.requires.placed (rw c.in-Err-IllTyped.field-0-is at c.in-Err-IllTyped.ensures.fault)

pub first_byte-at-requires-in-Err-Deep : goal.first_byte-at-requires-in-Err-Deep
first_byte-at-requires-in-Err-Deep c =
    deep_token (length c.args.tokens.now.tokens) c.args.tables c.in-Err-Deep.token c.requires.placed (rw c.in-Err-Deep.field-0-is at c.in-Err-Deep.ensures.fault)

pub returns-in-Ok-clause-read : goal.returns-in-Ok-clause-read
returns-in-Ok-clause-read c = λ bytes source same.
    record {
      tables = c.args.tables;
      source = source;
      can = record {
        tables = record { ranges = c.keeps_ranges.ensures.ranges; limits = c.requires.limits; small = c.requires.small };
        typed = c.in-Ok.ensures.typed;
      };
      is = c.in-Ok.ensures.coded;
    }

pub returns-in-Ok-clause-limits : goal.returns-in-Ok-clause-limits
returns-in-Ok-clause-limits c = subst KeepsLimits (sym c.in-Ok.ensures.coded) (limits_same c.args.tables (codes c.args.tables) c.requires.limits)

pub returns-in-Err-IllTyped-clause-read : goal.returns-in-Err-IllTyped-clause-read
returns-in-Err-IllTyped-clause-read c = λ bytes source same.
    let fault = function_fault bytes c.args.tables c.args.tokens.now (fn_fault.IllTyped c.in-Err-IllTyped.token) source same (rw c.in-Err-IllTyped.field-0-is at c.in-Err-IllTyped.ensures.fault) in
    (c.args.tokens.now, c.in-Err-IllTyped.token, fault, c.first_byte-at.ensures bytes fault.reads.tokens)

pub returns-in-Err-Deep-clause-read : goal.returns-in-Err-Deep-clause-read
returns-in-Err-Deep-clause-read c = λ bytes source same.
    let fault = function_fault bytes c.args.tables c.args.tokens.now (fn_fault.Deep c.in-Err-Deep.token) source same (rw c.in-Err-Deep.field-0-is at c.in-Err-Deep.ensures.fault) in
    (c.args.tokens.now, c.in-Err-Deep.token, fault, c.first_byte-at-in-Err-Deep.ensures bytes fault.reads.tokens)
