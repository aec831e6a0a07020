use Rattle.std.proofs.Common.{ℕ, ◌<◌, length, refl, sym, subst}
use Rattle.htl_compile.proofs.{Words.tree_of, Words.bounded_tree, Words.AreFunctionsBelow, NameTokens.fault_token, PlacedFunctions.functions_placed}
use Rattle.htl_names.specs.declared.fault.NameFault.TheVariants as name
use Rattle.htl_compile.proofs.source.read_tree.Goals as goal

pub resolve-requires : goal.resolve-requires
resolve-requires c = record { bounds = bounded_tree (tree_of c.args.tree.now) c.requires.bounded }

pub read_functions-requires-clause-placed : goal.read_functions-requires-clause-placed
read_functions-requires-clause-placed c =
    subst (AreFunctionsBelow (length c.args.tokens.now.tokens)) (sym c.in-Ok.ensures.resolved.1)
    (functions_placed c.args.tokens.now.tokens (tree_of c.args.tree.now) c.requires.spelled)

pub first_byte-at-requires : goal.first_byte-at-requires
first_byte-at-requires c =
    subst (λ (k : ℕ). k < length c.args.tokens.now.tokens) (sym c.in-Err-Twice.token-is)
    (fault_token c.args.tokens.now.tokens (tree_of c.args.tree.now) (name.Twice c.in-Err-Twice.token) c.requires.spelled
    (rw c.in-Err-Twice.field-0-is at c.in-Err-Twice.ensures.resolved))

pub first_byte-at-requires-in-Err-Unknown : goal.first_byte-at-requires-in-Err-Unknown
first_byte-at-requires-in-Err-Unknown c =
    subst (λ (k : ℕ). k < length c.args.tokens.now.tokens) (sym c.in-Err-Unknown.token-is)
    (fault_token c.args.tokens.now.tokens (tree_of c.args.tree.now) (name.Unknown c.in-Err-Unknown.token) c.requires.spelled
    (rw c.in-Err-Unknown.field-0-is at c.in-Err-Unknown.ensures.resolved))

pub first_byte-at-requires-in-Err-Kind : goal.first_byte-at-requires-in-Err-Kind
first_byte-at-requires-in-Err-Kind c =
    subst (λ (k : ℕ). k < length c.args.tokens.now.tokens) (sym c.in-Err-Kind.token-is)
    (fault_token c.args.tokens.now.tokens (tree_of c.args.tree.now) (name.Kind c.in-Err-Kind.token) c.requires.spelled
    (rw c.in-Err-Kind.field-0-is at c.in-Err-Kind.ensures.resolved))

pub returns-in-Ok-clause-read : goal.returns-in-Ok-clause-read
returns-in-Ok-clause-read c = λ bytes reads.
    let resolved = c.in-Ok.ensures.resolved in
    c.read_functions.ensures.read bytes
    (record {
      list = c.args.tokens.now;
      reads = reads;
      programs = tree_of c.args.tree.now;
      spelled = c.requires.spelled;
      named = resolved.0;
      is = resolved.1;
    })
    refl
