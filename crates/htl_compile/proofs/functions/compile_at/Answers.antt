use Rattle.std.proofs.Common.{◌≡◌, List, get_or, slice_get, Some, ◌∙◌, ap, subst}
use Rattle.htl_compile.proofs.Words.{output_type, IsSmallFunction, function_at, term_of, Tables, Formula, fun_of, Function}
use Rattle.htl_compile.proofs.FunctionLaws.{small_at, code_here, typed_here, fault_here}
use Rattle.htl_compile.proofs.functions.compile_at.Goals as goal

pub compile_fn-requires-clause-nodes : goal.compile_fn-requires-clause-nodes
compile_fn-requires-clause-nodes c =
    (subst (λ (x : Function). IsSmallFunction (output_type c.args.args.now c.args.want) (fun_of x)) c.in-Expr.is
    (small_at c.args.t.now c.parts.result.now.functions c.args.id c.index-as_slice-id.result (output_type c.args.args.now c.args.want) (ap (λ (u : Tables). u.functions) c.parts.ensures.value) c.requires.within
    (c.index-as_slice-id.is ∙ ap (λ (l : List Function). get_or l c.args.id c.index-as_slice-id.result) c.as_slice.ensures) c.requires.types c.requires.small)).0

pub compile_fn-requires-clause-types : goal.compile_fn-requires-clause-types
compile_fn-requires-clause-types c =
    (subst (λ (x : Function). IsSmallFunction (output_type c.args.args.now c.args.want) (fun_of x)) c.in-Expr.is
    (small_at c.args.t.now c.parts.result.now.functions c.args.id c.index-as_slice-id.result (output_type c.args.args.now c.args.want) (ap (λ (u : Tables). u.functions) c.parts.ensures.value) c.requires.within
    (c.index-as_slice-id.is ∙ ap (λ (l : List Function). get_or l c.args.id c.index-as_slice-id.result) c.as_slice.ensures) c.requires.types c.requires.small)).1

pub compile_fn-requires-clause-arguments : goal.compile_fn-requires-clause-arguments
compile_fn-requires-clause-arguments c =
    (subst (λ (x : Function). IsSmallFunction (output_type c.args.args.now c.args.want) (fun_of x)) c.in-Expr.is
    (small_at c.args.t.now c.parts.result.now.functions c.args.id c.index-as_slice-id.result (output_type c.args.args.now c.args.want) (ap (λ (u : Tables). u.functions) c.parts.ensures.value) c.requires.within
    (c.index-as_slice-id.is ∙ ap (λ (l : List Function). get_or l c.args.id c.index-as_slice-id.result) c.as_slice.ensures) c.requires.types c.requires.small)).2

pub unreachable-requires : goal.unreachable-requires
unreachable-requires c =
    subst (λ (x : Function). IsSmallFunction (output_type c.args.args.now c.args.want) (fun_of x)) c.in-Code.is
    (small_at c.args.t.now c.parts.result.now.functions c.args.id c.index-as_slice-id.result (output_type c.args.args.now c.args.want) (ap (λ (u : Tables). u.functions) c.parts.ensures.value) c.requires.within
    (c.index-as_slice-id.is ∙ ap (λ (l : List Function). get_or l c.args.id c.index-as_slice-id.result) c.as_slice.ensures) c.requires.types c.requires.small)

pub returns-in-Ok-clause-code : goal.returns-in-Ok-clause-code
returns-in-Ok-clause-code c =
    let at : slice_get c.args.t.now.functions c.args.id ≡ Some (fun_of c.index-as_slice-id.result) =
    function_at c.args.t.now c.parts.result.now.functions c.args.id c.index-as_slice-id.result (ap (λ (u : Tables). u.functions) c.parts.ensures.value) c.requires.within
    (c.index-as_slice-id.is ∙ ap (λ (l : List Function). get_or l c.args.id c.index-as_slice-id.result) c.as_slice.ensures) in
    code_here c.args.t.now c.args.id (output_type c.args.args.now c.args.want) c.in-Expr.first (term_of c.in-Expr.e) c.in-Ok.code c.requires.types (at ∙ ap (λ (f : Function). Some (fun_of f)) c.in-Expr.is) c.in-Ok.ensures.compiled

pub returns-in-Ok-clause-typed : goal.returns-in-Ok-clause-typed
returns-in-Ok-clause-typed c =
    let at : slice_get c.args.t.now.functions c.args.id ≡ Some (fun_of c.index-as_slice-id.result) =
    function_at c.args.t.now c.parts.result.now.functions c.args.id c.index-as_slice-id.result (ap (λ (u : Tables). u.functions) c.parts.ensures.value) c.requires.within
    (c.index-as_slice-id.is ∙ ap (λ (l : List Function). get_or l c.args.id c.index-as_slice-id.result) c.as_slice.ensures) in
    typed_here c.args.t.now c.args.id (output_type c.args.args.now c.args.want) c.in-Expr.first (term_of c.in-Expr.e) c.requires.types (at ∙ ap (λ (f : Function). Some (fun_of f)) c.in-Expr.is) c.in-Ok.ensures.compiled.function

pub returns-in-Err-clause-fault : goal.returns-in-Err-clause-fault
returns-in-Err-clause-fault c =
    let at : slice_get c.args.t.now.functions c.args.id ≡ Some (fun_of c.index-as_slice-id.result) =
    function_at c.args.t.now c.parts.result.now.functions c.args.id c.index-as_slice-id.result (ap (λ (u : Tables). u.functions) c.parts.ensures.value) c.requires.within
    (c.index-as_slice-id.is ∙ ap (λ (l : List Function). get_or l c.args.id c.index-as_slice-id.result) c.as_slice.ensures) in
    record {
      type = output_type c.args.args.now c.args.want;
      function = Formula c.in-Expr.first (term_of c.in-Expr.e);
      typed = c.requires.types;
      there = at ∙ ap (λ (f : Function). Some (fun_of f)) c.in-Expr.is;
      fault = fault_here (output_type c.args.args.now c.args.want) c.in-Expr.first (term_of c.in-Expr.e) c.in-Err.fault c.compile_fn.result c.in-Err.is c.compile_fn.ensures.ill_typed c.compile_fn.ensures.deep;
    }
