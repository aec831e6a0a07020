-- The tokens of the printed form spell the tree again, but for the numbers of the tokens.
use Rattle.std.proofs.Common.{◌≡◌, ℕ, ◌+◌, Bool, true, false, Option, None, Some, List, [], ◌∷◌, map, length, refl, sym, subst, ap, ◌∙◌}
use Rattle.htl_parse.proofs.Words.{Ty, UnOp, BinOp, Placed, Put, tokens_numbered, Expr, Number, Flag, Variable, Prefix, Infix, Choice, Or, And, Compare, Sum, Product, Atom, Spells, conj, or, cmp, and, sum, compare, prod, add, unary, multiply, atom, prefix, number, true_atom, false_atom, name, brackets, choice, PlainOut, PlainOuts, Concrete, Abstract, PlainTask, PlainSwitch, PlainMode, PlainModule, PlainProgram, SpellsMore, no_more, comma, SpellsList, empty, items, SpellsEach, no_other, another, SpellsClause, absent, present, SpellsType, int, bool, SpellsConst, positive, negative, true_word, false_word, SpellsComm, communicator, sensor, SpellsParam, param, SpellsOut, out, SpellsTask, concrete, abstract_task, SpellsPort, port, SpellsEnd, comm_end, port_end, SpellsInvoke, invoke, SpellsSwitch, switch, SpellsMode, mode, SpellsModule, a_module, SpellsProgram, program, source, Spelling, each, after_commas, in_brackets, prefix_sign, infix_sign, expr_tokens, type_tokens, const_tokens, comm_tokens, param_tokens, out_tokens, task_tokens, port_tokens, end_tokens, clause_tokens, invoke_tokens, switch_tokens, mode_tokens, module_tokens, program_tokens, source_tokens, bare_id, bare_expr, bare_const, bare_comm, bare_param, bare_out, bare_task, bare_end, bare_clause, bare_invoke, bare_switch, bare_mode, bare_module, bare_program, AreAlike, printed_bytes, printed-tokens, Spell, IsPrintable, IsParsedAgain, Token, Word, Id, Num, ParamNode, ConstNode, CommNode, EndNode, InvokeNode}
use Rattle.htl_base.specs.declared.Ty.TheVariants as ty
use Rattle.htl_base.specs.declared.operator.UnOp.TheVariants as un
use Rattle.htl_base.specs.declared.operator.BinOp.TheVariants as bin
use Rattle.htl_text.specs.declared.token.Token.TheVariants as token
use Rattle.htl_text.specs.declared.token.Sign.TheVariants as sign
use Rattle.htl_text.specs.declared.token.Word.TheVariants as word
use Rattle.htl_text.specs.declared.tree.ConstNode.TheVariants as const
use Rattle.htl_text.specs.declared.tree.EndNode.TheVariants as end

-- from n on the tokens spell x with other numbers, and m is the number of the next token
abbrev pub Again : {X : Type 0} → (List Placed → X → List Placed → Type 0) → Spelling X → (X → X) → ℕ → X → List Token → Type 0
Again {X} Item tokens bare n x more = (f : X) × (m : ℕ) × (bare f ≡ bare x) × Item (tokens_numbered n (tokens x more)) f (tokens_numbered m more)

both : {X : Type 0} (bare : X → X) (f x : X) (fs xs : List X) → bare f ≡ bare x → map bare fs ≡ map bare xs → map bare (f ∷ fs) ≡ map bare (x ∷ xs)
both {X} bare f x fs xs one rest = ap (λ (y : X). y ∷ map bare fs) one ∙ ap (λ (ys : List X). bare x ∷ ys) rest

-- lists of items
module _ {X : Type 0} (Item : List Placed → X → List Placed → Type 0) (tokens : Spelling X) (bare : X → X) (item : (x : X) (n : ℕ) (more : List Token) → Again Item tokens bare n x more) where
  pub each-again : (xs : List X) (n : ℕ) (more : List Token) → Again (SpellsEach Item) (each tokens) (map bare) n xs more
  each-again [] n more = ([], n, refl, no_other)
  each-again (x ∷ xs) n more =
      let a = item x n (each tokens xs more) in
      let b = each-again xs a.1 more in
      (a.0 ∷ b.0, b.1, both bare a.0 x b.0 xs a.2 b.2, another a.3 b.3)

  commas-again : (xs : List X) (n : ℕ) (more : List Token) → Again (SpellsMore Item) (after_commas tokens) (map bare) n xs more
  commas-again [] n more = ([], n, refl, no_more)
  commas-again (x ∷ xs) n more =
      let a = item x (n + 1) (after_commas tokens xs more) in
      let b = commas-again xs a.1 more in
      (a.0 ∷ b.0, b.1, both bare a.0 x b.0 xs a.2 b.2, comma a.3 b.3)

  pub list-again : (xs : List X) (n : ℕ) (more : List Token) → Again (SpellsList Item) (in_brackets tokens) (map bare) n xs more
  list-again [] n more = ([], n + 1 + 1, refl, empty)
  list-again (x ∷ xs) n more =
      let a = item x (n + 1) (after_commas tokens xs (token.Sign sign.CloseParen ∷ more)) in
      let b = commas-again xs a.1 (token.Sign sign.CloseParen ∷ more) in
      (a.0 ∷ b.0, b.1 + 1, both bare a.0 x b.0 xs a.2 b.2, items a.3 b.3)

module _ {ts : List Placed} {e : Expr} {rest : List Placed} (s : Spells Atom ts e rest) where
  as_product : Spells Product ts e rest
  as_product = unary (atom s)

  as_sum : Spells Sum ts e rest
  as_sum = prod as_product

  as_compare : Spells Compare ts e rest
  as_compare = sum as_sum

  as_and : Spells And ts e rest
  as_and = cmp as_compare

  pub as_or : Spells Or ts e rest
  as_or = conj as_and

infix-spells : (op : BinOp) {ts us : List Placed} {l r : Expr} {rest : List Placed} {k : ℕ} → Spells Atom ts l (Put k (token.Sign (infix_sign op)) ∷ us) → Spells Atom us r rest
    → Spells Or ts (Infix k op l r) rest
infix-spells bin.Add l r = conj (cmp (sum (add (as_sum l) refl (as_product r))))
infix-spells bin.Sub l r = conj (cmp (sum (add (as_sum l) refl (as_product r))))
infix-spells bin.Mul l r = conj (cmp (sum (prod (multiply (as_product l) refl (atom r)))))
infix-spells bin.Div l r = conj (cmp (sum (prod (multiply (as_product l) refl (atom r)))))
infix-spells bin.Rem l r = conj (cmp (sum (prod (multiply (as_product l) refl (atom r)))))
infix-spells bin.And l r = conj (and (as_and l) refl (as_compare r))
infix-spells bin.Or l r = or (as_or l) refl (as_and r)
infix-spells _ l r = conj (cmp (compare (as_sum l) refl (as_sum r)))

prefix-spells : (op : UnOp) {ts : List Placed} {e : Expr} {rest : List Placed} {k : ℕ} → Spells Atom ts e rest → Spells Or (Put k (token.Sign (prefix_sign op)) ∷ ts) (Prefix k op e) rest
prefix-spells un.Neg s = conj (cmp (sum (prod (unary (prefix refl (atom s))))))
prefix-spells un.Not s = conj (cmp (sum (prod (unary (prefix refl (atom s))))))

pub expr-again : (e : Expr) (n : ℕ) (more : List Token) → Again (Spells Atom) expr_tokens bare_expr n e more
expr-again (Number k x) n more = (Number n x, n + 1, refl, number)
expr-again (Flag k true) n more = (Flag n true, n + 1, refl, true_atom)
expr-again (Flag k false) n more = (Flag n false, n + 1, refl, false_atom)
expr-again (Variable id) n more = (Variable (record { name = id.name; token = n }), n + 1, refl, name)
expr-again (Prefix k op e) n more =
    let a = expr-again e (n + 1 + 1) (token.Sign sign.CloseParen ∷ more) in
    (Prefix (n + 1) op a.0, a.1 + 1, ap (λ (f : Expr). Prefix 0 op f) a.2, brackets (prefix-spells op a.3))
expr-again (Infix k op l r) n more =
    let a = expr-again l (n + 1) (token.Sign (infix_sign op) ∷ expr_tokens r (token.Sign sign.CloseParen ∷ more)) in
    let b = expr-again r (a.1 + 1) (token.Sign sign.CloseParen ∷ more) in
    (Infix a.1 op a.0 b.0, b.1 + 1, cc (a.2, b.2), brackets (infix-spells op a.3 b.3))
expr-again (Choice k c a b) n more =
    let x = expr-again c (n + 1 + 1) (token.Sign sign.Comma ∷ expr_tokens a (token.Sign sign.Comma ∷ expr_tokens b (token.Sign sign.CloseParen ∷ more))) in
    let y = expr-again a (x.1 + 1) (token.Sign sign.Comma ∷ expr_tokens b (token.Sign sign.CloseParen ∷ more)) in
    let z = expr-again b (y.1 + 1) (token.Sign sign.CloseParen ∷ more) in (
      Choice n x.0 y.0 z.0,
      z.1 + 1,
      cc (x.2, y.2, z.2),
      choice (as_or x.3) (as_or y.3) (as_or z.3),
    )

type-again : (t : Ty) (n : ℕ) (more : List Token) → SpellsType (tokens_numbered n (type_tokens t more)) t (tokens_numbered (n + 1) more)
type-again ty.Int n more = int
type-again ty.Bool n more = bool

-- the same in one step: the type keeps no number
type-first : (t : Ty) (n : ℕ) (x : Token) (more : List Token) → SpellsType (tokens_numbered n (type_tokens t (x ∷ more))) t (Put (n + 1) x ∷ tokens_numbered (n + 1 + 1) more)
type-first t n x more = type-again t n (x ∷ more)

param-again : (p : ParamNode) (n : ℕ) (more : List Token) → Again SpellsParam param_tokens bare_param n p more
param-again p n more = (record { ty = p.ty; name = record { name = p.name.name; token = n + 1 } }, n + 1 + 1, refl, param (type-first p.ty n (token.Ident p.name.name) more))

const-again : (c : ConstNode) (n : ℕ) (more : List Token) → Again SpellsConst const_tokens bare_const n c more
const-again (const.Int k true x) n more = (const.Int n true x, n + 1 + 1, refl, negative)
const-again (const.Int k false x) n more = (const.Int n false x, n + 1, refl, positive)
const-again (const.Bool k true) n more = (const.Bool n true, n + 1, refl, true_word)
const-again (const.Bool k false) n more = (const.Bool n false, n + 1, refl, false_word)

comm-again : (c : CommNode) (n : ℕ) (more : List Token) → Again SpellsComm comm_tokens bare_comm n c more
comm-again c n more =
    let behind = token.Sign sign.Semicolon ∷ more in
    let init = const-again c.init (n + 1 + 1 + 1 + 1 + 1 + 1) behind in
    let after : List Token = token.Word word.Period ∷ token.Number c.period.x ∷ token.Word word.Init ∷ const_tokens c.init behind in
    let ty = type-again c.ty (n + 1) (token.Ident c.name.name ∷ after) in
    let name : Id = record { name = c.name.name; token = n + 1 + 1 } in
    let period : Num = record { x = c.period.x; token = n + 1 + 1 + 1 + 1 } in
    let found : Bool → CommNode = λ b. record { sensor = b; ty = c.ty; name = name; period = period; init = init.0 } in
    elim c.sensor as (λ (b : Bool). Again SpellsComm comm_tokens bare_comm n (record c { sensor = b }) more) [
      | true ↦ (found true, init.1 + 1, cc (init.2), sensor ty init.3)
      | false ↦ (found false, init.1 + 1, cc (init.2), communicator ty init.3)
    ]

-- an expression begins with a token
expr-first : (e : Expr) (more : List Token) → (t : Token) × (us : List Token) × (expr_tokens e more ≡ t ∷ us)
expr-first (Number k x) more = (token.Number x, more, refl)
expr-first (Flag k true) more = (token.Word word.True, more, refl)
expr-first (Flag k false) more = (token.Word word.False, more, refl)
expr-first (Variable id) more = (token.Ident id.name, more, refl)
expr-first (Prefix k op e) more = (token.Sign sign.OpenParen, token.Sign (prefix_sign op) ∷ expr_tokens e (token.Sign sign.CloseParen ∷ more), refl)
expr-first (Infix k op l r) more =
    (token.Sign sign.OpenParen, expr_tokens l (token.Sign (infix_sign op) ∷ expr_tokens r (token.Sign sign.CloseParen ∷ more)), refl)
expr-first (Choice k c a b) more = (
  token.Word word.If,
  token.Sign sign.OpenParen ∷ expr_tokens c (token.Sign sign.Comma ∷ expr_tokens a (token.Sign sign.Comma ∷ expr_tokens b (token.Sign sign.CloseParen ∷ more))),
  refl,
)

out-of : {ts rest : List Placed} {p : ParamNode} {k : ℕ} {f : Expr} (n : ℕ) (e : Expr) (more : List Token) → SpellsParam ts p (Put k (token.Sign sign.Assign) ∷ tokens_numbered n (expr_tokens e more))
    → Spells Or (tokens_numbered n (expr_tokens e more)) f rest → SpellsOut ts (record { param = p; first = n; value = f }) rest
out-of {ts} {rest} {p} {k} {f} n e more sp se =
    let first = expr-first e more in
    let same : tokens_numbered n (expr_tokens e more) ≡ Put n first.0 ∷ tokens_numbered (n + 1) first.1 = ap (tokens_numbered n) first.2 in
    out (subst (λ (ls : List Placed). SpellsParam ts p (Put k (token.Sign sign.Assign) ∷ ls)) same sp) (subst (λ (ls : List Placed). Spells Or ls f rest) same se)

out-again : (o : PlainOut) (n : ℕ) (more : List Token) → Again SpellsOut out_tokens bare_out n o more
out-again o n more =
    let p = param-again o.param n (token.Sign sign.Assign ∷ expr_tokens o.value more) in
    let e = expr-again o.value (p.1 + 1) more in (
      record { param = p.0; first = p.1 + 1; value = e.0 },
      e.1,
      cc (p.2, e.2),
      out-of (p.1 + 1) o.value more p.3 (as_or e.3),
    )

task-again : (t : PlainTask) (n : ℕ) (more : List Token) → Again SpellsTask task_tokens bare_task n t more
task-again t n more = by t.outputs
  where
    found : ℕ → ℕ → List ParamNode → PlainOuts → PlainTask
    found m w ins outs = record { name = record { name = t.name.name; token = m }; inputs = ins; outputs = outs; worst = record { x = t.worst.x; token = w } }

    ended : List Token
    ended = token.Word word.Worst ∷ token.Number t.worst.x ∷ token.Sign sign.Semicolon ∷ more

    by : (outs : PlainOuts) → Again SpellsTask task_tokens bare_task n (record t { outputs = outs }) more
    by (Concrete outs) =
        let i = list-again SpellsParam param_tokens bare_param param-again t.inputs (n + 1 + 1 + 1) (token.Word word.Output ∷ in_brackets out_tokens outs ended) in
        let o = list-again SpellsOut out_tokens bare_out out-again outs (i.1 + 1) ended in
        (found (n + 1) (o.1 + 1) i.0 (Concrete o.0), o.1 + 1 + 1 + 1, cc (i.2, o.2), concrete i.3 o.3)
    by (Abstract outs) =
        let i = list-again SpellsParam param_tokens bare_param param-again t.inputs (n + 1 + 1 + 1 + 1) (token.Word word.Output ∷ in_brackets param_tokens outs ended) in
        let o = list-again SpellsParam param_tokens bare_param param-again outs (i.1 + 1) ended in
        (found (n + 1 + 1) (o.1 + 1) i.0 (Abstract o.0), o.1 + 1 + 1 + 1, cc (i.2, o.2), abstract_task i.3 o.3)

port-again : (p : ParamNode) (n : ℕ) (more : List Token) → Again SpellsPort port_tokens bare_param n p more
port-again p n more =
    let a = param-again p (n + 1) (token.Sign sign.Semicolon ∷ more) in
    (a.0, a.1 + 1, a.2, port a.3)

end-again : (e : EndNode) (n : ℕ) (more : List Token) → Again SpellsEnd end_tokens bare_end n e more
end-again (end.Comm id instance) n more =
    (end.Comm (record { name = id.name; token = n + 1 }) (record { x = instance.x; token = n + 1 + 1 + 1 }), n + 1 + 1 + 1 + 1 + 1, refl, comm_end)
end-again (end.Port id) n more = (end.Port (record { name = id.name; token = n }), n + 1, refl, port_end)

clause-again : (w : Word) (o : Option Id) (n : ℕ) (more : List Token) → Again (SpellsClause w) (clause_tokens w) bare_clause n o more
clause-again w None n more = (None, n, refl, absent)
clause-again w (Some id) n more = (Some (record { name = id.name; token = n + 1 }), n + 1 + 1, refl, present)

invoke-again : (i : InvokeNode) (n : ℕ) (more : List Token) → Again SpellsInvoke invoke_tokens bare_invoke n i more
invoke-again i n more =
    let ended = token.Sign sign.Semicolon ∷ more in
    let r = list-again SpellsEnd end_tokens bare_end end-again i.reads (n + 1 + 1 + 1) (token.Word word.Output ∷ in_brackets end_tokens i.writes (clause_tokens word.Parent i.parent ended)) in
    let w = list-again SpellsEnd end_tokens bare_end end-again i.writes (r.1 + 1) (clause_tokens word.Parent i.parent ended) in
    let p = clause-again word.Parent i.parent w.1 ended in (
      record { task = record { name = i.task.name; token = n + 1 }; reads = r.0; writes = w.0; parent = p.0 },
      p.1 + 1,
      cc (r.2, w.2, p.2),
      invoke r.3 w.3 p.3,
    )

switch-of : {rest : List Placed} {k o c m d s : ℕ} {f : Expr} {name : List ℕ} (n : ℕ) (e : Expr) (more : List Token)
    → Spells Or (tokens_numbered n (expr_tokens e more)) f (Put c (token.Sign sign.Comma) ∷ Put m (token.Ident name) ∷ Put d (token.Sign sign.CloseParen) ∷ Put s (token.Sign sign.Semicolon) ∷ rest)
    → SpellsSwitch (Put k (token.Word word.Switch) ∷ Put o (token.Sign sign.OpenParen) ∷ tokens_numbered n (expr_tokens e more)) (record { first = n; cond = f; target = record { name = name; token = m } }) rest
switch-of {rest} {k} {o} {c} {m} {d} {s} {f} {name} n e more se =
    let first = expr-first e more in
    let same : tokens_numbered n (expr_tokens e more) ≡ Put n first.0 ∷ tokens_numbered (n + 1) first.1 = ap (tokens_numbered n) first.2 in
    let to : PlainSwitch = record { first = n; cond = f; target = record { name = name; token = m } } in
    subst (λ (ls : List Placed). SpellsSwitch (Put k (token.Word word.Switch) ∷ Put o (token.Sign sign.OpenParen) ∷ ls) to rest) (sym same)
    (switch (subst (λ (ls : List Placed). Spells Or ls f (Put c (token.Sign sign.Comma) ∷ Put m (token.Ident name) ∷ Put d (token.Sign sign.CloseParen) ∷ Put s (token.Sign sign.Semicolon) ∷ rest)) same se))

switch-again : (s : PlainSwitch) (n : ℕ) (more : List Token) → Again SpellsSwitch switch_tokens bare_switch n s more
switch-again s n more =
    let ended = token.Sign sign.Comma ∷ token.Ident s.target.name ∷ token.Sign sign.CloseParen ∷ token.Sign sign.Semicolon ∷ more in
    let e = expr-again s.cond (n + 1 + 1) ended in (
      record { first = n + 1 + 1; cond = e.0; target = record { name = s.target.name; token = e.1 + 1 } },
      e.1 + 1 + 1 + 1 + 1,
      ap (λ (f : Expr). record { first = 0; cond = f; target = bare_id s.target }) e.2,
      switch-of (n + 1 + 1) s.cond ended (as_or e.3),
    )

mode-again : (m : PlainMode) (n : ℕ) (more : List Token) → Again SpellsMode mode_tokens bare_mode n m more
mode-again m n more =
    let ended = token.Sign sign.CloseBrace ∷ more in
    let switches = each switch_tokens m.switches ended in
    let invokes = each invoke_tokens m.invokes switches in
    let ports = each port_tokens m.ports invokes in
    let r = clause-again word.Program m.program (n + 1 + 1 + 1 + 1) (token.Sign sign.OpenBrace ∷ ports) in
    let p = each-again SpellsPort port_tokens bare_param port-again m.ports (r.1 + 1) invokes in
    let i = each-again SpellsInvoke invoke_tokens bare_invoke invoke-again m.invokes p.1 switches in
    let s = each-again SpellsSwitch switch_tokens bare_switch switch-again m.switches i.1 ended in (
      record { name = record { name = m.name.name; token = n + 1 }; period = record { x = m.period.x; token = n + 1 + 1 + 1 }; program = r.0; ports = p.0; invokes = i.0; switches = s.0 },
      s.1 + 1,
      cc (r.2, p.2, i.2, s.2),
      mode r.3 p.3 i.3 s.3,
    )

module-again : (m : PlainModule) (n : ℕ) (more : List Token) → Again SpellsModule module_tokens bare_module n m more
module-again m n more =
    let ended = token.Sign sign.CloseBrace ∷ more in
    let t = each-again SpellsTask task_tokens bare_task task-again m.tasks (n + 1 + 1 + 1 + 1 + 1) (each mode_tokens m.modes ended) in
    let d = each-again SpellsMode mode_tokens bare_mode mode-again m.modes t.1 ended in (
      record { name = record { name = m.name.name; token = n + 1 }; start = record { name = m.start.name; token = n + 1 + 1 + 1 }; tasks = t.0; modes = d.0 },
      d.1 + 1,
      cc (t.2, d.2),
      a_module t.3 d.3,
    )

program-again : (p : PlainProgram) (n : ℕ) (more : List Token) → Again SpellsProgram program_tokens bare_program n p more
program-again p n more =
    let ended = token.Sign sign.CloseBrace ∷ more in
    let c = each-again SpellsComm comm_tokens bare_comm comm-again p.comms (n + 1 + 1 + 1) (each module_tokens p.modules ended) in
    let m = each-again SpellsModule module_tokens bare_module module-again p.modules c.1 ended in (
      record { name = record { name = p.name.name; token = n + 1 }; comms = c.0; modules = m.0 },
      m.1 + 1,
      cc (c.2, m.2),
      program c.3 m.3,
    )

-- the tokens of a printed source spell it again
pub source-again : (tree : List PlainProgram) → (tree ≡ [] → ⊥) → (again : List PlainProgram) × AreAlike again tree × Spell (source_tokens tree) again
source-again [] some = absurd (some refl)
source-again (p ∷ ps) some =
    let a = program-again p 0 (each program_tokens ps []) in
    let b = each-again SpellsProgram program_tokens bare_program program-again ps a.1 [] in
    (a.0 ∷ b.0, both bare_program a.0 p b.0 ps a.2 b.2, source a.3 b.3)

pub parses_again-law : (tree : List PlainProgram) → IsPrintable tree → IsParsedAgain tree
parses_again-law tree is =
    let cut = printed-tokens (source_tokens tree) is.spellable in
    let a = source-again tree is.some in
    record {
      tokens = record { tokens = source_tokens tree; offsets = cut.0; end = length (printed_bytes (source_tokens tree)) };
      cut = cut.1;
      short = is.short;
      again = a.0;
      spelled = a.2;
      alike = a.1;
    }
