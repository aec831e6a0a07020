-- Reading the small parts of statements stops where no token fits.
use Rattle.std.proofs.Common.{arith, ◌≡◌, ◌<◌, ◌+◌, ℕ, pos, Bool, true, false, List, [], ◌∷◌, ◌++◌, length, refl, sym, subst, ap, ◌∙◌}
use Rattle.std.specs.Prelude.{◌==◌}
use Rattle.htl_parse.proofs.Words.{Placed, Put, Expr, Spells, Or, SpellsType, int, bool, SpellsConst, positive, negative, true_word, false_word, SpellsClause, absent, present, SpellsParam, param, SpellsOut, out, SpellsPort, port, SpellsEnd, comm_end, port_end, SpellsInvoke, invoke, SpellsList, empty, Token, Word, ParamNode, word_code, place_at, type_at, const_at, clause_by, clause_at, read_expr, list_at}
use Rattle.htl_text.specs.declared.token.Token.TheVariants as token
use Rattle.htl_text.specs.declared.token.Sign.TheVariants as sign
use Rattle.htl_text.specs.declared.token.Word.TheVariants as word
use Rattle.htl_parse.specs.ReadingStatements.{param_at, out_at, port_at, instance_at, port_end_at, end_at, invoke_at}
use Rattle.htl_parse.proofs.{Coding.word_code-equal, Complete.shorter, ViableExpressions.read_expr-tells, ViableExpressions.some, ViableLists.list-tells}
use Rattle.htl_parse.proofs.Fronts.{Fronts, fronts-none, fronts-token, Tells, part, part-front, stops-here, a-sign, a-word, a-name, a-number, one-token}

pub type-tells : (ts : List Placed) → Tells SpellsType ts (type_at ts)
type-tells (Put k (token.Word word.Int) ∷ ts) = one-token SpellsType _ ts _ (λ o. int)
type-tells (Put k (token.Word word.Bool) ∷ ts) = one-token SpellsType _ ts _ (λ o. bool)
type-tells ts = stops-here SpellsType (λ o. o) ts ts (fronts-none ts) (token.Word word.Int ∷ []) (λ n rest. (_, int))

pub const-tells : (ts : List Placed) → Tells SpellsConst ts (const_at ts)
const-tells (Put k (token.Number x) ∷ ts) = one-token SpellsConst _ ts _ (λ o. positive)
const-tells (Put k (token.Sign sign.Minus) ∷ ts) =
    let p : Placed = Put k (token.Sign sign.Minus) in
    a-number SpellsConst (λ o. p ∷ o) (p ∷ ts) ts (fronts-token p (p ∷ ts) ts refl) (token.Number (pos 0) ∷ []) (λ n rest. (_, negative)) _ (λ x k vs at. record { f = _; fronts = at; spells = λ o. negative })
const-tells (Put k (token.Word word.True) ∷ ts) = one-token SpellsConst _ ts _ (λ o. true_word)
const-tells (Put k (token.Word word.False) ∷ ts) = one-token SpellsConst _ ts _ (λ o. false_word)
const-tells ts = stops-here SpellsConst (λ o. o) ts ts (fronts-none ts) (token.Word word.True ∷ []) (λ n rest. (_, true_word))

pub clause-tells : (wanted : Word) (ts : List Placed) → Tells (SpellsClause wanted) ts (clause_at wanted ts)
clause-tells wanted (Put k (token.Word w) ∷ ts) = by (word_code w == word_code wanted) refl
  where
    by : (b : Bool) → (word_code w == word_code wanted) ≡ b → Tells (SpellsClause wanted) (Put k (token.Word w) ∷ ts) (clause_by (Put k (token.Word w) ∷ ts) ts b)
    by true e =
        a-name (SpellsClause wanted) (λ o. Put k (token.Word wanted) ∷ o) (Put k (token.Word w) ∷ ts) ts
        (fronts-token (Put k (token.Word wanted)) (Put k (token.Word w) ∷ ts) ts (ap (λ (x : Word). Put k (token.Word x) ∷ ts) (word_code-equal w wanted e)))
        (token.Ident (80 ∷ []) ∷ []) (λ n rest. (_, present)) _ (λ n k vs at. record { f = _; fronts = at; spells = λ o. present })
    by false e = record { f = λ o. o; fronts = fronts-none _; spells = λ o. absent }
clause-tells wanted ts = record { f = λ o. o; fronts = fronts-none ts; spells = λ o. absent }

pub param-tells : (ts : List Placed) → Tells SpellsParam ts (param_at ts)
unfolding param_at
param-tells ts =
    part SpellsType SpellsParam _ _ _ (fronts-none ts) (token.Ident (80 ∷ []) ∷ []) (λ other a n rest s. (_, param s)) _ (type_at ts) (type-tells ts) (λ t vs g at st.
    a-name SpellsParam _ _ _ at (token.Ident (80 ∷ []) ∷ []) (λ n rest. (_, param (st _))) _ (λ n k rest end. record { f = _; fronts = end; spells = λ o. param (st _) }))

-- an expression has a first token, and its place is that of its front
out-by : (ts us : List Placed) (p : ParamNode) (e : Expr) (rest : List Placed) (k : ℕ) → SpellsParam ts p (Put k (token.Sign sign.Assign) ∷ us) → Spells Or us e rest
    → SpellsOut ts (record { param = p; first = place_at us; value = e }) rest
out-by ts [] p e rest k sp se = let less : length rest < 0 = shorter se in absurd (omega (arith, less))
out-by ts (Put first t ∷ us) p e rest k sp se = out sp se

pub place-same : (g : List Placed → List Placed) (us vs : List Placed) → Fronts g us vs → (e : Expr) → ((other : List Placed) → Spells Or (g other) e other) → (o : List Placed) → place_at (g o) ≡ place_at us
place-same g us vs at e s o = ap place_at (at.each o) ∙ by at.front (subst (λ (ts : List Placed). Spells Or ts e []) (at.each []) (s [])) ∙ sym (ap place_at (at.whole ∙ at.each vs))
  where
    by : (front : List Placed) → Spells Or (front ++ []) e [] → place_at (front ++ o) ≡ place_at (front ++ vs)
    by [] s = let nil : List Placed = [] in let less : length nil < length nil = shorter s in absurd (omega (arith, less))
    by (Put first t ∷ front) s = refl

pub out-tells : (ts : List Placed) → Tells SpellsOut ts (out_at ts)
unfolding out_at
out-tells ts =
    part SpellsParam SpellsOut _ _ _ (fronts-none ts) (token.Sign sign.Assign ∷ token.Word word.True ∷ []) (λ other p n rest s. (_, out-by other _ p _ rest n s (some (n + 1) rest))) _ (param_at ts) (param-tells ts) (λ p vs f at sp.
    a-sign SpellsOut _ _ _ at (token.Sign sign.Assign ∷ token.Word word.True ∷ []) (λ n rest. (_, out-by _ _ p _ rest n (sp _) (some (n + 1) rest))) sign.Assign _ (λ k us end.
    part-front (Spells Or) SpellsOut _ _ _ end [] (λ other e n rest s. (_, out-by _ other p e rest k (sp _) s)) _ (read_expr us) (read_expr-tells us) (λ e rest g last here se.
    record {
      f = _;
      fronts = last;
      spells = λ o. subst (λ (i : ℕ). SpellsOut (f (Put k (token.Sign sign.Assign) ∷ g o)) (record { param = p; first = i; value = e }) o) (place-same g us rest here e se o)
          (out-by _ (g o) p e o k (sp _) (se o));
    })))

pub port-tells : (ts : List Placed) → Tells SpellsPort ts (port_at ts)
unfolding port_at
port-tells ts =
    a-word SpellsPort _ _ _ (fronts-none ts) (token.Word word.Port ∷ token.Word word.Int ∷ token.Ident (80 ∷ []) ∷ token.Sign sign.Semicolon ∷ []) (λ n rest. (_, port (param int))) word.Port _ (λ k us at.
    part SpellsParam SpellsPort _ _ _ at (token.Sign sign.Semicolon ∷ []) (λ other p n rest s. (_, port s)) _ (param_at us) (param-tells us) (λ p vs g end sp.
    a-sign SpellsPort _ _ _ end (token.Sign sign.Semicolon ∷ []) (λ n rest. (_, port (sp _))) sign.Semicolon _ (λ m rest last. record { f = _; fronts = last; spells = λ o. port (sp _) })))

pub end-tells : (ts : List Placed) → Tells SpellsEnd ts (end_at ts)
unfolding instance_at port_end_at
end-tells (Put k (token.Sign sign.OpenParen) ∷ ts) =
    let p : Placed = Put k (token.Sign sign.OpenParen) in
    let nm : Token = token.Ident (80 ∷ []) in
    let co : Token = token.Sign sign.Comma in
    let nu : Token = token.Number (pos 0) in
    let cl : Token = token.Sign sign.CloseParen in
    a-name SpellsEnd (λ o. p ∷ o) (p ∷ ts) ts (fronts-token p (p ∷ ts) ts refl) (nm ∷ co ∷ nu ∷ cl ∷ []) (λ n rest. (_, comm_end)) _ (λ n k us at1.
    a-sign SpellsEnd _ _ _ at1 (co ∷ nu ∷ cl ∷ []) (λ n rest. (_, comm_end)) sign.Comma _ (λ i vs at2.
    a-number SpellsEnd _ _ _ at2 (nu ∷ cl ∷ []) (λ n rest. (_, comm_end)) _ (λ x j ws at3.
    a-sign SpellsEnd _ _ _ at3 (cl ∷ []) (λ n rest. (_, comm_end)) sign.CloseParen _ (λ m rest at4. record { f = _; fronts = at4; spells = λ o. comm_end }))))
end-tells (Put k (token.Ident n) ∷ ts) = one-token SpellsEnd _ ts _ (λ o. port_end)
end-tells ts = stops-here SpellsEnd (λ o. o) ts ts (fronts-none ts) (token.Ident (80 ∷ []) ∷ []) (λ n rest. (_, port_end))

pub invoke-tells : (ts : List Placed) → Tells SpellsInvoke ts (invoke_at ts)
unfolding invoke_at
invoke-tells ts =
    let iw : Token = token.Word word.Invoke in
    let nm : Token = token.Ident (80 ∷ []) in
    let inp : Token = token.Word word.Input in
    let outp : Token = token.Word word.Output in
    let op : Token = token.Sign sign.OpenParen in
    let cl : Token = token.Sign sign.CloseParen in
    let se : Token = token.Sign sign.Semicolon in
    a-word SpellsInvoke _ _ _ (fronts-none ts) (iw ∷ nm ∷ inp ∷ op ∷ cl ∷ outp ∷ op ∷ cl ∷ se ∷ []) (λ n rest. (_, invoke empty empty absent)) word.Invoke _ (λ k us at1.
    a-name SpellsInvoke _ _ _ at1 (nm ∷ inp ∷ op ∷ cl ∷ outp ∷ op ∷ cl ∷ se ∷ []) (λ n rest. (_, invoke empty empty absent)) _ (λ n m vs at2.
    a-word SpellsInvoke _ _ _ at2 (inp ∷ op ∷ cl ∷ outp ∷ op ∷ cl ∷ se ∷ []) (λ n rest. (_, invoke empty empty absent)) word.Input _ (λ i ws at3.
    part (SpellsList SpellsEnd) SpellsInvoke _ _ _ at3 (outp ∷ op ∷ cl ∷ se ∷ []) (λ other a n rest s. (_, invoke s empty absent)) _ (list_at end_at ws) (list-tells SpellsEnd end_at end-tells ws) (λ reads xs g at4 sr.
    a-word SpellsInvoke _ _ _ at4 (outp ∷ op ∷ cl ∷ se ∷ []) (λ n rest. (_, invoke (sr _) empty absent)) word.Output _ (λ j ys at5.
    part (SpellsList SpellsEnd) SpellsInvoke _ _ _ at5 (se ∷ []) (λ other a n rest s. (_, invoke (sr _) s absent)) _ (list_at end_at ys) (list-tells SpellsEnd end_at end-tells ys) (λ writes zs h at6 sw.
    part (SpellsClause word.Parent) SpellsInvoke _ _ _ at6 (se ∷ []) (λ other a n rest s. (_, invoke (sr _) (sw _) s)) _ (clause_at word.Parent zs) (clause-tells word.Parent zs) (λ p qs l at7 sp.
    a-sign SpellsInvoke _ _ _ at7 (se ∷ []) (λ n rest. (_, invoke (sr _) (sw _) (sp _))) sign.Semicolon _ (λ r rest at8. record { f = _; fronts = at8; spells = λ o. invoke (sr _) (sw _) (sp _) }))))))))
