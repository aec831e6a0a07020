-- Reading communicators, tasks and switches stops where no token fits.
use Rattle.std.proofs.Common.{arith, ◌≡◌, ◌<◌, ◌+◌, ℕ, ℤ, pos, Bool, true, false, List, [], ◌∷◌, length, refl, sym, subst}
use Rattle.htl_parse.proofs.Words.{Ty, Placed, Put, Expr, Spells, Or, PlainOut, PlainOuts, Concrete, Abstract, SpellsType, int, SpellsConst, true_word, SpellsParam, SpellsOut, SpellsComm, communicator, sensor, SpellsTask, concrete, abstract_task, SpellsSwitch, switch, SpellsList, empty, Token, ParamNode, ConstNode, place_at, type_at, const_at, read_expr, list_at}
use Rattle.htl_text.specs.declared.token.Token.TheVariants as token
use Rattle.htl_text.specs.declared.token.Sign.TheVariants as sign
use Rattle.htl_text.specs.declared.token.Word.TheVariants as word
use Rattle.htl_parse.specs.ReadingStatements.{param_at, out_at, kind_at, comm_at, outputs_at, task_by, task_at, switch_at}
use Rattle.htl_parse.proofs.{Complete.shorter, ViableExpressions.read_expr-tells, ViableExpressions.some, ViableLists.list-tells}
use Rattle.htl_parse.proofs.ViableParts.{type-tells, const-tells, param-tells, out-tells, place-same}
use Rattle.htl_parse.proofs.Fronts.{Fronts, fronts-none, fronts-token, Tells, part, part-front, stops-here, a-sign, a-word, a-name, a-number, one-token}

-- the word of a communicator, or of a sensor, which is true
abbrev IsKind : List Placed → Bool → List Placed → Type 0
IsKind ts false rest = (k : ℕ) × (ts ≡ Put k (token.Word word.Communicator) ∷ rest)
IsKind ts true rest = (k : ℕ) × (ts ≡ Put k (token.Word word.Sensor) ∷ rest)

kind-tells : (ts : List Placed) → Tells IsKind ts (kind_at ts)
kind-tells (Put k (token.Word word.Communicator) ∷ ts) = one-token IsKind _ ts false (λ o. (k, refl))
kind-tells (Put k (token.Word word.Sensor) ∷ ts) = one-token IsKind _ ts true (λ o. (k, refl))
kind-tells ts = stops-here IsKind (λ o. o) ts ts (fronts-none ts) (token.Word word.Communicator ∷ []) (λ n rest. (false, (n, refl)))

comm-by : (b : Bool) {ts us vs rest : List Placed} {t : Ty} {n : List ℕ} {x : ℤ} {c : ConstNode} {m p q i s : ℕ} → IsKind ts b us
    → SpellsType us t (Put m (token.Ident n) ∷ Put p (token.Word word.Period) ∷ Put q (token.Number x) ∷ Put i (token.Word word.Init) ∷ vs)
    → SpellsConst vs c (Put s (token.Sign sign.Semicolon) ∷ rest)
    → SpellsComm ts (record { sensor = b; ty = t; name = record { name = n; token = m }; period = record { x = x; token = q }; init = c }) rest
comm-by false {ts} {us} {vs} {rest} {t} {n} {x} {c} {m} {p} {q} {i} {s} kd st sc =
    subst (λ (l : List Placed). SpellsComm l (record { sensor = false; ty = t; name = record { name = n; token = m }; period = record { x = x; token = q }; init = c }) rest) (sym kd.1) (communicator st sc)
comm-by true {ts} {us} {vs} {rest} {t} {n} {x} {c} {m} {p} {q} {i} {s} kd st sc =
    subst (λ (l : List Placed). SpellsComm l (record { sensor = true; ty = t; name = record { name = n; token = m }; period = record { x = x; token = q }; init = c }) rest) (sym kd.1) (sensor st sc)

pub comm-tells : (ts : List Placed) → Tells SpellsComm ts (comm_at ts)
unfolding comm_at
comm-tells ts =
    let ty : Token = token.Word word.Int in
    let nm : Token = token.Ident (80 ∷ []) in
    let pe : Token = token.Word word.Period in
    let nu : Token = token.Number (pos 0) in
    let ini : Token = token.Word word.Init in
    let co : Token = token.Word word.True in
    let se : Token = token.Sign sign.Semicolon in
    part IsKind SpellsComm _ _ _ (fronts-none ts) (ty ∷ nm ∷ pe ∷ nu ∷ ini ∷ co ∷ se ∷ []) (λ other b n rest s. (_, comm-by b s int true_word)) _ (kind_at ts) (kind-tells ts) (λ b us g at1 sk.
    part SpellsType SpellsComm _ _ _ at1 (nm ∷ pe ∷ nu ∷ ini ∷ co ∷ se ∷ []) (λ other a n rest s. (_, comm-by b (sk _) s true_word)) _ (type_at us) (type-tells us) (λ t vs h at2 st.
    a-name SpellsComm _ _ _ at2 (nm ∷ pe ∷ nu ∷ ini ∷ co ∷ se ∷ []) (λ n rest. (_, comm-by b (sk _) (st _) true_word)) _ (λ n m ws at3.
    a-word SpellsComm _ _ _ at3 (pe ∷ nu ∷ ini ∷ co ∷ se ∷ []) (λ n rest. (_, comm-by b (sk _) (st _) true_word)) word.Period _ (λ p xs at4.
    a-number SpellsComm _ _ _ at4 (nu ∷ ini ∷ co ∷ se ∷ []) (λ n rest. (_, comm-by b (sk _) (st _) true_word)) _ (λ x q ys at5.
    a-word SpellsComm _ _ _ at5 (ini ∷ co ∷ se ∷ []) (λ n rest. (_, comm-by b (sk _) (st _) true_word)) word.Init _ (λ i zs at6.
    part SpellsConst SpellsComm _ _ _ at6 (se ∷ []) (λ other a n rest s. (_, comm-by b (sk _) (st _) s)) _ (const_at zs) (const-tells zs) (λ c p1 l at7 sc.
    a-sign SpellsComm _ _ _ at7 (se ∷ []) (λ n rest. (_, comm-by b (sk _) (st _) (sc _))) sign.Semicolon _ (λ j rest last. record { f = _; fronts = last; spells = λ o. comm-by b (sk _) (st _) (sc _) }))))))))

-- the outputs of a task with code, or of an abstract one
data IsOuts : Bool → List Placed → PlainOuts → List Placed → Type 0 where
  coded : {ts : List Placed} {xs : List PlainOut} {rest : List Placed} → SpellsList SpellsOut ts xs rest → IsOuts false ts (Concrete xs) rest
  bare : {ts : List Placed} {xs : List ParamNode} {rest : List Placed} → SpellsList SpellsParam ts xs rest → IsOuts true ts (Abstract xs) rest

outs-tells : (b : Bool) (ts : List Placed) → Tells (IsOuts b) ts (outputs_at b ts)
outs-tells false ts =
    part (SpellsList SpellsOut) (IsOuts false) _ _ _ (fronts-none ts) [] (λ other a n rest s. (Concrete a, coded s)) _ (list_at out_at ts) (list-tells SpellsOut out_at out-tells ts) (λ xs rest g at s. record { f = _; fronts = at; spells = λ o. coded (s o) })
outs-tells true ts =
    part (SpellsList SpellsParam) (IsOuts true) _ _ _ (fronts-none ts) [] (λ other a n rest s. (Abstract a, bare s)) _ (list_at param_at ts) (list-tells SpellsParam param_at param-tells ts) (λ xs rest g at s. record { f = _; fronts = at; spells = λ o. bare (s o) })

no-outs : (b : Bool) → PlainOuts
no-outs false = Concrete []
no-outs true = Abstract []

empty-outs : (b : Bool) {k m : ℕ} {rest : List Placed} → IsOuts b (Put k (token.Sign sign.OpenParen) ∷ Put m (token.Sign sign.CloseParen) ∷ rest) (no-outs b) rest
unfolding no-outs
empty-outs false = coded empty
empty-outs true = bare empty

-- before the word "task": nothing, or "abstract"
abbrev Leads : Bool → ℕ → List Placed → List Placed
Leads false a o = o
Leads true a o = Put a (token.Word word.Abstract) ∷ o

task-make : (b : Bool) (a k i : ℕ) {ts us rest : List Placed} {n : List ℕ} {ins : List ParamNode} (outs : PlainOuts) {x : ℤ} {m o w q s : ℕ}
    → SpellsList SpellsParam ts ins (Put o (token.Word word.Output) ∷ us)
    → IsOuts b us outs (Put w (token.Word word.Worst) ∷ Put q (token.Number x) ∷ Put s (token.Sign sign.Semicolon) ∷ rest)
    → SpellsTask (Leads b a (Put k (token.Word word.Task) ∷ Put m (token.Ident n) ∷ Put i (token.Word word.Input) ∷ ts))
    (record { name = record { name = n; token = m }; inputs = ins; outputs = outs; worst = record { x = x; token = q } }) rest
task-make _ a k i _ si (coded so) = concrete si so
task-make _ a k i _ si (bare so) = abstract_task si so

task_by-tells : (b : Bool) (a : ℕ) (ts us : List Placed) → Fronts (Leads b a) ts us → Tells SpellsTask ts (task_by b us)
unfolding task_by
task_by-tells b a ts us at =
    let tw : Token = token.Word word.Task in
    let nm : Token = token.Ident (80 ∷ []) in
    let inp : Token = token.Word word.Input in
    let outp : Token = token.Word word.Output in
    let op : Token = token.Sign sign.OpenParen in
    let cl : Token = token.Sign sign.CloseParen in
    let wo : Token = token.Word word.Worst in
    let nu : Token = token.Number (pos 0) in
    let se : Token = token.Sign sign.Semicolon in
    a-word SpellsTask (Leads b a) _ _ at (tw ∷ nm ∷ inp ∷ op ∷ cl ∷ outp ∷ op ∷ cl ∷ wo ∷ nu ∷ se ∷ []) (λ n rest. (_, task-make b a n (n + 1 + 1) (no-outs b) empty (empty-outs b))) word.Task _ (λ k us at1.
    a-name SpellsTask _ _ _ at1 (nm ∷ inp ∷ op ∷ cl ∷ outp ∷ op ∷ cl ∷ wo ∷ nu ∷ se ∷ []) (λ n rest. (_, task-make b a k (n + 1) (no-outs b) empty (empty-outs b))) _ (λ n m vs at2.
    a-word SpellsTask _ _ _ at2 (inp ∷ op ∷ cl ∷ outp ∷ op ∷ cl ∷ wo ∷ nu ∷ se ∷ []) (λ n rest. (_, task-make b a k n (no-outs b) empty (empty-outs b))) word.Input _ (λ i ws at3.
    part (SpellsList SpellsParam) SpellsTask _ _ _ at3 (outp ∷ op ∷ cl ∷ wo ∷ nu ∷ se ∷ []) (λ other a1 n rest s. (_, task-make b a k i (no-outs b) s (empty-outs b))) _ (list_at param_at ws) (list-tells SpellsParam param_at param-tells ws) (λ ins xs g at4 si.
    a-word SpellsTask _ _ _ at4 (outp ∷ op ∷ cl ∷ wo ∷ nu ∷ se ∷ []) (λ n rest. (_, task-make b a k i (no-outs b) (si _) (empty-outs b))) word.Output _ (λ j ys at5.
    part (IsOuts b) SpellsTask _ _ _ at5 (wo ∷ nu ∷ se ∷ []) (λ other os n rest s. (_, task-make b a k i os (si _) s)) _ (outputs_at b ys) (outs-tells b ys) (λ outs zs h at6 so.
    a-word SpellsTask _ _ _ at6 (wo ∷ nu ∷ se ∷ []) (λ n rest. (_, task-make b a k i outs (si _) (so _))) word.Worst _ (λ w p1 at7.
    a-number SpellsTask _ _ _ at7 (nu ∷ se ∷ []) (λ n rest. (_, task-make b a k i outs (si _) (so _))) _ (λ x q p2 at8.
    a-sign SpellsTask _ _ _ at8 (se ∷ []) (λ n rest. (_, task-make b a k i outs (si _) (so _))) sign.Semicolon _ (λ s rest last. record { f = _; fronts = last; spells = λ o. task-make b a k i outs (si _) (so _) })))))))))

pub task-tells : (ts : List Placed) → Tells SpellsTask ts (task_at ts)
task-tells (Put a (token.Word word.Abstract) ∷ ts) = task_by-tells true a (Put a (token.Word word.Abstract) ∷ ts) ts (fronts-token (Put a (token.Word word.Abstract)) _ ts refl)
task-tells ts = task_by-tells false 0 ts ts (fronts-none ts)

switch-by : (us : List Placed) (e : Expr) {n : List ℕ} {k o c m d s : ℕ} {rest : List Placed}
    → Spells Or us e (Put c (token.Sign sign.Comma) ∷ Put m (token.Ident n) ∷ Put d (token.Sign sign.CloseParen) ∷ Put s (token.Sign sign.Semicolon) ∷ rest)
    → SpellsSwitch (Put k (token.Word word.Switch) ∷ Put o (token.Sign sign.OpenParen) ∷ us) (record { first = place_at us; cond = e; target = record { name = n; token = m } }) rest
switch-by [] e {n} {k} {o} {c} {m} {d} {s} {rest} se =
    let less : length (Put c (token.Sign sign.Comma) ∷ Put m (token.Ident n) ∷ Put d (token.Sign sign.CloseParen) ∷ Put s (token.Sign sign.Semicolon) ∷ rest) < 0 = shorter se in absurd (omega (arith, less))
switch-by (Put first t ∷ us) e se = switch se

pub switch-tells : (ts : List Placed) → Tells SpellsSwitch ts (switch_at ts)
unfolding switch_at
switch-tells ts =
    let sw : Token = token.Word word.Switch in
    let op : Token = token.Sign sign.OpenParen in
    let yes : Token = token.Word word.True in
    let co : Token = token.Sign sign.Comma in
    let nm : Token = token.Ident (80 ∷ []) in
    let cl : Token = token.Sign sign.CloseParen in
    let se : Token = token.Sign sign.Semicolon in
    a-word SpellsSwitch _ _ _ (fronts-none ts) (sw ∷ op ∷ yes ∷ co ∷ nm ∷ cl ∷ se ∷ []) (λ n rest. (_, switch (some _ _))) word.Switch _ (λ k us at1.
    a-sign SpellsSwitch _ _ _ at1 (op ∷ yes ∷ co ∷ nm ∷ cl ∷ se ∷ []) (λ n rest. (_, switch (some _ _))) sign.OpenParen _ (λ i vs at2.
    part-front (Spells Or) SpellsSwitch _ _ _ at2 (co ∷ nm ∷ cl ∷ se ∷ []) (λ other e n rest s. (_, switch-by other e s)) _ (read_expr vs) (read_expr-tells vs) (λ e ws g at3 here sx.
    a-sign SpellsSwitch _ _ _ at3 (co ∷ nm ∷ cl ∷ se ∷ []) (λ n rest. (_, switch-by _ e (sx _))) sign.Comma _ (λ c xs at4.
    a-name SpellsSwitch _ _ _ at4 (nm ∷ cl ∷ se ∷ []) (λ n rest. (_, switch-by _ e (sx _))) _ (λ n m ys at5.
    a-sign SpellsSwitch _ _ _ at5 (cl ∷ se ∷ []) (λ n rest. (_, switch-by _ e (sx _))) sign.CloseParen _ (λ d zs at6.
    a-sign SpellsSwitch _ _ _ at6 (se ∷ []) (λ n rest. (_, switch-by _ e (sx _))) sign.Semicolon _ (λ s rest last.
    record {
      f = _;
      fronts = last;
      spells = λ o.
          let behind : List Placed = Put c (token.Sign sign.Comma) ∷ Put m (token.Ident n) ∷ Put d (token.Sign sign.CloseParen) ∷ Put s (token.Sign sign.Semicolon) ∷ o in
          subst (λ (j : ℕ). SpellsSwitch (Put k (token.Word word.Switch) ∷ Put i (token.Sign sign.OpenParen) ∷ g behind) (record { first = j; cond = e; target = record { name = n; token = m } }) o)
          (place-same g vs ws here e sx behind) (switch-by (g behind) e (sx behind));
    })))))))
