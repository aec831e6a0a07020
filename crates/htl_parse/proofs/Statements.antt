-- Parameters, outputs and ends: what is spelled so is read, and leaves less.
use Rattle.std.proofs.Common.{arith, ◌≡◌, ◌<◌, ℕ, List, ◌∷◌, length, Ok, Err, refl, ◌∙◌}
use Rattle.htl_parse.proofs.Words.{Ty, Placed, Put, Expr, Spells, Or, PlainOut, SpellsType, int, bool, SpellsList, SpellsParam, param, SpellsOut, out, SpellsEnd, comm_end, port_end, Read, read_expr, list_at, ParamNode, EndNode}
use Rattle.htl_parse.specs.ReadingStatements.{param_at, out_at, instance_at, port_end_at, end_at}
use Rattle.htl_parse.proofs.{Basics.type-complete, Complete.IsEnd, Complete.expr-complete, Complete.shorter, Fixed.read_expr-at, Listing.IsStop, Listing.list-complete, Listing.list-shorter}
use Rattle.htl_text.specs.declared.token.Token.TheVariants as token
use Rattle.htl_text.specs.declared.token.Sign.TheVariants as sign

-- an expression that no operator follows is read
pub read_expr-complete : {ts : List Placed} {e : Expr} {rest : List Placed} → Spells Or ts e rest → IsEnd rest → read_expr ts ≡ Ok (e, rest)
read_expr-complete {ts} {e} {rest} s stop = read_expr-at (length ts) ts (omega arith) ∙ expr-complete (length ts) s stop (omega arith)

pub param-complete : {ts : List Placed} {p : ParamNode} {rest : List Placed} → SpellsParam ts p rest → param_at ts ≡ Ok (p, rest)
unfolding param_at
param-complete (param {ts} {rest} {t} {k} {n} s) = rw (type-complete s)

pub type-shorter : {ts : List Placed} {t : Ty} {rest : List Placed} → SpellsType ts t rest → length rest < length ts
type-shorter int = omega arith
type-shorter bool = omega arith

pub param-shorter : (ts : List Placed) (p : ParamNode) (rest : List Placed) → SpellsParam ts p rest → length rest < length ts
param-shorter ts p rest (param s) = omega (arith, type-shorter s)

pub param-opens : (k : ℕ) (us : List Placed) (p : ParamNode) (rest : List Placed) → SpellsParam (Put k (token.Sign sign.CloseParen) ∷ us) p rest → ⊥
unfolding param_at
param-opens k us p rest s =
    let e : ◌≡◌ {A = Read ParamNode} (Err (Put k (token.Sign sign.CloseParen) ∷ us)) (Ok (p, rest)) = param-complete s in
    absurd cc

pub params-complete : {ts : List Placed} {xs : List ParamNode} {rest : List Placed} → SpellsList SpellsParam ts xs rest → list_at param_at ts ≡ Ok (xs, rest)
params-complete s = list-complete SpellsParam param_at param-shorter (λ ts x us s stop. param-complete s) param-opens s

pub params-shorter : {ts : List Placed} {xs : List ParamNode} {rest : List Placed} → SpellsList SpellsParam ts xs rest → length rest < length ts
params-shorter s = list-shorter SpellsParam param_at param-shorter s

-- no operator stands at a comma or a closing bracket
stop-end : (rest : List Placed) → IsStop rest → IsEnd rest
stop-end (Put k (token.Sign sign.Comma) ∷ us) stop = record { product = refl; sum = refl; compare = refl; and = refl; or = refl }
stop-end (Put k (token.Sign sign.CloseParen) ∷ us) stop = record { product = refl; sum = refl; compare = refl; and = refl; or = refl }
stop-end us stop = absurd stop

pub out-complete : (ts : List Placed) (o : PlainOut) (rest : List Placed) → SpellsOut ts o rest → IsStop rest → out_at ts ≡ Ok (o, rest)
unfolding out_at
out-complete _ _ _ (out {ts} {us} {rest} {p} {k} {first} {t} {e} sp se) stop =
    rw (param-complete sp, read_expr-complete se (stop-end rest stop))

pub out-shorter : (ts : List Placed) (o : PlainOut) (rest : List Placed) → SpellsOut ts o rest → length rest < length ts
out-shorter _ _ _ (out {ts} {us} {rest} {p} {k} {first} {t} {e} sp se) = omega (arith, param-shorter ts p (Put k (token.Sign sign.Assign) ∷ Put first t ∷ us) sp, shorter se)

out-opens : (k : ℕ) (us : List Placed) (o : PlainOut) (rest : List Placed) → SpellsOut (Put k (token.Sign sign.CloseParen) ∷ us) o rest → ⊥
out-opens j vs o others (out {ts} {us} {rest} {p} {k} {first} {t} {e} sp se) = param-opens j vs p (Put k (token.Sign sign.Assign) ∷ Put first t ∷ us) sp

pub outs-complete : {ts : List Placed} {xs : List PlainOut} {rest : List Placed} → SpellsList SpellsOut ts xs rest → list_at out_at ts ≡ Ok (xs, rest)
outs-complete s = list-complete SpellsOut out_at out-shorter out-complete out-opens s

pub outs-shorter : {ts : List Placed} {xs : List PlainOut} {rest : List Placed} → SpellsList SpellsOut ts xs rest → length rest < length ts
outs-shorter s = list-shorter SpellsOut out_at out-shorter s

pub end-complete : (ts : List Placed) (e : EndNode) (rest : List Placed) → SpellsEnd ts e rest → end_at ts ≡ Ok (e, rest)
unfolding instance_at port_end_at
end-complete ts e rest comm_end = refl
end-complete ts e rest port_end = refl

pub end-shorter : (ts : List Placed) (e : EndNode) (rest : List Placed) → SpellsEnd ts e rest → length rest < length ts
end-shorter ts e rest comm_end = omega arith
end-shorter ts e rest port_end = omega arith

end-opens : (k : ℕ) (us : List Placed) (e : EndNode) (rest : List Placed) → SpellsEnd (Put k (token.Sign sign.CloseParen) ∷ us) e rest → ⊥
unfolding instance_at port_end_at
end-opens k us e rest s =
    let e : ◌≡◌ {A = Read EndNode} (Err (Put k (token.Sign sign.CloseParen) ∷ us)) (Ok (e, rest)) = end-complete (Put k (token.Sign sign.CloseParen) ∷ us) e rest s in
    absurd cc

pub ends-complete : {ts : List Placed} {xs : List EndNode} {rest : List Placed} → SpellsList SpellsEnd ts xs rest → list_at end_at ts ≡ Ok (xs, rest)
ends-complete s = list-complete SpellsEnd end_at end-shorter (λ ts x us s stop. end-complete ts x us s) end-opens s

pub ends-shorter : {ts : List Placed} {xs : List EndNode} {rest : List Placed} → SpellsList SpellsEnd ts xs rest → length rest < length ts
ends-shorter s = list-shorter SpellsEnd end_at end-shorter s
