-- Reading expressions looks no further than to the token at which it stops.
use Rattle.std.proofs.Common.{arith, ◌≤◌, ℕ, zero, suc, List, ◌∷◌, length, Option, None, Some, Ok, Err, refl, inl, inr}
use Rattle.htl_base.specs.declared.operator.UnOp.TheVariants as un
use Rattle.htl_parse.proofs.Words.{BinOp, Placed, Put, Expr, Prefix, Infix, Choice, Or, And, Compare, Product, Unary, Spells, or_of, and_of, compare_of, sum_of, product_of, Sign, bracketed, chosen, atom_by, unary_by, grown, tail, further, chain, compared, product_by, sum_by, compare_by, and_by, or_by, expr_at}
use Rattle.htl_text.specs.declared.token.Token.TheVariants as token
use Rattle.htl_text.specs.declared.token.Sign.TheVariants as sign
use Rattle.htl_text.specs.declared.token.Word.TheVariants as word
use Rattle.htl_parse.specs.Reading.{Reader, ◌>>=◌, left_of}
use Rattle.htl_parse.proofs.{ViableExpressions.IsTelling, ViableExpressions.unary-tells, ViableExpressions.product-tells, ViableExpressions.compare-tells, ViableExpressions.and-tells, ViableExpressions.expr-tells, Fronts.Less}
use Rattle.htl_parse.proofs.Fixed.{shrinks, further-at}
use Rattle.htl_parse.proofs.Locality.{Alike, here, later, Both, Local, Begun, less-then, both-then, local-ok, local-err, local-by, local-bound, local-then, local-sign, tells-less}

bracketed-local : (nested : Reader Expr) → Local nested → Local (bracketed nested)
bracketed-local nested l = local-then nested _ l (λ e. local-sign sign.CloseParen _ (local-ok e))

chosen-local : (nested : Reader Expr) → Local nested → (k : ℕ) → Local (chosen nested k)
chosen-local nested l k =
    local-sign sign.OpenParen _ (local-then nested _ l (λ c.
    local-sign sign.Comma _ (local-then nested _ l (λ a.
    local-sign sign.Comma _ (local-then nested _ l (λ b.
    local-sign sign.CloseParen _ (local-ok (Choice k c a b))))))))

atom-local : (nested : Reader Expr) → Local nested → Local (atom_by nested)
atom-local nested l = local-by (atom_by nested) (omega arith) each
  where
    each : (p : Placed) → Begun p (λ (us : List Placed). atom_by nested (p ∷ us))
    each (Put j (token.Number x)) = inl (local-ok _)
    each (Put j (token.Word word.True)) = inl (local-ok _)
    each (Put j (token.Word word.False)) = inl (local-ok _)
    each (Put j (token.Ident n)) = inl (local-ok _)
    each (Put j (token.Sign sign.OpenParen)) = inl (bracketed-local nested l)
    each (Put j (token.Word word.If)) = inl (chosen-local nested l j)
    each p = inr (λ us. Err us, local-err, λ us. refl)

unary-less : (nested : Reader Expr) → IsTelling Or nested → (us : List Placed) → length (left_of (unary_by nested us)) ≤ length us
unary-less nested tells us = tells-less (Spells Unary) us (unary_by nested us) (unary-tells nested tells us)

module _ (nested : Reader Expr) (tells : IsTelling Or nested) (l : Local nested) where
  -- "-" or "!" has been read
  signed-less : (j : ℕ) (us : List Placed) → (neg : Expr → Expr) → length (left_of (unary_by nested us >>= λ x. Ok (neg x.0, x.1))) ≤ length us
  signed-less j us neg = less-then (unary_by nested us) (λ x. Ok (neg x.0, x.1)) (length us) (unary-less nested tells us) (λ x. omega arith)

  signed-same : (neg : Expr → Expr) (m k us vs : List Placed) → Both m k (unary_by nested us) (unary_by nested vs) → Both m k (unary_by nested us >>= λ x. Ok (neg x.0, x.1)) (unary_by nested vs >>= λ x. Ok (neg x.0, x.1))
  signed-same neg m k us vs both =
      both-then m k (unary_by nested us) (unary_by nested vs) (λ x. Ok (neg x.0, x.1)) (λ x. Ok (neg x.0, x.1)) (length us) (length vs) (unary-less nested tells us) (unary-less nested tells vs) both
      (λ x. omega arith) (λ x. omega arith) (λ a ws xs h1 h2 al. inl (refl, al))

  unary-same : (m k us vs : List Placed) → Alike m k us vs → Both m k (unary_by nested us) (unary_by nested vs)
  unary-same m k _ _ (here (Put j (token.Sign sign.Minus))) = inr (signed-less j m (λ e. Prefix j un.Neg e), signed-less j k (λ e. Prefix j un.Neg e))
  unary-same m k _ _ (later (Put j (token.Sign sign.Minus)) us vs al) = signed-same (λ e. Prefix j un.Neg e) m k us vs (unary-same m k us vs al)
  unary-same m k _ _ (here (Put j (token.Sign sign.Not))) = inr (signed-less j m (λ e. Prefix j un.Not e), signed-less j k (λ e. Prefix j un.Not e))
  unary-same m k _ _ (later (Put j (token.Sign sign.Not)) us vs al) = signed-same (λ e. Prefix j un.Not e) m k us vs (unary-same m k us vs al)
  unary-same m k _ _ (here p) = (atom-local nested l).same m k (p ∷ m) (p ∷ k) (here p)
  unary-same m k _ _ (later p us vs al) = (atom-local nested l).same m k (p ∷ us) (p ∷ vs) (later p us vs al)

  unary-local : Local (unary_by nested)
  unary-local = record { less = unary-less nested tells; same = unary-same }

module _ (next : Reader Expr) (l : Local next) where
  grown-local : (again : Expr → Reader Expr) → ((e : Expr) → Local (again e)) → (j : ℕ) (e : Expr) (p : Placed) (o : Option BinOp)
      → Begun p (λ (us : List Placed). grown again next j e (p ∷ us) us o)
  grown-local again each j e p None = inr (λ us. Ok (e, us), local-ok e, λ us. refl)
  grown-local again each j e p (Some op) = inl (local-then next _ l (λ r. each (Infix j op e r)))

  first-tail : (ops : Sign → Option BinOp) (n : ℕ) → ((e : Expr) → Local (tail next ops n e)) → (e : Expr) (p : Placed)
      → Begun p (λ (us : List Placed). tail next ops (suc n) e (p ∷ us))
  first-tail ops n each e (Put j (token.Sign s)) = grown-local (tail next ops n) each j e (Put j (token.Sign s)) (ops s)
  first-tail ops n each e p = inr (λ us. Ok (e, us), local-ok e, λ us. refl)

  tail-local : (ops : Sign → Option BinOp) (n : ℕ) (e : Expr) → Local (tail next ops n e)
  tail-local ops zero e = local-ok e
  tail-local ops (suc n) e = local-by (tail next ops (suc n) e) (omega arith) (first-tail ops n (tail-local ops n) e)

  chain-local : (ops : Sign → Option BinOp) → Less next → Local (chain next ops)
  chain-local ops less = local-then next _ l (λ e. local-bound (λ n. tail next ops n e) (further next ops e) (λ n us. further-at next ops less n e us)
      (λ n. tail-local ops n e))

  compared-local : (e : Expr) → Local (compared next e)
  compared-local e = local-by (compared next e) (omega arith) each
    where
      each : (p : Placed) → Begun p (λ (us : List Placed). compared next e (p ∷ us))
      each (Put j (token.Sign s)) = grown-local (λ f vs. Ok (f, vs)) local-ok j e (Put j (token.Sign s)) (compare_of s)
      each p = inr (λ us. Ok (e, us), local-ok e, λ us. refl)

pub or-local : (nested : Reader Expr) → IsTelling Or nested → Local nested → Local (or_by nested)
or-local nested tells l =
    let products : Local (product_by nested) = chain-local (unary_by nested) (unary-local nested tells l) product_of
    (shrinks Unary _ (unary-tells nested tells)) in
    let sums : Local (sum_by nested) = chain-local (product_by nested) products sum_of (shrinks Product _ (product-tells nested tells)) in
    let compares : Local (compare_by nested) = local-then (sum_by nested) _ sums (compared-local (sum_by nested) sums) in
    let ands : Local (and_by nested) = chain-local (compare_by nested) compares and_of (shrinks Compare _ (compare-tells nested tells)) in
    chain-local (and_by nested) ands or_of (shrinks And _ (and-tells nested tells))

pub expr-local : (n : ℕ) → Local (expr_at n)
expr-local zero = record { less = λ us. omega arith; same = λ m k us vs al. inl al }
expr-local (suc n) = or-local (expr_at n) (expr-tells n) (expr-local n)
