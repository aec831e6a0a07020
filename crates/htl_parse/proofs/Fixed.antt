-- Reading needs no bound: an expression is what one level reads over expressions.
use Rattle.std.proofs.Common.{arith, ◌≡◌, ◌≤◌, ◌<◌, ℕ, zero, suc, Bool, true, false, cond, List, [], ◌∷◌, length, Option, None, Some, Result, Ok, Err, refl, ap, ◌∙◌}
use Rattle.htl_base.specs.declared.operator.UnOp.TheVariants as un
use Rattle.htl_parse.proofs.Words.{BinOp, Placed, Put, Expr, Prefix, Infix, Level, Or, And, Compare, Sum, Product, Unary, Spells, sign_code, or_of, and_of, compare_of, sum_of, product_of, Sign}
use Rattle.std.specs.Prelude.{◌==◌}
use Rattle.htl_parse.specs.Reading.{Read, Reader, ◌>>=◌, after_sign}
use Rattle.htl_parse.specs.ReadingExpressions.{bracketed, chosen, atom_by, unary_by, grown, tail, further, chain, compared, product_by, sum_by, compare_by, and_by, or_by, expr_at, read_expr}
use Rattle.htl_parse.proofs.{Complete.shorter, Fronts.Holds, Fronts.Less, Fronts.less-of}
use Rattle.htl_parse.proofs.ViableExpressions.{IsTelling, unary-tells, product-tells, sum-tells, compare-tells, and-tells, expr-tells}
use Rattle.htl_text.specs.declared.token.Token.TheVariants as token
use Rattle.htl_text.specs.declared.token.Sign.TheVariants as sign
use Rattle.htl_text.specs.declared.token.Word.TheVariants as word

pub shrinks : (level : Level) (f : Reader Expr) → IsTelling level f → Less f
shrinks level f tells = less-of (Spells level) f (λ ts x us s. shorter s) tells

sign-shrinks : (wanted : Sign) (ts : List Placed) → Holds (λ (us : List Placed). length us < length ts) (after_sign wanted ts)
sign-shrinks wanted (Put k (token.Sign s) ∷ ts) = elim (sign_code s == sign_code wanted) as (λ (b : Bool). Holds
    (λ (us : List Placed). length us < suc (length ts)) (cond b (Ok ts) (Err (Put k (token.Sign s) ∷ ts)))) [ true ↦ omega arith | false ↦ tt ]
sign-shrinks wanted ts = tt

pub bind-same : {A B : Type 0} (P : A → Type 0) (f g : A → Result B (List Placed)) (r s : Result A (List Placed)) → r ≡ s → Holds P r
    → ((x : A) → P x → f x ≡ g x) → (r >>= f) ≡ (s >>= g)
bind-same {A} {B} P f g r s same h each = by r h ∙ ap (λ (q : Result A (List Placed)). q >>= g) same
  where
    by : (q : Result A (List Placed)) → Holds P q → (q >>= f) ≡ (q >>= g)
    by (Ok x) h = each x h
    by (Err left) h = refl

-- the two read lists of at most k tokens alike
abbrev pub Agree : ℕ → Reader Expr → Reader Expr → Type 0
Agree k f g = (us : List Placed) → length us ≤ k → f us ≡ g us

module _ (k : ℕ) (next also : Reader Expr) (same : Agree k next also) (less : Less next) (ops : Sign → Option BinOp) where
  grown-same : (again more : Expr → Reader Expr) (place : ℕ) (l : Expr) (all us : List Placed) → length us ≤ k
      → ((e : Expr) (vs : List Placed) → length vs < length us → again e vs ≡ more e vs)
      → (o : Option BinOp) → grown again next place l all us o ≡ grown more also place l all us o
  grown-same again more place l all us fits each None = refl
  grown-same again more place l all us fits each (Some op) = bind-same _ _ _ (next us) (also us) (same us fits) (less us) (λ x h. each (Infix place op l x.0) x.1 h)

  tail-same : (n m : ℕ) (e : Expr) (us : List Placed) → length us ≤ n → length us ≤ m → length us ≤ suc k → tail next ops n e us ≡ tail also ops m e us
  tail-same (suc n) (suc m) e (Put p (token.Sign s) ∷ us) a b fits =
      grown-same (tail next ops n) (tail also ops m) p e (Put p (token.Sign s) ∷ us) us (omega (arith, fits))
      (λ f vs h. tail-same n m f vs (omega (arith, a, h)) (omega (arith, b, h)) (omega (arith, fits, h))) (ops s)
  tail-same zero (suc m) e (Put p (token.Sign s) ∷ us) a b fits = absurd (omega (arith, a))
  tail-same (suc n) zero e (Put p (token.Sign s) ∷ us) a b fits = absurd (omega (arith, b))
  tail-same n m e us a b fits = refl

  compared-same : (e : Expr) (us : List Placed) → length us ≤ suc k → compared next e us ≡ compared also e us
  compared-same e (Put p (token.Sign s) ∷ us) fits =
      grown-same (λ f vs. Ok (f, vs)) (λ f vs. Ok (f, vs)) p e (Put p (token.Sign s) ∷ us) us (omega (arith, fits)) (λ f vs h. refl) (compare_of s)
  compared-same e us fits = refl

chain-same : (k : ℕ) (next also : Reader Expr) (ops : Sign → Option BinOp) → Agree (suc k) next also → Less next → Agree (suc k) (chain next ops) (chain also ops)
chain-same k next also ops same less ts fits =
    bind-same _ _ _ (next ts) (also ts) (same ts fits) (less ts) (λ x h.
    tail-same k next also (λ us le. same us (omega (arith, le))) less ops (length x.1) (length x.1) x.0 x.1 (omega arith) (omega arith) (omega (arith, fits, h)))

module _ (k : ℕ) (f g : Reader Expr) (same : Agree k f g) (tells : IsTelling Or f) where
  bracketed-same : (ts : List Placed) → length ts ≤ k → bracketed f ts ≡ bracketed g ts
  bracketed-same ts fits = ap (λ (r : Read Expr). r >>= λ x. after_sign sign.CloseParen x.1 >>= λ rest. Ok (x.0, rest)) (same ts fits)

  chosen-same : (place : ℕ) (ts : List Placed) → length ts ≤ k → chosen f place ts ≡ chosen g place ts
  chosen-same place ts fits =
      bind-same _ _ _ (after_sign sign.OpenParen ts) (after_sign sign.OpenParen ts) refl (sign-shrinks sign.OpenParen ts) (λ us h1.
      bind-same _ _ _ (f us) (g us) (same us (omega (arith, fits, h1))) (shrinks Or f tells us) (λ c h2.
      bind-same _ _ _ (after_sign sign.Comma c.1) (after_sign sign.Comma c.1) refl (sign-shrinks sign.Comma c.1) (λ vs h3.
      bind-same _ _ _ (f vs) (g vs) (same vs (omega (arith, fits, h1, h2, h3))) (shrinks Or f tells vs) (λ a h4.
      bind-same _ _ _ (after_sign sign.Comma a.1) (after_sign sign.Comma a.1) refl (sign-shrinks sign.Comma a.1) (λ ws h5.
      bind-same _ _ _ (f ws) (g ws) (same ws (omega (arith, fits, h1, h2, h3, h4, h5))) (shrinks Or f tells ws) (λ b h6. refl))))))

  atom-same : Agree (suc k) (atom_by f) (atom_by g)
  atom-same (Put p (token.Sign sign.OpenParen) ∷ ts) fits = bracketed-same ts (omega (arith, fits))
  atom-same (Put p (token.Word word.If) ∷ ts) fits = chosen-same p ts (omega (arith, fits))
  atom-same ts fits = refl

  unary-same : Agree (suc k) (unary_by f) (unary_by g)
  unary-same (Put p (token.Sign sign.Minus) ∷ ts) fits = ap (λ (r : Read Expr). r >>= λ x. Ok (Prefix p un.Neg x.0, x.1)) (unary-same ts (omega (arith, fits)))
  unary-same (Put p (token.Sign sign.Not) ∷ ts) fits = ap (λ (r : Read Expr). r >>= λ x. Ok (Prefix p un.Not x.0, x.1)) (unary-same ts (omega (arith, fits)))
  unary-same ts fits = atom-same ts fits

  product-same : Agree (suc k) (product_by f) (product_by g)
  product-same = chain-same k (unary_by f) (unary_by g) product_of unary-same (shrinks Unary (unary_by f) (unary-tells f tells))

  sum-same : Agree (suc k) (sum_by f) (sum_by g)
  sum-same = chain-same k (product_by f) (product_by g) sum_of product-same (shrinks Product (product_by f) (product-tells f tells))

  compare-same : Agree (suc k) (compare_by f) (compare_by g)
  compare-same ts fits =
      let less : Less (sum_by f) = shrinks Sum (sum_by f) (sum-tells f tells) in
      bind-same _ _ _ (sum_by f ts) (sum_by g ts) (sum-same ts fits) (less ts)
      (λ x h. compared-same k (sum_by f) (sum_by g) (λ us le. sum-same us (omega (arith, le))) less compare_of x.0 x.1 (omega (arith, fits, h)))

  and-same : Agree (suc k) (and_by f) (and_by g)
  and-same = chain-same k (compare_by f) (compare_by g) and_of compare-same (shrinks Compare (compare_by f) (compare-tells f tells))

  or-same : Agree (suc k) (or_by f) (or_by g)
  or-same = chain-same k (and_by f) (and_by g) or_of and-same (shrinks And (and_by f) (and-tells f tells))

-- a larger bound changes nothing
pub expr-same : (n m : ℕ) (ts : List Placed) → length ts ≤ n → length ts ≤ m → expr_at n ts ≡ expr_at m ts
expr-same (suc n) (suc m) (t ∷ ts) a b =
    or-same (length ts) (expr_at n) (expr_at m) (λ us le. expr-same n m us (omega (arith, le, a)) (omega (arith, le, b))) (expr-tells n) (t ∷ ts) (omega arith)
expr-same zero (suc m) (t ∷ ts) a b = absurd (omega (arith, a))
expr-same (suc n) zero (t ∷ ts) a b = absurd (omega (arith, b))
expr-same n m ts a b = refl

pub read_expr-at : (n : ℕ) (ts : List Placed) → length ts ≤ n → read_expr ts ≡ expr_at n ts
unfolding read_expr
read_expr-at n ts fits = expr-same (length ts) n ts (omega arith) fits

pub read_expr-is : (ts : List Placed) → read_expr ts ≡ or_by read_expr ts
unfolding read_expr
read_expr-is [] = refl
read_expr-is (t ∷ ts) =
    or-same (length ts) (expr_at (length ts)) read_expr (λ us le. expr-same (length ts) (length us) us le (omega arith)) (expr-tells (length ts)) (t ∷ ts) (omega arith)

-- operators are read alike with each bound that is long enough
pub further-at : (next : Reader Expr) (ops : Sign → Option BinOp) → Less next → (n : ℕ) (e : Expr) (us : List Placed) → length us ≤ n
    → further next ops e us ≡ tail next ops n e us
further-at next ops less n e us fits = tail-same (length us) next next (λ vs le. refl) less ops (length us) n e us (omega arith) fits (omega arith)

-- one more operator, or none
pub further-is : (next : Reader Expr) (ops : Sign → Option BinOp) → Less next → (e : Expr) (k : ℕ) (s : Sign) (us : List Placed)
    → further next ops e (Put k (token.Sign s) ∷ us) ≡ grown (further next ops) next k e (Put k (token.Sign s) ∷ us) us (ops s)
further-is next ops less e k s us =
    grown-same (length us) next next (λ vs le. refl) less ops (tail next ops (length us)) (further next ops) k e (Put k (token.Sign s) ∷ us) us (omega arith)
    (λ f vs h. tail-same (length us) next next (λ ws le. refl) less ops (length us) (length vs) f vs (omega (arith, h)) (omega arith) (omega (arith, h))) (ops s)
