-- What is spelled so is read, where no operator follows that would go on.
use Rattle.std.proofs.Common.{arith, ◌≡◌, ◌≤◌, ◌<◌, ℕ, zero, suc, List, ◌∷◌, length, Option, None, Some, Ok, refl, ap, ◌∙◌}
use Rattle.htl_parse.proofs.Words.{UnOp, BinOp, Placed, Put, Expr, Prefix, Infix, Choice, Level, Or, And, Compare, Sum, Product, Unary, Atom, Spells, prefix_of, or_of, and_of, compare_of, sum_of, product_of, conj, or, cmp, and, sum, compare, prod, add, unary, multiply, atom, prefix, brackets, choice, atom_by, unary_by, grown, tail, further, chain, compared, product_by, sum_by, compare_by, and_by, or_by, expr_at, Sign}
use Rattle.htl_base.specs.declared.operator.UnOp.TheVariants as un
use Rattle.htl_parse.specs.Reading.{Read, Reader, ◌>>=◌, after_sign}
use Rattle.htl_text.specs.declared.token.Token.TheVariants as token
use Rattle.htl_text.specs.declared.token.Sign.TheVariants as sign

-- a spelling has at least one token
pub shorter : {level : Level} {ts : List Placed} {e : Expr} {rest : List Placed} → Spells level ts e rest → length rest < length ts
shorter (conj s) = shorter s
shorter (or l is r) = omega (arith, shorter l, shorter r)
shorter (cmp s) = shorter s
shorter (and l is r) = omega (arith, shorter l, shorter r)
shorter (sum s) = shorter s
shorter (compare l is r) = omega (arith, shorter l, shorter r)
shorter (prod s) = shorter s
shorter (add l is r) = omega (arith, shorter l, shorter r)
shorter (unary s) = shorter s
shorter (multiply l is r) = omega (arith, shorter l, shorter r)
shorter (atom s) = shorter s
shorter (prefix is s) = omega (arith, shorter s)
shorter (brackets s) = omega (arith, shorter s)
shorter (choice c a b) = omega (arith, shorter c, shorter a, shorter b)
shorter _ = omega arith

-- no operator of this kind stands next
abbrev pub IsFree : (Sign → Option BinOp) → List Placed → Type 0
IsFree ops (Put k (token.Sign s) ∷ us) = ops s ≡ None
IsFree ops us = Unit {0}

-- the signs of a level are no others
or-free : {op : BinOp} (s : Sign) → or_of s ≡ Some op → (product_of s ≡ None) × (sum_of s ≡ None) × (compare_of s ≡ None) × (and_of s ≡ None)
or-free sign.Or e = (refl, refl, refl, refl)
or-free s e = absurd cc

and-free : {op : BinOp} (s : Sign) → and_of s ≡ Some op → (product_of s ≡ None) × (sum_of s ≡ None) × (compare_of s ≡ None)
and-free sign.And e = (refl, refl, refl)
and-free s e = absurd cc

compare-free : {op : BinOp} (s : Sign) → compare_of s ≡ Some op → (product_of s ≡ None) × (sum_of s ≡ None)
compare-free sign.Less e = (refl, refl)
compare-free sign.LessEqual e = (refl, refl)
compare-free sign.Greater e = (refl, refl)
compare-free sign.GreaterEqual e = (refl, refl)
compare-free sign.Equal e = (refl, refl)
compare-free sign.NotEqual e = (refl, refl)
compare-free s e = absurd cc

sum-free : {op : BinOp} (s : Sign) → sum_of s ≡ Some op → product_of s ≡ None
sum-free sign.Plus e = refl
sum-free sign.Minus e = refl
sum-free s e = absurd cc

-- reading ts has come to e, and goes on with rest
abbrev pub Goes : Reader Expr → (Sign → Option BinOp) → Reader Expr → List Placed → Expr → List Placed → Type 0
Goes next ops read ts e rest = (m : ℕ) × (length rest ≤ m) × (read ts ≡ tail next ops m e rest)

module _ (next : Reader Expr) (ops : Sign → Option BinOp) where
  pub tail-done : (m : ℕ) (e : Expr) (us : List Placed) → IsFree ops us → tail next ops m e us ≡ Ok (e, us)
  tail-done (suc m) e (Put k (token.Sign s) ∷ us) free = ap (grown (tail next ops m) next k e (Put k (token.Sign s) ∷ us) us) free
  tail-done m e us free = refl

  done : (read : Reader Expr) (ts : List Placed) (e : Expr) (rest : List Placed) → Goes next ops read ts e rest → IsFree ops rest → read ts ≡ Ok (e, rest)
  done read ts e rest goes free = goes.2 ∙ tail-done goes.0 e rest free

  alone : (ts : List Placed) (e : Expr) (rest : List Placed) → next ts ≡ Ok (e, rest) → Goes next ops (chain next ops) ts e rest
  alone ts e rest is = (length rest, omega arith, ap (λ (r : Read Expr). r >>= λ x. further next ops x.0 x.1) is)

  more : (read : Reader Expr) (ts us : List Placed) (k : ℕ) (s : Sign) (op : BinOp) (l r : Expr) (rest : List Placed)
      → Goes next ops read ts l (Put k (token.Sign s) ∷ us) → ops s ≡ Some op → next us ≡ Ok (r, rest) → length rest ≤ length us
      → Goes next ops read ts (Infix k op l r) rest
  more read ts us k s op l r rest goes is right fits = by goes.0 goes.1 goes.2
    where
      by : (m : ℕ) → length (Put k (token.Sign s) ∷ us) ≤ m → read ts ≡ tail next ops m l (Put k (token.Sign s) ∷ us) → Goes next ops read ts (Infix k op l r) rest
      by zero below e = absurd (omega (arith, below))
      by (suc m) below e = (
        m,
        omega (arith, below, fits),
        e ∙ ap (grown (tail next ops m) next k l (Put k (token.Sign s) ∷ us) us) is ∙ ap (λ (x : Read Expr). x >>= λ y. tail next ops m (Infix k op l y.0) y.1) right,
      )

pub compared-done : (next : Reader Expr) (e : Expr) (us : List Placed) → IsFree compare_of us → compared next e us ≡ Ok (e, us)
compared-done next e (Put k (token.Sign s) ∷ us) free = ap (grown (λ f ts. Ok (f, ts)) next k e (Put k (token.Sign s) ∷ us) us) free
compared-done next e us free = refl

pub prefix-done : (nested : Reader Expr) (k : ℕ) (ts : List Placed) (e : Expr) (rest : List Placed) (op : UnOp) (s : Sign) → prefix_of s ≡ Some op
    → unary_by nested ts ≡ Ok (e, rest) → unary_by nested (Put k (token.Sign s) ∷ ts) ≡ Ok (Prefix k op e, rest)
prefix-done nested k ts e rest op sign.Minus is h =
    let same : un.Neg ≡ op = cc in
    ap (λ (r : Read Expr). r >>= λ x. Ok (Prefix k un.Neg x.0, x.1)) h ∙ ap (λ (o : UnOp). Ok (Prefix k o e, rest)) same
prefix-done nested k ts e rest op sign.Not is h =
    let same : un.Not ≡ op = cc in
    ap (λ (r : Read Expr). r >>= λ x. Ok (Prefix k un.Not x.0, x.1)) h ∙ ap (λ (o : UnOp). Ok (Prefix k o e, rest)) same
prefix-done nested k ts e rest op s is h = absurd cc

unary-atom : (nested : Reader Expr) (ts : List Placed) (x : Expr × List Placed) → atom_by nested ts ≡ Ok x → unary_by nested ts ≡ Ok x
unary-atom nested (Put k (token.Sign sign.Minus) ∷ ts) x h = absurd cc
unary-atom nested (Put k (token.Sign sign.Not) ∷ ts) x h = absurd cc
unary-atom nested ts x h = h

-- what reading with numbers up to n does
abbrev pub IsRead : Level → List Placed → Expr → List Placed → Type 0
IsRead Atom ts e rest = (n : ℕ) → length ts ≤ suc n → atom_by (expr_at n) ts ≡ Ok (e, rest)
IsRead Unary ts e rest = (n : ℕ) → length ts ≤ suc n → unary_by (expr_at n) ts ≡ Ok (e, rest)
IsRead Product ts e rest = (n : ℕ) → length ts ≤ suc n → Goes (unary_by (expr_at n)) product_of (product_by (expr_at n)) ts e rest
IsRead Sum ts e rest = (n : ℕ) → length ts ≤ suc n → IsFree product_of rest → Goes (product_by (expr_at n)) sum_of (sum_by (expr_at n)) ts e rest
IsRead Compare ts e rest = (n : ℕ) → length ts ≤ suc n → IsFree product_of rest → IsFree sum_of rest → IsFree compare_of rest → compare_by (expr_at n) ts ≡ Ok (e, rest)
IsRead And ts e rest =
    (n : ℕ) → length ts ≤ suc n → IsFree product_of rest → IsFree sum_of rest → IsFree compare_of rest
    → Goes (compare_by (expr_at n)) and_of (and_by (expr_at n)) ts e rest
IsRead Or ts e rest =
    (n : ℕ) → length ts ≤ suc n → IsFree product_of rest → IsFree sum_of rest → IsFree compare_of rest → IsFree and_of rest
    → Goes (and_by (expr_at n)) or_of (or_by (expr_at n)) ts e rest

-- a whole expression, where no operator follows
expr-done : (n : ℕ) (ts : List Placed) (e : Expr) (rest : List Placed) → length rest < length ts → IsRead Or ts e rest → length ts ≤ n
    → IsFree product_of rest → IsFree sum_of rest → IsFree compare_of rest → IsFree and_of rest → IsFree or_of rest → expr_at n ts ≡ Ok (e, rest)
expr-done zero ts e rest some is fits p q c a o = absurd (omega (arith, some, fits))
expr-done (suc n) ts e rest some is fits p q c a o = done (and_by (expr_at n)) or_of (or_by (expr_at n)) ts e rest (is n fits p q c a) o

pub complete : {level : Level} {ts : List Placed} {e : Expr} {rest : List Placed} → Spells level ts e rest → IsRead level ts e rest
complete (brackets {ts} {e} {rest} {k} {m} s) = λ n fits.
    ap (λ (r : Read Expr). r >>= λ x. after_sign sign.CloseParen x.1 >>= λ us. Ok (x.0, us))
    (expr-done n ts e (Put m (token.Sign sign.CloseParen) ∷ rest) (shorter s) (complete s) (omega (arith, fits)) refl refl refl refl refl)
complete (choice {ts} {us} {vs} {c} {a} {b} {rest} {k} {m} {n} {o} {p} sc sa sb) = λ i fits.
    ap (λ (r : Read Expr). r >>= λ c. after_sign sign.Comma c.1 >>= λ vs. expr_at i vs >>= λ a. after_sign sign.Comma a.1 >>= λ ws. expr_at i ws >>= λ b. after_sign sign.CloseParen b.1 >>= λ rest. Ok (Choice k c.0 a.0 b.0, rest))
    (expr-done i ts c (Put n (token.Sign sign.Comma) ∷ us) (shorter sc) (complete sc) (omega (arith, fits)) refl refl refl refl refl)
    ∙ ap (λ (r : Read Expr). r >>= λ a. after_sign sign.Comma a.1 >>= λ ws. expr_at i ws >>= λ b. after_sign sign.CloseParen b.1 >>= λ rest. Ok (Choice k c a.0 b.0, rest))
    (expr-done i us a (Put o (token.Sign sign.Comma) ∷ vs) (shorter sa) (complete sa) (omega (arith, fits, shorter sc)) refl refl refl refl refl)
    ∙ ap (λ (r : Read Expr). r >>= λ b. after_sign sign.CloseParen b.1 >>= λ rest. Ok (Choice k c a b.0, rest))
    (expr-done i vs b (Put p (token.Sign sign.CloseParen) ∷ rest) (shorter sb) (complete sb) (omega (arith, fits, shorter sc, shorter sa)) refl refl refl refl refl)
complete (atom {ts} {e} {rest} s) = λ n fits. unary-atom (expr_at n) ts (e, rest) (complete s n fits)
complete (prefix {ts} {e} {rest} {k} {s} {op} is u) = λ n fits. prefix-done (expr_at n) k ts e rest op s is (complete u n (omega (arith, fits)))
complete (unary {ts} {e} {rest} s) = λ n fits.
    alone (unary_by (expr_at n)) product_of ts e rest (complete s n fits)
complete (multiply {ts} {us} {l} {r} {rest} {k} {s} {op} sl is sr) = λ n fits.
    more (unary_by (expr_at n)) product_of (product_by (expr_at n)) ts us k s op l r rest (complete sl n fits) is
    (complete sr n (omega (arith, fits, shorter sl))) (omega (arith, shorter sr))
complete (prod {ts} {e} {rest} s) = λ n fits p.
    alone (product_by (expr_at n)) sum_of ts e rest
    (done (unary_by (expr_at n)) product_of (product_by (expr_at n)) ts e rest (complete s n fits) p)
complete (add {ts} {us} {l} {r} {rest} {k} {s} {op} sl is sr) = λ n fits p.
    more (product_by (expr_at n)) sum_of (sum_by (expr_at n)) ts us k s op l r rest (complete sl n fits (sum-free s is)) is
    (done (unary_by (expr_at n)) product_of (product_by (expr_at n)) us r rest (complete sr n (omega (arith, fits, shorter sl))) p) (omega (arith, shorter sr))
complete (sum {ts} {e} {rest} s) = λ n fits p q c.
    ap (λ (r : Read Expr). r >>= λ x. compared (sum_by (expr_at n)) x.0 x.1)
    (done (product_by (expr_at n)) sum_of (sum_by (expr_at n)) ts e rest (complete s n fits p) q)
    ∙ compared-done (sum_by (expr_at n)) e rest c
complete (compare {ts} {us} {l} {r} {rest} {k} {s} {op} sl is sr) = λ n fits p q c.
    let free = compare-free s is in
    ap (λ (r : Read Expr). r >>= λ x. compared (sum_by (expr_at n)) x.0 x.1)
    (done (product_by (expr_at n)) sum_of (sum_by (expr_at n)) ts l (Put k (token.Sign s) ∷ us) (complete sl n fits free.0) free.1)
    ∙ ap (grown (λ f vs. Ok (f, vs)) (sum_by (expr_at n)) k l (Put k (token.Sign s) ∷ us) us) is
    ∙ ap (λ (x : Read Expr). x >>= λ y. Ok (Infix k op l y.0, y.1))
    (done (product_by (expr_at n)) sum_of (sum_by (expr_at n)) us r rest (complete sr n (omega (arith, fits, shorter sl)) p) q)
complete (cmp {ts} {e} {rest} s) = λ n fits p q c.
    alone (compare_by (expr_at n)) and_of ts e rest (complete s n fits p q c)
complete (and {ts} {us} {l} {r} {rest} {k} {s} {op} sl is sr) = λ n fits p q c.
    let free = and-free s is in
    more (compare_by (expr_at n)) and_of (and_by (expr_at n)) ts us k s op l r rest (complete sl n fits free.0 free.1 free.2) is
    (complete sr n (omega (arith, fits, shorter sl)) p q c) (omega (arith, shorter sr))
complete (conj {ts} {e} {rest} s) = λ n fits p q c a.
    alone (and_by (expr_at n)) or_of ts e rest
    (done (compare_by (expr_at n)) and_of (and_by (expr_at n)) ts e rest (complete s n fits p q c) a)
complete (or {ts} {us} {l} {r} {rest} {k} {s} {op} sl is sr) = λ n fits p q c a.
    let free = or-free s is in
    more (and_by (expr_at n)) or_of (or_by (expr_at n)) ts us k s op l r rest (complete sl n fits free.0 free.1 free.2 free.3) is
    (done (compare_by (expr_at n)) and_of (and_by (expr_at n)) us r rest (complete sr n (omega (arith, fits, shorter sl)) p q c) a) (omega (arith, shorter sr))
complete _ = λ n fits. refl

-- no operator of any kind stands next
pub record IsEnd (rest : List Placed) : Type 0 where
  pub product : IsFree product_of rest
  pub sum : IsFree sum_of rest
  pub compare : IsFree compare_of rest
  pub and : IsFree and_of rest
  pub or : IsFree or_of rest

pub expr-complete : (n : ℕ) {ts : List Placed} {e : Expr} {rest : List Placed} → Spells Or ts e rest → IsEnd rest → length ts ≤ n → expr_at n ts ≡ Ok (e, rest)
expr-complete n {ts} {e} {rest} s end fits = expr-done n ts e rest (shorter s) (complete s) fits end.product end.sum end.compare end.and end.or
