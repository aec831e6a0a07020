-- Reading operands and the operators between them in one loop reads what each level does.
use Rattle.std.proofs.Common.{arith, ◌≡◌, ◌≤◌, ◌<◌, ◌+◌, ◌-◌, ℕ, zero, suc, Bool, true, false, cond, List, ◌∷◌, length, Option, None, Some, Result, Ok, Err, refl, sym, ap, subst, ◌∙◌, inl, inr}
use Rattle.std.specs.Prelude.{◌==◌, ◌⊎◌}
use Rattle.htl_parse.proofs.Words.{BinOp, Placed, Put, Expr, Infix, Node, or_of, and_of, sum_of, product_of, Sign, PassesBinary, Puts, Stop, level_of, operator_at, level_by, limit_behind, unary_by, product_by, sum_by, compare_by, and_by, further, grown, compared, read_expr}
use Rattle.htl_text.specs.declared.token.Token.TheVariants as token
use Rattle.htl_text.specs.declared.token.Sign.TheVariants as sign
use Rattle.htl_parse.specs.declared.stop.Stop.TheVariants as stop
use Rattle.htl_parse.specs.Reading.{Read, Reader, ◌>>=◌}
use Rattle.htl_parse.proofs.{Complete.IsFree, Complete.tail-done, Complete.compared-done, Fronts.Less, Fixed.further-is, Descent.unary-shrinks, Descent.product-shrinks, Descent.compare-shrinks, Descent.and-shrinks}

-- ---- one reader after another

then-then : {A B C : Type 0} (r : Result A (List Placed)) (f : A → Result B (List Placed)) (g : B → Result C (List Placed)) → ((r >>= f) >>= g) ≡ (r >>= λ x. f x >>= g)
then-then (Ok x) f g = refl
then-then (Err left) f g = refl

then-ok : {A : Type 0} (r : Read A) → (r >>= λ x. Ok (x.0, x.1)) ≡ r
then-ok (Ok x) = refl
then-ok (Err left) = refl

-- ---- the operators of the levels

operator-level : (l : ℕ) (s : Sign) (op : BinOp) → operator_at l s ≡ Some op → level_of s ≡ l
operator-level zero sign.Or op e = refl
operator-level (suc zero) sign.And op e = refl
operator-level (suc (suc zero)) sign.Less op e = refl
operator-level (suc (suc zero)) sign.LessEqual op e = refl
operator-level (suc (suc zero)) sign.Greater op e = refl
operator-level (suc (suc zero)) sign.GreaterEqual op e = refl
operator-level (suc (suc zero)) sign.Equal op e = refl
operator-level (suc (suc zero)) sign.NotEqual op e = refl
operator-level (suc (suc (suc zero))) sign.Plus op e = refl
operator-level (suc (suc (suc zero))) sign.Minus op e = refl
operator-level (suc (suc (suc (suc zero)))) sign.Star op e = refl
operator-level (suc (suc (suc (suc zero)))) sign.Slash op e = refl
operator-level (suc (suc (suc (suc zero)))) sign.Percent op e = refl
operator-level l s op e = absurd cc

operator-none : (l : ℕ) (s : Sign) → (level_of s ≡ l → ⊥) → operator_at l s ≡ None
operator-none l s other = by (operator_at l s) refl
  where
    by : (o : Option BinOp) → operator_at l s ≡ o → o ≡ None
    by None e = refl
    by (Some op) e = absurd (other (operator-level l s op e))

-- ---- one level

-- what follows an operand on a level
abbrev pub step : ℕ → Expr → Reader Expr
step zero e us = further (and_by read_expr) or_of e us
step (suc zero) e us = further (compare_by read_expr) and_of e us
step (suc (suc zero)) e us = compared (sum_by read_expr) e us
step (suc (suc (suc zero))) e us = further (product_by read_expr) sum_of e us
step (suc (suc (suc (suc zero)))) e us = further (unary_by read_expr) product_of e us
step n e us = Ok (e, us)

-- what follows an operator of a level and its right operand, on that level
abbrev pub after : ℕ → Expr → Reader Expr
after (suc (suc zero)) e us = Ok (e, us)
after l e us = step l e us

level-step : (l : ℕ) (ts : List Placed) → l < 5 → level_by read_expr l ts ≡ (level_by read_expr (suc l) ts >>= λ x. step l x.0 x.1)
level-step (suc (suc (suc (suc (suc n))))) ts below = absurd (omega (arith, below))
level-step _ ts below = refl

-- no operator of the level stands next
abbrev pub IsNoneOf : ℕ → List Placed → Type 0
IsNoneOf l us = IsFree (operator_at l) us

step-none : (l : ℕ) (e : Expr) (us : List Placed) → IsNoneOf l us → step l e us ≡ Ok (e, us)
step-none zero e us none = tail-done (and_by read_expr) or_of (length us) e us none
step-none (suc zero) e us none = tail-done (compare_by read_expr) and_of (length us) e us none
step-none (suc (suc zero)) e us none = compared-done (sum_by read_expr) e us none
step-none (suc (suc (suc zero))) e us none = tail-done (product_by read_expr) sum_of (length us) e us none
step-none (suc (suc (suc (suc zero)))) e us none = tail-done (unary_by read_expr) product_of (length us) e us none
step-none (suc (suc (suc (suc (suc n))))) e us none = refl

further-op : (next : Reader Expr) (ops : Sign → Option BinOp) → Less next → (e : Expr) (k : ℕ) (s : Sign) (us : List Placed) (op : BinOp) → ops s ≡ Some op
    → further next ops e (Put k (token.Sign s) ∷ us) ≡ (next us >>= λ x. further next ops (Infix k op e x.0) x.1)
further-op next ops shrinks e k s us op is =
    further-is next ops shrinks e k s us ∙ ap (grown (further next ops) next k e (Put k (token.Sign s) ∷ us) us) is

step-op : (l : ℕ) (e : Expr) (k : ℕ) (s : Sign) (us : List Placed) (op : BinOp) → operator_at l s ≡ Some op
    → step l e (Put k (token.Sign s) ∷ us) ≡ (level_by read_expr (suc l) us >>= λ x. after l (Infix k op e x.0) x.1)
step-op zero e k s us op is = further-op (and_by read_expr) or_of and-shrinks e k s us op is
step-op (suc zero) e k s us op is = further-op (compare_by read_expr) and_of compare-shrinks e k s us op is
step-op (suc (suc zero)) e k s us op is = ap (grown (λ f ts. Ok (f, ts)) (sum_by read_expr) k e (Put k (token.Sign s) ∷ us) us) is
step-op (suc (suc (suc zero))) e k s us op is = further-op (product_by read_expr) sum_of product-shrinks e k s us op is
step-op (suc (suc (suc (suc zero)))) e k s us op is = further-op (unary_by read_expr) product_of unary-shrinks e k s us op is
step-op (suc (suc (suc (suc (suc n))))) e k s us op is = absurd cc

-- ---- the levels from low on, in turn from low + d - 1 down to low

abbrev pub climb : ℕ → ℕ → Expr → Reader Expr
climb low zero e us = Ok (e, us)
climb low (suc d) e us = step (low + d) e us >>= λ x. climb low d x.0 x.1

climb-start : (low d : ℕ) (ts : List Placed) → low + d ≤ 5 → level_by read_expr low ts ≡ (level_by read_expr (low + d) ts >>= λ x. climb low d x.0 x.1)
climb-start low zero ts fits =
    let same : low + 0 ≡ low = omega arith in
    ap (λ (l : ℕ). level_by read_expr l ts) (sym same) ∙ sym (then-ok (level_by read_expr (low + 0) ts))
climb-start low (suc d) ts fits =
    let same : suc (low + d) ≡ low + suc d = omega arith in
    climb-start low d ts (omega (arith, fits))
    ∙ ap (λ (r : Read Expr). r >>= λ x. climb low d x.0 x.1) (level-step (low + d) ts (omega (arith, fits)))
    ∙ then-then (level_by read_expr (suc (low + d)) ts) (λ x. step (low + d) x.0 x.1) (λ x. climb low d x.0 x.1)
    ∙ ap (λ (l : ℕ). level_by read_expr l ts >>= λ x. climb low (suc d) x.0 x.1) same

-- levels of which no operator stands next are passed over
climb-none : (low m n : ℕ) (e : Expr) (us : List Placed) → ((l : ℕ) → low + m ≤ l → l < low + (m + n) → IsNoneOf l us) → climb low (m + n) e us ≡ climb low m e us
climb-none low m zero e us none = let same : m + 0 ≡ m = omega arith in ap (λ (d : ℕ). climb low d e us) same
climb-none low m (suc n) e us none =
    let same : m + suc n ≡ suc (m + n) = omega arith in
    ap (λ (d : ℕ). climb low d e us) same
    ∙ ap (λ (r : Read Expr). r >>= λ x. climb low (m + n) x.0 x.1) (step-none (low + (m + n)) e us (none (low + (m + n)) (omega arith) (omega (arith, same))))
    ∙ climb-none low m n e us (λ l from below. none l from (omega (arith, below)))

-- where an operator of the level stands next
climb-op : (low m : ℕ) (e : Expr) (k : ℕ) (s : Sign) (us : List Placed) (op : BinOp) → operator_at (low + m) s ≡ Some op
    → climb low (suc m) e (Put k (token.Sign s) ∷ us) ≡ (level_by read_expr (suc (low + m)) us >>= λ x. after (low + m) (Infix k op e x.0) x.1 >>= λ y. climb low m y.0 y.1)
climb-op low m e k s us op is =
    ap (λ (r : Read Expr). r >>= λ y. climb low m y.0 y.1) (step-op (low + m) e k s us op is)
    ∙ then-then (level_by read_expr (suc (low + m)) us) (λ x. after (low + m) (Infix k op e x.0) x.1) (λ y. climb low m y.0 y.1)

-- where the loop goes on behind an operator of a level and its right operand
after-climb : (low m l : ℕ) (f : Expr) (us : List Placed) → low + m ≡ l → l < 5
    → (d : ℕ) × (low + d ≡ limit_behind l) × ((after l f us >>= λ y. climb low m y.0 y.1) ≡ climb low d f us)
after-climb low m (suc (suc zero)) f us same below = (m, same, refl)
after-climb low m (suc (suc (suc (suc (suc n))))) f us same below = absurd (omega (arith, below))
after-climb low m _ f us same below = (suc m, omega (arith, same), ap (λ (l : ℕ). step l f us >>= λ y. climb low m y.0 y.1) (sym same))

-- ---- the loop

-- the loop of a level has come to e, and goes on with what is left, where operators of levels below limit may follow
pub record IsClimbing (low : ℕ) (old left : List Placed) (limit : ℕ) (e : Expr) : Type 0 where
  pub d : ℕ
  pub at : low + d ≡ limit
  pub below : limit ≤ 5
  pub reads : level_by read_expr low old ≡ climb low d e left
  pub less : length left < length old

pub climbing-start : (low : ℕ) (old left : List Placed) (e : Expr) → low ≤ 5 → unary_by read_expr old ≡ Ok (e, left) → length left < length old → IsClimbing low old left 5 e
climbing-start low old left e below reads less =
    let same : low + (5 - low) ≡ 5 = omega (arith, below) in
    record {
      d = 5 - low;
      at = same;
      below = omega arith;
      reads =
          climb-start low (5 - low) old (omega (arith, same))
          ∙ ap (λ (l : ℕ). level_by read_expr l old >>= λ x. climb low (5 - low) x.0 x.1) same
          ∙ ap (λ (r : Read Expr). r >>= λ x. climb low (5 - low) x.0 x.1) reads;
      less = less;
    }

module _ (low : ℕ) (old left : List Placed) (limit : ℕ) (e : Expr) (so : IsClimbing low old left limit e) where
  none-above : (k : ℕ) (s : Sign) (mid : List Placed) (level : ℕ) → left ≡ Put k (token.Sign s) ∷ mid → level_of s ≡ level → (l : ℕ) → suc level ≤ l → IsNoneOf l left
  none-above k s mid level is at l from =
      subst (IsNoneOf l) (sym is) (operator-none l s (λ same. absurd (omega (arith, same, at, from))))

  -- behind an operator a right operand is read, and then the loop goes on
  climbing-on : (mid : List Placed) (k level : ℕ) (op : BinOp) → PassesBinary low limit left mid (Some (k, level, op))
      → level_by read_expr low old
      ≡ (level_by read_expr (level + 1) mid >>= λ x. after level (Infix k op e x.0) x.1 >>= λ y. climb low (level - low) y.0 y.1)
  climbing-on mid k level op passes =
      let s = passes.0 in
      let at : level ≡ level_of s = passes.1 in
      let from : low ≤ level = passes.3 in
      let under : level < limit = passes.4 in
      let is : left ≡ Put k (token.Sign s) ∷ mid = passes.5 in
      let there = so.at in
      let m : ℕ = level - low in
      let n : ℕ = limit - suc level in
      let here : low + m ≡ level = omega (arith, from) in
      let tighter : suc level ≡ level + 1 = omega arith in
      let whole : so.d ≡ suc m + n = omega (arith, there, from, under) in
      so.reads
      ∙ ap (λ (d : ℕ). climb low d e left) whole
      ∙ climb-none low (suc m) n e left (λ l above under. none-above k s mid level is (sym at) l (omega (arith, above, here)))
      ∙ ap (climb low (suc m) e) is
      ∙ climb-op low m e k s mid op (subst (λ (l : ℕ). operator_at l s ≡ Some op) (sym here) passes.2)
      ∙ ap (λ (l : ℕ). level_by read_expr (suc l) mid >>= λ x. after l (Infix k op e x.0) x.1 >>= λ y. climb low m y.0 y.1) here
      ∙ ap (λ (l : ℕ). level_by read_expr l mid >>= λ x. after level (Infix k op e x.0) x.1 >>= λ y. climb low m y.0 y.1) tighter

  pub climbing-more : (mid new : List Placed) (k level : ℕ) (op : BinOp) (r f : Expr) → PassesBinary low limit left mid (Some (k, level, op))
      → level_by read_expr (level + 1) mid ≡ Ok (r, new) → length new < length mid → f ≡ Infix k op e r
      → IsClimbing low old new (limit_behind level) f
  climbing-more mid new k level op r f passes right less made =
      let from : low ≤ level = passes.3 in
      let under : level < limit = passes.4 in
      let is : left ≡ Put k (token.Sign passes.0) ∷ mid = passes.5 in
      let below = so.below in
      let m : ℕ = level - low in
      let here : low + m ≡ level = omega (arith, from) in
      let done = after-climb low m level f new here (omega (arith, under, below)) in
      record {
        d = done.0;
        at = done.1;
        below = limit-fits level (omega (arith, under, below));
        reads =
            climbing-on mid k level op passes
            ∙ ap (λ (q : Read Expr). q >>= λ x. after level (Infix k op e x.0) x.1 >>= λ y. climb low m y.0 y.1) right
            ∙ ap (λ (x : Expr). after level x new >>= λ y. climb low m y.0 y.1) (sym made)
            ∙ done.2;
        less = let longer : length left ≡ length (Put k (token.Sign passes.0) ∷ mid) = ap length is in let before = so.less in omega (arith, before, less, longer);
      }
    where
      limit-fits : (l : ℕ) → l < 5 → limit_behind l ≤ 5
      limit-fits l under = elim (l == 2) as (λ (b : Bool). cond b l (l + 1) ≤ 5) [ true ↦ omega (arith, under) | false ↦ omega (arith, under) ]

  -- where no right operand is read, nothing is
  pub climbing-stopped : (first one last two : List Node) (mid new : List Placed) (k level : ℕ) (op : BinOp) (stopped : Stop) → PassesBinary low limit left mid (Some (k, level, op))
      → Puts (Err stopped) first one new (level_by read_expr (level + 1) mid) → Puts (Err stopped) last two new (level_by read_expr low old)
  climbing-stopped first one last two mid new k level op stop.Syntax passes right =
      climbing-on mid k level op passes ∙ ap (λ (q : Read Expr). q >>= λ x. after level (Infix k op e x.0) x.1 >>= λ y. climb low (level - low) y.0 y.1) right
  climbing-stopped first one last two mid new k level op stop.Memory passes right = tt

  none-within : (us : List Placed) → ((k : ℕ) (s : Sign) (rest : List Placed) → us ≡ Put k (token.Sign s) ∷ rest → (level_of s < low) ⊎ (limit ≤ level_of s))
      → (l : ℕ) → low ≤ l → l < limit → IsNoneOf l us
  none-within (Put k (token.Sign s) ∷ us) outside l from under = operator-none l s (λ same. apart (outside k s us refl) same)
    where
      apart : (level_of s < low) ⊎ (limit ≤ level_of s) → level_of s ≡ l → ⊥
      apart (inl h) same = absurd (omega (arith, h, same, from))
      apart (inr h) same = absurd (omega (arith, h, same, under))
  none-within us outside l from under = tt

  pub climbing-done : (new : List Placed) → PassesBinary low limit left new None → level_by read_expr low old ≡ Ok (e, new)
  climbing-done new passes =
      let at = so.at in
      so.reads
      ∙ ap (λ (d : ℕ). climb low d e left) (omega arith)
      ∙ climb-none low 0 so.d e left (λ l from under. none-within left passes.1 l (omega (arith, from)) (omega (arith, under, at)))
      ∙ ap (λ (us : List Placed). Ok (e, us)) (sym passes.0)
