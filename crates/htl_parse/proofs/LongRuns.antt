-- From a token that ends a run on: where the next long run can stand.
use Rattle.std.proofs.Common.{arith, ◌≡◌, ◌≤◌, ◌<◌, ◌+◌, ◌-◌, ℕ, zero, suc, Bool, true, false, List, [], ◌∷◌, ◌++◌, length, take, drop, Some, refl, sym, subst, ap, ◌∙◌, length-append, length-take-le}
use Rattle.htl_parse.proofs.Words.{nat_lt, slice_get, nat_tests, drop-at, Token, ends_run, IsStatementRun, TellsEnd, IsLong, AreShort, IsFirstLong, take-append-drop, length-drop}

-- the tokens from a place on, and one before them
pub run-before : (ts : List Token) (begin place : ℕ) → begin < place → place ≤ begin + 513 → IsStatementRun (take (begin + 513 - place) (drop place ts)) → TellsEnd ts (place - 1) false
    → IsStatementRun (take (begin + 513 - (place - 1)) (drop (place - 1) ts))
run-before ts begin place above fits is one =
    let next : place - 1 + 1 ≡ place = omega (arith, above) in
    let more : suc (begin + 513 - place) ≡ begin + 513 - (place - 1) = omega (arith, above, fits) in
    let cut : drop (place - 1) ts ≡ one.t ∷ drop place ts =
    drop-at ts (place - 1) one.t one.is ∙ ap (λ (k : ℕ). one.t ∷ drop k ts) next in
    subst (λ (n : ℕ). IsStatementRun (take n (drop (place - 1) ts))) more
    (subst (λ (us : List Token). IsStatementRun (take (suc (begin + 513 - place)) us)) (sym cut) (one.tells, is))

-- each long run stands behind the first tokens
abbrev pub AreBehind : List Token → ℕ → Type 0
AreBehind ts begin = (j : ℕ) → IsLong ts j → begin + 512 ≤ j

-- no token of a run ends one
run-at : (front run rest : List Token) (p : ℕ) → length front ≤ p → p < length front + length run → IsStatementRun run → (t : Token)
    → slice_get (front ++ (run ++ rest)) p ≡ Some t → ends_run t ≡ false
run-at [] [] rest p from below is t at = absurd (omega (arith, below))
run-at [] (u ∷ us) rest zero from below is t at = let same : u ≡ t = cc in ap ends_run (sym same) ∙ is.0
run-at [] (u ∷ us) rest (suc p) from below is t at = run-at [] us rest p (omega arith) (omega (arith, below)) is.1 t at
run-at (u ∷ us) run rest zero from below is t at = absurd (omega (arith, from))
run-at (u ∷ us) run rest (suc p) from below is t at = run-at us run rest p (omega (arith, from)) (omega (arith, below)) is t at

-- a token that ends a run, no later than the first long run there could be, stands before each
pub behind-end : (ts : List Token) (begin p : ℕ) → AreBehind ts begin → p ≤ begin + 512 → TellsEnd ts p true → AreBehind ts (p + 1)
behind-end ts begin p behind fits ends = λ j long. by j long (nat_lt p (length long.front)) refl
  where
    by : (j : ℕ) → (long : IsLong ts j) → (b : Bool) → nat_lt p (length long.front) ≡ b → p + 1 + 512 ≤ j
    by j long true e = let before : p < length long.front = grind (arith, nat_tests, e) in omega (arith, before, long.last)
    by j long false e =
        let from : length long.front ≤ p = grind (arith, nat_tests, e) in
        let within = behind j long in
        let inside : ends_run ends.t ≡ false =
        run-at long.front long.run long.rest p from (omega (arith, within, fits, long.last, long.long)) long.is_run ends.t (ap (λ (us : List Token). slice_get us p) (sym long.cut) ∙ ends.is) in
        let clash : true ≡ false = sym ends.tells ∙ inside in
        absurd cc

pub long-here : (ts : List Token) (begin : ℕ) → begin + 512 < length ts → AreBehind ts begin → IsStatementRun (take 513 (drop begin ts)) → IsFirstLong ts (begin + 512)
long-here ts begin below behind is =
    let left = length-drop begin ts in
    record {
      long = record {
        front = take begin ts;
        run = take 513 (drop begin ts);
        rest = drop 513 (drop begin ts);
        cut = sym (take-append-drop begin ts) ∙ ap (λ (us : List Token). take begin ts ++ us) (sym (take-append-drop 513 (drop begin ts)));
        is_run = is;
        long = length-take-le 513 (drop begin ts) (omega (arith, left, below));
        last = let size = length-take-le begin ts (omega (arith, below)) in omega (arith, size);
      };
      first = λ j less long. let from = behind j long in omega (arith, from, less);
    }

pub none-long : (ts : List Token) (begin : ℕ) → length ts ≤ begin + 512 → AreBehind ts begin → AreShort ts
none-long ts begin few behind = λ j long.
    let from = behind j long in
    let one = length-append long.run long.rest in
    let all = ap length long.cut ∙ length-append long.front (long.run ++ long.rest) in
    omega (arith, from, few, long.last, long.long, one, all)
