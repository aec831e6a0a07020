-- One item more of the lists that are made for each invocation and for each task.
use Rattle.std.proofs.Common.{◌≡◌, ◌<◌, ◌+◌, ℕ, ℤ, suc, List, [], ◌∷◌, ◌++◌, Vec, Global, Some, length, map, take, get_or, ap, sym, ◌∙◌, arith}
use Rattle.htl_emach.proofs.Words.{map-append, map_more, slice_get-get_or, Inv, Task, list_to, function_count, count_at, count_before}

pub rows_more : (f : Inv → List ℤ) (rows after : List (Vec ℤ Global)) (row : Vec ℤ Global) (invs : List Inv) (k : ℕ) (d : Inv) → k < length invs → after ≡ rows ++ row ∷ [] → row.items ≡ f (get_or invs k d)
    → map (λ (r : Vec ℤ Global). r.items) rows ≡ map f (take k invs) → map (λ (r : Vec ℤ Global). r.items) after ≡ map f (take (k + 1) invs)
rows_more f rows after row invs k d less more is before =
    let items : Vec ℤ Global → List ℤ = λ r. r.items in
    ap (map items) more ∙ map-append items rows (row ∷ []) ∙ ap (λ xs. xs ++ row.items ∷ []) before ∙ ap (λ r. map f (take k invs) ++ r ∷ []) is ∙ sym (map_more f invs k d less)

pub sums_more : (ts : List Task) (k sum : ℕ) (list after : List ℕ) → after ≡ list ++ sum ∷ [] → list ≡ list_to (λ n. count_before n ts) k → sum ≡ count_before k ts
    → after ≡ list_to (λ n. count_before n ts) (k + 1)
sums_more ts k sum list after more before is =
    let next : suc k ≡ k + 1 = omega arith in
    more ∙ ap (λ xs. xs ++ sum ∷ []) before ∙ ap (λ (n : ℕ). list_to (λ n. count_before n ts) k ++ n ∷ []) is ∙ ap (list_to (λ n. count_before n ts)) next

pub count_more : (ts : List Task) (k sum count : ℕ) (x : Task) → k < length ts → x ≡ get_or ts k x → count ≡ function_count x → sum ≡ count_before k ts → sum + count ≡ count_before (k + 1) ts
count_more ts k sum count x less at is before =
    let next : suc k ≡ k + 1 = omega arith in
    let here = ap count_at (slice_get-get_or ts k x less ∙ ap (λ (y : Task). Some y) (sym at)) in
    let one : sum + count ≡ count_before (suc k) ts = omega (arith, before, is, here) in
    one ∙ ap (λ (n : ℕ). count_before n ts) next
