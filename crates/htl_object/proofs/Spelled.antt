-- What is put at the end of bytes, piece by piece.
use Rattle.std.proofs.Common.{◌≡◌, ℕ, ◌+◌, suc, List, [], ◌∷◌, ◌++◌, map, length, get_or, All, Option, Some, refl, ap, sym, subst, ◌∙◌, append-nil, arith}
use Rattle.htl_object.proofs.Words.{flat_map, flat_map-append, All-append, All-cons, All-nil, slice_get-get_or, ECode, length-list_to, get_list_to, list_to, Fun, Formula, Compiled, fun_of, Function, Puts, anchors_bytes, AreAnchors, code_bytes, function_bytes, Is32, codes_of, anchors_of, Anchors}
use Rattle.htl_object.proofs.Appends.{appends, puts_same}

pub anchors_more : (f : ℕ → Anchors) (m : ℕ) (old mid new : Option (List ℕ)) → Puts (flat_map anchors_bytes (list_to f m)) old mid → Puts (anchors_bytes (f m)) mid new
    → Puts (flat_map anchors_bytes (list_to f (m + 1))) old new
anchors_more f m old mid new p q =
    let next : suc m ≡ m + 1 = omega arith in
    let one : anchors_bytes (f m) ≡ flat_map anchors_bytes (f m ∷ []) = sym (append-nil (anchors_bytes (f m))) in
    let all : flat_map anchors_bytes (list_to f m) ++ anchors_bytes (f m) ≡ flat_map anchors_bytes (list_to f (m + 1)) = (
    ap (λ (x : List ℕ). flat_map anchors_bytes (list_to f m) ++ x) one
    ∙ sym (flat_map-append anchors_bytes (list_to f m) (f m ∷ []))
    ∙ ap (λ (n : ℕ). flat_map anchors_bytes (list_to f n)) next) in
    puts_same _ _ old new all (appends (flat_map anchors_bytes (list_to f m)) (anchors_bytes (f m)) old mid new p q)

first_code : (g : Fun) (gs : List Fun) → function_bytes g ++ flat_map code_bytes (codes_of gs) ≡ flat_map code_bytes (codes_of (g ∷ gs))
first_code (Compiled c) gs = refl
first_code (Formula first e) gs = refl

pub functions_spelled : (fs : List Function) → flat_map (λ f. function_bytes (fun_of f)) fs ≡ flat_map code_bytes (codes_of (map fun_of fs))
functions_spelled [] = refl
functions_spelled (f ∷ fs) = ap (λ (x : List ℕ). function_bytes (fun_of f) ++ x) (functions_spelled fs) ∙ first_code (fun_of f) (map fun_of fs)

-- ---- what is put keeps its types

pub anchors_kept : (f : ℕ → Anchors) (m : ℕ) → All AreAnchors (list_to f m) → AreAnchors (f m) → All AreAnchors (list_to f (m + 1))
anchors_kept f m h one =
    let next : suc m ≡ m + 1 = omega arith in
    subst (λ (n : ℕ). All AreAnchors (list_to f n)) next (All-append AreAnchors (list_to f m) (f m ∷ []) h (All-cons AreAnchors (f m) [] one (All-nil AreAnchors)))

-- one list of addresses
addresses_kept : (e : ECode) (n : ℕ) (f : Anchors → ℕ) (xs : List ℕ) → ((k : ℕ) → f (anchors_of e k) ≡ get_or xs k 0) → ((a : Anchors) → AreAnchors a → Is32 (f a)) → length xs ≡ n
    → All AreAnchors (list_to (anchors_of e) n) → All Is32 xs
addresses_kept e n f xs at fits size h = λ k d less.
    let all : List Anchors = list_to (anchors_of e) n in
    let here : AreAnchors (get_or all k (anchors_of e k)) = h k (anchors_of e k) (omega (arith, less, size, length-list_to (anchors_of e) n)) in
    let is : get_or all k (anchors_of e k) ≡ anchors_of e k = get_list_to (anchors_of e) n k (anchors_of e k) (omega (arith, less, size)) in
    let wide : Is32 (f (anchors_of e k)) = fits (anchors_of e k) (subst AreAnchors is here) in
    let same : Some (get_or xs k d) ≡ Some (get_or xs k 0) = sym (slice_get-get_or xs k d less) ∙ slice_get-get_or xs k 0 less in
    let one : get_or xs k d ≡ get_or xs k 0 = cc in
    subst Is32 (at k ∙ sym one) wide

pub enter_kept : (e : ECode) (n : ℕ) → length e.enter ≡ n → All AreAnchors (list_to (anchors_of e) n) → All Is32 e.enter
enter_kept e n = addresses_kept e n (λ a. a.enter) e.enter (λ k. refl) (λ a h. h.enter)

pub begin_kept : (e : ECode) (n : ℕ) → length e.begin ≡ n → All AreAnchors (list_to (anchors_of e) n) → All Is32 e.begin
begin_kept e n = addresses_kept e n (λ a. a.begin) e.begin (λ k. refl) (λ a h. h.begin)

pub decide_kept : (e : ECode) (n : ℕ) → length e.decide ≡ n → All AreAnchors (list_to (anchors_of e) n) → All Is32 e.decide
decide_kept e n = addresses_kept e n (λ a. a.decide) e.decide (λ k. refl) (λ a h. h.decide)
