-- A chain read item by item.
use Rattle.std.proofs.Common.{◌≡◌, ℕ, suc, ◌+◌, ◌<◌, ◌≤◌, Bool, true, false, cond, eqb, List, [], ◌∷◌, ◌++◌, length, get_or, drop, drop-cons, add-one, map, Result, Ok, Err, refl, sym, ap, ◌∙◌}
use Rattle.htl_espell.proofs.Words.{Inv, End, Module, joined, numbered, places_from, IsStartOf, Tables, EInstr, EFault, meets, counts, ends_in, places_at, Requirement, Exactly, all_do, is_child, children, call_of, calls_of, release_of, releases, calls, bind, Reached, reach, IsOfMode, calls_of_mode, releases_of_mode, found_from_start, nothing_later, next_of, end_wants, call_wants, release_wants, child_wants}
use Rattle.htl_ecode.specs.declared.instr.EInstr.TheVariants as I

pub bind_twice : {A B C : Type 0} (r : Result A EFault) (f : A → Result B EFault) (g : B → Result C EFault) → bind (bind r f) g ≡ bind r (λ x. bind (f x) g)
bind_twice (Ok x) f g = refl
bind_twice (Err e) f g = refl

-- a chain, and then another
pub next_append : (code : List EInstr) (a : ℕ) (xs ys : List Requirement) → next_of code a (xs ++ ys) ≡ bind (next_of code a xs) (λ b. next_of code b ys)
next_append code a [] ys = refl
next_append code a (x ∷ xs) ys = by_first (reach code a x) (λ n. next_append code n xs ys)
  where
    by_first : (r : Result Reached EFault) → ((n : ℕ) → next_of code n (xs ++ ys) ≡ bind (next_of code n xs) (λ b. next_of code b ys)) →
        bind r (λ y. next_of code y.next (xs ++ ys)) ≡ bind (bind r (λ y. next_of code y.next xs)) (λ b. next_of code b ys)
    by_first (Ok y) ih = ih y.next
    by_first (Err e) ih = refl

module _ {A : Type 0} (f : ℕ × A → List Requirement) (code : List EInstr) (k : ℕ) (xs : List A) (x : A) (a : ℕ) (below : k < length xs) (at : x ≡ get_or xs k x) where
  -- the items from k on are the one at k and the rest
  items_cut : joined f (numbered k (drop k xs)) ≡ f (k, x) ++ joined f (numbered (k + 1) (drop (k + 1) xs))
  items_cut =
      ap (λ (zs : List A). joined f (numbered k zs)) (drop-cons xs k x below)
      ∙ ap (λ (z : A). f (k, z) ++ joined f (numbered (suc k) (drop (suc k) xs))) (sym at)
      ∙ ap (λ (n : ℕ). f (k, x) ++ joined f (numbered n (drop n xs))) (sym (add-one k))

  first_read : (r : Result ℕ EFault) → r ≡ next_of code a (f (k, x)) → next_of code a (joined f (numbered k (drop k xs))) ≡ bind r (λ b. next_of code b (joined f (numbered (k + 1) (drop (k + 1) xs))))
  first_read r is =
      ap (next_of code a) items_cut
      ∙ next_append code a (f (k, x)) (joined f (numbered (k + 1) (drop (k + 1) xs)))
      ∙ ap (λ (z : Result ℕ EFault). bind z (λ b. next_of code b (joined f (numbered (k + 1) (drop (k + 1) xs))))) (sym is)

  pub item_read : (b : ℕ) (whole : Result ℕ EFault) → Ok b ≡ next_of code a (f (k, x)) → next_of code a (joined f (numbered k (drop k xs))) ≡ whole →
      next_of code b (joined f (numbered (k + 1) (drop (k + 1) xs))) ≡ whole
  item_read b whole is going = sym (first_read (Ok b) is) ∙ going

  pub item_departs : (e : EFault) (whole : Result ℕ EFault) → Err e ≡ next_of code a (f (k, x)) → next_of code a (joined f (numbered k (drop k xs))) ≡ whole → Err e ≡ whole
  item_departs e whole is going = sym (first_read (Err e) is) ∙ going

-- ---- the parts of a block

do_append : (xs ys : List EInstr) → all_do (xs ++ ys) ≡ all_do xs ++ all_do ys
do_append [] ys = refl
do_append (x ∷ xs) ys = ap (λ zs. Exactly x ∷ zs) (do_append xs ys)

do_joined : {A : Type 0} (f : A → List EInstr) (xs : List A) → all_do (joined f xs) ≡ joined (λ x. all_do (f x)) xs
do_joined f [] = refl
do_joined f (x ∷ xs) = do_append (f x) (joined f xs) ∙ ap (λ zs. all_do (f x) ++ zs) (do_joined f xs)

ends_are : (t : Tables) (phase o i k : ℕ) (ends : List End) → all_do (map (call_of phase i) (places_at t o k ends)) ≡ joined (end_wants t phase o i) (numbered k ends)
ends_are t phase o i k [] = refl
ends_are t phase o i k (e ∷ ends) = by_test (meets t o e) (ends_are t phase o i (suc k) ends)
  where
    by_test : (b : Bool) → all_do (map (call_of phase i) (places_at t o (suc k) ends)) ≡ joined (end_wants t phase o i) (numbered (suc k) ends) →
        all_do (map (call_of phase i) (cond b (k ∷ places_at t o (suc k) ends) (places_at t o (suc k) ends))) ≡ cond b (Exactly (call_of phase i k) ∷ []) [] ++ joined (end_wants t phase o i) (numbered (suc k) ends)
    by_test true h = ap (λ zs. Exactly (call_of phase i k) ∷ zs) h
    by_test false h = h

pub inv_counted : (code : List EInstr) (t : Tables) (m phase o a : ℕ) (n : ℕ × Inv) (ends : List End) (r : Result ℕ EFault) → counts t m n.1 ≡ true → ends ≡ ends_in phase n.1 →
    r ≡ next_of code a (joined (end_wants t phase o n.0) (numbered 0 ends)) → r ≡ next_of code a (call_wants t m phase o n)
inv_counted code t m phase o a n ends r is ends_is e =
    e
    ∙ ap (λ es. next_of code a (joined (end_wants t phase o n.0) (numbered 0 es))) ends_is
    ∙ ap (next_of code a) (sym (ends_are t phase o n.0 0 (ends_in phase n.1)))
    ∙ sym (ap (λ b. next_of code a (all_do (cond b (map (call_of phase n.0) (places_at t o 0 (ends_in phase n.1))) []))) is)

-- in the phase of writes there are no releases
pub calls_read : (code : List EInstr) (t : Tables) (m phase o a : ℕ) (r : Result ℕ EFault) (b : Bool) → eqb phase 1 ≡ b → r ≡ next_of code a (joined (call_wants t m phase o) (numbered 0 t.invs)) →
    bind r (λ c. elim b as (λ _. Result ℕ EFault) [ true ↦ Ok c | false ↦ next_of code c (joined (release_wants t m o) (numbered 0 t.invs)) ]) ≡ next_of code a (all_do (calls t m phase o))
calls_read code t m phase o a r b is e =
    let front = joined (calls_of t m phase o) (numbered 0 t.invs) in
    let back : Bool → List EInstr = λ z. cond z [] (releases t m o) in
    ap (λ (z : Result ℕ EFault). bind z (λ c. elim b as (λ _. Result ℕ EFault) [ true ↦ Ok c | false ↦ next_of code c (joined (release_wants t m o) (numbered 0 t.invs)) ])) (e ∙ ap (next_of code a) (sym (do_joined (calls_of t m phase o) (numbered 0 t.invs))))
    ∙ by_phase b (next_of code a (all_do front))
    ∙ sym (next_append code a (all_do front) (all_do (back b)))
    ∙ ap (next_of code a) (sym (do_append front (back b)))
    ∙ ap (λ z. next_of code a (all_do (front ++ back z))) (sym is)
  where
    by_phase : (b : Bool) (r : Result ℕ EFault) → bind r (λ c. elim b as (λ _. Result ℕ EFault) [ true ↦ Ok c | false ↦ next_of code c (joined (release_wants t m o) (numbered 0 t.invs)) ]) ≡ bind r (λ c. next_of code c (all_do (cond b [] (releases t m o))))
    by_phase true (Ok c) = refl
    by_phase false (Ok c) = ap (next_of code c) (sym (do_joined (release_of t m o) (numbered 0 t.invs)))
    by_phase true (Err f) = refl
    by_phase false (Err f) = refl

-- ---- the invocations of a mode

pub calls_wanted_of_mode : (t : Tables) (m phase o : ℕ) → IsOfMode m (call_wants t m phase o)
calls_wanted_of_mode t m phase o k x e = ap (λ js. all_do js) (calls_of_mode t m phase o k x e)

pub releases_wanted_of_mode : (t : Tables) (m o : ℕ) → IsOfMode m (release_wants t m o)
releases_wanted_of_mode t m o k x e = ap (λ js. all_do js) (releases_of_mode t m o k x e)

-- nothing is read for invocations before those of the mode
pub read_from_start : (code : List EInstr) (a : ℕ) (t : Tables) (xs : List Inv) (m s : ℕ) (f : ℕ × Inv → List Requirement) → xs ≡ t.invs → IsOfMode m f → IsStartOf t m s →
    next_of code a (joined f (numbered s (drop s xs))) ≡ next_of code a (joined f (numbered 0 t.invs))
read_from_start code a t xs m s f is h start = ap (next_of code a) (found_from_start t xs m s f is h start)

-- nor for those behind
pub all_read : (code : List EInstr) (a : ℕ) (t : Tables) (xs : List Inv) (m e k : ℕ) (f : ℕ × Inv → List Requirement) (whole : Result ℕ EFault) → xs ≡ t.invs → IsOfMode m f → IsStartOf t (m + 1) e → e ≤ k →
    next_of code a (joined f (numbered k (drop k xs))) ≡ whole → Ok a ≡ whole
all_read code a t xs m e k f whole is h end past going = sym (ap (next_of code a) (nothing_later t xs m e k f is h end past)) ∙ going

-- ---- the modules of a refinement

children_from : (m k : ℕ) (modules : List Module) → all_do (map (λ j. I.Fork j) (places_from (is_child m) k modules)) ≡ joined (child_wants m) (numbered k modules)
children_from m k [] = refl
children_from m k (u ∷ modules) = by_test (is_child m u) (children_from m (suc k) modules)
  where
    by_test : (b : Bool) → all_do (map (λ j. I.Fork j) (places_from (is_child m) (suc k) modules)) ≡ joined (child_wants m) (numbered (suc k) modules) →
        all_do (map (λ j. I.Fork j) (cond b (k ∷ places_from (is_child m) (suc k) modules) (places_from (is_child m) (suc k) modules))) ≡ cond b (Exactly (I.Fork k) ∷ []) [] ++ joined (child_wants m) (numbered (suc k) modules)
    by_test true h = ap (λ zs. Exactly (I.Fork k) ∷ zs) h
    by_test false h = h

pub children_are : (t : Tables) (m : ℕ) → all_do (map (λ j. I.Fork j) (children t m)) ≡ joined (child_wants m) (numbered 0 t.modules)
children_are t m = children_from m 0 t.modules
