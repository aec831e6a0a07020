-- The functions of what is taken over, by where they stand in their own program.
use Rattle.std.proofs.Common.{◌≡◌, ◌≤◌, ◌<◌, ◌+◌, ◌-◌, ℕ, zero, suc, List, [], ◌∷◌, ◌++◌, length, length-append, length-drop, append_assoc, map, take, drop, get_or, slice_get, Option, Some, refl, sym, ◌∙◌, ap, arith, take-append-drop, pos}
use Rattle.std.proofs.lemmas.List.{get_or-drop}
use Rattle.htl_patch.proofs.Words.{length-map, AreInRange, Number, Tables, Fun, Formula, function_count, count_at, count_before, switch_function, Task, functions_of, function_of_switch, Replacement, combined, donor_task, output_count, output_functions, switch_functions, get_back, get_front, get_mapped, take_front}
use Rattle.htl_patch.proofs.{Members.none, Counting.count_within, Counting.take_length}

-- ---- lists

pub cut_front : {A : Type 0} (a c : ℕ) (xs ys : List A) → a + c ≤ length xs → take c (drop a (xs ++ ys)) ≡ take c (drop a xs)
cut_front zero c xs ys le = take_front c xs ys (omega (arith, le))
cut_front (suc a) zero [] ys le = absurd (omega (arith, le))
cut_front (suc a) (suc c) [] ys le = absurd (omega (arith, le))
cut_front (suc a) c (x ∷ xs) ys le = cut_front a c xs ys (omega (arith, le))

pub drop_back : {A : Type 0} (a : ℕ) (xs ys : List A) → drop (length xs + a) (xs ++ ys) ≡ drop a ys
drop_back a [] ys = let same : 0 + a ≡ a = omega arith in ap (λ (n : ℕ). drop n ys) same
drop_back a (x ∷ xs) ys = let same : length (x ∷ xs) + a ≡ suc (length xs + a) = omega arith in ap (λ (n : ℕ). drop n (x ∷ (xs ++ ys))) same ∙ drop_back a xs ys

-- the functions before a task of a front
count_front : (n : ℕ) (xs ys : List Task) → n ≤ length xs → count_before n (xs ++ ys) ≡ count_before n xs
count_front zero xs ys le = refl
count_front (suc n) xs ys le =
    let a = count_front n xs ys (omega (arith, le)) in
    let b = at xs ys n (omega (arith, le)) in
    ap (λ (m : ℕ). m + count_at (slice_get (xs ++ ys) n)) a ∙ ap (λ (o : Option Task). count_before n xs + count_at o) b
  where
    at : (xs ys : List Task) (n : ℕ) → n < length xs → slice_get (xs ++ ys) n ≡ slice_get xs n
    at [] ys n less = absurd (omega (arith, less))
    at (x ∷ xs) ys zero less = refl
    at (x ∷ xs) ys (suc n) less = at xs ys n (omega (arith, less))

count_back : (f : Task → Task) (j : ℕ) (xs ys : List Task) → ((x : Task) → function_count (f x) ≡ function_count x)
    → count_before (length xs + j) (xs ++ map f ys) ≡ count_before (length xs) xs + count_before j ys
count_back f zero xs ys same =
    let e : length xs + 0 ≡ length xs = omega arith in
    let a = count_front (length xs) xs (map f ys) (omega arith) in
    ap (λ (n : ℕ). count_before n (xs ++ map f ys)) e ∙ a ∙ omega arith
count_back f (suc j) xs ys same =
    let e : length xs + suc j ≡ suc (length xs + j) = omega arith in
    let a = count_back f j xs ys same in
    let b : count_at (slice_get (xs ++ map f ys) (length xs + j)) ≡ count_at (slice_get ys j) = ap count_at (get_back xs (map f ys) j) ∙ image ys j in
    ap (λ (n : ℕ). count_before n (xs ++ map f ys)) e ∙ omega (arith, a, b)
  where
    image : (ys : List Task) (j : ℕ) → count_at (slice_get (map f ys) j) ≡ count_at (slice_get ys j)
    image [] j = refl
    image (y ∷ ys) zero = same y
    image (y ∷ ys) (suc j) = image ys j

task_at_place : (xs : List Task) (k : ℕ) → k < length xs → (x : Task) × (slice_get xs k ≡ Some x)
task_at_place [] k less = absurd (omega (arith, less))
task_at_place (x ∷ xs) zero less = (x, refl)
task_at_place (x ∷ xs) (suc k) less = task_at_place xs k (omega (arith, less))

module _ (g : Replacement) (host : AreInRange g.host) (donor : AreInRange g.donor) where
  abbrev u : Tables
  u = combined g

  outputs_length : (t : Tables) → AreInRange t → length (output_functions t) ≡ output_count t
  outputs_length t r = let e = r.function_count in take_length (output_count t) 0 t.functions (omega (arith, e))

  own : (t : Tables) (a c : ℕ) → a + c ≤ length (output_functions t) → take c (drop a (output_functions t)) ≡ take c (drop a t.functions)
  own t a c le =
      sym (cut_front a c (output_functions t) (switch_functions t) le) ∙ ap (λ (fs : List Fun). take c (drop a fs)) (take-append-drop (output_count t) t.functions)

  all : u.functions ≡ output_functions g.host ++ (output_functions g.donor ++ (switch_functions g.host ++ switch_functions g.donor))
  all = append_assoc (output_functions g.host) (output_functions g.donor) (switch_functions g.host ++ switch_functions g.donor)

  pub functions_here : (k : ℕ) (x : Task) → slice_get g.host.tasks k ≡ Some x
      → functions_of u k ≡ take (function_count x) (drop (count_before k g.host.tasks) g.host.functions)
  functions_here k x at =
      let c = function_count x in
      let a = count_before k g.host.tasks in
      let there = get_front g.host.tasks (map (donor_task g) g.donor.tasks) k x at in
      let fits = count_within g.host.tasks k x at in
      let size = outputs_length g.host host in
      let inside = within g.host.tasks k x at in
      ap (λ (o : Option Task). take (count_at o) (drop (count_before k u.tasks) u.functions)) there
      ∙ ap (λ (n : ℕ). take c (drop n u.functions)) (count_front k g.host.tasks (map (donor_task g) g.donor.tasks) (omega (arith, inside)))
      ∙ ap (λ (fs : List Fun). take c (drop a fs)) all
      ∙ cut_front a c (output_functions g.host) (output_functions g.donor ++ (switch_functions g.host ++ switch_functions g.donor)) (omega (arith, fits, size))
      ∙ own g.host a c (omega (arith, fits, size))
    where
      within : (xs : List Task) (k : ℕ) (x : Task) → slice_get xs k ≡ Some x → k < length xs
      within [] k x e = absurd (none x k e)
      within (y ∷ xs) zero x e = omega arith
      within (y ∷ xs) (suc k) x e = let r = within xs k x e in omega (arith, r)

  pub functions_there : (j : ℕ) (x : Task) → slice_get g.donor.tasks j ≡ Some x
      → functions_of u (length g.host.tasks + j) ≡ take (function_count x) (drop (count_before j g.donor.tasks) g.donor.functions)
  functions_there j x at =
      let c = function_count x in
      let a = count_before j g.donor.tasks in
      let there : slice_get u.tasks (length g.host.tasks + j) ≡ Some (donor_task g x) = get_back g.host.tasks (map (donor_task g) g.donor.tasks) j ∙ get_mapped (donor_task g) g.donor.tasks j x at in
      let fits = count_within g.donor.tasks j x at in
      let size = outputs_length g.donor donor in
      let before : count_before (length g.host.tasks + j) u.tasks ≡ length (output_functions g.host) + a =
      count_back (donor_task g) j g.host.tasks g.donor.tasks (λ y. refl) ∙ ap (λ (n : ℕ). n + a) (sym (outputs_length g.host host)) in
      let rest = switch_functions g.host ++ switch_functions g.donor in
      ap (λ (o : Option Task). take (count_at o) (drop (count_before (length g.host.tasks + j) u.tasks) u.functions)) there
      ∙ ap (λ (n : ℕ). take c (drop n u.functions)) before
      ∙ ap (λ (fs : List Fun). take c (drop (length (output_functions g.host) + a) fs)) all
      ∙ ap (take c) (drop_back a (output_functions g.host) (output_functions g.donor ++ rest))
      ∙ cut_front a c (output_functions g.donor) rest (omega (arith, fits, size))
      ∙ own g.donor a c (omega (arith, fits, size))

  -- the functions of a task of either program
  pub of_front : (k : ℕ) → k < length g.host.tasks → functions_of g.host k ≡ functions_of u k
  of_front k less =
      let there = task_at_place g.host.tasks k less in
      ap (λ (o : Option Task). take (count_at o) (drop (count_before k g.host.tasks) g.host.functions)) there.1 ∙ sym (functions_here k there.0 there.1)

  pub of_back : (k : ℕ) → length g.host.tasks ≤ k → k < length u.tasks → functions_of g.donor (k - length g.host.tasks) ≡ functions_of u k
  of_back k le less =
      let j = k - length g.host.tasks in
      let sum = length-append g.host.tasks (map (donor_task g) g.donor.tasks) in
      let images = length-map g.donor.tasks (donor_task g) in
      let there = task_at_place g.donor.tasks j (omega (arith, le, less, sum, images)) in
      let place : length g.host.tasks + j ≡ k = omega (arith, le) in
      ap (λ (o : Option Task). take (count_at o) (drop (count_before j g.donor.tasks) g.donor.functions)) there.1
      ∙ sym (functions_there j there.0 there.1)
      ∙ ap (functions_of u) place

  -- ---- switches

  get_behind : {A : Type 0} (xs ys : List A) (k : ℕ) (d : A) → get_or (xs ++ ys) (length xs + k) d ≡ get_or ys k d
  get_behind [] ys k d = let same : 0 + k ≡ k = omega arith in ap (λ (n : ℕ). get_or ys n d) same
  get_behind (x ∷ xs) ys k d = let same : length (x ∷ xs) + k ≡ suc (length xs + k) = omega arith in ap (λ (n : ℕ). get_or (x ∷ (xs ++ ys)) n d) same ∙ get_behind xs ys k d

  get_before : {A : Type 0} (xs ys : List A) (k : ℕ) (d : A) → k < length xs → get_or (xs ++ ys) k d ≡ get_or xs k d
  get_before [] ys k d less = absurd (omega (arith, less))
  get_before (x ∷ xs) ys zero d less = refl
  get_before (x ∷ xs) ys (suc k) d less = get_before xs ys k d (omega (arith, less))

  outputs_sum : output_count u ≡ length (output_functions g.host ++ output_functions g.donor)
  outputs_sum =
      let sum = length-append g.host.tasks (map (donor_task g) g.donor.tasks) ∙ ap (λ (n : ℕ). length g.host.tasks + n) (length-map g.donor.tasks (donor_task g)) in
      ap (λ (n : ℕ). count_before n u.tasks) sum
      ∙ count_back (donor_task g) (length g.donor.tasks) g.host.tasks g.donor.tasks (λ y. refl)
      ∙ ap (λ (n : ℕ). n + output_count g.donor) (sym (outputs_length g.host host))
      ∙ ap (λ (n : ℕ). length (output_functions g.host) + n) (sym (outputs_length g.donor donor))
      ∙ sym (length-append (output_functions g.host) (output_functions g.donor))

  switch_at_place : (k : ℕ) → function_of_switch u k ≡ get_or (switch_functions g.host ++ switch_functions g.donor) k (Formula 0 (Number 0 (pos 0)))
  switch_at_place k =
      let d = Formula 0 (Number 0 (pos 0)) in
      ap (λ (n : ℕ). get_or u.functions (n + k) d) outputs_sum
      ∙ get_behind (output_functions g.host ++ output_functions g.donor) (switch_functions g.host ++ switch_functions g.donor) k d

  switches_length : (t : Tables) → AreInRange t → length (switch_functions t) ≡ length t.switches
  switches_length t r = let e = r.function_count in let d = length-drop (output_count t) t.functions in omega (arith, e, d)

  pub switch_front : (k : ℕ) → k < length g.host.switches → function_of_switch g.host k ≡ function_of_switch u k
  switch_front k less =
      let d = Formula 0 (Number 0 (pos 0)) in
      let size = switches_length g.host host in
      sym (switch_at_place k ∙ get_before (switch_functions g.host) (switch_functions g.donor) k d (omega (arith, less, size)) ∙ get_or-drop (output_count g.host) g.host.functions k d)

  pub switch_back : (k : ℕ) → length g.host.switches ≤ k → function_of_switch g.donor (k - length g.host.switches) ≡ function_of_switch u k
  switch_back k le =
      let d = Formula 0 (Number 0 (pos 0)) in
      let size = switches_length g.host host in
      let place : k ≡ length (switch_functions g.host) + (k - length g.host.switches) = omega (arith, le, size) in
      sym (switch_at_place k
      ∙ ap (λ (n : ℕ). get_or (switch_functions g.host ++ switch_functions g.donor) n d) place
      ∙ get_behind (switch_functions g.host) (switch_functions g.donor) (k - length g.host.switches) d
      ∙ get_or-drop (output_count g.donor) g.donor.functions (k - length g.host.switches) d)

-- the function of a switch in its own program
pub switch_place : (t : Tables) (k first : ℕ) → AreInRange t → k < length t.switches → first ≡ (length t.functions - length t.switches) + k
    → (first + 1 ≤ length t.functions) × (take 1 (drop first t.functions) ≡ function_of_switch t k ∷ [])
switch_place t k first r less is =
    let all = r.function_count in
    let here : first ≡ switch_function t k = omega (arith, is, all) in
    (omega (arith, is, all, less), one t.functions first (switch_function t k) here (omega (arith, is, all, less)))
  where
    one : (xs : List Fun) (n m : ℕ) → n ≡ m → n < length xs → take 1 (drop n xs) ≡ get_or xs m (Formula 0 (Number 0 (pos 0))) ∷ []
    one xs n m e less = by xs n less ∙ ap (λ (i : ℕ). get_or xs i (Formula 0 (Number 0 (pos 0))) ∷ []) e
      where
        empty : (xs : List Fun) → take 0 xs ≡ []
        empty [] = refl
        empty (x ∷ xs) = refl

        by : (xs : List Fun) (n : ℕ) → n < length xs → take 1 (drop n xs) ≡ get_or xs n (Formula 0 (Number 0 (pos 0))) ∷ []
        by [] n less = absurd (omega (arith, less))
        by (x ∷ xs) zero less = ap (λ zs. x ∷ zs) (empty xs)
        by (x ∷ xs) (suc n) less = by xs n (omega (arith, less))
