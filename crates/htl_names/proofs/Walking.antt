-- Steps of walks along lists, and down the tree of programs.
use Rattle.std.proofs.Common.{◌≡◌, ◌+◌, ℕ, suc, List, [], ◌∷◌, ◌++◌, length, map, drop, get_or, refl, ◌∙◌, ap, arith, append_assoc, append-nil, ◌<◌, ◌-◌, flat_map}
use Rattle.htl_names.proofs.Words.{common_steps, flat_map-append, mode_of, PlainProgram, ModeNode, map_at, flat_map_at, Key, ModuleAt, mode_children, modes_at, below}

pub map_at-append : {A B : Type 0} (g : ℕ → A → B) (k n : ℕ) (xs ys : List A) → n ≡ k + length xs → map_at g k (xs ++ ys) ≡ map_at g k xs ++ map_at g n ys
map_at-append g k n [] ys is = let same : k ≡ n = omega (arith, is) in ap (λ m. map_at g m ys) same
map_at-append g k n (x ∷ xs) ys is = let next : n ≡ suc k + length xs = omega (arith, is) in ap (λ r. g k x ∷ r) (map_at-append g (suc k) n xs ys next)

pub map_at_all : {A B : Type 0} (g : ℕ → A → B) (xs ys : List A) → map_at g 0 (xs ++ ys) ≡ map_at g 0 xs ++ map_at g (length xs) ys
map_at_all g xs ys = map_at-append g 0 (length xs) xs ys (omega arith)

-- what the rows of a part are made of
pub ruleset walking = (map_at_all, flat_map-append, append-nil, append_assoc)

pub length-map_at : {A B : Type 0} (g : ℕ → A → B) (k : ℕ) (xs : List A) → length (map_at g k xs) ≡ length xs
length-map_at g k [] = refl
length-map_at g k (x ∷ xs) = ap suc (length-map_at g (suc k) xs)

-- ---- what loops put behind lists, item by item

pub flat_map_inside : {A B C : Type 0} (f : B → List C) (g : ℕ → A → List B) (k : ℕ) (xs : List A) → flat_map f (flat_map_at g k xs) ≡ flat_map_at (λ i x. flat_map f (g i x)) k xs
flat_map_inside f g k [] = refl
flat_map_inside f g k (x ∷ xs) = flat_map-append f (g k x) (flat_map_at g (suc k) xs) ∙ ap (λ r. flat_map f (g k x) ++ r) (flat_map_inside f g (suc k) xs)

-- what the item at place k gives was put
pub next_item : {A B C : Type 0} (f : ℕ → B → List C) (g : A → B) (xs : List A) (k : ℕ) (x : A) (old new whole : List C) → k < length xs → x ≡ get_or xs k x
    → new ≡ old ++ f k (g x) → old ++ flat_map_at f k (map g (drop k xs)) ≡ whole → new ++ flat_map_at f (k + 1) (map g (drop (k + 1) xs)) ≡ whole
next_item f g xs k x old new whole within is put so = grind (arith, common_steps)

-- ---- a step of the way down a tree of programs

-- a module stands before those that its modes' programs have
pub children_start : (n : ℕ) (symbols : List (Key × ℕ)) (ps : List PlainProgram) (s : ModuleAt) (modes : List ModeNode) (start old : List ModuleAt) → 0 < n → map mode_of modes ≡ modes_at ps s.program s.«module»
    → old ≡ start ++ s ∷ [] → old ++ flat_map (below (n - 1) symbols ps) (flat_map_at (mode_children symbols ps s.program s.«module») 0 (map mode_of modes)) ≡ start ++ below n symbols ps s
children_start n symbols ps s modes start old some are is =
    let g = below (n - 1) symbols ps in
    let f = mode_children symbols ps s.program s.«module» in
    let steps : suc (n - 1) ≡ n = omega (arith, some) in
    ap (λ l. l ++ flat_map g (flat_map_at f 0 (map mode_of modes))) is ∙ append_assoc start (s ∷ []) (flat_map g (flat_map_at f 0 (map mode_of modes)))
    ∙ ap (λ xs. start ++ s ∷ flat_map g (flat_map_at f 0 xs)) are ∙ ap (λ (k : ℕ). start ++ below k symbols ps s) steps
