-- The lists of an object, and the object of lists: each gives the other back.
use Rattle.std.proofs.Common.{◌≡◌, ◌≤◌, ◌<◌, ℕ, zero, suc, List, [], ◌∷◌, ◌++◌, length, map, take, get_or, slice_get, Some, All, refl, sym, ◌∙◌, ap, arith}
use Rattle.htl_object.proofs.Words.{take-suc, length-map, All-head, All-tail, slice_get-get_or, slice_get_within, ECode, EInstr, list_to, Tables, Fun, Formula, Compiled, Code, IsFileInRange, object_of_lists, codes_of, anchors_of, lists_of, IsFunctionCode, IsInRange, Anchors, Lists, Object, get_mapped, take_all}

-- ---- lists by their places

listed_front : {A : Type 0} (f : ℕ → A) (xs : List A) (d : A) → ((k : ℕ) → k < length xs → get_or xs k d ≡ f k) → (n : ℕ) → n ≤ length xs → list_to f n ≡ take n xs
listed_front f xs d at zero h = refl
listed_front f xs d at (suc n) h =
    ap (λ ys. ys ++ f n ∷ []) (listed_front f xs d at n (omega (arith, h)))
    ∙ ap (λ y. take n xs ++ y ∷ []) (sym (at n (omega (arith, h))))
    ∙ sym (take-suc xs n d (omega (arith, h)))

-- the values at all places are the list
listed : {A : Type 0} (f : ℕ → A) (xs : List A) (d : A) (n : ℕ) → length xs ≡ n → ((k : ℕ) → k < length xs → get_or xs k d ≡ f k) → list_to f n ≡ xs
listed f xs d n size at = ap (list_to f) (sym size) ∙ listed_front f xs d at (length xs) (omega arith) ∙ take_all xs

map_listed : {A B : Type 0} (g : A → B) (f : ℕ → A) (n : ℕ) → map g (list_to f n) ≡ list_to (λ k. g (f k)) n
map_listed g f zero = refl
map_listed g f (suc n) = joined (list_to f n) (f n) ∙ ap (λ ys. ys ++ g (f n) ∷ []) (map_listed g f n)
  where
    joined : (xs : List _) (y : _) → map g (xs ++ y ∷ []) ≡ map g xs ++ g y ∷ []
    joined [] y = refl
    joined (x ∷ xs) y = ap (λ ys. g x ∷ ys) (joined xs y)

numbers_listed : (xs : List ℕ) (n : ℕ) → length xs ≡ n → list_to (λ k. get_or xs k 0) n ≡ xs
numbers_listed xs n size = listed (λ k. get_or xs k 0) xs 0 n size (λ k less. refl)

-- ---- functions

pub codes_again : (cs : List Code) → codes_of (map (λ c. Compiled c) cs) ≡ cs
codes_again [] = refl
codes_again (c ∷ cs) = ap (λ ds. c ∷ ds) (codes_again cs)

pub all_codes : (fs : List Fun) → All IsFunctionCode fs → map (λ c. Compiled c) (codes_of fs) ≡ fs
all_codes [] h = refl
all_codes (Compiled c ∷ fs) h = ap (λ gs. Compiled c ∷ gs) (all_codes fs (All-tail IsFunctionCode (Compiled c) fs h))
all_codes (Formula first e ∷ fs) h = absurd (All-head IsFunctionCode (Formula first e) fs h)

-- ---- addresses

address_at : (f : Anchors → ℕ) (xs : List Anchors) (k : ℕ) (a : Anchors) → slice_get xs k ≡ Some a → get_or (map f xs) k 0 ≡ f a
address_at f xs k a e =
    let less : k < length (map f xs) = omega (arith, length-map xs f, slice_get_within xs k a e) in
    let there : Some (get_or (map f xs) k 0) ≡ Some (f a) = sym (slice_get-get_or (map f xs) k 0 less) ∙ get_mapped f xs k a e in
    cc

anchors_again : (xs : List Anchors) (instrs : List EInstr) (n : ℕ) → length xs ≡ n
    → list_to (anchors_of (record { enter = map (λ (a : Anchors). a.enter) xs; begin = map (λ (a : Anchors). a.begin) xs; decide = map (λ (a : Anchors). a.decide) xs; instrs = instrs })) n ≡ xs
anchors_again xs instrs n size = listed (anchors_of code) xs none n size (λ k less. here k (get_or xs k none) (slice_get-get_or xs k none less))
  where
    none : Anchors
    none = record { enter = 0; begin = 0; decide = 0 }

    code : ECode
    code = record { enter = map (λ (a : Anchors). a.enter) xs; begin = map (λ (a : Anchors). a.begin) xs; decide = map (λ (a : Anchors). a.decide) xs; instrs = instrs }

    here : (k : ℕ) (a : Anchors) → slice_get xs k ≡ Some a → a ≡ anchors_of code k
    here k a e =
        let make : ℕ → ℕ → ℕ → Anchors = λ x y z. record { enter = x; begin = y; decide = z } in
        ap (λ (x : ℕ). make x a.begin a.decide) (sym (address_at (λ (b : Anchors). b.enter) xs k a e))
        ∙ ap (λ (y : ℕ). make (get_or code.enter k 0) y a.decide) (sym (address_at (λ (b : Anchors). b.begin) xs k a e))
        ∙ ap (λ (z : ℕ). make (get_or code.enter k 0) (get_or code.begin k 0) z) (sym (address_at (λ (b : Anchors). b.decide) xs k a e))

-- ---- the laws

pub lists_again : (l : Lists) → IsFileInRange l → lists_of (object_of_lists l) ≡ l
lists_again l h =
    let make : List Code → List Anchors → Lists = λ cs anchors. record { comms = l.comms; modes = l.modes; modules = l.modules; ports = l.ports; tasks = l.tasks; invs = l.invs; switches = l.switches; functions = cs; anchors = anchors; instrs = l.instrs; schedules = l.schedules; platform = l.platform } in
    ap (λ cs. make cs (list_to (anchors_of (object_of_lists l).ecode) (length l.modes))) (codes_again l.functions)
    ∙ ap (λ anchors. make l.functions anchors) (anchors_again l.anchors l.instrs (length l.modes) h.front.anchor_count)

pub object_again : (o : Object) → IsInRange o → object_of_lists (lists_of o) ≡ o
object_again o h =
    let t = o.tables in
    let e = o.ecode in
    let n = length t.modes in
    let tables : List Fun → Tables = λ fs. record { comms = t.comms; modes = t.modes; modules = t.modules; ports = t.ports; tasks = t.tasks; invs = t.invs; switches = t.switches; functions = fs } in
    let make : List Fun → List ℕ → List ℕ → List ℕ → Object = λ fs a b d. record { tables = tables fs; ecode = record { enter = a; begin = b; decide = d; instrs = e.instrs }; schedules = o.schedules; platform = o.platform } in
    let anchors = list_to (anchors_of e) n in
    let enter : map (λ (a : Anchors). a.enter) anchors ≡ e.enter = map_listed (λ (a : Anchors). a.enter) (anchors_of e) n ∙ numbers_listed e.enter n h.enter in
    let begin : map (λ (a : Anchors). a.begin) anchors ≡ e.begin = map_listed (λ (a : Anchors). a.begin) (anchors_of e) n ∙ numbers_listed e.begin n h.begin in
    let decide : map (λ (a : Anchors). a.decide) anchors ≡ e.decide = map_listed (λ (a : Anchors). a.decide) (anchors_of e) n ∙ numbers_listed e.decide n h.decide in
    ap (λ fs. make fs (map (λ (a : Anchors). a.enter) anchors) (map (λ (a : Anchors). a.begin) anchors) (map (λ (a : Anchors). a.decide) anchors)) (all_codes t.functions h.coded)
    ∙ ap (λ x. make t.functions x (map (λ (a : Anchors). a.begin) anchors) (map (λ (a : Anchors). a.decide) anchors)) enter
    ∙ ap (λ x. make t.functions e.enter x (map (λ (a : Anchors). a.decide) anchors)) begin
    ∙ ap (λ x. make t.functions e.enter e.begin x) decide
