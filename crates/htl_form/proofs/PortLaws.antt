-- The tests of a port's writers find what the rule says.
use Rattle.std.proofs.Common.{◌≡◌, ℕ, zero, suc, ◌+◌, ◌<◌, ◌*◌, ◌≤◌, ◌⊎◌, Bool, true, false, ◌||◌, cond, eqb, ltb, List, [], ◌∷◌, length, get_or, take, drop, drop-cons, add-one, Option, Some, None, refl, sym, ◌∙◌, ap, subst, arith, inl, inr}
use Rattle.htl_form.proofs.Words.{slice_get, list_any, nat_tests, list_any_more, sum_by-cons, sum_by-le, sum_by-take-le, sum_by_more_le, count_by-le-length, slice_get_within, slice_get_read, get_or_from_slice_get, get_or_past, Inv, End, is_port, port_uses, writers_in, port_writers, WritesPort, OutputBefore, Unwritten, Rewritten, AreInRange, IsInvInRange, IsEndInRange, Tables, IsFirstAt, found_at, none_at, or_else, first_from, Found, unless, port_writer, first_port_writer, is_below, unwritten_fault, rewritten_fault, writers_before, all_at, from_take, into_take, cases_lt, eqb_some}
use Rattle.htl_model.specs.declared.parts.End.TheVariants as E
use Rattle.htl_form.proofs.{Finding.Finds, Finding.finds_nothing, Finding.finds_unless, AbstractLaws.goes}

-- ---- where a port is written

pub is_port_same : (p : ℕ) → is_port p (E.Port p) ≡ true
is_port_same p = grind (arith, nat_tests)

uses_cons : (p : ℕ) (e : End) (ends : List End) → port_uses p (e ∷ ends) ≡ cond (is_port p e) 1 0 + port_uses p ends
uses_cons p e ends = sum_by-cons (λ (x : End). cond (is_port p x) 1 0) e ends

writers_cons : (p : ℕ) (i : Inv) (invs : List Inv) → writers_in p (i ∷ invs) ≡ port_uses p i.writes + writers_in p invs
writers_cons p i invs = sum_by-cons (λ (x : Inv). port_uses p x.writes) i invs

-- an end that is the port counts
pub uses_at : (p : ℕ) (ends : List End) (place : ℕ) → slice_get ends place ≡ Some (E.Port p) → 0 < port_uses p ends
uses_at p [] place h = cc
uses_at p (e ∷ ends) zero h = let is : e ≡ E.Port p = cc in grind (arith, uses_cons p e ends, is_port_same p)
uses_at p (e ∷ ends) (suc place) h = omega (arith, uses_cons p e ends, uses_at p ends place h)

-- where some end is the port, there is a place
pub at_uses : (p : ℕ) (ends : List End) → 0 < port_uses p ends → (place : ℕ) × (slice_get ends place ≡ Some (E.Port p))
at_uses p [] h = absurd (omega arith)
at_uses p (e ∷ ends) h = by (λ some. at_uses p ends some) (is_port p e) refl
  where
    by : (0 < port_uses p ends → (place : ℕ) × (slice_get ends place ≡ Some (E.Port p))) → (b : Bool) → is_port p e ≡ b → (place : ℕ) × (slice_get (e ∷ ends) place ≡ Some (E.Port p))
    by later true is = (0, ap (λ (x : End). Some x) (goes p e is))
    by later false is =
        let none : ◌≡◌ {A = ℕ} (cond (is_port p e) 1 0) 0 = ap (λ (b : Bool). cond b 1 0) is in
        let r = later (omega (arith, uses_cons p e ends, none)) in
        (suc r.0, r.1)

pub writers_at : (p : ℕ) (invs : List Inv) (l place : ℕ) (x : Inv) → slice_get invs l ≡ Some x → slice_get x.writes place ≡ Some (E.Port p) → 0 < writers_in p invs
writers_at p [] l place x at h = cc
writers_at p (i ∷ invs) zero place x at h =
    let is : x ≡ i = cc in
    let here : 0 < port_uses p i.writes = uses_at p i.writes place (subst (λ (y : Inv). slice_get y.writes place ≡ Some (E.Port p)) is h) in
    omega (arith, writers_cons p i invs)
writers_at p (i ∷ invs) (suc l) place x at h = omega (arith, writers_cons p i invs, writers_at p invs l place x at h)

-- of two counts that aren't both zero one isn't
some_of_two : (a b : ℕ) → 0 < a + b → (0 < a) ⊎ (0 < b)
some_of_two a b h = grind arith

pub at_writers : (p : ℕ) (invs : List Inv) → 0 < writers_in p invs → (l place : ℕ) × (x : Inv) × (slice_get invs l ≡ Some x) × (slice_get x.writes place ≡ Some (E.Port p))
at_writers p [] h = absurd (omega arith)
at_writers p (i ∷ invs) h =
    elim (some_of_two (port_uses p i.writes) (writers_in p invs) (omega (arith, writers_cons p i invs))) [
      | inl here ↦ let r = at_uses p i.writes here in (0, r.0, i, refl, r.1)
      | inr later ↦ let r = at_writers p invs later in (suc r.0, r.1, r.2, r.3, r.4)
    ]

-- the outputs are few
pub writers_few : (t : Tables) (p k : ℕ) → AreInRange t → writers_in p (take k t.invs) ≤ 524288
writers_few t p k r =
    let whole : port_writers t p ≤ length t.invs * 256 =
    sum_by-le (λ (i : Inv). port_uses p i.writes) 256 t.invs (λ q d below. omega (arith, (r.invs q d below).few_writes, count_by-le-length (is_port p) (get_or t.invs q d).writes)) in
    omega (arith, sum_by-take-le (λ (i : Inv). port_uses p i.writes) t.invs k, r.few_invs)

-- an output writes a port of the tables
pub writers_past : (t : Tables) (p : ℕ) → AreInRange t → 4096 ≤ p → port_writers t p ≡ 0
writers_past t p r past = none (port_writers t p) (λ some.
    let w = at_writers p t.invs some in
    let q = all_at (IsEndInRange t w.2.mode) w.2.writes w.1 (E.Port p) (all_at (IsInvInRange t) t.invs w.0 w.2 r.invs w.3).writes w.4 in
    let within = slice_get_within t.ports p q.0 q.1 in
    omega (arith, r.few_ports, within))
  where
    none : (n : ℕ) → (0 < n → ⊥) → n ≡ 0
    none zero h = refl
    none (suc n) h = absurd (h (omega arith))

-- a count so far leaves room for the outputs of one more invocation
pub room_left : (t : Tables) (invs : List Inv) (counts : List ℕ) (k : ℕ) (i : Inv) → AreInRange t → invs ≡ t.invs → k < length invs → i ≡ get_or invs k i
    → ((p : ℕ) → p < length counts → get_or counts p 0 ≡ writers_in p (take k invs)) → (p : ℕ) → get_or counts p 0 + length i.writes < 4294967295
room_left t invs counts k i r same below is count p =
    let at : slice_get t.invs k ≡ Some i = ap (λ xs. slice_get xs k) (sym same) ∙ slice_get_read invs (length invs) k i refl below is in
    let few : length i.writes ≤ 256 = (all_at (IsInvInRange t) t.invs k i r.invs at).few_writes in
    elim (cases_lt p (length counts)) [
      | inl within ↦ omega (arith, count p within ∙ ap (λ xs. writers_in p (take k xs)) same, writers_few t p k r)
      | inr past ↦ omega (arith, get_or_past counts p 0 past)
    ]

-- ---- the outputs before an output

pub before_at : (t : Tables) (p k : ℕ) (i : Inv) (j : ℕ) → slice_get t.invs k ≡ Some i → 0 < writers_before t p k i j
    → (l place : ℕ) × OutputBefore l place k j × WritesPort t p l place
before_at t p k i j at h =
    elim (some_of_two (writers_in p (take k t.invs)) (port_uses p (take j i.writes)) h) [
      | inl below ↦
          let r = at_writers p (take k t.invs) below in
          let in_list = from_take t.invs k r.0 r.2 r.3 in
          (r.0, r.1, inl in_list.0, (r.2, in_list.1, r.4))
      | inr own ↦
          let r = at_uses p (take j i.writes) own in
          let in_list = from_take i.writes j r.0 (E.Port p) r.1 in
          (k, r.0, inr (refl, in_list.0), (i, at, in_list.1))
    ]

pub at_before : (t : Tables) (p k : ℕ) (i : Inv) (j l place : ℕ) → slice_get t.invs k ≡ Some i → OutputBefore l place k j → WritesPort t p l place → 0 < writers_before t p k i j
at_before t p k i j l place at (inl less) w =
    omega (arith, writers_at p (take k t.invs) l place w.0 (into_take t.invs k l w.0 less w.1) w.2)
at_before t p k i j l place at (inr same) w =
    let item : Some w.0 ≡ Some i = sym w.1 ∙ ap (slice_get t.invs) same.0 ∙ at in
    let is : w.0 ≡ i = cc in
    let here = subst (λ (y : Inv). slice_get y.writes place ≡ Some (E.Port p)) is w.2 in
    omega (arith, uses_at p (take j i.writes) place (into_take i.writes j place (E.Port p) same.1 here))

-- an output is not before itself, so fewer are before it than there are
pub fewer_before : (t : Tables) (p k : ℕ) (i : Inv) (j : ℕ) → slice_get t.invs k ≡ Some i → slice_get i.writes j ≡ Some (E.Port p) → writers_before t p k i j < port_writers t p
fewer_before t p k i j at out =
    let here : get_or t.invs k i ≡ i = get_or_from_slice_get t.invs k i i at in
    let end : get_or i.writes j (E.Port p) ≡ E.Port p = get_or_from_slice_get i.writes j (E.Port p) (E.Port p) out in
    let one : ◌≡◌ {A = ℕ} (cond (is_port p (get_or i.writes j (E.Port p))) 1 0) 1 = ap (λ (x : End). cond (is_port p x) 1 0) end ∙ ap (λ (b : Bool). cond b 1 0) (is_port_same p) in
    let own : port_uses p (take j i.writes) + cond (is_port p (get_or i.writes j (E.Port p))) 1 0 ≤ port_uses p i.writes =
    sum_by_more_le (λ (e : End). cond (is_port p e) 1 0) i.writes j (E.Port p) (slice_get_within i.writes j (E.Port p) out) in
    let all : writers_in p (take k t.invs) + port_uses p (get_or t.invs k i).writes ≤ writers_in p t.invs =
    sum_by_more_le (λ (x : Inv). port_uses p x.writes) t.invs k i (slice_get_within t.invs k i at) in
    let same : port_uses p (get_or t.invs k i).writes ≡ port_uses p i.writes = ap (λ (x : Inv). port_uses p x.writes) here in
    omega arith

-- ---- the first invocation that writes a port

-- some end is the port where the port is used
any_uses : (p : ℕ) (ends : List End) → list_any (is_port p) ends ≡ ltb 0 (port_uses p ends)
any_uses p [] = refl
any_uses p (e ∷ ends) = grind (arith, nat_tests, uses_cons p e ends, any_uses p ends)

writes_at : (p : ℕ) (x : Inv) → list_any (is_port p) x.writes ≡ true → (place : ℕ) × (slice_get x.writes place ≡ Some (E.Port p))
writes_at p x h = at_uses p x.writes (grind (arith, nat_tests, any_uses p x.writes))

at_writes : (p : ℕ) (x : Inv) (place : ℕ) → slice_get x.writes place ≡ Some (E.Port p) → list_any (is_port p) x.writes ≡ true
at_writes p x place h = grind (arith, nat_tests, any_uses p x.writes, uses_at p x.writes place h)

pub given : (b : Bool) (l h : ℕ) → ◌≡◌ {A = Option ℕ} (cond b (Some l) None) (Some h) → (b ≡ true) × (l ≡ h)
given true l h e = (refl, cc)
given false l h e = cc

pub not_given : (b : Bool) (l : ℕ) → b ≡ true → ◌≡◌ {A = Option ℕ} (cond b (Some l) None) None → ⊥
not_given true l e h = cc
not_given false l e h = cc

no_count : (n : ℕ) → (0 < n → ⊥) → false ≡ ltb 0 n
no_count zero h = refl
no_count (suc n) h = absurd (h (omega arith))

some_count : (n : ℕ) → 0 < n → true ≡ ltb 0 n
some_count n h = grind (arith, nat_tests)

-- it stands below a number where some invocation below that writes the port
first_below : (t : Tables) (p k : ℕ) → is_below (first_port_writer t p) k ≡ ltb 0 (writers_in p (take k t.invs))
first_below t p k = by (first_port_writer t p) refl
  where
    by : (o : Option ℕ) → first_port_writer t p ≡ o → is_below o k ≡ ltb 0 (writers_in p (take k t.invs))
    by None e =
        no_count (writers_in p (take k t.invs)) (λ some.
        let w = at_writers p (take k t.invs) some in
        let in_list = from_take t.invs k w.0 w.2 w.3 in
        not_given _ w.0 (at_writes p w.2 w.1 w.4) (none_at (port_writer p) t.invs e w.0 w.2 in_list.1))
    by (Some l) e = where_first (ltb l k) refl
      where
        g : IsFirstAt (port_writer p) t.invs l
        g = found_at (port_writer p) t.invs l e

        here : (list_any (is_port p) g.item.writes ≡ true) × (g.place ≡ l)
        here = given (list_any (is_port p) g.item.writes) g.place l g.gives

        at_least : ltb l k ≡ false → k ≤ l
        at_least h = grind (arith, nat_tests)

        less : ltb l k ≡ true → l < k
        less h = grind (arith, nat_tests)

        where_first : (b : Bool) → ltb l k ≡ b → b ≡ ltb 0 (writers_in p (take k t.invs))
        where_first true below =
            let place = writes_at p g.item here.0 in
            let low : g.place < k = omega (arith, less below, here.1) in
            some_count (writers_in p (take k t.invs)) (writers_at p (take k t.invs) g.place place.0 g.item (into_take t.invs k g.place g.item low g.at) place.1)
        where_first false past =
            no_count (writers_in p (take k t.invs)) (λ some.
            let w = at_writers p (take k t.invs) some in
            let in_list = from_take t.invs k w.0 w.2 w.3 in
            let before : w.0 < g.place = omega (arith, at_least past, here.1, in_list.0) in
            not_given _ w.0 (at_writes p w.2 w.1 w.4) (g.before w.0 w.2 before in_list.1))

-- so it tells whether an output that writes the port stands before an output
pub first_before : (t : Tables) (p k : ℕ) (i : Inv) (j : ℕ) (o : Option ℕ) → o ≡ first_port_writer t p → (is_below o k || ltb 0 (port_uses p (take j i.writes))) ≡ ltb 0 (writers_before t p k i j)
first_before t p k i j o is =
    ap (λ (x : Option ℕ). is_below x k || ltb 0 (port_uses p (take j i.writes))) is
    ∙ ap (λ (b : Bool). b || ltb 0 (port_uses p (take j i.writes))) (first_below t p k)
    ∙ sum (writers_in p (take k t.invs)) (port_uses p (take j i.writes))
  where
    sum : (n m : ℕ) → (ltb 0 n || ltb 0 m) ≡ ltb 0 (n + m)
    sum zero zero = refl
    sum zero (suc m) = grind (arith, nat_tests)
    sum (suc n) m = grind (arith, nat_tests)

-- no invocation writes a port past the tables'
pub no_first : (t : Tables) (p : ℕ) → AreInRange t → 4096 ≤ p → first_port_writer t p ≡ None
no_first t p r past = by (first_port_writer t p) refl
  where
    by : (o : Option ℕ) → first_port_writer t p ≡ o → o ≡ None
    by None e = refl
    by (Some l) e =
        let g = found_at (port_writer p) t.invs l e in
        let here = given (list_any (is_port p) g.item.writes) g.place l g.gives in
        let place = writes_at p g.item here.0 in
        let some : 0 < port_writers t p = writers_at p t.invs g.place place.0 g.item g.at place.1 in
        absurd (omega (arith, some, writers_past t p r past))

-- ---- a table of the first writers

-- one output more of an invocation
pub noted_more : (p k j : ℕ) (ends : List End) (d : End) (start old new : Option ℕ) → j < length ends → old ≡ or_else start (cond (list_any (is_port p) (take j ends)) (Some k) None)
    → new ≡ or_else old (cond (is_port p (get_or ends j d)) (Some k) None) → new ≡ or_else start (cond (list_any (is_port p) (take (j + 1) ends)) (Some k) None)
noted_more p k j ends d start old new below before is =
    is ∙ ap (λ (o : Option ℕ). or_else o (cond (is_port p (get_or ends j d)) (Some k) None)) before
    ∙ joined start (list_any (is_port p) (take j ends)) (is_port p (get_or ends j d))
    ∙ ap (λ (b : Bool). or_else start (cond b (Some k) None)) (sym (list_any_more (is_port p) ends j d below))
  where
    joined : (o : Option ℕ) (a b : Bool) → or_else (or_else o (cond a (Some k) None)) (cond b (Some k) None) ≡ or_else o (cond (a || b) (Some k) None)
    joined (Some l) a b = refl
    joined None true b = refl
    joined None false b = refl

-- one invocation more
pub first_more : (p : ℕ) (invs : List Inv) (k : ℕ) (x : Inv) (old new whole : Option ℕ) → k < length invs → x ≡ get_or invs k x
    → or_else old (first_from (port_writer p) k (drop k invs)) ≡ whole → new ≡ or_else old (cond (list_any (is_port p) x.writes) (Some k) None)
    → or_else new (first_from (port_writer p) (k + 1) (drop (k + 1) invs)) ≡ whole
first_more p invs k x old new whole below at going is =
    let rest : Option ℕ = first_from (port_writer p) (suc k) (drop (suc k) invs) in
    let cut : drop k invs ≡ x ∷ drop (suc k) invs = drop-cons invs k x below ∙ ap (λ z. z ∷ drop (suc k) invs) (sym at) in
    rw add-one (ap (λ (o : Option ℕ). or_else o rest) is ∙ turned old (port_writer p k x) rest ∙ ap (or_else old) (sym (ap (first_from (port_writer p) k) cut)) ∙ going)
  where
    turned : (a b c : Option ℕ) → or_else (or_else a b) c ≡ or_else a (or_else b c)
    turned (Some l) b c = refl
    turned None b c = refl

-- no invocation more
pub first_all : (p : ℕ) (invs : List Inv) (k : ℕ) (o whole : Option ℕ) → length invs ≤ k → or_else o (first_from (port_writer p) k (drop k invs)) ≡ whole → o ≡ whole
first_all p invs k o whole past going = sym (alone o) ∙ sym (ap (or_else o) (nothing_left k invs k past)) ∙ going
  where
    alone : (o : Option ℕ) → or_else o None ≡ o
    alone (Some l) = refl
    alone None = refl

    nothing_left : (k : ℕ) (xs : List Inv) (n : ℕ) → length xs ≤ n → first_from (port_writer p) k (drop n xs) ≡ None
    nothing_left k [] zero h = refl
    nothing_left k [] (suc n) h = refl
    nothing_left k (x ∷ xs) zero h = absurd (omega arith)
    nothing_left k (x ∷ xs) (suc n) h = nothing_left k xs n (omega arith)

-- so a port with one writer at most has none before
pub none_before : (t : Tables) (p k : ℕ) (i : Inv) (j : ℕ) → slice_get t.invs k ≡ Some i → slice_get i.writes j ≡ Some (E.Port p) → port_writers t p < 2
    → None ≡ rewritten_fault t k i j (E.Port p)
none_before t p k i j at out few = by (writers_before t p k i j) (fewer_before t p k i j at out)
  where
    by : (n : ℕ) → n < port_writers t p → ◌≡◌ {A = Found} None (unless (eqb n 0) (port_writers t p) 1)
    by zero h = refl
    by (suc n) h = absurd (omega arith)

-- ---- the rule

pub unwritten_is : (t : Tables) (e : End) → AreInRange t → Finds (unwritten_fault t e) (Unwritten t e)
unwritten_is t (E.Comm c n) r = finds_nothing
unwritten_is t (E.Port p) r =
    finds_unless (ltb 0 (port_writers t p)) 0 1 (Unwritten t (E.Port p))
    (λ off. (refl, refl, λ l place w. not_none (port_writers t p) off (writers_at p t.invs l place w.0 w.1 w.2)))
    (λ h m q. (none (port_writers t p) (λ some. let w = at_writers p t.invs some in q.2 w.0 w.1 (w.2, w.3, w.4)), q.0, q.1))
  where
    not_none : (n : ℕ) → ltb 0 n ≡ false → 0 < n → ⊥
    not_none n e h = grind (arith, nat_tests)

    none : (n : ℕ) → (0 < n → ⊥) → ltb 0 n ≡ false
    none zero h = refl
    none (suc n) h = absurd (h (omega arith))

pub rewritten_is : (t : Tables) (k : ℕ) (i : Inv) (j : ℕ) (e : End) → AreInRange t → slice_get t.invs k ≡ Some i → slice_get i.writes j ≡ Some e
    → Finds (rewritten_fault t k i j e) (Rewritten t k i j e)
rewritten_is t k i j (E.Comm c n) r at out = finds_nothing
rewritten_is t k i j (E.Port p) r at out =
    finds_unless (eqb (writers_before t p k i j) 0) (port_writers t p) 1 (Rewritten t k i j (E.Port p))
    (λ off. let w = before_at t p k i j at (some (writers_before t p k i j) off) in (refl, refl, w.0, w.1, w.2, w.3))
    (λ h m q. (eqb_some (writers_before t p k i j) (at_before t p k i j q.2 q.3 at q.4 q.5), q.0, q.1))
  where
    some : (x : ℕ) → eqb x 0 ≡ false → 0 < x
    some x e = grind (arith, nat_tests)
