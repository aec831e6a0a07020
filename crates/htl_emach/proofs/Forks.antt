-- What a round's start and a mode's entry do to the entries of a calendar.
use Rattle.std.proofs.Common.{◌≡◌, ℕ, zero, suc, ◌+◌, ◌<◌, Bool, true, false, cond, List, [], ◌∷◌, length, slice_get, Option, Some, None, refl, sym, ap, ◌∙◌, subst, arith}
use Rattle.htl_emach.proofs.Words.{length-set, Module, places_from, Tables, ECode, Trigger, Calendar, list_at, with_trigger, entry_of, IsSized, Entry, entry_at, next_block, ending}
use Rattle.htl_emach.proofs.Effects.{trigger_set_here, trigger_set_other, trigger_set_sized, sized_module, with_next, list_here, list_other}
use Rattle.htl_emach.proofs.Rounds.{begun_calendar, forked, with_mode}

-- ---- a trigger, where there is one

with_sized : (t : Tables) (p k : ℕ) (x : Option Trigger) (c : Calendar) → IsSized t c → IsSized t (with_next p k x c)
with_sized t p k None c s = s
with_sized t p k (Some y) c s = trigger_set_sized t p k (Some y) c s

with_other : (p k j : ℕ) (x : Option Trigger) (c : Calendar) → (j ≡ k → ⊥) → entry_at (with_next p k x c) j ≡ entry_at c j
with_other p k j None c n = refl
with_other p k j (Some y) c n = trigger_set_other p k j (Some y) c n

with_write : (t : Tables) (k : ℕ) (x : Option Trigger) (c : Calendar) → IsSized t c → k < length t.modules → list_at c.writes k ≡ None → entry_at (with_next 1 k x c) k ≡ record (entry_at c k) { write = x }
with_write t k None c s h e = ap (λ z. record (entry_at c k) { write = z }) e
with_write t k (Some y) c s h e = trigger_set_here 1 k (Some y) c (sized_module t c k s h)

with_read : (t : Tables) (k : ℕ) (x : Option Trigger) (c : Calendar) → IsSized t c → k < length t.modules → list_at c.reads k ≡ None → entry_at (with_next 3 k x c) k ≡ record (entry_at c k) { read = x }
with_read t k None c s h e = ap (λ z. record (entry_at c k) { read = z }) e
with_read t k (Some y) c s h e = trigger_set_here 3 k (Some y) c (sized_module t c k s h)

-- ---- a round begins

pub begun_sized : (t : Tables) (code : ECode) (at k m : ℕ) (c : Calendar) → IsSized t c → IsSized t (begun_calendar t code at k m c)
begun_sized t code at k m c s =
    trigger_set_sized t 2 k (Some (ending t code (record { mode = m; start = at }))) (with_next 3 k (next_block t code m 3 at 0) (with_next 1 k (next_block t code m 1 at 0) c))
    (with_sized t 3 k (next_block t code m 3 at 0) (with_next 1 k (next_block t code m 1 at 0) c) (with_sized t 1 k (next_block t code m 1 at 0) c s))

pub begun_other : (t : Tables) (code : ECode) (at k m j : ℕ) (c : Calendar) → (j ≡ k → ⊥) → entry_at (begun_calendar t code at k m c) j ≡ entry_at c j
begun_other t code at k m j c n =
    trigger_set_other 2 k j (Some (ending t code (record { mode = m; start = at }))) (with_next 3 k (next_block t code m 3 at 0) (with_next 1 k (next_block t code m 1 at 0) c)) n
    ∙ with_other 3 k j (next_block t code m 3 at 0) (with_next 1 k (next_block t code m 1 at 0) c) n
    ∙ with_other 1 k j (next_block t code m 1 at 0) c n

pub begun_here : (t : Tables) (code : ECode) (at k m : ℕ) (c : Calendar) (mode : Option ℕ) (switch : Option Trigger) → IsSized t c → k < length t.modules → entry_at c k ≡ record { mode = mode; write = None; switch = switch; read = None } →
    entry_at (begun_calendar t code at k m c) k ≡ record { mode = mode; write = next_block t code m 1 at 0; switch = Some (ending t code (record { mode = m; start = at })); read = next_block t code m 3 at 0 }
begun_here t code at k m c mode switch s h e =
    let w : Option Trigger = next_block t code m 1 at 0 in
    let r : Option Trigger = next_block t code m 3 at 0 in
    let c1 : Calendar = with_next 1 k w c in
    let c2 : Calendar = with_next 3 k r c1 in
    let s1 : IsSized t c1 = with_sized t 1 k w c s in
    let s2 : IsSized t c2 = with_sized t 3 k r c1 s1 in
    let one : entry_at c1 k ≡ record { mode = mode; write = w; switch = switch; read = None } =
    with_write t k w c s h (ap (λ (z : Entry). z.write) e) ∙ ap (λ (z : Entry). record z { write = w }) e in
    let two : entry_at c2 k ≡ record { mode = mode; write = w; switch = switch; read = r } =
    with_read t k r c1 s1 h (ap (λ (z : Entry). z.read) one) ∙ ap (λ (z : Entry). record z { read = r }) one in
    trigger_set_here 2 k (Some (ending t code (record { mode = m; start = at }))) c2 (sized_module t c2 k s2 h)
    ∙ ap (λ (z : Entry). record z { switch = Some (ending t code (record { mode = m; start = at })) }) two

-- ---- modules are forked

abbrev pub called : Tables → ECode → ℕ → ℕ → Option Trigger
called t code at j = Some (record { at = at; target = entry_of t code j })

pub forked_sized : (t : Tables) (code : ECode) (at : ℕ) (js : List ℕ) (c : Calendar) → IsSized t c → IsSized t (forked t code at js c)
forked_sized t code at [] c s = s
forked_sized t code at (j ∷ js) c s = forked_sized t code at js (with_trigger 2 j (called t code at j) c) (trigger_set_sized t 2 j (called t code at j) c s)

-- modules below the places, or that don't pass the test, stay as they are
pub forked_below : (t : Tables) (code : ECode) (at : ℕ) (test : Module → Bool) (n : ℕ) (xs : List Module) (c : Calendar) (j : ℕ) → j < n → entry_at (forked t code at (places_from test n xs) c) j ≡ entry_at c j
forked_below t code at test n [] c j h = refl
forked_below t code at test n (x ∷ xs) c j h = by_test (test x) (λ d. forked_below t code at test (suc n) xs d j (omega (arith, h)))
  where
    by_test : (b : Bool) → ((d : Calendar) → entry_at (forked t code at (places_from test (suc n) xs) d) j ≡ entry_at d j) → entry_at (forked t code at (cond b (n ∷ places_from test (suc n) xs) (places_from test (suc n) xs)) c) j ≡ entry_at c j
    by_test true ih = ih (with_trigger 2 n (called t code at n) c) ∙ trigger_set_other 2 n j (called t code at n) c (λ e. omega (arith, h, e))
    by_test false ih = ih c

pub forked_at : (t : Tables) (code : ECode) (at : ℕ) (test : Module → Bool) (n : ℕ) (xs : List Module) (c : Calendar) (j i : ℕ) (x : Module) → IsSized t c → j < length t.modules → j ≡ n + i → slice_get xs i ≡ Some x →
    entry_at (forked t code at (places_from test n xs) c) j ≡ cond (test x) (record (entry_at c j) { switch = called t code at j }) (entry_at c j)
forked_at t code at test n [] c j i x s h same e = absurd (let z : ⊥ = cc in z)
forked_at t code at test n (y ∷ ys) c j zero x s h same e =
    let is : y ≡ x = cc in
    let here : j ≡ n = same ∙ omega arith in
    by_test (test y) here (λ d. forked_below t code at test (suc n) ys d j (omega (arith, here))) ∙ ap (λ z. cond (test z) (record (entry_at c j) { switch = called t code at j }) (entry_at c j)) is
  where
    by_test : (b : Bool) → j ≡ n → ((d : Calendar) → entry_at (forked t code at (places_from test (suc n) ys) d) j ≡ entry_at d j) →
        entry_at (forked t code at (cond b (n ∷ places_from test (suc n) ys) (places_from test (suc n) ys)) c) j ≡ cond b (record (entry_at c j) { switch = called t code at j }) (entry_at c j)
    by_test true here ih =
        ih (with_trigger 2 n (called t code at n) c) ∙ ap (λ z. entry_at (with_trigger 2 z (called t code at z) c) j) (sym here) ∙ trigger_set_here 2 j (called t code at j) c (sized_module t c j s h)
    by_test false here ih = ih c
forked_at t code at test n (y ∷ ys) c j (suc i) x s h same e =
    let next : j ≡ suc n + i = same ∙ omega arith in
    by_test (test y) (λ d sd. forked_at t code at test (suc n) ys d j i x sd h next e) (λ g. omega (arith, next, g))
  where
    by_test : (b : Bool) → ((d : Calendar) → IsSized t d → entry_at (forked t code at (places_from test (suc n) ys) d) j ≡ cond (test x) (record (entry_at d j) { switch = called t code at j }) (entry_at d j)) → (j ≡ n → ⊥) →
        entry_at (forked t code at (cond b (n ∷ places_from test (suc n) ys) (places_from test (suc n) ys)) c) j ≡ cond (test x) (record (entry_at c j) { switch = called t code at j }) (entry_at c j)
    by_test true ih other =
        ih (with_trigger 2 n (called t code at n) c) (trigger_set_sized t 2 n (called t code at n) c s)
        ∙ ap (λ (z : Entry). cond (test x) (record z { switch = called t code at j }) z) (trigger_set_other 2 n j (called t code at n) c other)
    by_test false ih other = ih c s

-- ---- a mode is set

pub mode_sized : (t : Tables) (k : ℕ) (m : Option ℕ) (c : Calendar) → IsSized t c → IsSized t (with_mode k m c)
mode_sized t k m c s = record { modes = length-set c.modes k m ∙ s.modes; writes = s.writes; switches = s.switches; reads = s.reads }

pub mode_here : (t : Tables) (k : ℕ) (m : Option ℕ) (c : Calendar) → IsSized t c → k < length t.modules → entry_at (with_mode k m c) k ≡ record (entry_at c k) { mode = m }
mode_here t k m c s h = ap (λ z. record (entry_at c k) { mode = z }) (list_here c.modes k m (subst (λ n. k < n) (sym s.modes) h))

pub mode_other : (k j : ℕ) (m : Option ℕ) (c : Calendar) → (j ≡ k → ⊥) → entry_at (with_mode k m c) j ≡ entry_at c j
mode_other k j m c n = ap (λ z. record (entry_at c j) { mode = z }) (list_other c.modes k j m n)
