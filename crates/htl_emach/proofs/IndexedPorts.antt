-- What a port's own mode says, and how few functions the tasks have.
use Rattle.std.proofs.Common.{◌≡◌, ℕ, zero, suc, ◌<◌, ◌≤◌, Bool, true, false, cond, eqb, ◌*◌, length, slice_get, Option, Some, None, refl, sym, ap, ◌∙◌, arith}
use Rattle.htl_emach.proofs.Words.{nat_tests, slice_get_within, Port, Tables, count_at, count_before, Task, AreInRange, IsTaskInRange, writer_from, writer_of, is_own, each_at}

-- ---- ports

own_of : (t : Tables) (m p : ℕ) (o : Option Port) → slice_get t.ports p ≡ o → is_own t m p ≡ true → (x : Port) × (slice_get t.ports p ≡ Some x) × (x.mode ≡ m)
own_of t m p None e own = absurd (let is : elim (slice_get t.ports p) as (λ _. Bool) [ Some x ↦ eqb x.mode m | None ↦ false ] ≡ false = ap (λ (o : Option Port). elim o as (λ _. Bool) [ Some x ↦ eqb x.mode m | None ↦ false ]) e in let no : false ≡ true = sym is ∙ own in cc)
own_of t m p (Some x) e own =
    let is : eqb x.mode m ≡ true = sym (ap (λ (o : Option Port). elim o as (λ _. Bool) [ Some x ↦ eqb x.mode m | None ↦ false ]) e) ∙ own in
    (x, e, grind (arith, nat_tests))

pub own_within : (t : Tables) (m p : ℕ) → is_own t m p ≡ true → p < length t.ports
own_within t m p own = let x = own_of t m p (slice_get t.ports p) refl own in slice_get_within t.ports p x.0 x.1

pub own_writer : (t : Tables) (m p : ℕ) → is_own t m p ≡ true → writer_of t p ≡ writer_from m p 0 t.invs
own_writer t m p own =
    let x = own_of t m p (slice_get t.ports p) refl own in
    ap (λ (o : Option Port). elim o as (λ _. Option (ℕ × ℕ)) [ Some y ↦ writer_from y.mode p 0 t.invs | None ↦ None ]) x.1
    ∙ ap (λ n. writer_from n p 0 t.invs) x.2

-- ---- functions

few_at : (o : Option Task) → ((x : Task) → o ≡ Some x → length x.outputs ≤ 256) → count_at o ≤ 256
few_at None h = omega arith
few_at (Some x) h = by_kind x.is_abstract
  where
    by_kind : (b : Bool) → cond b 0 (length x.outputs) ≤ 256
    by_kind true = omega arith
    by_kind false = h x refl

pub count_few : (t : Tables) → AreInRange t → (n : ℕ) → count_before n t.tasks ≤ 256 * n
count_few t r zero = omega arith
count_few t r (suc n) =
    let before = count_few t r n in
    let here = few_at (slice_get t.tasks n) (λ x e. (each_at (IsTaskInRange t) t.tasks r.tasks n x e).few_outputs) in
    omega (arith, before, here)
