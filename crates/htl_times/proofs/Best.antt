-- The greatest of what was seen.
use Rattle.std.proofs.Common.{◌≡◌, ℕ, suc, ◌+◌, ◌≤◌, ◌<◌, ◌⊎◌, inl, inr, Bool, true, false, ltb, cond, List, length, set, get_or, slice_get, Option, Some, None, refl, sym, ap, ◌∙◌, subst, arith, get_or-set_other, get_or-set_same}
use Rattle.std.proofs.{lemmas.Bool.cases_eq, lemmas.Bool.cases_lt, lemmas.Bool.ltb-true, lemmas.Bool.ltb-false, lemmas.Option.slice_get_within, Math.ListN.length-set}
use Rattle.htl_times.proofs.Words.{Place, paths, path_places, Tables, same_Some, SInstr, place}
use Rattle.htl_times.specs.{declared.greatest.Greatest.Greatest, Busy.busy, Busy.IsBusiestOf, Response.worst_finish, Response.FinishesAfter, Response.IsLatestOf}
use Rattle.htl_times.specs.Noting.{BusyBefore, greater_of, IsBest, SeenBefore, SeenTo, AreBestTo, AreBestBefore, AreEmpty, Tells, IsToldBy, rows_after}

-- ---- one row

-- it looks at what was seen alone
pub best_alike : (S R : ℕ → ℕ → Type 0) (o : Option Greatest) → ((q u : ℕ) → S q u → R q u) → ((q u : ℕ) → R q u → S q u) → IsBest S o → IsBest R o
best_alike S R None to from b = λ q u r. b q u (from q u r)
best_alike S R (Some l) to from b = (to l.path l.ticks b.0, λ q u r. b.1 q u (from q u r), λ q u r less. b.2 q u (from q u r) less)

-- one finish more, on a path that is no earlier
pub best_more : (S R : ℕ → ℕ → Type 0) (o : Option Greatest) (n ticks : ℕ) → ((q u : ℕ) → S q u → R q u) → ((q u : ℕ) → R q u → S q u ⊎ ((q ≡ n) × (u ≡ ticks))) → R n ticks → ((q u : ℕ) → S q u → q ≤ n)
    → IsBest S o → IsBest R (greater_of o ticks n)
best_more S R None n ticks to from here below b = (
  here,
  λ q u r. elim (from q u r) [ inl s ↦ absurd (b q u s) | inr e ↦ omega (arith, e.1) ],
  λ q u r less. elim (from q u r) [ inl s ↦ absurd (b q u s) | inr e ↦ absurd (omega (arith, e.0, less)) ],
)
best_more S R (Some l) n ticks to from here below b = by (ltb l.ticks ticks) refl
  where
    by : (c : Bool) → ltb l.ticks ticks ≡ c → IsBest R (cond c (Some (record { ticks = ticks; path = n })) (Some l))
    by true e =
        let less : l.ticks < ticks = ltb-true l.ticks ticks e in (
          here,
          λ q u r. elim (from q u r) [ inl s ↦ omega (arith, b.1 q u s, less) | inr g ↦ omega (arith, g.1) ],
          λ q u r m. elim (from q u r) [ inl s ↦ omega (arith, b.1 q u s, less) | inr g ↦ absurd (omega (arith, g.0, m)) ],
        )
    by false e =
        let more : ticks ≤ l.ticks = ltb-false l.ticks ticks e in (
          to l.path l.ticks b.0,
          λ q u r. elim (from q u r) [ inl s ↦ b.1 q u s | inr g ↦ omega (arith, g.1, more) ],
          λ q u r m. elim (from q u r) [ inl s ↦ b.2 q u s m | inr g ↦ absurd (omega (arith, g.0, m, below l.path l.ticks b.0)) ],
        )

-- ---- all rows

module _ (t : Tables) (lists : List (List SInstr)) (n : ℕ) where
  below_here : (p i q u : ℕ) → SeenTo t lists n p i q u → q ≤ n
  below_here p i q u (inl s) = omega (arith, s.0)
  below_here p i q u (inr s) = omega (arith, s.0)

  later_seen : (p i q u : ℕ) → SeenTo t lists n p i q u → SeenTo t lists n (suc p) i q u
  later_seen p i q u (inl s) = inl s
  later_seen p i q u (inr s) = inr (s.0, s.1, omega (arith, s.2))

  -- what is new at position p is what it tells
  at_position : (p i q u : ℕ) (x : Place) → slice_get (path_places t n) p ≡ Some x → SeenTo t lists n (suc p) i q u → SeenTo t lists n p i q u ⊎ ((q ≡ n) × Tells x (worst_finish t lists n p) i u)
  at_position p i q u x at (inl s) = inl (inl s)
  at_position p i q u x at (inr s) = elim (cases_lt s.1.position p) [
    | inl l ↦ inl (inr (s.0, s.1, l))
    | inr h ↦
        let f = s.1 in
        let same : f.position ≡ p = omega (arith, s.2, h) in
        let is : place i f.at ≡ x = same_Some (place i f.at) x (sym f.placed ∙ ap (slice_get (path_places t n)) same ∙ at) in
        inr (s.0, (sym (ap (λ (z : Place). z.inv) is), ap (worst_finish t lists n) (sym same) ∙ f.finishes ∙ ap (λ a. Some (a + u)) (ap (λ (z : Place). z.at) is)))
  ]

  told_there : (p i u : ℕ) (x : Place) → slice_get (path_places t n) p ≡ Some x → Tells x (worst_finish t lists n p) i u → SeenTo t lists n (suc p) i n u
  told_there p i u x at s =
      let is : x ≡ place i x.at = ap (λ (o : Option ℕ). let y : Place = record { inv = o; at = x.at } in y) s.0 in
      inr (refl, record { position = p; at = x.at; placed = at ∙ ap (λ (z : Place). Some z) is; finishes = s.1 }, omega arith)

  pub position_more : (p : ℕ) (x : Place) (rows : List (Option Greatest)) (r : Option (ℕ × ℕ)) → slice_get (path_places t n) p ≡ Some x → IsToldBy x (worst_finish t lists n p) r → AreBestTo t lists n p rows
      → AreBestTo t lists n (suc p) (rows_after rows n r)
  position_more p x rows None at none best i l =
      best_alike (SeenTo t lists n p i) (SeenTo t lists n (suc p) i) (get_or rows i None) (later_seen p i)
      (λ q u s. elim (at_position p i q u x at s) [ inl z ↦ z | inr z ↦ absurd (none i u z.1) ]) (best i l)
  position_more p x rows (Some r) at told best i l = elim (cases_eq r.0 i) [
    | inl same ↦ mine i same l'
    | inr other ↦
        subst (λ o. IsBest (SeenTo t lists n (suc p) i) o) (sym (get_or-set_other rows r.0 i new None (λ e. other (sym e))))
        (best_alike (SeenTo t lists n p i) (SeenTo t lists n (suc p) i) (get_or rows i None) (later_seen p i)
        (λ q u s. elim (at_position p i q u x at s) [ inl z ↦ z | inr z ↦ absurd (other (same_Some r.0 i (sym told.0 ∙ z.1.0))) ]) (best i l'))
  ]
    where
      new : Option Greatest
      new = greater_of (get_or rows r.0 None) r.1 n

      l' : i < length rows
      l' = omega (arith, l, length-set rows r.0 new)

      sum_same : (a u v : ℕ) → Some (a + u) ≡ Some (a + v) → u ≡ v
      sum_same a u v e = omega (arith, same_Some (a + u) (a + v) e)

      mine : (k : ℕ) → r.0 ≡ k → k < length rows → IsBest (SeenTo t lists n (suc p) k) (get_or (set rows r.0 new) k None)
      mine k e below =
          subst (λ m. IsBest (SeenTo t lists n (suc p) m) (get_or (set rows r.0 new) m None)) e
          (subst (λ o. IsBest (SeenTo t lists n (suc p) r.0) o) (sym (get_or-set_same rows r.0 new None (omega (arith, e, below))))
          (best_more (SeenTo t lists n p r.0) (SeenTo t lists n (suc p) r.0) (get_or rows r.0 None) n r.1 (later_seen p r.0)
          (λ q u s. elim (at_position p r.0 q u x at s) [ inl z ↦ inl z | inr z ↦ inr (z.0, sum_same x.at u r.1 (sym z.1.1 ∙ told.1)) ])
          (told_there p r.0 r.1 x at told) (below_here p r.0) (best r.0 (omega (arith, e, below)))))

  pub path_begins : (rows : List (Option Greatest)) → AreBestBefore t lists n rows → AreBestTo t lists n 0 rows
  path_begins rows best i l =
      best_alike (SeenBefore t lists n i) (SeenTo t lists n 0 i) (get_or rows i None) (λ q u s. inl s) (λ q u s. elim s [ inl z ↦ z | inr z ↦ absurd (omega (arith, z.2)) ]) (best i l)

  pub path_ends : (rows : List (Option Greatest)) → AreBestTo t lists n (length (path_places t n)) rows → AreBestBefore t lists (suc n) rows
  path_ends rows best i l = best_alike (SeenTo t lists n (length (path_places t n)) i) (SeenBefore t lists (suc n) i) (get_or rows i None) to from (best i l)
    where
      to : (q u : ℕ) → SeenTo t lists n (length (path_places t n)) i q u → SeenBefore t lists (suc n) i q u
      to q u (inl s) = (omega (arith, s.0), s.1)
      to q u (inr s) = (omega (arith, s.0), subst (λ m. FinishesAfter t lists i m u) (sym s.0) s.1)

      from : (q u : ℕ) → SeenBefore t lists (suc n) i q u → SeenTo t lists n (length (path_places t n)) i q u
      from q u s = elim (cases_lt q n) [
        | inl h ↦ inl (h, s.1)
        | inr h ↦
            let e : q ≡ n = omega (arith, s.0, h) in
            let f = subst (λ m. FinishesAfter t lists i m u) e s.1 in
            inr (e, f, slice_get_within (path_places t n) f.position (place i f.at) f.placed)
      ]

-- ---- busy paths

pub busy_more : (t : Tables) (n ticks : ℕ) (o : Option Greatest) → ticks ≡ busy t n → IsBest (BusyBefore t n) o → IsBest (BusyBefore t (suc n)) (greater_of o ticks n)
busy_more t n ticks o is best =
    best_more (BusyBefore t n) (BusyBefore t (suc n)) o n ticks
    (λ q u s. (omega (arith, s.0), s.1))
    (λ q u r. elim (cases_lt q n) [
      | inl h ↦ inl (h, r.1)
      | inr h ↦ let e : q ≡ n = omega (arith, r.0, h) in inr (e, r.1 ∙ ap (busy t) e ∙ sym is)
    ])
    (omega arith, is)
    (λ q u s. omega (arith, s.0))
    best

pub none_busy : (t : Tables) → IsBest (BusyBefore t 0) None
none_busy t path ticks s = absurd (omega (arith, s.0))

pub busiest_is : (t : Tables) (o : Option Greatest) → IsBest (BusyBefore t (paths t)) o → IsBusiestOf t o
busiest_is t None b = elim (cases_lt 0 (paths t)) [ inl h ↦ absurd (b 0 (busy t 0) (h, refl)) | inr h ↦ omega (arith, h) ]
busiest_is t (Some l) b = record {
  within = b.0.0;
  sum = b.0.1;
  most = λ path h. b.1 path (busy t path) (h, refl);
  first = λ path h. b.2 path (busy t path) (omega (arith, h, b.0.0), refl) h;
}

-- ---- first and last

pub nothing_seen : (t : Tables) (lists : List (List SInstr)) (rows : List (Option Greatest)) → AreEmpty rows → AreBestBefore t lists 0 rows
nothing_seen t lists rows e i l = subst (λ o. IsBest (SeenBefore t lists 0 i) o) (sym (e i l)) (λ q u s. absurd (omega (arith, s.0)))

pub latest_is : (t : Tables) (lists : List (List SInstr)) (i : ℕ) (o : Option Greatest) → IsBest (SeenBefore t lists (paths t) i) o → IsLatestOf t lists i o
latest_is t lists i None b = λ q u l f. b q u (l, f)
latest_is t lists i (Some l) b = record {
  within = b.0.0;
  reached = b.0.1;
  latest = λ q u less f. b.1 q u (less, f);
  first = λ q u less f. b.2 q u (omega (arith, less, b.0.0), f) less;
}

pub rows_kept : (rows : List (Option Greatest)) (n : ℕ) (r : Option (ℕ × ℕ)) → length (rows_after rows n r) ≡ length rows
rows_kept rows n None = refl
rows_kept rows n (Some r) = length-set rows r.0 (greater_of (get_or rows r.0 None) r.1 n)
