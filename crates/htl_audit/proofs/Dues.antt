-- From when on a job may fall short that isn't noted yet.
use Rattle.std.proofs.Common.{◌≡◌, ◌≤◌, ◌<◌, ◌⊎◌, inl, inr, ℕ, zero, suc, ◌+◌, Bool, true, false, cond, ◌&&◌, ◌||◌, eqb, leb, ltb, min, List, [], ◌∷◌, length, get_or, set, Option, Some, None, refl, sym, ◌∙◌, ap, subst, arith}
use Rattle.htl_audit.proofs.Words.{eqb-true, lt-ltb, ltb-true, and_from, and_parts, Tables, Slice, LogKind, LogFault, AreDue, Kept, Roster, has_job, sum_at, length_at, start_at, end_at, release_at, ticks_of, kind_of, with_kind, judged, judged_to, fell_short, any_fell_short, settled, inv_takes, marked_within, or_with_false, cases_below_next}
use Rattle.htl_audit.proofs.{Passing.judged_leaves, Settling.short_found, Settling.short_there, Taking.taken_leaves, Taking.taken_length}

-- ---- lines

-- a line takes no ticks away
set_grows : (ns : List ℕ) (i n j : ℕ) → get_or ns i 0 ≤ n → get_or ns j 0 ≤ get_or (set ns i n) j 0
set_grows [] i n j h = omega arith
set_grows (m ∷ ns) zero n zero h = h
set_grows (m ∷ ns) (suc i) n (suc j) h = set_grows ns i n j h
set_grows (m ∷ ns) _ n _ h = omega arith

sums_grow : (t : Tables) (now : ℕ) (xs : List Slice) (k : Kept) (i : ℕ) → sum_at k.sums i ≤ sum_at (judged_to t now xs k).sums i
sums_grow t now [] k i = omega arith
sums_grow t now (x ∷ xs) k i = by k.fault (ltb x.to now) (sums_grow t now xs (judged t now x k) i)
  where
    one : (o : Option LogKind) → sum_at k.sums i ≤ sum_at (with_kind x o k).sums i
    one (Some c) = omega arith
    one None = set_grows k.sums x.inv (sum_at k.sums x.inv + ticks_of x) i (omega arith)

    by : (o : Option LogFault) (b : Bool) → sum_at (judged t now x k).sums i ≤ sum_at (judged_to t now xs (judged t now x k)).sums i
        → sum_at k.sums i ≤ sum_at (elim o as (λ _. Kept) [ Some f ↦ k | None ↦ cond b (judged_to t now xs (judged t now x k)) k ]).sums i
    by (Some f) b h = omega arith
    by None false h = omega arith
    by None true h = omega (arith, one (kind_of t now k x), h)

pub judged_due : (t : Tables) (now due : ℕ) (xs : List Slice) (k : Kept) → AreDue t due k → AreDue t due (judged_to t now xs k)
judged_due t now due xs k d i e =
    let l = judged_leaves t now xs k in
    let roster : (judged_to t now xs k).roster ≡ k.roster = l.roster in
    elim (d i (ap (λ o. has_job o i) (sym roster) ∙ e)) [
      | inl later ↦ inl (omega (arith, later, ap (λ o. start_at o i) roster))
      | inr noted ↦ inr (λ less. l.short ∙ noted (omega (arith, less, sums_grow t now xs k i, ap (λ o. length_at o i) roster)))
    ]

-- ---- windows that end

-- where nobody falls short, nothing is noted
pub none_noted : (t : Tables) (now : ℕ) (k : Kept) → any_fell_short t now k ≡ false → settled t now k ≡ k
none_noted t now k e = ap (λ b. record k { short = b }) (ap (λ b. k.short || b) e ∙ or_with_false k.short)

-- so it is where no window ends before the instant that isn't noted
pub none_due : (t : Tables) (now due : ℕ) (k : Kept) → AreDue t due k → now ≤ due → settled t now k ≡ k
none_due t now due k d soon = by (any_fell_short t now k) refl
  where
    by : (b : Bool) → any_fell_short t now k ≡ b → settled t now k ≡ k
    by false e = none_noted t now k e
    by true e =
        let f = short_found t now k e in
        elim (d f.0 f.1) [
          | inl later ↦ absurd (omega (arith, later, soon, f.2))
          | inr noted ↦ (let short = noted f.3 in ap (λ b. record k { short = b }) (ap (λ b. b || any_fell_short t now k) short ∙ sym short))
        ]

-- once it is noted who fell short before the instant
pub settled_due : (t : Tables) (now due : ℕ) (k : Kept) → length k.roster.stands ≡ length t.invs
    → ((i : ℕ) → has_job k.roster i ≡ true → (start_at k.roster i + end_at t i < now) ⊎ (due ≤ start_at k.roster i + end_at t i)) → AreDue t due (settled t now k)
settled_due t now due k rows next i e = elim (next i e) [
  | inl past ↦
      inr (λ less. ap (λ b. k.short || b) (short_there t now k i (omega (arith, marked_within k.roster.stands i e, rows)) e past less) ∙ or_true k.short)
  | inr later ↦ inl later
]
  where
    or_true : (b : Bool) → (b || true) ≡ true
    or_true true = refl
    or_true false = refl

-- one invocation more, of those whose windows end from the instant on
pub next_more : (t : Tables) (now due new n : ℕ) (o : Roster) → new ≤ due → (has_job o n ≡ true → (start_at o n + end_at t n < now) ⊎ (new ≤ start_at o n + end_at t n))
    → ((i : ℕ) → i < n → has_job o i ≡ true → (start_at o i + end_at t i < now) ⊎ (due ≤ start_at o i + end_at t i))
    → (i : ℕ) → i < n + 1 → has_job o i ≡ true → (start_at o i + end_at t i < now) ⊎ (new ≤ start_at o i + end_at t i)
next_more t now due new n o less here before i within e = elim (cases_below_next i n within) [
  | inl lower ↦ elim (before i lower e) [ inl past ↦ inl past | inr later ↦ inr (omega (arith, later, less)) ]
  | inr same ↦ subst (λ z. (start_at o z + end_at t z < now) ⊎ (new ≤ start_at o z + end_at t z)) (sym same) (here (ap (has_job o) (sym same) ∙ e))
]

-- ---- a length

pub taken_due : (t : Tables) (now i n due end : ℕ) (k : Kept) → i < length k.roster.lengths → end ≤ start_at k.roster i + end_at t i → AreDue t due k → AreDue t (min due end) (inv_takes t now i n k)
taken_due t now i n due end k room least d j e = by (eqb j i) refl
  where
    then : Kept
    then = inv_takes t now i n k

    start : start_at (inv_takes t now i n k).roster j ≡ start_at k.roster j
    start = ap (λ ns. get_or ns j 0) (taken_leaves t now i n k).starts

    by : (b : Bool) → eqb j i ≡ b → (min due end ≤ start_at (inv_takes t now i n k).roster j + end_at t j) ⊎ (sum_at (inv_takes t now i n k).sums j < length_at (inv_takes t now i n k).roster j → (inv_takes t now i n k).short ≡ true)
    by true is =
        let same : j ≡ i = eqb-true j i is in
        inl (omega (arith, least, start, ap (start_at k.roster) same, ap (end_at t) same))
    by false is =
        let l = taken_leaves t now i n k in
        let len : length_at (inv_takes t now i n k).roster j ≡ length_at k.roster j = taken_length t now i n j k room ∙ ap (λ b. cond (b && leb now (start_at k.roster i + release_at t i)) n (length_at k.roster j)) is in
        elim (d j (ap (λ bs. get_or bs j false) (sym l.stands) ∙ e)) [
          | inl later ↦ inl (omega (arith, later, start))
          | inr noted ↦ inr (λ less. l.short ∙ noted (omega (arith, less, len, ap (λ ns. sum_at ns j) l.sums)))
        ]
