-- From an instant to a later one over the same rounds: what an auditor follows of a log carries over.
use Rattle.std.proofs.Common.{◌≡◌, ℕ, zero, suc, ◌+◌, ◌-◌, ◌≤◌, ◌<◌, ◌⊎◌, inl, inr, Bool, true, false, cond, not, ◌&&◌, ◌||◌, ltb, List, [], ◌∷◌, ◌++◌, length, take, drop, Option, Some, None, IfSome, is_some, refl, sym, ◌∙◌, ap, subst, arith}
use Rattle.htl_audit.proofs.Words.{slice_get, Tables, Slice, LogKind, LogFault, BeginningJobs, any_short, last_end, line_fault, slice_is_out_of_order, any_job, lies_in, is_over, is_free, Agree, Kept, start_at, kind_of, with_kind, judged, judged_to, settled, passed, any_fell_short, IsNext, AreJudged, IsLate, BeganBefore, AreSummed, LogFollows, none-some, ltb-false, length-set, item_at, slice_get_within}
use Rattle.htl_audit.proofs.{Judging.kept_line, Onward.fault_stays, Onward.lines_between, Onward.get_drop, Settling.short_later, Steps.judged_stopped, Summing.last_more}
use Rattle.htl_base.proofs.Places.{from_take}
use Rattle.std.proofs.{Math.Seq.take-add, lemmas.List.length-take-le}
use Rattle.htl_smach.proofs.RoundRecords.{take_more_get}

-- ---- judging leaves the roster, the jobs that fell short and how many sums there are

pub record IsLeft (k new : Kept) : Type 0 where
  pub roster : new.roster ≡ k.roster
  pub short : new.short ≡ k.short
  pub sums : length new.sums ≡ length k.sums

pub judged_leaves : (t : Tables) (now : ℕ) (xs : List Slice) (k : Kept) → IsLeft k (judged_to t now xs k)
judged_leaves t now [] k = record { roster = refl; short = refl; sums = refl }
judged_leaves t now (x ∷ xs) k = by k.fault (ltb x.to now) (judged_leaves t now xs (judged t now x k))
  where
    one : (o : Option LogKind) → IsLeft k (with_kind x o k)
    one (Some c) = record { roster = refl; short = refl; sums = refl }
    one None = record { roster = refl; short = refl; sums = length-set k.sums x.inv _ }

    by : (o : Option LogFault) (b : Bool) → IsLeft (judged t now x k) (judged_to t now xs (judged t now x k)) → IsLeft k (elim o as (λ _. Kept) [ Some f ↦ k | None ↦ cond b (judged_to t now xs (judged t now x k)) k ])
    by (Some f) b l = record { roster = refl; short = refl; sums = refl }
    by None false l = record { roster = refl; short = refl; sums = refl }
    by None true l = let z = one (kind_of t now k x) in record { roster = l.roster ∙ z.roster; short = l.short ∙ z.short; sums = l.sums ∙ z.sums }

-- ---- what fell short is no part of what is judged

pub short_next : (t : Tables) (rounds : List BeginningJobs) (now : ℕ) (log : List Slice) (next : Option Slice) (k : Kept) (b : Bool) (o : Option LogFault) → IsNext t rounds now log next k o → IsNext t rounds now log next (record k { short = b }) o
short_next t rounds now log next k b (Some g) n = n
short_next t rounds now log next k b None n = (record { kept = n.0.kept; place = n.0.place; end = n.0.end; room = n.0.room; sums = n.0.sums; done = n.0.done }, n.1)

-- ---- lines that keep the rules end one after the other

pub get_before : (xs : List Slice) (n : ℕ) (x : Slice) → slice_get xs (suc n) ≡ Some x → (y : Slice) × (slice_get xs n ≡ Some y)
get_before xs n x e = item_at xs n (omega (arith, slice_get_within xs (suc n) x e))

-- behind a line that ends at `at` or later, all do
all_late : (rounds : List BeginningJobs) (now at c : ℕ) (log : List Slice) (e : ℕ) → ((i : ℕ) (x : Slice) → i < e → slice_get log i ≡ Some x → (line_fault rounds now ([] ++ take i log) x ≡ None) × (x.to < now))
    → IfSome (slice_get log c) (λ x. at ≤ x.to) → (d : ℕ) (x : Slice) → c + d < e → slice_get log (c + d) ≡ Some x → at ≤ x.to
all_late rounds now at c log e keep first zero x h here = subst (λ o. IfSome o (λ (y : Slice). at ≤ y.to)) (ap (slice_get log) (let z : c ≡ c + 0 = omega arith in z) ∙ here) first
all_late rounds now at c log e keep first (suc d) x h here =
    let next : slice_get log (suc (c + d)) ≡ Some x = ap (slice_get log) (let z : suc (c + d) ≡ c + suc d = omega arith in z) ∙ here in
    let y = get_before log (c + d) x next in
    let was : at ≤ y.0.to = all_late rounds now at c log e keep first d y.0 (omega (arith, h)) y.1 in
    let two = keep (suc (c + d)) x (omega (arith, h)) next in
    let end : last_end (take (suc (c + d)) log) ≡ y.0.to = ap last_end (take_more_get log (c + d) y.0 y.1) ∙ last_more (take (c + d) log) y.0 in
    let own = kept_line rounds now (take (suc (c + d)) log) x two.0 in
    omega (arith, was, end, own.order, own.room)

-- ---- from one instant to a later one

module _ (t : Tables) (rounds : List BeginningJobs) (at later : ℕ) (order : at ≤ later) (agree : Agree at rounds rounds) (log : List Slice) (k : Kept) (rows : length k.roster.stands ≡ length t.invs) (f : LogFollows t rounds at log k) where
  near : at ≤ suc at
  near = omega arith

  began_later : (k1 : Kept) → k1.roster ≡ k.roster → BeganBefore later k1
  began_later k1 same i =
      elim (f.began i) [
        | inl b ↦ inl (omega (arith, b, order, ap (λ o. start_at o i) same))
        | inr z ↦ inr (ap (λ o. start_at o i) same ∙ z)
      ]

  -- behind a fault nothing more is judged
  after_fault : (g : LogFault) → k.fault ≡ Some g → LogFollows t rounds later log (passed t later (drop k.place log) k)
  after_fault g e = subst (λ z. LogFollows t rounds later log (settled t later z)) (sym same) here
    where
      same : judged_to t later (drop k.place log) k ≡ k
      same = judged_stopped t later (drop k.place log) k (ap (λ (o : Option LogFault). is_some o) e)

      stays : AreJudged t rounds later [] log k
      stays = fault_stays t rounds at at near log k f.judged rounds later agree order g e

      here : LogFollows t rounds later log (settled t later k)
      here =
          record {
            judged = record { count = stays.count; few = stays.few; keep = stays.keep; next = short_next t rounds later ([] ++ take stays.count log) (slice_get log stays.count) k (k.short || any_fell_short t later k) k.fault stays.next };
            short = λ none. absurd (none-some g (sym none ∙ e));
            began = began_later (settled t later k) refl;
          }

  -- without one the lines between are
  without_fault : k.fault ≡ None → LogFollows t rounds later log (passed t later (drop k.place log) k)
  without_fault e = subst (λ n. LogFollows t rounds later log (passed t later (drop n log) k)) (sym place) here
    where
      c : ℕ
      c = f.judged.count

      now : AreSummed t rounds (take c log) k × IfSome (slice_get log c) (λ x. at ≤ x.to)
      now = subst (λ o. IsNext t rounds at ([] ++ take c log) (slice_get log c) k o) e f.judged.next

      place : k.place ≡ c
      place = now.0.place ∙ length-take-le c log f.judged.few

      late : (xs : List Slice) → slice_get xs 0 ≡ slice_get log c → IsLate at k xs
      late [] g = tt
      late (x ∷ xs) g = inl (subst (λ o. IfSome o (λ (y : Slice). at ≤ y.to)) (sym g) now.1)

      k1 : Kept
      k1 = judged_to t later (drop c log) k

      between : (j : AreJudged t rounds later [] log k1) × (c ≤ j.count)
      between = lines_between t rounds at at near log k f.judged rounds later agree order at now.0 e f.began (late (drop c log) (get_drop log c 0 ∙ ap (slice_get log) (let z : c + 0 ≡ c = omega arith in z)))

      j : AreJudged t rounds later [] log k1
      j = between.0

      left : IsLeft k k1
      left = judged_leaves t later (drop c log) k

      more : List Slice
      more = take (j.count - c) (drop c log)

      whole : take j.count log ≡ take c log ++ more
      whole = ap (λ n. take n log) (let z : j.count ≡ c + (j.count - c) = omega (arith, between.1) in z) ∙ take-add c (j.count - c) log

      behind : (i : ℕ) (x : Slice) → slice_get more i ≡ Some x → at ≤ x.to
      behind i x here =
          let g = from_take (drop c log) (j.count - c) i x here in
          all_late rounds later at c log j.count j.keep now.1 i x (omega (arith, g.0)) (sym (get_drop log c i) ∙ g.1)

      short_is : k1.fault ≡ None → (k1.short || any_fell_short t later k1) ≡ any_short rounds later (take j.count log)
      short_is none =
          let s : AreSummed t rounds (take j.count log) k1 × IfSome (slice_get log j.count) (λ x. later ≤ x.to) = subst (λ o. IsNext t rounds later ([] ++ take j.count log) (slice_get log j.count) k1 o) none j.next in
          let s' : AreSummed t rounds (take c log ++ more) k1 = subst (λ xs. AreSummed t rounds xs k1) whole s.0 in
          let fell = short_later t rounds at later order agree (take c log) more k1 s' (ap (λ o. length o.stands) left.roster ∙ rows) (λ i. began_at i) behind in
          ap (λ b. b || any_fell_short t later k1) (left.short ∙ f.short e) ∙ sym fell ∙ ap (any_short rounds later) (sym whole)
        where
          began_at : BeganBefore at k1
          began_at i = subst (λ o. (start_at o i < at) ⊎ (start_at o i ≡ 0)) (sym left.roster) (f.began i)

      here : LogFollows t rounds later log (passed t later (drop c log) k)
      here =
          record {
            judged = record { count = j.count; few = j.few; keep = j.keep; next = short_next t rounds later ([] ++ take j.count log) (slice_get log j.count) k1 (k1.short || any_fell_short t later k1) k1.fault j.next };
            short = short_is;
            began = began_later (settled t later k1) left.roster;
          }

  pub passed_follows : LogFollows t rounds later log (passed t later (drop k.place log) k)
  passed_follows = by k.fault refl
    where
      by : (o : Option LogFault) → k.fault ≡ o → LogFollows t rounds later log (passed t later (drop k.place log) k)
      by (Some g) e = after_fault g e
      by None e = without_fault e
