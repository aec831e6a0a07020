-- The lowest rank that is ready is that of the position that runs.
use Rattle.std.proofs.Common.{◌≡◌, ◌≢◌, ℕ, ◌+◌, ◌<◌, ◌≤◌, Bool, true, false, cond, ◌&&◌, ◌||◌, eqb, leb, ltb, List, length, get_or, set, Option, Some, None, refl, sym, ap, ◌∙◌, subst, arith, ⊎_elim, ℤ, ◌≤ℤ◌, get_or-set_same, get_or-set_other, eq-eqb, eqb-true, ne_eqb}
use Rattle.htl_edf.proofs.Words.{ints, cases_lt, both_ways, nat_tests, has_bit, has_no_bit, Job, earliest, edf, jobs_of, LeftAt, QuietFrom, number_of, time_of, end_time, release_time, AreRanked, IsAhead, IsReleased, release_at, end_at, tight, and_first, none_below}
use Rattle.htl_edf.proofs.{Jumps.edf_from_list, Ticks.Earliest, Ticks.earliest_is, Ranking.one_place}

-- ---- the earliest, from what it is

one_earliest : (s : ℕ → Bool) (due : ℕ → ℤ) (n p : ℕ) (o : Option ℕ) → p < n → s p ≡ true → ((q : ℕ) → q < n → s q ≡ true → (due p ≤ℤ due q) × (due q ≤ℤ due p → p ≤ q)) → Earliest s due n o → o ≡ Some p
one_earliest s due n p None l e h is = absurd (is p l e)
one_earliest s due n p (Some q) l e h is =
    let there = h q is.0 is.1 in
    let back = is.2 p l e in
    let same : q ≡ p = omega (arith, there.1 back.0, back.1 there.0) in
    ap Some same

none_earliest : (s : ℕ → Bool) (due : ℕ → ℤ) (n : ℕ) (o : Option ℕ) → ((q : ℕ) → q < n → s q ≡ false) → Earliest s due n o → o ≡ None
none_earliest s due n None h is = refl
none_earliest s due n (Some p) h is = absurd (both_ways (s p) (h p is.0) is.1)

-- the first n of the positions by release are released by t, and the row knows which of them have work left
pub record IsReleasing (js : List Job) (by_end by_release ls : List ℕ) (t ready n : ℕ) : Type 0 where
  pub count : n ≤ length js
  pub past : (m : ℕ) → m < n → time_of by_release m ≤ t
  pub on : (m : ℕ) → m < n → has_bit ready (number_of by_release m) ≡ ltb 0 (get_or ls (number_of by_end (number_of by_release m)) 0)
  pub off : (m : ℕ) → n ≤ m → m < length js → has_bit ready (number_of by_release m) ≡ false

-- ---- a bit more, or one less

bit_kept : (a b : Bool) → b ≡ false → a ≡ (a || b)
bit_kept true b e = refl
bit_kept false b e = sym e

module _ (js : List Job) (by_end by_release : List ℕ) (ranked : AreRanked js by_end by_release) where
  -- where a rank is among the releases
  place_of : (rank : ℕ) → rank < length js → (n : ℕ) × (n < length js) × (number_of by_release n ≡ rank) × (time_of by_release n ≡ release_time js (number_of by_end rank))
  place_of rank l =
      let n = ranked.releases.all rank l in
      (n.0, n.1, n.2, ranked.releases.times n.0 n.1 ∙ ap (λ x. release_time js (number_of by_end x)) n.2)

  pub released_later : (m n : ℕ) → m ≤ n → n < length js → time_of by_release m ≤ time_of by_release n
  released_later m n l below = ⊎_elim
      (λ (less : m < n). let up = ranked.releases.rises m n less below in omega (arith, up))
      (λ (same : n ≤ m). let e : m ≡ n = omega (arith, l, same) in subst (λ x. time_of by_release m ≤ time_of by_release x) e (omega arith))
      (cases_lt m n)

  -- a lower rank ends first, or is that of a lower position
  lower_first : (k j : ℕ) → k ≤ j → j < length js
      → (end_at (jobs_of js) (length js) (number_of by_end k) ≤ℤ end_at (jobs_of js) (length js) (number_of by_end j))
      × (end_at (jobs_of js) (length js) (number_of by_end j) ≤ℤ end_at (jobs_of js) (length js) (number_of by_end k) → number_of by_end k ≤ number_of by_end j)
  lower_first k j l below = ⊎_elim
      (λ (less : k < j).
      let up = ranked.ends.rises k j less below in
      let p = number_of by_end k in
      let q = number_of by_end j in
      let first = ranked.small p (ranked.ends.within k (omega (arith, less, below))) in
      let second = ranked.small q (ranked.ends.within j below) in
      let at = ranked.ends.times k (omega (arith, less, below)) in
      let to = ranked.ends.times j below in
      (omega (arith, ints, up, first, second, at, to), λ back. omega (arith, ints, up, first, second, at, to, back)))
      (λ (same : j ≤ k).
      let e : k ≡ j = omega (arith, l, same) in
      subst (λ x. (end_at (jobs_of js) (length js) (number_of by_end k) ≤ℤ end_at (jobs_of js) (length js) (number_of by_end x))
      × (end_at (jobs_of js) (length js) (number_of by_end x) ≤ℤ end_at (jobs_of js) (length js) (number_of by_end k) → number_of by_end k ≤ number_of by_end x)) e
      (omega (arith, ints), λ _. omega arith))
      (cases_lt k j)

  module _ (ls : List ℕ) (t until ready released : ℕ) (ahead : IsAhead js by_end by_release ls t until ready released) where
    -- before the next release, what is released is released before it
    as_now : t < until → (rank : ℕ) → rank < length js → ltb (release_time js (number_of by_end rank)) until ≡ leb (release_time js (number_of by_end rank)) t
    as_now early rank l =
        let n = place_of rank l in
        ⊎_elim
        (λ (b : n.0 < released). let past = ahead.past n.0 b in let at = n.3 in grind (arith, nat_tests))
        (λ (b : released ≤ n.0). let later = ahead.later n.0 b n.1 in let at = n.3 in grind (arith, nat_tests))
        (cases_lt n.0 released)

    pub quiet_ahead : QuietFrom js t until
    quiet_ahead = record {
      quiet = λ q l after.
          let rank = ranked.ends.all q l in
          let n = place_of rank.0 rank.1 in
          let at : time_of by_release n.0 ≡ release_at (jobs_of js) (length js) q = n.3 ∙ ap (release_time js) rank.2 in
          ⊎_elim
          (λ (b : n.0 < released). absurd (omega (arith, (ahead.past n.0 b).0, at, after)))
          (λ (b : released ≤ n.0). omega (arith, ahead.later n.0 b n.1, at))
          (cases_lt n.0 released);
    }

    ready_now : t < until → (rank : ℕ) → rank < length js → has_bit ready rank ≡ (leb (release_time js (number_of by_end rank)) t && ltb 0 (get_or ls (number_of by_end rank) 0))
    ready_now early rank l = ahead.row rank l ∙ ap (λ b. b && ltb 0 (get_or ls (number_of by_end rank) 0)) (as_now early rank l)

    pub lowest_runs : LeftAt js ls t → t < until → (rank : ℕ) → rank < length js → has_bit ready rank ≡ true → ((x : ℕ) → x < rank → has_bit ready x ≡ false) → edf (tight (jobs_of js)) t ≡ Some (number_of by_end rank)
    lowest_runs lefts early rank l found skipped =
        let n = length js in
        let s = λ (q : ℕ). leb (release_at (jobs_of js) n q) t && ltb 0 (get_or ls q 0) in
        let ends = end_at (jobs_of js) n in
        sym (edf_from_list js ls t lefts)
        ∙ one_earliest s ends n (number_of by_end rank) (earliest s ends n) (ranked.ends.within rank l) (sym (ready_now early rank l) ∙ found)
        (λ q k e.
        let other = ranked.ends.all q k in
        let is : has_bit ready other.0 ≡ true = ready_now early other.0 other.1 ∙ ap s other.2 ∙ e in
        let higher : rank ≤ other.0 = ⊎_elim (λ (b : other.0 < rank). absurd (both_ways (has_bit ready other.0) (skipped other.0 b) is)) (λ b. b) (cases_lt other.0 rank) in
        subst (λ x. (ends (number_of by_end rank) ≤ℤ ends x) × (ends x ≤ℤ ends (number_of by_end rank) → number_of by_end rank ≤ x)) other.2 (lower_first rank other.0 higher other.1))
        (earliest_is s ends n)

    pub none_runs : LeftAt js ls t → t < until → ((x : ℕ) → x < length js → has_bit ready x ≡ false) → edf (tight (jobs_of js)) t ≡ None
    none_runs lefts early skipped =
        let n = length js in
        let s = λ (q : ℕ). leb (release_at (jobs_of js) n q) t && ltb 0 (get_or ls q 0) in
        let ends = end_at (jobs_of js) n in
        sym (edf_from_list js ls t lefts)
        ∙ none_earliest s ends n (earliest s ends n)
        (λ q k. let rank = ranked.ends.all q k in sym (ap s rank.2) ∙ sym (ready_now early rank.0 rank.1) ∙ skipped rank.0 rank.1)
        (earliest_is s ends n)

    -- time goes on
    -- the position of a rank ran
    pub ahead_after : (event new rank p now : ℕ) → p ≡ number_of by_end rank → t ≤ event → rank < length js → p < length ls → has_bit ready rank ≡ true
        → ((r : ℕ) → has_bit new r ≡ cond (eqb r rank) (has_bit ready rank && ltb 0 now) (has_bit ready r)) → IsAhead js by_end by_release (set ls p now) event until new released
    ahead_after event new rank p now is l below within found bits = subst (λ x. IsAhead js by_end by_release (set ls x now) event until new released) (sym is) record {
      row = λ r k. bits r ∙ by r k (eqb r rank) refl;
      count = ahead.count;
      past = λ n b. let p = ahead.past n b in (omega (arith, p.0, l), p.1);
      later = ahead.later;
    }
      where
        room : number_of by_end rank < length ls
        room = omega (arith, within, is)

        by : (r : ℕ) → r < length js → (b : Bool) → eqb r rank ≡ b
            → cond b (has_bit ready rank && ltb 0 now) (has_bit ready r) ≡ (ltb (release_time js (number_of by_end r)) until && ltb 0 (get_or (set ls (number_of by_end rank) now) (number_of by_end r) 0))
        by r k true e =
            let same : r ≡ rank = eqb-true r rank e in
            let released_before = and_first (ltb (release_time js (number_of by_end rank)) until) (ltb 0 (get_or ls (number_of by_end rank) 0)) (sym (ahead.row rank below) ∙ found) in
            ap (λ b. b && ltb 0 now) (found ∙ sym released_before)
            ∙ ap (λ x. ltb (release_time js (number_of by_end rank)) until && ltb 0 x) (sym (get_or-set_same ls (number_of by_end rank) now 0 room))
            ∙ ap (λ x. ltb (release_time js (number_of by_end x)) until && ltb 0 (get_or (set ls (number_of by_end rank) now) (number_of by_end x) 0)) (sym same)
        by r k false e =
            let other : r ≢ rank = λ same. let no : true ≡ false = sym (eq-eqb r rank same) ∙ e in cc in
            ahead.row r k
            ∙ ap (λ x. ltb (release_time js (number_of by_end r)) until && ltb 0 x)
            (sym (get_or-set_other ls (number_of by_end rank) (number_of by_end r) now 0 (λ same. other (one_place (length js) (end_time js) by_end ranked.ends r rank k below same))))

  -- ---- positions released one after the other

  pub releasing_start : (ls : List ℕ) (t until ready released : ℕ) → IsAhead js by_end by_release ls t until ready released → IsReleasing js by_end by_release ls t ready released
  releasing_start ls t until ready released ahead = record {
    count = ahead.count;
    past = λ m b. (ahead.past m b).0;
    on = λ m b.
        let l : m < length js = omega (arith, b, ahead.count) in
        let at = ranked.releases.times m l in
        let before = (ahead.past m b).1 in
        let is : ltb (release_time js (number_of by_end (number_of by_release m))) until ≡ true = grind (arith, nat_tests) in
        ahead.row (number_of by_release m) (ranked.releases.within m l) ∙ ap (λ b. b && ltb 0 (get_or ls (number_of by_end (number_of by_release m)) 0)) is;
    off = λ m b l.
        let at = ranked.releases.times m l in
        let after = ahead.later m b l in
        let is : ltb (release_time js (number_of by_end (number_of by_release m))) until ≡ false = grind (arith, nat_tests) in
        ahead.row (number_of by_release m) (ranked.releases.within m l) ∙ ap (λ b. b && ltb 0 (get_or ls (number_of by_end (number_of by_release m)) 0)) is;
  }

  pub releasing_more : (ls : List ℕ) (t ready new n : ℕ) (here : Bool) → IsReleasing js by_end by_release ls t ready n → n < length js → time_of by_release n ≤ t
      → here ≡ ltb 0 (get_or ls (number_of by_end (number_of by_release n)) 0) → ((p : ℕ) → has_bit new p ≡ (has_bit ready p || (eqb p (number_of by_release n) && here))) → IsReleasing js by_end by_release ls t new (n + 1)
  releasing_more ls t ready new n here so_far below soon is bits = record {
    count = omega (arith, below);
    past = λ m b. ⊎_elim (λ (l : m < n). so_far.past m l) (λ (l : n ≤ m). let e : n ≡ m = omega (arith, b, l) in subst (λ x. time_of by_release x ≤ t) e soon) (cases_lt m n);
    on = λ m b. ⊎_elim
        (λ (l : m < n). kept m (omega (arith, l, below)) (omega (arith, l)) ∙ so_far.on m l)
        (λ (l : n ≤ m). let e : n ≡ m = omega (arith, b, l) in subst (λ x. has_bit new (number_of by_release x) ≡ ltb 0 (get_or ls (number_of by_end (number_of by_release x)) 0)) e added)
        (cases_lt m n);
    off = λ m b l. kept m l (omega (arith, b)) ∙ so_far.off m (omega (arith, b)) l;
  }
    where
      added : has_bit new (number_of by_release n) ≡ ltb 0 (get_or ls (number_of by_end (number_of by_release n)) 0)
      added =
          bits (number_of by_release n) ∙ ap (λ b. b || (eqb (number_of by_release n) (number_of by_release n) && here)) (so_far.off n (omega arith) below)
          ∙ ap (λ b. b && here) (eq-eqb (number_of by_release n) (number_of by_release n) refl) ∙ is

      kept : (m : ℕ) → m < length js → m ≢ n → has_bit new (number_of by_release m) ≡ has_bit ready (number_of by_release m)
      kept m l other =
          let apart = ne_eqb (number_of by_release m) (number_of by_release n) (λ e. other (one_place (length js) (λ rank. release_time js (number_of by_end rank)) by_release ranked.releases m n l below e)) in
          bits (number_of by_release m) ∙ sym (bit_kept (has_bit ready (number_of by_release m)) (eqb (number_of by_release m) (number_of by_release n) && here) (ap (λ b. b && here) apart))

  pub releasing_done : (ls : List ℕ) (t ready n : ℕ) → IsReleasing js by_end by_release ls t ready n → (n < length js → t < time_of by_release n) → IsReleased js by_end by_release ls t ready n
  releasing_done ls t ready n so_far next = record { row = row; count = so_far.count; past = so_far.past; later = later }
    where
      later : (m : ℕ) → n ≤ m → m < length js → t < time_of by_release m
      later m b l = omega (arith, released_later n m b l, next (omega (arith, b, l)))

      row : (rank : ℕ) → rank < length js → has_bit ready rank ≡ (ltb (release_time js (number_of by_end rank)) (t + 1) && ltb 0 (get_or ls (number_of by_end rank) 0))
      row rank l =
          let m = place_of rank l in
          ⊎_elim
          (λ (b : m.0 < n).
          let past = so_far.past m.0 b in
          let at = m.3 in
          let is : ltb (release_time js (number_of by_end rank)) (t + 1) ≡ true = grind (arith, nat_tests) in
          sym (ap (has_bit ready) m.2) ∙ so_far.on m.0 b ∙ ap (λ x. ltb 0 (get_or ls (number_of by_end x) 0)) m.2 ∙ ap (λ b. b && ltb 0 (get_or ls (number_of by_end rank) 0)) (sym is))
          (λ (b : n ≤ m.0).
          let after = later m.0 b m.1 in
          let at = m.3 in
          let is : ltb (release_time js (number_of by_end rank)) (t + 1) ≡ false = grind (arith, nat_tests) in
          sym (ap (has_bit ready) m.2) ∙ so_far.off m.0 b m.1 ∙ ap (λ b. b && ltb 0 (get_or ls (number_of by_end rank) 0)) (sym is))
          (cases_lt m.0 n)

  -- the next release is known again
  pub ahead_again : (ls : List ℕ) (t until ready released : ℕ) → IsReleased js by_end by_release ls t ready released → t < until
      → ((n : ℕ) → released ≤ n → n < length js → until ≤ time_of by_release n) → IsAhead js by_end by_release ls t until ready released
  ahead_again ls t until ready released is early later = record {
    row = λ rank l. is.row rank l ∙ ap (λ b. b && ltb 0 (get_or ls (number_of by_end rank) 0)) (as_then rank l);
    count = is.count;
    past = λ n b. (is.past n b, omega (arith, is.past n b, early));
    later = later;
  }
    where
      as_then : (rank : ℕ) → rank < length js → ltb (release_time js (number_of by_end rank)) (t + 1) ≡ ltb (release_time js (number_of by_end rank)) until
      as_then rank l =
          let n = place_of rank l in
          ⊎_elim
          (λ (b : n.0 < released). let past = is.past n.0 b in let at = n.3 in grind (arith, nat_tests))
          (λ (b : released ≤ n.0). let after = later n.0 b n.1 in let at = n.3 in grind (arith, nat_tests))
          (cases_lt n.0 released)

  pub ahead_start : (ls : List ℕ) (t : ℕ) → IsAhead js by_end by_release ls t 0 0 0
  ahead_start ls t = record {
    row = λ rank l. has_no_bit rank ∙ sym (ap (λ b. b && ltb 0 (get_or ls (number_of by_end rank) 0)) (none_below (release_time js (number_of by_end rank))));
    count = omega arith;
    past = λ n b. absurd (omega (arith, b));
    later = λ n b l. omega arith;
  }
