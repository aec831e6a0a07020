-- The fields of a machine and its round.
use Rattle.std.proofs.Common.{◌≡◌, ℕ, zero, suc, ◌+◌, ◌-◌, ◌≤◌, ◌<◌, Bool, true, false, cond, not, List, [], ◌∷◌, ◌++◌, length, get_or, set, take, replicate, Option, Some, None, IfSome, refl, sym, ap, ap₂, ◌∙◌, arith, inl, inr, ltb, eqb, add-one, get_or-set_same, get_or-set_other}
use Rattle.htl_smach.proofs.Words.{cases_lt, cases_eq, nat_tests, length-take, ext_get_or, get_or-take, job_there, work_present, length-set, take-set-lt, take-append_seam, has_bit, Job, job_at, work, HaveLengths, Inside, Step, inside_round, Round, added_from, state_by, state_of, IsEven, flags, IsPut, state_in, HaveBegun, AreStates, PositionStates, put_work, point_of, work_length, job_front}
use Rattle.htl_smach.proofs.{Flags.flag_at, Flags.length-flags, Flags.flags_put, Flags.flags_more, Joined.job_left, Joined.job_right, Joined.get_left, Joined.get_right, Joined.behind, Finishing.none_left}
use Rattle.htl_smach.proofs.RoundRecords.{with_length, with_release, absent_idle}

pub below_count : {X : Type 0} (n : ℕ) (xs : List X) (p : ℕ) → p < length (take n xs) → p < n
below_count n xs p h = omega (arith, length-take n xs)

length-set-take : (n p v : ℕ) (xs : List ℕ) → n ≤ length xs → length (set (take n xs) p v) ≡ n
length-set-take n p v xs h = simp (length-set, length-take) (omega arith)

-- a place in the front part of a list is written
set_front : (n p v : ℕ) (xs ys : List ℕ) → n ≤ length xs → take n (set (take n xs) p v ++ ys) ≡ set (take n xs) p v
set_front n p v xs ys h =
    ap (λ k. take k (set (take n xs) p v ++ ys)) (sym (length-set-take n p v xs h)) ∙ take-append_seam (set (take n xs) p v) ys

pub holds_length : (m : Inside) (p n : ℕ) (ys zs fs : List ℕ) → m.count ≤ length m.lengths → m.count ≤ length m.left → m.count ≤ length m.first
    → inside_round (record m { lengths = set (take m.count m.lengths) p n ++ ys; left = set (take m.count m.left) p n ++ zs; first = set (take m.count m.first) p n ++ fs }) ≡ with_length (inside_round m) p n
holds_length m p n ys zs fs h k l =
    ap₂ (λ (ls ws : List ℕ). record (inside_round m) { lengths = ls; first = record { time = m.from; left = take m.count (set (take m.count m.first) p n ++ fs) }; point = record { time = m.time; left = ws } })
    (set_front m.count p n m.lengths ys h) (set_front m.count p n m.left zs k)
    ∙ ap (λ (ws : List ℕ). record (inside_round m) { lengths = set (take m.count m.lengths) p n; first = record { time = m.from; left = ws }; point = record { time = m.time; left = set (take m.count m.left) p n } })
    (set_front m.count p n m.first fs l)

pub holds_release : (m : Inside) (x : PositionStates) (p : ℕ) → p < m.count → IsPut m.states.released x.released p true → inside_round (record m { states = x }) ≡ with_release (inside_round m) p
holds_release m x p h put = ap (λ (bs : List Bool). record (inside_round m) { released = bs }) (flags_put m.count m.states.released x.released p h put)

pub take-put_work : (n : ℕ) (left : List ℕ) (o : Option ℕ) (rest : ℕ) → IfSome o (λ p. p < length (take n left)) → take n (put_work left o rest) ≡ put_work (take n left) o rest
take-put_work n left None rest h = refl
take-put_work n left (Some p) rest h = take-set-lt n left p rest (below_count n left p h)

pub holds_left : (m n : Inside) (y : PositionStates) (x : Step) (len : ℕ) → n ≡ record m { left = put_work m.left x.position x.rest; states = y } → y.released ≡ m.states.released
    → IfSome x.position (λ p. p < length (take m.count m.left))
    → inside_round (record n { running = ltb (n.place + 1) len; place = n.place + 1; time = x.time })
    ≡ record (inside_round m) { running = ltb (suc m.place) len; place = suc m.place; point = point_of (take m.count m.left) x }
holds_left m n y x len e same h =
    ap (λ (z : Inside). inside_round (record z { running = ltb (z.place + 1) len; place = z.place + 1; time = x.time })) e
    ∙ ap (λ row. record (inside_round m) { running = ltb (m.place + 1) len; place = m.place + 1; released = flags m.count row; point = record { time = x.time; left = take m.count (put_work m.left x.position x.rest) } }) same
    ∙ ap₂ (λ (k : ℕ) (ws : List ℕ). record (inside_round m) { running = ltb k len; place = k; point = record { time = x.time; left = ws } })
    (add-one m.place) (take-put_work m.count m.left x.position x.rest h)

pub work_at : (js : List Job) (ns : List ℕ) (p : ℕ) (d : Job) → p < length js → p < length ns → get_or (work js ns) p 0 ≡ cond (get_or js p d).present (get_or ns p 0) 0
work_at [] ns p d h k = absurd (omega arith)
work_at (j ∷ js) [] p d h k = absurd (omega arith)
work_at (j ∷ js) (n ∷ ns) zero d h k = refl
work_at (j ∷ js) (n ∷ ns) (suc p) d h k = work_at js ns p d (omega arith) (omega arith)

pub work_filled : (js : List Job) (ns left : List ℕ) → length left ≡ length js → ((q : ℕ) → q < length js → get_or left q 0 ≡ get_or (work js ns) q 0) → left ≡ work js ns
work_filled js ns left same each =
    ext_get_or 0 left (work js ns) (same ∙ sym (work_length js ns)) (λ q h. each q (omega arith))

pub work_more : (js : List Job) (ns left : List ℕ) (p x : ℕ) → p < length left → ((q : ℕ) → q < p → get_or left q 0 ≡ get_or (work js ns) q 0)
    → x ≡ get_or (work js ns) p 0 → (q : ℕ) → q < p + 1 → get_or (set left p x) q 0 ≡ get_or (work js ns) q 0
work_more js ns left p x below old new q h =
    elim (cases_eq q p) [
      | inl e ↦
          ap (λ k. get_or (set left p x) k 0) e ∙ get_or-set_same left p x 0 below ∙ new ∙ ap (λ k. get_or (work js ns) k 0) (sym e)
      | inr d ↦ get_or-set_other left p q x 0 d ∙ old q (omega arith)
    ]

pub work_here : (js : List Job) (ns : List ℕ) (p : ℕ) (d : Job) → p < length js → length ns ≡ length js → (get_or js p d).present ≡ true → get_or (work js ns) p 0 ≡ get_or ns p 0
work_here js ns p d h k e = work_at js ns p d h (omega arith) ∙ ap (λ b. cond b (get_or ns p 0) 0) e

pub work_absent : (js : List Job) (ns : List ℕ) (p : ℕ) (d : Job) → p < length js → length ns ≡ length js → (get_or js p d).present ≡ false → get_or (work js ns) p 0 ≡ 0
work_absent js ns p d h k e = work_at js ns p d h (omega arith) ∙ ap (λ b. cond b (get_or ns p 0) 0) e

some_work : (n : ℕ) → 1 ≤ n → eqb n 0 ≡ false
some_work n h = grind (arith, nat_tests)

pub holds_state : (m : Inside) (p : ℕ) → AreStates m.states m.count m.jobs m.left → p < m.count → state_in m.states p ≡ state_of (inside_round m) p
holds_state m p are below =
    ap₂ (λ (a b : Bool). state_by a b (has_bit m.states.released p))
    (are.present p below ∙ ap (λ (j : Job). j.present) (sym (job_front m.count m.jobs p below)))
    (are.done p below ∙ ap (λ w. eqb w 0) (sym (get_or-take m.count m.left p 0 below)))
    ∙ ap (λ b. state_by (job_at (take m.count m.jobs) p).present (eqb (get_or (take m.count m.left) p 0) 0) b) (sym (flag_at m.count m.states.released p below))

-- a machine's round is even
pub holds_even : (m : Inside) → m.count ≤ length m.jobs → m.count ≤ length m.lengths → m.count ≤ length m.left → IsEven (inside_round m)
holds_even m a b d =
    record {
      lengths = omega (arith, length-take m.count m.lengths, length-take m.count m.jobs);
      released = omega (arith, length-flags m.count m.states.released, length-take m.count m.jobs);
      left = omega (arith, length-take m.count m.left, length-take m.count m.jobs);
    }

-- ---- a list that begins

module _ (m : Inside) (x : PositionStates) (jobs js more_jobs : List Job) (lengths ls more_lengths ws more_work : List ℕ) (a : m.count ≤ length m.jobs) (b : m.count ≤ length m.lengths) (d : m.count ≤ length m.left)
    (js_is : js ≡ jobs) (ls_is : ls ≡ lengths) (ws_is : ws ≡ work jobs lengths) (same : length lengths ≡ length jobs) (begun : HaveBegun m.states x m.count (length jobs) jobs) where
  abbrev pub all_left : List ℕ
  all_left = take m.count m.left ++ (ws ++ more_work)

  left_is : take (m.count + length jobs) all_left ≡ take m.count m.left ++ work jobs lengths
  left_is = behind m.count (length jobs) m.left ws more_work (work jobs lengths) d ws_is (work_length jobs lengths)

  pub holds_added : (offset : ℕ) (firsts : List ℕ) → take (m.count + length jobs) firsts ≡ take (m.count + length jobs) all_left
      → inside_round (record {
        running = true;
        start = m.start;
        count = m.count + length jobs;
        jobs = take m.count m.jobs ++ (js ++ more_jobs);
        lengths = take m.count m.lengths ++ (ls ++ more_lengths);
        states = x;
        place = 0;
        from = offset;
        first = firsts;
        time = offset;
        left = all_left;
      }) ≡ added_from (inside_round m) offset jobs lengths
  holds_added offset firsts firsts_are =
      let n = length jobs in
      let whole : List ℕ = take m.count m.left ++ work jobs lengths in
      let make : List Job → List ℕ → List Bool → List ℕ → List ℕ → Round =
      λ y z f v w. record { running = true; start = m.start; jobs = y; lengths = z; released = f; place = 0; first = record { time = offset; left = v }; point = record { time = offset; left = w } } in
      ap₂ (λ (y : List Job) (z : List ℕ). make y z (flags (m.count + n) x.released) (take (m.count + n) firsts) (take (m.count + n) all_left))
      (behind m.count n m.jobs js more_jobs jobs a js_is refl) (behind m.count n m.lengths ls more_lengths lengths b ls_is same)
      ∙ ap₂ (λ (f : List Bool) (w : List ℕ). make (take m.count m.jobs ++ jobs) (take m.count m.lengths ++ lengths) f (take (m.count + n) firsts) w)
      (flags_more m.count n m.states.released x.released begun.before_released begun.released) left_is
      ∙ ap (λ (v : List ℕ). make (take m.count m.jobs ++ jobs) (take m.count m.lengths ++ lengths) (flags m.count m.states.released ++ replicate n false) v whole)
      (firsts_are ∙ left_is)

  -- the sets are those of all the positions
  pub are_added : AreStates m.states m.count m.jobs m.left → HaveLengths jobs lengths
      → AreStates x (m.count + length jobs) (take m.count m.jobs ++ (js ++ more_jobs)) all_left
  are_added are least = record { present = present; done = done }
    where
      jobs_long : length (take m.count m.jobs) ≡ m.count
      jobs_long = omega (arith, length-take m.count m.jobs)

      left_long : length (take m.count m.left) ≡ m.count
      left_long = omega (arith, length-take m.count m.left)

      present : (p : ℕ) → p < m.count + length jobs → has_bit x.present p ≡ (job_at (take m.count m.jobs ++ (js ++ more_jobs)) p).present
      present p h = elim (cases_lt p m.count) [
        | inl l ↦
            begun.before_present p l ∙ are.present p l
            ∙ ap (λ (j : Job). j.present) (sym (job_left (take m.count m.jobs) (js ++ more_jobs) p (omega (arith, jobs_long)) ∙ job_front m.count m.jobs p l))
        | inr l ↦
            let k = p - m.count in
            ap (has_bit x.present) (sym (omega arith)) ∙ begun.present k (omega arith)
            ∙ ap (λ (j : Job). j.present) (ap (λ (z : List Job). job_at z k) (sym js_is) ∙ sym (job_left js more_jobs k (omega (arith, ap length js_is))) ∙ sym (job_right (take m.count m.jobs) (js ++ more_jobs) k)
            ∙ ap (job_at (take m.count m.jobs ++ (js ++ more_jobs))) (omega (arith, jobs_long)))
      ]

      none : (b : Bool) (k : ℕ) → (job_at jobs k).present ≡ b → not b ≡ eqb (get_or (work jobs lengths) k 0) 0
      none true k e =
          let has : 1 ≤ get_or lengths k 0 = least k (job_at jobs k) (job_there jobs k e) e in
          sym (some_work (get_or (work jobs lengths) k 0) (omega (arith, has, work_present jobs lengths k (job_at jobs k) (job_there jobs k e) e)))
      none false k e = sym (none_left (get_or (work jobs lengths) k 0) (absent_idle jobs lengths k e))

      done : (p : ℕ) → p < m.count + length jobs → has_bit x.done p ≡ eqb (get_or all_left p 0) 0
      done p h = elim (cases_lt p m.count) [
        | inl l ↦
            begun.before_done p l ∙ are.done p l
            ∙ ap (λ w. eqb w 0) (sym (get_left (take m.count m.left) (ws ++ more_work) p 0 (omega (arith, left_long)) ∙ get_or-take m.count m.left p 0 l))
        | inr l ↦
            let k = p - m.count in
            let long : length ws ≡ length jobs = ap length ws_is ∙ work_length jobs lengths in
            ap (has_bit x.done) (sym (omega arith)) ∙ begun.done k (omega arith) ∙ none (job_at jobs k).present k refl
            ∙ ap (λ w. eqb w 0) (ap (λ (z : List ℕ). get_or z k 0) (sym ws_is) ∙ sym (get_left ws more_work k 0 (omega (arith, long))) ∙ sym (get_right (take m.count m.left) (ws ++ more_work) k 0)
            ∙ ap (λ q. get_or all_left q 0) (omega (arith, left_long)))
      ]

-- ---- a length that is set, and an instruction that is left

-- who has work isn't done
pub are_set : (m : Inside) (p n : ℕ) (ys : List ℕ) → m.count ≤ length m.left → AreStates m.states m.count m.jobs m.left → p < m.count → has_bit m.states.done p ≡ false → 1 ≤ n
    → AreStates m.states m.count m.jobs (set (take m.count m.left) p n ++ ys)
are_set m p n ys long are below busy some = record {
  present = are.present;
  done = λ q h. elim (cases_eq q p) [
    | inl e ↦ ap (has_bit m.states.done) e ∙ busy ∙ sym (ap (λ w. eqb w 0) (at_front q h ∙ ap (λ k. get_or (set (take m.count m.left) p n) k 0) e ∙ get_or-set_same (take m.count m.left) p n 0 (omega (arith, length-take m.count m.left))) ∙ some_work n some)
    | inr d ↦ are.done q h ∙ ap (λ w. eqb w 0) (sym (at_front q h ∙ get_or-set_other (take m.count m.left) p q n 0 d ∙ get_or-take m.count m.left q 0 h))
  ];
}
  where
    at_front : (q : ℕ) → q < m.count → get_or (set (take m.count m.left) p n ++ ys) q 0 ≡ get_or (set (take m.count m.left) p n) q 0
    at_front q h = get_left (set (take m.count m.left) p n) ys q 0 (omega (arith, length-set-take m.count p n m.left long))

pub are_left : (m : Inside) (y : PositionStates) (p rest : ℕ) → m.count ≤ length m.left → AreStates m.states m.count m.jobs m.left → p < m.count → IsPut m.states.done y.done p (eqb rest 0) → y.present ≡ m.states.present
    → AreStates y m.count m.jobs (set m.left p rest)
are_left m y p rest long are below put same = record {
  present = λ q h. ap (λ row. has_bit row q) same ∙ are.present q h;
  done = λ q h. put q ∙ by_test q h (eqb q p) refl;
}
  where
    by_test : (q : ℕ) → q < m.count → (b : Bool) → eqb q p ≡ b → cond b (eqb rest 0) (has_bit m.states.done q) ≡ eqb (get_or (set m.left p rest) q 0) 0
    by_test q h true e =
        sym (ap (λ w. eqb w 0) (ap (λ k. get_or (set m.left p rest) k 0) (grind (arith, nat_tests)) ∙ get_or-set_same m.left p rest 0 (omega arith)))
    by_test q h false e =
        are.done q h ∙ sym (ap (λ w. eqb w 0) (get_or-set_other m.left p q rest 0 (λ f. let z : ⊥ = grind (arith, nat_tests) in z)))

-- no position has a state that stands wrong where there is none
pub are_none : (x : PositionStates) (jobs : List Job) (left : List ℕ) → AreStates x 0 jobs left
are_none x jobs left = record { present = λ p h. absurd (omega arith); done = λ p h. absurd (omega arith) }
