-- Where rounds begin, what is kept of the invocations that begin one are the jobs of the new rounds, and the windows of their jobs before have
-- ended; all others keep what they had.
use Rattle.std.proofs.Common.{◌≡◌, ℕ, zero, suc, ◌+◌, ◌-◌, ◌*◌, ◌/◌, ◌%◌, ◌≤◌, ◌<◌, ◌⊎◌, inl, inr, Bool, true, false, cond, List, [], ◌∷◌, ◌++◌, length, get_or, map, Some, refl, sym, ◌∙◌, ap, subst, arith}
use Rattle.htl_audit.proofs.Words.{slice_get, eqb-true, cases_lt, map-append, slice_get_within, none-some, div-add-mod, Event, Inv, KeptApart, root_periods, begins, feeds, AreInRange, Tables, mode_period, Job, precedes, took, modes_at, HaveRounds, BeginningJobs, round_of, starts_before, all_rounds, Kept, has_job, start_at, begins_round, lengths_begun, IsIn, IsCurrent, HasJob, AreKept, IsSized, get_either, get_front, into_back, marked_within}
use Rattle.htl_audit.proofs.{Growing.start_is, Growing.round_is, Renewing.IsNew, Renewing.IsStill, Renewing.all_new, Renewing.all_still, Renewing.runs_is}
use Rattle.htl_audit.proofs.RoundJobs.{begins_is, fresh, fresh_begins, has_fresh, precedes_is, feeds_begin}
use Rattle.htl_audit.proofs.RoundJobs as jobs

-- two multiples of a period are a period apart at least
pub multiples : (p a b : ℕ) → a % p ≡ 0 → b % p ≡ 0 → a < b → a + p ≤ b
multiples p a b e g h =
    let whole : p * (a / p) ≡ a = omega (arith, div-add-mod a p, e) in
    let other : p * (b / p) ≡ b = omega (arith, div-add-mod b p, g) in
    elim (cases_lt (a / p) (b / p)) [
      | inl less ↦
          let d = b / p - suc (a / p) in
          let is : b / p ≡ suc (a / p) + (b / p - suc (a / p)) = omega (arith, less) in
          let more : p * (suc (a / p) + (b / p - suc (a / p))) ≡ p * (a / p) + p + p * (b / p - suc (a / p)) = grind arith in
          omega (arith, whole, other, ap (λ z. p * z) is, more)
      | inr most ↦
          let is : a / p ≡ b / p + (a / p - b / p) = omega (arith, most) in
          let more : p * (b / p + (a / p - b / p)) ≡ p * (b / p) + p * (a / p - b / p) = grind arith in
          absurd (omega (arith, whole, other, ap (λ z. p * z) is, more, h))
    ]

module _ (t : Tables) (range : AreInRange t) (kept : KeptApart t 16) (rounds : HaveRounds t) (es : List Event) (s : ℕ) (is : begins (root_periods t) s ≡ true) where
  abbrev pub old : List BeginningJobs
  old = all_rounds t es s

  abbrev pub new : BeginningJobs
  new = round_of t es s

  pub grown : all_rounds t es (suc s) ≡ old ++ new ∷ []
  grown = ap (λ b. map (round_of t es) (starts_before t s ++ cond b (s ∷ []) [])) is ∙ map-append (round_of t es) (starts_before t s) (s ∷ [])

  -- a job of an earlier round: where a round of it begins, its window has ended
  pub record IsPast (r : BeginningJobs) (j : Job) : Type 0 where
    pub inv : Inv
    pub known : slice_get t.invs j.inv ≡ Some inv
    pub start : r.start < s
    pub ended : begins_round t s j.inv ≡ true → r.start + j.end ≤ s

  pub old_past : (r : BeginningJobs) (p : ℕ) (j : Job) → IsIn old r p j → IsPast r j
  old_past r p j i =
      let a = round_is t es s i.number r i.at in
      let b = start_is (root_periods t) s i.number a.0 a.1 in
      let job : slice_get (round_of t es a.0).jobs p ≡ Some j = ap (λ (z : BeginningJobs). slice_get z.jobs p) a.2 ∙ i.job in
      let f = fresh t range kept rounds es a.0 p j job i.present in
      let q = mode_period t f.inv.mode in
      let start : a.0 ≡ r.start = ap (λ (z : BeginningJobs). z.start) a.2 in
      record {
        inv = f.inv;
        known = f.known;
        start = omega (arith, start, b.0);
        ended = λ e.
            let here : s % q ≡ 0 = eqb-true (s % q) 0 (sym (begins_is t s j.inv f.inv f.known) ∙ e) in
            let apart : a.0 + q ≤ s = multiples q a.0 s f.whole here b.0 in
            omega (arith, start, apart, f.within);
      }

  -- a job is of an earlier round, or of the new one
  pub split : (r : BeginningJobs) (p : ℕ) (j : Job) (i : IsIn (old ++ new ∷ []) r p j) → ((o : IsIn old r p j) × (o.number ≡ i.number)) ⊎ ((i.number ≡ length old) × (r ≡ new))
  split r p j i = by (get_either old (new ∷ []) i.number r i.at)
    where
      last : (m : ℕ) → i.number ≡ length old + m → slice_get (new ∷ []) m ≡ Some r → (i.number ≡ length old) × (r ≡ new)
      last zero e g = (omega (arith, e), let one : new ≡ r = cc in sym one)
      last (suc m) e g = absurd (none-some r g)

      by : (slice_get old i.number ≡ Some r) ⊎ ((m : ℕ) × (i.number ≡ length old + m) × (slice_get (new ∷ []) m ≡ Some r)) → ((o : IsIn old r p j) × (o.number ≡ i.number)) ⊎ ((i.number ≡ length old) × (r ≡ new))
      by (inl h) = inl (record { number = i.number; at = h; job = i.job; present = i.present }, refl)
      by (inr h) = inr (last h.0 h.1 h.2)

  module _ (takes : List ℕ) (takes_are : (i u : ℕ) → i < length t.invs → s ≤ u → took t es i u ≡ get_or takes i 0) (k : Kept) (sized : IsSized (length t.invs) k) where
    abbrev pub then : Kept
    then = lengths_begun t (modes_at t es s) takes s k

    pub is_new : (i : ℕ) → i < length t.invs → begins_round t s i ≡ true → IsNew t (modes_at t es s) takes s (length t.invs) i then
    is_new i h e = all_new t (modes_at t es s) takes s (length t.invs) (length t.invs) i k sized (omega arith) h e

    pub is_still : (i : ℕ) → begins_round t s i ≡ false → IsStill t (modes_at t es s) takes s (length t.invs) i k then
    is_still i e = all_still t (modes_at t es s) takes s (length t.invs) (length t.invs) i k e

    pub current : (p : ℕ) (j : Job) → slice_get new.jobs p ≡ Some j → j.present ≡ true → IsCurrent t then.roster new p j
    current p j at here =
        let f = fresh t range kept rounds es s p j at here in
        let within = slice_get_within t.invs j.inv f.inv f.known in
        let n = is_new j.inv within (fresh_begins t range kept rounds es s p j f) in
        record {
          stands = n.stands ∙ runs_is t (modes_at t es s) j.inv f.inv f.known f.concrete f.runs;
          start = sym n.start;
          release = f.release_is;
          end = f.end_is;
          length = f.length_is ∙ takes_are j.inv (s + j.release) within (omega arith) ∙ sym n.length;
        }

    -- a job of an earlier round isn't current where a round of it begins, and is what it was where none does
    pub never_old : (r : BeginningJobs) (p : ℕ) (j : Job) → IsIn old r p j → begins_round t s j.inv ≡ true → IsCurrent t then.roster r p j → ⊥
    never_old r p j i e c =
        let a = old_past r p j i in
        let n = is_new j.inv (slice_get_within t.invs j.inv a.inv a.known) e in
        omega (arith, a.start, c.start, n.start)

    pub was_current : (r : BeginningJobs) (p : ℕ) (j : Job) → begins_round t s j.inv ≡ false → IsCurrent t then.roster r p j → IsCurrent t k.roster r p j
    was_current r p j e c =
        let n = is_still j.inv e in
        record { stands = sym n.stands ∙ c.stands; start = c.start ∙ n.start; release = c.release; end = c.end; length = c.length ∙ n.length }

    still_current : (r : BeginningJobs) (p : ℕ) (j : Job) → begins_round t s j.inv ≡ false → IsCurrent t k.roster r p j → IsCurrent t then.roster r p j
    still_current r p j e c =
        let n = is_still j.inv e in
        record { stands = n.stands ∙ c.stands; start = c.start ∙ sym n.start; release = c.release; end = c.end; length = c.length ∙ sym n.length }

    pub begins_or_not : (i : ℕ) → (begins_round t s i ≡ true) ⊎ (begins_round t s i ≡ false)
    begins_or_not i = by (begins_round t s i) refl
      where
        by : (b : Bool) → begins_round t s i ≡ b → (b ≡ true) ⊎ (b ≡ false)
        by true e = inl refl
        by false e = inr refl

    -- a current job of an earlier round, where none of it begins
    pub old_current : (r : BeginningJobs) (p : ℕ) (j : Job) → IsIn old r p j → IsCurrent t then.roster r p j → (begins_round t s j.inv ≡ false) × IsCurrent t k.roster r p j
    old_current r p j o c = elim (begins_or_not j.inv) [ inl b ↦ absurd (never_old r p j o b c) | inr b ↦ (b, was_current r p j b c) ]

    both_ways : {P : Type 0} → (i : ℕ) → begins_round t s i ≡ true → begins_round t s i ≡ false → P
    both_ways i e g = absurd (let z : true ≡ false = sym e ∙ g in let y : ⊥ = cc in y)

    in_all : (r : BeginningJobs) (p : ℕ) (j : Job) → IsIn old r p j → IsIn (old ++ new ∷ []) r p j
    in_all r p j i = record { number = i.number; at = get_front old (new ∷ []) i.number r i.at; job = i.job; present = i.present }

    pub kept_new : AreKept t old k.roster → length then.roster.stands ≡ length t.invs → AreKept t (old ++ new ∷ []) then.roster
    kept_new was rows = record { has = has; only = only; together = together; before = before; mates = mates; once = once }
      where
        fresh_at : (i : ℕ) → begins_round t s i ≡ true → has_job then.roster i ≡ true → (p : ℕ) × (j : Job) × (slice_get new.jobs p ≡ Some j) × (j.present ≡ true) × (j.inv ≡ i)
        fresh_at i b e =
            let h = marked_within then.roster.stands i e in
            has_fresh t range kept rounds es s i (sym (is_new i (omega (arith, h, rows)) b).stands ∙ e) b

        has : (i : ℕ) → has_job then.roster i ≡ true → HasJob t (old ++ new ∷ []) then.roster i
        has i e = elim (begins_or_not i) [
          | inl b ↦
              let p = fresh_at i b e in
              record {
                round = new;
                position = p.0;
                job = p.1;
                is = record { number = length old + 0; at = into_back old (new ∷ []) 0 new refl; job = p.2; present = p.3 };
                inv = p.4;
                current = current p.0 p.1 p.2 p.3;
              }
          | inr b ↦
              let h = was.has i (sym (is_still i b).stands ∙ e) in
              record {
                round = h.round;
                position = h.position;
                job = h.job;
                is = in_all h.round h.position h.job h.is;
                inv = h.inv;
                current = still_current h.round h.position h.job (ap (begins_round t s) h.inv ∙ b) h.current;
              }
        ]

        at_new : (r : BeginningJobs) (p : ℕ) (j : Job) → r ≡ new → IsIn (old ++ new ∷ []) r p j → slice_get new.jobs p ≡ Some j
        at_new r p j e i = ap (λ (z : BeginningJobs). slice_get z.jobs p) (sym e) ∙ i.job

        now : (r : BeginningJobs) (p : ℕ) (j : Job) → r ≡ new → IsIn (old ++ new ∷ []) r p j → IsCurrent t then.roster r p j
        now r p j e i = subst (λ z. IsCurrent t then.roster z p j) (sym e) (current p j (at_new r p j e i) i.present)

        new_begins : (r : BeginningJobs) (p : ℕ) (j : Job) → r ≡ new → IsIn (old ++ new ∷ []) r p j → begins_round t s j.inv ≡ true
        new_begins r p j e i = fresh_begins t range kept rounds es s p j (fresh t range kept rounds es s p j (at_new r p j e i) i.present)

        only : (r : BeginningJobs) (p : ℕ) (j : Job) → IsIn (old ++ new ∷ []) r p j → IsCurrent t then.roster r p j ⊎ (r.start + j.end ≤ start_at then.roster j.inv)
        only r p j i = elim (split r p j i) [
          | inl o ↦ elim (begins_or_not j.inv) [
            | inl b ↦ (let a = old_past r p j o.0 in inr (omega (arith, a.ended b, (is_new j.inv (slice_get_within t.invs j.inv a.inv a.known) b).start)))
            | inr b ↦ elim (was.only r p j o.0) [ inl c ↦ inl (still_current r p j b c) | inr d ↦ inr (omega (arith, d, (is_still j.inv b).start)) ]
          ]
          | inr n ↦ inl (now r p j n.1 i)
        ]

        together : (r : BeginningJobs) (p q : ℕ) (j h : Job) → IsIn (old ++ new ∷ []) r p j → IsIn (old ++ new ∷ []) r q h → feeds t h.inv j.inv ≡ true → IsCurrent t then.roster r p j → IsCurrent t then.roster r q h
        together r p q j h i m fed c = elim (split r p j i) [
          | inl o ↦
              (let d = old_current r p j o.0 c in
              let a = old_past r p j o.0 in
              still_current r q h (feeds_begin t s h.inv j.inv a.inv fed a.known ∙ d.0) (was.together r p q j h o.0 (record { number = o.0.number; at = o.0.at; job = m.job; present = m.present }) fed d.1))
          | inr n ↦ now r q h n.1 m
        ]

        before : (r : BeginningJobs) (p q : ℕ) (j h : Job) → IsIn (old ++ new ∷ []) r p j → IsIn (old ++ new ∷ []) r q h → precedes q j ≡ feeds t h.inv j.inv
        before r p q j h i m = elim (split r p j i) [
          | inl o ↦ was.before r p q j h o.0 (record { number = o.0.number; at = o.0.at; job = m.job; present = m.present })
          | inr n ↦ precedes_is t range kept rounds es s p q j h (at_new r p j n.1 i) (at_new r q h n.1 m) i.present m.present
        ]

        mates : (r : BeginningJobs) (p : ℕ) (j : Job) (i : ℕ) → IsIn (old ++ new ∷ []) r p j → IsCurrent t then.roster r p j → has_job then.roster i ≡ true → feeds t i j.inv ≡ true
            → (q : ℕ) × (h : Job) × (h.inv ≡ i) × IsIn (old ++ new ∷ []) r q h
        mates r p j i m c stands fed = elim (split r p j m) [
          | inl o ↦
              (let d = old_current r p j o.0 c in
              let a = old_past r p j o.0 in
              let b : begins_round t s i ≡ false = feeds_begin t s i j.inv a.inv fed a.known ∙ d.0 in
              let f = was.mates r p j i o.0 d.1 (sym (is_still i b).stands ∙ stands) fed in
              (f.0, f.1, f.2, in_all r f.0 f.1 f.3))
          | inr n ↦
              (let g = fresh t range kept rounds es s p j (at_new r p j n.1 m) m.present in
              let b : begins_round t s i ≡ true = feeds_begin t s i j.inv g.inv fed g.known ∙ new_begins r p j n.1 m in
              let f = fresh_at i b stands in
              (f.0, f.1, f.4, record { number = m.number; at = m.at; job = ap (λ (z : BeginningJobs). slice_get z.jobs f.0) n.1 ∙ f.2; present = f.3 }))
        ]

        once : (r z : BeginningJobs) (p q : ℕ) (j h : Job) (a : IsIn (old ++ new ∷ []) r p j) (b : IsIn (old ++ new ∷ []) z q h) → IsCurrent t then.roster r p j → IsCurrent t then.roster z q h → j.inv ≡ h.inv → (a.number ≡ b.number) × (p ≡ q)
        once r z p q j h a b c d same = elim (split r p j a) [
          | inl o ↦ elim (split z q h b) [
            | inl u ↦ (let g = was.once r z p q j h o.0 u.0 (old_current r p j o.0 c).1 (old_current z q h u.0 d).1 same in (sym o.1 ∙ g.0 ∙ u.1, g.1))
            | inr m ↦ both_ways j.inv (ap (begins_round t s) same ∙ new_begins z q h m.1 b) (old_current r p j o.0 c).0
          ]
          | inr n ↦ elim (split z q h b) [
            | inl u ↦ both_ways h.inv (ap (begins_round t s) (sym same) ∙ new_begins r p j n.1 a) (old_current z q h u.0 d).0
            | inr m ↦ (n.0 ∙ sym m.0, jobs.once t range kept rounds es s p q j h (at_new r p j n.1 a) (at_new z q h m.1 b) a.present b.present same)
          ]
        ]
