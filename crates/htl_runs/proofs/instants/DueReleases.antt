-- The releases of an instant: exactly the invocations that stand and are released then, and the flags afterwards.
use Rattle.std.proofs.Common.{◌≡◌, ◌≢◌, ℕ, zero, suc, ◌+◌, ◌-◌, ◌≤◌, ◌<◌, Bool, true, false, cond, ◌&&◌, eqb, ltb, List, [], ◌∷◌, ◌++◌, length, get_or, slice_get, Option, Some, None, refl, sym, ap, ap₂, ◌∙◌, subst, arith, ◌⊎◌, inl, inr}
use Rattle.htl_runs.proofs.Words.{eqb-true, eq-eqb, lt-ltb, le-ltb, and_parts, cases_eq, and_from, get_or-set_same, get_or-set_other, length-set, length-map, Inv, Stay, numbered, Tables, mode_module, is_concrete, release, stay_of, Job, counts, next_offset, Requirement, Exactly, all_do, waits_for, block_chain, wanted_reads, all_reads, InvStands, AreJobsSoFar, HaveWindows, position_from, released_before, raise_at, raise_want, raise_all, IsStanding, not_some, same_Some}
use Rattle.htl_ecode.specs.declared.instr.EInstr.TheVariants as I
use Rattle.htl_ecode.specs.Chains as C
use Rattle.htl_runs.proofs.values.BlockContents.{In, AsksFor, asks_left, do_right, asks_joined, joined_asks, asks_up_to, up_to_asks, numbered_in, in_numbered, copied, not_called, among_reads}
use Rattle.htl_runs.proofs.{records.ReleasedBefore.flag_at, frames.JobWindows.position_some, frames.JobWindows.last_open}

-- ---- who is asked for

release_called : (t : Tables) (m o i : ℕ) → AsksFor (I.Release i) (block_chain t m 3 o) → (x : Inv) × (slice_get t.invs i ≡ Some x) × (counts t m x ≡ true) × (release t x ≡ o)
release_called t m o i h = elim (among_reads (I.Release i) t m o (λ e. let z : ⊥ = cc in z) h) [
  | inl a ↦ absurd (not_called (I.Release i) I.CallRead (λ x. x.reads) t m o (numbered 0 t.invs) (λ a b e. let z : ⊥ = cc in z) a)
  | inr b ↦ let r = asks_joined (I.Release i) (C.release_of t m o) (numbered 0 t.invs) b in item r.0 r.1 (counts t m r.0.1 && eqb (release t r.0.1) o) refl r.2
]
  where
    item : (n : ℕ × Inv) → In n (numbered 0 t.invs) → (b : Bool) → (counts t m n.1 && eqb (release t n.1) o) ≡ b → AsksFor (I.Release i) (all_do (cond b (I.Release n.0 ∷ []) []))
        → (x : Inv) × (slice_get t.invs i ≡ Some x) × (counts t m x ≡ true) × (release t x ≡ o)
    item n g false e a = absurd a
    item n g true e (inr a) = absurd a
    item n g true e (inl a) =
        let same : n.0 ≡ i = cc in
        let d = numbered_in t.invs 0 n g in
        let b = and_parts (counts t m n.1) (eqb (release t n.1) o) e in
        (n.1, ap (slice_get t.invs) (let z : i ≡ d.0 = omega (arith, same, d.1) in z) ∙ d.2, b.0, eqb-true (release t n.1) o b.1)

called_release : (t : Tables) (m o i : ℕ) (x : Inv) → slice_get t.invs i ≡ Some x → counts t m x ≡ true → release t x ≡ o → AsksFor (I.Release i) (block_chain t m 3 o)
called_release t m o i x at c r =
    let yes' : (counts t m x && eqb (release t x) o) ≡ true = and_from (counts t m x) (eqb (release t x) o) c (eq-eqb (release t x) o r) in
    asks_left (I.Release i) (all_do (copied t m o ++ C.releases t m o)) (waits_for o 3 (next_offset t m 3 (suc o)) ++ Exactly I.Return ∷ [])
    (do_right (I.Release i) (copied t m o) (C.releases t m o)
    (joined_asks (I.Release i) (C.release_of t m o) (numbered 0 t.invs) (i, x)
    (subst (λ z. In (z, x) (numbered 0 t.invs)) (let z : 0 + i ≡ i = omega arith in z) (in_numbered t.invs 0 i x at))
    (subst (λ b. AsksFor (I.Release i) (all_do (cond b (I.Release i ∷ []) []))) (sym yes') (inl refl))))

module _ (t : Tables) (stays : List (Option Stay)) (n now : ℕ) (standing : IsStanding t stays n) (past : n ≤ now) where
  -- who is asked for stands and is released now
  pub release_of : (i : ℕ) → AsksFor (I.Release i) (all_reads t now stays) → (x : Inv) × (s : ℕ) × InvStands t stays i x s × (s + release t x ≡ now)
  release_of i h = let r = asks_up_to (I.Release i) (λ u. wanted_reads t now (stay_of stays u)) (length t.modules) h in by_stay r.0 (stay_of stays r.0) refl r.2
    where
      by_stay : (u : ℕ) (o : Option Stay) → stay_of stays u ≡ o → AsksFor (I.Release i) (wanted_reads t now o) → (x : Inv) × (s : ℕ) × InvStands t stays i x s × (s + release t x ≡ now)
      by_stay u None is a = absurd a
      by_stay u (Some y) is a =
          let c = release_called t y.mode (now - y.start) i a in
          let b = and_parts (eqb c.0.mode y.mode) (is_concrete t c.0) c.2 in
          let mode : c.0.mode ≡ y.mode = eqb-true c.0.mode y.mode b.0 in (
            c.0,
            y.start,
            record {
              known = c.1;
              concrete = b.1;
              in_round = ap (λ m. stay_of stays (mode_module t m)) mode ∙ ap (stay_of stays) (standing.own u y is) ∙ is ∙ ap (λ m. Some (record { mode = m; start = y.start })) (sym mode);
            },
            omega (arith, c.3, standing.past u y is),
          )

  pub release_asks : (i s : ℕ) (x : Inv) → InvStands t stays i x s → s + release t x ≡ now → AsksFor (I.Release i) (all_reads t now stays)
  release_asks i s x st e =
      let k = mode_module t x.mode in
      let y : Stay = record { mode = x.mode; start = s } in
      up_to_asks (I.Release i) (λ u. wanted_reads t now (stay_of stays u)) (length t.modules) k (standing.known k y st.in_round)
      (subst (λ o. AsksFor (I.Release i) (wanted_reads t now o)) (sym st.in_round)
      (called_release t x.mode (now - s) i x st.known (and_from (eqb x.mode x.mode) (is_concrete t x) (eq-eqb x.mode x.mode refl) st.concrete) (omega (arith, e))))

-- ---- the flags

data Kind (x : Requirement) : Type 1 where
  releases : (i : ℕ) → x ≡ Exactly (I.Release i) → Kind x
  idles : ((jobs : List Job) (bs : List Bool) → raise_want jobs x bs ≡ bs) → ((i : ℕ) → x ≡ Exactly (I.Release i) → ⊥) → Kind x

kind_of : (x : Requirement) → Kind x
kind_of (Exactly (I.Release a)) = releases a refl
kind_of _ = idles (λ js bs. refl) (λ i e. let z : ⊥ = cc in z)

tell_length : (o : Option ℕ) (bs : List Bool) → length (raise_at o bs) ≡ length bs
tell_length None bs = refl
tell_length (Some p) bs = length-set bs p true

want_length : (jobs : List Job) (x : Requirement) (bs : List Bool) → Kind x → length (raise_want jobs x bs) ≡ length bs
want_length jobs x bs (releases i e) = ap (λ z. length (raise_want jobs z bs)) e ∙ tell_length (position_from 0 jobs i) bs
want_length jobs x bs (idles f g) = ap (λ (z : List Bool). length z) (f jobs bs)

all_length : (jobs : List Job) (ws : List Requirement) (bs : List Bool) → length (raise_all jobs ws bs) ≡ length bs
all_length jobs [] bs = refl
all_length jobs (x ∷ xs) bs = all_length jobs xs (raise_want jobs x bs) ∙ want_length jobs x bs (kind_of x)

-- a flag is that before, or true where the position's invocation is asked for
abbrev pub Flagged : List Job → List Requirement → List Bool → ℕ → Type 0
Flagged jobs ws bs p =
    (((i : ℕ) → AsksFor (I.Release i) ws → position_from 0 jobs i ≡ Some p → ⊥) × (get_or (raise_all jobs ws bs) p false ≡ get_or bs p false))
    ⊎ ((i : ℕ) × AsksFor (I.Release i) ws × (position_from 0 jobs i ≡ Some p) × (get_or (raise_all jobs ws bs) p false ≡ true))

pub are_flagged : (jobs : List Job) (ws : List Requirement) (bs : List Bool) (p : ℕ) → p < length bs → Flagged jobs ws bs p
are_flagged jobs [] bs p h = inl (λ i a e. a, refl)
are_flagged jobs (x ∷ xs) bs p h = by_kind (kind_of x) (are_flagged jobs xs (raise_want jobs x bs) p (omega (arith, want_length jobs x bs (kind_of x))))
  where
    by_kind : Kind x → Flagged jobs xs (raise_want jobs x bs) p → Flagged jobs (x ∷ xs) bs p
    by_kind k (inr r) = inr (r.0, inr r.1, r.2, r.3)
    by_kind (idles f g) (inl r) = grind arith
    by_kind (releases i f) (inl r) = by_place (position_from 0 jobs i) refl
      where
        by_place : (o : Option ℕ) → position_from 0 jobs i ≡ o → Flagged jobs (x ∷ xs) bs p
        by_place o e = by_same o (decide o)
          where
            decide : (o : Option ℕ) → (o ≡ Some p) ⊎ (o ≢ Some p)
            decide None = inr (λ e. not_some p e)
            decide (Some q) = elim (cases_eq q p) [ inl g ↦ inl (ap (λ z. Some z) g) | inr n ↦ inr (λ e. n (same_Some _ _ e)) ]

            put : raise_want jobs x bs ≡ raise_at o bs
            put = ap (λ z. raise_want jobs z bs) f ∙ ap (λ z. raise_at z bs) e

            by_same : (q : Option ℕ) → (o ≡ Some p) ⊎ (o ≢ Some p) → Flagged jobs (x ∷ xs) bs p
            by_same q (inl g) =
                inr (i, inl f, e ∙ g, r.1 ∙ ap (λ z. get_or z p false) (put ∙ ap (λ z. raise_at z bs) g) ∙ get_or-set_same bs p true false h)
            by_same q (inr n) =
                inl (
                  λ j a w. elim a [
                    | inl z ↦ let same : i ≡ j = (let y : Exactly (I.Release i) ≡ Exactly (I.Release j) = sym f ∙ z in cc) in n (sym e ∙ ap (position_from 0 jobs) same ∙ w)
                    | inr z ↦ r.0 j z w
                  ],
                  r.1 ∙ ap (λ z. get_or z p false) put ∙ kept o n,
                )
              where
                kept : (o : Option ℕ) → (o ≢ Some p) → get_or (raise_at o bs) p false ≡ get_or bs p false
                kept None n = refl
                kept (Some a) n = get_or-set_other bs a p true false (λ g. n (ap (λ z. Some z) (sym g)))

-- ---- one offset more

same_bools : (xs ys : List Bool) → length xs ≡ length ys → ((k : ℕ) → k < length ys → get_or xs k false ≡ get_or ys k false) → xs ≡ ys
same_bools [] [] e h = refl
same_bools (x ∷ xs) (y ∷ ys) e h = ap₂ (λ a b. a ∷ b) (h 0 (omega arith)) (same_bools xs ys (omega arith) (λ k p. h (suc k) (omega arith)))
same_bools _ _ e h = absurd (omega arith)

job_there : (js : List Job) (p : ℕ) → p < length js → (j : Job) × (slice_get js p ≡ Some j)
job_there [] p h = absurd (omega arith)
job_there (j ∷ js) zero h = (j, refl)
job_there (j ∷ js) (suc p) h = job_there js p (omega arith)

module _ (t : Tables) (stays : List (Option Stay)) (n now start : ℕ) (jobs : List Job) (standing : IsStanding t stays n) (past : n ≤ now) (begun : start ≤ now) (jobs_so_far : AreJobsSoFar t stays start now jobs)
    (windows : HaveWindows jobs) where
  -- after the read phase the releases of one offset more are told
  pub flags_after : raise_all jobs (all_reads t now stays) (released_before (now - start) jobs) ≡ released_before (suc now - start) jobs
  flags_after =
      let bs = released_before (now - start) jobs in
      let len : (d : ℕ) → length (released_before d jobs) ≡ length jobs = λ d. length-map jobs (λ j. j.present && ltb j.release d) in
      same_bools (raise_all jobs (all_reads t now stays) bs) (released_before (suc now - start) jobs)
      (all_length jobs (all_reads t now stays) bs ∙ len (now - start) ∙ sym (len (suc now - start)))
      (λ p h.
      let below : p < length jobs = omega (arith, len (suc now - start)) in
      let j = job_there jobs p below in
      by_flag p j.0 j.1 (are_flagged jobs (all_reads t now stays) bs p (omega (arith, len (now - start)))))
    where
      -- released now, or not
      by_time : (b : Bool) (r : ℕ) → (b ≡ true → start + r ≢ now) → (b && ltb r (now - start)) ≡ (b && ltb r (suc now - start))
      by_time false r h = refl
      by_time true r h = elim (order r (now - start)) [
        | inl a ↦ lt-ltb r (now - start) a ∙ sym (lt-ltb r (suc now - start) (omega arith))
        | inr (inl a) ↦ absurd (h refl (omega arith))
        | inr (inr a) ↦ le-ltb r (now - start) (omega arith) ∙ sym (le-ltb r (suc now - start) (omega arith))
      ]
        where
          order : (a b : ℕ) → (a < b) ⊎ ((a ≡ b) ⊎ (b < a))
          order a b = grind arith

      by_flag : (p : ℕ) (j : Job) → slice_get jobs p ≡ Some j → Flagged jobs (all_reads t now stays) (released_before (now - start) jobs) p
          → get_or (raise_all jobs (all_reads t now stays) (released_before (now - start) jobs)) p false ≡ get_or (released_before (suc now - start) jobs) p false
      by_flag p j at (inr r) =
          let st = release_of t stays n now standing past r.0 r.1 in
          let w = position_some 0 jobs r.0 p r.2 in
          let one : w.2 ≡ j = same_Some _ _ (sym w.3 ∙ ap (slice_get jobs) (let z : w.0 ≡ p = omega (arith, w.1) in z) ∙ at) in
          let h = jobs_so_far.has r.0 st.0 st.1 st.2 in
          let job : h.1.job ≡ j = same_Some _ _ (sym h.1.at ∙ ap (slice_get jobs) (same_Some _ _ (sym h.2 ∙ r.2)) ∙ at) in
          let when : j.release < suc now - start = omega (arith, st.3, h.1.release, ap (λ (z : Job). z.release) job) in
          r.3 ∙ sym (flag_at (suc now - start) jobs p j at ∙ ap₂ (λ a b. a && b) (ap (λ (z : Job). z.present) (sym one) ∙ w.4) (lt-ltb j.release (suc now - start) when))
      by_flag p j at (inl r) = r.1 ∙ flag_at (now - start) jobs p j at ∙ by_time j.present j.release not_now ∙ sym (flag_at (suc now - start) jobs p j at)
        where
          not_now : j.present ≡ true → start + j.release ≢ now
          not_now here e =
              let late : now < start + j.end = omega (arith, e, windows p j at here) in
              let st = jobs_so_far.stands p j at here late in
              let job : st.3.job ≡ j = same_Some _ _ (sym st.3.at ∙ at) in
              let asked = release_asks t stays n now standing past j.inv st.1 st.0 st.2 (omega (arith, e, st.3.release, ap (λ (z : Job). z.release) job)) in
              r.0 j.inv asked (last_open t stays start now jobs jobs_so_far p j at here late)
