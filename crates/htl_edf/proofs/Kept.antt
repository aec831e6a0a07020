-- Tightening keeps exactly the slices that meet; tightened windows are one, and so is the interval that is reported.
use Rattle.std.proofs.Common.{◌≡◌, ℕ, ◌-◌, ◌<◌, ◌≤◌, true, refl, sym, ap, ◌∙◌, subst, arith, eq-eqb, le-leb, lt-ltb, ℤ, pos, ◌≤ℤ◌, ◌<ℤ◌, List, [], ◌∷◌}
use Rattle.htl_edf.proofs.Words.{and_from, or_right, or_left, ints, Windows, demand_of, Overloaded, Reported, Slice, Each, covers, on_slices, HaveTicks, SlicesMeetIn, SlicesMeet, HaveWork, Tightening, OneReport, TightWindows}
use Rattle.htl_edf.specs.Tight.{Jobs, NoCycle, tight}
use Rattle.htl_edf.proofs.{BySlices.Each-map, BySlices.Each-zip, BySlices.by_slices, BySlices.last_end, Tightened.tightened, Tightening.tight_is, Tightening.release_at_is, Tightening.end_at_is}

covers_from : (s : Slice) (x : ℕ) → s.start ≤ x → x < s.end → covers s x s.position ≡ true
covers_from s x a b = and_from _ _ (eq-eqb s.position s.position refl) (and_from _ _ (le-leb s.start x a) (lt-ltb x s.end b))

-- each tick of a slice is on
covered : (ss all : List Slice) → ((x q : ℕ) → on_slices ss x q ≡ true → on_slices all x q ≡ true) → Each (λ s. (x : ℕ) → s.start ≤ x → x < s.end → on_slices all x s.position ≡ true) ss
covered [] all up = tt
covered (s ∷ ss) all up = (
  λ x a b. up x s.position (or_left (covers s x s.position) (on_slices ss x s.position) (covers_from s x a b)),
  covered ss all (λ x q e. up x q (or_right (covers s x q) (on_slices ss x q) e)),
)

into_tight : (j : Jobs) → NoCycle j → HaveWork j → (ss : List Slice) → HaveTicks ss → SlicesMeet j ss → SlicesMeetIn j (tight j) ss
into_tight j o work ss some m =
    let v = tight j in
    let t = tight_is j o in
    let served = tightened j v o t (on_slices ss) (last_end ss) work (by_slices j ss m) in
    record {
      apart = m.apart;
      done = m.done;
      within =
          Each-zip (λ s. s.start < s.end) (λ s. (x : ℕ) → s.start ≤ x → x < s.end → on_slices ss x s.position ≡ true)
          (λ s. s.position < j.count → (v.from s.position ≤ s.start) × (pos s.end ≤ℤ v.due s.position)) ss
          (λ s l on k.
          let c : s.position < v.count = omega (arith, t.counts) in
          let last : pos (s.end - 1) <ℤ v.due s.position = (served.within (s.end - 1) s.position c (on (s.end - 1) (omega arith) (omega arith))).1 in
          ((served.within s.start s.position c (on s.start (omega arith) l)).0, omega (arith, ints)))
          some (covered ss ss (λ x q e. e));
      after = m.after;
    }

out_of_tight : (j : Jobs) → NoCycle j → (ss : List Slice) → SlicesMeetIn j (tight j) ss → SlicesMeet j ss
out_of_tight j o ss m =
    let v = tight j in
    let t = tight_is j o in
    record {
      apart = m.apart;
      done = m.done;
      within =
          Each-map (λ s. s.position < j.count → (v.from s.position ≤ s.start) × (pos s.end ≤ℤ v.due s.position))
          (λ s. s.position < j.count → (j.release s.position ≤ s.start) × (s.end ≤ j.end s.position)) ss
          (λ s w k. let both = w k in (omega (arith, both.0, t.released s.position k), omega (arith, ints, both.1, t.ended s.position k)))
          m.within;
      after = m.after;
    }

pub tightening : Tightening
tightening j o work ss some = (into_tight j o work ss some, out_of_tight j o ss)

pub tight_windows : TightWindows
unfolding tight
tight_windows j o = record { release = λ q l. release_at_is j o q l; end = λ p l. end_at_is j o p l }

-- ---- one report

-- of two reports neither ends later
no_later : (v : Windows) (a c : ℕ) (b d : ℤ) (m n : ℕ) → Reported v a b m → Reported v c d n → b ≤ℤ d
no_later v a c b d m n r s =
    let q = r.due_one in
    omega (arith, ints, s.last q.0 a m q.1 (subst (λ z. Overloaded v a z m) (sym q.2) r.over), q.2)

no_sooner : (v : Windows) (a c : ℕ) (b d : ℤ) (m n : ℕ) → b ≡ d → Reported v a b m → Reported v c d n → c ≤ a
no_sooner v a c b d m n e r s =
    let p = r.from_one in
    omega (arith, s.first p.0 m p.1 (subst (λ z. Overloaded v (v.from p.0) z m) e (subst (λ z. Overloaded v z b m) (sym p.2) r.over)), p.2)

pub one_report : OneReport
one_report v a c b d m n r s =
    let e : b ≡ d = omega (arith, ints, no_later v a c b d m n r s, no_later v c a d b n m s r) in
    let f : a ≡ c = omega (arith, no_sooner v a c b d m n e r s, no_sooner v c a d b n m (sym e) s r) in
    (f, e, r.over.sums ∙ ap (λ z. demand_of v z b) f ∙ ap (demand_of v c) e ∙ sym s.over.sums)
