use Rattle.std.proofs.Common.{arith, ◌≡◌, sym, length, ℕ, ℤ, pos, nat_abs, to_z, of_z, w64, get_or, subst}
use Rattle.htl_edf.proofs.{Words.ints, Words.jobs_of, Words.no_window, Words.Windows, Words.Reported, Words.tight, Bounds.release_at-small, Bounds.end_at-small, Found.found_none, Found.found_some, Found.found_never, Found.found_end}
use Rattle.htl_edf.proofs.overload.find_overload.Goals as goal

reported_as : (v : Windows) (a c : ℕ) (b d : ℤ) (m n : ℕ) → a ≡ c → b ≡ d → m ≡ n → Reported v a b m → Reported v c d n
reported_as v a c b d m n e f g r = subst (λ x. Reported v x d n) e (subst (λ y. Reported v a y n) f (subst (λ z. Reported v a b z) g r))

pub returns-in_err-q : goal.returns-in_err-q
returns-in_err-q c = rw c.from_residual.ensures (found_none c.args.jobs.now c.requires.jobs (sym c.in_err-q.ensures.is))

pub returns-in_err-p : goal.returns-in_err-p
returns-in_err-p c = absurd (found_never c.args.jobs.now c.requires.jobs c.in_ok-q.q (sym c.in_ok-q.ensures.is) (sym c.in_err-p.ensures.is))

pub overflow_cast-result-2 : goal.overflow_cast-result-2
overflow_cast-result-2 c =
    let js = c.args.jobs.now in
    let p = c.in_ok-p.p in
    let q = c.in_ok-q.q in
    let e = found_end js c.requires.jobs c.requires.order p q (sym c.in_ok-q.ensures.is) (sym c.in_ok-p.ensures.is) in
    omega (arith, ints, e, c.requires.at.ends q c.in_ok-q.ensures.in_range, end_at-small js c.requires.jobs (length js) q c.in_ok-q.ensures.in_range)

pub returns : goal.returns
returns c =
    let js = c.args.jobs.now in
    let p = c.in_ok-p.p in
    let q = c.in_ok-q.q in
    let e = found_end js c.requires.jobs c.requires.order p q (sym c.in_ok-q.ensures.is) (sym c.in_ok-p.ensures.is) in
    let r = found_some js c.requires.jobs p q (sym c.in_ok-q.ensures.is) (sym c.in_ok-p.ensures.is) in
    reported_as (tight (jobs_of js)) _ (nat_abs (to_z w64 (of_z w64 (get_or c.args.windows.now p no_window).release))) _ (pos (nat_abs (to_z w64 (of_z w64 (get_or c.args.windows.now q no_window).end)))) _ c.demand.result
    (omega (arith, ints, c.requires.at.releases p r.0, release_at-small js c.requires.jobs (length js) p r.0, c.requires.jobs.few))
    (omega (arith, ints, e, c.requires.at.ends q r.1, end_at-small js c.requires.jobs (length js) q r.1))
    (sym c.demand.ensures.is)
    r.2
