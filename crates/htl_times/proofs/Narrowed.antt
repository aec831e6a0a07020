-- Lesser worst cases keep a path accepted.
use Rattle.std.proofs.Common.{◌≡◌, ℕ, true, List, [], ◌∷◌, false, inl, inr, sym, ap, ◌∙◌, arith}
use Rattle.htl_times.proofs.Words.{has_bit, direct, Job, SInstr, Dispatch, Idle, End, precedes, Leg, list_point, AreInOrder, Refines, HasWork, HaveLengths, AreWithinWorst, Point, job_at, next_point, last_point, first_point, worst_cases, InOrder, path_dominance, accepted_joined, Ahead, ahead_next, ahead_last, dominance, joined, each_at, job_there, job_is, job_cases, absent_precedes, work_some, worst_at}
use Rattle.htl_times.specs.Narrowed.{Narrows, NarrowedAccepted}

module _ (ms ks : List Job) (narrows : Narrows ms ks) where
  precede : (p q : ℕ) → precedes q (job_at ms p) ≡ true → precedes q (job_at ks p) ≡ true
  precede p q e = elim (job_cases ms p) [
    | inl at ↦
        let r = narrows.each p (job_at ms p) at in
        ap (precedes q) (job_is ks p r.0 r.1) ∙ sym (ap (λ n. has_bit n q) r.2.preds) ∙ e
    | inr gone ↦ absurd (let z : false ≡ true = sym (absent_precedes q) ∙ ap (precedes q) (sym gone) ∙ e in cc)
  ]

  order_list : (is : List SInstr) (x y : Point) → Ahead ms ks x y → InOrder ks is y → InOrder ms is x
  order_list [] x y a o = tt
  order_list (Dispatch p u ∷ is) x y a o = (
    λ q e. omega (arith, a.left q, o.0 q (precede p q e)),
    order_list is (next_point ms (Dispatch p u) x) (next_point ks (Dispatch p u) y) (ahead_next ms ks (Dispatch p u) x y a) o.1,
  )
  order_list (Idle u ∷ is) x y a o = order_list is (next_point ms (Idle u) x) (next_point ks (Idle u) y) (ahead_next ms ks (Idle u) x y a) o
  order_list (End ∷ is) x y a o = order_list is x y a o

  begun : (a : ℕ) (x y : Point) → Ahead ms ks x y → Ahead ms ks (list_point a x) (list_point a y)
  begun a x y h = record { time = omega arith; left = h.left; release = h.release }

  order_path : (ss : List (List SInstr)) (gs : List Leg) (x y : Point) → Ahead ms ks x y → AreInOrder ks ss gs y → AreInOrder ms ss gs x
  order_path [] gs x y a o = tt
  order_path (s ∷ ss) [] x y a o = tt
  order_path (s ∷ ss) (g ∷ gs) x y a o =
      let b = begun g.from x y a in
      (order_list s (list_point g.from x) (list_point g.from y) b o.0, order_path ss gs (last_point ms s (list_point g.from x)) (last_point ks s (list_point g.from y)) (ahead_last ms ks s (list_point g.from x) (list_point g.from y) b) o.1)

pub narrowed_accepted : NarrowedAccepted
narrowed_accepted ms ks gs ss h all work narrows chain accepted =
    let refined : Refines ms ks = record {
      same = narrows.same;
      each = λ p m at there.
          let r = narrows.each p m at in (
            r.0,
            r.1,
            record {
              present = sym r.2.present ∙ there;
              release = omega (arith, r.2.release);
              end = omega (arith, r.2.end);
              worst = r.2.worst;
              preds = λ q e. direct q p (ap (precedes q) (job_is ks p r.0 r.1) ∙ sym (ap (λ n. has_bit n q) r.2.preds) ∙ e);
            },
          );
    } in
    let ns = worst_cases ms in
    let least : HaveLengths ms ns = λ p m at there. omega (arith, worst_at ms p m at, (each_at HasWork ms work p m at).worst) in
    let most : AreWithinWorst ms ns = λ p m at there. omega (arith, worst_at ms p m at) in
    let d = dominance ms ks ns (joined ss gs) h all refined least most (accepted_joined ks gs ss h chain accepted) in
    let ahead : Ahead ms ks (first_point ms ns) (first_point ks (worst_cases ks)) = record {
      time = omega arith;
      left = λ q. d.left 0 q;
      release = λ q some.
          let e = work_some ms ns q some in
          let r = refined.each q (job_at ms q) (job_there ms q e) e in
          omega (arith, r.2.release, ap (λ (j : Job). j.release) (job_is ks q r.0 r.1));
    } in
    record {
      forms = accepted.forms;
      meets = (path_dominance ms ks ns ss gs h all refined least most chain accepted).meets;
      order = order_path ms ks narrows ss gs (first_point ms ns) (first_point ks (worst_cases ks)) ahead accepted.order;
    }
