-- The records of a walk, told one part after another.
use Rattle.std.proofs.Common.{◌≡◌, ◌≤◌, ◌+◌, ℕ, Bool, true, false, cond, List, [], ◌∷◌, ◌++◌, length, Option, Result, Ok, Err, refl, sym, ap, ap₂, ◌∙◌, subst, arith, append_assoc, append-nil}
use Rattle.htl_plan.proofs.Words.{append_known, Puts, append_known-start, append_known-more, Puts-failed, Puts-second, plan_line, Tables, Job, Left, left_text, walk_text, finishes, frame_text, length-append}
use Rattle.std.proofs.lemmas.List.Concat.{flat_map-append}

finishes_both : (ls ms : List Left) → finishes (ls ++ ms) ≡ finishes ls + finishes ms
finishes_both [] ms = omega arith
finishes_both (l ∷ ls) ms = omega (arith, finishes_both ls ms)

pub few_finish : (ls : List Left) → finishes ls ≤ length ls
few_finish [] = omega arith
few_finish (l ∷ ls) = omega (arith, few_finish ls, small l.finished)
  where
    small : (b : Bool) → cond b 1 0 ≤ 1
    small true = omega arith
    small false = omega arith

module _ (t : Tables) (jobs : List Job) (total : List Left) where
  -- the n records in front of the rest were told, and so many of them finish a position
  pub record IsTold (rest : List Left) (n done : ℕ) (old now : Option (List ℕ)) (before between : ℕ) : Type 0 where
    pub front : List Left
    pub whole : total ≡ front ++ rest
    pub written : now ≡ append_known old (walk_text t jobs front)
    pub kept : between ≡ before
    pub many : n ≡ length front
    pub count : done ≡ finishes front

  pub IsTold-start : (old : Option (List ℕ)) (before : ℕ) → IsTold total 0 0 old old before before
  IsTold-start old before = record { front = []; whole = refl; written = append_known-start old; kept = refl; many = refl; count = refl }

  pub IsTold-step : {T E : Type 0} (rest part later : List Left) (text : List ℕ) (n m done all : ℕ) (old mid new : Option (List ℕ)) (before between now : ℕ) (u : T) → rest ≡ part ++ later
      → text ≡ walk_text t jobs part → m ≡ n + length part → all ≡ done + finishes part → IsTold rest n done old mid before between → Puts {T = T} {E = E} mid new between now text (Ok u)
      → IsTold later m all old new before now
  IsTold-step rest part later text n m done all old mid new before between now u cut same more finish_more p puts = record {
    front = p.front ++ part;
    whole = p.whole ∙ ap (λ (ls : List Left). p.front ++ ls) cut ∙ sym (append_assoc p.front part later);
    written =
        append_known-more old mid new (walk_text t jobs p.front) text p.written puts.whole
        ∙ ap (append_known old) (ap (λ (bs : List ℕ). walk_text t jobs p.front ++ bs) same ∙ sym (flat_map-append (left_text t jobs) p.front part));
    kept = puts.cause.kept ∙ p.kept;
    many = omega (arith, p.many, more, length-append p.front part);
    count = omega (arith, p.count, finish_more, finishes_both p.front part);
  }

  pub IsTold-cut : {T S E F : Type 0} (rest part later : List Left) (text : List ℕ) (n done : ℕ) (old mid new : Option (List ℕ)) (before between now : ℕ) (e : E) (f : F) → rest ≡ part ++ later
      → text ≡ walk_text t jobs part → IsTold rest n done old mid before between → Puts {T = S} mid new between now text (Err e)
      → Puts {T = T} old new before now (walk_text t jobs total) (Err f)
  IsTold-cut {T = T} {F = F} rest part later text n done old mid new before between now e f cut same p puts =
      let g = left_text t jobs in
      let all : walk_text t jobs total ≡ walk_text t jobs p.front ++ (text ++ walk_text t jobs later) =
      ap (walk_text t jobs) (p.whole ∙ ap (λ (ls : List Left). p.front ++ ls) cut) ∙ flat_map-append g p.front (part ++ later)
      ∙ ap (λ (bs : List ℕ). walk_text t jobs p.front ++ bs) (flat_map-append g part later ∙ ap (λ (bs : List ℕ). bs ++ walk_text t jobs later) (sym same)) in
      subst (λ (bs : List ℕ). Puts {T = T} {E = F} old new before now bs (Err f)) (sym all)
      (Puts-failed old mid new before between now (walk_text t jobs p.front) text (walk_text t jobs later) e f p.written p.kept puts)

  module _ (rest : List Left) (n done : ℕ) (old now : Option (List ℕ)) (before between : ℕ) (p : IsTold rest n done old now before between) where
    pub IsTold-few : done ≤ n
    IsTold-few = omega (arith, p.many, p.count, few_finish p.front)

    module _ (none : rest ≡ []) where
      all_front : total ≡ p.front
      all_front = p.whole ∙ ap (λ (ls : List Left). p.front ++ ls) none ∙ append-nil p.front

      pub IsTold-all : {T E : Type 0} (u : T) → Puts {T = T} {E = E} old now before between (walk_text t jobs total) (Ok u)
      IsTold-all u = record {
        whole = p.written ∙ ap (λ (ls : List Left). append_known old (walk_text t jobs ls)) (sym all_front);
        part = tt;
        cause = record { later = omega (arith, p.kept); kept = p.kept; refused = tt };
      }

      pub IsTold-count : done ≡ finishes total
      IsTold-count = p.count ∙ ap finishes (sym all_front)

      pub IsTold-many : n ≡ length total
      IsTold-many = p.many ∙ ap (λ (ls : List Left). length ls) (sym all_front)

-- ---- all records, and the last line

pub Puts-frame : {T S E F : Type 0} (t : Tables) (jobs : List Job) (end n done : ℕ) (ls ms : List Left) (old mid new : Option (List ℕ)) (before between now : ℕ) (u : S) (result : Result T E)
    → ls ≡ ms → n ≡ length ls → done ≡ finishes ls → Puts {T = S} {E = F} old mid before between (walk_text t jobs ls) (Ok u) → Puts mid new between now (plan_line end done n) result
    → Puts old new before now (frame_text t end jobs ms) result
Puts-frame {T = T} {E = E} t jobs end n done ls ms old mid new before between now u result same many count first second =
    let line : walk_text t jobs ls ++ plan_line end done n ≡ frame_text t end jobs ms =
    ap₂ (λ (d k : ℕ). walk_text t jobs ls ++ plan_line end d k) count many ∙ ap (frame_text t end jobs) same in
    subst (λ (bs : List ℕ). Puts {T = T} {E = E} old new before now bs result) line
    (Puts-second old mid new before between now (walk_text t jobs ls) (plan_line end done n) result first.whole first.cause.kept second)
