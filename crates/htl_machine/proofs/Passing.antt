-- From instant to instant: what is written so far, and how a refusal leaves it.
use Rattle.std.proofs.Common.{◌≡◌, ℕ, zero, suc, ◌+◌, ◌-◌, ◌≤◌, ◌<◌, List, ◌++◌, Option, Ok, Err, refl, sym, ap, ◌∙◌, subst, arith}
use Rattle.htl_machine.proofs.Words.{append_known, append_assoc, append-nil, Puts, append_known-start, append_known-more, Puts-failed, Event, up_to, Object, Shown, Seen, Follows, IsUpTo, IsSameRun, text_between, IsPassing, ArePassing, lines_of}

-- a list that is joined in two parts
pub up_to_more : {A : Type 0} (f : ℕ → List A) (k j : ℕ) → up_to f (k + j) ≡ up_to f k ++ up_to (λ n. f (k + n)) j
up_to_more f k zero = ap (up_to f) (let z : k + 0 ≡ k = omega arith in z) ∙ sym (append-nil (up_to f k))
up_to_more f k (suc j) =
    ap (up_to f) (let z : k + suc j ≡ suc (k + j) = omega arith in z) ∙ ap (λ z. z ++ f (k + j)) (up_to_more f k j) ∙ append_assoc (up_to f k) (up_to (λ n. f (k + n)) j) (f (k + j))

module _ (o : Object) (es : List Event) (show : Shown) (from at : ℕ) (begun : from ≤ at) where
  abbrev f : ℕ → List ℕ
  f n = lines_of o es show (from + n)

  here : f (at - from) ≡ lines_of o es show at
  here = ap (lines_of o es show) (let z : from + (at - from) ≡ at = omega (arith, begun) in z)

  pub between_next : text_between o es show from (suc at) ≡ text_between o es show from at ++ lines_of o es show at
  between_next = ap (up_to f) (let z : suc at - from ≡ suc (at - from) = omega (arith, begun) in z) ∙ ap (λ z. up_to f (at - from) ++ z) here

  pub between_cut : (to : ℕ) → at < to → (rest : List ℕ) × (text_between o es show from to ≡ text_between o es show from at ++ (lines_of o es show at ++ rest))
  between_cut to less =
      let j = to - suc at in
      let rest = up_to (λ n. f (suc (at - from) + n)) j in (
        rest,
        ap (up_to f) (let z : to - from ≡ suc (at - from) + (to - suc at) = omega (arith, begun, less) in z)
            ∙ up_to_more f (suc (at - from)) j
            ∙ append_assoc (up_to f (at - from)) (f (at - from)) rest
            ∙ ap (λ z. up_to f (at - from) ++ (z ++ rest)) here,
      )

pub passing_start : (m : Seen) (es : List Event) (from : ℕ) (w : Option (List ℕ)) (faults : ℕ) → IsUpTo m es from → IsPassing m m es from from w w faults faults
passing_start m es from w faults b =
    record {
      before = b;
      same = record { object = refl; show = refl };
      read = refl;
      text = append_known-start w ∙ ap (append_known w) (sym (ap (up_to (λ n. lines_of m.object es m.show (from + n))) (let z : from - from ≡ 0 = omega arith in z)));
      kept = refl;
    }

pub passing_on : {T E : Type 0} (m0 m m1 : Seen) (es : List Event) (from at : ℕ) (w0 w w1 : Option (List ℕ)) (f0 f f1 : ℕ) (x : T) → from ≤ at → IsPassing m0 m es from at w0 w f0 f
    → Puts {T = T} {E = E} w w1 f f1 (lines_of m.object es m.show at) (Ok x) → IsUpTo m1 es (suc at) → IsSameRun m m1 → m1.run_state.reading ≡ m.run_state.reading → IsPassing m0 m1 es from (suc at) w0 w1 f0 f1
passing_on m0 m m1 es from at w0 w w1 f0 f f1 x begun p puts next same read =
    let lines : lines_of m.object es m.show at ≡ lines_of m0.object es m0.show at =
    ap (λ o. lines_of o es m.show at) p.same.object ∙ ap (λ s. lines_of m0.object es s at) p.same.show in
    record {
      before = next;
      same = record { object = same.object ∙ p.same.object; show = same.show ∙ p.same.show };
      read = read ∙ p.read;
      text =
          append_known-more w0 w w1 (text_between m0.object es m0.show from at) (lines_of m0.object es m0.show at) p.text (puts.whole ∙ ap (append_known w) lines)
          ∙ ap (append_known w0) (sym (between_next m0.object es m0.show from at begun));
      kept = puts.cause.kept ∙ p.kept;
    }

pub passing_failed : {T S E : Type 0} (m0 m : Seen) (es : List Event) (from at to : ℕ) (w0 w w1 : Option (List ℕ)) (f0 f f1 : ℕ) (e g : E) → from ≤ at → at < to → IsPassing m0 m es from at w0 w f0 f
    → Puts {T = S} {E = E} w w1 f f1 (lines_of m.object es m.show at) (Err e) → Puts {T = T} {E = E} w0 w1 f0 f1 (text_between m0.object es m0.show from to) (Err g)
passing_failed {T = T} {S = S} {E = E} m0 m es from at to w0 w w1 f0 f f1 e g begun less p puts =
    let lines : lines_of m.object es m.show at ≡ lines_of m0.object es m0.show at =
    ap (λ o. lines_of o es m.show at) p.same.object ∙ ap (λ s. lines_of m0.object es s at) p.same.show in
    let cut = between_cut m0.object es m0.show from at begun to less in
    subst (λ z. Puts {T = T} {E = E} w0 w1 f0 f1 z (Err g)) (sym cut.1)
    (Puts-failed w0 w w1 f0 f f1 (text_between m0.object es m0.show from at) (lines_of m0.object es m0.show at) cut.0 e g p.text p.kept (subst (λ z. Puts {T = S} {E = E} w w1 f f1 z (Err e)) lines puts))

pub passing_whole : {T E : Type 0} (m0 m : Seen) (es : List Event) (from at to : ℕ) (w0 w : Option (List ℕ)) (f0 f : ℕ) (x : T) → at ≡ to → IsPassing m0 m es from at w0 w f0 f
    → Puts {T = T} {E = E} w0 w f0 f (text_between m0.object es m0.show from to) (Ok x)
passing_whole m0 m es from at to w0 w f0 f x all p =
    record {
      whole = p.text ∙ ap (λ z. append_known w0 (text_between m0.object es m0.show from z)) all;
      part = tt;
      cause = record { later = omega (arith, p.kept); kept = p.kept; refused = tt };
    }

-- a machine stands before the instant of its reading, however that is named
pub up_to_reading : (m : Seen) (es : List Event) (n : ℕ) → n ≡ m.run_state.reading → Follows m es → IsUpTo m es n
up_to_reading m es n read f = subst (λ k. IsUpTo m es k) (sym read) (record { kept = f.kept; before = f.before })

-- ---- for every list of events that the machine followed at first

pub all_start : (m : Seen) (from : ℕ) (w : Option (List ℕ)) (faults : ℕ) → ArePassing m m from from w w faults faults
all_start m from w faults = record { passing = λ es b. passing_start m es from w faults b; same = record { object = refl; show = refl }; read = refl }

pub all_on : {T E : Type 0} (m0 m m1 : Seen) (from at : ℕ) (w0 w w1 : Option (List ℕ)) (f0 f f1 : ℕ) (x : T) → from ≤ at → ArePassing m0 m from at w0 w f0 f
    → ((es : List Event) → IsUpTo m es at → Puts {T = T} {E = E} w w1 f f1 (lines_of m.object es m.show at) (Ok x)) → ((es : List Event) → IsUpTo m es at → IsUpTo m1 es (suc at))
    → IsSameRun m m1 → m1.run_state.reading ≡ m.run_state.reading → ArePassing m0 m1 from (suc at) w0 w1 f0 f1
all_on {T = T} {E = E} m0 m m1 from at w0 w w1 f0 f f1 x begun p puts next same read =
    record {
      passing = λ es b. (let q = p.passing es b in passing_on {T = T} {E = E} m0 m m1 es from at w0 w w1 f0 f f1 x begun q (puts es q.before) (next es q.before) same read);
      same = record { object = same.object ∙ p.same.object; show = same.show ∙ p.same.show };
      read = read ∙ p.read;
    }
