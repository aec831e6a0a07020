-- Lines that are written one place after another.
use Rattle.std.proofs.Common.{◌≡◌, ℕ, zero, suc, ◌<◌, Bool, true, false, cond, List, [], ◌∷◌, ◌++◌, Option, Result, Ok, Err, refl, sym, ap, ◌∙◌, subst, arith, append_assoc, append-nil, inl, inr}
use Rattle.htl_runs.proofs.Words.{append_known, flat_map-append, flat_map-cons, Puts, append_known-start, append_known-more, Puts-failed, Puts-second, Line, lines_text, line_text, up_to, Tables, cases_below}

pub one_line : (t : Tables) (x : Line) → lines_text t (x ∷ []) ≡ line_text t x
one_line t x = flat_map-cons (line_text t) x [] ∙ append-nil (line_text t x)

pub lines_text-append : (t : Tables) (xs ys : List Line) → lines_text t (xs ++ ys) ≡ lines_text t xs ++ lines_text t ys
lines_text-append t xs ys = flat_map-append (line_text t) xs ys

-- what follows the lines of a place
abbrev pub Follows : Tables → (ℕ → List Line) → ℕ → ℕ → Type 0
Follows t f k n = (later : List ℕ) × (lines_text t (up_to f n) ≡ lines_text t (up_to f k) ++ (lines_text t (f k) ++ later))

follows : (t : Tables) (f : ℕ → List Line) (k n : ℕ) → k < n → Follows t f k n
follows t f k zero h = absurd (omega (arith, h))
follows t f k (suc n) h =
    elim (cases_below k n h) [
      | inl q ↦
          let before : Follows t f k n = follows t f k n q in
          let front = lines_text t (up_to f k) in
          let here = lines_text t (f k) in
          let more = lines_text t (f n) in (
            before.0 ++ more,
            lines_text-append t (up_to f n) (f n) ∙ ap (λ (bs : List ℕ). bs ++ more) before.1
                ∙ append_assoc front (here ++ before.0) more ∙ ap (λ (bs : List ℕ). front ++ bs) (append_assoc here before.0 more),
          )
      | inr e ↦ (
        [],
        lines_text-append t (up_to f n) (f n)
            ∙ ap (λ (m : ℕ). lines_text t (up_to f m) ++ lines_text t (f m)) (sym e)
            ∙ ap (λ (bs : List ℕ). lines_text t (up_to f k) ++ bs) (sym (append-nil (lines_text t (f k)))),
      )
    ]

-- the lines of the places below k were written
pub record IsPutting (t : Tables) (f : ℕ → List Line) (k : ℕ) (old now : Option (List ℕ)) (before between : ℕ) : Type 0 where
  pub written : now ≡ append_known old (lines_text t (up_to f k))
  pub kept : between ≡ before

pub IsPutting-start : (t : Tables) (f : ℕ → List Line) (old : Option (List ℕ)) (before : ℕ) → IsPutting t f 0 old old before before
IsPutting-start t f old before = record { written = append_known-start old; kept = refl }

-- the lines of a place more
pub IsPutting-step : {T E : Type 0} (t : Tables) (f : ℕ → List Line) (k : ℕ) (ls : List Line) (old mid new : Option (List ℕ)) (before between now : ℕ) (u : T) → ls ≡ f k →
    IsPutting t f k old mid before between → Puts {T = T} {E = E} mid new between now (lines_text t ls) (Ok u) → IsPutting t f (suc k) old new before now
IsPutting-step t f k ls old mid new before between now u e h puts = record {
  written =
      append_known-more old mid new (lines_text t (up_to f k)) (lines_text t ls) h.written puts.whole
      ∙ ap (append_known old) (sym (lines_text-append t (up_to f k) ls) ∙ ap (λ (xs : List Line). lines_text t (up_to f k ++ xs)) e);
  kept = puts.cause.kept ∙ h.kept;
}

-- the lines of a place failed
pub Puts-cut : {T S E F : Type 0} (t : Tables) (f : ℕ → List Line) (k n : ℕ) (ls : List Line) (old mid new : Option (List ℕ)) (before between now : ℕ) (e : E) (d : F) → k < n → ls ≡ f k →
    IsPutting t f k old mid before between → Puts {T = S} mid new between now (lines_text t ls) (Err e) →
    Puts {T = T} old new before now (lines_text t (up_to f n)) (Err d)
Puts-cut {T = T} {F = F} t f k n ls old mid new before between now e d less is h puts =
    let rest = follows t f k n less in
    subst (λ (bs : List ℕ). Puts {T = T} {E = F} old new before now bs (Err d)) (sym (rest.1 ∙ ap (λ (xs : List Line). lines_text t (up_to f k) ++ (lines_text t xs ++ rest.0)) (sym is)))
    (Puts-failed old mid new before between now (lines_text t (up_to f k)) (lines_text t ls) rest.0 e d h.written h.kept puts)

-- lines that are shown, in two parts
pub both_shown : {T E : Type 0} (t : Tables) (xs ys : List Line) (a b : Bool) (old mid new : Option (List ℕ)) (before between now : ℕ) (result : Result T E) → a ≡ b → a ≡ true → mid ≡ append_known old (lines_text t xs) → between ≡ before
    → Puts mid new between now (lines_text t ys) result → Puts old new before now (cond b (lines_text t (xs ++ ys)) []) result
both_shown t xs ys a b old mid new before between now result same shown was kept puts =
    subst (λ z. Puts old new before now z result) (sym (lines_text-append t xs ys) ∙ sym (ap (λ c. cond c (lines_text t (xs ++ ys)) []) (sym same ∙ shown)))
    (Puts-second old mid new before between now (lines_text t xs) (lines_text t ys) result was kept puts)

-- the first of two texts fails
pub Puts-first : {T S E F : Type 0} (old new : Option (List ℕ)) (before now : ℕ) (first second : List ℕ) (e : E) (f : F) → Puts {T = S} old new before now first (Err e) → Puts {T = T} old new before now (first ++ second) (Err f)
Puts-first old new before now first second e f puts = Puts-failed old old new before before now [] first second e f (append_known-start old) refl puts

-- the first part of lines that are shown fails
pub first_failed : {T S E F : Type 0} (t : Tables) (xs ys : List Line) (a b : Bool) (old new : Option (List ℕ)) (before now : ℕ) (e : E) (f : F) → a ≡ b → a ≡ true
    → Puts {T = S} old new before now (lines_text t xs) (Err e) → Puts {T = T} old new before now (cond b (lines_text t (xs ++ ys)) []) (Err f)
first_failed {T = T} {F = F} t xs ys a b old new before now e f same shown puts =
    subst (λ z. Puts {T = T} {E = F} old new before now z (Err f)) (sym (lines_text-append t xs ys) ∙ sym (ap (λ c. cond c (lines_text t (xs ++ ys)) []) (sym same ∙ shown)))
    (Puts-first old new before now (lines_text t xs) (lines_text t ys) e f puts)

-- a text that isn't shown
pub none_shown : (bs : List ℕ) (a b : Bool) → a ≡ b → a ≡ false → cond b bs [] ≡ []
none_shown bs a b same hidden = ap (λ c. cond c bs []) (sym same ∙ hidden)
