-- Where a list begins, by the starts of a frame.
use Rattle.std.proofs.Common.{◌≡◌, ◌≢◌, ◌<◌, ◌≤◌, ◌%◌, ℕ, zero, suc, Bool, true, false, cond, ◌||◌, eqb, List, [], ◌∷◌, length, take, refl, sym, ap, ap₂, ◌∙◌, arith, inl, inr}
use Rattle.htl_machine.proofs.Words.{list_any, eq-eqb, ne_eqb, cases_eq, list_any-append, KeptApart, frame_of, starts_below, root_periods, AreInRange, root_modules, Tables, frame_some, Object, IsAccepted, IsNumbering, some_round_begins, opens, Numbering, or_with_false}
use Rattle.htl_model.specs.Frames as frames
use Rattle.htl_runs.proofs.{jobs.Accepted.accepted_is_loaded, lists.NextLists.begins_at}

-- ---- among the starts below an end

-- the last of them
one : (b : Bool) (h a : ℕ) (same : Bool) → eqb h a ≡ same → list_any (λ s. eqb s a) (cond b (h ∷ []) []) ≡ cond same b false
one true h a true e = ap (λ c. c || false) e
one true h a false e = ap (λ c. c || false) e
one false h a true e = refl
one false h a false e = refl

none_below : (ps : List ℕ) (a h : ℕ) → h ≤ a → list_any (λ s. eqb s a) (starts_below ps h) ≡ false
none_below ps a zero l = refl
none_below ps a (suc h) l =
    list_any-append (λ s. eqb s a) (starts_below ps h) (cond (frames.begins ps h) (h ∷ []) [])
    ∙ ap₂ (λ x y. x || y) (none_below ps a h (omega arith)) (one (frames.begins ps h) h a false (ne_eqb h a (λ e. omega (arith, e))))

any_below : (ps : List ℕ) (a h : ℕ) → a < h → list_any (λ s. eqb s a) (starts_below ps h) ≡ frames.begins ps a
any_below ps a zero l = absurd (omega (arith, l))
any_below ps a (suc h) l = list_any-append (λ s. eqb s a) (starts_below ps h) (cond (frames.begins ps h) (h ∷ []) []) ∙ elim (cases_eq h a) [
  | inl e ↦ ap₂ (λ x y. x || y) (none_below ps a h (omega (arith, e))) (one (frames.begins ps h) h a true (eq-eqb h a e)) ∙ ap (frames.begins ps) e
  | inr d ↦ ap₂ (λ x y. x || y) (any_below ps a h (before h a l d)) (one (frames.begins ps h) h a false (ne_eqb h a d)) ∙ or_with_false (frames.begins ps a)
]
  where
    before : (h a : ℕ) → a < suc h → h ≢ a → a < h
    before h a l d = grind arith

-- ---- by the numbers of a frame

pub begins_among : (t : Tables) (n : Numbering) (at : ℕ) → IsNumbering t n → AreInRange t → KeptApart t 12 → n.frame ≢ 0 → list_any (λ s. eqb s (at % n.frame)) (take n.count n.starts) ≡ some_round_begins t at
begins_among t n at is range kept some =
    let within : at % frame_of t < frame_of t = omega (arith, is.frame, some) in
    ap₂ (λ f xs. list_any (λ s. eqb s (at % f)) xs) is.frame is.starts_are ∙ any_below (root_periods t) (at % frame_of t) (frame_of t) within ∙ sym (begins_at t at range kept)

pub begins_never : (t : Tables) (n : Numbering) (at : ℕ) → IsNumbering t n → AreInRange t → n.frame ≡ 0 → false ≡ some_round_begins t at
begins_never t n at is range none = by (root_modules t) refl
  where
    by : (us : List ℕ) → root_modules t ≡ us → false ≡ some_round_begins t at
    by [] e = sym (ap (list_any (opens t at)) e)
    by (u ∷ us) e = absurd (let some = frame_some t range (omega (arith, ap length e)) in omega (arith, some, is.frame, none))

-- what the code finds is where a list of an accepted object begins
pub begins_so : (o : Object) (n : Numbering) (at : ℕ) (found : Bool) → IsAccepted o → IsNumbering o.tables n
    → ((t : Tables) → IsNumbering t n → AreInRange t → KeptApart t 12 → found ≡ some_round_begins t at) → some_round_begins o.tables at ≡ found
begins_so o n at found ok is so = let l = accepted_is_loaded o ok in sym (so o.tables is l.range l.kept)
