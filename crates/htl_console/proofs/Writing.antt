-- Lines that are written one place after another.
use Rattle.std.proofs.Common.{◌≡◌, ℕ, zero, suc, ◌≤◌, ◌<◌, length, map, take, List, [], ◌++◌, get_or, Option, None, Some, Result, Ok, Err, refl, sym, ap, ◌∙◌, subst, arith, append_assoc, append-nil, inl, inr}
use Rattle.htl_base.proofs.Words.{append_known, take-append_seam, slice_get_read}
use Rattle.htl_walk.proofs.Words.{get_or-map, length-append, length-map}
use Rattle.htl_ecode.proofs.Words.{up_to, cases_below}
use Rattle.htl_edge.specs.Content.{Puts}
use Rattle.htl_edge.proofs.Puts.{append_known-start, append_known-more, Puts-failed, Puts-second}
use Rattle.htl_console.specs.Listing.{line_at, all_lines}

-- nothing is to be written
pub nothing_put : {T E : Type 0} (old : Option (List ℕ)) (before : ℕ) (text : List ℕ) (u : T) → text ≡ [] → Puts {T = T} {E = E} old old before before text (Ok u)
nothing_put old before text u e = record {
  whole = append_known-start old ∙ ap (append_known old) (sym e);
  part = tt;
  cause = record { later = omega arith; kept = refl; refused = tt };
}

-- ---- the lines of a list

-- what follows the line of a place
abbrev pub Follows : (ℕ → List ℕ) → ℕ → ℕ → Type 0
Follows f k n = (later : List ℕ) × (up_to f n ≡ up_to f k ++ (f k ++ later))

follows : (f : ℕ → List ℕ) (k n : ℕ) → k < n → Follows f k n
follows f k zero h = absurd (omega (arith, h))
follows f k (suc n) h =
    elim (cases_below k n h) [
      | inl q ↦
          let before : Follows f k n = follows f k n q in (
            before.0 ++ f n,
            ap (λ (bs : List ℕ). bs ++ f n) before.1 ∙ append_assoc (up_to f k) (f k ++ before.0) (f n)
                ∙ ap (λ (bs : List ℕ). up_to f k ++ bs) (append_assoc (f k) before.0 (f n)),
          )
      | inr e ↦ (
        [],
        ap (λ (m : ℕ). up_to f m ++ f m) (sym e) ∙ ap (λ (bs : List ℕ). up_to f k ++ bs) (sym (append-nil (f k))),
      )
    ]

-- the lines of the places below k were written
pub record IsWriting {X : Type 0} (line : ℕ → X → List ℕ) (xs : List X) (k : ℕ) (old now : Option (List ℕ)) (before between : ℕ) : Type 0 where
  pub written : now ≡ append_known old (up_to (line_at line xs) k)
  pub kept : between ≡ before

abbrev line_of : {X : Type 0} → (ℕ → X → List ℕ) → ℕ → Option X → List ℕ
line_of line k (Some x) = line k x
line_of line k None = []

-- the line of the item at a place
line_here : {X : Type 0} (line : ℕ → X → List ℕ) (xs : List X) (k : ℕ) (x : X) → k < length xs → x ≡ get_or xs k x → line_at line xs k ≡ line k x
line_here {X = X} line xs k x inside is =
    ap (λ (o : Option X). line_of line k o) (slice_get_read xs (length xs) k x refl inside is)

-- one line more
pub IsWriting-step : {X T E : Type 0} (line : ℕ → X → List ℕ) (xs : List X) (k : ℕ) (x : X) (old mid new : Option (List ℕ)) (before between now : ℕ) (u : T)
    → k < length xs → x ≡ get_or xs k x → IsWriting line xs k old mid before between → Puts {T = T} {E = E} mid new between now (line k x) (Ok u)
    → IsWriting line xs (suc k) old new before now
IsWriting-step line xs k x old mid new before between now u inside is h puts = record {
  written =
      append_known-more old mid new (up_to (line_at line xs) k) (line k x) h.written puts.whole
      ∙ ap (λ (bs : List ℕ). append_known old (up_to (line_at line xs) k ++ bs)) (sym (line_here line xs k x inside is));
  kept = puts.cause.kept ∙ h.kept;
}

-- the line of a place failed
pub IsWriting-cut : {X T S E F : Type 0} (line : ℕ → X → List ℕ) (xs : List X) (k : ℕ) (x : X) (old mid new : Option (List ℕ)) (before between now : ℕ) (e : E) (d : F)
    → k < length xs → x ≡ get_or xs k x → IsWriting line xs k old mid before between → Puts {T = S} mid new between now (line k x) (Err e)
    → Puts {T = T} old new before now (all_lines line xs) (Err d)
IsWriting-cut {T = T} {F = F} line xs k x old mid new before between now e d inside is h puts =
    let f = line_at line xs in
    let rest = follows f k (length xs) inside in
    subst (λ (bs : List ℕ). Puts {T = T} {E = F} old new before now bs (Err d))
    (sym (rest.1 ∙ ap (λ (bs : List ℕ). up_to f k ++ (bs ++ rest.0)) (line_here line xs k x inside is)))
    (Puts-failed old mid new before between now (up_to f k) (line k x) rest.0 e d h.written h.kept puts)

-- an item of a list that is seen another way
pub seen-at : {A X : Type 0} (see : A → X) (ys : List A) (k : ℕ) (a : A) → k < length ys → a ≡ get_or ys k a → see a ≡ get_or (map see ys) k (see a)
seen-at see ys k a inside is = ap see is ∙ sym (get_or-map see ys k a (see a) inside)

pub seen-inside : {A X : Type 0} (see : A → X) (ys : List A) (k : ℕ) → k < length ys → k < length (map see ys)
seen-inside see ys k inside = subst (λ (n : ℕ). k < n) (sym (length-map ys see)) inside

-- ---- texts one after another

-- a text was written
pub record WasPut (old now : Option (List ℕ)) (before between : ℕ) (text : List ℕ) : Type 0 where
  pub written : now ≡ append_known old text
  pub kept : between ≡ before

pub WasPut-first : {E : Type 0} (old now : Option (List ℕ)) (before between : ℕ) (text : List ℕ) (u : Unit {0}) → Puts {T = Unit {0}} {E = E} old now before between text (Ok u) → WasPut old now before between text
WasPut-first old now before between text u puts = record { written = puts.whole; kept = puts.cause.kept }

pub WasPut-more : {E : Type 0} (old mid new : Option (List ℕ)) (before between now : ℕ) (first second : List ℕ) (u : Unit {0})
    → WasPut old mid before between first → Puts {T = Unit {0}} {E = E} mid new between now second (Ok u) → WasPut old new before now (first ++ second)
WasPut-more old mid new before between now first second u was puts = record {
  written = append_known-more old mid new first second was.written puts.whole;
  kept = puts.cause.kept ∙ was.kept;
}

-- a text that follows is written or fails
pub WasPut-last : {E : Type 0} (old mid new : Option (List ℕ)) (before between now : ℕ) (first second : List ℕ) (result : Result (Unit {0}) E)
    → WasPut old mid before between first → Puts mid new between now second result → Puts old new before now (first ++ second) result
WasPut-last old mid new before between now first second result was puts = Puts-second old mid new before between now first second result was.written was.kept puts

-- a text failed, and what follows it was not begun
pub Puts-cut : {E : Type 0} (old new : Option (List ℕ)) (before now : ℕ) (text later : List ℕ) (e : E)
    → Puts {T = Unit {0}} old new before now text (Err e) → Puts {T = Unit {0}} old new before now (text ++ later) (Err e)
Puts-cut old new before now text later e puts =
    Puts-failed {T = Unit {0}} {S = Unit {0}} old old new before before now [] text later e e (append_known-start old) refl puts

-- ---- two texts side by side in a buffer

pub fits-first : (first front rest : List ℕ) → front ≡ first → length first ≤ length (front ++ rest)
fits-first first front rest is = omega (arith, ap length is, length-append front rest)

pub side_by_side : (first second front part rest : List ℕ) → front ≡ first → part ≡ second → take (length first) (front ++ rest) ++ part ≡ first ++ second
side_by_side first second front part rest is_first is_second =
    ap (λ (bs : List ℕ). take (length first) (bs ++ rest) ++ part) is_first ∙ ap (λ (bs : List ℕ). bs ++ part) (take-append_seam first rest)
    ∙ ap (λ (bs : List ℕ). first ++ bs) is_second
