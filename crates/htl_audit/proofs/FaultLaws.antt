-- A log has one first fault at most, and none exactly where it is legal.
use Rattle.std.proofs.Common.{◌≡◌, ℕ, zero, suc, ◌+◌, ◌<◌, inl, inr, Bool, true, false, List, [], ◌∷◌, ◌++◌, length, slice_get, take, Option, Some, None, refl, sym, ◌∙◌, ap, arith}
use Rattle.htl_audit.proofs.Words.{append_assoc, append-nil, slice_get_within, none-some, Event, Tables, Slice, LogKind, LogFault, BeginningJobs, all_rounds, line_fault, first_line_fault, first_fault_in, first_fault, end_fault, fault_at, any_short, IsLegalIn, IsLegal, IsFirstFaultIn, IsFirstFault}
use Rattle.htl_audit.specs.declared.slice.LogKind.TheVariants as kind

module _ (rounds : List BeginningJobs) (now : ℕ) where
  -- a line of those behind the lines `log`, with the lines between
  join : (log : List Slice) (x : Slice) (xs : List Slice) (i : ℕ) (y : Slice) (o : Option LogKind) → line_fault rounds now (log ++ x ∷ [] ++ take i xs) y ≡ o → line_fault rounds now (log ++ (x ∷ take i xs)) y ≡ o
  join log x xs i y o e = ap (λ zs. line_fault rounds now zs y) (sym (append_assoc log (x ∷ []) (take i xs))) ∙ e

  split : (log : List Slice) (x : Slice) (xs : List Slice) (i : ℕ) (y : Slice) (o : Option LogKind) → line_fault rounds now (log ++ (x ∷ take i xs)) y ≡ o → line_fault rounds now (log ++ x ∷ [] ++ take i xs) y ≡ o
  split log x xs i y o e = ap (λ zs. line_fault rounds now zs y) (append_assoc log (x ∷ []) (take i xs)) ∙ e

  -- no fault among the lines: each keeps the rules
  none_found : (n : ℕ) (log xs : List Slice) → first_line_fault rounds now n log xs ≡ None → (i : ℕ) (y : Slice) → slice_get xs i ≡ Some y → line_fault rounds now (log ++ take i xs) y ≡ None
  none_found n log [] e = λ i y at. absurd (none-some y at)
  none_found n log (x ∷ xs) e = by (line_fault rounds now log x) refl e (none_found (suc n) (log ++ x ∷ []) xs)
    where
      by : (o : Option LogKind) → line_fault rounds now log x ≡ o → elim o as (λ _. Option LogFault) [ Some k ↦ Some (fault_at n k) | None ↦ first_line_fault rounds now (suc n) (log ++ x ∷ []) xs ] ≡ None
          → (first_line_fault rounds now (suc n) (log ++ x ∷ []) xs ≡ None → (i : ℕ) (y : Slice) → slice_get xs i ≡ Some y → line_fault rounds now (log ++ x ∷ [] ++ take i xs) y ≡ None)
          → (i : ℕ) (y : Slice) → slice_get (x ∷ xs) i ≡ Some y → line_fault rounds now (log ++ take i (x ∷ xs)) y ≡ None
      by (Some k) is f later i y at = absurd (none-some (fault_at n k) (sym f))
      by None is f later zero y at = let one : x ≡ y = cc in ap (λ zs. line_fault rounds now zs y) (append-nil log) ∙ ap (line_fault rounds now log) (sym one) ∙ is
      by None is f later (suc i) y at = join log x xs i y None (later f i y at)

  -- and the other way round
  none_there : (n : ℕ) (log xs : List Slice) → ((i : ℕ) (y : Slice) → slice_get xs i ≡ Some y → line_fault rounds now (log ++ take i xs) y ≡ None) → first_line_fault rounds now n log xs ≡ None
  none_there n log [] h = refl
  none_there n log (x ∷ xs) h =
      let here : line_fault rounds now log x ≡ None = ap (λ zs. line_fault rounds now zs x) (sym (append-nil log)) ∙ h 0 x refl in
      ap (λ (o : Option LogKind). elim o as (λ _. Option LogFault) [ Some k ↦ Some (fault_at n k) | None ↦ first_line_fault rounds now (suc n) (log ++ x ∷ []) xs ]) here
      ∙ none_there (suc n) (log ++ x ∷ []) xs (λ i y at. split log x xs i y None (h (suc i) y at))

  -- a fault among the lines, the first from number n on
  record IsFound (n : ℕ) (log xs : List Slice) (f : LogFault) : Type 0 where
    place : ℕ
    slice : Slice
    at : slice_get xs place ≡ Some slice
    earlier : (i : ℕ) (y : Slice) → i < place → slice_get xs i ≡ Some y → line_fault rounds now (log ++ take i xs) y ≡ None
    kind : line_fault rounds now (log ++ take place xs) slice ≡ Some f.kind
    line : f.line ≡ n + place

  found : (n : ℕ) (log xs : List Slice) (f : LogFault) → first_line_fault rounds now n log xs ≡ Some f → IsFound n log xs f
  found n log [] f e = absurd (none-some f e)
  found n log (x ∷ xs) f e = by (line_fault rounds now log x) refl e (λ g. found (suc n) (log ++ x ∷ []) xs f g)
    where
      by : (o : Option LogKind) → line_fault rounds now log x ≡ o → elim o as (λ _. Option LogFault) [ Some k ↦ Some (fault_at n k) | None ↦ first_line_fault rounds now (suc n) (log ++ x ∷ []) xs ] ≡ Some f
          → (first_line_fault rounds now (suc n) (log ++ x ∷ []) xs ≡ Some f → IsFound (suc n) (log ++ x ∷ []) xs f) → IsFound n log (x ∷ xs) f
      by (Some k) is g later =
          let one : fault_at n k ≡ f = cc in
          record {
            place = 0;
            slice = x;
            at = refl;
            earlier = λ i y h at. absurd (omega (arith, h));
            kind = ap (λ zs. line_fault rounds now zs x) (append-nil log) ∙ is ∙ ap (λ (z : LogFault). Some z.kind) one;
            line = sym (ap (λ (z : LogFault). z.line) one) ∙ (let z : n ≡ n + 0 = omega arith in z);
          }
      by None is g later =
          let r = later g in
          record {
            place = suc r.place;
            slice = r.slice;
            at = r.at;
            earlier = λ i y h at. early r.place r.earlier i y h at;
            kind = join log x xs r.place r.slice (Some f.kind) r.kind;
            line = omega (arith, r.line);
          }
        where
          early : (place : ℕ) → ((i : ℕ) (y : Slice) → i < place → slice_get xs i ≡ Some y → line_fault rounds now (log ++ x ∷ [] ++ take i xs) y ≡ None)
              → (i : ℕ) (y : Slice) → i < suc place → slice_get (x ∷ xs) i ≡ Some y → line_fault rounds now (log ++ take i (x ∷ xs)) y ≡ None
          early place h zero y below at = let one : x ≡ y = cc in ap (λ zs. line_fault rounds now zs y) (append-nil log) ∙ ap (line_fault rounds now log) (sym one) ∙ is
          early place h (suc i) y below at = join log x xs i y None (h i y (omega (arith, below)) at)

  there : (n : ℕ) (log xs : List Slice) (k : LogKind) (place : ℕ) (y : Slice) → slice_get xs place ≡ Some y
      → ((i : ℕ) (z : Slice) → i < place → slice_get xs i ≡ Some z → line_fault rounds now (log ++ take i xs) z ≡ None) → line_fault rounds now (log ++ take place xs) y ≡ Some k
      → first_line_fault rounds now n log xs ≡ Some (fault_at (n + place) k)
  there n log [] k place y at h e = absurd (none-some y at)
  there n log (x ∷ xs) k zero y at h e =
      let one : x ≡ y = cc in
      let here : line_fault rounds now log x ≡ Some k = ap (λ zs. line_fault rounds now zs x) (sym (append-nil log)) ∙ ap (line_fault rounds now (log ++ [])) one ∙ e in
      ap (λ (o : Option LogKind). elim o as (λ _. Option LogFault) [ Some k ↦ Some (fault_at n k) | None ↦ first_line_fault rounds now (suc n) (log ++ x ∷ []) xs ]) here
      ∙ ap (λ m. Some (fault_at m k)) (let z : n ≡ n + 0 = omega arith in z)
  there n log (x ∷ xs) k (suc place) y at h e =
      let here : line_fault rounds now log x ≡ None = ap (λ zs. line_fault rounds now zs x) (sym (append-nil log)) ∙ h 0 x (omega arith) refl in
      ap (λ (o : Option LogKind). elim o as (λ _. Option LogFault) [ Some k ↦ Some (fault_at n k) | None ↦ first_line_fault rounds now (suc n) (log ++ x ∷ []) xs ]) here
      ∙ there (suc n) (log ++ x ∷ []) xs k place y at (λ i z below q. split log x xs i z None (h (suc i) z (omega (arith, below)) q)) (split log x xs place y (Some k) e)
      ∙ ap (λ m. Some (fault_at m k)) (let z : suc n + place ≡ n + suc place = omega arith in z)

  abbrev whole : List Slice → Option LogFault → Option LogFault
  whole log o = elim o [ Some f ↦ Some f | None ↦ end_fault (any_short rounds now log) (length log) ]

  end_is : (b : Bool) (n : ℕ) (f : LogFault) → end_fault b n ≡ Some f → (b ≡ true) × (f.kind ≡ kind.Short) × (f.line ≡ suc n)
  end_is true n f e = let one : fault_at (suc n) kind.Short ≡ f = cc in (refl, sym (ap (λ (z : LogFault). z.kind) one), sym (ap (λ (z : LogFault). z.line) one))
  end_is false n f e = absurd (none-some f e)

  pub fault_is : (log : List Slice) (f : LogFault) → first_fault_in rounds now log ≡ Some f → IsFirstFaultIn rounds now log f
  fault_is log f e = by (first_line_fault rounds now 1 [] log) refl e
    where
      by : (o : Option LogFault) → first_line_fault rounds now 1 [] log ≡ o → whole log o ≡ Some f → IsFirstFaultIn rounds now log f
      by (Some g) is h =
          let one : g ≡ f = cc in
          let r = found 1 [] log f (is ∙ ap (λ z. Some z) one) in
          inl (record { place = r.place; slice = r.slice; at = r.at; earlier = r.earlier; kind = r.kind; line = omega (arith, r.line) })
      by None is h =
          let b = end_is (any_short rounds now log) (length log) f h in
          inr (record { earlier = λ i x below at. none_found 1 [] log is i x at; short = b.0; kind = b.1; line = b.2 })

  pub is_fault : (log : List Slice) (f : LogFault) → IsFirstFaultIn rounds now log f → first_fault_in rounds now log ≡ Some f
  is_fault log f (inl r) =
      ap (whole log) (there 1 [] log f.kind r.place r.slice r.at r.earlier r.kind)
      ∙ ap (λ n. Some (fault_at n f.kind)) ((let z : 1 + r.place ≡ suc r.place = omega arith in z) ∙ sym r.line)
  is_fault log f (inr r) =
      ap (whole log) (none_there 1 [] log (λ i x at. r.earlier i x (slice_get_within log i x at) at))
      ∙ ap (λ b. end_fault b (length log)) r.short ∙ ap (λ k. Some (fault_at (suc (length log)) k)) (sym r.kind) ∙ ap (λ n. Some (fault_at n f.kind)) (sym r.line)

  end_none : (b : Bool) (n : ℕ) → end_fault b n ≡ None → b ≡ false
  end_none true n e = absurd (none-some (fault_at (suc n) kind.Short) (sym e))
  end_none false n e = refl

  pub legal_is : (log : List Slice) → first_fault_in rounds now log ≡ None → IsLegalIn rounds now log
  legal_is log e = by (first_line_fault rounds now 1 [] log) refl e
    where
      by : (o : Option LogFault) → first_line_fault rounds now 1 [] log ≡ o → whole log o ≡ None → IsLegalIn rounds now log
      by (Some g) is h = absurd (none-some g (sym h))
      by None is h = record { lines = none_found 1 [] log is; whole = end_none (any_short rounds now log) (length log) h }

  pub is_legal : (log : List Slice) → IsLegalIn rounds now log → first_fault_in rounds now log ≡ None
  is_legal log r = ap (whole log) (none_there 1 [] log r.lines) ∙ ap (λ b. end_fault b (length log)) r.whole

  pub one_fault : (log : List Slice) (f g : LogFault) → IsFirstFaultIn rounds now log f → IsFirstFaultIn rounds now log g → f ≡ g
  one_fault log f g a b = let e : Some f ≡ Some g = sym (is_fault log f a) ∙ is_fault log g b in cc

pub first_fault_found : (t : Tables) (es : List Event) (end : ℕ) (log : List Slice) (f : LogFault)
    → (first_fault t es end log ≡ Some f → IsFirstFault t es end log f) × (IsFirstFault t es end log f → first_fault t es end log ≡ Some f)
first_fault_found t es end log f = let rounds = all_rounds t es (suc end) in (fault_is rounds (suc end) log f, is_fault rounds (suc end) log f)

pub legal_without_fault : (t : Tables) (es : List Event) (end : ℕ) (log : List Slice)
    → (first_fault t es end log ≡ None → IsLegal t es end log) × (IsLegal t es end log → (f : LogFault) → IsFirstFault t es end log f → ⊥)
legal_without_fault t es end log =
    let rounds = all_rounds t es (suc end) in
    (legal_is rounds (suc end) log, λ h f g. none-some f (sym (is_legal rounds (suc end) log h) ∙ is_fault rounds (suc end) log f g))

pub one_first_fault : (t : Tables) (es : List Event) (end : ℕ) (log : List Slice) (f g : LogFault) → IsFirstFault t es end log f → IsFirstFault t es end log g → f ≡ g
one_first_fault t es end log f g a b = one_fault (all_rounds t es (suc end)) (suc end) log f g a b
