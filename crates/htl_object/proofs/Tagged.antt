-- A value by its tag: a table of readers.
use Rattle.std.proofs.Common.{◌≡◌, ℕ, ◌==◌, Bool, true, false, cond, List, [], ◌∷◌, ◌++◌, Ok, refl, sym, ap, subst, ◌∙◌}
use Rattle.htl_object.proofs.Words.{eqb-true, Tag, Bad, IsBytes, Read, bad_at, choose, tagged_at, plain_at}
use Rattle.htl_object.proofs.Lawful.{IsBytes-behind, IsCodec, Lawful, Taken, given-value}

-- what an alternative reads is spelled with its tag, and fits
abbrev pub TagTakes : {X : Type 0} → (X → List ℕ) → (X → Type 0) → ℕ → (List ℕ → Read X) → Type 0
TagTakes {X} w g tag read = (bytes : List ℕ) (y : X) (rest : List ℕ) → IsBytes bytes → read bytes ≡ Ok (y, rest) → (tag ∷ bytes ≡ w y ++ rest) × g y

abbrev pub TableTakes : {X : Type 0} → (X → List ℕ) → (X → Type 0) → List (ℕ × (List ℕ → Read X)) → Type 0
TableTakes w g [] = Unit {0}
TableTakes w g (entry ∷ more) = TagTakes w g entry.0 entry.1 × TableTakes w g more

-- an alternative, and those behind it
infixr 10 ◌&◌
abbrev pub ◌&◌ : {A B : Type 0} → A → B → A × B
a & b = (a, b)

pub of_plain : {X : Type 0} (w : X → List ℕ) (g : X → Type 0) (tag : ℕ) (x : X) → w x ≡ tag ∷ [] → g x → TagTakes w g tag (plain_at x)
of_plain w g tag x spelled fit bytes y rest are e =
    let v = given-value x y bytes rest e in
    (ap (λ (b : List ℕ). tag ∷ b) v.1 ∙ ap (λ (b : List ℕ). b ++ rest) (sym spelled) ∙ ap (λ z. w z ++ rest) v.0, subst g v.0 fit)

pub of_parts : {B X : Type 0} {write : B → List ℕ} {fits : B → Type 0} {read : List ℕ → Read X} (w : X → List ℕ) (g : X → Type 0) (tag : ℕ) (make : B → X)
    → Lawful make write fits read → ((b : B) → w (make b) ≡ tag ∷ write b) → ((b : B) → fits b → g (make b)) → TagTakes w g tag read
of_parts w g tag make h spelled fit bytes y rest are e =
    let t = h.takes bytes y rest are e in
    (ap (λ (b : List ℕ). tag ∷ b) t.spelled ∙ ap (λ (b : List ℕ). b ++ rest) (sym (spelled t.part)) ∙ ap (λ z. w z ++ rest) t.made, subst g t.made (fit t.part t.fit))

by_test : {X : Type 0} (w : X → List ℕ) (g : X → Type 0) (tag n : ℕ) (one other : Read X) (bytes : List ℕ) (y : X) (rest : List ℕ) (test : Bool) → test ≡ (tag == n)
    → (one ≡ Ok (y, rest) → (n ∷ bytes ≡ w y ++ rest) × g y) → (other ≡ Ok (y, rest) → (tag ∷ bytes ≡ w y ++ rest) × g y)
    → cond test one other ≡ Ok (y, rest) → (tag ∷ bytes ≡ w y ++ rest) × g y
by_test w g tag n one other bytes y rest true is h k e =
    let t = h e in
    (ap (λ (m : ℕ). m ∷ bytes) (eqb-true tag n (sym is)) ∙ t.0, t.1)
by_test w g tag n one other bytes y rest false is h k e = k e

pub choose_takes : {X : Type 0} (w : X → List ℕ) (g : X → Type 0) (table : List (ℕ × (List ℕ → Read X))) → TableTakes w g table
    → (tag : ℕ) (bad : Bad) (bytes : List ℕ) (y : X) (rest : List ℕ) → IsBytes bytes → choose table tag bad bytes ≡ Ok (y, rest) → (tag ∷ bytes ≡ w y ++ rest) × g y
choose_takes w g [] h tag bad bytes y rest are e = absurd cc
choose_takes w g (entry ∷ more) h tag bad bytes y rest are e =
    by_test w g tag entry.0 (entry.1 bytes) (choose more tag bad bytes) bytes y rest (tag == entry.0) refl
    (h.0 bytes y rest are) (choose_takes w g more h.1 tag bad bytes y rest are) e

tagged-takes : {X : Type 0} (w : X → List ℕ) (g : X → Type 0) (table : List (ℕ × (List ℕ → Read X))) → TableTakes w g table
    → (bytes : List ℕ) (y : X) (rest : List ℕ) → IsBytes bytes → tagged_at table bytes ≡ Ok (y, rest) → Taken (λ x. x) w g bytes y rest
tagged-takes w g table h [] y rest are e = absurd cc
tagged-takes w g table h (tag ∷ bytes) y rest are e =
    let t = choose_takes w g table h tag (bad_at Tag (tag ∷ bytes)) bytes y rest (IsBytes-behind (tag ∷ []) bytes are) e in
    record { part = y; made = refl; spelled = t.0; fit = t.1 }

-- What is spelled is read, by cases on the value; what is read, by the table.
pub tagged : {X : Type 0} (w : X → List ℕ) (g : X → Type 0) (table : List (ℕ × (List ℕ → Read X)))
    → ((x : X) (rest : List ℕ) → g x → tagged_at table (w x ++ rest) ≡ Ok (x, rest)) → TableTakes w g table → IsCodec w g (tagged_at table)
tagged w g table again takes = record { again = again; takes = tagged-takes w g table takes }
