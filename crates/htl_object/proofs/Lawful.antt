-- A reader that is right, and what is right when it is built of such.
use Rattle.std.proofs.Common.{◌≡◌, ℕ, zero, suc, Bool, true, false, List, [], ◌∷◌, ◌++◌, length, Ok, Err, refl, sym, ap, subst, ◌∙◌, append_assoc, arith}
use Rattle.htl_object.proofs.Words.{flat_map, flat_map-cons, MalKind, Bad, Each, append-nil}
use Rattle.htl_object.specs.Reading.{IsBytes, Read, ◌>>=◌, bad_at, need, field_at, items_at}

-- ---- bytes

pub IsBytes-behind : (xs rest : List ℕ) → IsBytes (xs ++ rest) → IsBytes rest
IsBytes-behind [] rest h = h
IsBytes-behind (x ∷ xs) rest h = IsBytes-behind xs rest (λ i. h (suc i))

pub IsBytes-rest : (bytes xs rest : List ℕ) → IsBytes bytes → bytes ≡ xs ++ rest → IsBytes rest
IsBytes-rest bytes xs rest h e = IsBytes-behind xs rest (subst IsBytes e h)

-- ---- results

abbrev given : {X : Type 0} → X → List ℕ → Read X
given x rest = Ok (x, rest)

given-pair : {X : Type 0} (p q : X × List ℕ) → given p.0 p.1 ≡ given q.0 q.1 → p ≡ q
given-pair p q e = cc

pub given-value : {X : Type 0} (x y : X) (r s : List ℕ) → given x r ≡ given y s → (x ≡ y) × (r ≡ s)
given-value {X} x y r s e =
    let p = given-pair (x, r) (y, s) e in
    (ap (λ (q : X × List ℕ). q.0) p, ap (λ (q : X × List ℕ). q.1) p)

-- the value of a step that did not fail
pub record Bound {A B : Type 0} (r : Read A) (f : A → List ℕ → Read B) (y : Read B) : Type 0 where
  pub value : A
  pub rest : List ℕ
  pub first : r ≡ Ok (value, rest)
  pub then : f value rest ≡ y

pub bound : {A B : Type 0} (r : Read A) (f : A → List ℕ → Read B) (y : B) (rest : List ℕ) → (r >>= f) ≡ Ok (y, rest) → Bound r f (Ok (y, rest))
bound (Ok x) f y rest e = record { value = x.0; rest = x.1; first = refl; then = e }
bound (Err d) f y rest e = absurd cc

-- a test that did not fail
pub needed : {X : Type 0} (test : Bool) (bad : Bad) (next : Read X) (y : X) (rest : List ℕ) → need test bad next ≡ Ok (y, rest) → (test ≡ true) × (next ≡ Ok (y, rest))
needed true bad next y rest e = (refl, e)
needed false bad next y rest e = absurd cc

-- ---- readers

-- what was taken from the front of bytes, by its parts
pub record Taken {B Y : Type 0} (make : B → Y) (write : B → List ℕ) (fits : B → Type 0) (bytes : List ℕ) (y : Y) (rest : List ℕ) : Type 0 where
  pub part : B
  pub made : make part ≡ y
  pub spelled : bytes ≡ write part ++ rest
  pub fit : fits part

-- What is spelled and fits is read, whatever follows; what is read is spelled so and fits.
pub record Lawful {B Y : Type 0} (make : B → Y) (write : B → List ℕ) (fits : B → Type 0) (read : List ℕ → Read Y) : Type 0 where
  pub again : (b : B) (rest : List ℕ) → fits b → read (write b ++ rest) ≡ Ok (make b, rest)
  pub takes : (bytes : List ℕ) (y : Y) (rest : List ℕ) → IsBytes bytes → read bytes ≡ Ok (y, rest) → Taken make write fits bytes y rest

-- the same of a reader whose value is its own part
abbrev pub IsCodec : {X : Type 0} → (X → List ℕ) → (X → Type 0) → (List ℕ → Read X) → Type 0
IsCodec {X} write fits read = Lawful {B = X} {Y = X} (λ x. x) write fits read

-- one field, and then what is read with its value known
pub field : {A B Y : Type 0} {make : A × B → Y} {wa : A → List ℕ} {ga : A → Type 0} {ra : List ℕ → Read A}
    {wb : A → B → List ℕ} {gb : A → B → Type 0} {k : List ℕ → A → List ℕ → Read Y}
    → IsCodec wa ga ra → ((bytes : List ℕ) (a : A) → Lawful (λ b. make (a, b)) (wb a) (gb a) (k bytes a))
    → Lawful make (λ p. wa p.0 ++ wb p.0 p.1) (λ p. ga p.0 × gb p.0 p.1) (λ bytes. ra bytes >>= k bytes)
field {make = make} {wa = wa} {ga = ga} {ra = ra} {wb = wb} {gb = gb} {k = k} first then = record {
  again = λ p rest fits.
      let all = (wa p.0 ++ wb p.0 p.1) ++ rest in
      let e : all ≡ wa p.0 ++ (wb p.0 p.1 ++ rest) = append_assoc (wa p.0) (wb p.0 p.1) rest in
      ap (λ (bytes : List ℕ). ra bytes >>= k all) e
      ∙ ap (λ r. r >>= k all) (first.again p.0 (wb p.0 p.1 ++ rest) fits.0)
      ∙ (then all p.0).again p.1 rest fits.1;
  takes = λ bytes y rest are e.
      let b = bound (ra bytes) (k bytes) y rest e in
      let t = first.takes bytes b.value b.rest are b.first in
      let s : bytes ≡ wa b.value ++ b.rest = subst (λ x. bytes ≡ wa x ++ b.rest) t.made t.spelled in
      let u = (then bytes b.value).takes b.rest y rest (IsBytes-rest bytes (wa b.value) b.rest are s) b.then in
      record {
        part = (b.value, u.part);
        made = u.made;
        spelled = s ∙ ap (λ (x : List ℕ). wa b.value ++ x) u.spelled ∙ sym (append_assoc (wa b.value) (wb b.value u.part) rest);
        fit = (subst ga t.made t.fit, u.fit);
      };
}

-- the last field
pub last : {A Y : Type 0} {make : A → Y} {wa : A → List ℕ} {ga : A → Type 0} {ra : List ℕ → Read A}
    → IsCodec wa ga ra → Lawful make wa ga (λ bytes. ra bytes >>= λ a rest. Ok (make a, rest))
last {make = make} {wa = wa} {ga = ga} {ra = ra} first = record {
  again = λ a rest fits. ap (λ r. r >>= λ x s. Ok (make x, s)) (first.again a rest fits);
  takes = λ bytes y rest are e.
      let b = bound (ra bytes) (λ a s. Ok (make a, s)) y rest e in
      let t = first.takes bytes b.value b.rest are b.first in
      let g = given-value (make b.value) y b.rest rest b.then in
      record {
        part = t.part;
        made = ap make t.made ∙ g.0;
        spelled = t.spelled ∙ ap (λ (x : List ℕ). wa t.part ++ x) g.1;
        fit = t.fit;
      };
}

-- a test before the rest is read
pub tested : {B Y : Type 0} {make : B → Y} {write : B → List ℕ} {fits : B → Type 0} {k : List ℕ → Read Y} (test : Bool) (bad : Bad)
    → Lawful make write fits k → Lawful make write (λ b. (test ≡ true) × fits b) (λ bytes. need test bad (k bytes))
tested {make = make} {write = write} {fits = fits} {k = k} test bad h = record {
  again = λ b rest f. ap (λ t. need t bad (k (write b ++ rest))) f.0 ∙ h.again b rest f.1;
  takes = λ bytes y rest are e.
      let n = needed test bad (k bytes) y rest e in
      let t = h.takes bytes y rest are n.1 in
      record { part = t.part; made = t.made; spelled = t.spelled; fit = (n.0, t.fit) };
}

-- a field whose value passes a test
pub checked : {X : Type 0} {write : X → List ℕ} {fits : X → Type 0} {read : List ℕ → Read X} (kind : MalKind) (test : X → Bool)
    → IsCodec write fits read → IsCodec write (λ x. fits x × (test x ≡ true)) (field_at kind test read)
checked {write = write} {fits = fits} {read = read} kind test h = record {
  again = λ x rest f.
      let bad = bad_at kind (write x ++ rest) in
      ap (λ r. r >>= λ y s. need (test y) bad (Ok (y, s))) (h.again x rest f.0) ∙ ap (λ t. need t bad (Ok (x, rest))) f.1;
  takes = λ bytes y rest are e.
      let b = bound (read bytes) (λ x s. need (test x) (bad_at kind bytes) (Ok (x, s))) y rest e in
      let n = needed (test b.value) (bad_at kind bytes) (Ok (b.value, b.rest)) y rest b.then in
      let g = given-value b.value y b.rest rest n.1 in
      let t = h.takes bytes b.value b.rest are b.first in
      record {
        part = t.part;
        made = t.made ∙ g.0;
        spelled = t.spelled ∙ ap (λ (r : List ℕ). write t.part ++ r) g.1;
        fit = (t.fit, ap test t.made ∙ n.0);
      };
}

-- n items behind others
pub items : {X : Type 0} {write : X → List ℕ} {fits : List X → X → Type 0} {read : List X → List ℕ → Read X}
    → ((before : List X) → IsCodec write (fits before) (read before))
    → (n : ℕ) (before : List X)
    → Lawful (λ xs. before ++ xs) (flat_map write) (λ xs. (length xs ≡ n) × Each fits before xs) (items_at read n before)
items {X} {write = write} {fits = fits} {read = read} h n before = record { again = again n before; takes = takes n before }
  where
    again : (n : ℕ) (before xs : List X) (rest : List ℕ) → (length xs ≡ n) × Each fits before xs → items_at read n before (flat_map write xs ++ rest) ≡ Ok (before ++ xs, rest)
    again zero before [] rest f = ap (λ (l : List X). Ok (l, rest)) (sym (append-nil before))
    again zero before (x ∷ xs) rest f = absurd cc
    again (suc n) before [] rest f = absurd cc
    again (suc n) before (x ∷ xs) rest f =
        let e : flat_map write (x ∷ xs) ++ rest ≡ write x ++ (flat_map write xs ++ rest) = ap (λ (b : List ℕ). b ++ rest) (flat_map-cons write x xs) ∙ append_assoc (write x) (flat_map write xs) rest in
        let next = λ (y : X) (s : List ℕ). items_at read n (before ++ y ∷ []) s in
        ap (λ (b : List ℕ). read before b >>= next) e
        ∙ ap (λ r. r >>= next) ((h before).again x (flat_map write xs ++ rest) f.1.0)
        ∙ again n (before ++ x ∷ []) xs rest (omega arith, f.1.1)
        ∙ ap (λ (l : List X). Ok (l, rest)) (append_assoc before (x ∷ []) xs)

    takes : (n : ℕ) (before : List X) (bytes : List ℕ) (y : List X) (rest : List ℕ) → IsBytes bytes → items_at read n before bytes ≡ Ok (y, rest)
        → Taken (λ xs. before ++ xs) (flat_map write) (λ xs. (length xs ≡ n) × Each fits before xs) bytes y rest
    takes zero before bytes y rest are e =
        let g = given-value before y bytes rest e in
        record { part = []; made = append-nil before ∙ g.0; spelled = g.1; fit = (refl, tt) }
    takes (suc n) before bytes y rest are e =
        let next = λ (x : X) (s : List ℕ). items_at read n (before ++ x ∷ []) s in
        let b = bound (read before bytes) next y rest e in
        let t = (h before).takes bytes b.value b.rest are b.first in
        let s : bytes ≡ write b.value ++ b.rest = subst (λ x. bytes ≡ write x ++ b.rest) t.made t.spelled in
        let u = takes n (before ++ b.value ∷ []) b.rest y rest (IsBytes-rest bytes (write b.value) b.rest are s) b.then in
        record {
          part = b.value ∷ u.part;
          made = sym (append_assoc before (b.value ∷ []) u.part) ∙ u.made;
          spelled = s ∙ ap (λ (x : List ℕ). write b.value ++ x) u.spelled ∙ sym (append_assoc (write b.value) (flat_map write u.part) rest) ∙ ap (λ (x : List ℕ). x ++ rest) (sym (flat_map-cons write b.value u.part));
          fit = (ap suc u.fit.0, (subst (fits before) t.made t.fit, u.fit.1));
        }

-- A reader of parts is one of the whole, where the parts give the whole and it gives them.
pub whole : {B Y : Type 0} {write : B → List ℕ} {fits : B → Type 0} {read : List ℕ → Read Y} (make : B → Y) (parts : Y → B) (w : Y → List ℕ) (g : Y → Type 0)
    → Lawful make write fits read
    → ((y : Y) → g y → (make (parts y) ≡ y) × (w y ≡ write (parts y)) × fits (parts y))
    → ((b : B) → fits b → (w (make b) ≡ write b) × g (make b))
    → IsCodec w g read
whole {write = write} {fits = fits} {read = read} make parts w g h to from = record {
  again = λ y rest f.
      let t = to y f in
      ap (λ (x : List ℕ). read (x ++ rest)) t.1 ∙ h.again (parts y) rest t.2 ∙ ap (λ z. Ok (z, rest)) t.0;
  takes = λ bytes y rest are e.
      let t = h.takes bytes y rest are e in
      let f = from t.part t.fit in
      record {
        part = make t.part;
        made = t.made;
        spelled = t.spelled ∙ ap (λ (x : List ℕ). x ++ rest) (sym f.0);
        fit = f.1;
      };
}

-- the same reader, with what fits said in another way
pub refit : {X : Type 0} {w : X → List ℕ} {g : X → Type 0} {read : List ℕ → Read X} (h : X → Type 0)
    → IsCodec w g read → ((x : X) → h x → g x) → ((x : X) → g x → h x) → IsCodec w h read
refit {w = w} h codec to from = whole (λ x. x) (λ x. x) w h codec (λ x f. (refl, refl, to x f)) (λ x f. (refl, from x f))

-- a count of a right kind, and that many items
pub counted : {X : Type 0} {write : X → List ℕ} {fits : List X → X → Type 0} {read : List X → List ℕ → Read X} {wn : ℕ → List ℕ} {gn : ℕ → Type 0} {rn : List ℕ → Read ℕ}
    → IsCodec wn gn rn → ((before : List X) → IsCodec write (fits before) (read before))
    → IsCodec (λ xs. wn (length xs) ++ flat_map write xs) (λ xs. gn (length xs) × Each fits [] xs) (λ bytes. rn bytes >>= λ n rest. items_at read n [] rest)
counted {X} {write = write} {fits = fits} {read = read} {wn = wn} {gn = gn} {rn = rn} number item =
    whole (λ (p : ℕ × List X). p.1) (λ xs. (length xs, xs)) (λ xs. wn (length xs) ++ flat_map write xs) (λ xs. gn (length xs) × Each fits [] xs)
    (field number (λ _ n. items item n []))
    (λ xs f. (refl, refl, (f.0, (refl, f.1))))
    (λ p f. (ap (λ (n : ℕ). wn n ++ flat_map write p.1) f.1.0, (subst gn (sym f.1.0) f.0, f.1.1)))
