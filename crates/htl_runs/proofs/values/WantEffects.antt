-- What a list of wants does to values and buffers, by what it asks for.
use Rattle.std.proofs.Common.{◌≡◌, ◌≢◌, ℕ, ◌<◌, List, [], ◌∷◌, length, get_or, slice_get, set, Option, Some, None, ℤ, pos, refl, sym, ap, ◌∙◌, subst, arith, ◌⊎◌, inl, inr}
use Rattle.htl_runs.proofs.Words.{get_or-set_same, get_or-set_other, length-set, Inv, Tables, Requirement, Exactly, Content, buffer, put_in, comm_of, call_write, call_read, want_effect, effects, HasPlaces, cases_eq}
use Rattle.htl_ecode.specs.declared.instr.EInstr.TheVariants as I
use Rattle.htl_emach.specs.Contents as contents
use Rattle.htl_runs.proofs.values.BlockContents.{AsksFor}

data Kind (x : Requirement) : Type 1 where
  writes : (a b : ℕ) → x ≡ Exactly (I.CallWrite a b) → Kind x
  reads : (a b : ℕ) → x ≡ Exactly (I.CallRead a b) → Kind x
  idles : ((t : Tables) (w : Content) → want_effect t x w ≡ w) → ((a b : ℕ) → x ≡ Exactly (I.CallWrite a b) → ⊥) → ((a b : ℕ) → x ≡ Exactly (I.CallRead a b) → ⊥) → Kind x

kind_of : (x : Requirement) → Kind x
kind_of (Exactly (I.CallWrite a b)) = writes a b refl
kind_of (Exactly (I.CallRead a b)) = reads a b refl
kind_of (Exactly (I.Release a)) = idles (λ t w. refl) (λ a b e. let z : ⊥ = cc in z) (λ a b e. let z : ⊥ = cc in z)
kind_of (Exactly (I.Future a b d)) = idles (λ t w. refl) (λ a b e. let z : ⊥ = cc in z) (λ a b e. let z : ⊥ = cc in z)
kind_of (Exactly (I.JumpIf a b)) = idles (λ t w. refl) (λ a b e. let z : ⊥ = cc in z) (λ a b e. let z : ⊥ = cc in z)
kind_of (Exactly (I.Jump a)) = idles (λ t w. refl) (λ a b e. let z : ⊥ = cc in z) (λ a b e. let z : ⊥ = cc in z)
kind_of (Exactly (I.IfMode a b)) = idles (λ t w. refl) (λ a b e. let z : ⊥ = cc in z) (λ a b e. let z : ⊥ = cc in z)
kind_of (Exactly (I.Enter a)) = idles (λ t w. refl) (λ a b e. let z : ⊥ = cc in z) (λ a b e. let z : ⊥ = cc in z)
kind_of (Exactly (I.Fork a)) = idles (λ t w. refl) (λ a b e. let z : ⊥ = cc in z) (λ a b e. let z : ⊥ = cc in z)
kind_of _ = idles (λ t w. refl) (λ a b e. let z : ⊥ = cc in z) (λ a b e. let z : ⊥ = cc in z)

-- ---- what isn't touched

want_outputs : (t : Tables) (x : Requirement) (w : Content) → Kind x → (want_effect t x w).outputs ≡ w.outputs
want_outputs t x w (writes a b e) = ap (λ z. (want_effect t z w).outputs) e
want_outputs t x w (reads a b e) = ap (λ z. (want_effect t z w).outputs) e
want_outputs t x w (idles f g h) = ap (λ (z : Content). z.outputs) (f t w)

-- no call changes an output buffer
pub outputs_stay : (t : Tables) (ws : List Requirement) (w : Content) → (effects t ws w).outputs ≡ w.outputs
outputs_stay t [] w = refl
outputs_stay t (x ∷ xs) w = outputs_stay t xs (want_effect t x w) ∙ want_outputs t x w (kind_of x)

want_inputs : (t : Tables) (x : Requirement) (w : Content) → ((i k : ℕ) → x ≡ Exactly (I.CallRead i k) → ⊥) → Kind x → (want_effect t x w).inputs ≡ w.inputs
want_inputs t x w n (writes a b e) = ap (λ z. (want_effect t z w).inputs) e
want_inputs t x w n (reads a b e) = absurd (n a b e)
want_inputs t x w n (idles f g h) = ap (λ (z : Content). z.inputs) (f t w)

pub inputs_stay : (t : Tables) (ws : List Requirement) (w : Content) → ((i k : ℕ) → AsksFor (I.CallRead i k) ws → ⊥) → (effects t ws w).inputs ≡ w.inputs
inputs_stay t [] w n = refl
inputs_stay t (x ∷ xs) w n = inputs_stay t xs (want_effect t x w) (λ i k h. n i k (inr h)) ∙ want_inputs t x w (λ i k e. n i k (inl e)) (kind_of x)

want_values : (t : Tables) (x : Requirement) (w : Content) → ((i k : ℕ) → x ≡ Exactly (I.CallWrite i k) → ⊥) → Kind x → (want_effect t x w).values ≡ w.values
want_values t x w n (writes a b e) = absurd (n a b e)
want_values t x w n (reads a b e) = ap (λ z. (want_effect t z w).values) e
want_values t x w n (idles f g h) = ap (λ (z : Content). z.values) (f t w)

pub values_stay : (t : Tables) (ws : List Requirement) (w : Content) → ((i k : ℕ) → AsksFor (I.CallWrite i k) ws → ⊥) → (effects t ws w).values ≡ w.values
values_stay t [] w n = refl
values_stay t (x ∷ xs) w n = values_stay t xs (want_effect t x w) (λ i k h. n i k (inr h)) ∙ want_values t x w (λ i k e. n i k (inl e)) (kind_of x)

-- ---- writes

-- either nothing is written to c, which stays, or an output buffer goes to c
abbrev pub Written : Tables → ℕ → List Requirement → Content → Type 0
Written t c ws w =
    (((i k : ℕ) → AsksFor (I.CallWrite i k) ws → comm_of (slice_get (contents.writes_at t i) k) ≡ Some c → ⊥) × (get_or (effects t ws w).values c (pos 0) ≡ get_or w.values c (pos 0)))
    ⊎ ((i k : ℕ) × AsksFor (I.CallWrite i k) ws × (comm_of (slice_get (contents.writes_at t i) k) ≡ Some c) × (get_or (effects t ws w).values c (pos 0) ≡ buffer w.outputs i k))

length_after : (t : Tables) (a b : ℕ) (w : Content) → length (call_write t a b w).values ≡ length w.values
length_after t a b w = grind (arith, set, length-set)

-- one write more in front
write_front : (t : Tables) (c : ℕ) (x : Requirement) (xs : List Requirement) (a b : ℕ) (w : Content) → x ≡ Exactly (I.CallWrite a b) → c < length w.values
    → Written t c xs (call_write t a b w) → Written t c (x ∷ xs) w
write_front t c x xs a b w is room (inr r) = inr (r.0, r.1, inr r.2, r.3, ap (λ z. get_or (effects t xs (want_effect t z w)).values c (pos 0)) is ∙ r.4)
write_front t c x xs a b w is room (inl r) = by_end (comm_of (slice_get (contents.writes_at t a) b)) refl
  where
    here : get_or (effects t (x ∷ xs) w).values c (pos 0) ≡ get_or (call_write t a b w).values c (pos 0)
    here = ap (λ z. get_or (effects t xs (want_effect t z w)).values c (pos 0)) is ∙ r.1

    put : (o : Option ℕ) → comm_of (slice_get (contents.writes_at t a) b) ≡ o → (call_write t a b w).values ≡ elim o [ Some c ↦ set w.values c (buffer w.outputs a b) | None ↦ w.values ]
    put o e = ap (λ (o : Option ℕ). elim o [ Some c ↦ set w.values c (buffer w.outputs a b) | None ↦ w.values ]) e

    none_now : (o : Option ℕ) → comm_of (slice_get (contents.writes_at t a) b) ≡ o → (o ≡ Some c → ⊥) → (i k : ℕ) → AsksFor (I.CallWrite i k) (x ∷ xs) → comm_of (slice_get (contents.writes_at t i) k) ≡ Some c → ⊥
    none_now o e n i k (inr h) f = r.0 i k h f
    none_now o e n i k (inl g) f = grind arith

    by_end : (o : Option ℕ) → comm_of (slice_get (contents.writes_at t a) b) ≡ o → Written t c (x ∷ xs) w
    by_end None e = inl (none_now None e (λ f. let z : ⊥ = cc in z), here ∙ ap (λ v. get_or v c (pos 0)) (put None e))
    by_end (Some d) e = grind (arith, cases_eq, here, pos, put, set, get_or-set_same, none_now, get_or-set_other)

-- a want that writes nothing in front
idle_front : (t : Tables) (c : ℕ) (x : Requirement) (xs : List Requirement) (w : Content) → ((i k : ℕ) → x ≡ Exactly (I.CallWrite i k) → ⊥) → (want_effect t x w).values ≡ w.values → (want_effect t x w).outputs ≡ w.outputs
    → Written t c xs (want_effect t x w) → Written t c (x ∷ xs) w
idle_front t c x xs w n v o (inr r) = inr (r.0, r.1, inr r.2, r.3, r.4 ∙ ap (λ bs. buffer bs r.0 r.1) o)
idle_front t c x xs w n v o (inl r) = grind (arith, pos)

pub are_written : (t : Tables) (c : ℕ) (ws : List Requirement) (w : Content) → c < length w.values → Written t c ws w
are_written t c [] w h = inl (λ i k a e. a, refl)
are_written t c (x ∷ xs) w h = by_kind (kind_of x) (λ v g. are_written t c xs v g)
  where
    by_kind : Kind x → ((v : Content) → c < length v.values → Written t c xs v) → Written t c (x ∷ xs) w
    by_kind (writes a b e) ih = write_front t c x xs a b w e h (ih (call_write t a b w) (omega (arith, length_after t a b w)))
    by_kind (reads a b e) ih = grind (arith, idle_front)
    by_kind (idles f g k) ih = grind (arith, idle_front)

-- ---- reads

abbrev pub HasRoom : ℕ → ℕ → Content → Type 0
HasRoom i k w = (i < length w.inputs) × (k < length (get_or w.inputs i []))

-- rows keep their lengths
pub put_row : (bs : List (List ℤ)) (a b i : ℕ) (v : ℤ) → i < length bs → length (get_or (put_in bs a b v) i []) ≡ length (get_or bs i [])
put_row bs a b i v h = grind (arith, cases_eq, get_or-set_same, set, length-set, get_or-set_other)

pub put_same : (bs : List (List ℤ)) (i k : ℕ) (v : ℤ) → i < length bs → k < length (get_or bs i []) → buffer (put_in bs i k v) i k ≡ v
put_same bs i k v h g = ap (λ row. get_or row k (pos 0)) (get_or-set_same bs i (set (get_or bs i []) k v) [] h) ∙ get_or-set_same (get_or bs i []) k v (pos 0) g

pub put_other : (bs : List (List ℤ)) (a b i k : ℕ) (v : ℤ) → i < length bs → (a ≡ i → b ≡ k → ⊥) → buffer (put_in bs a b v) i k ≡ buffer bs i k
put_other bs a b i k v h n = grind (arith, cases_eq, pos, get_or-set_same, set, get_or-set_other)

-- the input buffers once a communicator, if any, was read
abbrev pub inputs_with : Content → ℕ → ℕ → Option ℕ → List (List ℤ)
inputs_with w a b o = elim o [ Some c ↦ put_in w.inputs a b (get_or w.values c (pos 0)) | None ↦ w.inputs ]

room_after : (t : Tables) (a b i k : ℕ) (w : Content) → HasRoom i k w → HasRoom i k (call_read t a b w)
room_after t a b i k w h = grind (arith, pos, length-set, set, put_row)

other_read : (t : Tables) (a b i k : ℕ) (w : Content) → i < length w.inputs → (a ≡ i → b ≡ k → ⊥) → buffer (call_read t a b w).inputs i k ≡ buffer w.inputs i k
other_read t a b i k w h n = grind (arith, pos, put_other)

same_read : (t : Tables) (i k c : ℕ) (w : Content) → comm_of (slice_get (contents.reads_at t i) k) ≡ Some c → HasRoom i k w → buffer (call_read t i k w).inputs i k ≡ get_or w.values c (pos 0)
same_read t i k c w e h = grind (arith, pos, put_same)

-- the input is read, and holds c; or it isn't, and stays
abbrev pub Filled : Tables → ℕ → ℕ → ℕ → List Requirement → Content → Type 0
Filled t i k c ws w =
    ((AsksFor (I.CallRead i k) ws → ⊥) × (buffer (effects t ws w).inputs i k ≡ buffer w.inputs i k))
    ⊎ (AsksFor (I.CallRead i k) ws × (buffer (effects t ws w).inputs i k ≡ get_or w.values c (pos 0)))

pub are_filled : (t : Tables) (i k c : ℕ) (ws : List Requirement) (w : Content) → comm_of (slice_get (contents.reads_at t i) k) ≡ Some c → ((a b : ℕ) → AsksFor (I.CallWrite a b) ws → ⊥) → HasRoom i k w → Filled t i k c ws w
are_filled t i k c [] w e n h = inl (λ a. a, refl)
are_filled t i k c (x ∷ xs) w e n h = by_kind (kind_of x) (λ v g. are_filled t i k c xs v e (λ a b q. n a b (inr q)) g)
  where
    IH : Type 0
    IH = (v : Content) → HasRoom i k v → Filled t i k c xs v

    -- a want in front that keeps the input and the values
    front : (v : Content) → want_effect t x w ≡ v → v.values ≡ w.values → buffer v.inputs i k ≡ buffer w.inputs i k → (x ≡ Exactly (I.CallRead i k) → ⊥) → Filled t i k c xs v → Filled t i k c (x ∷ xs) w
    front v is same kept other (inl r) = inl (λ a. elim a [ inl f ↦ other f | inr f ↦ r.0 f ], ap (λ z. buffer (effects t xs z).inputs i k) is ∙ r.1 ∙ kept)
    front v is same kept other (inr r) = inr (inr r.0, ap (λ z. buffer (effects t xs z).inputs i k) is ∙ r.1 ∙ ap (λ z. get_or z c (pos 0)) same)

    read_here : (a b : ℕ) → x ≡ Exactly (I.CallRead a b) → a ≡ i → b ≡ k → Filled t i k c xs (call_read t i k w) → Filled t i k c (x ∷ xs) w
    read_here a b is p q f = grind (arith, same_read)

    by_kind : Kind x → IH → Filled t i k c (x ∷ xs) w
    by_kind (writes a b f) ih = absurd (n a b (inl f))
    by_kind (idles f g m) ih = front w (f t w) refl refl (λ q. m i k q) (ih w h)
    by_kind (reads a b f) ih = by_place (cases_eq a i) (cases_eq b k)
      where
        elsewhere : (a ≡ i → b ≡ k → ⊥) → Filled t i k c (x ∷ xs) w
        elsewhere other =
            front (call_read t a b w) (ap (λ z. want_effect t z w) f) refl (other_read t a b i k w h.0 other)
            (λ q. let z : Exactly (I.CallRead a b) ≡ Exactly (I.CallRead i k) = sym f ∙ q in other (let y : a ≡ i = cc in y) (let y : b ≡ k = cc in y))
            (ih (call_read t a b w) (room_after t a b i k w h))

        by_place : (a ≡ i) ⊎ (a ≢ i) → (b ≡ k) ⊎ (b ≢ k) → Filled t i k c (x ∷ xs) w
        by_place (inl p) (inl q) = read_here a b f p q (ih (call_read t i k w) (room_after t i k i k w h))
        by_place (inl p) (inr q) = elsewhere (λ s r. q r)
        by_place (inr p) q = elsewhere (λ s r. p s)

-- ---- the shape

call_write_shape : (t : Tables) (a b : ℕ) (w : Content) → HasPlaces t w → HasPlaces t (call_write t a b w)
call_write_shape t a b w s = record { values = length_after t a b w ∙ s.values; inputs = s.inputs; outputs = s.outputs }

call_read_shape : (t : Tables) (a b : ℕ) (w : Content) → HasPlaces t w → HasPlaces t (call_read t a b w)
call_read_shape t a b w s = record { values = s.values; inputs = λ i x e. by_end i x e (comm_of (slice_get (contents.reads_at t a) b)); outputs = s.outputs }
  where
    by_end : (i : ℕ) (x : Inv) → slice_get t.invs i ≡ Some x → (o : Option ℕ)
        → (i < length (inputs_with w a b o)) × (length (get_or (inputs_with w a b o) i []) ≡ length x.reads)
    by_end i x e None = s.inputs i x e
    by_end i x e (Some d) =
        let v = get_or w.values d (pos 0) in
        let h = s.inputs i x e in
        (omega (arith, length-set w.inputs a (set (get_or w.inputs a []) b v), h.0), put_row w.inputs a b i v h.0 ∙ h.1)

want_shape : (t : Tables) (x : Requirement) (w : Content) → Kind x → HasPlaces t w → HasPlaces t (want_effect t x w)
want_shape t x w (writes a b e) s = subst (λ z. HasPlaces t (want_effect t z w)) (sym e) (call_write_shape t a b w s)
want_shape t x w (reads a b e) s = subst (λ z. HasPlaces t (want_effect t z w)) (sym e) (call_read_shape t a b w s)
want_shape t x w (idles f g h) s = subst (HasPlaces t) (sym (f t w)) s

pub shape_stays : (t : Tables) (ws : List Requirement) (w : Content) → HasPlaces t w → HasPlaces t (effects t ws w)
shape_stays t [] w s = s
shape_stays t (x ∷ xs) w s = shape_stays t xs (want_effect t x w) (want_shape t x w (kind_of x) s)
