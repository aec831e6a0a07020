-- The rows of a table of writers.
use Rattle.std.proofs.Common.{◌≡◌, ◌<◌, ◌≤◌, ◌⊎◌, ℕ, suc, ◌+◌, Bool, true, false, ◌&&◌, ◌||◌, eqb, ltb, List, [], ◌∷◌, length, get_or, Some, refl, sym, ◌∙◌, ap, subst, arith, inl, inr}
use Rattle.htl_model.proofs.Words.{list_any, nat_tests, slice_get_within, get_or_from_slice_get, Inv, End, is_read_from, feeds_at, writes_to, is_from, is_port, cell, AreInRange, IsInvInRange, IsEndInRange, Tables, some_place, and_none, eq-eqb, slice_get}
use Rattle.htl_model.specs.declared.parts.End.TheVariants as E

-- one writer more among those before number q
pub one_writer : (w : ℕ → Bool) (q r : ℕ) (old new last : Bool) → old ≡ (ltb r q && w r) → last ≡ w q → new ≡ (old || (eqb r q && last)) → new ≡ (ltb r (q + 1) && w r)
one_writer w q r old new last before is made = grind arith

pub any_same : {A : Type 0} (f g : A → Bool) (xs : List A) → ((k : ℕ) (x : A) → slice_get xs k ≡ Some x → f x ≡ g x) → list_any f xs ≡ list_any g xs
any_same f g [] h = refl
any_same f g (x ∷ xs) h = ap (λ b. b || list_any f xs) (h 0 x refl) ∙ ap (λ b. g x || b) (any_same f g xs (λ k y at. h (suc k) y at))

none_any : {A : Type 0} (xs : List A) → list_any (λ (x : A). false) xs ≡ false
none_any [] = refl
none_any (x ∷ xs) = none_any xs

pub all_at : {A : Type 0} (P : A → Type 0) (xs : List A) (k : ℕ) (x : A) → ((k : ℕ) (d : A) → k < length xs → P (get_or xs k d)) → slice_get xs k ≡ Some x → P x
all_at P xs k x all at = subst P (get_or_from_slice_get xs k x x at) (all k x (slice_get_within xs k x at))

-- an invocation that reads a port of another is of the same mode
module _ (t : Tables) (r : AreInRange t) (x y : Inv) (m n : ℕ) (at_x : slice_get t.invs m ≡ Some x) (at_y : slice_get t.invs n ≡ Some y) where
  port_mode : (p : ℕ) (j k : ℕ) → slice_get x.writes j ≡ Some (E.Port p) → slice_get y.reads k ≡ Some (E.Port p) → x.mode ≡ y.mode
  port_mode p j k written read =
      let a = all_at (IsEndInRange t x.mode) x.writes j (E.Port p) (all_at (IsInvInRange t) t.invs m x r.invs at_x).writes written in
      let b = all_at (IsEndInRange t y.mode) y.reads k (E.Port p) (all_at (IsInvInRange t) t.invs n y r.invs at_y).reads read in
      let same : Some a.0 ≡ Some b.0 = sym a.1 ∙ b.1 in
      let one : a.0 ≡ b.0 = cc in
      sym a.2 ∙ ap (λ q. q.mode) one ∙ b.2

  by_read : (e : End) (k : ℕ) → slice_get y.reads k ≡ Some e → is_read_from x.writes e ≡ true → x.mode ≡ y.mode
  by_read (E.Comm c o) k at h = cc
  by_read (E.Port p) k at h = grind (arith, some_place, port_mode)

  -- so the modes needn't be compared
  pub feeds_by_reads : feeds_at (Some x) (Some y) ≡ list_any (is_read_from x.writes) y.reads
  feeds_by_reads = grind (arith, some_place, eq-eqb, by_read, and_none)

  -- a table that has bit q for the ports that x writes says what y reads from x
  pub row_of_reads : (table : List ℕ) (q : ℕ) → length t.ports ≤ length table → ((p : ℕ) → p < length table → cell table p q ≡ writes_to (Some x) p)
      → list_any (is_from table q) y.reads ≡ feeds_at (Some x) (Some y)
  row_of_reads table q len says = any_same (is_from table q) (is_read_from x.writes) y.reads each ∙ sym feeds_by_reads
    where
      each : (k : ℕ) (e : End) → slice_get y.reads k ≡ Some e → is_from table q e ≡ is_read_from x.writes e
      each k (E.Comm c o) at = refl
      each k (E.Port p) at =
          let b = all_at (IsEndInRange t y.mode) y.reads k (E.Port p) (all_at (IsInvInRange t) t.invs n y r.invs at_y).reads at in
          let few = slice_get_within t.ports p b.0 b.1 in
          says p (omega arith)

  pub row_by_reads : (table : List ℕ) (q : ℕ) → length table ≡ 4096 → ((p : ℕ) → p < length table → cell table p q ≡ writes_to (Some x) p)
      → list_any (is_from table q) y.reads ≡ feeds_at (Some x) (Some y)
  row_by_reads table q len says = row_of_reads table q (omega (arith, r.few_ports)) says

-- a table without bit q says that y reads nothing from there
pub row_of_none : (t : Tables) (r : AreInRange t) (y : Inv) (n : ℕ) (at_y : slice_get t.invs n ≡ Some y) (table : List ℕ) (q : ℕ) → length t.ports ≤ length table
    → ((p : ℕ) → p < length table → cell table p q ≡ false) → list_any (is_from table q) y.reads ≡ false
row_of_none t r y n at_y table q len says = any_same (is_from table q) (λ e. false) y.reads each ∙ none_any y.reads
  where
    each : (k : ℕ) (e : End) → slice_get y.reads k ≡ Some e → is_from table q e ≡ false
    each k (E.Comm c o) at = refl
    each k (E.Port p) at =
        let b = all_at (IsEndInRange t y.mode) y.reads k (E.Port p) (all_at (IsInvInRange t) t.invs n y r.invs at_y).reads at in
        let few = slice_get_within t.ports p b.0 b.1 in
        says p (omega arith)
