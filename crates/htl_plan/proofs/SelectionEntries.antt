-- A whole input gives a selection of running modes.
use Rattle.std.proofs.Common.{◌≡◌, ◌≤◌, ◌<◌, ◌⊎◌, ℕ, suc, ◌+◌, Bool, true, false, not, cond, eqb, List, [], ◌∷◌, ◌++◌, length, get_or, Option, Some, None, Result, Ok, Err, IfSome, refl, sym, ◌∙◌, ap, subst, arith, inl, inr, length-append, append-nil, codes}
use Rattle.htl_plan.proofs.Words.{position_from, bytes_eq, get_or-append, nat_tests, slice_get_within, none-some, Mode, Module, AreInRange, IsModeThat, parent_of, Tables, mode_module, entry, IsActive, is_active, IsModeOf, IsEntry, IsSelection, active_is, ScriptKind, fields_of, and_parts, eqb-true, slice_get, option_map}
use Rattle.htl_script.specs.Lines.{ScriptLine, lines_of, size_of, is_past_limit, is_long, is_passed_over}
use Rattle.htl_script.specs.declared.fault.ScriptKind.TheVariants as kind
use Rattle.htl_plan.specs.SelectionInput.{Whole, Bad, named_by, unit_of, is_mode, mode_of, some_mode, mode_told, is_next, entered_as, entered_in, entered, judged_text, judged, listed, ended, input_of_lines, input_of}

-- the entries of the modules so far are right, and no more than there are modules
record AreEntries (t : Tables) (modes : List (Option ℕ)) : Type 0 where
  few : length modes ≤ length t.modules
  each : (u : ℕ) (x : Module) → slice_get t.modules u ≡ Some x → u < length modes → IsEntry t modes u x.parent (entry modes u)

-- what is found at a place
found_from : {A : Type 0} (test : A → Bool) (k : ℕ) (xs : List A) (m : ℕ) → position_from test k xs ≡ Some m → (j : ℕ) × (x : A) × (m ≡ k + j) × (slice_get xs j ≡ Some x) × (test x ≡ true)
found_from test k [] m e = absurd (none-some m e)
found_from {A} test k (x ∷ xs) m e = by (test x) refl (found_from test (k + 1) xs m) e
  where
    by : (b : Bool) → test x ≡ b → (position_from test (k + 1) xs ≡ Some m → (j : ℕ) × (y : A) × (m ≡ k + 1 + j) × (slice_get xs j ≡ Some y) × (test y ≡ true))
        → cond b (Some k) (position_from test (k + 1) xs) ≡ Some m → (j : ℕ) × (y : A) × (m ≡ k + j) × (slice_get (x ∷ xs) j ≡ Some y) × (test y ≡ true)
    by true is later f = let here : k ≡ m = cc in (0, x, omega arith, refl, is)
    by false is later f = let r = later f in (suc r.0, r.1, omega (arith, r.2), r.3, r.4)

found_by : {A : Type 0} (test : A → Bool) (xs : List A) (m : ℕ) → position_from test 0 xs ≡ Some m → (x : A) × (slice_get xs m ≡ Some x) × (test x ≡ true)
found_by test xs m e =
    let r = found_from test 0 xs m e in
    let place : r.0 ≡ m = omega (arith, r.2) in
    (r.1, subst (λ k. slice_get xs k ≡ Some r.1) place r.3, r.4)

module _ (t : Tables) (range : AreInRange t) where
  -- the parent of a module stands in a lower one
  lower : (u : ℕ) (x : Module) → slice_get t.modules u ≡ Some x → IfSome x.parent (λ p. mode_module t p < u)
  lower u x at = by x.parent (range.modules u x at).parent
    where
      by : (o : Option ℕ) → IfSome o (IsModeThat t (λ owner. owner < u)) → IfSome o (λ p. mode_module t p < u)
      by None h = tt
      by (Some p) h =
          let unit : mode_module t p ≡ h.0.«module» = ap (λ (o : Option Mode). elim o [ Some y ↦ y.«module» | None ↦ 0 ]) h.1 in
          omega (arith, unit, h.2)

  -- one more entry changes no entry before it
  same_entry : (modes ys : List (Option ℕ)) (u : ℕ) → u < length modes → entry (modes ++ ys) u ≡ entry modes u
  same_entry modes ys u h = get_or-append modes ys None u h

  active_on : (modes ys : List (Option ℕ)) (parent : Option ℕ) (u : ℕ) → u ≤ length modes → IfSome parent (λ p. mode_module t p < u) → IsActive t modes parent → IsActive t (modes ++ ys) parent
  active_on modes ys None u le h a = tt
  active_on modes ys (Some p) u le h a = same_entry modes ys (mode_module t p) (omega (arith, h)) ∙ a

  active_off : (modes ys : List (Option ℕ)) (parent : Option ℕ) (u : ℕ) → u ≤ length modes → IfSome parent (λ p. mode_module t p < u) → IsActive t (modes ++ ys) parent → IsActive t modes parent
  active_off modes ys None u le h a = tt
  active_off modes ys (Some p) u le h a = sym (same_entry modes ys (mode_module t p) (omega (arith, h))) ∙ a

  entry_on : (modes ys : List (Option ℕ)) (u u' : ℕ) (parent m : Option ℕ) → u' ≤ length modes → IfSome parent (λ p. mode_module t p < u') → IsEntry t modes u parent m → IsEntry t (modes ++ ys) u parent m
  entry_on modes ys u u' parent (Some m) le h e = (e.0, active_on modes ys parent u' le h e.1)
  entry_on modes ys u u' parent None le h e = λ a. e (active_off modes ys parent u' le h a)

  -- ---- a right line

  mode_is : (u m : ℕ) (name : List ℕ) → mode_of t u name ≡ Some m → IsModeOf t u m
  mode_is u m name e =
      let p = found_by (is_mode u name) t.modes m e in
      (p.0, p.1, eqb-true p.0.«module» u (and_parts (eqb p.0.«module» u) _ p.2).0)

  told_mode : (u m : ℕ) (name : List ℕ) → mode_told t u name ≡ Some (Some m) → IsModeOf t u m
  told_mode u m name e = by (bytes_eq name (codes "-")) (mode_of t u name) refl e
    where
      by : (b : Bool) (o : Option ℕ) → mode_of t u name ≡ o → cond b (Some None) (option_map some_mode o) ≡ Some (Some m) → IsModeOf t u m
      by true o f h = absurd (let no : ◌≡◌ {A = Option ℕ} None (Some m) = cc in cc)
      by false (Some n) f h =
          let inner : ◌≡◌ {A = Option ℕ} (Some n) (Some m) = cc in
          let is : n ≡ m = cc in
          mode_is u m name (f ∙ ap (λ (k : ℕ). Some k) is)
      by false None f h = cc

  -- the next entry
  next_entry : (modes : List (Option ℕ)) (u : ℕ) (name : List ℕ) (e : Option ℕ) (x : Module) → slice_get t.modules u ≡ Some x → mode_told t u name ≡ Some e → is_next t modes u e ≡ true
      → (u ≡ length modes) × IsEntry t modes u x.parent e
  next_entry modes u name (Some m) x at told next =
      let two = and_parts (eqb u (length modes)) _ next in
      let parent : parent_of t u ≡ x.parent = ap (λ (o : Option Module). elim o [ Some y ↦ y.parent | None ↦ None ]) at in
      (eqb-true u (length modes) two.0, (told_mode u m name told, subst (IsActive t modes) parent ((active_is t modes (parent_of t u)).0 two.1)))
  next_entry modes u name None x at told next =
      let two = and_parts (eqb u (length modes)) _ next in
      let parent : parent_of t u ≡ x.parent = ap (λ (o : Option Module). elim o [ Some y ↦ y.parent | None ↦ None ]) at in
      (eqb-true u (length modes) two.0, λ a. off (is_active t modes (parent_of t u)) two.1 ((active_is t modes (parent_of t u)).1 (subst (IsActive t modes) (sym parent) a)))
    where
      off : (b : Bool) → not b ≡ true → b ≡ true → ⊥
      off true p q = cc
      off false p q = cc

  last : (a b : ℕ) → a < b + 1 → (a < b) ⊎ (a ≡ b)
  last a b h = grind arith

  grown : (modes : List (Option ℕ)) (u : ℕ) (name : List ℕ) (e : Option ℕ) → AreEntries t modes → length modes < length t.modules → mode_told t u name ≡ Some e → is_next t modes u e ≡ true
      → AreEntries t (modes ++ e ∷ [])
  grown modes u name e right less told next =
      let size : length (modes ++ e ∷ []) ≡ length modes + 1 = length-append modes (e ∷ []) in
      record {
        few = omega (arith, size);
        each = λ v x at below. elim (last v (length modes) (omega (arith, size))) [
          | inl before ↦
              subst (IsEntry t (modes ++ e ∷ []) v x.parent) (sym (same_entry modes (e ∷ []) v before))
              (entry_on modes (e ∷ []) v v x.parent (entry modes v) (omega arith) (lower v x at) (right.each v x at before))
          | inr here ↦
              let is_u : u ≡ length modes = eqb-true u (length modes) (and_parts (eqb u (length modes)) _ next).0 in
              let v_is : v ≡ u = omega (arith, here, is_u) in
              let n = next_entry modes u name e x (ap (slice_get t.modules) (sym v_is) ∙ at) told next in
              let own : entry (modes ++ e ∷ []) v ≡ e = ap (entry (modes ++ e ∷ [])) here ∙ last_entry modes e in
              subst (IsEntry t (modes ++ e ∷ []) v x.parent) (sym own)
              (entry_on modes (e ∷ []) v v x.parent e (omega (arith, here)) (lower v x at) (subst (λ w. IsEntry t modes w x.parent e) (sym v_is) n.1))
        ];
      }
    where
      last_entry : (xs : List (Option ℕ)) (y : Option ℕ) → get_or (xs ++ y ∷ []) (length xs) None ≡ y
      last_entry [] y = refl
      last_entry (x ∷ xs) y = last_entry xs y

  -- ---- what a line adds

  abbrev Verdict : Type 0
  Verdict = Result (Option (Option ℕ)) ScriptKind

  taken : (b : Bool) (k : ScriptKind) (v : Verdict) (e : Option (Option ℕ)) → cond b (Err k) v ≡ Ok e → (b ≡ false) × (v ≡ Ok e)
  taken true k v e h = cc
  taken false k v e h = (refl, h)

  as_right : (modes : List (Option ℕ)) (u : ℕ) (name : List ℕ) (o : Option (Option ℕ)) (e : Option (Option ℕ)) → AreEntries t modes → length modes < length t.modules → mode_told t u name ≡ o
      → entered_as t modes u o ≡ Ok e → AreEntries t (modes ++ listed e)
  as_right modes u name None e right less told h = cc
  as_right modes u name (Some m) e right less told h = by (is_next t modes u m) refl h
    where
      by : (b : Bool) → is_next t modes u m ≡ b → cond b (Ok (Some m)) (Err kind.Order) ≡ Ok e → AreEntries t (modes ++ listed e)
      by true next f =
          let is : Some m ≡ e = cc in
          subst (λ z. AreEntries t (modes ++ listed z)) is (grown modes u name m right less told next)
      by false next f = cc

  in_right : (modes : List (Option ℕ)) (name : List ℕ) (o : Option ℕ) (e : Option (Option ℕ)) → AreEntries t modes → length modes < length t.modules
      → entered_in t modes o name ≡ Ok e → AreEntries t (modes ++ listed e)
  in_right modes name None e right less h = cc
  in_right modes name (Some u) e right less h = as_right modes u name (mode_told t u name) e right less refl h

  entered_right : (modes : List (Option ℕ)) (o : Option (List ℕ × List ℕ)) (e : Option (Option ℕ)) → AreEntries t modes → length modes < length t.modules
      → entered t modes o ≡ Ok e → AreEntries t (modes ++ listed e)
  entered_right modes None e right less h = cc
  entered_right modes (Some p) e right less h = in_right modes p.1 (unit_of t p.0) e right less h

  text_right : (modes : List (Option ℕ)) (text : List ℕ) (e : Option (Option ℕ)) → AreEntries t modes → judged_text t modes text ≡ Ok e → AreEntries t (modes ++ listed e)
  text_right modes text e right h = by (is_passed_over text) h
    where
      by : (b : Bool) → cond b (Ok None) (cond (eqb (length modes) (length t.modules)) (Err kind.After) (entered t modes (named_by (fields_of text)))) ≡ Ok e → AreEntries t (modes ++ listed e)
      by true f =
          let is : None ≡ e = cc in
          subst (λ z. AreEntries t (modes ++ listed z)) is (subst (AreEntries t) (sym (append-nil modes)) right)
      by false f =
          let two = taken (eqb (length modes) (length t.modules)) kind.After _ e f in
          let few = right.few in
          entered_right modes (named_by (fields_of text)) e right (apart (length modes) (length t.modules) two.0 few) two.1
        where
          apart : (a b : ℕ) → eqb a b ≡ false → a ≤ b → a < b
          apart a b h le = grind (arith, nat_tests)

  line_right : (start : ℕ) (modes : List (Option ℕ)) (x : ScriptLine) (e : Option (Option ℕ)) → AreEntries t modes → judged t start modes x ≡ Ok e → AreEntries t (modes ++ listed e)
  line_right start modes x e right h =
      let long = taken (is_past_limit start x) kind.Size _ e h in
      let text = taken (is_long x) kind.Long _ e long.1 in
      text_right modes x.text e right text.1

  -- ---- all lines

  end_right : (line : ℕ) (modes all : List (Option ℕ)) → AreEntries t modes → ended t line modes ≡ Whole all → (length all ≡ length t.modules) × AreEntries t all
  end_right line modes all right h = by (eqb (length modes) (length t.modules)) refl h
    where
      by : (b : Bool) → eqb (length modes) (length t.modules) ≡ b → cond b (Whole modes) (Bad line kind.NoEnd) ≡ Whole all → (length all ≡ length t.modules) × AreEntries t all
      by true e f =
          let is : modes ≡ all = cc in
          (subst (λ z. length z ≡ length t.modules) is (eqb-true (length modes) (length t.modules) e), subst (AreEntries t) is right)
      by false e f = cc

  lines_right : (line start : ℕ) (modes all : List (Option ℕ)) (xs : List ScriptLine) → AreEntries t modes → input_of_lines t line start modes xs ≡ Whole all → (length all ≡ length t.modules) × AreEntries t all
  lines_right line start modes all [] right h = end_right line modes all right h
  lines_right line start modes all (x ∷ xs) right h =
      by (judged t start modes x) refl (λ e added. lines_right (line + 1) (start + size_of x) (modes ++ listed e) all xs added) h
    where
      by : (v : Verdict) → judged t start modes x ≡ v
          → ((e : Option (Option ℕ)) → AreEntries t (modes ++ listed e) → input_of_lines t (line + 1) (start + size_of x) (modes ++ listed e) xs ≡ Whole all
          → (length all ≡ length t.modules) × AreEntries t all)
          → elim v [ Ok e ↦ input_of_lines t (line + 1) (start + size_of x) (modes ++ listed e) xs | Err k ↦ Bad line k ] ≡ Whole all
          → (length all ≡ length t.modules) × AreEntries t all
      by (Ok e) is later f = later e (line_right start modes x e right is) f
      by (Err k) is later f = cc

  no_entries : AreEntries t []
  no_entries = record { few = omega arith; each = λ u x at below. absurd (omega arith) }

  pub whole_right : (bytes : List ℕ) (modes : List (Option ℕ)) → input_of t bytes ≡ Whole modes → IsSelection t modes
  whole_right bytes modes h =
      let r = lines_right 1 0 [] modes (lines_of bytes) no_entries h in
      record { same = r.0; each = λ u x at. r.1.each u x at (omega (arith, r.0, slice_get_within t.modules u x at)) }
