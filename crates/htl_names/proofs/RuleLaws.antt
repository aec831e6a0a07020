-- What the searches of single rules find, and the first fault over all rules.
use Rattle.std.proofs.Common.{◌≡◌, ◌<◌, ℕ, zero, suc, List, [], ◌∷◌, slice_get, Option, Some, None, refl, sym, ap, subst, arith, ◌≤◌, Result, Ok, Err, ◌∙◌, inl, inr, length, Bool, true, false, cond, leb, leb-true, le-leb, MatchOption, IsErrAnd}
use Rattle.htl_names.proofs.Words.{none-some, same_Some, slice_get_within, first_some, NameFault, PlainProgram, NameRule, RepeatedName, UnknownName, WrongKind, ParentName, NameBroken, IsFirstNameFault, AreNamesRight, IsResolved, IsKept, KeptBelow, IsFirstOf, IsSearched, IsRefusal, Key, Entry, entries, symbols_of, RefinedModes, AreRefinedModes, refined_by, EntriesAreApart, IsRepeat, wrong_tokens, Judged, kinds, token_of, is_kind, IsWrongKind, wrong_token, Use, look_up, unknown_by, unknown_token, uses, IsUnknown, Id, ModeAt, absent, unmatched_at, unmatched_token, ParentUse, invoke_parent, mode_parents, module_parents, program_parents, parents, parent_in, IsUnmatchedParent, eq-or-lt_of_le, order_of, refined_at}
use Rattle.htl_names.specs.Rows.{wrong_of}
use Rattle.htl_names.proofs.Members.{Each, each_at, each_always, each_flat_map, each_flat_map_at}
use Rattle.htl_names.specs.declared.fault.NameFault.TheVariants as fault

-- the item at place k is bad, and told by this fault
abbrev pub IsBadAt : {A : Type 0} → (A → Type 0) → (A → NameFault) → List A → ℕ → NameFault → Type 0
IsBadAt {A} Bad fault xs k f = (x : A) × (slice_get xs k ≡ Some x) × Bad x × (f ≡ fault x)

-- a test of items gives the tokens of the bad ones, and only theirs
abbrev pub Tells : {A : Type 0} → (A → Type 0) → (A → ℕ) → (A → Option ℕ) → A → Type 0
Tells Bad token test x = MatchOption (test x) (Bad x → ⊥) (λ t. Bad x × (t ≡ token x))

-- none is bad; or the first bad one has this token
abbrev pub IsFirstBad : {A : Type 0} → (A → Type 0) → (A → ℕ) → (ℕ → NameFault) → List A → Option ℕ → Type 0
IsFirstBad {A} Bad token fault xs o =
    MatchOption o ((k : ℕ) (f : NameFault) → IsBadAt Bad (λ x. fault (token x)) xs k f → ⊥)
    (λ t. (place : ℕ) × IsBadAt Bad (λ x. fault (token x)) xs place (fault t)
    × ((k : ℕ) (f : NameFault) → k < place → IsBadAt Bad (λ x. fault (token x)) xs k f → ⊥))

pub first_bad : {A : Type 0} (Bad : A → Type 0) (token : A → ℕ) (fault : ℕ → NameFault) (test : A → Option ℕ) (xs : List A)
    → ((k : ℕ) (x : A) → slice_get xs k ≡ Some x → Tells Bad token test x) → IsFirstBad Bad token fault xs (first_some test xs)
first_bad {A} Bad token fault test [] tells = λ k f at. none-some at.0 at.1
first_bad {A} Bad token fault test (y ∷ ys) tells = by (test y) (tells 0 y refl) (first_some test ys) (first_bad Bad token fault test ys (λ k x there. tells (suc k) x there))
  where
    -- where the first is not bad, the others are left
    behind : (Bad y → ⊥) → (k : ℕ) (f : NameFault) → IsBadAt Bad (λ x. fault (token x)) (y ∷ ys) k f → (j : ℕ) × (k ≡ suc j) × IsBadAt Bad (λ x. fault (token x)) ys j f
    behind good zero f at = absurd (good (subst Bad (sym (same_Some y at.0 at.1)) at.2))
    behind good (suc j) f at = (j, refl, at)

    by : (o : Option ℕ) → MatchOption o (Bad y → ⊥) (λ t. Bad y × (t ≡ token y)) → (rest : Option ℕ) → IsFirstBad Bad token fault ys rest
        → IsFirstBad Bad token fault (y ∷ ys) (elim o as (λ _. Option ℕ) [ Some t ↦ Some t | None ↦ rest ])
    by (Some t) bad rest later = (0, (y, refl, bad.0, ap fault bad.1), λ k f less at. absurd (omega (arith, less)))
    by None good None later = λ k f at. let n = behind good k f at in later n.0 f n.2
    by None good (Some t) later = (suc later.0, later.1, λ k f less at. let n = behind good k f at in later.2 n.0 f (let next = n.1 in omega (arith, next, less)) n.2)

-- ---- rule after rule

pub same_rule : (r s : NameRule) → order_of r ≡ order_of s → r ≡ s
same_rule r s h = grind arith

pub none_below : (ps : List PlainProgram) → KeptBelow ps 1
none_below ps r less = let first : 0 < order_of r = grind arith in absurd (omega (arith, less, first))

pub kept_next : (ps : List PlainProgram) (rule : NameRule) → KeptBelow ps (order_of rule) → IsKept ps rule → KeptBelow ps (suc (order_of rule))
kept_next ps rule before kept r less =
    let within : order_of r ≤ order_of rule = omega (arith, less) in
    elim (eq-or-lt_of_le within) [
      | inl same ↦ subst (λ (s : NameRule). IsKept ps s) (sym (same_rule r rule same)) kept
      | inr lower ↦ before r lower
    ]

pub all_right : (ps : List PlainProgram) → KeptBelow ps 7 → AreNamesRight ps
all_right ps kept r j f broken = kept r (grind arith) j f broken

pub first_fault : (ps : List PlainProgram) (rule : NameRule) (f : NameFault) → KeptBelow ps (order_of rule) → IsFirstOf ps rule f → IsFirstNameFault ps f
first_fault ps rule f kept told =
    record {
      rule = rule;
      place = told.0;
      broken = told.1;
      first = λ r j g before broken.
          elim before [
            | inl less ↦ kept r less j g broken
            | inr same ↦ told.2 j g same.1 (subst (λ (s : NameRule). NameBroken ps s j g) (same_rule r rule same.0) broken)
          ];
    }

-- a search that found a place is a refusal, and one that found none leaves one rule more that is kept
pub tried : {A : Type 0} (ps : List PlainProgram) (rule : NameRule) (fault : A → NameFault) (o : Option A) → KeptBelow ps (order_of rule) → IsSearched ps rule fault o
    → MatchOption o (KeptBelow ps (suc (order_of rule))) (λ x. IsRefusal ps (fault x))
tried ps rule fault None kept none = kept_next ps rule kept none
tried ps rule fault (Some x) kept first = inr (first_fault ps rule (fault x) kept first)

pub resolved_err : (ps : List PlainProgram) (f : NameFault) → IsRefusal ps f → IsResolved ps (Err f)
resolved_err ps f (inl memory) = subst (λ (g : NameFault). IsResolved ps (Err g)) (sym memory) tt
resolved_err ps f (inr first) = by f first
  where
    by : (g : NameFault) → IsFirstNameFault ps g → IsResolved ps (Err g)
    by fault.Memory told = tt
    by _ told = told

pub is_err : {A : Type 0} (r : Result A NameFault) (f : NameFault) → IsErrAnd r (λ e. e ≡ f) → r ≡ Err f
is_err (Ok x) f h = absurd h
is_err (Err e) f h = cc

-- ---- what the searches of single rules find, in the words of the rules

pub names_repeated : (ps : List PlainProgram) (es : List Entry) (f : NameFault) → es ≡ entries ps → IsRepeat es f → IsRefusal ps f
names_repeated ps es f are told =
    elim (subst (λ xs. IsRepeat xs f) are told) [
      | inl memory ↦ inl memory
      | inr r ↦ inr (first_fault ps RepeatedName f (none_below ps) (r.0, (r.1, r.2, r.3, r.4), λ k g less broken. r.5 k broken.0 less broken.1 broken.2))
    ]

pub names_apart : (ps : List PlainProgram) (es : List Entry) → es ≡ entries ps → EntriesAreApart es → KeptBelow ps 2
names_apart ps es are h =
    let r = subst EntriesAreApart are h in
    kept_next ps RepeatedName (none_below ps) (λ k f broken. r k broken.0 (slice_get_within (entries ps) k broken.0 broken.1) broken.1 broken.2)

-- ---- the first value or number that is not of its kind, in the words of the rules

kind_tells : (kind : Bool) (token : ℕ) → MatchOption (cond kind None (Some token)) (kind ≡ false → ⊥) (λ t. (kind ≡ false) × (t ≡ token))
kind_tells true token = λ e. cc
kind_tells false token = (refl, refl)

first_wrong : (js : List Judged) → slice_get (wrong_tokens js) 0 ≡ first_some wrong_token js
unfolding wrong_of
first_wrong [] = refl
first_wrong (j ∷ js) = let rest = first_wrong js in grind arith

pub kinds_searched : (ps : List PlainProgram) (o : Option ℕ) → o ≡ slice_get (wrong_tokens (kinds ps)) 0 → IsSearched ps WrongKind (λ t. fault.Kind t) o
kinds_searched ps o is =
    subst (λ (x : Option ℕ). IsSearched ps WrongKind (λ t. fault.Kind t) x) (sym (is ∙ first_wrong (kinds ps)))
    (first_bad IsWrongKind token_of (λ t. fault.Kind t) wrong_token (kinds ps) (λ k j there. kind_tells (is_kind j) (token_of j)))

-- ---- the first name that stands for nothing, in the words of the rules

-- no item at an allowed place
abbrev IsNothing : Option ℕ → Option ℕ → Type 0
IsNothing o below = MatchOption o (Unit {0}) (λ n. MatchOption below ⊥ (λ b. b ≤ n))

use_tells : (o below : Option ℕ) (token : ℕ) → MatchOption (unknown_by o below token) (IsNothing o below → ⊥) (λ t. IsNothing o below × (t ≡ token))
use_tells None below token = (tt, refl)
use_tells (Some n) None token = λ is. is
use_tells (Some n) (Some b) token = by (leb b n) refl
  where
    by : (t : Bool) → leb b n ≡ t → MatchOption (cond t (Some token) None) (b ≤ n → ⊥) (λ x. (b ≤ n) × (x ≡ token))
    by true test = (leb-true b n test, refl)
    by false test = λ below. let e = le-leb b n below in cc

pub uses_searched : (ps : List PlainProgram) (o : Option ℕ) → o ≡ first_some (unknown_token (symbols_of ps)) (uses ps) → IsSearched ps UnknownName (λ t. fault.Unknown t) o
uses_searched ps o is =
    let names = symbols_of ps in
    subst (λ (x : Option ℕ). IsSearched ps UnknownName (λ t. fault.Unknown t) x) (sym is)
    (first_bad (IsUnknown names) (λ (u : Use). u.token) (λ t. fault.Unknown t) (unknown_token names) (uses ps) (λ k u there. use_tells (look_up u.key names) u.below u.token))

-- ---- the first name after `parent` that stands for nothing, in the words of the rules

-- each name stands in a program of the source
parents_below : (ps : List PlainProgram) → Each (λ (u : ParentUse). u.program < length ps) (parents ps)
parents_below ps =
    let P : ParentUse → Type 0 = λ u. u.program < length ps in
    each_flat_map_at P program_parents 0 ps (λ p j x is there.
    let less : p < length ps = let within = slice_get_within ps j x there in omega (arith, is, within) in
    each_flat_map P (module_parents p) x.modules (each_always _ x.modules (λ u.
    each_flat_map P (mode_parents p) u.modes (each_always _ u.modes (λ m.
    each_flat_map P (invoke_parent p) m.invokes (each_always _ m.invokes (λ i. one (length ps) p i.parent less)))))))
  where
    one : (n p : ℕ) (o : Option Id) → p < n → Each (λ (u : ParentUse). u.program < n) (elim o [ Some id ↦ record { program = p; id = id } ∷ [] | None ↦ [] ])
    one n p (Some id) less = (less, tt)
    one n p None less = tt

parent_tells : (symbols : List (Key × ℕ)) (ps : List PlainProgram) (refined : List RefinedModes) (p : ℕ) (id : Id) → refined_at refined p ≡ refined_by symbols ps p
    → MatchOption (unmatched_at symbols refined p id) (IsUnmatchedParent symbols ps p id → ⊥) (λ t. IsUnmatchedParent symbols ps p id × (t ≡ id.token))
parent_tells symbols ps refined zero id is = (tt, refl)
parent_tells symbols ps refined (suc p) id is =
    subst (λ (m : Option ModeAt). MatchOption (absent (parent_in symbols m id.name) id.token) (IsUnmatchedParent symbols ps (suc p) id → ⊥) (λ t. IsUnmatchedParent symbols ps (suc p) id × (t ≡ id.token)))
    (sym is) (by (parent_in symbols (refined_by symbols ps (suc p)) id.name) id.token)
  where
    by : (o : Option ℕ) (token : ℕ) → MatchOption (absent o token) (o ≡ None → ⊥) (λ t. (o ≡ None) × (t ≡ token))
    by None token = (refl, refl)
    by (Some n) token = λ e. cc

pub parents_searched : (ps : List PlainProgram) (refined : List RefinedModes) (o : Option ℕ) → AreRefinedModes ps refined
    → o ≡ first_some (unmatched_token (symbols_of ps) refined) (parents ps) → IsSearched ps ParentName (λ t. fault.Unknown t) o
parents_searched ps refined o table is =
    let names = symbols_of ps in
    subst (λ (x : Option ℕ). IsSearched ps ParentName (λ t. fault.Unknown t) x) (sym is)
    (first_bad (λ (u : ParentUse). IsUnmatchedParent names ps u.program u.id) (λ (u : ParentUse). u.id.token) (λ t. fault.Unknown t) (unmatched_token names refined) (parents ps)
    (λ k u at.
    parent_tells names ps refined u.program u.id
    (ap (λ (n : RefinedModes). n.mode) (table.says u.program (each_at (λ (x : ParentUse). x.program < length ps) (parents ps) k u (parents_below ps) at)))))
