-- Code in the place of functions means the same, and fits its place.
use Rattle.std.proofs.Common.{◌≡◌, ◌≤◌, ◌<◌, ℕ, List, length, get_or, slice_get, Option, Some, None, All, refl, sym, ◌∙◌, ap, subst, arith, inl, inr}
use Rattle.htl_names.proofs.FlatMaps.{list_to_at}
use Rattle.htl_compile.proofs.Words.{slice_get_cases, slice_get-get_or, ℤ, pos, count_function_types, same_runs, first_same, in_range, MeanTheSame, SameRuns, FunctionType, function_types, IsFunctionOf, FitPlaces, code_of, code_by, code_at, codes, coded, IsTyped, AreTyped, code_means, IsCompiled-postfix, IsCompiled, length-list_to, IsFirstBroken, postfix, AreInRange, IsFunInRange, IsSmallFunction, AreSmall, Tables, Fun, Formula, Compiled, fun, FormFault, IsFunctionCode}

-- ---- lists by places

pub within : {A : Type 0} (xs : List A) (k : ℕ) (x : A) → slice_get xs k ≡ Some x → k < length xs
within xs k x e = elim (slice_get_cases xs k).1 [ inl c ↦ c.1 | inr c ↦ absurd (let no : Some x ≡ None = sym e ∙ c.1 in cc) ]

-- ---- the code at a place

record Place (t : Tables) (k : ℕ) : Type 0 where
  pub type : FunctionType
  pub function : Fun
  pub typed : slice_get (function_types t) k ≡ Some type
  pub there : slice_get t.functions k ≡ Some function

place : (t : Tables) (k : ℕ) → AreInRange t → k < length t.functions → Place t k
place t k r less = elim (slice_get_cases (function_types t) k).1 [
  | inl c ↦ elim (slice_get_cases t.functions k).1 [ inl d ↦ record { type = c.0; function = d.0; typed = c.2; there = d.2 } | inr d ↦ absurd (omega (arith, d.0, less)) ]
  | inr c ↦ absurd (omega (arith, c.0, less, count_function_types t r))
]

pub code_is : (t : Tables) (k : ℕ) (f : FunctionType) (g : Fun) → slice_get (function_types t) k ≡ Some f → slice_get t.functions k ≡ Some g → code_at t k ≡ code_of f g
code_is t k f g a b = ap (λ (o : Option FunctionType). code_by o (slice_get t.functions k)) a ∙ ap (code_by (Some f)) b

-- ---- meaning

code_value : (f : FunctionType) (g : Fun) (args : List ℤ) → fun g args ≡ fun (code_of f g) args
code_value f (Formula first e) args = sym (code_means (record { args = f.args; want = f.want; instrs = postfix e }) e args refl)
code_value f (Compiled code) args = refl

value_at : (fs : List Fun) (k : ℕ) (args : List ℤ) (g : Fun) → slice_get fs k ≡ Some g → elim (slice_get fs k) as (λ _. ℤ) [ Some h ↦ fun h args | None ↦ pos 0 ] ≡ fun g args
value_at fs k args g e = ap (λ (o : Option Fun). elim o as (λ _. ℤ) [ Some h ↦ fun h args | None ↦ pos 0 ]) e

value_none : (fs : List Fun) (k : ℕ) (args : List ℤ) → slice_get fs k ≡ None → elim (slice_get fs k) as (λ _. ℤ) [ Some h ↦ fun h args | None ↦ pos 0 ] ≡ pos 0
value_none fs k args e = ap (λ (o : Option Fun). elim o as (λ _. ℤ) [ Some h ↦ fun h args | None ↦ pos 0 ]) e

-- the code of tables in range means what their functions mean
pub coded_means : (t : Tables) → AreInRange t → MeanTheSame t (codes t)
coded_means t r = λ k args. elim (slice_get_cases t.functions k).1 [
  | inl c ↦
      let p = place t k r c.1 in
      let there : slice_get (codes t) k ≡ Some (code_of p.type p.function) =
      list_to_at (code_at t) (length t.functions) k c.1 ∙ ap (λ (g : Fun). Some g) (code_is t k p.type p.function p.typed p.there) in
      value_at t.functions k args p.function p.there ∙ code_value p.type p.function args ∙ sym (value_at (codes t) k args (code_of p.type p.function) there)
  | inr c ↦
      value_none t.functions k args c.1
      ∙ sym (value_none (codes t) k args (past (codes t) k (omega (arith, c.0, length-list_to (code_at t) (length t.functions)))))
]
  where
    past : (fs : List Fun) (k : ℕ) → length fs ≤ k → slice_get fs k ≡ None
    past fs k h = elim (slice_get_cases fs k).1 [ inl d ↦ absurd (omega (arith, d.1, h)) | inr d ↦ d.1 ]

pub coded_runs : (t : Tables) → AreInRange t → SameRuns t (coded t)
coded_runs t r = same_runs t (codes t) (coded_means t r)

-- ---- types

code_fits : (f : FunctionType) (g : Fun) → IsSmallFunction f g → IsTyped f g → IsFunctionOf f (code_of f g)
code_fits f (Formula first e) small typed =
    let c : IsCompiled f.args f.want e (record { args = f.args; want = f.want; instrs = postfix e }) =
    IsCompiled-postfix f.args f.want e (record { args = f.args; want = f.want; instrs = postfix e }) typed small.0 refl refl refl in
    record { args = refl; want = refl; verified = c.verified }
code_fits f (Compiled code) small typed = absurd small

pub coded_fit : (t : Tables) → AreInRange t → AreSmall t → AreTyped t → FitPlaces (coded t)
coded_fit t r small typed = λ k f g a b.
    let less : k < length t.functions = omega (arith, within (codes t) k g b, length-list_to (code_at t) (length t.functions)) in
    let p = place t k r less in
    let there : slice_get (codes t) k ≡ Some (code_of p.type p.function) =
    list_to_at (code_at t) (length t.functions) k less ∙ ap (λ (g : Fun). Some g) (code_is t k p.type p.function p.typed p.there) in
    let one : code_of p.type p.function ≡ g = (let e : Some (code_of p.type p.function) ≡ Some g = sym there ∙ b in cc) in
    let type : p.type ≡ f = (let e : Some p.type ≡ Some f = sym p.typed ∙ a in cc) in
    subst (λ (y : FunctionType). IsFunctionOf y g) type
    (subst (λ (h : Fun). IsFunctionOf p.type h) one (code_fits p.type p.function (small k p.type p.function p.typed p.there) (typed k p.type p.function p.typed p.there)))

-- ---- ranges

function_range : (f : FunctionType) (g : Fun) → length f.args ≤ 256 → IsFunctionOf f g → IsFunInRange g
function_range f (Formula first e) few h = absurd h
function_range f (Compiled code) few h = (h.verified.some_code, h.verified.short, omega (arith, ap length h.args, few))

function_code : (f : FunctionType) (g : Fun) → IsFunctionOf f g → IsFunctionCode g
function_code f (Formula first e) h = h
function_code f (Compiled code) h = tt

few_args : (f : FunctionType) (g : Fun) → IsSmallFunction f g → length f.args ≤ 256
few_args f (Formula first e) h = h.1
few_args f (Compiled code) h = absurd h

all_codes : (t : Tables) → AreInRange t → AreSmall t → AreTyped t → (k : ℕ) (d : Fun) → k < length (codes t) → IsFunInRange (get_or (codes t) k d) × IsFunctionCode (get_or (codes t) k d)
all_codes t r small typed k d below =
    let less : k < length t.functions = omega (arith, below, length-list_to (code_at t) (length t.functions)) in
    let p = place t k r less in
    let g : Fun = get_or (codes t) k d in
    let fit : IsFunctionOf p.type g = coded_fit t r small typed k p.type g p.typed (slice_get-get_or (codes t) k d below) in
    (function_range p.type g (few_args p.type p.function (small k p.type p.function p.typed p.there)) fit, function_code p.type g fit)

pub coded_in_range : (t : Tables) → AreInRange t → AreSmall t → AreTyped t → AreInRange (coded t)
coded_in_range t r small typed =
    in_range t (codes t) r (λ k d less. (all_codes t r small typed k d less).0) (length-list_to (code_at t) (length t.functions))

pub codes_are_code : (t : Tables) → AreInRange t → AreSmall t → AreTyped t → All IsFunctionCode (codes t)
codes_are_code t r small typed = λ k d less. (all_codes t r small typed k d less).1

-- ---- rules

pub first_coded : (t : Tables) (f : FormFault) → IsFirstBroken (coded t) f → IsFirstBroken t f
first_coded t f h = first_same t (codes t) t.functions f h

-- functions that fit their places are code
pub fitting_are_code : (t : Tables) → AreInRange t → FitPlaces t → All IsFunctionCode t.functions
fitting_are_code t r fit = λ k d less.
    let p = place t k r less in
    let g : Fun = get_or t.functions k d in
    function_code p.type g (fit k p.type g p.typed (slice_get-get_or t.functions k d less))
