-- Each line of a run has one line feed, its last byte, and begins with its letter.
use Rattle.std.proofs.Common.{◌≡◌, ◌<◌, ℕ, zero, suc, ◌+◌, ◌/◌, ◌%◌, ℤ, pos, negsuc, Bool, true, false, cond, not, ◌&&◌, eqb, List, [], ◌∷◌, ◌++◌, map, slice_get, Option, Some, None, refl, sym, ap, ap₂, ◌∙◌, arith, codes}
use Rattle.std.specs.Fmt.{decimal, signed_decimal, digits, digits_onto, digit_glyph}
use Rattle.htl_runs.proofs.Words.{filter, list_all, eqb-true, and_parts, list_all-append, is_name, is_word_byte, joined, Line, ValueLine, ModeLine, Comm, Mode, Module, Task, Inv, comm_name, mode_name, module_name, shown_mode, line_text, Tables, mode_module, SInstr, EInstr, task_name, full_mode, full_inv, inv_name, mode_text, module_text, phase_word, instr_text, step_text, RunLine, printed, is_job_line, onto_first, text_lines, begins_as_job, HasNames, InstrLine, ChangeLine, StepLine, TotalsLine, SliceLine, DoneLine, all_at}
use Rattle.std.specs.Prelude.{nat_lt, ◌==◌, if◌then◌else◌}
use Rattle.htl_walk.specs.declared.schedule.SInstr.TheVariants.{Dispatch, Idle, End}
use Rattle.htl_ecode.specs.declared.instr.EInstr.TheVariants as I

-- ---- texts without a line feed

abbrev pub not_feed : ℕ → Bool
not_feed b = not (eqb b 10)

pub record IsPlain (bs : List ℕ) : Type 0 where
  pub all : list_all not_feed bs ≡ true

-- of a text that is written out
plain : {bs : List ℕ} → list_all not_feed bs ≡ true → IsPlain bs
plain e = record { all = e }

joins : (a b : List ℕ) → IsPlain a → IsPlain b → IsPlain (a ++ b)
joins a b p q = record { all = list_all-append not_feed a b ∙ ap₂ (λ (x y : Bool). x && y) p.all q.all }

-- where the test fails at a line feed
passes : (p : ℕ → Bool) → p 10 ≡ false → (b : ℕ) → p b ≡ true → not_feed b ≡ true
passes p fails b passed = grind (arith, eqb-true)

all_pass : (p : ℕ → Bool) → p 10 ≡ false → (bs : List ℕ) → list_all p bs ≡ true → IsPlain bs
all_pass p fails [] h = plain refl
all_pass p fails (b ∷ bs) h =
    let parts = and_parts (p b) (list_all p bs) h in
    record { all = ap₂ (λ (x y : Bool). x && y) (passes p fails b parts.0) (all_pass p fails bs parts.1).all }

-- ---- numbers

glyph_plain : (d : ℕ) → not_feed (digit_glyph false d) ≡ true
glyph_plain d = grind (arith, eqb-true)

onto_plain : (k n : ℕ) (acc : List ℕ) → IsPlain acc → IsPlain (digits_onto k 10 false n acc)
onto_plain zero n acc h = h
onto_plain (suc k) n acc h = by (n / 10 == 0) (λ xs plain. onto_plain k (n / 10) xs plain)
  where
    longer : IsPlain (digit_glyph false (n % 10) ∷ acc)
    longer = record { all = ap₂ (λ (x y : Bool). x && y) (glyph_plain (n % 10)) h.all }

    by : (c : Bool) → ((xs : List ℕ) → IsPlain xs → IsPlain (digits_onto k 10 false (n / 10) xs))
        → IsPlain (if c then digit_glyph false (n % 10) ∷ acc else digits_onto k 10 false (n / 10) (digit_glyph false (n % 10) ∷ acc))
    by true rest = longer
    by false rest = rest (digit_glyph false (n % 10) ∷ acc) longer

number_plain : (n : ℕ) → IsPlain (decimal n)
unfolding digits
number_plain n = onto_plain 64 n [] (plain refl)

value_plain : (x : ℤ) → IsPlain (signed_decimal x)
value_plain (pos n) = number_plain n
value_plain (negsuc n) = record { all = (number_plain (suc n)).all }

-- ---- names

name_plain : (bs : List ℕ) → is_name bs ≡ true → IsPlain bs
name_plain bs h = grind (arith, all_pass, and_parts)

module _ (t : Tables) (names : HasNames t) where
  comm_plain : (c : ℕ) → IsPlain (comm_name t c)
  comm_plain c = by (slice_get t.comms c) refl
    where
      by : (o : Option Comm) → slice_get t.comms c ≡ o → IsPlain (elim o as (λ _. List ℕ) [ Some x ↦ x.name | None ↦ [] ])
      by (Some x) e = name_plain x.name (all_at (λ (y : Comm). is_name y.name ≡ true) t.comms c x names.comms e)
      by None e = plain refl

  mode_plain : (m : ℕ) → IsPlain (mode_name t m)
  mode_plain m = by (slice_get t.modes m) refl
    where
      by : (o : Option Mode) → slice_get t.modes m ≡ o → IsPlain (elim o as (λ _. List ℕ) [ Some x ↦ x.name | None ↦ [] ])
      by (Some x) e = name_plain x.name (all_at (λ (y : Mode). is_name y.name ≡ true) t.modes m x names.modes e)
      by None e = plain refl

  module_plain : (k : ℕ) → IsPlain (module_name t k)
  module_plain k = by (slice_get t.modules k) refl
    where
      by : (o : Option Module) → slice_get t.modules k ≡ o → IsPlain (elim o as (λ _. List ℕ) [ Some x ↦ x.name | None ↦ [] ])
      by (Some x) e = name_plain x.name (all_at (λ (y : Module). is_name y.name ≡ true) t.modules k x names.modules e)
      by None e = plain refl

  task_plain : (k : ℕ) → IsPlain (task_name t k)
  task_plain k = by (slice_get t.tasks k) refl
    where
      by : (o : Option Task) → slice_get t.tasks k ≡ o → IsPlain (elim o as (λ _. List ℕ) [ Some x ↦ x.name | None ↦ [] ])
      by (Some x) e = name_plain x.name (all_at (λ (y : Task). is_name y.name ≡ true) t.tasks k x names.tasks e)
      by None e = plain refl

  full_mode_plain : (m : ℕ) → IsPlain (full_mode t m)
  full_mode_plain m = joins (module_name t (mode_module t m) ++ codes ".") (mode_name t m) (joins (module_name t (mode_module t m)) (codes ".") (module_plain (mode_module t m)) (plain refl)) (mode_plain m)

  inv_plain : (i : ℕ) → IsPlain (inv_name t i)
  inv_plain i = grind (arith, joins, codes, full_mode_plain, plain, task_plain, number_plain)

  mode_text_plain : (m : ℕ) → IsPlain (mode_text t m)
  mode_text_plain m = grind (arith, full_mode_plain, number_plain)

  module_text_plain : (k : ℕ) → IsPlain (module_text t k)
  module_text_plain k = by (slice_get t.modules k) refl
    where
      by : (o : Option Module) → slice_get t.modules k ≡ o → IsPlain (elim o as (λ _. List ℕ) [ Some x ↦ x.name | None ↦ decimal k ])
      by (Some x) e = name_plain x.name (all_at (λ (y : Module). is_name y.name ≡ true) t.modules k x names.modules e)
      by None e = number_plain k

  shown_mode_plain : (m : Option ℕ) → IsPlain (shown_mode t m)
  shown_mode_plain (Some m) = mode_plain m
  shown_mode_plain None = plain refl

  -- ---- instructions

  phase_plain : (p : ℕ) → IsPlain (phase_word p)
  phase_plain zero = plain refl
  phase_plain (suc zero) = plain refl
  phase_plain (suc (suc zero)) = plain refl
  phase_plain (suc (suc (suc p))) = plain refl

  instr_plain : (i : EInstr) → IsPlain (instr_text t i)
  instr_plain (I.CallWrite i k) = joins _ (decimal k) (joins _ (codes " ") (joins (codes "call write ") (inv_name t i) (plain refl) (inv_plain i)) (plain refl)) (number_plain k)
  instr_plain (I.CallRead i k) = joins _ (decimal k) (joins _ (codes " ") (joins (codes "call read ") (inv_name t i) (plain refl) (inv_plain i)) (plain refl)) (number_plain k)
  instr_plain (I.Release i) = joins (codes "release ") (inv_name t i) (plain refl) (inv_plain i)
  instr_plain (I.Future d p a) = grind (arith, joins, codes, plain, number_plain, phase_plain)
  instr_plain (I.JumpIf k a) = joins _ (decimal a) (joins _ (codes " ") (joins (codes "jumpif ") (decimal k) (plain refl) (number_plain k)) (plain refl)) (number_plain a)
  instr_plain (I.Jump a) = joins (codes "jump ") (decimal a) (plain refl) (number_plain a)
  instr_plain (I.IfMode m a) = joins _ (decimal a) (joins _ (codes " ") (joins (codes "ifmode ") (mode_text t m) (plain refl) (mode_text_plain m)) (plain refl)) (number_plain a)
  instr_plain (I.Enter m) = joins (codes "enter ") (mode_text t m) (plain refl) (mode_text_plain m)
  instr_plain (I.Fork k) = joins (codes "fork ") (module_text t k) (plain refl) (module_text_plain k)
  instr_plain _ = plain refl

  step_plain : (i : SInstr) → IsPlain (step_text i)
  step_plain (Dispatch p until) = joins _ (decimal until) (joins _ (codes " until ") (joins (codes "dispatch ") (decimal p) (plain refl) (number_plain p)) (plain refl)) (number_plain until)
  step_plain (Idle until) = joins (codes "idle until ") (decimal until) (plain refl) (number_plain until)
  step_plain End = plain refl

  -- ---- lines

  -- a text without a line feed, and a line feed
  abbrev IsLine : List ℕ → Type 0
  IsLine bytes = (front : List ℕ) × (bytes ≡ front ++ (10 ∷ [])) × IsPlain front

  -- `LETTER NUMBER TEXT`
  change_line : (l : Line) → IsLine (line_text t l)
  change_line (ValueLine at c x) =
      (_, refl, joins _ (signed_decimal x) (joins _ (codes " ") (joins _ (comm_name t c) (joins _ (codes " ") (joins (codes "v ") (decimal at) (plain refl) (number_plain at)) (plain refl)) (comm_plain c)) (plain refl)) (value_plain x))
  change_line (ModeLine at k m) =
      (_, refl, joins _ (shown_mode t m) (joins _ (codes " ") (joins _ (module_name t k) (joins _ (codes " ") (joins (codes "m ") (decimal at) (plain refl) (number_plain at)) (plain refl)) (module_plain k)) (plain refl)) (shown_mode_plain m))

  pub is_line : (l : RunLine) → IsLine (printed t l)
  is_line (SliceLine from to i) =
      (_, refl, joins _ (inv_name t i) (joins _ (codes " ") (joins _ (decimal to) (joins _ (codes " ") (joins (codes "j ") (decimal from) (plain refl) (number_plain from)) (plain refl)) (number_plain to)) (plain refl)) (inv_plain i))
  is_line (DoneLine at i) = (_, refl, joins _ (inv_name t i) (joins _ (codes " ") (joins (codes "d ") (decimal at) (plain refl) (number_plain at)) (plain refl)) (inv_plain i))
  is_line (InstrLine at a x) =
      (_, refl, joins _ (instr_text t x) (joins _ (codes " ") (joins _ (decimal a) (joins _ (codes " ") (joins (codes "e ") (decimal at) (plain refl) (number_plain at)) (plain refl)) (number_plain a)) (plain refl)) (instr_plain x))
  is_line (ChangeLine x) = change_line x
  is_line (StepLine at s k x) =
      (_, refl, joins _ (step_text x) (joins _ (codes " ") (joins _ (decimal k) (joins _ (codes ":") (joins _ (decimal s) (joins _ (codes " ") (joins (codes "s ") (decimal at) (plain refl) (number_plain at)) (plain refl)) (number_plain s)) (plain refl)) (number_plain k)) (plain refl)) (step_plain x))
  is_line (TotalsLine at jobs e s) = (
    _,
    refl,
    joins _ (decimal s) (joins _ (codes " s ") (joins _ (decimal e) (joins _ (codes " e ") (joins _ (decimal jobs) (joins _ (codes " jobs ") (joins (codes "end ") (decimal at) (plain refl) (number_plain at)) (plain refl)) (number_plain jobs)) (plain refl)) (number_plain e)) (plain refl)) (number_plain s),
  )

  -- the first letter tells the job lines
  pub letter : (l : RunLine) → begins_as_job (printed t l) ≡ is_job_line l
  letter (SliceLine from to i) = refl
  letter (ChangeLine (ValueLine at c x)) = refl
  letter _ = refl

  -- ---- lines are found again

  -- behind a text without a line feed
  cut : (front rest : List ℕ) → IsPlain front → text_lines ((front ++ (10 ∷ [])) ++ rest) ≡ (front ++ (10 ∷ [])) ∷ text_lines rest
  cut [] rest h = refl
  cut (b ∷ bs) rest h = by (eqb b 10) refl (cut bs rest (record { all = (and_parts (not_feed b) (list_all not_feed bs) h.all).1 }))
    where
      by : (c : Bool) → eqb b 10 ≡ c → text_lines ((bs ++ (10 ∷ [])) ++ rest) ≡ (bs ++ (10 ∷ [])) ∷ text_lines rest
          → cond c ((b ∷ []) ∷ text_lines ((bs ++ (10 ∷ [])) ++ rest)) (onto_first b (text_lines ((bs ++ (10 ∷ [])) ++ rest))) ≡ (b ∷ (bs ++ (10 ∷ []))) ∷ text_lines rest
      by false e next = ap (onto_first b) next
      by true e next = absurd (let z : ⊥ = (let plain : not (eqb b 10) ≡ true = (and_parts (not_feed b) (list_all not_feed bs) h.all).0 in let other : not (eqb b 10) ≡ false = ap not e in cc) in z)

  pub lines_found : (ls : List RunLine) → text_lines (joined (printed t) ls) ≡ map (printed t) ls
  lines_found [] = refl
  lines_found (l ∷ ls) =
      let line = is_line l in
      let rest = joined (printed t) ls in
      ap (λ (bs : List ℕ). text_lines (bs ++ rest)) line.1 ∙ cut line.0 rest line.2
      ∙ ap₂ (λ (x : List ℕ) (xs : List (List ℕ)). x ∷ xs) (sym line.1) (lines_found ls)

  pub jobs_found : (ls : List RunLine) → filter begins_as_job (map (printed t) ls) ≡ map (printed t) (filter is_job_line ls)
  jobs_found [] = refl
  jobs_found (l ∷ ls) = grind (arith, letter, jobs_found ls)
