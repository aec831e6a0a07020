-- From one phase to the next, and to the next instant.
use Rattle.std.proofs.Common.{◌≡◌, ℕ, zero, suc, ◌+◌, ◌-◌, ◌<◌, Bool, true, false, cond, ltb, List, [], ◌++◌, length, Option, Some, None, refl, sym, ap, ◌∙◌, arith, append-nil, append_assoc}
use Rattle.htl_emach.proofs.Words.{nat_tests, Event, Stay, up_to, Tables, mode_module, mode_of, ECode, parent_of, Done, Trigger, Calendar, Between, Entry, turning, ended, is_called, awaited, entering, new_stay, phase_path, phase_blocks, from_module, Midway}

none_below : (j : ℕ) → j < 0 → ⊥
none_below j h = omega (arith, h)

pub to_switches : (t : Tables) (code : ECode) (es : List Event) (now : ℕ) (c : Calendar) → Between t code es now 1 c (length t.modules) → Between t code es now 2 c 0
to_switches t code es now c h = record { sized = h.sized; below = λ j less. absurd (none_below j less); above = λ j from less. h.below j less }

pub to_reads : (t : Tables) (code : ECode) (es : List Event) (now : ℕ) (c : Calendar) → Between t code es now 2 c (length t.modules) → Between t code es now 3 c 0
to_reads t code es now c h = record { sized = h.sized; below = λ j less. absurd (none_below j less); above = λ j from less. h.below j less }

-- a root module is active at each instant
abbrev pub RootsRun : Tables → List Event → ℕ → Type 0
RootsRun t es now = (j : ℕ) → j < length t.modules → parent_of t j ≡ None → new_stay t es now j ≡ None → ⊥

not_called : (t : Tables) (j : ℕ) (q : ℕ) → parent_of t j ≡ Some q → is_called t 0 j ≡ false
not_called t j q e = ap (λ (o : Option ℕ). elim o as (λ _. Bool) [ None ↦ true | Some p ↦ ltb (mode_module t p) 0 ]) e ∙ none (mode_module t q)
  where
    none : (n : ℕ) → ltb n 0 ≡ false
    none n = grind (arith, nat_tests)

pub to_next : (t : Tables) (code : ECode) (es : List Event) (now : ℕ) (c : Calendar) → RootsRun t es now → Between t code es now 3 c (length t.modules) → Between t code es (suc now) 1 c 0
to_next t code es now c roots h =
    record { sized = h.sized; below = λ j less. absurd (none_below j less); above = λ j from less. h.below j less ∙ ap (with_switch j) (by_stay j less (new_stay t es now j) refl (parent_of t j) refl) }
  where
    with_switch : ℕ → Option Trigger → Entry
    with_switch j z = record { mode = mode_of (new_stay t es now j); write = awaited t code 1 (suc now) (new_stay t es now j); switch = z; read = awaited t code 3 (suc now) (new_stay t es now j) }

    by_stay : (j : ℕ) → j < length t.modules → (x : Option Stay) → new_stay t es now j ≡ x → (o : Option ℕ) → parent_of t j ≡ o → ended t code x ≡ turning t code (suc now) 0 j x (new_stay t es (suc now) j)
    by_stay j less (Some y) is o e = refl
    by_stay j less None is None e = absurd (roots j less e is)
    by_stay j less None is (Some q) e = sym (ap (λ b. cond b (entering code (suc now) (new_stay t es (suc now) j)) None) (not_called t j q e))

-- ---- the path of a phase, from its start

from_start : (f : ℕ → List Done) (n k : ℕ) → up_to f k ++ from_module f n k ≡ up_to f (n + k)
from_start f zero k = let same : k ≡ zero + k = omega arith in append-nil (up_to f k) ∙ ap (up_to f) same
from_start f (suc n) k =
    let same : n + suc k ≡ suc n + k = omega arith in
    sym (append_assoc (up_to f k) (f k) (from_module f n (suc k))) ∙ from_start f n (suc k) ∙ ap (up_to f) same

pub from_zero : (f : ℕ → List Done) (n : ℕ) → up_to f n ≡ from_module f (n - 0) 0
from_zero f n =
    let plus : n + 0 ≡ n = omega arith in
    let less : n ≡ n - 0 = omega arith in
    ap (up_to f) (sym plus) ∙ sym (from_start f n 0) ∙ ap (λ m. from_module f m 0) less

-- a phase begins: nothing of it is done
pub phase_starts : (t : Tables) (code : ECode) (es : List Event) (now phase : ℕ) (c : Calendar) → Between t code es now phase c 0 →
    Midway t code es now phase (record { calendar = c; running = None }) [] (phase_path t code es now phase)
phase_starts t code es now phase c h =
    record {
      path = refl;
      stands = record { «module» = 0; within = omega arith; calendar = h; left = from_zero (phase_blocks t code es now phase) (length t.modules) };
    }
