-- The worst case of each task is from 1 to 1,000,000.
use Rattle.std.proofs.Common.{◌≡◌, ℕ, pos, negsuc, ℤ, Bool, true, false, cond, List, map, All, get_or, Option, Some, None, refl, sym, subst, arith}
use Rattle.htl_platform.proofs.Words.{option_and_then, nat_tests, All-map, AreInRange, IsSpan, IsTaskInRange, Tables, Module, Task, Members, get_member, as_integer, key_of, is_worst, number_or, worst_in}

span-number_or : (own : ℕ) (x : ℤ) → IsSpan own → IsSpan (number_or own x)
span-number_or own (negsuc n) h = h
span-number_or own (pos n) h = by (is_worst (pos n)) refl
  where
    by : (b : Bool) → is_worst (pos n) ≡ b → IsSpan (cond b n own)
    by true e = record { some = grind (arith, nat_tests, e); most = grind (arith, nat_tests, e) }
    by false e = h

span-worst_or : (own : ℕ) (o : Option ℤ) → IsSpan own → IsSpan (elim o [ Some x ↦ number_or own x | None ↦ own ])
span-worst_or own (Some x) h = span-number_or own x h
span-worst_or own None h = h

pub spans : (t : Tables) (modules : List Module) (tasks : List Task) (ms : Members) → AreInRange t → tasks ≡ t.tasks
    → All IsSpan (map (worst_in modules ms) tasks)
spans t modules tasks ms h same =
    let ranges : All (IsTaskInRange t) tasks = subst (λ (ks : List Task). All (IsTaskInRange t) ks) (sym same) h.tasks in
    All-map IsSpan (worst_in modules ms) tasks
    (λ k d below. span-worst_or (get_or tasks k d).worst (option_and_then as_integer (get_member (key_of modules (get_or tasks k d)) ms)) (ranges k d below).worst)
