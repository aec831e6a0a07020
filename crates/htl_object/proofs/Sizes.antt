-- How many outputs the tasks that were read have, whatever the bytes.
use Rattle.std.proofs.Common.{◌≡◌, ℕ, zero, suc, ◌+◌, ◌*◌, ◌≤◌, Bool, true, false, cond, List, [], ◌∷◌, ◌++◌, length, Ok, ap, subst, arith}
use Rattle.std.specs.Prelude.{sum_by, nat_le, not}
use Rattle.htl_object.proofs.Words.{w16, leb-true, length-append, sum_by-append, Bad, Spelling, Index, Task, type_at, types_at, task_at, last_owner, is_named_task}
use Rattle.htl_object.specs.Reading.{Read, ◌>>=◌, bad_at, need, items_at, limited_count, number_at}
use Rattle.htl_object.proofs.{Lawful.IsCodec, Lawful.bound, Lawful.needed, Lawful.given-value, FieldLaws.name, FieldLaws.owner, FieldLaws.flag, FieldLaws.span, ItemLaws.types}

record Yields {X : Type 0} (P : X → Type 0) (read : List ℕ → Read X) : Type 0 where
  pub all : (bytes : List ℕ) (y : X) (rest : List ℕ) → read bytes ≡ Ok (y, rest) → P y

behind : {A Y : Type 0} {P : Y → Type 0} {wa : A → List ℕ} {ga : A → Type 0} {ra : List ℕ → Read A} {k : List ℕ → A → List ℕ → Read Y}
    → IsCodec wa ga ra → ((bytes : List ℕ) (a : A) → Yields P (k bytes a)) → Yields P (λ bytes. ra bytes >>= k bytes)
behind {ra = ra} {k = k} first h = record { all = λ bytes y rest e. let b = bound (ra bytes) (k bytes) y rest e in (h bytes b.value).all b.rest y rest b.then }

behind_test : {Y : Type 0} {P : Y → Type 0} {k : List ℕ → Read Y} (b : Bool) (bad : Bad) → Yields P k → Yields P (λ bytes. need b bad (k bytes))
behind_test {k = k} b bad h = record { all = λ bytes y rest e. h.all bytes y rest (needed b bad (k bytes) y rest e).1 }

final : {A Y : Type 0} {P : Y → Type 0} {ra : List ℕ → Read A} (make : A → Y) → Yields (λ a. P (make a)) ra → Yields P (λ bytes. ra bytes >>= λ a rest. Ok (make a, rest))
final {P = P} {ra = ra} make h = record {
  all = λ bytes y rest e.
      let b = bound (ra bytes) (λ a s. Ok (make a, s)) y rest e in
      subst P (given-value (make b.value) y b.rest rest b.then).0 (h.all bytes b.value b.rest b.first);
}

pub items-length : {X : Type 0} (read : List X → List ℕ → Read X) (n : ℕ) (before : List X) (bytes : List ℕ) (xs : List X) (rest : List ℕ)
    → items_at read n before bytes ≡ Ok (xs, rest) → length xs ≡ length before + n
items-length {X} read zero before bytes xs rest e = let g = given-value before xs bytes rest e in omega (arith, ap (λ (l : List X). length l) g.0)
items-length {X} read (suc n) before bytes xs rest e =
    let b = bound (read before bytes) (λ x s. items_at read n (before ++ x ∷ []) s) xs rest e in
    omega (arith, items-length read n (before ++ b.value ∷ []) b.rest xs rest b.then, length-append before (b.value ∷ []))

types-few : Yields (λ ts. length ts ≤ 256) types_at
types-few = record {
  all = λ bytes ts rest e.
      let b = bound (limited_count 256 bytes) (λ n s. items_at (λ _. type_at) n [] s) ts rest e in
      let few = count-few.all bytes b.value b.rest b.first in
      omega (arith, few, items-length (λ _. type_at) b.value [] b.rest ts rest b.then);
}
  where
    count-few : Yields (λ n. n ≤ 256) (limited_count 256)
    count-few = record {
      all = λ bytes n rest e.
          let b = bound (number_at w16 bytes) (λ x s. need (nat_le x 256) (bad_at Index bytes) (Ok (x, s))) n rest e in
          let t = needed (nat_le b.value 256) (bad_at Index bytes) (Ok (b.value, b.rest)) n rest b.then in
          let v = given-value b.value n b.rest rest t.1 in
          let few : b.value ≤ 256 = leb-true b.value 256 t.0 in
          omega (arith, few, v.0);
    }

outputs-few : (modules : ℕ) (before : List Task) → Yields (λ t. length t.outputs ≤ 256) (task_at modules before)
outputs-few modules before =
    behind name (λ bytes n. behind (owner modules (last_owner before)) (λ _ o. behind_test (not (is_named_task before o n)) (bad_at Spelling bytes)
    (behind flag (λ _ a. behind span (λ _ w. behind types (λ _ ins.
    final (λ outs. record { name = n; «module» = o; is_abstract = a; worst = w; inputs = ins; outputs = outs }) types-few))))))

abbrev outs : Task → ℕ
outs t = cond t.is_abstract 0 (length t.outputs)

outs-few : (b : Bool) (n : ℕ) → n ≤ 256 → cond b 0 n ≤ 256
outs-few true n h = omega arith
outs-few false n h = h

pub tasks-few : (modules n : ℕ) (before : List Task) (bytes : List ℕ) (ts : List Task) (rest : List ℕ) → items_at (task_at modules) n before bytes ≡ Ok (ts, rest)
    → sum_by outs ts ≤ sum_by outs before + 256 * n
tasks-few modules zero before bytes ts rest e = let g = given-value before ts bytes rest e in omega (arith, ap (λ l. sum_by outs l) g.0)
tasks-few modules (suc n) before bytes ts rest e =
    let b = bound (task_at modules before bytes) (λ x s. items_at (task_at modules) n (before ++ x ∷ []) s) ts rest e in
    let few : outs b.value ≤ 256 = outs-few b.value.is_abstract (length b.value.outputs) ((outputs-few modules before).all bytes b.value b.rest b.first) in
    let more = tasks-few modules n (before ++ b.value ∷ []) b.rest ts rest b.then in
    omega (arith, more, few, sum_by-append outs before (b.value ∷ []))
