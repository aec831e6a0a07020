-- A line, by its first word: what stands behind it is judged by its fields.
use Rattle.std.proofs.Common.{◌≡◌, ◌<◌, ◌≤◌, ◌+◌, ◌-◌, ℕ, zero, suc, Bool, true, false, List, [], ◌∷◌, length, take, drop, get_or, Option, Some, None, refl, sym, ap, ◌∙◌, subst, arith}
use Rattle.std.specs.Prelude.{codes, if◌then◌else◌, ◌==◌}
use Rattle.std.specs.{List.list_all, Char.is_ascii_digit}
use Rattle.std.proofs.{lemmas.List.Folds.list_all_at, lemmas.Option.get_or_from_slice_get}
use Rattle.htl_script.specs.Numbers.{is_numeral, number_of, signed_of, less_than_zero}
use Rattle.htl_script.specs.Statements.{Sense, Took, Statement, named_fields, named_statement, statement_of_fields, worded_statement}
use Rattle.htl_script.proofs.Words.{slice_get, position_from, option_map, bytes_eq, bytes_eq-Decides, eqb-true, length-slice_split, is_space, fields_of}
use Rattle.htl_script.proofs.Places.{found_item, fields_of-one, fields_of-cut}

-- ---- a space is no digit

space_at : (field : List ℕ) (k : ℕ) → position_from is_space 0 field ≡ Some k → get_or field k 0 ≡ 32
space_at field k e =
    let found = found_item is_space field 0 k e in
    get_or_from_slice_get field k found.0 0 (subst (λ n. slice_get field n ≡ Some found.0) (let e : k - 0 ≡ k = omega arith in e) found.2) ∙ eqb-true found.0 32 found.3

spaced_digits : (field : List ℕ) (k : ℕ) → k < length field → get_or field k 0 ≡ 32 → number_of field ≡ None
spaced_digits field k below at =
    let other : list_all is_ascii_digit field ≡ false = list_all_at is_ascii_digit field k 0 below (ap is_ascii_digit at) in
    let none : is_numeral field ≡ false = grind (arith, other) in
    rw none refl

spaced_number : (field : List ℕ) (k : ℕ) → position_from is_space 0 field ≡ Some k → number_of field ≡ None
spaced_number field k e = spaced_digits field k (fields_of-cut field k e).0 (space_at field k e)

cond_none : {A : Type 0} (b : Bool) (x y : Option A) → (b ≡ true → x ≡ None) → (b ≡ false → y ≡ None) → (if b then x else y) ≡ None
cond_none true x y yes' no' = yes' refl
cond_none false x y yes' no' = no' refl

spaced_signed : (field : List ℕ) (k : ℕ) → k < length field → get_or field k 0 ≡ 32 → signed_of field ≡ None
spaced_signed [] k below at = refl
spaced_signed (b ∷ bs) k below at =
    cond_none (b == 45) (less_than_zero (number_of bs)) (option_map (λ (n : ℕ). (false, n)) (number_of (b ∷ bs)))
    (λ minus. ap less_than_zero (behind k below at (eqb-true b 45 minus)))
    (λ plain. ap (λ (o : Option ℕ). option_map (λ (n : ℕ). (false, n)) o) (spaced_digits (b ∷ bs) k below at))
  where
    behind : (k : ℕ) → k < length (b ∷ bs) → get_or (b ∷ bs) k 0 ≡ 32 → b ≡ 45 → number_of bs ≡ None
    behind zero below at is = absurd (omega (arith, at, is))
    behind (suc j) below at is = spaced_digits bs j (omega (arith, below)) at

-- ---- a word and a name

-- the fields behind a space are at least one
later_fields : (text : List ℕ) → 1 ≤ length (fields_of text)
later_fields text = omega (arith, length-slice_split is_space text)

-- what a line with a name and digits says, of which no further field is a part
pub named_fields-digits : (word name digits : List ℕ) → named_fields word (name ∷ fields_of digits) ≡ named_statement word name digits
named_fields-digits word name digits = by (position_from is_space 0 digits) refl
  where
    several : (fields : List (List ℕ)) (first : List ℕ) → 1 ≤ length fields → named_fields word (name ∷ first ∷ fields) ≡ None
    several [] first some = absurd (omega (arith, some))
    several (field ∷ fields) first some = refl

    by : (o : Option ℕ) → position_from is_space 0 digits ≡ o → named_fields word (name ∷ fields_of digits) ≡ named_statement word name digits
    by None e = ap (λ (fs : List (List ℕ)). named_fields word (name ∷ fs)) (fields_of-one digits e)
    by (Some k) e =
        let cut = fields_of-cut digits k e in
        let sensed : Option Statement = option_map (Sense name) (signed_of digits) in
        let took : Option Statement = option_map (Took name) (number_of digits) in
        let took_or : Option Statement = if bytes_eq word (codes "took") then took else None in
        let few : named_fields word (name ∷ fields_of digits) ≡ None =
        ap (λ (fs : List (List ℕ)). named_fields word (name ∷ fs)) cut.1 ∙ several (fields_of (drop (k + 1) digits)) (take k digits) (later_fields (drop (k + 1) digits)) in
        few ∙ sym (
        cond_none (length name == 0) None (if bytes_eq word (codes "sense") then sensed else took_or) (λ empty. refl) (λ some.
        cond_none (bytes_eq word (codes "sense")) sensed took_or (λ sense. ap (λ o. option_map (Sense name) o) (spaced_signed digits k cut.0 (space_at digits k e)))
        (λ other. cond_none (bytes_eq word (codes "took")) took None (λ took. ap (λ o. option_map (Took name) o) (spaced_number digits k e)) (λ none. refl)))
        )

-- ---- a word

word_apart : (word given name number : List ℕ) → bytes_eq word given ≡ true → named_statement given name number ≡ None → named_statement word name number ≡ None
word_apart word given name number same none = subst (λ (w : List ℕ). named_statement w name number ≡ None) (sym ((bytes_eq-Decides word given).0 same)) none

-- what a line says, by its word
pub statement-worded : (word rest : List ℕ) → statement_of_fields (word ∷ fields_of rest) ≡ worded_statement word rest
statement-worded word rest = by (position_from is_space 0 rest) refl
  where
    at_none : (name number : List ℕ) → named_statement (codes "at") name number ≡ None
    at_none name number = cond_none (length name == 0) None None (λ e. refl) (λ e. refl)

    end_none : (name number : List ℕ) → named_statement (codes "end") name number ≡ None
    end_none name number = cond_none (length name == 0) None None (λ e. refl) (λ e. refl)

    several : (at end : Bool) (name : List ℕ) (fields : List (List ℕ)) → 1 ≤ length fields → (bytes_eq word (codes "at") ≡ at) → (bytes_eq word (codes "end") ≡ end)
        → statement_of_fields (word ∷ name ∷ fields) ≡ (if at then None else if end then None else named_fields word (name ∷ fields))
    several at end name [] some a e = absurd (omega (arith, some))
    several true end name (number ∷ []) some a e = word_apart word (codes "at") name number a (at_none name number)
    several false true name (number ∷ []) some a e = word_apart word (codes "end") name number e (end_none name number)
    several false false name (number ∷ []) some a e = refl
    several true end name (number ∷ more ∷ fields) some a e = refl
    several false true name (number ∷ more ∷ fields) some a e = refl
    several false false name (number ∷ more ∷ fields) some a e = refl

    by : (o : Option ℕ) → position_from is_space 0 rest ≡ o → statement_of_fields (word ∷ fields_of rest) ≡ worded_statement word rest
    by None e = rw (fields_of-one rest e) refl
    by (Some k) e =
        let cut = fields_of-cut rest k e in
        rw (cut.1, spaced_number rest k e) (several (bytes_eq word (codes "at")) (bytes_eq word (codes "end")) (take k rest) (fields_of (drop (k + 1) rest)) (later_fields (drop (k + 1) rest)) refl refl)
