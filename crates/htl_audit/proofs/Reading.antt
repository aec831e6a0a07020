-- The lines of a log, one by one.
use Rattle.std.proofs.Common.{◌≡◌, ◌+◌, ◌≤◌, ℕ, true, false, List, [], ◌∷◌, length, take, drop, Some, None, Err, refl, sym, ap, ◌∙◌, subst, arith, ◌<◌}
use Rattle.htl_audit.proofs.Words.{slice_split, position_from, position_or_len, position-Some, position_or_len_is, slice_split_first, length-slice_split, position_from-zero, Inv, Tables, is_space, fields_of, none_found, lines_of-last, is_invocation, invocation_of, line_of_fields, line_of, IsFirstLine}
use Rattle.htl_script.specs.Lines.{is_line_feed, lines_of_parts, lines_of}
use Rattle.htl_audit.specs.declared.slice.LogKind.TheVariants as kind

-- five fields or more
pub many_fields : (t : Tables) (text a b name word from to more last : List ℕ) → fields_of text ≡ word ∷ fields_of a → fields_of a ≡ from ∷ fields_of b → fields_of b ≡ to ∷ fields_of name → fields_of name ≡ more ∷ fields_of last
    → line_of t text ≡ Err kind.Form
many_fields t text a b name word from to more last first second third fourth =
    let all : fields_of text ≡ word ∷ from ∷ to ∷ more ∷ fields_of last =
    first ∙ ap (λ (fs : List (List ℕ)). word ∷ fs) (second ∙ ap (λ (fs : List (List ℕ)). from ∷ fs) (third ∙ ap (λ (fs : List (List ℕ)). to ∷ fs) fourth)) in
    ap (line_of_fields t) all ∙ five (fields_of last) (omega (arith, length-slice_split is_space last))
  where
    five : (fields : List (List ℕ)) → 1 ≤ length fields → line_of_fields t (word ∷ from ∷ to ∷ more ∷ fields) ≡ Err kind.Form
    five [] some = absurd (omega (arith, some))
    five (field ∷ fields) some = refl

-- ---- the first line

pub fed_line : (bytes : List ℕ) (i : ℕ) → position_from is_line_feed 0 bytes ≡ Some i → lines_of bytes ≡ record { text = take i bytes; fed = true } ∷ lines_of (drop (i + 1) bytes)
fed_line bytes i e =
    let found = position-Some is_line_feed bytes i 0 (position_from-zero is_line_feed bytes ∙ e) in
    let at : position_or_len is_line_feed bytes ≡ i = position_or_len_is is_line_feed bytes i 0 (omega (arith, found.0)) found.2 (λ below. found.1) in
    let parts : slice_split is_line_feed bytes ≡ take i bytes ∷ slice_split is_line_feed (drop (i + 1) bytes) =
    subst (λ (n : ℕ). slice_split is_line_feed bytes ≡ take n bytes ∷ slice_split is_line_feed (drop (n + 1) bytes)) at (slice_split_first is_line_feed bytes 0 (omega (arith, found.0))) in
    ap lines_of_parts parts ∙ two (slice_split is_line_feed (drop (i + 1) bytes)) (omega (arith, length-slice_split is_line_feed (drop (i + 1) bytes)))
  where
    two : (ps : List (List ℕ)) → 1 ≤ length ps → lines_of_parts (take i bytes ∷ ps) ≡ record { text = take i bytes; fed = true } ∷ lines_of_parts ps
    two [] some = absurd (omega (arith, some))
    two (p ∷ ps) some = refl

pub last_line : (bytes : List ℕ) → position_from is_line_feed 0 bytes ≡ None → 1 ≤ length bytes → lines_of bytes ≡ record { text = bytes; fed = false } ∷ []
last_line bytes e some = lines_of-last bytes (none_found is_line_feed bytes e) some

pub is_fed : (bytes rest : List ℕ) (i : ℕ) → position_from is_line_feed 0 bytes ≡ Some i → rest ≡ drop (i + 1) bytes → IsFirstLine bytes (take i bytes) rest
is_fed bytes rest i e same = record { fed = true; lines = fed_line bytes i e ∙ ap (λ z. record { text = take i bytes; fed = true } ∷ lines_of z) (sym same) }

pub is_last : (bytes rest : List ℕ) → position_from is_line_feed 0 bytes ≡ None → 1 ≤ length bytes → length rest ≡ 0 → IsFirstLine bytes bytes rest
is_last bytes [] e some none = record { fed = false; lines = last_line bytes e some }
is_last bytes (b ∷ rest) e some none = absurd (omega (arith, none))

-- ---- names that are known

pub invocation_below : (t : Tables) (name : List ℕ) (i : ℕ) → invocation_of t name ≡ Some i → i < length t.invs
invocation_below t name i e = by t.invs e
  where
    by : (xs : List Inv) → position_from (is_invocation t name) 0 xs ≡ Some i → i < length xs
    by [] g = absurd (let z : ⊥ = cc in z)
    by (x ∷ xs) g = let found = position-Some (is_invocation t name) (x ∷ xs) i x (position_from-zero (is_invocation t name) (x ∷ xs) ∙ g) in omega (arith, found.0)
