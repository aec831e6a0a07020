-- The first of the lines that are left.
use Rattle.std.proofs.Common.{inl, inr, ◌≡◌, ◌+◌, ◌≤◌, ◌<◌, ℕ, suc, min, Bool, true, false, not, cond, List, [], ◌∷◌, ◌++◌, length, drop, Some, None, Result, Ok, Err, refl, sym, ap, ap₂, ◌∙◌, subst, arith, eqb, append-nil, length-append}
use Rattle.std.specs.Prelude.{if◌then◌else◌}
use Rattle.std.proofs.lemmas.List.{nil_from_length}
use Rattle.htl_script.proofs.Words.{slice_split, onto_first, All, cases_Bool, le-leb, lt-ltb, le-ltb, and_from, and_right, ne_eqb, eqb-true, eqb-false, slice_split_none, slice_split_at, slice_split-cons_yes, slice_split-cons_no, ScriptKind, ScriptLine, is_line_feed, lines_of_parts, lines_of, size_of, is_past_limit, is_long, ScriptStop, LinesAhead, IsLinePlace, IsAtLine, IsRefused, AnswersLine, StopsBefore, line_in, size_fault, text_of}
use Rattle.htl_script.specs.declared.fault.ScriptKind.TheVariants as kind
use Rattle.htl_script.specs.declared.fault.ScriptStop.TheVariants as stop

-- ---- lines

-- there is a first part
split_some : (bytes : List ℕ) → (y : List ℕ) × (ys : List (List ℕ)) × (slice_split is_line_feed bytes ≡ y ∷ ys)
split_some [] = ([], [], refl)
split_some (b ∷ bs) =
    elim (cases_Bool (is_line_feed b)) [
      | inl hit ↦ ([], slice_split is_line_feed bs, slice_split-cons_yes is_line_feed b bs hit)
      | inr missed ↦
          let later = split_some bs in
          (b ∷ later.0, later.1, slice_split-cons_no is_line_feed b bs missed ∙ ap (λ (parts : List (List ℕ)). onto_first b parts) later.2)
    ]

split_front : (front bytes y : List ℕ) (ys : List (List ℕ)) → All (λ b. is_line_feed b ≡ false) front → slice_split is_line_feed bytes ≡ y ∷ ys
    → slice_split is_line_feed (front ++ bytes) ≡ (front ++ y) ∷ ys
split_front [] bytes y ys plain e = e
split_front (b ∷ front) bytes y ys plain e =
    let here : is_line_feed b ≡ false = plain 0 b (omega arith) in
    let later = split_front front bytes y ys (λ k d below. plain (suc k) d (omega (arith, below))) e in
    slice_split-cons_no is_line_feed b (front ++ bytes) here ∙ ap (λ (parts : List (List ℕ)). onto_first b parts) later

-- a line that a line feed ends
pub lines_of-fed : (line later : List ℕ) → All (λ b. is_line_feed b ≡ false) line
    → lines_of (line ++ 10 ∷ later) ≡ record { text = line; fed = true } ∷ lines_of later
lines_of-fed line later plain =
    let some = split_some later in
    let parts : slice_split is_line_feed (line ++ 10 ∷ later) ≡ line ∷ some.0 ∷ some.1 =
    slice_split_at is_line_feed line 10 later plain refl ∙ ap (λ (ps : List (List ℕ)). line ∷ ps) some.2 in
    ap lines_of_parts parts ∙ ap (λ (ps : List (List ℕ)). record { text = line; fed = true } ∷ lines_of_parts ps) (sym some.2)

-- a last line without a line feed
pub lines_of-last : (line : List ℕ) → All (λ b. is_line_feed b ≡ false) line → 1 ≤ length line
    → lines_of line ≡ record { text = line; fed = false } ∷ []
lines_of-last line plain some =
    let full : eqb (length line) 0 ≡ false = ne_eqb (length line) 0 (λ none. absurd (omega (arith, some, none))) in
    ap lines_of_parts (slice_split_none is_line_feed line plain)
    ∙ ap (λ (b : Bool). cond b [] (record { text = line; fed = false } ∷ [])) full

-- a line that goes on behind what was read of it
pub lines_of-begun : (line : List ℕ) (b : ℕ) (later : List ℕ) → All (λ b. is_line_feed b ≡ false) line → is_line_feed b ≡ false
    → (x : ScriptLine) × (xs : List ScriptLine) × (lines_of (line ++ b ∷ later) ≡ x ∷ xs) × (length line + 1 ≤ length x.text)
lines_of-begun line b later plain other =
    let some = split_some later in
    let begun : slice_split is_line_feed (b ∷ later) ≡ (b ∷ some.0) ∷ some.1 =
    slice_split-cons_no is_line_feed b later other ∙ ap (λ (ps : List (List ℕ)). onto_first b ps) some.2 in
    by_parts some.0 some.1 (split_front line (b ∷ later) (b ∷ some.0) some.1 plain begun)
  where
    by_parts : (y : List ℕ) (ys : List (List ℕ)) → slice_split is_line_feed (line ++ b ∷ later) ≡ (line ++ b ∷ y) ∷ ys
        → (x : ScriptLine) × (xs : List ScriptLine) × (lines_of (line ++ b ∷ later) ≡ x ∷ xs) × (length line + 1 ≤ length x.text)
    by_parts y [] parts =
        let long : length line + 1 ≤ length (line ++ b ∷ y) = omega (arith, length-append line (b ∷ y)) in
        let full : eqb (length (line ++ b ∷ y)) 0 ≡ false = ne_eqb (length (line ++ b ∷ y)) 0 (λ none. absurd (omega (arith, long, none))) in (
          record { text = line ++ b ∷ y; fed = false },
          [],
          ap lines_of_parts parts ∙ ap (λ (c : Bool). cond c [] (record { text = line ++ b ∷ y; fed = false } ∷ [])) full,
          long,
        )
    by_parts y (z ∷ zs) parts =
        (record { text = line ++ b ∷ y; fed = true }, lines_of_parts (z ∷ zs), ap lines_of_parts parts, omega (arith, length-append line (b ∷ y)))

-- ---- how a line is judged by its size

pub size_at_least : (x : ScriptLine) → length x.text ≤ size_of x
size_at_least x = sized x.fed
  where
    sized : (fed : Bool) → length x.text ≤ length x.text + (if fed then 1 else 0)
    sized true = omega arith
    sized false = omega arith

-- the byte past the limit is one of its first bytes
pub size-limit : (start n : ℕ) (x : ScriptLine) → start + n ≡ 1073741824 → n ≤ 255 → n + 1 ≤ size_of x → size_fault start x ≡ Some kind.Size
size-limit start n x at short long =
    let size = size_of x in
    let over : is_past_limit start x ≡ true =
    and_from _ _ (le-leb start 1073741824 (omega (arith, at))) (lt-ltb 1073741824 (start + min 256 size) (omega (arith, at, short, long))) in
    ap (λ (b : Bool). cond b (Some kind.Size) (cond (is_long x) (Some kind.Long) None)) over

pub within_limit : (start : ℕ) (x : ScriptLine) → start + min 256 (size_of x) ≤ 1073741824 → is_past_limit start x ≡ false
within_limit start x below = and_right _ _ (le-ltb 1073741824 (start + min 256 (size_of x)) below)

pub size-long : (start : ℕ) (x : ScriptLine) → start + 256 ≤ 1073741824 → 256 ≤ length x.text → size_fault start x ≡ Some kind.Long
size-long start x below long =
    let size = size_of x in
    let within = within_limit start x (omega (arith, below)) in
    let is : is_long x ≡ true = lt-ltb 255 (length x.text) (omega (arith, long)) in
    ap (λ (b : Bool). cond b (Some kind.Size) (cond (is_long x) (Some kind.Long) None)) within
    ∙ ap (λ (b : Bool). cond b (Some kind.Long) None) is

pub size-none : (start : ℕ) (x : ScriptLine) → start + size_of x ≤ 1073741824 → length x.text ≤ 255 → size_fault start x ≡ None
size-none start x below short =
    let size = size_of x in
    let within = within_limit start x (omega (arith, below)) in
    let is : is_long x ≡ false = le-ltb 255 (length x.text) short in
    ap (λ (b : Bool). cond b (Some kind.Size) (cond (is_long x) (Some kind.Long) None)) within
    ∙ ap (λ (b : Bool). cond b (Some kind.Long) None) is

-- how a line is judged whose text is judged so
pub by_size : {A : Type 0} (start : ℕ) (x : ScriptLine) (r : Result A ScriptKind)
    → (if is_past_limit start x then Err kind.Size else if is_long x then Err kind.Long else r) ≡ elim (size_fault start x) [ Some k ↦ Err k | None ↦ r ]
by_size start x r = by (is_past_limit start x) (is_long x)
  where
    by : (over long : Bool)
        → (if over then Err kind.Size else if long then Err kind.Long else r)
        ≡ elim (if over then Some kind.Size else if long then Some kind.Long else None) [ Some k ↦ Err k | None ↦ r ]
    by true long = refl
    by false true = refl
    by false false = refl

-- ---- where a line ends

module _ (a : LinesAhead) (is : IsLinePlace a.place) where
  -- a line feed stands ahead
  pub at_feed : (b : ℕ) → a.ahead.bytes ≡ b ∷ drop 1 a.ahead.bytes → b ≡ 10 → a.place.start + length a.place.line < 1073741824 → IsAtLine a
  at_feed b ahead ten below =
      let full : eqb (length a.ahead.bytes) 0 ≡ false = ne_eqb (length a.ahead.bytes) 0 (λ none. absurd (omega (arith, ap length ahead, none))) in
      let fed : line_in a ≡ record { text = a.place.line; fed = true } = ap (λ (c : Bool). record { text = a.place.line; fed = not c }) full in
      let size : size_of (line_in a) ≡ length a.place.line + 1 = ap size_of fed in
      record {
        first = λ later over.
            ap (λ (bs : List ℕ). lines_of (a.place.line ++ (bs ++ later))) ahead ∙ ap (λ (c : ℕ). lines_of (a.place.line ++ c ∷ (drop 1 a.ahead.bytes ++ later))) ten
            ∙ lines_of-fed a.place.line (drop 1 a.ahead.bytes ++ later) is.plain ∙ ap (λ (x : ScriptLine). x ∷ lines_of (drop 1 a.ahead.bytes ++ later)) (sym fed);
        sized = size-none a.place.start (line_in a) (omega (arith, size, below)) is.short;
        room = omega (arith, size, below);
        some = omega (arith, size);
      }

  -- the input has ended behind a last line without a line feed
  pub at_last : a.ahead.bytes ≡ [] → a.ahead.over ≡ true → 1 ≤ length a.place.line → IsAtLine a
  at_last ahead over some =
      let last : line_in a ≡ record { text = a.place.line; fed = false } = ap (λ (bs : List ℕ). record { text = a.place.line; fed = not (eqb (length bs) 0) }) ahead in
      let size : size_of (line_in a) ≡ length a.place.line + 0 = ap size_of last in
      record {
        first = λ later none.
            ap (λ (bs : List ℕ). lines_of (a.place.line ++ (bs ++ later))) ahead ∙ ap (λ (bs : List ℕ). lines_of (a.place.line ++ bs)) (none over)
            ∙ ap lines_of (append-nil a.place.line) ∙ lines_of-last a.place.line is.plain some
            ∙ ap₂ (λ (x : ScriptLine) (bs : List ℕ). x ∷ lines_of bs) (sym last) (sym (ap₂ (λ (bs cs : List ℕ). drop 1 bs ++ cs) ahead (none over)));
        sized = size-none a.place.start (line_in a) (omega (arith, size, is.small)) is.short;
        room = omega (arith, size, is.small);
        some = omega (arith, size, some);
      }

  -- the byte past the limit stands ahead
  pub at_limit : (b : ℕ) → a.ahead.bytes ≡ b ∷ drop 1 a.ahead.bytes → a.place.start + length a.place.line ≡ 1073741824 → IsRefused a kind.Size
  at_limit b ahead at = λ later.
      let begins : lines_of (text_of a later) ≡ lines_of (a.place.line ++ b ∷ (drop 1 a.ahead.bytes ++ later)) = ap (λ (bs : List ℕ). lines_of (a.place.line ++ (bs ++ later))) ahead in
      elim (cases_Bool (is_line_feed b)) [
        | inl feed ↦ (
          record { text = a.place.line; fed = true },
          lines_of (drop 1 a.ahead.bytes ++ later),
          begins ∙ ap (λ (c : ℕ). lines_of (a.place.line ++ c ∷ (drop 1 a.ahead.bytes ++ later))) (eqb-true b 10 feed)
              ∙ lines_of-fed a.place.line (drop 1 a.ahead.bytes ++ later) is.plain,
          size-limit a.place.start (length a.place.line) (record { text = a.place.line; fed = true }) at is.short (omega arith),
        )
        | inr other ↦
            let first = lines_of-begun a.place.line b (drop 1 a.ahead.bytes ++ later) is.plain other in (
              first.0,
              first.1,
              begins ∙ first.2,
              size-limit a.place.start (length a.place.line) first.0 at is.short (omega (arith, first.3, size_at_least first.0)),
            )
      ]

  -- the 256th byte of the line stands ahead
  pub at_256th : (b : ℕ) → a.ahead.bytes ≡ b ∷ drop 1 a.ahead.bytes → is_line_feed b ≡ false → length a.place.line ≡ 255 → a.place.start + length a.place.line < 1073741824 → IsRefused a kind.Long
  at_256th b ahead other full below = λ later.
      let first = lines_of-begun a.place.line b (drop 1 a.ahead.bytes ++ later) is.plain other in (
        first.0,
        first.1,
        ap (λ (bs : List ℕ). lines_of (a.place.line ++ (bs ++ later))) ahead ∙ first.2,
        size-long a.place.start first.0 (omega (arith, full, below)) (omega (arith, first.3, full)),
      )

  -- by what a byte that stands ahead says
  pub answers-byte : (b : ℕ) (k : ScriptKind) → a.ahead.bytes ≡ b ∷ drop 1 a.ahead.bytes → StopsBefore a.place b (Err k) → IsRefused a k
  answers-byte b k ahead (inl limit) = subst (IsRefused a) (sym limit.0) (at_limit b ahead limit.1)
  answers-byte b k ahead (inr long) = subst (IsRefused a) (sym long.0) (at_256th b ahead long.1 long.2 long.3)

  -- ---- what is answered

  pub answers_refused : (k : ScriptKind) (s : ScriptStop) → s ≡ stop.Script (record { line = a.place.number; kind = k }) → IsRefused a k → AnswersLine a (Err s)
  answers_refused k s e refused = subst (λ (x : ScriptStop). AnswersLine a (Err x)) (sym e) (refl, refused)

  -- the input has ended
  pub answers_over : (b : Bool) → a.ahead.bytes ≡ [] → a.ahead.over ≡ true → b ≡ eqb (length a.place.line) 0 → AnswersLine a (Ok (not b))
  answers_over true ahead over e = (nil_from_length a.place.line (eqb-true (length a.place.line) 0 (sym e)), ahead, over)
  answers_over false ahead over e = let some = eqb-false (length a.place.line) 0 (sym e) in at_last ahead over (omega (arith, some))
