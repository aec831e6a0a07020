-- How much of its source a reader takes: what it counts, with the bytes that it read ahead, and the lines in which these end.
use Rattle.std.proofs.Common.{arith, ◌≡◌, ◌≤◌, ◌+◌, ℕ, List, [], ◌++◌, length, length-append, take, drop, Option, Result, Ok, Err, IfOk, refl, sym, ap, ◌∙◌, subst, append-nil, append_assoc}
use Rattle.htl_script.proofs.Words.{bytes_taken, prepend_known, LosesFront, StopsAtLine, ScriptStop, Event, Tables, Past, past_after_if, Place, Ahead, LinesAhead, TakesLine, lines_in, IsLinePlace, ReadsOn, behind_line, ahead_of, LosesPiece, at_start, taken_of, prepend_known-append, prepend_known-nil, is_line_feed, take-append-drop, length-drop, length-take}
use Rattle.std.proofs.lemmas.List.Sums.{count_by-le-length}
use Rattle.htl_script.specs.declared.fault.ScriptStop.TheVariants as stop
use Rattle.htl_script.proofs.{ReadingOn.passed_count, ReadingOn.reads_count, Feeds.feeds_both, Feeds.moved}

-- nothing
pub taken_none : {T E : Type 0} (a : Ahead) (known : Option (List ℕ)) (x : T) → LosesPiece {T = T} {E = E} a a known known (Ok x)
taken_none a known x =
    record {
      front = [];
      lost = prepend_known-nil known;
      few = λ few. omega (arith, few);
      counted = omega arith;
      lines = [];
      piece = a.ahead.bytes;
      parts = append-nil a.ahead.bytes;
      within = omega arith;
      short = λ few. few;
      goes_on = refl;
    }

-- what it gives doesn't matter
pub taken_on : {T U E F : Type 0} (a b : Ahead) (known rest : Option (List ℕ)) (x : T) (y : U) → LosesPiece {T = T} {E = E} a b known rest (Ok x) → LosesPiece {T = U} {E = F} a b known rest (Ok y)
taken_on a b known rest x y h = record { front = h.front; lost = h.lost; few = h.few; counted = h.counted; lines = h.lines; piece = h.piece; parts = h.parts; within = h.within; short = h.short; goes_on = h.goes_on }

-- a reader of lines reads on
pub taken_on_line : {U F : Type 0} (first : Ahead) (past : Past) (a b : LinesAhead) (known rest left : Option (List ℕ)) (u : U) → LosesPiece {T = U} {E = F} first (ahead_of a past) known rest (Ok u) → ReadsOn a b rest left
    → IsLinePlace b.place → length b.ahead.bytes ≤ 256 → LosesPiece {T = U} {E = F} first (ahead_of b past) known left (Ok u)
taken_on_line first past a b known rest left u was reads at few =
    let counted : bytes_taken a ≡ taken_of first + length was.front = was.counted in
    let count : bytes_taken b ≡ taken_of first + length (was.front ++ reads.front) = omega (arith, counted, reads_count a b rest left reads, length-append was.front reads.front) in
    record {
      front = was.front ++ reads.front;
      lost = prepend_known-append left was.front reads.front ∙ ap (prepend_known was.front) reads.lost ∙ was.lost;
      few = λ fit. omega (arith, sym count, at.small, few);
      counted = count;
      lines = was.lines ++ reads.run;
      piece = b.ahead.bytes;
      parts = moved first.ahead.bytes was.front reads.front was.lines was.piece reads.run b.ahead.bytes was.parts (ap (λ (xs : List ℕ). xs ++ reads.front) was.goes_on ∙ reads.parts);
      within = omega (arith, was.within, reads.plain, feeds_both was.lines reads.run, ap (λ (p : Place). p.number) reads.place);
      short = λ fit. few;
      goes_on = refl;
    }

-- the line was read, and the reader goes behind it
pub taken_line : {T U E F : Type 0} (first : Ahead) (past after : Past) (a : LinesAhead) (known rest : Option (List ℕ)) (u : U) (x : T) → LosesPiece {T = U} {E = F} first (ahead_of a past) known rest (Ok u)
    → LosesPiece {T = T} {E = E} first (ahead_of (behind_line a) after) known rest (Ok x)
taken_line first past after a known rest u x was =
    let counted : bytes_taken a ≡ taken_of first + length was.front = was.counted in
    record {
      front = was.front;
      lost = was.lost;
      few = was.few;
      counted = passed_count a ∙ counted;
      lines = was.lines ++ take 1 a.ahead.bytes;
      piece = drop 1 a.ahead.bytes;
      parts =
          was.parts ∙ ap (λ (xs : List ℕ). was.lines ++ xs) (was.goes_on ∙ sym (take-append-drop 1 a.ahead.bytes)) ∙ sym (append_assoc was.lines (take 1 a.ahead.bytes) (drop 1 a.ahead.bytes));
      within = omega (arith, was.within, feeds_both was.lines (take 1 a.ahead.bytes), count_by-le-length is_line_feed (take 1 a.ahead.bytes), length-take 1 a.ahead.bytes);
      short = λ fit. let short = was.short fit in omega (arith, short, ap length was.goes_on, length-drop 1 a.ahead.bytes);
      goes_on = refl;
    }

-- what is answered doesn't matter
pub taken_as : {T U E F : Type 0} (first now : Ahead) (known rest : Option (List ℕ)) (u : U) (r : Result T E) → LosesPiece {T = U} {E = F} first now known rest (Ok u) → LosesPiece {T = T} {E = E} first now known rest r
taken_as first now known rest u (Ok x) h = taken_on first now known rest u x h
taken_as first now known rest u (Err e) h =
    record { front = h.front; lost = h.lost; few = h.few; counted = tt; lines = h.lines; piece = h.piece; parts = h.parts; within = h.within; short = h.short; goes_on = tt }

-- the line was judged
pub taken_judged : {U F : Type 0} (t : Tables) (first now new : Ahead) (known rest : Option (List ℕ)) (u : U) (r : Result (Option Event) ScriptStop) → TakesLine t now new r → LosesPiece {T = U} {E = F} first now known rest (Ok u)
    → LosesPiece {T = Option Event} {E = ScriptStop} first new known rest r
taken_judged t first now new known rest u (Ok e) took h =
    subst (λ (a : Ahead). LosesPiece {E = ScriptStop} first a known rest (Ok e)) (sym took.1) (taken_line first now.here.past (past_after_if now.here.past e) (lines_in now) known rest u e h)
taken_judged t first now new known rest u (Err (stop.Script fault)) took h =
    subst (λ (a : Ahead). LosesPiece {T = Option Event} first a known rest (Err (stop.Script fault))) (sym took.2) (taken_as first now known rest u (Err (stop.Script fault)) h)
taken_judged t first now new known rest u (Err stop.Read) took h = absurd took

-- ---- more than one call

-- what a call takes behind those before it
pub taken_more : {T U E F : Type 0} (a b c : Ahead) (known rest left : Option (List ℕ)) (u : U) (r : Result T E) → LosesPiece {T = U} {E = F} a b known rest (Ok u)
    → LosesPiece {T = T} {E = E} b c rest left r → LosesPiece {T = T} {E = E} a c known left r
taken_more {T = T} {E = E} a b c known rest left u r before now =
    let counted : taken_of b ≡ taken_of a + length before.front = before.counted in
    let all = length-append before.front now.front in
    record {
      front = before.front ++ now.front;
      lost = prepend_known-append left before.front now.front ∙ ap (prepend_known before.front) now.lost ∙ before.lost;
      few = λ few. let first = before.few few in let second = now.few (omega (arith, counted, first)) in omega (arith, counted, second, all);
      counted = by r now.counted;
      lines = before.lines ++ now.lines;
      piece = now.piece;
      parts = moved a.ahead.bytes before.front now.front before.lines before.piece now.lines now.piece before.parts (ap (λ (xs : List ℕ). xs ++ now.front) before.goes_on ∙ now.parts);
      within = omega (arith, before.within, now.within, feeds_both before.lines now.lines);
      short = λ fit. let short = before.short fit in now.short (omega (arith, short, ap length before.goes_on));
      goes_on = now.goes_on;
    }
  where
    by : (r : Result T E) → IfOk r (λ x. taken_of c ≡ taken_of b + length now.front) → IfOk r (λ x. taken_of c ≡ taken_of a + length (before.front ++ now.front))
    by (Ok x) is = let counted : taken_of b ≡ taken_of a + length before.front = before.counted in omega (arith, is, counted, length-append before.front now.front)
    by (Err e) is = tt

-- from the beginning of a script on
module _ {T E : Type 0} (now : Ahead) (known rest : Option (List ℕ)) (r : Result T E) (p : LosesPiece {T = T} {E = E} at_start now known rest r) where
  pub taken_all : (most : ℕ) → 1073742080 ≤ most → LosesFront most known rest
  taken_all most enough = (p.front, (let few = p.few (omega arith) in omega (arith, few, enough)), p.lost)

  -- the reader is in this line
  pub taken_to_line : (line : ℕ) → line ≡ now.here.number → StopsAtLine line known rest
  taken_to_line line is =
      record {
        lines = p.lines;
        piece = p.piece;
        lost = ap (λ (xs : List ℕ). prepend_known xs rest) (sym p.parts) ∙ p.lost;
        within = omega (arith, p.within, is);
        few = p.short (omega arith);
      }
