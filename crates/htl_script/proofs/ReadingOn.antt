-- A reader of lines that reads on.
use Rattle.std.proofs.Common.{◌≡◌, ◌+◌, ◌∷◌, not, eqb, suc, length, length-append, drop, ℕ, Bool, true, false, List, [], ◌++◌, Option, Some, None, Result, Ok, Err, refl, sym, ap, ◌∙◌, arith, append_assoc, append-nil, subst}
use Rattle.std.specs.Prelude.{if◌then◌else◌}
use Rattle.htl_script.proofs.Words.{behind_line, bytes_taken, ne_eqb, IsAtEnd, prepend_known, prepend_known-append, prepend_known-nil, true_not_false, feeds_of, Pending, Place, LinesAhead, SeesByte, ReadsOn, text_of, Gives}
use Rattle.htl_script.proofs.Feeds.{feeds_both, moved}

pub reads_none : (a : LinesAhead) (rest : Option (List ℕ)) → ReadsOn a a rest rest
reads_none a rest =
    record {
      front = [];
      lost = prepend_known-nil rest;
      run = [];
      parts = append-nil a.ahead.bytes;
      plain = refl;
      place = ap (λ (bs : List ℕ). record a.place { line = bs }) (sym (append-nil a.place.line));
      ends = λ was over. was over;
      kept = λ over. (refl, over);
    }

-- first so far, and then farther
pub reads_more : (a b c : LinesAhead) (rest middle left : Option (List ℕ)) → ReadsOn a b rest middle → ReadsOn b c middle left → ReadsOn a c rest left
reads_more a b c rest middle left x y =
    record {
      front = x.front ++ y.front;
      lost = prepend_known-append left x.front y.front ∙ ap (prepend_known x.front) y.lost ∙ x.lost;
      run = x.run ++ y.run;
      parts = moved a.ahead.bytes x.front y.front x.run b.ahead.bytes y.run c.ahead.bytes x.parts y.parts;
      plain = omega (arith, feeds_both x.run y.run, x.plain, y.plain);
      place =
          y.place ∙ ap (λ (p : Place). record p { line = p.line ++ y.run }) x.place
          ∙ ap (λ (bs : List ℕ). record a.place { line = bs }) (append_assoc a.place.line x.run y.run);
      ends = λ was over. y.ends (x.ends was) over;
      kept = λ over. (ap (λ (bs : List ℕ). bs ++ y.front) (x.kept over).0 ∙ (y.kept (x.kept over).1).0, (y.kept (x.kept over).1).1);
    }

-- the next byte was seen
pub reads_byte : (E : Type 0) (p : Place) (old new : Pending) (rest left : Option (List ℕ)) (r : Result (Option ℕ) E) → SeesByte {E = E} old new rest left r
    → ReadsOn (record { place = p; ahead = old }) (record { place = p; ahead = new }) rest left
reads_byte E p old new rest left (Ok (Some b)) sees =
    record {
      front = sees.0;
      lost = sees.1;
      run = [];
      parts = sees.2;
      plain = refl;
      place = ap (λ (bs : List ℕ). record p { line = bs }) (sym (append-nil p.line));
      ends = λ was over. absurd (true_not_false new.over over sees.5);
      kept = λ over. absurd (true_not_false old.over over sees.4);
    }
reads_byte E p old new rest left (Ok None) sees =
    record {
      front = [];
      lost = prepend_known-nil left ∙ sees.2;
      run = [];
      parts = append-nil old.bytes ∙ sees.0 ∙ sym sees.1;
      plain = refl;
      place = ap (λ (bs : List ℕ). record p { line = bs }) (sym (append-nil p.line));
      ends = λ was over. by old.over refl was;
      kept = λ over. (refl, sees.3);
    }
  where
    by : (o : Bool) → old.over ≡ o → (old.over ≡ true → IsAtEnd rest) → IsAtEnd left
    by true e was = subst IsAtEnd (sym sees.2) (was e)
    by false e was = subst IsAtEnd (sym sees.2) (sees.4 e)
reads_byte E p old new rest left (Err e) sees =
    record {
      front = [];
      lost = prepend_known-nil left ∙ sees.2;
      run = [];
      parts = append-nil old.bytes ∙ sees.0 ∙ sym sees.1;
      plain = refl;
      place = ap (λ (bs : List ℕ). record p { line = bs }) (sym (append-nil p.line));
      ends = λ was over. absurd (true_not_false new.over over sees.4);
      kept = λ over. absurd (true_not_false old.over over sees.3);
    }

pub reads_on_byte : (E : Type 0) (first a : LinesAhead) (p : Place) (old new : Pending) (known rest left : Option (List ℕ)) (r : Result (Option ℕ) E) → record { place = p; ahead = old } ≡ a
    → ReadsOn first a known rest → SeesByte {E = E} old new rest left r → ReadsOn first (record { place = p; ahead = new }) known left
reads_on_byte E first a p old new known rest left r same was sees =
    reads_more first a (record { place = p; ahead = new }) known rest left was
    (subst (λ (z : LinesAhead). ReadsOn z (record { place = p; ahead = new }) rest left) same (reads_byte E p old new rest left r sees))

-- bytes that stood ahead were moved to the line
pub reads_run : (old new : Place) (ahead left : Pending) (run : List ℕ) (rest : Option (List ℕ)) → ahead.bytes ≡ run ++ left.bytes → feeds_of run ≡ 0 → new ≡ record old { line = old.line ++ run } → left.over ≡ ahead.over
    → ReadsOn (record { place = old; ahead = ahead }) (record { place = new; ahead = left }) rest rest
reads_run old new ahead left run rest parts plain line over =
    record {
      front = [];
      lost = prepend_known-nil rest;
      run = run;
      parts = append-nil ahead.bytes ∙ parts;
      plain = plain;
      place = line;
      ends = λ was now. was (sym over ∙ now);
      kept = λ was. (refl, over ∙ was);
    }

-- what is left stays the same
pub reads_text : (a b : LinesAhead) (rest left : Option (List ℕ)) (r : ReadsOn a b rest left) (later : List ℕ) → text_of a (r.front ++ later) ≡ text_of b later
reads_text a b rest left r later =
    ap (λ (bs : List ℕ). a.place.line ++ bs) (sym (append_assoc a.ahead.bytes r.front later) ∙ ap (λ (bs : List ℕ). bs ++ later) r.parts ∙ append_assoc r.run b.ahead.bytes later)
    ∙ sym (append_assoc a.place.line r.run (b.ahead.bytes ++ later))
    ∙ ap (λ (p : Place). p.line ++ (b.ahead.bytes ++ later)) (sym r.place)

pub reads_gives : (a b : LinesAhead) (rest left : Option (List ℕ)) → ReadsOn a b rest left → Gives a.ahead.over b.ahead.over rest left (λ bytes later. text_of a bytes ≡ text_of b later)
reads_gives a b rest left r = record { front = r.front; lost = r.lost; ends = r.ends; kept = r.kept; fact = λ later ok. reads_text a b rest left r later }

-- ---- how many bytes were taken

pub reads_count : (a b : LinesAhead) (rest left : Option (List ℕ)) (r : ReadsOn a b rest left) → bytes_taken b ≡ bytes_taken a + length r.front
reads_count a b rest left r =
    let parts : length a.ahead.bytes + length r.front ≡ length r.run + length b.ahead.bytes = sym (length-append a.ahead.bytes r.front) ∙ ap length r.parts ∙ length-append r.run b.ahead.bytes in
    let start : b.place.start ≡ a.place.start = ap (λ (p : Place). p.start) r.place in
    let line : length b.place.line ≡ length a.place.line + length r.run = ap (λ (p : Place). length p.line) r.place ∙ length-append a.place.line r.run in
    omega (arith, parts, start, line)

pub passed_count : (a : LinesAhead) → bytes_taken (behind_line a) ≡ bytes_taken a
passed_count a = omega (arith, behind a.ahead.bytes)
  where
    behind : (bytes : List ℕ) → (if not (eqb (length bytes) 0) then 1 else 0) + length (drop 1 bytes) ≡ length bytes
    behind [] = refl
    behind (b ∷ bs) = ap (λ (c : Bool). (if not c then 1 else 0) + length (drop 1 (b ∷ bs))) (ne_eqb (suc (length bs)) 0 (λ none. absurd (omega (arith, none)))) ∙ omega arith
