-- A reader that takes a plan's input line by line.
use Rattle.std.proofs.Common.{◌≡◌, ◌≤◌, ◌+◌, ℕ, Bool, true, false, List, [], ◌∷◌, ◌++◌, length, take, Option, Some, None, Result, Ok, Err, refl, sym, ap, ap₂, ◌∙◌, subst, arith, length-append}
use Rattle.std.specs.Prelude.{◌==◌, if◌then◌else◌}
use Rattle.htl_plan.proofs.Words.{OnOk, length-take, prepend_known, prepend_known-append, prepend_known-nil, AreInRange, Tables, IsSelection, OfScript, LosesFront, ScriptFault, ScriptKind, Place, LinesAhead, IsLinePlace, IsAtLine, AnswersLine, ReadsOn, Gives, behind_line, bytes_taken, first_place, nothing_read, line_in, size_fault, text_of}
use Rattle.htl_base.proofs.Tests.{true_not_false}
use Rattle.std.proofs.{lemmas.Bool.eq-eqb, lemmas.List.take_all}
use Rattle.htl_script.specs.{Lines.ScriptLine, Lines.lines_of, Lines.size_of, declared.fault.ScriptStop.ScriptStop}
use Rattle.htl_script.specs.declared.fault.ScriptKind.TheVariants as kind
use Rattle.htl_script.specs.declared.fault.ScriptStop.TheVariants as stop
use Rattle.htl_script.proofs.{ReadingOn.passed_count, ReadingOn.reads_count, ReadingOn.reads_gives, Splitting.by_size, Streaming.gives_map, Streaming.gives_more, Streaming.given_script}
use Rattle.htl_plan.specs.SelectionInput.{Input, Whole, Bad, judged_text, listed, ended, input_of_lines, input_of}
use Rattle.htl_plan.specs.SelectionReaders.{rest_of, TakesLine, AnswersEnd, IsAnswer}
use Rattle.htl_plan.proofs.SelectionEntries.{whole_right}

-- ---- the first of the lines that are left

-- by what the first line says
first_by : (t : Tables) (line start : ℕ) (modes : List (Option ℕ)) (x : ScriptLine) (all xs : List ScriptLine) (o : Option ScriptKind) (r : Result (Option (Option ℕ)) ScriptKind) → all ≡ x ∷ xs → size_fault start x ≡ o
    → elim o as (λ _. Result (Option (Option ℕ)) ScriptKind) [ Some k ↦ Err k | None ↦ judged_text t modes x.text ] ≡ r
    → input_of_lines t line start modes all ≡ elim r as (λ _. Input) [ Ok e ↦ input_of_lines t (line + 1) (start + size_of x) (modes ++ listed e) xs | Err k ↦ Bad line k ]
first_by t line start modes x all xs o r lines sized says =
    ap (input_of_lines t line start modes) lines
    ∙ ap (λ (v : Result (Option (Option ℕ)) ScriptKind). elim v as (λ _. Input) [ Ok e ↦ input_of_lines t (line + 1) (start + size_of x) (modes ++ listed e) xs | Err k ↦ Bad line k ])
    (by_size start x (judged_text t modes x.text) ∙ ap (λ (p : Option ScriptKind). elim p as (λ _. Result (Option (Option ℕ)) ScriptKind) [ Some k ↦ Err k | None ↦ judged_text t modes x.text ]) sized ∙ says)

-- ---- what was read so far

-- what was read gives these entries, and the rest of the input is what is left
pub record IsReading (t : Tables) (now : LinesAhead) (entries : List (Option ℕ)) (known rest : Option (List ℕ)) : Type 0 where
  pub gives : Gives false now.ahead.over known rest (λ bytes later. input_of t bytes ≡ rest_of t now entries later)
  pub taken : List ℕ
  pub counted : length taken ≡ bytes_taken now
  pub told : prepend_known taken rest ≡ known

pub reading_start : (t : Tables) (now : LinesAhead) (modes : List (Option ℕ)) (known : Option (List ℕ)) → now ≡ record { place = first_place; ahead = nothing_read } → IsReading t now (take 0 modes) known known
reading_start t now modes known at =
    subst (λ (a : LinesAhead). IsReading t a [] known known) (sym at)
    (record {
      gives = record { front = []; lost = prepend_known-nil known; ends = λ was over. was over; kept = λ over. absurd (true_not_false false over refl); fact = λ later ok. refl };
      taken = [];
      counted = refl;
      told = prepend_known-nil known;
    })

pub reading_on : (t : Tables) (now next : LinesAhead) (entries : List (Option ℕ)) (known rest left : Option (List ℕ)) → IsReading t now entries known rest → ReadsOn now next rest left → IsReading t next entries known left
reading_on t now next entries known rest left was reads =
    record {
      gives =
          gives_more false now.ahead.over next.ahead.over known rest left (λ bytes later. input_of t bytes ≡ rest_of t now entries later) (λ bytes later. text_of now bytes ≡ text_of next later)
          (λ bytes later. input_of t bytes ≡ rest_of t next entries later)
          (λ bytes middle later x y.
          x ∙ ap (λ (bs : List ℕ). input_of_lines t now.place.number now.place.start entries (lines_of bs)) y
          ∙ ap (λ (p : Place). input_of_lines t p.number p.start entries (lines_of (text_of next later))) (sym reads.place))
          was.gives (reads_gives now next rest left reads);
      taken = was.taken ++ reads.front;
      counted = omega (arith, length-append was.taken reads.front, was.counted, reads_count now next rest left reads);
      told = prepend_known-append left was.taken reads.front ∙ ap (prepend_known was.taken) reads.lost ∙ was.told;
    }

module _ (t : Tables) (now : LinesAhead) (modes : List (Option ℕ)) (done : ℕ) (known rest : Option (List ℕ)) (reading : IsReading t now (take done modes) known rest) where
  abbrev Given : List ℕ → List ℕ → Type 0
  Given bytes later = input_of t bytes ≡ rest_of t now (take done modes) later

  -- the line that was read is the first of those that are left
  line_says : (e : Option (Option ℕ)) (bytes later : List ℕ) → IsAtLine now → (now.ahead.over ≡ true → later ≡ []) → judged_text t (take done modes) now.place.line ≡ Ok e → Given bytes later
      → input_of t bytes ≡ rest_of t (behind_line now) (take done modes ++ listed e) later
  line_says e bytes later at over says same =
      same ∙ first_by t now.place.number now.place.start (take done modes) (line_in now) (lines_of (text_of now later)) (lines_of (text_of (behind_line now) later)) None (Ok e) (at.first later over) at.sized says

  pub reading_line : (next : LinesAhead) (entries : List (Option ℕ)) (n : ℕ) → IsAtLine now → TakesLine t now modes done next entries (Ok n) → IsReading t next (take n entries) known rest
  reading_line next entries n at took =
      subst (λ (a : LinesAhead). IsReading t a (take n entries) known rest) (sym took.2)
      (subst (λ (es : List (Option ℕ)). IsReading t (behind_line now) es known rest) (sym took.3)
      (record {
        gives =
            gives_map false now.ahead.over known rest Given (λ bytes later. input_of t bytes ≡ rest_of t (behind_line now) (take done modes ++ listed took.0) later)
            (λ bytes later over same. line_says took.0 bytes later at over took.1 same) reading.gives;
        taken = reading.taken;
        counted = reading.counted ∙ sym (passed_count now);
        told = reading.told;
      }))

  -- ---- what is answered

  -- the bytes of the input are those of which something holds
  answered : {T : Type 0} (r : Result T ScriptStop) (entries : List (Option ℕ)) → ((bytes later : List ℕ) → (now.ahead.over ≡ true → later ≡ []) → Given bytes later → IsAnswer (input_of t bytes) entries r)
      → OfScript known (λ bytes. IsAnswer (input_of t bytes) entries r)
  answered r entries f =
      given_script now.ahead.over known rest (λ bytes later. IsAnswer (input_of t bytes) entries r) (gives_map false now.ahead.over known rest Given (λ bytes later. IsAnswer (input_of t bytes) entries r) f reading.gives)

  -- the reader of lines stopped
  pub answered_stop : (T : Type 0) (s : ScriptStop) (entries : List (Option ℕ)) → AnswersLine now (Err s) → OfScript known (λ bytes. IsAnswer {T = T} (input_of t bytes) entries (Err s))
  answered_stop T (stop.Script fault) entries says =
      answered {T = T} (Err (stop.Script fault)) entries
      (λ bytes later over same.
      let r = says.1 later in
      let is : input_of t bytes ≡ rest_of t now (take done modes) later = same in
      is ∙ first_by t now.place.number now.place.start (take done modes) r.0 (lines_of (text_of now later)) r.1 (Some fault.kind) (Err fault.kind) r.2 r.3 refl
      ∙ ap (λ (n : ℕ). Bad n fault.kind) (sym says.0))
  answered_stop T stop.Read entries says = answered {T = T} (Err stop.Read) entries (λ bytes later over same. tt)

  -- the line has a fault
  pub answered_fault : (T : Type 0) (s : ScriptStop) (next : LinesAhead) (entries : List (Option ℕ)) → IsAtLine now → TakesLine t now modes done next entries (Err s) → OfScript known (λ bytes. IsAnswer {T = T} (input_of t bytes) entries (Err s))
  answered_fault T (stop.Script fault) next entries at took =
      answered {T = T} (Err (stop.Script fault)) entries
      (λ bytes later over same.
      let is : input_of t bytes ≡ rest_of t now (take done modes) later = same in
      is
      ∙ first_by t now.place.number now.place.start (take done modes) (line_in now) (lines_of (text_of now later)) (lines_of (text_of (behind_line now) later)) None (Err fault.kind) (at.first later over) at.sized took.0
      ∙ ap (λ (n : ℕ). Bad n fault.kind) (sym took.1))
  answered_fault T stop.Read next entries at took = absurd took

  -- no line is left
  end_says : (bytes later : List ℕ) → AnswersLine now (Ok false) → (now.ahead.over ≡ true → later ≡ []) → Given bytes later → input_of t bytes ≡ ended t now.place.number (take done modes)
  end_says bytes later end over same =
      same ∙ ap (λ (bs : List ℕ). input_of_lines t now.place.number now.place.start (take done modes) (lines_of (now.place.line ++ (now.ahead.bytes ++ bs)))) (over end.2)
      ∙ ap₂ (λ (xs ys : List ℕ). input_of_lines t now.place.number now.place.start (take done modes) (lines_of (xs ++ (ys ++ [])))) end.0 end.1

  pub answered_end : (T : Type 0) (r : Result T ScriptStop) → length modes ≡ length t.modules → done ≤ length t.modules → AnswersLine now (Ok false) → AnswersEnd t now done r → OfScript known (λ bytes. IsAnswer (input_of t bytes) modes r)
  answered_end T (Ok x) same few end says =
      answered {T = T} (Ok x) modes
      (λ bytes later over given.
      end_says bytes later end over given ∙ ap (λ (es : List (Option ℕ)). ended t now.place.number es) (take_all done modes (omega (arith, says, same)))
      ∙ ap (λ (b : Bool). if b then Whole modes else Bad now.place.number kind.NoEnd) (eq-eqb (length modes) (length t.modules) same))
  answered_end T (Err (stop.Script fault)) same few end says =
      answered {T = T} (Err (stop.Script fault)) modes
      (λ bytes later over given.
      let count : length (take done modes) ≡ done = omega (arith, length-take done modes, same, few) in
      end_says bytes later end over given ∙ ap (λ (n : ℕ). if n == length t.modules then Whole (take done modes) else Bad now.place.number kind.NoEnd) count
      ∙ ap (λ (b : Bool). if b then Whole (take done modes) else Bad now.place.number kind.NoEnd) says.0 ∙ ap (λ (f : ScriptFault). Bad f.line f.kind) (sym says.1))
  answered_end T (Err stop.Read) same few end says = absurd says

  pub selected_end : (T : Type 0) (r : Result T ScriptStop) → AreInRange t → length modes ≡ length t.modules → done ≤ length t.modules → AnswersLine now (Ok false) → AnswersEnd t now done r → OnOk r (IsSelection t modes)
  selected_end T (Ok x) range same few end says = let whole = answered_end T (Ok x) same few end says in whole_right t range whole.0 modes whole.2
  selected_end T (Err s) range same few end says = tt

  pub loses_front : IsLinePlace now.place → length now.ahead.bytes ≤ 256 → LosesFront 1073742080 known rest
  loses_front at few = (reading.taken, omega (arith, reading.counted, at.small, few), reading.told)
