-- What a reader finds of values and modes in the text of what `go` runs.
use Rattle.std.proofs.Common.{◌≡◌, ◌*◌, ◌/◌, ℕ, zero, suc, Bool, true, false, cond, List, [], ◌∷◌, ◌++◌, map, Option, Some, None, refl, sym, ap, ap₂, ◌∙◌, append-nil}
use Rattle.htl_base.proofs.Places.{map_same}
use Rattle.htl_runs.proofs.{lines.LineBytes.lines_found, lines.Joined.joined-append, lines.Joined.joined-up_to}
use Rattle.htl_runs.specs.lines.RunLines.{RunLine, printed, text_lines, HasNames, closed_slice_line, job_done_line, job_lines, job_lines_at}
use Rattle.htl_runs.specs.{lines.RunLines.RunLine.ChangeLine, lines.RunLines.RunLine.TotalsLine, lines.Lines.e_done, lines.Lines.jobs_done, lines.Lines.s_done}
use Rattle.htl_runs.specs.lines.RunRecords.{RunRecord, new_records, old_records}
use Rattle.htl_model.proofs.Locality.{up_to_same}
use Rattle.htl_model.specs.{Lists.joined, Lists.up_to, Meaning.run_lines, Lines.line_text, Lines.lines_text, Lines.totals_line}
use Rattle.htl_top.proofs.{JobMeaning.go_job_lines, Meaning.line_same, SourceNames.source_named, SourceNames.coded_named}
use Rattle.htl_top.proofs.Vocabulary.{Event, Job, Left, Line, ValueLine, ModeLine, SInstr, Tables, built, coded, hyper, Jobs, lines_of, map-append, schedules_of, text_of, value_lines, CanBuild, Object}
use Rattle.htl_top.specs.FoundLaws.{begins_as_change, GoValueLinesAreFound}
use Rattle.std.proofs.lemmas.List.Elements.{filter-append}
use Rattle.std.specs.List.{filter}

-- the lines that begin so, of lines as they are printed
module _ (t : Tables) where
  abbrev pub found : List RunLine → List (List ℕ)
  found ls = filter begins_as_change (map (printed t) ls)

  found_both : (xs ys : List RunLine) → found (xs ++ ys) ≡ found xs ++ found ys
  found_both xs ys = ap (filter begins_as_change) (map-append (printed t) xs ys) ∙ filter-append begins_as_change (map (printed t) xs) (map (printed t) ys)

  none_joined : {A : Type 0} (f : A → List RunLine) → ((x : A) → found (f x) ≡ []) → (xs : List A) → found (joined f xs) ≡ []
  none_joined f none [] = refl
  none_joined f none (x ∷ xs) = found_both (f x) (joined f xs) ∙ ap₂ (λ (a b : List (List ℕ)). a ++ b) (none x) (none_joined f none xs)

  -- job lines are none
  none_closed : (i : ℕ) (s : Option (ℕ × ℕ)) → found (closed_slice_line i s) ≡ []
  none_closed i (Some s) = refl
  none_closed i None = refl

  none_done : (at i : ℕ) (b : Bool) → found (job_done_line at b i) ≡ []
  none_done at i true = refl
  none_done at i false = refl

  none_of : (x : RunRecord) → found (job_lines x) ≡ []
  none_of x =
      found_both (closed_slice_line x.inv x.left.slice) (job_done_line x.left.at x.left.finished x.inv)
      ∙ ap₂ (λ (a b : List (List ℕ)). a ++ b) (none_closed x.inv x.left.slice) (none_done x.left.at x.inv x.left.finished)

  none_at : (lists : List (List SInstr)) (es : List Event) (o : Option ℕ) (now : ℕ) → found (job_lines_at t lists es o now) ≡ []
  none_at lists es o now =
      found_both (joined job_lines (old_records t lists es o now)) (joined job_lines (new_records t lists es o now))
      ∙ ap₂ (λ (a b : List (List ℕ)). a ++ b) (none_joined job_lines none_of (old_records t lists es o now)) (none_joined job_lines none_of (new_records t lists es o now))

  -- lines of values and modes are found
  all_changes : (ls : List Line) → found (map ChangeLine ls) ≡ map (line_text t) ls
  all_changes [] = refl
  all_changes (ValueLine at c x ∷ ls) = ap (λ ys. line_text t (ValueLine at c x) ∷ ys) (all_changes ls)
  all_changes (ModeLine at k m ∷ ls) = ap (λ ys. line_text t (ModeLine at k m) ∷ ys) (all_changes ls)

-- ---- a run of a source's object

module _ (t : Tables) (es : List Event) where
  abbrev o : Object
  o = built t

  abbrev u : Tables
  u = coded t

  abbrev at_instant : ℕ → List RunLine
  at_instant now = job_lines_at u (schedules_of o) es (hyper t) now ++ map ChangeLine (value_lines t es now)

  changes_printed : (ls : List Line) → lines_text t ls ≡ joined (printed u) (map ChangeLine ls)
  changes_printed [] = refl
  changes_printed (x ∷ ls) = ap₂ (λ (a b : List ℕ). a ++ b) (sym (line_same t x)) (changes_printed ls)

  found_to : (n : ℕ) → found u (up_to at_instant n) ≡ map (line_text u) (up_to (value_lines t es) n)
  found_to zero = refl
  found_to (suc n) =
      let owed = job_lines_at u (schedules_of o) es (hyper t) n in
      let changes = map ChangeLine (value_lines t es n) in
      found_both u (up_to at_instant n) (owed ++ changes)
      ∙ ap₂ (λ (a b : List (List ℕ)). a ++ b) (found_to n) (found_both u owed changes ∙ ap₂ (λ (a b : List (List ℕ)). a ++ b) (none_at u (schedules_of o) es (hyper t) n) (all_changes u (value_lines t es n)))
      ∙ sym (map-append (line_text u) (up_to (value_lines t es) n) (value_lines t es n))

  module _ (can : CanBuild t) (end : ℕ) where
    instant_is : (now : ℕ) → lines_of o es Jobs now ≡ joined (printed u) (at_instant now)
    instant_is now =
        let owed = job_lines_at u (schedules_of o) es (hyper t) now in
        go_job_lines t es now can ∙ ap (λ (bs : List ℕ). joined (printed u) owed ++ bs) (changes_printed (value_lines t es now))
        ∙ sym (joined-append (printed u) owed (map ChangeLine (value_lines t es now)))

    abbrev totals : RunLine
    totals = TotalsLine end (jobs_done u (schedules_of o) es (suc end)) (e_done u o.ecode es (suc end)) (s_done u (schedules_of o) es (suc end))

    whole : text_of o es Jobs end ≡ joined (printed u) (up_to at_instant (suc end) ++ totals ∷ [])
    whole =
        ap (λ (bs : List ℕ). bs ++ printed u totals) (up_to_same (lines_of o es Jobs) (λ n. joined (printed u) (at_instant n)) (suc end) (λ k less. instant_is k) ∙ sym (joined-up_to (printed u) at_instant (suc end)))
        ∙ ap (λ (bs : List ℕ). joined (printed u) (up_to at_instant (suc end)) ++ bs) (sym (append-nil (printed u totals)))
        ∙ sym (joined-append (printed u) (up_to at_instant (suc end)) (totals ∷ []))

    pub changes_found : HasNames u → filter begins_as_change (text_lines (text_of o es Jobs end)) ≡ map (line_text t) (run_lines t es end)
    changes_found names =
        ap (λ (bs : List ℕ). filter begins_as_change (text_lines bs)) whole ∙ ap (filter begins_as_change) (lines_found u names (up_to at_instant (suc end) ++ totals ∷ []))
        ∙ found_both u (up_to at_instant (suc end)) (totals ∷ []) ∙ append-nil (found u (up_to at_instant (suc end))) ∙ found_to (suc end)
        ∙ map_same (line_text u) (line_text t) (run_lines t es end) (λ n x at. line_same t x)

pub go_changes_found : GoValueLinesAreFound
go_changes_found source t events end tables can = changes_found t events can end (coded_named t (source_named source t tables))
