-- A machine on the readings of rounds: what it follows, and that nothing is shown.
use Rattle.std.proofs.Common.{arith, ◌≡◌, ◌≤◌, ℕ, zero, suc, ◌*◌, ◌-◌, ◌+◌, List, [], ◌∷◌, ◌++◌, Option, None, Some, Result, Ok, refl, sym, ap, ap₂, ◌∙◌, subst}
use Rattle.htl_top.proofs.Vocabulary.{pos, Shown, Nothing, ECode, append_known-start, Puts, Seen, Follows, IsSameRun, text_between, reading_of, lines, lines_of, schedules_of, hyper, joined, Tables, Event, Object, SInstr, readings_of, round_readings, up_to_none, append_assoc}
use Rattle.htl_model.specs.declared.event.Event.TheVariants as event
use Rattle.htl_runs.specs.{lines.RunLines.record_text, lines.RunRecords.RunRecord, lines.RunRecords.new_records, lines.RunRecords.old_records}

-- ---- nothing is shown

no_record : (t : Tables) (xs : List RunRecord) → joined (record_text t Nothing) xs ≡ []
no_record t [] = refl
no_record t (x ∷ xs) = no_record t xs

module _ (t : Tables) (code : ECode) (schedules : List (List SInstr)) (es : List Event) where
  no_lines : (now : ℕ) → lines t code schedules es Nothing now ≡ []
  no_lines now = ap₂ (λ xs ys. xs ++ [] ++ [] ++ ys) (no_record t (old_records t schedules es (hyper t) now)) (no_record t (new_records t schedules es (hyper t) now))

pub no_text : (o : Object) (es : List Event) (show : Shown) (from to : ℕ) → show ≡ Nothing → text_between o es show from to ≡ []
no_text o es show from to is =
    ap (λ (s : Shown). text_between o es s from to) is
    ∙ up_to_none (λ n. lines_of o es Nothing (from + n)) (to - from) (λ n less. no_lines o.tables o.ecode (schedules_of o) es (from + n))

-- ---- readings

reading_behind : (r : ℕ) (es fs : List Event) → reading_of r (es ++ fs) ≡ reading_of (reading_of r es) fs
reading_behind r [] fs = refl
reading_behind r (event.At to ∷ es) fs = reading_behind to es fs
reading_behind r (event.Sense c x ∷ es) fs = reading_behind r es fs
reading_behind r (event.Took i n ∷ es) fs = reading_behind r es fs
reading_behind r (event.End to ∷ es) fs = reading_behind r es fs

-- the last reading is no later than the start of the next round
in_order : (rounds : ℕ) → reading_of 0 (readings_of rounds) ≤ 1000 * rounds
in_order zero = omega arith
in_order (suc n) = omega (arith, reading_behind 0 (readings_of n) (round_readings n))

pub still_in_order : (m : Seen) (rounds to : ℕ) → Follows m (readings_of rounds) → to ≡ 1000 * rounds → m.run_state.reading ≤ to
still_in_order m rounds to follows is = omega (arith, is, follows.kept.reading, in_order rounds)

-- ---- round by round

-- the readings of the rounds below k were told, and nothing was written
pub record IsRunning (first now : Seen) (k : ℕ) (old new : Option (List ℕ)) (before between : ℕ) : Type 0 where
  pub follows : Follows now (readings_of k)
  pub same : IsSameRun first now
  pub written : new ≡ old
  pub kept : between ≡ before

pub running_start : (m : Seen) (w : Option (List ℕ)) (f : ℕ) → Follows m [] → IsRunning m m 0 w w f f
running_start m w f follows = record { follows = follows; same = record { object = refl; show = refl }; written = refl; kept = refl }

module _ (m0 m m1 : Seen) (k to : ℕ) (w0 w w1 : Option (List ℕ)) (f0 f f1 : ℕ) (shown : m0.show ≡ Nothing) (running : IsRunning m0 m k w0 w f0 f) where
  -- what a call writes, which is nothing
  pub put_nothing : {T E : Type 0} (from : ℕ) (r : Result T E) → Puts w w1 f f1 (text_between m.object (readings_of k) m.show from to) r → Puts w0 w1 f0 f1 [] r
  put_nothing from r puts =
      subst (λ (n : ℕ). Puts w0 w1 n f1 [] r) running.kept
      (subst (λ (o : Option (List ℕ)). Puts o w1 f f1 [] r) running.written
      (subst (λ (bs : List ℕ). Puts w w1 f f1 bs r) (no_text m.object (readings_of k) m.show from to (running.same.show ∙ shown)) puts))

  pub running_on : {T E : Type 0} (from : ℕ) (x : T) (m2 : Seen) → Puts {T = T} {E = E} w w1 f f1 (text_between m.object (readings_of k) m.show from to) (Ok x) → IsSameRun m m1
      → m2.object ≡ m1.object → m2.show ≡ m1.show → to ≡ 1000 * k → Follows m2 ((readings_of k ++ event.At to ∷ []) ++ event.Sense 0 (pos k) ∷ [])
      → IsRunning m0 m2 (suc k) w0 w1 f0 f1
  running_on from x m2 puts same object show is follows =
      let put = put_nothing from (Ok x) puts in
      record {
        follows =
            subst (Follows m2)
            (append_assoc (readings_of k) (event.At to ∷ []) (event.Sense 0 (pos k) ∷ [])
            ∙ ap (λ (n : ℕ). readings_of k ++ event.At n ∷ event.Sense 0 (pos k) ∷ []) is) follows;
        same = record { object = object ∙ same.object ∙ running.same.object; show = show ∙ same.show ∙ running.same.show };
        written = put.whole ∙ sym (append_known-start w0);
        kept = put.cause.kept;
      }
