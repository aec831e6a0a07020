-- The values, buffers, modes and triggers before the first instant, and over an instant.
use Rattle.std.proofs.Common.{◌≡◌, ℕ, suc, ◌+◌, ◌-◌, ◌^◌, min, ◌<◌, List, [], length, map, refl, sym, ap, ◌∙◌, subst, arith}
use Rattle.htl_runs.proofs.Words.{Event, Comm, Tables, SInstr, ECode, Spells, e_path, spells_or_departs, ModeReads, spelled_reads, Standing, first_standing, StandsSafely, IsShaped, phase_path, sound, reads_follows, first_follows, AreTookWithin, Content, ValuesFollow, next_world, turn_at, finished_before, IsLoaded, IsValued, Passed, not_some}
use Rattle.htl_runs.proofs.{instants.BothMachines.next_is, events.NextReading.instant_values, lines.LoadedRecords.e_more}

-- each mode's reads are where its blocks are spelled
pub modes_read : (t : Tables) (code : ECode) → Spells t code → (m : ℕ) → m < length t.modes → ModeReads t code m
modes_read t code spelled m inside = spelled_reads t code m ((spells_or_departs t code).0 spelled) inside

module _ (t : Tables) (code : ECode) (schedules : List (List SInstr)) (loaded : IsLoaded t schedules) (spelled : Spells t code) where
  pub valued_first : (w : Content) → w.values ≡ map (λ (c : Comm). c.init) t.comms → IsShaped t w → StandsSafely t code (first_standing t code)
      → IsValued t code [] 0 (finished_before (turn_at t schedules []) 0) w (first_standing t code) 0
  valued_first w values shaped safe =
      record {
        values =
            record {
              values = values;
              inputs = λ i x s k c n st fin at h. not_some (record { mode = x.mode; start = s }) st.in_round;
              outputs = λ i x s k st fin h. not_some (record { mode = x.mode; start = s }) st.in_round;
            };
        shaped = shaped;
        triggers = first_follows t code [] (sound t code 12 (omega arith) loaded.range loaded.kept ((spells_or_departs t code).0 spelled));
        safe = safe;
        count = refl;
      }

  -- what the parts of an instant say carries all
  pub valued_next : (es : List Event) → AreTookWithin t es → (now : ℕ) (e e1 : Standing) (w w5 : Content) (n n1 : ℕ) → IsValued t code es now (finished_before (turn_at t schedules es) now) w e n
      → Passed t code schedules es now w w5 e1 → n1 ≡ min (n + length (e_path t code es now)) (2 ^ 64 - 1)
      → IsValued t code es (suc now) (finished_before (turn_at t schedules es) (suc now)) w5 e1 n1
  valued_next es within now e e1 w w5 n n1 f p is =
      let world : w5 ≡ next_world t es (turn_at t schedules es) now w =
      next_is t code schedules loaded (modes_read t code spelled) es within now w p.recorded p.wrote p.sensed p.switched w5 p.records p.writes p.sensors p.switches p.reads in
      record {
        values = subst (λ z. ValuesFollow t es (suc now) (finished_before (turn_at t schedules es) (suc now)) z) (sym world) (instant_values t schedules loaded es within now w f.values f.shaped);
        shaped = p.shaped;
        triggers = reads_follows t code es now e1 (phase_path t code es now 3) [] (sound t code 12 (omega arith) loaded.range loaded.kept ((spells_or_departs t code).0 spelled)) p.ends;
        safe = p.safe;
        count = is ∙ ap (λ z. min (z + length (e_path t code es now)) (2 ^ 64 - 1)) f.count ∙ sym (e_more t schedules es now code);
      }
