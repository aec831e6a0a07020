-- A loaded program: the records of its runs are those of the list that stands, and each instant adds to the totals.
use Rattle.std.proofs.Common.{◌≡◌, ℕ, suc, ◌+◌, ◌-◌, ◌^◌, min, cond, List, length, Option, Some, None, refl, sym, ◌∙◌, ap, length-append, arith}
use Rattle.htl_runs.proofs.Words.{count_by, sum_by-append, Event, up_to, hyper, frame_of, Tables, SInstr, ECode, e_path, AreTookWithin, IsLoaded, Turn, old_records, new_records, plan_records, old_turn, turn_old_records, turn_new_records, standing_old, standing_new, capped, records_at, all_records, jobs_done, e_done, s_done, turn_by, turn_at, list_turn}
use Rattle.htl_smach.specs.declared.left.Left.{Left}
use Rattle.htl_runs.proofs.{lists.LoadedLists.loaded_run, lines.StandingRecords.old_are, lines.StandingRecords.new_are}

module _ (t : Tables) (schedules : List (List SInstr)) (es : List Event) (loaded : IsLoaded t schedules) (within : AreTookWithin t es) where
  -- the length of a frame
  frame_is : (h : ℕ) → hyper t ≡ Some h → Some (frame_of t) ≡ Some h
  frame_is h e = ap (λ (o : Option ℕ). Some (elim o [ Some n ↦ n | None ↦ 0 ])) e

  turn_is : (h : ℕ) → hyper t ≡ Some h → list_turn t schedules es ≡ turn_at t schedules es
  turn_is h e = sym (ap (λ o. turn_by o t schedules es) e)

  pub loaded_old : (now : ℕ) → old_records t schedules es (hyper t) now ≡ standing_old t schedules es (hyper t) now
  loaded_old now = by (hyper t) refl
    where
      by : (o : Option ℕ) → hyper t ≡ o → old_records t schedules es o now ≡ standing_old t schedules es o now
      by None e = refl
      by (Some h) e =
          ap (λ o. old_records t schedules es o now) (sym (frame_is h e)) ∙ old_are t schedules es (loaded_run t schedules loaded es within h e) now
          ∙ ap (λ (turn : ℕ → Turn). plan_records (old_turn turn now).plan (old_turn turn now).node (turn_old_records turn now)) (turn_is h e)

  pub loaded_new : (now : ℕ) → new_records t schedules es (hyper t) now ≡ standing_new t schedules es (hyper t) now
  loaded_new now = by (hyper t) refl
    where
      by : (o : Option ℕ) → hyper t ≡ o → new_records t schedules es o now ≡ standing_new t schedules es o now
      by None e = refl
      by (Some h) e =
          ap (λ o. new_records t schedules es o now) (sym (frame_is h e)) ∙ new_are t schedules es (loaded_run t schedules loaded es within h e) now
          ∙ ap (λ (turn : ℕ → Turn). plan_records (turn now).plan (turn now).node (turn_new_records turn now)) (turn_is h e)

-- ---- totals

-- a count that stands at its end goes on from the count before
capped_more : (a b : ℕ) → capped (a + b) ≡ min (capped a + b) (2 ^ 64 - 1)
capped_more a b = omega arith

-- an instant adds its records and its addresses
module _ (t : Tables) (schedules : List (List SInstr)) (es : List Event) (now : ℕ) where
  pub jobs_more : jobs_done t schedules es (suc now) ≡ min (jobs_done t schedules es now + count_by (λ (l : Left). l.finished) (records_at t schedules es now)) (2 ^ 64 - 1)
  jobs_more = grind (arith, sum_by-append, capped_more)

  pub s_more : s_done t schedules es (suc now) ≡ min (s_done t schedules es now + length (records_at t schedules es now)) (2 ^ 64 - 1)
  s_more = ap capped (length-append (all_records t schedules es now) (records_at t schedules es now)) ∙ capped_more (length (all_records t schedules es now)) (length (records_at t schedules es now))

  pub e_more : (code : ECode) → e_done t code es (suc now) ≡ min (e_done t code es now + length (e_path t code es now)) (2 ^ 64 - 1)
  e_more code = ap capped (length-append (up_to (e_path t code es) now) (e_path t code es now)) ∙ capped_more (length (up_to (e_path t code es) now)) (length (e_path t code es now))
