-- One length more: the lists that stand before it, and the S machine.
use Rattle.std.proofs.Common.{◌≡◌, ℕ, zero, suc, ◌<◌, List, [], ◌∷◌, ◌++◌, Option, Some, None, refl, sym, ap, subst, arith}
use Rattle.htl_runs.proofs.Words.{Event, hyper, Tables, SInstr, Round, IsTookWithin, AreTookWithin, reading_of, SMachineStands, SMachineFollows, IsLoaded, s_machine_taking, turn_by, turn_at, list_turn}
use Rattle.htl_model.specs.declared.event.Event.TheVariants as V
use Rattle.htl_smach.specs.Rounds as rounds
use Rattle.htl_runs.proofs.{events.SameSensors.Alike, events.SameSensors.sense_took, events.LongerJobs.took_so_far, events.LongerJobs.took_s_machine, events.SameRecords.AreSoFar, events.SameRecords.one_so_far, lists.LoadedLists.loaded_run}

module _ (t : Tables) (schedules : List (List SInstr)) (loaded : IsLoaded t schedules) (es : List Event) (within : AreTookWithin t es) (i n : ℕ) (fits : IsTookWithin t (V.Took i n)) (now : ℕ) (reading : now ≡ reading_of 0 es) where
  abbrev fs : List Event
  fs = es ++ V.Took i n ∷ []

  pub alike : Alike t es (es ++ V.Took i n ∷ []) now
  alike c u h = sym (sense_took t es i n c u)

  -- the lists that stand before the reading have left the same so far
  pub so_far : (m : ℕ) → m < now → AreSoFar (turn_at t schedules es m) (turn_at t schedules (es ++ V.Took i n ∷ []) m) now
  so_far m h = by (hyper t) refl
    where
      by : (o : Option ℕ) → hyper t ≡ o → AreSoFar (turn_by o t schedules es m) (turn_by o t schedules fs m) now
      by None e = one_so_far (turn_by None t schedules es m) now
      by (Some q) e = took_so_far t schedules es (loaded_run t schedules loaded es within q e) i n fits now reading m h

  pub s_machine_follows : (o : Option ℕ) → hyper t ≡ o → (r : Round) → SMachineFollows (turn_at t schedules es) o now r → ((code : List SInstr) → rounds.Stands r code → rounds.Stands (s_machine_taking i n r) code)
      → SMachineFollows (turn_at t schedules fs) o now (s_machine_taking i n r)
  s_machine_follows o e r f keeps = by_instant o e now refl f
    where
      idle : r ≡ rounds.no_round → s_machine_taking i n r ≡ rounds.no_round
      idle g = ap (s_machine_taking i n) g

      by_instant : (o : Option ℕ) → hyper t ≡ o → (k : ℕ) → now ≡ k → SMachineFollows (turn_at t schedules es) o k r → SMachineFollows (turn_at t schedules fs) o k (s_machine_taking i n r)
      by_instant None e k g f = idle f
      by_instant (Some h) e zero g f = idle f
      by_instant (Some h) e (suc k) g f =
          subst (λ z. SMachineStands (turn_at t schedules fs k).plan (turn_at t schedules fs k).frame z (s_machine_taking i n r)) g
          (subst (λ o. SMachineStands (turn_by o t schedules fs k).plan (turn_by o t schedules fs k).frame now (s_machine_taking i n r)) (sym e)
          (took_s_machine t schedules es (loaded_run t schedules loaded es within h e) i n fits now reading k (omega (arith, g)) g r here (keeps (list_turn t schedules es k).plan.schedule here.stands)))
        where
          here : SMachineStands (list_turn t schedules es k).plan (list_turn t schedules es k).frame now r
          here =
              subst (λ o. SMachineStands (turn_by o t schedules es k).plan (turn_by o t schedules es k).frame now r) e
              (subst (λ z. SMachineStands (turn_at t schedules es k).plan (turn_at t schedules es k).frame z r) (sym g) f)
