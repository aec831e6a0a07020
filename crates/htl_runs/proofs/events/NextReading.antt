-- One event more: the lists that stand before it, and what who is finished has read.
use Rattle.std.proofs.Common.{◌≡◌, ℕ, zero, suc, ◌≤◌, ◌<◌, true, List, [], ◌∷◌, ◌++◌, Option, Some, None, refl, subst, arith}
use Rattle.htl_runs.proofs.Words.{Event, Inv, hyper, Tables, before, SInstr, Round, Content, InvStands, HasReadInputs, IsShaped, ValuesFollow, took, IsTookWithin, AreTookWithin, finished_before, next_world, SMachineStands, SMachineFollows, IsLoaded, Turn, turn_by, turn_at}
use Rattle.htl_runs.proofs.{values.WorldShapes.has_places, lists.ListValues.read_before, lists.ListValues.values_carried, lists.LoadedLists.loaded_run, lists.LoadedLists.loaded_turns, events.SameSensors.Alike, events.SameLists.list_same}

pub within_more : (t : Tables) (es : List Event) (e : Event) → AreTookWithin t es → IsTookWithin t e → AreTookWithin t (es ++ e ∷ [])
within_more t [] e a b = (b, tt)
within_more t (x ∷ es) e a b = (a.0, within_more t es e a.1 b)

-- each list that stands before then is the same
module _ (t : Tables) (schedules : List (List SInstr)) (es fs : List Event) (now : ℕ) (alike : Alike t es fs now) (loaded : IsLoaded t schedules) (within : AreTookWithin t es)
    (tooks : (i u : ℕ) → took t es i u ≡ took t fs i u) where
  pub turn_same : (n : ℕ) → n < now → turn_at t schedules es n ≡ turn_at t schedules fs n
  turn_same n h = grind (arith, list_same, loaded_run)

  pub s_machine_alike : (root : Option ℕ) (n : ℕ) (r : Round) → n ≤ now → SMachineFollows (turn_at t schedules es) root n r → SMachineFollows (turn_at t schedules fs) root n r
  s_machine_alike None n r h f = f
  s_machine_alike (Some period) zero r h f = f
  s_machine_alike (Some period) (suc n) r h f = subst (λ (u : Turn). SMachineStands u.plan u.frame (suc n) r) (turn_same n (omega (arith, h))) f

-- ---- what a machine keeps of its values with other events

module _ (t : Tables) (schedules : List (List SInstr)) (loaded : IsLoaded t schedules) (es : List Event) (within : AreTookWithin t es) where
  -- who is finished has read
  pub all_read : (now i : ℕ) (x : Inv) (s : ℕ) → InvStands t (before t es now).stays i x s → finished_before (turn_at t schedules es) now i ≡ true → HasReadInputs t now (finished_before (turn_at t schedules es) now) x s
  all_read now i x s st fin = read_before t loaded.range loaded.kept es (turn_at t schedules es) (loaded_turns t schedules loaded es within) now i x s st fin

  -- an instant, as far as the values go
  pub instant_values : (now : ℕ) (w : Content) → ValuesFollow t es now (finished_before (turn_at t schedules es) now) w → IsShaped t w
      → ValuesFollow t es (suc now) (finished_before (turn_at t schedules es) (suc now)) (next_world t es (turn_at t schedules es) now w)
  instant_values now w values shaped =
      (values_carried t loaded.range loaded.kept es (turn_at t schedules es) (loaded_turns t schedules loaded es within) now w values (has_places t w loaded.range loaded.kept shaped)).0
