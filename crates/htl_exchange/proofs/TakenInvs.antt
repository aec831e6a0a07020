-- The invocations that the patched program has, and their tasks.
use Rattle.std.proofs.Common.{◌≡◌, ◌+◌, inl, inr, ℕ, Bool, true, false, not, eq-eqb, List, length, map, slice_get, Option, Some, None, sym, ◌∙◌, ap, subst}
use Rattle.htl_exchange.proofs.Words.{End, Inv, Task}
use Rattle.htl_model.specs.declared.parts.End.TheVariants as E
use Rattle.htl_model.proofs.{Stays.module_is, Words.is_concrete}
use Rattle.htl_base.proofs.Places.{get_back, get_mapped}
use Rattle.htl_patch.proofs.Words.{from_map, same_Some, all_at, get_or_from_slice_get, get_front, AreApart, IsInvInRange, Tables, mode_module, modes_of, invs_of, Joins, is_transferred, Replacement, combined, donor_inv, donor_task, donor_end, order, new_numbers, patched, place_among, Numbering, inv_at, task_at, new_end, new_inv, new_task, tasks_of, task_of_module}
use Rattle.htl_patch.proofs.{Members.Has, Members.of_flat, Members.in_flat, Members.in_places_0, Members.place_at, Renumbering.mode_there, Renumbering.inv_there, Renumbering.task_new, Renumbering.invs_apart, Transfers.transferred_true}
use Rattle.htl_patch.proofs.{Replacing.CanReplace, Replacing.order_apart, CombinedTables.combined_sound, CombinedTables.guest_owner, CombinedTables.sided}

-- an end that is an instance in the new tables is one in the old ones
pub old_end : (n : Numbering) (ends : List End) (j c k : ℕ) → slice_get (map (new_end n) ends) j ≡ Some (E.Comm c k) → slice_get ends j ≡ Some (E.Comm c k)
old_end n ends j c k e = let r = from_map (new_end n) ends j (E.Comm c k) e in r.1 ∙ by r.0 r.2
  where
    by : (e : End) → new_end n e ≡ E.Comm c k → Some e ≡ Some (E.Comm c k)
    by (E.Comm d m) f = ap (λ (x : End). Some x) f
    by (E.Port p) f = absurd (let z : ⊥ = cc in z)

pub donors_end : (g : Replacement) (ends : List End) (j c k : ℕ) → slice_get (map (donor_end g) ends) j ≡ Some (E.Comm c k) → slice_get ends j ≡ Some (E.Comm c k)
donors_end g ends j c k e = let r = from_map (donor_end g) ends j (E.Comm c k) e in r.1 ∙ by r.0 r.2
  where
    by : (e : End) → donor_end g e ≡ E.Comm c k → Some e ≡ Some (E.Comm c k)
    by (E.Comm d m) f = ap (λ (x : End). Some x) f
    by (E.Port p) f = absurd (let z : ⊥ = cc in z)

-- whether the task is concrete
abbrev pub concrete_task : Option Task → Bool
concrete_task o = not (elim o [ Some y ↦ y.is_abstract | None ↦ false ])

module _ (g : Replacement) (c : CanReplace g) (j : Joins g) where
  abbrev u : Tables
  u = combined g

  abbrev n : Numbering
  n = new_numbers g

  abbrev apart : AreApart (order g)
  apart = order_apart g c

  -- the mode of an invocation that is taken is one of a module that is
  pub owner_taken : (k : ℕ) (x : Inv) → Has n.invs k → slice_get u.invs k ≡ Some x → Has (order g) (mode_module u x.mode)
  owner_taken k x h at =
      let r = of_flat (invs_of u) n.modes k h in
      let i = inv_there u r.0 k r.2 in
      let q = of_flat (modes_of u) (order g) r.0 r.1 in
      let m = mode_there u q.0 r.0 q.2 in
      subst (Has (order g)) (sym (ap (mode_module u) (ap (λ (y : Inv). y.mode) (same_Some x i.0 (sym at ∙ i.1)) ∙ i.2) ∙ module_is u r.0 m.0 m.1 ∙ m.2)) q.1

  -- and so is its task
  pub task_taken : (k : ℕ) (x : Inv) → Has n.invs k → slice_get u.invs k ≡ Some x → Has n.tasks x.task
  task_taken k x h at =
      let r = ((combined_sound g c j.comms).invs k x at).task in
      in_flat (tasks_of u) (order g) (mode_module u x.mode) x.task (owner_taken k x h at)
      (in_places_0 (task_of_module (mode_module u x.mode)) u.tasks x.task r.0 r.1 (eq-eqb r.0.«module» (mode_module u x.mode) r.2))

  pub concrete_taken : (k : ℕ) (x : Inv) → Has n.invs k → slice_get u.invs k ≡ Some x → is_concrete (patched g) (new_inv n x) ≡ is_concrete u x
  concrete_taken k x h at =
      let r = ((combined_sound g c j.comms).invs k x at).task in
      let new : slice_get (patched g).tasks (place_among x.task n.tasks) ≡ Some (new_task n r.0) =
      task_new u (order g) apart x.task (task_taken k x h at) ∙ ap (λ (y : Task). Some (new_task n y)) (get_or_from_slice_get u.tasks x.task r.0 _ r.1) in
      ap concrete_task new ∙ sym (ap concrete_task r.1)

  pub concrete_host : (k : ℕ) (x : Inv) → slice_get g.host.invs k ≡ Some x → is_concrete u x ≡ is_concrete g.host x
  concrete_host k x at =
      let r = (all_at (IsInvInRange g.host) g.host.invs k x c.host.invs at).task in
      ap concrete_task (get_front g.host.tasks (map (donor_task g) g.donor.tasks) x.task r.0 r.1) ∙ sym (ap concrete_task r.1)

  pub concrete_donor : (k : ℕ) (x : Inv) → slice_get g.donor.invs k ≡ Some x → is_concrete u (donor_inv g x) ≡ is_concrete g.donor x
  concrete_donor k x at =
      let r = (all_at (IsInvInRange g.donor) g.donor.invs k x c.donor.invs at).task in
      ap concrete_task (get_back g.host.tasks (map (donor_task g) g.donor.tasks) x.task ∙ get_mapped (donor_task g) g.donor.tasks x.task r.0 r.1) ∙ sym (ap concrete_task r.1)

  -- an invocation of the patched program: one of the host's, or one of a module that is taken over of the donor
  pub data Origin (l : ℕ) (y : Inv) : Type 0 where
    hosts : (k : ℕ) (x : Inv) → l ≡ place_among k n.invs → slice_get g.host.invs k ≡ Some x → y ≡ new_inv n x → is_concrete (patched g) y ≡ is_concrete g.host x → Origin l y
    donors : (k : ℕ) (x : Inv) → slice_get g.donor.invs k ≡ Some x → is_transferred g (mode_module g.donor x.mode) ≡ true → y ≡ new_inv n (donor_inv g x)
        → is_concrete (patched g) y ≡ is_concrete g.donor x → Origin l y

  pub origin : (l : ℕ) (y : Inv) → slice_get (patched g).invs l ≡ Some y → Origin l y
  origin l y e =
      let r = from_map (λ (k : ℕ). new_inv n (inv_at u k)) n.invs l y e in
      let k : ℕ = r.0 in
      let h : Has n.invs k = (l, r.1) in
      let q = of_flat (invs_of u) n.modes k h in
      let i = inv_there u q.0 k q.2 in
      let is : y ≡ new_inv n i.0 = sym r.2 ∙ ap (new_inv n) (get_or_from_slice_get u.invs k i.0 _ i.1) in
      let test : is_concrete (patched g) y ≡ is_concrete u i.0 = ap (is_concrete (patched g)) is ∙ concrete_taken k i.0 h i.1 in
      elim (sided (donor_inv g) g.host.invs g.donor.invs k i.0 i.1) [
        | inl at ↦ hosts k i.0 (sym (place_at n.invs l k (invs_apart u (order g) apart) r.1)) at is (test ∙ concrete_host k i.0 at)
        | inr b ↦ (let own : Has (order g) (mode_module u i.0.mode) = owner_taken k i.0 h i.1 in
            let low = (all_at (IsInvInRange g.donor) g.donor.invs b.0 b.1 c.donor.invs b.3).owner in
            let unit : mode_module u i.0.mode ≡ length g.host.modules + mode_module g.donor b.1.mode = ap (λ (z : Inv). mode_module u z.mode) (sym b.4) ∙ guest_owner g c j.comms b.1.mode low in
            donors b.0 b.1 b.3 (transferred_true g c j (mode_module g.donor b.1.mode) (subst (Has (order g)) unit own)) (is ∙ ap (new_inv n) (sym b.4))
            (test ∙ ap (is_concrete u) (sym b.4) ∙ concrete_donor b.0 b.1 b.3))
      ]
