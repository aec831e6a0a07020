-- The patched program has the cone of the host under new numbers.
use Rattle.std.proofs.Common.{◌≡◌, ℕ, true, map, slice_get, Some, refl, sym, ◌∙◌, ap}
use Rattle.htl_exchange.proofs.{Words.Inv, Cones.Cone, Cones.IsUntouched, Matches.IsWrittenBy, Matches.Matches, Matches.SameInv, KeptOutputs.out_same, KeptTargets.target_same}
use Rattle.htl_model.specs.declared.parts.End.TheVariants as E
use Rattle.htl_model.proofs.Words.{KeptApart, is_concrete}
use Rattle.htl_base.proofs.Places.{get_mapped}
use Rattle.htl_patch.proofs.Words.{AreInRange, Tables, Joins, Replacement, donor_end, new_numbers, order, patched, place_among, get_front, donor_inv, Numbering, new_end, new_inv}
use Rattle.htl_patch.proofs.Replacing.{CanReplace}
use Rattle.htl_exchange.proofs.KeptItems.{inv_has, inv_mode_in, mode_name_same, module_name_same, new_inv_there, owner_same, period_same, same_module, test_same}
use Rattle.htl_exchange.proofs.TakenInvs.{Origin, hosts, donors, concrete_host, concrete_taken, donors_end, old_end, origin}

module _ (g : Replacement) (c : CanReplace g) (j : Joins g) (range : AreInRange (patched g)) (kept : KeptApart g.host 12) (s : Cone) (a : IsUntouched g s) where
  abbrev t : Tables
  t = g.host

  abbrev n : Numbering
  n = new_numbers g

  same_inv : (k : ℕ) → s.invs k → SameInv t (patched g) s (λ m. place_among m n.modes) (λ i. place_among i n.invs) k
  same_inv k inside =
      let r = a.invs k inside in
      let is = inv_mode_in g c s a k r.0 r.1 r.2.owner in
      record {
        inv = r.0;
        there = r.1;
        concrete = r.2.concrete;
        owner = is;
        other = new_inv n r.0;
        elsewhere = new_inv_there g c s a k r.0 r.1 is;
        also = concrete_taken g c j k r.0 (inv_has g c s a k r.0 r.1 is) (get_front t.invs (map (donor_inv g) g.donor.invs) k r.0 r.1) ∙ concrete_host g c j k r.0 r.1 ∙ r.2.concrete;
        mode_is = refl;
        writes = λ i d m e. get_mapped (new_end n) r.0.writes i (E.Comm d m) e;
      }

  -- who writes a communicator of the cone in the patched program is of the cone
  written_by : (l i d m : ℕ) (y : Inv) → slice_get (patched g).invs l ≡ Some y → is_concrete (patched g) y ≡ true → slice_get y.writes i ≡ Some (E.Comm d m) → s.comms d
      → IsWrittenBy t s (λ k. place_among k n.invs) l i d m
  written_by l i d m y at concrete end inside = by (origin g c j l y at)
    where
      by : Origin g c j l y → IsWrittenBy t s (λ k. place_among k n.invs) l i d m
      by (hosts k x place there is same) =
          let e = old_end n x.writes i d m (ap (λ (z : Inv). slice_get z.writes i) (sym is) ∙ end) in
          record {
            number = k;
            inside = a.writers k x there (sym same ∙ concrete) (i, d, m, e, inside);
            is = place;
            inv = x;
            there = there;
            end = e;
          }
      by (donors k x there taken is same) =
          let e = donors_end g x.writes i d m (old_end n (map (donor_end g) x.writes) i d m (ap (λ (z : Inv). slice_get z.writes i) (sym is) ∙ end)) in
          absurd (a.donor k x there (sym same ∙ concrete) taken (i, d, m, e, inside))

  pub patched_matches : Matches t (patched g) s (λ x. place_among x (order g)) (λ m. place_among m n.modes) (λ k. place_among k n.invs)
  patched_matches =
      record {
        comms = refl;
        modules = same_module g c s a;
        owners = owner_same g c s a;
        periods = period_same g c s a;
        module_names = module_name_same g c s a;
        mode_names = mode_name_same g c s a;
        tests = test_same g c s a;
        targets = target_same g c j range s a;
        invs = same_inv;
        outs = out_same g c j range kept s a;
        writers = λ k i d m x at concrete end inside. a.writers k x at concrete (i, d, m, end, inside);
        others = written_by;
      }
