use Rattle.std.proofs.Common.{◌≡◌, ◌<◌, ℕ, List, length, get_or, ap, subst, sym, ◌∙◌, IfOk, arith}
use Rattle.htl_patch.proofs.{Words.flat_map, Words.IsNonDecreasing, Words.owned_by, Words.invs_of, Words.Replacement, Words.replacement, Words.combined, NumberLaws.owned_invs}
use Rattle.htl_patch.proofs.BothOwners.{invs_low, invs_owned, both_owners, both_rise, both_few}
use Rattle.htl_patch.proofs.numbers.invs_in.Goals as goal

pub owners_of-requires : goal.owners_of-requires
owners_of-requires c = record {
  before = let size = ap length c.modes.ensures.value in let few = c.modes.ensures.ranges.few_modes in omega (arith, size, few);
  host = invs_low c.g.inside.host.now c.invs.ensures.ranges c.invs.result.now c.invs.ensures.value;
  donor = invs_low c.g.inside.donor.now c.invs-2.ensures.ranges c.invs-2.result.now c.invs-2.ensures.value;
}

pub owned-requires : goal.owned-requires
owned-requires c =
    let g = replacement c.g.inside.host.now c.g.inside.donor.now c.g.inside.patched_mode c.g.inside.replacing_mode in
    let are = invs_owned g c.invs.ensures.ranges c.invs-2.ensures.ranges in
    let owners = c.as_slice.ensures.value ∙ c.in_ok-owners.ensures ∙ both_owners are (length c.modes.result.now) c.invs.result.now c.invs-2.result.now c.invs.ensures.value c.invs-2.ensures.value (ap length c.modes.ensures.value) in
    record {
      few = omega (arith, ap length owners, both_few are);
      rising = subst IsNonDecreasing (sym owners) (both_rise are);
      count = omega arith;
      keys = λ k d less. subst (λ (n : ℕ). get_or c.args.keys.now k d < n) (sym c.mode_count-count.ensures.count) (c.requires k d less);
    }

pub returns : goal.returns
returns c =
    let g = replacement c.g.inside.host.now c.g.inside.donor.now c.g.inside.patched_mode c.g.inside.replacing_mode in
    let are = invs_owned g c.invs.ensures.ranges c.invs-2.ensures.ranges in
    let owners = c.as_slice.ensures.value ∙ c.in_ok-owners.ensures ∙ both_owners are (length c.modes.result.now) c.invs.result.now c.invs-2.result.now c.invs.ensures.value c.invs-2.ensures.value (ap length c.modes.ensures.value) in
    subst (λ (xs : List ℕ). IfOk c.owned.result (λ v. v.items ≡ xs)) (ap (λ (os : List ℕ). flat_map (owned_by os) c.args.keys.now) owners ∙ owned_invs (combined g) c.args.keys.now ∙ ap (λ (z : Replacement). flat_map (invs_of (combined z)) c.args.keys.now) c.g.view_is) c.owned.ensures
