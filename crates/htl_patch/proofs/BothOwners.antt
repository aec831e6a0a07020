-- The owners of the items of two programs side by side.
use Rattle.std.proofs.Common.{◌≡◌, ◌≤◌, ◌<◌, ℕ, ◌+◌, List, [], ◌∷◌, ◌++◌, length, length-append, map, All, refl, sym, ◌∙◌, ap, subst, arith}
use Rattle.htl_patch.proofs.Words.{length-map, IsNonDecreasing, AreInRange, Inv, Mode, Port, Switch, Task, Tables, Replacement, donor_mode, donor_port, donor_task, donor_inv, donor_switch, all_at, from_map}
use Rattle.htl_patch.proofs.{Members.map_append, Members.map_map, OwnerLaws.rise_both}

pub map_same : {A B : Type 0} (f g : A → B) (xs : List A) → ((x : A) → f x ≡ g x) → map f xs ≡ map g xs
map_same f g [] h = refl
map_same f g (x ∷ xs) h = ap (λ y. y ∷ map f xs) (h x) ∙ ap (λ ys. g x ∷ ys) (map_same f g xs h)

-- Items of two programs side by side, of which the first has h owners; the second's stand behind those.
pub record AreOwned {A : Type 0} (own : A → ℕ) (move : A → A) (h : ℕ) (xs ys : List A) : Type 0 where
  pub moved : (x : A) → own (move x) ≡ h + own x
  pub low : All (λ x. own x < h) xs
  pub first : IsNonDecreasing (map own xs)
  pub second : IsNonDecreasing (map own ys)
  pub few : length xs + length ys ≤ 16384

module _ {A : Type 0} {own : A → ℕ} {move : A → A} {h : ℕ} {xs ys : List A} (are : AreOwned own move h xs ys) where
  -- owners of both, by those of each
  owners_joined : map own (xs ++ map move ys) ≡ map own xs ++ map (λ x. h + own x) ys
  owners_joined = map_append own xs (map move ys) ∙ ap (λ zs. map own xs ++ zs)
      (map_map own move ys ∙ map_same (λ x. own (move x)) (λ x. h + own x) ys are.moved)

  -- the owners as they are read, where the numbers of the second program's stand behind those of the first
  pub both_owners : (by : ℕ) (front back : List A) → front ≡ xs → back ≡ ys → by ≡ h → map own front ++ map (λ x. by + own x) back ≡ map own (xs ++ map move ys)
  both_owners by front back a b e =
      ap (λ (zs : List A). map own zs ++ map (λ x. by + own x) back) a
      ∙ ap (λ (zs : List A). map own xs ++ map (λ x. by + own x) zs) b
      ∙ ap (λ (n : ℕ). map own xs ++ map (λ x. n + own x) ys) e
      ∙ sym owners_joined

  pub both_rise : IsNonDecreasing (map own (xs ++ map move ys))
  both_rise =
      subst IsNonDecreasing (ap (λ zs. map own xs ++ zs) (map_map (λ (y : ℕ). h + y) own ys) ∙ sym owners_joined)
      (rise_both h (map own xs) (map own ys) are.first are.second
      (λ x i. (let r = from_map own xs i.0 x i.1 in subst (λ (n : ℕ). n < h) r.2 (all_at (λ y. own y < h) xs i.0 r.0 are.low r.1))))

  pub both_few : length (map own (xs ++ map move ys)) ≤ 16384
  both_few = omega (arith, length-map (xs ++ map move ys) own, length-append xs (map move ys), length-map ys move, are.few)

-- owners are below what a program has of them
low : {A : Type 0} (own : A → ℕ) (h : ℕ) (xs front : List A) → front ≡ xs → h ≤ 512 → All (λ x. own x < h) xs → All (λ x. own x ≤ 512) front
low {A} own h xs front e most all =
    subst (λ (zs : List A). All (λ x. own x ≤ 512) zs) (sym e) (λ k d less. (let a = all k d less in omega (arith, a, most)))

module _ (t : Tables) (r : AreInRange t) where
  pub modes_low : (front : List Mode) → front ≡ t.modes → All (λ (x : Mode). x.«module» ≤ 512) front
  modes_low front e = let few = r.few_modules in low (λ (x : Mode). x.«module») (length t.modules) t.modes front e (omega (arith, few)) (λ k d less. (r.modes k d less).owner)

  pub ports_low : (front : List Port) → front ≡ t.ports → All (λ (x : Port). x.mode ≤ 512) front
  ports_low front e = let few = r.few_modes in low (λ (x : Port). x.mode) (length t.modes) t.ports front e (omega (arith, few)) r.ports

  pub tasks_low : (front : List Task) → front ≡ t.tasks → All (λ (x : Task). x.«module» ≤ 512) front
  tasks_low front e = let few = r.few_modules in low (λ (x : Task). x.«module») (length t.modules) t.tasks front e (omega (arith, few)) (λ k d less. (r.tasks k d less).owner)

  pub invs_low : (front : List Inv) → front ≡ t.invs → All (λ (x : Inv). x.mode ≤ 512) front
  invs_low front e = let few = r.few_modes in low (λ (x : Inv). x.mode) (length t.modes) t.invs front e (omega (arith, few)) (λ k d less. (r.invs k d less).owner)

  pub switches_low : (front : List Switch) → front ≡ t.switches → All (λ (x : Switch). x.mode ≤ 512) front
  switches_low front e = let few = r.few_modes in low (λ (x : Switch). x.mode) (length t.modes) t.switches front e (omega (arith, few)) (λ k d less. (r.switches k d less).owner)

module _ (g : Replacement) (host : AreInRange g.host) (donor : AreInRange g.donor) where
  pub modes_owned : AreOwned (λ (x : Mode). x.«module») (donor_mode g) (length g.host.modules) g.host.modes g.donor.modes
  modes_owned = record {
    moved = λ x. refl;
    low = λ k d less. (host.modes k d less).owner;
    first = host.modes_by_module;
    second = donor.modes_by_module;
    few = omega (arith, host.few_modes, donor.few_modes);
  }

  pub ports_owned : AreOwned (λ (x : Port). x.mode) (donor_port g) (length g.host.modes) g.host.ports g.donor.ports
  ports_owned = record {
    moved = λ x. refl;
    low = host.ports;
    first = host.ports_by_mode;
    second = donor.ports_by_mode;
    few = omega (arith, host.few_ports, donor.few_ports);
  }

  pub tasks_owned : AreOwned (λ (x : Task). x.«module») (donor_task g) (length g.host.modules) g.host.tasks g.donor.tasks
  tasks_owned = record {
    moved = λ x. refl;
    low = λ k d less. (host.tasks k d less).owner;
    first = host.tasks_by_module;
    second = donor.tasks_by_module;
    few = omega (arith, host.few_tasks, donor.few_tasks);
  }

  pub invs_owned : AreOwned (λ (x : Inv). x.mode) (donor_inv g) (length g.host.modes) g.host.invs g.donor.invs
  invs_owned = record {
    moved = λ x. refl;
    low = λ k d less. (host.invs k d less).owner;
    first = host.invs_by_mode;
    second = donor.invs_by_mode;
    few = omega (arith, host.few_invs, donor.few_invs);
  }

  pub switches_owned : AreOwned (λ (x : Switch). x.mode) (donor_switch g) (length g.host.modes) g.host.switches g.donor.switches
  switches_owned = record {
    moved = λ x. refl;
    low = λ k d less. (host.switches k d less).owner;
    first = host.switches_by_mode;
    second = donor.switches_by_mode;
    few = omega (arith, host.few_switches, donor.few_switches);
  }
