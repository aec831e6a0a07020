-- Numbers in the order of their names, with a key of each.
use Rattle.std.specs.Prelude.{◌≡◌, ℕ, ◌≤◌, ◌<◌, List, ◌∷◌, length, get_or, Option, Some, IsSome, Ok, Err}
use Rattle.std.specs.{Option.option_map, declared.cmp.Ordering.Ordering, declared.cmp.Ordering.TheVariants.Less, declared.cmp.Ordering.TheVariants.Greater, Ordering.nat_cmp, Cmp.Lexicographic.slice_cmp, declared.result.Result.Result}
use Rattle.htl_model.specs.Tables.{Tables}
use Rattle.htl_script.specs.{Keys.Keyed, Keys.key_of, Naming.name_of, Naming.count_of, declared.index.Index.Index, declared.naming.Named.TheVariants.Sensor, declared.naming.Named.TheVariants.Invocation}

-- a name with its key in front: keys decide first, and names where keys are equal
abbrev pub keyed : List ℕ → List ℕ
keyed name = key_of name ∷ name

abbrev pub keyed_name : (ℕ → Option (List ℕ)) → ℕ → Option (List ℕ)
keyed_name name n = option_map keyed (name n)

-- each of the numbers has a name, and the names rise
pub record AreRising (name : ℕ → Option (List ℕ)) (numbers : List ℕ) : Type 0 where
  pub named : (i : ℕ) → i < length numbers → IsSome (name (get_or numbers i 0))
  pub rising : (i j : ℕ) (a b : List ℕ) → i < j → j < length numbers → name (get_or numbers i 0) ≡ Some a → name (get_or numbers j 0) ≡ Some b → slice_cmp nat_cmp a b ≡ Less

-- and each name below the count is that of one of them, the first number with this name
pub record AreOrdered (name : ℕ → Option (List ℕ)) (count : ℕ) (numbers : List ℕ) : Type 0 where
  pub rising : AreRising name numbers
  pub below : (i : ℕ) → i < length numbers → get_or numbers i 0 < count
  pub whole : (n : ℕ) (a : List ℕ) → n < count → name n ≡ Some a → (i : ℕ) × (i < length numbers) × (name (get_or numbers i 0) ≡ Some a) × (get_or numbers i 0 ≤ n)

-- how the name at a place compares with a text
abbrev pub compared : (ℕ → Option (List ℕ)) → List ℕ → List ℕ → ℕ → Option Ordering
compared name numbers text i = option_map (λ own. slice_cmp nat_cmp own text) (name (get_or numbers i 0))

-- the place of a text among the names, or where it would stand
abbrev pub IsPlace : (ℕ → Option (List ℕ)) → List ℕ → List ℕ → Result ℕ ℕ → Type 0
IsPlace name numbers text (Ok i) = (i < length numbers) × (name (get_or numbers i 0) ≡ Some text)
IsPlace name numbers text (Err i) =
    (i ≤ length numbers) × ((j : ℕ) → j < i → compared name numbers text j ≡ Some Less)
    × ((j : ℕ) → i ≤ j → j < length numbers → compared name numbers text j ≡ Some Greater)

-- beside each number stands the key of its name
pub record AreKeys (name : ℕ → Option (List ℕ)) (o : Keyed) : Type 0 where
  pub many : length o.keys ≡ length o.numbers
  pub each : (i : ℕ) → i < length o.numbers → option_map key_of (name (get_or o.numbers i 0)) ≡ Some (get_or o.keys i 0)

-- numbers by the keys of their names, and the keys
pub record IsOrder (name : ℕ → Option (List ℕ)) (count : ℕ) (o : Keyed) : Type 0 where
  pub ordered : AreOrdered (keyed_name name) count o.numbers
  pub keys : AreKeys name o

-- the numbers of all sensors and of all concrete invocations
pub record IsIndex (t : Tables) (x : Index) : Type 0 where
  pub sensors : IsOrder (name_of t Sensor) (count_of t Sensor) x.sensors
  pub invocations : IsOrder (name_of t Invocation) (count_of t Invocation) x.invocations
