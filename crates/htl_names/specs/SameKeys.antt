-- The test of keys is true exactly where they are the same.
use Rattle.std.specs.Prelude.{◌≡◌, ◌+◌, ◌*◌, ◌%◌, ◌^◌, ℕ, List, [], ◌∷◌, ◌++◌, IsTrue}
use Rattle.std.specs.Bool.{Decides}
use Rattle.std.specs.Hash as fed
use Rattle.std.proofs.{Common.arith, Common.ap, lemmas.Bool.Decides.Decides-and, lemmas.Bool.Decides.Decides-eqb, lemmas.Slice.Eq.bytes_eq-Decides}
use Rattle.htl_names.specs.{Trees.Key, Trees.Scope, Trees.Space, Keys.space_code, Keys.same_key}

same_space : (a b : Space) → space_code a ≡ space_code b → a ≡ b
same_space a b e = grind arith

made : (a b : Key) → a.scope.space ≡ b.scope.space → a.scope.program ≡ b.scope.program → a.scope.«module» ≡ b.scope.«module» → a.scope.item ≡ b.scope.item → a.name ≡ b.name → a ≡ b
made a b s p u i n = grind arith

pub same_key_decides : (a b : Key) → Decides (same_key a b) (a ≡ b)
same_key_decides a b = (
  λ h. let p = tests.0 h in made a b (same_space a.scope.space b.scope.space p.0.0.0.0) p.0.0.0.1 p.0.0.1 p.0.1 p.1,
  λ e. tests.1 ((((cc, cc), cc), cc), cc),
)
  where
    tests : Decides (same_key a b) (((((space_code a.scope.space ≡ space_code b.scope.space) × (a.scope.program ≡ b.scope.program)) × (a.scope.«module» ≡ b.scope.«module»)) × (a.scope.item ≡ b.scope.item)) × (a.name ≡ b.name))
    tests =
        Decides-and _ _ (Decides-and _ _ (Decides-and _ _ (Decides-and _ _ (Decides-eqb (space_code a.scope.space) (space_code b.scope.space)) (Decides-eqb a.scope.program b.scope.program))
        (Decides-eqb a.scope.«module» b.scope.«module»)) (Decides-eqb a.scope.item b.scope.item)) (bytes_eq-Decides a.name b.name)

-- the list of a key as one number
abbrev pub mixed : ℕ → ℕ → ℕ
mixed a b = ((a * 1048583) % 2 ^ 64 + b) % 2 ^ 64

abbrev pub owner_of : Scope → ℕ
owner_of s = mixed (mixed (mixed (space_code s.space) s.program) s.«module») s.item

-- what the hash of a key is made from: that number, and the name
abbrev pub key_writes : Key → List (List ℕ)
key_writes k = fed.usize (owner_of k.scope) ++ k.name ∷ []

pub hashed_alike : (a b : Key) → IsTrue (same_key a b) → key_writes a ≡ key_writes b
hashed_alike a b h = ap key_writes ((same_key_decides a b).0 h)
