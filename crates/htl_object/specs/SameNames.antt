-- The test of names is true exactly where they are the same.
use Rattle.std.specs.Prelude.{◌≡◌, ◌∷◌, ◌++◌, ℕ, Bool, true, false, ◌&&◌, eqb, List, [], IsTrue}
use Rattle.std.specs.Bool.{Decides}
use Rattle.std.specs.Hash as fed
use Rattle.htl_object.specs.{Common.bytes_eq, Common.bytes_eq-Decides, declared.names.OwnedName.OwnedName, Names.owned, Names.same_name}
use Rattle.std.proofs.Common.{refl, sym, ◌∙◌, ap, subst, eqb-true, eq-eqb}

-- both tests passed
both : (a b : Bool) → (a && b) ≡ true → (a ≡ true) × (b ≡ true)
both true b h = (refl, h)
both false true h = (h, refl)
both false false h = (h, h)

all : (a b : Bool) → a ≡ true → b ≡ true → (a && b) ≡ true
all a b p q = ap (λ x. x && b) p ∙ q

made : (a b : OwnedName) → b.owner ≡ a.owner → b.name ≡ a.name → a ≡ b
made a b o n = ap (λ x. owned x a.name) (sym o) ∙ ap (λ x. owned b.owner x) (sym n)

pub same_name_decides : (a b : OwnedName) → Decides (same_name a b) (a ≡ b)
same_name_decides a b = (
  λ h. (let p = both (eqb b.owner a.owner) (bytes_eq b.name a.name) h in made a b (eqb-true _ _ p.0) ((bytes_eq-Decides b.name a.name).0 p.1)),
  λ e. subst (λ (c : OwnedName). same_name a c ≡ true) e
      (all (eqb a.owner a.owner) (bytes_eq a.name a.name) (eq-eqb _ _ refl) ((bytes_eq-Decides a.name a.name).1 refl)),
)

-- what the hash of a name is made from: its owner, and its bytes as one piece
abbrev pub name_writes : OwnedName → List (List ℕ)
name_writes n = fed.u16 n.owner ++ n.name ∷ []

pub hashed_alike : (a b : OwnedName) → IsTrue (same_name a b) → name_writes a ≡ name_writes b
hashed_alike a b h = ap name_writes ((same_name_decides a b).0 h)
