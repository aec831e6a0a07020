-- A file that is given is the one that was had.
use Rattle.std.proofs.Common.{arith, ◌≡◌, ◌≤◌, ◌<◌, ℕ, List, length, Option, Some, ap, ◌∙◌, subst}
use Rattle.std.specs.FinMap.{get}
use Rattle.htl_base.specs.declared.limits.TheConstants.{MAX_OBJECT}
use Rattle.htl_edge.specs.Holdings.{Holdings, HoldsUnder}
use Rattle.htl_open.specs.Files.{Files, IsFaultOf, IsLongFile, IsGiven, IsObjectFile}

module _ (name : Option (List ℕ)) (shelf : Files) (bytes : List ℕ) (given : IsGiven name shelf.holds shelf.before shelf.after bytes) where
  pub same_bytes : (others : List ℕ) → IsObjectFile name shelf.holds others → others ≡ bytes
  same_bytes others file =
      let same : file.word ≡ given.word = let p = file.named in let q = given.named in cc in
      let told : get given.held file.word ≡ Some others = subst (λ (holds : Option Holdings). HoldsUnder holds file.word others) given.told file.held in
      let held = given.file in
      cc

  pub short_bytes : (others : List ℕ) → IsObjectFile name shelf.holds others → length bytes ≤ 16777216
  short_bytes others file = subst (λ (bs : List ℕ). length bs ≤ 16777216) (same_bytes others file) file.short

  pub seen_long : (seen : ℕ) → IsLongFile MAX_OBJECT name shelf.holds seen → (16777216 < length bytes) × (seen ≡ length bytes)
  seen_long seen is =
      let long : IsLongFile MAX_OBJECT (Some given.word) (Some given.held) seen =
      subst (λ (o : Option (List ℕ)). IsLongFile MAX_OBJECT o (Some given.held) seen) given.named (subst (λ (holds : Option Holdings). IsLongFile MAX_OBJECT name holds seen) given.told is) in
      let same : long.1.0 ≡ bytes = let p = long.1.1 in let q = given.file in cc in
      let length_seen : seen ≡ length bytes = long.1.2 ∙ ap length same in
      (omega (arith, long.0, length_seen), length_seen)

  pub no_fault : IsFaultOf name shelf.before shelf.after → ⊥
  no_fault is = given.no_fault (subst (λ (o : Option (List ℕ)). IsFaultOf o shelf.before shelf.after) given.named is)
