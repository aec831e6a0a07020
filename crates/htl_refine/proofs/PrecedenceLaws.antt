-- What precedes what by the ports: the test and the words.
use Rattle.std.proofs.Common.{arith, ◌≡◌, ℕ, Bool, true, false, length, Some, refl, sym, ◌∙◌, ap}
use Rattle.htl_refine.proofs.Words.{slice_get, Decides, Inv, Tables, Leads, direct, through, feeds, leads_from, leads_within, feeds_within, same_mode}
use Rattle.htl_refine.specs.Refining.{inv_precedes}

-- two invocations of one mode
pub record AreMates (t : Tables) (a b : ℕ) : Type 0 where
  pub first : Inv
  pub second : Inv
  pub at_first : slice_get t.invs a ≡ Some first
  pub at_second : slice_get t.invs b ≡ Some second
  pub mode : first.mode ≡ second.mode

-- what leads to an invocation is of its mode
pub leads_mates : (t : Tables) (a b : ℕ) → Leads (feeds t) a b → AreMates t a b
leads_mates t a b (direct _ _ h) =
    let s = same_mode t a b h in record { first = s.0; second = s.1; at_first = s.2; at_second = s.3; mode = s.4 }
leads_mates t a b (through _ c _ p q) =
    let m = leads_mates t a c p in
    let n = leads_mates t c b q in
    let item : Some m.second ≡ Some n.first = sym m.at_second ∙ n.at_first in
    let is : m.second ≡ n.first = cc in
    record { first = m.first; second = n.second; at_first = m.at_first; at_second = n.at_second; mode = m.mode ∙ ap (λ (i : Inv). i.mode) is ∙ n.mode }

pub precedes_is : (t : Tables) (a b : ℕ) → Decides (inv_precedes t a b) (Leads (feeds t) a b)
unfolding inv_precedes
precedes_is t a b = (leads_from (feeds t) (length t.invs) a b, leads_within (feeds t) (length t.invs) (feeds_within t) a b)

-- invocations that aren't of one mode don't precede each other
pub strangers : (t : Tables) (a b : ℕ) → (AreMates t a b → ⊥) → inv_precedes t a b ≡ false
strangers t a b apart = grind (arith, leads_mates, precedes_is)
