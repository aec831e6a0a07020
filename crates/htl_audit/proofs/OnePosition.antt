-- Nobody has two positions in a round.
use Rattle.std.proofs.Common.{◌≡◌, ◌<◌, ℕ, ◌+◌, true, List, slice_get, Option, Some, sym, ap, ◌∙◌, subst}
use Rattle.htl_audit.proofs.Words.{Inv, Stay, stay_of, Tables, mode_module, Job, AreJobsSoFar, IsJob, same_Some}

pub one_position : (t : Tables) (stays : List (Option Stay)) (frame n : ℕ) (jobs : List Job) → AreJobsSoFar t stays frame n jobs → (p q : ℕ) (j k : Job) → slice_get jobs p ≡ Some j → slice_get jobs q ≡ Some k
    → j.present ≡ true → k.present ≡ true → j.inv ≡ k.inv → n < frame + j.end → n < frame + k.end → p ≡ q
one_position t stays frame n jobs jobs_so_far p q j k at bt here there same late later =
    let a = jobs_so_far.stands p j at here late in
    let b = jobs_so_far.stands q k bt there later in
    let inv : b.0 ≡ a.0 = same_Some _ _ (sym b.2.known ∙ ap (slice_get t.invs) (sym same) ∙ a.2.known) in
    let other : IsJob t jobs frame q j.inv a.0 b.1 = subst (λ (z : Inv). IsJob t jobs frame q j.inv z b.1) inv (subst (λ z. IsJob t jobs frame q z b.0 b.1) (sym same) b.3) in
    let from : b.1 ≡ a.1 = ap (λ (z : Stay). z.start) (same_Some _ _ (sym b.2.in_round ∙ ap (λ (z : Inv). stay_of stays (mode_module t z.mode)) inv ∙ a.2.in_round)) in
    jobs_so_far.once p q j.inv a.1 a.0 a.3 (subst (λ z. IsJob t jobs frame q j.inv a.0 z) from other)
