-- Along ports ranks rise, so that as many steps as there are invocations tell what an invocation puts out.
use Rattle.std.proofs.Common.{◌≡◌, ℕ, zero, suc, ◌+◌, ◌<◌, Bool, true, false, length, slice_get, Some, ℤ, refl, sym, ap, ◌∙◌, arith}
use Rattle.htl_model.proofs.Words.{slice_get_within, count_below, Tables, AreInRange, KeptApart, PortCycles, Precedes, direct, through, feeds, is_concrete, out}
use Rattle.htl_exchange.proofs.Words.{Inv, writer_from}
use Rattle.htl_model.proofs.{NumbersBelow.count_strict, PortChains.no_cycle, PortChains.precedes, PortChains.precedes_says, PortChains.precedes_finds}
use Rattle.htl_runs.specs.values.Values.{Orders}
use Rattle.htl_runs.proofs.{values.JobOutputs.writer_is, values.JobOutputs.below_less, values.JobOutputs.out_stable, values.PortWriters.fed}

module _ (t : Tables) (range : AreInRange t) (kept : KeptApart t 12) where
  -- how many invocations precede one
  abbrev rank : ℕ → ℕ
  rank i = count_below (λ j. precedes t j i) (length t.invs)

  fed_rises : (w i : ℕ) (y : Inv) → slice_get t.invs w ≡ Some y → feeds t w i ≡ true → rank w < rank i
  fed_rises w i y at feeding =
      let before : Precedes t w i = direct w i feeding in
      count_strict (λ j. precedes t j w) (λ j. precedes t j i) (length t.invs) w (λ j h. precedes_finds t j i (through j w i (precedes_says t j w h) before))
      (slice_get_within t.invs w y at) (not_itself (precedes t w w) refl) (precedes_finds t w i before)
    where
      not_itself : (b : Bool) → precedes t w w ≡ b → b ≡ false
      not_itself false e = refl
      not_itself true e =
          absurd (no_cycle t w y range (λ s have need. kept PortCycles s have need (omega arith) (λ e. omega (arith, e))) at (precedes_says t w w e))

  ranks_rise : (m : ℕ) → Orders t m rank
  ranks_rise m i x k p w o at con mode reads writer =
      let d = writer_is t x.mode p w o (ap (λ (q : ℕ). writer_from q p 0 t.invs) mode ∙ writer) in
      fed_rises w i d.inv d.known (fed t i w k p o x at reads d)

  -- as many steps as there are invocations are enough
  pub out_enough : (seen : ℕ → ℕ → ℤ) (i s k : ℕ) (x : Inv) → slice_get t.invs i ≡ Some x → is_concrete t x ≡ true → (n more : ℕ) → n ≡ more + length t.invs → out n t seen i s k ≡ out (length t.invs) t seen i s k
  out_enough seen i s k x at con n zero e = let same : n ≡ length t.invs = omega (arith, e) in ap (λ (z : ℕ). out z t seen i s k) same
  out_enough seen i s k x at con n (suc more) e =
      ap (λ (z : ℕ). out z t seen i s k) {y = suc (more + length t.invs)} (omega (arith, e))
      ∙ sym (out_stable t range kept seen x.mode s rank (ranks_rise x.mode) (more + length t.invs) i k x at con refl
      (let h = below_less rank i (length t.invs) (slice_get_within t.invs i x at) in omega (arith, h)))
      ∙ out_enough seen i s k x at con (more + length t.invs) more refl
