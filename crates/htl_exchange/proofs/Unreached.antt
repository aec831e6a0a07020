-- What neither refinement reaches is a cone of influence.
use Rattle.std.proofs.Common.{◌≡◌, ◌<◌, ℕ, true, length, slice_get, Some, sym, ◌∙◌, ap, arith}
use Rattle.htl_exchange.proofs.{Words.End, Words.Inv, Words.Module, Words.Port, Cones.ComesFrom, Cones.Cone, Cones.IsInvOf, Cones.IsModuleOf, Cones.IsUntouched}
use Rattle.htl_model.specs.declared.parts.End.TheVariants as E
use Rattle.htl_model.proofs.{Words.AreInRange, Words.IsEndInRange, Words.IsInvInRange, Words.IsModeInRange, Words.KeptApart, Words.Tables, Words.is_concrete, Words.mode_module, Stays.module_is}
use Rattle.htl_base.proofs.{Places.each_at, Places.item_at, Words.same_Some}
use Rattle.htl_patch.proofs.{Words.Replacement, Counting.all_from}
use Rattle.htl_refine.proofs.Standing.{parent_lower}
use Rattle.htl_runs.proofs.values.JobOutputs.{writer_concrete}
use Rattle.htl_exchange.specs.Reached.{IsUnreached, module_mode, inv_output, comm_value, follows, reads, refines, replaces, runs, switches, takes, writes}

abbrev pub unreached : Replacement → Cone
unreached g =
    record {
      modules = λ x. (x < length g.host.modules) × IsUnreached g (module_mode x);
      comms = λ c. IsUnreached g (comm_value c);
      invs = λ k. (x : Inv) × (slice_get g.host.invs k ≡ Some x) × (is_concrete g.host x ≡ true) × IsUnreached g (inv_output k);
    }

module _ (g : Replacement) (range : AreInRange g.host) (kept : KeptApart g.host 12) where
  abbrev t : Tables
  t = g.host

  owner_low : (m : ℕ) → m < length t.modes → mode_module t m < length t.modules
  owner_low m less =
      let r = item_at t.modes m less in
      omega (arith, (each_at (IsModeInRange t) t.modes range.modes m r.0 r.1).owner, module_is t m r.0 r.1)

  inv_in_range : (k : ℕ) (x : Inv) → slice_get t.invs k ≡ Some x → IsInvInRange t x
  inv_in_range k x at = each_at (IsInvInRange t) t.invs range.invs k x at

  -- who writes a port that an invocation reads is of its mode
  one_mode : (k l p j place : ℕ) (x y : Inv) → slice_get t.invs k ≡ Some x → slice_get x.reads j ≡ Some (E.Port p) → slice_get t.invs l ≡ Some y → slice_get y.writes place ≡ Some (E.Port p) → y.mode ≡ x.mode
  one_mode k l p j place x y at read there written =
      let a : IsEndInRange t x.mode (E.Port p) = each_at (IsEndInRange t x.mode) x.reads (inv_in_range k x at).reads j (E.Port p) read in
      let b : IsEndInRange t y.mode (E.Port p) = each_at (IsEndInRange t y.mode) y.writes (inv_in_range l y there).writes place (E.Port p) written in
      sym b.2 ∙ ap (λ (q : Port). q.mode) (same_Some b.0 a.0 (sym b.1 ∙ a.1)) ∙ a.2

  module_of : (x : ℕ) → (unreached g).modules x → (m : Module) × (slice_get t.modules x ≡ Some m) × IsModuleOf g (unreached g) m
  module_of x inside =
      let m = item_at t.modules x inside.0 in (
        m.0,
        m.1,
        record {
          kept = λ up. inside.1 (refines x m.0 m.1 up);
          above = λ p up. (let low = parent_lower t range x p m.0 m.1 up in let less = inside.0 in (omega (arith, low, less), λ r. inside.1 (follows x p m.0 m.1 up r)));
        },
      )

  comes_from : (k : ℕ) (x : Inv) → slice_get t.invs k ≡ Some x → is_concrete t x ≡ true → IsUnreached g (inv_output k) → (j : ℕ) (e : End) → slice_get x.reads j ≡ Some e → ComesFrom t (unreached g) e
  comes_from k x at concrete free j (E.Comm c n) e = λ r. free (reads k j c n x at e r)
  comes_from k x at concrete free j (E.Port p) e = λ l place w. (
    w.0,
    w.1,
    writer_concrete t range kept k x j p l place at concrete e (record { inv = w.0; known = w.1; mode = one_mode k l p j place x w.0 at e w.1 w.2; end = w.2 }),
    λ r. free (takes k j p l place x at e w r),
  )

  inv_of : (k : ℕ) → (unreached g).invs k → (x : Inv) × (slice_get t.invs k ≡ Some x) × IsInvOf t (unreached g) x
  inv_of k (x, at, concrete, free) = (
    x,
    at,
    record {
      concrete = concrete;
      owner = (owner_low x.mode (inv_in_range k x at).owner, λ r. free (runs k x at r));
      reads = all_from (ComesFrom t (unreached g)) x.reads (λ e h. comes_from k x at concrete free h.0 e h.1);
    },
  )

  pub untouched : IsUntouched g (unreached g)
  untouched =
      record {
        modules = module_of;
        invs = inv_of;
        switches = λ k w at inside. all_from (unreached g).comms w.reads (λ c h r. inside.1 (switches k h.0 c w at h.1 r));
        writers = λ k x at concrete w. (x, at, concrete, λ r. w.4 (writes k w.0 w.1 w.2 x at concrete w.3 r));
        donor = λ k x at concrete taken w. w.4 (replaces k w.0 w.1 w.2 x at concrete taken w.3);
      }
