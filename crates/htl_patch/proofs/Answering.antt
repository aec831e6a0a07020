-- The answers of patching.
use Rattle.std.proofs.Common.{◌≡◌, ℕ, List, Option, Some, None, Result, Ok, Err, IfOk, IfErr, MatchResult, All, refl, sym, ◌∙◌, ap, subst}
use Rattle.htl_patch.proofs.Words.{AskTheSame, KeepsLimits, Tables, IsAccepted, IsInRange, IsFunctionCode, Object, IsPatched, IsHandedBackBy, IsPatchStop, IsPatchedAs, PatchIsRefusedFor, mode_named, replacement_by, replacement_of, Joins, patched_object, CanPatch, patched, IsReplacementFault, IsFaultBy, IsPatchFault, IsHandedBack, IsEarlyFault, IsTablesFault, IsTablesStop, IsAcceptedWith, Replacement, replacement, PatchFault, PatchStop}
use Rattle.htl_patch.specs.declared.fault.PatchFault.TheVariants as fault
use Rattle.htl_patch.specs.declared.fault.PatchStop.TheVariants as stop
use Rattle.htl_patch.proofs.{Accepting.replacement_is, Accepting.tables_keep_limits, Accepting.tables_are_code, Accepting.ask_the_same, OneStop.one_patch_fault, Stopping.patch_not_refused}

-- ---- the two modes

pub replacement_named : (o d : Object) (unit mode : List ℕ) (m k : ℕ) → Some m ≡ mode_named o.tables unit mode → Some k ≡ mode_named d.tables unit mode
    → replacement_of o.tables d.tables unit mode ≡ Some (replacement o.tables d.tables m k)
replacement_named o d unit mode m k p q =
    ap (λ (x : Option ℕ). replacement_by o.tables d.tables x (mode_named d.tables unit mode)) (sym p) ∙ ap (replacement_by o.tables d.tables (Some m)) (sym q)

-- ---- faults

both : (g : Replacement) (f : PatchFault) → IsEarlyFault g f → IsReplacementFault g f × IsHandedBack (patched g) f None
both g (fault.IllFormed f) h = absurd h
both g (fault.Function k) h = absurd h
both g fault.Mode h = absurd h
both g (fault.Malformed m) h = absurd h
both g _ h = (h, refl)

module _ (o d : Object) (unit mode : List ℕ) (g : Replacement) (is : replacement_of o.tables d.tables unit mode ≡ Some g) where
  stopped : (f : PatchFault) (t : Option Tables) → IsReplacementFault g f → IsHandedBack (patched g) f t → IsPatchStop o d unit mode (stop.Refused f t)
  stopped f t h b = (subst (λ (x : Option Replacement). IsFaultBy x f) (sym is) h, subst (λ (x : Option Replacement). IsHandedBackBy x f t) (sym is) b)

  pub early_stop : (f : PatchFault) → IsEarlyFault g f → IsPatchStop o d unit mode (stop.Refused f None)
  early_stop f h = let r = both g f h in stopped f None r.0 r.1

  late : (j : Joins g) (f : PatchFault) (t : Option Tables) → IsTablesFault (patched g) f t → IsReplacementFault g f × IsHandedBack (patched g) f t
  late j (fault.IllFormed f) t h = ((j, h.0), h.1)
  late j (fault.Function k) t h = ((j, h.0, h.1), h.2)
  late j _ t h = absurd h

  by_stop : (j : Joins g) (s : PatchStop) → IsTablesStop (patched g) s → IsPatchStop o d unit mode s
  by_stop j (stop.Refused f t) h = let r = late j f t h in stopped f t r.0 r.1
  by_stop j stop.Memory h = tt

  -- what accepting the new tables answers
  pub late_stop : (t : Tables) → t ≡ patched g → Joins g → (r : Result Object PatchStop) → IfErr r (IsTablesStop t) → IfErr r (IsPatchStop o d unit mode)
  late_stop t same j (Ok l) h = h
  late_stop t same j (Err s) h = by_stop j s (subst (λ (u : Tables). IsTablesStop u s) same h)

  pub patched_by : (t : Tables) → t ≡ patched g → Joins g → (r : Result Object PatchStop) → IfOk r (IsAcceptedWith o t) → IfOk r (IsPatched o d unit mode)
  patched_by t same j (Err s) h = h
  patched_by t same j (Ok l) h =
      let w : IsAcceptedWith o (patched g) l = subst (λ (u : Tables). IsAcceptedWith o u l) same h in (g, record { modes = is; joins = j; formed = w.1; functions = w.2 }, w.0)

  -- what accepting them asks for
  pub given : (t : Tables) → t ≡ patched g → Joins g → IsAccepted o → IsInRange d → KeepsLimits t × All IsFunctionCode t.functions × AskTheSame t o.tables
  given t same j accepted range =
      let replacement_of_both = replacement_is o.tables d.tables unit mode g is in (
        subst KeepsLimits (sym same) (tables_keep_limits o d accepted range g replacement_of_both j),
        subst (λ (u : Tables). All IsFunctionCode u.functions) (sym same) (tables_are_code o d accepted range g replacement_of_both j),
        subst (λ (u : Tables). AskTheSame u o.tables) (sym same) (ask_the_same o d accepted range g replacement_of_both j),
      )

-- ---- what taking over gave

pub made_ok : (g : Replacement) (r : Result Tables PatchFault) (t : Tables) → r ≡ Ok t → MatchResult r (λ (u : Tables). (u ≡ patched g) × Joins g) (IsEarlyFault g) → (t ≡ patched g) × Joins g
made_ok g r t e h = subst (λ (x : Result Tables PatchFault). MatchResult x (λ (u : Tables). (u ≡ patched g) × Joins g) (IsEarlyFault g)) e h

pub made_err : (g : Replacement) (r : Result Tables PatchFault) (f : PatchFault) → r ≡ Err f → MatchResult r (λ (u : Tables). (u ≡ patched g) × Joins g) (IsEarlyFault g) → IsEarlyFault g f
made_err g r f e h = subst (λ (x : Result Tables PatchFault). MatchResult x (λ (u : Tables). (u ≡ patched g) × Joins g) (IsEarlyFault g)) e h

-- ---- nothing else is answered

same_replacement : (a b : Replacement) → Some a ≡ Some b → a ≡ b
same_replacement a b e = cc

module _ (o d : Object) (unit mode : List ℕ) (accepted : IsAccepted o) (range : IsInRange d) where
  pub only : (r : Result Object PatchStop) → IfOk r (IsPatched o d unit mode) → IfErr r (IsPatchStop o d unit mode) → (g : Replacement) → CanPatch o d unit mode g → IsPatchedAs (patched_object o g) r
  only (Ok l) p s g can = p.2 ∙ ap (patched_object o) (same_replacement p.0 g (sym p.1.modes ∙ can.modes))
  only (Err (stop.Refused f t)) p s g can = patch_not_refused o d unit mode g f can s.0
  only (Err stop.Memory) p s g can = tt

  pub refused : (r : Result Object PatchStop) → IfOk r (IsPatched o d unit mode) → IfErr r (IsPatchStop o d unit mode) → (f : PatchFault) → IsPatchFault o d unit mode f → PatchIsRefusedFor f r
  refused (Ok l) p s f h = patch_not_refused o d unit mode p.0 f p.1 h
  refused (Err (stop.Refused h t)) p s f e = one_patch_fault o d unit mode accepted range f h e s.0
  refused (Err stop.Memory) p s f e = tt
