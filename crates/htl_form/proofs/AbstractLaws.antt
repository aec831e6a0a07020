-- Which ports abstract invocations write: the test and the words.
use Rattle.std.proofs.Common.{◌≡◌, ◌≤◌, ◌<◌, ℕ, true, false, not, eqb, length, Some, ◌∙◌, ap, arith}
use Rattle.htl_form.proofs.Words.{list_any, both_true, false_from_ne_true, and_parts, not-true, nat_tests, slice_get_within, End, Tables, is_concrete, AreInRange, IsInvInRange, IsEndInRange, IsAbstractlyWritten, is_port, writes_abstractly, is_abstractly_written, all_at, some_place, any_passes_from_place}
use Rattle.htl_model.specs.declared.parts.End.TheVariants as E

pub goes : (p : ℕ) (e : End) → is_port p e ≡ true → e ≡ E.Port p
goes p (E.Comm c n) h = cc
goes p (E.Port q) h = let same : q ≡ p = grind (arith, nat_tests) in ap E.Port same

pub written : (t : Tables) (p : ℕ) → is_abstractly_written t p ≡ true → IsAbstractlyWritten t p
written t p h =
    let w = some_place (writes_abstractly t p) t.invs h in
    let parts = and_parts (not (is_concrete t w.1)) (list_any (is_port p) w.1.writes) w.3 in
    let o = some_place (is_port p) w.1.writes parts.1 in
    record { number = w.0; writer = w.1; at = w.2; abstract = not-true (is_concrete t w.1) parts.0; place = o.0; writes = o.2 ∙ ap (λ e. Some e) (goes p o.1 o.3) }

pub written_test : (t : Tables) (p : ℕ) → IsAbstractlyWritten t p → is_abstractly_written t p ≡ true
written_test t p w =
    let same : eqb p p ≡ true = grind (arith, nat_tests) in
    any_passes_from_place (writes_abstractly t p) t.invs w.number w.writer w.at
    (both_true (ap not w.abstract) (any_passes_from_place (is_port p) w.writer.writes w.place (E.Port p) w.writes same))

-- tables in range have at most 4,096 ports
pub beyond : (t : Tables) (p : ℕ) → AreInRange t → 4096 ≤ p → is_abstractly_written t p ≡ false
beyond t p r far =
    false_from_ne_true (is_abstractly_written t p) (λ h.
    let w = written t p h in
    let inv = all_at (IsInvInRange t) t.invs w.number w.writer r.invs w.at in
    let port = all_at (IsEndInRange t w.writer.mode) w.writer.writes w.place (E.Port p) inv.writes w.writes in
    let below : p < length t.ports = slice_get_within t.ports p port.0 port.1 in
    let few = r.few_ports in omega arith)
