-- A table without a fault of shape has a name.
use Rattle.std.proofs.Common.{◌≡◌, ℕ, suc, length, Bool, true, false, cond, is_none, Ordering, Less, Equal, Greater, List, Option, Some, None, refl, sym, ap, ◌∙◌}
use Rattle.htl_platform.proofs.Words.{codes, slice_cmp, nat_cmp, is_eq, match_ordering, is_eq-slice_cmp, none-some, same_Some, bytes_eq-Decides, Data, Members, no_members, member, get_member, Entry, entries_of, worst_of, is_top_entry, is_whole_entry, is_platform_name, first_failing, or_then, missing_name, bad_shape, has_name}

passes_first : (b : Bool) (later : Option ℕ) (k : ℕ) → cond b later (Some k) ≡ None → (b ≡ true) × (later ≡ None)
passes_first true later k e = (refl, e)
passes_first false later k e = absurd (none-some k (sym e))

-- each entry of a table in which none fails passes the test
pub passes_at : (test : Entry → Bool) (k : ℕ) (key : List ℕ) (d : Data) (ms : Members) → first_failing test k (entries_of ms) ≡ None
    → get_member key ms ≡ Some d → test (key, d) ≡ true
passes_at test k key d no_members none at = absurd (none-some d at)
passes_at test k key d (member l x ms) none at =
    let (here, later) = passes_first (test (l, x)) (first_failing test (suc k) (entries_of ms)) k none in
    by (slice_cmp nat_cmp key l) refl here (passes_at test (suc k) key d ms later)
  where
    found : (o : Ordering) → slice_cmp nat_cmp key l ≡ o → match_ordering o (get_member key ms) (Some x) (get_member key ms) ≡ Some d
    found o e = ap (λ (p : Ordering). match_ordering p (get_member key ms) (Some x) (get_member key ms)) (sym e) ∙ at

    by : (o : Ordering) → slice_cmp nat_cmp key l ≡ o → test (l, x) ≡ true → (get_member key ms ≡ Some d → test (key, d) ≡ true) → test (key, d) ≡ true
    by Less e here later = later (found Less e)
    by Greater e here later = later (found Greater e)
    by Equal e here later =
        let same : key ≡ l = (bytes_eq-Decides key l).0 (sym (is_eq-slice_cmp key l) ∙ ap is_eq e) in
        ap (λ (other : List ℕ). test (other, d)) same ∙ ap (λ (y : Data). test (l, y)) (sym (same_Some x d (found Equal e))) ∙ here

none_of : {A : Type 0} (a b : Option A) → or_then a b ≡ None → (a ≡ None) × (b ≡ None)
none_of (Some x) b e = absurd (none-some x (sym e))
none_of None b e = (refl, e)

pub has_name-from_shape : (ms : Members) → bad_shape ms ≡ None → has_name ms ≡ true
has_name-from_shape ms none =
    let (top, rest) = none_of (first_failing is_top_entry 0 (entries_of ms)) (or_then (first_failing is_whole_entry (length (entries_of ms)) (entries_of (worst_of ms))) (missing_name ms)) none in
    let (whole, missing) = none_of (first_failing is_whole_entry (length (entries_of ms)) (entries_of (worst_of ms))) (missing_name ms) rest in
    by (get_member (codes "name") ms) refl top missing
  where
    by : (o : Option Data) → get_member (codes "name") ms ≡ o → first_failing is_top_entry 0 (entries_of ms) ≡ None → missing_name ms ≡ None → has_name ms ≡ true
    by (Some d) e top missing =
        ap (λ (o : Option Data). elim o [ Some x ↦ is_platform_name x | None ↦ false ]) e ∙ passes_at is_top_entry 0 (codes "name") d ms top e
    by None e top missing =
        let count = length (entries_of ms) in
        absurd (none-some count (sym missing ∙ ap (λ (o : Option Data). cond (is_none o) (Some count) None) e))
