-- The table of symbols: its look-ups, and names that repeat.
use Rattle.std.proofs.Common.{◌≡◌, ℕ, cond, List, [], ◌∷◌, Some, refl, ap, ◌<◌, ◌≤◌, suc, take, map, slice_get, None, sym, ◌∙◌, arith, inl, inr}
use Rattle.htl_names.proofs.Words.{Key, same_key, look_up, pair_of, none-some, Entry, Repeats, AreApartTo, lookup, eq-or-lt_of_le, from_take, into_take}
use Rattle.htl_names.proofs.EntryLaws.{found, some}
use Rattle.htl_names.specs.contracts.key.KeyPartialEq.TheImpl as key_impl

pub lookup_is : (k : Key) (es : List (Key × ℕ)) → lookup ((key_impl.eq-value).it k) es ≡ look_up k es
lookup_is k [] = refl
lookup_is k (e ∷ es) = ap (λ o. cond (same_key k e.0) (Some e.1) o) (lookup_is k es)

-- ---- in the words of the definition

pub repeats_here : (es : List Entry) (k : ℕ) (e : Entry) (seen : List (Key × ℕ)) (n : ℕ) → seen ≡ map pair_of (take k es) → Some n ≡ look_up e.key seen → Repeats es k e
repeats_here es k e seen n are is =
    let f = found e.key (take k es) n (ap (look_up e.key) (sym are) ∙ sym is) in
    let place = from_take es k f.1.0 f.0 f.1.1 in
    (f.1.0, f.0, place.0, place.1, f.2)

pub apart_here : (es : List Entry) (k : ℕ) (e : Entry) (seen : List (Key × ℕ)) → seen ≡ map pair_of (take k es) → look_up e.key seen ≡ None
    → slice_get es k ≡ Some e → AreApartTo k es → AreApartTo (suc k) es
apart_here es k e seen are is here apart j d below there repeats = place j d (omega (arith, below)) there repeats
  where
    at_last : (j : ℕ) (d : Entry) → j ≡ k → slice_get es j ≡ Some d → Repeats es j d → ⊥
    at_last j d same there repeats =
        let there_too : slice_get es k ≡ Some d = ap (slice_get es) (sym same) ∙ there in
        let same_entry : e ≡ d = cc in
        let before = repeats.2 in
        let keys : repeats.1.key ≡ e.key = repeats.4 ∙ ap (λ (x : Entry). x.key) (sym same_entry) in
        let there_is = some (take k es) repeats.0 repeats.1 (into_take es k repeats.0 repeats.1 (omega (arith, before, same)) repeats.3) in
        none-some {A = ℕ} there_is.0 (sym is ∙ ap (look_up e.key) are ∙ ap (λ (key : Key). look_up key (map pair_of (take k es))) (sym keys) ∙ there_is.1)

    place : (j : ℕ) (d : Entry) → j < suc k → slice_get es j ≡ Some d → Repeats es j d → ⊥
    place j d below there repeats =
        let within : j ≤ k = omega (arith, below) in
        elim (eq-or-lt_of_le within) [ inl same ↦ at_last j d same there repeats | inr less ↦ apart j d less there repeats ]
