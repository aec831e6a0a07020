-- The writers of ports, from an invocation on, and a list that holds a function's value at each place.
use Rattle.std.proofs.Common.{◌≡◌, ℕ, ◌<◌, List, length, get_or, slice_get, Option, Some, None, sym, ◌∙◌, subst}
use Rattle.htl_emach.proofs.Words.{same_lists, get_or_default, Port, Inv, list_to, writer_from, length-list_to, get_list_to}

-- the writer of a port in its mode, from invocation k on
abbrev pub writer_on : List Port → ℕ → ℕ → List Inv → Option (ℕ × ℕ)
writer_on ports p k invs = elim (slice_get ports p) [ Some x ↦ writer_from x.mode p k invs | None ↦ None ]

pub as_listed : {A : Type 0} (f : ℕ → A) (n : ℕ) (d : A) (xs : List A) → length xs ≡ n → ((k : ℕ) → k < n → get_or xs k d ≡ f k) → xs ≡ list_to f n
as_listed {A} f n d xs len at =
    same_lists xs (list_to f n) (len ∙ sym (length-list_to f n)) (λ k e less.
    let within : k < n = subst (λ m. k < m) len less in
    get_or_default xs k e d less ∙ at k within ∙ sym (get_list_to f n k e within))
