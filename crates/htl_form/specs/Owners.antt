-- Whose concrete invocations write each communicator.
use Rattle.std.specs.Prelude.{◌≡◌, ◌<◌, ◌+◌, ℕ, Bool, true, false, not, eqb, List, get_or, slice_get, Some}
use Rattle.std.specs.List.{list_any}
use Rattle.htl_model.specs.{declared.parts.Inv.Inv, declared.parts.End.End, Tables.Tables, Tables.is_concrete, Tables.mode_module}
use Rattle.htl_model.specs.declared.parts.End.TheVariants as E
use Rattle.htl_form.specs.{Apart.is_comm, Apart.is_taken, declared.owners.Owner.Owner}
use Rattle.htl_form.specs.declared.owners.Owner.TheVariants as owner

-- whether a module is among those that the owner stands for
abbrev pub has_module : Owner → ℕ → Bool
has_module owner.Nobody u = false
has_module (owner.One v) u = eqb v u
has_module owner.Several u = true

-- whether another module than u is among them
abbrev pub has_other : Owner → ℕ → Bool
has_other owner.Nobody u = false
has_other (owner.One v) u = not (eqb v u)
has_other owner.Several u = true

-- the end is an instance of a communicator that another module than u writes
abbrev pub is_shared_end : List Owner → ℕ → End → Bool
is_shared_end owners u (E.Comm c n) = has_other (get_or owners c owner.Nobody) u
is_shared_end owners u (E.Port p) = false

-- no owner of a communicator is lost
abbrev pub KeepOwners : List Owner → List Owner → Type 0
KeepOwners old new = (c u : ℕ) → has_module (get_or old c owner.Nobody) u ≡ true → has_module (get_or new c owner.Nobody) u ≡ true

-- each concrete invocation below number n has its module among the owners of what it writes
abbrev pub AreOwners : Tables → ℕ → List Owner → Type 0
AreOwners t n owners =
    (l c : ℕ) (x : Inv) → l < n → c < 1024 → slice_get t.invs l ≡ Some x → is_concrete t x ≡ true → list_any (is_comm c) x.writes ≡ true
    → has_module (get_or owners c owner.Nobody) (mode_module t x.mode) ≡ true

-- among the marks are the communicators that concrete ones of the n invocations of mode m from `base` on write, and that are taken
abbrev pub AreNoted : Tables → ℕ → ℕ → ℕ → List Bool → Type 0
AreNoted t m base n taken =
    (q c : ℕ) (y : Inv) → q < n → c < 1024 → slice_get t.invs (base + q) ≡ Some y → is_concrete t y ≡ true → list_any (is_comm c) y.writes ≡ true
    → is_taken t m base c ≡ true → get_or taken c false ≡ true
