-- Reading from left to right: what stands at the front of bytes, or the first bad field.
use Rattle.std.specs.Prelude.{◌≡◌, ◌<◌, ℕ, get_or, zero, suc, Bool, cond, List, [], ◌∷◌, ◌++◌, length, take, drop, Result, Ok, Err, nat_lt, nat_le, ◌==◌}
use Rattle.std.specs.Int.{Width, w16, byte_len, from_be_bytes}
use Rattle.htl_object.specs.{declared.malformed.MalKind.MalKind, declared.malformed.MalKind.TheVariants.Short, declared.malformed.MalKind.TheVariants.Index, declared.malformed.MalKind.TheVariants.Tag, declared.malformed.Bad.Bad}
use Rattle.htl_object.specs.declared.malformed.Stop.{Stop}
use Rattle.htl_object.specs.declared.malformed.Stop.TheVariants as stop

-- each number is a byte
abbrev pub IsBytes : List ℕ → Type 0
IsBytes bytes = (i : ℕ) → get_or bytes i 0 < 256

-- a value and the bytes behind it, or the first bad field
abbrev pub Read : Type 0 → Type 0
Read X = Result (X × List ℕ) Bad

-- first the one, then from what is left the other
infixl 10 ◌>>=◌
abbrev pub ◌>>=◌ : {A B : Type 0} → Read A → (A → List ℕ → Read B) → Read B
(Ok x) >>= f = f x.0 x.1
(Err e) >>= f = Err e

-- the field that begins these bytes is bad
abbrev pub bad_at : MalKind → List ℕ → Bad
bad_at kind bytes = record { kind = kind; left = length bytes }

-- the input ends inside a field
abbrev pub short : Bad
short = record { kind = Short; left = 0 }

-- go on only where the test holds
abbrev pub need : {X : Type 0} → Bool → Bad → Read X → Read X
need test bad next = cond test next (Err bad)

-- a field whose value passes a test
abbrev pub field_at : {X : Type 0} → MalKind → (X → Bool) → (List ℕ → Read X) → List ℕ → Read X
field_at kind test read bytes = read bytes >>= λ x rest. need (test x) (bad_at kind bytes) (Ok (x, rest))

-- n items, each read by what stands before it
abbrev pub items_at : {X : Type 0} → (List X → List ℕ → Read X) → ℕ → List X → List ℕ → Read (List X)
items_at read zero before bytes = Ok (before, bytes)
items_at read (suc n) before bytes = read before bytes >>= λ x rest. items_at read n (before ++ x ∷ []) rest

abbrev pub byte_at : List ℕ → Read ℕ
byte_at [] = Err short
byte_at (b ∷ rest) = Ok (b, rest)

abbrev pub number_at : Width → List ℕ → Read ℕ
number_at w bytes = cond (nat_lt (length bytes) (byte_len w)) (Err short) (Ok (from_be_bytes w (take (byte_len w) bytes), drop (byte_len w) bytes))

-- ---- alternatives by a tag

-- the reader with this tag; each tag of the table is a number
abbrev pub choose : {X : Type 0} → List (ℕ × (List ℕ → Read X)) → ℕ → Bad → List ℕ → Read X
choose [] tag bad bytes = Err bad
choose (entry ∷ more) tag bad bytes = cond (tag == entry.0) (entry.1 bytes) (choose more tag bad bytes)

-- a byte of the table, and what it says
abbrev pub tagged_at : {X : Type 0} → List (ℕ × (List ℕ → Read X)) → List ℕ → Read X
tagged_at table bytes = byte_at bytes >>= λ tag rest. choose table tag (bad_at Tag bytes) rest

-- alternatives with no operand, with one, and with two
abbrev pub plain_at : {X : Type 0} → X → List ℕ → Read X
plain_at x bytes = Ok (x, bytes)

abbrev pub one_at : {A X : Type 0} → (List ℕ → Read A) → (A → X) → List ℕ → Read X
one_at first make bytes = first bytes >>= λ a rest. Ok (make a, rest)

abbrev pub two_at : {A B X : Type 0} → (List ℕ → Read A) → (List ℕ → Read B) → (A → B → X) → List ℕ → Read X
two_at first second make bytes = first bytes >>= λ a rest. second rest >>= λ b rest. Ok (make a b, rest)

abbrev pub three_at : {A B C X : Type 0} → (List ℕ → Read A) → (List ℕ → Read B) → (List ℕ → Read C) → (A → B → C → X) → List ℕ → Read X
three_at first second third make bytes = first bytes >>= λ a rest. second rest >>= λ b rest. third rest >>= λ c rest. Ok (make a b c, rest)

-- a count up to a limit
abbrev pub limited_count : ℕ → List ℕ → Read ℕ
limited_count limit = field_at Index (λ n. nat_le n limit) (number_at w16)

-- such a count, and that many items
abbrev pub list_at : {X : Type 0} → ℕ → (List X → List ℕ → Read X) → List ℕ → Read (List X)
list_at limit read bytes = limited_count limit bytes >>= λ n rest. items_at read n [] rest

-- ---- what a function of the code answers

abbrev pub Fails : {Y : Type 0} → Stop → Read Y → Type 0
Fails stop.Memory read = Unit {0}
Fails (stop.Bad bad) read = read ≡ Err bad

-- A function returned what reading gives, seen by view, and left what it leaves, unless memory ran out.
abbrev pub Gives : {X Y : Type 0} → (X → Y) → Read Y → List ℕ → Result X Stop → Type 0
Gives view read new (Ok x) = read ≡ Ok (view x, new)
Gives view read new (Err e) = Fails e read
