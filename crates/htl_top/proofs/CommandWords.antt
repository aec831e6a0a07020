-- Words of no command, and of as many words as a command has.
use Rattle.std.proofs.Common.{arith, ◌≡◌, ◌<◌, ◌≤◌, ℕ, List, [], ◌∷◌, length, get_or, Option, None, refl}
use Rattle.htl_top.proofs.Vocabulary.{Bor, Command, command_in, command_of, of_two, of_three, of_four}

-- more than the longest command has
pub many_words : (words : List (Bor (List ℕ))) → 4 < length words → command_in words ≡ None
many_words (a ∷ b ∷ c ∷ d ∷ e ∷ others) more = refl
many_words _ more = absurd (omega (arith, more))

module _ (x : Bor (List ℕ)) (asked : Option Command) where
  pub one_word : (words : List (Bor (List ℕ))) → 1 ≤ length words → length words < 2 → command_of ((get_or words 0 x).now ∷ []) ≡ asked → command_in words ≡ asked
  one_word [] least below is = absurd (omega (arith, least))
  one_word (a ∷ []) least below is = is
  one_word (a ∷ b ∷ others) least below is = absurd (omega (arith, below))

  pub two_words : (words : List (Bor (List ℕ))) → 2 ≤ length words → length words < 3 → of_two (get_or words 0 x).now (get_or words 1 x).now ≡ asked → command_in words ≡ asked
  two_words (a ∷ b ∷ []) least below is = is
  two_words (a ∷ b ∷ c ∷ others) least below is = absurd (omega (arith, below))
  two_words _ least below is = absurd (omega (arith, least))

  pub three_words : (words : List (Bor (List ℕ))) → 3 ≤ length words → length words < 4 → of_three (get_or words 0 x).now (get_or words 1 x).now (get_or words 2 x).now ≡ asked
      → command_in words ≡ asked
  three_words (a ∷ b ∷ c ∷ []) least below is = is
  three_words (a ∷ b ∷ c ∷ d ∷ others) least below is = absurd (omega (arith, below))
  three_words _ least below is = absurd (omega (arith, least))

  pub four_words : (words : List (Bor (List ℕ))) → 4 ≤ length words → length words < 5
      → of_four (get_or words 0 x).now (get_or words 1 x).now (get_or words 2 x).now (get_or words 3 x).now ≡ asked → command_in words ≡ asked
  four_words (a ∷ b ∷ c ∷ d ∷ []) least below is = is
  four_words (a ∷ b ∷ c ∷ d ∷ e ∷ others) least below is = absurd (omega (arith, below))
  four_words _ least below is = absurd (omega (arith, least))
